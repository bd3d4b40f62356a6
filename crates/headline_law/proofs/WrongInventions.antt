-- Journals in which something is invented: none of them has the sentence on what is fetched and
-- uploaded. Beside each datagram its parts are shown: type, code, Message ID, token, options,
-- payload.
use Rattle.std.proofs.Common.{◌≡◌, inl, inr, ℕ, true, false, List, [], ◌∷◌, ◌++◌, length}
use Rattle.std.proofs.Common.{Option, Some, None, Ok, codes, refl, sym, ap, subst, ◌∙◌, arith}
use Rattle.message_model.specs.RequestKey.{key_in}
use Rattle.std.proofs.lemmas.Bool.{false≢true}
use Rattle.std.proofs.lemmas.Option.{same_Some}
use Rattle.rd_base.specs.declared.parameters.RegParams.{RegParams}
use Rattle.rd_base.specs.declared.peers.Peer.{Peer}
use Rattle.message_model.specs.declared.blocks.Block.{Block}
use Rattle.message_model.specs.Responses.{block_in, is_elsewhere}
use Rattle.event_model.specs.Fetches.{collected}
use Rattle.message_model.specs.declared.messages.Kind4.TheVariants.{Con, Non}
use Rattle.message_model.specs.declared.requests.Path.TheVariants as path
use Rattle.message_model.specs.Codes as codes_of
use Rattle.message_model.specs.Message.{Message}
use Rattle.message_model.specs.OptionTable as table
use Rattle.message_model.specs.Reading.{reading}
use Rattle.message_model.specs.Request.{path_in, queries_in}
use Rattle.message_model.specs.Spelling.{spelling}
use Rattle.message_model.proofs.OnLiterals.{messages_on_literals}
use Rattle.record_model.specs.Parameters.{registration_values}
use Rattle.event_model.specs.declared.notes.Note.TheVariants as note
use Rattle.event_model.proofs.ManyObservers.{peer}
use Rattle.journal_model.specs.declared.steps.StepKind.TheVariants as step
use Rattle.journal_model.specs.declared.rows.Row.{Row}
use Rattle.journal_model.specs.Journal.{events}
use Rattle.journal_model.specs.Requests.{sent_block}
use Rattle.journal_model.specs.AskedChanges.{IsCollected}
use Rattle.journal_model.proofs.OnLiterals.{machine_on_literals}
use Rattle.journal_model.proofs.sends.BodyAnswers.{same_message}
use Rattle.headline_law.specs.NothingInvented.{
  StartsFor,
  SendsRequest,
  CameInWrite,
  CameInResponse,
  NothingInvented,
}
use Rattle.headline_law.proofs.entries.FailedLaws.{within_cases, nothing_within}
use Rattle.headline_law.proofs.WrongRows.{row_of}

-- ---- a tick begins a fetch that nobody asked for

abbrev thought_up : RegParams → Row
thought_up params = row_of step.Tick [] false [] (note.Asked (peer 1) (1 ∷ []) 7 params 0 ∷ [])

-- An end theorem: nothing here cites it.
pub thought_up_falls : (params : RegParams) (later before : List Row)
    → NothingInvented (later ++ thought_up params ∷ before) → ⊥
thought_up_falls params later before h =
    let it : StartsFor before (thought_up params) (peer 1) (1 ∷ []) params =
    h.starts before (thought_up params) (peer 1) (1 ∷ []) 7 params
    (record { later = later; whole = refl }) (0, (omega arith, refl)) in
    absurd (let no : step.Tick ≡ step.Commit (length it.admission.before) = it.commits in cc)

-- ---- a tick notes a block of an upload that nobody sent

abbrev piecing : List ℕ → List ℕ → Row
piecing key octets = row_of step.Tick [] false [] (note.Piece (peer 1) key 0 octets ∷ [])

-- An end theorem: nothing here cites it.
pub piecing_falls : (key octets : List ℕ) (later before : List Row)
    → NothingInvented (later ++ piecing key octets ∷ before) → ⊥
piecing_falls key octets later before h =
    let it : CameInWrite before (piecing key octets) (peer 1) key 0 octets =
    h.uploaded before (piecing key octets) (peer 1) key 0 octets
    (record { later = later; whole = refl }) (0, (omega arith, refl)) in
    absurd (let no : step.Tick ≡ step.Commit it.place = it.commits in cc)

-- ---- a tick notes a block of a fetch that never came

abbrev gathering : List ℕ → Option (List ℕ) → Row
gathering octets tag = row_of step.Tick [] false [] (note.Gathered (peer 1) octets tag ∷ [])

-- An end theorem: nothing here cites it.
pub gathering_falls : (octets : List ℕ) (tag : Option (List ℕ)) (later before : List Row)
    → NothingInvented (later ++ gathering octets tag ∷ before) → ⊥
gathering_falls octets tag later before h =
    let it : CameInResponse before (gathering octets tag).step (peer 1) octets tag =
    h.gathered before (gathering octets tag) (peer 1) octets tag
    (record { later = later; whole = refl }) (0, (omega arith, refl)) in
    absurd (let no : step.Tick ≡ step.Admit = it.answers.kind in cc)

-- ---- a block is noted with other octets than came

-- CON 0.02 m=0010 t=01 [11 rd][15 ep=n][27 0/1/16] </aaaaaaaaaaaaa>
abbrev first_block : Message
first_block = record {
  kind = Con;
  code = codes_of.post;
  mid = 16;
  token = 1 ∷ [];
  options = (table.uri_path, codes "rd") ∷ (table.uri_query, codes "ep=n") ∷ (table.block1, 8 ∷ [])
      ∷ [];
  payload = codes "</aaaaaaaaaaaaa>";
}

abbrev other_octets : List ℕ → Row
other_octets key =
    row_of (step.Commit 0) (spelling first_block) false []
    (note.Piece (peer 1) key 0 (codes "</evil;aaaaaaaaa") ∷ [])

-- An end theorem: nothing here cites it.
pub other_octets_fall : (key : List ℕ) (later before : List Row)
    → NothingInvented (later ++ other_octets key ∷ before) → ⊥
unfolding messages_on_literals
other_octets_fall key later before h =
    let it : CameInWrite before (other_octets key) (peer 1) key 0 (codes "</evil;aaaaaaaaa") =
    h.uploaded before (other_octets key) (peer 1) key 0 (codes "</evil;aaaaaaaaa")
    (record { later = later; whole = refl }) (0, (omega arith, refl)) in
    let same : it.admitted.message ≡ first_block =
    same_message it.admitted.message first_block (spelling first_block)
    (ap reading (sym it.admitted.datagram) ∙ it.admitted.read) refl in
    let octets : codes "</evil;aaaaaaaaa" ≡ codes "</aaaaaaaaaaaaa>" =
    it.octets_are ∙ ap (λ (m : Message). m.payload) same in
    different (ap third octets)
  where
    third : List ℕ → ℕ
    third (a ∷ b ∷ c ∷ others) = c
    third _ = 0

    different : ◌≡◌ {A = ℕ} 101 97 → ⊥
    different no_way = absurd (omega (arith, no_way))

-- ---- a registration of links that came with it begins a fetch

-- CON 0.02 m=0010 t=01 [11 rd][15 ep=n] </a>
abbrev registering : Message
registering = record {
  kind = Con;
  code = codes_of.post;
  mid = 16;
  token = 1 ∷ [];
  options = (table.uri_path, codes "rd") ∷ (table.uri_query, codes "ep=n") ∷ [];
  payload = codes "</a>";
}

abbrev admission : Message → Row
admission m = row_of step.Admit (spelling m) false [] (note.Admitted (peer 1) 16 ∷ [])

abbrev fetch_begun : Message → RegParams → Row
fetch_begun m params =
    row_of (step.Commit 0) (spelling m) false []
    (note.Asked (peer 1) (1 ∷ []) 7 params 0 ∷ [])

-- what a fetch is begun for is the one write that was admitted
begun_for : (m : Message) (params : RegParams)
    → reading (spelling m) ≡ Ok m
    → (it : StartsFor (admission m ∷ []) (fetch_begun m params) (peer 1) (1 ∷ []) params)
    → it.shows.message ≡ m
begun_for m params read it =
    elim (within_cases (admission m) [] it.admission.before it.admission.row it.within) [
      | inl same ↦ same_message it.shows.message m (spelling m)
          (ap (λ (r : Row). reading r.step.datagram) same.0 ∙ it.shows.read) read
      | inr further ↦ absurd (nothing_within it.admission.before it.admission.row further)
    ]

-- An end theorem: nothing here cites it.
pub fetch_for_links_falls : (params : RegParams)
    → NothingInvented (fetch_begun registering params ∷ admission registering ∷ []) → ⊥
unfolding messages_on_literals
fetch_for_links_falls params h =
    let it : StartsFor (admission registering ∷ []) (fetch_begun registering params) (peer 1)
    (1 ∷ []) params =
    h.starts (admission registering ∷ []) (fetch_begun registering params) (peer 1) (1 ∷ []) 7
    params (record { later = []; whole = refl }) (0, (omega arith, refl)) in
    absurd (let no : path.Rd ≡ path.SimpleRd =
    ap (λ (m : Message). path_in m) (sym (begun_for registering params refl it)) ∙ it.shows.simple
    in cc)

-- ---- a fetch is begun with other parameters than the simple registration names

-- CON 0.02 m=0010 t=01 [11 .well-known][11 rd][15 ep=n][252 0000000000000000]
abbrev simple : Message
simple = record {
  kind = Con;
  code = codes_of.post;
  mid = 16;
  token = 1 ∷ [];
  options =
      (table.uri_path, codes ".well-known")
      ∷ (table.uri_path, codes "rd")
      ∷ (table.uri_query, codes "ep=n")
      ∷ (table.echo, 0 ∷ 0 ∷ 0 ∷ 0 ∷ 0 ∷ 0 ∷ 0 ∷ 0 ∷ [])
      ∷ [];
  payload = [];
}

-- An end theorem: nothing here cites it.
pub other_parameters_fall : (params : RegParams)
    → (params ≡ registration_values (queries_in simple) → ⊥)
    → NothingInvented (fetch_begun simple params ∷ admission simple ∷ []) → ⊥
unfolding messages_on_literals
other_parameters_fall params other h =
    let it : StartsFor (admission simple ∷ []) (fetch_begun simple params) (peer 1) (1 ∷ [])
    params =
    h.starts (admission simple ∷ []) (fetch_begun simple params) (peer 1) (1 ∷ []) 7 params
    (record { later = []; whole = refl }) (0, (omega arith, refl)) in
    other (it.params_are
    ∙ ap (λ (m : Message). registration_values (queries_in m)) (begun_for simple params refl it))

-- ---- a fetch has a token of one octet, as a peer may have seen it before

-- An end theorem: nothing here cites it.
pub other_token_falls : (m : Message) (params : RegParams)
    → NothingInvented (fetch_begun m params ∷ admission m ∷ []) → ⊥
unfolding machine_on_literals
other_token_falls m params h =
    let it : StartsFor (admission m ∷ []) (fetch_begun m params) (peer 1) (1 ∷ []) params =
    h.starts (admission m ∷ []) (fetch_begun m params) (peer 1) (1 ∷ []) 7 params
    (record { later = []; whole = refl }) (0, (omega arith, refl)) in
    let none : ◌≡◌ {A = List ℕ} (0 ∷ 0 ∷ 0 ∷ 0 ∷ 0 ∷ 0 ∷ 1 ∷ []) [] =
    ap drop_first (sym it.token_is) in
    absurd cc
  where
    drop_first : List ℕ → List ℕ
    drop_first [] = []
    drop_first (c ∷ others) = others

-- ---- a fetch is begun with a peer while another one with it runs

-- An end theorem: nothing here cites it.
pub second_fetch_falls : (m : Message) (params other : RegParams)
    → NothingInvented (fetch_begun m params ∷ fetch_begun m other ∷ admission m ∷ []) → ⊥
unfolding machine_on_literals
second_fetch_falls m params other h =
    let it : StartsFor (fetch_begun m other ∷ admission m ∷ []) (fetch_begun m params) (peer 1)
    (1 ∷ []) params =
    h.starts (fetch_begun m other ∷ admission m ∷ []) (fetch_begun m params) (peer 1) (1 ∷ []) 7
    params (record { later = []; whole = refl }) (0, (omega arith, refl)) in
    let runs : true ≡ false = it.none_runs in
    absurd (false≢true (sym runs))

-- ---- a fetch is begun, and no request of it is sent

-- An end theorem: nothing here cites it.
pub unsent_request_falls : (m : Message) (params : RegParams) (later before : List Row)
    → NothingInvented (later ++ fetch_begun m params ∷ before) → ⊥
unsent_request_falls m params later before h =
    let it : SendsRequest (fetch_begun m params) (peer 1) (1 ∷ []) 7 0 =
    h.sends before (fetch_begun m params) (peer 1) (1 ∷ []) 7 params 0
    (record { later = later; whole = refl }) (0, (omega arith, refl)) in
    let none = it.among.1.0 in absurd (omega (arith, none))

-- ---- a block after the first is asked for, and none was gathered

abbrev skipping : List ℕ → List (Peer × List ℕ) → RegParams → Row
skipping datagram sent params =
    row_of step.Admit datagram false sent (note.Asked (peer 1) (1 ∷ []) 7 params 1 ∷ [])

-- An end theorem: nothing here cites it.
pub skipping_falls : (datagram : List ℕ) (sent : List (Peer × List ℕ)) (params : RegParams)
    (later before : List Row)
    → NothingInvented (later ++ skipping datagram sent params ∷ before) → ⊥
skipping_falls datagram sent params later before h =
    let some : false ≡ true =
    h.gathers before (skipping datagram sent params) (peer 1) (1 ∷ []) 7 params 1
    (record { later = later; whole = refl }) (0, (omega arith, refl)) (omega arith) in
    absurd (false≢true some)

-- ---- a block of a fetch that came twice is gathered twice

-- NON 2.05 m=0063 t=01 [23 0/1/16] </aaaaaaaaaaaaa>
abbrev block_of_fetch : Message
block_of_fetch = record {
  kind = Non;
  code = codes_of.content;
  mid = 99;
  token = 1 ∷ [];
  options = (table.block2, 8 ∷ []) ∷ [];
  payload = codes "</aaaaaaaaaaaaa>";
}

abbrev gathers_it : Row
gathers_it =
    row_of step.Admit (spelling block_of_fetch) false []
    (note.Gathered (peer 1) (codes "</aaaaaaaaaaaaa>") None ∷ [])

-- An end theorem: nothing here cites it.
pub gathered_twice_falls : (m : Message) (params : RegParams)
    → NothingInvented (gathers_it ∷ gathers_it ∷ fetch_begun m params ∷ []) → ⊥
unfolding machine_on_literals
gathered_twice_falls m params h =
    by it.answers.message
    (same_message it.answers.message block_of_fetch (spelling block_of_fetch) it.answers.read refl)
    it.joins
  where
    before : List Row
    before = gathers_it ∷ fetch_begun m params ∷ []

    it : CameInResponse (gathers_it ∷ fetch_begun m params ∷ []) gathers_it.step (peer 1)
        (codes "</aaaaaaaaaaaaa>") None
    it = h.gathered (gathers_it ∷ fetch_begun m params ∷ []) gathers_it (peer 1)
        (codes "</aaaaaaaaaaaaa>") None (record { later = []; whole = refl })
        (0, (omega arith, refl))

    by : (n : Message)
        → n ≡ block_of_fetch
        → is_elsewhere (block_in n)
        (length (collected (peer 1) (events (gathers_it ∷ fetch_begun m params ∷ []))))
        ≡ false
        → ⊥
    by n is joins =
        let no : true ≡ false =
        ap (λ (x : Message).
        is_elsewhere (block_in x)
        (length (collected (peer 1) (events (gathers_it ∷ fetch_begun m params ∷ []))))) (sym is)
        ∙ joins in
        false≢true (sym no)

-- ---- a second block of an upload is noted, and no first one came

-- CON 0.02 m=0010 t=01 [11 rd][15 ep=n][27 1/1/16] </aaaaaaaaaaaaa>
abbrev second_block : Message
second_block = record {
  kind = Con;
  code = codes_of.post;
  mid = 16;
  token = 1 ∷ [];
  options =
      (table.uri_path, codes "rd") ∷ (table.uri_query, codes "ep=n") ∷ (table.block1, 24 ∷ []) ∷ [];
  payload = codes "</aaaaaaaaaaaaa>";
}

abbrev second_noted : Row
second_noted =
    row_of (step.Commit 0) (spelling second_block) false []
    (note.Piece (peer 1) (key_in second_block) 1 (codes "</aaaaaaaaaaaaa>") ∷ [])

-- An end theorem: nothing here cites it.
pub second_block_falls : NothingInvented (second_noted ∷ admission second_block ∷ []) → ⊥
unfolding machine_on_literals
second_block_falls h =
    by it.admitted.message it.block
    (same_message it.admitted.message second_block (spelling second_block)
    (ap reading (sym it.admitted.datagram) ∙ it.admitted.read) refl) it.block_is it.joins
  where
    it : CameInWrite (admission second_block ∷ []) second_noted (peer 1) (key_in second_block) 1
        (codes "</aaaaaaaaaaaaa>")
    it = h.uploaded (admission second_block ∷ []) second_noted (peer 1) (key_in second_block) 1
        (codes "</aaaaaaaaaaaaa>") (record { later = []; whole = refl }) (0, (omega arith, refl))

    by : (m : Message) (b : Block)
        → m ≡ second_block
        → sent_block m ≡ Some b
        → IsCollected (Some b) (admission second_block ∷ []) 0 second_noted.step m it.collected
        → ⊥
    by m b is block joins =
        let named : record { num = 1; more = true; szx = 0 } ≡ b =
        same_Some (record { num = 1; more = true; szx = 0 }) b
        (ap (λ (x : Message). sent_block x) (sym is) ∙ block) in
        let no : None ≡ Some it.collected =
        subst (λ (c : Block). IsCollected (Some c) (admission second_block ∷ []) 0 second_noted.step
        second_block it.collected) (sym named)
        (subst (λ (x : Message). IsCollected (Some b) (admission second_block ∷ []) 0
        second_noted.step x it.collected) is joins) in
        absurd cc
