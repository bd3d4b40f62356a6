-- Journals in which a request is sent to a peer that answered no challenge: none of them has the
-- sentence on Echo. Beside each datagram its parts are shown: type, code, Message ID, token,
-- options.
use Rattle.std.proofs.Common.{◌≡◌, ◌⊎◌, inl, inr, ℕ, true, false, List, [], ◌∷◌, ◌++◌}
use Rattle.std.proofs.Common.{Some, None, codes, refl, sym, ap, subst, ◌∙◌, arith}
use Rattle.std.proofs.lemmas.Bool.{false≢true}
use Rattle.std.proofs.lemmas.Option.{same_Some}
use Rattle.rd_base.specs.declared.peers.Peer.{Peer}
use Rattle.message_model.specs.declared.messages.Kind4.TheVariants.{Con}
use Rattle.message_model.specs.Codes as codes_of
use Rattle.message_model.specs.Message.{Message, Opt}
use Rattle.message_model.specs.FetchRequests.{fetch_request}
use Rattle.message_model.specs.OptionTable as table
use Rattle.message_model.specs.Reading.{reading}
use Rattle.message_model.specs.Request.{echo_in}
use Rattle.message_model.specs.Spelling.{
  header_spelling,
  option_spelling,
  options_spelling,
  spelling,
}
use Rattle.message_model.proofs.OnLiterals.{messages_on_literals}
use Rattle.event_model.specs.declared.notes.Note.TheVariants as note
use Rattle.event_model.specs.Challenges.{is_good}
use Rattle.event_model.proofs.ManyObservers.{peer}
use Rattle.journal_model.specs.declared.steps.StepKind.TheVariants as step
use Rattle.journal_model.specs.declared.rows.Row.{Row}
use Rattle.journal_model.specs.Journal.{events}
use Rattle.journal_model.specs.PlacedRows.{Within}
use Rattle.journal_model.specs.CarriedBlocks.{Sent}
use Rattle.journal_model.proofs.OnLiterals.{machine_on_literals}
use Rattle.journal_model.proofs.sends.BodyAnswers.{same_message}
use Rattle.headline_law.specs.AnsweredChallenges.{ShownBefore}
use Rattle.headline_law.specs.EchoedFirst.{IsFetchRequest, IsChallenge, EchoedFirst}
use Rattle.headline_law.proofs.entries.FailedLaws.{within_cases, nothing_within}
use Rattle.headline_law.proofs.WrongRows.{row_of}

-- CON 0.01 m=0007 t=01 [11 .well-known][11 core]
abbrev asked : Message
asked = fetch_request 7 (1 ∷ []) None

-- a tick sends such a request to a peer
abbrev asking : Peer → Row
asking to = row_of step.Tick [] false ((to, spelling asked) ∷ []) []

-- the request that it sends
sent_by_it : (to : Peer) (before : List Row) → Sent (asking to ∷ before)
unfolding messages_on_literals
sent_by_it to before = record {
  here = record { row = asking to; before = before };
  within = record { later = []; whole = refl };
  peer = to;
  octets = spelling asked;
  among = (0, (omega arith, refl));
  message = asked;
  read = refl;
}

-- what the sentence says of its peer
shown_to : (to : Peer) (before : List Row)
    → EchoedFirst (asking to ∷ before)
    → ShownBefore before to
unfolding sent_by_it
shown_to to before h = h.shown (sent_by_it to before) refl

-- ---- a GET is sent to a peer that never registered

-- An end theorem: nothing here cites it.
pub stranger_falls : (to : Peer) → EchoedFirst (asking to ∷ []) → ⊥
stranger_falls to h =
    let it : ShownBefore [] to = shown_to to [] h in
    nothing_within it.shown.before it.shown.row it.within

-- ---- simple registrations

-- CON 0.02 m=0010 t=01 [11 .well-known][11 rd][15 ep=n], and further options
abbrev simple : List Opt → Message
simple further = record {
  kind = Con;
  code = codes_of.post;
  mid = 16;
  token = 1 ∷ [];
  options =
      (table.uri_path, codes ".well-known")
      ∷ (table.uri_path, codes "rd")
      ∷ (table.uri_query, codes "ep=n")
      ∷ further;
  payload = [];
}

-- a simple registration of peer 1 is admitted
abbrev admission : Message → Row
admission m = row_of step.Admit (spelling m) false [] (note.Admitted (peer 1) 16 ∷ [])

-- ---- a GET is sent to a peer whose simple registration had no Echo

-- An end theorem: nothing here cites it.
pub no_echo_falls : EchoedFirst (asking (peer 1) ∷ admission (simple []) ∷ []) → ⊥
unfolding messages_on_literals
no_echo_falls h =
    elim (within_cases (admission (simple [])) [] it.shown.before it.shown.row it.within) [
      | inl same ↦ no_value it.shows.message (same_message it.shows.message (simple [])
          (spelling (simple [])) (ap (λ (r : Row). reading r.step.datagram) same.0 ∙ it.shows.read)
          refl) it.shows.value it.shows.echo
      | inr further ↦ absurd (nothing_within it.shown.before it.shown.row further)
    ]
  where
    it : ShownBefore (admission (simple []) ∷ []) (peer 1)
    it = shown_to (peer 1) (admission (simple []) ∷ []) h

    no_value : (m : Message) → m ≡ simple [] → (value : List ℕ) → echo_in m ≡ Some value → ⊥
    no_value m is value e =
        let no : None ≡ Some value = ap (λ (x : Message). echo_in x) (sym is) ∙ e in absurd cc

-- ---- a GET is sent to another port of the address that answered

-- peer 1, at another port
abbrev other_port : Peer
other_port = record { host = (peer 1).host; port = 1_000 }

-- An end theorem: nothing here cites it.
pub other_port_falls : (m : Message) → EchoedFirst (asking other_port ∷ admission m ∷ []) → ⊥
other_port_falls m h =
    let it : ShownBefore (admission m ∷ []) other_port =
    shown_to other_port (admission m ∷ []) h in
    elim (within_cases (admission m) [] it.shown.before it.shown.row it.within) [
      | inl same ↦ different (ap (λ (p : Peer). p.port)
          (ap (λ (r : Row). r.step.peer) same.0 ∙ it.peer_is))
      | inr further ↦ absurd (nothing_within it.shown.before it.shown.row further)
    ]
  where
    different : ◌≡◌ {A = ℕ} 5_683 1_000 → ⊥
    different no_way = absurd (omega (arith, no_way))

-- ---- a GET is sent to a peer whose Echo has another value than its challenge

-- the value of the challenge, and another one
abbrev right : List ℕ
right = 0 ∷ 0 ∷ 0 ∷ 0 ∷ 0 ∷ 0 ∷ 0 ∷ 0 ∷ []

abbrev wrong : List ℕ
wrong = 0 ∷ 0 ∷ 0 ∷ 0 ∷ 0 ∷ 0 ∷ 0 ∷ 1 ∷ []

abbrev challenged : List (Peer × List ℕ) → Row
challenged sent =
    row_of step.Admit (spelling (simple [])) false sent (note.Challenged (peer 1) right ∷ [])

abbrev answered : Row
answered = admission (simple ((table.echo, wrong) ∷ []))

-- An end theorem: nothing here cites it.
pub wrong_echo_falls : (sent : List (Peer × List ℕ))
    → EchoedFirst (asking (peer 1) ∷ answered ∷ challenged sent ∷ []) → ⊥
unfolding machine_on_literals
wrong_echo_falls sent h =
    elim (within_cases answered (challenged sent ∷ []) it.shown.before it.shown.row it.within) [
      | inl same ↦ not_good it.shows.value
          (value_of it.shows.message (simple ((table.echo, wrong) ∷ [])) it.shows.value wrong
          (same_message it.shows.message (simple ((table.echo, wrong) ∷ []))
          (spelling (simple ((table.echo, wrong) ∷ [])))
          (ap (λ (r : Row). reading r.step.datagram) same.0 ∙ it.shows.read) refl) it.shows.echo
          refl)
          (subst (λ (rows : List Row).
          is_good it.shown.row.moment.0 it.shown.row.step.peer it.shows.value (events rows) ≡ true)
          (sym same.1) it.shows.good) (sym same.0)
      | inr further ↦ earlier (within_cases (challenged sent) [] it.shown.before it.shown.row
          further)
    ]
  where
    it : ShownBefore (answered ∷ challenged sent ∷ []) (peer 1)
    it = shown_to (peer 1) (answered ∷ challenged sent ∷ []) h

    value_of : (m n : Message) (value given : List ℕ)
        → m ≡ n
        → echo_in m ≡ Some value
        → echo_in n ≡ Some given
        → given ≡ value
    value_of m n value given is e f =
        same_Some given value (sym f ∙ (ap (λ (x : Message). echo_in x) (sym is) ∙ e))

    not_good : (value : List ℕ)
        → wrong ≡ value
        → is_good it.shown.row.moment.0 it.shown.row.step.peer value (events (challenged sent ∷ []))
        ≡ true
        → it.shown.row ≡ answered
        → ⊥
    not_good value is good here =
        let no : is_good 0 (peer 1) wrong (events (challenged sent ∷ [])) ≡ true =
        subst (λ (r : Row).
        is_good r.moment.0 r.step.peer wrong (events (challenged sent ∷ [])) ≡ true) here
        (subst (λ (v : List ℕ).
        is_good it.shown.row.moment.0 it.shown.row.step.peer v (events (challenged sent ∷ []))
        ≡ true) (sym is) good) in
        false≢true no

    earlier : ((challenged sent ≡ it.shown.row) × ([] ≡ it.shown.before))
        ⊎ Within [] it.shown.before it.shown.row
        → ⊥
    earlier (inl same) =
        let is : it.shows.message ≡ simple [] =
        same_message it.shows.message (simple []) (spelling (simple []))
        (ap (λ (r : Row). reading r.step.datagram) same.0 ∙ it.shows.read) refl in
        let no : None ≡ Some it.shows.value =
        ap (λ (x : Message). echo_in x) (sym is) ∙ it.shows.echo in
        absurd cc
    earlier (inr further) = absurd (nothing_within it.shown.before it.shown.row further)

-- ---- another method than GET is sent

-- CON 0.03 m=0007 t=01
abbrev put_request : Message
put_request = record {
  kind = Con;
  code = codes_of.put;
  mid = 7;
  token = 1 ∷ [];
  options = [];
  payload = [];
}

-- An end theorem: nothing here cites it.
pub other_method_falls : (to : Peer) (before : List Row)
    → EchoedFirst (row_of step.Tick [] false ((to, spelling put_request) ∷ []) [] ∷ before) → ⊥
unfolding messages_on_literals
other_method_falls to before h =
    let sent : Sent (row_of step.Tick [] false ((to, spelling put_request) ∷ []) [] ∷ before) =
    record {
      here = record {
        row = row_of step.Tick [] false ((to, spelling put_request) ∷ []) [];
        before = before;
      };
      within = record { later = []; whole = refl };
      peer = to;
      octets = spelling put_request;
      among = (0, (omega arith, refl));
      message = put_request;
      read = refl;
    } in
    let no : ◌≡◌ {A = ℕ} 3 1 = h.method sent refl in
    absurd (omega (arith, no))

-- ---- a challenge is noted, and not sent

-- An end theorem: nothing here cites it.
pub unsent_challenge_falls : EchoedFirst (challenged [] ∷ []) → ⊥
unsent_challenge_falls h =
    let it : IsChallenge [] (challenged []) (peer 1) right =
    h.challenged [] (challenged []) (peer 1) right (record { later = []; whole = refl })
    (0, (omega arith, refl)) in
    let none = it.sends.among.1.0 in absurd (omega (arith, none))

-- ---- a challenge has another value than the word and the count

-- An end theorem: nothing here cites it.
pub other_value_falls : (datagram : List ℕ) (sent : List (Peer × List ℕ))
    → EchoedFirst
    (row_of step.Admit datagram false sent (note.Challenged (peer 1) wrong ∷ []) ∷ [])
    → ⊥
unfolding machine_on_literals
other_value_falls datagram sent h =
    let it : IsChallenge [] (row_of step.Admit datagram false sent
    (note.Challenged (peer 1) wrong ∷ [])) (peer 1) wrong =
    h.challenged [] (row_of step.Admit datagram false sent
    (note.Challenged (peer 1) wrong ∷ [])) (peer 1) wrong (record { later = []; whole = refl })
    (0, (omega arith, refl)) in
    let is : wrong ≡ right = it.value_is in
    different (ap last is)
  where
    last : List ℕ → ℕ
    last (a ∷ b ∷ c ∷ d ∷ e ∷ f ∷ g ∷ i ∷ others) = i
    last _ = 0

    different : ◌≡◌ {A = ℕ} 1 0 → ⊥
    different no_way = absurd (omega (arith, no_way))

-- ---- another resource than the links of a device is asked for: CON 0.01 m=0007, the root

abbrev root_request : Message
root_request = record {
  kind = Con;
  code = codes_of.get;
  mid = 7;
  token = [];
  options = [];
  payload = [];
}

-- An end theorem: nothing here cites it.
pub other_resource_falls : (to : Peer) (before : List Row)
    → EchoedFirst (row_of step.Tick [] false ((to, spelling root_request) ∷ []) [] ∷ before) → ⊥
unfolding messages_on_literals spelling header_spelling options_spelling option_spelling
other_resource_falls to before h =
    let sent : Sent (row_of step.Tick [] false ((to, spelling root_request) ∷ []) [] ∷ before) =
    record {
      here = record {
        row = row_of step.Tick [] false ((to, spelling root_request) ∷ []) [];
        before = before;
      };
      within = record { later = []; whole = refl };
      peer = to;
      octets = spelling root_request;
      among = (0, (omega arith, refl));
      message = root_request;
      read = refl;
    } in
    let it : IsFetchRequest (spelling root_request) = h.fetches sent refl in
    no_end it.token _ _ (ap after_header it.octets_are)
  where
    after_header : List ℕ → List ℕ
    after_header (a ∷ b ∷ c ∷ d ∷ others) = others
    after_header _ = []

    no_end : (xs : List ℕ) (y : ℕ) (ys : List ℕ) → [] ≡ xs ++ y ∷ ys → ⊥
    no_end [] y ys is = absurd cc
    no_end (x ∷ xs) y ys is = absurd cc
