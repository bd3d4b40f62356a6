-- Each request of a fetch that a step notes is sent, and a further one is noted beside the block
-- that came.
use Rattle.std.proofs.Common.{
  ◌≡◌,
  ◌⊎◌,
  inl,
  inr,
  ℕ,
  ◌+◌,
  ◌<◌,
  Bool,
  true,
  false,
  List,
  [],
  ◌∷◌,
  ◌++◌,
  length,
  suc,
  nat_le,
  Option,
  Some,
  None,
  Result,
  Ok,
  Err,
  refl,
  sym,
  ap,
  subst,
  ◌∙◌,
  arith,
}
use Rattle.std.specs.List.{AllByRecursion, IsAmong, list_any}
use Rattle.std.proofs.lemmas.Bool.{and_parts, false≢true}
use Rattle.rd_base.specs.declared.peers.Peer.{Peer}
use Rattle.rd_base.specs.declared.parameters.RegParams.{RegParams}
use Rattle.rd_base.proofs.lemmas.Among.{Among, all_at_index}
use Rattle.rd_base.proofs.lemmas.Each.{each_append, each_weaker}
use Rattle.message_model.specs.declared.blocks.Block.{Block}
use Rattle.message_model.specs.declared.messages.Kind4.{Kind4}
use Rattle.message_model.specs.declared.messages.Kind4.TheVariants.{Con, Non, Ack, Rst}
use Rattle.message_model.specs.declared.messages.Role.{Role}
use Rattle.message_model.specs.declared.messages.Role.TheVariants as role
use Rattle.message_model.specs.declared.messages.Unread.{Unread}
use Rattle.message_model.specs.declared.requests.Path.{Path}
use Rattle.message_model.specs.declared.requests.Path.TheVariants as path
use Rattle.message_model.specs.Message.{Message, role_of}
use Rattle.message_model.specs.FetchRequests.{fetch_request}
use Rattle.message_model.specs.Reading.{reading}
use Rattle.message_model.specs.Request.{path_in}
use Rattle.message_model.specs.Responses.{block_in, is_elsewhere}
use Rattle.message_model.specs.Spelling.{spelling}
use Rattle.event_model.specs.declared.notes.Note.{Note}
use Rattle.event_model.specs.declared.notes.Note.TheVariants as note
use Rattle.event_model.specs.Fetches.{
  Request,
  max_fetches,
  fetches,
  is_fetching,
  gathered,
  collected,
}
use Rattle.event_model.proofs.SameLaws.{is_same_peer-refl}
use Rattle.journal_model.specs.declared.steps.Step.{Step}
use Rattle.journal_model.specs.declared.steps.StepKind.{StepKind}
use Rattle.journal_model.specs.declared.steps.StepKind.TheVariants as step
use Rattle.journal_model.specs.declared.rows.Row.{Row}
use Rattle.journal_model.specs.Journal.{events, entries}
use Rattle.journal_model.specs.Effects.{Effects, joined, answering}
use Rattle.journal_model.specs.Requests.{method_of, number_of}
use Rattle.journal_model.specs.Changes.{Outcome, registration}
use Rattle.journal_model.specs.Registrations.{registering}
use Rattle.journal_model.specs.Commits.{
  settling,
  simple_unless,
  location_outcome,
  write_done,
  commit_effects,
  fetch_room,
}
use Rattle.journal_model.specs.Responses.{
  fetch_of,
  strange,
  acknowledgement,
  more_follow,
  ends_fetch,
  completed,
  gathering,
  response_taken,
  response_to,
  response_to_request,
  response_effects,
  response_use,
}
use Rattle.journal_model.specs.Rows.{
  message_effects,
  heard,
  done,
  effects,
  row_moment,
  row,
  AreRows,
}
use Rattle.journal_model.specs.PlacedRows.{Within}
use Rattle.journal_model.proofs.NoteKinds.{
  of_lookup,
  of_write,
  of_empty,
  of_tick,
  are,
  are-append,
  are-weaker,
}
use Rattle.journal_model.proofs.StepNotes.{
  keep_effects-notes,
  lookup_effects-notes,
  read_effects-notes,
  write_effects-notes,
  tick_effects-notes,
}
use Rattle.journal_model.proofs.notes.BeginNotes.{beginning-notes}
use Rattle.journal_model.proofs.notes.ChangeNotes.{registering-notes, location-notes}
use Rattle.journal_model.proofs.notes.StepTable.{StepNoted, effects-StepNoted}
use Rattle.journal_model.proofs.notes.StepTable as noted
use Rattle.journal_model.proofs.entries.JournalLaws.{RowMade, each_made}
use Rattle.headline_law.specs.NothingInvented.{gathers_from, SendsRequest}
use Rattle.headline_law.proofs.origins.NoteOrigins.{is_silent, registration_silent}

-- ---- what a note of a request says of its step

-- the request is sent; and a further one is noted beside a block
record AsksSo (sent : List (Peer × List ℕ)) (notes : List Note) (peer : Peer) (token : List ℕ)
    (mid number : ℕ) : Type 0 where
  block : Option Block
  among : Among (peer, spelling (fetch_request mid token block)) sent
  number_is : number_of block ≡ number
  beside : (number ≡ 0) ⊎ (list_any (gathers_from peer) notes ≡ true)

-- of each note
abbrev AskFact : List (Peer × List ℕ) → List Note → Note → Type 0
AskFact sent notes (note.Asked peer token mid params number) =
    AsksSo sent notes peer token mid number
AskFact sent notes _ = Unit {0}

-- of all that a step does
abbrev AsksAll : Effects → Type 0
AsksAll e = AllByRecursion (AskFact e.sent e.notes) e.notes

-- the note makes no request
abbrev is_no_request : Note → Bool
is_no_request (note.Asked peer token mid params number) = false
is_no_request _ = true

never_asks : (sent : List (Peer × List ℕ)) (all notes : List Note)
    → are is_no_request notes ≡ true
    → AllByRecursion (AskFact sent all) notes
never_asks sent all [] h = tt
never_asks sent all (n ∷ notes) h =
    let both = and_parts (is_no_request n) (are is_no_request notes) h in
    (by n both.0, never_asks sent all notes both.1)
  where
    by : (x : Note) → is_no_request x ≡ true → AskFact sent all x
    by (note.Asked peer token mid params number) e = absurd (false≢true e)
    by _ e = tt

-- ---- commits

commit_asks : (rows : List Row) (moment place : ℕ) (s : Step) (m : Message)
    → AsksAll (commit_effects rows moment place s m)
unfolding commit_effects answering
commit_asks rows moment place s m = by (path_in m)
  where
    settles : (o : Outcome)
        → are is_no_request o.notes ≡ true
        → AsksAll (settling place s m o)
    settles o h =
        each_append (AskFact (settling place s m o).sent (settling place s m o).notes) o.notes _
        (never_asks (settling place s m o).sent (settling place s m o).notes o.notes h) (tt, tt)

    simple : (running too_many : Bool)
        → AsksAll (simple_unless (fetch_room running too_many) (events rows) place s m)
    simple true too_many = (tt, tt)
    simple false true = (tt, tt)
    simple false false = (
      tt,
      (
        record { block = None; among = inr (inl refl); number_is = refl; beside = inl refl },
        tt,
      ),
    )

    by : (p : Path) → AsksAll (write_done p rows moment place s m)
    by path.Core = tt
    by path.SimpleRd =
        simple (is_fetching s.peer (events rows))
        (nat_le max_fetches (length (fetches (events rows))))
    by path.Rd =
        settles (registering rows moment s m)
        (registering-notes is_no_request (λ entry. refl) (λ peer key number octets. refl)
        (λ peer key. refl) rows moment s m)
    by (path.Location number) =
        settles (location_outcome (method_of m.code) rows moment s m number)
        (location-notes is_no_request (λ entry. refl) (λ peer key number octets. refl)
        (λ peer key. refl) (method_of m.code) rows moment s m number)
    by path.Res = tt
    by path.Ep = tt
    by path.Other = tt

-- ---- responses

-- an acknowledgement before it changes nothing of that
after_acknowledgement : (s : Step) (m : Message) (k : Kind4) (e : Effects)
    → AsksAll e
    → AsksAll (joined (acknowledgement s m k) e)
after_acknowledgement s m Con e h =
    each_weaker (AskFact e.sent e.notes)
    (AskFact (joined (acknowledgement s m Con) e).sent e.notes) more e.notes h
  where
    more : (n : Note)
        → AskFact e.sent e.notes n
        → AskFact (joined (acknowledgement s m Con) e).sent e.notes n
    more (note.Asked peer token mid params number) it = record {
      block = it.block;
      among = inr it.among;
      number_is = it.number_is;
      beside = it.beside;
    }
    more _ it = tt
after_acknowledgement s m Non e h = h
after_acknowledgement s m Ack e h = h
after_acknowledgement s m Rst e h = h

response_asks : (rows : List Row) (moment : ℕ) (s : Step) (m : Message)
    → AsksAll (response_effects rows moment s m)
unfolding response_effects
response_asks rows moment s m = by (fetch_of s m (events rows))
  where
    foreign : (k : Kind4) → AsksAll (strange s m k)
    foreign Con = tt
    foreign Non = tt
    foreign Ack = tt
    foreign Rst = tt

    whole : (request : Request) (body : List ℕ)
        → AsksAll (completed rows moment s request body)
    whole request body =
        never_asks _ _ (completed rows moment s request body).notes
        (are-append is_no_request
        (registration (entries rows) moment s request.params body [] []).notes
        (note.Ceased s.peer ∷ [])
        (are-weaker is_silent is_no_request wider
        (registration (entries rows) moment s request.params body [] []).notes
        (registration_silent (entries rows) moment s request.params body [] [] refl)) refl)
      where
        wider : (n : Note) → is_silent n ≡ true → is_no_request n ≡ true
        wider (note.Asked peer token mid params number) e = absurd (false≢true e)
        wider _ e = refl

    gathers : (more : Bool) (b : Option Block) (request : Request)
        → AsksAll (gathering more b rows moment s m request)
    gathers more None request = whole request (collected s.peer (events rows) ++ m.payload)
    gathers false (Some b) request = whole request (collected s.peer (events rows) ++ m.payload)
    gathers true (Some b) request = (
      tt,
      (
        record {
          block = Some (record { num = b.num + 1; more = false; szx = b.szx });
          among = inl refl;
          number_is = refl;
          beside = inr (rw (is_same_peer-refl s.peer) refl);
        },
        tt,
      ),
    )

    taken : (elsewhere over : Bool) (request : Request)
        → AsksAll (response_taken (response_use elsewhere over) rows moment s m request)
    taken true over request = tt
    taken false true request = (tt, tt)
    taken false false request = gathers (more_follow (block_in m)) (block_in m) request

    by : (o : Option Request) → AsksAll (response_to_request o rows moment s m)
    by None = foreign m.kind
    by (Some request) =
        after_acknowledgement s m m.kind (response_to rows moment s m request)
        (taken (is_elsewhere (block_in m) (length (collected s.peer (events rows))))
        (ends_fetch m (gathered s.peer (events rows)) (length (collected s.peer (events rows))))
        request)

-- ---- any step

-- a response that is heard
heard_asks : (starved : Bool) (rows : List Row) (moment : ℕ) (s : Step) (m : Message)
    → reading s.datagram ≡ Ok m
    → role_of m.kind m.code ≡ role.Response
    → AsksAll (effects step.Admit starved rows moment s)
unfolding effects
heard_asks starved rows moment s m read responds =
    subst (λ (o : Result Message Unread). AsksAll (heard starved rows moment s o)) (sym read)
    (subst (λ (r : Role). AsksAll (message_effects r starved rows moment s m)) (sym responds)
    (by starved))
  where
    by : (b : Bool) → AsksAll (message_effects role.Response b rows moment s m)
    by true = tt
    by false = response_asks rows moment s m

-- a write that is done
done_asks : (starved : Bool) (rows : List Row) (moment place : ℕ) (s : Step)
    → AsksAll (effects (step.Commit place) starved rows moment s)
unfolding effects answering
done_asks starved rows moment place s = by starved (reading s.datagram)
  where
    by : (b : Bool) (read : Result Message Unread) → AsksAll (done b rows moment place s read)
    by b (Err fault) = tt
    by true (Ok m) = (tt, tt)
    by false (Ok m) = commit_asks rows moment place s m

effects_ask : (kind : StepKind) (starved : Bool) (rows : List Row) (moment : ℕ) (s : Step)
    → AsksAll (effects kind starved rows moment s)
effects_ask kind starved rows moment s =
    by (effects kind starved rows moment s).notes (effects-StepNoted kind starved rows moment s)
    refl
  where
    of_kind : (test : Note → Bool)
        → ((n : Note) → test n ≡ true → is_no_request n ≡ true)
        → are test (effects kind starved rows moment s).notes ≡ true
        → AsksAll (effects kind starved rows moment s)
    of_kind test wider h =
        never_asks _ _ (effects kind starved rows moment s).notes
        (are-weaker test is_no_request wider (effects kind starved rows moment s).notes h)

    as_is : (n : Note) → is_no_request n ≡ true → is_no_request n ≡ true
    as_is n h = h

    by_lookup : (n : Note) → of_lookup n ≡ true → is_no_request n ≡ true
    by_lookup (note.Asked peer token mid params number) h = absurd (false≢true h)
    by_lookup _ h = refl

    by_write : (n : Note) → of_write n ≡ true → is_no_request n ≡ true
    by_write (note.Asked peer token mid params number) h = absurd (false≢true h)
    by_write _ h = refl

    by_empty : (n : Note) → of_empty n ≡ true → is_no_request n ≡ true
    by_empty (note.Asked peer token mid params number) h = absurd (false≢true h)
    by_empty _ h = refl

    by_tick : (n : Note) → of_tick n ≡ true → is_no_request n ≡ true
    by_tick (note.Asked peer token mid params number) h = absurd (false≢true h)
    by_tick _ h = refl

    by : (ns : List Note)
        → StepNoted kind starved rows moment s ns
        → (effects kind starved rows moment s).notes ≡ ns
        → AsksAll (effects kind starved rows moment s)
    by ns (noted.nothing blank) e = of_kind is_no_request as_is (ap (are is_no_request) (e ∙ blank))
    by ns (noted.write m at read asks is) e =
        of_kind of_write by_write
        (ap (are of_write) (e ∙ is) ∙ write_effects-notes (events rows) moment s m)
    by ns (noted.lookup m at read seeks is) e =
        of_kind of_lookup by_lookup
        (ap (are of_lookup) (e ∙ is) ∙ lookup_effects-notes rows moment s m)
    by ns (noted.source m at read reads is) e =
        of_kind of_lookup by_lookup
        (ap (are of_lookup) (e ∙ is) ∙ read_effects-notes rows moment s m)
    by ns (noted.empty at all) e = of_kind of_empty by_empty (ap (are of_empty) e ∙ all)
    by ns (noted.response m at read responds is) e =
        subst (λ (k : StepKind). AsksAll (effects k starved rows moment s)) (sym at)
        (heard_asks starved rows moment s m read responds)
    by ns (noted.commit m place commits read is) e =
        subst (λ (k : StepKind). AsksAll (effects k starved rows moment s)) (sym commits)
        (done_asks starved rows moment place s)
    by ns (noted.failed place commits is) e =
        of_kind is_no_request as_is (ap (are is_no_request) (e ∙ is))
    by ns (noted.keep m body tag keeps is) e =
        of_kind is_no_request as_is
        (ap (are is_no_request) (e ∙ (is ∙ keep_effects-notes s m body tag)))
    by ns (noted.tick ticks is) e =
        of_kind of_tick by_tick
        (ap (are of_tick) (e ∙ is) ∙ tick_effects-notes starved rows moment s)
    by ns (noted.begins first begins is) e =
        of_kind is_no_request as_is
        (ap (are is_no_request) (e ∙ is)
        ∙ beginning-notes is_no_request (λ entry. refl) starved (entries rows) moment s first)

-- ---- rows

-- what is one of a list has an index there
among_index : {X : Type 0} (x : X) (xs : List X) → Among x xs → IsAmong xs x
among_index x [] none = absurd none
among_index x (y ∷ ys) (inl same) = (0, (omega arith, sym same))
among_index x (y ∷ ys) (inr further) =
    let it = among_index x ys further in
    (suc it.0, (let low = it.1.0 in omega (arith, low), it.1.1))

-- a request that a row notes
pub record RequestNoted (r : Row) (peer : Peer) (token : List ℕ) (mid number : ℕ) : Type 0 where
  pub sends : SendsRequest r peer token mid number
  pub beside : 0 < number → list_any (gathers_from peer) r.notes ≡ true

row_ask : (rows : List Row) (s : Step) (starved : Bool)
    → AllByRecursion (AskFact (row rows s starved).sent (row rows s starved).notes)
    (row rows s starved).notes
unfolding row
row_ask rows s starved = effects_ask s.kind starved rows (row_moment rows s) s

-- so it is of each row among rows of steps
pub request_of_row : (rows before : List Row) (r : Row) (peer : Peer) (token : List ℕ) (mid : ℕ)
    (params : RegParams) (number : ℕ)
    → AreRows rows
    → Within rows before r
    → IsAmong r.notes (note.Asked peer token mid params number)
    → RequestNoted r peer token mid number
request_of_row rows before r peer token mid params number all within among =
    let made : RowMade before r = each_made rows before r all within in
    let it : AsksSo r.sent r.notes peer token mid number =
    all_at_index (AskFact r.sent r.notes) r.notes (note.Asked peer token mid params number) among
    (subst (λ (x : Row). AllByRecursion (AskFact x.sent x.notes) x.notes) (sym made.is)
    (row_ask before made.step made.starved)) in
    record {
      sends = record {
        block = it.block;
        among = among_index (peer, spelling (fetch_request mid token it.block)) r.sent it.among;
        number_is = it.number_is;
      };
      beside = λ later. by it.beside later;
    }
  where
    by : (number ≡ 0) ⊎ (list_any (gathers_from peer) r.notes ≡ true)
        → 0 < number
        → list_any (gathers_from peer) r.notes ≡ true
    by (inl none) later = absurd (omega (arith, none, later))
    by (inr some) later = some
