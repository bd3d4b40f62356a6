-- What holds of each row's datagrams: only looks send 2.03, no confirmable message has it, and what
-- is settled or asked for is neither 2.05 nor 2.03.
use Rattle.std.proofs.Common.{
  ◌≡◌,
  ℕ,
  Bool,
  true,
  false,
  List,
  [],
  ◌∷◌,
  Option,
  Some,
  None,
  Result,
  Ok,
  Err,
  refl,
  sym,
  ap,
  subst,
  ◌∙◌,
}
use Rattle.std.specs.List.{AllByRecursion}
use Rattle.std.proofs.lemmas.Bool.{false≢true, and_parts}
use Rattle.rd_base.specs.declared.peers.Peer.{Peer}
use Rattle.rd_base.specs.declared.parameters.RegParams.{RegParams}
use Rattle.message_model.specs.declared.messages.Role.{Role}
use Rattle.message_model.specs.declared.messages.Role.TheVariants as role
use Rattle.message_model.specs.declared.messages.Unread.{Unread}
use Rattle.message_model.specs.declared.requests.Path.{Path}
use Rattle.message_model.specs.declared.requests.Path.TheVariants as path
use Rattle.message_model.specs.Message.{Message, role_of}
use Rattle.message_model.specs.OptionTable.{first_bad_option}
use Rattle.message_model.specs.Reading.{reading}
use Rattle.message_model.specs.Request.{path_in}
use Rattle.message_model.specs.Spelling.{header_spelling, spelling}
use Rattle.rd_base.proofs.lemmas.Each.{each_weaker}
use Rattle.event_model.specs.declared.notes.Note.{Note}
use Rattle.event_model.specs.declared.notes.Note.TheVariants as note
use Rattle.event_model.specs.Repeats.{settled}
use Rattle.journal_model.specs.Beginnings.{beginning}
use Rattle.journal_model.proofs.notes.BeginNotes.{beginning-notes, beginning-sent}
use Rattle.journal_model.specs.declared.steps.Step.{Step}
use Rattle.journal_model.specs.declared.steps.StepKind.{StepKind}
use Rattle.journal_model.specs.declared.steps.StepKind.TheVariants as step
use Rattle.journal_model.specs.declared.rows.Row.{Row}
use Rattle.journal_model.specs.Journal.{is_look, events, entries}
use Rattle.journal_model.specs.Effects.{Reply, answering, without_memory}
use Rattle.journal_model.specs.Requests.{
  Method,
  get,
  post,
  put,
  delete,
  other_method,
  method_of,
  refusal_of_request,
  is_lookup,
  is_location,
  only_looks,
  is_look_request,
}
use Rattle.journal_model.specs.Looks.{look_effects, looked, keep_effects}
use Rattle.journal_model.specs.Commits.{commit_effects}
use Rattle.journal_model.specs.Ticks.{tick_effects}
use Rattle.journal_model.specs.Lookups.{lookup_effects, read_effects}
use Rattle.journal_model.specs.Writes.{write_effects}
use Rattle.journal_model.specs.EmptyMessages.{acknowledged, reset}
use Rattle.journal_model.specs.Responses.{response_effects}
use Rattle.journal_model.specs.Rows.{
  served_on_location,
  served,
  request_answered,
  message_effects,
  heard,
  done,
  kept_body,
  effects,
}
use Rattle.journal_model.specs.Machine.{is_look_message, is_look_reading}
use Rattle.journal_model.proofs.NoteKinds.{of_lookup, of_write, of_empty, of_tick, of_response, are}
use Rattle.journal_model.proofs.StepNotes.{
  look_effects-notes,
  keep_effects-notes,
  lookup_effects-notes,
  read_effects-notes,
  write_effects-notes,
  acknowledged-notes,
  reset-notes,
  tick_effects-notes,
}
use Rattle.journal_model.proofs.notes.ChangeNotes.{response_effects-notes}
use Rattle.journal_model.proofs.notes.SilentSteps.{refusal_notes, unread_notes, looked_notes}
use Rattle.journal_model.proofs.sends.PlainSteps.{
  IsPlain,
  ArePlain,
  SettledPlain,
  SettlesPlainly,
  refusal_plain,
  refused_plain,
  starved_plain,
  unread_plain,
  write_plain,
  never_settles,
}
use Rattle.headline_law.proofs.sends.PlainCommits.{commit_plain, response_plain}
use Rattle.journal_model.proofs.sends.ValidSends.{
  NoneValid,
  NoConfirmableValid,
  no_confirmable_valid,
  look_no_confirmable_valid,
  keep_not_valid,
  lookup_not_valid,
  read_not_valid,
}
use Rattle.journal_model.proofs.sends.TickSends.{
  AskedPlain,
  NoConfirmableValidAt,
  plain_not_valid,
  tick_not_valid,
}

-- what holds of the octets that a note settles, and of those that its row sent where it asks for a
-- block
abbrev pub NoteFact : List (Peer × List ℕ) → Note → Type 0
NoteFact sent (note.Settled place octets) = IsPlain octets
NoteFact sent (note.Asked peer token mid params number) = ArePlain sent
NoteFact sent _ = Unit {0}

-- what a step that is no look sends and notes
pub record Sends (sent : List (Peer × List ℕ)) (notes : List Note) : Type 0 where
  pub none_valid : NoneValid sent
  pub facts : AllByRecursion (NoteFact sent) notes

-- where all is plain
plain_sends : (sent : List (Peer × List ℕ)) (notes : List Note)
    → ArePlain sent
    → AllByRecursion SettlesPlainly notes
    → Sends sent notes
plain_sends sent notes plain settles = record {
  none_valid = plain_not_valid sent plain;
  facts = each_weaker SettlesPlainly (NoteFact sent) by notes settles;
}
  where
    by : (n : Note) → SettlesPlainly n → NoteFact sent n
    by (note.Settled place octets) h = h
    by (note.Asked peer token mid params number) h = plain
    by _ h = tt

-- where nothing is settled, and nothing asked for
quiet_facts : (kind : Note → Bool)
    → ((place : ℕ) (octets : List ℕ) → kind (note.Settled place octets) ≡ false)
    → ((peer : Peer) (token : List ℕ) (mid : ℕ) (params : RegParams) (number : ℕ)
    → kind (note.Asked peer token mid params number) ≡ false)
    → (sent : List (Peer × List ℕ)) (notes : List Note) → are kind notes ≡ true
    → AllByRecursion (NoteFact sent) notes
quiet_facts kind settled asked sent notes h = each notes h
  where
    one : (n : Note) → kind n ≡ true → NoteFact sent n
    one (note.Settled place octets) fits = absurd (false≢true (sym (settled place octets) ∙ fits))
    one (note.Asked peer token mid params number) fits =
        absurd (false≢true (sym (asked peer token mid params number) ∙ fits))
    one _ fits = tt

    each : (ns : List Note) → are kind ns ≡ true → AllByRecursion (NoteFact sent) ns
    each [] fits = tt
    each (n ∷ ns) fits = (
      one n (and_parts (kind n) (are kind ns) fits).0,
      each ns
          (and_parts (kind n) (are kind ns) fits).1,
    )

quiet_sends : (kind : Note → Bool)
    → ((place : ℕ) (octets : List ℕ) → kind (note.Settled place octets) ≡ false)
    → ((peer : Peer) (token : List ℕ) (mid : ℕ) (params : RegParams) (number : ℕ)
    → kind (note.Asked peer token mid params number) ≡ false)
    → (sent : List (Peer × List ℕ)) (notes : List Note) → NoneValid sent → are kind notes ≡ true
    → Sends sent notes
quiet_sends kind settled asked sent notes none h =
    record { none_valid = none; facts = quiet_facts kind settled asked sent notes h }

-- where nothing is noted
bare_sends : (sent : List (Peer × List ℕ)) (notes : List Note)
    → ArePlain sent
    → notes ≡ []
    → Sends sent notes
bare_sends sent notes plain none =
    plain_sends sent notes plain (subst (AllByRecursion SettlesPlainly) (sym none) tt)

-- what is known of the rows before
pub record Before (rows : List Row) : Type 0 where
  pub settled : SettledPlain (events rows)
  pub asked : AskedPlain rows
  pub confirmables : NoConfirmableValidAt rows

-- a request that is heard, and is no look
request_sends : (rows : List Row) (moment : ℕ) (s : Step) (m : Message)
    → Before rows
    → is_look_request m ≡ false
    → Sends (request_answered (refusal_of_request m) rows moment s m).sent
    (request_answered (refusal_of_request m) rows moment s m).notes
unfolding served answering is_look_request
request_sends rows moment s m past other = by (refusal_of_request m) refl
  where
    not_only : refusal_of_request m ≡ None → only_looks m ≡ false
    not_only none = sym (rw none refl) ∙ other

    lookup : (p : Path)
        → path_in m ≡ p
        → is_lookup p ≡ true
        → only_looks m ≡ false
        → Sends (lookup_effects rows moment s m).sent (lookup_effects rows moment s m).notes
    lookup p is a_lookup looks =
        quiet_sends of_lookup (λ place octets. refl) (λ peer token mid params number. refl)
        (lookup_effects rows moment s m).sent (lookup_effects rows moment s m).notes
        (lookup_not_valid rows moment s m (ap is_lookup is ∙ a_lookup) looks)
        (lookup_effects-notes rows moment s m)

    write : Sends (write_effects (events rows) moment s m).sent
        (write_effects (events rows) moment s m).notes
    write =
        plain_sends (write_effects (events rows) moment s m).sent
        (write_effects (events rows) moment s m).notes
        (write_plain (events rows) moment s m past.settled)
        (never_settles of_write (λ place octets. refl)
        (write_effects (events rows) moment s m).notes
        (write_effects-notes (events rows) moment s m))

    there : (w : Method)
        → is_location (path_in m) ≡ true
        → method_of m.code ≡ w
        → only_looks m ≡ false
        → Sends (served_on_location w rows moment s m).sent
        (served_on_location w rows moment s m).notes
    there get at is looks =
        quiet_sends of_lookup (λ place octets. refl) (λ peer token mid params number. refl)
        (read_effects rows moment s m).sent (read_effects rows moment s m).notes
        (read_not_valid rows moment s m (rw (at, is) refl) looks)
        (read_effects-notes rows moment s m)
    there post at is looks = write
    there put at is looks = write
    there delete at is looks = write
    there other_method at is looks = record { none_valid = tt; facts = tt }

    on : (p : Path)
        → path_in m ≡ p
        → only_looks m ≡ false
        → Sends (served p rows moment s m).sent (served p rows moment s m).notes
    on path.Core is looks = absurd (false≢true (sym looks ∙ rw is refl))
    on path.Res is looks = lookup path.Res is refl looks
    on path.Ep is looks = lookup path.Ep is refl looks
    on path.SimpleRd is looks = write
    on path.Rd is looks = write
    on (path.Location number) is looks = there (method_of m.code) (ap is_location is) refl looks
    on path.Other is looks = record { none_valid = tt; facts = tt }

    by : (refusal : Option Reply)
        → refusal_of_request m ≡ refusal
        → Sends (request_answered refusal rows moment s m).sent
        (request_answered refusal rows moment s m).notes
    by (Some refusal) e =
        bare_sends _ _ (refused_plain m.kind (first_bad_option m.options) s m refusal
        (refusal_plain m refusal e))
        (refusal_notes m.kind (first_bad_option m.options) s m refusal)
    by None e = on (path_in m) refl (not_only e)

-- a message that is heard, and is no look
role_sends : (r : Role) (starved : Bool) (rows : List Row) (moment : ℕ) (s : Step) (m : Message)
    → Before rows
    → is_look_message r m ≡ false
    → Sends (message_effects r starved rows moment s m).sent
    (message_effects r starved rows moment s m).notes
unfolding spelling header_spelling acknowledged reset answering
role_sends role.Ping starved rows moment s m past other =
    bare_sends _ [] (record { no_content = refl; no_valid = refl }, tt) refl
role_sends role.Acknowledgement starved rows moment s m past other =
    quiet_sends of_empty (λ place octets. refl) (λ peer token mid params number. refl) []
    (acknowledged s.peer m.mid (events rows)).notes tt
    (acknowledged-notes s.peer m.mid (events rows))
role_sends role.Reset starved rows moment s m past other =
    quiet_sends of_empty (λ place octets. refl) (λ peer token mid params number. refl) []
    (reset s.peer m.mid (events rows)).notes tt (reset-notes s.peer m.mid (events rows))
role_sends role.Request true rows moment s m past other = bare_sends _ _ (starved_plain s m) refl
role_sends role.Request false rows moment s m past other = request_sends rows moment s m past other
role_sends role.Response true rows moment s m past other = bare_sends [] [] tt refl
role_sends role.Response false rows moment s m past other =
    plain_sends (response_effects rows moment s m).sent (response_effects rows moment s m).notes
    (response_plain rows moment s m)
    (never_settles of_response (λ place octets. refl) (response_effects rows moment s m).notes
    (response_effects-notes rows moment s m))
role_sends role.Ignored starved rows moment s m past other = bare_sends [] [] tt refl

-- a datagram that is heard, and is no look
heard_sends : (starved : Bool) (rows : List Row) (moment : ℕ) (s : Step)
    (read : Result Message Unread)
    → Before rows
    → is_look_reading read ≡ false
    → Sends (heard starved rows moment s read).sent (heard starved rows moment s read).notes
heard_sends starved rows moment s (Err fault) past other =
    bare_sends _ _ (unread_plain s fault) (unread_notes s fault)
heard_sends starved rows moment s (Ok m) past other =
    role_sends (role_of m.kind m.code) starved rows moment s m past other

-- a write that is done
done_sends : (starved : Bool) (rows : List Row) (moment place : ℕ) (s : Step)
    (read : Result Message Unread)
    → Sends (done starved rows moment place s read).sent
    (done starved rows moment place s read).notes
unfolding answering
done_sends starved rows moment place s (Err fault) = bare_sends [] [] tt refl
done_sends true rows moment place s (Ok m) =
    plain_sends _ (note.Failed place ∷ []) (starved_plain s m) (tt, tt)
done_sends false rows moment place s (Ok m) =
    let it = commit_plain rows moment place s m in
    plain_sends (commit_effects rows moment place s m).sent
    (commit_effects rows moment place s m).notes it.sends it.settles

-- a body that is kept
kept_sends : (starved : Bool) (s : Step) (read : Result Message Unread) (body tag : List ℕ)
    → Sends (kept_body starved s read body tag).sent (kept_body starved s read body tag).notes
unfolding answering
kept_sends starved s (Err fault) body tag = bare_sends [] [] tt refl
kept_sends true s (Ok m) body tag = bare_sends _ [] (starved_plain s m) refl
kept_sends false s (Ok m) body tag =
    quiet_sends of_lookup (λ place octets. refl) (λ peer token mid params number. refl)
    (keep_effects s m body tag).sent (keep_effects s m body tag).notes
    (keep_not_valid s m body tag)
    (rw (keep_effects-notes s m body tag) refl)

-- ---- what notes say of what a row sends, whatever it hears

-- no note says anything
no_facts : (sent : List (Peer × List ℕ)) (notes : List Note) → notes ≡ []
    → AllByRecursion (NoteFact sent) notes
no_facts sent notes none = subst (AllByRecursion (NoteFact sent)) (sym none) tt

-- a request that is heard
request_facts : (rows : List Row) (moment : ℕ) (s : Step) (m : Message)
    → AllByRecursion (NoteFact (request_answered (refusal_of_request m) rows moment s m).sent)
    (request_answered (refusal_of_request m) rows moment s m).notes
unfolding served answering
request_facts rows moment s m = by (refusal_of_request m)
  where
    write : AllByRecursion (NoteFact (write_effects (events rows) moment s m).sent)
        (write_effects (events rows) moment s m).notes
    write = quiet_facts of_write (λ place octets. refl) (λ peer token mid params number. refl) _
        (write_effects (events rows) moment s m).notes
        (write_effects-notes (events rows) moment s m)

    lookup : AllByRecursion (NoteFact (lookup_effects rows moment s m).sent)
        (lookup_effects rows moment s m).notes
    lookup = quiet_facts of_lookup (λ place octets. refl) (λ peer token mid params number. refl) _
        (lookup_effects rows moment s m).notes (lookup_effects-notes rows moment s m)

    there : (w : Method) → AllByRecursion (NoteFact (served_on_location w rows moment s m).sent)
        (served_on_location w rows moment s m).notes
    there get =
        quiet_facts of_lookup (λ place octets. refl) (λ peer token mid params number. refl) _
        (read_effects rows moment s m).notes (read_effects-notes rows moment s m)
    there post = write
    there put = write
    there delete = write
    there other_method = tt

    on : (p : Path) → AllByRecursion (NoteFact (served p rows moment s m).sent)
        (served p rows moment s m).notes
    on path.Core = no_facts _ _ (look_effects-notes (entries rows) moment s m)
    on path.Res = lookup
    on path.Ep = lookup
    on path.SimpleRd = write
    on path.Rd = write
    on (path.Location number) = there (method_of m.code)
    on path.Other = tt

    by : (refusal : Option Reply)
        → AllByRecursion (NoteFact (request_answered refusal rows moment s m).sent)
        (request_answered refusal rows moment s m).notes
    by (Some refusal) = no_facts _ _ (refusal_notes m.kind (first_bad_option m.options) s m refusal)
    by None = on (path_in m)

-- a message that is heard
role_facts : (r : Role) (starved : Bool) (rows : List Row) (moment : ℕ) (s : Step) (m : Message)
    → AllByRecursion (NoteFact (message_effects r starved rows moment s m).sent)
    (message_effects r starved rows moment s m).notes
unfolding answering
role_facts role.Ping starved rows moment s m = tt
role_facts role.Acknowledgement starved rows moment s m =
    quiet_facts of_empty (λ place octets. refl) (λ peer token mid params number. refl) _
    (acknowledged s.peer m.mid (events rows)).notes
    (acknowledged-notes s.peer m.mid (events rows))
role_facts role.Reset starved rows moment s m =
    quiet_facts of_empty (λ place octets. refl) (λ peer token mid params number. refl) _
    (reset s.peer m.mid (events rows)).notes (reset-notes s.peer m.mid (events rows))
role_facts role.Request true rows moment s m = tt
role_facts role.Request false rows moment s m = request_facts rows moment s m
role_facts role.Response true rows moment s m = tt
role_facts role.Response false rows moment s m =
    (plain_sends (response_effects rows moment s m).sent (response_effects rows moment s m).notes
    (response_plain rows moment s m)
    (never_settles of_response (λ place octets. refl) (response_effects rows moment s m).notes
    (response_effects-notes rows moment s m))).facts
role_facts role.Ignored starved rows moment s m = tt

-- of beginnings
abbrev of_begin : Note → Bool
of_begin (note.Entered entry) = true
of_begin _ = false

-- any step
pub step_facts : (kind : StepKind) (starved : Bool) (rows : List Row) (moment : ℕ) (s : Step)
    → AllByRecursion (NoteFact (effects kind starved rows moment s).sent)
    (effects kind starved rows moment s).notes
unfolding effects answering
step_facts step.Admit starved rows moment s = by (reading s.datagram)
  where
    by : (read : Result Message Unread)
        → AllByRecursion (NoteFact (heard starved rows moment s read).sent)
        (heard starved rows moment s read).notes
    by (Err fault) = no_facts _ _ (unread_notes s fault)
    by (Ok m) = role_facts (role_of m.kind m.code) starved rows moment s m
step_facts step.Look starved rows moment s =
    no_facts _ _ (looked_notes starved (entries rows) moment s (reading s.datagram))
step_facts (step.Commit place) starved rows moment s =
    (done_sends starved rows moment place s (reading s.datagram)).facts
step_facts (step.Keep body tag) starved rows moment s =
    (kept_sends starved s (reading s.datagram) body tag).facts
step_facts step.Tick starved rows moment s =
    quiet_facts of_tick (λ place octets. refl) (λ peer token mid params number. refl) _
    (tick_effects starved rows moment s).notes (tick_effects-notes starved rows moment s)
step_facts (step.Begin first) starved rows moment s =
    quiet_facts of_begin (λ place octets. refl) (λ peer token mid params number. refl) _
    (beginning starved (entries rows) moment s first).notes
    (beginning-notes of_begin (λ entry. refl) starved (entries rows) moment s first)

-- what any step sends and notes: a look notes nothing
pub record StepSends (kind : StepKind) (sent : List (Peer × List ℕ)) (notes : List Note) : Type 0
  where
    pub confirmables : NoConfirmableValid sent
    pub others : is_look kind ≡ false → NoneValid sent
    pub facts : AllByRecursion (NoteFact sent) notes

-- where it is no look that sends 2.03
of_sends : (kind : StepKind) (sent : List (Peer × List ℕ)) (notes : List Note)
    → Sends sent notes
    → StepSends kind sent notes
of_sends kind sent notes h = record {
  confirmables = no_confirmable_valid sent h.none_valid;
  others = λ _. h.none_valid;
  facts = h.facts;
}

-- so it is of any step
pub effects_send : (kind : StepKind) (starved : Bool) (rows : List Row) (moment : ℕ) (s : Step)
    → Before rows
    → (kind ≡ step.Admit → is_look_reading (reading s.datagram) ≡ false)
    → StepSends kind (effects kind starved rows moment s).sent
    (effects kind starved rows moment s).notes
unfolding effects answering
effects_send step.Admit starved rows moment s past admits =
    of_sends step.Admit (heard starved rows moment s (reading s.datagram)).sent
    (heard starved rows moment s (reading s.datagram)).notes
    (heard_sends starved rows moment s (reading s.datagram) past (admits refl))
effects_send step.Look starved rows moment s past admits = by starved (reading s.datagram)
  where
    by : (b : Bool) (read : Result Message Unread)
        → StepSends step.Look (looked b (entries rows) moment s read).sent
        (looked b (entries rows) moment s read).notes
    by b (Err fault) = record {
      confirmables = tt;
      others = λ e. absurd (false≢true (sym e));
      facts = tt;
    }
    by true (Ok m) = record {
      confirmables =
          no_confirmable_valid (without_memory s m).sent
          (plain_not_valid (without_memory s m).sent (starved_plain s m));
      others = λ e. absurd (false≢true (sym e));
      facts = tt;
    }
    by false (Ok m) = record {
      confirmables = look_no_confirmable_valid (entries rows) moment s m;
      others = λ e. absurd (false≢true (sym e));
      facts =
          subst (AllByRecursion (NoteFact (look_effects (entries rows) moment s m).sent))
          (sym (look_effects-notes (entries rows) moment s m)) tt;
    }
effects_send (step.Commit place) starved rows moment s past admits =
    of_sends (step.Commit place) (done starved rows moment place s (reading s.datagram)).sent
    (done starved rows moment place s (reading s.datagram)).notes
    (done_sends starved rows moment place s (reading s.datagram))
effects_send (step.Keep body tag) starved rows moment s past admits =
    of_sends (step.Keep body tag) (kept_body starved s (reading s.datagram) body tag).sent
    (kept_body starved s (reading s.datagram) body tag).notes
    (kept_sends starved s (reading s.datagram) body tag)
effects_send step.Tick starved rows moment s past admits =
    of_sends step.Tick (tick_effects starved rows moment s).sent
    (tick_effects starved rows moment s).notes
    (quiet_sends of_tick (λ place octets. refl) (λ peer token mid params number. refl)
    (tick_effects starved rows moment s).sent (tick_effects starved rows moment s).notes
    (tick_not_valid starved rows moment s past.confirmables past.asked)
    (tick_effects-notes starved rows moment s))
effects_send (step.Begin first) starved rows moment s past admits =
    of_sends (step.Begin first) (beginning starved (entries rows) moment s first).sent
    (beginning starved (entries rows) moment s first).notes
    (quiet_sends of_begin (λ place octets. refl) (λ peer token mid params number. refl)
    (beginning starved (entries rows) moment s first).sent
    (beginning starved (entries rows) moment s first).notes
    (subst NoneValid (sym (beginning-sent starved (entries rows) moment s first)) tt)
    (beginning-notes of_begin (λ entry. refl) starved (entries rows) moment s first))
