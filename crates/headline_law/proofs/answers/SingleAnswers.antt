-- A step that is made for a request sends at most one response.
use Rattle.std.proofs.Common.{
  ◌≡◌,
  ℕ,
  ◌≤◌,
  ◌==◌,
  Bool,
  true,
  false,
  List,
  [],
  ◌∷◌,
  length,
  Option,
  Some,
  None,
  Result,
  Ok,
  Err,
  refl,
  sym,
  subst,
  arith,
}
use Rattle.rd_base.specs.declared.peers.Peer.{Peer}
use Rattle.message_model.specs.declared.messages.Kind4.{Kind4}
use Rattle.message_model.specs.declared.messages.Kind4.TheVariants.{Con, Non, Ack, Rst}
use Rattle.message_model.specs.declared.messages.Role.TheVariants as role
use Rattle.message_model.specs.declared.messages.Unread.{Unread}
use Rattle.message_model.specs.declared.requests.Path.{Path}
use Rattle.message_model.specs.declared.requests.Path.TheVariants as path
use Rattle.message_model.specs.Blocks.{block_of}
use Rattle.message_model.specs.Message.{Message, role_of}
use Rattle.message_model.specs.OptionTable.{first_bad_option}
use Rattle.message_model.specs.Reading.{reading}
use Rattle.message_model.specs.Request.{path_in, observe_in}
use Rattle.message_model.specs.RequestKey.{key_in}
use Rattle.history_model.specs.declared.entries.Entry.{Entry}
use Rattle.event_model.specs.Events.{Event}
use Rattle.event_model.specs.Repeats.{repeated, settled, is_full_of_exchanges}
use Rattle.event_model.specs.KeptAnswers.{Answer, kept_answer}
use Rattle.event_model.specs.Observers.{observers, has_room_for}
use Rattle.journal_model.specs.declared.steps.Step.{Step}
use Rattle.journal_model.specs.declared.steps.StepKind.{StepKind}
use Rattle.journal_model.specs.declared.steps.StepKind.TheVariants as step
use Rattle.journal_model.specs.declared.rows.Row.{Row}
use Rattle.journal_model.specs.Journal.{events, entries}
use Rattle.journal_model.specs.Effects.{Reply, answering}
use Rattle.journal_model.specs.Requests.{
  asked_block,
  number_of,
  szx_of,
  query_of,
  register,
  deregister,
  is_later_block,
  refusal_of_request,
  Method,
  get,
  post,
  put,
  delete,
  other_method,
  method_of,
}
use Rattle.journal_model.specs.Looks.{
  Look,
  answered,
  held,
  look,
  look_sent,
  look_effects,
  looked,
  keep_effects,
}
use Rattle.journal_model.specs.Lookups.{
  listing_now,
  found_now,
  block_now,
  block_of_found,
  block_of_kept,
  later_block,
  without,
  observed_if,
  observed,
  unobserved,
  observation_effects,
  first_block_effects,
  block_effects,
  lookup_effects,
  read_block_effects,
  read_effects,
  observing_by,
}
use Rattle.journal_model.specs.Writes.{
  again_answered,
  is_unproved,
  admitted_unless,
  write_unless,
  write_effects,
}
use Rattle.journal_model.specs.Rows.{
  served_on_location,
  served,
  refusal_answered,
  request_answered,
  message_effects,
  heard,
  kept_body,
  effects,
}
use Rattle.journal_model.specs.SentDatagrams.{is_response}
use Rattle.journal_model.proofs.notes.BeginNotes.{beginning-sent}
use Rattle.headline_law.specs.AnsweredAlike.{message_read, responses_in}

-- at most one datagram
abbrev pub AtMostOne : List (Peer × List ℕ) → Type 0
AtMostOne [] = Unit {0}
AtMostOne (d ∷ []) = Unit {0}
AtMostOne (d ∷ other ∷ more) = ⊥

-- has at most one response
pub one_response : (sent : List (Peer × List ℕ)) → AtMostOne sent → length (responses_in sent) ≤ 1
one_response [] h = omega arith
one_response (d ∷ []) h = by (message_read (reading d.1)) refl
  where
    response : (m : Message) (b : Bool)
        → message_read (reading d.1) ≡ Some m
        → is_response m ≡ b
        → length (responses_in (d ∷ [])) ≤ 1
    response m true read is = rw (read, is) (omega arith)
    response m false read is = rw (read, is) (omega arith)

    by : (o : Option Message)
        → message_read (reading d.1) ≡ o
        → length (responses_in (d ∷ [])) ≤ 1
    by None e = rw e (omega arith)
    by (Some m) e = response m (is_response m) e refl
one_response (d ∷ other ∷ more) h = absurd h

-- a write as it is heard
write_one : (past : List Event) (moment : ℕ) (s : Step) (m : Message)
    → AtMostOne (write_effects past moment s m).sent
unfolding write_effects answering
write_one past moment s m = by (repeated moment s.peer m.mid past)
  where
    again : (octets : Option (List ℕ)) → AtMostOne (again_answered s octets).sent
    again None = tt
    again (Some octets) = tt

    new : (full unproved : Bool) → AtMostOne (admitted_unless full unproved past s m).sent
    new true unproved = tt
    new false true = tt
    new false false = tt

    by : (first : Option Event) → AtMostOne (write_unless first past moment s m).sent
    by (Some first) = again (settled first.place past)
    by None = new (is_full_of_exchanges moment past) (is_unproved past moment s m)

-- a look
look_one : (history : List Entry) (moment : ℕ) (s : Step) (m : Message)
    → AtMostOne (look_effects history moment s m).sent
unfolding look_effects answering
look_one history moment s m = by (look history moment m)
  where
    by : (given : Option Look) → AtMostOne (look_sent s m given).sent
    by None = tt
    by (Some (answered reply)) = tt
    by (Some (held found)) = tt

-- a further block
later_one : (rows : List Row) (moment : ℕ) (s : Step) (m : Message)
    → AtMostOne (later_block rows moment s m).sent
unfolding later_block answering
later_one rows moment s m =
    by (found_now rows moment m) (kept_answer moment (s.peer, key_in m) (events rows))
  where
    part_of : (a : Answer) (part : Option (List ℕ × Bool)) → AtMostOne (block_now s m a part).sent
    part_of a None = tt
    part_of a (Some part) = tt

    fresh : (found : Option Answer) → AtMostOne (block_of_found s m found).sent
    fresh None = tt
    fresh (Some a) =
        part_of a (block_of a.body (number_of (asked_block m)) (szx_of (asked_block m)))

    by : (found kept : Option Answer) → AtMostOne (block_of_kept s m found kept).sent
    by found (Some kept) = tt
    by found None = fresh found

-- a read of a registration
read_one : (rows : List Row) (moment : ℕ) (s : Step) (m : Message)
    → AtMostOne (read_effects rows moment s m).sent
unfolding read_effects
read_one rows moment s m = by (is_later_block m)
  where
    by : (b : Bool) → AtMostOne (read_block_effects b rows moment s m).sent
    by true = later_one rows moment s m
    by false = look_one (entries rows) moment s m

-- a lookup
lookup_one : (rows : List Row) (moment : ℕ) (s : Step) (m : Message)
    → AtMostOne (lookup_effects rows moment s m).sent
unfolding lookup_effects observed unobserved answering
lookup_one rows moment s m = by (is_later_block m)
  where
    observing : (b : Bool) → AtMostOne (observed_if b rows s m (listing_now rows moment m)).sent
    observing true = tt
    observing false = tt

    valued : (b c : Bool)
        → AtMostOne (observation_effects (observing_by b c) rows moment s m).sent
    valued true c =
        observing (has_room_for (query_of m) (without (s.peer, m.token) (observers (events rows))))
    valued false true = tt
    valued false false = look_one (entries rows) moment s m

    observe : (o : Option ℕ) → AtMostOne (first_block_effects o rows moment s m).sent
    observe None = look_one (entries rows) moment s m
    observe (Some value) = valued (value == register) (value == deregister)

    by : (b : Bool) → AtMostOne (block_effects b rows moment s m).sent
    by true = later_one rows moment s m
    by false = observe (observe_in m)

-- a request that is heard
request_one : (refusal : Option Reply) (rows : List Row) (moment : ℕ) (s : Step) (m : Message)
    → AtMostOne (request_answered refusal rows moment s m).sent
unfolding served answering
request_one (Some refusal) rows moment s m = by m.kind (first_bad_option m.options)
  where
    by : (kind : Kind4) (bad : Option ℕ) → AtMostOne (refusal_answered kind bad s m refusal).sent
    by Non (Some number) = tt
    by Non None = tt
    by Con bad = tt
    by Ack bad = tt
    by Rst bad = tt
request_one None rows moment s m = on (path_in m)
  where
    there : (w : Method) → AtMostOne (served_on_location w rows moment s m).sent
    there get = read_one rows moment s m
    there post = write_one (events rows) moment s m
    there put = write_one (events rows) moment s m
    there delete = write_one (events rows) moment s m
    there other_method = tt

    on : (p : Path) → AtMostOne (served p rows moment s m).sent
    on path.Core = look_one (entries rows) moment s m
    on path.Res = lookup_one rows moment s m
    on path.Ep = lookup_one rows moment s m
    on path.SimpleRd = write_one (events rows) moment s m
    on path.Rd = write_one (events rows) moment s m
    on (path.Location number) = there (method_of m.code)
    on path.Other = tt

-- the step is no tick and no commit
abbrev pub IsOther : StepKind → Type 0
IsOther (step.Commit place) = ⊥
IsOther step.Tick = ⊥
IsOther _ = Unit {0}

-- any such step that is made for a request
pub effects_one : (kind : StepKind) (starved : Bool) (rows : List Row) (moment : ℕ) (s : Step)
    (m : Message)
    → IsOther kind
    → reading s.datagram ≡ Ok m
    → role_of m.kind m.code ≡ role.Request
    → AtMostOne (effects kind starved rows moment s).sent
unfolding effects keep_effects answering
effects_one step.Admit starved rows moment s m other read asks =
    subst (λ x. AtMostOne (heard starved rows moment s x).sent) (sym read)
    (subst (λ r. AtMostOne (message_effects r starved rows moment s m).sent) (sym asks)
    (by starved))
  where
    by : (b : Bool) → AtMostOne (message_effects role.Request b rows moment s m).sent
    by true = tt
    by false = request_one (refusal_of_request m) rows moment s m
effects_one step.Look starved rows moment s m other read asks = by starved (reading s.datagram)
  where
    by : (b : Bool) (x : Result Message Unread)
        → AtMostOne (looked b (entries rows) moment s x).sent
    by b (Err fault) = tt
    by true (Ok n) = tt
    by false (Ok n) = look_one (entries rows) moment s n
effects_one (step.Commit place) starved rows moment s m other read asks = absurd other
effects_one (step.Keep body current) starved rows moment s m other read asks =
    by starved (reading s.datagram)
  where
    by : (b : Bool) (x : Result Message Unread) → AtMostOne (kept_body b s x body current).sent
    by b (Err fault) = tt
    by true (Ok n) = tt
    by false (Ok n) = tt
effects_one step.Tick starved rows moment s m other read asks = absurd other
effects_one (step.Begin first) starved rows moment s m other read asks =
    subst AtMostOne (sym (beginning-sent starved (entries rows) moment s first)) tt
