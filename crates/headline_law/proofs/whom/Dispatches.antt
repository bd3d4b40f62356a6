-- Which datagrams each step but a tick sends: answers to its request, the kept answer of a write
-- that comes again, a Reset or an empty acknowledgement of what it heard, a request of a fetch.
use Rattle.std.proofs.Common.{
  ◌≡◌,
  ℕ,
  ◌+◌,
  ◌<◌,
  ◌≤◌,
  ◌==◌,
  ◌&&◌,
  Bool,
  true,
  false,
  cond,
  List,
  [],
  ◌∷◌,
  ◌++◌,
  length,
  Option,
  Some,
  None,
  option_map,
  codes,
  nat_le,
  Result,
  Ok,
  Err,
  refl,
  sym,
  ap,
  subst,
  ◌∙◌,
  eqb-true,
  arith,
}
use Rattle.std.specs.List.{AllByRecursion, list_any}
use Rattle.std.proofs.lemmas.Bool.{false≢true}
use Rattle.std.proofs.lemmas.Slice.Eq.{bytes_eq-Decides}
use Rattle.rd_base.specs.declared.peers.Peer.{Peer}
use Rattle.rd_base.specs.declared.parameters.RegParams.{RegParams}
use Rattle.rd_base.proofs.lemmas.Numbers.{eqb-refl}
use Rattle.rd_base.proofs.lemmas.Each.{each_append}
use Rattle.message_model.specs.declared.blocks.Block.{Block}
use Rattle.message_model.specs.declared.messages.Kind4.{Kind4}
use Rattle.message_model.specs.declared.messages.Kind4.TheVariants.{Con, Non, Ack, Rst}
use Rattle.message_model.specs.declared.messages.Role.{Role}
use Rattle.message_model.specs.declared.messages.Role.TheVariants as role
use Rattle.message_model.specs.declared.messages.Unread.{Unread}
use Rattle.message_model.specs.declared.messages.Unread.TheVariants as unread
use Rattle.message_model.specs.declared.requests.Path.{Path}
use Rattle.message_model.specs.declared.requests.Path.TheVariants as path
use Rattle.message_model.specs.Codes as codes_of
use Rattle.message_model.specs.Message.{
  Message,
  empty_role,
  request_role,
  response_role,
  role_of,
}
use Rattle.message_model.specs.OptionTable as table
use Rattle.message_model.specs.OptionTable.{first_bad_option, stands_in}
use Rattle.message_model.specs.Blocks.{block_of}
use Rattle.message_model.specs.Reading.{reading}
use Rattle.message_model.specs.Request.{path_in, queries_in, observe_in}
use Rattle.message_model.specs.RequestKey.{key_in}
use Rattle.message_model.specs.Spelling.{spelling}
use Rattle.message_model.specs.FetchRequests.{fetch_request}
use Rattle.message_model.specs.Responses.{block_in, is_elsewhere, tag_in}
use Rattle.message_model.proofs.ReadingLaws.{header_read}
use Rattle.record_model.specs.Parameters.{registration_values}
use Rattle.record_model.specs.Discovery.{discovery}
use Rattle.history_model.specs.declared.entries.Entry.{Entry}
use Rattle.history_model.specs.Sources.{source}
use Rattle.history_model.specs.Listing.{listing, tag}
use Rattle.event_model.specs.declared.notes.Note.{Note}
use Rattle.event_model.specs.declared.notes.Note.TheVariants as note
use Rattle.event_model.specs.Same.{RequestName}
use Rattle.event_model.specs.Events.{Event, noted}
use Rattle.event_model.specs.Repeats.{repeated, settled, is_full_of_exchanges}
use Rattle.event_model.specs.KeptAnswers.{Answer, kept_answer}
use Rattle.event_model.specs.Challenges.{next_challenge}
use Rattle.event_model.specs.Observers.{observers, has_room_for, observe_value}
use Rattle.event_model.specs.Fetches.{
  Request,
  max_fetches,
  fetches,
  is_fetching,
  next_token,
  gathered,
  collected,
}
use Rattle.event_model.proofs.SameLaws.{is_same_peer-refl}
use Rattle.event_model.proofs.ObserverEvents.{changes_observers}
use Rattle.journal_model.specs.declared.steps.Step.{Step}
use Rattle.journal_model.specs.declared.steps.StepKind.{StepKind}
use Rattle.journal_model.specs.declared.steps.StepKind.TheVariants as step
use Rattle.journal_model.specs.declared.rows.Row.{Row}
use Rattle.journal_model.specs.Journal.{events, entries}
use Rattle.journal_model.specs.Effects.{
  Effects,
  Reply,
  bare,
  diagnostic,
  answer,
  answering,
  empty_message,
  mid_of,
  drawn_for,
}
use Rattle.journal_model.specs.Requests.{
  refusal_of_request,
  asked_block,
  number_of,
  szx_of,
  query_of,
  register,
  deregister,
  is_lookup,
  is_later_block,
  Method,
  get,
  post,
  put,
  delete,
  other_method,
  method_of,
}
use Rattle.journal_model.specs.Bodies.{
  is_long,
  part_reply,
  body_reply,
  answered_block,
  block2_option,
}
use Rattle.journal_model.specs.Sought.{Sought, listing_of, source_of, own_links, sought_in}
use Rattle.journal_model.specs.Looks.{
  names_tag,
  unless_long,
  unless_valid,
  still_valid,
  not_live,
  found_or_not,
  look_for,
  look,
  look_sent,
  look_effects,
  looked,
  keep_effects,
}
use Rattle.journal_model.specs.Lookups.{
  listing_now,
  found_now,
  block_now,
  block_of_found,
  block_of_kept,
  later_block,
  removal,
  without,
  keeping,
  observer_of,
  observed_if,
  observed,
  unobserved,
  observation_effects,
  first_block_effects,
  block_effects,
  lookup_effects,
  read_block_effects,
  read_effects,
  observing_by,
}
use Rattle.journal_model.specs.Writes.{
  again_answered,
  challenge,
  is_unproved,
  admitted_unless,
  write_unless,
  write_effects,
}
use Rattle.journal_model.specs.Changes.{Outcome}
use Rattle.journal_model.specs.Registrations.{registering}
use Rattle.journal_model.specs.Commits.{
  settling,
  simple_unless,
  location_outcome,
  write_done,
  commit_effects,
  fetch_room,
}
use Rattle.journal_model.specs.EmptyMessages.{acknowledged, reset}
use Rattle.journal_model.specs.Responses.{
  fetch_of,
  strange,
  acknowledgement,
  more_follow,
  ends_fetch,
  gathering,
  response_taken,
  response_to,
  response_to_request,
  response_effects,
  response_use,
}
use Rattle.journal_model.specs.Rows.{
  served_on_location,
  served,
  refusal_answered,
  unread_answered,
  request_answered,
  message_effects,
  heard,
  done,
  kept_body,
  effects,
}
use Rattle.journal_model.specs.SentDatagrams.{IsForRequest}
use Rattle.journal_model.proofs.EntriesNoted.{entries_in, entries_in-append}
use Rattle.journal_model.proofs.notes.BeginNotes.{beginning-sent}
use Rattle.journal_model.proofs.observers.ObserversKnow.{IsNoTick}
use Rattle.journal_model.proofs.sends.BodyAnswers.{tag-length, request-usable, szx-usable}
use Rattle.journal_model.proofs.datagrams.FittingReplies.{
  IsGoodReply,
  good_bare,
  good_starved,
  good_unavailable,
  next_challenge-length,
  good_challenge,
  good_refusal,
  good_part_reply,
  good_body_reply,
  good_valid,
  good_registering,
  good_location,
  good_not_live,
}
use Rattle.journal_model.proofs.notes.LookupNotes.{found_KeptAt}
use Rattle.headline_law.specs.AnsweredAlike.{is_code_of_write}
use Rattle.headline_law.specs.SentToWhom.{is_asking, is_con, is_acknowledged, is_rejected}
use Rattle.headline_law.proofs.answers.ReportedOutcomes.{
  LocatesEntry,
  IsReported,
  refusal_reported,
  registering_reported,
  location_reported,
}
use Rattle.headline_law.proofs.whom.RunningFetches.{
  starts_running,
  goes_on_running,
  IsOfFetch,
  fetch_found,
}

-- ---- one datagram

-- the notes of a lookup that adds its peer as an observer, after which none changes who observes
pub record AddsObserver (kind : StepKind) (s : Step) (m : Message) (notes : List Note) : Type 0
  where
    pub heard : kind ≡ step.Admit
    pub unrefused : refusal_of_request m ≡ None
    pub lookup : is_lookup (path_in m) ≡ true
    pub registers : observe_in m ≡ Some register
    pub first : is_later_block m ≡ false
    pub front : List Note
    pub back : List Note
    pub adds : notes ≡ front ++ note.Watched (observer_of s m) ∷ back
    pub quiet : list_any changes_observers back ≡ false

-- a reply to a request, with what is noted
pub record IsReply (rows : List Row) (moment : ℕ) (kind : StepKind) (s : Step) (m : Message)
    (reply : Reply) (notes : List Note) : Type 0 where
  pub good : IsGoodReply reply
  pub responds : codes_of.is_response_code reply.code ≡ true
  pub observed : stands_in table.observe reply.options ≡ true → AddsObserver kind s m notes
  pub commits : is_code_of_write reply.code ≡ true → (place : ℕ) × (kind ≡ step.Commit place)
  pub located : reply.code ≡ codes_of.created
      → LocatesEntry (entries rows) moment reply.options notes

-- a datagram of a step of a kind that is no tick, after rows at a moment
pub data IsDispatch (rows : List Row) (moment : ℕ) (kind : StepKind) (s : Step) (notes : List Note)
    (d : Peer × List ℕ) : Type 0 where
  answers : (m : Message) (reply : Reply)
      → reading s.datagram ≡ Ok m
      → role_of m.kind m.code ≡ role.Request
      → IsReply rows moment kind s m reply notes
      → d ≡ (s.peer, spelling (answer s m reply))
      → IsDispatch rows moment kind s notes d
  repeats : (m : Message) (first : Event) (octets : List ℕ)
      → kind ≡ step.Admit
      → reading s.datagram ≡ Ok m
      → role_of m.kind m.code ≡ role.Request
      → repeated moment s.peer m.mid (events rows) ≡ Some first
      → settled first.place (events rows) ≡ Some octets
      → d ≡ (s.peer, octets)
      → IsDispatch rows moment kind s notes d
  rejects : (mid : ℕ)
      → kind ≡ step.Admit
      → is_rejected rows s mid (reading s.datagram) ≡ true
      → d ≡ (s.peer, spelling (empty_message Rst mid))
      → IsDispatch rows moment kind s notes d
  acknowledges : (mid : ℕ)
      → kind ≡ step.Admit
      → is_acknowledged rows s mid (reading s.datagram) ≡ true
      → d ≡ (s.peer, spelling (empty_message Ack mid))
      → IsDispatch rows moment kind s notes d
  fetches_block : (mid : ℕ) (token : List ℕ) (b : Option Block)
      → length token ≤ 8
      → list_any (is_asking s.peer (fetch_request mid token b) (number_of b)) notes ≡ true
      → is_fetching s.peer (noted (length rows) moment s.word notes (events rows)) ≡ true
      → d ≡ (s.peer, spelling (fetch_request mid token b))
      → IsDispatch rows moment kind s notes d

-- all that is sent is so
abbrev pub AreDispatches : List Row → ℕ → StepKind → Step → List Note → List (Peer × List ℕ)
    → Type 0
AreDispatches rows moment kind s notes sent = AllByRecursion (IsDispatch rows moment kind s notes)
    sent

-- so is all that is done
abbrev pub Dispatches : List Row → ℕ → StepKind → Step → Effects → Type 0
Dispatches rows moment kind s e = AreDispatches rows moment kind s e.notes e.sent

-- ---- replies

-- a code that says nothing of writes is not 2.01
not_created : (code : ℕ) → is_code_of_write code ≡ false → code ≡ codes_of.created → ⊥
not_created code other e = false≢true (sym other ∙ ap is_code_of_write e)

-- a reply without Observe that says nothing of writes
record IsBare (reply : Reply) : Type 0 where
  good : IsGoodReply reply
  responds : codes_of.is_response_code reply.code ≡ true
  unobserved : stands_in table.observe reply.options ≡ false
  other : is_code_of_write reply.code ≡ false

-- is one to any request
of_bare : (rows : List Row) (moment : ℕ) (kind : StepKind) (s : Step) (m : Message) (reply : Reply)
    (notes : List Note)
    → IsBare reply
    → IsReply rows moment kind s m reply notes
of_bare rows moment kind s m reply notes h = record {
  good = h.good;
  responds = h.responds;
  observed = λ e. absurd (false≢true (sym h.unobserved ∙ e));
  commits = λ e. absurd (false≢true (sym h.other ∙ e));
  located = λ e. absurd (not_created reply.code h.other e);
}

-- and so is what comes of a write
of_reported : (rows : List Row) (moment : ℕ) (place : ℕ) (s : Step) (m : Message)
    (reply : Reply) (notes : List Note)
    → IsGoodReply reply
    → IsReported (entries rows) moment reply notes
    → IsReply rows moment (step.Commit place) s m reply notes
of_reported rows moment place s m reply notes good h = record {
  good = good;
  responds = h.responds;
  observed = λ e. absurd (false≢true (sym h.unobserved ∙ e));
  commits = λ e. (place, refl);
  located = h.located;
}

bare_starved : IsBare (bare codes_of.internal_server_error)
bare_starved = record {
  good = good_starved;
  responds = refl;
  unobserved = refl;
  other = refl;
}

bare_unavailable : (word : List ℕ)
    → length word ≤ 1_000
    → IsBare (diagnostic codes_of.service_unavailable word)
bare_unavailable word short = record {
  good = good_unavailable word short;
  responds = refl;
  unobserved = refl;
  other = refl;
}

bare_not_live : IsBare not_live
bare_not_live = record {
  good = good_not_live;
  responds = refl;
  unobserved = refl;
  other = refl;
}

bare_challenge : (value : List ℕ) → length value ≡ 8 → IsBare (challenge value)
bare_challenge value short = record {
  good = good_challenge value short;
  responds = refl;
  unobserved = refl;
  other = refl;
}

bare_valid : (current : List ℕ) → length current ≡ 8 → IsBare (still_valid current)
bare_valid current short = record {
  good = good_valid current short;
  responds = refl;
  unobserved = refl;
  other = refl;
}

-- of a part of a body, with Observe or without
part_responds : (t : Option (List ℕ)) (o : Option ℕ) (asked : Option Block)
    (part : Option (List ℕ × Bool))
    → codes_of.is_response_code (part_reply t o asked part).code ≡ true
part_responds t o asked None = refl
part_responds t o asked (Some part) = refl

part_other : (t : Option (List ℕ)) (o : Option ℕ) (asked : Option Block)
    (part : Option (List ℕ × Bool))
    → is_code_of_write (part_reply t o asked part).code ≡ false
part_other t o asked None = refl
part_other t o asked (Some part) = refl

part_unobserved : (t : Option (List ℕ)) (asked : Option Block) (part : Option (List ℕ × Bool))
    → stands_in table.observe (part_reply t None asked part).options ≡ false
part_unobserved t asked None = refl
part_unobserved None asked (Some part) = by (answered_block asked part.1)
  where
    by : (b : Option Block) → stands_in table.observe (block2_option b) ≡ false
    by None = refl
    by (Some b) = refl
part_unobserved (Some t) asked (Some part) = by (answered_block asked part.1)
  where
    by : (b : Option Block) → stands_in table.observe (block2_option b) ≡ false
    by None = refl
    by (Some b) = refl

bare_part : (t : Option (List ℕ)) (asked : Option Block) (part : Option (List ℕ × Bool))
    → IsGoodReply (part_reply t None asked part)
    → IsBare (part_reply t None asked part)
bare_part t asked part good = record {
  good = good;
  responds = part_responds t None asked part;
  unobserved = part_unobserved t asked part;
  other = part_other t None asked part;
}

-- the size of a block that is asked for
usable : (m : Message) → szx_of (asked_block m) < 7
usable m = szx-usable (asked_block m) (request-usable m)

-- a block of a body under a tag
bare_body : (current : List ℕ) (m : Message) (whole : List ℕ)
    → length current ≡ 8
    → IsBare (body_reply (Some current) None (asked_block m) whole)
unfolding body_reply
bare_body current m whole short =
    bare_part (Some current) (asked_block m)
    (block_of whole (number_of (asked_block m)) (szx_of (asked_block m)))
    (good_part_reply (Some current) None (asked_block m) whole
    (block_of whole (number_of (asked_block m)) (szx_of (asked_block m))) short (usable m) refl)

bare_discovery : (m : Message) (whole : List ℕ)
    → IsBare (body_reply None None (asked_block m) whole)
unfolding body_reply
bare_discovery m whole =
    bare_part None (asked_block m)
    (block_of whole (number_of (asked_block m)) (szx_of (asked_block m)))
    (good_part_reply None None (asked_block m) whole
    (block_of whole (number_of (asked_block m)) (szx_of (asked_block m))) tt (usable m) refl)

-- a request is answered, and this is noted
one_answer : (rows : List Row) (moment : ℕ) (kind : StepKind) (s : Step) (m : Message)
    (reply : Reply) (notes : List Note)
    → reading s.datagram ≡ Ok m
    → role_of m.kind m.code ≡ role.Request
    → IsReply rows moment kind s m reply notes
    → Dispatches rows moment kind s (answering s m reply notes)
unfolding answering
one_answer rows moment kind s m reply notes read asks h = (answers m reply read asks h refl, tt)

-- by such a reply
one_bare : (rows : List Row) (moment : ℕ) (kind : StepKind) (s : Step) (m : Message)
    (reply : Reply) (notes : List Note)
    → reading s.datagram ≡ Ok m
    → role_of m.kind m.code ≡ role.Request
    → IsBare reply
    → Dispatches rows moment kind s (answering s m reply notes)
one_bare rows moment kind s m reply notes read asks h =
    one_answer rows moment kind s m reply notes read asks
    (of_bare rows moment kind s m reply notes h)

-- ---- steps

-- each kept answer has a tag of eight octets
abbrev pub KeepsTags : List Row → Type 0
KeepsTags rows =
    (moment : ℕ) (name : RequestName) (found : Answer)
    → kept_answer moment name (events rows) ≡ Some found
    → length found.tag ≡ 8

-- a ping is confirmable
ping_con : (kind : Kind4) (code : ℕ) → role_of kind code ≡ role.Ping → is_con kind ≡ true
ping_con kind code is =
    of_empty (code == codes_of.empty) (codes_of.is_request_code code)
    (codes_of.is_response_code code) kind is
  where
    of_request : (k : Kind4) → request_role k ≡ role.Ping → is_con k ≡ true
    of_request Con h = refl
    of_request Non h = absurd (let no : role.Request ≡ role.Ping = h in cc)
    of_request Ack h = absurd (let no : role.Ignored ≡ role.Ping = h in cc)
    of_request Rst h = absurd (let no : role.Ignored ≡ role.Ping = h in cc)

    of_response : (k : Kind4) → response_role k ≡ role.Ping → is_con k ≡ true
    of_response Con h = refl
    of_response Non h = absurd (let no : role.Response ≡ role.Ping = h in cc)
    of_response Ack h = absurd (let no : role.Response ≡ role.Ping = h in cc)
    of_response Rst h = absurd (let no : role.Ignored ≡ role.Ping = h in cc)

    of_bare_kind : (k : Kind4) → empty_role k ≡ role.Ping → is_con k ≡ true
    of_bare_kind Con h = refl
    of_bare_kind Non h = absurd (let no : role.Ignored ≡ role.Ping = h in cc)
    of_bare_kind Ack h = absurd (let no : role.Acknowledgement ≡ role.Ping = h in cc)
    of_bare_kind Rst h = absurd (let no : role.Reset ≡ role.Ping = h in cc)

    of_empty : (a b c : Bool) (k : Kind4)
        → cond a (empty_role k)
        (cond b (request_role k) (cond c (response_role k) role.Ignored))
        ≡ role.Ping
        → is_con k ≡ true
    of_empty true b c k h = of_bare_kind k h
    of_empty false true c k h = of_request k h
    of_empty false false true k h = of_response k h
    of_empty false false false k h = absurd (let no : role.Ignored ≡ role.Ping = h in cc)

-- a test and what holds
with_true : (b : Bool) → (b && true && true) ≡ b
with_true true = refl
with_true false = refl

-- more notes that hold no entry change nothing of what is reported
reported_before : (history : List Entry) (moment : ℕ) (reply : Reply) (notes more : List Note)
    → entries_in more ≡ []
    → IsReported history moment reply notes
    → IsReported history moment reply (notes ++ more)
reported_before history moment reply notes more none h = record {
  responds = h.responds;
  unobserved = h.unobserved;
  located =
      λ e. let it = h.located e in record {
        entry = it.entry;
        params = it.params;
        links = it.links;
        entered =
            entries_in-append notes more
            ∙ (ap (λ es. es ++ entries_in more) it.entered
            ∙ ap (λ es. it.entry ∷ es) none);
        registers = it.registers;
        located = it.located;
      };
}

-- a write as it is heard
write_sends : (rows : List Row) (moment : ℕ) (s : Step) (m : Message)
    → reading s.datagram ≡ Ok m
    → role_of m.kind m.code ≡ role.Request
    → Dispatches rows moment step.Admit s (write_effects (events rows) moment s m)
unfolding write_effects
write_sends rows moment s m read asks = by (repeated moment s.peer m.mid (events rows)) refl
  where
    again : (first : Event)
        → repeated moment s.peer m.mid (events rows) ≡ Some first
        → (octets : Option (List ℕ))
        → settled first.place (events rows) ≡ octets
        → Dispatches rows moment step.Admit s (again_answered s octets)
    again first found None e = tt
    again first found (Some octets) e =
        (repeats m first octets refl read asks found e refl, tt)

    new : (full unproved : Bool)
        → Dispatches rows moment step.Admit s (admitted_unless full unproved (events rows) s m)
    new true unproved =
        one_bare rows moment step.Admit s m
        (diagnostic codes_of.service_unavailable (codes "exchanges")) [] read asks
        (bare_unavailable (codes "exchanges") (omega arith))
    new false true =
        one_bare rows moment step.Admit s m (challenge (next_challenge s.word (events rows)))
        (note.Challenged s.peer (next_challenge s.word (events rows)) ∷ []) read asks
        (bare_challenge (next_challenge s.word (events rows))
        (next_challenge-length s.word (events rows)))
    new false false = tt

    by : (first : Option Event)
        → repeated moment s.peer m.mid (events rows) ≡ first
        → Dispatches rows moment step.Admit s (write_unless first (events rows) moment s m)
    by (Some first) found = again first found (settled first.place (events rows)) refl
    by None found =
        new (is_full_of_exchanges moment (events rows)) (is_unproved (events rows) moment s m)

-- a look
look_sends : (rows : List Row) (kind : StepKind) (moment : ℕ) (s : Step) (m : Message)
    → reading s.datagram ≡ Ok m
    → role_of m.kind m.code ≡ role.Request
    → Dispatches rows moment kind s (look_effects (entries rows) moment s m)
unfolding look_effects look
look_sends rows kind moment s m read asks = by (sought_in m)
  where
    current : List ℕ
    current = tag (entries rows) moment

    short : length (tag (entries rows) moment) ≡ 8
    short = tag-length (entries rows) moment

    long : (b : Bool) (whole : List ℕ)
        → Dispatches rows moment kind s
        (look_sent s m
        (Some (unless_long b m (record { body = whole; tag = tag (entries rows) moment }))))
    long true whole = tt
    long false whole =
        one_bare rows moment kind s m
        (body_reply (Some (tag (entries rows) moment)) None (asked_block m) whole) [] read asks
        (bare_body (tag (entries rows) moment) m whole short)

    valid : (b : Bool) (whole : List ℕ)
        → Dispatches rows moment kind s
        (look_sent s m
        (Some (unless_valid b m (record { body = whole; tag = tag (entries rows) moment }))))
    valid true whole =
        one_bare rows moment kind s m (still_valid (tag (entries rows) moment)) [] read asks
        (bare_valid (tag (entries rows) moment) short)
    valid false whole = long (is_long (asked_block m) whole) whole

    shown : (whole : List ℕ)
        → Dispatches rows moment kind s
        (look_sent s m
        (Some (found_or_not (Some (tag (entries rows) moment)) m (Some whole))))
    shown whole = valid (names_tag (tag (entries rows) moment) m) whole

    of_source : (found : Option (List ℕ))
        → Dispatches rows moment kind s
        (look_sent s m (Some (found_or_not (Some (tag (entries rows) moment)) m found)))
    of_source None = one_bare rows moment kind s m not_live [] read asks bare_not_live
    of_source (Some whole) = shown whole

    by : (o : Option Sought)
        → Dispatches rows moment kind s
        (look_sent s m (option_map (look_for (entries rows) moment m) o))
    by None = tt
    by (Some (listing_of query)) = shown (listing query (entries rows) moment)
    by (Some (source_of number)) = of_source (source number (entries rows) moment)
    by (Some (own_links query)) =
        one_bare rows moment kind s m (body_reply None None (asked_block m) (discovery query)) []
        read asks (bare_discovery m (discovery query))

-- a further block, where each kept answer has a tag of eight octets
later_sends : (rows : List Row) (moment : ℕ) (s : Step) (m : Message)
    → KeepsTags rows
    → reading s.datagram ≡ Ok m
    → role_of m.kind m.code ≡ role.Request
    → Dispatches rows moment step.Admit s (later_block rows moment s m)
unfolding later_block
later_sends rows moment s m tags read asks =
    by (found_now rows moment m) refl (kept_answer moment (s.peer, key_in m) (events rows)) refl
  where
    now_block : (a : Answer)
        → length a.tag ≡ 8
        → (part : Option (List ℕ × Bool))
        → block_of a.body (number_of (asked_block m)) (szx_of (asked_block m)) ≡ part
        → Dispatches rows moment step.Admit s (block_now s m a part)
    now_block a short None cut =
        one_bare rows moment step.Admit s m _ [] read asks
        (bare_part (Some a.tag) (asked_block m) None
        (good_part_reply (Some a.tag) None (asked_block m) a.body None short (usable m) cut))
    now_block a short (Some part) cut =
        one_bare rows moment step.Admit s m _ _ read asks
        (bare_part (Some a.tag) (asked_block m) (Some part)
        (good_part_reply (Some a.tag) None (asked_block m) a.body (Some part) short (usable m)
        cut))

    fresh : (found : Option Answer)
        → found_now rows moment m ≡ found
        → Dispatches rows moment step.Admit s (block_of_found s m found)
    fresh None is = one_bare rows moment step.Admit s m not_live [] read asks bare_not_live
    fresh (Some a) is =
        now_block a
        (ap length (found_KeptAt rows moment m a is).tag_is ∙ tag-length (entries rows) moment)
        (block_of a.body (number_of (asked_block m)) (szx_of (asked_block m))) refl

    by : (found : Option Answer)
        → found_now rows moment m ≡ found
        → (kept : Option Answer)
        → kept_answer moment (s.peer, key_in m) (events rows) ≡ kept
        → Dispatches rows moment step.Admit s (block_of_kept s m found kept)
    by found is (Some kept) e =
        one_bare rows moment step.Admit s m
        (body_reply (Some kept.tag) None (asked_block m) kept.body) _ read asks
        (bare_body kept.tag m kept.body (tags moment (s.peer, key_in m) kept e))
    by found is None e = fresh found is

-- a read of a registration
read_sends : (rows : List Row) (moment : ℕ) (s : Step) (m : Message)
    → KeepsTags rows
    → reading s.datagram ≡ Ok m
    → role_of m.kind m.code ≡ role.Request
    → Dispatches rows moment step.Admit s (read_effects rows moment s m)
unfolding read_effects
read_sends rows moment s m tags read asks = by (is_later_block m)
  where
    by : (b : Bool) → Dispatches rows moment step.Admit s (read_block_effects b rows moment s m)
    by true = later_sends rows moment s m tags read asks
    by false = look_sends rows step.Admit moment s m read asks

-- with Observe or without it is such a body
body_responds : (t : Option (List ℕ)) (o : Option ℕ) (asked : Option Block) (whole : List ℕ)
    → codes_of.is_response_code (body_reply t o asked whole).code ≡ true
unfolding body_reply
body_responds t o asked whole =
    part_responds t o asked (block_of whole (number_of asked) (szx_of asked))

body_other : (t : Option (List ℕ)) (o : Option ℕ) (asked : Option Block) (whole : List ℕ)
    → is_code_of_write (body_reply t o asked whole).code ≡ false
unfolding body_reply
body_other t o asked whole =
    part_other t o asked (block_of whole (number_of asked) (szx_of asked))

-- a lookup that the journal takes part in
lookup_sends : (rows : List Row) (moment : ℕ) (s : Step) (m : Message)
    → KeepsTags rows
    → reading s.datagram ≡ Ok m
    → role_of m.kind m.code ≡ role.Request
    → refusal_of_request m ≡ None
    → is_lookup (path_in m) ≡ true
    → Dispatches rows moment step.Admit s (lookup_effects rows moment s m)
unfolding lookup_effects observed unobserved
lookup_sends rows moment s m tags read asks none looks = by (is_later_block m) refl
  where
    short : length (tag (entries rows) moment) ≡ 8
    short = tag-length (entries rows) moment

    keeps_quiet : (b : Bool) (body : List ℕ)
        → list_any changes_observers
        (cond b (note.Kept s.peer (key_in m) body (tag (entries rows) moment) ∷ []) [])
        ≡ false
    keeps_quiet true body = refl
    keeps_quiet false body = refl

    unobserved_answer :
        Dispatches rows moment step.Admit s (observed_if false rows s m (listing_now rows moment m))
    unobserved_answer =
        one_bare rows moment step.Admit s m
        (body_reply (Some (tag (entries rows) moment)) None (asked_block m)
        (listing_now rows moment m).body) _ read asks
        (bare_body (tag (entries rows) moment) m (listing_now rows moment m).body short)

    other : is_code_of_write (body_reply (Some (tag (entries rows) moment))
        (Some (observe_value (events rows))) (asked_block m)
        (listing_now rows moment m).body).code ≡ false
    other =
        body_other (Some (tag (entries rows) moment)) (Some (observe_value (events rows)))
        (asked_block m) (listing_now rows moment m).body

    with_value : is_later_block m ≡ false
        → observe_in m ≡ Some register
        → (b : Bool)
        → Dispatches rows moment step.Admit s (observed_if b rows s m (listing_now rows moment m))
    with_value first asked true =
        one_answer rows moment step.Admit s m
        (body_reply (Some (tag (entries rows) moment)) (Some (observe_value (events rows)))
        (asked_block m) (listing_now rows moment m).body) _ read asks
        (record {
          good =
              good_body_reply (Some (tag (entries rows) moment))
              (Some (observe_value (events rows))) (asked_block m)
              (listing_now rows moment m).body short (usable m);
          responds =
              body_responds (Some (tag (entries rows) moment))
              (Some (observe_value (events rows))) (asked_block m)
              (listing_now rows moment m).body;
          observed = λ e. record {
            heard = refl;
            unrefused = none;
            lookup = looks;
            registers = asked;
            first = first;
            front = removal (s.peer, m.token) (observers (events rows));
            back =
                note.Formed s.peer m.token (listing_now rows moment m).body None
                ∷ keeping s m (listing_now rows moment m);
            adds = refl;
            quiet =
                keeps_quiet (is_long (asked_block m) (listing_now rows moment m).body)
                (listing_now rows moment m).body;
          };
          commits =
              λ e. absurd (false≢true (sym other ∙ e));
          located =
              λ e. absurd (not_created _ other e);
        })
    with_value first asked false = unobserved_answer

    valued : (value : ℕ) (b c : Bool)
        → is_later_block m ≡ false
        → observe_in m ≡ Some value
        → (value == register) ≡ b
        → Dispatches rows moment step.Admit s
        (observation_effects (observing_by b c) rows moment s m)
    valued value true c first asked is =
        with_value first (asked ∙ ap (λ v. Some v) (eqb-true value register is))
        (has_room_for (query_of m) (without (s.peer, m.token) (observers (events rows))))
    valued value false true first asked is = unobserved_answer
    valued value false false first asked is = look_sends rows step.Admit moment s m read asks

    observe : (o : Option ℕ)
        → is_later_block m ≡ false
        → observe_in m ≡ o
        → Dispatches rows moment step.Admit s (first_block_effects o rows moment s m)
    observe None first asked = look_sends rows step.Admit moment s m read asks
    observe (Some value) first asked =
        valued value (value == register) (value == deregister) first asked refl

    by : (b : Bool)
        → is_later_block m ≡ b
        → Dispatches rows moment step.Admit s (block_effects b rows moment s m)
    by true e = later_sends rows moment s m tags read asks
    by false e = observe (observe_in m) e refl

-- a request that is heard
request_sends : (rows : List Row) (moment : ℕ) (s : Step) (m : Message)
    → KeepsTags rows
    → reading s.datagram ≡ Ok m
    → role_of m.kind m.code ≡ role.Request
    → Dispatches rows moment step.Admit s
    (request_answered (refusal_of_request m) rows moment s m)
unfolding served
request_sends rows moment s m tags read asks = by (refusal_of_request m) refl
  where
    refused : (kind : Kind4) (bad : Option ℕ) (reply : Reply)
        → IsBare reply
        → Dispatches rows moment step.Admit s (refusal_answered kind bad s m reply)
    refused Non (Some number) reply h = tt
    refused Non None reply h = one_bare rows moment step.Admit s m reply [] read asks h
    refused Con bad reply h = one_bare rows moment step.Admit s m reply [] read asks h
    refused Ack bad reply h = one_bare rows moment step.Admit s m reply [] read asks h
    refused Rst bad reply h = one_bare rows moment step.Admit s m reply [] read asks h

    there : (w : Method)
        → Dispatches rows moment step.Admit s (served_on_location w rows moment s m)
    there get = read_sends rows moment s m tags read asks
    there post = write_sends rows moment s m read asks
    there put = write_sends rows moment s m read asks
    there delete = write_sends rows moment s m read asks
    there other_method = tt

    on : (p : Path)
        → refusal_of_request m ≡ None
        → path_in m ≡ p
        → Dispatches rows moment step.Admit s (served p rows moment s m)
    on path.Core none is = look_sends rows step.Admit moment s m read asks
    on path.Res none is = lookup_sends rows moment s m tags read asks none (ap is_lookup is)
    on path.Ep none is = lookup_sends rows moment s m tags read asks none (ap is_lookup is)
    on path.SimpleRd none is = write_sends rows moment s m read asks
    on path.Rd none is = write_sends rows moment s m read asks
    on (path.Location number) none is = there (method_of m.code)
    on path.Other none is = tt

    by : (refusal : Option Reply)
        → refusal_of_request m ≡ refusal
        → Dispatches rows moment step.Admit s (request_answered refusal rows moment s m)
    by (Some refusal) e =
        let h = refusal_reported m refusal e in
        refused m.kind (first_bad_option m.options) refusal
        (record {
          good = good_refusal m refusal e;
          responds = h.0;
          unobserved = h.1;
          other = h.2;
        })
    by None e = on (path_in m) e refl

-- a new token has eight octets
next_short : (past : List Event) → length (next_token past) ≤ 8
unfolding next_token
next_short past = omega arith

-- what is asked for is noted
asks_here : (peer : Peer) (token : List ℕ) (mid : ℕ) (params : RegParams) (b : Option Block)
    (number : ℕ)
    → list_any (is_asking peer (fetch_request mid token b) number)
    (note.Asked peer token mid params number ∷ [])
    ≡ true
asks_here peer token mid params b number =
    rw (
      is_same_peer-refl peer,
      (bytes_eq-Decides token token).1 refl,
      eqb-refl mid,
      eqb-refl number,
    ) refl

-- a commit of a write
commit_sends : (rows : List Row) (moment place : ℕ) (s : Step) (m : Message)
    → reading s.datagram ≡ Ok m
    → role_of m.kind m.code ≡ role.Request
    → Dispatches rows moment (step.Commit place) s (commit_effects rows moment place s m)
unfolding commit_effects answering
commit_sends rows moment place s m read asks = by (path_in m)
  where
    settled_by : (o : Outcome)
        → IsGoodReply o.reply
        → IsReported (entries rows) moment o.reply o.notes
        → Dispatches rows moment (step.Commit place) s (settling place s m o)
    settled_by o good told = (
      answers m o.reply read asks
          (of_reported rows moment place s m o.reply
          (o.notes ++ note.Settled place (spelling (answer s m o.reply)) ∷ []) good
          (reported_before (entries rows) moment o.reply o.notes
          (note.Settled place (spelling (answer s m o.reply)) ∷ []) refl told)) refl,
      tt,
    )

    simple : (running too_many : Bool)
        → Dispatches rows moment (step.Commit place) s
        (simple_unless (fetch_room running too_many) (events rows) place s m)
    simple true too_many =
        one_bare rows moment (step.Commit place) s m
        (diagnostic codes_of.service_unavailable (codes "fetching")) _ read asks
        (bare_unavailable (codes "fetching") (omega arith))
    simple false true =
        one_bare rows moment (step.Commit place) s m
        (diagnostic codes_of.service_unavailable (codes "fetches")) _ read asks
        (bare_unavailable (codes "fetches") (omega arith))
    simple false false = (
      answers m (bare codes_of.changed) read asks
          (record {
            good = good_bare codes_of.changed refl (λ e. absurd (omega (arith, e)));
            responds = refl;
            observed = λ e. absurd (false≢true e);
            commits = λ e. (place, refl);
            located = λ e. absurd (omega (arith, e));
          }) refl,
      (
        fetches_block (mid_of s.worker (s.drawn + drawn_for m.kind)) (next_token (events rows))
            None (next_short (events rows))
            (asks_here s.peer (next_token (events rows))
            (mid_of s.worker (s.drawn + drawn_for m.kind)) (registration_values (queries_in m))
            None 0)
            (starts_running (length rows) moment s.word
            (note.Settled place (spelling (answer s m (bare codes_of.changed))) ∷ []) s.peer
            (next_token (events rows)) (mid_of s.worker (s.drawn + drawn_for m.kind))
            (registration_values (queries_in m)) (events rows)) refl,
        tt,
      ),
    )

    by : (p : Path)
        → Dispatches rows moment (step.Commit place) s (write_done p rows moment place s m)
    by path.Core = tt
    by path.SimpleRd =
        simple (is_fetching s.peer (events rows))
        (nat_le max_fetches (length (fetches (events rows))))
    by path.Rd =
        settled_by (registering rows moment s m) (good_registering rows moment s m)
        (registering_reported rows moment s m)
    by (path.Location number) =
        settled_by (location_outcome (method_of m.code) rows moment s m number)
        (good_location (method_of m.code) rows moment s m number)
        (location_reported (method_of m.code) rows moment s m number)
    by path.Res = tt
    by path.Ep = tt
    by path.Other = tt

-- a response
response_sends : (rows : List Row) (moment : ℕ) (s : Step) (m : Message)
    → reading s.datagram ≡ Ok m
    → role_of m.kind m.code ≡ role.Response
    → Dispatches rows moment step.Admit s (response_effects rows moment s m)
unfolding response_effects
response_sends rows moment s m read responds = by (fetch_of s m (events rows)) refl
  where
    is_out : (k : Kind4)
        → m.kind ≡ k
        → fetch_of s m (events rows) ≡ None
        → is_rejected rows s m.mid (reading s.datagram) ≡ is_con k
    is_out k is none =
        ap (is_rejected rows s m.mid) read
        ∙ rw (responds, none, is, eqb-refl m.mid) (with_true (is_con k))

    foreign : (k : Kind4)
        → m.kind ≡ k
        → fetch_of s m (events rows) ≡ None
        → Dispatches rows moment step.Admit s (strange s m k)
    foreign Con is none = (rejects m.mid refl (is_out Con is none) refl, tt)
    foreign Non is none = tt
    foreign Ack is none = tt
    foreign Rst is none = tt

    is_in : (request : Request) (k : Kind4)
        → m.kind ≡ k
        → fetch_of s m (events rows) ≡ Some request
        → is_acknowledged rows s m.mid (reading s.datagram) ≡ is_con k
    is_in request k is found =
        ap (is_acknowledged rows s m.mid) read
        ∙ rw (responds, found, is, eqb-refl m.mid) (with_true (is_con k))

    acks : (request : Request) (notes : List Note) (k : Kind4)
        → m.kind ≡ k
        → fetch_of s m (events rows) ≡ Some request
        → AreDispatches rows moment step.Admit s notes (acknowledgement s m k).sent
    acks request notes Con is found =
        (acknowledges m.mid refl (is_in request Con is found) refl, tt)
    acks request notes Non is found = tt
    acks request notes Ack is found = tt
    acks request notes Rst is found = tt

    gathers : (more : Bool) (b : Option Block) (request : Request)
        → fetch_of s m (events rows) ≡ Some request
        → Dispatches rows moment step.Admit s (gathering more b rows moment s m request)
    gathers more None request found = tt
    gathers false (Some b) request found = tt
    gathers true (Some b) request found =
        let it : IsOfFetch s m (events rows) request =
        fetch_found s m (events rows) request found in (
          fetches_block (mid_of s.worker s.drawn) request.token
              (Some (record { num = b.num + 1; more = false; szx = b.szx }))
              (subst (λ (t : List ℕ). length t ≤ 8) it.token (header_read s.datagram m read).token)
              (asks_here s.peer request.token (mid_of s.worker s.drawn) request.params
              (Some (record { num = b.num + 1; more = false; szx = b.szx })) (b.num + 1))
              (goes_on_running (length rows) moment s.word s.peer m.payload (tag_in m)
              request.token (mid_of s.worker s.drawn) request.params b.num (events rows)
              it.runs) refl,
          tt,
        )

    taken : (elsewhere over : Bool) (request : Request)
        → fetch_of s m (events rows) ≡ Some request
        → Dispatches rows moment step.Admit s
        (response_taken (response_use elsewhere over) rows moment s m request)
    taken true over request found = tt
    taken false true request found = tt
    taken false false request found = gathers (more_follow (block_in m)) (block_in m) request found

    silent : (k : Kind4) → (acknowledgement s m k).notes ≡ []
    silent Con = refl
    silent Non = refl
    silent Ack = refl
    silent Rst = refl

    by : (o : Option Request)
        → fetch_of s m (events rows) ≡ o
        → Dispatches rows moment step.Admit s (response_to_request o rows moment s m)
    by None e = foreign m.kind refl e
    by (Some request) e =
        let notes : List Note =
        (acknowledgement s m m.kind).notes ++ (response_to rows moment s m request).notes in
        let same : (response_to rows moment s m request).notes ≡ notes =
        ap (λ front. front ++ (response_to rows moment s m request).notes)
        (sym (silent m.kind)) in
        each_append (IsDispatch rows moment step.Admit s notes) (acknowledgement s m m.kind).sent
        (response_to rows moment s m request).sent (acks request notes m.kind refl e)
        (subst (λ ns. AreDispatches rows moment step.Admit s ns
        (response_to rows moment s m request).sent) same
        (taken (is_elsewhere (block_in m) (length (collected s.peer (events rows))))
        (ends_fetch m (gathered s.peer (events rows))
        (length (collected s.peer (events rows)))) request e))

-- a message that is heard
role_sends : (r : Role) (starved : Bool) (rows : List Row) (moment : ℕ) (s : Step) (m : Message)
    → KeepsTags rows
    → reading s.datagram ≡ Ok m
    → role_of m.kind m.code ≡ r
    → Dispatches rows moment step.Admit s (message_effects r starved rows moment s m)
unfolding acknowledged reset
role_sends role.Ping starved rows moment s m tags read is =
    (rejects m.mid refl (pinged m.kind refl) refl, tt)
  where
    pinged : (k : Kind4)
        → m.kind ≡ k
        → is_rejected rows s m.mid (reading s.datagram) ≡ true
    pinged k same =
        ap (is_rejected rows s m.mid) read
        ∙ rw (is, ping_con m.kind m.code is, eqb-refl m.mid) refl
role_sends role.Acknowledgement starved rows moment s m tags read is = tt
role_sends role.Reset starved rows moment s m tags read is = tt
role_sends role.Request true rows moment s m tags read is =
    one_bare rows moment step.Admit s m (bare codes_of.internal_server_error) [] read is
    bare_starved
role_sends role.Request false rows moment s m tags read is =
    request_sends rows moment s m tags read is
role_sends role.Response true rows moment s m tags read is = tt
role_sends role.Response false rows moment s m tags read is =
    response_sends rows moment s m read is
role_sends role.Ignored starved rows moment s m tags read is = tt

-- what is no message
unread_sends : (rows : List Row) (moment : ℕ) (s : Step) (fault : Unread)
    → reading s.datagram ≡ Err fault
    → Dispatches rows moment step.Admit s (unread_answered s fault)
unread_sends rows moment s unread.Short e = tt
unread_sends rows moment s unread.Version e = tt
unread_sends rows moment s (unread.Format Con mid) e =
    (rejects mid refl (ap (is_rejected rows s mid) e ∙ eqb-refl mid) refl, tt)
unread_sends rows moment s (unread.Format Non mid) e = tt
unread_sends rows moment s (unread.Format Ack mid) e = tt
unread_sends rows moment s (unread.Format Rst mid) e = tt

-- any step but a tick
pub effects_dispatch : (kind : StepKind) (starved : Bool) (rows : List Row) (moment : ℕ) (s : Step)
    → IsNoTick kind
    → ((m : Message) → reading s.datagram ≡ Ok m → IsForRequest kind m)
    → KeepsTags rows
    → Dispatches rows moment kind s (effects kind starved rows moment s)
unfolding effects keep_effects
effects_dispatch step.Admit starved rows moment s no_tick fair tags = by (reading s.datagram) refl
  where
    by : (read : Result Message Unread)
        → reading s.datagram ≡ read
        → Dispatches rows moment step.Admit s (heard starved rows moment s read)
    by (Err fault) e = unread_sends rows moment s fault e
    by (Ok m) e = role_sends (role_of m.kind m.code) starved rows moment s m tags e refl
effects_dispatch step.Look starved rows moment s no_tick fair tags =
    by starved (reading s.datagram) refl
  where
    by : (b : Bool) (read : Result Message Unread)
        → reading s.datagram ≡ read
        → Dispatches rows moment step.Look s (looked b (entries rows) moment s read)
    by b (Err fault) e = tt
    by true (Ok m) e =
        one_bare rows moment step.Look s m (bare codes_of.internal_server_error) [] e (fair m e)
        bare_starved
    by false (Ok m) e = look_sends rows step.Look moment s m e (fair m e)
effects_dispatch (step.Commit place) starved rows moment s no_tick fair tags =
    by starved (reading s.datagram) refl
  where
    by : (b : Bool) (read : Result Message Unread)
        → reading s.datagram ≡ read
        → Dispatches rows moment (step.Commit place) s (done b rows moment place s read)
    by b (Err fault) e = tt
    by true (Ok m) e =
        one_bare rows moment (step.Commit place) s m (bare codes_of.internal_server_error)
        (note.Failed place ∷ []) e (fair m e) bare_starved
    by false (Ok m) e = commit_sends rows moment place s m e (fair m e)
effects_dispatch (step.Keep body current) starved rows moment s no_tick fair tags =
    by starved (reading s.datagram) refl
  where
    by : (b : Bool) (read : Result Message Unread)
        → reading s.datagram ≡ read
        → Dispatches rows moment (step.Keep body current) s (kept_body b s read body current)
    by b (Err fault) e = tt
    by true (Ok m) e =
        one_bare rows moment (step.Keep body current) s m (bare codes_of.internal_server_error) []
        e (fair m e).0 bare_starved
    by false (Ok m) e =
        one_bare rows moment (step.Keep body current) s m
        (body_reply (Some current) None (asked_block m) body) _ e (fair m e).0
        (bare_body current m body (fair m e).1)
effects_dispatch step.Tick starved rows moment s no_tick fair tags = absurd no_tick
effects_dispatch (step.Begin first) starved rows moment s no_tick fair tags =
    subst (AreDispatches rows moment (step.Begin first) s
    (effects (step.Begin first) starved rows moment s).notes)
    (sym (beginning-sent starved (entries rows) moment s first)) tt
