-- Which steps send a request: the commit of a simple registration, and the row of a response to a
-- fetch, both to the peer of the step; a tick sends one again that an earlier row sent.
use Rattle.std.proofs.Common.{
  ◌≡◌,
  ◌⊎◌,
  inl,
  inr,
  ℕ,
  ◌+◌,
  ◌==◌,
  ◌||◌,
  Bool,
  true,
  false,
  List,
  [],
  ◌∷◌,
  length,
  fold,
  Option,
  Some,
  None,
  option_map,
  nat_le,
  Result,
  Ok,
  Err,
  refl,
  sym,
  subst,
  ◌∙◌,
}
use Rattle.std.specs.List.{AllByRecursion}
use Rattle.std.proofs.lemmas.Bool.{and_parts, false≢true}
use Rattle.rd_base.specs.declared.peers.Peer.{Peer}
use Rattle.rd_base.proofs.lemmas.Each.{each_append, each_weaker}
use Rattle.message_model.specs.declared.blocks.Block.{Block}
use Rattle.message_model.specs.declared.messages.Kind4.{Kind4}
use Rattle.message_model.specs.declared.messages.Kind4.TheVariants.{Con, Non, Ack, Rst}
use Rattle.message_model.specs.declared.messages.Role.{Role}
use Rattle.message_model.specs.declared.messages.Role.TheVariants as role
use Rattle.message_model.specs.declared.messages.Unread.{Unread}
use Rattle.message_model.specs.declared.requests.Path.{Path}
use Rattle.message_model.specs.declared.requests.Path.TheVariants as path
use Rattle.message_model.specs.Codes as codes_of
use Rattle.message_model.specs.Message.{Message, role_of}
use Rattle.message_model.specs.OptionTable.{first_bad_option}
use Rattle.message_model.specs.Blocks.{block_of}
use Rattle.message_model.specs.Reading.{reading}
use Rattle.message_model.specs.Request.{path_in, observe_in}
use Rattle.message_model.specs.RequestKey.{key_in}
use Rattle.message_model.specs.Responses.{block_in, is_elsewhere}
use Rattle.message_model.specs.Spelling.{header_spelling, spelling}
use Rattle.record_model.specs.Discovery.{discovery}
use Rattle.history_model.specs.declared.entries.Entry.{Entry}
use Rattle.history_model.specs.Listing.{listing, tag}
use Rattle.history_model.specs.Sources.{source}
use Rattle.event_model.specs.declared.notes.Note.{Note}
use Rattle.event_model.specs.declared.notes.Note.TheVariants as note
use Rattle.event_model.specs.declared.notes.Observer.{Observer}
use Rattle.event_model.specs.Events.{Event}
use Rattle.event_model.specs.Repeats.{repeated, settled, is_full_of_exchanges}
use Rattle.event_model.specs.KeptAnswers.{Answer, kept_answer}
use Rattle.event_model.specs.Observers.{
  name_of,
  observers,
  has_room_for,
  observe_value,
  last_body_formed,
}
use Rattle.event_model.specs.Flights.{Flight, max_again, deadline, flight}
use Rattle.event_model.specs.Fetches.{
  Request,
  max_fetches,
  fetches,
  is_fetching,
  gathered,
  collected,
  last_request,
  request_noted,
  is_waiting,
  resendings,
  fetch_deadline,
  next_token,
}
use Rattle.journal_model.specs.declared.steps.Step.{Step}
use Rattle.journal_model.specs.declared.steps.StepKind.{StepKind}
use Rattle.journal_model.specs.declared.steps.StepKind.TheVariants as step
use Rattle.journal_model.specs.declared.rows.Row.{Row}
use Rattle.journal_model.specs.Journal.{events, entries, row_at}
use Rattle.journal_model.specs.Effects.{Effects, Reply, bare, answer, answering, mid_of, drawn_for}
use Rattle.journal_model.specs.Bodies.{is_long, part_reply, body_reply}
use Rattle.journal_model.specs.Requests.{
  Method,
  get,
  post,
  put,
  delete,
  other_method,
  method_of,
  refusal_of_request,
  asked_block,
  number_of,
  szx_of,
  query_of,
  is_later_block,
  register,
  deregister,
}
use Rattle.journal_model.specs.Sought.{Sought, listing_of, source_of, own_links, sought_in}
use Rattle.journal_model.specs.Looks.{
  names_tag,
  unless_long,
  unless_valid,
  not_live,
  found_or_not,
  look_for,
  look,
  look_sent,
  look_effects,
  looked,
  keep_effects,
}
use Rattle.journal_model.specs.Lookups.{
  listing_now,
  found_now,
  block_now,
  block_of_found,
  block_of_kept,
  later_block,
  without,
  observed_if,
  observed,
  unobserved,
  observation_effects,
  first_block_effects,
  block_effects,
  lookup_effects,
  read_block_effects,
  read_effects,
  observing_by,
}
use Rattle.journal_model.specs.Writes.{
  again_answered,
  is_unproved,
  admitted_unless,
  write_unless,
  write_effects,
}
use Rattle.journal_model.specs.Changes.{Outcome}
use Rattle.journal_model.specs.Registrations.{registering}
use Rattle.journal_model.specs.Commits.{
  settling,
  simple_unless,
  location_outcome,
  write_done,
  commit_effects,
  fetch_room,
}
use Rattle.journal_model.specs.EmptyMessages.{acknowledged, reset}
use Rattle.journal_model.specs.Responses.{
  fetch_of,
  strange,
  acknowledgement,
  more_follow,
  ends_fetch,
  gathering,
  response_taken,
  response_to,
  response_to_request,
  response_effects,
  response_use,
}
use Rattle.journal_model.specs.Ticks.{
  confirmable_sent,
  sent_again,
  notification_again,
  flight_again,
  notifications_again,
  ticking,
  events_with,
  block_shown,
  is_unchanged,
  notified_unless,
  listing_for,
  notified_if,
  is_looked_at,
  notification_next,
  notifications,
  request_again,
  fetch_again,
  requests_again,
  tick_effects,
  due_by,
}
use Rattle.journal_model.specs.Rows.{
  served_on_location,
  served,
  request_answered,
  message_effects,
  heard,
  done,
  kept_body,
  effects,
}
use Rattle.journal_model.specs.PlacedRows.{code_at}
use Rattle.journal_model.specs.FetchCompletions.{AnswersFetch}
use Rattle.journal_model.proofs.NoteKinds.{
  of_lookup,
  of_write,
  of_empty,
  of_tick,
  of_response,
  are,
}
use Rattle.journal_model.proofs.StepNotes.{
  keep_effects-notes,
  lookup_effects-notes,
  read_effects-notes,
  write_effects-notes,
  tick_effects-notes,
}
use Rattle.journal_model.proofs.notes.BeginNotes.{beginning-notes, beginning-sent}
use Rattle.journal_model.proofs.notes.ChangeNotes.{
  registering-notes,
  location-notes,
  response_effects-notes,
}
use Rattle.journal_model.proofs.notes.StepTable.{StepNoted, effects-StepNoted}
use Rattle.journal_model.proofs.notes.StepTable as noted
use Rattle.journal_model.proofs.observers.ObserversKnow.{IsNoTick}
use Rattle.journal_model.proofs.sends.TickSends.{sent_by-FoundSent, each_of_sent, again_sent}
use Rattle.headline_law.specs.EchoedFirst.{IsFetchRequest}
use Rattle.headline_law.proofs.origins.ReplyCodes.{
  IsReplyCode,
  IsReply,
  AreReplies,
  spelled_replies,
  answering_replies,
  refusal_replies,
  refused_replies,
  starved_replies,
  unread_replies,
  change_replies,
  registering_replies,
  replacing_replies,
}

-- ---- bodies, looks and lookups: none sends a request

part_replies : (current : Option (List ℕ)) (observe : Option ℕ) (asked : Option Block)
    (part : Option (List ℕ × Bool))
    → IsReplyCode (part_reply current observe asked part).code
part_replies current observe asked None = refl
part_replies current observe asked (Some part) = refl

body_replies : (current : Option (List ℕ)) (observe : Option ℕ) (asked : Option Block)
    (body : List ℕ)
    → IsReplyCode (body_reply current observe asked body).code
unfolding body_reply
body_replies current observe asked body =
    part_replies current observe asked (block_of body (number_of asked) (szx_of asked))

look_replies : (history : List Entry) (moment : ℕ) (s : Step) (m : Message)
    → AreReplies (look_effects history moment s m).sent
unfolding look_effects look
look_replies history moment s m = by (sought_in m)
  where
    long : (b : Bool) (found : Answer)
        → AreReplies (look_sent s m (Some (unless_long b m found))).sent
    long true found = tt
    long false found =
        answering_replies s m (body_reply (Some found.tag) None (asked_block m) found.body) []
        (body_replies (Some found.tag) None (asked_block m) found.body)

    valid : (b : Bool) (found : Answer)
        → AreReplies (look_sent s m (Some (unless_valid b m found))).sent
    valid true found = answering_replies s m _ [] refl
    valid false found = long (is_long (asked_block m) found.body) found

    shown : (whole : List ℕ)
        → AreReplies
        (look_sent s m (Some (found_or_not (Some (tag history moment)) m (Some whole)))).sent
    shown whole =
        valid (names_tag (tag history moment) m)
        (record { body = whole; tag = tag history moment })

    of_source : (found : Option (List ℕ))
        → AreReplies (look_sent s m (Some (found_or_not (Some (tag history moment)) m found))).sent
    of_source None = answering_replies s m not_live [] refl
    of_source (Some whole) = shown whole

    by : (o : Option Sought)
        → AreReplies (look_sent s m (option_map (look_for history moment m) o)).sent
    by None = tt
    by (Some (listing_of query)) = shown (listing query history moment)
    by (Some (source_of number)) = of_source (source number history moment)
    by (Some (own_links query)) =
        answering_replies s m (body_reply None None (asked_block m) (discovery query)) []
        (body_replies None None (asked_block m) (discovery query))

later_replies : (rows : List Row) (moment : ℕ) (s : Step) (m : Message)
    → AreReplies (later_block rows moment s m).sent
unfolding later_block
later_replies rows moment s m =
    by (found_now rows moment m) (kept_answer moment (s.peer, key_in m) (events rows))
  where
    now_block : (a : Answer) (part : Option (List ℕ × Bool))
        → AreReplies (block_now s m a part).sent
    now_block a None = answering_replies s m _ [] refl
    now_block a (Some part) = answering_replies s m _ _ refl

    fresh : (found : Option Answer) → AreReplies (block_of_found s m found).sent
    fresh None = answering_replies s m not_live [] refl
    fresh (Some a) =
        now_block a (block_of a.body (number_of (asked_block m)) (szx_of (asked_block m)))

    by : (found kept : Option Answer) → AreReplies (block_of_kept s m found kept).sent
    by found (Some a) =
        answering_replies s m (body_reply (Some a.tag) None (asked_block m) a.body) _
        (body_replies (Some a.tag) None (asked_block m) a.body)
    by found None = fresh found

read_replies : (rows : List Row) (moment : ℕ) (s : Step) (m : Message)
    → AreReplies (read_effects rows moment s m).sent
unfolding read_effects
read_replies rows moment s m = by (is_later_block m)
  where
    by : (b : Bool) → AreReplies (read_block_effects b rows moment s m).sent
    by true = later_replies rows moment s m
    by false = look_replies (entries rows) moment s m

lookup_replies : (rows : List Row) (moment : ℕ) (s : Step) (m : Message)
    → AreReplies (lookup_effects rows moment s m).sent
unfolding lookup_effects observed unobserved
lookup_replies rows moment s m = by (is_later_block m)
  where
    with_value : (b : Bool) → AreReplies (observed_if b rows s m (listing_now rows moment m)).sent
    with_value true =
        answering_replies s m
        (body_reply (Some (tag (entries rows) moment)) (Some (observe_value (events rows)))
        (asked_block m) (listing_now rows moment m).body) _
        (body_replies (Some (tag (entries rows) moment)) (Some (observe_value (events rows)))
        (asked_block m) (listing_now rows moment m).body)
    with_value false =
        answering_replies s m (body_reply (Some (tag (entries rows) moment)) None (asked_block m)
        (listing_now rows moment m).body) _
        (body_replies (Some (tag (entries rows) moment)) None (asked_block m)
        (listing_now rows moment m).body)

    valued : (b c : Bool)
        → AreReplies (observation_effects (observing_by b c) rows moment s m).sent
    valued true c =
        with_value (has_room_for (query_of m) (without (s.peer, m.token) (observers (events rows))))
    valued false true = with_value false
    valued false false = look_replies (entries rows) moment s m

    observe : (o : Option ℕ) → AreReplies (first_block_effects o rows moment s m).sent
    observe None = look_replies (entries rows) moment s m
    observe (Some value) = valued (value == register) (value == deregister)

    by : (b : Bool) → AreReplies (block_effects b rows moment s m).sent
    by true = later_replies rows moment s m
    by false = observe (observe_in m)

-- ---- writes as they are heard

-- the octets that an admission was answered with are no request
abbrev pub SettledReplies : List Event → Type 0
SettledReplies events =
    (place : ℕ) (octets : List ℕ) → settled place events ≡ Some octets → IsReply octets

write_replies : (events : List Event) (moment : ℕ) (s : Step) (m : Message)
    → SettledReplies events
    → AreReplies (write_effects events moment s m).sent
unfolding write_effects
write_replies events moment s m before = by (repeated moment s.peer m.mid events)
  where
    again : (place : ℕ) (octets : Option (List ℕ))
        → settled place events ≡ octets
        → AreReplies (again_answered s octets).sent
    again place None e = tt
    again place (Some octets) e = (before place octets e, tt)

    new : (full unproved : Bool) → AreReplies (admitted_unless full unproved events s m).sent
    new true unproved = answering_replies s m _ [] refl
    new false true = answering_replies s m _ _ refl
    new false false = tt

    by : (first : Option Event) → AreReplies (write_unless first events moment s m).sent
    by (Some first) = again first.place (settled first.place events) refl
    by None = new (is_full_of_exchanges moment events) (is_unproved events moment s m)

-- a request that is heard
request_replies : (rows : List Row) (moment : ℕ) (s : Step) (m : Message)
    → SettledReplies (events rows)
    → AreReplies (request_answered (refusal_of_request m) rows moment s m).sent
unfolding served
request_replies rows moment s m before = by (refusal_of_request m) refl
  where
    there : (w : Method) → AreReplies (served_on_location w rows moment s m).sent
    there get = read_replies rows moment s m
    there post = write_replies (events rows) moment s m before
    there put = write_replies (events rows) moment s m before
    there delete = write_replies (events rows) moment s m before
    there other_method = tt

    on : (p : Path) → AreReplies (served p rows moment s m).sent
    on path.Core = look_replies (entries rows) moment s m
    on path.Res = lookup_replies rows moment s m
    on path.Ep = lookup_replies rows moment s m
    on path.SimpleRd = write_replies (events rows) moment s m before
    on path.Rd = write_replies (events rows) moment s m before
    on (path.Location number) = there (method_of m.code)
    on path.Other = tt

    by : (refusal : Option Reply)
        → refusal_of_request m ≡ refusal
        → AreReplies (request_answered refusal rows moment s m).sent
    by (Some refusal) e =
        refused_replies m.kind (first_bad_option m.options) s m refusal
        (refusal_replies m refusal e)
    by None e = on (path_in m)

-- ---- requests

-- the step commits a simple registration
pub record CommitsSimple (s : Step) : Type 0 where
  pub place : ℕ
  pub commits : s.kind ≡ step.Commit place
  pub message : Message
  pub read : reading s.datagram ≡ Ok message
  pub simple : path_in message ≡ path.SimpleRd

-- a request that a step sends: a GET to its peer, for a simple registration or for a response
pub record AsksPeer (rows : List Row) (s : Step) (d : Peer × List ℕ) : Type 0 where
  pub method : code_at d.1 ≡ codes_of.get
  pub request : IsFetchRequest d.1
  pub to : d.0 ≡ s.peer
  pub why : CommitsSimple s ⊎ AnswersFetch rows s

-- what a step may send: no request, or such a one
abbrev pub MaySend : List Row → Step → Peer × List ℕ → Type 0
MaySend rows s d = codes_of.is_request_code (code_at d.1) ≡ true → AsksPeer rows s d

replies_may : (rows : List Row) (s : Step) (sent : List (Peer × List ℕ))
    → AreReplies sent
    → AllByRecursion (MaySend rows s) sent
replies_may rows s sent all =
    each_weaker (λ (d : Peer × List ℕ). IsReply d.1) (MaySend rows s)
    (λ d good asks. absurd (false≢true (sym good ∙ asks))) sent all

-- the octets that a note settles are no request
abbrev pub SettlesReply : Note → Type 0
SettlesReply (note.Settled place octets) = IsReply octets
SettlesReply _ = Unit {0}

-- a write on a registration
location_replies : (w : Method) (rows : List Row) (moment : ℕ) (s : Step) (m : Message) (number : ℕ)
    → IsReplyCode (location_outcome w rows moment s m number).reply.code
location_replies get rows moment s m number = refl
location_replies post rows moment s m number = change_replies (entries rows) _ _ refl
location_replies put rows moment s m number = replacing_replies rows moment s m number
location_replies delete rows moment s m number = change_replies (entries rows) _ _ refl
location_replies other_method rows moment s m number = refl

-- a commit
pub commit_may : (rows : List Row) (moment place : ℕ) (s : Step) (m : Message)
    → s.kind ≡ step.Commit place
    → reading s.datagram ≡ Ok m
    → AllByRecursion (MaySend rows s) (commit_effects rows moment place s m).sent
unfolding commit_effects answering spelling header_spelling
commit_may rows moment place s m here read = by (path_in m) refl
  where
    settles : (done : Outcome)
        → IsReplyCode done.reply.code
        → AllByRecursion (MaySend rows s) (settling place s m done).sent
    settles done good =
        replies_may rows s (settling place s m done).sent
        (answering_replies s m done.reply [] good)

    simple : (running too_many : Bool)
        → path_in m ≡ path.SimpleRd
        → AllByRecursion (MaySend rows s)
        (simple_unless (fetch_room running too_many) (events rows) place s m).sent
    simple true too_many at = ((λ e. absurd (false≢true e)), tt)
    simple false true at = ((λ e. absurd (false≢true e)), tt)
    simple false false at = (
      (λ e. absurd (false≢true e)),
      (
        (λ e. record {
          method = refl;
          request = record {
            mid = mid_of s.worker (s.drawn + drawn_for m.kind);
            token = next_token (events rows);
            block = None;
            octets_are = refl;
          };
          to = refl;
          why = inl (record {
            place = place;
            commits = here;
            message = m;
            read = read;
            simple = at;
          });
        }),
        tt,
      ),
    )

    by : (p : Path)
        → path_in m ≡ p
        → AllByRecursion (MaySend rows s) (write_done p rows moment place s m).sent
    by path.Core at = tt
    by path.SimpleRd at =
        simple (is_fetching s.peer (events rows))
        (nat_le max_fetches (length (fetches (events rows)))) at
    by path.Rd at = settles (registering rows moment s m) (registering_replies rows moment s m)
    by (path.Location number) at =
        settles (location_outcome (method_of m.code) rows moment s m number)
        (location_replies (method_of m.code) rows moment s m number)
    by path.Res at = tt
    by path.Ep at = tt
    by path.Other at = tt

-- a response
response_may : (rows : List Row) (moment : ℕ) (s : Step) (m : Message)
    → s.kind ≡ step.Admit
    → reading s.datagram ≡ Ok m
    → role_of m.kind m.code ≡ role.Response
    → AllByRecursion (MaySend rows s) (response_effects rows moment s m).sent
unfolding response_effects spelling header_spelling
response_may rows moment s m here read responds = by (fetch_of s m (events rows)) refl
  where
    foreign : (k : Kind4) → AllByRecursion (MaySend rows s) (strange s m k).sent
    foreign Con = ((λ e. absurd (false≢true e)), tt)
    foreign Non = tt
    foreign Ack = tt
    foreign Rst = tt

    acknowledges : (k : Kind4) → AllByRecursion (MaySend rows s) (acknowledgement s m k).sent
    acknowledges Con = ((λ e. absurd (false≢true e)), tt)
    acknowledges Non = tt
    acknowledges Ack = tt
    acknowledges Rst = tt

    gathers : (more : Bool) (b : Option Block) (request : Request)
        → fetch_of s m (events rows) ≡ Some request
        → AllByRecursion (MaySend rows s) (gathering more b rows moment s m request).sent
    gathers more None request is = tt
    gathers false (Some b) request is = tt
    gathers true (Some b) request is = (
      (λ e. record {
        method = refl;
        request = record {
          mid = mid_of s.worker s.drawn;
          token = request.token;
          block = Some (record { num = b.num + 1; more = false; szx = b.szx });
          octets_are = refl;
        };
        to = refl;
        why = inr (record {
          kind = here;
          message = m;
          read = read;
          response = responds;
          request = request;
          fetch = is;
        });
      }),
      tt,
    )

    taken : (elsewhere over : Bool) (request : Request)
        → fetch_of s m (events rows) ≡ Some request
        → AllByRecursion (MaySend rows s)
        (response_taken (response_use elsewhere over) rows moment s m request).sent
    taken true over request is = tt
    taken false true request is = tt
    taken false false request is = gathers (more_follow (block_in m)) (block_in m) request is

    by : (request : Option Request)
        → fetch_of s m (events rows) ≡ request
        → AllByRecursion (MaySend rows s) (response_to_request request rows moment s m).sent
    by None is = foreign m.kind
    by (Some request) is =
        each_append (MaySend rows s) (acknowledgement s m m.kind).sent
        (response_to rows moment s m request).sent (acknowledges m.kind)
        (taken (is_elsewhere (block_in m) (length (collected s.peer (events rows))))
        (ends_fetch m (gathered s.peer (events rows)) (length (collected s.peer (events rows))))
        request is)

-- a message that is heard
role_may : (r : Role) (starved : Bool) (rows : List Row) (moment : ℕ) (s : Step) (m : Message)
    → SettledReplies (events rows)
    → s.kind ≡ step.Admit
    → reading s.datagram ≡ Ok m
    → role_of m.kind m.code ≡ r
    → AllByRecursion (MaySend rows s) (message_effects r starved rows moment s m).sent
unfolding acknowledged reset spelling header_spelling
role_may role.Ping starved rows moment s m before here read is =
    ((λ e. absurd (false≢true e)), tt)
role_may role.Acknowledgement starved rows moment s m before here read is = tt
role_may role.Reset starved rows moment s m before here read is = tt
role_may role.Request true rows moment s m before here read is =
    replies_may rows s _ (starved_replies s m)
role_may role.Request false rows moment s m before here read is =
    replies_may rows s _ (request_replies rows moment s m before)
role_may role.Response true rows moment s m before here read is = tt
role_may role.Response false rows moment s m before here read is =
    response_may rows moment s m here read is
role_may role.Ignored starved rows moment s m before here read is = tt

-- any step but a tick
pub effects_may : (kind : StepKind) (starved : Bool) (rows : List Row) (moment : ℕ) (s : Step)
    → s.kind ≡ kind
    → IsNoTick kind
    → SettledReplies (events rows)
    → AllByRecursion (MaySend rows s) (effects kind starved rows moment s).sent
unfolding effects keep_effects
effects_may step.Admit starved rows moment s is no_tick before = by (reading s.datagram) refl
  where
    by : (read : Result Message Unread)
        → reading s.datagram ≡ read
        → AllByRecursion (MaySend rows s) (heard starved rows moment s read).sent
    by (Err fault) e = replies_may rows s _ (unread_replies s fault)
    by (Ok m) e = role_may (role_of m.kind m.code) starved rows moment s m before is e refl
effects_may step.Look starved rows moment s is no_tick before = by starved (reading s.datagram)
  where
    by : (b : Bool) (read : Result Message Unread)
        → AllByRecursion (MaySend rows s) (looked b (entries rows) moment s read).sent
    by b (Err fault) = tt
    by true (Ok m) = replies_may rows s _ (starved_replies s m)
    by false (Ok m) = replies_may rows s _ (look_replies (entries rows) moment s m)
effects_may (step.Commit place) starved rows moment s is no_tick before =
    by starved (reading s.datagram) refl
  where
    by : (b : Bool) (read : Result Message Unread)
        → reading s.datagram ≡ read
        → AllByRecursion (MaySend rows s) (done b rows moment place s read).sent
    by b (Err fault) e = tt
    by true (Ok m) e =
        replies_may rows s _
        (answering_replies s m (bare codes_of.internal_server_error) (note.Failed place ∷ []) refl)
    by false (Ok m) e = commit_may rows moment place s m is e
effects_may (step.Keep body current) starved rows moment s is no_tick before =
    by starved (reading s.datagram)
  where
    by : (b : Bool) (read : Result Message Unread)
        → AllByRecursion (MaySend rows s) (kept_body b s read body current).sent
    by b (Err fault) = tt
    by true (Ok m) = replies_may rows s _ (starved_replies s m)
    by false (Ok m) =
        replies_may rows s _
        (answering_replies s m (body_reply (Some current) None (asked_block m) body) _
        (body_replies (Some current) None (asked_block m) body))
effects_may step.Tick starved rows moment s is no_tick before = absurd no_tick
effects_may (step.Begin first) starved rows moment s is no_tick before =
    subst (AllByRecursion (MaySend rows s)) (sym (beginning-sent starved (entries rows) moment s
    first)) tt

-- ---- ticks

-- whatever holds of what is no request, and of what earlier rows sent, holds of what a tick sends
pub tick_sends_only : (P : Peer × List ℕ → Type 0) (starved : Bool) (rows : List Row) (moment : ℕ)
    (s : Step)
    → ((d : Peer × List ℕ) → IsReply d.1 → P d)
    → ((place : ℕ) (r : Row) → row_at place rows ≡ Some r → AllByRecursion P r.sent)
    → AllByRecursion P (tick_effects starved rows moment s).sent
unfolding tick_effects notifications_again requests_again notifications spelling header_spelling
tick_sends_only P starved rows moment s replies past = by starved
  where
    again_one : (place : ℕ) (peer : Peer) (mid : ℕ) (n : Note)
        → AllByRecursion P (sent_again (confirmable_sent (row_at place rows) peer mid) n).sent
    again_one place peer mid n =
        again_sent P (confirmable_sent (row_at place rows) peer mid) n
        (λ d found. (sent_by-FoundSent P (row_at place rows) peer mid d
        (λ r at. past place r at) found).holds)

    notified_again : (b c : Bool) (o : Observer) (f : Flight)
        → AllByRecursion P (notification_again (due_by b c) rows o f).sent
    notified_again false c o f = tt
    notified_again true true o f = tt
    notified_again true false o f =
        again_one f.formed.place o.peer f.mid (note.Again o.peer f.mid)

    flying : (o : Observer) (f : Option Flight)
        → AllByRecursion P (flight_again rows moment o f).sent
    flying o None = tt
    flying o (Some f) =
        notified_again (nat_le (deadline f.formed f.again) moment)
        (nat_le max_again (length f.again)) o f

    each_flight : (standing : List Observer)
        → AllByRecursion
        (λ o. AllByRecursion P (flight_again rows moment o (flight o (events rows))).sent) standing
    each_flight [] = tt
    each_flight (o ∷ standing) = (flying o (flight o (events rows)), each_flight standing)

    again_all : AllByRecursion P (notifications_again rows moment).sent
    again_all =
        each_of_sent P (λ o. flight_again rows moment o (flight o (events rows)))
        (observers (events rows)) (each_flight (observers (events rows)))

    asked_again : (b c : Bool) (peer : Peer) (e : Event) (request : Option Request)
        → AllByRecursion P (request_again (due_by b c) rows peer e request).sent
    asked_again b c peer e None = tt
    asked_again false c peer e (Some request) = tt
    asked_again true true peer e (Some request) = tt
    asked_again true false peer e (Some request) =
        again_one e.place peer request.mid (note.Resent peer)

    running : (peer : Peer) (e : Option Event)
        → AllByRecursion P (fetch_again rows moment peer e).sent
    running peer None = tt
    running peer (Some e) =
        asked_again (nat_le (fetch_deadline peer e (events rows)) moment)
        (is_waiting peer (events rows)
        || nat_le max_again (length (resendings peer (events rows)))) peer e
        (request_noted e.note)

    each_fetch : (peers : List Peer)
        → AllByRecursion (λ peer.
        AllByRecursion P (fetch_again rows moment peer (last_request peer (events rows))).sent)
        peers
    each_fetch [] = tt
    each_fetch (peer ∷ peers) =
        (running peer (last_request peer (events rows)), each_fetch peers)

    asked_all : AllByRecursion P (requests_again rows moment).sent
    asked_all =
        each_of_sent P (λ peer. fetch_again rows moment peer (last_request peer (events rows)))
        (fetches (events rows)) (each_fetch (fetches (events rows)))

    unless : (b : Bool) (so_far : Effects) (o : Observer) (a : Answer)
        → AllByRecursion P (notified_unless b (ticking rows moment s) so_far o a).sent
    unless true so_far o a = tt
    unless false so_far o a = (
      replies _ (body_replies (Some a.tag)
          (Some (observe_value (events_with (ticking rows moment s) so_far)))
          (block_shown o a.body) a.body),
      tt,
    )

    looked_at : (b : Bool) (so_far : Effects) (o : Observer)
        → AllByRecursion P (notified_if b (ticking rows moment s) so_far o).sent
    looked_at false so_far o = tt
    looked_at true so_far o =
        unless (is_unchanged (last_body_formed (name_of o)
        (events_with (ticking rows moment s) so_far))
        (listing_for (ticking rows moment s) o).body) so_far o
        (listing_for (ticking rows moment s) o)

    folded : (standing : List Observer) (so_far : Effects)
        → AllByRecursion P so_far.sent
        → AllByRecursion P (fold (notification_next (ticking rows moment s)) so_far standing).sent
    folded [] so_far h = h
    folded (o ∷ standing) so_far h =
        folded standing (notification_next (ticking rows moment s) so_far o)
        (each_append P so_far.sent
        (notified_if (is_looked_at (ticking rows moment s) so_far o) (ticking rows moment s) so_far
        o).sent h
        (looked_at (is_looked_at (ticking rows moment s) so_far o) so_far o))

    by : (b : Bool) → AllByRecursion P (tick_effects b rows moment s).sent
    by true =
        each_append P (notifications_again rows moment).sent (requests_again rows moment).sent
        again_all
        asked_all
    by false =
        each_append P (notifications (ticking rows moment s) (notifications_again rows moment)).sent
        (requests_again rows moment).sent
        (folded (observers (events_with (ticking rows moment s) (notifications_again rows moment)))
        (notifications_again rows moment) again_all) asked_all

-- ---- what is settled

-- notes of a kind that settles nothing
never_settles : (kind : Note → Bool)
    → ((place : ℕ) (octets : List ℕ) → kind (note.Settled place octets) ≡ false)
    → (notes : List Note)
    → are kind notes ≡ true
    → AllByRecursion SettlesReply notes
never_settles kind never [] h = tt
never_settles kind never (n ∷ notes) h =
    let both = and_parts (kind n) (are kind notes) h in
    (by n both.0, never_settles kind never notes both.1)
  where
    by : (x : Note) → kind x ≡ true → SettlesReply x
    by (note.Settled place octets) fits = absurd (false≢true (sym (never place octets) ∙ fits))
    by _ fits = tt

-- what is noted beside a change
abbrev of_change : Note → Bool
of_change (note.Entered entry) = true
of_change (note.Piece peer key number octets) = true
of_change (note.Finished peer key) = true
of_change _ = false

-- a commit
commit_settles : (rows : List Row) (moment place : ℕ) (s : Step) (m : Message)
    → AllByRecursion SettlesReply (commit_effects rows moment place s m).notes
unfolding commit_effects answering spelling header_spelling
commit_settles rows moment place s m = by (path_in m)
  where
    settles : (done : Outcome)
        → IsReplyCode done.reply.code
        → are of_change done.notes ≡ true
        → AllByRecursion SettlesReply (settling place s m done).notes
    settles done good notes =
        each_append SettlesReply done.notes _
        (never_settles of_change (λ p o. refl) done.notes notes)
        (spelled_replies (answer s m done.reply) good, tt)

    simple : (running too_many : Bool)
        → AllByRecursion SettlesReply
        (simple_unless (fetch_room running too_many) (events rows) place s m).notes
    simple true too_many = (refl, tt)
    simple false true = (refl, tt)
    simple false false = (refl, (tt, tt))

    by : (p : Path) → AllByRecursion SettlesReply (write_done p rows moment place s m).notes
    by path.Core = tt
    by path.SimpleRd =
        simple (is_fetching s.peer (events rows))
        (nat_le max_fetches (length (fetches (events rows))))
    by path.Rd =
        settles (registering rows moment s m) (registering_replies rows moment s m)
        (registering-notes of_change (λ entry. refl) (λ peer key number octets. refl)
        (λ peer key. refl) rows moment s m)
    by (path.Location number) =
        settles (location_outcome (method_of m.code) rows moment s m number)
        (location_replies (method_of m.code) rows moment s m number)
        (location-notes of_change (λ entry. refl) (λ peer key number octets. refl)
        (λ peer key. refl) (method_of m.code) rows moment s m number)
    by path.Res = tt
    by path.Ep = tt
    by path.Other = tt

-- any step
pub effects_settle : (kind : StepKind) (starved : Bool) (rows : List Row) (moment : ℕ) (s : Step)
    → AllByRecursion SettlesReply (effects kind starved rows moment s).notes
effects_settle kind starved rows moment s =
    by (effects kind starved rows moment s).notes (effects-StepNoted kind starved rows moment s)
  where
    of_kind : (test : Note → Bool)
        → ((place : ℕ) (octets : List ℕ) → test (note.Settled place octets) ≡ false)
        → (ns more : List Note)
        → ns ≡ more
        → are test more ≡ true
        → AllByRecursion SettlesReply ns
    of_kind test never ns more is h =
        subst (AllByRecursion SettlesReply) (sym is) (never_settles test never more h)

    by : (ns : List Note)
        → StepNoted kind starved rows moment s ns
        → AllByRecursion SettlesReply ns
    by ns (noted.nothing blank) = subst (AllByRecursion SettlesReply) (sym blank) tt
    by ns (noted.write m here read asks is) =
        of_kind of_write (λ p o. refl) ns _ is (write_effects-notes (events rows) moment s m)
    by ns (noted.lookup m here read at is) =
        of_kind of_lookup (λ p o. refl) ns _ is (lookup_effects-notes rows moment s m)
    by ns (noted.source m here read at is) =
        of_kind of_lookup (λ p o. refl) ns _ is (read_effects-notes rows moment s m)
    by ns (noted.empty here all) = never_settles of_empty (λ p o. refl) ns all
    by ns (noted.response m here read responds is) =
        of_kind of_response (λ p o. refl) ns _ is (response_effects-notes rows moment s m)
    by ns (noted.commit m place commits read is) =
        subst (AllByRecursion SettlesReply) (sym is) (commit_settles rows moment place s m)
    by ns (noted.failed place commits is) = subst (AllByRecursion SettlesReply) (sym is) (tt, tt)
    by ns (noted.keep m body current keeps is) =
        subst (AllByRecursion SettlesReply) (sym (is ∙ keep_effects-notes s m body current))
        (tt, tt)
    by ns (noted.tick ticks is) =
        of_kind of_tick (λ p o. refl) ns _ is (tick_effects-notes starved rows moment s)
    by ns (noted.begins first begins is) =
        of_kind of_change (λ p o. refl) ns _ is
        (beginning-notes of_change (λ entry. refl) starved (entries rows) moment s first)
