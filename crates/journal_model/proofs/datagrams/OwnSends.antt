-- What each step but a tick sends: datagrams that can be read and fit, to the peer of the step; a
-- response among them has the token of the step's request, or of the write that it repeats, and is
-- not confirmable.
use Rattle.std.proofs.Common.{
  ◌≡◌,
  ◌⊎◌,
  inl,
  ℕ,
  ◌+◌,
  ◌<◌,
  ◌≤◌,
  ◌==◌,
  ◌&&◌,
  Bool,
  true,
  false,
  cond,
  List,
  [],
  ◌∷◌,
  length,
  Option,
  Some,
  None,
  option_map,
  codes,
  nat_le,
  bytes_eq,
  is_none,
  Result,
  Ok,
  Err,
  refl,
  sym,
  ap,
  subst,
  ◌∙◌,
  arith,
}
use Rattle.std.specs.List.{AllByRecursion}
use Rattle.std.proofs.lemmas.Bool.{and_parts, false≢true}
use Rattle.std.proofs.lemmas.Slice.Eq.{bytes_eq-Decides}
use Rattle.rd_base.specs.declared.peers.Peer.{Peer}
use Rattle.rd_base.proofs.lemmas.Each.{each_append}
use Rattle.message_model.specs.declared.blocks.Block.{Block}
use Rattle.message_model.specs.declared.messages.Kind4.{Kind4}
use Rattle.message_model.specs.declared.messages.Kind4.TheVariants.{Con, Non, Ack, Rst}
use Rattle.message_model.specs.declared.messages.Role.{Role}
use Rattle.message_model.specs.declared.messages.Role.TheVariants as role
use Rattle.message_model.specs.declared.messages.Unread.{Unread}
use Rattle.message_model.specs.declared.messages.Unread.TheVariants as unread
use Rattle.message_model.specs.declared.requests.Path.{Path}
use Rattle.message_model.specs.declared.requests.Path.TheVariants as path
use Rattle.message_model.specs.Codes as codes_of
use Rattle.message_model.specs.Message.{Message, role_of, longest_token}
use Rattle.message_model.specs.OptionTable.{first_bad_option}
use Rattle.message_model.specs.Blocks.{block_of}
use Rattle.message_model.specs.Reading.{reading}
use Rattle.message_model.specs.Request.{path_in, observe_in}
use Rattle.message_model.specs.RequestKey.{key_in}
use Rattle.message_model.specs.Spelling.{header_spelling, spelling}
use Rattle.message_model.specs.FetchRequests.{fetch_request}
use Rattle.message_model.specs.Responses.{has_mid_of, block_in, is_elsewhere}
use Rattle.message_model.proofs.MessageLaws.{reading_in_order}
use Rattle.message_model.proofs.ReadingLaws.{header_read}
use Rattle.record_model.specs.Discovery.{discovery}
use Rattle.history_model.specs.declared.entries.Entry.{Entry}
use Rattle.history_model.specs.Sources.{source}
use Rattle.history_model.specs.Listing.{listing, tag}
use Rattle.event_model.specs.declared.notes.Note.{Note}
use Rattle.event_model.specs.declared.notes.Note.TheVariants as note
use Rattle.event_model.specs.Same.{RequestName}
use Rattle.event_model.specs.Events.{Event}
use Rattle.event_model.specs.Repeats.{repeated, settled, is_full_of_exchanges}
use Rattle.event_model.specs.KeptAnswers.{Answer, kept_answer}
use Rattle.event_model.specs.Challenges.{next_challenge}
use Rattle.event_model.specs.Observers.{observers, has_room_for, observe_value}
use Rattle.event_model.specs.Fetches.{
  Request,
  max_fetches,
  fetches,
  is_fetching,
  next_token,
  last_request,
  gathered,
  collected,
  request_of,
}
use Rattle.journal_model.proofs.notes.BeginNotes.{beginning-sent}
use Rattle.journal_model.specs.declared.steps.Step.{Step}
use Rattle.journal_model.specs.declared.steps.StepKind.{StepKind}
use Rattle.journal_model.specs.declared.steps.StepKind.TheVariants as step
use Rattle.journal_model.specs.declared.rows.Row.{Row}
use Rattle.journal_model.specs.Journal.{events, entries}
use Rattle.journal_model.specs.Effects.{
  Reply,
  bare,
  diagnostic,
  answer_kind,
  answer_mid,
  answer,
  answering,
  empty_message,
  mid_of,
  drawn_for,
}
use Rattle.journal_model.specs.Requests.{
  refusal_of_request,
  asked_block,
  number_of,
  szx_of,
  query_of,
  register,
  deregister,
  is_later_block,
  Method,
  get,
  post,
  put,
  delete,
  other_method,
  method_of,
}
use Rattle.journal_model.specs.Bodies.{is_long, body_reply}
use Rattle.journal_model.specs.Sought.{Sought, listing_of, source_of, own_links, sought_in}
use Rattle.journal_model.specs.Looks.{
  names_tag,
  unless_long,
  unless_valid,
  not_live,
  found_or_not,
  look_for,
  look,
  look_sent,
  look_effects,
  looked,
  keep_effects,
}
use Rattle.journal_model.specs.Lookups.{
  listing_now,
  found_now,
  block_now,
  block_of_found,
  block_of_kept,
  later_block,
  without,
  observed_if,
  observed,
  unobserved,
  observation_effects,
  first_block_effects,
  block_effects,
  lookup_effects,
  read_block_effects,
  read_effects,
  observing_by,
}
use Rattle.journal_model.specs.Writes.{
  again_answered,
  challenge,
  is_unproved,
  admitted_unless,
  write_unless,
  write_effects,
}
use Rattle.journal_model.specs.Changes.{Outcome}
use Rattle.journal_model.specs.Registrations.{registering}
use Rattle.journal_model.specs.Commits.{
  settling,
  simple_unless,
  location_outcome,
  write_done,
  commit_effects,
  fetch_room,
}
use Rattle.journal_model.specs.EmptyMessages.{acknowledged, reset}
use Rattle.journal_model.specs.Responses.{
  is_response_to,
  answered_request,
  fetch_of,
  strange,
  acknowledgement,
  more_follow,
  ends_fetch,
  gathering,
  response_taken,
  response_to,
  response_to_request,
  response_effects,
  response_use,
}
use Rattle.journal_model.specs.Rows.{
  served_on_location,
  served,
  refusal_answered,
  unread_answered,
  request_answered,
  message_effects,
  heard,
  done,
  kept_body,
  effects,
}
use Rattle.journal_model.specs.SentDatagrams.{
  IsFitting,
  is_response,
  AnswersRequest,
  AnswersRepeat,
  IsForRequest,
}
use Rattle.journal_model.proofs.MessageSizeLaws.{spelling-most}
use Rattle.journal_model.proofs.observers.ObserversKnow.{IsNoTick}
use Rattle.journal_model.proofs.sends.BodyAnswers.{
  block_value-length,
  same_message,
  tag-length,
  request-usable,
  szx-usable,
}
use Rattle.journal_model.proofs.sends.ValidSends.{is_confirmable, answer_apart}
use Rattle.journal_model.proofs.datagrams.FittingReplies.{
  IsGoodReply,
  reply_read,
  reply_fits,
  good_bare,
  good_starved,
  good_unavailable,
  next_challenge-length,
  good_challenge,
  good_refusal,
  good_part_reply,
  good_body_reply,
  good_valid,
  good_registering,
  good_location,
  good_not_live,
}
use Rattle.journal_model.proofs.notes.LookupNotes.{found_KeptAt}

-- a datagram of a step that is no tick, after rows
pub record IsOwn (rows : List Row) (s : Step) (d : Peer × List ℕ) : Type 0 where
  pub fits : IsFitting d.1
  pub to : d.0 ≡ s.peer
  pub answers : (m : Message)
      → reading d.1 ≡ Ok m
      → is_response m ≡ true
      → AnswersRequest s m ⊎ AnswersRepeat rows s m
  pub confirmable : (m : Message)
      → reading d.1 ≡ Ok m
      → is_confirmable d.1 ≡ true
      → is_response m ≡ false

-- all that is sent is so
abbrev pub AreOwn : List Row → Step → List (Peer × List ℕ) → Type 0
AreOwn rows s sent = AllByRecursion (IsOwn rows s) sent

-- ---- one datagram

-- no answer is confirmable
pub answer_unconfirmable : (s : Step) (m : Message) (reply : Reply)
    → is_confirmable (spelling (answer s m reply)) ≡ false
unfolding spelling header_spelling
answer_unconfirmable s m reply = answer_apart m.kind (length m.token)

-- an answer
pub own_answer : (rows : List Row) (s : Step) (m : Message) (reply : Reply)
    → reading s.datagram ≡ Ok m
    → role_of m.kind m.code ≡ role.Request
    → IsGoodReply reply
    → IsOwn rows s (s.peer, spelling (answer s m reply))
own_answer rows s m reply read asks good = record {
  fits = reply_fits (answer_kind m.kind) (answer_mid s m m.kind) m.token reply small good;
  to = refl;
  answers = λ n e responds. inl (record {
    request = m;
    read = read;
    asks = asks;
    token =
        ap (λ (x : Message). x.token)
        (sym (same_message (answer s m reply) n (spelling (answer s m reply))
        (reply_read (answer_kind m.kind) (answer_mid s m m.kind) m.token reply small
        good) e));
  });
  confirmable = λ n e con. absurd (false≢true (sym (answer_unconfirmable s m reply) ∙ con));
}
  where
    small : length m.token ≤ longest_token
    small = (header_read s.datagram m read).token

-- alone
pub own_answering : (rows : List Row) (s : Step) (m : Message) (reply : Reply) (notes : List Note)
    → reading s.datagram ≡ Ok m
    → role_of m.kind m.code ≡ role.Request
    → IsGoodReply reply
    → AreOwn rows s (answering s m reply notes).sent
unfolding answering
own_answering rows s m reply notes read asks good = (own_answer rows s m reply read asks good, tt)

-- a message that is no response
own_other : (rows : List Row) (s : Step) (m : Message)
    → reading (spelling m) ≡ Ok m
    → length (spelling m) ≤ 1_280
    → is_response m ≡ false
    → IsOwn rows s (s.peer, spelling m)
own_other rows s m read short other = record {
  fits = record { message = m; read = read; short = short };
  to = refl;
  answers = λ n e responds. absurd (false≢true (sym (no_response n e) ∙ responds));
  confirmable = λ n e con. no_response n e;
}
  where
    no_response : (n : Message) → reading (spelling m) ≡ Ok n → is_response n ≡ false
    no_response n e =
        subst (λ (x : Message). is_response x ≡ false) (same_message m n (spelling m) read e) other

-- an empty message, a Reset or an acknowledgement
own_empty : (rows : List Row) (s : Step) (kind : Kind4) (mid : ℕ)
    → is_response (empty_message kind mid) ≡ false
    → IsOwn rows s (s.peer, spelling (empty_message kind mid))
own_empty rows s kind mid other =
    own_other rows s (empty_message kind mid)
    (reading_in_order (empty_message kind mid)
    (record {
      class = refl;
      token = omega arith;
      options = tt;
      empty =
          λ e. record { token = refl; options = refl; payload = refl };
    }))
    (let most = spelling-most (empty_message kind mid) in omega (arith, most)) other

own_reset : (rows : List Row) (s : Step) (mid : ℕ)
    → IsOwn rows s (s.peer, spelling (empty_message Rst mid))
own_reset rows s mid = own_empty rows s Rst mid refl

own_acknowledgement : (rows : List Row) (s : Step) (mid : ℕ)
    → IsOwn rows s (s.peer, spelling (empty_message Ack mid))
own_acknowledgement rows s mid = own_empty rows s Ack mid refl

-- a request of a fetch
own_request : (rows : List Row) (s : Step) (mid : ℕ) (token : List ℕ) (b : Option Block)
    → length token ≤ longest_token
    → IsOwn rows s (s.peer, spelling (fetch_request mid token b))
own_request rows s mid token b small = by b
  where
    by : (x : Option Block) → IsOwn rows s (s.peer, spelling (fetch_request mid token x))
    by None = own_other rows s (fetch_request mid token None)
        (reading_in_order (fetch_request mid token None)
        (record {
          class = refl;
          token = small;
          options = (
            omega arith,
            omega arith,
            omega arith,
            (omega arith, omega arith, omega arith, tt),
          );
          empty =
              λ e. absurd (omega (arith, e));
        }))
        (let most = spelling-most (fetch_request mid token None) in omega (arith, most, small)) refl
    by (Some x) = own_other rows s (fetch_request mid token (Some x))
        (reading_in_order (fetch_request mid token (Some x))
        (record {
          class = refl;
          token = small;
          options = (
            omega arith,
            omega arith,
            omega arith,
            (
              omega arith,
              omega arith,
              omega arith,
              (
                omega arith,
                omega arith,
                (let h = block_value-length x in omega (arith, h)),
                tt,
              ),
            ),
          );
          empty =
              λ e. absurd (omega (arith, e));
        }))
        (let most = spelling-most (fetch_request mid token (Some x)) in
        let h = block_value-length x in omega (arith, most, small, h)) refl

-- ---- what is known of the rows before

-- the answer that a repeat gets is one of its step, and a kept answer has a tag of eight octets
pub record KnownBefore (rows : List Row) : Type 0 where
  pub repeats : (s : Step) (m : Message) (moment : ℕ) (first : Event) (octets : List ℕ)
      → reading s.datagram ≡ Ok m
      → role_of m.kind m.code ≡ role.Request
      → repeated moment s.peer m.mid (events rows) ≡ Some first
      → settled first.place (events rows) ≡ Some octets
      → IsOwn rows s (s.peer, octets)
  pub kept : (moment : ℕ) (name : RequestName) (found : Answer)
      → kept_answer moment name (events rows) ≡ Some found
      → length found.tag ≡ 8

-- ---- steps

-- a write as it is heard
write_own : (rows : List Row) (moment : ℕ) (s : Step) (m : Message)
    → KnownBefore rows
    → reading s.datagram ≡ Ok m
    → role_of m.kind m.code ≡ role.Request
    → AreOwn rows s (write_effects (events rows) moment s m).sent
unfolding write_effects
write_own rows moment s m past read asks = by (repeated moment s.peer m.mid (events rows)) refl
  where
    again : (first : Event)
        → repeated moment s.peer m.mid (events rows) ≡ Some first
        → (octets : Option (List ℕ))
        → settled first.place (events rows) ≡ octets
        → AreOwn rows s (again_answered s octets).sent
    again first found None e = tt
    again first found (Some octets) e = (past.repeats s m moment first octets read asks found e, tt)

    new : (full unproved : Bool)
        → AreOwn rows s (admitted_unless full unproved (events rows) s m).sent
    new true unproved =
        own_answering rows s m (diagnostic codes_of.service_unavailable (codes "exchanges")) [] read
        asks (good_unavailable (codes "exchanges") (omega arith))
    new false true =
        own_answering rows s m (challenge (next_challenge s.word (events rows)))
        (note.Challenged s.peer (next_challenge s.word (events rows)) ∷ []) read asks
        (good_challenge (next_challenge s.word (events rows))
        (next_challenge-length s.word (events rows)))
    new false false = tt

    by : (first : Option Event)
        → repeated moment s.peer m.mid (events rows) ≡ first
        → AreOwn rows s (write_unless first (events rows) moment s m).sent
    by (Some first) found = again first found (settled first.place (events rows)) refl
    by None found =
        new (is_full_of_exchanges moment (events rows)) (is_unproved (events rows) moment s m)

-- the size of a block that is asked for
usable : (m : Message) → szx_of (asked_block m) < 7
usable m = szx-usable (asked_block m) (request-usable m)

-- a look
look_own : (rows : List Row) (history : List Entry) (moment : ℕ) (s : Step) (m : Message)
    → reading s.datagram ≡ Ok m
    → role_of m.kind m.code ≡ role.Request
    → AreOwn rows s (look_effects history moment s m).sent
unfolding look_effects look
look_own rows history moment s m read asks = by (sought_in m)
  where
    long : (b : Bool) (found : Answer)
        → length found.tag ≡ 8
        → AreOwn rows s (look_sent s m (Some (unless_long b m found))).sent
    long true found short = tt
    long false found short =
        own_answering rows s m (body_reply (Some found.tag) None (asked_block m) found.body) [] read
        asks (good_body_reply (Some found.tag) None (asked_block m) found.body short (usable m))

    valid : (b : Bool) (found : Answer)
        → length found.tag ≡ 8
        → AreOwn rows s (look_sent s m (Some (unless_valid b m found))).sent
    valid true found short = own_answering rows s m _ [] read asks (good_valid found.tag short)
    valid false found short = long (is_long (asked_block m) found.body) found short

    shown : (whole : List ℕ)
        → AreOwn rows s
        (look_sent s m (Some (found_or_not (Some (tag history moment)) m (Some whole)))).sent
    shown whole =
        valid (names_tag (tag history moment) m)
        (record { body = whole; tag = tag history moment }) (tag-length history moment)

    of_source : (found : Option (List ℕ))
        → AreOwn rows s
        (look_sent s m (Some (found_or_not (Some (tag history moment)) m found))).sent
    of_source None = own_answering rows s m not_live [] read asks good_not_live
    of_source (Some whole) = shown whole

    by : (o : Option Sought)
        → AreOwn rows s (look_sent s m (option_map (look_for history moment m) o)).sent
    by None = tt
    by (Some (listing_of query)) = shown (listing query history moment)
    by (Some (source_of number)) = of_source (source number history moment)
    by (Some (own_links query)) =
        own_answering rows s m (body_reply None None (asked_block m) (discovery query)) [] read asks
        (good_body_reply None None (asked_block m) (discovery query) tt (usable m))

-- a further block
later_own : (rows : List Row) (moment : ℕ) (s : Step) (m : Message)
    → KnownBefore rows
    → reading s.datagram ≡ Ok m
    → role_of m.kind m.code ≡ role.Request
    → AreOwn rows s (later_block rows moment s m).sent
unfolding later_block
later_own rows moment s m past read asks =
    by (found_now rows moment m) refl (kept_answer moment (s.peer, key_in m) (events rows)) refl
  where
    now_block : (a : Answer)
        → length a.tag ≡ 8
        → (part : Option (List ℕ × Bool))
        → block_of a.body (number_of (asked_block m)) (szx_of (asked_block m)) ≡ part
        → AreOwn rows s (block_now s m a part).sent
    now_block a short None cut =
        own_answering rows s m _ [] read asks
        (good_part_reply (Some a.tag) None (asked_block m) a.body None short (usable m) cut)
    now_block a short (Some part) cut =
        own_answering rows s m _ _ read asks
        (good_part_reply (Some a.tag) None (asked_block m) a.body (Some part) short (usable m) cut)

    fresh : (found : Option Answer)
        → found_now rows moment m ≡ found
        → AreOwn rows s (block_of_found s m found).sent
    fresh None is = own_answering rows s m not_live [] read asks good_not_live
    fresh (Some a) is =
        now_block a
        (ap length (found_KeptAt rows moment m a is).tag_is ∙ tag-length (entries rows) moment)
        (block_of a.body (number_of (asked_block m)) (szx_of (asked_block m))) refl

    by : (found : Option Answer)
        → found_now rows moment m ≡ found
        → (kept : Option Answer)
        → kept_answer moment (s.peer, key_in m) (events rows) ≡ kept
        → AreOwn rows s (block_of_kept s m found kept).sent
    by found is (Some answer) e =
        own_answering rows s m (body_reply (Some answer.tag) None (asked_block m) answer.body) _
        read asks
        (good_body_reply (Some answer.tag) None (asked_block m) answer.body
        (past.kept moment (s.peer, key_in m) answer e) (usable m))
    by found is None e = fresh found is

-- a read of a registration
read_own : (rows : List Row) (moment : ℕ) (s : Step) (m : Message)
    → KnownBefore rows
    → reading s.datagram ≡ Ok m
    → role_of m.kind m.code ≡ role.Request
    → AreOwn rows s (read_effects rows moment s m).sent
unfolding read_effects
read_own rows moment s m past read asks = by (is_later_block m)
  where
    by : (b : Bool) → AreOwn rows s (read_block_effects b rows moment s m).sent
    by true = later_own rows moment s m past read asks
    by false = look_own rows (entries rows) moment s m read asks

-- a lookup that the journal takes part in
lookup_own : (rows : List Row) (moment : ℕ) (s : Step) (m : Message)
    → KnownBefore rows
    → reading s.datagram ≡ Ok m
    → role_of m.kind m.code ≡ role.Request
    → AreOwn rows s (lookup_effects rows moment s m).sent
unfolding lookup_effects observed unobserved
lookup_own rows moment s m past read asks = by (is_later_block m)
  where
    short : length (tag (entries rows) moment) ≡ 8
    short = tag-length (entries rows) moment

    with_value : (b : Bool)
        → AreOwn rows s (observed_if b rows s m (listing_now rows moment m)).sent
    with_value true =
        own_answering rows s m
        (body_reply (Some (tag (entries rows) moment)) (Some (observe_value (events rows)))
        (asked_block m) (listing_now rows moment m).body) _ read asks
        (good_body_reply (Some (tag (entries rows) moment)) (Some (observe_value (events rows)))
        (asked_block m) (listing_now rows moment m).body short (usable m))
    with_value false =
        own_answering rows s m (body_reply (Some (tag (entries rows) moment)) None (asked_block m)
        (listing_now rows moment m).body) _ read asks
        (good_body_reply (Some (tag (entries rows) moment)) None (asked_block m)
        (listing_now rows moment m).body short (usable m))

    valued : (b c : Bool)
        → AreOwn rows s (observation_effects (observing_by b c) rows moment s m).sent
    valued true c =
        with_value (has_room_for (query_of m) (without (s.peer, m.token) (observers (events rows))))
    valued false true = with_value false
    valued false false = look_own rows (entries rows) moment s m read asks

    observe : (o : Option ℕ) → AreOwn rows s (first_block_effects o rows moment s m).sent
    observe None = look_own rows (entries rows) moment s m read asks
    observe (Some value) = valued (value == register) (value == deregister)

    by : (b : Bool) → AreOwn rows s (block_effects b rows moment s m).sent
    by true = later_own rows moment s m past read asks
    by false = observe (observe_in m)

-- a request that is heard
request_own : (rows : List Row) (moment : ℕ) (s : Step) (m : Message)
    → KnownBefore rows
    → reading s.datagram ≡ Ok m
    → role_of m.kind m.code ≡ role.Request
    → AreOwn rows s (request_answered (refusal_of_request m) rows moment s m).sent
unfolding served
request_own rows moment s m past read asks = by (refusal_of_request m) refl
  where
    refused : (kind : Kind4) (bad : Option ℕ) (reply : Reply)
        → IsGoodReply reply
        → AreOwn rows s (refusal_answered kind bad s m reply).sent
    refused Non (Some number) reply good = tt
    refused Non None reply good = own_answering rows s m reply [] read asks good
    refused Con bad reply good = own_answering rows s m reply [] read asks good
    refused Ack bad reply good = own_answering rows s m reply [] read asks good
    refused Rst bad reply good = own_answering rows s m reply [] read asks good

    there : (w : Method) → AreOwn rows s (served_on_location w rows moment s m).sent
    there get = read_own rows moment s m past read asks
    there post = write_own rows moment s m past read asks
    there put = write_own rows moment s m past read asks
    there delete = write_own rows moment s m past read asks
    there other_method = tt

    on : (p : Path) → AreOwn rows s (served p rows moment s m).sent
    on path.Core = look_own rows (entries rows) moment s m read asks
    on path.Res = lookup_own rows moment s m past read asks
    on path.Ep = lookup_own rows moment s m past read asks
    on path.SimpleRd = write_own rows moment s m past read asks
    on path.Rd = write_own rows moment s m past read asks
    on (path.Location number) = there (method_of m.code)
    on path.Other = tt

    by : (refusal : Option Reply)
        → refusal_of_request m ≡ refusal
        → AreOwn rows s (request_answered refusal rows moment s m).sent
    by (Some refusal) e =
        refused m.kind (first_bad_option m.options) refusal (good_refusal m refusal e)
    by None e = on (path_in m)

-- a new token has eight octets
next_short : (past : List Event) → length (next_token past) ≤ 8
unfolding next_token
next_short past = omega arith

-- a commit of a write
commit_own : (rows : List Row) (moment place : ℕ) (s : Step) (m : Message)
    → reading s.datagram ≡ Ok m
    → role_of m.kind m.code ≡ role.Request
    → AreOwn rows s (commit_effects rows moment place s m).sent
unfolding commit_effects answering
commit_own rows moment place s m read asks = by (path_in m)
  where
    changed_reply : IsGoodReply (bare codes_of.changed)
    changed_reply = good_bare codes_of.changed refl (λ e. absurd (omega (arith, e)))

    outcome : (o : Outcome) → IsGoodReply o.reply → AreOwn rows s (settling place s m o).sent
    outcome o good = (own_answer rows s m o.reply read asks good, tt)

    simple : (running too_many : Bool)
        → AreOwn rows s (simple_unless (fetch_room running too_many) (events rows) place s m).sent
    simple true too_many = (
      own_answer rows s m (diagnostic codes_of.service_unavailable (codes "fetching")) read asks
          (good_unavailable (codes "fetching") (omega arith)),
      tt,
    )
    simple false true = (
      own_answer rows s m (diagnostic codes_of.service_unavailable (codes "fetches")) read asks
          (good_unavailable (codes "fetches") (omega arith)),
      tt,
    )
    simple false false = (
      own_answer rows s m (bare codes_of.changed) read asks changed_reply,
      (
        own_request rows s (mid_of s.worker (s.drawn + drawn_for m.kind))
            (next_token (events rows)) None (next_short (events rows)),
        tt,
      ),
    )

    by : (p : Path) → AreOwn rows s (write_done p rows moment place s m).sent
    by path.Core = tt
    by path.SimpleRd =
        simple (is_fetching s.peer (events rows))
        (nat_le max_fetches (length (fetches (events rows))))
    by path.Rd = outcome (registering rows moment s m) (good_registering rows moment s m)
    by (path.Location number) =
        outcome (location_outcome (method_of m.code) rows moment s m number)
        (good_location (method_of m.code) rows moment s m number)
    by path.Res = tt
    by path.Ep = tt
    by path.Other = tt

-- the token of a request that a response is to is the response's
fetch_token : (s : Step) (m : Message) (past : List Event) (request : Request)
    → fetch_of s m past ≡ Some request
    → m.token ≡ request.token
fetch_token s m past request found = running (is_fetching s.peer past) found
  where
    same : (b : Bool) (other : Request)
        → is_response_to m other ≡ b
        → cond b (Some other) None ≡ Some request
        → m.token ≡ request.token
    same true other e h =
        let it : other ≡ request = cc in
        let parts =
        and_parts (bytes_eq m.token other.token && has_mid_of m.kind m.mid other.mid)
        (is_none (first_bad_option m.options)) e in
        let token =
        and_parts (bytes_eq m.token other.token) (has_mid_of m.kind m.mid other.mid) parts.0 in
        (bytes_eq-Decides m.token other.token).0 token.0 ∙ ap (λ (r : Request). r.token) it
    same false other e h = absurd (let no : None ≡ Some request = h in cc)

    of : (o : Option Request) → answered_request m o ≡ Some request → m.token ≡ request.token
    of None h = absurd (let no : None ≡ Some request = h in cc)
    of (Some other) h = same (is_response_to m other) other refl h

    running : (b : Bool)
        → cond b (answered_request m (request_of (last_request s.peer past))) None ≡ Some request
        → m.token ≡ request.token
    running true h = of (request_of (last_request s.peer past)) h
    running false h = absurd (let no : None ≡ Some request = h in cc)

-- a response
response_own : (rows : List Row) (moment : ℕ) (s : Step) (m : Message)
    → reading s.datagram ≡ Ok m
    → AreOwn rows s (response_effects rows moment s m).sent
unfolding response_effects
response_own rows moment s m read = by (fetch_of s m (events rows)) refl
  where
    foreign : (k : Kind4) → AreOwn rows s (strange s m k).sent
    foreign Con = (own_reset rows s m.mid, tt)
    foreign Non = tt
    foreign Ack = tt
    foreign Rst = tt

    acknowledges : (k : Kind4) → AreOwn rows s (acknowledgement s m k).sent
    acknowledges Con = (own_acknowledgement rows s m.mid, tt)
    acknowledges Non = tt
    acknowledges Ack = tt
    acknowledges Rst = tt

    gathers : (more : Bool) (b : Option Block) (request : Request)
        → length request.token ≤ 8
        → AreOwn rows s (gathering more b rows moment s m request).sent
    gathers more None request small = tt
    gathers false (Some b) request small = tt
    gathers true (Some b) request small = (
      own_request rows s (mid_of s.worker s.drawn) request.token
          (Some (record { num = b.num + 1; more = false; szx = b.szx })) small,
      tt,
    )

    taken : (elsewhere over : Bool) (request : Request)
        → length request.token ≤ 8
        → AreOwn rows s
        (response_taken (response_use elsewhere over) rows moment s m request).sent
    taken true over request small = tt
    taken false true request small = tt
    taken false false request small = gathers (more_follow (block_in m)) (block_in m) request small

    by : (o : Option Request)
        → fetch_of s m (events rows) ≡ o
        → AreOwn rows s (response_to_request o rows moment s m).sent
    by None e = foreign m.kind
    by (Some request) e =
        let token = (header_read s.datagram m read).token in
        let same = fetch_token s m (events rows) request e in
        each_append (IsOwn rows s) (acknowledgement s m m.kind).sent
        (response_to rows moment s m request).sent (acknowledges m.kind)
        (taken (is_elsewhere (block_in m) (length (collected s.peer (events rows))))
        (ends_fetch m (gathered s.peer (events rows)) (length (collected s.peer (events rows))))
        request (subst (λ (t : List ℕ). length t ≤ 8) same token))

-- a message that is heard
role_own : (r : Role) (starved : Bool) (rows : List Row) (moment : ℕ) (s : Step) (m : Message)
    → KnownBefore rows
    → reading s.datagram ≡ Ok m
    → role_of m.kind m.code ≡ r
    → AreOwn rows s (message_effects r starved rows moment s m).sent
unfolding acknowledged reset
role_own role.Ping starved rows moment s m past read is = (own_reset rows s m.mid, tt)
role_own role.Acknowledgement starved rows moment s m past read is = tt
role_own role.Reset starved rows moment s m past read is = tt
role_own role.Request true rows moment s m past read is =
    own_answering rows s m (bare codes_of.internal_server_error) [] read is good_starved
role_own role.Request false rows moment s m past read is = request_own rows moment s m past read is
role_own role.Response true rows moment s m past read is = tt
role_own role.Response false rows moment s m past read is = response_own rows moment s m read
role_own role.Ignored starved rows moment s m past read is = tt

-- what is no message
unread_own : (rows : List Row) (s : Step) (fault : Unread)
    → AreOwn rows s (unread_answered s fault).sent
unread_own rows s unread.Short = tt
unread_own rows s unread.Version = tt
unread_own rows s (unread.Format Con mid) = (own_reset rows s mid, tt)
unread_own rows s (unread.Format Non mid) = tt
unread_own rows s (unread.Format Ack mid) = tt
unread_own rows s (unread.Format Rst mid) = tt

-- any step but a tick
pub effects_own : (kind : StepKind) (starved : Bool) (rows : List Row) (moment : ℕ) (s : Step)
    → IsNoTick kind
    → ((m : Message) → reading s.datagram ≡ Ok m → IsForRequest kind m)
    → KnownBefore rows
    → AreOwn rows s (effects kind starved rows moment s).sent
unfolding effects keep_effects
effects_own step.Admit starved rows moment s no_tick fair past = by (reading s.datagram) refl
  where
    by : (read : Result Message Unread)
        → reading s.datagram ≡ read
        → AreOwn rows s (heard starved rows moment s read).sent
    by (Err fault) e = unread_own rows s fault
    by (Ok m) e = role_own (role_of m.kind m.code) starved rows moment s m past e refl
effects_own step.Look starved rows moment s no_tick fair past = by starved (reading s.datagram) refl
  where
    by : (b : Bool) (read : Result Message Unread)
        → reading s.datagram ≡ read
        → AreOwn rows s (looked b (entries rows) moment s read).sent
    by b (Err fault) e = tt
    by true (Ok m) e =
        own_answering rows s m (bare codes_of.internal_server_error) [] e (fair m e) good_starved
    by false (Ok m) e = look_own rows (entries rows) moment s m e (fair m e)
effects_own (step.Commit place) starved rows moment s no_tick fair past =
    by starved (reading s.datagram) refl
  where
    by : (b : Bool) (read : Result Message Unread)
        → reading s.datagram ≡ read
        → AreOwn rows s (done b rows moment place s read).sent
    by b (Err fault) e = tt
    by true (Ok m) e =
        own_answering rows s m (bare codes_of.internal_server_error) (note.Failed place ∷ []) e
        (fair m e) good_starved
    by false (Ok m) e = commit_own rows moment place s m e (fair m e)
effects_own (step.Keep body current) starved rows moment s no_tick fair past =
    by starved (reading s.datagram) refl
  where
    by : (b : Bool) (read : Result Message Unread)
        → reading s.datagram ≡ read
        → AreOwn rows s (kept_body b s read body current).sent
    by b (Err fault) e = tt
    by true (Ok m) e =
        own_answering rows s m (bare codes_of.internal_server_error) [] e (fair m e).0 good_starved
    by false (Ok m) e =
        own_answering rows s m (body_reply (Some current) None (asked_block m) body) _ e
        (fair m e).0
        (good_body_reply (Some current) None (asked_block m) body (fair m e).1 (usable m))
effects_own step.Tick starved rows moment s no_tick fair past = absurd no_tick
effects_own (step.Begin first) starved rows moment s no_tick fair past =
    subst (AreOwn rows s) (sym (beginning-sent starved (entries rows) moment s first)) tt

-- a beginning sends nothing
pub effects_begin-sent : (first : ℕ) (starved : Bool) (rows : List Row) (moment : ℕ) (s : Step)
    → (effects (step.Begin first) starved rows moment s).sent ≡ []
unfolding effects
effects_begin-sent first starved rows moment s =
    beginning-sent starved (entries rows) moment s first
