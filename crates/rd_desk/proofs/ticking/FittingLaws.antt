-- The octets that a tick may retransmit are no longer than a datagram may be, after each journal of
-- a desk: they are a request of a fetch, or a notification of an earlier tick.
use Rattle.std.proofs.Common.{
  ◌≡◌,
  ℕ,
  ◌+◌,
  ◌≤◌,
  ◌==◌,
  Bool,
  true,
  false,
  cond,
  List,
  [],
  ◌∷◌,
  length,
  nat_le,
  Option,
  Some,
  None,
  option_map,
  unwrap_or,
  Result,
  Ok,
  Err,
  refl,
  sym,
  ap,
  subst,
  ◌∙◌,
  arith,
  codes,
}
use Rattle.std.specs.List.{AllByRecursion}
use Rattle.std.proofs.lemmas.Bool.{false≢true, and_parts}
use Rattle.std.proofs.lemmas.Option.{same_Some}
use Rattle.std.proofs.lemmas.Slice.Eq.{bytes_eq-Decides}
use Rattle.rd_base.specs.declared.peers.Peer.{Peer}
use Rattle.rd_base.proofs.lemmas.Each.{each_append, each_weaker}
use Rattle.message_model.specs.declared.blocks.Block.{Block}
use Rattle.message_model.specs.declared.messages.Kind4.{Kind4}
use Rattle.message_model.specs.declared.messages.Kind4.TheVariants.{Con, Non, Ack, Rst}
use Rattle.message_model.specs.declared.messages.Role.{Role}
use Rattle.message_model.specs.declared.messages.Role.TheVariants as role
use Rattle.message_model.specs.declared.messages.Unread.{Unread}
use Rattle.message_model.specs.declared.messages.Unread.TheVariants as unread
use Rattle.message_model.specs.declared.requests.Path.{Path}
use Rattle.message_model.specs.declared.requests.Path.TheVariants as path
use Rattle.message_model.specs.Blocks.{block_of}
use Rattle.message_model.specs.Codes as codes_of
use Rattle.message_model.specs.Message.{Message, role_of}
use Rattle.message_model.specs.OptionTable.{first_bad_option}
use Rattle.message_model.specs.Reading.{reading}
use Rattle.message_model.specs.Request.{path_in, observe_in}
use Rattle.message_model.specs.RequestKey.{key_in}
use Rattle.message_model.specs.Spelling.{header_spelling, spelling}
use Rattle.message_model.specs.FetchRequests.{fetch_request}
use Rattle.message_model.specs.Responses.{block_in, is_elsewhere}
use Rattle.message_model.proofs.MessageLaws.{reading_in_order}
use Rattle.message_model.proofs.ReadingLaws.{header_read}
use Rattle.history_model.specs.declared.entries.Entry.{Entry}
use Rattle.event_model.specs.declared.notes.Note.{Note}
use Rattle.event_model.specs.declared.notes.Note.TheVariants as note
use Rattle.event_model.specs.Events.{Event, last_said, or_else}
use Rattle.event_model.specs.KeptAnswers.{Answer, kept_answer}
use Rattle.event_model.specs.Observers.{observers, has_room_for}
use Rattle.event_model.specs.Repeats.{repeated, settled, answer_noted, is_full_of_exchanges}
use Rattle.event_model.specs.Fetches.{
  Request,
  max_fetches,
  fetches,
  is_fetching,
  next_token,
  last_request,
  gathered,
  collected,
  request_of,
}
use Rattle.event_model.proofs.AsideLaws.{each_noted}
use Rattle.journal_model.proofs.notes.BeginNotes.{beginning-notes, beginning-sent}
use Rattle.journal_model.specs.declared.steps.Step.{Step}
use Rattle.journal_model.specs.declared.steps.StepKind.{StepKind}
use Rattle.journal_model.specs.declared.steps.StepKind.TheVariants as step
use Rattle.journal_model.specs.declared.rows.Row.{Row}
use Rattle.journal_model.specs.DeskJournal.{IsDeskJournal, begun, made}
use Rattle.journal_model.specs.Effects.{
  Reply,
  bare,
  answer,
  answering,
  resetting,
  acknowledging,
  mid_of,
  drawn_for,
}
use Rattle.journal_model.specs.Journal.{events, entries, row_at}
use Rattle.journal_model.specs.Rows.{
  served,
  served_on_location,
  refusal_answered,
  unread_answered,
  request_answered,
  message_effects,
  heard,
  done,
  kept_body,
  row_moment,
  effects,
  row,
}
use Rattle.journal_model.specs.Requests.{
  refusal_of_request,
  asked_block,
  number_of,
  szx_of,
  query_of,
  register,
  deregister,
  is_later_block,
  Method,
  get,
  post,
  put,
  delete,
  other_method,
  method_of,
}
use Rattle.journal_model.specs.Changes.{Outcome, refused}
use Rattle.journal_model.specs.Registrations.{registering}
use Rattle.journal_model.specs.Commits.{
  settling,
  simple_unless,
  location_outcome,
  write_done,
  commit_effects,
  fetch_room,
}
use Rattle.journal_model.specs.EmptyMessages.{acknowledged, reset}
use Rattle.journal_model.specs.Looks.{
  Look,
  answered,
  held,
  not_live,
  look,
  look_sent,
  look_effects,
  looked,
  keep_effects,
}
use Rattle.journal_model.specs.Lookups.{
  listing_now,
  block_now,
  block_of_kept,
  block_of_found,
  found_now,
  later_block,
  read_effects,
  read_block_effects,
  without,
  observed_if,
  observed,
  unobserved,
  observation_effects,
  first_block_effects,
  block_effects,
  lookup_effects,
  observing_by,
}
use Rattle.journal_model.specs.Responses.{
  is_response_to,
  answered_request,
  fetch_of,
  strange,
  acknowledgement,
  more_follow,
  ends_fetch,
  gathering,
  response_taken,
  response_to,
  response_to_request,
  response_effects,
  response_use,
}
use Rattle.journal_model.specs.SentDatagrams.{is_response}
use Rattle.journal_model.specs.Ticks.{confirmable_sent, octets_sent, tick_effects}
use Rattle.journal_model.specs.Writes.{
  again_answered,
  is_unproved,
  admitted_unless,
  write_unless,
  write_effects,
}
use Rattle.journal_model.proofs.MessageSizeLaws.{spelling-most}
use Rattle.journal_model.proofs.NoteKinds.{
  of_lookup,
  of_write,
  of_empty,
  of_tick,
  of_response,
  are,
  are-weaker,
}
use Rattle.journal_model.proofs.StepNotes.{
  keep_effects-notes,
  lookup_effects-notes,
  read_effects-notes,
  write_effects-notes,
  tick_effects-notes,
}
use Rattle.journal_model.proofs.flights.NotificationsAgain.{stood}
use Rattle.journal_model.proofs.notes.ChangeNotes.{
  registering-notes,
  location-notes,
  response_effects-notes,
}
use Rattle.journal_model.proofs.notes.LookupNotes.{IsAsking}
use Rattle.journal_model.proofs.notes.StepTable.{
  StepNoted,
  nothing,
  write,
  lookup,
  source,
  empty,
  response,
  commit,
  failed,
  keep,
  tick,
  effects-StepNoted,
  begins,
}
use Rattle.journal_model.proofs.sends.BodyAnswers.{block_value-length, same_message}
use Rattle.journal_model.proofs.sends.TickSends.{sent_by-FoundSent, confirmable_of}
use Rattle.journal_model.proofs.sends.ValidSends.{is_confirmable, answers_apart}
use Rattle.journal_model.proofs.datagrams.TickedSends.{
  IsTicked,
  IsResendable,
  Resendable,
  tick_sends,
}
use Rattle.rd_desk.proofs.ticking.BoundLaws.{asking_observers}

-- what may be retransmitted of datagrams
abbrev AreResendable : List (Peer × List ℕ) → Type 0
AreResendable sent = AllByRecursion IsResendable sent

-- ---- one datagram

-- what is not confirmable is not retransmitted
never : (peer : Peer) (octets : List ℕ)
    → is_confirmable octets ≡ false
    → IsResendable (peer, octets)
never peer octets other con = absurd (false≢true (sym other ∙ con))

one_answer : (s : Step) (m : Message) (reply : Reply) (notes : List Note)
    → AreResendable (answering s m reply notes).sent
unfolding answering
one_answer s m reply notes =
    (never s.peer (spelling (answer s m reply)) (answers_apart s m reply), tt)

one_reset : (s : Step) (mid : ℕ) → AreResendable (resetting s mid).sent
unfolding spelling header_spelling
one_reset s mid = ((λ con. absurd (false≢true con)), tt)

one_acknowledgement : (s : Step) (mid : ℕ) → AreResendable (acknowledging s mid).sent
unfolding spelling header_spelling
one_acknowledgement s mid = ((λ con. absurd (false≢true con)), tt)

-- a request of a fetch fits
one_request : (s : Step) (mid : ℕ) (token : List ℕ) (b : Option Block)
    → length token ≤ 8
    → IsResendable (s.peer, spelling (fetch_request mid token b))
one_request s mid token b small con = by b
  where
    fits : (m : Message)
        → reading (spelling m) ≡ Ok m
        → length (spelling m) ≤ 1_280
        → is_response m ≡ false
        → IsTicked (s.peer, spelling m)
    fits m read short other = record {
      fits = record { message = m; read = read; short = short };
      content =
          λ n e responds.
          absurd (false≢true (sym (subst (λ (x : Message). is_response x ≡ false)
          (same_message m n (spelling m) read e) other)
          ∙ responds));
    }

    by : (x : Option Block) → IsTicked (s.peer, spelling (fetch_request mid token x))
    by None = fits (fetch_request mid token None)
        (reading_in_order (fetch_request mid token None)
        (record {
          class = refl;
          token = small;
          options = (
            omega arith,
            omega arith,
            omega arith,
            (omega arith, omega arith, omega arith, tt),
          );
          empty =
              λ e. absurd (omega (arith, e));
        }))
        (let most = spelling-most (fetch_request mid token None) in omega (arith, most, small)) refl
    by (Some x) = fits (fetch_request mid token (Some x))
        (reading_in_order (fetch_request mid token (Some x))
        (record {
          class = refl;
          token = small;
          options = (
            omega arith,
            omega arith,
            omega arith,
            (
              omega arith,
              omega arith,
              omega arith,
              (
                omega arith,
                omega arith,
                (let h = block_value-length x in omega (arith, h)),
                tt,
              ),
            ),
          );
          empty =
              λ e. absurd (omega (arith, e));
        }))
        (let most = spelling-most (fetch_request mid token (Some x)) in
        let h = block_value-length x in omega (arith, most, small, h)) refl

-- ---- answers that are kept for repeats

-- the octets that settle a write are not confirmable
abbrev SettledNever : Note → Type 0
SettledNever (note.Settled place octets) = is_confirmable octets ≡ false
SettledNever _ = Unit {0}

abbrev AllSettledNever : List Event → Type 0
AllSettledNever past = AllByRecursion (λ (e : Event). SettledNever e.note) past

settled_never : (place : ℕ) (past : List Event) (octets : List ℕ)
    → AllSettledNever past
    → settled place past ≡ Some octets
    → is_confirmable octets ≡ false
unfolding settled last_said
settled_never place [] octets all h = absurd (let no : None ≡ Some octets = h in cc)
settled_never place (e ∷ past) octets all h =
    by e.note all.0 h (λ k. settled_never place past octets all.1 k)
  where
    Goal : Type 0
    Goal = is_confirmable octets ≡ false

    here : (p : ℕ) (reply : List ℕ) (b : Bool)
        → is_confirmable reply ≡ false
        → or_else (cond b (Some reply) None) (last_said (answer_noted place) past) ≡ Some octets
        → (last_said (answer_noted place) past ≡ Some octets → Goal)
        → Goal
    here p reply true other k more =
        subst (λ (os : List ℕ). is_confirmable os ≡ false) (same_Some reply octets k) other
    here p reply false other k more = more k

    by : (n : Note)
        → SettledNever n
        → or_else (answer_noted place n) (last_said (answer_noted place) past) ≡ Some octets
        → (last_said (answer_noted place) past ≡ Some octets → Goal)
        → Goal
    by (note.Settled p reply) other k more = here p reply (p == place) other k more
    by _ other k more = more k

-- ---- steps that are no ticks

look_sends : (history : List Entry) (moment : ℕ) (s : Step) (m : Message)
    → AreResendable (look_effects history moment s m).sent
unfolding look_effects
look_sends history moment s m = by (look history moment m)
  where
    by : (given : Option Look) → AreResendable (look_sent s m given).sent
    by None = tt
    by (Some (answered reply)) = one_answer s m reply []
    by (Some (held found)) = tt

later_sends : (rows : List Row) (moment : ℕ) (s : Step) (m : Message)
    → AreResendable (later_block rows moment s m).sent
unfolding later_block
later_sends rows moment s m =
    by (found_now rows moment m) (kept_answer moment (s.peer, key_in m) (events rows))
  where
    part_of : (answer : Answer) (part : Option (List ℕ × Bool))
        → AreResendable (block_now s m answer part).sent
    part_of answer None = one_answer s m _ _
    part_of answer (Some part) = one_answer s m _ _

    fresh : (found : Option Answer) → AreResendable (block_of_found s m found).sent
    fresh None = one_answer s m not_live []
    fresh (Some answer) =
        part_of answer (block_of answer.body (number_of (asked_block m)) (szx_of (asked_block m)))

    by : (found kept : Option Answer) → AreResendable (block_of_kept s m found kept).sent
    by found (Some kept) = one_answer s m _ _
    by found None = fresh found

lookup_sends : (rows : List Row) (moment : ℕ) (s : Step) (m : Message)
    → AreResendable (lookup_effects rows moment s m).sent
unfolding lookup_effects observed unobserved
lookup_sends rows moment s m = by (is_later_block m)
  where
    with_value : (b : Bool)
        → AreResendable (observed_if b rows s m (listing_now rows moment m)).sent
    with_value true = one_answer s m _ _
    with_value false = one_answer s m _ _

    valued : (b c : Bool)
        → AreResendable (observation_effects (observing_by b c) rows moment s m).sent
    valued true c =
        with_value (has_room_for (query_of m) (without (s.peer, m.token) (observers (events rows))))
    valued false true = with_value false
    valued false false = look_sends (entries rows) moment s m

    observe : (o : Option ℕ) → AreResendable (first_block_effects o rows moment s m).sent
    observe None = look_sends (entries rows) moment s m
    observe (Some value) = valued (value == register) (value == deregister)

    by : (b : Bool) → AreResendable (block_effects b rows moment s m).sent
    by true = later_sends rows moment s m
    by false = observe (observe_in m)

read_sends : (rows : List Row) (moment : ℕ) (s : Step) (m : Message)
    → AreResendable (read_effects rows moment s m).sent
unfolding read_effects
read_sends rows moment s m = by (is_later_block m)
  where
    by : (b : Bool) → AreResendable (read_block_effects b rows moment s m).sent
    by true = later_sends rows moment s m
    by false = look_sends (entries rows) moment s m

write_sends : (past : List Event) (moment : ℕ) (s : Step) (m : Message)
    → AllSettledNever past
    → AreResendable (write_effects past moment s m).sent
unfolding write_effects
write_sends past moment s m all = by (repeated moment s.peer m.mid past)
  where
    again : (place : ℕ) (octets : Option (List ℕ))
        → settled place past ≡ octets
        → AreResendable (again_answered s octets).sent
    again place None e = tt
    again place (Some octets) e = (never s.peer octets (settled_never place past octets all e), tt)

    unless : (full unproved : Bool)
        → AreResendable (admitted_unless full unproved past s m).sent
    unless true unproved = one_answer s m _ _
    unless false true = one_answer s m _ _
    unless false false = tt

    by : (first : Option Event) → AreResendable (write_unless first past moment s m).sent
    by (Some first) = again first.place (settled first.place past) refl
    by None = unless (is_full_of_exchanges moment past) (is_unproved past moment s m)

request_sends : (rows : List Row) (moment : ℕ) (s : Step) (m : Message)
    → AllSettledNever (events rows)
    → AreResendable (request_answered (refusal_of_request m) rows moment s m).sent
unfolding served
request_sends rows moment s m all = by (refusal_of_request m)
  where
    refused : (kind : Kind4) (bad : Option ℕ) (reply : Reply)
        → AreResendable (refusal_answered kind bad s m reply).sent
    refused Non (Some number) reply = tt
    refused Non None reply = one_answer s m reply []
    refused Con bad reply = one_answer s m reply []
    refused Ack bad reply = one_answer s m reply []
    refused Rst bad reply = one_answer s m reply []

    located : (w : Method) → AreResendable (served_on_location w rows moment s m).sent
    located get = read_sends rows moment s m
    located post = write_sends (events rows) moment s m all
    located put = write_sends (events rows) moment s m all
    located delete = write_sends (events rows) moment s m all
    located other_method = tt

    on : (p : Path) → AreResendable (served p rows moment s m).sent
    on path.Core = look_sends (entries rows) moment s m
    on path.Res = lookup_sends rows moment s m
    on path.Ep = lookup_sends rows moment s m
    on path.SimpleRd = write_sends (events rows) moment s m all
    on path.Rd = write_sends (events rows) moment s m all
    on (path.Location number) = located (method_of m.code)
    on path.Other = tt

    by : (refusal : Option Reply) → AreResendable (request_answered refusal rows moment s m).sent
    by (Some refusal) = refused m.kind (first_bad_option m.options) refusal
    by None = on (path_in m)

commit_sends : (rows : List Row) (moment place : ℕ) (s : Step) (m : Message)
    → AreResendable (commit_effects rows moment place s m).sent
unfolding commit_effects next_token
commit_sends rows moment place s m = by (path_in m)
  where
    settles : (o : Outcome) → AreResendable (settling place s m o).sent
    settles o = one_answer s m o.reply _

    changed : Outcome
    changed = record { reply = bare codes_of.changed; notes = [] }

    short : length (next_token (events rows)) ≤ 8
    short = omega arith

    simple : (running too_many : Bool)
        → AreResendable (simple_unless (fetch_room running too_many) (events rows) place s m).sent
    simple true too_many = settles (refused codes_of.service_unavailable (codes "fetching"))
    simple false true = settles (refused codes_of.service_unavailable (codes "fetches"))
    simple false false =
        each_append IsResendable (settling place s m changed).sent
        ((
          s.peer,
          spelling (fetch_request (mid_of s.worker (s.drawn + drawn_for m.kind))
              (next_token (events rows)) None),
        )
        ∷ []) (settles changed) (
          one_request s (mid_of s.worker (s.drawn + drawn_for m.kind)) (next_token (events rows))
              None short,
          tt,
        )

    by : (p : Path) → AreResendable (write_done p rows moment place s m).sent
    by path.Core = tt
    by path.SimpleRd =
        simple (is_fetching s.peer (events rows))
        (nat_le max_fetches (length (fetches (events rows))))
    by path.Rd = settles (registering rows moment s m)
    by (path.Location number) =
        settles (location_outcome (method_of m.code) rows moment s m number)
    by path.Res = tt
    by path.Ep = tt
    by path.Other = tt

-- the token of a request that a response is to is the response's
response_token : (s : Step) (m : Message) (past : List Event) (request : Request)
    → fetch_of s m past ≡ Some request
    → m.token ≡ request.token
response_token s m past request found = running (is_fetching s.peer past) found
  where
    same : (b : Bool) (other : Request)
        → is_response_to m other ≡ b
        → cond b (Some other) None ≡ Some request
        → m.token ≡ request.token
    same true other e h =
        let it : other ≡ request = cc in
        let parts = and_parts _ _ e in
        let token = and_parts _ _ parts.0 in
        (bytes_eq-Decides m.token other.token).0 token.0 ∙ ap (λ (r : Request). r.token) it
    same false other e h = absurd (let no : None ≡ Some request = h in cc)

    of : (o : Option Request) → answered_request m o ≡ Some request → m.token ≡ request.token
    of None h = absurd (let no : None ≡ Some request = h in cc)
    of (Some other) h = same (is_response_to m other) other refl h

    running : (b : Bool)
        → cond b (answered_request m (request_of (last_request s.peer past))) None ≡ Some request
        → m.token ≡ request.token
    running true h = of (request_of (last_request s.peer past)) h
    running false h = absurd (let no : None ≡ Some request = h in cc)

response_sends : (rows : List Row) (moment : ℕ) (s : Step) (m : Message)
    → length m.token ≤ 8
    → AreResendable (response_effects rows moment s m).sent
unfolding response_effects
response_sends rows moment s m small = by (fetch_of s m (events rows)) refl
  where
    foreign : (k : Kind4) → AreResendable (strange s m k).sent
    foreign Con = one_reset s m.mid
    foreign Non = tt
    foreign Ack = tt
    foreign Rst = tt

    acknowledges : (k : Kind4) → AreResendable (acknowledgement s m k).sent
    acknowledges Con = one_acknowledgement s m.mid
    acknowledges Non = tt
    acknowledges Ack = tt
    acknowledges Rst = tt

    gathers : (more : Bool) (b : Option Block) (request : Request)
        → length request.token ≤ 8
        → AreResendable (gathering more b rows moment s m request).sent
    gathers more None request short = tt
    gathers false (Some b) request short = tt
    gathers true (Some b) request short = (
      one_request s (mid_of s.worker s.drawn) request.token
          (Some (record { num = b.num + 1; more = false; szx = b.szx })) short,
      tt,
    )

    taken : (elsewhere over : Bool) (request : Request)
        → length request.token ≤ 8
        → AreResendable
        (response_taken (response_use elsewhere over) rows moment s m request).sent
    taken true over request short = tt
    taken false true request short = tt
    taken false false request short = gathers (more_follow (block_in m)) (block_in m) request short

    by : (o : Option Request)
        → fetch_of s m (events rows) ≡ o
        → AreResendable (response_to_request o rows moment s m).sent
    by None e = foreign m.kind
    by (Some request) e =
        each_append IsResendable (acknowledgement s m m.kind).sent
        (response_to rows moment s m request).sent (acknowledges m.kind)
        (taken (is_elsewhere (block_in m) (length (collected s.peer (events rows))))
        (ends_fetch m (gathered s.peer (events rows)) (length (collected s.peer (events rows))))
        request
        (subst (λ (t : List ℕ). length t ≤ 8) (response_token s m (events rows) request e)
        small))

role_sends : (r : Role) (starved : Bool) (rows : List Row) (moment : ℕ) (s : Step) (m : Message)
    → AllSettledNever (events rows)
    → length m.token ≤ 8
    → AreResendable (message_effects r starved rows moment s m).sent
unfolding acknowledged reset
role_sends role.Ping starved rows moment s m all small = one_reset s m.mid
role_sends role.Acknowledgement starved rows moment s m all small = tt
role_sends role.Reset starved rows moment s m all small = tt
role_sends role.Request true rows moment s m all small = one_answer s m _ _
role_sends role.Request false rows moment s m all small = request_sends rows moment s m all
role_sends role.Response true rows moment s m all small = tt
role_sends role.Response false rows moment s m all small = response_sends rows moment s m small
role_sends role.Ignored starved rows moment s m all small = tt

unread_sends : (s : Step) (fault : Unread) → AreResendable (unread_answered s fault).sent
unread_sends s unread.Short = tt
unread_sends s unread.Version = tt
unread_sends s (unread.Format Con mid) = one_reset s mid
unread_sends s (unread.Format Non mid) = tt
unread_sends s (unread.Format Ack mid) = tt
unread_sends s (unread.Format Rst mid) = tt

-- any step, after rows of which what is confirmable may be retransmitted
step_sends : (kind : StepKind) (starved : Bool) (rows : List Row) (moment : ℕ) (s : Step)
    → AllSettledNever (events rows)
    → AreResendable (tick_effects starved rows moment s).sent
    → AreResendable (effects kind starved rows moment s).sent
unfolding effects keep_effects
step_sends step.Admit starved rows moment s all ticked = by (reading s.datagram) refl
  where
    by : (read : Result Message Unread)
        → reading s.datagram ≡ read
        → AreResendable (heard starved rows moment s read).sent
    by (Err fault) e = unread_sends s fault
    by (Ok m) e =
        role_sends (role_of m.kind m.code) starved rows moment s m all
        (header_read s.datagram m e).token
step_sends step.Look starved rows moment s all ticked = by starved (reading s.datagram)
  where
    by : (b : Bool) (read : Result Message Unread)
        → AreResendable (looked b (entries rows) moment s read).sent
    by b (Err fault) = tt
    by true (Ok m) = one_answer s m _ _
    by false (Ok m) = look_sends (entries rows) moment s m
step_sends (step.Commit place) starved rows moment s all ticked = by starved (reading s.datagram)
  where
    by : (b : Bool) (read : Result Message Unread)
        → AreResendable (done b rows moment place s read).sent
    by b (Err fault) = tt
    by true (Ok m) = one_answer s m _ _
    by false (Ok m) = commit_sends rows moment place s m
step_sends (step.Keep body current) starved rows moment s all ticked =
    by starved (reading s.datagram)
  where
    by : (b : Bool) (read : Result Message Unread)
        → AreResendable (kept_body b s read body current).sent
    by b (Err fault) = tt
    by true (Ok m) = one_answer s m _ _
    by false (Ok m) = one_answer s m _ _
step_sends step.Tick starved rows moment s all ticked = ticked
step_sends (step.Begin first) starved rows moment s all ticked =
    subst AreResendable (sym (beginning-sent starved (entries rows) moment s first)) tt

-- ---- what settles writes

not_settling : Note → Bool
not_settling (note.Settled place octets) = false
not_settling _ = true

never_settles : (notes : List Note)
    → are not_settling notes ≡ true
    → AllByRecursion SettledNever notes
unfolding not_settling
never_settles [] h = tt
never_settles (n ∷ notes) h =
    let both = and_parts (not_settling n) (are not_settling notes) h in
    (one n both.0, never_settles notes both.1)
  where
    one : (x : Note) → not_settling x ≡ true → SettledNever x
    one (note.Settled place octets) k = absurd (false≢true k)
    one _ k = tt

-- notes of a kind that is not of what settles
of_kind : (kind : Note → Bool)
    → ((n : Note) → kind n ≡ true → not_settling n ≡ true)
    → (notes : List Note)
    → are kind notes ≡ true
    → AllByRecursion SettledNever notes
of_kind kind wider notes h = never_settles notes (are-weaker kind not_settling wider notes h)

commit_settles : (rows : List Row) (moment place : ℕ) (s : Step) (m : Message)
    → AllByRecursion SettledNever (commit_effects rows moment place s m).notes
unfolding commit_effects answering not_settling
commit_settles rows moment place s m = by (path_in m)
  where
    settles : (o : Outcome)
        → are not_settling o.notes ≡ true
        → AllByRecursion SettledNever (settling place s m o).notes
    settles o h =
        each_append SettledNever o.notes (note.Settled place (spelling (answer s m o.reply)) ∷ [])
        (never_settles o.notes h) (answers_apart s m o.reply, tt)

    simple : (running too_many : Bool)
        → AllByRecursion SettledNever (simple_unless (fetch_room running too_many) (events rows)
        place s m).notes
    simple true too_many =
        (answers_apart s m (refused codes_of.service_unavailable (codes "fetching")).reply, tt)
    simple false true =
        (answers_apart s m (refused codes_of.service_unavailable (codes "fetches")).reply, tt)
    simple false false = (answers_apart s m (bare codes_of.changed), (tt, tt))

    location : (w : Method) (number : ℕ)
        → AllByRecursion SettledNever
        (settling place s m (location_outcome w rows moment s m number)).notes
    location w number =
        settles (location_outcome w rows moment s m number)
        (location-notes not_settling (λ entry. refl) (λ peer key number octets. refl)
        (λ peer key. refl) w rows moment s m number)

    by : (p : Path) → AllByRecursion SettledNever (write_done p rows moment place s m).notes
    by path.Core = tt
    by path.SimpleRd =
        simple (is_fetching s.peer (events rows))
        (nat_le max_fetches (length (fetches (events rows))))
    by path.Rd =
        settles (registering rows moment s m)
        (registering-notes not_settling (λ entry. refl) (λ peer key number octets. refl)
        (λ peer key. refl) rows moment s m)
    by (path.Location number) = location (method_of m.code) number
    by path.Res = tt
    by path.Ep = tt
    by path.Other = tt

of_write_other : (n : Note) → of_write n ≡ true → not_settling n ≡ true
unfolding not_settling
of_write_other (note.Settled place octets) h = absurd (false≢true h)
of_write_other _ h = refl

of_lookup_other : (n : Note) → of_lookup n ≡ true → not_settling n ≡ true
unfolding not_settling
of_lookup_other (note.Settled place octets) h = absurd (false≢true h)
of_lookup_other _ h = refl

of_empty_other : (n : Note) → of_empty n ≡ true → not_settling n ≡ true
unfolding not_settling
of_empty_other (note.Settled place octets) h = absurd (false≢true h)
of_empty_other _ h = refl

of_response_other : (n : Note) → of_response n ≡ true → not_settling n ≡ true
unfolding not_settling
of_response_other (note.Settled place octets) h = absurd (false≢true h)
of_response_other _ h = refl

of_tick_other : (n : Note) → of_tick n ≡ true → not_settling n ≡ true
unfolding not_settling
of_tick_other (note.Settled place octets) h = absurd (false≢true h)
of_tick_other _ h = refl

abbrev of_begin : Note → Bool
of_begin (note.Entered entry) = true
of_begin _ = false

of_begin_other : (n : Note) → of_begin n ≡ true → not_settling n ≡ true
unfolding not_settling
of_begin_other (note.Entered entry) h = refl
of_begin_other _ h = absurd (false≢true h)

step_settles : (kind : StepKind) (starved : Bool) (rows : List Row) (moment : ℕ) (s : Step)
    (notes : List Note)
    → StepNoted kind starved rows moment s notes
    → AllByRecursion SettledNever notes
step_settles kind starved rows moment s notes (nothing is) =
    subst (AllByRecursion SettledNever) (sym is) tt
step_settles kind starved rows moment s notes (write m of read asks is) =
    of_kind of_write of_write_other notes
    (ap (are of_write) is ∙ write_effects-notes (events rows) moment s m)
step_settles kind starved rows moment s notes (lookup m of read asks is) =
    of_kind of_lookup of_lookup_other notes
    (ap (are of_lookup) is ∙ lookup_effects-notes rows moment s m)
step_settles kind starved rows moment s notes (source m of read asks is) =
    of_kind of_lookup of_lookup_other notes
    (ap (are of_lookup) is ∙ read_effects-notes rows moment s m)
step_settles kind starved rows moment s notes (empty of all) =
    of_kind of_empty of_empty_other notes all
step_settles kind starved rows moment s notes (response m of read asks is) =
    of_kind of_response of_response_other notes
    (ap (are of_response) is ∙ response_effects-notes rows moment s m)
step_settles kind starved rows moment s notes (commit m place of read is) =
    subst (AllByRecursion SettledNever) (sym is) (commit_settles rows moment place s m)
step_settles kind starved rows moment s notes (failed place of is) =
    subst (AllByRecursion SettledNever) (sym is) (tt, tt)
step_settles kind starved rows moment s notes (keep m body current of is) =
    subst (AllByRecursion SettledNever) (sym (is ∙ keep_effects-notes s m body current)) (tt, tt)
step_settles kind starved rows moment s notes (tick of is) =
    of_kind of_tick of_tick_other notes
    (ap (are of_tick) is ∙ tick_effects-notes starved rows moment s)
step_settles kind starved rows moment s notes (begins first of is) =
    of_kind of_begin of_begin_other notes
    (ap (are of_begin) is
    ∙ beginning-notes of_begin (λ entry. refl) starved (entries rows) moment s first)

-- ---- all rows

record Known (rows : List Row) : Type 0 where
  resendable : Resendable rows
  settled : AllSettledNever (events rows)

row_known : (before : List Row) (s : Step) (starved : Bool)
    → IsDeskJournal before
    → Known before
    → Known (row before s starved ∷ before)
unfolding events row row_at
row_known before s starved journal known = record {
  resendable = λ place r at. found place r (place == length before) at;
  settled =
      each_noted (λ (e : Event). SettledNever e.note) (length before) (row_moment before s) s.word
      (effects s.kind starved before (row_moment before s) s).notes (events before)
      (step_settles s.kind starved before (row_moment before s) s _
      (effects-StepNoted s.kind starved before (row_moment before s) s)) known.settled;
}
  where
    ticked : AreResendable (tick_effects starved before (row_moment before s) s).sent
    ticked =
        each_weaker IsTicked IsResendable (λ d t con. t)
        (tick_effects starved before (row_moment before s) s).sent
        (tick_sends starved before (row_moment before s) s known.resendable
        (stood before (row_moment before s) s.word IsAsking
        (asking_observers before journal))).sent

    sends : AreResendable (effects s.kind starved before (row_moment before s) s).sent
    sends = step_sends s.kind starved before (row_moment before s) s known.settled ticked

    found : (place : ℕ) (r : Row) (b : Bool)
        → cond b (Some (row before s starved)) (row_at place before) ≡ Some r
        → AreResendable r.sent
    found place r true at =
        subst (λ (x : Row). AreResendable x.sent) (same_Some (row before s starved) r at) sends
    found place r false at = known.resendable place r at

desk_known : (rows : List Row) → IsDeskJournal rows → Known rows
unfolding events row_at
desk_known [] begun = record {
  resendable = λ place r at. absurd (let no : None ≡ Some r = at in cc);
  settled = tt;
}
desk_known (r ∷ before) (made {rows} s starved journal may) =
    row_known before s starved journal (desk_known before journal)

-- What may be retransmitted is no longer than a datagram may be.
pub short_octets : (rows : List Row)
    → IsDeskJournal rows
    → (place : ℕ) (peer : Peer) (mid : ℕ)
    → length (octets_sent rows place peer mid) ≤ 1_280
unfolding octets_sent
short_octets rows journal place peer mid = by (confirmable_sent (row_at place rows) peer mid) refl
  where
    by : (d : Option (Peer × List ℕ))
        → confirmable_sent (row_at place rows) peer mid ≡ d
        → length (unwrap_or (option_map (λ (x : Peer × List ℕ). x.1) d) []) ≤ 1_280
    by None e = omega arith
    by (Some d) e =
        let it =
        sent_by-FoundSent IsResendable (row_at place rows) peer mid d
        (λ r at. (desk_known rows journal).resendable place r at) e in
        (it.holds (confirmable_of mid d.1 it.confirmable)).fits.short
