-- The steps of the machine, as a table of fetches answers them: responses, the start of a fetch,
-- and requests that are retransmitted; and a row more.
use Rattle.std.proofs.Common.{
  ◌≡◌,
  ◌≢◌,
  ℕ,
  ◌+◌,
  ◌*◌,
  ◌/◌,
  ◌%◌,
  ◌<◌,
  ◌≤◌,
  ◌==◌,
  ◌&&◌,
  Bool,
  true,
  false,
  cond,
  List,
  [],
  ◌∷◌,
  ◌++◌,
  length,
  codes,
  find,
  Option,
  Some,
  None,
  option_map,
  refl,
  ap,
  eq-eqb,
  ◌∙◌,
  arith,
}
use Rattle.std.specs.Prelude.{is_none, nat_le, unwrap_or}
use Rattle.std.specs.List.{AllByRecursion}
use Rattle.std.proofs.lemmas.Bool.{and_parts, ne_eqb}
use Rattle.rd_base.specs.declared.peers.Peer.{Peer}
use Rattle.rd_base.proofs.lemmas.Numbers.{eqb-refl}
use Rattle.message_model.specs.declared.blocks.Block.{Block}
use Rattle.message_model.specs.declared.messages.Kind4.{Kind4}
use Rattle.message_model.specs.declared.messages.Kind4.TheVariants.{Con, Non, Ack, Rst}
use Rattle.message_model.specs.Codes as codes_of
use Rattle.message_model.specs.Message.{Message, longest_token}
use Rattle.message_model.specs.OptionTable.{first_bad_option}
use Rattle.message_model.specs.Request.{queries_in}
use Rattle.message_model.specs.Spelling.{spelling, header_spelling, kind_number}
use Rattle.message_model.specs.FetchRequests.{fetch_request}
use Rattle.record_model.specs.Parameters.{registration_values}
use Rattle.event_model.specs.declared.notes.Note.{Note}
use Rattle.event_model.specs.Same.{is_same_peer}
use Rattle.event_model.specs.Events.{Event}
use Rattle.event_model.specs.Fetches.{
  max_fetches,
  fetches,
  is_fetching,
  next_token,
  Request,
  last_request,
  is_request_to,
  request_of,
}
use Rattle.event_model.proofs.SameLaws.{is_same_peer-Decides, is_same_peer-refl}
use Rattle.journal_model.specs.declared.steps.Step.{Step}
use Rattle.journal_model.specs.declared.rows.Row.{Row}
use Rattle.journal_model.specs.Journal.{events, row_at}
use Rattle.journal_model.specs.Effects.{joined, bare, drawn_for}
use Rattle.journal_model.specs.Changes.{refused}
use Rattle.journal_model.specs.Commits.{settling, asking, registering_simply}
use Rattle.journal_model.specs.Responses.{
  answered_request,
  ends_fetch,
  more_follow,
  completed,
  gathering,
  response_taken,
  response_to,
  response_use,
}
use Rattle.journal_model.specs.Responses as responses
use Rattle.journal_model.specs.Ticks.{
  octets_sent,
  is_confirmable_with,
  confirmable_sent,
  repeating,
  sent_again,
}
use Rattle.journal_model.proofs.EventRows.{row_of}
use Rattle.simple_registration.specs.declared.starts.StartFault.TheVariants as fault
use Rattle.simple_registration.specs.Sendable.{IsSendable}
use Rattle.simple_registration.specs.Table.{Table}
use Rattle.simple_registration.specs.FetchEvents.{
  FetchesStandFor,
  start_refusal,
  has_names_of_request,
  belongs_after,
}
use Rattle.simple_registration.proofs.DeskLaws.{FetchesStandFor-octets}

-- ---- responses

-- a response is to the last request of a fetch exactly where it belongs to the fetch, and has no
-- unrecognized critical option
pub fetch_of-belongs : (s : Step) (m : Message) (past : List Event)
    → responses.fetch_of s m past
    ≡ cond (belongs_after s.peer m past && is_none (first_bad_option m.options))
    (request_of (last_request s.peer past)) None
fetch_of-belongs s m past = by (is_fetching s.peer past) (request_of (last_request s.peer past))
  where
    by : (running : Bool) (o : Option Request)
        → cond running (answered_request m o) None
        ≡ cond (running && has_names_of_request m o && is_none (first_bad_option m.options)) o
        None
    by false o = refl
    by true None = refl
    by true (Some r) = refl

-- a simple registration starts one, where nothing refuses that
pub registering_simply-starts : (past : List Event) (place : ℕ) (s : Step) (m : Message)
    → start_refusal s.peer past ≡ None
    → registering_simply past place s m
    ≡ joined (settling place s m (record { reply = bare codes_of.changed; notes = [] }))
    (asking s (s.drawn + drawn_for m.kind) (next_token past)
    (registration_values (queries_in m)) 0 None)
registering_simply-starts past place s m idle =
    by (is_fetching s.peer past) (nat_le max_fetches (length (fetches past))) refl refl idle
  where
    Goal : Type 0
    Goal =
        registering_simply past place s m
        ≡ joined (settling place s m (record { reply = bare codes_of.changed; notes = [] }))
        (asking s (s.drawn + drawn_for m.kind) (next_token past)
        (registration_values (queries_in m)) 0 None)

    by : (f n : Bool)
        → is_fetching s.peer past ≡ f
        → nat_le max_fetches (length (fetches past)) ≡ n
        → cond f (Some (fault.Fetching s.peer)) (cond n (Some fault.FullFetches) None) ≡ None
        → Goal
    by true n e g h = absurd cc
    by false true e g h = absurd cc
    by false false e g h = rw (e, g) refl

-- else it is refused with the diagnostic of the fault
pub registering_simply-fetching : (past : List Event) (place : ℕ) (s : Step) (m : Message)
    (peer : Peer)
    → start_refusal s.peer past ≡ Some (fault.Fetching peer)
    → registering_simply past place s m
    ≡ settling place s m (refused codes_of.service_unavailable (codes "fetching"))
registering_simply-fetching past place s m peer runs =
    by (is_fetching s.peer past) (nat_le max_fetches (length (fetches past))) refl runs
  where
    by : (f n : Bool)
        → is_fetching s.peer past ≡ f
        → cond f (Some (fault.Fetching s.peer)) (cond n (Some fault.FullFetches) None)
        ≡ Some (fault.Fetching peer)
        → registering_simply past place s m
        ≡ settling place s m (refused codes_of.service_unavailable (codes "fetching"))
    by true n e h = rw e refl
    by false true e h = absurd cc
    by false false e h = absurd cc

pub registering_simply-full : (past : List Event) (place : ℕ) (s : Step) (m : Message)
    → start_refusal s.peer past ≡ Some fault.FullFetches
    → registering_simply past place s m
    ≡ settling place s m (refused codes_of.service_unavailable (codes "fetches"))
registering_simply-full past place s m full =
    by (is_fetching s.peer past) (nat_le max_fetches (length (fetches past))) refl refl full
  where
    by : (f n : Bool)
        → is_fetching s.peer past ≡ f
        → nat_le max_fetches (length (fetches past)) ≡ n
        → cond f (Some (fault.Fetching s.peer)) (cond n (Some fault.FullFetches) None)
        ≡ Some fault.FullFetches
        → registering_simply past place s m
        ≡ settling place s m (refused codes_of.service_unavailable (codes "fetches"))
    by true n e g h = absurd cc
    by false true e g h = rw (e, g) refl
    by false false e g h = absurd cc

-- ---- requests that are retransmitted

-- a request of a fetch is a confirmable message with its Message ID
pub request_confirmable : (mid : ℕ) (token : List ℕ) (b : Option Block)
    → length token ≤ longest_token
    → is_confirmable_with mid (spelling (fetch_request mid token b)) ≡ true
unfolding spelling header_spelling
request_confirmable mid token b short = rw (first, second) refl
  where
    first : ((64 + length token) / 16 == 4) ≡ true
    first = eq-eqb ((64 + length token) / 16) 4 (omega (arith, short))

    second : (mid / 256 * 256 + mid % 256 == mid) ≡ true
    second = eq-eqb (mid / 256 * 256 + mid % 256) mid (omega arith)

-- a request that can be sent is one
pub sendable_confirmable : (mid : ℕ) (octets : List ℕ)
    → IsSendable mid octets
    → is_confirmable_with mid octets ≡ true
sendable_confirmable mid octets it =
    ap (is_confirmable_with mid) it.spelled ∙ request_confirmable mid it.token it.block it.short

-- and a message of another type is none
pub other_kind : (mid : ℕ) (m : Message)
    → length m.token ≤ longest_token
    → m.kind ≢ Con
    → is_confirmable_with mid (spelling m) ≡ false
unfolding spelling header_spelling
other_kind mid m short other = rw (by m.kind other) refl
  where
    by : (kind : Kind4)
        → kind ≢ Con
        → ((64 + kind_number kind * 16 + length m.token) / 16 == 4) ≡ false
    by Con h = absurd (h refl)
    by Non h = ne_eqb ((80 + length m.token) / 16) 4 (λ e. absurd (omega (arith, short, e)))
    by Ack h = ne_eqb ((96 + length m.token) / 16) 4 (λ e. absurd (omega (arith, short, e)))
    by Rst h = ne_eqb ((112 + length m.token) / 16) 4 (λ e. absurd (omega (arith, short, e)))

-- the octets that the row being made sent to a peer in the confirmable message with a Message ID:
-- those of the first such datagram
pub octets_sent-here : (rows : List Row) (r : Row) (peer : Peer) (mid : ℕ) (bytes : List ℕ)
    (front rest : List (Peer × List ℕ))
    → r.sent ≡ front ++ (peer, bytes) ∷ rest
    → AllByRecursion (λ d. (is_same_peer d.0 peer && is_confirmable_with mid d.1) ≡ false) front
    → is_confirmable_with mid bytes ≡ true
    → octets_sent (r ∷ rows) (length rows) peer mid ≡ bytes
unfolding octets_sent row_at
octets_sent-here rows r peer mid bytes front rest sent none it =
    rw (eqb-refl (length rows)) (rw sent
    (ap (λ d. unwrap_or (option_map (λ (x : Peer × List ℕ). x.1) d) []) (found front none)))
  where
    test : Peer × List ℕ → Bool
    test d = is_same_peer d.0 peer && is_confirmable_with mid d.1

    found : (ds : List (Peer × List ℕ))
        → AllByRecursion (λ d. (is_same_peer d.0 peer && is_confirmable_with mid d.1) ≡ false) ds
        → find test (ds ++ (peer, bytes) ∷ rest) ≡ Some (peer, bytes)
    found [] h = rw (is_same_peer-refl peer, it) refl
    found (d ∷ ds) h = let no : test d ≡ false = h.0 in rw no (found ds h.1)

-- the octets that a row sent are sent once more, where it sent some
pub repeating-octets : (rows : List Row) (place : ℕ) (peer : Peer) (mid : ℕ) (n : Note)
    → 0 < length (octets_sent rows place peer mid)
    → repeating rows place peer mid n ≡ record {
      sent = (peer, octets_sent rows place peer mid) ∷ [];
      notes = n ∷ [];
      drew = 0;
    }
unfolding octets_sent
repeating-octets rows place peer mid n some = row (row_at place rows) some
  where
    Some_again : Option (Peer × List ℕ) → Type 0
    Some_again d = 0 < length (unwrap_or (option_map (λ (x : Peer × List ℕ). x.1) d) [])
        → sent_again d n ≡ record {
          sent = (peer, unwrap_or (option_map (λ (x : Peer × List ℕ). x.1) d) []) ∷ [];
          notes = n ∷ [];
          drew = 0;
        }

    test : Peer × List ℕ → Bool
    test d = is_same_peer d.0 peer && is_confirmable_with mid d.1

    passes : (ds : List (Peer × List ℕ)) → Some_again (find test ds)
    passes [] h = absurd (omega (arith, h))
    passes (d ∷ ds) h = by (test d) refl h (passes ds)
      where
        by : (b : Bool)
            → test d ≡ b
            → 0
            < length (unwrap_or
            (option_map (λ (x : Peer × List ℕ). x.1) (cond b (Some d) (find test ds)))
            [])
            → Some_again (find test ds)
            → sent_again (cond b (Some d) (find test ds)) n ≡ record {
              sent = (
                peer,
                unwrap_or
                    (option_map (λ (x : Peer × List ℕ). x.1) (cond b (Some d) (find test ds))) [],
              )
                  ∷ [];
              notes = n ∷ [];
              drew = 0;
            }
        by true e h more =
            let at : d.0 ≡ peer =
            (is_same_peer-Decides d.0 peer).0
            (and_parts (is_same_peer d.0 peer) (is_confirmable_with mid d.1) e).0 in
            ap (λ p. record { sent = (p, d.1) ∷ []; notes = n ∷ []; drew = 0 }) at
        by false e h more = more h

    row : (r : Option Row) → Some_again (confirmable_sent r peer mid)
    row None h = absurd (omega (arith, h))
    row (Some r) h = passes r.sent h

-- a table of fetches stands for the same events while a row is made after the rows of these
pub FetchesStandFor-row : (rows : List Row) (r : Row) (t : Table)
    → FetchesStandFor (octets_sent rows) (events rows) t
    → FetchesStandFor (octets_sent (r ∷ rows)) (events rows) t
unfolding octets_sent row_at
FetchesStandFor-row rows r t stands =
    FetchesStandFor-octets (octets_sent rows) (octets_sent (r ∷ rows)) (events rows) t same stands
  where
    same : (q : Peer) (e : Event)
        → last_request q (events rows) ≡ Some e
        → (mid : ℕ)
        → octets_sent (r ∷ rows) e.place q mid ≡ octets_sent rows e.place q mid
    same q e last mid =
        let below = (row_of (is_request_to q) rows e last).below in
        let before : (e.place == length rows) ≡ false =
        ne_eqb e.place (length rows) (λ at. absurd (omega (arith, below, at))) in
        rw before refl
