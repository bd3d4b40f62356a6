-- Fetches that run, and the messages that are no answers: they are read as they were written.
use Rattle.std.proofs.Common.{
  ◌≡◌,
  ℕ,
  ◌+◌,
  ◌≤◌,
  ◌==◌,
  ◌&&◌,
  Bool,
  true,
  false,
  not,
  cond,
  List,
  [],
  ◌∷◌,
  ◌++◌,
  length,
  filter,
  Option,
  Some,
  None,
  Ok,
  bytes_eq,
  is_none,
  refl,
  ap,
  ◌∙◌,
  arith,
  append-nil,
}
use Rattle.std.specs.List.{list_any}
use Rattle.std.proofs.lemmas.Bool.{and_parts, or_right, ne_eqb}
use Rattle.std.proofs.lemmas.List.Folds.{list_any-append}
use Rattle.std.proofs.lemmas.Option.{same_Some}
use Rattle.std.proofs.lemmas.Slice.Eq.{bytes_eq-Decides}
use Rattle.rd_base.specs.declared.peers.Peer.{Peer}
use Rattle.rd_base.specs.declared.parameters.RegParams.{RegParams}
use Rattle.rd_base.proofs.lemmas.Filters.{filter_all}
use Rattle.rd_base.proofs.lemmas.Each.{each_one}
use Rattle.message_model.specs.declared.blocks.Block.{Block}
use Rattle.message_model.specs.declared.messages.Kind4.{Kind4}
use Rattle.message_model.specs.Message.{Message, longest_token}
use Rattle.message_model.specs.OptionTable.{first_bad_option}
use Rattle.message_model.specs.Reading.{reading}
use Rattle.message_model.specs.Spelling.{spelling}
use Rattle.message_model.specs.FetchRequests.{fetch_request}
use Rattle.message_model.specs.Responses.{has_mid_of}
use Rattle.message_model.proofs.MessageLaws.{reading_in_order}
use Rattle.event_model.specs.declared.notes.Note.{Note}
use Rattle.event_model.specs.declared.notes.Note.TheVariants as note
use Rattle.event_model.specs.Same.{is_same_peer}
use Rattle.event_model.specs.Events.{Event, noted}
use Rattle.event_model.specs.Fetches.{
  Request,
  fetches,
  is_fetching,
  last_request,
  request_of,
  started_by,
  starts_or_ends_fetch,
}
use Rattle.event_model.proofs.EventEquations.{fetches-event}
use Rattle.event_model.proofs.NotedLaws.{event_at, noted-append}
use Rattle.event_model.proofs.SameLaws.{is_same_peer-refl}
use Rattle.journal_model.specs.declared.steps.Step.{Step}
use Rattle.journal_model.specs.Effects.{empty_message}
use Rattle.journal_model.specs.Responses.{is_response_to, answered_request, fetch_of}
use Rattle.journal_model.proofs.sends.BodyAnswers.{block_value-length}

-- ---- who runs

-- a fetch that starts last runs
pub starts_running : (place moment word : ℕ) (notes : List Note) (peer : Peer) (token : List ℕ)
    (mid : ℕ) (params : RegParams) (before : List Event)
    → is_fetching peer
    (noted place moment word (notes ++ note.Asked peer token mid params 0 ∷ []) before)
    ≡ true
starts_running place moment word notes peer token mid params before =
    ap (is_fetching peer)
    (noted-append place moment word notes (note.Asked peer token mid params 0 ∷ []) before)
    ∙ last (noted place moment word notes before)
  where
    last : (past : List Event)
        → is_fetching peer
        (event_at place moment word (note.Asked peer token mid params 0) ∷ past)
        ≡ true
    last past =
        ap (list_any (is_same_peer peer))
        (fetches-event (event_at place moment word (note.Asked peer token mid params 0)) past)
        ∙ (list_any-append (is_same_peer peer)
        (filter (λ p. not (starts_or_ends_fetch (note.Asked peer token mid params 0) p))
        (fetches past)) (peer ∷ [])
        ∙ or_right (list_any (is_same_peer peer)
        (filter (λ p. not (starts_or_ends_fetch (note.Asked peer token mid params 0) p))
        (fetches past))) (list_any (is_same_peer peer) (peer ∷ []))
        (rw (is_same_peer-refl peer) refl))

-- the note starts and ends no fetch
pub record IsSteady (n : Note) : Type 0 where
  pub ends : (peer : Peer) → starts_or_ends_fetch n peer ≡ false
  pub starts : started_by n ≡ []

-- then the same fetches run
steady_event : (e : Event) (before : List Event)
    → IsSteady e.note
    → fetches (e ∷ before) ≡ fetches before
steady_event e before steady =
    fetches-event e before
    ∙ (ap (λ more. filter (λ p. not (starts_or_ends_fetch e.note p)) (fetches before) ++ more)
    steady.starts
    ∙ (append-nil (filter (λ p. not (starts_or_ends_fetch e.note p)) (fetches before))
    ∙ filter_all (λ p. not (starts_or_ends_fetch e.note p)) (fetches before)
    (each_one (λ p. not (starts_or_ends_fetch e.note p) ≡ true) (λ p. ap not (steady.ends p))
    (fetches before))))

-- a request for a further block is such a note
further_steady : (peer : Peer) (token : List ℕ) (mid : ℕ) (params : RegParams) (number : ℕ)
    → IsSteady (note.Asked peer token mid params (number + 1))
further_steady peer token mid params number = record {
  ends = λ p. rw other refl;
  starts = rw other refl;
}
  where
    other : (number + 1 == 0) ≡ false
    other = ne_eqb (number + 1) 0 (λ same. absurd (omega (arith, same)))

-- so a fetch that gathers a block and asks for the next runs on
pub goes_on_running : (place moment word : ℕ) (peer : Peer) (octets : List ℕ)
    (tag : Option (List ℕ)) (token : List ℕ) (mid : ℕ) (params : RegParams) (number : ℕ)
    (before : List Event)
    → is_fetching peer before ≡ true
    → is_fetching peer
    (noted place moment word
    (note.Gathered peer octets tag ∷ note.Asked peer token mid params (number + 1) ∷ []) before)
    ≡ true
goes_on_running place moment word peer octets tag token mid params number before runs =
    ap (list_any (is_same_peer peer))
    (steady_event
    (event_at place moment word (note.Asked peer token mid params (number + 1)))
    (event_at place moment word (note.Gathered peer octets tag) ∷ before)
    (further_steady peer token mid params number)
    ∙ steady_event (event_at place moment word (note.Gathered peer octets tag)) before
    (record { ends = λ p. refl; starts = refl }))
    ∙ runs

-- ---- the fetch that a response is to

-- it runs, and the response has its token
pub record IsOfFetch (s : Step) (m : Message) (past : List Event) (request : Request) : Type 0 where
  pub runs : is_fetching s.peer past ≡ true
  pub token : m.token ≡ request.token

pub fetch_found : (s : Step) (m : Message) (past : List Event) (request : Request)
    → fetch_of s m past ≡ Some request
    → IsOfFetch s m past request
fetch_found s m past request found = running (is_fetching s.peer past) refl found
  where
    same : (b : Bool) (other : Request)
        → is_response_to m other ≡ b
        → cond b (Some other) None ≡ Some request
        → m.token ≡ request.token
    same true other e h =
        let it : other ≡ request = same_Some other request h in
        let parts =
        and_parts (bytes_eq m.token other.token && has_mid_of m.kind m.mid other.mid)
        (is_none (first_bad_option m.options)) e in
        let token =
        and_parts (bytes_eq m.token other.token) (has_mid_of m.kind m.mid other.mid) parts.0 in
        (bytes_eq-Decides m.token other.token).0 token.0 ∙ ap (λ (r : Request). r.token) it
    same false other e h = absurd (let no : None ≡ Some request = h in cc)

    of : (o : Option Request) → answered_request m o ≡ Some request → m.token ≡ request.token
    of None h = absurd (let no : None ≡ Some request = h in cc)
    of (Some other) h = same (is_response_to m other) other refl h

    running : (b : Bool)
        → is_fetching s.peer past ≡ b
        → cond b (answered_request m (request_of (last_request s.peer past))) None ≡ Some request
        → IsOfFetch s m past request
    running true e h = record {
      runs = e;
      token = of (request_of (last_request s.peer past)) h;
    }
    running false e h = absurd (let no : None ≡ Some request = h in cc)

-- ---- messages that are no answers

-- an empty message is read as it was written
pub empty_read : (kind : Kind4) (mid : ℕ)
    → reading (spelling (empty_message kind mid)) ≡ Ok (empty_message kind mid)
empty_read kind mid =
    reading_in_order (empty_message kind mid)
    (record {
      class = refl;
      token = omega arith;
      options = tt;
      empty =
          λ e. record { token = refl; options = refl; payload = refl };
    })

-- and so is a request of a fetch
pub request_read : (mid : ℕ) (token : List ℕ) (b : Option Block)
    → length token ≤ longest_token
    → reading (spelling (fetch_request mid token b)) ≡ Ok (fetch_request mid token b)
request_read mid token b small = by b
  where
    by : (x : Option Block)
        → reading (spelling (fetch_request mid token x)) ≡ Ok (fetch_request mid token x)
    by None =
        reading_in_order (fetch_request mid token None)
        (record {
          class = refl;
          token = small;
          options = (
            omega arith,
            omega arith,
            omega arith,
            (omega arith, omega arith, omega arith, tt),
          );
          empty =
              λ e. absurd (omega (arith, e));
        })
    by (Some x) =
        reading_in_order (fetch_request mid token (Some x))
        (record {
          class = refl;
          token = small;
          options = (
            omega arith,
            omega arith,
            omega arith,
            (
              omega arith,
              omega arith,
              omega arith,
              (
                omega arith,
                omega arith,
                (let h = block_value-length x in omega (arith, h)),
                tt,
              ),
            ),
          );
          empty =
              λ e. absurd (omega (arith, e));
        })
