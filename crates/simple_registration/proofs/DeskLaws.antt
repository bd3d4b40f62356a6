-- What a desk needs that keeps a table of fetches while it makes rows: notes that are aside, rows
-- that come after, and what is due. End theorems: nothing here cites them.
use Rattle.std.proofs.Common.{
  ◌≡◌,
  ℕ,
  ◌+◌,
  ◌&&◌,
  Bool,
  true,
  false,
  not,
  cond,
  List,
  [],
  ◌∷◌,
  ◌++◌,
  filter,
  Option,
  Some,
  None,
  option_map,
  option_and_then,
  refl,
  sym,
  ap,
  subst,
  ◌∙◌,
}
use Rattle.std.specs.List.{cons_option, filter_map, list_any, AllByRecursion}
use Rattle.std.proofs.lemmas.Bool.{false≢true}
use Rattle.std.proofs.lemmas.List.Elements.{filter-append}
use Rattle.rd_base.specs.declared.peers.Peer.{Peer}
use Rattle.event_model.specs.declared.notes.Note.{Note}
use Rattle.event_model.specs.declared.notes.Note.TheVariants as note
use Rattle.event_model.specs.Same.{is_same_peer}
use Rattle.event_model.specs.Events.{Event, noted, events_since}
use Rattle.event_model.specs.Flights.{OctetsSent}
use Rattle.event_model.specs.Fetches.{
  fetches,
  is_fetching,
  is_start,
  starts_or_ends_fetch,
  started_by,
  Request,
  request_noted,
  last_request,
  is_request_to,
  fetch_asked,
  fetch_of,
  fetches_running,
  is_waiting,
  resendings,
  fetch_deadline,
  made_request,
  is_last_request,
}
use Rattle.event_model.proofs.SameLaws.{is_same_peer-refl}
use Rattle.event_model.proofs.AsideLaws.{notes_aside}
use Rattle.event_model.proofs.AsideTables.{about_fetches, fetches_running-noted}
use Rattle.simple_registration.specs.Table.{Table}
use Rattle.simple_registration.specs.FetchEvents.{FetchesStandFor, fetch_due}
use Rattle.simple_registration.proofs.NoteLaws.{IsAside}
use Rattle.simple_registration.proofs.PeerLaws.{
  fetches-aside,
  fetches-Ceased,
  fetches-apart,
  other_peer-symmetric,
  AreApart,
}
use Rattle.simple_registration.proofs.TableLaws.{started-aside}

-- ---- notes that say nothing of fetches

-- one
FetchesStandFor-aside : (octets : OctetsSent) (t : Table) (e : Event) (past : List Event)
    → about_fetches e.note ≡ false
    → FetchesStandFor octets past t
    → FetchesStandFor octets (e ∷ past) t
FetchesStandFor-aside octets t e past other stands = record {
  running =
      stands.running
      ∙ sym
      (fetches_running-noted octets e.place e.moment e.word (e.note ∷ []) past (rw other refl));
  started = stands.started ∙ sym (started-aside e past (none e.note other));
}
  where
    none : (n : Note) → about_fetches n ≡ false → is_start n ≡ false
    none (note.Asked p token mid params number) h = absurd (false≢true (sym h))
    none _ h = refl

-- those of a row
pub FetchesStandFor-noted : (octets : OctetsSent) (t : Table) (place moment word : ℕ)
    (notes : List Note) (past : List Event)
    → list_any about_fetches notes ≡ false
    → FetchesStandFor octets past t
    → FetchesStandFor octets (noted place moment word notes past) t
FetchesStandFor-noted octets t place moment word notes past none stands =
    notes_aside about_fetches (λ past. FetchesStandFor octets past t)
    (λ e past other h. FetchesStandFor-aside octets t e past other h) place moment word notes
    past none stands

-- and they leave whose last request has a Message ID
last_request_aside : (peer : Peer) (mid : ℕ) (e : Event) (past : List Event)
    → about_fetches e.note ≡ false
    → is_last_request peer mid (e ∷ past) ≡ is_last_request peer mid past
last_request_aside peer mid e past other =
    ap (λ peers.
    list_any (is_same_peer peer) peers && made_request mid (last_request peer (e ∷ past)))
    (fetches-aside e past (λ q. still e.note other q) (none e.note other))
    ∙ ap (λ o. is_fetching peer past && made_request mid o) (same e.note other)
  where
    still : (n : Note) → about_fetches n ≡ false → (q : Peer) → starts_or_ends_fetch n q ≡ false
    still (note.Asked p token mid params number) h q = absurd (false≢true (sym h))
    still (note.Ceased p) h q = absurd (false≢true (sym h))
    still _ h q = refl

    none : (n : Note) → about_fetches n ≡ false → started_by n ≡ []
    none (note.Asked p token mid params number) h = absurd (false≢true (sym h))
    none _ h = refl

    same : (n : Note)
        → about_fetches n ≡ false
        → cond (is_request_to peer n) (Some e) (last_request peer past) ≡ last_request peer past
    same (note.Asked p token mid params number) h = absurd (false≢true (sym h))
    same _ h = refl

pub last_request-noted : (peer : Peer) (mid place moment word : ℕ) (notes : List Note)
    (past : List Event)
    → list_any about_fetches notes ≡ false
    → is_last_request peer mid (noted place moment word notes past) ≡ is_last_request peer mid past
last_request-noted peer mid place moment word notes past none =
    notes_aside about_fetches
    (λ later. is_last_request peer mid later ≡ is_last_request peer mid past)
    (λ e later other h. last_request_aside peer mid e later other ∙ h) place moment word notes
    past none refl

-- ---- octets

-- the fetch is shown the same by the same octets
shown_octets : (octets others : OctetsSent) (q : Peer) (past : List Event) (o : Option Event)
    → ((e : Event) → o ≡ Some e → (mid : ℕ) → others e.place q mid ≡ octets e.place q mid)
    → option_and_then (λ e. option_map (fetch_asked others past q e) (request_noted e.note)) o
    ≡ option_and_then (λ e. option_map (fetch_asked octets past q e) (request_noted e.note)) o
shown_octets octets others q past None same = refl
shown_octets octets others q past (Some e) same = by (request_noted e.note)
  where
    by : (r : Option Request)
        → option_map (fetch_asked others past q e) r ≡ option_map (fetch_asked octets past q e) r
    by None = refl
    by (Some r) = ap (λ f. Some f) (rw (same e refl r.mid) refl)

-- a table stands for the same events by other octets, where these are the same at the place of each
-- last request
pub FetchesStandFor-octets : (octets others : OctetsSent) (past : List Event) (t : Table)
    → ((q : Peer) (e : Event)
    → last_request q past ≡ Some e
    → (mid : ℕ)
    → others e.place q mid ≡ octets e.place q mid)
    → FetchesStandFor octets past t → FetchesStandFor others past t
unfolding fetches_running
FetchesStandFor-octets octets others past t same stands = record {
  running = stands.running ∙ sym (found (fetches past));
  started = stands.started;
}
  where
    found : (peers : List Peer)
        → filter_map (fetch_of others past) peers ≡ filter_map (fetch_of octets past) peers
    found [] = refl
    found (q ∷ peers) =
        rw (shown_octets octets others q past (last_request q past)
        (λ e last mid. same q e last mid))
        (ap (λ fs. cons_option (fetch_of octets past q) fs) (found peers))

-- ---- the fetch of a peer, while notes of others come

pub last_request-other : (q : Peer) (e : Event) (past : List Event)
    → IsAside q e.note
    → last_request q (e ∷ past) ≡ last_request q past
last_request-other q e past aside = rw aside.request refl

pub fetch_due-other : (now : ℕ) (q : Peer) (e x : Event) (past : List Event)
    → IsAside q x.note
    → fetch_due now q e (x ∷ past) ≡ fetch_due now q e past
unfolding fetch_due fetch_deadline events_since
fetch_due-other now q e x past aside =
    let waits : is_waiting q (x ∷ past) ≡ is_waiting q past =
    rw aside.request (rw aside.waiting refl) in
    let again : resendings q (x ∷ past) ≡ resendings q past =
    rw aside.request (rw aside.resent refl) in
    rw (waits, again) refl

-- the end of a fetch leaves the others where they stood
pub fetches-Ceased-at : (p : Peer) (e : Event) (past : List Event) (front rest : List Peer)
    → e.note ≡ note.Ceased p
    → fetches past ≡ front ++ p ∷ rest
    → fetches (e ∷ past) ≡ front ++ rest
fetches-Ceased-at p e past front rest is whole =
    fetches-Ceased p e past is
    ∙ (ap (filter keep) whole
    ∙ (filter-append keep front (p ∷ rest)
    ∙ rw (is_same_peer-refl p)
    (both front (subst (λ (ps : List Peer). AreApart ps) whole (fetches-apart past)))))
  where
    keep : Peer → Bool
    keep q = not (is_same_peer p q)

    all : (ps : List Peer) → AllByRecursion (λ q. is_same_peer p q ≡ false) ps → filter keep ps ≡ ps
    all [] h = refl
    all (q ∷ ps) h = let no = h.0 in rw no (ap (λ qs. q ∷ qs) (all ps h.1))

    -- the part of those behind
    behind : (ps : List Peer)
        → AreApart (ps ++ p ∷ rest)
        → AllByRecursion (λ q. is_same_peer p q ≡ false) rest
    behind [] h = h.0
    behind (q ∷ ps) h = behind ps h.1

    -- and of those in front
    within : (q : Peer) (ps : List Peer)
        → AllByRecursion (λ x. is_same_peer q x ≡ false) (ps ++ p ∷ rest)
        → is_same_peer q p ≡ false
    within q [] h = h.0
    within q (x ∷ ps) h = within q ps h.1

    before : (ps : List Peer)
        → AreApart (ps ++ p ∷ rest)
        → AllByRecursion (λ q. is_same_peer p q ≡ false) ps
    before [] h = tt
    before (q ∷ ps) h = (other_peer-symmetric q p (within q ps h.0), before ps h.1)

    both : (ps : List Peer)
        → AreApart (ps ++ p ∷ rest)
        → filter keep ps ++ filter keep rest ≡ ps ++ rest
    both ps h =
        ap (λ qs. qs ++ filter keep rest) (all ps (before ps h))
        ∙ ap (λ qs. ps ++ qs) (all rest (behind ps h))
