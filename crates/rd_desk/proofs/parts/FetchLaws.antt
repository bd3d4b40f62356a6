-- The fetches that run show the same requests whatever else the row that is being made sends.
use Rattle.std.proofs.Common.{
  ◌≡◌,
  ℕ,
  Bool,
  true,
  false,
  List,
  [],
  ◌∷◌,
  length,
  filter_map,
  Option,
  Some,
  None,
  option_map,
  option_and_then,
  refl,
  sym,
  ap,
  subst,
  ◌∙◌,
}
use Rattle.std.specs.List.{cons_option, list_any}
use Rattle.std.proofs.lemmas.Bool.{false≢true}
use Rattle.std.proofs.lemmas.Option.{same_Some}
use Rattle.rd_base.specs.declared.peers.Peer.{Peer}
use Rattle.rd_base.proofs.lemmas.Among.{all_among}
use Rattle.event_model.specs.declared.notes.Note.{Note}
use Rattle.event_model.specs.declared.notes.Note.TheVariants as note
use Rattle.event_model.specs.Events.{Event, noted, last_event}
use Rattle.event_model.specs.Flights.{OctetsSent}
use Rattle.event_model.specs.Fetches.{
  Request,
  Fetch,
  request_noted,
  is_request_to,
  last_request,
  fetches,
  fetch_asked,
  fetch_of,
  fetches_running,
}
use Rattle.event_model.proofs.SameLaws.{is_same_peer-Decides}
use Rattle.event_model.proofs.NotedLaws.{last_event-before}
use Rattle.journal_model.specs.declared.steps.Step.{Step}
use Rattle.journal_model.specs.declared.rows.Row.{Row}
use Rattle.journal_model.specs.Effects.{Effects, joined}
use Rattle.journal_model.specs.Journal.{events}
use Rattle.journal_model.specs.Rows.{row_with, row_moment}
use Rattle.journal_model.specs.Ticks.{octets_sent}
use Rattle.journal_model.specs.UnfinishedRow.{making}
use Rattle.journal_model.proofs.EventRows.{found_in, RowOf, row_of}
use Rattle.journal_model.proofs.RowEquations.{events-row}
use Rattle.simple_registration.specs.Table.{Table}
use Rattle.simple_registration.specs.FetchEvents.{FetchesStandFor}
use Rattle.coap_answers.specs.Sendings.{is_confirmable_sent, IsRequestSent, AreRequestsSent}
use Rattle.rd_desk.proofs.parts.MakingLaws.{octets-making_before, octets-making_own}

-- two ways to find the octets that rows sent agree on the last request to a peer
abbrev Agree : OctetsSent → OctetsSent → Peer → Option Event → Type 0
Agree one two peer last =
    (e : Event) (r : Request)
    → last ≡ Some e
    → request_noted e.note ≡ Some r
    → two e.place peer r.mid ≡ one e.place peer r.mid

-- then they show the same fetch
shown_same : (one two : OctetsSent) (past : List Event) (peer : Peer) (last : Option Event)
    → Agree one two peer last
    → option_and_then (λ e. option_map (fetch_asked two past peer e) (request_noted e.note)) last
    ≡ option_and_then (λ e. option_map (fetch_asked one past peer e) (request_noted e.note))
    last
shown_same one two past peer None same = refl
shown_same one two past peer (Some e) same = by (request_noted e.note) refl
  where
    by : (r : Option Request)
        → request_noted e.note ≡ r
        → option_map (fetch_asked two past peer e) r ≡ option_map (fetch_asked one past peer e) r
    by None is = refl
    by (Some r) is = ap (λ (f : Fetch). Some f) (rw (same e r refl is) refl)

-- and the same fetches
running_same : (one two : OctetsSent) (past : List Event)
    → ((peer : Peer) → Agree one two peer (last_request peer past))
    → fetches_running two past ≡ fetches_running one past
unfolding fetches_running
running_same one two past same = found (fetches past)
  where
    found : (peers : List Peer)
        → filter_map (fetch_of two past) peers ≡ filter_map (fetch_of one past) peers
    found [] = refl
    found (peer ∷ peers) =
        rw (shown_same one two past peer (last_request peer past) (same peer))
        (ap (λ (fs : List Fetch). cons_option (fetch_of one past peer) fs) (found peers))

-- a request to a peer that is sent
request_sent : (sent : List (Peer × List ℕ)) (peer : Peer) (r : Request) (n : Note)
    → IsRequestSent sent n
    → is_request_to peer n ≡ true
    → request_noted n ≡ Some r
    → is_confirmable_sent sent peer r.mid ≡ true
request_sent sent peer r (note.Asked p token mid params number) h to is =
    let same : p ≡ peer = (is_same_peer-Decides p peer).0 to in
    let own : mid ≡ r.mid =
    ap (λ (x : Request). x.mid)
    (same_Some (record { token = token; mid = mid; params = params; number = number }) r is)
    in
    subst (λ (q : Peer). is_confirmable_sent sent q r.mid ≡ true) same
    (subst (λ k. is_confirmable_sent sent p k ≡ true) own h)
request_sent sent peer r _ h to is = absurd (false≢true to)

-- what is done next sends whatever it does: the last request to each peer is as before
agree_more : (rows : List Row) (s : Step) (starved : Bool) (done more : Effects) (peer : Peer)
    → AreRequestsSent done
    → Agree (octets_sent (making rows s starved done))
    (octets_sent (making rows s starved (joined done more))) peer
    (last_request peer (events (making rows s starved done)))
agree_more rows s starved done more peer requests e r last is =
    by (list_any (is_request_to peer) done.notes) refl
  where
    found :
        last_event (is_request_to peer)
        (noted (length rows) (row_moment rows s) s.word done.notes (events rows))
        ≡ Some e
    found =
        ap (last_event (is_request_to peer))
        (sym (events-row rows (row_with s (row_moment rows s) starved done)))
        ∙ last

    Same : ℕ → Type 0
    Same place =
        octets_sent (making rows s starved (joined done more)) place peer r.mid
        ≡ octets_sent (making rows s starved done) place peer r.mid

    by : (b : Bool) → list_any (is_request_to peer) done.notes ≡ b → Same e.place
    by true some =
        let it =
        found_in (is_request_to peer) (length rows) (row_moment rows s) s.word done.notes
        (events rows) e some found in
        let sent =
        request_sent done.sent peer r e.note
        (all_among (IsRequestSent done.sent) e.note done.notes requests it.0) it.2 is in
        subst Same (sym it.1) (octets-making_own rows s starved done more peer r.mid sent)
    by false none =
        let earlier : last_event (is_request_to peer) (events rows) ≡ Some e =
        sym (last_event-before (is_request_to peer) (length rows) (row_moment rows s) s.word
        done.notes (events rows) none)
        ∙ found in
        let it : RowOf (is_request_to peer) rows e = row_of (is_request_to peer) rows e earlier in
        octets-making_before rows s starved done more e.place peer r.mid it.below

-- so a table of fetches stands for the same events
pub FetchesStandFor-sent : (rows : List Row) (s : Step) (starved : Bool) (done more : Effects)
    (t : Table)
    → AreRequestsSent done
    → FetchesStandFor (octets_sent (making rows s starved done))
    (events (making rows s starved done)) t
    → FetchesStandFor (octets_sent (making rows s starved (joined done more)))
    (events (making rows s starved done)) t
FetchesStandFor-sent rows s starved done more t requests stands = record {
  running = stands.running
      ∙ sym (running_same (octets_sent (making rows s starved done))
      (octets_sent (making rows s starved (joined done more)))
      (events (making rows s starved done))
      (λ peer. agree_more rows s starved done more peer requests));
  started = stands.started;
}
