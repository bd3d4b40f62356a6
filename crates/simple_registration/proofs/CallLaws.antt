-- What the calls on a table answer and leave, from what is kept.
use Rattle.std.proofs.Common.{
  ◌≡◌,
  ◌≢◌,
  ℕ,
  ◌+◌,
  ◌<◌,
  ◌≤◌,
  ◌==◌,
  ◌&&◌,
  ◌%◌,
  ◌^◌,
  Bool,
  true,
  false,
  List,
  [],
  ◌∷◌,
  ◌++◌,
  length,
  set,
  get_or,
  find,
  Option,
  Some,
  None,
  option_map,
  option_and_then,
  refl,
  sym,
  ap,
  subst,
  ◌∙◌,
  arith,
}
use Rattle.std.specs.Prelude.{is_some, nat_le}
use Rattle.std.specs.List.{position, slice_get, count_by}
use Rattle.std.specs.Int.{bytes_high_first}
use Rattle.std.proofs.lemmas.Bool.{false≢true}
use Rattle.std.proofs.lemmas.List.{set-get_or}
use Rattle.std.proofs.lemmas.Option.{slice_get_read}
use Rattle.rd_base.specs.declared.peers.Peer.{Peer}
use Rattle.rd_base.specs.declared.parameters.RegParams.{RegParams}
use Rattle.message_model.specs.declared.blocks.Block.{Block}
use Rattle.message_model.specs.Message.{Message}
use Rattle.message_model.specs.Responses.{block_in, tag_in, is_elsewhere, ends_by}
use Rattle.event_model.specs.declared.notes.Note.TheVariants as note
use Rattle.event_model.specs.Events.{Event}
use Rattle.event_model.specs.Flights.{OctetsSent}
use Rattle.event_model.specs.Fetches.{
  max_fetches,
  fetches,
  is_fetching,
  is_start,
  next_token,
  fetches_started,
  Request,
  request_noted,
  last_request,
  Fetch,
  fetch_asked,
  fetch_of,
  request_of,
  is_last_request,
}
use Rattle.exchange_core.specs.declared.resends.Again.{Again}
use Rattle.exchange_core.specs.declared.resends.Again.TheVariants as again
use Rattle.simple_registration.specs.declared.asks.Ask.{Ask}
use Rattle.simple_registration.specs.declared.hearing.Heard.{Heard}
use Rattle.simple_registration.specs.declared.hearing.Heard.TheVariants as heard
use Rattle.simple_registration.specs.declared.starts.StartFault.TheVariants as fault
use Rattle.simple_registration.specs.Responses.{request_after, heard_part, heard_block, heard_by}
use Rattle.simple_registration.specs.Running.{
  is_answered_by,
  heard_of,
  with_next,
  with_request,
  with_block,
  awaiting,
  due_of,
  after_due,
}
use Rattle.simple_registration.specs.Hearing.{IsLeftBy, fetch_started, first_octets}
use Rattle.rd_base.specs.Firsts.{changed_first, without_first}
use Rattle.simple_registration.specs.Table.{Table, is_of, some_passes, belongs_among, IsKeptAfter}
use Rattle.simple_registration.specs.FetchEvents.{
  FetchesStandFor,
  start_refusal,
  belongs_after,
  heard_after,
  fetch_due,
}
use Rattle.rd_base.proofs.lemmas.Firsts.{changed_first-at, find-at, find-or, find-nowhere}
use Rattle.simple_registration.proofs.RunningLaws.{running-at, running-set}
use Rattle.simple_registration.proofs.TokenLaws.{octets_after}
use Rattle.simple_registration.proofs.RuleLaws.{due_is}
use Rattle.simple_registration.proofs.TableLaws.{
  found_running,
  none_running,
  running_length,
  running_passes,
  names_passed,
  mid_passed,
  is_shown,
  stands-started,
  stands-resent,
  stands-waiting,
  stands-ceased,
  stands-next,
}

-- a table of these
abbrev pub table_of : List Fetch → ℕ → Table
table_of fs n = record { fetches = fs; started = n }

-- ---- whose fetch it is

-- one that stands at an index
pub found_at : (octets : OctetsSent) (events : List Event) (fs : List Fetch) (n : ℕ) (p : Peer)
    (i : ℕ) (f : Fetch)
    → FetchesStandFor octets events (table_of fs n)
    → position (is_of p) fs ≡ Some i
    → f ≡ get_or fs i f
    → (is_fetching p events ≡ true) × (fetch_of octets events p ≡ Some f)
found_at octets events fs n p i f stands there is =
    found_running octets events (table_of fs n) p f stands (find-at (is_of p) fs i f there is)

-- none where it stands nowhere
pub nowhere : (octets : OctetsSent) (events : List Event) (fs : List Fetch) (n : ℕ) (p : Peer)
    → FetchesStandFor octets events (table_of fs n)
    → position (is_of p) fs ≡ None
    → is_fetching p events ≡ false
nowhere octets events fs n p stands none =
    none_running octets events (table_of fs n) p stands (find-nowhere (is_of p) fs none)

-- ---- starts

-- a fetch of the peer runs
pub refused_fetching : (octets : OctetsSent) (events : List Event) (fs : List Fetch) (n : ℕ)
    (p : Peer)
    → FetchesStandFor octets events (table_of fs n)
    → is_some (position (is_of p) fs) ≡ true
    → start_refusal p events ≡ Some (fault.Fetching p)
refused_fetching octets events fs n p stands some = by (position (is_of p) fs) refl some
  where
    found : (xs : List Fetch)
        → fs ≡ xs
        → (i : ℕ)
        → position (is_of p) xs ≡ Some i
        → is_fetching p events ≡ true
    found [] is i there = absurd cc
    found (x ∷ xs) is i there =
        let good : FetchesStandFor octets events (table_of (x ∷ xs) n) =
        subst (λ (ys : List Fetch). FetchesStandFor octets events (table_of ys n)) is stands in
        (found_running octets events (table_of (x ∷ xs) n) p (get_or (x ∷ xs) i x) good
        (find-or (is_of p) (x ∷ xs) i x there)).0

    by : (o : Option ℕ)
        → position (is_of p) fs ≡ o
        → is_some o ≡ true
        → start_refusal p events ≡ Some (fault.Fetching p)
    by None none h = absurd (false≢true h)
    by (Some i) there h = rw (found fs refl i there) refl

-- none does, and as many as may run
pub refused_full : (octets : OctetsSent) (events : List Event) (fs : List Fetch) (n : ℕ) (p : Peer)
    → FetchesStandFor octets events (table_of fs n)
    → is_some (position (is_of p) fs) ≡ false
    → 64 ≤ length fs
    → start_refusal p events ≡ Some fault.FullFetches
refused_full octets events fs n p stands none full =
    let idle : is_fetching p events ≡ false =
    nowhere octets events fs n p stands (no_value (position (is_of p) fs) none) in
    let many = running_length octets events (table_of fs n) stands in
    let enough : nat_le max_fetches (length (fetches events)) ≡ true = grind (arith, many, full) in
    rw (idle, enough) refl
  where
    no_value : (o : Option ℕ) → is_some o ≡ false → o ≡ None
    no_value None h = refl
    no_value (Some i) h = absurd (false≢true (sym h))

-- and otherwise it starts
pub not_refused : (octets : OctetsSent) (events : List Event) (fs : List Fetch) (n : ℕ) (p : Peer)
    → FetchesStandFor octets events (table_of fs n)
    → is_some (position (is_of p) fs) ≡ false
    → length fs < 64
    → (is_fetching p events ≡ false) × (start_refusal p events ≡ None)
not_refused octets events fs n p stands none few =
    let idle : is_fetching p events ≡ false =
    nowhere octets events fs n p stands (no_value (position (is_of p) fs) none) in
    let many = running_length octets events (table_of fs n) stands in
    let room : nat_le max_fetches (length (fetches events)) ≡ false = grind (arith, many, few) in
    (idle, rw (idle, room) refl)
  where
    no_value : (o : Option ℕ) → is_some o ≡ false → o ≡ None
    no_value None h = refl
    no_value (Some i) h = absurd (false≢true (sym h))

-- its token
pub token_is : (octets : OctetsSent) (events : List Event) (fs : List Fetch) (n : ℕ)
    → FetchesStandFor octets events (table_of fs n)
    → bytes_high_first 8 ((n + 1) % 2 ^ 64) ≡ next_token events
unfolding next_token fetches_started
token_is octets events fs n stands =
    ap (λ k. bytes_high_first 8 ((k + 1) % 2 ^ 64)) stands.started
    ∙ octets_after (count_by (λ (e : Event). is_start e.note) events)

-- the table with it
pub starts : (octets : OctetsSent) (now word mid : ℕ) (p : Peer) (token : List ℕ)
    (params : RegParams) (bytes : List ℕ) (e : Event) (events : List Event) (fs : List Fetch)
    (n : ℕ)
    → is_fetching p events ≡ false
    → e.note ≡ note.Asked p (next_token events) mid params 0
    → e.moment ≡ now
    → e.word ≡ word
    → token ≡ next_token events
    → bytes ≡ first_octets mid token
    → octets e.place p mid ≡ bytes
    → FetchesStandFor octets events (table_of fs n)
    → FetchesStandFor octets (e ∷ events)
    (table_of (fs ++ fetch_started now word mid p token params ∷ []) ((n + 1) % 2 ^ 64))
starts octets now word mid p token params bytes e events fs n idle is at with token_is bytes_is sent
    stands =
    stands-started octets now word mid p token params e events (table_of fs n)
    (table_of (fs ++ fetch_started now word mid p token params ∷ []) ((n + 1) % 2 ^ 64)) idle
    (subst (λ t. e.note ≡ note.Asked p t mid params 0) (sym token_is) is) at with
    (ap (λ o.
    fs
    ++ record {
      peer =
          p;
      token =
          token;
      params =
          params;
      number =
          0;
      asked =
          now;
      waits =
          record {
            mid =
                mid;
            octets =
                o;
            resend =
                (fetch_started now word mid p token
                params).waits.resend;
          };
      acknowledged =
          false;
      body = [];
      tag = None;
    }
    ∷ [])
    (sym bytes_is ∙ sym sent)) refl stands

-- ---- responses

pub belongs : (octets : OctetsSent) (events : List Event) (fs : List Fetch) (n : ℕ) (p : Peer)
    (m : Message)
    → FetchesStandFor octets events (table_of fs n)
    → belongs_among p m fs ≡ belongs_after p m events
belongs octets events fs n p m stands =
    running_passes octets events (table_of fs n) p (is_answered_by m) stands
    ∙ ap (λ b. is_fetching p events && b) (names_passed octets events p m)

-- one that belongs finds a fetch
pub belongs_nowhere : (fs : List Fetch) (p : Peer) (m : Message)
    → belongs_among p m fs ≡ true
    → position (is_of p) fs ≡ None
    → ⊥
belongs_nowhere fs p m belongs none =
    false≢true
    (sym (ap (some_passes (is_answered_by m)) (find-nowhere (is_of p) fs none)) ∙ belongs)

-- what comes of it
pub answers : (octets : OctetsSent) (events : List Event) (fs : List Fetch) (n : ℕ) (p : Peer)
    (mid : ℕ) (m : Message) (request : Request) (i : ℕ) (f : Fetch)
    → position (is_of p) fs ≡ Some i
    → f ≡ get_or fs i f
    → FetchesStandFor octets events (table_of fs n)
    → request_of (last_request p events) ≡ Some request
    → heard_of mid m f ≡ heard_after mid p m request events
answers octets events fs n p mid m request i f there is stands made =
    let shown =
    is_shown octets events p request f (found_at octets events fs n p i f stands there is).1
    made in
    ap (heard_of mid m) shown.shown

-- the octets of the next request
next_bytes : (elsewhere ends more : Bool) (mid : ℕ) (p : Peer) (token : List ℕ) (params : RegParams)
    (body : List ℕ) (b : Block) (ask : Ask)
    → heard.Next ask ≡ heard_by elsewhere ends (heard_part more b mid p token params body)
    → ask.bytes ≡ request_after mid token b
next_bytes true ends more mid p token params body b ask is = absurd cc
next_bytes false true more mid p token params body b ask is = absurd cc
next_bytes false false true mid p token params body b ask is =
    let same : ask ≡ record { peer = p; bytes = request_after mid token b } = cc in
    ap (λ (a : Ask). a.bytes) same
next_bytes false false false mid p token params body b ask is = absurd cc

pub next_octets : (mid : ℕ) (m : Message) (f : Fetch) (b : Block) (ask : Ask)
    → block_in m ≡ Some b
    → heard.Next ask ≡ heard_of mid m f
    → ask.bytes ≡ request_after mid f.token b
next_octets mid m f b ask is said =
    next_bytes (is_elsewhere (block_in m) (length f.body)) (ends_by m f.tag (length f.body)) b.more
    mid f.peer f.token f.params (f.body ++ m.payload) b ask
    (said
    ∙ ap (λ o.
    heard_by (is_elsewhere (block_in m) (length f.body)) (ends_by m f.tag (length f.body))
    (heard_block o mid f.peer f.token f.params (f.body ++ m.payload))) is)

-- the table with the next request
pub goes_on : (octets : OctetsSent) (events : List Event) (fs : List Fetch) (n : ℕ) (p : Peer)
    (now word mid : ℕ) (m : Message) (request : Request) (b : Block) (g a : Event) (ask : Ask)
    (i : ℕ) (f y : Fetch)
    → position (is_of p) fs ≡ Some i
    → f ≡ get_or fs i f
    → FetchesStandFor octets events (table_of fs n)
    → request_of (last_request p events) ≡ Some request
    → block_in m ≡ Some b
    → heard.Next ask ≡ heard_of mid m f
    → g.note ≡ note.Gathered p m.payload (tag_in m)
    → a.note ≡ note.Asked p request.token mid request.params (b.num + 1)
    → a.moment ≡ now
    → a.word ≡ word
    → octets a.place p mid ≡ ask.bytes
    → y ≡ with_next now word mid m b f
    → FetchesStandFor octets (a ∷ g ∷ events) (table_of (set fs i y) n)
goes_on octets events fs n p now word mid m request b g a ask i f y there is stands made block said
    g_is a_is at with sent y_is =
    stands-next octets p f y request m.payload (tag_in m) now word mid b.num g a events
    (table_of fs n) (table_of (set fs i y) n) g_is a_is at with
    (found_at octets events fs n p i f stands there is).1 made
    (y_is
    ∙ ap (λ o. with_request (b.num + 1) now word mid o (with_block m.payload (tag_in m) f))
    (sym (next_octets mid m f b ask block said) ∙ sym sent))
    (changed_first-at (is_of p) (λ x. y) fs i f there is) refl stands

-- the table without its fetch
pub ends : (octets : OctetsSent) (events : List Event) (fs fewer : List Fetch) (n : ℕ) (p : Peer)
    (e : Event)
    → fewer ≡ without_first (is_of p) fs
    → e.note ≡ note.Ceased p
    → FetchesStandFor octets events (table_of fs n)
    → FetchesStandFor octets (e ∷ events) (table_of fewer n)
ends octets events fs fewer n p e left is stands =
    stands-ceased octets p e events (table_of fs n) (table_of fewer n) is left refl stands

-- one that is as it was leaves the list as it was
pub set_same : (fs : List Fetch) (i : ℕ) (f y : Fetch) → f ≡ get_or fs i f → y ≡ f → set fs i y ≡ fs
set_same fs i f y is same = ap (set fs i) (same ∙ is) ∙ set-get_or fs i f

-- ---- empty messages

pub last_request_is : (octets : OctetsSent) (events : List Event) (fs : List Fetch) (n : ℕ)
    (p : Peer) (mid : ℕ)
    → FetchesStandFor octets events (table_of fs n)
    → some_passes (λ f. f.waits.mid == mid) (find (is_of p) fs) ≡ is_last_request p mid events
last_request_is octets events fs n p mid stands =
    running_passes octets events (table_of fs n) p (λ f. f.waits.mid == mid) stands
    ∙ ap (λ b. is_fetching p events && b) (mid_passed octets events p mid)

pub waits : (octets : OctetsSent) (events : List Event) (fs : List Fetch) (n : ℕ) (p : Peer)
    (e : Event) (i : ℕ) (f y : Fetch)
    → position (is_of p) fs ≡ Some i
    → f ≡ get_or fs i f
    → y ≡ awaiting f
    → e.note ≡ note.Waiting p
    → FetchesStandFor octets events (table_of fs n)
    → FetchesStandFor octets (e ∷ events) (table_of (set fs i y) n)
waits octets events fs n p e i f y there is y_is note_is stands =
    stands-waiting octets p f e events (table_of fs n) (table_of (set fs i y) n) note_is
    (found_at octets events fs n p i f stands there is).1
    (ap (set fs i) y_is ∙ changed_first-at (is_of p) (λ x. awaiting f) fs i f there is) refl stands

-- ---- ticks

-- the fetch at an index is that of the peer there
pub indexed : (octets : OctetsSent) (events : List Event) (fs : List Fetch) (n : ℕ) (p : Peer)
    (i : ℕ) (f : Fetch)
    → FetchesStandFor octets events (table_of fs n)
    → slice_get (fetches events) i ≡ Some p
    → i < length fs
    → f ≡ get_or fs i f → fetch_of octets events p ≡ Some f
indexed octets events fs n p i f stands at inside is =
    sym (running-at octets events p i at)
    ∙ (ap (λ xs. slice_get xs i) (sym stands.running)
    ∙ slice_get_read fs (length fs) i f refl inside is)

pub due : (octets : OctetsSent) (events : List Event) (fs : List Fetch) (n : ℕ) (p : Peer)
    (now i : ℕ) (f : Fetch) (e : Event)
    → FetchesStandFor octets events (table_of fs n)
    → slice_get (fetches events) i ≡ Some p
    → i < length fs
    → f ≡ get_or fs i f
    → last_request p events ≡ Some e
    → due_of now f ≡ fetch_due now p e events
due octets events fs n p now i f e stands at inside is last = by (request_noted e.note) refl
  where
    was : fetch_of octets events p ≡ Some f
    was = indexed octets events fs n p i f stands at inside is

    shown : (r : Option Request)
        → request_noted e.note ≡ r
        → option_map (fetch_asked octets events p e) (request_noted e.note) ≡ Some f
    shown r h =
        subst (λ o.
        option_and_then
        (λ x. option_map (fetch_asked octets events p x) (request_noted x.note)) o
        ≡ Some f) last was

    by : (r : Option Request) → request_noted e.note ≡ r → due_of now f ≡ fetch_due now p e events
    by None h =
        let no : None ≡ Some f =
        ap (option_map (fetch_asked octets events p e)) (sym h) ∙ shown None h in
        absurd cc
    by (Some r) h =
        let yes : Some (fetch_asked octets events p e r) ≡ Some f =
        ap (option_map (fetch_asked octets events p e)) (sym h) ∙ shown (Some r) h in
        let same : fetch_asked octets events p e r ≡ f = cc in
        ap (due_of now) (sym same) ∙ due_is octets now p e r events

pub resent : (octets : OctetsSent) (events : List Event) (fs : List Fetch) (n : ℕ) (p : Peer)
    (now i : ℕ) (f y : Fetch) (e : Event)
    → FetchesStandFor octets events (table_of fs n)
    → slice_get (fetches events) i ≡ Some p
    → i < length fs
    → f ≡ get_or fs i f
    → y ≡ after_due again.Send now f
    → e.note ≡ note.Resent p
    → e.moment ≡ now
    → FetchesStandFor octets (e ∷ events) (table_of (set fs i y) n)
resent octets events fs n p now i f y e stands at inside is y_is note_is moment_is =
    stands-resent octets p f now e events (table_of fs n) (table_of (set fs i y) n) note_is
    moment_is (indexed octets events fs n p i f stands at inside is)
    (ap (set fs i) y_is
    ∙ (ap (λ xs. set xs i (after_due again.Send now f)) stands.running
    ∙ (running-set octets events p (after_due again.Send now f) i at
    ∙ ap (changed_first (is_of p) (λ x. after_due again.Send now f)) (sym stands.running))))
    refl stands

-- what is not retransmitted is as it was
pub not_resent : (now : ℕ) (f : Fetch)
    → due_of now f ≢ again.Send
    → after_due (due_of now f) now f ≡ f
not_resent now f other = by (due_of now f) other
  where
    by : (d : Again) → d ≢ again.Send → after_due d now f ≡ f
    by again.Send h = absurd (h refl)
    by again.Wait h = refl
    by again.GaveUp h = refl

-- after a response that neither asks for the next block nor ends the fetch, the table is as before
pub kept_after_response : (h : Heard) (now word mid : ℕ) (m : Message) (fs : List Fetch) (n i : ℕ)
    (f y : Fetch)
    → f ≡ get_or fs i f
    → IsLeftBy h now word mid m f y
    → IsKeptAfter h (table_of fs n) (table_of (set fs i y) n)
kept_after_response (heard.Next ask) now word mid m fs n i f y is left = tt
kept_after_response heard.Ended now word mid m fs n i f y is left = tt
kept_after_response _ now word mid m fs n i f y is left =
    ap (λ xs. table_of xs n) (set_same fs i f y is left)
