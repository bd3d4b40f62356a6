-- The workers of a server, one more.
use Rattle.std.proofs.Common.{◌≡◌, ℕ, ◌+◌, ◌<◌, ◌≤◌, List, ◌++◌, length, set, get_or}
use Rattle.std.proofs.Common.{Option, Some, None, refl, sym, ap, ◌∙◌, subst}
use Rattle.std.proofs.Common.{◌⊎◌, inl, inr, arith}
use Rattle.std.specs.Prelude.{IfSome}
use Rattle.std.specs.List.{slice_get}
use Rattle.std.proofs.lemmas.Bool.{cases_lt}
use Rattle.std.proofs.lemmas.List.{get_or_default, get_or-set_same, get_or-set_other}
use Rattle.udp_link.specs.declared.links.Link as links
use Rattle.udp_link.specs.declared.clocks.Clock as clocks
use Rattle.rd_seat.specs.Callers.{caller_seen}
use Rattle.rd_seat.specs.Seats.{HallSeen, SeatSeen, IsOfHall, new_seat}
use Rattle.rd_seat.specs.Runs as runs
use Rattle.rd_seat.specs.Runs.{HasCalled}
use Rattle.rd_seat.proofs.SeatRuns.{hall_after, calls_go_on}
use Rattle.rd_server.specs.declared.serving.ends.End.{End}
use Rattle.rd_server.specs.serving.Sendings.{all_sent}
use Rattle.rd_server.specs.serving.Servers.{EndServes}
use Rattle.rd_server.specs.serving.Turns.{calls_of}
use Rattle.tcp_door.specs.Lanes.{LaneSeen}
use Rattle.joint_server.specs.declared.posts.Post.{Post}
use Rattle.joint_server.specs.declared.posts.Post.TheVariants as post
use Rattle.joint_server.specs.declared.posts.Stand.{Stand}
use Rattle.joint_server.specs.Posts.{
  HasSeat,
  PostGoesOn,
  PostServes,
  ServesBy,
  seat_of,
  seated,
}
use Rattle.joint_server.specs.Standing.{AttendsDoor}
use Rattle.joint_server.proofs.StandLaws.{stand_called, stand_hall}

-- ---- seats

-- One worker more has its seat.
pub seated-more : {L E C : Type 0} (posts items : List (Post L E C)) (all : List SeatSeen) (n : ℕ)
    (e : Post L E C) (r : Option SeatSeen) → n < length items
    → ((i : ℕ) (d : Post L E C) → i < n
    → get_or items i d ≡ seated (get_or posts i d) (slice_get all i))
    → ((i : ℕ) (d : Post L E C) → n ≤ i → get_or items i d ≡ get_or posts i d)
    → r ≡ slice_get all n → (i : ℕ) (d : Post L E C) → i < n + 1
    → get_or (set items n (seated (get_or items n e) r)) i d
    ≡ seated (get_or posts i d) (slice_get all i)
seated-more posts items all n e r within done left is i d lt = by (cases_lt i n)
  where
    by : (i < n) ⊎ (n ≤ i) → get_or (set items n (seated (get_or items n e) r)) i d
        ≡ seated (get_or posts i d) (slice_get all i)
    by (inl low) =
        get_or-set_other items n i (seated (get_or items n e) r) d
        (λ same. omega (arith, low, same)) ∙ done i d low
    by (inr high) =
        let here : n ≡ i = omega (arith, high, lt) in
        let kept : get_or items n e ≡ get_or posts n d =
        get_or_default items n e d within ∙ left n d (omega arith) in
        let at : get_or (set items n (seated (get_or items n e) r)) n d
        ≡ seated (get_or posts n d) (slice_get all n) =
        get_or-set_same items n (seated (get_or items n e) r) d within
        ∙ (ap (λ (x : Post _ _ _). seated x r) kept
        ∙ ap (λ (o : Option SeatSeen). seated (get_or posts n d) o) is) in
        subst (λ (k : ℕ). get_or (set items n (seated (get_or items n e) r)) k d
        ≡ seated (get_or posts k d) (slice_get all k)) here at

pub seated-left : {L E C : Type 0} (posts items : List (Post L E C)) (n : ℕ) (x : Post L E C)
    → ((i : ℕ) (d : Post L E C) → n ≤ i → get_or items i d ≡ get_or posts i d)
    → (i : ℕ) (d : Post L E C) → n + 1 ≤ i → get_or (set items n x) i d ≡ get_or posts i d
seated-left posts items n x left i d le =
    get_or-set_other items n i x d (λ same. omega (arith, le, same))
    ∙ left i d (omega (arith, le))

-- One worker more has no seat, and what else it has still.
pub left-more : {L E C : Type 0} (posts items : List (Post L E C)) (n : ℕ) (e : Post L E C)
    → n < length items
    → ((i : ℕ) (d : Post L E C) → i < n → get_or items i d ≡ seated (get_or posts i d) None)
    → ((i : ℕ) (d : Post L E C) → n ≤ i → get_or items i d ≡ get_or posts i d)
    → (i : ℕ) (d : Post L E C) → i < n + 1
    → get_or (set items n (seated (get_or items n e) None)) i d ≡ seated (get_or posts i d) None
left-more posts items n e within done left i d lt = by (cases_lt i n)
  where
    by : (i < n) ⊎ (n ≤ i) → get_or (set items n (seated (get_or items n e) None)) i d
        ≡ seated (get_or posts i d) None
    by (inl low) =
        get_or-set_other items n i (seated (get_or items n e) None) d
        (λ same. omega (arith, low, same)) ∙ done i d low
    by (inr high) =
        let here : n ≡ i = omega (arith, high, lt) in
        let kept : get_or items n e ≡ get_or posts n d =
        get_or_default items n e d within ∙ left n d (omega arith) in
        let at : get_or (set items n (seated (get_or items n e) None)) n d
        ≡ seated (get_or posts n d) None =
        get_or-set_same items n (seated (get_or items n e) None) d within
        ∙ ap (λ (x : Post _ _ _). seated x None) kept in
        subst (λ (k : ℕ). get_or (set items n (seated (get_or items n e) None)) k d
        ≡ seated (get_or posts k d) None) here at

-- The same, where the worker is what it was given.
pub seated-by : {L E C : Type 0} (posts items : List (Post L E C)) (all : List SeatSeen) (n : ℕ)
    (e : Post L E C) (r : Option SeatSeen) (x : Post L E C) → n < length items
    → ((i : ℕ) (d : Post L E C) → i < n
    → get_or items i d ≡ seated (get_or posts i d) (slice_get all i))
    → ((i : ℕ) (d : Post L E C) → n ≤ i → get_or items i d ≡ get_or posts i d)
    → r ≡ slice_get all n → x ≡ seated (get_or items n e) r
    → (i : ℕ) (d : Post L E C) → i < n + 1
    → get_or (set items n x) i d ≡ seated (get_or posts i d) (slice_get all i)
seated-by posts items all n e r x within done left is by =
    subst (λ (y : Post _ _ _). (i : ℕ) (d : Post _ _ _) → i < n + 1
    → get_or (set items n y) i d ≡ seated (get_or posts i d) (slice_get all i)) (sym by)
    (seated-more posts items all n e r within done left is)

pub left-by : {L E C : Type 0} (posts items : List (Post L E C)) (n : ℕ) (x : Post L E C)
    → ((i : ℕ) (d : Post L E C) → n ≤ i → get_or items i d ≡ get_or posts i d)
    → (i : ℕ) (d : Post L E C) → n + 1 ≤ i → get_or (set items n x) i d ≡ get_or posts i d
left-by posts items n x left i d le = seated-left posts items n x left i d le

pub unseated-by : {L E C : Type 0} (posts items : List (Post L E C)) (n : ℕ) (e x : Post L E C)
    → n < length items
    → ((i : ℕ) (d : Post L E C) → i < n → get_or items i d ≡ seated (get_or posts i d) None)
    → ((i : ℕ) (d : Post L E C) → n ≤ i → get_or items i d ≡ get_or posts i d)
    → x ≡ seated (get_or items n e) None
    → (i : ℕ) (d : Post L E C) → i < n + 1
    → get_or (set items n x) i d ≡ seated (get_or posts i d) None
unseated-by posts items n e x within done left by =
    subst (λ (y : Post _ _ _). (i : ℕ) (d : Post _ _ _) → i < n + 1
    → get_or (set items n y) i d ≡ seated (get_or posts i d) None) (sym by)
    (left-more posts items n e within done left)

-- ---- one worker

new_hall : {L E C : Type 0} (p : Post L E C) (hall : HallSeen) (worker : ℕ)
    → IfSome (seat_of (seated p (Some (new_seat hall worker)))) (λ s. s.hall ≡ hall)
new_hall (post.Udp end) hall worker = refl
new_hall (post.Tcp stand) hall worker = refl

-- Its seat is of the hall.
pub seated-hall : {L E C : Type 0} (p mid : Post L E C) (seat : Option SeatSeen)
    (hall : HallSeen) (worker : ℕ) → mid ≡ seated p seat → seat ≡ Some (new_seat hall worker)
    → IfSome (seat_of mid) (λ s. s.hall ≡ hall)
seated-hall p mid seat hall worker is given =
    subst (λ (m : Post _ _ _). IfSome (seat_of m) (λ s. s.hall ≡ hall)) (sym is)
    (subst (λ (o : Option SeatSeen). IfSome (seat_of (seated p o)) (λ s. s.hall ≡ hall))
    (sym given) (new_hall p hall worker))

-- One over UDP served.
pub end_serves : {L E C : Type 0} (l : links.Ghosts L) (seen : E → LaneSeen)
    (c : clocks.Ghosts C) (number : ℕ) (seat : Option SeatSeen) (old new : End L C)
    → IfSome seat (λ s. EndServes l c number s old new)
    → IfSome seat (λ s. PostServes l seen c number s (post.Udp old) (post.Udp new))
end_serves l seen c number None old new it = tt
end_serves l seen c number (Some before) old new it = record {
  seat = it.seat;
  kept = it.kept;
  serves = (it.serves, it.told);
}

-- One over TCP served.
pub stand_serves : {L E C : Type 0} (l : links.Ghosts L) (seen : E → LaneSeen)
    (c : clocks.Ghosts C) (number : ℕ) (seat after : Option SeatSeen) (old new : Stand E C)
    → new.seat ≡ after
    → IfSome seat (λ s. IfSome after (λ t. AttendsDoor (seen old.door) (seen new.door)
    (caller_seen c s old.clock) (caller_seen c t new.clock) new.outcome))
    → IfSome seat (λ s. HasSeat after)
    → IfSome seat (λ s. PostServes l seen c number s (post.Tcp old) (post.Tcp new))
stand_serves l seen c number None after old new is it has = tt
stand_serves l seen c number (Some before) None old new is it has = absurd has
stand_serves l seen c number (Some before) (Some then) old new is it has = record {
  seat = then;
  kept = is;
  serves = it;
}

-- It went on by the seat that it had.
pub goes_on : {L E C : Type 0} (l : links.Ghosts L) (seen : E → LaneSeen)
    (c : clocks.Ghosts C) (number : ℕ) (hall : HallSeen) (old new : Post L E C)
    (seat : Option SeatSeen)
    → IfSome seat (λ before. PostServes l seen c number before old new)
    → IfSome seat (λ before. PostGoesOn l seen c number hall before old new)
goes_on l seen c number hall old new None it = tt
goes_on l seen c number hall old new (Some before) it = record {
  serves = it;
  of_hall = hall_by old new it.serves;
  called = λ worker earlier called. called_by old new worker earlier it.serves called;
}
  where
    hall_by : (x y : Post _ _ _) → ServesBy l seen c number before it.seat x y
        → IsOfHall hall before → IsOfHall hall it.seat
    hall_by (post.Udp x) (post.Udp y) s h =
        hall_after all_sent hall (calls_of s.0.turns) before it.seat s.0.works.seat h
    hall_by (post.Tcp x) (post.Tcp y) s h =
        stand_hall hall s.connections (caller_seen c before x.clock)
        (caller_seen c it.seat y.clock) s.stands.attended h
    hall_by (post.Udp x) (post.Tcp y) s h = absurd s
    hall_by (post.Tcp x) (post.Udp y) s h = absurd s

    called_by : (x y : Post _ _ _) (worker : ℕ) (earlier : List runs.Call)
        → ServesBy l seen c number before it.seat x y → HasCalled hall worker earlier before
        → (calls : List runs.Call) × HasCalled hall worker (calls ++ earlier) it.seat
    called_by (post.Udp x) (post.Udp y) worker earlier s h =
        calls_go_on all_sent hall worker earlier (calls_of s.0.turns) before it.seat
        s.0.works.seat h
    called_by (post.Tcp x) (post.Tcp y) worker earlier s h =
        stand_called hall worker earlier s.connections (caller_seen c before x.clock)
        (caller_seen c it.seat y.clock) s.stands.attended h
    called_by (post.Udp x) (post.Tcp y) worker earlier s h = absurd s
    called_by (post.Tcp x) (post.Udp y) worker earlier s h = absurd s

-- What a call left, said of the worker before it and of the one after it.
pub as_left : {X : Type 0} (P : X → X → Type 0) (argument old after new : X)
    → argument ≡ old → after ≡ new → P argument after → P old new
as_left P argument old after new was is p =
    subst (λ x. P x new) was (subst (λ y. P argument y) is p)
