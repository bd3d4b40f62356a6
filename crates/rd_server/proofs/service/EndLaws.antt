-- The ends of a server: each has the seat of its number.
use Rattle.std.proofs.Common.{
  ◌≡◌,
  ℕ,
  zero,
  suc,
  ◌+◌,
  ◌<◌,
  ◌≤◌,
  List,
  [],
  ◌∷◌,
  ◌++◌,
  length,
  map,
  drop,
  set,
}
use Rattle.std.proofs.Common.{
  get_or,
  Option,
  Some,
  None,
  Result,
  Ok,
  Err,
  refl,
  sym,
  ap,
  ◌∙◌,
  subst,
}
use Rattle.std.proofs.Common.{◌⊎◌, inl, inr, arith}
use Rattle.std.specs.Prelude.{IfSome, IfNone, All}
use Rattle.std.specs.List.{slice_get}
use Rattle.std.proofs.Math.Seq.{drop-nil, get_or-append_seam}
use Rattle.std.proofs.lemmas.Bool.{cases_lt}
use Rattle.std.proofs.lemmas.List.{get_or_append_left, get_or_default, get_or-set_same}
use Rattle.std.proofs.lemmas.List.{get_or-set_other, length-append}
use Rattle.std.proofs.lemmas.Option.{slice_get-get_or, slice_get_past}
use Rattle.udp_link.specs.declared.links.Link as links
use Rattle.udp_link.specs.declared.clocks.Clock as clocks
use Rattle.rd_seat.specs.Seats.{HallSeen, SeatSeen, new_seat, new_seats}
use Rattle.rd_seat.specs.Runs as runs
use Rattle.rd_seat.specs.Runs.{HasCalled, begun}
use Rattle.rd_seat.proofs.RunLaws.{seats_are_seats}
use Rattle.rd_seat.proofs.SeatRuns.{hall_after, calls_go_on}
use Rattle.rd_server.specs.declared.serving.ends.End.{End}
use Rattle.rd_server.specs.declared.serving.served.Served.{Served}
use Rattle.rd_server.specs.declared.serving.served.ServeFault.{ServeFault}
use Rattle.rd_server.specs.declared.serving.served.ServeFault.TheVariants as fault
use Rattle.rd_server.specs.serving.Sendings.{all_sent}
use Rattle.rd_server.specs.serving.Turns.{calls_of}
use Rattle.rd_server.specs.serving.Endings.{join, joined, joined_after, none_served}
use Rattle.rd_server.specs.serving.Servers.{
  EndServes,
  EndGoesOn,
  EndServed,
  IsUnserved,
  seated,
}
use Rattle.rd_server.proofs.service.JoinLaws.{first_of, rest_of}

-- ---- new seats

new_seats-length : (hall : HallSeen) (n : ℕ) → length (new_seats hall n) ≡ n
new_seats-length hall zero = refl
new_seats-length hall (suc n) =
    let whole : length (new_seats hall n ++ new_seat hall n ∷ [])
    ≡ length (new_seats hall n) + 1 =
    length-append (new_seats hall n) (new_seat hall n ∷ []) in
    omega (arith, whole, new_seats-length hall n)

seat_at : (hall : HallSeen) (n i : ℕ) (d : SeatSeen) → i < n
    → get_or (new_seats hall n) i d ≡ new_seat hall i
seat_at hall zero i d lt = absurd (omega (arith, lt))
seat_at hall (suc n) i d lt = by (cases_lt i n) (λ low. seat_at hall n i d low)
  where
    by : (i < n) ⊎ (n ≤ i) → (i < n → get_or (new_seats hall n) i d ≡ new_seat hall i)
        → get_or (new_seats hall n ++ new_seat hall n ∷ []) i d ≡ new_seat hall i
    by (inl low) before = get_or_append_left (new_seats hall n) (new_seat hall n ∷ []) d i
        (omega (arith, low, new_seats-length hall n)) ∙ before low
    by (inr high) before =
        let last : n ≡ i = omega (arith, high, lt) in
        let at : get_or (new_seats hall n ++ new_seat hall n ∷ []) n d ≡ new_seat hall n =
        subst (λ (k : ℕ). get_or (new_seats hall n ++ new_seat hall n ∷ []) k d
        ≡ new_seat hall n) (new_seats-length hall n)
        (get_or-append_seam (new_seats hall n) (new_seat hall n) [] d) in
        subst (λ (k : ℕ). get_or (new_seats hall n ++ new_seat hall n ∷ []) k d
        ≡ new_seat hall k) last at

-- each number has its seat
pub new_seats-get : (hall : HallSeen) (n i : ℕ) → i < n
    → slice_get (new_seats hall n) i ≡ Some (new_seat hall i)
new_seats-get hall n i lt =
    slice_get-get_or (new_seats hall n) i (new_seat hall 0)
    (omega (arith, lt, new_seats-length hall n))
    ∙ ap (λ (s : SeatSeen). Some s) (seat_at hall n i (new_seat hall 0) lt)

-- the first of those that are left is the one of this number
some_at : (n : ℕ) (seat : SeatSeen) (new all : List SeatSeen) → seat ∷ new ≡ drop n all
    → (new ≡ drop (n + 1) all) × (Some seat ≡ slice_get all n)
some_at zero seat new all e =
    subst (λ (l : List SeatSeen). (new ≡ drop 1 l) × (Some seat ≡ slice_get l 0)) e (refl, refl)
some_at (suc n) seat new [] e = absurd (omega (arith, ap (λ (l : List SeatSeen). length l) e))
some_at (suc n) seat new (x ∷ all) e =
    let it : (new ≡ drop (n + 1) all) × (Some seat ≡ slice_get all n) =
    some_at n seat new all e in
    let next : suc (n + 1) ≡ suc n + 1 = omega arith in
    (subst (λ (k : ℕ). new ≡ drop k (x ∷ all)) next it.0, it.1)

none_at : (n : ℕ) (all : List SeatSeen) → [] ≡ drop n all
    → ([] ≡ drop (n + 1) all) × (None ≡ slice_get all n)
none_at zero all e =
    subst (λ (l : List SeatSeen). ([] ≡ drop 1 l) × (None ≡ slice_get l 0)) e (refl, refl)
none_at (suc n) [] e =
    (sym (drop-nil {A = SeatSeen} (suc n + 1)), sym (slice_get_past [] (suc n) (omega arith)))
none_at (suc n) (x ∷ all) e =
    let it : ([] ≡ drop (n + 1) all) × (None ≡ slice_get all n) = none_at n all e in
    let next : suc (n + 1) ≡ suc n + 1 = omega arith in
    (subst (λ (k : ℕ). [] ≡ drop k (x ∷ all)) next it.0, it.1)

pub took_first : (r : Option SeatSeen) (old new all : List SeatSeen) (n : ℕ)
    → IfSome r (λ seat. old ≡ seat ∷ new) → IfNone r ((old ≡ []) × (new ≡ []))
    → old ≡ drop n all → (new ≡ drop (n + 1) all) × (r ≡ slice_get all n)
took_first (Some seat) old new all n some none is = some_at n seat new all (sym some ∙ is)
took_first None old new all n some none is =
    let it : ([] ≡ drop (n + 1) all) × (None ≡ slice_get all n) =
    none_at n all (sym none.0 ∙ is) in
    (none.1 ∙ it.0, it.1)

-- one end more has its seat
pub seated-more : {L C : Type 0} (ends items : List (End L C)) (all : List SeatSeen) (n : ℕ)
    (e : End L C) (r : Option SeatSeen) → n < length items
    → ((i : ℕ) (d : End L C) → i < n
    → get_or items i d ≡ seated (get_or ends i d) (slice_get all i))
    → ((i : ℕ) (d : End L C) → n ≤ i → get_or items i d ≡ get_or ends i d)
    → r ≡ slice_get all n → (i : ℕ) (d : End L C) → i < n + 1
    → get_or (set items n (seated (get_or items n e) r)) i d
    ≡ seated (get_or ends i d) (slice_get all i)
seated-more ends items all n e r within done left is i d lt = by (cases_lt i n)
  where
    by : (i < n) ⊎ (n ≤ i) → get_or (set items n (seated (get_or items n e) r)) i d
        ≡ seated (get_or ends i d) (slice_get all i)
    by (inl low) =
        get_or-set_other items n i (seated (get_or items n e) r) d
        (λ same. omega (arith, low, same)) ∙ done i d low
    by (inr high) =
        let here : n ≡ i = omega (arith, high, lt) in
        let kept : get_or items n e ≡ get_or ends n d =
        get_or_default items n e d within ∙ left n d (omega arith) in
        let at : get_or (set items n (seated (get_or items n e) r)) n d
        ≡ seated (get_or ends n d) (slice_get all n) =
        get_or-set_same items n (seated (get_or items n e) r) d within
        ∙ (ap (λ (x : End _ _). seated x r) kept
        ∙ ap (λ (o : Option SeatSeen). seated (get_or ends n d) o) is) in
        subst (λ (k : ℕ). get_or (set items n (seated (get_or items n e) r)) k d
        ≡ seated (get_or ends k d) (slice_get all k)) here at

pub seated-left : {L C : Type 0} (ends items : List (End L C)) (n : ℕ) (x : End L C)
    → ((i : ℕ) (d : End L C) → n ≤ i → get_or items i d ≡ get_or ends i d)
    → (i : ℕ) (d : End L C) → n + 1 ≤ i → get_or (set items n x) i d ≡ get_or ends i d
seated-left ends items n x left i d le =
    get_or-set_other items n i x d (λ same. omega (arith, le, same))
    ∙ left i d (omega (arith, le))

-- one end more has no seat, and its link and its clock still
pub left-more : {L C : Type 0} (ends items : List (End L C)) (n : ℕ) (e : End L C)
    → n < length items
    → ((i : ℕ) (d : End L C) → i < n → get_or items i d ≡ seated (get_or ends i d) None)
    → ((i : ℕ) (d : End L C) → n ≤ i → get_or items i d ≡ get_or ends i d)
    → (i : ℕ) (d : End L C) → i < n + 1
    → get_or (set items n (seated (get_or items n e) None)) i d ≡ seated (get_or ends i d) None
left-more ends items n e within done left i d lt = by (cases_lt i n)
  where
    by : (i < n) ⊎ (n ≤ i) → get_or (set items n (seated (get_or items n e) None)) i d
        ≡ seated (get_or ends i d) None
    by (inl low) =
        get_or-set_other items n i (seated (get_or items n e) None) d
        (λ same. omega (arith, low, same)) ∙ done i d low
    by (inr high) =
        let here : n ≡ i = omega (arith, high, lt) in
        let kept : get_or items n e ≡ get_or ends n d =
        get_or_default items n e d within ∙ left n d (omega arith) in
        let at : get_or (set items n (seated (get_or items n e) None)) n d
        ≡ seated (get_or ends n d) None =
        get_or-set_same items n (seated (get_or items n e) None) d within
        ∙ ap (λ (x : End _ _). seated x None) kept in
        subst (λ (k : ℕ). get_or (set items n (seated (get_or items n e) None)) k d
        ≡ seated (get_or ends k d) None) here at

-- an end that was left so was not served
pub left-IsUnserved : {L C : Type 0} (old new : End L C) → new ≡ seated old None
    → IsUnserved new
left-IsUnserved old new is = record {
  seat = ap (λ (e : End _ _). e.seat) is;
  outcome = ap (λ (e : End _ _). e.outcome) is;
}

-- ---- one end

-- its seat is of the hall
pub seated-hall : {L C : Type 0} (end mid : End L C) (seat : Option SeatSeen) (hall : HallSeen)
    (worker : ℕ) → mid ≡ seated end seat → seat ≡ Some (new_seat hall worker)
    → IfSome mid.seat (λ s. s.hall ≡ hall)
seated-hall end mid seat hall worker is given =
    subst (λ (m : End _ _). IfSome m.seat (λ s. s.hall ≡ hall)) (sym is)
    (subst (λ (o : Option SeatSeen). IfSome o (λ s. s.hall ≡ hall)) (sym given) refl)

-- it went on by the seat that it had
pub goes_on : {L C : Type 0} (l : links.Ghosts L) (c : clocks.Ghosts C) (number : ℕ)
    (hall : HallSeen) (old new : End L C) (seat : Option SeatSeen)
    → IfSome seat (λ before. EndServes l c number before old new)
    → IfSome seat (λ before. EndGoesOn l c number hall before old new)
goes_on l c number hall old new (Some before) it = record {
  serves = it;
  of_hall = hall_after all_sent hall (calls_of it.serves.turns) before it.seat
      it.serves.works.seat;
  called = λ worker earlier called. calls_go_on all_sent hall worker earlier
      (calls_of it.serves.turns) before it.seat it.serves.works.seat called;
}
goes_on l c number hall old new None it = tt

-- it was served by the new seat that it was given
pub end-EndServed : {L C : Type 0} (l : links.Ghosts L) (c : clocks.Ghosts C) (number : ℕ)
    (hall : HallSeen) (worker : ℕ) (old mid new : End L C)
    → mid ≡ seated old (Some (new_seat hall worker))
    → IfSome mid.seat (λ before. EndGoesOn l c number hall before mid new)
    → EndServed l c number hall worker old new
end-EndServed l c number hall worker old mid new is served =
    let it : EndGoesOn l c number hall (new_seat hall worker)
    (seated old (Some (new_seat hall worker))) new =
    subst (λ (m : End _ _). IfSome m.seat (λ s. EndGoesOn l c number hall s m new)) is served in
    let more : (calls : List runs.Call)
    × HasCalled hall worker (calls ++ []) it.serves.seat = it.called worker [] begun in
    record {
      serves = record {
        seat = it.serves.seat;
        kept = it.serves.kept;
        serves = it.serves.serves;
        told = it.serves.told;
      };
      of_hall = it.of_hall (record { is = refl; below = tt });
      calls = more.0 ++ [];
      is_seat = seats_are_seats hall worker (more.0 ++ []) it.serves.seat more.1;
    }

-- ---- ends that were not served

still_memory : {L C : Type 0} (ends : List (End L C)) → All IsUnserved ends
    → joined_after (Err fault.Memory) (map (λ end. end.outcome) ends) ≡ Err fault.Memory
still_memory [] none = refl
still_memory (e ∷ ends) none =
    let it : IsUnserved e = first_of IsUnserved (e ∷ ends) ends e refl none in
    subst (λ (o : Result Served ServeFault). joined_after (join (Err fault.Memory) o)
    (map (λ end. end.outcome) ends) ≡ Err fault.Memory) (sym it.outcome)
    (still_memory ends (rest_of IsUnserved (e ∷ ends) ends e refl none))

pub unserved-joined : {L C : Type 0} (ends : List (End L C)) → 1 ≤ length ends
    → All IsUnserved ends → joined (map (λ end. end.outcome) ends) ≡ Err fault.Memory
unserved-joined [] some none = absurd (omega (arith, some))
unserved-joined (e ∷ ends) some none =
    let it : IsUnserved e = first_of IsUnserved (e ∷ ends) ends e refl none in
    subst (λ (o : Result Served ServeFault). joined_after (join (Ok none_served) o)
    (map (λ end. end.outcome) ends) ≡ Err fault.Memory) (sym it.outcome)
    (still_memory ends (rest_of IsUnserved (e ∷ ends) ends e refl none))
