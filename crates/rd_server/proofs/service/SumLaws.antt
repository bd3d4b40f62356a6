-- The sums of all ends of a server.
use Rattle.std.proofs.Common.{◌≡◌, ℕ, suc, ◌<◌, List, [], ◌∷◌, length, map, get_or, Option}
use Rattle.std.proofs.Common.{Some, None, Result, Ok, Err, refl, sym, ap, subst, arith}
use Rattle.std.specs.Prelude.{IfOk, IfSome, IfNone}
use Rattle.udp_link.specs.declared.links.Link as links
use Rattle.udp_link.specs.declared.clocks.Clock as clocks
use Rattle.rd_seat.specs.Seats.{SeatSeen}
use Rattle.rd_server.specs.declared.serving.ends.End.{End}
use Rattle.rd_server.specs.declared.serving.served.Served.{Served}
use Rattle.rd_server.specs.declared.serving.served.ServeFault.{ServeFault}
use Rattle.rd_server.specs.declared.serving.served.ServeFault.TheVariants as fault
use Rattle.rd_server.specs.declared.serving.serve_status.ServeStatus.{ServeStatus}
use Rattle.rd_server.specs.declared.serving.serve_status.ServeStatus.TheVariants as status
use Rattle.rd_server.specs.serving.Workers.{link_seen}
use Rattle.rd_server.specs.serving.Service.{CountsTold}
use Rattle.rd_server.specs.serving.Endings.{
  both_served,
  none_served,
  join,
  joined,
  joined_after,
  Concludes,
}
use Rattle.rd_server.specs.serving.Servers.{EndServes, AddUp, PrintsSums, seated}

-- ---- faults and sums

abbrev IsFault : Result Served ServeFault → Type 0
IsFault (Ok served) = ⊥
IsFault (Err f) = Unit {0}

abbrev sums_in : Served → Result Served ServeFault → Served
sums_in other (Ok served) = served
sums_in other (Err f) = other

-- after a fault there are no sums
fault_stays : (f : ServeFault) (outcomes : List (Result Served ServeFault)) (sums : Served)
    → joined_after (Err f) outcomes ≡ Ok sums → ⊥
fault_stays f [] sums e = subst IsFault e tt
fault_stays fault.Memory (Ok served ∷ outcomes) sums e =
    fault_stays fault.Memory outcomes sums e
fault_stays fault.Link (Ok served ∷ outcomes) sums e = fault_stays fault.Link outcomes sums e
fault_stays fault.Memory (Err g ∷ outcomes) sums e = fault_stays fault.Memory outcomes sums e
fault_stays fault.Link (Err g ∷ outcomes) sums e = fault_stays g outcomes sums e

-- ---- what the counts of one end tell

-- an end that was served tells it, and one that was not has no counts
pub end_told : {L C : Type 0} (l : links.Ghosts L) (c : clocks.Ghosts C) (number : ℕ)
    (seat : Option SeatSeen) (old new : End L C)
    → IfSome seat (λ before. EndServes l c number before old new)
    → IfNone seat (new ≡ seated old None)
    → IfOk new.outcome
    (λ served. CountsTold served (link_seen l old.link) (link_seen l new.link))
end_told l c number (Some before) old new it none = it.told
end_told l c number None old new it none =
    subst (λ (e : End _ _). IfOk e.outcome
    (λ served. CountsTold served (link_seen l old.link) (link_seen l e.link))) (sym none) tt

-- ---- all ends

abbrev pub EachTold : {L C : Type 0} → links.Ghosts L → List (End L C) → List (End L C) → Type 0
EachTold l olds news = (i : ℕ) (d : End _ _) → i < length olds
    → IfOk (get_or news i d).outcome (λ served. CountsTold served
    (link_seen l (get_or olds i d).link) (link_seen l (get_or news i d).link))

pub adds_up : {L C : Type 0} (l : links.Ghosts L) (before sums : Served)
    (olds news : List (End L C)) → length news ≡ length olds → EachTold l olds news
    → joined_after (Ok before) (map (λ end. end.outcome) news) ≡ Ok sums
    → AddUp l before olds news sums
adds_up l before sums [] [] same each is = sym (ap (sums_in before) is)
adds_up l before sums [] (n ∷ ns) same each is = absurd (omega (arith, same))
adds_up l before sums (o ∷ os) [] same each is = absurd (omega (arith, same))
adds_up l before sums (o ∷ os) (n ∷ ns) same each is =
    by n.outcome refl (each 0 o (omega arith))
    (λ one e. adds_up l (both_served before one) sums os ns (omega (arith, same))
    (λ i d lt. each (suc i) d (omega (arith, lt))) e)
  where
    by : (r : Result Served ServeFault) → n.outcome ≡ r
        → IfOk n.outcome
        (λ served. CountsTold served (link_seen l o.link) (link_seen l n.link))
        → ((one : Served)
        → joined_after (Ok (both_served before one)) (map (λ end. end.outcome) ns) ≡ Ok sums
        → AddUp l (both_served before one) os ns sums)
        → AddUp l before (o ∷ os) (n ∷ ns) sums
    by (Ok one) e told next = (
      one,
      e,
      subst (λ (r : Result Served ServeFault). IfOk r
          (λ served. CountsTold served (link_seen l o.link) (link_seen l n.link))) e told,
      next one (subst (λ (r : Result Served ServeFault).
          joined_after (join (Ok before) r) (map (λ end. end.outcome) ns) ≡ Ok sums) e is),
    )
    by (Err f) e told next = absurd (fault_stays f (map (λ end. end.outcome) ns) sums
        (subst (λ (r : Result Served ServeFault).
        joined_after (join (Ok before) r) (map (λ end. end.outcome) ns) ≡ Ok sums) e is))

-- where the line was written, its sums are those of all ends
pub prints_sums : {L C : Type 0} (l : links.Ghosts L) (olds news : List (End L C))
    (before now : Option (List ℕ)) (faults faults_then : ℕ) (result : ServeStatus)
    → length news ≡ length olds → EachTold l olds news
    → Concludes (joined (map (λ end. end.outcome) news)) before now faults faults_then result
    → PrintsSums l olds news before now result
prints_sums l olds news before now faults faults_then status.Done same each it =
    by (joined (map (λ end. end.outcome) news)) refl it
  where
    by : (r : Result Served ServeFault) → joined (map (λ end. end.outcome) news) ≡ r
        → Concludes r before now faults faults_then status.Done
        → PrintsSums l olds news before now status.Done
    by (Ok sums) e it = (sums, it.0, adds_up l none_served sums olds news same each e)
    by (Err fault.Memory) e it = absurd it
    by (Err fault.Link) e it = absurd it
prints_sums l olds news before now faults faults_then status.Link same each it = tt
prints_sums l olds news before now faults faults_then status.Write same each it = tt
prints_sums l olds news before now faults faults_then status.Memory same each it = tt

-- ---- ends with the same links

add_up_as : {L C : Type 0} (l : links.Ghosts L) (before sums : Served)
    (olds mids news : List (End L C)) → length mids ≡ length olds
    → ((i : ℕ) (d : End L C) → i < length olds
    → (get_or mids i d).link ≡ (get_or olds i d).link)
    → AddUp l before mids news sums → AddUp l before olds news sums
add_up_as l before sums [] [] news same kept it = it
add_up_as l before sums [] (m ∷ ms) news same kept it = absurd (omega (arith, same))
add_up_as l before sums (o ∷ os) [] news same kept it = absurd (omega (arith, same))
add_up_as l before sums (o ∷ os) (m ∷ ms) [] same kept it = absurd it
add_up_as l before sums (o ∷ os) (m ∷ ms) (n ∷ ns) same kept it = (
  it.0,
  it.1,
  subst (λ (x : _). CountsTold it.0 (link_seen l x) (link_seen l n.link))
      (kept 0 o (omega arith)) it.2,
  add_up_as l (both_served before it.0) sums os ms ns (omega (arith, same))
      (λ i d lt. kept (suc i) d (omega (arith, lt))) it.3,
)

pub prints_as : {L C : Type 0} (l : links.Ghosts L) (olds mids news : List (End L C))
    (before now : Option (List ℕ)) (result : ServeStatus) → length mids ≡ length olds
    → ((i : ℕ) (d : End L C) → i < length olds
    → (get_or mids i d).link ≡ (get_or olds i d).link)
    → PrintsSums l mids news before now result → PrintsSums l olds news before now result
prints_as l olds mids news before now status.Done same kept it =
    (it.0, it.1, add_up_as l none_served it.0 olds mids news same kept it.2)
prints_as l olds mids news before now status.Link same kept it = tt
prints_as l olds mids news before now status.Write same kept it = tt
prints_as l olds mids news before now status.Memory same kept it = tt
