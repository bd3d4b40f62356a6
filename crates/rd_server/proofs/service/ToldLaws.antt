-- What the counts of a worker tell, where its link tells its datagrams.
use Rattle.std.proofs.Common.{◌≡◌, ℕ, ◌+◌, ◌<◌, ◌≤◌, Bool, true, false, cond, List, [], ◌∷◌}
use Rattle.std.proofs.Common.{◌++◌, length, Result, Ok, Err, filter, refl, sym}
use Rattle.std.proofs.Common.{ap, ◌∙◌, subst, arith}
use Rattle.std.specs.Prelude.{IfOk}
use Rattle.std.proofs.lemmas.Bool.Decides.{nat_tests}
use Rattle.std.proofs.lemmas.List.{append_assoc, length-append}
use Rattle.std.proofs.lemmas.List.Elements.{filter-append}
use Rattle.udp_link.specs.Links.{Datagram}
use Rattle.udp_link.specs.declared.links.TheConstants.{MAX_DATAGRAM}
use Rattle.rd_server.specs.declared.serving.served.Served.{Served}
use Rattle.rd_server.specs.declared.serving.served.ServeFault.{ServeFault}
use Rattle.rd_seat.specs.Chains.{Chain}
use Rattle.rd_seat.proofs.ToldLaws.{told_as}
use Rattle.rd_server.specs.serving.Calls.{calls_went}
use Rattle.rd_server.specs.serving.Workers.{WorkerSeen}
use Rattle.rd_server.specs.serving.Turns.{
  Turn,
  Outcome,
  Heard,
  TooLong,
  Nothing,
  Failed,
  AreTurns,
  Comes,
  Follows,
  TurnComes,
  calls_of,
  heard_more,
  turns_heard,
}
use Rattle.rd_server.specs.serving.Sums.{IsSumOf}
use Rattle.rd_server.specs.serving.Service.{Takes, CountsTold, Works, Serves, is_within}

-- one more was taken
taken_more : (heard n : ℕ) (d : Datagram) (old middle new : List Datagram)
    → Takes heard old middle → middle ≡ d ∷ new → length (filter is_within (d ∷ [])) ≡ n
    → Takes (heard + n) old new
taken_more heard n d old middle new r e more = record {
  taken = r.taken ++ d ∷ [];
  first = r.first ∙ (ap (λ (l : List Datagram). r.taken ++ l) e
      ∙ sym (append_assoc r.taken (d ∷ []) new));
  number =
      let parts : length (filter is_within (r.taken ++ d ∷ []))
      ≡ length (filter is_within r.taken) + length (filter is_within (d ∷ [])) =
      ap (λ (l : List Datagram). length l) (filter-append is_within r.taken (d ∷ []))
      ∙ length-append (filter is_within r.taken) (filter is_within (d ∷ [])) in
      omega (arith, parts, r.number, more);
}

-- a datagram that is within the limit counts, a longer one does not
within_one : (d : Datagram) → length d.1 ≤ MAX_DATAGRAM
    → length (filter is_within (d ∷ [])) ≡ 1
within_one d le = by (is_within d) refl
  where
    by : (b : Bool) → is_within d ≡ b → length (cond b (d ∷ []) []) ≡ 1
    by true is = refl
    by false is = grind (arith, nat_tests)

longer_none : (d : Datagram) → MAX_DATAGRAM < length d.1
    → length (filter is_within (d ∷ [])) ≡ 0
longer_none d lt = by (is_within d) refl
  where
    by : (b : Bool) → is_within d ≡ b → length (cond b (d ∷ []) []) ≡ 0
    by true is = grind (arith, nat_tests)
    by false is = refl

-- what one receive took
takes_one : (earlier heard : ℕ) (o : Outcome) (calls : List _) (old middle new : List Datagram)
    → Follows earlier o calls → Takes heard old middle → Comes middle o new
    → Takes (heard_more heard o) old new
takes_one earlier heard (Heard peer datagram) calls old middle new follows r comes =
    taken_more heard 1 (peer, datagram) old middle new r comes
    (within_one (peer, datagram) follows.within)
takes_one earlier heard TooLong calls old middle new follows r comes =
    let more : Takes (heard + 0) old new =
    taken_more heard 0 comes.0 old middle new r comes.2 (longer_none comes.0 comes.1) in
    subst (λ (n : ℕ). Takes n old new) (omega arith) more
takes_one earlier heard Nothing calls old middle new follows r comes =
    subst (λ (l : List Datagram). Takes heard old l) (comes.0 ∙ sym comes.1) r
takes_one earlier heard Failed calls old middle new follows r comes =
    subst (λ (l : List Datagram). Takes heard old l) (sym comes) r

takes_all : (ts : List Turn) (old new : List Datagram) → AreTurns ts → Chain TurnComes old ts new
    → Takes (turns_heard ts) old new
takes_all [] old new turned chain = record { taken = []; first = sym chain; number = refl }
takes_all (t ∷ ts) old new turned chain =
    takes_one (turns_heard ts) (turns_heard ts) t.came t.calls old chain.0 new turned.1
    (takes_all ts old chain.0 turned.0 chain.1) chain.2

-- of a service
counts_told : (ts : List Turn) (served : Served) (a b : WorkerSeen) → Works ts a b
    → IsSumOf ts served → CountsTold served a.link b.link
counts_told ts served a b works sums = record {
  heard = told_as {S = Takes served.heard}
      (λ old new chain. subst (λ (n : ℕ). Takes n old new) (sym sums.heard)
      (takes_all ts old new works.turned chain)) a.link.coming b.link.coming works.coming;
  sent = told_as {S = λ old new. length new ≡ length old + served.sent}
      (λ old new e. grown old new e) a.link.gone b.link.gone works.gone;
}
  where
    grown : (old new : List Datagram) → new ≡ old ++ calls_went (calls_of ts)
        → length new ≡ length old + served.sent
    grown old new e =
        let whole : length new ≡ length old + length (calls_went (calls_of ts)) =
        ap (λ (l : List Datagram). length l) e
        ∙ length-append old (calls_went (calls_of ts)) in
        omega (arith, whole, sums.sent)

pub serves-told : (number : ℕ) (a b : WorkerSeen) (result : Result Served ServeFault)
    → Serves number a b result → IfOk result (λ served. CountsTold served a.link b.link)
serves-told number a b (Ok served) it = counts_told it.turns served a b it.works it.ends.2
serves-told number a b (Err fault) it = tt
