use Rattle.std.proofs.Common.{◌≡◌, ◌+◌, refl, ap, drop, rules}
use Rattle.install_list.proofs.PutLaws.{puts_one, cuts_one, at_cons, left_next}
use Rattle.install_list.proofs.fronts.Front.put_next.Goals as goal

pub returns-in-Ok-clause-next : goal.returns-in-Ok-clause-next
returns-in-Ok-clause-next g c =
    let front = c.args.self.now in
    let after = c.put.new.self in
    let number = c.in-Some-get.number in
    let seen : c.as_slice.result.now ≡ front.numbers.items = search rules in
    let cut =
    at_cons c.as_slice.result.now front.written c.get.result number c.get.ensures.lookup
    c.in-Some-get.is in
    puts_one front.verb (drop front.written front.numbers.items)
    (drop after.written after.numbers.items) front.is_undone after.is_undone
    (g.K.Sink.holds c.args.out.now) (g.K.Sink.holds c.put.new.out) number.now
    c.in-Some.outcome.now
    (left_next c.as_slice.result.now front.numbers.items after.numbers.items front.written
    after.written number.now cut seen (ap (λ v. v.items) c.in-Ok.ensures.numbers)
    c.in-Ok.ensures.written)
    c.in-Ok.ensures.undone c.in-Ok.ensures.line

pub returns-in-Err-clause-next : goal.returns-in-Err-clause-next
returns-in-Err-clause-next g c =
    let front = c.args.self.now in
    let number = c.in-Some-get.number in
    let seen : c.as_slice.result.now ≡ front.numbers.items = search rules in
    let cut =
    at_cons c.as_slice.result.now front.written c.get.result number c.get.ensures.lookup
    c.in-Some-get.is in
    cuts_one front.verb (drop front.written front.numbers.items)
    (drop (front.written + 1) front.numbers.items)
    (g.K.Sink.holds c.args.out.now) (g.K.Sink.holds c.put.new.out) number.now
    c.in-Some.outcome.now
    (left_next c.as_slice.result.now front.numbers.items front.numbers.items front.written
    (front.written + 1) number.now cut seen refl refl)
    c.in-Err.ensures.line
