use Rattle.std.proofs.Common.{arith, subst, sym, All}
use Rattle.rd_base.specs.declared.moments.Moment.{Moment}
use Rattle.udp_link.specs.Clocks.{IsHandedIn}
use Rattle.udp_link.proofs.ClockLemmas.{first_left}
use Rattle.udp_link.proofs.memory_clock.MemClockClock.now.Goals as goal

pub returns-clause-early : goal.returns-clause-early
returns-clause-early c =
    let clock = c.args.self.now in
    let none : Moment = record { 0 = 0 } in
    let early : All IsHandedIn c.as_slice.result.now =
    subst (All IsHandedIn) (sym c.as_slice.ensures) clock.early in
    subst IsHandedIn (sym c.next_of.ensures.value)
    (first_left IsHandedIn none c.as_slice.result.now clock.moments_passed (omega arith) early)
