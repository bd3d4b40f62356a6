use Rattle.std.proofs.Common.{Ok, Err}
use Rattle.registrant.specs.Turns.{seen}
use Rattle.commission_list.proofs.MakingLaws.{
  wrote_as,
  step_failed,
  step_going,
  step_done,
  step_stopped,
  step_cut,
}
use Rattle.commission_list.proofs.making.step.Goals as goal

pub returns-in-Ok-clause-stepped : goal.returns-in-Ok-clause-stepped
returns-in-Ok-clause-stepped g c = λ asks past text prints.
    let told =
    seen g.L.Link.coming g.L.Link.gone g.L.Link.recv_faults g.L.Link.send_faults
    g.C.Clock.times g.C.Clock.words in
    step_going asks past text c.args.going.now.lines.items c.poll_once.new.going.lines.items
    c.args.going.now.outcomes c.poll_once.new.going.outcomes c.args.printed.now
    (told c.args.going.now.link c.args.going.now.clock)
    (told c.poll_once.new.going.link c.poll_once.new.going.clock)
    prints
    (Unit {0}) c.in-Ok.field-0 c.print_front.new.printed
    (g.K.Sink.holds c.args.out.now) (g.K.Sink.holds c.print_front.new.out)
    (c.in-Going.ensures.polled asks past prints.stands)
    c.in-Going.ensures.keeps
    (wrote_as (Unit {0}) (Ok c.in-Ok.field-0) c.as_slice.result.now
    c.poll_once.new.going.outcomes c.args.printed.now c.print_front.new.printed
    (g.K.Sink.holds c.args.out.now) (g.K.Sink.holds c.print_front.new.out)
    c.as_slice.ensures c.in-Ok.ensures.written)

pub returns-in-Err-clause-stepped : goal.returns-in-Err-clause-stepped
returns-in-Err-clause-stepped g c = λ asks past text prints.
    let told =
    seen g.L.Link.coming g.L.Link.gone g.L.Link.recv_faults g.L.Link.send_faults
    g.C.Clock.times g.C.Clock.words in
    step_stopped asks past text c.args.going.now.lines.items c.poll_once.new.going.lines.items
    c.args.going.now.outcomes c.poll_once.new.going.outcomes c.args.printed.now
    (told c.args.going.now.link c.args.going.now.clock)
    (told c.poll_once.new.going.link c.poll_once.new.going.clock)
    prints
    (Unit {0}) c.in-Err.fault c.print_status.result c.print_front.new.printed
    (g.K.Sink.holds c.args.out.now) (g.K.Sink.holds c.print_front.new.out)
    c.print_status.ensures
    (c.in-Going.ensures.polled asks past prints.stands)
    c.in-Going.ensures.keeps
    (wrote_as (Unit {0}) (Err c.in-Err.fault) c.as_slice.result.now
    c.poll_once.new.going.outcomes c.args.printed.now c.print_front.new.printed
    (g.K.Sink.holds c.args.out.now) (g.K.Sink.holds c.print_front.new.out)
    c.as_slice.ensures c.in-Err.ensures.written)

pub returns-in-Ok-print_front-clause-stepped : goal.returns-in-Ok-print_front-clause-stepped
returns-in-Ok-print_front-clause-stepped g c = λ asks past text prints.
    let told =
    seen g.L.Link.coming g.L.Link.gone g.L.Link.recv_faults g.L.Link.send_faults
    g.C.Clock.times g.C.Clock.words in
    step_done asks past text c.args.going.now.lines.items c.poll_once.new.going.lines.items
    c.args.going.now.outcomes c.poll_once.new.going.outcomes c.args.printed.now
    (told c.args.going.now.link c.args.going.now.clock)
    (told c.poll_once.new.going.link c.poll_once.new.going.clock)
    prints
    c.in-Over-None.field-0
    (Unit {0}) c.in-Ok-print_front.field-0 c.print_front-in-Over-None.new.printed
    (g.K.Sink.holds c.args.out.now) (g.K.Sink.holds c.print_front-in-Over-None.new.out)
    c.in-Over-None.field-0-is
    (c.in-Over-None.ensures.polled asks past prints.stands)
    c.in-Over-None.ensures.keeps
    (wrote_as (Unit {0}) (Ok c.in-Ok-print_front.field-0) c.as_slice-in-Over-None.result.now
    c.poll_once.new.going.outcomes c.args.printed.now c.print_front-in-Over-None.new.printed
    (g.K.Sink.holds c.args.out.now) (g.K.Sink.holds c.print_front-in-Over-None.new.out)
    c.as_slice-in-Over-None.ensures c.in-Ok-print_front.ensures.written)

pub returns-in-Err-print_front-clause-stepped : goal.returns-in-Err-print_front-clause-stepped
returns-in-Err-print_front-clause-stepped g c = λ asks past text prints.
    let told =
    seen g.L.Link.coming g.L.Link.gone g.L.Link.recv_faults g.L.Link.send_faults
    g.C.Clock.times g.C.Clock.words in
    step_cut asks past text c.args.going.now.lines.items c.poll_once.new.going.lines.items
    c.args.going.now.outcomes c.poll_once.new.going.outcomes c.args.printed.now
    (told c.args.going.now.link c.args.going.now.clock)
    (told c.poll_once.new.going.link c.poll_once.new.going.clock)
    prints
    c.in-Over-None.field-0
    (Unit {0}) c.in-Err-print_front.fault c.print_status-in-Err-print_front.result
    c.print_front-in-Over-None.new.printed
    (g.K.Sink.holds c.args.out.now) (g.K.Sink.holds c.print_front-in-Over-None.new.out)
    c.in-Over-None.field-0-is
    c.print_status-in-Err-print_front.ensures
    (c.in-Over-None.ensures.polled asks past prints.stands)
    c.in-Over-None.ensures.keeps
    (wrote_as (Unit {0}) (Err c.in-Err-print_front.fault) c.as_slice-in-Over-None.result.now
    c.poll_once.new.going.outcomes c.args.printed.now c.print_front-in-Over-None.new.printed
    (g.K.Sink.holds c.args.out.now) (g.K.Sink.holds c.print_front-in-Over-None.new.out)
    c.as_slice-in-Over-None.ensures c.in-Err-print_front.ensures.written)

pub returns-in-Over-Some-clause-stepped : goal.returns-in-Over-Some-clause-stepped
returns-in-Over-Some-clause-stepped g c = λ asks past text prints.
    let told =
    seen g.L.Link.coming g.L.Link.gone g.L.Link.recv_faults g.L.Link.send_faults
    g.C.Clock.times g.C.Clock.words in
    step_failed asks past text c.args.going.now.lines.items c.poll_once.new.going.lines.items
    c.args.going.now.outcomes c.poll_once.new.going.outcomes c.args.printed.now
    (told c.args.going.now.link c.args.going.now.clock)
    (told c.poll_once.new.going.link c.poll_once.new.going.clock)
    prints
    c.in-Over-Some.field-0 c.in-Over-Some.fault c.status_of.result
    (g.K.Sink.holds c.args.out.now)
    c.in-Over-Some.field-0-is
    c.status_of.ensures
    (c.in-Over-Some.ensures.polled asks past prints.stands)
    c.in-Over-Some.ensures.keeps
