use Rattle.std.proofs.Common.{[], Some, None, refl, ◌∙◌}
use Rattle.registrant.specs.Turns.{seen}
use Rattle.commission_list.proofs.MakingLaws.{stepped_first, stepped_then, made_out}
use Rattle.commission_list.proofs.making.make_all.Goals as goal

pub polls-init : goal.polls-init
polls-init g c =
    let told =
    seen g.L.Link.coming g.L.Link.gone g.L.Link.recv_faults g.L.Link.send_faults
    g.C.Clock.times g.C.Clock.words in (
      tt,
      tt,
      (λ asks stands.
          stepped_first asks c.args.going.now.lines.items c.args.going.now.outcomes
          (told c.args.going.now.link c.args.going.now.clock)
          (g.K.Sink.holds c.args.out.now) stands),
      refl,
      refl,
    )

pub returns-in-Some-step-clause-made : goal.returns-in-Some-step-clause-made
returns-in-Some-step-clause-made g c = λ asks stands.
    let told =
    seen g.L.Link.coming g.L.Link.gone g.L.Link.recv_faults g.L.Link.send_faults
    g.C.Clock.times g.C.Clock.words in
    made_out asks c.in-Some-step.status c.step.new.printed
    c.step.new.going.lines.items c.step.new.going.outcomes
    (told c.args.going.now.link c.args.going.now.clock)
    (told c.step.new.going.link c.step.new.going.clock)
    (g.K.Sink.holds c.args.out.now) (g.K.Sink.holds c.step.new.out)
    (stepped_then asks [] [] (Some c.in-Some-step.status) c.polls.printed c.step.new.printed
    c.polls.going.lines.items c.step.new.going.lines.items
    c.polls.going.outcomes c.step.new.going.outcomes
    (told c.args.going.now.link c.args.going.now.clock)
    (told c.polls.going.link c.polls.going.clock)
    (told c.step.new.going.link c.step.new.going.clock)
    (g.K.Sink.holds c.args.out.now) (g.K.Sink.holds c.polls.out)
    (g.K.Sink.holds c.step.new.out)
    (c.polls.invariant.2 asks stands)
    (λ p t prints. c.in-Some-step.ensures.stepped asks p t prints))

pub polls-preserved : goal.polls-preserved
polls-preserved g c =
    let told =
    seen g.L.Link.coming g.L.Link.gone g.L.Link.recv_faults g.L.Link.send_faults
    g.C.Clock.times g.C.Clock.words in (
      tt,
      tt,
      (λ asks stands.
          stepped_then asks [] [] None c.polls.printed c.step.new.printed
          c.polls.going.lines.items c.step.new.going.lines.items
          c.polls.going.outcomes c.step.new.going.outcomes
          (told c.args.going.now.link c.args.going.now.clock)
          (told c.polls.going.link c.polls.going.clock)
          (told c.step.new.going.link c.step.new.going.clock)
          (g.K.Sink.holds c.args.out.now) (g.K.Sink.holds c.polls.out)
          (g.K.Sink.holds c.step.new.out)
          (c.polls.invariant.2 asks stands)
          (λ p t prints. c.in_default.ensures.stepped asks p t prints)),
      c.in_default.ensures.receives ∙ c.polls.invariant.3,
      c.in_default.ensures.writes ∙ c.polls.invariant.4,
    )
