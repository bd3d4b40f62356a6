use Rattle.hosting.specs.Refusals.{most_of}
use Rattle.hosting.proofs.LinkLaws.{told_one, told_stays}
use Rattle.hosting.proofs.guarded_links.GuardedLinkLink.recv.Goals as goal
use Rattle.hosting.proofs.guarded_links.GuardedLinkLink.recv.Goals.{then-self-via-then-self}
use Rattle.hosting.proofs.guarded_links.GuardedLinkLink.recv.Goals.{then-self-via-else-self+then-passes}

pub returns-in-Failed-clause-answers : goal.returns-in-Failed-clause-answers
returns-in-Failed-clause-answers g c =
    told_stays (most_of c.args.self.now.guard.now.criteria)
    (g.L.Link.gone c.args.self.now.link) (g.L.Link.gone c.recv.new.self)
    c.recv.ensures.sent_stays

pub returns-in_default-clause-answers : goal.returns-in_default-clause-answers
returns-in_default-clause-answers g c =
    told_stays (most_of c.args.self.now.guard.now.criteria)
    (g.L.Link.gone c.args.self.now.link) (g.L.Link.gone c.recv.new.self)
    c.recv.ensures.sent_stays

pub returns-then-self-clause-answers : goal.returns-then-self-clause-answers
returns-then-self-clause-answers g c =
    let most = most_of c.args.self.now.guard.now.criteria in
    elim c.then-self.branch [
      | then-self-via-then-self w ↦
          rw w.self-is (told_stays most (g.L.Link.gone c.args.self.now.link)
          (g.L.Link.gone c.recv.new.self) c.recv.ensures.sent_stays)
      | then-self-via-else-self+then-passes w ↦
          rw w.self-is (told_one _ most _ _ _ c.recv.ensures.sent_stays w.passes.ensures.answers)
    ]
