use Rattle.std.proofs.Common.{ℕ, List, [], Bor, get_or, drop, suc, subst, drop-cons}
use Rattle.rd_base.specs.Outside.{Rose}
use Rattle.install_list.proofs.ReportLaws.{all_said, front_said}
use Rattle.install_list.proofs.reports.say.Goals as goal

pub returns-then-not-write_all : goal.returns-then-not-write_all
returns-then-not-write_all g c =
    let none : Bor (List ℕ) = record { ref_ptr = (0, 0); now = [] } in
    front_said _ _ _ _ c.texts.text-index c.args.texts.now c.texts.invariant.said _
    (get_or c.args.texts.now c.texts.text-index none)
    (drop (suc c.texts.text-index) c.args.texts.now)
    (drop-cons c.args.texts.now c.texts.text-index none c.texts-test.true) c.write_all.ensures.front
    (subst (λ (n : ℕ). Rose n (g.E.Sink.faults c.write_all.new.out)) c.texts.invariant.counts
    c.if-not-write_all.ensures.cause.1)

pub returns : goal.returns
returns g c =
    all_said _ _ _ _ c.texts.text-index c.args.texts.now c.texts.invariant.said c.texts-test.false
