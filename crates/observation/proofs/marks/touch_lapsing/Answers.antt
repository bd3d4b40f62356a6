use Rattle.std.proofs.Common.{Some, None, sym, ap, subst, ◌∙◌}
use Rattle.std.proofs.lemmas.Bool.{false≢true}
use Rattle.history_model.specs.Replay.{replay}
use Rattle.observation.specs.Marks.{all_lapsed}
use Rattle.observation.specs.Watching.{AreWatched}
use Rattle.observation.proofs.MarkLaws.{lapsing_touched}
use Rattle.observation.proofs.WatchedLaws.{touched-AreWatched}
use Rattle.observation.proofs.marks.touch_lapsing.Goals as goal

pub records-preserved : goal.records-preserved
records-preserved c = record {
  left =
      ap (all_lapsed c.step.new.self) c.touched.ensures.touched
      ∙ (sym (ap (λ rs. all_lapsed rs c.records.watches) c.in-Some.ensures.next)
      ∙ c.records.invariant.left);
  none = λ no. absurd (false≢true (sym no));
  watched = λ standing h.
      subst (λ t. AreWatched t standing) (sym c.touched.ensures.touched)
      (touched-AreWatched (Some c.in-Some.record.now) None c.records.watches standing
      (c.records.invariant.watched standing h));
}

pub returns-clause-touched : goal.returns-clause-touched
returns-clause-touched c first history h =
    sym (ap (λ rs. all_lapsed rs c.records.watches) c.in_default.ensures.end.0)
    ∙ (c.records.invariant.left
    ∙ (ap (λ rs. all_lapsed rs c.args.watches.now) (c.lapsing-lapsing.ensures first history h)
    ∙ lapsing_touched c.args.from.0 c.args.to.0 (replay history).records c.args.watches.now))
