use Rattle.std.proofs.lemmas.Slice.Eq.{slice_eq-Decides}
use Rattle.watch_table.proofs.QueryLaws.{criterion-Decides}
use Rattle.watch_table.proofs.same_queries.are_same_criteria.Goals as goal

pub returns : goal.returns
returns c =
    slice_eq-Decides criterion-Decides c.args.criteria.now c.args.others.now c.eq.result
    c.eq.ensures
