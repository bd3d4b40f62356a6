-- What is left has no fault, and gives with what is kept what all give.
use Rattle.std.proofs.Common.{false, sym, ◌∙◌}
use Rattle.query_text.specs.GivenParameters.{values_in}
use Rattle.query_text.proofs.ParametersKept.{gathered_more, gathered_all}
use Rattle.query_text.proofs.FaultlessLaws.{others_faultless}
use Rattle.query_text.proofs.faultless.given_by.Goals as goal

pub options-preserved : goal.options-preserved
options-preserved g c =
    let good = c.options.invariant.good in
    let next = rw c.in-Some.is at c.next_named.ensures good.walk good.none in
    record {
      good =
          others_faultless false good.walk (g.Q.Pieces.left c.options.queries)
          (g.Q.Pieces.left c.next_named.new.queries) c.in-Some.named good.kind next;
      given =
          gathered_more good.walk (g.Q.Pieces.left c.options.queries) next.now
          (g.Q.Pieces.left c.next_named.new.queries) c.in-Some.named (values_in c.options.given)
          (values_in c.keep.new.self) next.past good.kind c.in_ok-keep.ensures
          ∙ c.options.invariant.given;
    }

pub returns : goal.returns
returns g c =
    let good = c.options.invariant.good in
    let ended = rw c.in_default.is at c.next_named.ensures good.walk good.none in
    sym (gathered_all (values_in c.options.given) (g.Q.Pieces.left c.options.queries) ended)
    ∙ c.options.invariant.given
