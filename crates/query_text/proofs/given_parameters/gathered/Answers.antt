-- What is left has the first fault of all, and gives with what is kept what all give.
use Rattle.std.proofs.Common.{sym, ap, ◌∙◌}
use Rattle.query_text.specs.GivenParameters.{values_in}
use Rattle.query_text.specs.Walks.{walk_past}
use Rattle.query_text.proofs.WalkLaws.{passed}
use Rattle.query_text.proofs.RuleLaws.{of_parameters}
use Rattle.query_text.proofs.ParametersKept.{gathered_more, gathered_all}
use Rattle.query_text.proofs.Results.{gathered_refused}
use Rattle.query_text.proofs.given_parameters.gathered.Goals as goal

pub returns-in_err-named : goal.returns-in_err-named
returns-in_err-named g c =
    gathered_refused c.args.kind (g.Q.Pieces.left c.args.queries) c.in_err-named.field-0.0
    c.from_residual.result c.requires
    (sym c.options.invariant.same ∙ c.in_err-named.ensures.step) c.from_residual.ensures.1

pub options-preserved : goal.options-preserved
options-preserved g c =
    let past = rw c.in-Some.is at c.in_ok-named.ensures.step in
    record {
      same =
          passed c.options.walk (g.Q.Pieces.left c.options.queries) c.step.new.self
          (g.Q.Pieces.left c.step.new.queries) c.in-Some.named past
          ∙ c.options.invariant.same;
      kind =
          ap (λ w. w.kind) {y = walk_past c.options.walk past.query} past.past
          ∙ c.options.invariant.kind;
      given =
          gathered_more c.options.walk (g.Q.Pieces.left c.options.queries) c.step.new.self
          (g.Q.Pieces.left c.step.new.queries) c.in-Some.named (values_in c.options.given)
          (values_in c.keep.new.self) past
          (rw c.options.invariant.kind c.requires) c.in_ok-keep.ensures ∙ c.options.invariant.given;
      room = c.in_ok-named.ensures.room;
    }

pub returns : goal.returns
returns g c =
    let ended = rw c.in_default.is at c.in_ok-named.ensures.step in (
      sym (of_parameters c.args.kind c.requires (g.Q.Pieces.left c.args.queries))
          ∙ (sym c.options.invariant.same ∙ ended.1),
      sym
          (gathered_all (values_in c.options.given) (g.Q.Pieces.left c.options.queries) ended.0)
          ∙ c.options.invariant.given,
    )
