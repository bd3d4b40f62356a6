-- What is left has the first fault of all, and asks with what is kept for what all ask for.
use Rattle.std.proofs.Common.{sym, ap, ◌∙◌}
use Rattle.query_text.specs.AskedOptions.{wanted_in}
use Rattle.query_text.specs.Walks.{walk_past}
use Rattle.query_text.proofs.WalkLaws.{passed}
use Rattle.query_text.proofs.OptionsKept.{asked_more, asked_all}
use Rattle.query_text.proofs.LookupResults.{of_lookup, asked_refused}
use Rattle.query_text.proofs.lookups.all_asked.Goals as goal

pub returns-in_err-named : goal.returns-in_err-named
returns-in_err-named g c =
    asked_refused (g.Q.Pieces.left c.args.queries) c.in_err-named.field-0.0 c.from_residual.result
    (sym c.options.invariant.same ∙ c.in_err-named.ensures.step) c.from_residual.ensures.1

pub options-preserved : goal.options-preserved
options-preserved g c =
    let past = rw c.in-Some.is at c.in_ok-named.ensures.step in
    record {
      same =
          passed c.options.walk (g.Q.Pieces.left c.options.queries) c.step.new.self
          (g.Q.Pieces.left c.step.new.queries) c.in-Some.named past
          ∙ c.options.invariant.same;
      kind =
          ap (λ w. w.kind) {y = walk_past c.options.walk past.query} past.past
          ∙ c.options.invariant.kind;
      asked =
          asked_more c.options.walk (g.Q.Pieces.left c.options.queries) c.step.new.self
          (g.Q.Pieces.left c.step.new.queries) c.in-Some.named (wanted_in c.options.asked)
          (wanted_in c.keep.new.self) past
          c.options.invariant.kind c.in_ok-keep.ensures ∙ c.options.invariant.asked;
      room = c.in_ok-named.ensures.room;
    }

pub returns : goal.returns
returns g c =
    let ended = rw c.in_default.is at c.in_ok-named.ensures.step in (
      sym (of_lookup (g.Q.Pieces.left c.args.queries))
          ∙ (sym c.options.invariant.same ∙ ended.1),
      sym
          (asked_all (wanted_in c.options.asked) (g.Q.Pieces.left c.options.queries) ended.0)
          ∙ c.options.invariant.asked,
    )
