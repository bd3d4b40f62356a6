-- What is left has no fault, and asks with what is kept for what all ask for.
use Rattle.std.proofs.Common.{true, sym, ◌∙◌}
use Rattle.query_text.specs.AskedOptions.{wanted_in}
use Rattle.query_text.proofs.OptionsKept.{asked_more, asked_all}
use Rattle.query_text.proofs.FaultlessLaws.{lookup_kind, others_faultless}
use Rattle.query_text.proofs.faultless.asked_by.Goals as goal

pub options-preserved : goal.options-preserved
options-preserved g c =
    let good = c.options.invariant.good in
    let next = rw c.in-Some.is at c.next_named.ensures good.walk good.none in
    record {
      good =
          others_faultless true good.walk (g.Q.Pieces.left c.options.queries)
          (g.Q.Pieces.left c.next_named.new.queries) c.in-Some.named good.kind next;
      asked =
          asked_more good.walk (g.Q.Pieces.left c.options.queries) next.now
          (g.Q.Pieces.left c.next_named.new.queries) c.in-Some.named (wanted_in c.options.asked)
          (wanted_in c.keep.new.self) next.past (lookup_kind good.walk.kind good.kind)
          c.in_ok-keep.ensures ∙ c.options.invariant.asked;
    }

pub returns : goal.returns
returns g c =
    let good = c.options.invariant.good in
    let ended = rw c.in_default.is at c.next_named.ensures good.walk good.none in
    sym (asked_all (wanted_in c.options.asked) (g.Q.Pieces.left c.options.queries) ended)
    ∙ c.options.invariant.asked
