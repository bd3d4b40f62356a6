-- The next parameter is the first of those that the text spells.
use Rattle.std.proofs.Common.{◌≡◌, ◌<◌, ◌∷◌, List, [], length, sym, ap, ◌∙◌, arith}
use Rattle.link_model.specs.Documents.{Parameter}
use Rattle.link_format.specs.LinksOfText.{parameters_in}
use Rattle.link_format.proofs.ParameterSteps.{next_parameter, no_parameter}
use Rattle.link_format.proofs.parameters.ParamsIterator.next.Goals as goal

pub returns-in_err-raw-clause-steps : goal.returns-in_err-raw-clause-steps
returns-in_err-raw-clause-steps c =
    let nothing : c.args.self.now ≡ [] =
    sym c.self.view_is
    ∙ no_parameter c.self.inside.rest.now c.self.invariant (sym c.in_err-raw.ensures) in
    rw c.from_residual.ensures (nothing, nothing)

pub invariant_of-result : goal.invariant_of-result
invariant_of-result c =
    record {
      spelled =
          (next_parameter c.self.inside.rest.now c.in_ok-raw.raw.now c.in_ok-raw.name.now _
          c.in_ok-raw.rest.now c.self.invariant (sym c.in_ok-raw.ensures)).spelled;
    }

pub invariant_of-self : goal.invariant_of-self
invariant_of-self c =
    (next_parameter c.self.inside.rest.now c.in_ok-raw.raw.now c.in_ok-raw.name.now _
    c.in_ok-raw.rest.now c.self.invariant (sym c.in_ok-raw.ensures)).left

pub returns-clause-steps : goal.returns-clause-steps
returns-clause-steps c =
    sym c.self.view_is
    ∙ (next_parameter c.self.inside.rest.now c.in_ok-raw.raw.now c.in_ok-raw.name.now _
    c.in_ok-raw.rest.now c.self.invariant (sym c.in_ok-raw.ensures)).first

fewer : (parameters : List Parameter) (p : Parameter) (rest : List Parameter)
    → parameters ≡ p ∷ rest
    → length rest < length parameters
fewer parameters p rest e = let h = ap length e in omega arith

pub returns-clause-goes : goal.returns-clause-goes
returns-clause-goes c =
    let step =
    sym c.self.view_is
    ∙ (next_parameter c.self.inside.rest.now c.in_ok-raw.raw.now c.in_ok-raw.name.now _
    c.in_ok-raw.rest.now c.self.invariant (sym c.in_ok-raw.ensures)).first in
    record {
      on = λ _. (tt, tt, fewer c.args.self.now _ (parameters_in c.in_ok-raw.rest.now) step);
      keeps = tt;
      rests = λ _. tt;
    }
