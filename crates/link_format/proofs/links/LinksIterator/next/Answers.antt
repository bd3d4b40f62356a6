-- The next link is the first of those that the text spells.
use Rattle.std.proofs.Common.{◌≡◌, ◌<◌, ◌∷◌, List, [], length, sym, ap, ◌∙◌, arith}
use Rattle.link_model.specs.Documents.{Link}
use Rattle.link_format.specs.LinksOfText.{links_in}
use Rattle.link_format.proofs.LinkSteps.{next_link, no_link}
use Rattle.link_format.proofs.links.LinksIterator.next.Goals as goal

pub returns-in_err-target-clause-steps : goal.returns-in_err-target-clause-steps
returns-in_err-target-clause-steps c =
    let nothing : c.args.self.now ≡ [] =
    sym c.self.view_is
    ∙ no_link c.self.inside.rest.now c.self.invariant (sym c.in_err-target.ensures) in
    rw c.from_residual.ensures (nothing, nothing)

pub invariant_of-result : goal.invariant_of-result
invariant_of-result c = record {
  readable =
      (next_link c.self.inside.rest.now c.in_ok-target.target.now c.in_ok-target.params.now
      c.in_ok-target.rest.now c.self.invariant (sym c.in_ok-target.ensures)).readable;
}

pub invariant_of-self : goal.invariant_of-self
invariant_of-self c =
    (next_link c.self.inside.rest.now c.in_ok-target.target.now c.in_ok-target.params.now
    c.in_ok-target.rest.now c.self.invariant (sym c.in_ok-target.ensures)).left

pub returns-clause-steps : goal.returns-clause-steps
returns-clause-steps c =
    sym c.self.view_is
    ∙ (next_link c.self.inside.rest.now c.in_ok-target.target.now c.in_ok-target.params.now
    c.in_ok-target.rest.now c.self.invariant (sym c.in_ok-target.ensures)).first

fewer : (links : List Link) (l : Link) (rest : List Link)
    → links ≡ l ∷ rest
    → length rest < length links
fewer links l rest e = let h = ap length e in omega arith

pub returns-clause-goes : goal.returns-clause-goes
returns-clause-goes c =
    let step =
    sym c.self.view_is
    ∙ (next_link c.self.inside.rest.now c.in_ok-target.target.now c.in_ok-target.params.now
    c.in_ok-target.rest.now c.self.invariant (sym c.in_ok-target.ensures)).first in
    record {
      on = λ _. (tt, tt, fewer c.args.self.now _ (links_in c.in_ok-target.rest.now) step);
      keeps = tt;
      rests = λ _. tt;
    }
