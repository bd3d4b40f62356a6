use Rattle.std.proofs.Common.{List, subst}
use Rattle.link_model.specs.Documents.{Parameter}
use Rattle.link_format.specs.LinksOfText.{parameters_in}
use Rattle.link_format.specs.Views.{parameter_seen}
use Rattle.registration.specs.LinkParameters.{IsGathered}
use Rattle.registration.proofs.LinkParameterLaws.{fits_here}
use Rattle.registration.proofs.link_parameters.gather.Goals as goal

pub with-requires : goal.with-requires
with-requires c =
    fits_here c.args.start c.parameters.gathered.end (parameters_in c.args.link.now.params.now)
    c.parameters.left c.next.new.self (parameter_seen c.in-Some.param) c.in-Some.ensures.steps
    c.parameters.invariant.end c.requires.fits

pub parameters-preserved : goal.parameters-preserved
parameters-preserved c =
    c.in_ok-gathered.ensures c.args.builder.links c.args.start
    (parameters_in c.args.link.now.params.now) c.next.new.self
    (subst (λ (left : List Parameter).
    IsGathered c.args.builder.links c.args.start (parameters_in c.args.link.now.params.now)
    left c.parameters.gathered) c.in-Some.ensures.steps c.parameters.invariant)

pub returns : goal.returns
returns c =
    subst (λ (left : List Parameter).
    IsGathered c.args.builder.links c.args.start (parameters_in c.args.link.now.params.now)
    left c.parameters.gathered) c.in_default.ensures.steps.0 c.parameters.invariant
