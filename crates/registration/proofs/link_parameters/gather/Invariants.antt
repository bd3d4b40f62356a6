use Rattle.link_format.specs.LinksOfText.{parameters_in}
use Rattle.registration.specs.LinkParameters.{IsGathered}
use Rattle.registration.proofs.link_parameters.gather.Given as goal

abbrev pub invariant-parameters : goal.invariant-parameters
invariant-parameters l =
    IsGathered l.fn.builder.links l.fn.start (parameters_in l.fn.link.params.now) l.left l.gathered
