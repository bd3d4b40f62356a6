use Rattle.std.proofs.Common.{refl}
use Rattle.simple_registration.proofs.ChallengeLaws.{ChallengesStandFor-none}
use Rattle.simple_registration.proofs.echoes.Echoes.make.Goals as goal

pub returns : goal.returns
returns c = ChallengesStandFor-none _ c.in_ok-rows.ensures.items refl
