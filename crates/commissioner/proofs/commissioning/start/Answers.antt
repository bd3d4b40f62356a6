use Rattle.std.proofs.Common.{refl}
use Rattle.commissioner.proofs.MadeLaws.{unsaid_first}
use Rattle.commissioner.proofs.commissioning.start.Goals as goal

pub returns-in-Ok-clause-started : goal.returns-in-Ok-clause-started
returns-in-Ok-clause-started g c = (
  refl,
  refl,
  record {
    kept = c.in-Ok.ensures.ok;
    some =
        unsaid_first c.args.asks 0 c.in-Ok.lines.items c.in-Ok.outcomes c.requires.some
        c.in-Ok.ensures.ok;
  },
)
