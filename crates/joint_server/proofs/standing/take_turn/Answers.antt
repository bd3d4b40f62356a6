use Rattle.joint_server.proofs.StandLaws.{asks_few}
use Rattle.joint_server.proofs.standing.take_turn.Goals as goal

pub returns-in-Ok-clause-made : goal.returns-in-Ok-clause-made
returns-in-Ok-clause-made g c = (
  c.in-Ok.turned,
  c.in-Ok.ensures.made,
  asks_few c.in-Ok.turned c.in-Ok.ensures.few,
  c.count.ensures,
)
