-- The first option, which is text.
use Rattle.query_text.proofs.FaultlessLaws.{first_text, followed}
use Rattle.query_text.proofs.faultless.next_named.Goals as goal

pub unreachable-requires : goal.unreachable-requires
unreachable-requires g c =
    first_text c.requires.0 (g.Q.Pieces.left c.args.queries.now) c.in-Some.option.now _
    c.requires.1 c.in-Some.ensures.some c.in_default-from_utf8.ensures.cases.0

pub returns : goal.returns
returns g c walk none =
    followed walk (g.Q.Pieces.left c.args.queries.now) c.in-Some.option.now _ c.in-Ok.text.now _
    c.in-Some.ensures.some c.in-Ok.ensures.cases.0 c.name_and_value.ensures.name
    c.name_and_value.ensures.value none
