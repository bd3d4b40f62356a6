use Rattle.std.proofs.Common.{ap, drop, ◌∙◌}
use Rattle.stream_registrant.proofs.PieceLaws.{few_of, spent}
use Rattle.stream_registrant.proofs.pieces.Piece.spend.Goals as goal

pub returns : goal.returns
returns c =
    spent c.self.inside.octets c.self.inside.from c.self.inside.to c.args.count
    (few_of c.self.inside.octets c.args.self.now c.self.inside.from c.self.inside.to c.args.count
    c.self.view_is c.requires)
    ∙ ap (drop c.args.count) c.self.view_is
