use Rattle.std.proofs.Common.{◌-◌, take, arith}
use Rattle.std.proofs.lemmas.List.{length-take-le}
use Rattle.stream_reader.proofs.ReaderLemmas.{open_held, fronts_of_held}
use Rattle.stream_reader.proofs.reader.StreamReader.advance.Goals as goal

pub overflow_sub-missing : goal.overflow_sub-missing
overflow_sub-missing c =
    let r = c.self.inside in
    let held = open_held r.is_first r.octets r.length r.wanted r.judged c.args.self.now c.self.told
    c.self.invariant.0 c.self.invariant.1 c.self.invariant.2 c.self.view_is c.requires.more in
    omega (arith, held.less)

pub returns-then-piece-missing-clause-fronts : goal.returns-then-piece-missing-clause-fronts
returns-then-piece-missing-clause-fronts c =
    let r = c.self.inside in
    let held = open_held r.is_first r.octets r.length r.wanted r.judged c.args.self.now c.self.told
    c.self.invariant.0 c.self.invariant.1 c.self.invariant.2 c.self.view_is c.requires.more in
    fronts_of_held c.args.self.now c.hold.new.self c.args.piece.now c.requires.more c.hold.ensures
    (omega (arith, held.size_is, held.wanted_is, c.if-piece-missing.true))

pub take-requires-2 : goal.take-requires-2
take-requires-2 c =
    let r = c.self.inside in
    let held = open_held r.is_first r.octets r.length r.wanted r.judged c.args.self.now c.self.told
    c.self.invariant.0 c.self.invariant.1 c.self.invariant.2 c.self.view_is c.requires.more in
    let size = length-take-le (r.wanted - r.length) c.args.piece.now c.if-piece-missing.false in
    omega (arith, held.size_is, held.less, held.few, size)

pub returns-clause-some : goal.returns-clause-some
returns-clause-some c =
    let r = c.self.inside in
    let held = open_held r.is_first r.octets r.length r.wanted r.judged c.args.self.now c.self.told
    c.self.invariant.0 c.self.invariant.1 c.self.invariant.2 c.self.view_is c.requires.more in
    omega (arith, held.less)

pub returns-clause-fronts : goal.returns-clause-fronts
returns-clause-fronts c =
    let r = c.self.inside in
    let held = open_held r.is_first r.octets r.length r.wanted r.judged c.args.self.now c.self.told
    c.self.invariant.0 c.self.invariant.1 c.self.invariant.2 c.self.view_is c.requires.more in
    let size = length-take-le (r.wanted - r.length) c.args.piece.now c.if-piece-missing.false in
    fronts_of_held c.args.self.now c.take-2.new.self (take (r.wanted - r.length) c.args.piece.now)
    c.requires.more c.take-2.ensures
    (omega (arith, held.size_is, held.wanted_is, held.less, size))
