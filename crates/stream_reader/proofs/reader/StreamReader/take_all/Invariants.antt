use Rattle.std.proofs.Common.{◌≡◌, ◌≤◌, ◌-◌, length, take}
use Rattle.stream_model.specs.declared.messages.Judged.TheVariants as judged
use Rattle.stream_reader.specs.Reading.{with_octets, held_as}
use Rattle.stream_reader.proofs.reader.StreamReader.take_all.Given as goal

-- What was taken is held, and no message is whole yet.
abbrev pub invariant-rounds : goal.invariant-rounds
invariant-rounds l =
    (l.taken ≤ length l.piece)
    × (l.self ≡ with_octets l.fn.self (take l.taken l.piece))
    × (held_as l.self ≡ judged.More)

abbrev pub decreases-rounds : goal.decreases-rounds
decreases-rounds l = length l.piece - l.taken
