use Rattle.std.proofs.Common.{◌≡◌, ◌++◌, take, flat_map}
use Rattle.install_list.specs.Printing.{segment_text}
use Rattle.install_list.proofs.printing.push_path.Given as goal

abbrev pub invariant-segments : goal.invariant-segments
invariant-segments l =
    l.into ≡ l.fn.into ++ flat_map segment_text (take l.segment-index l.path)
