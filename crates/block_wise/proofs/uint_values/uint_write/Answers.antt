use Rattle.std.proofs.Common.{ap, ◌∙◌}
use Rattle.message_model.specs.Numbers.{uint_of}
use Rattle.message_model.proofs.BlockLaws.{uint_written}
use Rattle.block_wise.proofs.uint_values.uint_write.Goals as goal

pub returns-clause-read_back : goal.returns-clause-read_back
returns-clause-read_back c =
    let written = uint_written c.args.n c.requires in
    ap uint_of c.put_uint.ensures.put ∙ written.value
