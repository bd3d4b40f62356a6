use Rattle.std.proofs.Common.{◌≡◌, take, ap, ◌∙◌, arith}
use Rattle.message_model.specs.Numbers.{uint_bytes}
use Rattle.message_model.specs.Blocks.{block_read, block_value}
use Rattle.message_model.proofs.BlockLaws.{block_again}
use Rattle.block_wise.proofs.values.block_write.Goals as goal

pub returns-clause-read_back : goal.returns-clause-read_back
unfolding block_value
returns-clause-read_back c =
    let value : take c.put_uint.result c.put_uint.new.octets ≡ block_value c.args.block.now =
    c.put_uint.ensures.put
    ∙ ap uint_bytes (omega (arith, c.more_bit.ensures.value, c.from.ensures)) in
    let again =
    block_again c.args.block.now (record { num = c.requires.num; szx = c.requires.szx }) in
    ap block_read value ∙ again.0
