use Rattle.std.proofs.Common.{sym}
use Rattle.rd_base.proofs.CopyLemmas.{copied_front}
use Rattle.rd_base.proofs.memory_ends.MemSourceSource.read.Goals as goal

pub returns-clause-bytes : goal.returns-clause-bytes
returns-clause-bytes c =
    copied_front _ _ _ _ _ _ c.as_slice-bytes.ensures.value c.copy_at-n.ensures.count
    (sym c.copy_at-n.auto.into) c.copy_at-n.ensures.copied
