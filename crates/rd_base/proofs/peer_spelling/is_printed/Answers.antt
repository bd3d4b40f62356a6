use Rattle.std.proofs.Common.{sym, ◌∙◌}
use Rattle.rd_base.proofs.PrefixLemmas.{no_rest, no_prefix}
use Rattle.rd_base.proofs.peer_spelling.is_printed.Goals as goal

pub returns-in-Some : goal.returns-in-Some
returns-in-Some c = c.is_empty.ensures ∙ no_rest _ _ _ c.in-Some.ensures

pub returns-in-None : goal.returns-in-None
returns-in-None c = sym (no_prefix _ _ c.in-None.ensures)
