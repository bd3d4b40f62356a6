-- An octet of ASCII, where none is due, is a whole character.
use Rattle.std.proofs.Common.{sym, ◌∙◌}
use Rattle.link_format.proofs.StayLemmas.{none_due, no_tails}
use Rattle.link_format.proofs.reach.is_ascii_where_none_due.Goals as goal

pub returns-then-is_empty-clause-none : goal.returns-then-is_empty-clause-none
returns-then-is_empty-clause-none c h =
    none_due c.args.tails.now c.is_empty.result c.is_empty.ensures c.if-is_empty.true

pub returns-then-is_empty-clause-tails : goal.returns-then-is_empty-clause-tails
returns-then-is_empty-clause-tails c h =
    no_tails c.args.tails.now c.args.octet c.is_empty.result c.is_empty.ensures c.if-is_empty.true
    (sym c.is_ascii.ensures ∙ h)
