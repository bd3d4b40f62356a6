-- The targets are the same since the lines are.
use Rattle.std.proofs.Common.{rules, sym, ◌∙◌}
use Rattle.listing.proofs.AlikeLaws.{pairs_same, target_same}
use Rattle.listing.proofs.alike_links.are_alike_in_line.Goals as goal

pub returns : goal.returns
returns c same line = record {
  line = line;
  target = target_same c.args.old.now c.args.new.now line (search rules);
  anchor = search rules;
  pairs =
      sym c.pairs.ensures
      ∙ pairs_same c.pairs.result c.pairs-2.result (sym c.eq.ensures ∙ same)
      ∙ c.pairs-2.ensures;
}
