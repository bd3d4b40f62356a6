-- Where all links pass, all lines are compared; where all are alike, all lines are the same.
use Rattle.std.proofs.Common.{List, ℕ, ◌∙◌, ap₂, sym}
use Rattle.record_model.specs.ListingLines.{same_lines}
use Rattle.listing.specs.LinkFilters.{sifts}
use Rattle.listing.proofs.AlikeLaws.{all_alike}
use Rattle.listing.proofs.StepLaws.{lines_of_all}
use Rattle.listing.proofs.same_parts.same_sifted.Goals as goal

pub returns-then-both_list_all : goal.returns-then-both_list_all
returns-then-both_list_all c =
    c.same_all_lines.ensures
    ∙ sym (ap₂ (λ (lines others : List (List ℕ)). same_lines lines others)
    (lines_of_all (sifts c.args.old.now) c.args.old_items.now
    (c.both_list_all.ensures.one c.if-both_list_all.true))
    (lines_of_all (sifts c.args.new.now) c.args.new_items.now
    (c.both_list_all.ensures.other c.if-both_list_all.true)))

pub returns-then-are_all_alike : goal.returns-then-are_all_alike
returns-then-are_all_alike c =
    sym (all_alike c.args.together (sifts c.args.old.now) (sifts c.args.new.now)
    c.args.old_items.now c.args.new_items.now
    (c.are_all_alike.ensures.together c.if-are_all_alike.true) c.requires.together
    (c.are_all_alike.ensures.links c.if-are_all_alike.true))
