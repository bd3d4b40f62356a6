use Rattle.std.proofs.Common.{◌∙◌, ◌+◌, ◌∷◌, ap, sym, take, drop, arith}
use Rattle.std.proofs.lemmas.List.{length-drop, take_all}
use Rattle.line_model.specs.Texts.{lines_of}
use Rattle.install_list.proofs.ListLaws.{found_one, found_none}
use Rattle.install_list.proofs.listing.first_line.Goals as goal

pub returns-in-Some-clause-lines : goal.returns-in-Some-clause-lines
returns-in-Some-clause-lines c =
    let left = drop (c.in-Some.at + 1) c.args.text.now in
    found_one c.args.text.now c.in-Some.at c.in-Some.ensures.value
    ∙ ap (λ rest. take c.in-Some.at c.args.text.now ∷ lines_of rest)
    (sym (take_all _ left (omega (arith, length-drop (c.in-Some.at + 1) c.args.text.now))))

pub returns-in-None-clause-lines : goal.returns-in-None-clause-lines
unfolding lines_of
returns-in-None-clause-lines c =
    found_none c.args.text.now c.requires c.in-None.ensures.value
