use Rattle.std.proofs.Common.{◌∙◌, ◌+◌, ap, sym, drop, length, arith}
use Rattle.std.proofs.lemmas.List.{length-drop, take_all}
use Rattle.install_list.specs.Lists.{last_word}
use Rattle.install_list.proofs.LineLaws.{word_next, word_last}
use Rattle.install_list.proofs.lines.last_word.Goals as goal

pub words-preserved : goal.words-preserved
words-preserved c =
    let left = c.words.left.now in
    let at = c.in-Some.at in
    let more = drop (at + 1) left in
    let size = length-drop (at + 1) left in
    let all = take_all _ more (omega (arith, size)) in
    let shorter = c.words.invariant.shorter in
    record {
      same =
          c.words.invariant.same
          ∙ word_next left at c.in-Some.ensures.value
          ∙ ap last_word (sym all);
      shorter = omega (arith, ap length all, size, shorter);
    }

pub returns : goal.returns
returns c =
    sym (c.words.invariant.same ∙ word_last c.words.left.now c.in_default.ensures.value)
