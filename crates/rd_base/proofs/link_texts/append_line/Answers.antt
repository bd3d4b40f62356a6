use Rattle.std.proofs.Common.{rules}
use Rattle.std.proofs.lemmas.Str.{IsUtf8-string_bytes}
use Rattle.rd_base.proofs.LinkTextLemmas.{line-at}
use Rattle.rd_base.proofs.link_texts.append_line.Goals as goal

pub returns-clause-at : goal.returns-clause-at
returns-clause-at c =
    line-at _ _ _ _ _ _ _ _ _ _ _ c.in_ok-push_mark.ensures c.in_ok-target.ensures.text
    c.in_ok-push_mark-2.ensures c.in_ok-raw.ensures.text c.in_ok-anchor.ensures.text
    c.in_ok-target.ensures.at c.in_ok-raw.ensures.at c.in_ok-anchor.ensures.at (search rules)
    (search rules) (IsUtf8-string_bytes c.args.text.now)
    (IsUtf8-string_bytes c.append_anchor.new.text)
