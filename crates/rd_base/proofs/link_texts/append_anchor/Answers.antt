use Rattle.rd_base.proofs.LinkTextLemmas.{anchor-spelled}
use Rattle.rd_base.proofs.link_texts.append_anchor.Goals as goal

pub returns-clause-text : goal.returns-clause-text
returns-clause-text c =
    rw c.in-Some.is (anchor-spelled _ _ _ _ _ c.in_ok-push.ensures c.in_ok-stretch.ensures.text
    c.in_ok-push_mark.ensures)
