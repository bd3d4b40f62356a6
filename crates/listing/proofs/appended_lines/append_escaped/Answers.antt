use Rattle.std.proofs.Common.{◌≡◌, ◌++◌, List, ℕ, OnOk, subst, sym, ◌∙◌}
use Rattle.rd_base.proofs.EscapeLemmas.{nothing_escaped}
use Rattle.listing.proofs.appended_lines.append_escaped.Goals as goal

pub returns-clause-ok : goal.returns-clause-ok
returns-clause-ok c =
    subst (λ (t : List ℕ).
    OnOk c.append_plain.result (c.append_plain.new.into ≡ c.args.into.now ++ t))
    (sym (nothing_escaped c.args.text.now (sym c.has_escaped.ensures ∙ c.if-has_escaped.false)))
    c.append_plain.ensures.ok
