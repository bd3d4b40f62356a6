-- The text of all lines begins with the first of them.
use Rattle.std.proofs.Common.{◌≡◌, ◌++◌, ◌∙◌, ℕ, List, OnOk, ap, subst, sym}
use Rattle.std.proofs.lemmas.Bool.{false≢true}
use Rattle.listing.specs.AppendedLines.{separated}
use Rattle.listing.proofs.PartLaws.{appended-all, appended-none}
use Rattle.listing.proofs.appended_lines.append_all_links.Goals as goal

pub returns-then-is_empty-clause-ok : goal.returns-then-is_empty-clause-ok
returns-then-is_empty-clause-ok c =
    appended-none c.args.into.now c.args.items.now (c.is_empty.ensures.0 c.if-is_empty.true)

pub returns-clause-ok : goal.returns-clause-ok
returns-clause-ok c =
    subst (λ (text : List ℕ). OnOk c.append_separated.result (c.append_separated.new.into ≡ text))
    (ap (λ (all : List ℕ). separated c.args.into.now ++ all) c.listed.ensures
    ∙ appended-all c.args.into.now c.args.items.now
    (λ none. false≢true (sym c.if-is_empty.false ∙ c.is_empty.ensures.1 none)))
    c.append_separated.ensures.ok
