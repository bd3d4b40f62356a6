-- Texts that differ have other lines.
use Rattle.std.proofs.Common.{not, sym, ◌∙◌, ap}
use Rattle.std.proofs.lemmas.Bool.{false≢true}
use Rattle.std.proofs.lemmas.Slice.Eq.{bytes_eq-Decides}
use Rattle.listing.proofs.AlikeLaws.{texts_differ}
use Rattle.listing.proofs.alike_links.same_all_lines.Goals as goal

pub returns-then-ne : goal.returns-then-ne
returns-then-ne c =
    texts_differ c.args.old.now c.args.new.now
    (λ same.
    let yet =
    (bytes_eq-Decides c.listed.result.now c.listed-2.result.now).1
    (c.listed.ensures ∙ same ∙ sym c.listed-2.ensures) in
    false≢true (sym (ap not yet) ∙ sym c.ne.ensures ∙ c.if-ne.true))
