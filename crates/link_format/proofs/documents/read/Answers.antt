-- A body that the walk found to be a document is text that spells links.
use Rattle.std.proofs.Common.{List, Some, is_some, sym, ap, ◌∙◌}
use Rattle.link_model.specs.Documents.{Link}
use Rattle.link_format.specs.LinksOfText.{links_of, links_in}
use Rattle.link_format.proofs.CheckLemmas.{checked_where_found}
use Rattle.link_format.proofs.documents.read.Goals as goal

pub from_utf8_unchecked-text-requires : goal.from_utf8_unchecked-text-requires
from_utf8_unchecked-text-requires c =
    (checked_where_found c.args.body.now c.walk-reach.result.is_document
    c.walk-reach.ensures.document c.if-not-reach.false).utf8

pub links_of_text-requires : goal.links_of_text-requires
links_of_text-requires c =
    ap (λ text. is_some (links_of text)) c.from_utf8_unchecked-text.ensures
    ∙ (checked_where_found c.args.body.now c.walk-reach.result.is_document
    c.walk-reach.ensures.document c.if-not-reach.false).spells

pub returns-clause-ok : goal.returns-clause-ok
returns-clause-ok c =
    (checked_where_found c.args.body.now c.walk-reach.result.is_document
    c.walk-reach.ensures.document c.if-not-reach.false).links
    ∙ ap (λ (links : List Link). Some links)
    (ap links_in (sym c.from_utf8_unchecked-text.ensures) ∙ sym c.links_of_text.ensures)
