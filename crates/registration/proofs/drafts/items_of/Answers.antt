use Rattle.std.proofs.Common.{ℕ, Some, sym, ap, ◌∙◌, arith}
use Rattle.record_model.specs.BodyFaults.{no_document}
use Rattle.registration.proofs.LinksLaws.{document_room, fault_of_no_document, body_reads}
use Rattle.registration.proofs.drafts.items_of.Goals as goal

pub read_links-requires-clause-room : goal.read_links-requires-clause-room
read_links-requires-clause-room c =
    document_room c.args.body.now c.in-Ok.links c.in-Ok.ensures.ok (omega arith)

pub returns-in_ok-builder-in-Ok : goal.returns-in_ok-builder-in-Ok
returns-in_ok-builder-in-Ok c =
    body_reads c.parts_without_query-base.result c.args.base.now c.args.body.now c.in-Ok.links
    c.read_links.result c.in-Ok.ensures.ok c.parts_without_query-base.ensures
    c.read_links.ensures

pub returns-in-Err : goal.returns-in-Err
returns-in-Err c =
    fault_of_no_document c.args.body.now c.in-Err.ensures.refused
    ∙ ap (λ (n : ℕ). Some (no_document n)) (sym c.in-Err.ensures.offset)
