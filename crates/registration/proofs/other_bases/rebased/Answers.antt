use Rattle.std.proofs.Common.{◌++◌, ◌∷◌, [], List, map, sym, ap, ◌∙◌}
use Rattle.std.specs.List.{list_all}
use Rattle.std.proofs.lemmas.Bool.{and_parts}
use Rattle.rd_base.specs.Drafted.{Drafted}
use Rattle.rd_base.specs.declared.records.Item.{Item}
use Rattle.record_model.specs.Records.{rebased}
use Rattle.registration.specs.Drafts.{has_references}
use Rattle.registration.proofs.ReferenceLaws.{keeps_references}
use Rattle.registration.proofs.SubmissionLaws.{base_is_without_query}
use Rattle.registration.proofs.LinksLaws.{one_more, all_more}
use Rattle.registration.proofs.other_bases.rebased.Goals as goal

pub parts_without_query-base-requires : goal.parts_without_query-base-requires
parts_without_query-base-requires c =
    base_is_without_query c.as_str.result.now (rw c.as_str.ensures c.requires.base)

pub links-preserved : goal.links-preserved
links-preserved c =
    let first = c.in-Some.ensures.steps in
    let item = c.in-Some.link in
    let parts =
    and_parts (has_references item) (list_all has_references c.next.new.self)
    (rw first at c.links.invariant.left) in
    let more = c.in_ok-builder.ensures in
    let longer = ap (λ (d : Drafted). d.links) more.builder in
    record {
      done = λ spelled s.
          one_more c.links.builder.links c.in_ok-builder.builder.links (rebased spelled item)
          (map (rebased spelled) c.next.new.self) (map (rebased spelled) c.args.items.now)
          (◌∙◌ {A = List Item} longer
          (ap (λ (x : Item). c.links.builder.links ++ x ∷ []) (more.rebased spelled s)))
          (◌∙◌ {A = List Item}
          (ap (λ (ls : List Item). c.links.builder.links ++ map (rebased spelled) ls)
          (sym first)) (c.links.invariant.done spelled s));
      left = parts.1;
      new =
          all_more c.links.builder.links c.in_ok-builder.builder.links more.added longer
          c.links.invariant.new
          (keeps_references c.as_str.result.now item more.added
          (more.rebased c.as_str.result.now c.parts_without_query-base.ensures) parts.0);
      waits =
          (ap (λ (d : Drafted). d.raw) more.builder, ap (λ (d : Drafted). d.pairs) more.builder);
    }
