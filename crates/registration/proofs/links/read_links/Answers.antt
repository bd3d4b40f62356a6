use Rattle.std.proofs.Common.{
  ◌+◌,
  ◌++◌,
  ◌∷◌,
  [],
  ℕ,
  List,
  map,
  option_map,
  refl,
  sym,
  ap,
  ◌∙◌,
  arith,
  append-nil,
}
use Rattle.std.specs.List.{list_all}
use Rattle.rd_base.specs.Drafted.{Drafted}
use Rattle.rd_base.specs.declared.records.Item.{Item}
use Rattle.record_model.specs.BodyFaults.{not_limited}
use Rattle.link_model.specs.Documents.{Link}
use Rattle.link_model.specs.Quoting.{submitted_link}
use Rattle.record_model.specs.Records.{items_of, item_of}
use Rattle.link_format.specs.Views.{link_seen}
use Rattle.registration.specs.Drafts.{has_references}
use Rattle.registration.specs.Links.{Reads, fault_from}
use Rattle.registration.proofs.FaultLaws.{fault_later}
use Rattle.registration.proofs.LinkLaws.{err_at}
use Rattle.registration.proofs.LinksLaws.{
  links_refused,
  one_more,
  all_more,
  room_behind,
  fault_at_end,
}
use Rattle.registration.proofs.links.read_links.Goals as goal

pub returns-in_err-read : goal.returns-in_err-read
returns-in_err-read c =
    err_at c.in_err-read.field-0.0 (Reads c.args.base.now c.args.links) c.from_residual.result
    (links_refused c.args.base.now c.links.start c.links.index c.links.unlimited c.args.links
    c.links.left c.next.new.self (link_seen c.in-Some.link) c.links.builder.links
    c.in_err-read.field-0.0 c.in-Some.ensures.steps c.links.invariant.same
    c.in_err-read.ensures)
    c.from_residual.ensures.1

pub links-preserved : goal.links-preserved
links-preserved c =
    let l = link_seen c.in-Some.link in
    let read = c.in_ok-read.ensures in
    let first = c.in-Some.ensures.steps in
    let moved = ap (λ (n : ℕ). n + 1) read.end in
    record {
      same =
          ap (λ u. fault_from (c.in_ok-read.read.end + 1) (c.links.index + 1) u c.next.new.self)
          c.noted-unlimited.ensures
          ∙ fault_later c.links.start (c.in_ok-read.read.end + 1) c.links.index (c.links.index + 1)
          c.links.unlimited c.in_ok-read.read.is_limited l c.next.new.self read.good
          read.limited moved refl
          ∙ ap (fault_from c.links.start c.links.index c.links.unlimited) (sym first)
          ∙ c.links.invariant.same;
      items = λ spelled s.
          one_more c.links.builder.links c.in_ok-read.read.builder.links
          (item_of spelled (submitted_link l))
          (items_of spelled (map submitted_link c.next.new.self))
          (items_of spelled (map submitted_link c.args.links))
          (ap (λ (d : Drafted). d.links) read.builder
          ∙ ap (λ (x : Item). c.links.builder.links ++ x ∷ []) (read.item spelled s))
          (ap (λ (ls : List Link).
          c.links.builder.links ++ items_of spelled (map submitted_link ls)) (sym first)
          ∙ c.links.invariant.items spelled s);
      references =
          all_more c.links.builder.links c.in_ok-read.read.builder.links read.more
          (ap (λ (d : Drafted). d.links) read.builder) c.links.invariant.references
          read.references;
      waits =
          (ap (λ (d : Drafted). d.raw) read.builder, ap (λ (d : Drafted). d.pairs) read.builder);
      room =
          room_behind c.links.start (c.in_ok-read.read.end + 1) _ c.links.left c.next.new.self l
          first moved c.links.invariant.room;
      counted = let i = c.links.invariant.counted in omega (arith, i, moved);
    }

pub returns-in-Some-unlimited : goal.returns-in-Some-unlimited
returns-in-Some-unlimited c =
    fault_at_end c.links.start c.links.index c.links.unlimited c.args.links c.links.left
    c.in_default.ensures.steps.0 c.links.invariant.same
    ∙ ap (option_map not_limited) c.in-Some-unlimited.is

pub returns-in_ok-build-in-None : goal.returns-in_ok-build-in-None
returns-in_ok-build-in-None c =
    let none = c.in_default.ensures.steps.0 in
    record {
      good =
          fault_at_end c.links.start c.links.index c.links.unlimited c.args.links c.links.left none
          c.links.invariant.same
          ∙ ap (option_map not_limited) c.in-None.is;
      items = λ spelled s.
          c.in_ok-build-in-None.ensures
          ∙ sym (append-nil c.links.builder.links)
          ∙ ap (λ (ls : List Link).
          c.links.builder.links ++ items_of spelled (map submitted_link ls)) (sym none)
          ∙ c.links.invariant.items spelled s;
      references =
          ap (list_all has_references) c.in_ok-build-in-None.ensures ∙ c.links.invariant.references;
    }
