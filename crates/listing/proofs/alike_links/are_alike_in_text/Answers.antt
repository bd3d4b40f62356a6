-- The first lines are equally long, so that they are the same, and so is what follows them.
use Rattle.std.proofs.Common.{sym, ◌∙◌, ap, length}
use Rattle.listing.proofs.AlikeLaws.{AreAllAlike-more, first_same, others_same, tails-same}
use Rattle.listing.proofs.alike_links.are_alike_in_text.Goals as goal

pub links-init : goal.links-init
links-init c = record {
  text = tails-same c.args.old c.args.new c.requires;
  alike = λ all. all;
}

pub links-preserved : goal.links-preserved
links-preserved c =
    let split = c.in-Some.ensures.steps in
    let cut = c.in-Some-next.ensures.steps in
    let long =
    sym (ap length c.line.ensures) ∙ c.if-line.false ∙ ap length c.line-in-Some.ensures in
    let line =
    first_same c.links.left c.links.others c.next.new.self c.next-in-Some.new.self
    c.in-Some.link c.in-Some-next.other split cut long c.links.invariant.text in
    record {
      text =
          others_same c.links.left c.links.others c.next.new.self c.next-in-Some.new.self
          c.in-Some.link c.in-Some-next.other split cut long c.links.invariant.text;
      alike = λ rest.
          c.links.invariant.alike
          (AreAllAlike-more c.links.left c.links.others c.next.new.self c.next-in-Some.new.self
          c.in-Some.link c.in-Some-next.other split cut
          (c.are_alike_in_line.ensures c.if-not-are_alike_in_line.false line) rest);
    }
