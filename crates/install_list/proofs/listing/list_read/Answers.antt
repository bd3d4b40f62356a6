use Rattle.std.proofs.Common.{◌≡◌, ◌++◌, ℕ, sym, ap, ◌∙◌}
use Rattle.line_model.specs.Texts.{lines_of}
use Rattle.install_list.specs.Lists.{entries_from, items_of, listed}
use Rattle.install_list.proofs.ListLaws.{
  in_front,
  judged_next,
  judged_all,
  sent_more,
  was_pushed,
  none_left,
}
use Rattle.install_list.proofs.listing.list_read.Goals as goal

pub lines-preserved : goal.lines-preserved
lines-preserved c =
    let after = c.push_entry.new.entries in
    let added =
    was_pushed (after ≡ c.lines.entries ++ items_of c.in-Ok.entry) c.push_entry.result
    c.push_entry.ensures.ok
    (sym c.if-is_err.ensures.value) in
    let next = c.in-Some.ensures.1 in
    record {
      judged =
          judged_next c.args.order c.lines.entries after c.lines.number
          c.first_line.result.0.now
          (lines_of c.lines.left.now) (lines_of c.first_line.result.1.now) c.in-Ok.entry
          (listed c.args.order c.args.text.now)
          c.first_line.ensures.lines
          c.in-Ok.ensures.exact
          added
          c.lines.invariant.judged
          ∙ ap (λ (n : ℕ). in_front after
          (entries_from c.args.order n (lines_of c.first_line.result.1.now))) (sym next);
      sent = sent_more c.lines.entries after c.in-Ok.entry added c.lines.invariant.sent
          c.in-Ok.ensures.sent;
    }

pub returns-clause-exact : goal.returns-clause-exact
returns-clause-exact c =
    judged_all c.args.order c.lines.entries c.lines.number c.lines.left.now
    (listed c.args.order c.args.text.now)
    (none_left c.lines.left.now c.lines-test.ensures)
    c.lines.invariant.judged
