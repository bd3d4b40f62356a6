use Rattle.std.proofs.Common.{get_or, sym, ◌∙◌}
use Rattle.rd_base.proofs.lemmas.Firsts.{changed_first-at, changed_first-nowhere, find-or}
use Rattle.rd_base.proofs.lemmas.Options.{some_same}
use Rattle.event_model.specs.Repeats.{Exchange}
use Rattle.exchange_core.specs.Table.{admitted_now, is_admitted_at, answered}
use Rattle.exchange_core.proofs.table.answer_first.Goals as goal

pub returns-in-Some : goal.returns-in-Some
returns-in-Some c =
    let test = is_admitted_at c.args.peer c.args.mid c.args.admitted.0 in
    let any : Exchange = admitted_now c.args.peer c.args.mid 0 in
    let x : Exchange = get_or c.args.queue.now c.in-Some.index any in
    let there = sym c.in-Some.ensures in
    let is =
    some_same (sym (find-or test c.args.queue.now c.in-Some.index any there) ∙ find-or test
    c.args.queue.now c.in-Some.index x there) in
    c.answer.ensures any
    ∙ changed_first-at test (answered c.args.reply) c.args.queue.now c.in-Some.index x there is

pub returns-in_default : goal.returns-in_default
returns-in_default c =
    changed_first-nowhere (is_admitted_at c.args.peer c.args.mid c.args.admitted.0)
    (answered c.args.reply) c.args.queue.now (sym c.in_default.ensures)
