use Rattle.std.proofs.Common.{sym, ap, ◌∙◌}
use Rattle.directory_core.specs.NameSlots.{if_live_named, first_live_named}
use Rattle.directory_core.proofs.SlotLaws.{first_here, first_later, first_none}
use Rattle.directory_core.proofs.reads.first_of_name.Goals as goal

pub numbers-preserved : goal.numbers-preserved
numbers-preserved g c =
    let records = c.args.records.now in
    let name = c.args.name.now in
    let now = c.args.now.0 in
    sym (first_later records name now c.in-Some.number c.step.new.self
    (c.in_default-live_of_name.ensures ∙ ap (if_live_named name now) c.get.ensures))
    ∙ ap (first_live_named records name now) (sym c.in-Some.ensures.next) ∙ c.numbers.invariant

pub returns-in-Some-live_of_name : goal.returns-in-Some-live_of_name
returns-in-Some-live_of_name g c =
    let records = c.args.records.now in
    let name = c.args.name.now in
    let now = c.args.now.0 in
    sym (first_here records name now c.in-Some.number c.step.new.self
    c.in-Some-live_of_name.kept.now
    (c.in-Some-live_of_name.ensures ∙ ap (if_live_named name now) c.get.ensures))
    ∙ ap (first_live_named records name now) (sym c.in-Some.ensures.next) ∙ c.numbers.invariant

pub returns : goal.returns
returns g c =
    let records = c.args.records.now in
    let name = c.args.name.now in
    let now = c.args.now.0 in
    sym (first_none records name now)
    ∙ ap (first_live_named records name now) (sym c.in_default.ensures.end)
    ∙ c.numbers.invariant
