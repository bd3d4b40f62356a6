use Rattle.std.specs.Map.{values_of}
use Rattle.directory_core.specs.Pages.{live_lines}
use Rattle.directory_core.proofs.PageLaws.{first_added, full_page, none_left}
use Rattle.directory_core.proofs.pages.Page.add_all.Goals as goal

pub records-preserved : goal.records-preserved
records-preserved g c =
    first_added c.args.query.now c.args.now.0 c.records.self c.add.new.self c.args.self.now
    (live_lines c.args.query.now c.args.now.0 c.args.records.now) c.in-Some.field-0-0.now
    c.in-Some.kept.now c.records.left c.step.new.self c.in-Some.ensures.next c.in_ok-add.ensures
    c.records.invariant

pub returns : goal.returns
returns g c =
    none_left c.args.query.now c.args.now.0 c.records.self c.args.self.now
    (live_lines c.args.query.now c.args.now.0 c.args.records.now) c.records.left
    c.in_default.ensures.end.0 c.records.invariant

pub returns-then-self-eq0 : goal.returns-then-self-eq0
returns-then-self-eq0 g c =
    full_page c.records.self c.args.self.now
    (live_lines c.args.query.now c.args.now.0 (values_of c.records.left))
    (live_lines c.args.query.now c.args.now.0 c.args.records.now) c.if-self-eq0.true
    c.records.invariant
