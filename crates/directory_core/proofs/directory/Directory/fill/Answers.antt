use Rattle.std.proofs.Common.{◌≡◌, [], OnOk, ap, sym, subst}
use Rattle.history_model.specs.Versions.{Version}
use Rattle.directory_core.specs.Bounds.{AreEntriesOf}
use Rattle.directory_core.specs.Pages.{finished}
use Rattle.directory_core.proofs.LookupLaws.{carriers_give, few_by_records}
use Rattle.directory_core.proofs.directory.Directory.fill.Goals as goal

pub returns-in_err-numbers-clause-counted : goal.returns-in_err-numbers-clause-counted
returns-in_err-numbers-clause-counted g c entries criterion others among =
    let same : c.self.inside.records ≡ c.args.self.now.records =
    ap (λ (v : Version). v.records) c.self.view_is in
    let indexed : AreEntriesOf c.self.inside.records c.as_index-index.result.now =
    subst (AreEntriesOf c.self.inside.records) (sym c.as_index-index.ensures) c.self.invariant.1 in
    few_by_records c.self.inside.records c.args.self.now.records c.as_index-index.result.now entries
    c.as_slice.result.now c.args.query.now.criteria c.args.steps.now c.fewest_carriers.new.steps
    same indexed c.as_slice.ensures c.fewest_carriers.ensures.counted criterion
    others among

pub returns-in-Some-clause-lines : goal.returns-in-Some-clause-lines
returns-in-Some-clause-lines g c =
    let same : c.self.inside.records ≡ c.args.self.now.records =
    ap (λ (v : Version). v.records) c.self.view_is in
    let indexed : AreEntriesOf c.self.inside.records c.as_index-index.result.now =
    subst (AreEntriesOf c.self.inside.records) (sym c.as_index-index.ensures) c.self.invariant.1 in
    let rising = rw c.in-Some.is at c.in_ok-numbers.ensures.rising in
    let carriers = rw c.in-Some.is at c.in_ok-numbers.ensures.carriers in
    let give =
    carriers_give c.args.query.now c.args.now.0 c.self.inside.records c.args.self.now.records
    c.as_index-index.result.now c.as_slice.result.now c.in-Some.numbers.items
    c.as_slice-in-Some.result.now same c.self.invariant.0.rising indexed
    c.as_slice.ensures c.as_slice-in-Some.ensures.value rising carriers in
    subst (λ lines.
    OnOk c.add_numbered.result
    (finished c.add_numbered.new.self [] ≡ finished c.args.page.now lines)) give
    c.add_numbered.ensures

pub returns-in-Some-clause-counted : goal.returns-in-Some-clause-counted
returns-in-Some-clause-counted g c entries criterion others among =
    let same : c.self.inside.records ≡ c.args.self.now.records =
    ap (λ (v : Version). v.records) c.self.view_is in
    let indexed : AreEntriesOf c.self.inside.records c.as_index-index.result.now =
    subst (AreEntriesOf c.self.inside.records) (sym c.as_index-index.ensures) c.self.invariant.1 in
    few_by_records c.self.inside.records c.args.self.now.records c.as_index-index.result.now entries
    c.as_slice.result.now c.args.query.now.criteria c.args.steps.now c.fewest_carriers.new.steps
    same indexed c.as_slice.ensures c.fewest_carriers.ensures.counted criterion
    others among
