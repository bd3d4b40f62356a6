use Rattle.std.proofs.Common.{rules, ◌≡◌, true, false, ap, ◌∙◌, subst}
use Rattle.attribute_index.specs.declared.rows.Row.{Row}
use Rattle.attribute_index.specs.Rows.{WantedFirst, is_wanted, wanted_numbers}
use Rattle.attribute_index.proofs.WantedLaws.{wanted_rest, wanted_end, wanted_next}
use Rattle.attribute_index.proofs.carriers.next_wanted.Goals as goal

pub returns-then-not-is_wanted-clause-end : goal.returns-then-not-is_wanted-clause-end
returns-then-not-is_wanted-clause-end c =
    let name = c.args.name.now in
    let pattern = c.args.pattern.now in
    let row : Row × Unit {0} = (c.in_ok-row.row.now, tt) in
    let rows = c.next_row.new.rows in
    let not_wanted : is_wanted name pattern c.in_ok-row.row.now.value ≡ false = search rules in
    let all = c.in_ok-row.ensures.next in
    let end = wanted_end name pattern row rows
    (subst (λ some. WantedFirst name pattern some) all c.requires.first) not_wanted in
    (ap (λ some. wanted_numbers name pattern some) all ∙ end.0, end.1)

pub returns-then-not-is_wanted-clause-first : goal.returns-then-not-is_wanted-clause-first
returns-then-not-is_wanted-clause-first c =
    let name = c.args.name.now in
    let pattern = c.args.pattern.now in
    wanted_rest name pattern (c.in_ok-row.row.now, tt) c.next_row.new.rows
    (subst (λ some. WantedFirst name pattern some) c.in_ok-row.ensures.next c.requires.first)

pub returns-clause-next : goal.returns-clause-next
returns-clause-next c =
    let name = c.args.name.now in
    let pattern = c.args.pattern.now in
    let wanted : is_wanted name pattern c.in_ok-row.row.now.value ≡ true = search rules in
    ap (λ some. wanted_numbers name pattern some) c.in_ok-row.ensures.next
    ∙ wanted_next name pattern (c.in_ok-row.row.now, tt) c.next_row.new.rows wanted

pub returns-clause-first : goal.returns-clause-first
returns-clause-first c =
    let name = c.args.name.now in
    let pattern = c.args.pattern.now in
    wanted_rest name pattern (c.in_ok-row.row.now, tt) c.next_row.new.rows
    (subst (λ some. WantedFirst name pattern some) c.in_ok-row.ensures.next c.requires.first)
