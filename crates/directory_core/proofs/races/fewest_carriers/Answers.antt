use Rattle.std.proofs.Common.{◌≡◌, length, vec_len, rules}
use Rattle.directory_core.proofs.RaceLaws.{counted_each, numbers_of}
use Rattle.directory_core.proofs.races.fewest_carriers.Goals as goal

pub returns-in_err-numbers-clause-counted : goal.returns-in_err-numbers-clause-counted
returns-in_err-numbers-clause-counted g c =
    let cursors = c.in_ok-cursors.cursors in
    let size : vec_len cursors ≡ length cursors.items = search rules in
    counted_each c.args.steps.now c.fewest.new.steps (vec_len cursors) c.args.index.now
    c.args.criteria.now cursors.items c.in_ok-cursors.ensures size c.fewest.ensures.counted

pub returns-clause-carriers : goal.returns-clause-carriers
returns-clause-carriers g c =
    numbers_of c.args.index.now c.args.criteria.now c.in_ok-cursors.cursors.items
    c.in_ok-numbers.numbers.items c.sorted.result.items c.in_ok-cursors.ensures
    c.in_ok-numbers.ensures.found c.sorted.ensures.same

pub returns-clause-counted : goal.returns-clause-counted
returns-clause-counted g c =
    let cursors = c.in_ok-cursors.cursors in
    let size : vec_len cursors ≡ length cursors.items = search rules in
    counted_each c.args.steps.now c.fewest.new.steps (vec_len cursors) c.args.index.now
    c.args.criteria.now cursors.items c.in_ok-cursors.ensures size c.fewest.ensures.counted
