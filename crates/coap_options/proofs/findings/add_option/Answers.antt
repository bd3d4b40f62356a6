use Rattle.std.proofs.Common.{refl, sym, ◌∙◌, length}
use Rattle.coap_message.specs.OptionsLeft.{option_in}
use Rattle.coap_options.proofs.FindingLemmas.{found_more, found_passed, bad_found, recognized_there}
use Rattle.coap_options.proofs.findings.add_option.Goals as goal

pub returns-then-is_recognized-clause-found : goal.returns-then-is_recognized-clause-found
returns-then-is_recognized-clause-found c before so same =
    let there =
    recognized_there before c.args.option.now.number (length c.args.option.now.value.now)
    c.is_last-is_further.result c.is_recognized.result c.args.found.now.last same
    c.is_last-is_further.ensures c.is_recognized.ensures in
    found_more before (option_in c.args.option.now) c.args.found.now c.add_recognized.new.found so
    (there ∙ c.if-is_recognized.true) c.add_recognized.ensures

pub returns-then-is_critical-clause-bad : goal.returns-then-is_critical-clause-bad
returns-then-is_critical-clause-bad c before so same =
    let there =
    recognized_there before c.args.option.now.number (length c.args.option.now.value.now)
    c.is_last-is_further.result c.is_recognized.result c.args.found.now.last same
    c.is_last-is_further.ensures c.is_recognized.ensures in
    bad_found before (option_in c.args.option.now) so.good (there ∙ c.if-is_recognized.false)
    (sym c.is_critical.ensures ∙ c.if-is_critical.true)

pub returns-clause-found : goal.returns-clause-found
returns-clause-found c before so same =
    let there =
    recognized_there before c.args.option.now.number (length c.args.option.now.value.now)
    c.is_last-is_further.result c.is_recognized.result c.args.found.now.last same
    c.is_last-is_further.ensures c.is_recognized.ensures in
    found_passed before (option_in c.args.option.now) c.args.found.now _ so
    (there ∙ c.if-is_recognized.false) (sym c.is_critical.ensures ∙ c.if-is_critical.false) refl
