-- Two slashes, one by one.
use Rattle.std.proofs.Common.{Some, None, sym, arith}
use Rattle.std.proofs.lemmas.Str.Pattern.{strip_prefix_char}
use Rattle.link_model.specs.Characters.{slash}
use Rattle.ref_resolve.proofs.CutLaws.{not_two_slashes, after_one_slash}
use Rattle.ref_resolve.proofs.cuts.after_two_slashes.Goals as goal

pub returns-in-Some : goal.returns-in-Some
returns-in-Some c =
    let first =
    strip_prefix_char slash c.args.text.now (Some c.in-Some.rest) c.in-Some.ensures.cases
    (omega arith) in
    let second =
    strip_prefix_char slash c.in-Some.rest.now c.strip_prefix-in-Some.result
    c.strip_prefix-in-Some.ensures.cases (omega arith) in
    after_one_slash c.args.text.now c.in-Some.rest.now c.strip_prefix-in-Some.result first second

pub returns-in-None : goal.returns-in-None
returns-in-None c =
    let none = strip_prefix_char slash c.args.text.now None c.in-None.ensures.cases (omega arith) in
    sym (not_two_slashes c.args.text.now none)
