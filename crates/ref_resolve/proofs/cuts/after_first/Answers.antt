-- What `strip_prefix` leaves.
use Rattle.std.proofs.lemmas.Str.Pattern.{strip_prefix_char}
use Rattle.ref_resolve.proofs.CutLaws.{stripped}
use Rattle.ref_resolve.proofs.cuts.after_first.Goals as goal

pub returns : goal.returns
returns c =
    stripped c.args.mark c.args.text.now c.strip_prefix.result
    (strip_prefix_char c.args.mark c.args.text.now c.strip_prefix.result
    c.strip_prefix.ensures.cases c.requires)
