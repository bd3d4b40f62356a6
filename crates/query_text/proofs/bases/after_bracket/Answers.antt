-- What `strip_prefix` leaves.
use Rattle.std.proofs.Common.{rules}
use Rattle.std.proofs.lemmas.Str.Pattern.{strip_prefix_char}
use Rattle.link_model.specs.Characters.{left_bracket}
use Rattle.ref_resolve.proofs.CutLaws.{stripped}
use Rattle.query_text.proofs.bases.after_bracket.Goals as goal

pub returns : goal.returns
returns c =
    stripped left_bracket c.args.text.now c.strip_prefix.result
    (strip_prefix_char left_bracket c.args.text.now c.strip_prefix.result
    c.strip_prefix.ensures.cases (search rules))
