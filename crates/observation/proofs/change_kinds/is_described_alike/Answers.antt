use Rattle.std.proofs.Common.{sym, ◌∙◌}
use Rattle.std.proofs.lemmas.Slice.Eq.{bytes_eq-Decides}
use Rattle.directory_core.proofs.IndexLaws.{pairs_decided}
use Rattle.observation.proofs.change_kinds.is_described_alike.Goals as goal

pub returns-then-eq : goal.returns-then-eq
returns-then-eq c same =
    let old = c.args.old.now in
    let new = c.args.new.now in (
      (bytes_eq-Decides old.base new.base).0 (sym c.eq.ensures ∙ c.if-eq.true),
      (pairs_decided old.attrs new.attrs c.eq-then-eq.result c.eq-then-eq.ensures).0 same,
    )
