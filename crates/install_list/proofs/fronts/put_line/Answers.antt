use Rattle.std.proofs.Common.{ℕ, List, [], take, refl, subst}
use Rattle.std.specs.Io.KnownBytes.{Appends}
use Rattle.std.proofs.KnownBytes.{Appends-nil}
use Rattle.install_list.specs.Printing.{IsFrontOf}
use Rattle.install_list.proofs.TextFronts.{front_take}
use Rattle.install_list.proofs.fronts.put_line.Goals as goal

pub returns-in_default-clause-line : goal.returns-in_default-clause-line
returns-in_default-clause-line g c =
    ([], (_, refl), Appends-nil (g.K.Sink.holds c.args.out.now))

pub returns-then-not-write_all-clause-line : goal.returns-then-not-write_all-clause-line
returns-then-not-write_all-clause-line g c =
    let line = c.in-Ok.line in
    let wrote =
    subst (λ (bytes : List ℕ). (n : ℕ) × Appends (g.K.Sink.holds c.args.out.now)
    (g.K.Sink.holds c.write_all.new.out) (take n bytes)) c.as_slice.ensures.value
    c.write_all.ensures.front in (
      take wrote.0 line,
      subst (λ (l : List ℕ). IsFrontOf (take wrote.0 line) l) c.in-Ok.ensures
          (front_take wrote.0 line),
      wrote.1,
    )
