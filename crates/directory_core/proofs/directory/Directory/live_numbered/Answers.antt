use Rattle.std.proofs.Common.{◌≡◌, true, false, None, Some, sym, ap, ◌∙◌, subst, rules}
use Rattle.std.specs.Option.{option_copied}
use Rattle.rd_base.proofs.lemmas.Pairs.{PairsByRecursion}
use Rattle.history_model.specs.Leases.{is_live_at}
use Rattle.history_model.specs.Replay.{numbered}
use Rattle.history_model.specs.Versions.{Version}
use Rattle.history_model.proofs.NumberLaws.{IsBelow}
use Rattle.directory_core.specs.Shown.{IsStored, IsKept}
use Rattle.directory_core.proofs.ChangeLaws.{numbered-filter, its_number, known_of}
use Rattle.directory_core.proofs.ReadLaws.{filter_unnumbered, filter_failed, none_so}
use Rattle.directory_core.proofs.directory.Directory.live_numbered.Goals as goal

pub returns-in_err-kept-clause-value : goal.returns-in_err-kept-clause-value
returns-in_err-kept-clause-value c =
    let same : c.self.inside.records ≡ c.args.self.now.records =
    ap (λ (v : Version). v.records) c.self.view_is in
    let none : numbered c.args.number c.args.self.now.records ≡ None =
    ap (numbered c.args.number) (sym same)
    ∙ sym c.get.ensures
    ∙ ap option_copied c.in_err-kept.was in
    ap option_copied c.from_residual.ensures
    ∙ sym (filter_unnumbered (is_live_at c.args.now.0) c.args.number c.args.self.now.records none)

pub returns-in_err-kept-clause-stored : goal.returns-in_err-kept-clause-stored
returns-in_err-kept-clause-stored c =
    none_so c.from_residual.result
    (λ kept. numbered kept.now.number c.args.self.now.records ≡ Some kept.now)
    c.from_residual.ensures

pub returns-in_err-kept-clause-live : goal.returns-in_err-kept-clause-live
returns-in_err-kept-clause-live c =
    none_so c.from_residual.result (λ kept. is_live_at c.args.now.0 kept.now ≡ true)
    c.from_residual.ensures

pub returns-in_err-kept-clause-sound : goal.returns-in_err-kept-clause-sound
returns-in_err-kept-clause-sound c =
    none_so c.from_residual.result (λ kept. IsStored c.args.self.now kept.now)
    c.from_residual.ensures

pub returns-then-not-is_live_at-clause-value : goal.returns-then-not-is_live_at-clause-value
returns-then-not-is_live_at-clause-value c =
    let same : c.self.inside.records ≡ c.args.self.now.records =
    ap (λ (v : Version). v.records) c.self.view_is in
    let up = subst (PairsByRecursion IsBelow) same c.self.invariant.0.rising in
    let found : numbered c.args.number c.args.self.now.records ≡ Some c.in_ok-kept.kept.now =
    ap (numbered c.args.number) (sym same) ∙ sym c.in_ok-kept.ensures in
    let fails : is_live_at c.args.now.0 c.in_ok-kept.kept.now ≡ false = search rules in
    sym (filter_failed (is_live_at c.args.now.0) c.args.number c.in_ok-kept.kept.now
    c.args.self.now.records up found fails)

pub returns-clause-value : goal.returns-clause-value
returns-clause-value c =
    let same : c.self.inside.records ≡ c.args.self.now.records =
    ap (λ (v : Version). v.records) c.self.view_is in
    let found : numbered c.args.number c.args.self.now.records ≡ Some c.in_ok-kept.kept.now =
    ap (numbered c.args.number) (sym same) ∙ sym c.in_ok-kept.ensures in
    let passes : is_live_at c.args.now.0 c.in_ok-kept.kept.now ≡ true = search rules in
    sym (numbered-filter (is_live_at c.args.now.0) c.args.number c.in_ok-kept.kept.now
    c.args.self.now.records found passes)

pub returns-clause-stored : goal.returns-clause-stored
returns-clause-stored c =
    let same : c.self.inside.records ≡ c.args.self.now.records =
    ap (λ (v : Version). v.records) c.self.view_is in
    let found : numbered c.args.number c.args.self.now.records ≡ Some c.in_ok-kept.kept.now =
    ap (numbered c.args.number) (sym same) ∙ sym c.in_ok-kept.ensures in
    ap (λ n. numbered n c.args.self.now.records)
    (its_number c.args.number c.in_ok-kept.kept.now c.args.self.now.records found)
    ∙ found

pub returns-clause-sound : goal.returns-clause-sound
returns-clause-sound c =
    let v = c.args.self.now in
    let i = c.self.inside in
    let kept : IsKept v i.names i.leases i.live i.text =
    subst (λ w. IsKept w i.names i.leases i.live i.text) c.self.view_is c.self.invariant.0 in
    let same : c.self.inside.records ≡ c.args.self.now.records =
    ap (λ (v : Version). v.records) c.self.view_is in
    let found : numbered c.args.number c.args.self.now.records ≡ Some c.in_ok-kept.kept.now =
    ap (numbered c.args.number) (sym same) ∙ sym c.in_ok-kept.ensures in
    known_of (IsStored v) c.args.number c.in_ok-kept.kept.now v.records kept.stored found

pub returns-in_err-kept-clause-there : goal.returns-in_err-kept-clause-there
returns-in_err-kept-clause-there c =
    none_so c.from_residual.result
    (λ kept. numbered c.args.number c.args.self.now.records ≡ Some kept.now)
    c.from_residual.ensures

pub returns-clause-there : goal.returns-clause-there
returns-clause-there c =
    let same : c.self.inside.records ≡ c.args.self.now.records =
    ap (λ (v : Version). v.records) c.self.view_is in
    ap (numbered c.args.number) (sym same) ∙ sym c.in_ok-kept.ensures
