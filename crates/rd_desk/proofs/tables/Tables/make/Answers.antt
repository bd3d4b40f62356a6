use Rattle.std.proofs.Common.{[], refl, sym, ap, subst, ◌∙◌, arith}
use Rattle.history_model.specs.Versions.{Version, VersionStandsFor}
use Rattle.rd_desk.proofs.parts.DeskLaws.{last_moment-none, StandsFor-none}
use Rattle.rd_desk.proofs.tables.Tables.make.Goals as goal

pub invariant_of-result : goal.invariant_of-result
invariant_of-result c =
    let same = c.in_ok-version.ensures.ok in
    let at =
    ap (λ (v : Version). v.at) same ∙ (c.in_ok-empty.ensures.stands.at ∙ last_moment-none) in
    let swept = ap (λ (v : Version). v.swept) same ∙ c.in_ok-empty.ensures.unswept in
    let moment = c.in_ok-exchanges.ensures.moment in
    (omega arith, omega (arith, moment), omega (arith, at), omega (arith, swept))

pub returns : goal.returns
returns c =
    let same = c.in_ok-version.ensures.ok in
    StandsFor-none _ refl (subst (VersionStandsFor 0 []) (sym same) c.in_ok-empty.ensures.stands)
    (ap (λ (v : Version). v.swept) same ∙ c.in_ok-empty.ensures.unswept)
    c.in_ok-exchanges.ensures.stands
    c.in_ok-transfers.ensures c.in_ok-watching.ensures c.in_ok-fetches.ensures
    c.in_ok-echoes.ensures refl
