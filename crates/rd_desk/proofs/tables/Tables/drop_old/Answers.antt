use Rattle.std.proofs.Common.{refl, sym, ap, subst, ◌∙◌}
use Rattle.std.specs.Arc.{arc_value}
use Rattle.history_model.specs.Versions.{Version, VersionStandsFor}
use Rattle.rd_desk.proofs.parts.WayLaws.{stood}
use Rattle.rd_desk.proofs.ticking.EndLaws.{aged-StandsFor, swept-StandsFor}
use Rattle.journal_model.specs.UnfinishedRow.{making}
use Rattle.rd_desk.proofs.tables.Tables.drop_old.Goals as goal

pub returns-in_default : goal.returns-in_default
returns-in_default c rows s starved done out mids way =
    stood rows s starved done c.args.self.now _ out mids (λ h.
    aged-StandsFor (making rows s starved done) _ c.args.self.now c.age.new.self
    c.self.view_is c.age.ensures.stands h) way

pub returns : goal.returns
returns c rows s starved done out mids way =
    stood rows s starved done c.args.self.now _ out mids
    (λ h. swept-StandsFor (making rows s starved done) _ _ (arc_value c.in-Ok.version) refl
    (λ history v. c.in-Ok.ensures.stands history
    (subst (λ (x : Version). VersionStandsFor 0 history x) (sym c.deref.ensures) v))
    (c.in-Ok.ensures.at ∙ ap (λ (x : Version). x.at) c.deref.ensures) c.in-Ok.ensures.swept
    (aged-StandsFor (making rows s starved done) _ c.args.self.now c.age.new.self
    c.self.view_is c.age.ensures.stands h)) way
