use Rattle.std.proofs.Common.{false, refl, sym, ap, subst, ◌∙◌}
use Rattle.coap_message.specs.Views.{message_in}
use Rattle.history_model.specs.Versions.{VersionStandsFor}
use Rattle.rd_desk.specs.calls.Desks.{Seen}
use Rattle.rd_desk.specs.parts.Outcomes.{IsPlanned, IsTimely}
use Rattle.rd_desk.specs.parts.Laying.{IsNextOf, IsLeftBy}
use Rattle.rd_desk.proofs.changes.StagingLaws.{
  next_told,
  swept_planned,
  of_laid,
  laid_planned,
  laid_kept,
}
use Rattle.rd_desk.proofs.responses.ResponseLaws.{way_completed}
use Rattle.rd_desk.proofs.tables.Tables.complete_fetch.Goals as goal

pub staged-requires-clause-next : goal.staged-requires-clause-next
staged-requires-clause-next g c =
    next_told _ c.args.self.now.version c.registered-planned.result c.requires.told
    (λ history stands. c.registered-planned.ensures.next history
    (subst (VersionStandsFor 0 history)
    (sym (c.deref.ensures ∙ ap (λ (d : Seen). d.version) c.self.view_is)) stands))

pub staged-requires-clause-swept : goal.staged-requires-clause-swept
staged-requires-clause-swept g c =
    swept_planned c.registered-planned.result _ c.registered-planned.ensures.moments

pub register_fetched-requires : goal.register_fetched-requires
register_fetched-requires g c =
    subst (λ (d : Seen). IsTimely d.moment c.in-Ok.planned) c.self.view_is
    (of_laid (IsTimely _) c.registered-planned.result c.in-Ok.planned c.in-Ok.ensures.same
    c.registered-planned.ensures.moments)

pub returns-clause-way : goal.returns-clause-way
returns-clause-way g c =
    λ rows s request mids of same way.
    way_completed rows s false (message_in c.args.view.now) request c.args.params c.args.body.now
    c.args.peer c.deref.result.now c.in-Ok.planned _ c.args.self.now c.register_fetched.new.self
    _ c.end.new.self
    c.args.out.now c.acknowledge_response.new.out mids c.self.view_is of same c.deref.ensures
    (λ history step further stands from. of_laid (λ o. IsPlanned history _ further _ o)
    c.registered-planned.result c.in-Ok.planned c.in-Ok.ensures.same
    (c.registered-planned.ensures.planned history step further stands from))
    (λ done meant none timed planned h. c.register_fetched.ensures.way rows s false done meant
    c.acknowledge_response.new.out mids none timed planned h)
    c.self-2.view_is c.end.ensures (c.acknowledge_response.ensures.sends s mids of) way

pub returns-clause-laid : goal.returns-clause-laid
returns-clause-laid g c =
    laid_planned c.args.self.now.version _ c.in-Ok.planned.entering _ _ _ c.in-Ok.ensures.laid
    (subst (λ (d : Seen). IsLeftBy c.args.self.now.version d.version c.in-Ok.planned.entering)
    (sym c.self-2.view_is) c.register_fetched.ensures.version)
    (λ history stands. of_laid (IsNextOf history) c.registered-planned.result c.in-Ok.planned
    c.in-Ok.ensures.same
    (c.registered-planned.ensures.next history
    (subst (VersionStandsFor 0 history)
    (sym (c.deref.ensures ∙ ap (λ (d : Seen). d.version) c.self.view_is)) stands)))
    c.in-Ok.ensures.none_laid

pub returns-in_default-clause-laid : goal.returns-in_default-clause-laid
returns-in_default-clause-laid g c =
    laid_kept c.args.self.now.version _ _ _ _ refl c.in_default.ensures.kept
    c.in_default.ensures.none_kept
