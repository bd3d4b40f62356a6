use Rattle.std.proofs.Common.{◌≡◌, ◌+◌, List, slice_get, drop, refl, sym, ap, subst, ◌∙◌}
use Rattle.std.specs.Arc.{arc_value}
use Rattle.journal_model.specs.UnfinishedRow.{making}
use Rattle.exchange_core.specs.declared.resends.Again.TheVariants as again
use Rattle.exchange_core.specs.Retransmissions.{kept_due, kept_after}
use Rattle.observers.specs.Standing.{Standing, due_of, kept_of, timed}
use Rattle.observation.specs.Watching.{Watching, WatchingStandsFor}
use Rattle.rd_desk.specs.calls.Desks.{Seen}
use Rattle.rd_desk.proofs.ticking.AgainWalk.{
  drop-changed,
  got-changed,
  way_waits,
  way_sends,
  way_gives_up,
}
use Rattle.rd_desk.proofs.tables.Tables.notification_again.Goals as goal

pub returns-in-Wait-clause-way : goal.returns-in-Wait-clause-way
returns-in-Wait-clause-way c rows s starved done mids x there room short way =
    let before =
    ap (λ (d : Seen). slice_get d.watching.observers c.args.index) c.self.view_is ∙ there in
    let moment = ap (λ (d : Seen). d.moment) c.self.view_is in
    way_waits rows s starved done c.args.self.now _ c.args.out.now mids c.args.self.now.moment x
    (sym c.in-Wait.is ∙ (c.timeout.ensures.answer x before ∙ ap (λ m. due_of m x.flight) moment))
    (ap (λ (w : Watching).
    record {
      moment = c.self.inside.moment.0;
      version = arc_value c.self.inside.version;
      exchanges = c.self.inside.exchanges;
      transfers = c.self.inside.transfers;
      watching = w;
      fetches = c.self.inside.fetches;
      challenges = c.self.inside.echoes;
      observed = c.self.inside.observed;
    })
    (c.timeout.ensures.unsent
    (λ e. absurd (let no : again.Wait ≡ again.Send = sym c.in-Wait.is ∙ e in cc)))
    ∙ c.self.view_is) way

pub returns-in-Send-clause-way : goal.returns-in-Send-clause-way
returns-in-Send-clause-way c rows s starved done mids x there room short way =
    let before =
    ap (λ (d : Seen). slice_get d.watching.observers c.args.index) c.self.view_is ∙ there in
    let moment = ap (λ (d : Seen). d.moment) c.self.view_is in
    let now =
    ap (λ (ws : List Standing). slice_get ws c.args.index) c.timeout.ensures.kept
    ∙ got-changed (timed c.self.inside.moment.0) c.args.index c.self.inside.watching.observers x
    before in
    way_sends rows s starved done _ c.args.self.now c.timeout.new.self c.args.out.now
    c.send_notification.new.out mids c.args.self.now.moment x c.self.view_is refl
    (sym c.in-Send.is ∙ (c.timeout.ensures.answer x before ∙ ap (λ m. due_of m x.flight) moment))
    (λ sent flies at. c.timeout.ensures.stands rows s starved done x sent c.in-Send.is before flies
    (moment ∙ at))
    (λ sent flies.
    c.send_notification.ensures (timed c.self.inside.moment.0 x)
    (record sent {
      resend = kept_after (kept_due c.self.inside.moment.0 sent.resend)
          c.self.inside.moment.0 sent.resend;
    }) now
    (ap (kept_of c.self.inside.moment.0) flies) room (short sent flies)) way

pub returns-in-Send-clause-rest : goal.returns-in-Send-clause-rest
returns-in-Send-clause-rest c =
    ap (λ (ws : List Standing). drop (c.args.index + 1) ws) c.timeout.ensures.kept
    ∙ (drop-changed (timed c.self.inside.moment.0) c.args.index c.self.inside.watching.observers
    ∙ ap (λ (d : Seen). drop (c.args.index + 1) d.watching.observers) c.self.view_is)

pub returns-in-GaveUp-clause-way : goal.returns-in-GaveUp-clause-way
returns-in-GaveUp-clause-way c rows s starved done mids x there room short way =
    let before =
    ap (λ (d : Seen). slice_get d.watching.observers c.args.index) c.self.view_is ∙ there in
    let moment = ap (λ (d : Seen). d.moment) c.self.view_is in
    let still =
    c.timeout.ensures.unsent
    (λ e. absurd (let no : again.GaveUp ≡ again.Send = sym c.in-GaveUp.is ∙ e in cc)) in
    way_gives_up rows s starved done _ c.args.self.now c.timed_out.new.self c.args.out.now mids
    c.args.self.now.moment x c.self.view_is
    (sym c.in-GaveUp.is ∙ (c.timeout.ensures.answer x before ∙ ap (λ m. due_of m x.flight) moment))
    (λ h.
    c.timed_out.ensures.stands rows s starved done x
    (ap (λ (w : Watching). slice_get w.observers c.args.index) still ∙ before)
    (subst (WatchingStandsFor (making rows s starved done)) (sym still) h)) way
