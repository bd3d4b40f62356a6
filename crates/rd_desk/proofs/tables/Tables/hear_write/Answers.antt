use Rattle.std.proofs.Common.{◌≡◌, true, false, sym, ap, ◌∙◌}
use Rattle.std.specs.List.{list_any}
use Rattle.message_model.specs.Spelling.{spelling}
use Rattle.coap_message.specs.Views.{message_in}
use Rattle.event_model.specs.Repeats.{is_admitting}
use Rattle.journal_model.specs.Effects.{nothing}
use Rattle.rd_desk.specs.calls.Desks.{Seen}
use Rattle.rd_desk.proofs.parts.ForgottenLaws.{way_forgotten}
use Rattle.rd_desk.proofs.parts.WayLaws.{way_moment}
use Rattle.rd_desk.proofs.parts.WriteLaws.{job_same, without_memory-notes}
use Rattle.rd_desk.proofs.tables.Tables.hear_write.Goals as goal

pub returns-then-is_unproved-clause-way : goal.returns-then-is_unproved-clause-way
returns-then-is_unproved-clause-way c rows s of by way =
    c.challenge_write.ensures.way rows s false of by
    (sym (c.is_unproved.ensures rows s false c.args.out.now c.args.mids.now of way)
    ∙ c.if-is_unproved.true) way

pub returns-then-is_unproved-clause-held : goal.returns-then-is_unproved-clause-held
returns-then-is_unproved-clause-held c rows s of datagram way =
    c.challenge_write.ensures.unadmitted rows s false of
    (sym (c.is_unproved.ensures rows s false c.args.out.now c.args.mids.now of way)
    ∙ c.if-is_unproved.true) way

pub returns-then-not-admit_write-clause-way : goal.returns-then-not-admit_write-clause-way
returns-then-not-admit_write-clause-way c rows s of by way =
    c.admit_write.ensures.way rows s false of
    (sym (c.is_unproved.ensures rows s false c.args.out.now c.args.mids.now of way)
    ∙ c.if-is_unproved.false) way

pub returns-then-not-admit_write-clause-held : goal.returns-then-not-admit_write-clause-held
returns-then-not-admit_write-clause-held c rows s of datagram way =
    let proved = sym (c.is_unproved.ensures rows s false c.args.out.now c.args.mids.now of way)
    ∙ c.if-is_unproved.false in
    let notes =
    rw c.if-not-admit_write.true at c.admit_write.ensures.admitted rows s false of proved way in
    ap (list_any is_admitting) notes

pub returns-in_default-clause-way : goal.returns-in_default-clause-way
returns-in_default-clause-way c rows s of by way =
    let m = message_in c.args.request.now.meaning.view in
    let proved = sym (c.is_unproved.ensures rows s true c.args.out.now c.args.mids.now of way)
    ∙ c.if-is_unproved.false in
    let unsent = c.admit_write.ensures.unsent c.if-not-admit_write.false in
    let notes =
    rw c.if-not-admit_write.false at c.admit_write.ensures.admitted rows s true of proved way in
    way_forgotten rows s m c.args.peer _ c.args.self.now c.admit_write.new.self c.forget.new.self
    c.args.out.now c.admit_write.new.out c.answer_starved.new.out c.args.mids.now
    c.admit_write.new.mids c.answer_starved.new.mids
    c.self.view_is c.admit_write.ensures.alone of unsent.0 unsent.1 notes
    (c.admit_write.ensures.way rows s true of proved way) c.forget.ensures.stands
    c.answer_starved.ensures.sends way

pub returns-in_default-clause-held : goal.returns-in_default-clause-held
returns-in_default-clause-held c rows s of datagram way =
    ap (list_any is_admitting) (without_memory-notes s (message_in c.args.request.now.meaning.view))

pub returns-in_default-clause-unstarved : goal.returns-in_default-clause-unstarved
returns-in_default-clause-unstarved c rows s of way silent =
    let proved = sym (c.is_unproved.ensures rows s false c.args.out.now c.args.mids.now of way)
    ∙ c.if-is_unproved.false in
    let notes =
    rw c.if-not-admit_write.false at c.admit_write.ensures.admitted rows s false of proved way in
    absurd (let no : true ≡ false = sym (ap (list_any is_admitting) notes) ∙ silent in cc)

pub returns-clause-way : goal.returns-clause-way
returns-clause-way c rows s of by way =
    c.admit_write.ensures.way rows s false of
    (sym (c.is_unproved.ensures rows s false c.args.out.now c.args.mids.now of way)
    ∙ c.if-is_unproved.false) way

pub returns-clause-held : goal.returns-clause-held
returns-clause-held c rows s of datagram way =
    let proved = sym (c.is_unproved.ensures rows s false c.args.out.now c.args.mids.now of way)
    ∙ c.if-is_unproved.false in
    let moment =
    ap (λ (d : Seen). d.moment) (c.self.view_is ∙ c.admit_write.ensures.alone)
    ∙ way_moment rows s false nothing c.args.self.now c.args.out.now c.args.mids.now way in
    let notes =
    rw c.if-not-admit_write.false at c.admit_write.ensures.admitted rows s false of proved way in (
      c.args.request.now.meaning.view.mid,
      notes,
      job_same _ _ (sym of)
          (ap spelling c.in-Ok.ensures ∙ sym datagram) moment,
    )
