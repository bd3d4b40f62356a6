use Rattle.std.proofs.Common.{refl}
use Rattle.coap_message.specs.Views.{message_in}
use Rattle.journal_model.specs.Effects.{nothing}
use Rattle.journal_model.specs.Journal.{events}
use Rattle.journal_model.specs.Rows.{row_moment}
use Rattle.rd_desk.proofs.parts.WayLaws.{step_of}
use Rattle.rd_desk.proofs.parts.WriteLaws.{
  unproved_admits_none,
  write_challenged,
  write_unadmitted,
}
use Rattle.rd_desk.proofs.tables.Tables.challenge_write.Goals as goal

pub returns-in-Fresh-clause-way : goal.returns-in-Fresh-clause-way
returns-in-Fresh-clause-way c rows s starved of by unproved way =
    write_challenged rows s starved (message_in c.args.view.now) c.args.word c.args.peer _
    c.args.self.now c.find_key-keyed.new.self c.find_key-keyed.result c.challenge-value.new.self
    c.challenge-value.result c.args.out.now c.answer_challenge.new.out c.args.mids.now
    c.answer_challenge.new.mids
    c.self.view_is c.find_key-keyed.ensures c.in-Fresh.is c.challenge-value.ensures.value
    c.challenge-value.ensures.challenged c.answer_challenge.ensures.sends of by unproved way

pub returns-in-Fresh-clause-unadmitted : goal.returns-in-Fresh-clause-unadmitted
returns-in-Fresh-clause-unadmitted c rows s starved of unproved way =
    unproved_admits_none (events rows) (row_moment rows s) s (message_in c.args.view.now) unproved

pub returns-clause-way : goal.returns-clause-way
returns-clause-way c rows s starved of by unproved way =
    write_unadmitted rows s starved (message_in c.args.view.now) c.args.peer _ c.args.self.now
    c.find_key-keyed.new.self c.find_key-keyed.result c.args.out.now c.answer_unadmitted.new.out
    c.args.mids.now c.answer_unadmitted.new.mids
    c.self.view_is c.find_key-keyed.ensures c.in_default.not-Fresh of
    (c.answer_unadmitted.ensures.sends s
    (step_of rows s starved nothing c.args.self.now c.args.out.now c.args.mids.now c.args.peer of
    refl way)) way

pub returns-clause-unadmitted : goal.returns-clause-unadmitted
returns-clause-unadmitted c rows s starved of unproved way =
    unproved_admits_none (events rows) (row_moment rows s) s (message_in c.args.view.now) unproved
