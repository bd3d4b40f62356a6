use Rattle.std.proofs.Common.{refl}
use Rattle.coap_message.specs.Views.{message_in}
use Rattle.journal_model.specs.Effects.{nothing}
use Rattle.exchange_core.proofs.KeyedLaws.{keyed-IsFoundAt}
use Rattle.rd_desk.proofs.parts.WayLaws.{step_of}
use Rattle.rd_desk.proofs.parts.WriteLaws.{
  write_admitted,
  write_admitted-notes,
  write_unadmitted,
  write_unadmitted-notes,
}
use Rattle.rd_desk.proofs.tables.Tables.admit_write.Goals as goal

pub returns-in-Fresh-clause-way : goal.returns-in-Fresh-clause-way
returns-in-Fresh-clause-way c rows s starved of proved way =
    write_admitted rows s starved (message_in c.args.view.now) c.args.peer _ c.args.self.now
    c.admit_key-keyed.new.self c.admit_key-keyed.result c.args.out.now c.args.mids.now
    c.self.view_is c.admit_key-keyed.ensures c.in-Fresh.is of proved way

pub returns-in-Fresh-clause-admitted : goal.returns-in-Fresh-clause-admitted
returns-in-Fresh-clause-admitted c rows s starved of proved way =
    write_admitted-notes rows s starved (message_in c.args.view.now) c.args.peer _ c.args.self.now
    c.admit_key-keyed.new.self c.admit_key-keyed.result c.args.out.now c.args.mids.now
    c.self.view_is c.admit_key-keyed.ensures c.in-Fresh.is of proved way

pub returns-clause-way : goal.returns-clause-way
returns-clause-way c rows s starved of proved way =
    write_unadmitted rows s starved (message_in c.args.view.now) c.args.peer _ c.args.self.now
    c.admit_key-keyed.new.self c.admit_key-keyed.result c.args.out.now c.answer_unadmitted.new.out
    c.args.mids.now c.answer_unadmitted.new.mids
    c.self.view_is
    (keyed-IsFoundAt _ c.args.peer c.args.view.now.mid _ c.admit_key-keyed.new.self
    c.admit_key-keyed.result c.admit_key-keyed.ensures c.in_default.not-Fresh)
    c.in_default.not-Fresh of
    (c.answer_unadmitted.ensures.sends s
    (step_of rows s starved nothing c.args.self.now c.args.out.now c.args.mids.now c.args.peer of
    refl way)) way

pub returns-clause-admitted : goal.returns-clause-admitted
returns-clause-admitted c rows s starved of proved way =
    write_unadmitted-notes rows s starved (message_in c.args.view.now) c.args.peer _
    c.args.self.now c.admit_key-keyed.new.self c.admit_key-keyed.result c.args.out.now
    c.args.mids.now c.self.view_is
    (keyed-IsFoundAt _ c.args.peer c.args.view.now.mid _ c.admit_key-keyed.new.self
    c.admit_key-keyed.result c.admit_key-keyed.ensures c.in_default.not-Fresh)
    c.in_default.not-Fresh of way
