use Rattle.std.proofs.Common.{[], refl}
use Rattle.message_model.specs.Codes as codes_of
use Rattle.history_model.specs.declared.entries.Change.TheVariants as change_of
use Rattle.directory_core.specs.Changes.{IsUpdateOf}
use Rattle.journal_model.specs.Changes.{entry_of_step}
use Rattle.journal_model.specs.Effects.{bare}
use Rattle.rd_desk.proofs.changes.StagingLaws.{from_peer, next_planned}
use Rattle.rd_desk.proofs.write.outcomes.updated.Goals as goal

pub returns-in-Ok-clause-planned : goal.returns-in-Ok-clause-planned
returns-in-Ok-clause-planned c history s stands from =
    let entry = entry_of_step c.args.now.0 s (change_of.Update c.args.number c.args.change) in
    let is : IsUpdateOf c.args.now c.args.number c.args.change c.args.peer entry = record {
      moment = refl;
      source = from;
      change = refl;
    } in
    c.entered.ensures.planned history c.args.version.now.swept entry
    (record { reply = bare codes_of.changed; notes = [] })
    (record {
      stands = c.in-Ok.ensures.stands 0 history entry stands is;
      swept = c.in-Ok.ensures.swept;
      accepted = c.in-Ok.ensures.accepted 0 history entry stands is;
      about = refl;
      is_of =
          refl;
    })
    c.plain-reply.ensures

pub returns-in-Err-clause-planned : goal.returns-in-Err-clause-planned
returns-in-Err-clause-planned c history s stands from =
    let entry = entry_of_step c.args.now.0 s (change_of.Update c.args.number c.args.change) in
    let is : IsUpdateOf c.args.now c.args.number c.args.change c.args.peer entry = record {
      moment = refl;
      source = from;
      change = refl;
    } in
    c.refused.ensures.planned history c.args.version.now.swept entry
    (record { reply = bare codes_of.changed; notes = [] })
    (c.in-Err.ensures.refused 0 history entry stands is)

pub returns-in-Ok-clause-next : goal.returns-in-Ok-clause-next
returns-in-Ok-clause-next c history stands =
    next_planned c.entered.result history c.args.version.now.swept [] _
    (returns-in-Ok-clause-planned c history (from_peer c.args.peer) stands refl)

pub returns-in-Err-clause-next : goal.returns-in-Err-clause-next
returns-in-Err-clause-next c history stands =
    next_planned c.refused.result history c.args.version.now.swept [] _
    (returns-in-Err-clause-planned c history (from_peer c.args.peer) stands refl)
