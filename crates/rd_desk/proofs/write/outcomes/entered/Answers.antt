use Rattle.std.proofs.Common.{sym, subst}
use Rattle.history_model.specs.Versions.{Version}
use Rattle.rd_desk.specs.parts.Outcomes.{HasEntry}
use Rattle.rd_desk.proofs.changes.OutcomeLaws.{planned-entered}
use Rattle.rd_desk.proofs.write.outcomes.entered.Goals as goal

pub returns-clause-planned : goal.returns-clause-planned
returns-clause-planned c history swept entry meant has said =
    planned-entered history swept entry meant c.args.reply
    (record { version = c.in_ok-version.version; number = c.args.number; kind = c.args.kind })
    said
    (subst (λ (v : Version). HasEntry history swept entry v c.args.number c.args.kind)
    (sym c.in_ok-version.ensures.ok) has)
