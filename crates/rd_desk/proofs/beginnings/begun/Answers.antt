use Rattle.std.proofs.Common.{refl, sym, subst}
use Rattle.history_model.specs.Versions.{Version}
use Rattle.directory_core.specs.Boards.{HasOneMore}
use Rattle.directory_core.specs.Changes.{IsBeginning}
use Rattle.journal_model.specs.Beginnings.{begin_entry}
use Rattle.rd_desk.specs.parts.Outcomes.{HasEntry}
use Rattle.observation.specs.declared.change_kinds.ChangeKind.TheVariants as kind
use Rattle.rd_desk.proofs.changes.StagingLaws.{anyone}
use Rattle.rd_desk.proofs.beginnings.begun.Goals as goal

pub returns-in_ok-version-in-Ok-clause-begun : goal.returns-in_ok-version-in-Ok-clause-begun
returns-in_ok-version-in-Ok-clause-begun c history s stands =
    let entry = begin_entry c.args.now.0 s c.args.first in
    let is : IsBeginning c.args.now c.args.first entry = record { moment = refl; change = refl } in
    subst (λ (v : Version). HasEntry history c.args.version.now.swept entry v 0 kind.Beginning)
    (sym c.in_ok-version-in-Ok.ensures.ok)
    (record {
      stands = c.in-Ok.ensures.stands 0 history entry stands is;
      swept = c.in-Ok.ensures.swept;
      accepted = c.in-Ok.ensures.accepted 0 history entry stands is;
      about = refl;
      is_of = refl;
    })

pub returns-in_ok-version-in-Ok-clause-next : goal.returns-in_ok-version-in-Ok-clause-next
returns-in_ok-version-in-Ok-clause-next c history stands =
    let entry = begin_entry c.args.now.0 anyone c.args.first in
    let is : IsBeginning c.args.now c.args.first entry = record { moment = refl; change = refl } in
    subst (λ (v : Version). HasOneMore history v) (sym c.in_ok-version-in-Ok.ensures.ok)
    (record { entry = entry; stands = c.in-Ok.ensures.stands 0 history entry stands is })

pub returns-in-Err-clause-begun : goal.returns-in-Err-clause-begun
returns-in-Err-clause-begun c history s stands =
    let entry = begin_entry c.args.now.0 s c.args.first in
    let is : IsBeginning c.args.now c.args.first entry = record { moment = refl; change = refl } in
    c.unbegun.ensures.begun history c.args.version.now.swept entry
    (c.in-Err.ensures.refused 0 history entry stands is)
