use Rattle.std.proofs.Common.{ap, subst, is_none}
use Rattle.coap_message.specs.Views.{message_in}
use Rattle.journal_model.specs.Changes as changes
use Rattle.journal_model.specs.Commits.{settling}
use Rattle.journal_model.specs.Requests.{refusal_of_request}
use Rattle.journal_model.specs.Rows.{row_moment}
use Rattle.rd_request.proofs.AskedLaws.{none_there}
use Rattle.rd_desk.specs.calls.Stepping.{is_starved_step}
use Rattle.rd_desk.specs.parts.Committing.{unless_failing}
use Rattle.rd_desk.specs.parts.UnderWay.{UnderWay}
use Rattle.rd_desk.proofs.changes.CommitLaws.{
  good_update,
  location_updates,
  location_replaces,
  location_removes,
}
use Rattle.rd_desk.proofs.tables.Tables.commit_location.Goals as goal

-- POST

pub invariant_of-commit_update : goal.invariant_of-commit_update
invariant_of-commit_update g c =
    let m = message_in c.args.write.now.request.meaning.view in
    record {
      good =
          ap is_none
          (good_update m c.args.number
          (none_there (refusal_of_request m) c.args.write.now.request.accepted) c.requires.at
          c.if-code-eq-POST.true);
    }

pub returns-then-code-eq-POST-clause-way : goal.returns-then-code-eq-POST-clause-way
returns-then-code-eq-POST-clause-way g c =
    λ rows s place of opened way.
    let m = message_in c.args.write.now.request.meaning.view in
    subst (λ (o : changes.Outcome). UnderWay rows s (is_starved_step c.commit_update.result)
    (unless_failing (is_starved_step c.commit_update.result) place s m (settling place s m o))
    c.commit_update.new.self c.commit_update.new.out c.commit_update.new.mids)
    (location_updates rows (row_moment rows s) s m c.args.number c.if-code-eq-POST.true)
    (c.commit_update.ensures.way rows s place of opened way)

-- PUT

pub returns-then-code-eq-PUT-clause-way : goal.returns-then-code-eq-PUT-clause-way
returns-then-code-eq-PUT-clause-way g c =
    λ rows s place of opened way.
    let m = message_in c.args.write.now.request.meaning.view in
    subst (λ (o : changes.Outcome). UnderWay rows s (is_starved_step c.commit_links.result)
    (unless_failing (is_starved_step c.commit_links.result) place s m (settling place s m o))
    c.commit_links.new.self c.commit_links.new.out c.commit_links.new.mids)
    (location_replaces rows (row_moment rows s) s m c.args.number c.if-code-eq-PUT.true)
    (c.commit_links.ensures.way rows s place of opened way)

-- DELETE

pub returns-clause-way : goal.returns-clause-way
returns-clause-way g c =
    λ rows s place of opened way.
    let m = message_in c.args.write.now.request.meaning.view in
    subst (λ (o : changes.Outcome). UnderWay rows s (is_starved_step c.commit_removal.result)
    (unless_failing (is_starved_step c.commit_removal.result) place s m (settling place s m o))
    c.commit_removal.new.self c.commit_removal.new.out c.commit_removal.new.mids)
    (location_removes rows (row_moment rows s) s m c.args.number c.requires.at c.requires.writes
    c.if-code-eq-POST.false c.if-code-eq-PUT.false)
    (c.commit_removal.ensures.way rows s place of opened way)
