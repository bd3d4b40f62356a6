use Rattle.std.proofs.Common.{◌≡◌, ◌∷◌, ◌+◌, [], Option, refl, sym, ap, subst, ◌∙◌, arith}
use Rattle.std.specs.Prelude.{option_map}
use Rattle.coap_answers.specs.Outboxes.{most_datagrams}
use Rattle.rd_desk.specs.declared.jobs.Job.{Job}
use Rattle.journal_model.specs.Machine as machine
use Rattle.rd_seat.specs.Jobs.{last_place}
use Rattle.rd_seat.specs.Calls.{job_at}
use Rattle.rd_seat.specs.Callers.{DoesJob}
use Rattle.rd_server.proofs.service.SendLaws.{IsBelow-more}
use Rattle.rd_server.proofs.service.CallLaws.{CallsMade-then, CountsCalls-then}
use Rattle.rd_server.proofs.serving.turns.answer.Goals as goal

pub returns-in-Some-clause-grows : goal.returns-in-Some-clause-grows
returns-in-Some-clause-grows g c limit below =
    IsBelow-more (limit + (most_datagrams + 1) + (most_datagrams + 1)) (limit + 2306)
    c.go.new.tally.served (c.go.ensures.grows (limit + (most_datagrams + 1))
    (c.hear-job.ensures.grows limit below)) (omega arith)

pub returns-in-Some-clause-made : goal.returns-in-Some-clause-made
returns-in-Some-clause-made g c =
    let heard = c.hear-job.ensures.made in
    let done = c.go.ensures.made in
    let left : heard.0.left ≡ option_map (job_at (last_place c.hear-job.new.seat.seen))
    c.hear-job.result = heard.2 in (
      done.0 ∷ heard.0 ∷ [],
      record {
        hear = heard.0;
        job = done.0 ∷ [];
        whole = refl;
        hearing = heard.1;
        done = subst (λ (o : Option machine.Job). DoesJob o (done.0 ∷ []))
            (sym (left ∙ ap (λ (o : Option Job).
            option_map (job_at (last_place c.hear-job.new.seat.seen)) o) c.in-Some.is))
            (done.0, refl, done.1);
      },
      CallsMade-then (heard.0 ∷ []) (done.0 ∷ []) _ _ _ heard.3 done.2,
      CountsCalls-then (heard.0 ∷ []) (done.0 ∷ []) c.args.tally.now.served
          c.hear-job.new.tally.served c.go.new.tally.served heard.4 done.3,
    )
