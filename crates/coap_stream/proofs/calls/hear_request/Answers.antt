use Rattle.std.proofs.Common.{
  ◌≡◌,
  ◌∷◌,
  [],
  List,
  ℕ,
  Option,
  refl,
  sym,
  ap,
  subst,
  ◌∙◌,
}
use Rattle.std.specs.Prelude.{option_map}
use Rattle.rd_desk.specs.declared.jobs.Job.{Job}
use Rattle.journal_model.specs.Machine as machine
use Rattle.rd_seat.specs.Jobs.{last_place}
use Rattle.rd_seat.specs.Calls.{job_at}
use Rattle.rd_seat.specs.Callers.{DoesJob}
use Rattle.rd_seat.proofs.CallLaws.{CallsMade-then}
use Rattle.coap_stream.specs.Calls.{as_they_came}
use Rattle.coap_stream.specs.Made.{Speaks, voice_seen}
use Rattle.coap_stream.specs.Talks.{replies_to}
use Rattle.coap_stream.proofs.VoiceLaws.{Speaks-then, replies-then}
use Rattle.coap_stream.proofs.calls.hear_request.Goals as goal

pub returns-in-Some-clause-made : goal.returns-in-Some-clause-made
returns-in-Some-clause-made g c =
    let heard = c.hear-job.ensures.made in
    let done = c.go.ensures.made in
    let line = c.args.context.now.line in
    let most = c.args.tally.now.most in
    let v0 = voice_seen g.K.Sink c.args.out.now c.args.tally.now.still in
    let v1 = voice_seen g.K.Sink c.hear-job.new.out c.hear-job.new.tally.still in
    let v2 = voice_seen g.K.Sink c.go.new.out c.go.new.tally.still in
    let left : heard.0.left ≡ option_map (job_at (last_place c.hear-job.new.seat.seen))
    c.hear-job.result = heard.2 in (
      done.0 ∷ heard.0 ∷ [],
      record {
        hear = heard.0;
        job = done.0 ∷ [];
        whole = refl;
        hearing = heard.1;
        done = subst (λ (o : Option machine.Job). DoesJob o (done.0 ∷ []))
            (sym (left ∙ ap (λ (o : Option Job).
            option_map (job_at (last_place c.hear-job.new.seat.seen)) o) c.in-Some.is))
            (done.0, refl, done.1);
      },
      CallsMade-then as_they_came (heard.0 ∷ []) (done.0 ∷ []) _ _ _ heard.3 done.2,
      subst (λ (l : List ℕ). Speaks v0 l v2) (sym (replies-then line most heard.0.sent done.0.sent))
          (Speaks-then v0 v1 v2 (replies_to line most heard.0.sent)
          (replies_to line most done.0.sent)
          heard.4 (subst (λ (n : ℕ). Speaks v1 (replies_to line n done.0.sent) v2)
          c.hear-job.ensures.most done.3)),
    )
