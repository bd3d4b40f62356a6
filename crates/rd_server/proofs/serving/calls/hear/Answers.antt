use Rattle.std.proofs.Common.{Bool, Option, refl, sym, ap, subst}
use Rattle.std.specs.Prelude.{option_map, IfSome}
use Rattle.journal_model.specs.Machine.{is_look_datagram}
use Rattle.rd_desk.specs.declared.jobs.Job.{Job}
use Rattle.rd_seat.specs.Heard.{IsOpenWrite}
use Rattle.rd_seat.specs.Jobs.{last_place}
use Rattle.rd_seat.specs.Calls.{job_at}
use Rattle.rd_seat.specs.Callers.{clock_seen}
use Rattle.rd_seat.proofs.CallLaws.{hear_call, hear-IsHearing, open-held}
use Rattle.rd_server.specs.serving.Calls.{Call, one_if}
use Rattle.rd_server.specs.serving.Sums.{CountsSendings}
use Rattle.rd_server.proofs.service.CallLaws.{hear-made, one_count}
use Rattle.rd_server.proofs.serving.calls.hear.Goals as goal

pub returns-clause-made : goal.returns-clause-made
returns-clause-made g c =
    let sent = c.finish.ensures.sends in
    let seat = c.args.seat.now in
    let seen = c.hear-heard.new.self.seen in
    let result = c.hear-heard.result in
    let look : Bool = is_look_datagram c.args.datagram.now in
    let made : Call = hear_call look seat seen c.now-now.result c.word-word.result c.args.peer
    c.args.datagram.now result sent.0 in (
      made,
      hear-IsHearing look seat seen c.now-now.result c.word-word.result c.args.peer
          c.args.datagram.now result sent.0 refl,
      ap (λ (o : Option Job). option_map (job_at (last_place seen)) o) (sym c.into_job.ensures),
      hear-made look _ _ (clock_seen g.C.Clock c.now-now.new.self) c.now-now.result
          c.word-word.result c.args.peer c.args.datagram.now result c.hear-heard.new.out sent.0
          refl
          (record {
            of_hall = c.hear-heard.ensures.of_hall;
            grows = c.hear-heard.ensures.met;
            makes = c.hear-heard.ensures.made;
            leaves = c.hear-heard.ensures.left;
            looks = c.hear-heard.ensures.looks;
            keeps = c.hear-heard.ensures.keeps;
          })
          sent.1 sent.2
          (record {
            moment = c.now-now.ensures.gives;
            words_stay = c.now-now.ensures.words_stay;
            word_of = c.word-word.ensures.gives;
            times_stay = c.word-word.ensures.times_stay;
          }),
      one_count made c.args.tally.now.served c.finish.new.served
          (subst (λ (b : Bool). CountsSendings sent.0 (one_if b) c.args.tally.now.served
          c.finish.new.served) c.is_starved_hearing-starved.ensures sent.3),
    )

pub returns-clause-open : goal.returns-clause-open
returns-clause-open g c =
    let seat = c.hear-heard.new.self in
    subst (λ (o : Option Job). IfSome o (λ j. IsOpenWrite (last_place seat.seen) seat j))
    (sym c.into_job.ensures) (open-held c.hear-heard.result seat c.hear-heard.ensures.open)
