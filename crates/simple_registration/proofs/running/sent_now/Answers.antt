use Rattle.std.proofs.Common.{refl, ap}
use Rattle.event_model.specs.declared.notes.Note.TheVariants as note
use Rattle.event_model.specs.Flights.{Retransmission, Sent}
use Rattle.event_model.proofs.NotedLaws.{event_at}
use Rattle.simple_registration.proofs.RuleLaws.{sent_is}
use Rattle.simple_registration.proofs.running.sent_now.Goals as goal

pub returns : goal.returns
returns c =
    ap (λ (r : Retransmission). record { mid = c.args.mid; octets = c.args.bytes; resend = r })
    (sent_is c.args.now.0 c.args.word c.start.result
    (c.start.ensures.first (event_at 0 c.args.now.0 c.args.word (note.Failed 0)) refl refl))
