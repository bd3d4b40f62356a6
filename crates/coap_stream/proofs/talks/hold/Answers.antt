use Rattle.std.proofs.Common.{Err}
use Rattle.coap_stream.specs.declared.talked.TalkFault.TheVariants as fault
use Rattle.coap_stream.specs.Endings.{TalkSeen, source_seen, talk_seen}
use Rattle.coap_stream.proofs.AskedLaws.{counts_told, most_told}
use Rattle.coap_stream.proofs.DuplicateLaws.{talk_new}
use Rattle.coap_stream.proofs.PieceLaws.{talk_starves}
use Rattle.coap_stream.proofs.talks.hold.Goals as goal

pub returns-in_default-clause-talks : goal.returns-in_default-clause-talks
returns-in_default-clause-talks g c = talk_starves c.args.line _

pub returns-in_default-clause-fresh : goal.returns-in_default-clause-fresh
returns-in_default-clause-fresh g c =
    let seen : TalkSeen =
    talk_seen g.K.Sink g.C.Clock (source_seen g.S.Source c.args.source.now) c.args.seat.now
    c.args.out.now c.args.clock.now in
    talk_new c.args.line seen seen (Err fault.Starved) (talk_starves c.args.line seen)

pub returns-clause-counts : goal.returns-clause-counts
returns-clause-counts g c = counts_told c.args.line _ _ c.talk.result c.talk.ensures.talks

pub returns-clause-few : goal.returns-clause-few
returns-clause-few g c = most_told c.args.line _ _ c.talk.result c.talk.ensures.talks

pub returns-clause-fresh : goal.returns-clause-fresh
returns-clause-fresh g c = talk_new c.args.line _ _ c.talk.result c.talk.ensures.talks
