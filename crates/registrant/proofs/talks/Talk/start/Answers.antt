use Rattle.registrant.proofs.TalkLaws.{stands_first}
use Rattle.registrant.proofs.talks.Talk.start.Goals as goal

pub returns : goal.returns
returns c =
    stands_first
    c.args.ask
    c.args.mid
    c.args.token
    c.args.now.0
    c.args.word
    c.purpose_of.result
    c.in_ok-octets.octets
    c.start.result
    c.purpose_of.ensures
    c.in_ok-octets.ensures
    c.start.ensures.waits
