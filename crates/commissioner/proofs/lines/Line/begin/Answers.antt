use Rattle.std.proofs.Common.{sym}
use Rattle.udp_link.specs.Clocks.{GivesFirst}
use Rattle.registrant.specs.Turns.{seen}
use Rattle.registrant.proofs.TurnLaws.{told_stays, stays_told}
use Rattle.commissioner.proofs.BeginLaws.{began}
use Rattle.commissioner.proofs.lines.Line.begin.Goals as goal

pub returns-clause-ok : goal.returns-clause-ok
returns-clause-ok g c = λ ask is.
    let told =
    seen g.L.Link.coming g.L.Link.gone g.L.Link.recv_faults g.L.Link.send_faults
    g.C.Clock.times g.C.Clock.words in
    began ask c.args.self.now c.in-Some.ask c.token_of.result c.now-now.result c.word-word.result
    c.in_ok-talk.talk c.bytes.result.now
    (told c.args.link.now c.args.clock.now) (told c.send.new.link c.word-word.new.self)
    c.take.new.self
    is
    (sym c.in-Some.ensures.value)
    c.take.ensures.after
    c.token_of.ensures
    (told_stays
    (GivesFirst (record { 0 = 0 }) c.now-now.result)
    (g.C.Clock.times c.args.clock.now)
    (g.C.Clock.times c.now-now.new.self)
    (g.C.Clock.times c.word-word.new.self)
    c.now-now.ensures.gives
    c.word-word.ensures.times_stay)
    (stays_told
    (GivesFirst 0 c.word-word.result)
    (g.C.Clock.words c.args.clock.now)
    (g.C.Clock.words c.now-now.new.self)
    (g.C.Clock.words c.word-word.new.self)
    c.now-now.ensures.words_stay
    c.word-word.ensures.gives)
    c.in_ok-talk.ensures
    c.bytes.ensures
    c.send.ensures.sends
    c.send.ensures.coming
    c.send.ensures.receives
