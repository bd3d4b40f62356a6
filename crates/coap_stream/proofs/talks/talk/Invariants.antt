use Rattle.std.proofs.Common.{◌≡◌, ◌≤◌, ◌<◌, ◌*◌, true, []}
use Rattle.stream_reader.specs.Reading.{stream_after}
use Rattle.coap_stream.specs.Endings.{source_seen, talk_seen}
use Rattle.coap_stream.specs.Talking.{TalksSo, WouldEnd}
use Rattle.coap_stream.proofs.talks.talk.Given as goal

-- All messages that were read so far were answered, and none of them ended the conversation.
abbrev pub invariant-pieces : goal.invariant-pieces
invariant-pieces g l = record {
  hall : l.seat.hall ≡ l.context.hall.now;
  still : l.tally.still ≡ true;
  few : l.tally.asked < 65536;
  room : l.tally.dropped ≤ 1152 * l.tally.asked;
  would : WouldEnd l.last (stream_after l.reader []);
  so : TalksSo l.context.line
      (talk_seen g.K.Sink g.C.Clock (source_seen g.S.Source l.fn.source)
      l.fn.seat l.fn.out l.fn.clock)
      (talk_seen g.K.Sink g.C.Clock (source_seen g.S.Source l.source) l.seat l.out l.clock)
      (record { asked = l.tally.asked; dropped = l.tally.dropped; most = l.tally.most }) l.reader
      [];
}

abbrev pub decreases-pieces : goal.decreases-pieces
decreases-pieces g l = g.S.Source.turns l.source
