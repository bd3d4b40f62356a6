use Rattle.std.proofs.Common.{◌≡◌, ◌≤◌, ◌<◌, ◌*◌, true, [], length}
use Rattle.stream_model.specs.Streams.{partial}
use Rattle.stream_reader.specs.Reading.{stream_after}
use Rattle.coap_stream.specs.Endings.{SourceSeen, TalkSeen, talk_seen}
use Rattle.coap_stream.specs.Talking.{TalksSo}
use Rattle.coap_stream.proofs.talks.hear_piece.Given as goal

-- The messages of the piece so far were answered, and none of them ended the conversation.
abbrev pub invariant-messages : goal.invariant-messages
invariant-messages g l = record {
  hall : l.seat.hall ≡ l.context.hall.now;
  still : l.tally.still ≡ true;
  few : l.tally.asked < 65536;
  room : l.tally.dropped ≤ 1152 * l.tally.asked;
  behind : length l.rest ≡ 0 → stream_after l.reader [] ≡ partial [];
  so : (before : TalkSeen) (source : SourceSeen)
      → TalksSo l.context.line before
      (talk_seen g.K.Sink g.C.Clock source l.fn.seat l.fn.out l.fn.clock)
      (record { asked = l.fn.tally.asked; dropped = l.fn.tally.dropped; most = l.fn.tally.most })
      l.fn.reader l.fn.piece
      → TalksSo l.context.line before
      (talk_seen g.K.Sink g.C.Clock source l.seat l.out l.clock)
      (record { asked = l.tally.asked; dropped = l.tally.dropped; most = l.tally.most }) l.reader
      l.rest;
}

abbrev pub decreases-messages : goal.decreases-messages
decreases-messages g l = length l.rest
