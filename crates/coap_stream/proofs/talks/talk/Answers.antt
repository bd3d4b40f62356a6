use Rattle.std.proofs.Common.{ℕ, [], take, refl, subst, ◌∙◌, arith}
use Rattle.std.specs.Io.KnownBytes.{Consumes}
use Rattle.coap_stream.specs.Made.{voice_seen}
use Rattle.coap_stream.specs.Endings.{SourceSeen, TalkSeen, source_seen, talk_seen}
use Rattle.coap_stream.specs.Talking.{Counts}
use Rattle.coap_stream.proofs.PieceLaws.{
  begins_as,
  beginning_empty,
  ends_as,
  read_seen,
  talk_closes,
  talk_fails,
  talk_reads,
  unbegun_as,
}
use Rattle.coap_stream.proofs.talks.talk.Goals as goal

pub returns-then-not-tally-clause-talks : goal.returns-then-not-tally-clause-talks
returns-then-not-tally-clause-talks g c =
    unbegun_as c.args.context.now.line
    (talk_seen g.K.Sink g.C.Clock (source_seen g.S.Source c.args.source.now)
    c.args.seat.now c.args.out.now c.args.clock.now)
    (voice_seen g.K.Sink c.open-tally.new.out c.open-tally.result)
    c.args.tally.now.still c.open-tally.ensures c.requires.still c.if-not-tally.true

pub pieces-init : goal.pieces-init
pieces-init g c = record {
  hall = c.requires.hall;
  still = c.if-not-tally.false;
  few = omega (arith, c.requires.asked);
  room = omega (arith, c.requires.dropped);
  would = beginning_empty c.new-reader.result c.new-reader.ensures;
  so = begins_as c.args.context.now.line
      (talk_seen g.K.Sink g.C.Clock (source_seen g.S.Source c.args.source.now)
      c.args.seat.now c.args.out.now c.args.clock.now)
      (voice_seen g.K.Sink c.open-tally.new.out c.open-tally.result)
      c.args.tally.now.still c.args.tally.now.asked c.args.tally.now.dropped
      c.args.tally.now.most c.new-reader.result c.open-tally.ensures c.requires.still
      c.if-not-tally.false
      c.requires.asked c.requires.dropped c.requires.most c.new-reader.ensures;
}

pub returns-then-count-eq0-clause-talks : goal.returns-then-count-eq0-clause-talks
returns-then-count-eq0-clause-talks g c =
    let line = c.args.context.now.line in
    let before : TalkSeen =
    talk_seen g.K.Sink g.C.Clock (source_seen g.S.Source c.args.source.now)
    c.args.seat.now c.args.out.now c.args.clock.now in
    let now : TalkSeen = talk_seen g.K.Sink g.C.Clock (source_seen g.S.Source c.pieces.source)
    c.pieces.seat c.pieces.out c.pieces.clock in
    let source : SourceSeen = source_seen g.S.Source c.read.new.self in
    let counts : Counts =
    record {
      asked = c.pieces.tally.asked;
      dropped = c.pieces.tally.dropped;
      most
          = c.pieces.tally.most;
    } in
    let reads : Consumes now.source.left source.left [] =
    subst (λ (n : ℕ). Consumes now.source.left source.left (take n c.read.new.into))
    c.if-count-eq0.true c.in-Bytes.ensures.bytes.0 in
    ends_as line before (read_seen now source)
    (voice_seen g.K.Sink c.farewell.new.out c.farewell.new.tally.still) counts c.pieces.reader
    c.pieces.last
    c.pieces.tally.still c.farewell.result
    (talk_closes line before now source counts c.pieces.reader c.pieces.last
    c.pieces.invariant.so c.pieces.invariant.would reads c.in-Bytes.ensures.cause
    (c.in-Bytes.ensures.bytes.1 c.if-count-eq0.true (search arith)))
    c.farewell.ensures.speaks c.pieces.invariant.still c.farewell.ensures.told

pub pieces-preserved : goal.pieces-preserved
pieces-preserved g c =
    let line = c.args.context.now.line in
    let before : TalkSeen =
    talk_seen g.K.Sink g.C.Clock (source_seen g.S.Source c.args.source.now)
    c.args.seat.now c.args.out.now c.args.clock.now in
    let now : TalkSeen = talk_seen g.K.Sink g.C.Clock (source_seen g.S.Source c.pieces.source)
    c.pieces.seat c.pieces.out c.pieces.clock in
    let source : SourceSeen = source_seen g.S.Source c.read.new.self in
    let counts : Counts =
    record {
      asked = c.pieces.tally.asked;
      dropped = c.pieces.tally.dropped;
      most
          = c.pieces.tally.most;
    } in
    let heard = c.in-Open.ensures.heard before source
    (talk_reads line before now source counts c.pieces.reader
    (take c.in-Bytes.count c.read.new.into) c.pieces.invariant.so
    c.in-Bytes.ensures.bytes.0 c.in-Bytes.ensures.cause) in
    record {
      hall = c.hear_piece.ensures.hall ∙ c.pieces.invariant.hall;
      still = c.in-Open.ensures.still;
      few = c.in-Open.ensures.few refl;
      room = c.hear_piece.ensures.room;
      would = heard.1;
      so = heard.0;
    }

pub returns-in-Ended-clause-talks : goal.returns-in-Ended-clause-talks
returns-in-Ended-clause-talks g c =
    let line = c.args.context.now.line in
    let before : TalkSeen =
    talk_seen g.K.Sink g.C.Clock (source_seen g.S.Source c.args.source.now)
    c.args.seat.now c.args.out.now c.args.clock.now in
    let now : TalkSeen = talk_seen g.K.Sink g.C.Clock (source_seen g.S.Source c.pieces.source)
    c.pieces.seat c.pieces.out c.pieces.clock in
    let source : SourceSeen = source_seen g.S.Source c.read.new.self in
    let counts : Counts =
    record {
      asked = c.pieces.tally.asked;
      dropped = c.pieces.tally.dropped;
      most
          = c.pieces.tally.most;
    } in
    let counted : Counts = record {
      asked = c.hear_piece.new.tally.asked;
      dropped = c.hear_piece.new.tally.dropped;
      most = c.hear_piece.new.tally.most;
    } in
    ends_as line before
    (talk_seen g.K.Sink g.C.Clock source c.hear_piece.new.seat c.hear_piece.new.out
    c.hear_piece.new.clock)
    (voice_seen g.K.Sink c.farewell-in-Ended.new.out c.farewell-in-Ended.new.tally.still) counted
    c.hear_piece.new.reader c.in-Ended.end c.hear_piece.new.tally.still c.farewell-in-Ended.result
    (c.in-Ended.ensures.heard before source
    (talk_reads line before now source counts c.pieces.reader
    (take c.in-Bytes.count c.read.new.into) c.pieces.invariant.so
    c.in-Bytes.ensures.bytes.0 c.in-Bytes.ensures.cause))
    c.farewell-in-Ended.ensures.speaks c.in-Ended.ensures.still
    c.farewell-in-Ended.ensures.told

pub returns-in-Failed-hear_piece-clause-talks : goal.returns-in-Failed-hear_piece-clause-talks
returns-in-Failed-hear_piece-clause-talks g c =
    let line = c.args.context.now.line in
    let before : TalkSeen =
    talk_seen g.K.Sink g.C.Clock (source_seen g.S.Source c.args.source.now)
    c.args.seat.now c.args.out.now c.args.clock.now in
    let now : TalkSeen = talk_seen g.K.Sink g.C.Clock (source_seen g.S.Source c.pieces.source)
    c.pieces.seat c.pieces.out c.pieces.clock in
    let source : SourceSeen = source_seen g.S.Source c.read.new.self in
    let counts : Counts =
    record {
      asked = c.pieces.tally.asked;
      dropped = c.pieces.tally.dropped;
      most
          = c.pieces.tally.most;
    } in
    let counted : Counts = record {
      asked = c.hear_piece.new.tally.asked;
      dropped = c.hear_piece.new.tally.dropped;
      most = c.hear_piece.new.tally.most;
    } in
    talk_fails line before
    (talk_seen g.K.Sink g.C.Clock source c.hear_piece.new.seat c.hear_piece.new.out
    c.hear_piece.new.clock) counted
    (c.in-Failed-hear_piece.ensures.heard before source
    (talk_reads line before now source counts c.pieces.reader
    (take c.in-Bytes.count c.read.new.into) c.pieces.invariant.so
    c.in-Bytes.ensures.bytes.0 c.in-Bytes.ensures.cause))
