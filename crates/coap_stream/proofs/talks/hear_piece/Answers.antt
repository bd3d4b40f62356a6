use Rattle.std.proofs.Common.{List, ℕ, Option, true}
use Rattle.std.proofs.Common.{sym, subst, ◌∙◌, arith}
use Rattle.std.proofs.lemmas.List.{take_rest}
use Rattle.stream_model.specs.Streams.{IsGood}
use Rattle.rd_seat.specs.Callers.{caller_seen}
use Rattle.coap_stream.specs.declared.talked.TalkEnd.{TalkEnd}
use Rattle.coap_stream.specs.Made.{voice_seen}
use Rattle.coap_stream.specs.Endings.{TalkSeen, talk_seen}
use Rattle.coap_stream.specs.Talking.{Counts, TalksSo, WasHeard, voice_of}
use Rattle.stream_reader.specs.Shown.{shown_in}
use Rattle.coap_stream.proofs.ReaderLaws.{
  as_shown,
  nothing_behind,
  whole_good,
  within_message,
}
use Rattle.coap_stream.proofs.TalkLaws.{
  ends_at_bad,
  ends_with,
  fails_at,
  goes_on_less,
  goes_on_more,
}
use Rattle.coap_stream.proofs.talks.hear_piece.Goals as goal

pub returns-in-More-clause-heard : goal.returns-in-More-clause-heard
returns-in-More-clause-heard g c before source so = (
  goes_on_less c.args.context.now.line before
      (talk_seen g.K.Sink g.C.Clock source c.messages.seat c.messages.out c.messages.clock)
      (record {
        asked = c.messages.tally.asked;
        dropped = c.messages.tally.dropped;
        most
            = c.messages.tally.most;
      })
      c.messages.reader c.feed.new.self c.messages.rest.now
      (c.messages.invariant.so before source so) c.in-More.ensures.taken
      c.in-More.ensures.stream,
  within_message c.messages.reader c.feed.new.self c.messages.rest.now
      c.in-More.ensures.taken (search arith),
)

pub returns-in-Bad-clause-heard : goal.returns-in-Bad-clause-heard
returns-in-Bad-clause-heard g c before source so =
    ends_at_bad c.args.context.now.line before
    (talk_seen g.K.Sink g.C.Clock source c.messages.seat c.messages.out c.messages.clock)
    (record {
      asked = c.messages.tally.asked;
      dropped = c.messages.tally.dropped;
      most
          = c.messages.tally.most;
    })
    c.messages.reader c.feed.new.self c.messages.rest.now c.in-Bad.field-0 c.in-Bad.why
    (c.messages.invariant.so before source so) c.in-Bad.ensures.taken
    c.in-Bad.ensures.stream

pub returns-then-not-tally-clause-heard : goal.returns-then-not-tally-clause-heard
returns-then-not-tally-clause-heard g c before source so =
    let line = c.args.context.now.line in
    let now : TalkSeen =
    talk_seen g.K.Sink g.C.Clock source c.messages.seat c.messages.out c.messages.clock in
    let good : IsGood c.feed.new.self.is_first c.feed.new.self.pending =
    whole_good c.messages.reader c.feed.new.self c.messages.rest.now c.in-Whole.count
    c.in-Whole.ensures.taken in
    let after = caller_seen g.C.Clock c.hear_message-end.new.seat c.hear_message-end.new.clock in
    let spoken = voice_seen g.K.Sink c.hear_message-end.new.out
    c.hear_message-end.new.tally.still in
    let counts : Counts =
    record {
      asked = c.messages.tally.asked;
      dropped = c.messages.tally.dropped;
      most
          = c.messages.tally.most;
    } in
    let counted : Counts = record {
      asked = c.hear_message-end.new.tally.asked;
      dropped = c.hear_message-end.new.tally.dropped;
      most = c.hear_message-end.new.tally.most;
    } in
    fails_at line before now after spoken counts counted c.messages.reader c.feed.new.self
    c.messages.rest.now c.in-Whole.count c.hear_message-end.result
    (c.messages.invariant.so before source so) c.in-Whole.ensures.stream
    (as_shown line c.feed.new.self c.hear_message-end.result now.caller after now
    c.messages.tally.still spoken counts counted good c.messages.invariant.still
    c.hear_message-end.ensures.heard)
    c.if-not-tally.true

pub returns-in-Some-clause-heard : goal.returns-in-Some-clause-heard
returns-in-Some-clause-heard g c before source so =
    let line = c.args.context.now.line in
    let now : TalkSeen =
    talk_seen g.K.Sink g.C.Clock source c.messages.seat c.messages.out c.messages.clock in
    let good : IsGood c.feed.new.self.is_first c.feed.new.self.pending =
    whole_good c.messages.reader c.feed.new.self c.messages.rest.now c.in-Whole.count
    c.in-Whole.ensures.taken in
    let after = caller_seen g.C.Clock c.hear_message-end.new.seat c.hear_message-end.new.clock in
    let spoken = voice_seen g.K.Sink c.hear_message-end.new.out
    c.hear_message-end.new.tally.still in
    let counts : Counts =
    record {
      asked = c.messages.tally.asked;
      dropped = c.messages.tally.dropped;
      most
          = c.messages.tally.most;
    } in
    let counted : Counts = record {
      asked = c.hear_message-end.new.tally.asked;
      dropped = c.hear_message-end.new.tally.dropped;
      most = c.hear_message-end.new.tally.most;
    } in
    let was = as_shown line c.feed.new.self c.hear_message-end.result now.caller after now
    c.messages.tally.still spoken counts counted good c.messages.invariant.still
    c.hear_message-end.ensures.heard in
    ends_with line before now after spoken counts counted c.messages.reader c.feed.new.self
    c.messages.rest.now c.in-Whole.count c.in-Some.end
    (c.messages.invariant.so before source so) c.in-Whole.ensures.stream
    (subst (λ (o : Option TalkEnd). WasHeard line (shown_in c.feed.new.self.pending) o
    now.caller after (voice_of true now) spoken counts counted) c.in-Some.is was)
    c.if-not-tally.false

pub messages-preserved : goal.messages-preserved
messages-preserved g c =
    let line = c.args.context.now.line in
    let good : IsGood c.feed.new.self.is_first c.feed.new.self.pending =
    whole_good c.messages.reader c.feed.new.self c.messages.rest.now c.in-Whole.count
    c.in-Whole.ensures.taken in
    let after = caller_seen g.C.Clock c.hear_message-end.new.seat c.hear_message-end.new.clock in
    let spoken = voice_seen g.K.Sink c.hear_message-end.new.out
    c.hear_message-end.new.tally.still in
    let counts : Counts =
    record {
      asked = c.messages.tally.asked;
      dropped = c.messages.tally.dropped;
      most
          = c.messages.tally.most;
    } in
    let counted : Counts = record {
      asked = c.hear_message-end.new.tally.asked;
      dropped = c.hear_message-end.new.tally.dropped;
      most = c.hear_message-end.new.tally.most;
    } in
    record {
      hall = c.hear_message-end.ensures.hall ∙ c.messages.invariant.hall;
      still = c.if-not-tally.false;
      few = c.hear_message-end.ensures.few c.in_default.is;
      room = c.hear_message-end.ensures.room;
      behind = λ none. nothing_behind c.feed.new.self good;
      so = λ before source so.
          (let now : TalkSeen = talk_seen g.K.Sink g.C.Clock source c.messages.seat
          c.messages.out c.messages.clock in
          let was = as_shown line c.feed.new.self c.hear_message-end.result now.caller after now
          c.messages.tally.still spoken counts counted good c.messages.invariant.still
          c.hear_message-end.ensures.heard in
          subst (λ (l : List ℕ). TalksSo line before
          (talk_seen g.K.Sink g.C.Clock source c.hear_message-end.new.seat
          c.hear_message-end.new.out c.hear_message-end.new.clock) counted c.feed.new.self l)
          (sym (take_rest c.messages.rest.now c.in-Whole.count))
          (goes_on_more line before now after spoken counts counted c.messages.reader
          c.feed.new.self c.messages.rest.now c.in-Whole.count
          (c.messages.invariant.so before source so) c.in-Whole.ensures.taken
          c.in-Whole.ensures.stream
          (subst (λ (o : Option TalkEnd). WasHeard line (shown_in c.feed.new.self.pending) o
          now.caller after (voice_of true now) spoken counts counted) c.in_default.is was)
          c.if-not-tally.false));
    }
