use Rattle.std.proofs.Common.{◌≡◌, sym, subst}
use Rattle.message_model.proofs.ByteLemmas.{AreBytes-from_Fits}
use Rattle.stream_model.specs.declared.messages.Judged.TheVariants as judged
use Rattle.stream_reader.specs.Reading.{Held, held_as}
use Rattle.stream_reader.proofs.FeedingLaws.{
  between_open,
  fed_more,
  fed_next,
  within_more,
  within_next,
  fed_stream,
}
use Rattle.stream_reader.proofs.reader.StreamReader.feed.Goals as goal

pub take_all-requires-in-Whole : goal.take_all-requires-in-Whole
take_all-requires-in-Whole c =
    subst (λ (h : Held). held_as h ≡ judged.More) (sym c.go_on.ensures) between_open

pub returns-in-More-clause-taken : goal.returns-in-More-clause-taken
returns-in-More-clause-taken c =
    fed_more c.args.self.now c.take_all.new.self c.args.piece.now c.take_all.result
    c.judged.ensures.bytes (AreBytes-from_Fits c.args.piece.now c.type_inv.piece)
    (sym c.in-More.ensures.verdict) c.take_all.ensures

pub returns-in-More-clause-stream : goal.returns-in-More-clause-stream
returns-in-More-clause-stream c = λ further.
    fed_stream c.args.self.now c.take_all.new.self c.args.piece.now further c.take_all.result
    (fed_more c.args.self.now c.take_all.new.self c.args.piece.now c.take_all.result
    c.judged.ensures.bytes (AreBytes-from_Fits c.args.piece.now c.type_inv.piece)
    (sym c.in-More.ensures.verdict) c.take_all.ensures)

pub returns-in-Whole-clause-taken : goal.returns-in-Whole-clause-taken
returns-in-Whole-clause-taken c =
    fed_next c.args.self.now c.go_on.new.self c.take_all-in-Whole.new.self c.args.piece.now
    c.take_all-in-Whole.result (AreBytes-from_Fits c.args.piece.now c.type_inv.piece)
    (sym c.in-Whole.ensures.verdict) c.go_on.ensures c.take_all-in-Whole.ensures

pub returns-in-Whole-clause-stream : goal.returns-in-Whole-clause-stream
returns-in-Whole-clause-stream c = λ further.
    fed_stream c.args.self.now c.take_all-in-Whole.new.self c.args.piece.now further
    c.take_all-in-Whole.result
    (fed_next c.args.self.now c.go_on.new.self c.take_all-in-Whole.new.self c.args.piece.now
    c.take_all-in-Whole.result (AreBytes-from_Fits c.args.piece.now c.type_inv.piece)
    (sym c.in-Whole.ensures.verdict) c.go_on.ensures c.take_all-in-Whole.ensures)

pub returns-in-More-clause-within : goal.returns-in-More-clause-within
returns-in-More-clause-within c =
    within_more c.args.self.now c.take_all.new.self c.args.piece.now c.take_all.result
    (sym c.in-More.ensures.verdict) c.take_all.ensures

pub returns-in-Whole-clause-within : goal.returns-in-Whole-clause-within
returns-in-Whole-clause-within c =
    within_next c.go_on.new.self c.take_all-in-Whole.new.self c.args.piece.now
    c.take_all-in-Whole.result c.go_on.ensures c.take_all-in-Whole.ensures
