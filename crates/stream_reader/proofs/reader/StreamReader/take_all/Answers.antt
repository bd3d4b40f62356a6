use Rattle.std.proofs.Common.{sym}
use Rattle.stream_reader.proofs.ReaderLemmas.{twice_within, held_twice}
use Rattle.stream_reader.proofs.reader.StreamReader.take_all.Goals as goal

pub rounds-preserved : goal.rounds-preserved
rounds-preserved c =
    let piece = c.args.piece.now in (
      twice_within piece c.rounds.taken c.advance-taken.result c.rounds.invariant.0
          c.advance-taken.ensures.within,
      held_twice c.args.self.now c.rounds.self c.advance-taken.new.self piece c.rounds.taken
          c.advance-taken.result c.rounds.invariant.1 c.advance-taken.ensures.held,
      sym c.in-More.ensures.verdict,
    )

pub returns-in-Whole : goal.returns-in-Whole
returns-in-Whole c =
    let piece = c.args.piece.now in
    record {
      within = twice_within piece c.rounds.taken c.advance-taken.result c.rounds.invariant.0
          c.advance-taken.ensures.within;
      held = held_twice c.args.self.now c.rounds.self c.advance-taken.new.self piece c.rounds.taken
          c.advance-taken.result c.rounds.invariant.1 c.advance-taken.ensures.held;
      verdict_is = sym c.in-Whole.ensures.verdict;
      fronts = c.advance-taken.ensures.fronts;
    }

pub returns-in-Bad : goal.returns-in-Bad
returns-in-Bad c =
    let piece = c.args.piece.now in
    record {
      within = twice_within piece c.rounds.taken c.advance-taken.result c.rounds.invariant.0
          c.advance-taken.ensures.within;
      held = held_twice c.args.self.now c.rounds.self c.advance-taken.new.self piece c.rounds.taken
          c.advance-taken.result c.rounds.invariant.1 c.advance-taken.ensures.held;
      verdict_is = sym c.in-Bad.ensures.verdict;
      fronts = c.advance-taken.ensures.fronts;
    }
