use Rattle.std.proofs.Common.{ℕ, ◌+◌, List, ◌++◌, drop, sym, subst, ap, ◌∙◌}
use Rattle.std.proofs.lemmas.List.{take_rest}
use Rattle.stream_reader.specs.Reading.{stream_after}
use Rattle.tcp_door.specs.Waiting.{HasBefore, is_whole}
use Rattle.tcp_door.proofs.HeedingLaws.{
  bad_held,
  broken_after,
  more_held,
  none_more,
  one_more,
  some_more,
  whole_held,
}
use Rattle.tcp_door.proofs.heeding.heed.Goals as goal

pub returns-in-More-clause-between : goal.returns-in-More-clause-between
returns-in-More-clause-between c =
    sym (ap is_whole (more_held c.messages.reader c.feed.new.self c.messages.rest.now
    c.in-More.ensures.taken))

pub returns-in-Bad-clause-ends : goal.returns-in-Bad-clause-ends
returns-in-Bad-clause-ends c =
    let old = c.messages.reader in
    let new = c.feed.new.self in
    let rest = c.messages.rest.now in
    let ends = c.messages.invariant.ends in
    let is_bad =
    bad_held old new rest c.in-Bad.field-0 c.in-Bad.field-1 c.in-Bad.ensures.taken in (
      ends.0,
      λ further.
          none_more ends.0 (stream_after c.args.reader.now (c.args.piece.now ++ further))
          (stream_after old (rest ++ further)) (stream_after new further) (ends.1 further)
          (c.in-Bad.ensures.stream further
          ∙ sym (broken_after new c.in-Bad.field-1 further is_bad)),
      ends.2,
    )

pub returns-in-Bad-clause-between : goal.returns-in-Bad-clause-between
returns-in-Bad-clause-between c =
    sym (ap is_whole (bad_held c.messages.reader c.feed.new.self c.messages.rest.now
    c.in-Bad.field-0 c.in-Bad.field-1 c.in-Bad.ensures.taken))

pub messages-preserved : goal.messages-preserved
messages-preserved c =
    let old = c.messages.reader in
    let new = c.feed.new.self in
    let rest = c.messages.rest.now in
    let count = c.in-Whole.count in
    let ends = c.messages.invariant.ends in record {
      behind = λ none. whole_held old new rest count c.in-Whole.ensures.taken;
      ends = (
        ends.0 + 1,
        λ further.
            subst (λ (l : List ℕ). HasBefore (ends.0 + 1)
            (stream_after c.args.reader.now (c.args.piece.now ++ further))
            (stream_after new (l ++ further)))
            (sym (take_rest rest count))
            (one_more ends.0 (stream_after c.args.reader.now (c.args.piece.now ++ further))
            (stream_after old (rest ++ further)) (stream_after new (drop count rest ++ further))
            new.pending (ends.1 further) (c.in-Whole.ensures.stream further)),
        some_more ends.0,
      );
    }
