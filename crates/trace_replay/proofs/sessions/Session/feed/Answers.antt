use Rattle.std.proofs.Common.{[], ◌∷◌, ◌++◌, Some, None, refl, sym, ◌∙◌}
use Rattle.trace_replay.proofs.LineFeeds.{cut_pieces}
use Rattle.trace_replay.proofs.Journeys.{begins, feeds_more, stops_anyway, piece_is, counts_still}
use Rattle.trace_replay.proofs.sessions.Session.feed.Goals as goal

pub lines-init : goal.lines-init
lines-init g c = (refl, λ workers point at. ([], refl, begins workers point c.args.self.now _ at))

pub end_line-requires-clause-stands : goal.end_line-requires-clause-stands
end_line-requires-clause-stands g c =
    let before = c.lines.invariant.1 c.requires.0 c.requires.1 c.requires.2 in
    (c.requires.0, before.2.next, before.2.at)

pub end_line-requires-clause-whole : goal.end_line-requires-clause-whole
end_line-requires-clause-whole g c =
    sym (cut_pieces 10 c.lines.rest.now c.in-Some.line.now c.in-Some.more.now
    (sym c.in-Some.ensures.value)).no_separator

pub returns-in-Some-end_line-clause-fed : goal.returns-in-Some-end_line-clause-fed
returns-in-Some-end_line-clause-fed g c workers point at =
    let before = c.lines.invariant.1 workers point at in
    let line = c.in-Some.line.now ++ 10 ∷ [] in
    let cuts =
    cut_pieces 10 c.lines.rest.now c.in-Some.line.now c.in-Some.more.now
    (sym c.in-Some.ensures.value) in
    stops_anyway workers point (before.0 ++ line) c.in-Some.more.now c.args.piece.now
    c.end_line.new.self _ _ c.in-Some-end_line.stop
    (feeds_more workers point before.0 line (before.0 ++ line) c.lines.self c.end_line.new.self _ _
    _ (Some c.in-Some-end_line.stop) before.2
    (c.in-Some-end_line.ensures.fed workers before.2.next before.2.at) refl)
    (piece_is _ before.0 c.lines.rest.now c.in-Some.line.now c.in-Some.more.now before.1 cuts.whole)

pub lines-preserved : goal.lines-preserved
lines-preserved g c = (
  c.in_default-end_line.ensures.cause ∙ c.lines.invariant.0,
  λ workers point at.
      let before = c.lines.invariant.1 workers point at in
      let line = c.in-Some.line.now ++ 10 ∷ [] in
      let cuts =
      cut_pieces 10 c.lines.rest.now c.in-Some.line.now c.in-Some.more.now
      (sym c.in-Some.ensures.value) in (
        before.0 ++ line,
        piece_is _ before.0 c.lines.rest.now c.in-Some.line.now c.in-Some.more.now before.1
            cuts.whole,
        feeds_more workers point before.0 line (before.0 ++ line) c.lines.self c.end_line.new.self _
            _ _ None before.2
            (c.in_default-end_line.ensures.fed workers before.2.next before.2.at) refl,
      ),
)

pub returns-clause-fed : goal.returns-clause-fed
returns-clause-fed g c workers point at =
    let before = c.lines.invariant.1 workers point at in
    feeds_more workers point before.0 c.lines.rest.now c.args.piece.now c.lines.self c.keep.new.self
    _ _ _ c.keep.result before.2
    (c.keep.ensures.fed workers before.2.next _ before.2.at) before.1

pub returns-clause-cause : goal.returns-clause-cause
returns-clause-cause g c = counts_still _ _ c.keep.result c.lines.invariant.0 c.keep.ensures.cause
