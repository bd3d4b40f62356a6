use Rattle.std.proofs.Common.{◌≡◌, [], ◌++◌, take, Some, None, refl, ap, ◌∙◌, arith}
use Rattle.std.proofs.KnownBytes.{Consumes-nil, Consumes-trans, Consumes-kept}
use Rattle.trace_replay.proofs.Journeys.{begins, feeds_more}
use Rattle.trace_replay.proofs.ReplayLaws.{nothing_taken}
use Rattle.trace_replay.proofs.replays.read_all.Goals as goal

pub pieces-init : goal.pieces-init
pieces-init g c = (
  refl,
  refl,
  λ workers point at. ([], Consumes-nil _, begins workers point c.args.session.now _ at),
)

pub feed-requires : goal.feed-requires
feed-requires g c =
    let before = c.pieces.invariant.2 c.requires.0 c.requires.1 c.requires.2 in
    (c.requires.0, before.2.next, before.2.at)

pub returns-in-Failed-clause-read : goal.returns-in-Failed-clause-read
returns-in-Failed-clause-read g c workers point at =
    let before = c.pieces.invariant.2 workers point at in
    (before.0, Consumes-kept _ _ _ before.0 before.1 c.in-Failed.ensures.bytes, before.2)

pub returns-then-n-eq0-clause-read : goal.returns-then-n-eq0-clause-read
returns-then-n-eq0-clause-read g c workers point at =
    let before = c.pieces.invariant.2 workers point at in
    let none : take c.in-Bytes.n c.read.new.into ≡ [] =
    ap (λ n. take n c.read.new.into) c.if-n-eq0.true in (
      before.0,
      nothing_taken _ _ _ before.0 _ before.1 c.in-Bytes.ensures.bytes.0 none,
      (before.2, c.in-Bytes.ensures.bytes.1 c.if-n-eq0.true (omega arith)),
    )

pub returns-in-Some-clause-read : goal.returns-in-Some-clause-read
returns-in-Some-clause-read g c workers point at =
    let before = c.pieces.invariant.2 workers point at in
    let piece = take c.in-Bytes.n c.read.new.into in (
      before.0 ++ piece,
      Consumes-trans _ _ _ before.0 piece before.1 c.in-Bytes.ensures.bytes.0,
      feeds_more workers point before.0 piece (before.0 ++ piece) c.pieces.session c.feed.new.self _
          _ _ (Some c.in-Some.stop) before.2
          (c.in-Some.ensures.fed workers before.2.next before.2.at) refl,
    )

pub pieces-preserved : goal.pieces-preserved
pieces-preserved g c = (
  c.in-Bytes.ensures.cause ∙ c.pieces.invariant.0,
  c.in_default.ensures.cause ∙ c.pieces.invariant.1,
  λ workers point at.
      let before = c.pieces.invariant.2 workers point at in
      let piece = take c.in-Bytes.n c.read.new.into in (
        before.0 ++ piece,
        Consumes-trans _ _ _ before.0 piece before.1 c.in-Bytes.ensures.bytes.0,
        feeds_more workers point before.0 piece (before.0 ++ piece) c.pieces.session c.feed.new.self
            _ _ _ None before.2 (c.in_default.ensures.fed workers before.2.next before.2.at) refl,
      ),
)
