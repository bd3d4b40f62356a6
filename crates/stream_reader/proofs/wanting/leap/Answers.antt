use Rattle.std.proofs.Common.{◌≤◌, ◌<◌, ℕ, length, take, sym, subst, ◌∙◌}
use Rattle.stream_model.specs.Judging.{FrontsMore}
use Rattle.stream_reader.proofs.WantingLemmas.{one_front, leap_fronts, wanted_positive}
use Rattle.stream_reader.proofs.wanting.leap.Goals as goal

pub returns-then-wanted-gt-MAX_STREAM_MESSAGE-clause-fronts :
    goal.returns-then-wanted-gt-MAX_STREAM_MESSAGE-clause-fronts
returns-then-wanted-gt-MAX_STREAM_MESSAGE-clause-fronts c =
    λ is_first. one_front is_first c.args.piece.now

pub returns-then-wanted-piece-clause-fronts : goal.returns-then-wanted-piece-clause-fronts
returns-then-wanted-piece-clause-fronts c = λ is_first. one_front is_first c.args.piece.now

pub returns-then-not-has_short_token-clause-fronts :
    goal.returns-then-not-has_short_token-clause-fronts
returns-then-not-has_short_token-clause-fronts c = λ is_first. one_front is_first c.args.piece.now

pub returns-clause-some : goal.returns-clause-some
returns-clause-some c =
    subst (λ (n : ℕ). 0 < n) (sym c.wanted_of-wanted.ensures) (wanted_positive c.args.piece.now)

pub returns-clause-fronts : goal.returns-clause-fronts
returns-clause-fronts c = λ is_first.
    let is = c.wanted_of-wanted.ensures in
    let few = subst (λ (n : ℕ). n ≤ 1152) is c.if-wanted-gt-MAX_STREAM_MESSAGE.false in
    let within = subst (λ (n : ℕ). n ≤ length c.args.piece.now) is c.if-wanted-piece.false in
    let short = sym c.has_short_token.ensures ∙ c.if-not-has_short_token.false in
    subst (λ (n : ℕ). FrontsMore is_first (take n c.args.piece.now)) (sym is)
    (leap_fronts is_first c.args.piece.now few within short)
