-- One segment more, the last one, and none.
use Rattle.std.proofs.Common.{sym, ap, ◌∙◌, ◌||◌, [], ◌∷◌, drop, rules}
use Rattle.std.specs.Prelude.{fold}
use Rattle.std.specs.String.{string_bytes}
use Rattle.link_model.specs.Characters.{slash, is_empty}
use Rattle.reference_model.specs.References.{begins_with}
use Rattle.reference_model.specs.Resolution.{with_closing_slash}
use Rattle.ref_resolve.specs.Paths.{path_with, closed_segments}
use Rattle.ref_resolve.proofs.PathGrowth.{
  one_segment,
  more_segments,
  no_segments,
  then_same,
  grown_last,
  grown_more,
  grown_all,
}
use Rattle.ref_resolve.proofs.dot_segments.append_segments.Goals as goal
use Rattle.reference_model.proofs.ReferenceCuts.{from_first_fits}

pub returns-then-is_empty-clause-path : goal.returns-then-is_empty-clause-path
returns-then-is_empty-clause-path c =
    let one =
    one_segment c.segments.rest.now c.in-Some.after.now c.split_from.result.0.now
    c.split_from.result.1.now c.in-Some.ensures c.split_from.ensures.before
    c.split_from.ensures.from (sym c.is_empty.ensures ∙ c.if-is_empty.true) in
    then_same c.append_last_segment.result
    (drop c.args.start (string_bytes c.append_last_segment.new.text))
    (fold path_with (drop c.args.start (string_bytes c.segments.text))
    (with_closing_slash (c.split_from.result.0.now ∷ [])))
    (fold path_with (drop c.args.start (string_bytes c.args.text.now))
    (closed_segments c.args.path.now)) c.append_last_segment.ensures.path
    (grown_last (drop c.args.start (string_bytes c.segments.text))
    (drop c.args.start (string_bytes c.args.text.now)) c.segments.rest.now
    c.split_from.result.0.now (closed_segments c.args.path.now) one c.segments.invariant.path)

pub segments-preserved : goal.segments-preserved
segments-preserved c =
    let more =
    more_segments c.segments.rest.now c.in-Some.after.now c.split_from.result.0.now
    c.split_from.result.1.now c.in-Some.ensures c.split_from.ensures.before
    c.split_from.ensures.from (sym c.is_empty.ensures ∙ c.if-is_empty.false) in
    record {
      utf8 = search rules;
      slash =
          ap (λ t. is_empty t || begins_with slash t) c.split_from.ensures.from
          ∙ from_first_fits c.in-Some.after.now;
      within = c.in_ok-append_segment.ensures.within;
      front = c.in_ok-append_segment.ensures.front ∙ c.segments.invariant.front;
      path =
          grown_more (drop c.args.start (string_bytes c.segments.text))
          (drop c.args.start (string_bytes c.append_segment.new.text))
          (drop c.args.start (string_bytes c.args.text.now)) c.segments.rest.now
          c.split_from.result.1.now c.split_from.result.0.now (closed_segments c.args.path.now)
          more c.in_ok-append_segment.ensures.path c.segments.invariant.path;
    }

pub returns-clause-path : goal.returns-clause-path
returns-clause-path c =
    grown_all (drop c.args.start (string_bytes c.segments.text))
    (drop c.args.start (string_bytes c.args.text.now)) c.segments.rest.now
    (closed_segments c.args.path.now)
    (no_segments c.segments.rest.now c.segments.invariant.slash c.in_default.ensures)
    c.segments.invariant.path
