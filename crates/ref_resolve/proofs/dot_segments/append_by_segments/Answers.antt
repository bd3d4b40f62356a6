-- The path begins after what stood there, which stays.
use Rattle.std.proofs.Common.{sym, ap, ◌∙◌, ◌||◌, subst}
use Rattle.std.specs.Str.{IsUtf8}
use Rattle.std.specs.String.{string_bytes}
use Rattle.std.proofs.lemmas.Str.{IsUtf8-string_bytes}
use Rattle.link_model.specs.Characters.{slash, is_empty}
use Rattle.reference_model.specs.References.{begins_with}
use Rattle.ref_resolve.proofs.PathGrowth.{front_kept, dots_left_out}
use Rattle.ref_resolve.proofs.dot_segments.append_by_segments.Goals as goal
use Rattle.reference_model.proofs.ReferenceCuts.{from_first_fits}

pub append_segments-requires-clause-utf8 : goal.append_segments-requires-clause-utf8
append_segments-requires-clause-utf8 c =
    let kept =
    front_kept (string_bytes c.args.text.now) c.as_bytes-start.result.now
    c.split_from.result.0.now (string_bytes c.push_str.new.self)
    c.as_bytes-start.ensures.value c.in_ok-push_str.ensures.bytes in
    subst IsUtf8 (sym kept) (IsUtf8-string_bytes c.args.text.now)

pub append_segments-requires-clause-slash : goal.append_segments-requires-clause-slash
append_segments-requires-clause-slash c =
    ap (λ t. is_empty t || begins_with slash t) c.split_from.ensures.from
    ∙ from_first_fits c.without_leading_dots-path.result.now

pub returns : goal.returns
returns c =
    dots_left_out c.append_segments.result (string_bytes c.args.text.now)
    c.as_bytes-start.result.now c.args.path.now c.without_leading_dots-path.result.now
    c.split_from.result.0.now c.split_from.result.1.now (string_bytes c.push_str.new.self)
    (string_bytes c.append_segments.new.text)
    c.without_leading_dots-path.ensures.same c.without_leading_dots-path.ensures.first
    c.split_from.ensures.before c.split_from.ensures.from c.as_bytes-start.ensures.value
    c.in_ok-push_str.ensures.bytes
    c.append_segments.ensures.front c.append_segments.ensures.path
