-- The parts of the answer, one after the other.
use Rattle.std.proofs.Common.{ℕ, List, Option, ◌++◌, option_map, refl, sym, ap, ◌∙◌, append_assoc}
use Rattle.std.specs.String.{string_bytes}
use Rattle.reference_model.specs.References.{scheme_text, authority_text, query_text}
use Rattle.reference_model.specs.Resolution.{resolution}
use Rattle.ref_resolve.specs.ComponentsOfParts.{components_of}
use Rattle.ref_resolve.proofs.MergedPaths.{appended, fragment_kept, resolved_of}
use Rattle.ref_resolve.proofs.resolution.resolve_into.Goals as goal

pub returns-clause-value : goal.returns-clause-value
returns-clause-value c =
    let base = components_of c.args.base.now in
    let reference = components_of c.args.reference.now in
    let t0 = string_bytes c.reserve.new.self in
    let scheme = scheme_text (resolution base reference).scheme in
    let authority = authority_text (resolution base reference).authority in
    let t2 = string_bytes c.append_front.new.text in
    let t3 = string_bytes c.append_path.new.text in
    let t4 = string_bytes c.append_query.new.text in
    appended (resolution base reference) reference.fragment t0 (t0 ++ scheme) t2 t3 t4
    (string_bytes c.append_fragment.new.text)
    (c.in_ok-reserve.ensures.bytes ∙ c.clear.ensures.bytes)
    refl
    (c.in_ok-append_front.ensures
    ∙ ap (λ (s : Option (List ℕ)).
    t0
    ++ (scheme_text s
    ++ authority_text
    (option_map (λ part. part.now) c.target_authority-authority.result)))
    c.target_scheme-scheme.ensures
    ∙ ap (λ (a : Option (List ℕ)). t0 ++ (scheme ++ authority_text a))
    c.target_authority-authority.ensures
    ∙ sym (append_assoc t0 scheme authority))
    c.in_ok-append_path.ensures
    (c.in_ok-append_query.ensures
    ∙ ap (λ (q : Option (List ℕ)). t3 ++ query_text q) c.target_query-query.ensures)
    c.in_ok-append_fragment.ensures (sym (fragment_kept base reference))

pub returns-clause-texts : goal.returns-clause-texts
returns-clause-texts c =
    λ b r x y.
    resolved_of b r (components_of c.args.base.now) (components_of c.args.reference.now)
    (string_bytes c.append_fragment.new.text) x y (returns-clause-value c)
