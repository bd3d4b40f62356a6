use Rattle.std.proofs.Common.{◌≡◌, ℕ, List, ◌++◌, true, false, sym, ap, ◌∙◌}
use Rattle.record_model.specs.Bodies.{is_uri}
use Rattle.ref_resolve.specs.ComponentsOfParts.{components_of}
use Rattle.registration.proofs.ReferenceLaws.{reads, reads_uri, reads_not, stays, is_resolved}
use Rattle.registration.proofs.references.refer.Goals as goal

pub returns-in_default : goal.returns-in_default
returns-in_default c = reads_not c.args.text.now (λ k h. c.in_default.ensures.only k h)

pub returns-then-is_uri : goal.returns-then-is_uri
returns-then-is_uri c =
    let text = c.args.text.now in
    let found = c.in-Ok.ensures.found in
    let uri : is_uri text ≡ true =
    reads_uri text (components_of c.in-Ok.reference) found
    ∙ sym c.is_uri.ensures
    ∙ c.if-is_uri.true in
    record {
      reference = reads text (components_of c.in-Ok.reference) found;
      scheme = uri;
      text =
          λ spelled h.
          c.in_ok-push_str.ensures.bytes
          ∙ ap (λ (t : List ℕ). t ++ text) c.clear.ensures.bytes
          ∙ sym (stays spelled text uri);
    }

pub returns : goal.returns
returns c =
    let text = c.args.text.now in
    let found = c.in-Ok.ensures.found in
    let uri : is_uri text ≡ false =
    reads_uri text (components_of c.in-Ok.reference) found
    ∙ sym c.is_uri.ensures
    ∙ c.if-is_uri.false in
    record {
      reference = reads text (components_of c.in-Ok.reference) found;
      scheme = uri;
      text =
          λ spelled h.
          c.in_ok-resolve_into.ensures.texts spelled text h found
          ∙ sym (is_resolved spelled text uri);
    }
