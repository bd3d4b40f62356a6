use Rattle.std.proofs.Common.{
  ◌≡◌,
  false,
  List,
  ℕ,
  ◌∷◌,
  ◌++◌,
  [],
  refl,
  ap,
  ◌∙◌,
}
use Rattle.std.specs.Str.{is_utf8}
use Rattle.std.proofs.lemmas.Bool.{false_from_ne_true}
use Rattle.std.proofs.lemmas.Str.{IsUtf8-from_is_utf8, is_utf8-from_IsUtf8}
use Rattle.message_model.specs.Request.{locations_in}
use Rattle.coap_message.specs.Views.{message_in}
use Rattle.coap_options.specs.ValuesLeft.{locations_left}
use Rattle.registrant.proofs.PathLaws.{path_bad, path_more, all_with}
use Rattle.stream_registrant.proofs.meanings.path_of.Goals as goal

pub returns-in_default : goal.returns-in_default
returns-in_default c =
    let octets = c.in-Some.octets.now in
    let no : is_utf8 octets ≡ false =
    false_from_ne_true
    (is_utf8 octets)
    (λ t. c.in_default.ensures.cases.0 (IsUtf8-from_is_utf8 octets t)) in
    let bad =
    path_bad
    c.segments.path
    (locations_left c.segments.octets-iterator)
    (locations_left c.next.new.self)
    (locations_in (message_in c.args.meaning.now.view))
    octets
    c.segments.invariant.0
    c.in-Some.ensures.steps
    no in
    rw bad refl

pub segments-preserved : goal.segments-preserved
segments-preserved c =
    let octets = c.in-Some.octets.now in
    let more =
    path_more
    c.segments.path
    (locations_left c.segments.octets-iterator)
    (locations_left c.next.new.self)
    (locations_in (message_in c.args.meaning.now.view))
    octets
    c.segments.invariant.0
    c.in-Some.ensures.steps in
    let whole =
    all_with
    c.segments.path
    octets
    c.segments.invariant.1
    (is_utf8-from_IsUtf8 octets (assumption (c.in-Ok.ensures.cases))) in
    let text : c.in_ok-segment.segment ≡ octets =
    c.in_ok-segment.ensures.ok ∙ c.in-Ok.ensures.cases.0 in
    let pushed : c.push.new.self ≡ c.segments.path ++ octets ∷ [] =
    c.in_ok-push.ensures.ok ∙ ap (λ (v : List ℕ). c.segments.path ++ v ∷ []) text in
    (rw pushed more, rw pushed whole)
