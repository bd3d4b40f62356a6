-- A text cut at its first separator: both sides are text, and are what the definition gives.
use Rattle.std.proofs.Common.{
  ◌≡◌,
  ℕ,
  ◌<◌,
  ◌+◌,
  List,
  length,
  take,
  drop,
  Option,
  Some,
  sym,
  ap,
  ◌∙◌,
  add-one,
  arith,
}
use Rattle.std.proofs.Math.Seq.{take-length}
use Rattle.std.specs.Prelude.{slice_range, ◌-◌}
use Rattle.std.specs.Str.{IsUtf8, IsCharBoundary}
use Rattle.std.proofs.lemmas.Str.{IsCharBoundary-after_ascii}
use Rattle.link_format.proofs.CutLemmas.{CutAt, boundary, cut_counted}
use Rattle.link_format.proofs.cuts.cut.Goals as goal

whole_before : (separator n : ℕ) (text : List ℕ) (parts : List ℕ × Option (List ℕ))
    → CutAt separator text n parts
    → n ≡ length text
    → text ≡ parts.0
whole_before separator n text parts c e =
    sym (c.before ∙ ap (λ (m : ℕ). take m text) e ∙ take-length text)

after : (separator n : ℕ) (text : List ℕ) (parts : List ℕ × Option (List ℕ))
    → CutAt separator text n parts
    → n < length text
    → separator < 128
    → IsUtf8 text
    → IsCharBoundary text (n + 1)
after separator n text parts c below low utf8 =
    IsCharBoundary-after_ascii text n utf8 below (let e = c.there below in omega arith)

front : (n : ℕ) (text : List ℕ) → slice_range text 0 n ≡ take n text
front n text = let e : n - 0 ≡ n = omega arith in ap (λ (m : ℕ). take m text) e

back : (separator n : ℕ) (text : List ℕ) (parts : List ℕ × Option (List ℕ))
    → CutAt separator text n parts
    → n < length text
    → Some (drop (n + 1) text) ≡ parts.1
back separator n text parts c below =
    ap (λ (m : ℕ). Some (drop m text)) (add-one n) ∙ sym (c.after below)

pub returns-then-at-text-clause-before : goal.returns-then-at-text-clause-before
returns-then-at-text-clause-before c =
    whole_before c.args.separator _ c.args.text.now _
    (cut_counted c.args.separator c.args.quotes c.as_bytes.result.now c.args.text.now
    c.octets_before-at.result c.octets_before-at.ensures.value c.as_bytes.ensures.value)
    (omega arith)

pub returns-then-at-text-clause-after : goal.returns-then-at-text-clause-after
returns-then-at-text-clause-after c =
    sym ((cut_counted c.args.separator c.args.quotes c.as_bytes.result.now c.args.text.now
    c.octets_before-at.result c.octets_before-at.ensures.value
    c.as_bytes.ensures.value).whole (omega arith))

pub range-requires-clause-end_boundary : goal.range-requires-clause-end_boundary
range-requires-clause-end_boundary c =
    boundary c.args.separator c.octets_before-at.result c.args.text.now _
    (cut_counted c.args.separator c.args.quotes c.as_bytes.result.now c.args.text.now
    c.octets_before-at.result c.octets_before-at.ensures.value c.as_bytes.ensures.value)
    c.requires

pub range_from-requires : goal.range_from-requires
range_from-requires c = λ _.
    after c.args.separator c.octets_before-at.result c.args.text.now _
    (cut_counted c.args.separator c.args.quotes c.as_bytes.result.now c.args.text.now
    c.octets_before-at.result c.octets_before-at.ensures.value c.as_bytes.ensures.value)
    (omega arith) c.requires c.utf8.text

pub returns-clause-before : goal.returns-clause-before
returns-clause-before c =
    c.range.ensures.value
    ∙ front c.octets_before-at.result c.args.text.now
    ∙ sym ((cut_counted c.args.separator c.args.quotes c.as_bytes.result.now c.args.text.now
    c.octets_before-at.result c.octets_before-at.ensures.value
    c.as_bytes.ensures.value).before)

pub returns-clause-after : goal.returns-clause-after
returns-clause-after c =
    ap (λ (t : List ℕ). Some t) c.range_from.ensures.value
    ∙ back c.args.separator c.octets_before-at.result c.args.text.now _
    (cut_counted c.args.separator c.args.quotes c.as_bytes.result.now c.args.text.now
    c.octets_before-at.result c.octets_before-at.ensures.value c.as_bytes.ensures.value)
    (omega arith)
