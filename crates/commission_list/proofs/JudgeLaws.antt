-- What a line asks for.
use Rattle.std.proofs.Common.{
  ◌≡◌,
  ℕ,
  false,
  true,
  is_some,
  Bor,
  List,
  [],
  ◌∷◌,
  Option,
  Some,
  None,
  Result,
  Ok,
  Err,
  refl,
  sym,
  ap,
  subst,
  ◌∙◌,
}
use Rattle.std.specs.Prelude.{◌==◌, position, option_map}
use Rattle.std.specs.Str.{is_utf8, IsUtf8}
use Rattle.std.proofs.lemmas.Bool.{false_from_ne_true}
use Rattle.std.proofs.lemmas.Str.{IsUtf8-from_is_utf8, is_utf8-from_IsUtf8}
use Rattle.line_model.specs.Lines.{space, fields}
use Rattle.trace_text.specs.Fields.{fields_of_cut}
use Rattle.trace_text.proofs.FieldCuts.{one_field, first_field}
use Rattle.client_model.specs.declared.asks.Ask.{Ask}
use Rattle.client_model.specs.Asks.{registration}
use Rattle.commission_list.specs.declared.judging.AskLine.{AskLine}
use Rattle.commission_list.specs.declared.judging.AskLine.TheVariants as bad
use Rattle.commission_list.specs.declared.judging.LineFault.{LineFault}
use Rattle.commission_list.specs.Lists.{IsJudged, if_based, asked, asked_of, two_of}

-- ---- a URI

pub text_other : (uri body : List ℕ) → (IsUtf8 uri → ⊥) → asked uri body ≡ Err bad.Ask
unfolding asked
text_other uri body never =
    let other : is_utf8 uri ≡ false =
    false_from_ne_true (is_utf8 uri) (λ t. never (IsUtf8-from_is_utf8 uri t)) in
    rw other refl

asked_text : (uri body : List ℕ)
    → IsUtf8 uri
    → asked uri body ≡ if_based (registration uri body)
unfolding asked
asked_text uri body utf8 = rw (is_utf8-from_IsUtf8 uri utf8) refl

-- an ask was made of it
pub text_asked : (uri text body : List ℕ) (ask : Ask) (r : Result Ask LineFault)
    → text ≡ uri
    → IsUtf8 uri
    → registration text body ≡ Ok ask
    → IsJudged r (if_based (Ok ask))
    → IsJudged r (asked uri body)
text_asked uri text body ask r same utf8 made judged =
    subst (λ (x : Result Ask AskLine). IsJudged r x)
    (sym (asked_text uri body utf8
    ∙ ap if_based (ap (λ (t : List ℕ). registration t body) (sym same) ∙ made)))
    judged

-- ---- fields

-- a text has a first field
fields_first : (text : List ℕ)
    → (x : List ℕ) × (xs : List (List ℕ)) × (fields text ≡ x ∷ xs)
fields_first text = by (position (λ b. b == space) text) refl
  where
    by : (p : Option ℕ)
        → p ≡ position (λ b. b == space) text
        → (x : List ℕ) × (xs : List (List ℕ)) × (fields text ≡ x ∷ xs)
    by None e = (text, [], one_field text e)
    by (Some at) e = (_, _, first_field text at e)

too_many : (line uri body : List ℕ) (r : Option (List ℕ × List ℕ))
    → fields line ≡ uri ∷ fields body
    → fields body ≡ fields_of_cut body r
    → is_some r ≡ true
    → asked_of (two_of (fields line)) ≡ Err bad.Form
too_many line uri body None first second more = absurd cc
too_many line uri body (Some p) first second more =
    let third = fields_first p.1 in
    ap (λ (l : List (List ℕ)). asked_of (two_of l))
    (first ∙ ap (λ (l : List (List ℕ)). uri ∷ l) (second
    ∙ ap (λ (l : List (List ℕ)). p.0 ∷ l) third.2))

-- what is cut, by what is lent of it
abbrev pub cut_parts : Option (Bor (List ℕ) × Bor (List ℕ)) → Option (List ℕ × List ℕ)
cut_parts r = option_map (λ p. (p.0.now, p.1.now)) r

is_cut : (r : Option (Bor (List ℕ) × Bor (List ℕ)))
    → is_some r ≡ true
    → is_some (cut_parts r) ≡ true
is_cut None e = e
is_cut (Some p) e = refl

-- a line of more than two fields
pub more_fields : (line uri body : List ℕ) (r : Option (Bor (List ℕ) × Bor (List ℕ)))
    → fields line ≡ uri ∷ fields body
    → fields body ≡ fields_of_cut body (cut_parts r)
    → is_some r ≡ true
    → asked_of (two_of (fields line)) ≡ Err bad.Form
more_fields line uri body r first second more =
    too_many line uri body (cut_parts r) first second (is_cut r more)
