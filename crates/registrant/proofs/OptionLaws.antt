-- Options that are added one after the other.
use Rattle.std.proofs.Common.{
  ◌≡◌,
  ℕ,
  Bool,
  true,
  false,
  List,
  [],
  ◌∷◌,
  ◌++◌,
  Option,
  Some,
  None,
  refl,
  sym,
  ap,
  ◌∙◌,
  append_assoc,
  append-nil,
  ◌<◌,
  option_map,
  MatchOption,
  Err,
  Bor,
  arith,
  ◌+◌,
  length,
}
use Rattle.std.specs.Prelude.{⊤}
use Rattle.std.specs.List.{list_all}
use Rattle.std.proofs.lemmas.Bool.{and_left}
use Rattle.percent_encoding.specs.Percent.{percent_decode}
use Rattle.message_model.specs.Message.{Opt}
use Rattle.reference_model.specs.References.{before, after}
use Rattle.client_model.specs.Asks.{is_part, are_parts, decoded_parts, options_with}
use Rattle.registrant.specs.declared.parts.PartBad.{PartBad}
use Rattle.registrant.specs.declared.parts.PartBad.TheVariants as why
use Rattle.registrant.specs.Parts.{IsDecoded, Adds, parts_left}
use Rattle.registrant.proofs.UriLaws.{parts_cut}

-- options of a number that began as these, where values are left of all of them, each of which has
-- to pass a test
pub record IsAdding
    (test : List ℕ → Bool)
    (number : ℕ)
    (before now : List Opt)
    (all left : List (List ℕ))
    : Type 0 where
  pub added : now ++ options_with number left ≡ before ++ options_with number all
  pub passes : list_all test all ≡ list_all test left

pub adding_first : (test : List ℕ → Bool) (number : ℕ) (before : List Opt)
    (all : List (List ℕ))
    → IsAdding test number before before all all
adding_first test number before all = record { added = refl; passes = refl }

pub adding_step : (test : List ℕ → Bool) (number : ℕ) (before now : List Opt)
    (all left more : List (List ℕ)) (v : List ℕ)
    → left ≡ v ∷ more
    → test v ≡ true
    → IsAdding test number before now all left
    → IsAdding test number before (now ++ (number, v) ∷ []) all more
adding_step test number before now all left more v steps good adding = record {
  added =
      append_assoc now ((number, v) ∷ []) (options_with number more)
      ∙ (sym (ap (λ (l : List (List ℕ)). now ++ options_with number l) steps)
      ∙ adding.added);
  passes = adding.passes ∙ (ap (list_all test) steps ∙ rw good refl);
}

pub adding_end : (test : List ℕ → Bool) (number : ℕ) (before now : List Opt)
    (all left : List (List ℕ))
    → left ≡ []
    → IsAdding test number before now all left
    → (list_all test all ≡ true) × (now ≡ before ++ options_with number all)
adding_end test number before now all left none adding = (
  adding.passes ∙ ap (list_all test) none,
  sym (append-nil now)
      ∙ (sym (ap (λ (l : List (List ℕ)). now ++ options_with number l) none) ∙ adding.added),
)

pub adding_bad : (test : List ℕ → Bool) (number : ℕ) (before now : List Opt)
    (all left more : List (List ℕ)) (v : List ℕ)
    → left ≡ v ∷ more
    → test v ≡ false
    → IsAdding test number before now all left
    → list_all test all ≡ false
adding_bad test number before now all left more v steps bad adding =
    adding.passes ∙ (ap (list_all test) steps ∙ and_left (test v) (list_all test more) bad)

-- a part that gives no option
pub adds_bad : (number : ℕ) (part : List ℕ) (values : List (List ℕ)) (before now : List Opt)
    (bad : PartBad)
    → IsDecoded part (Err bad)
    → (is_part (percent_decode part) ≡ false → are_parts values ≡ false)
    → Adds {A = Unit {0}} number (are_parts values) values before (Err bad) now
adds_bad number part values before now why.Part decoded all = all decoded
adds_bad number part values before now why.Starved decoded all = tt

-- the parts of what is left of a text, of which one was cut off
pub cut_steps : (mark : ℕ) (left : Option (Bor (List ℕ))) (text : Bor (List ℕ))
    (part : List ℕ)
    (more : Option (List ℕ))
    → left ≡ Some text
    → part ≡ before mark text.now
    → more ≡ after mark text.now
    → decoded_parts (parts_left mark (option_map (λ (t : Bor (List ℕ)). t.now) left))
    ≡ percent_decode part ∷ decoded_parts (parts_left mark more)
cut_steps mark left text part more e p m =
    rw (e, p, m) (ap decoded_parts (parts_cut mark text.now))

-- how much is left of a text: nothing, or its octets and its end
abbrev pub size_left : Option (List ℕ) → ℕ
size_left None = 0
size_left (Some text) = 1 + length text

pub cut_smaller : (left : Option (Bor (List ℕ))) (text : Bor (List ℕ))
    (more : Option (Bor (List ℕ)))
    → left ≡ Some text
    → MatchOption more ⊤ (λ rest. length rest.now < length text.now)
    → size_left (option_map (λ (t : Bor (List ℕ)). t.now) more)
    < size_left (option_map (λ (t : Bor (List ℕ)). t.now) left)
cut_smaller left text None e h = rw e (omega arith)
cut_smaller left text (Some rest) e h = rw e (omega (arith, h))
