-- What is refused for its text, computed.
use Rattle.std.proofs.Common.{
  ◌≡◌,
  ℕ,
  ◌+◌,
  List,
  [],
  ◌∷◌,
  ◌++◌,
  codes,
  decimal,
  replicate,
  refl,
  Some,
  None,
}
use Rattle.std.specs.List.{concat}
use Rattle.history_model.specs.declared.entries.Entry.{Entry}
use Rattle.history_model.specs.declared.refusals.Refusal.TheVariants as refusal
use Rattle.history_model.specs.Refusals.{change_refusal}
use Rattle.history_model.proofs.HistoryLiterals.{history_on_literals}
use Rattle.history_model.proofs.Samples.{device, registers, replaces}

-- a thousand links to a base of 200 octets
abbrev thousand_links : List ℕ
thousand_links = codes "<>" ++ concat (replicate 999 (codes ",<>"))

abbrev long_base : List ℕ
long_base = codes "coap://" ++ replicate 193 104

-- a registration of them, which weighs 203,240
abbrev long : ℕ → Entry
long n =
    registers (1000 + n) device ((codes "ep=n" ++ decimal n) ∷ (codes "base=" ++ long_base) ∷ [])
    thousand_links

-- after five of them a sixth is refused
sixth_text :
    change_refusal 0 (long 1 ∷ long 2 ∷ long 3 ∷ long 4 ∷ long 5 ∷ []) (long 6) ≡ Some refusal.Text
unfolding history_on_literals
sixth_text = refl

-- one of the five may be given as many other links, and not twice as many
abbrev five : List Entry
five = long 1 ∷ long 2 ∷ long 3 ∷ long 4 ∷ long 5 ∷ []

replaced_text : change_refusal 0 five (replaces 2000 device 5 thousand_links) ≡ None
unfolding history_on_literals
replaced_text = refl

doubled_text :
    change_refusal 0 five (replaces 2000 device 5 (thousand_links ++ codes "," ++ thousand_links))
    ≡ Some refusal.Text
unfolding history_on_literals
doubled_text = refl

-- and one of the five may come again
again_text : change_refusal 0 (long 1 ∷ long 2 ∷ long 3 ∷ long 4 ∷ long 5 ∷ []) (long 5) ≡ None
unfolding history_on_literals
again_text = refl
