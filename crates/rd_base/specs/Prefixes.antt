-- What follows the prefix of a text, and prefixes that follow one another.
use Rattle.std.specs.Prelude.{
  ℕ,
  ◌==◌,
  List,
  [],
  ◌∷◌,
  Option,
  Some,
  None,
  option_and_then,
  if◌then◌else◌,
}

-- Returns what follows a prefix, if the text begins with it.
unfoldable pub after_prefix : List ℕ → List ℕ → Option (List ℕ)
after_prefix [] text = Some text
after_prefix (b ∷ prefix) [] = None
after_prefix (b ∷ prefix) (c ∷ text) = if c == b then after_prefix prefix text else None

-- Returns what then follows a further prefix.
infixl 10 ◌then◌
abbrev pub ◌then◌ : Option (List ℕ) → List ℕ → Option (List ℕ)
o then prefix = option_and_then (after_prefix prefix) o
