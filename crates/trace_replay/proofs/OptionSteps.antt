-- The words of a command line one after the other: what a word leads to, and what then is left.
use Rattle.std.proofs.Common.{◌≡◌, ℕ, List, [], ◌∷◌, Bool, true, false, Option, Some, None, refl}
use Rattle.std.proofs.Common.{sym, subst, ◌∙◌}
use Rattle.std.proofs.lemmas.Option.{none-some, same_Some}
use Rattle.trace_replay.specs.Fields.{cut}
use Rattle.trace_replay.specs.Options.{joined, words_after}

module _ {A : Type 0} (is_option : List ℕ → Bool) (given : List ℕ → List ℕ → A → Option A) where
  -- no words more
  pub no_more : (o : Option A) → words_after is_option given o [] ≡ o
  unfolding words_after
  no_more None = refl
  no_more (Some asked) = refl

  -- nothing is asked for by words that were refused
  pub refused : (words : List (List ℕ)) → words_after is_option given None words ≡ None
  unfolding words_after
  refused words = refl

  -- a word that is no name
  pub joined_on : (asked : A) (word : List ℕ) (words : List (List ℕ)) → is_option word ≡ false
      → words_after is_option given (Some asked) (word ∷ words)
      ≡ words_after is_option given (joined is_option given (cut 61 word) asked) words
  unfolding words_after
  joined_on asked word [] e =
      rw e (sym (no_more (joined is_option given (cut 61 word) asked)))
  joined_on asked word (value ∷ words) e = rw e refl

  -- a name, and the word after it
  pub named_on : (asked : A) (word value : List ℕ) (words : List (List ℕ))
      → is_option word ≡ true
      → words_after is_option given (Some asked) (word ∷ value ∷ words)
      ≡ words_after is_option given (given word value asked) words
  unfolding words_after
  named_on asked word value words e = rw e refl

  -- a name with no word after it
  pub lone_name : (asked : A) (word : List ℕ) → is_option word ≡ true
      → words_after is_option given (Some asked) (word ∷ []) ≡ None
  unfolding words_after
  lone_name asked word e = rw e refl

  -- what holds before words, and after each option more, holds after them
  module _ (P : A → Type 0)
      (step : (name value : List ℕ) (asked more : A) → P asked → given name value asked ≡ Some more
      → P more) where
    dead : (words : List (List ℕ)) (said : A) → words_after is_option given None words ≡ Some said
        → P said
    dead words said e = absurd (none-some said (sym (refused words) ∙ e))

    joined_kept : (parts : Option (List ℕ × List ℕ)) (asked more : A) → P asked
        → joined is_option given parts asked ≡ Some more → P more
    joined_kept None asked more is e = absurd (none-some more e)
    joined_kept (Some parts) asked more is e = step parts.0 parts.1 asked more is e

    -- after an option more, or none
    goes_on : (o : Option A) (words : List (List ℕ)) (said : A)
        → ((more : A) → o ≡ Some more → P more)
        → ((more : A) → P more → words_after is_option given (Some more) words ≡ Some said
        → P said)
        → words_after is_option given o words ≡ Some said → P said
    goes_on None words said is rest e = dead words said e
    goes_on (Some more) words said is rest e = rest more (is more refl) e

    last : (word : List ℕ) (asked said : A) → P asked
        → words_after is_option given (Some asked) (word ∷ []) ≡ Some said → P said
    last word asked said is e = by (is_option word) refl
      where
        by : (b : Bool) → is_option word ≡ b → P said
        by true name = absurd (none-some said (sym (lone_name asked word name) ∙ e))
        by false other = joined_kept (cut 61 word) asked said is
            (sym (no_more (joined is_option given (cut 61 word) asked))
            ∙ (sym (joined_on asked word [] other) ∙ e))

    next : (word value : List ℕ) (words : List (List ℕ)) (asked said : A) → P asked
        → words_after is_option given (Some asked) (word ∷ value ∷ words) ≡ Some said
        → ((more : A) → P more → words_after is_option given (Some more) words ≡ Some said
        → P said)
        → ((more : A) → P more
        → words_after is_option given (Some more) (value ∷ words) ≡ Some said → P said)
        → P said
    next word value words asked said is e behind beside = by (is_option word) refl
      where
        by : (b : Bool) → is_option word ≡ b → P said
        by true name = goes_on (given word value asked) words said
            (λ more g. step word value asked more is g) behind
            (sym (named_on asked word value words name) ∙ e)
        by false other = goes_on (joined is_option given (cut 61 word) asked) (value ∷ words) said
            (λ more g. joined_kept (cut 61 word) asked more is g) beside
            (sym (joined_on asked word (value ∷ words) other) ∙ e)

    pub kept : (words : List (List ℕ)) (asked said : A) → P asked
        → words_after is_option given (Some asked) words ≡ Some said → P said
    kept [] asked said is e = subst P (same_Some asked said (sym (no_more (Some asked)) ∙ e)) is
    kept (word ∷ []) asked said is e = last word asked said is e
    kept (word ∷ value ∷ words) asked said is e = next word value words asked said is e
        (λ more m h. kept words more said m h) (λ more m h. kept (value ∷ words) more said m h)
