-- Two octets more are the next word of the sum.
use Rattle.std.proofs.Common.{
  arith,
  ◌≡◌,
  ◌+◌,
  ◌-◌,
  ◌*◌,
  ◌≤◌,
  ℕ,
  List,
  [],
  ◌∷◌,
  length,
  take,
  drop,
  get_or,
  ap,
  ◌∙◌,
}
use Rattle.std.proofs.lemmas.List.{take_rest}
use Rattle.capture_file.specs.Checksums.{ones_sum, sum_of}
use Rattle.capture_file.proofs.checksums.summed.Goals as goal

-- the sum of all is that of the first word and of what stands behind it
two_more : (sum : ℕ) (xs : List ℕ) → 2 ≤ length xs
    → sum_of (ones_sum sum (get_or xs 0 0 * 256 + get_or xs 1 0)) (take (length xs - 2) (drop 2 xs))
    ≡ sum_of sum xs
unfolding sum_of
two_more sum [] h = absurd (omega arith)
two_more sum (x ∷ []) h = absurd (omega arith)
two_more sum (x ∷ y ∷ xs) h = ap (sum_of (ones_sum sum (x * 256 + y))) (take_rest (x ∷ y ∷ xs) 2)

pub words-preserved : goal.words-preserved
words-preserved c =
    rw (c.ones_sum-sum.ensures, c.from.ensures, c.from-in-len2-up.ensures)
    (two_more c.words.sum c.words.rest.now c.in-len2-up.len_at_least ∙ c.words.invariant)
