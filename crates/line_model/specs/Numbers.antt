-- Numbers in a trace: decimal, with no leading zero, up to a limit.
use Rattle.std.specs.Prelude.{
  ◌≡◌,
  ℕ,
  ◌≤◌,
  ◌&&◌,
  List,
  Option,
  Some,
  None,
  if◌then◌else◌,
  nat_le,
  bytes_eq,
  decimal,
}
use Rattle.std.specs.Str.Parse.{digits_value}
use Rattle.line_model.specs.declared.limits.TheConstants.{
  MAX_WORKER,
  MAX_MOMENT,
  MAX_WORD,
  MAX_FIRST,
}

-- The greatest number of a worker.
abbrev pub max_worker : ℕ
max_worker = MAX_WORKER

-- The greatest moment of a line, in milliseconds.
abbrev pub max_moment : ℕ
max_moment = MAX_MOMENT

-- The greatest random word of an `in` or a `tick`.
abbrev pub max_word : ℕ
max_word = MAX_WORD

-- The greatest number above which a run may begin.
abbrev pub max_first : ℕ
max_first = MAX_FIRST

-- The decimal text of a number within the limit.
pub record IsNumber (limit : ℕ) (text : List ℕ) (n : ℕ) : Type 0 where
  pub printed : text ≡ decimal n
  pub within : n ≤ limit

-- Returns the number that a text prints in decimal, if it prints one within the limit.
unfoldable pub number_of : ℕ → List ℕ → Option ℕ
number_of limit text =
    let n = digits_value 10 text in
    if nat_le n limit && bytes_eq text (decimal n) then Some n else None
