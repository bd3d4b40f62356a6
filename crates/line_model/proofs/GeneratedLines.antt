-- How many lines a generated trace has.
use Rattle.std.proofs.Common.{
  ◌≡◌,
  ℕ,
  zero,
  suc,
  ◌+◌,
  ◌*◌,
  ◌/◌,
  ◌%◌,
  ◌==◌,
  Bool,
  true,
  false,
  cond,
  [],
  ◌∷◌,
  length,
  refl,
  sym,
  ◌∙◌,
  arith,
}
use Rattle.std.proofs.lemmas.Bool.{eqb-true, eq-eqb, false≢true}
use Rattle.std.proofs.lemmas.List.{length-append}
use Rattle.line_model.specs.declared.lines.Line.{Line}
use Rattle.line_model.specs.declared.lines.Line.TheVariants as line
use Rattle.line_model.specs.Generator.{
  pace,
  divides,
  observer_lines,
  tick_lines,
  device_lines,
  lines_up_to,
  generated_lines,
}

-- a line or none
abbrev one_if : Bool → ℕ
one_if b = cond b 1 0

-- how often a number divides the numbers up to another
counted_ten : (n : ℕ) → suc n / 10 ≡ n / 10 + one_if (divides 10 (suc n))
counted_ten n = by (suc n % 10 == 0) refl
  where
    by : (b : Bool) → (suc n % 10 == 0) ≡ b → suc n / 10 ≡ n / 10 + one_if b
    by true e = let h : suc n % 10 ≡ 0 = eqb-true (suc n % 10) 0 e in omega (arith, h)
    by false e =
        omega (arith, (λ (h : suc n % 10 ≡ 0). false≢true (sym e ∙ eq-eqb (suc n % 10) 0 h)))

counted_hundred : (n : ℕ) → suc n / 100 ≡ n / 100 + one_if (divides 100 (suc n))
counted_hundred n = by (suc n % 100 == 0) refl
  where
    by : (b : Bool) → (suc n % 100 == 0) ≡ b → suc n / 100 ≡ n / 100 + one_if b
    by true e = let h : suc n % 100 ≡ 0 = eqb-true (suc n % 100) 0 e in omega (arith, h)
    by false e =
        omega (arith, (λ (h : suc n % 100 ≡ 0). false≢true (sym e ∙ eq-eqb (suc n % 100) 0 h)))

-- a line where a test passes
one_if-length : (b : Bool) (l : Line) → length (cond b (l ∷ []) []) ≡ one_if b
one_if-length true l = refl
one_if-length false l = refl

-- the lines of a device
device_lines-length : (workers i : ℕ)
    → length (device_lines workers i) ≡ 2 + one_if (divides 10 i) + one_if (divides 100 i)
device_lines-length workers i =
    let both = length-append (observer_lines workers i) (tick_lines workers i) in
    let observers : length (observer_lines workers i) ≡ one_if (divides 10 i) =
    one_if-length (divides 10 i) _ in
    let ticks : length (tick_lines workers i) ≡ one_if (divides 100 i) =
    one_if-length (divides 100 i) _ in
    omega (arith, both, observers, ticks)

-- those of the devices up to a number
lines_up_to-length : (workers n : ℕ) → length (lines_up_to workers n) ≡ 2 * n + n / 10 + n / 100
lines_up_to-length workers zero = refl
lines_up_to-length workers (suc n) =
    let h = lines_up_to-length workers n in
    let all = length-append (lines_up_to workers n) (device_lines workers (suc n)) in
    let own = device_lines-length workers (suc n) in
    let tens = counted_ten n in
    let hundreds = counted_hundred n in
    omega (arith, h, all, own, tens, hundreds)

-- two lines a device, one more each tenth, one more each hundredth, and the last
pub generated_lines-length : (devices workers : ℕ)
    → length (generated_lines devices workers) ≡ 2 * devices + devices / 10 + devices / 100 + 1
unfolding generated_lines
generated_lines-length devices workers =
    let all =
    length-append (lines_up_to workers devices)
    (line.Tick 0 (record { 0 = pace * devices + 10 }) 0 ∷ []) in
    let h = lines_up_to-length workers devices in
    omega (arith, all, h)
