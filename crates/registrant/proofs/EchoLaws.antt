-- Options with one more behind them.
use Rattle.std.proofs.Common.{
  ◌≡◌,
  ℕ,
  ◌≤◌,
  false,
  List,
  [],
  ◌∷◌,
  ◌++◌,
  length,
  Result,
  Ok,
  Err,
  OnOk,
}
use Rattle.std.specs.Result.{is_err}
use Rattle.message_model.specs.Message.{Opt, end_number, last_number, longest_value}
use Rattle.client_model.specs.Requests.{CanFollow}

-- one that is not below the last may follow
pub follow_push : (before : ℕ) (options : List Opt) (option : Opt)
    → CanFollow before options
    → end_number before options ≤ option.0
    → option.0 ≤ last_number
    → length option.1 ≤ longest_value
    → CanFollow before (options ++ option ∷ [])
follow_push before [] option follow ascends number value = (ascends, number, value, tt)
follow_push before (o ∷ options) option follow ascends number value = (
  follow.0,
  follow.1,
  follow.2,
  follow_push o.0 options option follow.3 ascends number value,
)

-- what holds of a call that did not fail
pub ok_when : {A E : Type 0} (r : Result A E) (P : Type 0) → OnOk r P → is_err r ≡ false → P
ok_when (Ok x) P h e = h
ok_when (Err f) P h e = absurd cc
