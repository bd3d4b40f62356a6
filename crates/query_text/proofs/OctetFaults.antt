-- What octets are refused for, from whether they are text and from the name and the value in it.
use Rattle.std.proofs.Common.{◌≡◌, ℕ, Bool, true, false, List, Option, Some, refl, sym, ap, ◌∙◌}
use Rattle.std.specs.Prelude.{if◌then◌else◌}
use Rattle.std.specs.Str.{IsUtf8, is_utf8}
use Rattle.std.proofs.lemmas.Str.{IsUtf8-from_is_utf8, is_utf8-from_IsUtf8}
use Rattle.record_model.specs.declared.readings.Reading.{Reading}
use Rattle.record_model.specs.declared.readings.Why.{Why}
use Rattle.record_model.specs.declared.readings.Why.TheVariants as why
use Rattle.record_model.specs.Options.{option_name, option_value}
use Rattle.query_text.specs.declared.occurrences.Occurred.{Occurred}
use Rattle.query_text.specs.Rules.{named_fault, fault_after}

pub bad_text : (kind : Reading) (occurred : Occurred) (query : List ℕ)
    → ¬ (IsUtf8 query)
    → fault_after kind occurred query ≡ Some why.Utf8
unfolding fault_after
bad_text kind occurred query h = by_test (is_utf8 query) refl
  where
    by_test : (b : Bool)
        → is_utf8 query ≡ b
        → (if is_utf8 query then named_fault kind occurred (option_name query)
        (option_value query) else Some why.Utf8)
        ≡ Some why.Utf8
    by_test true e = absurd (h (IsUtf8-from_is_utf8 query e))
    by_test false e = rw e refl

pub good_text : (kind : Reading) (occurred : Occurred) (query text name value : List ℕ)
    (fault : Option Why)
    → IsUtf8 query
    → text ≡ query
    → name ≡ option_name text
    → value ≡ option_value text
    → fault ≡ named_fault kind occurred name value → fault_after kind occurred query ≡ fault
unfolding fault_after
good_text kind occurred query text name value fault h same is_name is_value is =
    rw (is_utf8-from_IsUtf8 query h)
    (ap (λ (t : List ℕ). named_fault kind occurred (option_name t) (option_value t)) (sym same)
    ∙ (ap (λ (n : List ℕ). named_fault kind occurred n (option_value text)) (sym is_name)
    ∙ (ap (λ (v : List ℕ). named_fault kind occurred name v) (sym is_value) ∙ sym is)))
