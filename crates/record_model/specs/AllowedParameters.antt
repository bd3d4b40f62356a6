-- Which parameters a registration and an update may have (RFC 9176 sections 5 and 5.3.1).
use Rattle.std.specs.Prelude.{◌≡◌, ℕ, true, false, ◌<◌, ◌≤◌, ◌^◌, List, length, IfSome}
use Rattle.std.specs.List.{AllByRecursion}
use Rattle.rd_base.specs.declared.attributes.Pair.{Pair}
use Rattle.rd_base.specs.declared.parameters.RegParams.{RegParams}
use Rattle.rd_base.specs.declared.parameters.UpdateParams.{UpdateParams}
use Rattle.record_model.specs.Options.{is_among}
use Rattle.record_model.specs.Parameters.{
  own_names,
  max_name,
  has_control,
  is_base,
  is_link_local,
  is_extra_name,
}

-- An allowed name of an endpoint or a sector: 1 to 63 octets without a control character.
pub record IsAllowedName (text : List ℕ) : Type 0 where
  pub filled : 0 < length text
  pub short : length text ≤ max_name
  pub printable : has_control text ≡ false

-- An allowed lifetime: a number of seconds of 32 bits, and not 0.
pub record IsAllowedLifetime (seconds : ℕ) : Type 0 where
  pub lasting : 0 < seconds
  pub small : seconds < 2 ^ 32

-- An allowed extra attribute: a name that is not refused and has no meaning of its own, and a value
-- without a control character.
pub record IsAllowedAttribute (pair : Pair) : Type 0 where
  pub name : is_extra_name pair.name ≡ true
  pub extra : is_among own_names pair.name ≡ false
  pub printable : has_control pair.value ≡ false

-- The allowed parameters of a registration. A base that is given does not have a link-local
-- address.
pub record AreAllowed (params : RegParams) : Type 0 where
  pub ep : IsAllowedName params.name.ep
  pub sector : IfSome params.name.sector IsAllowedName
  pub lt : IsAllowedLifetime params.lt
  pub base : IfSome params.base (λ base. is_base base ≡ true)
  pub global : IfSome params.base (λ base. is_link_local base ≡ false)
  pub attrs : AllByRecursion IsAllowedAttribute params.attrs

-- The allowed parameters of an update.
pub record IsAllowedChange (change : UpdateParams) : Type 0 where
  pub lt : IfSome change.lt IsAllowedLifetime
  pub base : IfSome change.base (λ base. is_base base ≡ true)
  pub global : IfSome change.base (λ base. is_link_local base ≡ false)
  pub attrs : AllByRecursion IsAllowedAttribute change.attrs
