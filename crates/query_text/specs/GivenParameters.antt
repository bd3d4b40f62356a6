-- What parameters give.
use Rattle.std.specs.Prelude.{
  ℕ,
  List,
  [],
  ◌∷◌,
  ◌++◌,
  bytes_eq,
  Option,
  None,
  Some,
  if◌then◌else◌,
  unwrap_or,
}
use Rattle.rd_base.specs.declared.attributes.Pair.{Pair}
use Rattle.rd_base.specs.declared.parameters.RegParams.{RegParams}
use Rattle.rd_base.specs.declared.parameters.UpdateParams.{UpdateParams}
use Rattle.record_model.specs.Faults.{or_else}
use Rattle.record_model.specs.Options.{value_named}
use Rattle.record_model.specs.Parameters.{
  ep,
  sector,
  lifetime,
  base,
  default_lifetime,
  given_lifetime,
  extra_attributes,
}
use Rattle.query_text.specs.declared.given_parameters.Given.{Given}
use Rattle.query_text.specs.Numbers.{lifetime_in}

-- What parameters give: the values with a meaning of their own, and the others as attributes.
pub record GivenValues : Type 0 where
  pub ep : Option (List ℕ)
  pub sector : Option (List ℕ)
  pub lifetime : Option ℕ
  pub base : Option (List ℕ)
  pub attributes : List Pair

-- Returns what was stored.
abbrev pub values_in : Given → GivenValues
values_in given = record {
  ep = given.ep;
  sector = given.sector;
  lifetime = given.lifetime;
  base = given.base;
  attributes = given.attributes.items;
}

-- Returns what parameters give.
unfoldable pub values_of : List (List ℕ) → GivenValues
values_of queries = record {
  ep = value_named ep queries;
  sector = value_named sector queries;
  lifetime = given_lifetime queries;
  base = value_named base queries;
  attributes = extra_attributes queries;
}

-- What no parameters give.
abbrev pub nothing_given : GivenValues
nothing_given = record { ep = None; sector = None; lifetime = None; base = None; attributes = [] }

-- Returns what is given with one more parameter.
unfoldable pub given_with : GivenValues → List ℕ → List ℕ → GivenValues
given_with g name value =
    if bytes_eq name ep then record {
      ep = or_else g.ep (Some value);
      sector = g.sector;
      lifetime = g.lifetime;
      base = g.base;
      attributes = g.attributes;
    }
    else (if bytes_eq name sector then record {
      ep =
          g.ep;
      sector =
          or_else g.sector (Some value);
      lifetime =
          g.lifetime;
      base = g.base;
      attributes = g.attributes;
    }
    else (if bytes_eq name lifetime then record {
      ep =
          g.ep;
      sector =
          g.sector;
      lifetime =
          or_else g.lifetime (lifetime_in value);
      base =
          g.base;
      attributes = g.attributes;
    }
    else (if bytes_eq name base then record {
      ep =
          g.ep;
      sector =
          g.sector;
      lifetime =
          g.lifetime;
      base = or_else g.base (Some value);
      attributes = g.attributes;
    }
    else record {
      ep = g.ep;
      sector = g.sector;
      lifetime = g.lifetime;
      base = g.base;
      attributes =
          g.attributes
          ++ (record { name = name; value = value } ∷ []);
    })))

-- Returns the parameters of a registration that give this.
abbrev pub registration_of : GivenValues → RegParams
registration_of g = record {
  name = record { ep = unwrap_or g.ep []; sector = g.sector };
  lt = unwrap_or g.lifetime default_lifetime;
  base = g.base;
  attrs = g.attributes;
}

-- Returns the parameters of an update that give this.
abbrev pub update_of : GivenValues → UpdateParams
update_of g = record { lt = g.lifetime; base = g.base; attrs = g.attributes }
