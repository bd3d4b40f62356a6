-- Which options appeared before another.
use Rattle.std.specs.Prelude.{ℕ, false, ◌||◌, List, bytes_eq}
use Rattle.record_model.specs.Options.{has_named}
use Rattle.record_model.specs.Parameters.{ep, sector, lifetime, base}
use Rattle.record_model.specs.Criteria.{page, count}
use Rattle.query_text.specs.declared.occurrences.Occurred.{Occurred}

-- Returns which of the names have an option among the others.
abbrev pub occurred_of : List (List ℕ) → Occurred
occurred_of others = record {
  ep = has_named ep others;
  sector = has_named sector others;
  lifetime = has_named lifetime others;
  base = has_named base others;
  page = has_named page others;
  count = has_named count others;
}

-- The value for no options.
abbrev pub nothing_occurred : Occurred
nothing_occurred = record {
  ep = false;
  sector = false;
  lifetime = false;
  base = false;
  page = false;
  count = false;
}

-- Returns which names appeared, with one more option.
abbrev pub occurred_with : Occurred → List ℕ → Occurred
occurred_with occurred name = record {
  ep = bytes_eq name ep || occurred.ep;
  sector = bytes_eq name sector || occurred.sector;
  lifetime = bytes_eq name lifetime || occurred.lifetime;
  base = bytes_eq name base || occurred.base;
  page = bytes_eq name page || occurred.page;
  count = bytes_eq name count || occurred.count;
}
