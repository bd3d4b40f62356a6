-- What precedes the path of a reference when paths are merged (RFC 3986 section 5.2.3).
use Rattle.std.specs.Prelude.{ℕ, ◌&&◌, List, [], ◌∷◌, is_some, if◌then◌else◌}
use Rattle.link_model.specs.Characters.{slash, is_empty}
use Rattle.reference_model.specs.References.{Components}
use Rattle.reference_model.specs.Resolution.{up_to_last_slash}

-- Returns a slash if the base has an authority and no path, and otherwise its path up to its last
-- slash.
abbrev pub front_of : Components → List ℕ
front_of base =
    if is_some base.authority && is_empty base.path then slash ∷ [] else up_to_last_slash base.path
