-- The views of links, parameters and values in contracts.
use Rattle.std.specs.Prelude.{ℕ, List, option_map}
use Rattle.link_model.specs.Documents.{Parameter, Link}
use Rattle.link_format.specs.declared.links.LinkRef.{LinkRef}
use Rattle.link_format.specs.declared.parameters.Param.{Param}
use Rattle.link_format.specs.declared.values.Value.{Value}
use Rattle.link_format.specs.declared.values.Value.TheVariants as value
use Rattle.link_format.specs.LinksOfText.{parameters_in}

-- Returns the link that an item of the iterator represents.
abbrev pub link_seen : LinkRef → Link
link_seen l = record { target = l.target.now; parameters = parameters_in l.params.now }

-- Returns the parameter that an item of the iterator represents.
abbrev pub parameter_seen : Param → Parameter
parameter_seen p = record { name = p.name.now; value = option_map (λ text. text.now) p.value }

-- Returns the text of a value, without quotes and escapes.
abbrev pub value_seen : Value → List ℕ
value_seen (value.Written text) = text.now
value_seen (value.Unescaped text) = text
