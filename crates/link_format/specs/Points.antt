-- The points of the grammar, under the names that the code gives them.
use Rattle.link_format.specs.declared.points.Point.{Point}
use Rattle.link_format.specs.declared.points.Point.TheVariants as code
use Rattle.link_model.specs.DocumentReading as grammar

-- Returns the point of the grammar to which the code gives this name.
abbrev pub point_in : Point → grammar.Point
point_in code.Beginning = grammar.at_beginning
point_in code.Link = grammar.at_link
point_in code.Target = grammar.at_target
point_in code.AfterPart = grammar.after_part
point_in code.Name = grammar.at_name
point_in code.WithinName = grammar.within_name
point_in code.AfterName = grammar.after_name
point_in code.Value = grammar.at_value
point_in code.Token = grammar.in_token
point_in code.Quotes = grammar.in_quotes
point_in code.AfterBackslash = grammar.after_backslash
