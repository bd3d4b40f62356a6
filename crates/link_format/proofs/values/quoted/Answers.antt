-- The text in quotes is the definition's, reads back, and is of the grammar.
use Rattle.std.proofs.Common.{◌≡◌, ℕ, List, ◌∷◌, [], ◌++◌, flat_map, sym, ap, ◌∙◌}
use Rattle.std.specs.String.{string_bytes}
use Rattle.std.specs.Str.Iter.{chars_rest}
use Rattle.link_model.specs.Characters.{quote_mark}
use Rattle.link_model.specs.Documents.{is_quoted_string}
use Rattle.link_model.specs.Quoting.{escaped_character, unquoted}
use Rattle.link_model.proofs.QuotingLaws.{unquoted-quoted, is_quoted_string-quoted}
use Rattle.link_format.proofs.ValueLemmas.{quoted_closed, nothing_left}
use Rattle.link_format.proofs.values.quoted.Goals as goal

pub returns-clause-spelled : goal.returns-clause-spelled
returns-clause-spelled c =
    let closed :
    string_bytes c.characters.text ++ []
    ≡ quote_mark ∷ flat_map escaped_character c.args.value.now =
    ap (λ (t : List ℕ). string_bytes c.characters.text ++ flat_map escaped_character t)
    (sym (nothing_left (chars_rest c.characters.characters) c.in_default.ensures.steps.0.0))
    ∙ c.characters.invariant in
    c.of.ensures
    ∙ quoted_closed (string_bytes c.characters.text) (string_bytes c.push-2.new.self)
    c.args.value.now closed c.in_ok-push-2.ensures.bytes

pub returns-clause-reads_back : goal.returns-clause-reads_back
returns-clause-reads_back c =
    ap unquoted (returns-clause-spelled c) ∙ unquoted-quoted c.args.value.now

pub returns-clause-grammar : goal.returns-clause-grammar
returns-clause-grammar c =
    λ h. ap is_quoted_string (returns-clause-spelled c) ∙ is_quoted_string-quoted c.args.value.now h
