-- The content of a quoted string, character by character.
use Rattle.std.specs.Str.Iter.{chars_rest}
use Rattle.link_format.proofs.ValueLemmas.{content_plain_step, content_escaped_step}
use Rattle.link_format.proofs.values.unescaped.Goals as goal

pub characters-preserved-then-escaped : goal.characters-preserved-then-escaped
characters-preserved-then-escaped c =
    content_escaped_step c.characters.text c.push.new.self _ (chars_rest c.characters.characters)
    (chars_rest c.next.new.self) c.in-Some.character c.characters.escaped c.characters.invariant
    c.if-escaped.true
    c.in-Some.ensures.steps.0 c.in_ok-push.ensures.ok

pub characters-preserved : goal.characters-preserved
characters-preserved c =
    content_plain_step c.characters.text c.push-in-Some.new.self _
    (chars_rest c.characters.characters) (chars_rest c.next.new.self) c.in-Some.character
    c.characters.escaped c.characters.invariant c.if-escaped.false
    c.in-Some.ensures.steps.0 c.if-character-eq34.false c.if-character-eq92.false
    c.in_ok-push-2.ensures.ok
