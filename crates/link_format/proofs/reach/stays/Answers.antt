-- Each of these octets leaves the walk where it is.
use Rattle.std.proofs.Common.{◌≡◌, Some, sym, subst}
use Rattle.link_model.specs.DocumentReading.{point_after}
use Rattle.link_format.specs.Points.{point_in}
use Rattle.link_format.proofs.StayLemmas.{
  ascii_tails,
  target_ascii,
  target_stays,
  alphanumeric_ascii,
  name_stays,
  token_stays,
  plain_ascii,
  plain_stays,
}
use Rattle.link_format.proofs.reach.stays.Goals as goal

pub returns-in-Target-clause-point : goal.returns-in-Target-clause-point
returns-in-Target-clause-point c h =
    subst (λ p. point_after (point_in p) c.args.octet ≡ Some (point_in p)) (sym c.in-Target.is)
    (target_stays c.args.octet c.is_target_character.result c.is_target_character.ensures h)

pub returns-in-Target-clause-tails : goal.returns-in-Target-clause-tails
returns-in-Target-clause-tails c h =
    ascii_tails c.args.octet
    (target_ascii c.args.octet c.is_target_character.result c.is_target_character.ensures h)

pub returns-in-WithinName-clause-point : goal.returns-in-WithinName-clause-point
returns-in-WithinName-clause-point c h =
    subst (λ p. point_after (point_in p) c.args.octet ≡ Some (point_in p)) (sym c.in-WithinName.is)
    (name_stays c.args.octet c.is_ascii_alphanumeric.result
    c.is_ascii_alphanumeric.ensures.value h)

pub returns-in-WithinName-clause-tails : goal.returns-in-WithinName-clause-tails
returns-in-WithinName-clause-tails c h =
    ascii_tails c.args.octet (alphanumeric_ascii c.args.octet c.is_ascii_alphanumeric.result
    c.is_ascii_alphanumeric.ensures.value h)

pub returns-in-Quotes-clause-point : goal.returns-in-Quotes-clause-point
returns-in-Quotes-clause-point c h =
    subst (λ p. point_after (point_in p) c.args.octet ≡ Some (point_in p)) (sym c.in-Quotes.is)
    (plain_stays c.args.octet c.is_plain_in_quotes.result c.is_plain_in_quotes.ensures h)

pub returns-in-Quotes-clause-tails : goal.returns-in-Quotes-clause-tails
returns-in-Quotes-clause-tails c h =
    ascii_tails c.args.octet
    (plain_ascii c.args.octet c.is_plain_in_quotes.result c.is_plain_in_quotes.ensures h)

pub returns-in-Token-clause-point : goal.returns-in-Token-clause-point
returns-in-Token-clause-point c h =
    subst (λ p. point_after (point_in p) c.args.octet ≡ Some (point_in p)) (sym c.in-Token.is)
    (token_stays c.args.octet c.is_ascii_alphanumeric-in-Token.result
    c.is_ascii_alphanumeric-in-Token.ensures.value h)

pub returns-in-Token-clause-tails : goal.returns-in-Token-clause-tails
returns-in-Token-clause-tails c h =
    ascii_tails c.args.octet
    (alphanumeric_ascii c.args.octet c.is_ascii_alphanumeric-in-Token.result
    c.is_ascii_alphanumeric-in-Token.ensures.value h)
