use Rattle.std.proofs.Common.{◌+◌, ℕ, List, length, refl, sym, ap, ◌∙◌}
use Rattle.link_format.specs.Views.{parameter_seen}
use Rattle.registration.proofs.LinkParameterLaws.{takes_attribute}
use Rattle.registration.proofs.link_parameters.Gathered.with.Goals as goal

pub returns-then-not-is_anchor : goal.returns-then-not-is_anchor
returns-then-not-is_anchor c before start all rest known =
    takes_attribute before start all rest (parameter_seen c.args.param.now) c.args.self _
    (ap (λ (t : List ℕ). c.args.self.end + length t) c.whole.ensures) known
    (sym c.is_anchor.ensures ∙ c.if-not-is_anchor.true) refl c.in_ok-builder.ensures
