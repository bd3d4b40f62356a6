use Rattle.std.proofs.Common.{◌∷◌, [], ◌++◌, sym, ap, subst, remove, ◌∙◌}
use Rattle.std.specs.Arc.{arc_value}
use Rattle.std.specs.List.{position}
use Rattle.observers.specs.ObserverEvents.{ObserversStandFor}
use Rattle.observers.proofs.StandLaws.{empty-StandsFor}
use Rattle.observers.proofs.table.Observers.make.Goals as goal

pub returns-clause-stands : goal.returns-clause-stands
returns-clause-stands c queries octets =
    subst (ObserversStandFor queries octets [] []) (sym c.in_ok-items.ensures.items)
    (empty-StandsFor queries octets)
