use Rattle.std.proofs.Common.{◌≡◌, sym, refl, ⊎_elim, ◌≢◌}
use mathlib.Core.Option.{some}
use lib.ListN.{get_elem?}
use Rattle.atomic_table.proofs.Lists.{at_set}
use Rattle.left_right.specs.Sides.{view}
use Rattle.version_board.specs.Names.{name_of, knowing}
use Rattle.version_board.proofs.readers.take.Goals as goal

pub enter_as-requires : goal.enter_as-requires
enter_as-requires c x views h at =
    let me = knowing (name_of x.front.book) in (
      me,
      (λ j w e k. ⊎_elim (λ (t : (j ≡ c.args.reader.place.id) × (me ≡ w)). sym t.1)
          (λ (t : (j ≢ c.args.reader.place.id) × (get_elem? views j ≡ some w)). h j w t.1 k)
          (at_set views c.args.reader.place.id j me w e)),
      (refl, h c.args.reader.place.id (view c.args.reader.place) at),
    )
