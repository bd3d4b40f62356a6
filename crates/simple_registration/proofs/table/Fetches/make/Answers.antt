use Rattle.std.proofs.Common.{refl}
use Rattle.simple_registration.proofs.TableLaws.{stands-none}
use Rattle.simple_registration.proofs.table.Fetches.make.Goals as goal

pub returns : goal.returns
returns c octets =
    stands-none octets (record { fetches = c.in_ok-rows.rows.items; started = 0 })
    c.in_ok-rows.ensures.items refl
