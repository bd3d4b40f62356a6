use Rattle.std.proofs.Common.{◌≡◌, ◌≤◌, map, take}
use Rattle.arrayvec.specs.ArrayVec.{array_vec_len}
use Rattle.watch_table.specs.Prints.{front_print}
use Rattle.watch_table.proofs.prints.prints_of.Given as goal

abbrev pub invariant-criteria : goal.invariant-criteria
invariant-criteria l = record {
  prints : l.kept.items ≡ map front_print (take l.criterion-index l.criteria);
  len : array_vec_len l.kept ≡ l.criterion-index;
  few : l.criterion-index ≤ 4;
}
