-- What rows say of entries: which there are, that they ascend, and whom a pattern finds.
use Rattle.std.proofs.Common.{
  ◌≡◌,
  ℕ,
  Bool,
  true,
  false,
  cond,
  ◌&&◌,
  ◌||◌,
  List,
  [],
  ◌∷◌,
  Option,
  Some,
  None,
  is_some,
  map,
  filter,
  nat_eq,
  nat_cmp,
  bytes_eq,
  refl,
  sym,
  ap,
  ◌∙◌,
  not,
}
use Rattle.std.specs.declared.cmp.Ordering.{Ordering}
use Rattle.std.specs.declared.cmp.Ordering.TheVariants.{Less}
use Rattle.std.specs.Ordering.{is_eq, ordering_then}
use Rattle.std.specs.Cmp.Lexicographic.{slice_cmp}
use Rattle.std.specs.Cmp.{IsTotalOrder, tied_then, unsigned_ties, nat_cmp_total}
use Rattle.std.specs.List.{AllByRecursion}
use Rattle.std.specs.Map.{lookup, remove_entry}
use Rattle.std.specs.BTreeMap.{insert_entry, is_at}
use Rattle.std.proofs.lemmas.Cmp.{nat_list_cmp_total, then_total, on_total}
use Rattle.std.proofs.Math.Bool.{or_assoc}
use Rattle.std.proofs.lemmas.Map.Text.{is_eq-slice_cmp}
use Rattle.chunk_map.specs.Changes.{IsChanged, with_value}
use Rattle.chunk_map.specs.Sorted as sorted
use Rattle.attribute_index.specs.declared.rows.Edit.{Edit}
use Rattle.attribute_index.specs.declared.rows.Edit.TheVariants.{Put, Take}
use Rattle.attribute_index.specs.declared.rows.Row.{Row}
use Rattle.attribute_index.specs.Entries.{
  Entry,
  IsAscending,
  entry_cmp,
  has_entry,
  is_same,
  is_carrier,
  carriers_of,
}
use Rattle.attribute_index.specs.Rows.{
  value_cmp,
  row_cmp,
  entry_of,
  entries_of_rows,
  is_after,
  after_edit,
  is_wanted,
  wanted_numbers,
}
use Rattle.attribute_index.proofs.AbbreviationLaws.{joined_orders}
use Rattle.attribute_index.proofs.Lookups.{lookup-insert_entry, lookup-remove_entry}

-- the orders of values and of rows are total
pub value_total : IsTotalOrder value_cmp
value_total =
    then_total (on_total (λ p. p.0) nat_list_cmp_total) (on_total (λ p. p.1) nat_list_cmp_total)

pub row_total : IsTotalOrder row_cmp
row_total =
    then_total (on_total (λ row. row.value) value_total)
    (on_total (λ row. row.number) nat_cmp_total)

-- the entry of a value and a number
abbrev pub entry_at : List ℕ × List ℕ → ℕ → Entry
entry_at value number = record { name = value.0; value = value.1; number = number }

-- the row of an entry
abbrev row_of : Entry → Row
row_of e = record { value = (e.name, e.value); number = e.number }

-- values that compare equal are equal octet for octet
pub same_at : (q k : List ℕ × List ℕ)
    → is_eq (value_cmp q k) ≡ (bytes_eq q.0 k.0 && bytes_eq q.1 k.1)
same_at q k =
    sym (tied_then (slice_cmp nat_cmp q.0 k.0) (slice_cmp nat_cmp q.1 k.1))
    ∙ ap (λ t. t && is_eq (slice_cmp nat_cmp q.1 k.1)) (is_eq-slice_cmp q.0 k.0)
    ∙ ap (λ t. bytes_eq q.0 k.0 && t) (is_eq-slice_cmp q.1 k.1)

and_same : (a b c : Bool) → ((a && b) && c) ≡ (a && (b && c))
and_same true b c = refl
and_same false b c = refl

-- and so are rows
same_row_at : (q k : Row) → is_at (row_cmp q) k ≡ is_same (entry_of q) (entry_of k)
same_row_at q k =
    sym (tied_then (value_cmp q.value k.value) (nat_cmp q.number k.number))
    ∙ ap (λ t. t && is_eq (nat_cmp q.number k.number)) (same_at q.value k.value)
    ∙ ap (λ t. (bytes_eq q.value.0 k.value.0 && bytes_eq q.value.1 k.value.1) && t)
    (sym (unsigned_ties q.number k.number))
    ∙ and_same (bytes_eq q.value.0 k.value.0) (bytes_eq q.value.1 k.value.1)
    (nat_eq q.number k.number)

or_none : (t : Bool) → (t || false) ≡ t
or_none true = refl
or_none false = refl

-- ---- which entries there are

-- an entry is in rows where its row is a key of the map
has_in_rows : (rows : List (Row × Unit {0})) (e : Entry)
    → has_entry (entries_of_rows rows) e ≡ is_some (lookup (is_at (row_cmp (row_of e))) rows)
has_in_rows [] e = refl
has_in_rows (row ∷ rows) e =
    ap (λ t. t || has_entry (entries_of_rows rows) e) (sym (same_row_at (row_of e) row.0))
    ∙ ap (λ t. is_at (row_cmp (row_of e)) row.0 || t) (has_in_rows rows e)
    ∙ by (is_at (row_cmp (row_of e)) row.0) (lookup (is_at (row_cmp (row_of e))) rows)
  where
    by : (t : Bool) (o : Option (Unit {0})) → (t || is_some o) ≡ is_some (cond t (Some row.1) o)
    by true o = refl
    by false o = refl

-- where a row is edited, its entry is
pub has_edited : (edit : Edit) (rows rows' : List (Row × Unit {0})) (row : Row)
    → sorted.IsAscending row_cmp rows
    → IsChanged row_cmp (λ _ new. new ≡ after_edit edit) rows row rows'
    → (e : Entry) → has_entry (entries_of_rows rows') e
    ≡ is_after edit (has_entry (entries_of_rows rows) e) (is_same e (entry_of row))
has_edited edit rows rows' row up h e =
    ap (λ some. has_entry (entries_of_rows some) e)
    (h.2 ∙ ap (λ (new : Option (Unit {0})). with_value row_cmp rows row new) h.1)
    ∙ has_in_rows (with_value row_cmp rows row (after_edit edit)) e
    ∙ by edit
    ∙ ap (λ t. is_after edit t (is_at (row_cmp (row_of e)) row)) (sym (has_in_rows rows e))
    ∙ ap (λ t. is_after edit (has_entry (entries_of_rows rows) e) t) (same_row_at (row_of e) row)
  where
    put : (t : Bool) (o : Option (Unit {0})) → is_some (cond t (Some tt) o) ≡ (is_some o || t)
    put true (Some u) = refl
    put true None = refl
    put false (Some u) = refl
    put false None = refl

    taken : (t : Bool) (o : Option (Unit {0}))
        → is_some (cond t None o) ≡ (is_some o && not t)
    taken true (Some u) = refl
    taken true None = refl
    taken false (Some u) = refl
    taken false None = refl

    by : (edit : Edit)
        → is_some (lookup (is_at (row_cmp (row_of e)))
        (with_value row_cmp rows row (after_edit edit)))
        ≡ is_after edit (is_some (lookup (is_at (row_cmp (row_of e))) rows))
        (is_at (row_cmp (row_of e)) row)
    by Put =
        ap is_some (lookup-insert_entry row_total (row_of e) row tt rows)
        ∙ put (is_at (row_cmp (row_of e)) row) (lookup (is_at (row_cmp (row_of e))) rows)
    by Take =
        ap is_some (lookup-remove_entry row_total (row_of e) row rows up)
        ∙ taken (is_at (row_cmp (row_of e)) row) (lookup (is_at (row_cmp (row_of e))) rows)

-- ---- edits of one value after another

take_both : (before one more : Bool)
    → ((before && not one) && not more) ≡ (before && not (one || more))
take_both true true more = refl
take_both true false more = refl
take_both false one more = refl

-- an edit of a value, and then of those that are left, is an edit of all
pub edited_first : (edit : Edit) (before after one more all : Bool)
    → after ≡ is_after edit before one → all ≡ (one || more)
    → is_after edit after more ≡ is_after edit before all
edited_first Put before after one more all a l =
    ap (λ t. t || more) a ∙ or_assoc before one more ∙ ap (λ t. before || t) (sym l)
edited_first Take before after one more all a l =
    ap (λ t. t && not more) a ∙ take_both before one more ∙ ap (λ t. before && not t) (sym l)

-- an edit of no value changes nothing
pub edited_none : (edit : Edit) (before none : Bool) → none ≡ false
    → is_after edit before none ≡ before
edited_none Put before none is = ap (λ t. before || t) is ∙ or_none before
edited_none Take true none is = ap not is
edited_none Take false none is = refl

-- ---- they ascend

behind_row : (row : Row) (rows : List (Row × Unit {0}))
    → AllByRecursion (λ other. row_cmp row other.0 ≡ Less) rows
    → AllByRecursion (λ y. entry_cmp (entry_of row) y ≡ Less) (entries_of_rows rows)
behind_row row [] up = tt
behind_row row (other ∷ rows) up = (
  sym (joined_orders (slice_cmp nat_cmp row.value.0 other.0.value.0)
      (slice_cmp nat_cmp row.value.1 other.0.value.1) (nat_cmp row.number other.0.number)) ∙ up.0,
  behind_row row rows up.1,
)

pub ascends_rows : (rows : List (Row × Unit {0})) → sorted.IsAscending row_cmp rows
    → IsAscending (entries_of_rows rows)
unfolding IsAscending sorted.IsAscending
ascends_rows [] up = tt
ascends_rows (row ∷ rows) up = (behind_row row.0 rows up.0, ascends_rows rows up.1)

-- ---- whom a pattern finds

pub carried_rows : (name pattern : List ℕ) (rows : List (Row × Unit {0}))
    → carriers_of name pattern (entries_of_rows rows) ≡ wanted_numbers name pattern rows
unfolding carriers_of
carried_rows name pattern [] = refl
carried_rows name pattern (row ∷ rows) =
    by (is_wanted name pattern row.0.value) (carried_rows name pattern rows)
  where
    by : (t : Bool) → map (λ (e : Entry). e.number)
        (filter (is_carrier name pattern) (entries_of_rows rows))
        ≡ wanted_numbers name pattern rows
        → map (λ (e : Entry). e.number)
        (cond t (entry_of row.0 ∷ filter (is_carrier name pattern) (entries_of_rows rows))
        (filter (is_carrier name pattern) (entries_of_rows rows)))
        ≡ map (λ (other : Row × Unit {0}). other.0.number)
        (cond t (row ∷ filter (λ (other : Row × Unit {0}). is_wanted name pattern other.0.value)
        rows) (filter (λ (other : Row × Unit {0}). is_wanted name pattern other.0.value) rows))
    by true more = ap (λ (ns : List ℕ). row.0.number ∷ ns) more
    by false more = more
