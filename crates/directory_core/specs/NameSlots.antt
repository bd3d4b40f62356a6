-- The numbers of records by the hashes of their names.
use Rattle.std.specs.Prelude.{
  ℕ,
  ◌*◌,
  ◌%◌,
  ◌^◌,
  ◌==◌,
  Bool,
  ◌&&◌,
  ◌||◌,
  nat_lt,
  nat_le,
  bit_xor,
  List,
  [],
  ◌∷◌,
  map,
  filter,
  fold,
  Option,
  Some,
  None,
  if◌then◌else◌,
}
use Rattle.rd_base.specs.declared.records.Name.{Name}
use Rattle.rd_base.specs.declared.records.Record.{Record}
use Rattle.history_model.specs.Replay.{is_live_named, numbered}
use Rattle.directory_core.specs.declared.names.NameSlot.{NameSlot}
use Rattle.directory_core.specs.LapseOrder.{in_order_of}

-- Returns a hash after one more octet.
abbrev pub mixed : ℕ → ℕ → ℕ
mixed hash octet = (bit_xor hash octet * 0x00000100000001B3) % 2 ^ 64

-- Returns a hash after one more text.
unfoldable pub with_text : ℕ → List ℕ → ℕ
with_text hash text = fold mixed hash text

-- Returns a hash after the sector of a name, if it has one.
abbrev pub with_sector : ℕ → Option (List ℕ) → ℕ
with_sector hash None = hash
with_sector hash (Some sector) = with_text (mixed hash 0) sector

-- Returns the hash of a name.
unfoldable pub hash_of : Name → ℕ
hash_of name = with_sector (with_text 0xCBF29CE484222325 name.ep) name.sector

-- Returns the slot of a record.
abbrev pub slot_of : Record → NameSlot
slot_of r = record { hash = hash_of r.name; number = r.number }

-- Returns the slots of records, in order.
abbrev pub slots_of : List Record → List NameSlot
slots_of records = map slot_of (in_order_of (λ r. hash_of r.name) records)

-- Returns the numbers of the slots with a hash at the beginning of the list, or nothing if it does
-- not begin with that hash.
unfoldable pub numbers_under : ℕ → List NameSlot → List ℕ
numbers_under hash [] = []
numbers_under hash (s ∷ slots) = if s.hash == hash then s.number ∷ numbers_under hash slots else []

-- Returns the record, if it has this name and is live at a moment.
abbrev pub if_live_named : Name → ℕ → Option Record → Option Record
if_live_named name moment None = None
if_live_named name moment (Some r) = if is_live_named name moment r then Some r else None

-- Returns one record, or another if there is none.
abbrev pub record_or : Option Record → Option Record → Option Record
record_or (Some r) other = Some r
record_or None other = other

-- Returns the first record with one of these numbers that has a name and is live at a moment.
unfoldable pub first_live_named : List Record → Name → ℕ → List ℕ → Option Record
first_live_named records name moment [] = None
first_live_named records name moment (n ∷ numbers) =
    record_or (if_live_named name moment (numbered n records))
    (first_live_named records name moment numbers)

-- Returns whether a slot comes before another: by the hashes, and if these are equal, by the
-- numbers.
abbrev pub slot_before : NameSlot → NameSlot → Bool
slot_before s other =
    nat_lt s.hash other.hash || ((s.hash == other.hash) && nat_lt s.number other.number)

-- Returns whether two slots are the same.
abbrev pub same_slot : NameSlot → NameSlot → Bool
same_slot s other = (s.hash == other.hash) && (s.number == other.number)

-- Returns the slots with one more.
unfoldable pub with_slot : NameSlot → List NameSlot → List NameSlot
with_slot s [] = s ∷ []
with_slot s (x ∷ slots) =
    if slot_before s x
    then s ∷ x ∷ slots
    else (if same_slot s x then x ∷ slots else x ∷ with_slot s slots)

-- Returns the slots without one of them.
unfoldable pub without_slot : NameSlot → List NameSlot → List NameSlot
without_slot s [] = []
without_slot s (x ∷ slots) = if same_slot s x then slots else x ∷ without_slot s slots

-- Returns the numbers of the slots with a hash.
unfoldable pub numbers_of_hash : ℕ → List NameSlot → List ℕ
numbers_of_hash hash slots = numbers_under hash (filter (λ s. nat_le hash s.hash) slots)
