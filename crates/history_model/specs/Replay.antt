-- What the entries of a history make of the directory (RFC 9176 sections 5, 5.3, 5.3.1 and 5.3.2).
use Rattle.std.specs.Prelude.{
  ℕ,
  ◌+◌,
  Bool,
  not,
  ◌&&◌,
  ◌==◌,
  max,
  List,
  [],
  ◌∷◌,
  ◌++◌,
  map,
  filter,
  find,
  fold,
  Option,
  Some,
  None,
  option_map,
  unwrap_or,
  if◌then◌else◌,
}
use Rattle.rd_base.specs.declared.moments.Moment.{Moment}
use Rattle.rd_base.specs.declared.parameters.RegParams.{RegParams}
use Rattle.rd_base.specs.declared.peers.Peer.{Peer}
use Rattle.rd_base.specs.declared.records.Name.{Name}
use Rattle.rd_base.specs.declared.records.Record.{Record}
use Rattle.rd_base.specs.declared.submitted_links.SubmittedLink.{SubmittedLink}
use Rattle.record_model.specs.Records.{items_of, registered, updated}
use Rattle.history_model.specs.declared.entries.Change.{Change}
use Rattle.history_model.specs.declared.entries.Change.TheVariants as change
use Rattle.history_model.specs.declared.entries.Entry.{Entry}
use Rattle.history_model.specs.Leases.{is_live_at}
use Rattle.history_model.specs.Names.{is_same_name}

-- The state that entries make: the records in ascending number, lapsed ones too, and the last
-- number that a registration got.
pub record State : Type 0 where
  pub records : List Record
  pub last_number : ℕ

-- The state before the first entry.
abbrev pub empty : State
empty = record { records = []; last_number = 0 }

-- Returns whether the record has this number.
abbrev pub is_numbered : ℕ → Record → Bool
is_numbered number r = r.number == number

-- Returns whether the record has this name, and is live at a moment.
abbrev pub is_live_named : Name → ℕ → Record → Bool
is_live_named name moment r = is_same_name r.name name && is_live_at moment r

-- Returns the number of the record with this name that is live at a moment, if there is one.
abbrev pub number_named : Name → ℕ → List Record → Option ℕ
number_named name moment records =
    option_map (λ r. r.number) (find (is_live_named name moment) records)

-- Returns the number that a registration with this name has at a moment: that of the live record
-- with the name, or else the next one (RFC 9176 section 5).
abbrev pub number_for : Name → ℕ → State → ℕ
number_for name moment state =
    unwrap_or (number_named name moment state.records) (state.last_number + 1)

-- Returns the record with a number, if there is one.
abbrev pub numbered : ℕ → List Record → Option Record
numbered number records = find (is_numbered number) records

-- Returns the number of the record that a change is about at a moment. A beginning is about 0,
-- which no record has.
abbrev pub number_about : State → ℕ → Change → ℕ
number_about state moment (change.Register params links) = number_for params.name moment state
number_about state moment (change.Update number given) = number
number_about state moment (change.Replace number links) = number
number_about state moment (change.Remove number) = number
number_about state moment (change.Begin first) = 0

-- Returns the records with a function applied to the one with this number.
abbrev pub with_changed : ℕ → (Record → Record) → List Record → List Record
with_changed number new records = map (λ r. if is_numbered number r then new r else r) records

-- Returns the record with other links (RFC 9176 section 5.3), resolved against its base. Its lease
-- and all else of it do not change.
unfoldable pub replaced : List SubmittedLink → Record → Record
replaced links r = record r { items = items_of r.base links }

-- Returns the state after a registration. If its name has a number, the record keeps the number and
-- all else is replaced. Otherwise a record with the next number is appended.
abbrev pub registered_under : Option ℕ
    → State
    → Moment
    → Peer
    → RegParams
    → List SubmittedLink
    → State
registered_under (Some number) state now peer params links =
    record state {
      records = with_changed number (λ r. registered number now peer params links) state.records;
    }
registered_under None state now peer params links = record {
  records = state.records ++ registered (state.last_number + 1) now peer params links ∷ [];
  last_number = state.last_number + 1;
}

-- Returns the state after a change at a moment, from a peer.
abbrev pub changed : State → Moment → Peer → Change → State
changed state now peer (change.Register params links) =
    registered_under (number_named params.name now.0 state.records) state now peer params links
changed state now peer (change.Update number given) = record state {
  records = with_changed number (updated now peer given) state.records;
}
changed state now peer (change.Replace number links) = record state {
  records = with_changed number (replaced links) state.records;
}
changed state now peer (change.Remove number) = record state {
  records = filter (λ r. not (is_numbered number r)) state.records;
}
changed state now peer (change.Begin first) = record state {
  last_number = max state.last_number first;
}

-- Returns the state after an entry.
unfoldable pub apply : State → Entry → State
apply state entry = changed state entry.moment entry.peer entry.change

-- Returns the state that the entries of a history make, oldest first.
unfoldable pub replay : List Entry → State
replay history = fold apply empty history

-- Returns the count that a change follows, if `count` entries were counted before. A beginning
-- raises it to its own number.
abbrev pub lifted : ℕ → Change → ℕ
lifted count (change.Register params links) = count
lifted count (change.Update number given) = count
lifted count (change.Replace number links) = count
lifted count (change.Remove number) = count
lifted count (change.Begin first) = max count first

-- Returns the count with one more entry.
abbrev pub count_after : ℕ → Entry → ℕ
count_after count entry = lifted count entry.change + 1

-- Returns the count of the entries of a history, if `first` were counted before the first.
unfoldable pub counted : ℕ → List Entry → ℕ
counted first history = fold count_after first history
