-- The reasons why a change is refused at its moment, in the order of the checks.
use Rattle.std.specs.Prelude.{
  ℕ,
  Bool,
  false,
  not,
  ◌&&◌,
  nat_lt,
  nat_le,
  List,
  length,
  sum_by,
  Option,
  Some,
  None,
  if◌then◌else◌,
}
use Rattle.std.specs.List.{list_any}
use Rattle.rd_base.specs.declared.records.Name.{Name}
use Rattle.rd_base.specs.declared.records.Record.{Record}
use Rattle.record_model.specs.ListingLines.{weight}
use Rattle.history_model.specs.declared.entries.Change.{Change}
use Rattle.history_model.specs.declared.entries.Change.TheVariants as change
use Rattle.history_model.specs.declared.entries.Entry.{Entry}
use Rattle.history_model.specs.declared.limits.TheConstants.{
  MAX_REGISTRATIONS,
  MAX_TEXT,
  MAX_ENTRIES,
}
use Rattle.history_model.specs.declared.refusals.Refusal.{Refusal}
use Rattle.history_model.specs.declared.refusals.Refusal.TheVariants as refusal
use Rattle.history_model.specs.Leases.{live_among}
use Rattle.history_model.specs.Names.{is_same_name}
use Rattle.history_model.specs.Replay.{State, is_numbered, apply, replay, lifted, counted}

-- The most registrations that are live at a time.
abbrev pub max_registrations : ℕ
max_registrations = MAX_REGISTRATIONS

-- The most that the live registrations weigh together, in octets.
abbrev pub max_text : ℕ
max_text = MAX_TEXT

-- The most entries that are counted.
abbrev pub max_entries : ℕ
max_entries = MAX_ENTRIES

-- Returns whether one of the records has this number.
abbrev pub has_number : ℕ → List Record → Bool
has_number number records = list_any (is_numbered number) records

-- Returns whether one of the records has this name.
abbrev pub has_name : Name → List Record → Bool
has_name name records = list_any (λ r. is_same_name r.name name) records

-- Returns what the records weigh together, in octets.
abbrev pub text_of : List Record → ℕ
text_of records = sum_by weight records

-- Returns whether an update, a replacement of links or a removal names a number that none of the
-- live records has (RFC 9176 section 5.3).
abbrev pub is_gone : List Record → Change → Bool
is_gone live (change.Register params links) = false
is_gone live (change.Update number given) = not (has_number number live)
is_gone live (change.Replace number links) = not (has_number number live)
is_gone live (change.Remove number) = not (has_number number live)
is_gone live (change.Begin first) = false

-- Returns whether a registration has a new name while as many records are live as may be.
abbrev pub is_full_of_records : List Record → Change → Bool
is_full_of_records live (change.Register params links) =
    nat_le max_registrations (length live) && not (has_name params.name live)
is_full_of_records live (change.Update number given) = false
is_full_of_records live (change.Replace number links) = false
is_full_of_records live (change.Remove number) = false
is_full_of_records live (change.Begin first) = false

-- Returns the state with only those of its records that are live at a moment.
abbrev pub only_live : ℕ → State → State
only_live moment state = record state { records = live_among moment state.records }

-- Returns what the live records would weigh after an entry. They are those that are live at its
-- moment, with the one that it is about in its new form.
abbrev pub text_after : State → Entry → ℕ
text_after state entry = text_of (apply (only_live entry.moment.0 state) entry).records

-- Returns whether the live records would weigh more than they may after a registration, an update
-- or a replacement of links.
abbrev pub is_full_of_text : ℕ → Change → Bool
is_full_of_text text (change.Register params links) = nat_lt max_text text
is_full_of_text text (change.Update number given) = nat_lt max_text text
is_full_of_text text (change.Replace number links) = nat_lt max_text text
is_full_of_text text (change.Remove number) = false
is_full_of_text text (change.Begin first) = false

-- Returns the first refusal of an entry in a state, if `entries` entries were counted before.
unfoldable pub refusal_in : State → ℕ → Entry → Option Refusal
refusal_in state entries entry =
    let live = live_among entry.moment.0 state.records in
    if is_gone live entry.change then Some refusal.Registration
    else if is_full_of_records live entry.change then Some refusal.Registrations
    else if is_full_of_text (text_after state entry) entry.change then Some refusal.Text
    else if nat_le max_entries (lifted entries entry.change) then Some refusal.Entries
    else None

-- Returns the first refusal of an entry after a history, if `first` entries were counted before the
-- first of the history.
unfoldable pub change_refusal : ℕ → List Entry → Entry → Option Refusal
change_refusal first history entry = refusal_in (replay history) (counted first history) entry
