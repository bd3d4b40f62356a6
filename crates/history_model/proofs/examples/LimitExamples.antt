-- What is refused at the limits, computed.
use Rattle.std.proofs.Common.{◌≡◌, ℕ, ◌-◌, ◌^◌, [], ◌∷◌, ◌++◌, codes, decimal, refl, Some, None}
use Rattle.std.specs.List.{range_with_len}
use Rattle.std.proofs.Common.{map}
use Rattle.rd_base.specs.declared.records.Record.{Record}
use Rattle.record_model.specs.Parameters.{registration_values}
use Rattle.record_model.specs.Records.{registered}
use Rattle.history_model.specs.declared.entries.Entry.{Entry}
use Rattle.history_model.specs.declared.refusals.Refusal.TheVariants as refusal
use Rattle.history_model.specs.Replay.{State}
use Rattle.history_model.specs.Refusals.{refusal_in, change_refusal}
use Rattle.history_model.proofs.HistoryLiterals.{history_on_literals}
use Rattle.history_model.proofs.Samples.{device, registers, removes, registers_two}

-- two entries below the limit one registration is accepted
last_entry : change_refusal (2 ^ 48 - 2) [] (registers_two 1000) ≡ None
unfolding history_on_literals
last_entry = refl

-- and no change after it
no_more_entries :
    change_refusal (2 ^ 48 - 2) (registers_two 1000 ∷ []) (registers_two 1000)
    ≡ Some refusal.Entries
unfolding history_on_literals
no_more_entries = refl

no_more_removals :
    change_refusal (2 ^ 48 - 2) (registers_two 1000 ∷ []) (removes 1000 1) ≡ Some refusal.Entries
unfolding history_on_literals
no_more_removals = refl

-- what is not there is refused before
gone_first :
    change_refusal (2 ^ 48 - 2) (registers_two 1000 ∷ []) (removes 1000 2)
    ≡ Some refusal.Registration
unfolding history_on_literals
gone_first = refl

-- a record without links, of this number and a name with this number
abbrev numbered : ℕ → Record
numbered n =
    registered n (record { 0 = 100 }) device
    (registration_values (codes "lt=600" ∷ (codes "ep=n" ++ decimal n) ∷ [])) []

-- so many of them
abbrev many : ℕ → State
many n = record { records = map numbered (range_with_len 1 n); last_number = n }

-- a registration of another name
abbrev one_more : Entry
one_more = registers 1000 device (codes "ep=other" ∷ []) []

-- it is refused where 4,096 are live, and not where there is one fewer
full_of_records : refusal_in (many 4_096) 4_096 one_more ≡ Some refusal.Registrations
unfolding history_on_literals
full_of_records = refl

-- one of a name that is among them is not
known_name : refusal_in (many 4_096) 4_096 (registers 1000 device (codes "ep=n7" ∷ []) []) ≡ None
unfolding history_on_literals
known_name = refl
