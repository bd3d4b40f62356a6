-- Which calls of a source or a sink in memory fail: those whose numbers are listed, counted from 0.
use Rattle.std.specs.Prelude.{◌≡◌, ◌+◌, ◌-◌, ◌^◌, ◌==◌, Bool, min}
use Rattle.std.specs.List.{list_any}
use Rattle.rd_base.specs.declared.memory_ends.Plan.{Plan}

-- Returns whether the next call is one of those that fail.
abbrev pub is_planned : Plan → Bool
is_planned plan = list_any (λ n. n == plan.calls) plan.fail

-- States that a plan is the same after one more call. The count of calls stops at 2^64 - 1.
abbrev pub Advanced : Plan → Plan → Type 0
Advanced before now = (now.fail ≡ before.fail) × (now.calls ≡ min (before.calls + 1) (2 ^ 64 - 1))
