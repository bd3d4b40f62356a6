-- When a tick allocates.
use Rattle.std.specs.Prelude.{ℕ, Bool, List}
use Rattle.std.specs.List.{list_any}
use Rattle.event_model.specs.Observers.{observers}
use Rattle.journal_model.specs.declared.steps.Step.{Step}
use Rattle.journal_model.specs.declared.rows.Row.{Row}
use Rattle.journal_model.specs.Effects.{Effects}
use Rattle.journal_model.specs.Ticks.{
  Ticking,
  ticking,
  events_with,
  is_looked_at,
  notifications_again,
}

-- Returns whether an observer is examined after what a tick did so far.
abbrev pub looks_at_any : Ticking → Effects → Bool
looks_at_any t done = list_any (is_looked_at t done) (observers (events_with t done))

-- Returns whether a tick allocates. It does if, after its retransmissions of notifications, an
-- observer is due to whose peer no notification is in flight (RFC 7641 section 4.2, RFC 7252
-- section 4.7).
abbrev pub tick_takes_memory : List Row → ℕ → Step → Bool
tick_takes_memory rows moment s = looks_at_any (ticking rows moment s)
    (notifications_again rows moment)
