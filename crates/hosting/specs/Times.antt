-- The moments of a clock that counts from the start of a program.
use Rattle.std.specs.Prelude.{◌+◌, ◌-◌, ◌/◌, ◌^◌, min}
use Rattle.std.specs.Time.{instant_nanos}
use Rattle.std.specs.declared.time.Instant.{Instant}
use Rattle.rd_base.specs.declared.moments.Moment.{Moment}

-- Returns the moment at a reading of the monotonic clock, if the start was read at `start`: that of
-- the start plus the milliseconds since then, at most 10^15.
abbrev pub moment_at : Moment → Instant → Instant → Moment
moment_at begun start now = record {
  0 = min (begun.0 + (instant_nanos now - instant_nanos start) / 1_000_000) (10 ^ 15);
}
