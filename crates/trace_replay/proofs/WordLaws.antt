-- What the words of `rd_replay` ask for is within its limits, and what clap finds in its words is
-- what is asked for.
use Rattle.std.proofs.Common.{◌≡◌, ℕ, List, Option, Some, None, subst, arith, codes}
use Rattle.std.specs.Prelude.{IfSome, option_map}
use Rattle.std.proofs.lemmas.Option.{none-some, same_Some}
use Rattle.clap.specs.declared.parser.matches.ArgMatches.{ArgMatches}
use Rattle.journal_model.specs.DeskJournal.{max_workers}
use Rattle.trace_replay.specs.declared.words.Words.{Words}
use Rattle.trace_replay.specs.declared.words.Name.{Name}
use Rattle.trace_replay.specs.declared.words.Name.TheVariants as name
use Rattle.trace_replay.specs.CommandLines.{HasValues}
use Rattle.trace_replay.specs.Words.{
  AreAsked,
  AreDevices,
  IsWithin,
  IsWorkers,
  asked_with,
  count_of,
  given_by,
  is_option,
  max_devices,
  name_of,
  no_words,
  once,
  words_found,
  words_said,
  workers_of,
}
use Rattle.trace_replay.proofs.OptionSteps.{kept}
use Rattle.trace_replay.proofs.OptionValues.{default_within, found, once_within}

-- an option more
given_within : (o : Option Name) (value : List ℕ) (asked more : Words) → AreAsked asked
    → given_by o value asked ≡ Some more → AreAsked more
given_within None value asked more is e = absurd (none-some more e)
given_within (Some name.Workers) value asked more is e =
    by (once asked.workers (count_of max_workers value))
    (once_within max_workers asked.workers value) e
  where
    by : (o : Option ℕ) → IsWithin max_workers o
        → option_map (λ n. record { workers = Some n; devices = asked.devices }) o ≡ Some more
        → AreAsked more
    by None h f = absurd (none-some more f)
    by (Some n) h f = subst AreAsked
        (same_Some (record { workers = Some n; devices = asked.devices }) more f)
        (record { workers = h; devices = is.devices })
given_within (Some name.Make) value asked more is e =
    by (once asked.devices (count_of max_devices value))
    (once_within max_devices asked.devices value) e
  where
    by : (o : Option ℕ) → IsWithin max_devices o
        → option_map (λ n. record { workers = asked.workers; devices = Some n }) o ≡ Some more
        → AreAsked more
    by None h f = absurd (none-some more f)
    by (Some n) h f = subst AreAsked
        (same_Some (record { workers = asked.workers; devices = Some n }) more f)
        (record { workers = is.workers; devices = h })

-- of all words
pub said-AreAsked : (words : List (List ℕ)) (asked : Words) → words_said words ≡ Some asked
    → AreAsked asked
said-AreAsked words asked said = kept is_option asked_with AreAsked
    (λ text value before more is e. given_within (name_of text) value before more is e)
    words no_words asked (record { workers = tt; devices = tt }) said

pub asked-IsWorkers : (asked : Words) → AreAsked asked → IsWorkers (workers_of asked)
asked-IsWorkers asked is =
    default_within max_workers 1 asked.workers (omega arith) (omega arith) is.workers

pub asked-AreDevices : (asked : Words) → AreAsked asked → IfSome asked.devices AreDevices
asked-AreDevices asked is = is.devices

-- what is found is what is asked for
pub found-asked : (asked : Words) (matches : ArgMatches) → AreAsked asked
    → HasValues asked matches → words_found matches ≡ asked
found-asked asked matches is has = λ i. record {
  workers = found max_workers (codes "workers") matches asked.workers (omega arith) is.workers
      has.workers i;
  devices = found max_devices (codes "make") matches asked.devices (omega arith) is.devices
      has.devices i;
}
