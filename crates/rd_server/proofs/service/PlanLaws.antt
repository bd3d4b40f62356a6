-- What the words of `rd_serve` ask for is within its limits.
use Rattle.std.proofs.Common.{◌≡◌, ℕ, List, Option, Some, None, subst, arith}
use Rattle.std.specs.Prelude.{option_map}
use Rattle.std.proofs.lemmas.Option.{none-some, same_Some}
use Rattle.journal_model.specs.DeskJournal.{max_workers}
use Rattle.rd_server.specs.declared.serving.plans.ServeAsked.{ServeAsked}
use Rattle.rd_server.specs.declared.serving.plans.ServeOption.{ServeOption}
use Rattle.rd_server.specs.declared.serving.plans.ServeOption.TheVariants as serve_option
use Rattle.trace_replay.specs.Options.{words_after}
use Rattle.trace_replay.specs.Words.{IsWithin, count_of, once}
use Rattle.rd_server.specs.serving.Plans.{
  IsPlan,
  given,
  given_to,
  is_option,
  max_port,
  max_streams,
  max_turns,
  nothing_asked,
  option_of,
  plan_of,
}
use Rattle.trace_replay.proofs.OptionSteps.{kept}
use Rattle.trace_replay.proofs.OptionValues.{default_within, once_within}

record IsAsked (asked : ServeAsked) : Type 0 where
  port : IsWithin max_port asked.port
  workers : IsWithin max_workers asked.workers
  turns : IsWithin max_turns asked.turns
  tcp : IsWithin max_streams asked.tcp

-- an option more
given_within : (o : Option ServeOption) (value : List ℕ) (asked more : ServeAsked)
    → IsAsked asked → given_to o value asked ≡ Some more → IsAsked more
given_within None value asked more is e = absurd (none-some more e)
given_within (Some serve_option.Port) value asked more is e =
    by (once asked.port (count_of max_port value))
    (once_within max_port asked.port value) e
  where
    by : (o : Option ℕ) → IsWithin max_port o → option_map
        (λ n. record asked { port = Some n }) o
        ≡ Some more → IsAsked more
    by None h f = absurd (none-some more f)
    by (Some n) h f = subst IsAsked (same_Some
        (record asked { port = Some n }) more f)
        (record { port = h; workers = is.workers; turns = is.turns; tcp = is.tcp })
given_within (Some serve_option.Workers) value asked more is e =
    by (once asked.workers (count_of max_workers value))
    (once_within max_workers asked.workers value) e
  where
    by : (o : Option ℕ) → IsWithin max_workers o → option_map
        (λ n. record asked { workers = Some n }) o
        ≡ Some more → IsAsked more
    by None h f = absurd (none-some more f)
    by (Some n) h f = subst IsAsked (same_Some
        (record asked { workers = Some n }) more f)
        (record { port = is.port; workers = h; turns = is.turns; tcp = is.tcp })
given_within (Some serve_option.Turns) value asked more is e =
    by (once asked.turns (count_of max_turns value))
    (once_within max_turns asked.turns value) e
  where
    by : (o : Option ℕ) → IsWithin max_turns o → option_map
        (λ n. record asked { turns = Some n }) o
        ≡ Some more → IsAsked more
    by None h f = absurd (none-some more f)
    by (Some n) h f = subst IsAsked (same_Some
        (record asked { turns = Some n }) more f)
        (record { port = is.port; workers = is.workers; turns = h; tcp = is.tcp })
given_within (Some serve_option.Tcp) value asked more is e =
    by (once asked.tcp (count_of max_streams value))
    (once_within max_streams asked.tcp value) e
  where
    by : (o : Option ℕ) → IsWithin max_streams o → option_map
        (λ n. record asked { tcp = Some n }) o
        ≡ Some more → IsAsked more
    by None h f = absurd (none-some more f)
    by (Some n) h f = subst IsAsked (same_Some
        (record asked { tcp = Some n }) more f)
        (record { port = is.port; workers = is.workers; turns = is.turns; tcp = h })

plan_within : (asked : ServeAsked) → IsAsked asked → IsPlan (plan_of asked)
plan_within asked is =
    let port = default_within max_port 5683 asked.port (omega arith) (omega arith) is.port in
    let workers = default_within max_workers 4 asked.workers (omega arith) (omega arith)
    is.workers in
    let turns = default_within max_turns max_turns asked.turns (omega arith) (omega arith)
    is.turns in
    record {
      some_port = port.0;
      last_port = port.1;
      some_workers = workers.0;
      most_workers = workers.1;
      some_turns = turns.0;
      most_turns = turns.1;
      tcp = is.tcp;
    }

-- of all words
pub said-IsPlan : (words : List (List ℕ)) (asked : ServeAsked)
    → words_after is_option given (Some nothing_asked) words ≡ Some asked
    → IsPlan (plan_of asked)
said-IsPlan words asked said = plan_within asked
    (kept is_option given IsAsked
    (λ name value before more is e. given_within (option_of name) value before more is e)
    words nothing_asked asked (record { port = tt; workers = tt; turns = tt; tcp = tt }) said)
