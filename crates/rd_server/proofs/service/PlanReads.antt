-- What clap reads in the words of a plan.
use Rattle.std.proofs.Common.{◌≡◌, List, [], ◌∷◌, ◌++◌, true, Some, Result}
use Rattle.std.proofs.Common.{Ok, Err, refl, ap, ◌∙◌, subst, sym, arith, codes, decimal}
use Rattle.std.specs.Prelude.{IfOk, IfErr}
use Rattle.clap.specs.Walk.{Rule, Text, first_of, rows_of}
use Rattle.clap.specs.Simple.{App, HasMatchesOf, new_app, new_rule, with_rule, on_top}
use Rattle.clap.specs.Simple.{is_simple, matches_of}
use Rattle.clap.specs.Takes.{takes}
use Rattle.clap.specs.Words.{found_of, kind_of}
use Rattle.clap.specs.declared.parser.matches.ArgMatches.{ArgMatches}
use Rattle.clap.specs.declared.error.Error.{Error}
use Rattle.clap.specs.declared.error.kind.ErrorKind.TheVariants.{OutOfMemory}
use Rattle.clap.proofs.OnLiterals.{clap_on_literals}
use Rattle.clap.proofs.WalkLemmas.{first_value-rows}
use Rattle.journal_model.specs.DeskJournal.{max_workers}
use Rattle.trace_replay.proofs.OptionValues.{found}
use Rattle.rd_server.specs.declared.serving.plans.ServePlan.{ServePlan}
use Rattle.rd_server.specs.serving.Plans.{
  HasPlan,
  IsPlan,
  ReadsPlan,
  max_port,
  max_turns,
  plan_found,
  words_of,
}

abbrev pub port_rule : Rule
port_rule = record (new_rule (codes "port")) { long = Some (codes "port") }

abbrev pub workers_rule : Rule
workers_rule = record (new_rule (codes "workers")) { long = Some (codes "workers") }

abbrev pub turns_rule : Rule
turns_rule = record (new_rule (codes "turns")) { long = Some (codes "turns") }

abbrev pub bare_app : App
bare_app = on_top (λ s. record s {
  no_binary_name = true;
  disable_help_flag = true;
  disable_version_flag = true;
}) (new_app (codes "rd_serve"))

-- the command line of the program
abbrev pub app : App
app = with_rule (with_rule (with_rule bare_app port_rule) workers_rule) turns_rule

-- three options with their values, in one order
abbrev three : Text → Text → Text → List Text
three port workers turns = (codes "--port=" ++ port) ∷ (codes "--workers=" ++ workers)
    ∷ (codes "--turns=" ++ turns) ∷ []

-- they are taken, and read so
record Reads (words : List Text) (port workers turns : Text) : Type 0 where
  pub taken : takes app words ≡ true
  pub port_is : first_of (codes "port") (matches_of app words) ≡ Some port
  pub workers_is : first_of (codes "workers") (matches_of app words) ≡ Some workers
  pub turns_is : first_of (codes "turns") (matches_of app words) ≡ Some turns

simple : is_simple app ≡ true
unfolding clap_on_literals
simple = refl

reads_three : (port workers turns : Text) → Reads (three port workers turns) port workers turns
unfolding clap_on_literals
reads_three port workers turns =
    record { taken = refl; port_is = refl; workers_is = refl; turns_is = refl }

-- what a parse of the words gives, by what clap says of it
pub reads_plan : (command : App) (words : List Text) (result : Result ArgMatches Error)
    → command ≡ app → IfOk result (HasMatchesOf command words)
    → IfErr result (λ e. takes command words ≡ true → kind_of e ≡ OutOfMemory)
    → (plan : ServePlan) → words ≡ words_of plan → ReadsPlan plan result
reads_plan command words (Ok m) e matches passes plan is =
    let r : Reads words (decimal plan.port) (decimal plan.workers) (decimal plan.turns) =
    subst (λ (ws : List Text). Reads ws (decimal plan.port) (decimal plan.workers)
    (decimal plan.turns)) (sym is)
    (reads_three (decimal plan.port) (decimal plan.workers) (decimal plan.turns)) in
    let rows : rows_of (found_of m) ≡ matches_of app words =
    (matches (ap is_simple e ∙ simple)).0 ∙ ap (λ (a : App). matches_of a words) e in
    record {
      port = first_value-rows (found_of m) (codes "port")
          ∙ (ap (first_of (codes "port")) rows ∙ r.port_is);
      workers = first_value-rows (found_of m) (codes "workers")
          ∙ (ap (first_of (codes "workers")) rows ∙ r.workers_is);
      turns = first_value-rows (found_of m) (codes "turns")
          ∙ (ap (first_of (codes "turns")) rows ∙ r.turns_is);
    }
reads_plan command words (Err error) e matches passes plan is =
    passes (ap (λ (a : App). takes a words) e
    ∙ subst (λ (ws : List Text). takes app ws ≡ true) (sym is)
    (reads_three (decimal plan.port) (decimal plan.workers) (decimal plan.turns)).taken)

-- the plan is found
pub plan_found-plan : (plan : ServePlan) (matches : ArgMatches) → IsPlan plan
    → HasPlan plan matches → plan_found plan.tcp matches ≡ Some plan
plan_found-plan plan matches is has = rw (
  found max_port (codes "port") matches (Some plan.port) (omega arith)
      (is.some_port, is.last_port) has.port,
  found max_workers (codes "workers") matches (Some plan.workers) (omega arith)
      (is.some_workers, is.most_workers) has.workers,
  found max_turns (codes "turns") matches (Some plan.turns) (omega arith)
      (is.some_turns, is.most_turns) has.turns,
) refl
