-- What clap reads in the words of what is asked for: none, one option or both.
use Rattle.std.proofs.Common.{◌≡◌, ℕ, List, ◌++◌, true, Option, Some, None, Result, Ok, Err}
use Rattle.std.proofs.Common.{refl, ap, ◌∙◌, subst, sym, codes, decimal}
use Rattle.std.specs.Prelude.{IfOk, IfErr, option_map}
use Rattle.clap.specs.Walk.{Rule, Text, first_of, rows_of}
use Rattle.clap.specs.Simple.{App, HasMatchesOf, new_app, new_rule, with_rule, on_top}
use Rattle.clap.specs.Simple.{is_simple, matches_of}
use Rattle.clap.specs.Takes.{takes}
use Rattle.clap.specs.Words.{found_of, kind_of}
use Rattle.clap.specs.declared.parser.matches.ArgMatches.{ArgMatches}
use Rattle.clap.specs.declared.error.Error.{Error}
use Rattle.clap.specs.declared.error.kind.ErrorKind.TheVariants.{OutOfMemory}
use Rattle.clap.proofs.OnLiterals.{clap_on_literals}
use Rattle.clap.proofs.WalkLemmas.{first_value-rows}
use Rattle.trace_replay.specs.declared.words.Words.{Words}
use Rattle.trace_replay.specs.CommandLines.{IsRead}
use Rattle.trace_replay.specs.Words.{option_words, words_of}

abbrev pub workers_rule : Rule
workers_rule = record (new_rule (codes "workers")) { long = Some (codes "workers") }

abbrev pub make_rule : Rule
make_rule = record (new_rule (codes "make")) { long = Some (codes "make") }

abbrev pub bare_app : App
bare_app = on_top (λ s. record s {
  no_binary_name = true;
  disable_help_flag = true;
  disable_version_flag = true;
}) (new_app (codes "rd_replay"))

-- the command line of the program
abbrev pub app : App
app = with_rule (with_rule bare_app workers_rule) make_rule

-- words are taken, and read so
record Reads (words : List Text) (workers make : Option Text) : Type 0 where
  pub taken : takes app words ≡ true
  pub workers_is : first_of (codes "workers") (matches_of app words) ≡ workers
  pub make_is : first_of (codes "make") (matches_of app words) ≡ make

simple : is_simple app ≡ true
unfolding clap_on_literals
simple = refl

reads_all : (workers devices : Option ℕ) → Reads
    (option_words (codes "--workers") workers ++ option_words (codes "--make") devices)
    (option_map decimal workers) (option_map decimal devices)
unfolding clap_on_literals
reads_all None None = record { taken = refl; workers_is = refl; make_is = refl }
reads_all None (Some n) = record { taken = refl; workers_is = refl; make_is = refl }
reads_all (Some w) None = record { taken = refl; workers_is = refl; make_is = refl }
reads_all (Some w) (Some n) = record { taken = refl; workers_is = refl; make_is = refl }

-- what a parse of the words gives, by what clap says of it
pub reads_asked : (command : App) (words : List Text) (result : Result ArgMatches Error)
    → command ≡ app → IfOk result (HasMatchesOf command words)
    → IfErr result (λ e. takes command words ≡ true → kind_of e ≡ OutOfMemory)
    → (asked : Words) → words ≡ words_of asked → IsRead asked result
reads_asked command words (Ok m) e matches passes asked is =
    let r : Reads words (option_map decimal asked.workers) (option_map decimal asked.devices) =
    subst (λ (ws : List Text). Reads ws (option_map decimal asked.workers)
    (option_map decimal asked.devices)) (sym is)
    (reads_all asked.workers asked.devices) in
    let rows : rows_of (found_of m) ≡ matches_of app words =
    (matches (ap is_simple e ∙ simple)).0 ∙ ap (λ (a : App). matches_of a words) e in
    record {
      workers = first_value-rows (found_of m) (codes "workers")
          ∙ (ap (first_of (codes "workers")) rows ∙ r.workers_is);
      devices = first_value-rows (found_of m) (codes "make")
          ∙ (ap (first_of (codes "make")) rows ∙ r.make_is);
    }
reads_asked command words (Err error) e matches passes asked is =
    passes (ap (λ (a : App). takes a words) e
    ∙ subst (λ (ws : List Text). takes app ws ≡ true) (sym is)
    (reads_all asked.workers asked.devices).taken)
