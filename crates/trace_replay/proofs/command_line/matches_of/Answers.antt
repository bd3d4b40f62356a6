use Rattle.std.proofs.Common.{◌≡◌, ◌∙◌, ap₂, rules, map}
use Rattle.std.specs.String.{string_bytes}
use Rattle.clap.specs.Walk.{rule_of}
use Rattle.clap.specs.Simple.{app_of, with_rule}
use Rattle.trace_replay.proofs.ClapReads.{app, bare_app, make_rule, reads_asked, workers_rule}
use Rattle.trace_replay.proofs.command_line.matches_of.Goals as goal

pub returns : goal.returns
returns c =
    let workers_is : rule_of c.long-workers.result ≡ workers_rule = search rules in
    let make_is : rule_of c.long-make.result ≡ make_rule = search rules in
    let bare_is : app_of c.disable_version_flag.result ≡ bare_app = search rules in
    let app_is : app_of c.in_ok-command.command ≡ app = c.in_ok-command.ensures.shape (search rules)
    ∙ ap₂ with_rule (c.in_ok-arg.ensures.shape (search rules) ∙ ap₂ with_rule bare_is workers_is)
    make_is in
    let parse = c.try_get_matches_from in
    reads_asked _ (map string_bytes c.args.words.now) parse.result app_is parse.ensures.matches
    parse.ensures.passes
