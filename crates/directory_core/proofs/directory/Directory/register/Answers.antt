use Rattle.std.proofs.Common.{◌≡◌, ◌+◌, Some, None, sym, ap}
use Rattle.rd_base.specs.declared.records.Record.{Record}
use Rattle.history_model.specs.Replay.{number_for, replay}
use Rattle.history_model.specs.Versions.{Version}
use Rattle.directory_core.proofs.AnswerLaws.{
  numbered_stands,
  numbered_accepted,
  numbered_refused,
  numbered_version,
  numbered_number,
  number_again,
}
use Rattle.directory_core.proofs.directory.Directory.register.Goals as goal

pub register_again-requires-clause-of_body : goal.register_again-requires-clause-of_body
register_again-requires-clause-of_body c =
    record {
      against = c.in-Some.ensures.sound.against;
      links = c.in-Some.ensures.sound.of_body;
    }

pub returns-in_default-clause-stands : goal.returns-in_default-clause-stands
returns-in_default-clause-stands c first history entry stands h =
    numbered_stands first history entry c.args.self.now.swept (c.self.inside.last_number + 1)
    c.register_new.result c.with_number.result
    (c.register_new.ensures.answers first history entry stands h) c.with_number.ensures

pub returns-in_default-clause-number : goal.returns-in_default-clause-number
returns-in_default-clause-number c first history stands =
    numbered_number (λ n. n ≡ number_for c.args.draft.name c.args.now.0 (replay history))
    (c.self.inside.last_number + 1) c.register_new.result c.with_number.result
    (number_again first history c.args.self.now c.args.now.0 c.args.draft.name None
    (c.self.inside.last_number + 1) stands c.requires.after_sweep
    (sym c.in_default.ensures.value) (ap (λ (w : Version). w.last_number + 1) c.self.view_is))
    c.with_number.ensures

pub returns-in_default-clause-accepted : goal.returns-in_default-clause-accepted
returns-in_default-clause-accepted c first history entry stands h =
    numbered_accepted first history entry c.args.self.now.swept (c.self.inside.last_number + 1)
    c.register_new.result c.with_number.result
    (c.register_new.ensures.answers first history entry stands h) c.with_number.ensures

pub returns-in_default-clause-refused : goal.returns-in_default-clause-refused
returns-in_default-clause-refused c first history entry stands h =
    numbered_refused first history entry c.args.self.now.swept (c.self.inside.last_number + 1)
    c.register_new.result c.with_number.result
    (c.register_new.ensures.answers first history entry stands h) c.with_number.ensures

pub returns-in_default-clause-swept : goal.returns-in_default-clause-swept
returns-in_default-clause-swept c =
    numbered_version (λ (v : Version). v.swept ≡ c.args.self.now.swept)
    (c.self.inside.last_number + 1) c.register_new.result c.with_number.result
    c.register_new.ensures.kept c.with_number.ensures

pub returns-in_default-clause-at : goal.returns-in_default-clause-at
returns-in_default-clause-at c =
    numbered_version (λ (v : Version). v.at ≡ c.args.now.0) (c.self.inside.last_number + 1)
    c.register_new.result c.with_number.result c.register_new.ensures.at c.with_number.ensures

pub returns-clause-stands : goal.returns-clause-stands
returns-clause-stands c first history entry stands h =
    numbered_stands first history entry c.args.self.now.swept c.as_record.result.now.number
    c.register_again.result c.with_number-2.result
    (c.register_again.ensures.answers first history entry stands h) c.with_number-2.ensures

pub returns-clause-number : goal.returns-clause-number
returns-clause-number c first history stands =
    numbered_number (λ n. n ≡ number_for c.args.draft.name c.args.now.0 (replay history))
    c.as_record.result.now.number c.register_again.result c.with_number-2.result
    (number_again first history c.args.self.now c.args.now.0 c.args.draft.name
    (Some c.in-Some.old.now) c.as_record.result.now.number stands c.requires.after_sweep
    (sym c.in-Some.ensures.value) (ap (λ (r : Record). r.number) c.as_record.ensures))
    c.with_number-2.ensures

pub returns-clause-accepted : goal.returns-clause-accepted
returns-clause-accepted c first history entry stands h =
    numbered_accepted first history entry c.args.self.now.swept c.as_record.result.now.number
    c.register_again.result c.with_number-2.result
    (c.register_again.ensures.answers first history entry stands h) c.with_number-2.ensures

pub returns-clause-refused : goal.returns-clause-refused
returns-clause-refused c first history entry stands h =
    numbered_refused first history entry c.args.self.now.swept c.as_record.result.now.number
    c.register_again.result c.with_number-2.result
    (c.register_again.ensures.answers first history entry stands h) c.with_number-2.ensures

pub returns-clause-swept : goal.returns-clause-swept
returns-clause-swept c =
    numbered_version (λ (v : Version). v.swept ≡ c.args.self.now.swept)
    c.as_record.result.now.number c.register_again.result c.with_number-2.result
    c.register_again.ensures.kept c.with_number-2.ensures

pub returns-clause-at : goal.returns-clause-at
returns-clause-at c =
    numbered_version (λ (v : Version). v.at ≡ c.args.now.0) c.as_record.result.now.number
    c.register_again.result c.with_number-2.result c.register_again.ensures.at
    c.with_number-2.ensures
