use Rattle.std.proofs.Common.{◌≡◌, ◌∷◌, Some, None, refl, sym, ap, ap₂, subst, ◌∙◌, option_map}
use Rattle.rd_base.proofs.lemmas.Options.{some_same}
use Rattle.event_model.specs.KeptAnswers.{KeptAnswer}
use Rattle.transfers.specs.Keeping.{live_kept, values, used_at, after_reading}
use Rattle.transfers.specs.TransferEvents.{AnswersStandFor, TransfersStandFor}
use Rattle.transfers.proofs.KeptLists.{is_none, is_present}
use Rattle.transfers.proofs.UploadEvents.{UploadsStandFor-aside}
use Rattle.transfers.proofs.KeptEvents.{kept-is, AnswersStandFor-read}
use Rattle.transfers.proofs.table.Transfers.kept_block.Goals as goal

pub returns-in_err-number : goal.returns-in_err-number
returns-in_err-number c =
    let old = values c.self.inside.answers.entries in
    let none =
    is_none (live_kept c.args.now.0 (c.args.peer, c.args.key.now) old)
    c.in_err-number.ensures.found in
    let same = c.in_err-number.ensures.answers ∙ ap (λ o. after_reading c.args.now.0 o old) none in
    let residual : c.from_residual.result ≡ None = c.from_residual.ensures in
    rw residual (
      (
        refl,
        λ _.
            tt,
        ap (λ xs. record { uploads = c.self.inside.uploads.items; answers = xs }) same
            ∙ c.self.view_is,
      ),
      record {
        ends = tt;
        answer = λ at events stands.
            let before = subst (TransfersStandFor at events) (sym c.self.view_is) stands in
            ap (option_map (λ (x : KeptAnswer). x.answer)) (sym none)
            ∙ kept-is c.args.now.0 (c.args.peer, c.args.key.now) events old before.answers;
      },
    )

pub returns : goal.returns
returns c =
    let old = values c.self.inside.answers.entries in
    let lives =
    is_present (live_kept c.args.now.0 (c.args.peer, c.args.key.now) old)
    c.in_ok-number.ensures.found in
    let x = lives.0 in
    let answers =
    c.in_ok-number.ensures.answers ∙ ap (λ o. after_reading c.args.now.0 o old) lives.1 in
    let kept =
    some_same (c.in_ok-kept.ensures ∙ (c.in_ok-number.ensures.value ∙ ap (option_map (used_at
    c.args.now.0)) lives.1)) in
    let body = c.body.ensures ∙ ap (λ (k : KeptAnswer). k.answer.body) kept in
    let tag = c.tag.ensures ∙ ap (λ (k : KeptAnswer). k.answer.tag) kept in (
      (
        refl,
        λ _. tt,
        λ at events e is moment stands.
            let before = subst (TransfersStandFor at events) (sym c.self.view_is) stands in
            record {
              uploads =
                  UploadsStandFor-aside at e events c.self.inside.uploads.items (rw is refl)
                  before.uploads;
              answers =
                  subst (AnswersStandFor (e ∷ events)) (sym answers)
                  (AnswersStandFor-read c.args.now.0 c.args.peer c.args.key.now e events old x
                  is moment lives.1 before.answers);
            },
      ),
      record {
        ends = tt;
        answer = λ at events stands.
            let before = subst (TransfersStandFor at events) (sym c.self.view_is) stands in
            ap₂ (λ octets bytes. Some (record { body = octets; tag = bytes })) body tag
            ∙ (ap (option_map (λ (k : KeptAnswer). k.answer)) (sym lives.1)
            ∙ kept-is c.args.now.0 (c.args.peer, c.args.key.now) events old before.answers);
      },
    )
