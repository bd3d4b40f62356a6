use Rattle.std.proofs.Common.{◌≡◌, ℕ, List, [], ◌∷◌, map, subst, ◌∙◌}
use Rattle.std.specs.Arc.{arc_value}
use Rattle.std.proofs.lemmas.Result.{IfOk-weaker}
use Rattle.message_model.specs.RequestKey.{key_in}
use Rattle.coap_message.specs.Views.{message_in}
use Rattle.coap_options.proofs.MeaningLaws.{is_meaning}
use Rattle.event_model.specs.declared.notes.Note.{Note}
use Rattle.event_model.specs.declared.notes.Note.TheVariants as note
use Rattle.event_model.specs.Events.{Event, noted}
use Rattle.event_model.specs.KeptAnswers.{KeptAnswer}
use Rattle.transfers.specs.TransferEvents.{AnswersStandFor, kept_note}
use Rattle.rd_desk.proofs.parts.KeepLaws.{listing_noted}
use Rattle.rd_desk.proofs.lookup.keeps.with_listing.Goals as goal

pub returns : goal.returns
returns c =
    let m = message_in c.args.request.now.meaning.view in
    let before = c.args.transfers.now.answers in
    let notes :
    map kept_note c.of.result
    ≡ note.Kept c.args.peer (key_in m) (arc_value c.args.body.now) c.args.tag.0 ∷ [] =
    listing_noted c.of.result c.new-answers.result.items c.args.peer c.in_ok-key.key (key_in m)
    (arc_value c.in_ok-body.body) (arc_value c.args.body.now) c.args.tag.0
    (c.of.ensures ∙ c.in_ok-push.ensures.items) c.new-answers.ensures.items
    (c.in_ok-key.ensures.key m (is_meaning c.args.request.now.meaning)) c.in_ok-body.ensures in
    IfOk-weaker c.ready.result
    (λ (ready : List KeptAnswer). (events : List Event) (place word : ℕ)
    → AnswersStandFor events before
    → AnswersStandFor (noted place c.args.now.0 word (map kept_note c.of.result) events) ready)
    (λ (ready : List KeptAnswer). (events : List Event) (place word : ℕ)
    → AnswersStandFor events before
    → AnswersStandFor (noted place c.args.now.0 word
    (note.Kept c.args.peer (key_in m) (arc_value c.args.body.now) c.args.tag.0 ∷ [])
    events) ready)
    (λ ready stands events place word h.
    subst (λ (ns : List Note). AnswersStandFor (noted place c.args.now.0 word ns events) ready)
    notes (stands events place word h)) c.ready.ensures
