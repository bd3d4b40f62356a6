use Rattle.std.proofs.Common.{ℕ, ◌+◌, true, false, ap, ◌∙◌}
use Rattle.coap_message.specs.Views.{message_in}
use Rattle.journal_model.specs.Effects.{mid_of}
use Rattle.rd_desk.proofs.changes.FetchStartLaws.{
  way_started,
  way_kept,
  settled_fetching,
  settled_full,
}
use Rattle.rd_desk.proofs.changes.UploadLaws.{opened_by}
use Rattle.message_model.specs.Request.{queries_in}
use Rattle.record_model.specs.declared.readings.Reading.TheVariants as reading
use Rattle.record_model.specs.Criteria.{fault_of}
use Rattle.rd_request.proofs.AskedLaws.{none_there}
use Rattle.rd_desk.proofs.tables.Tables.commit_simple.Goals as goal

pub given_params-requires : goal.given_params-requires
given_params-requires c = (
  true,
  none_there (fault_of reading.Simple
      (queries_in (message_in c.args.registering.now.write.request.meaning.view)))
      c.args.registering.now.good,
)

pub returns-in_default-clause-way : goal.returns-in_default-clause-way
returns-in_default-clause-way c =
    λ rows s place of fed opened way.
    c.fail.ensures.way rows s true place of
    (opened_by rows s place (message_in c.args.registering.now.write.request.meaning.view)
    c.args.registering.now.write.peer
    c.args.registering.now.write.admitted.0 of opened) way

pub returns-in-Ok-start-clause-way : goal.returns-in-Ok-start-clause-way
returns-in-Ok-start-clause-way c =
    λ rows s place of fed opened way.
    let m = message_in c.args.registering.now.write.request.meaning.view in
    way_started rows s place m _ c.args.self.now c.settle_beside_fetch.new.self c.start.new.self
    c.in-Ok-start.ask c.of-params.result c.after-mid.result c.args.word
    c.args.registering.now.write.peer
    c.args.out.now c.settle_beside_fetch.new.out c.ask_next.new.out c.args.mids.now
    c.settle_beside_fetch.new.mids c.ask_next.new.mids c.self.view_is of fed
    c.args.registering.now.write.request.meaning.view.token.short
    (c.of-params.ensures ∙ c.in-Ok.ensures.value)
    (c.after-mid.ensures
    ∙ ap (λ (n : ℕ). mid_of c.args.mids.now.worker (c.args.mids.now.drawn + n))
    c.drawn_for.ensures) c.in-Ok-start.ensures.refused c.in-Ok-start.ensures.ask
    (λ octets past e stands says moment word.
    c.in-Ok-start.ensures.started octets past e stands says moment word)
    c.settle_beside_fetch.ensures.fetches
    (λ begun.
    c.settle_beside_fetch.ensures.way _ rows s false place of
    (opened_by rows s place m c.args.registering.now.write.peer
    c.args.registering.now.write.admitted.0 of opened) begun)
    c.ask_next.ensures.sends way

pub returns-in-Err-Fetching-clause-way : goal.returns-in-Err-Fetching-clause-way
returns-in-Err-Fetching-clause-way c =
    λ rows s place of fed opened way.
    let m = message_in c.args.registering.now.write.request.meaning.view in
    settled_fetching rows s place m _ c.args.self.now c.refuse_write.new.self
    c.args.registering.now.write.peer
    c.in-Err-Fetching.field-0-0 c.args.out.now c.refuse_write.new.out c.args.mids.now
    c.refuse_write.new.mids c.self.view_is of
    (λ octets past h.
    (rw c.in-Err-Fetching.field-0-is at c.in-Err-Fetching.ensures.refused octets past h)) way
    (c.refuse_write.ensures.way rows s false place of
    (opened_by rows s place m c.args.registering.now.write.peer
    c.args.registering.now.write.admitted.0 of opened)
    (way_kept rows s false _ c.args.self.now c.start.new.self c.args.out.now c.args.mids.now
    c.self.view_is c.in-Err-Fetching.ensures.kept way))

pub returns-in-Err-FullFetches-clause-way : goal.returns-in-Err-FullFetches-clause-way
returns-in-Err-FullFetches-clause-way c =
    λ rows s place of fed opened way.
    let m = message_in c.args.registering.now.write.request.meaning.view in
    settled_full rows s place m _ c.args.self.now c.refuse_write-in-Err-FullFetches.new.self
    c.args.registering.now.write.peer c.args.out.now c.refuse_write-in-Err-FullFetches.new.out
    c.args.mids.now
    c.refuse_write-in-Err-FullFetches.new.mids c.self.view_is of
    (λ octets past h.
    (rw c.in-Err-FullFetches.field-0-is at c.in-Err-FullFetches.ensures.refused octets past h))
    way
    (c.refuse_write-in-Err-FullFetches.ensures.way rows s false place of
    (opened_by rows s place m c.args.registering.now.write.peer
    c.args.registering.now.write.admitted.0 of opened)
    (way_kept rows s false _ c.args.self.now c.start.new.self c.args.out.now c.args.mids.now
    c.self.view_is c.in-Err-FullFetches.ensures.kept way))

pub returns-in-Err-Starved-clause-way : goal.returns-in-Err-Starved-clause-way
returns-in-Err-Starved-clause-way c =
    λ rows s place of fed opened way.
    let m = message_in c.args.registering.now.write.request.meaning.view in
    c.fail-in-Err-Starved.ensures.way rows s true place of
    (opened_by rows s place m c.args.registering.now.write.peer
    c.args.registering.now.write.admitted.0 of opened)
    (way_kept rows s true _ c.args.self.now c.start.new.self c.args.out.now c.args.mids.now
    c.self.view_is c.in-Err-Starved.ensures.kept way)
