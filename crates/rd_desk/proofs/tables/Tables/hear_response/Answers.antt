use Rattle.std.proofs.Common.{◌≡◌, true, false, is_some, refl, sym, ap, subst, ◌∙◌}
use Rattle.message_model.specs.Message.{Message}
use Rattle.coap_message.specs.Views.{message_in}
use Rattle.journal_model.specs.Effects.{nothing, joined}
use Rattle.journal_model.specs.Journal.{events}
use Rattle.journal_model.specs.Responses.{acknowledgement, response_to}
use Rattle.journal_model.specs.Rows.{row_moment}
use Rattle.journal_model.specs.Ticks.{octets_sent}
use Rattle.journal_model.specs.UnfinishedRow.{making}
use Rattle.rd_desk.specs.parts.Responding.{unless_starved}
use Rattle.rd_desk.specs.calls.Stepping.{is_starved_step}
use Rattle.rd_desk.specs.parts.UnderWay.{UnderWay}
use Rattle.rd_desk.proofs.changes.StagingLaws.{laid_none}
use Rattle.rd_desk.proofs.responses.ResponseLaws.{
  stands_begun,
  request_there,
  way_strange,
  way_answered,
}
use Rattle.rd_desk.proofs.tables.Tables.hear_response.Goals as goal

pub returns-in_default-clause-way : goal.returns-in_default-clause-way
returns-in_default-clause-way g c =
    λ rows s of with way.
    way_strange rows s false (message_in c.args.view.now) c.args.self.now c.args.out.now
    c.reject_strange.new.out c.args.mids.now c.args.mids.now
    (c.in_default.ensures.fetch (octets_sent (making rows s false nothing)) (events rows) s
    (stands_begun rows s false _ c.args.self.now c.args.out.now c.args.mids.now c.self.view_is
    way) of)
    (c.reject_strange.ensures s c.args.mids.now of) way

pub returns-clause-way : goal.returns-clause-way
returns-clause-way g c =
    λ rows s of with way.
    let m = message_in c.args.view.now in
    let starved = is_starved_step c.hear_answer.result in
    let stands =
    stands_begun rows s starved _ c.args.self.now c.args.out.now c.args.mids.now c.self.view_is
    way in
    let there =
    request_there rows s starved (message_in c.in-Some.meaning.view) c.args.peer _
    c.args.self.now c.args.out.now c.args.mids.now c.self.view_is c.in-Some.ensures.belongs
    way in
    way_answered rows s starved m there.0 c.hear_answer.new.self c.hear_answer.new.out
    c.hear_answer.new.mids
    (c.in-Some.ensures.fetch (octets_sent (making rows s starved nothing)) (events rows) s stands of
    ∙ there.1)
    (subst (λ (n : Message).
    UnderWay rows s starved (unless_starved starved (joined (acknowledgement s n n.kind)
    (response_to rows (row_moment rows s) s n there.0))) c.hear_answer.new.self
    c.hear_answer.new.out c.hear_answer.new.mids)
    c.in-Some.ensures.view (c.hear_answer.ensures.way rows s there.0 of with there.1 way))

pub returns-in_default-clause-laid : goal.returns-in_default-clause-laid
returns-in_default-clause-laid g c = laid_none c.args.self.now.version _ _ _ refl c.requires.free

pub returns-clause-unstarved : goal.returns-clause-unstarved
returns-clause-unstarved g c =
    λ rows s of way silent.
    let stands =
    stands_begun rows s false _ c.args.self.now c.args.out.now c.args.mids.now c.self.view_is
    way in
    let there =
    request_there rows s false (message_in c.in-Some.meaning.view) c.args.peer _ c.args.self.now
    c.args.out.now c.args.mids.now c.self.view_is c.in-Some.ensures.belongs way in
    let fetched =
    c.in-Some.ensures.fetch (octets_sent (making rows s false nothing)) (events rows) s stands
    of
    ∙ there.1 in
    absurd (let yes : true ≡ false = sym (ap is_some fetched) ∙ silent in cc)
