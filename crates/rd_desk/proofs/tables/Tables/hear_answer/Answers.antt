use Rattle.std.proofs.Common.{false, sym, ap, subst, refl, ◌∙◌}
use Rattle.coap_message.specs.Views.{message_in}
use Rattle.journal_model.specs.Effects.{mid_of}
use Rattle.journal_model.specs.Journal.{events}
use Rattle.simple_registration.specs.declared.hearing.Heard.TheVariants as heard
use Rattle.rd_desk.specs.calls.Desks.{Seen}
use Rattle.rd_desk.specs.calls.Shown.{AreToldOf}
use Rattle.rd_desk.specs.calls.Stepping.{is_starved_step}
use Rattle.rd_desk.proofs.changes.StagingLaws.{laid_none, laid_from}
use Rattle.rd_desk.proofs.responses.FetchingLaws.{whole_of}
use Rattle.rd_desk.proofs.responses.ResponseLaws.{
  heard_here,
  way_passed,
  way_next,
  way_whole,
  way_ended,
  as_before,
}
use Rattle.rd_desk.proofs.tables.Tables.hear_answer.Goals as goal

pub returns-in-Passed-clause-way : goal.returns-in-Passed-clause-way
returns-in-Passed-clause-way g c =
    λ rows s request of with last way.
    let m = message_in c.args.meaning.now.view in
    way_passed rows s false m request _ c.args.self.now c.response.new.self c.args.out.now
    c.acknowledge_response.new.out c.args.mids.now c.self.view_is c.in-Passed.ensures.kept
    (heard_here rows s false _ c.args.self.now c.args.out.now c.args.mids.now c.args.peer m
    c.upcoming-mid.result request heard.Passed c.self.view_is of c.upcoming-mid.ensures last
    (λ e. absurd cc) c.in-Passed.ensures.answer way)
    (c.acknowledge_response.ensures.sends s c.args.mids.now of) way

pub returns-in-Next-clause-way : goal.returns-in-Next-clause-way
returns-in-Next-clause-way g c =
    λ rows s request of with last way.
    let m = message_in c.args.meaning.now.view in
    way_next rows s false m request c.in-Next.ask c.args.peer c.args.word c.upcoming-mid.result _
    c.args.self.now c.response.new.self c.args.out.now c.acknowledge_response-in-Next.new.out
    c.ask_next.new.out
    c.args.mids.now c.ask_next.new.mids c.self.view_is of with c.upcoming-mid.ensures last
    c.in-Next.ensures.sound
    (heard_here rows s false _ c.args.self.now c.args.out.now c.args.mids.now c.args.peer m
    c.upcoming-mid.result request (heard.Next c.in-Next.ask) c.self.view_is of
    c.upcoming-mid.ensures last (λ e. absurd cc) c.in-Next.ensures.answer way)
    c.in-Next.ensures.next (c.acknowledge_response-in-Next.ensures.sends s c.args.mids.now of)
    c.ask_next.ensures.sends way

pub returns-in-Whole-clause-way : goal.returns-in-Whole-clause-way
returns-in-Whole-clause-way g c =
    λ rows s request of with last way.
    let m = message_in c.args.meaning.now.view in
    let starved = is_starved_step c.complete_fetch.result in
    let is =
    heard_here rows s starved _ c.args.self.now c.args.out.now c.args.mids.now c.args.peer m
    c.upcoming-mid.result request (heard.Whole c.in-Whole.params c.in-Whole.body)
    c.self.view_is of c.upcoming-mid.ensures last
    (λ e. absurd cc) c.in-Whole.ensures.answer way in
    way_whole rows s starved m request c.in-Whole.params c.as_slice.result.now
    c.complete_fetch.new.self c.complete_fetch.new.out c.args.mids.now
    (ap (heard.Whole c.in-Whole.params) c.as_slice.ensures.value ∙ is)
    (c.complete_fetch.ensures.way rows s request c.args.mids.now of
    (sym (whole_of (mid_of s.worker s.drawn) s.peer m request (events rows) c.in-Whole.params
    c.in-Whole.body is))
    (as_before rows s starved _ c.args.self.now c.response.new.self c.args.out.now c.args.mids.now
    c.self.view_is c.in-Whole.ensures.kept way))

pub returns-in-Ended-clause-way : goal.returns-in-Ended-clause-way
returns-in-Ended-clause-way g c =
    λ rows s request of with last way.
    let m = message_in c.args.meaning.now.view in
    way_ended rows s false m request c.args.peer _ c.args.self.now c.response.new.self
    c.args.out.now c.acknowledge_response-in-Ended.new.out c.args.mids.now c.self.view_is of
    (λ octets past e h is. c.in-Ended.ensures.ended octets past e h refl is)
    (heard_here rows s false _ c.args.self.now c.args.out.now c.args.mids.now c.args.peer m
    c.upcoming-mid.result request heard.Ended c.self.view_is of c.upcoming-mid.ensures last
    (λ e. absurd cc) c.in-Ended.ensures.answer way)
    (c.acknowledge_response-in-Ended.ensures.sends s c.args.mids.now of) way

-- what is laid: only a body that is whole can enter anything

pub returns-in-Passed-clause-laid : goal.returns-in-Passed-clause-laid
returns-in-Passed-clause-laid g c =
    laid_none c.args.self.now.version _ _ _
    (ap (λ (d : Seen). d.version) c.self.view_is) c.requires.free

pub returns-in-Next-clause-laid : goal.returns-in-Next-clause-laid
returns-in-Next-clause-laid g c =
    laid_none c.args.self.now.version _ _ _
    (ap (λ (d : Seen). d.version) c.self.view_is) c.requires.free

pub returns-in-Ended-clause-laid : goal.returns-in-Ended-clause-laid
returns-in-Ended-clause-laid g c =
    laid_none c.args.self.now.version _ _ _
    (ap (λ (d : Seen). d.version) c.self.view_is) c.requires.free

pub returns-in-Starved-clause-laid : goal.returns-in-Starved-clause-laid
returns-in-Starved-clause-laid g c =
    laid_none c.args.self.now.version _ _ _
    (ap (λ (d : Seen). d.version) c.self.view_is) c.requires.free

pub returns-in-Whole-clause-laid : goal.returns-in-Whole-clause-laid
returns-in-Whole-clause-laid g c =
    laid_from c.args.self.now.version _ _ _ _ _
    (ap (λ (d : Seen). d.version) c.self.view_is) c.complete_fetch.ensures.laid

pub complete_fetch-requires-clause-told : goal.complete_fetch-requires-clause-told
complete_fetch-requires-clause-told g c =
    subst (λ (d : Seen). AreToldOf d.version (g.B.Board.told c.args.board.now)) (sym c.self.view_is)
    c.requires.told
