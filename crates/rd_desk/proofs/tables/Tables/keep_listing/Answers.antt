use Rattle.std.proofs.Common.{◌≡◌, Ok, ap, ◌∙◌}
use Rattle.std.specs.Arc.{arc_value}
use Rattle.message_model.specs.Reading.{reading}
use Rattle.message_model.specs.Spelling.{spelling}
use Rattle.coap_message.specs.Views.{message_in}
use Rattle.rd_look.specs.KeepJobs.{Keep}
use Rattle.rd_desk.proofs.parts.KeepLaws.{way_starved, way_kept}
use Rattle.rd_desk.proofs.tables.Tables.keep_listing.Goals as goal

pub returns-in_default : goal.returns-in_default
returns-in_default c = record {
  way = λ rows s of way.
      let m = message_in c.request-request.result.meaning.view in
      let read : reading (spelling c.job.inside.request) ≡ Ok m =
      ap (λ (j : Keep). reading j.datagram) c.job.view_is ∙ c.request-request.ensures in
      way_starved rows s c.args.self.now c.args.out.now c.answer_starved.new.out c.args.mids.now
      c.answer_starved.new.mids c.job.inside.peer (spelling c.job.inside.request)
      (record { body = arc_value c.job.inside.body; tag = c.job.inside.tag.0 }) c.args.job m
      c.job.view_is of read (c.answer_starved.ensures.sends s) way;
}

pub returns : goal.returns
returns c = record {
  way = λ rows s of way.
      let m = message_in c.request-request.result.meaning.view in
      let read : reading (spelling c.job.inside.request) ≡ Ok m =
      ap (λ (j : Keep). reading j.datagram) c.job.view_is ∙ c.request-request.ensures in
      way_kept rows s _ c.args.self.now c.adopt.new.self c.in-Ok.ready c.args.out.now
      c.send_block.new.out c.args.mids.now c.send_block.new.mids c.job.inside.peer
      (spelling c.job.inside.request)
      (record { body = arc_value c.job.inside.body; tag = c.job.inside.tag.0 }) c.args.job m
      c.as_slice.result.now c.self.view_is c.job.view_is of read
      (c.as_slice.ensures.value ∙ c.deref.ensures) c.in-Ok.ensures c.adopt.ensures.stands
      c.send_block.ensures way;
}
