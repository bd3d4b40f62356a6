use Rattle.std.proofs.Common.{Some, None, sym, ◌∙◌}
use Rattle.coap_message.specs.Views.{message_in}
use Rattle.rd_desk.specs.calls.Stepping.{is_starved_step}
use Rattle.rd_desk.proofs.changes.CommitLaws.{way_brought}
use Rattle.rd_desk.specs.parts.Purposes.{purpose_of}
use Rattle.rd_desk.proofs.tables.Tables.commit_links.Goals as goal

pub returns-in-None-clause-way : goal.returns-in-None-clause-way
returns-in-None-clause-way g c =
    λ rows s place of opened way.
    way_brought (purpose_of c.args.bringing.now.purpose
    (message_in c.args.bringing.now.write.request.meaning.view)) rows s
    (is_starved_step c.commit_whole.result) place
    (message_in c.args.bringing.now.write.request.meaning.view) None c.commit_whole.new.self
    c.commit_whole.new.out c.commit_whole.new.mids
    (sym c.in-None.is ∙ c.args.bringing.now.write.request.sent_said)
    (c.commit_whole.ensures.way rows s place of opened way)

pub returns-in-Some-clause-way : goal.returns-in-Some-clause-way
returns-in-Some-clause-way g c =
    λ rows s place of opened way.
    way_brought (purpose_of c.args.bringing.now.purpose
    (message_in c.args.bringing.now.write.request.meaning.view)) rows s
    (is_starved_step c.commit_block.result) place
    (message_in c.args.bringing.now.write.request.meaning.view) (Some c.in-Some.block)
    c.commit_block.new.self c.commit_block.new.out c.commit_block.new.mids
    (sym c.in-Some.is ∙ c.args.bringing.now.write.request.sent_said)
    (c.commit_block.ensures.way rows s place of opened way)
