use Rattle.std.proofs.Common.{refl}
use Rattle.coap_message.specs.Views.{message_in}
use Rattle.journal_model.specs.Changes.{refused}
use Rattle.journal_model.specs.Effects.{nothing}
use Rattle.rd_desk.specs.parts.Replies.{short_said}
use Rattle.rd_desk.proofs.changes.SettlingLaws.{open_more}
use Rattle.rd_desk.proofs.changes.UploadLaws.{settled_refusal}
use Rattle.rd_desk.proofs.tables.Tables.refuse_write.Goals as goal

pub returns-clause-way : goal.returns-clause-way
returns-clause-way c =
    λ rows s starved place of opened way.
    let m = message_in c.args.write.now.request.meaning.view in
    settled_refusal rows s starved place m (short_said c.plain.result)
    (refused c.args.code c.args.diagnostic.now) c.settle.new.self c.settle.new.out c.settle.new.mids
    c.plain.ensures refl
    (c.settle.ensures.way rows s starved nothing place of refl
    (open_more rows s starved nothing place c.args.write.now.peer m.mid c.args.write.now.admitted.0
    refl opened)
    way)
