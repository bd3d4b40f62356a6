use Rattle.std.proofs.Common.{ℕ, sym, ap, ◌∙◌}
use Rattle.journal_model.specs.Changes.{created_at}
use Rattle.coap_answers.specs.Replies.{block1_options}
use Rattle.rd_desk.proofs.changes.OutcomeLaws.{registration-HasEntry}
use Rattle.rd_desk.proofs.write.outcomes.draft_registered.Goals as goal

pub returns-in-Ok-clause-planned : goal.returns-in-Ok-clause-planned
returns-in-Ok-clause-planned c history entry meant stands is said =
    c.entered.ensures.planned history c.args.version.now.swept entry meant
    (registration-HasEntry history c.args.version.now.swept _ c.args.now c.args.draft entry _ is
    (c.in-Ok.ensures.stands 0 history entry stands is) c.in-Ok.ensures.swept
    (c.in-Ok.ensures.accepted 0 history entry stands is) (c.in-Ok.ensures.number 0 history stands))
    (c.created-reply.ensures
    ∙ (ap (λ (n : ℕ). created_at n (block1_options c.args.block1))
    (c.in-Ok.ensures.number 0 history stands)
    ∙ sym said))

pub returns-in-Err-clause-planned : goal.returns-in-Err-clause-planned
returns-in-Err-clause-planned c history entry meant stands is said =
    c.refused.ensures.planned history c.args.version.now.swept entry meant
    (c.in-Err.ensures.refused 0 history entry stands is)
