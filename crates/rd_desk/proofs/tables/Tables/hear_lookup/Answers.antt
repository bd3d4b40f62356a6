use Rattle.std.proofs.Common.{sym, subst, ◌∙◌}
use Rattle.coap_message.specs.Views.{message_in}
use Rattle.journal_model.specs.Effects.{Effects}
use Rattle.rd_desk.specs.calls.Stepping.{is_starved_step}
use Rattle.rd_desk.specs.parts.UnderWay.{UnderWay}
use Rattle.rd_desk.proofs.parts.HearingLaws.{heeded-other, later_lookup, lookup_has_tag}
use Rattle.rd_desk.proofs.tables.Tables.hear_lookup.Goals as goal

pub answer_later-requires-clause-seeks : goal.answer_later-requires-clause-seeks
answer_later-requires-clause-seeks c =
    lookup_has_tag (message_in c.args.request.now.meaning.view) c.requires.lookup

pub returns-then-is_later_block-clause-way : goal.returns-then-is_later_block-clause-way
returns-then-is_later_block-clause-way c =
    λ rows s of way.
    let m = message_in c.args.request.now.meaning.view in
    subst (λ (e : Effects).
    UnderWay rows s (is_starved_step c.answer_later.result) e c.answer_later.new.self
    c.answer_later.new.out c.answer_later.new.mids)
    (later_lookup rows s (is_starved_step c.answer_later.result) m
    (sym (c.is_later_block.ensures) ∙ c.if-is_later_block.true))
    (c.answer_later.ensures.way rows s of way)

pub answer_observed-requires-clause-first : goal.answer_observed-requires-clause-first
answer_observed-requires-clause-first c = sym (c.is_later_block.ensures) ∙ c.if-is_later_block.false

pub answer_unobserved-requires-clause-first : goal.answer_unobserved-requires-clause-first
answer_unobserved-requires-clause-first c =
    sym (c.is_later_block.ensures) ∙ c.if-is_later_block.false

pub answer_unobserved-requires-clause-heeded : goal.answer_unobserved-requires-clause-heeded
answer_unobserved-requires-clause-heeded c =
    let m = message_in c.args.request.now.meaning.view in
    heeded-other m c.requires.lookup c.requires.other
    (sym (c.is_later_block.ensures) ∙ c.if-is_later_block.false)
