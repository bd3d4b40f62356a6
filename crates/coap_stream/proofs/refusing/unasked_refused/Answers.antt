use Rattle.std.proofs.Common.{refl, sym, ◌∙◌}
use Rattle.coap_message.specs.Views.{message_in}
use Rattle.coap_stream.proofs.RefusingLaws.{late_refusal, unasked_late}
use Rattle.coap_stream.proofs.refusing.unasked_refused.Goals as goal

pub unreachable-requires : goal.unreachable-requires
unreachable-requires c =
    late_refusal (message_in c.args.view.now) c.args.refusal _ c.requires
    (sym c.is_before_method.ensures ∙ c.if-is_before_method.false) c.in_default.ensures.bad

pub returns-then-is_simple : goal.returns-then-is_simple
returns-then-is_simple c =
    let m = message_in c.args.view.now in
    let simple = sym (c.is_simple.ensures m c.in-Ok.ensures.meaning) ∙ c.if-is_simple.true in
    sym (unasked_late m c.args.refusal c.requires
    (sym c.is_before_method.ensures ∙ c.if-is_before_method.false) ∙ rw simple refl)

pub returns : goal.returns
returns c =
    let m = message_in c.args.view.now in
    let simple = sym (c.is_simple.ensures m c.in-Ok.ensures.meaning) ∙ c.if-is_simple.false in
    sym (unasked_late m c.args.refusal c.requires
    (sym c.is_before_method.ensures ∙ c.if-is_before_method.false) ∙ rw simple refl)
