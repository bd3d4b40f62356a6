use Rattle.std.proofs.Common.{◌≤◌, ℕ, List, [], ◌∷◌, length, sym, ap, subst, ◌∙◌, arith}
use Rattle.message_model.specs.Message.{Message, Opt, end_number}
use Rattle.message_model.specs.Spelling.{spelling}
use Rattle.message_model.specs.Numbers.{uint_bytes}
use Rattle.coap_message.specs.PartialMessages.{with_payload}
use Rattle.stream_reader.specs.Shown.{frame_shown}
use Rattle.coap_stream.specs.Requests.{heard_as, with_options}
use Rattle.coap_stream.proofs.HeardLaws.{end_below, opened_size, sized_size}
use Rattle.coap_stream.proofs.heard.begin_sized.Goals as goal

pub option-requires-clause-ascends : goal.option-requires-clause-ascends
option-requires-clause-ascends c =
    subst (λ (l : List Opt). end_number 0 l ≤ 23)
    (sym (ap (λ (m : Message). m.options) c.begin_request-writer.ensures.begun))
    (end_below 0 (heard_as c.args.mid (frame_shown c.args.frame.now)).options (omega arith)
    c.requires.unblocked)

pub unreachable-requires : goal.unreachable-requires
unreachable-requires c =
    let o : Opt = (23, c.block_value.result.now) in
    let payload = c.args.frame.now.payload.now in
    let whole : length (spelling (with_options (with_payload c.begin_request-writer.result payload)
    (o ∷ []))) ≤ 1280 =
    subst (λ (m : Message). length (spelling (with_options m (o ∷ []))) ≤ 1280)
    (sym c.begin_request-writer.ensures.begun)
    (sized_size c.args.mid (frame_shown c.args.frame.now) o c.requires.request
    c.block_value.ensures.few) in
    let few = opened_size c.begin_request-writer.result o payload
    c.begin_request-writer.ensures.open whole in
    let long = c.in_default.ensures.too_long in
    omega (arith, few, long)

pub returns-clause-begun : goal.returns-clause-begun
returns-clause-begun c =
    let payload = c.args.frame.now.payload.now in
    let heard : Message = heard_as c.args.mid (frame_shown c.args.frame.now) in
    ap (λ (m : Message). with_payload m payload) c.in-Ok.ensures.ok
    ∙ ap (λ (m : Message). with_options m ((23, c.block_value.result.now) ∷ []))
    c.begin_request-writer.ensures.begun
    ∙ ap (λ (l : List ℕ). with_options heard ((23, l) ∷ [])) c.block_value.ensures.value

pub returns-clause-fits : goal.returns-clause-fits
returns-clause-fits c =
    let few = c.block_value.ensures.few in
    let size = ap (λ (l : List ℕ). length l) c.block_value.ensures.value in
    sized_size c.args.mid (frame_shown c.args.frame.now) (23, uint_bytes c.args.exponent)
    c.requires.request (omega (arith, few, size))
