use Rattle.std.proofs.Common.{ℕ, ◌≤◌, List, length, Some, sym, ap, subst, ◌∙◌}
use Rattle.message_model.specs.Spelling.{spelling}
use Rattle.coap_message.specs.PartialMessages.{longest_datagram}
use Rattle.message_model.specs.FetchRequests.{fetch_request}
use Rattle.simple_registration.specs.Responses.{block_after}
use Rattle.simple_registration.proofs.SendableLaws.{request-IsSendable}
use Rattle.simple_registration.proofs.running.Fetch.ask_next.Goals as goal

pub returns-clause-sendable : goal.returns-clause-sendable
returns-clause-sendable c =
    let copied = c.in_ok-bytes.ensures ∙ c.as_slice-2.ensures.value in
    request-IsSendable c.args.mid c.self.inside.token c.in_ok-bytes.bytes
    (Some (block_after c.args.block.now)) c.as_slice.ensures.fits
    (copied
    ∙ (c.in_ok-kept.ensures.spelled
    ∙ ap (λ (t : List ℕ).
    spelling (fetch_request c.args.mid t (Some (block_after c.args.block.now))))
    c.as_slice.ensures.value))
    (subst (λ (bytes : List ℕ). length bytes ≤ longest_datagram) (sym copied)
    c.in_ok-kept.ensures.fits)
