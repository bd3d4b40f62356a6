use Rattle.std.proofs.Common.{ℕ, ◌≡◌, ◌≤◌, List, [], ◌∷◌, ◌++◌, length, sym, ap, subst, ◌∙◌, arith}
use Rattle.message_model.specs.Message.{Opt, end_number, last_number, longest_value}
use Rattle.client_model.specs.declared.asks.Ask.{Ask}
use Rattle.client_model.specs.Requests.{CanFollow}
use Rattle.registrant.proofs.EchoLaws.{follow_push, ok_when}
use Rattle.registrant.proofs.echoes.echoed_ask.Goals as goal

pub fitted-requires-clause-options : goal.fitted-requires-clause-options
fitted-requires-clause-options c =
    let options = c.args.ask.now.options in
    let value = c.args.echo.now in
    let last : c.last_number.result ≡ end_number 0 options =
    c.last_number.ensures ∙ ap (end_number 0) c.as_slice.ensures in
    let not_above = c.if-last_number-gt-ECHO.false in
    let not_long = c.if-echo-gt-MAX_ECHO.false in
    let ascends : end_number 0 options ≤ 252 = omega (arith, last, not_above) in
    let number : 252 ≤ last_number = omega arith in
    let size : length value ≤ longest_value = omega (arith, not_long) in
    let follow : CanFollow 0 (options ++ (252, value) ∷ []) =
    follow_push 0 options (252, value) c.requires.options ascends number size in
    let pushed =
    ok_when c.push.result _ c.push.ensures.ok (sym c.is_err.ensures.value ∙ c.if-is_err.false) in
    subst (λ (os : List Opt). CanFollow 0 os) (sym pushed)
    (subst (λ (ask : Ask). CanFollow 0 (ask.options ++ (252, c.in-Ok-copy_of.value) ∷ []))
    (sym c.in-Ok.ensures)
    (subst (λ (octets : List ℕ). CanFollow 0 (options ++ (252, octets) ∷ []))
    (sym c.in-Ok-copy_of.ensures) follow))
