use Rattle.std.proofs.Common.{◌∙◌, ap, sym, option_map, codes, decimal}
use Rattle.rd_base.specs.Prefixes.{after_prefix}
use Rattle.rd_base.proofs.PrefixLemmas.{no_first, no_second, after_three}
use Rattle.rd_base.proofs.PeerNames.{peer_text_parts}
use Rattle.rd_base.proofs.peer_spelling.after_peer.Goals as goal

pub returns-in_err-rest : goal.returns-in_err-rest
returns-in_err-rest c =
    ap (option_map (λ b. b.now)) c.from_residual.ensures
    ∙ no_first _ (codes ":") (decimal c.args.peer.now.port) _ c.in_err-rest.ensures
    ∙ sym (ap (λ t. after_prefix t c.args.text.now) (peer_text_parts c.args.peer.now))

pub returns-in_err-rest-2 : goal.returns-in_err-rest-2
returns-in_err-rest-2 c =
    ap (option_map (λ b. b.now)) c.from_residual-in_err-rest-2.ensures
    ∙ no_second _ (codes ":") (decimal c.args.peer.now.port) _ _ c.in_ok-rest.ensures
    c.in_err-rest-2.ensures
    ∙ sym (ap (λ t. after_prefix t c.args.text.now) (peer_text_parts c.args.peer.now))

pub returns : goal.returns
returns c =
    c.after_number.ensures
    ∙ after_three _ (codes ":") (decimal c.args.peer.now.port) _ _ _ c.in_ok-rest.ensures
    c.in_ok-rest-2.ensures
    ∙ sym (ap (λ t. after_prefix t c.args.text.now) (peer_text_parts c.args.peer.now))
