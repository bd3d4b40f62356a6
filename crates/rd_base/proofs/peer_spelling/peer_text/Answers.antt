-- A peer is a host, a colon and a port.
use Rattle.std.proofs.Common.{ℕ, List, ◌++◌, codes, decimal, ap, sym, ◌∙◌, append_assoc}
use Rattle.rd_base.specs.Bases.{host_text}
use Rattle.rd_base.proofs.PeerNames.{peer_text_parts}
use Rattle.rd_base.proofs.peer_spelling.peer_text.Goals as goal

pub returns : goal.returns
returns c =
    let peer = c.args.peer.now in
    let host =
    c.in_ok-push_host.ensures
    ∙ ap (λ (t : List ℕ). t ++ host_text peer.host) c.in_ok-text.ensures.bytes in
    let colon = c.in_ok-push_mark.ensures ∙ ap (λ (t : List ℕ). t ++ codes ":") host in
    c.of.ensures
    ∙ c.in_ok-push_number.ensures
    ∙ ap (λ (t : List ℕ). t ++ decimal peer.port) colon
    ∙ append_assoc (host_text peer.host) (codes ":") (decimal peer.port)
    ∙ sym (peer_text_parts peer)
