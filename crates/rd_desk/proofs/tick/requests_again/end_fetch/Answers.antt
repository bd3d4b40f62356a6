use Rattle.std.proofs.Common.{◌≡◌, Some, None, sym, ap, ◌∙◌}
use Rattle.rd_base.specs.declared.peers.Peer.{Peer}
use Rattle.rd_base.proofs.lemmas.Options.{some_same}
use Rattle.event_model.specs.declared.notes.Note.TheVariants as note
use Rattle.rd_desk.proofs.ticking.RequestWalk.{peer_at}
use Rattle.rd_desk.proofs.tick.requests_again.end_fetch.Goals as goal

pub returns-in_default : goal.returns-in_default
returns-in_default c octets past peer e got is stands =
    absurd (let no : None ≡ Some peer =
    sym c.in_default.is
    ∙ (c.at.ensures ∙ (peer_at octets past c.args.fetches.now c.args.index stands ∙ got))
    in
    cc)

pub returns : goal.returns
returns c octets past peer e got is stands =
    let found : Some c.in-Some.peer ≡ Some peer =
    sym c.in-Some.is
    ∙ (c.at.ensures ∙ (peer_at octets past c.args.fetches.now c.args.index stands ∙ got)) in
    c.end.ensures octets past e stands
    (is ∙ ap (λ (p : Peer). note.Ceased p) (sym (some_same found)))
