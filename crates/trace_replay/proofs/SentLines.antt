-- The lines of datagrams, one more at a time.
use Rattle.std.proofs.Common.{
  ◌≡◌,
  ℕ,
  ◌+◌,
  zero,
  suc,
  List,
  [],
  ◌∷◌,
  ◌++◌,
  take,
  Option,
  Some,
  None,
  sym,
  ap,
  ◌∙◌,
  append_assoc,
  append-nil,
  arith,
}
use Rattle.std.specs.Prelude.{slice_get}
use Rattle.rd_base.specs.declared.peers.Peer.{Peer}
use Rattle.line_model.specs.Lines.{out_text}
use Rattle.line_model.specs.Texts.{line_feed}
use Rattle.trace_model.specs.Output.{ended}
use Rattle.trace_replay.specs.Machines.{lines_sent}

-- the line of the datagram that comes next
pub lines_more : (worker index : ℕ) (sent : List (Peer × List ℕ)) (d : Peer × List ℕ)
    → slice_get sent index ≡ Some d
    → lines_sent worker (take (suc index) sent)
    ≡ lines_sent worker (take index sent) ++ ended (out_text worker d.0 d.1)
lines_more worker index [] d e = cc
lines_more worker zero (x ∷ xs) d e =
    append-nil (ended (out_text worker x.0 x.1))
    ∙ ap (λ (o : Option (Peer × List ℕ)).
    elim o as (λ _. List ℕ)
    [ None ↦ [] | Some found ↦ ended (out_text worker found.0 found.1) ]) e
lines_more worker (suc n) (x ∷ xs) d e =
    ap (λ (l : List ℕ). ended (out_text worker x.0 x.1) ++ l) (lines_more worker n xs d e)
    ∙ sym (append_assoc (ended (out_text worker x.0 x.1)) (lines_sent worker (take n xs))
    (ended (out_text worker d.0 d.1)))

-- a line more after the lines of the first datagrams
pub lines_after : (worker index : ℕ) (sent : List (Peer × List ℕ)) (d : Peer × List ℕ)
    (text : List ℕ)
    → text ≡ lines_sent worker (take index sent)
    → slice_get sent index ≡ Some d
    → (text ++ out_text worker d.0 d.1) ++ line_feed ∷ []
    ≡ lines_sent worker (take (index + 1) sent)
lines_after worker index sent d text e found =
    let next : suc index ≡ index + 1 = omega arith in
    append_assoc text (out_text worker d.0 d.1) (line_feed ∷ [])
    ∙ ap (λ (l : List ℕ). l ++ ended (out_text worker d.0 d.1)) e
    ∙ sym (lines_more worker index sent d found)
    ∙ ap (λ (n : ℕ). lines_sent worker (take n sent)) next
