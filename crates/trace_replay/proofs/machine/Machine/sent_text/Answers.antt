use Rattle.std.proofs.Common.{ℕ, List, [], ◌∷◌, ◌++◌, ap, sym, ◌∙◌, arith}
use Rattle.trace_replay.proofs.SentLines.{lines_after}
use Rattle.trace_replay.proofs.machine.Machine.sent_text.Goals as goal

pub datagrams-preserved : goal.datagrams-preserved
datagrams-preserved c = (
  omega (arith, c.datagrams-test.true, c.len.ensures),
  c.in_ok-append-2.ensures.ok
      ∙ (ap (λ (l : List ℕ). l ++ 10 ∷ []) (c.in_ok-append.ensures.ok
      ∙ ap (λ (l : List ℕ). c.datagrams.text ++ l)
      (c.as_slice.ensures.value ∙ c.in_ok-line.ensures))
      ∙ lines_after c.args.worker c.datagrams.index c.args.self.now.sent
      (c.in-Some.peer, c.in-Some.datagram.now) c.datagrams.text c.datagrams.invariant.1
      (sym c.in-Some.ensures)),
)
