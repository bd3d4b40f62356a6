use Rattle.std.proofs.Common.{◌∷◌, [], ℕ, ◌+◌, Bool, refl, sym, ap, subst, ◌∙◌, arith}
use Rattle.rd_seat.proofs.CallLaws.{CallsMade-then}
use Rattle.coap_stream.specs.Calls.{as_they_came, calls_sent}
use Rattle.coap_stream.specs.Made.{Speaks, voice_seen}
use Rattle.coap_stream.specs.Manners.{is_due}
use Rattle.coap_stream.specs.Talks.{replies_to}
use Rattle.coap_stream.proofs.CallLaws.{ticks_at, no_ticks_at}
use Rattle.coap_stream.proofs.calls.ask.Goals as goal

pub returns-then-is_due-clause-made : goal.returns-then-is_due-clause-made
returns-then-is_due-clause-made g c =
    let heard = c.hear_request.ensures.made in
    let ticked = c.tick.ensures.made in (
      _,
      record {
        heard = heard.0;
        ticks = ticked.0 ∷ [];
        hears = heard.1;
        due = ticks_at c.is_due.result _ (ticked.0 ∷ [])
            (c.is_due.ensures ∙ ap (λ (n : ℕ). is_due c.args.context.now.line.manner (n + 1))
            c.hear_request.ensures.asked)
            c.if-is_due.true
            (record { tick = ticked.0; alone = refl; kind = ticked.1 });
        made = CallsMade-then as_they_came heard.0 (ticked.0 ∷ []) _ _ _ heard.2 ticked.2;
        written = subst (λ (b : Bool). Speaks
            (voice_seen g.K.Sink c.args.out.now c.args.tally.now.still)
            (replies_to c.args.context.now.line c.args.tally.now.most (calls_sent heard.0))
            (voice_seen g.K.Sink c.hear_request.new.out b)) (sym c.tick.ensures.still) heard.3;
        drops = refl;
      },
      omega (arith, ticked.3, c.hear_request.ensures.dropped),
      ticked.4,
    )

pub returns-else-is_due-clause-made : goal.returns-else-is_due-clause-made
returns-else-is_due-clause-made g c =
    let heard = c.hear_request.ensures.made in (
      0,
      record {
        heard = heard.0;
        ticks = [];
        hears = heard.1;
        due = no_ticks_at c.is_due.result _
            (c.is_due.ensures ∙ ap (λ (n : ℕ). is_due c.args.context.now.line.manner (n + 1))
            c.hear_request.ensures.asked)
            c.if-is_due.false;
        made = heard.2;
        written = heard.3;
        drops = refl;
      },
      omega (arith, c.hear_request.ensures.dropped),
      omega arith,
    )
