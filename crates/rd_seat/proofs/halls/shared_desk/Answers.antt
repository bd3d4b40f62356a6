use Rattle.std.proofs.Common.{List, [], ap, sym, subst, ◌∙◌}
use Rattle.std.specs.Arc.{arc_value}
use Rattle.history_model.specs.declared.entries.Entry.{Entry}
use Rattle.history_model.specs.Versions.{VersionStandsFor}
use Rattle.version_board.specs.Ends.{PublisherSeen}
use Rattle.rd_seat.specs.Turns.{StandsAtTurn}
use Rattle.rd_seat.proofs.TurnLaws.{AreTurns-none, no-entries}
use Rattle.rd_seat.proofs.halls.shared_desk.Goals as goal

-- a new desk stands for the journal without rows
pub returns-in_ok-shared-in-Ok-clause-stands : goal.returns-in_ok-shared-in-Ok-clause-stands
returns-in_ok-shared-in-Ok-clause-stands g c = subst (StandsAtTurn [])
    (sym c.in_ok-shared-in-Ok.ensures) (record {
      turns = AreTurns-none;
      tables = c.in-Ok.ensures.stands;
      told = ap (λ (p : PublisherSeen). p.told) c.in-Ok.ensures.board
          ∙ (c.in_ok-publisher.ensures.told ∙ no-entries);
      published = record {
        version = arc_value c.in_ok-first.first;
        is = ap (λ (p : PublisherSeen). p.published) c.in-Ok.ensures.board
            ∙ c.in_ok-publisher.ensures.published;
        stands = subst (λ (h : List Entry). VersionStandsFor 0 h (arc_value c.in_ok-first.first))
            no-entries
            (subst (VersionStandsFor 0 []) (sym c.in_ok-first.ensures.ok)
            c.in_ok-empty.ensures.stands);
      };
      staged = ap (λ (p : PublisherSeen). p.staged) c.in-Ok.ensures.board
          ∙ c.in_ok-publisher.ensures.staged;
    })
