use Rattle.std.proofs.Common.{◌≡◌, ◌⊎◌, List, refl, sym, ap, subst, ◌∙◌}
use Rattle.history_model.specs.declared.entries.Entry.{Entry}
use Rattle.journal_model.specs.Journal.{entries}
use Rattle.journal_model.specs.Seats.{rows_of, Agree}
use Rattle.turn_lock.specs.Shown.{mine_of, number_of, seen_of}
use Rattle.rd_desk.specs.calls.Shown.{Shown}
use Rattle.version_board.specs.Ends.{PublisherSeen}
use Rattle.rd_seat.specs.Turns.{StandsAtTurn}
use Rattle.rd_seat.proofs.shares.Share.take.Goals as goal

-- the rows that name the pass are its own, and those did not change; the publisher tells the
-- entries of the journal
pub returns : goal.returns
unfolding rows_of
returns g c =
    let own : mine_of c.args.self.now.pass
    ≡ rows_of (number_of c.args.self.now.pass) (seen_of c.args.self.now.pass) =
    c.requires.rest.own
    ∙ ap (λ n. rows_of n (seen_of c.args.self.now.pass)) (sym c.requires.rest.number) in
    let told : c.deref_mut.result.now.board.told ≡ entries (seen_of c.take-shared.new.pass) =
    ap (λ (d : Shown PublisherSeen). d.board.told) c.deref_mut.ensures.value
    ∙ c.take-shared.ensures.value.told in record {
      begun = record {
        lock = c.take-shared.ensures.lock;
        hall = λ i. record {
          id = c.take-shared.ensures.lock i;
          workers = c.take-shared.ensures.passes i;
        };
        holding = c.take-shared.ensures.holding;
        number = c.take-shared.ensures.number;
        label = c.take-shared.ensures.label;
        goes_on = record {
          further = c.take-shared.ensures.seen.0;
          whole = c.take-shared.ensures.seen.1;
        };
        mine = c.take-shared.ensures.mine;
        by_others =
            ap (λ n. rows_of n (seen_of c.take-shared.new.pass)) (sym c.take-shared.ensures.number)
            ∙ (sym c.take-shared.ensures.own ∙ (c.take-shared.ensures.mine ∙ own));
        stands = subst (λ d. StandsAtTurn (seen_of c.take-shared.new.pass) d)
            (sym (c.meet.ensures.desk ∙ c.deref_mut.ensures.value)) c.take-shared.ensures.value;
        board = ap (λ (d : Shown PublisherSeen). d.board.name)
            (c.meet.ensures.desk ∙ c.deref_mut.ensures.value)
            ∙ c.take-shared.ensures.value_label;
        name = c.meet.ensures.name;
        met = c.meet.ensures.seen;
        only = subst (λ (h : List Entry). (c.meet.new.looker.seen ≡ c.args.self.now.looker.seen) ⊎
            (c.meet.new.looker.seen ≡ h)) told c.meet.ensures.only;
        order = λ front h. subst (Agree front) told (c.meet.ensures.order front h);
      };
      mids = refl;
      last = refl;
    }
