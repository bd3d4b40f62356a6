use Rattle.std.proofs.Common.{◌≡◌, ◌⊎◌, ◌∷◌, List, max, refl, sym, ap, subst, ◌∙◌, arith}
use Rattle.history_model.specs.declared.entries.Entry.{Entry}
use Rattle.history_model.specs.Live.{IsFront}
use Rattle.journal_model.specs.declared.rows.Row.{Row}
use Rattle.journal_model.specs.Journal.{entries}
use Rattle.journal_model.specs.Seats.{rows_of}
use Rattle.std.specs.Option.{IfSome}
use Rattle.turn_lock.specs.Shown.{number_of, seen_of, mine_of}
use Rattle.rd_desk.specs.calls.Shown.{Shown}
use Rattle.version_board.specs.Ends.{PublisherSeen}
use Rattle.rd_seat.specs.Shares.{HasGiven}
use Rattle.rd_seat.specs.Turns.{IsPublished, StandsAtTurn, HasStepped}
use Rattle.rd_seat.proofs.TurnLaws.{
  picked,
  both,
  three,
  board_published-name,
  stepped-staged,
  stepped-StandsAtTurn,
}
use Rattle.rd_seat.proofs.shares.Share.give.Goals as goal

-- what is staged stands for the entries with that of the row
pub publish_made-requires : goal.publish_made-requires
publish_made-requires g c =
    let stepped = subst (λ (d : Shown PublisherSeen). IfSome g.S.Added.added (λ (r : Row).
    HasStepped g.E.Entering.entered r (number_of c.args.self.now.pass)
    (seen_of c.args.self.now.pass) d))
    (sym c.deref_mut.ensures.value) c.requires.stepped in
    both g.S.Added.added (λ (r : Row). HasStepped g.E.Entering.entered r
    (number_of c.args.self.now.pass) (seen_of c.args.self.now.pass) c.deref_mut.result.now)
    (λ (r : Row). HasStepped g.E.Entering.entered r (number_of c.args.self.now.pass)
    (seen_of c.args.self.now.pass) c.deref_mut.result.now)
    c.requires.added stepped stepped
    (λ r h k. stepped-staged g.E.Entering.entered r (number_of c.args.self.now.pass)
    (seen_of c.args.self.now.pass) c.deref_mut.result.now h)

-- what was published stands for the journal with the row
pub give_back-requires-clause-value : goal.give_back-requires-clause-value
give_back-requires-clause-value g c =
    let stepped = subst (λ (d : Shown PublisherSeen). IfSome g.S.Added.added (λ (r : Row).
    HasStepped g.E.Entering.entered r (number_of c.args.self.now.pass)
    (seen_of c.args.self.now.pass) d))
    (sym c.deref_mut.ensures.value) c.requires.stepped in
    picked g.S.Added.added (λ (r : Row). HasStepped g.E.Entering.entered r
    (number_of c.args.self.now.pass) (seen_of c.args.self.now.pass) c.deref_mut.result.now)
    (λ (r : Row). StandsAtTurn (r ∷ seen_of c.args.self.now.pass) c.meet.new.desk)
    (λ r h. subst (StandsAtTurn (r ∷ seen_of c.args.self.now.pass))
    (sym c.publish_made.ensures.value ∙ sym (c.meet.ensures.desk ∙ c.deref_mut-2.ensures.value))
    (stepped-StandsAtTurn g.E.Entering.entered r (number_of c.args.self.now.pass)
    (seen_of c.args.self.now.pass) c.deref_mut.result.now h
    (subst (λ (d : Shown PublisherSeen). IsPublished d.board.told d.board)
    c.publish_made.ensures.value c.publish_made.ensures.published)))
    stepped

-- the board has its name still
pub give_back-requires-clause-value_label : goal.give_back-requires-clause-value_label
give_back-requires-clause-value_label g c =
    ap (λ (d : Shown PublisherSeen). d.board.name)
    (c.meet.ensures.desk ∙ (c.deref_mut-2.ensures.value ∙ c.publish_made.ensures.value))
    ∙ (board_published-name g.E.Entering.entered c.deref_mut.result.now
    ∙ (ap (λ (d : Shown PublisherSeen). d.board.name) c.deref_mut.ensures.value
    ∙ c.requires.label))

-- what was met has all entries of the journal, and nothing else was met
pub returns : goal.returns
unfolding rows_of
returns g c =
    let stepped = subst (λ (d : Shown PublisherSeen). IfSome g.S.Added.added (λ (r : Row).
    HasStepped g.E.Entering.entered r (number_of c.args.self.now.pass)
    (seen_of c.args.self.now.pass) d))
    (sym c.deref_mut.ensures.value) c.requires.stepped in
    three g.S.Added.added (λ (r : Row). HasStepped g.E.Entering.entered r
    (number_of c.args.self.now.pass) (seen_of c.args.self.now.pass) c.deref_mut.result.now)
    (λ (r : Row). seen_of c.give_back.new.pass ≡ r ∷ seen_of c.args.self.now.pass)
    (λ (r : Row). mine_of c.give_back.new.pass ≡ r ∷ mine_of c.args.self.now.pass)
    (λ (r : Row). HasGiven r c.args.self.now (record {
      alloc = c.args.self.now.alloc;
      pass = c.give_back.new.pass;
      looker = c.meet.new.looker;
      mids = c.args.self.now.mids;
      last = c.later-self.result;
    }) c.args.shared.desk.value)
    stepped c.give_back.ensures.seen c.give_back.ensures.mine
    (λ r h seen mine.
    let told : c.deref_mut-2.result.now.board.told ≡ entries (seen_of c.give_back.new.pass) =
    ap (λ (d : Shown PublisherSeen). d.board.told)
    (c.deref_mut-2.ensures.value ∙ c.publish_made.ensures.value)
    ∙ ((stepped-StandsAtTurn g.E.Entering.entered r (number_of c.args.self.now.pass)
    (seen_of c.args.self.now.pass) c.deref_mut.result.now h
    (subst (λ (d : Shown PublisherSeen). IsPublished d.board.told d.board)
    c.publish_made.ensures.value c.publish_made.ensures.published)).told
    ∙ ap entries (sym seen)) in
    let m : c.moment.result.0 ≡ c.args.shared.desk.value.tables.moment =
    c.moment.ensures.value
    ∙ ap (λ (d : Shown PublisherSeen). d.tables.moment) c.deref.ensures in
    let l : c.later-self.result.0 ≡ max c.moment.result.0 c.args.self.now.last.0 =
    c.later-self.ensures in
    record {
      ended = record {
        lock = c.give_back.ensures.lock;
        hall = λ i. record {
          id = c.give_back.ensures.lock i;
          workers = c.give_back.ensures.passes i;
        };
        idle = c.give_back.ensures.idle;
        number = c.give_back.ensures.number;
        label = c.give_back.ensures.label;
        seen = seen;
        mine = mine;
        own = c.give_back.ensures.own;
        below = c.give_back.ensures.below;
        name = c.meet.ensures.name;
        met = c.meet.ensures.seen;
        met_own = subst (λ (h : List Entry). IsFront h c.meet.new.looker.seen) told
            c.meet.ensures.met;
        only = subst (λ (h : List Entry). (c.meet.new.looker.seen ≡ c.args.self.now.looker.seen) ⊎
            (c.meet.new.looker.seen ≡ h)) told c.meet.ensures.only;
      };
      mids = refl;
      last = omega (arith, m, l);
    })
