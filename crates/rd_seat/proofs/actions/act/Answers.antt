use Rattle.std.proofs.Common.{refl, sym, subst}
use Rattle.journal_model.specs.declared.steps.Step.{Step}
use Rattle.rd_desk.specs.calls.Admitting.{is_starved_admission}
use Rattle.rd_desk.specs.calls.Stepping.{is_starved_step}
use Rattle.rd_seat.specs.declared.actions.Action.{Action}
use Rattle.rd_seat.specs.declared.actions.Action.TheVariants as action
use Rattle.rd_seat.specs.Actions.{Acts, IsOpenIn}
use Rattle.rd_seat.specs.Steps.{admit_step, commit_step, keep_step, tick_step}
use Rattle.rd_seat.proofs.TurnLaws.{keep-entries_of, tick-entries_of}
use Rattle.rd_seat.proofs.ActionLaws.{quiet-HasActed, staging-HasActed}
use Rattle.rd_seat.proofs.actions.act.Goals as goal

pub returns-in-Admit-clause-acted : goal.returns-in-Admit-clause-acted
returns-in-Admit-clause-acted c =
    subst (λ (a : Action). Acts a c.admit_arrival.result c.args.mids.now c.args.desk.now
    c.admit_arrival.new.self c.admit_arrival.new.out c.admit_arrival.new.mids) (sym c.in-Admit.is)
    (λ rows place may.
    let a = c.in-Admit.arrival in
    let s : Step = admit_step c.args.mids.now.worker a.moment a.word a.peer a.datagram.now
    c.args.mids.now.drawn in
    staging-HasActed rows s (is_starved_admission c.admit_arrival.result) (action.Admit a)
    c.admit_arrival.result c.args.mids.now c.args.desk.now c.admit_arrival.new.self
    c.admit_arrival.new.out c.admit_arrival.new.mids refl
    (c.admit_arrival.ensures.made rows s refl refl refl refl may.called)
    c.admit_arrival.ensures.told
    (c.admit_arrival.ensures.staged rows s refl refl refl refl may.called)
    (c.admit_arrival.ensures.held rows s refl refl refl may.called))

pub returns-in-Commit-clause-acted : goal.returns-in-Commit-clause-acted
returns-in-Commit-clause-acted c =
    subst (λ (a : Action). Acts a c.of_step.result c.args.mids.now c.args.desk.now
    c.commit.new.self c.commit.new.out c.commit.new.mids) (sym c.in-Commit.is)
    (λ rows place may.
    let j = c.in-Commit.job in
    let s : Step = commit_step c.args.mids.now.worker place c.in-Commit.now j.peer j.datagram
    c.args.mids.now.drawn in
    let opened : IsOpenIn rows place j = may.opened in
    staging-HasActed rows s (is_starved_step c.commit.result) (action.Commit c.in-Commit.now j)
    c.of_step.result c.args.mids.now c.args.desk.now c.commit.new.self c.commit.new.out
    c.commit.new.mids c.of_step.ensures
    (c.commit.ensures.made rows s place opened.message refl refl refl refl opened.read
    opened.is_open may.called) c.commit.ensures.told
    (c.commit.ensures.staged rows s place opened.message refl refl refl refl opened.read
    opened.is_open may.called) tt)

pub returns-in-Keep-clause-acted : goal.returns-in-Keep-clause-acted
returns-in-Keep-clause-acted c =
    subst (λ (a : Action). Acts a c.of_step-in-Keep.result c.args.mids.now c.args.desk.now
    c.keep.new.self c.keep.new.out c.keep.new.mids) (sym c.in-Keep.is)
    (λ rows place may.
    let j = c.in-Keep.job in
    let s : Step = keep_step c.args.mids.now.worker c.in-Keep.now j c.args.mids.now.drawn in
    quiet-HasActed rows s (is_starved_step c.keep.result) (action.Keep c.in-Keep.now j)
    c.of_step-in-Keep.result c.args.mids.now c.args.desk.now c.keep.new.self c.keep.new.out
    c.keep.new.mids c.of_step-in-Keep.ensures
    (c.keep.ensures.made rows s refl refl refl may.called) c.keep.ensures.board
    (keep-entries_of rows c.args.mids.now.worker c.in-Keep.now j c.args.mids.now.drawn
    (is_starved_step c.keep.result)) tt)

pub returns-in-Tick-clause-acted : goal.returns-in-Tick-clause-acted
returns-in-Tick-clause-acted c =
    subst (λ (a : Action). Acts a c.of_step-in-Tick.result c.args.mids.now c.args.desk.now
    c.tick.new.self c.tick.new.out c.tick.new.mids) (sym c.in-Tick.is)
    (λ rows place may.
    let s : Step = tick_step c.args.mids.now.worker c.in-Tick.now c.in-Tick.word
    c.args.mids.now.drawn in
    quiet-HasActed rows s (is_starved_step c.tick.result)
    (action.Tick c.in-Tick.now c.in-Tick.word) c.of_step-in-Tick.result c.args.mids.now
    c.args.desk.now c.tick.new.self c.tick.new.out c.tick.new.mids c.of_step-in-Tick.ensures
    (c.tick.ensures.made rows s refl refl may.called) c.tick.ensures.board
    (tick-entries_of rows c.args.mids.now.worker c.in-Tick.now c.in-Tick.word
    c.args.mids.now.drawn (is_starved_step c.tick.result)) tt)
