use Rattle.std.proofs.Common.{
  ◌≡◌,
  ◌<◌,
  ◌++◌,
  ◌==◌,
  ℕ,
  false,
  length,
  take,
  drop,
  Ok,
  Err,
  sym,
  ap,
  ◌∙◌,
  arith,
}
use Rattle.std.proofs.lemmas.Bool.{eqb-true}
use Rattle.registrant.specs.Turns.{seen}
use Rattle.commissioner.proofs.MadeLaws.{
  written,
  stepped,
  stepped_fault,
  stepped_lines,
  stepped_over,
  stepped_going,
  stepped_lost,
}
use Rattle.commissioner.proofs.polls.poll_once.Goals as goal

not_zero : (n : ℕ) → (n == 0) ≡ false → 0 < n
not_zero n e = grind arith

pub returns-in-Err-clause-polled : goal.returns-in-Err-clause-polled
returns-in-Err-clause-polled g c = λ asks past stands.
    let told =
    seen g.L.Link.coming g.L.Link.gone g.L.Link.recv_faults g.L.Link.send_faults
    g.C.Clock.times g.C.Clock.words in
    stepped_lost asks past c.args.going.now.lines.items c.deref_mut.result.now
    c.begin_all-begun.new.lines c.args.going.now.outcomes
    (told c.args.going.now.link c.args.going.now.clock)
    (told c.begin_all-begun.new.link c.begin_all-begun.new.clock)
    stands
    c.deref_mut.ensures.value
    c.in-Err.ensures.begun

pub returns-in-Err-taken-clause-polled : goal.returns-in-Err-taken-clause-polled
returns-in-Err-taken-clause-polled g c = λ asks past stands.
    let told =
    seen g.L.Link.coming g.L.Link.gone g.L.Link.recv_faults g.L.Link.send_faults
    g.C.Clock.times g.C.Clock.words in
    let items = c.args.going.now.lines.items in
    let size = c.args.going.now.lines.ok.0 in
    let begun = c.begin_all-begun.new.lines in
    let same : length begun ≡ length items =
    c.begin_all-begun.auto.lines ∙ ap length c.deref_mut.ensures.value in
    let once = written c.args.going.now.lines.len begun items size same in
    let again = c.deref_mut-2.ensures.value ∙ once in
    stepped_fault asks past items c.take_event-taken.new.lines c.args.going.now.outcomes
    c.in-Err-taken.fault
    (told c.args.going.now.link c.args.going.now.clock)
    (told c.take_event-taken.new.link c.take_event-taken.new.clock)
    stands
    (stepped asks past items c.deref_mut.result.now begun c.deref_mut-2.result.now
    c.take_event-taken.new.lines c.args.going.now.outcomes (Err c.in-Err-taken.fault)
    (told c.args.going.now.link c.args.going.now.clock)
    (told c.begin_all-begun.new.link c.begin_all-begun.new.clock)
    (told c.take_event-taken.new.link c.take_event-taken.new.clock)
    stands
    c.deref_mut.ensures.value
    again
    c.in_default.ensures.begun
    c.in-Err-taken.ensures.taken)

pub put_aside-requires : goal.put_aside-requires
put_aside-requires g c =
    let asks = c.requires.stands.0 in
    let past = c.requires.stands.1 in
    let stands = c.requires.stands.2 in
    let told =
    seen g.L.Link.coming g.L.Link.gone g.L.Link.recv_faults g.L.Link.send_faults
    g.C.Clock.times g.C.Clock.words in
    let items = c.args.going.now.lines.items in
    let size = c.args.going.now.lines.ok.0 in
    let begun = c.begin_all-begun.new.lines in
    let same : length begun ≡ length items =
    c.begin_all-begun.auto.lines ∙ ap length c.deref_mut.ensures.value in
    let once = written c.args.going.now.lines.len begun items size same in
    let again = c.deref_mut-2.ensures.value ∙ once in
    let lines = c.take_event-taken.new.lines in
    let held = take c.args.going.now.lines.len (begun ++ drop (length begun) items) in
    let twice : take c.args.going.now.lines.len (lines ++ drop (length lines) held) ≡ lines =
    written c.args.going.now.lines.len lines held (size ∙ (sym same ∙ sym (ap length once)))
    (c.take_event-taken.auto.lines ∙ ap length c.deref_mut-2.ensures.value) in
    let later =
    stepped_lines asks past lines
    (take c.args.going.now.lines.len (lines ++ drop (length lines) held))
    c.args.going.now.outcomes c.in_default-taken.field-0
    (told c.args.going.now.link c.args.going.now.clock)
    (told c.take_event-taken.new.link c.take_event-taken.new.clock)
    twice
    (stepped asks past items c.deref_mut.result.now begun c.deref_mut-2.result.now
    c.take_event-taken.new.lines c.args.going.now.outcomes (Ok c.in_default-taken.field-0)
    (told c.args.going.now.link c.args.going.now.clock)
    (told c.begin_all-begun.new.link c.begin_all-begun.new.clock)
    (told c.take_event-taken.new.link c.take_event-taken.new.clock)
    stands
    c.deref_mut.ensures.value
    again
    c.in_default.ensures.begun
    c.in_default-taken.ensures.taken) in
    (asks, later.0, later.1)

pub returns-then-is_empty-clause-polled : goal.returns-then-is_empty-clause-polled
returns-then-is_empty-clause-polled g c = λ asks past stands.
    let told =
    seen g.L.Link.coming g.L.Link.gone g.L.Link.recv_faults g.L.Link.send_faults
    g.C.Clock.times g.C.Clock.words in
    let items = c.args.going.now.lines.items in
    let size = c.args.going.now.lines.ok.0 in
    let begun = c.begin_all-begun.new.lines in
    let same : length begun ≡ length items =
    c.begin_all-begun.auto.lines ∙ ap length c.deref_mut.ensures.value in
    let once = written c.args.going.now.lines.len begun items size same in
    let again = c.deref_mut-2.ensures.value ∙ once in
    let lines = c.take_event-taken.new.lines in
    let held = take c.args.going.now.lines.len (begun ++ drop (length begun) items) in
    let twice : take c.args.going.now.lines.len (lines ++ drop (length lines) held) ≡ lines =
    written c.args.going.now.lines.len lines held (size ∙ (sym same ∙ sym (ap length once)))
    (c.take_event-taken.auto.lines ∙ ap length c.deref_mut-2.ensures.value) in
    let none : c.put_aside.new.lines.len ≡ 0 =
    eqb-true c.put_aside.new.lines.len 0 (sym c.is_empty.ensures ∙ c.if-is_empty.true) in
    let fits = c.put_aside.new.lines.ok.0 in
    stepped_over asks past lines
    (take c.args.going.now.lines.len (lines ++ drop (length lines) held))
    c.put_aside.new.lines.items
    c.args.going.now.outcomes c.put_aside.new.outcomes c.in_default-taken.field-0
    (told c.args.going.now.link c.args.going.now.clock)
    (told c.take_event-taken.new.link c.take_event-taken.new.clock)
    twice
    c.put_aside.ensures.aside
    (omega (arith, none, fits))
    (stepped asks past items c.deref_mut.result.now begun c.deref_mut-2.result.now
    c.take_event-taken.new.lines c.args.going.now.outcomes (Ok c.in_default-taken.field-0)
    (told c.args.going.now.link c.args.going.now.clock)
    (told c.begin_all-begun.new.link c.begin_all-begun.new.clock)
    (told c.take_event-taken.new.link c.take_event-taken.new.clock)
    stands
    c.deref_mut.ensures.value
    again
    c.in_default.ensures.begun
    c.in_default-taken.ensures.taken)

pub returns-clause-polled : goal.returns-clause-polled
returns-clause-polled g c = λ asks past stands.
    let told =
    seen g.L.Link.coming g.L.Link.gone g.L.Link.recv_faults g.L.Link.send_faults
    g.C.Clock.times g.C.Clock.words in
    let items = c.args.going.now.lines.items in
    let size = c.args.going.now.lines.ok.0 in
    let begun = c.begin_all-begun.new.lines in
    let same : length begun ≡ length items =
    c.begin_all-begun.auto.lines ∙ ap length c.deref_mut.ensures.value in
    let once = written c.args.going.now.lines.len begun items size same in
    let again = c.deref_mut-2.ensures.value ∙ once in
    let lines = c.take_event-taken.new.lines in
    let held = take c.args.going.now.lines.len (begun ++ drop (length begun) items) in
    let twice : take c.args.going.now.lines.len (lines ++ drop (length lines) held) ≡ lines =
    written c.args.going.now.lines.len lines held (size ∙ (sym same ∙ sym (ap length once)))
    (c.take_event-taken.auto.lines ∙ ap length c.deref_mut-2.ensures.value) in
    let fits = c.put_aside.new.lines.ok.0 in
    let some : 0 < c.put_aside.new.lines.len =
    not_zero c.put_aside.new.lines.len (sym c.is_empty.ensures ∙ c.if-is_empty.false) in
    stepped_going asks past lines
    (take c.args.going.now.lines.len (lines ++ drop (length lines) held))
    c.put_aside.new.lines.items
    c.args.going.now.outcomes c.put_aside.new.outcomes c.in_default-taken.field-0
    (told c.args.going.now.link c.args.going.now.clock)
    (told c.take_event-taken.new.link c.take_event-taken.new.clock)
    twice
    c.put_aside.ensures.aside
    (omega (arith, some, fits))
    (stepped asks past items c.deref_mut.result.now begun c.deref_mut-2.result.now
    c.take_event-taken.new.lines c.args.going.now.outcomes (Ok c.in_default-taken.field-0)
    (told c.args.going.now.link c.args.going.now.clock)
    (told c.begin_all-begun.new.link c.begin_all-begun.new.clock)
    (told c.take_event-taken.new.link c.take_event-taken.new.clock)
    stands
    c.deref_mut.ensures.value
    again
    c.in_default.ensures.begun
    c.in_default-taken.ensures.taken)
