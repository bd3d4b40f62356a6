use Rattle.std.proofs.Common.{◌≡◌, ◌+◌, [], length, Err, ap, sym, arith, rules}
use Rattle.std.proofs.lemmas.Bool.Decides.{nat_tests}
use Rattle.std.proofs.lemmas.List.{nil_from_length}
use Rattle.line_model.specs.Texts.{lines_of}
use Rattle.trace_replay.proofs.MadeCounts.{
  first_line,
  led_all,
  led_last,
  led_more,
  led_none,
  led_stopped,
}
use Rattle.trace_replay.proofs.made.Count.do_lines.Goals as goal

pub lines-init : goal.lines-init
lines-init c workers rows lines at = led_none workers rows lines c.args.trace.now c.args.self.now at

pub do_line-requires : goal.do_line-requires
do_line-requires c =
    let led = c.lines.invariant c.requires.0 c.requires.1 c.requires.2 c.requires.3 in
    (c.requires.0, led.more, led.done, led.counted)

pub returns-in_err-do_line : goal.returns-in_err-do_line
returns-in_err-do_line c workers rows lines at =
    let led = c.lines.invariant workers rows lines at in
    let line = c.in-Some.line.now in
    let left = c.in-Some.more.now in
    let why = c.in_err-do_line.field-0.0 in
    let given : c.from_residual.result ≡ Err why = search rules in
    rw given (led_stopped workers rows lines (lines + length (lines_of c.args.trace.now))
    c.args.trace.now c.lines.rest.now line (lines_of left) c.lines.self c.do_line.new.self
    why led
    (first_line c.lines.rest.now line left (sym c.in-Some.ensures.value))
    (c.in_err-do_line.ensures workers led.more led.done led.counted))

pub lines-preserved : goal.lines-preserved
lines-preserved c workers rows lines at =
    let led = c.lines.invariant workers rows lines at in
    led_more workers rows lines c.args.trace.now c.lines.rest.now c.in-Some.line.now
    c.in-Some.more.now c.lines.self c.do_line.new.self led (sym c.in-Some.ensures.value)
    (c.in_ok-do_line.ensures workers led.more led.done led.counted)

pub returns-then-is_empty : goal.returns-then-is_empty
returns-then-is_empty c workers rows lines at =
    let none : c.lines.rest.now ≡ [] = nil_from_length c.lines.rest.now (search rules) in
    let led = rw none at (c.lines.invariant workers rows lines at) in
    led_all workers rows lines c.args.trace.now c.lines.self led

pub do_line-requires-2 : goal.do_line-requires-2
do_line-requires-2 c =
    let led = c.lines.invariant c.requires.0 c.requires.1 c.requires.2 c.requires.3 in
    (c.requires.0, led.more, led.done, led.counted)

pub returns : goal.returns
returns c workers rows lines at =
    let led = c.lines.invariant workers rows lines at in
    led_last workers rows lines c.args.trace.now c.lines.rest.now c.lines.self c.do_line-2.new.self
    c.do_line-2.result led (sym c.in_default.ensures.value)
    (λ none.
    let n = ap length none in
    absurd (grind (arith, nat_tests, n, c.is_empty.ensures, c.if-is_empty.ensures)))
    (c.do_line-2.ensures workers led.more led.done led.counted)
