use Rattle.std.proofs.Common.{◌≡◌, true, false, ◌∙◌}
use Rattle.trace_replay.proofs.LastLines.{last_done, none_begun}
use Rattle.trace_replay.proofs.sessions.Session.last_line.Goals as goal

pub returns-clause-done : goal.returns-clause-done
returns-clause-done g c workers point at =
    last_done workers point c.as_slice.result.now c.args.self.now c.do_line.new.self _ _
    c.do_line.result at
    (λ empty. let yes :
    c.is_empty.result ≡ true =
    c.is_empty.ensures.1 empty in let no : c.is_empty.result ≡ false =
    c.if-is_empty.false in cc)
    (c.as_slice.ensures.value ∙ c.replace-line.ensures.value)
    (c.do_line.ensures.done workers point.rows at.machine)

pub returns-then-is_empty-clause-done : goal.returns-then-is_empty-clause-done
returns-then-is_empty-clause-done g c workers point at =
    none_begun workers point c.args.self.now _ at (c.is_empty.ensures.0 c.if-is_empty.true)
