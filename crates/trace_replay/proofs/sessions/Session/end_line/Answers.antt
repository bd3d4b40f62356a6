use Rattle.std.proofs.Common.{◌≡◌, List, ℕ, [], ◌∷◌, ◌++◌, sym, ap, ◌∙◌}
use Rattle.trace_replay.proofs.Journeys.{line_fed_at, unkept}
use Rattle.trace_replay.proofs.sessions.Session.end_line.Goals as goal

pub returns-then-is_empty-clause-fed : goal.returns-then-is_empty-clause-fed
returns-then-is_empty-clause-fed g c workers point at =
    let empty : c.args.self.now.pending ≡ [] = c.is_empty.ensures.0 c.if-is_empty.true in
    line_fed_at workers point c.args.line.now c.args.line.now c.args.self.now c.do_line.new.self _ _
    c.do_line.result at (sym c.requires.whole) (c.do_line.ensures.kept ∙ empty)
    (sym (ap (λ (l : List ℕ). l ++ c.args.line.now) empty))
    (c.do_line.ensures.done workers point.rows at.machine)

pub returns-in_default-clause-fed : goal.returns-in_default-clause-fed
returns-in_default-clause-fed g c workers point at =
    unkept workers point (c.args.line.now ++ 10 ∷ []) _ c.args.self.now

pub returns-clause-fed : goal.returns-clause-fed
returns-clause-fed g c workers point at =
    line_fed_at workers point c.args.line.now c.as_slice.result.now c.args.self.now
    c.do_line-2.new.self _ _ c.do_line-2.result at (sym c.requires.whole)
    (c.do_line-2.ensures.kept ∙ c.replace-whole.ensures.after ∙ c.new.ensures)
    (c.as_slice.ensures.value ∙ c.replace-whole.ensures.value ∙ c.in-Ok.ensures.ok)
    (c.do_line-2.ensures.done workers point.rows at.machine)
