use Rattle.std.proofs.Common.{subst, ◌∙◌, drop}
use Rattle.install_list.specs.declared.words.Verb.{Verb}
use Rattle.install_list.specs.Printing.{Puts}
use Rattle.install_list.specs.Endings.{Ends}
use Rattle.install_list.proofs.PutLaws.{puts_then, then_ends}
use Rattle.install_list.proofs.fronts.make_front.Goals as goal

pub turns-preserved : goal.turns-preserved
turns-preserved g c =
    let front = c.args.front.now in
    let before = c.turns.front in
    let after = c.turn.new.front in
    let left = drop before.written before.numbers.items in
    let more = drop after.written after.numbers.items in
    let mid = g.K.Sink.holds c.turns.out in
    let now = g.K.Sink.holds c.turn.new.out in
    record {
      puts =
          puts_then front.verb (drop front.written front.numbers.items) left more
          front.is_undone before.is_undone after.is_undone (g.K.Sink.holds c.args.out.now) mid now
          c.turns.invariant.puts
          (subst (λ (v : Verb). Puts v left more before.is_undone after.is_undone mid now)
          c.turns.invariant.verb c.in_default.ensures.turned);
      verb = c.in_default.ensures.verb ∙ c.turns.invariant.verb;
      receives = c.in_default.ensures.receives ∙ c.turns.invariant.receives;
      writes = c.in_default.ensures.writes ∙ c.turns.invariant.writes;
    }

pub returns-in-Some-turn-clause-made : goal.returns-in-Some-turn-clause-made
returns-in-Some-turn-clause-made g c =
    let front = c.args.front.now in
    let before = c.turns.front in
    let left = drop before.written before.numbers.items in
    let mid = g.K.Sink.holds c.turns.out in
    let now = g.K.Sink.holds c.turn.new.out in
    then_ends front.verb (drop front.written front.numbers.items) left
    front.is_undone before.is_undone (g.K.Sink.holds c.args.out.now) mid now
    c.in-Some-turn.status
    c.turns.invariant.puts
    (subst (λ (v : Verb). Ends v c.in-Some-turn.status left before.is_undone mid now)
    c.turns.invariant.verb c.in-Some-turn.ensures.turned)
