use Rattle.std.proofs.Common.{◌≡◌, [], ◌∷◌, rules}
use Rattle.std.proofs.lemmas.List.{nil_from_length}
use Rattle.install_list.specs.Lists.{path_of}
use Rattle.install_list.proofs.LineLaws.{path_next, texts_next, path_fault, path_all, texts_all}
use Rattle.install_list.proofs.lines.path_read.Goals as goal

pub options-preserved : goal.options-preserved
options-preserved c =
    let option = c.in-Some.option.now in
    let split : c.options.left.now ≡ option ∷ c.in-Some.more.now = search rules in
    let pushed = c.in-Ok.ensures in
    record {
      front =
          path_next (path_of c.args.options.now) c.options.path c.push_option.new.path
          c.options.left.now c.in-Some.more.now option c.options.invariant.front split pushed.0;
      texts =
          texts_next c.options.path c.push_option.new.path (path_of (option ∷ []))
          c.options.invariant.texts pushed.0 pushed.1;
    }

pub returns-in-Err : goal.returns-in-Err
returns-in-Err c =
    let option = c.in-Some.option.now in
    let split : c.options.left.now ≡ option ∷ c.in-Some.more.now = search rules in
    path_fault c.in-Err.fault c.args.options.now c.options.left.now c.in-Some.more.now
    c.options.path c.push_option.new.path option (Unit {0}) c.options.invariant.front
    c.options.invariant.texts split c.in-Err.ensures

pub returns : goal.returns
returns c =
    let none : c.options.left.now ≡ [] = nil_from_length _ c.in_default.ensures.cases in
    let all =
    path_all c.args.options.now c.options.left.now c.options.path c.options.invariant.front none in
    (all, texts_all c.args.options.now c.options.path all c.options.invariant.texts)
