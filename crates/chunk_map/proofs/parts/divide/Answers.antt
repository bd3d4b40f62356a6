use Rattle.std.proofs.Common.{rules, ◌≡◌, take, drop}
use Rattle.std.proofs.lemmas.List.Elements.{All-take, All-drop}
use Rattle.chunk_map.proofs.PartLaws.{cut_between}
use Rattle.chunk_map.proofs.parts.divide.Goals as goal

pub returns-clause-pairs : goal.returns-clause-pairs
returns-clause-pairs g c =
    let count = c.front_count-count.result in
    let front : c.split_off.new.self.items ≡ take count c.args.parts.now.items = search rules in
    let back : c.in_ok-behind.behind.items ≡ drop count c.args.parts.now.items = search rules in
    rw (front, back) (cut_between g.P.Part.pairs c.args.parts.now.items count)

pub returns-clause-whole : goal.returns-clause-whole
returns-clause-whole g c =
    let count = c.front_count-count.result in
    let front : c.split_off.new.self.items ≡ take count c.args.parts.now.items = search rules in
    let back : c.in_ok-behind.behind.items ≡ drop count c.args.parts.now.items = search rules in
    rw (front, back) (
      All-take g.P.Part.is_whole count c.args.parts.now.items c.requires.whole,
      All-drop
          g.P.Part.is_whole count c.args.parts.now.items c.requires.whole,
    )
