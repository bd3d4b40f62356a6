use Rattle.std.proofs.Common.{◌≡◌, [], ◌∷◌, ◌+◌, map, drop, get_or, drop-cons, suc, arith}
use Rattle.std.proofs.Common.{sym, ap, ◌∙◌}
use Rattle.std.proofs.lemmas.List.{drop_all}
use Rattle.rd_base.specs.PairRefs.{pair_seen}
use Rattle.rd_base.specs.declared.link_reading.PairRef.{PairRef}
use Rattle.attribute_index.specs.Entries.{has_entry, entries_of, entries_of_all}
use Rattle.attribute_index.proofs.EntryLaws.{has_entry-all}
use Rattle.directory_core.proofs.IndexLaws.{no_pairs, without_step, and_nothing}
use Rattle.directory_core.proofs.index.without_refs.Goals as goal

pub pairs-preserved : goal.pairs-preserved
pairs-preserved c =
    let number = c.args.number in
    let place = c.pairs.pair-index in
    let none : PairRef =
    record {
      name = record { ref_ptr = (0, 0); now = [] };
      value = record { ref_ptr = (0, 0); now = [] };
    } in
    let next : suc place ≡ place + 1 = omega arith in
    let pair = pair_seen (get_or c.args.pairs.now place none) in
    let more = map pair_seen (drop (place + 1) c.args.pairs.now) in
    let left = map pair_seen (drop place c.args.pairs.now) in
    let split : left ≡ pair ∷ more =
    ap (λ ps. map pair_seen ps) (drop-cons c.args.pairs.now place none c.pairs-test.true)
    ∙ ap (λ n. pair ∷ map pair_seen (drop n c.args.pairs.now)) next in
    record {
      entries = λ e.
          without_step (has_entry c.pairs.after e) (has_entry c.in_ok-after.after e)
          (has_entry (entries_of pair number) e) (has_entry (entries_of_all more number) e)
          (has_entry (entries_of_all left number) e)
          (c.in_ok-after.ensures.entries e) (ap (λ ps. has_entry (entries_of_all ps number) e) split
          ∙ has_entry-all pair more number e) ∙ c.pairs.invariant.entries e;
      ascends = c.in_ok-after.ensures.ascends;
    }

pub returns-clause-entries : goal.returns-clause-entries
returns-clause-entries c e =
    let number = c.args.number in
    let left = drop c.pairs.pair-index c.args.pairs.now in
    let none : left ≡ [] = drop_all c.pairs.pair-index c.args.pairs.now c.pairs-test.false in
    sym (and_nothing (has_entry c.pairs.after e)
    (has_entry (entries_of_all (map pair_seen left) number) e)
    (ap (λ ps. has_entry (entries_of_all (map pair_seen ps) number) e) none
    ∙ no_pairs number e))
    ∙ c.pairs.invariant.entries e
