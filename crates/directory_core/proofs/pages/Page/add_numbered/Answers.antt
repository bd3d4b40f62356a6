use Rattle.std.proofs.Common.{◌≡◌, ◌<◌, ◌∷◌, refl, sym, ◌∙◌, subst, rules}
use Rattle.std.specs.Ordering.{nat_cmp}
use Rattle.std.proofs.lemmas.List.{nil_from_length}
use Rattle.rd_base.proofs.lemmas.Pairs.{PairsByRecursion}
use Rattle.chunk_map.specs.Sorted.{IsAscending}
use Rattle.directory_core.specs.Pages.{numbered_lines}
use Rattle.directory_core.proofs.PageLaws.{full_page, no_number_left, number_added, number_passed}
use Rattle.directory_core.proofs.SeekerLaws.{AreFound, all_found, found_past, left_ascends}
use Rattle.directory_core.proofs.pages.Page.add_numbered.Goals as goal

pub numbers-preserved-in_ok-add : goal.numbers-preserved-in_ok-add
numbers-preserved-in_ok-add c =
    let records = c.args.records.now in
    let n = c.in-Some.number.now in
    let more = c.in-Some.more.now in
    let split : c.numbers.left.now ≡ n ∷ more = search rules in
    let found : AreFound records c.numbers.seeker (n ∷ more) =
    subst (λ ns. AreFound records c.numbers.seeker ns) split c.numbers.invariant.found in
    let rising : PairsByRecursion (λ m n. m < n) (n ∷ more) =
    subst (λ ns. PairsByRecursion (λ m n. m < n) ns) split c.numbers.invariant.rising in
    record {
      lines =
          number_added c.args.query.now c.args.now.0 records c.numbers.self c.add.new.self
          c.args.self.now
          (numbered_lines c.args.query.now c.args.now.0 records c.args.numbers.now) n
          c.numbers.left.now more
          c.in-Some-seek.kept.now split (sym (c.in-Some-seek.ensures.found ∙ found.0))
          c.in_ok-add.ensures c.numbers.invariant.lines;
      found =
          subst (λ es. AreFound records es more) (sym c.seek.ensures.left)
          (found_past records c.numbers.seeker n more rising.0 found.1);
      rising = rising.1;
      ascends =
          subst (λ es. IsAscending nat_cmp es) (sym c.seek.ensures.left)
          (left_ascends n c.numbers.seeker c.numbers.invariant.ascends);
    }

pub numbers-preserved : goal.numbers-preserved
numbers-preserved c =
    let records = c.args.records.now in
    let n = c.in-Some.number.now in
    let more = c.in-Some.more.now in
    let split : c.numbers.left.now ≡ n ∷ more = search rules in
    let found : AreFound records c.numbers.seeker (n ∷ more) =
    subst (λ ns. AreFound records c.numbers.seeker ns) split c.numbers.invariant.found in
    let rising : PairsByRecursion (λ m n. m < n) (n ∷ more) =
    subst (λ ns. PairsByRecursion (λ m n. m < n) ns) split c.numbers.invariant.rising in
    record {
      lines =
          number_passed c.args.query.now c.args.now.0 records c.numbers.self c.args.self.now
          (numbered_lines c.args.query.now c.args.now.0 records c.args.numbers.now) n
          c.numbers.left.now more
          split (sym (c.in_default-seek.ensures.found ∙ found.0)) c.numbers.invariant.lines;
      found =
          subst (λ es. AreFound records es more) (sym c.seek.ensures.left)
          (found_past records c.numbers.seeker n more rising.0 found.1);
      rising = rising.1;
      ascends =
          subst (λ es. IsAscending nat_cmp es) (sym c.seek.ensures.left)
          (left_ascends n c.numbers.seeker c.numbers.invariant.ascends);
    }

pub numbers-init : goal.numbers-init
numbers-init c =
    record {
      lines = refl;
      found =
          all_found c.args.records.now c.seeker-seeker.result c.seeker-seeker.ensures.found
          c.args.numbers.now;
      rising = c.requires.rising;
      ascends = c.seeker-seeker.ensures.ascends;
    }

pub returns : goal.returns
returns c =
    no_number_left c.args.query.now c.args.now.0 c.args.records.now c.numbers.self c.args.self.now
    (numbered_lines c.args.query.now c.args.now.0 c.args.records.now c.args.numbers.now)
    c.numbers.left.now (nil_from_length _ c.in_default.ensures.cases) c.numbers.invariant.lines

pub returns-then-self-eq0 : goal.returns-then-self-eq0
returns-then-self-eq0 c =
    full_page c.numbers.self c.args.self.now
    (numbered_lines c.args.query.now c.args.now.0 c.args.records.now c.numbers.left.now)
    (numbered_lines c.args.query.now c.args.now.0 c.args.records.now c.args.numbers.now)
    c.if-self-eq0.true c.numbers.invariant.lines
