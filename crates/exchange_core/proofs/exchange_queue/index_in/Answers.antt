use Rattle.std.proofs.Common.{◌≡◌, ◌-◌, false, true, sym, ap, subst, ◌∙◌, get_or, arith}
use Rattle.std.proofs.lemmas.List.{get_or_read}
use Rattle.exchange_core.specs.Table.{is_sought}
use Rattle.exchange_core.specs.Buckets.{bucket_of, Says, latest_in}
use Rattle.exchange_core.proofs.ChainLaws.{
  AreLinked-length,
  CameTo,
  CameTo-latest,
  CameTo-IsStep,
  CameTo-older,
  older_below,
  position-IsAt,
  position-CameTo,
  sought_of_bucket,
}
use Rattle.exchange_core.proofs.exchange_queue.index_in.Goals as goal

pub next-next-requires : goal.next-next-requires
next-next-requires c =
    let counted = c.requires.counted in
    let many =
    AreLinked-length c.args.chains.now.first c.args.chains.now.older.items c.args.rows.now.items
    c.requires.links in
    omega (arith, counted, many)

pub overflow_sub-index-in-older : goal.overflow_sub-index-in-older
overflow_sub-index-in-older c =
    (CameTo-IsStep c.args.chains.now.first (bucket_of c.args.peer c.args.mid) c.older.number
    c.next-next.result (is_sought c.args.peer c.args.mid c.args.admitted)
    c.args.chains.now.older.items c.args.rows.now.items
    (sought_of_bucket c.args.peer c.args.mid c.args.admitted) c.requires.links c.next-next.ensures
    c.older-test.true c.older.invariant).below

pub index-requires : goal.index-requires
index-requires c =
    let step =
    CameTo-IsStep c.args.chains.now.first (bucket_of c.args.peer c.args.mid) c.older.number
    c.next-next.result (is_sought c.args.peer c.args.mid c.args.admitted)
    c.args.chains.now.older.items c.args.rows.now.items
    (sought_of_bucket c.args.peer c.args.mid c.args.admitted) c.requires.links c.next-next.ensures
    c.older-test.true c.older.invariant in
    let inside = step.within in
    let ok = c.args.rows.now.ok.0 in
    omega (arith, inside, ok)

pub returns-then-is_sought : goal.returns-then-is_sought
returns-then-is_sought c =
    let test = is_sought c.args.peer c.args.mid c.args.admitted in
    let step =
    CameTo-IsStep c.args.chains.now.first (bucket_of c.args.peer c.args.mid) c.older.number
    c.next-next.result test c.args.chains.now.older.items c.args.rows.now.items
    (sought_of_bucket c.args.peer c.args.mid c.args.admitted) c.requires.links c.next-next.ensures
    c.older-test.true c.older.invariant in
    position-IsAt c.args.chains.now.first (bucket_of c.args.peer c.args.mid) c.older.number
    (c.next-next.result - 1 - c.older.number) c.index.result.now test c.args.rows.now.items
    step.it step.index
    (ap test (sym c.index.ensures) ∙ (sym c.is_sought.ensures ∙ c.if-is_sought.true))

pub index-number-requires-in-older : goal.index-number-requires-in-older
index-number-requires-in-older c =
    let step =
    CameTo-IsStep c.args.chains.now.first (bucket_of c.args.peer c.args.mid) c.older.number
    c.next-next.result (is_sought c.args.peer c.args.mid c.args.admitted)
    c.args.chains.now.older.items c.args.rows.now.items
    (sought_of_bucket c.args.peer c.args.mid c.args.admitted) c.requires.links c.next-next.ensures
    c.older-test.true c.older.invariant in
    let inside = step.within_older in
    let ok = c.args.chains.now.older.ok.0 in
    omega (arith, inside, ok)

pub older-smaller : goal.older-smaller
older-smaller c =
    let test = is_sought c.args.peer c.args.mid c.args.admitted in
    let step =
    CameTo-IsStep c.args.chains.now.first (bucket_of c.args.peer c.args.mid) c.older.number
    c.next-next.result test c.args.chains.now.older.items c.args.rows.now.items
    (sought_of_bucket c.args.peer c.args.mid c.args.admitted) c.requires.links c.next-next.ensures
    c.older-test.true c.older.invariant in
    let below =
    older_below c.args.chains.now.first (bucket_of c.args.peer c.args.mid) c.older.number
    (c.next-next.result - 1 - c.older.number) test c.args.chains.now.older.items
    c.args.rows.now.items step.it step.index c.requires.links in
    let read =
    get_or_read c.args.chains.now.older.items (c.next-next.result - 1 - c.older.number)
    c.index-number-in-older.result.now step.within_older c.index-number-in-older.ensures
    0 in
    omega (arith, below, read)

pub older-preserved : goal.older-preserved
older-preserved c =
    let test = is_sought c.args.peer c.args.mid c.args.admitted in
    let step =
    CameTo-IsStep c.args.chains.now.first (bucket_of c.args.peer c.args.mid) c.older.number
    c.next-next.result test c.args.chains.now.older.items c.args.rows.now.items
    (sought_of_bucket c.args.peer c.args.mid c.args.admitted) c.requires.links c.next-next.ensures
    c.older-test.true c.older.invariant in
    let read =
    get_or_read c.args.chains.now.older.items (c.next-next.result - 1 - c.older.number)
    c.index-number-in-older.result.now step.within_older c.index-number-in-older.ensures
    0 in
    subst (λ n.
    CameTo c.args.chains.now.first (bucket_of c.args.peer c.args.mid) n test
    c.args.rows.now.items) (sym read)
    (CameTo-older c.args.chains.now.first (bucket_of c.args.peer c.args.mid) c.older.number
    (c.next-next.result - 1 - c.older.number) c.index.result.now test
    c.args.chains.now.older.items c.args.rows.now.items step.it step.index
    (ap test (sym c.index.ensures) ∙ (sym c.is_sought.ensures ∙ c.if-is_sought.false))
    c.requires.links)

pub returns : goal.returns
returns c =
    position-CameTo c.args.chains.now.first (bucket_of c.args.peer c.args.mid) c.older.number
    (is_sought c.args.peer c.args.mid c.args.admitted) c.args.rows.now.items
    (sought_of_bucket c.args.peer c.args.mid c.args.admitted) c.older-test.false c.older.invariant
