use Rattle.std.proofs.Common.{
  ◌≡◌,
  ℕ,
  ◌≤◌,
  ◌<◌,
  ◌+◌,
  ◌-◌,
  ◌^◌,
  List,
  [],
  ◌∷◌,
  length,
  drop,
  get_or,
  set,
  refl,
  sym,
  ap,
  subst,
  ◌∙◌,
  length-drop,
  arith,
}
use Rattle.std.proofs.lemmas.List.{drop_more, drop_all}
use Rattle.event_model.specs.Repeats.{Exchange}
use Rattle.exchange_core.specs.Buckets.{buckets, bucket, AreFoundBy}
use Rattle.exchange_core.proofs.ChainLaws.{AreLinked-length, AreFoundBy-none, AreFoundBy-pushed}
use Rattle.exchange_core.proofs.exchange_queue.number_anew.Goals as goal

-- none is numbered yet
none_numbered : (first n : ℕ) (latest older : List ℕ) (xs : List Exchange)
    → first ≡ 1
    → length xs ≤ n
    → length latest ≡ buckets
    → ((b : ℕ) → b < length latest → get_or latest b 0 ≡ 0)
    → older ≡ []
    → AreFoundBy first latest older (drop n xs)
none_numbered first n latest older xs one all many none empty =
    subst (λ (ys : List Exchange). AreFoundBy first latest older ys) (sym (drop_all n xs all))
    (subst (λ k. AreFoundBy k latest older []) (sym one)
    (AreFoundBy-none latest older many none empty))

-- one more is numbered
one_numbered : (first n : ℕ) (latest older latest_now older_now : List ℕ) (x : Exchange)
    (xs : List Exchange)
    → first ≡ 1
    → length xs ≤ 4_096
    → n < length xs
    → x ≡ get_or xs n x
    → bucket x < buckets
    → AreFoundBy first latest older (drop (n + 1) xs)
    → latest_now ≡ set latest (bucket x) (first + length older)
    → older_now ≡ get_or latest (bucket x) 0 ∷ older
    → AreFoundBy first latest_now older_now (drop n xs)
one_numbered first n latest older latest_now older_now x xs one few inside read within found
    latest_is older_is =
    let many = AreLinked-length first older (drop (n + 1) xs) found.links in
    let left = length-drop (n + 1) xs in
    subst (λ (ys : List Exchange). AreFoundBy first latest_now older_now ys)
    (sym (drop_more xs n x inside ∙ ap (λ y. y ∷ drop (n + 1) xs) (sym read)))
    (subst (λ (ns : List ℕ). AreFoundBy first ns older_now (x ∷ drop (n + 1) xs))
    (sym (latest_is ∙ ap (λ k. set latest (bucket x) (first + k)) many))
    (subst (λ (ns : List ℕ).
    AreFoundBy first (set latest (bucket x) (first + length (drop (n + 1) xs))) ns
    (x ∷ drop (n + 1) xs)) (sym older_is)
    (AreFoundBy-pushed first latest older x (drop (n + 1) xs) within (omega (arith, one, left, few))
    found)))

pub rows-init : goal.rows-init
rows-init c =
    let ok = c.args.rows.now.ok.0 in
    record {
      within = omega (arith, c.len-index.ensures, ok);
      found =
          none_numbered c.clear.new.self.first c.len-index.result c.clear.new.self.latest.items
          c.clear.new.self.older.items c.args.rows.now.items c.clear.ensures.first
          (omega (arith, c.len-index.ensures, ok))
          (c.clear.ensures.buckets ∙ c.requires.buckets) c.clear.ensures.none c.clear.ensures.empty;
      first = c.clear.ensures.first;
      room = refl;
    }

pub push-requires-clause-room : goal.push-requires-clause-room
push-requires-clause-room c =
    let many =
    AreLinked-length c.rows.chains.first c.rows.chains.older.items
    (drop c.rows.index c.args.rows.now.items) c.rows.invariant.found.links in
    let left = length-drop c.rows.index c.args.rows.now.items in
    let within = c.rows.invariant.within in
    let some = c.rows-test.true in
    let few = c.requires.few in
    let room = c.requires.room in
    let kept = c.rows.invariant.room in
    let cleared = c.clear.ensures.room in
    omega (arith, many, left, within, some, few, room, kept, cleared)

pub rows-preserved : goal.rows-preserved
rows-preserved c =
    let within = c.rows.invariant.within in
    let some = c.rows-test.true in
    let n : c.rows.index - 1 + 1 ≡ c.rows.index = omega (arith, some) in
    let inside : c.rows.index - 1 < length c.args.rows.now.items = omega (arith, within, some) in
    let x : Exchange = c.index.result.now in
    let is = c.bucket.ensures.bucket in
    let low = c.bucket.ensures.within in record {
      within = omega (arith, within);
      found =
          one_numbered c.push.new.self.first (c.rows.index - 1) c.rows.chains.latest.items
          c.rows.chains.older.items c.push.new.self.latest.items c.push.new.self.older.items x
          c.args.rows.now.items
          (c.push.ensures.first ∙ c.rows.invariant.first) c.requires.few inside c.index.ensures
          (omega (arith, is, low))
          (subst (λ k.
          AreFoundBy c.push.new.self.first c.rows.chains.latest.items
          c.rows.chains.older.items (drop k c.args.rows.now.items)) (sym n)
          (subst (λ k.
          AreFoundBy k c.rows.chains.latest.items c.rows.chains.older.items
          (drop c.rows.index c.args.rows.now.items)) (sym c.push.ensures.first)
          c.rows.invariant.found))
          (c.push.ensures.latest
          ∙ (ap (λ b.
          set c.rows.chains.latest.items b
          (c.rows.chains.first + length c.rows.chains.older.items)) is
          ∙ ap (λ k.
          set c.rows.chains.latest.items (bucket x)
          (k + length c.rows.chains.older.items)) (sym c.push.ensures.first)))
          (c.push.ensures.older
          ∙ ap (λ b. get_or c.rows.chains.latest.items b 0 ∷ c.rows.chains.older.items) is);
      first = c.push.ensures.first ∙ c.rows.invariant.first;
      room = c.push.ensures.room ∙ c.rows.invariant.room;
    }
