-- What is left of criteria without those that are repeated.
use Rattle.std.proofs.Common.{
  ◌≡◌,
  ℕ,
  ◌+◌,
  ◌<◌,
  ◌≤◌,
  Bool,
  true,
  false,
  cond,
  not,
  ◌&&◌,
  ◌||◌,
  List,
  [],
  ◌∷◌,
  ◌++◌,
  map,
  length,
  filter,
  Bor,
  refl,
  sym,
  ap,
  ◌∙◌,
  append_assoc,
  append-nil,
  arith,
}
use Rattle.std.proofs.lemmas.List.Folds.{list_any-append}
use Rattle.std.proofs.lemmas.List.{map-append}
use Rattle.std.proofs.lemmas.Bool.{true≢false}
use Rattle.std.specs.Bool.{OnFalse}
use Rattle.std.specs.List.{list_any}
use Rattle.rd_base.specs.declared.queries.Criterion.{Criterion}
use Rattle.rd_base.specs.declared.queries.Query.{Query}
use Rattle.distinct_criteria.specs.Distinct.{distinct, distinct_query, is_among, is_same, unseen}

-- a criterion that was seen is passed over
pub passed : (seen : List Criterion) (criterion : Criterion) (criteria : List Criterion)
    → is_among seen criterion ≡ true
    → unseen seen (criterion ∷ criteria) ≡ unseen seen criteria
unfolding unseen
passed seen criterion criteria there =
    ap (λ b. cond b (unseen seen criteria) (criterion ∷ unseen (seen ++ criterion ∷ []) criteria))
    there

-- one that was not seen is kept
pub taken : (seen : List Criterion) (criterion : Criterion) (criteria : List Criterion)
    → is_among seen criterion ≡ false
    → unseen seen (criterion ∷ criteria) ≡ criterion ∷ unseen (seen ++ criterion ∷ []) criteria
unfolding unseen
taken seen criterion criteria absent =
    ap (λ b. cond b (unseen seen criteria) (criterion ∷ unseen (seen ++ criterion ∷ []) criteria))
    absent

-- nothing is left of none
pub none_unseen : (seen : List Criterion) → unseen seen [] ≡ []
unfolding unseen
none_unseen seen = refl

-- ---- criteria one after the other, and the set of those that were seen

-- what was seen, where a set has it
abbrev pub AreSeen : List (Bor Criterion) → List (Bor Criterion) → Type 0
AreSeen keys kept = (q : Bor Criterion)
    → list_any (λ k. is_same q.now k.now) keys
    ≡ is_among (map (λ c. c.now) kept) q.now

absent_by : {a b : Bool} → a ≡ not b → a ≡ true → b ≡ false
absent_by {b = true} e f = sym (sym e ∙ f)
absent_by {b = false} e f = refl

there_by : {a b : Bool} → a ≡ not b → a ≡ false → b ≡ true
there_by {b = true} e f = refl
there_by {b = false} e f = sym (sym e ∙ f)

-- after one that was seen before
pub after_seen : (rest more whole : List Criterion) (keys kept : List (Bor Criterion))
    (k : Bor Criterion) (added : Bool)
    → rest ≡ k.now ∷ more
    → AreSeen keys kept
    → added ≡ not (list_any (λ c. is_same k.now c.now) keys)
    → added ≡ false
    → map (λ c. c.now) kept ++ unseen (map (λ c. c.now) kept) rest ≡ whole
    → map (λ c. c.now) kept ++ unseen (map (λ c. c.now) kept) more ≡ whole
after_seen rest more whole keys kept k added split are told old given =
    ap (λ cs. map (λ c. c.now) kept ++ cs)
    (sym (passed (map (λ c. c.now) kept) k.now more (sym (are k) ∙ there_by told old)))
    ∙ ap (λ cs. map (λ c. c.now) kept ++ unseen (map (λ c. c.now) kept) cs) (sym split) ∙ given

-- the set stays
pub seen_again : (keys next kept : List (Bor Criterion)) (added : Bool)
    → added ≡ false
    → OnFalse added (next ≡ keys)
    → AreSeen keys kept
    → AreSeen next kept
seen_again keys next kept false old same are =
    λ q. ap (λ ks. list_any (λ (k : Bor Criterion). is_same q.now k.now) ks) same ∙ are q
seen_again keys next kept true old same are = absurd (true≢false old)

one_more : (kept new : List (Bor Criterion)) (k : Bor Criterion)
    → new ≡ kept ++ k ∷ []
    → map (λ c. c.now) new ≡ map (λ c. c.now) kept ++ k.now ∷ []
one_more kept new k e = ap (map (λ c. c.now)) e
    ∙ map-append (λ (c : Bor Criterion). c.now) kept (k ∷ [])

-- after one that was not
pub after_new : (rest more whole : List Criterion) (keys kept new : List (Bor Criterion))
    (k : Bor Criterion) (added : Bool)
    → rest ≡ k.now ∷ more
    → AreSeen keys kept
    → added ≡ not (list_any (λ c. is_same k.now c.now) keys)
    → added ≡ true
    → new ≡ kept ++ k ∷ []
    → map (λ c. c.now) kept ++ unseen (map (λ c. c.now) kept) rest ≡ whole
    → map (λ c. c.now) new ++ unseen (map (λ c. c.now) new) more ≡ whole
after_new rest more whole keys kept new k added split are told first e given =
    let before = map (λ (c : Bor Criterion). c.now) kept in
    ap (λ cs. cs ++ unseen cs more) (one_more kept new k e)
    ∙ append_assoc before (k.now ∷ []) (unseen (before ++ k.now ∷ []) more)
    ∙ ap (λ cs. before ++ cs)
    (sym (taken before k.now more (sym (are k) ∙ absent_by told first)))
    ∙ ap (λ cs. before ++ unseen before cs) (sym split) ∙ given

-- the set has it, too
pub seen_new : (keys next kept new : List (Bor Criterion)) (k : Bor Criterion)
    → ((q : Bor Criterion)
    → list_any (λ c. is_same q.now c.now) next
    ≡ cond (is_same k.now q.now) true (list_any (λ c. is_same q.now c.now) keys))
    → new ≡ kept ++ k ∷ []
    → AreSeen keys kept
    → AreSeen next new
seen_new keys next kept new k more e are = λ q.
    let before = map (λ (c : Bor Criterion). c.now) kept in
    more q ∙ ap (cond (is_same k.now q.now) true) (are q)
    ∙ either (is_same k.now q.now) (is_among before q.now)
    ∙ sym (list_any-append (λ other. is_same other q.now) before (k.now ∷ []))
    ∙ ap (λ cs. is_among cs q.now) (sym (one_more kept new k e))
  where
    either : (a b : Bool) → cond a true b ≡ (b || (a || false))
    either true true = refl
    either true false = refl
    either false true = refl
    either false false = refl

-- what was kept of all is what is distinct
pub all_kept : (kept rest whole : List Criterion)
    → length rest ≡ 0
    → kept ++ unseen kept rest ≡ whole
    → kept ≡ whole
unfolding unseen
all_kept kept [] whole none given = sym (append-nil kept) ∙ given
all_kept kept (criterion ∷ rest) whole none given = absurd (omega (arith, none))

-- ---- how many are left

within : (seen criteria : List Criterion) → length (unseen seen criteria) ≤ length criteria
unfolding unseen
within seen [] = omega arith
within seen (criterion ∷ criteria) =
    by (is_among seen criterion) (within seen criteria) (within (seen ++ criterion ∷ []) criteria)
  where
    by : (b : Bool)
        → length (unseen seen criteria) ≤ length criteria
        → length (unseen (seen ++ criterion ∷ []) criteria) ≤ length criteria
        → length
        (cond b (unseen seen criteria) (criterion ∷ unseen (seen ++ criterion ∷ []) criteria))
        ≤ length (criterion ∷ criteria)
    by true less more = omega (arith, less)
    by false less more = omega (arith, more)

-- where as many are left, all are
pub unseen_all : (seen criteria : List Criterion)
    → length (unseen seen criteria) ≡ length criteria
    → unseen seen criteria ≡ criteria
unfolding unseen
unseen_all seen [] e = refl
unseen_all seen (criterion ∷ criteria) e =
    by (is_among seen criterion) e (within seen criteria)
    (unseen_all (seen ++ criterion ∷ []) criteria)
  where
    by : (b : Bool)
        → length
        (cond b (unseen seen criteria) (criterion ∷ unseen (seen ++ criterion ∷ []) criteria))
        ≡ length (criterion ∷ criteria)
        → length (unseen seen criteria) ≤ length criteria
        → (length (unseen (seen ++ criterion ∷ []) criteria) ≡ length criteria
        → unseen (seen ++ criterion ∷ []) criteria ≡ criteria)
        → cond b (unseen seen criteria) (criterion ∷ unseen (seen ++ criterion ∷ []) criteria)
        ≡ criterion ∷ criteria
    by true e less more = absurd (omega (arith, e, less))
    by false e less more = ap (λ cs. criterion ∷ cs) (more (omega (arith, e)))

-- so the query stays
pub query_all : (query : Query) (criteria : List Criterion) (count : ℕ)
    → criteria ≡ query.criteria
    → count ≡ length (distinct criteria)
    → count ≡ length criteria
    → query ≡ distinct_query query
query_all query criteria count are kept all =
    by (sym (ap (λ cs. length (distinct cs)) are) ∙ sym kept ∙ all ∙ ap length are)
  where
    by : length (distinct query.criteria) ≡ length query.criteria → query ≡ distinct_query query
    by e = sym (ap (λ cs. record query { criteria = cs }) (unseen_all [] query.criteria e))

-- one criterion is no other
pub few_distinct : (criteria : List Criterion)
    → length criteria < 2
    → length (distinct criteria) ≡ length criteria
unfolding unseen
few_distinct [] few = refl
few_distinct (criterion ∷ []) few = refl
few_distinct (criterion ∷ other ∷ criteria) few = absurd (omega (arith, few))
