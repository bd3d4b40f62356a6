-- When two queries are the same, by their parts.
use Rattle.std.proofs.Common.{
  ◌≡◌,
  ◌↔◌,
  ℕ,
  Bool,
  true,
  false,
  ◌&&◌,
  List,
  Option,
  Decides,
  bytes_eq,
  refl,
  sym,
  ap,
  ap₂,
  ◌∙◌,
}
use Rattle.std.proofs.lemmas.Bool.{false≢true, and_parts, and_from}
use Rattle.std.proofs.lemmas.Slice.Eq.{bytes_eq-Decides}
use Rattle.rd_base.specs.declared.queries.Kind.{Kind}
use Rattle.rd_base.specs.declared.queries.Criterion.{Criterion}
use Rattle.rd_base.specs.declared.queries.Query.{Query}
use Rattle.event_model.specs.Same.{is_same_query}
use Rattle.event_model.proofs.SameLaws.{is_same_query-Decides}

criterion_of : List ℕ → List ℕ → Criterion
criterion_of name pattern = record { name = name; pattern = pattern }

pub criterion-Decides : (a b : Criterion)
    → Decides (bytes_eq a.name b.name && bytes_eq a.pattern b.pattern) (a ≡ b)
unfolding criterion_of
criterion-Decides a b = (
  λ e. let both = and_parts (bytes_eq a.name b.name) (bytes_eq a.pattern b.pattern) e in
      ap₂ criterion_of ((bytes_eq-Decides a.name b.name).0 both.0)
      ((bytes_eq-Decides a.pattern b.pattern).0 both.1),
  λ e. and_from (bytes_eq a.name b.name) (bytes_eq a.pattern b.pattern)
      ((bytes_eq-Decides a.name b.name).1 (ap (λ (c : Criterion). c.name) e))
      ((bytes_eq-Decides a.pattern b.pattern).1 (ap (λ (c : Criterion). c.pattern) e)),
)

-- where a part differs, they are not the same
pub other_queries : (a b : Query) → ((a ≡ b) → ⊥) → false ≡ is_same_query a b
other_queries a b other = by (is_same_query a b) refl
  where
    by : (x : Bool) → is_same_query a b ≡ x → false ≡ x
    by false e = refl
    by true e = absurd (other ((is_same_query-Decides a b).0 e))

-- an answer is false where it is not true
pub not_answered : (answer : Bool) → answer ≡ false → answer ≡ true → ⊥
not_answered answer e f = false≢true (sym e ∙ f)

query_of : Kind → List Criterion → Option ℕ → Option ℕ → Query
query_of k criteria page count = record {
  kind = k;
  criteria = criteria;
  page = page;
  count = count;
}

-- where all else is the same, the criteria decide
pub same_queries : (a b : Query) (answer : Bool)
    → a.kind ≡ b.kind
    → a.page ≡ b.page
    → a.count ≡ b.count
    → ((answer ≡ true) ↔ (a.criteria ≡ b.criteria))
    → answer ≡ is_same_query a b
unfolding query_of
same_queries a b answer kind page count same = by answer (is_same_query a b) refl refl
  where
    equal : a.criteria ≡ b.criteria → a ≡ b
    equal criteria =
        let first :
        query_of a.kind a.criteria a.page a.count ≡ query_of b.kind b.criteria a.page a.count =
        ap₂ (λ k cs. query_of k cs a.page a.count) kind criteria in
        first ∙ ap₂ (λ p n. query_of b.kind b.criteria p n) page count

    by : (x y : Bool) → answer ≡ x → is_same_query a b ≡ y → x ≡ y
    by true true e f = refl
    by false false e f = refl
    by true false e f =
        absurd (false≢true (sym f ∙ (is_same_query-Decides a b).1 (equal (same.0 e))))
    by false true e f =
        absurd (false≢true
        (sym e ∙ same.1 (ap (λ (q : Query). q.criteria) ((is_same_query-Decides a b).0 f))))
