-- Links that are alike are listed alike, in the same line.
use Rattle.std.proofs.Common.{
  ◌≡◌,
  ℕ,
  ◌≤◌,
  Bool,
  true,
  false,
  not,
  cond,
  ◌||◌,
  ◌&&◌,
  List,
  [],
  ◌∷◌,
  ◌++◌,
  length,
  take,
  drop,
  map,
  filter,
  flat_map,
  bytes_eq,
  Option,
  Some,
  None,
  is_some,
  refl,
  sym,
  ap,
  ap₂,
  ◌∙◌,
  append_assoc,
  arith,
}
use mathlib.Core.Bool.{beq}
use Rattle.std.specs.Cmp.Lexicographic.{pointwise}
use Rattle.std.proofs.Math.Seq.{drop-append_seam, take-append_seam}
use Rattle.std.proofs.lemmas.Bool.{false≢true, false_from_ne_true, and_parts}
use Rattle.std.specs.List.{join_with_byte, list_all, AllByRecursion}
use Rattle.std.proofs.lemmas.Slice.Eq.{bytes_eq-Decides}
use Rattle.rd_base.specs.declared.attributes.Pair.{Pair}
use Rattle.rd_base.specs.declared.queries.Criterion.{Criterion}
use Rattle.rd_base.specs.declared.queries.Query.{Query}
use Rattle.rd_base.specs.declared.records.Item.{Item}
use Rattle.rd_base.specs.declared.records.Record.{Record}
use Rattle.rd_base.specs.LinkLines.{listed}
use Rattle.link_model.specs.Characters.{comma}
use Rattle.record_model.specs.ListingLines.{anchor_text, link_line, link_listed, same_lines}
use Rattle.record_model.proofs.LineLaws.{same_lines-Decides}
use Rattle.record_model.specs.Matching.{endpoint_matches, link_matches}
use Rattle.listing.specs.AlikeLinks.{Agree, AreAlike, AreAllAlike, AreJudgedAlike, AreLeftAlike}
use Rattle.listing.specs.JudgedEndpoints.{AreJudged}
use Rattle.listing.specs.ListedLinks.{all_lines, lines_by}
use Rattle.listing.specs.Views.{FirstListed}
use Rattle.listing.proofs.PartLaws.{join-cons}
use Rattle.listing.proofs.PieceLaws.{link_line_begins}

-- equal texts begin with the same where they begin with as much
same_fronts : (xs ys rest more : List ℕ) → length xs ≡ length ys → xs ++ rest ≡ ys ++ more → xs ≡ ys
same_fronts xs ys rest more long e =
    sym (take-append_seam xs rest)
    ∙ ap (λ (n : ℕ). take n (xs ++ rest)) long
    ∙ ap (take (length ys)) e
    ∙ take-append_seam ys more

-- and go on with the same
same_rests : (xs ys rest more : List ℕ)
    → length xs ≡ length ys
    → xs ++ rest ≡ ys ++ more
    → rest ≡ more
same_rests xs ys rest more long e =
    sym (drop-append_seam xs rest)
    ∙ ap (λ (n : ℕ). drop n (xs ++ rest)) long
    ∙ ap (drop (length ys)) e
    ∙ drop-append_seam ys more

-- the target of a link stands at the beginning of its line
pub target_same : (x y : Item)
    → link_line x ≡ link_line y
    → length x.target ≡ length y.target
    → x.target ≡ y.target
unfolding link_line
target_same x y line long =
    same_fronts x.target y.target (62 ∷ (x.raw ++ anchor_text x.anchor))
    (62 ∷ (y.raw ++ anchor_text y.anchor)) long
    (sym (append_assoc x.target (62 ∷ []) (x.raw ++ anchor_text x.anchor))
    ∙ ap (drop 1) line
    ∙ append_assoc y.target (62 ∷ []) (y.raw ++ anchor_text y.anchor))

-- a criterion matches both or neither
link_matches-alike : (criterion : Criterion) (x y : Item)
    → AreAlike x y
    → link_matches criterion x ≡ link_matches criterion y
unfolding link_matches
link_matches-alike criterion x y alike = rw (alike.target, alike.anchor, alike.pairs) refl

-- a query lists both links or neither
pub listed-agree : (together : Bool) (query : Query) (r s : Record)
    → (together ≡ true → AreJudgedAlike query.criteria r s)
    → Agree together (link_listed query r) (link_listed query s)
unfolding link_listed
listed-agree together query r s judged is x y alike = each query.criteria (judged is)
  where
    each : (criteria : List Criterion)
        → AllByRecursion (λ criterion. endpoint_matches criterion r ≡ endpoint_matches criterion s)
        criteria
        → list_all (λ criterion. link_matches criterion x || endpoint_matches criterion r) criteria
        ≡ list_all (λ criterion. link_matches criterion y || endpoint_matches criterion s)
        criteria
    each [] judged = refl
    each (criterion ∷ criteria) judged =
        ap₂ ◌&&◌ (ap₂ ◌||◌ (link_matches-alike criterion x y alike) judged.0)
        (each criteria judged.1)

-- tests that say the same as those that agree agree
pub Agree-same : (together : Bool) (test other now next : Item → Bool)
    → ((x : Item) → now x ≡ test x)
    → ((x : Item) → next x ≡ other x)
    → Agree together test other
    → Agree together now next
Agree-same together test other now next one two agree is x y alike =
    one x ∙ agree is x y alike ∙ sym (two y)

-- without a link of each, which are alike, the lines are the same where they are with them
same_lines-alike : (test other : Item → Bool) (x y : Item) (xs ys : List Item)
    → link_line x ≡ link_line y
    → test x ≡ other y
    → same_lines (lines_by test xs) (lines_by other ys)
    ≡ same_lines (lines_by test (x ∷ xs)) (lines_by other (y ∷ ys))
same_lines-alike test other x y xs ys line listed = rw listed (by (other y))
  where
    lines : List (List ℕ)
    lines = lines_by test xs

    others : List (List ℕ)
    others = lines_by other ys

    by : (b : Bool)
        → same_lines lines others
        ≡ same_lines (map link_line (cond b (x ∷ filter test xs) (filter test xs)))
        (map link_line (cond b (y ∷ filter other ys) (filter other ys)))
    by true =
        sym (ap (λ b. b && same_lines lines others)
        ((bytes_eq-Decides (link_line x) (link_line y)).1 line))
    by false = refl

-- where all links are alike, all lines are the same
pub all_alike : (together : Bool) (test other : Item → Bool) (xs ys : List Item)
    → together ≡ true
    → Agree together test other
    → AreAllAlike xs ys
    → same_lines (lines_by test xs) (lines_by other ys) ≡ true
all_alike together test other [] [] is agree alike = refl
all_alike together test other [] (y ∷ ys) is agree alike = absurd alike
all_alike together test other (x ∷ xs) [] is agree alike = absurd alike
all_alike together test other (x ∷ xs) (y ∷ ys) is agree alike =
    sym (same_lines-alike test other x y xs ys alike.0.line (agree is x y alike.0))
    ∙ all_alike together test other xs ys is agree alike.1

-- tests that say the same give the same lines
pub lines-same : (test other : Item → Bool)
    → ((x : Item) → test x ≡ other x)
    → (items : List Item)
    → lines_by test items ≡ lines_by other items
lines-same test other same items = ap (λ (xs : List Item). map link_line xs) (each items)
  where
    each : (xs : List Item) → filter test xs ≡ filter other xs
    each [] = refl
    each (x ∷ xs) = let rest = each xs in let first = same x in rw (first, rest) refl

-- links that are alike before others that are
pub AreAllAlike-more : (left others xs ys : List Item) (x y : Item)
    → left ≡ x ∷ xs
    → others ≡ y ∷ ys
    → AreAlike x y
    → AreAllAlike xs ys
    → AreAllAlike left others
AreAllAlike-more left others xs ys x y split cut first rest = rw (split, cut) (first, rest)

-- nothing is left out yet
pub AreLeftAlike-none : (together : Bool) (old new : List Item)
    → AreLeftAlike together old new old new
AreLeftAlike-none together old new = record { same = λ test other agree. refl; fewer = omega arith }

-- one more of each
pub AreLeftAlike-more : (old new : List Item) (x y : Item) (xs ys left others : List Item)
    → left ≡ x ∷ xs
    → others ≡ y ∷ ys
    → AreAlike x y
    → AreLeftAlike true old new left others → AreLeftAlike true old new xs ys
AreLeftAlike-more old new x y xs ys left others split cut alike before = record {
  same = λ test other agree.
      same_lines-alike test other x y xs ys alike.line (agree refl x y alike)
      ∙ (ap (λ (zs : List Item). same_lines (lines_by test zs) (lines_by other (y ∷ ys)))
      (sym split)
      ∙ (ap (λ (zs : List Item). same_lines (lines_by test left) (lines_by other zs)) (sym cut)
      ∙ before.same test other agree));
  fewer = let long = ap length split in let few = before.fewer in omega (arith, long, few);
}

-- ---- links whose lines make the same text

-- what follows the lines before these, in a text of all
abbrev pub tail_of : List Item → List ℕ
tail_of items = flat_map (λ line. comma ∷ line) (map link_line items)

-- links whose lines make the same text
pub tails-same : (xs ys : List Item) → listed xs ≡ listed ys → tail_of xs ≡ tail_of ys
unfolding listed
tails-same [] [] e = refl
tails-same [] (y ∷ ys) e =
    absurd (let begins = (link_line_begins y).1 in
    let clash =
    e
    ∙ join-cons (link_line y) (map link_line ys)
    ∙ ap (λ (l : List ℕ). l ++ tail_of ys) begins in
    cc)
tails-same (x ∷ xs) [] e =
    absurd (let begins = (link_line_begins x).1 in
    let clash =
    sym e
    ∙ join-cons (link_line x) (map link_line xs)
    ∙ ap (λ (l : List ℕ). l ++ tail_of xs) begins in
    cc)
tails-same (x ∷ xs) (y ∷ ys) e =
    ap (λ (t : List ℕ). comma ∷ t) (sym (join-cons (link_line x) (map link_line xs))
    ∙ e
    ∙ join-cons (link_line y) (map link_line ys))

-- the first lines are the same where they are equally long
pub first_same : (left others xs ys : List Item) (x y : Item)
    → left ≡ x ∷ xs
    → others ≡ y ∷ ys
    → length (link_line x) ≡ length (link_line y)
    → tail_of left ≡ tail_of others
    → link_line x ≡ link_line y
first_same left others xs ys x y split cut long e =
    same_fronts (link_line x) (link_line y) (tail_of xs) (tail_of ys) long
    (ap (drop 1) (sym (ap tail_of split) ∙ e ∙ ap tail_of cut))

-- and so is what follows them
pub others_same : (left others xs ys : List Item) (x y : Item)
    → left ≡ x ∷ xs
    → others ≡ y ∷ ys
    → length (link_line x) ≡ length (link_line y)
    → tail_of left ≡ tail_of others
    → tail_of xs ≡ tail_of ys
others_same left others xs ys x y split cut long e =
    same_rests (link_line x) (link_line y) (tail_of xs) (tail_of ys) long
    (ap (drop 1) (sym (ap tail_of split) ∙ e ∙ ap tail_of cut))

-- the same answers for all criteria
pub judged_alike : (r s : Record) (criteria : List Criterion) (judged : List Bool)
    → length criteria ≤ length judged
    → AreJudged r judged criteria
    → AreJudged s judged criteria
    → AllByRecursion (λ criterion. endpoint_matches criterion r ≡ endpoint_matches criterion s)
    criteria
judged_alike r s [] judged few first second = tt
judged_alike r s (criterion ∷ criteria) [] few first second = absurd (omega (arith, few))
judged_alike r s (criterion ∷ criteria) (answer ∷ judged) few first second =
    (sym first.0 ∙ second.0, judged_alike r s criteria judged (omega (arith, few)) first.1 second.1)

-- the lines of all links are the same where those of the first and of the others are
lines-split : (left others xs ys : List Item) (x y : Item)
    → left ≡ x ∷ xs
    → others ≡ y ∷ ys
    → same_lines (all_lines left) (all_lines others)
    ≡ (bytes_eq (link_line x) (link_line y) && same_lines (all_lines xs) (all_lines ys))
lines-split left others xs ys x y split cut = rw (split, cut) refl

-- without the first lines, which are the same, it is the same whether all are
pub lines_rest : (left others xs ys : List Item) (x y : Item)
    → left ≡ x ∷ xs
    → others ≡ y ∷ ys
    → link_line x ≡ link_line y
    → same_lines (all_lines xs) (all_lines ys) ≡ same_lines (all_lines left) (all_lines others)
lines_rest left others xs ys x y split cut line =
    sym (ap (λ b. b && same_lines (all_lines xs) (all_lines ys))
    ((bytes_eq-Decides (link_line x) (link_line y)).1 line))
    ∙ sym (lines-split left others xs ys x y split cut)

-- lines that make other texts differ
pub texts_differ : (xs ys : List Item)
    → (listed xs ≡ listed ys → ⊥)
    → false ≡ same_lines (all_lines xs) (all_lines ys)
unfolding listed
texts_differ xs ys apart =
    sym (false_from_ne_true _ (λ h. apart (ap (join_with_byte comma)
    ((same_lines-Decides (all_lines xs) (all_lines ys)).0 h))))

-- ---- comparisons

-- attributes that are compared one by one
pub pairs_same : (xs ys : List Pair)
    → pointwise (λ x y. bytes_eq x.name y.name && bytes_eq x.value y.value) xs ys ≡ true
    → xs ≡ ys
pairs_same [] [] same = refl
pairs_same [] (y ∷ ys) same = absurd (false≢true same)
pairs_same (x ∷ xs) [] same = absurd (false≢true same)
pairs_same (x ∷ xs) (y ∷ ys) same =
    let parts =
    and_parts (bytes_eq x.name y.name && bytes_eq x.value y.value)
    (pointwise (λ p q. bytes_eq p.name q.name && bytes_eq p.value q.value) xs ys) same in
    let both = and_parts (bytes_eq x.name y.name) (bytes_eq x.value y.value) parts.0 in
    let first : x ≡ y =
    ap₂ (λ (n v : List ℕ). pair_with n v) ((bytes_eq-Decides x.name y.name).0 both.0)
    ((bytes_eq-Decides x.value y.value).0 both.1) in
    ap₂ (λ (p : Pair) (ps : List Pair). p ∷ ps) first (pairs_same xs ys parts.1)
  where
    pair_with : List ℕ → List ℕ → Pair
    pair_with n v = record { name = n; value = v }

-- answers that are compared one by one
pub answers_same : (xs ys : List Bool) → pointwise beq xs ys ≡ true → xs ≡ ys
answers_same [] [] same = refl
answers_same [] (y ∷ ys) same = absurd (false≢true same)
answers_same (x ∷ xs) [] same = absurd (false≢true same)
answers_same (true ∷ xs) (true ∷ ys) same =
    ap (λ (zs : List Bool). true ∷ zs) (answers_same xs ys same)
answers_same (true ∷ xs) (false ∷ ys) same = absurd (false≢true same)
answers_same (false ∷ xs) (true ∷ ys) same = absurd (false≢true same)
answers_same (false ∷ xs) (false ∷ ys) same =
    ap (λ (zs : List Bool). false ∷ zs) (answers_same xs ys same)

-- ---- a step over the lines of two registrations, of which it is known whether they are the same

-- those of one have ended
pub lines_end : (test : Item → Bool) (others : List Item) (first : Option (Item × List Item))
    (lines : List (List ℕ)) (answer whole : Bool)
    → lines ≡ []
    → FirstListed test others first
    → is_some first ≡ not answer → same_lines lines (lines_by test others) ≡ whole → answer ≡ whole
lines_end test others None lines answer whole none first is h =
    by answer is ∙ (sym (ap₂ (λ (xs ys : List (List ℕ)). same_lines xs ys) none first) ∙ h)
  where
    by : (b : Bool) → false ≡ not b → b ≡ true
    by true e = refl
    by false e = absurd (false≢true e)
lines_end test others (Some (item, more)) lines answer whole none first is h =
    by answer is ∙ (sym (ap₂ (λ (xs ys : List (List ℕ)). same_lines xs ys) none first.0) ∙ h)
  where
    by : (b : Bool) → true ≡ not b → b ≡ false
    by true e = absurd (false≢true (sym e))
    by false e = refl

-- where no link passes, there are no lines
pub lines_none : (test : Item → Bool) (items : List Item) (first : Option (Item × List Item))
    (answer : Bool)
    → FirstListed test items first
    → is_some first ≡ not answer
    → answer ≡ same_lines (lines_by test items) []
lines_none test items None answer first is = rw first (by answer is)
  where
    by : (b : Bool) → false ≡ not b → b ≡ true
    by true e = refl
    by false e = absurd (false≢true e)
lines_none test items (Some (item, more)) answer first is = let e = first.0 in rw e (by answer is)
  where
    by : (b : Bool) → true ≡ not b → b ≡ false
    by true e = absurd (false≢true (sym e))
    by false e = refl

pub line_missing : (lines others more : List (List ℕ)) (line : List ℕ) (whole : Bool)
    → lines ≡ line ∷ more
    → others ≡ []
    → same_lines lines others ≡ whole
    → false ≡ whole
line_missing lines others more line whole first none h =
    sym (ap₂ (λ (xs ys : List (List ℕ)). same_lines xs ys) first none) ∙ h

pub line_differs : (lines others more further : List (List ℕ)) (line other : List ℕ)
    (same whole : Bool)
    → lines ≡ line ∷ more
    → others ≡ other ∷ further
    → same ≡ bytes_eq line other
    → same ≡ false
    → same_lines lines others ≡ whole → false ≡ whole
line_differs lines others more further line other same whole first second is differs h =
    sym (ap (λ b. b && same_lines more further) (sym is ∙ differs))
    ∙ (sym (ap₂ (λ (xs ys : List (List ℕ)). same_lines xs ys) first second) ∙ h)

pub line_same : (lines others more further : List (List ℕ)) (line other : List ℕ)
    (same whole : Bool)
    → lines ≡ line ∷ more
    → others ≡ other ∷ further
    → same ≡ bytes_eq line other
    → same ≡ true
    → same_lines lines others ≡ whole → same_lines more further ≡ whole
line_same lines others more further line other same whole first second is yet h =
    sym (ap (λ b. b && same_lines more further) (sym is ∙ yet))
    ∙ (sym (ap₂ (λ (xs ys : List (List ℕ)). same_lines xs ys) first second) ∙ h)
