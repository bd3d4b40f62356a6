-- Lines of a text, by its line feeds.
use Rattle.std.proofs.Common.{
  ◌≡◌,
  ℕ,
  Bool,
  true,
  false,
  cond,
  List,
  [],
  ◌∷◌,
  ◌++◌,
  Option,
  Some,
  None,
  refl,
  sym,
  ap,
  ◌∙◌,
  subst,
}
use Rattle.std.proofs.lemmas.Bool.{eqb-true}
use Rattle.std.specs.Prelude.{◌==◌, option_map}
use Rattle.trace_replay.specs.Fields.{cut, onto_first}
use Rattle.std.specs.List.{onto_first as onto_line}
use Rattle.line_model.specs.Texts.{lines_of}

map_none : (b : ℕ) (o : Option (List ℕ × List ℕ)) → option_map (onto_first b) o ≡ None → o ≡ None
map_none b None e = refl
map_none b (Some p) e = cc

none_behind : (e : Bool) (b : ℕ) (bs : List ℕ) (o : Option (List ℕ × List ℕ))
    → cond e (Some ([], bs)) (option_map (onto_first b) o) ≡ None
    → (e ≡ false) × (o ≡ None)
none_behind true b bs o h = cc
none_behind false b bs o h = (refl, map_none b o h)

-- a text without a separator goes on into another without
pub cut-append : (c : ℕ) (front back : List ℕ)
    → cut c front ≡ None
    → cut c back ≡ None
    → cut c (front ++ back) ≡ None
cut-append c [] back e f = f
cut-append c (b ∷ bs) back e f =
    let h = none_behind (b == c) b bs (cut c bs) e in
    ap (λ t. cond t (Some ([], bs ++ back)) (option_map (onto_first b) (cut c (bs ++ back)))) h.0
    ∙ ap (option_map (onto_first b)) (cut-append c bs back h.1 f)

-- the pieces round the first separator
pub record Pieces (c : ℕ) (text line rest : List ℕ) : Type 0 where
  pub no_separator : cut c line ≡ None
  pub whole : text ≡ line ++ c ∷ rest

abbrev front_of : Option (List ℕ × List ℕ) → List ℕ
front_of None = []
front_of (Some p) = p.0

abbrev back_of : Option (List ℕ × List ℕ) → List ℕ
back_of None = []
back_of (Some p) = p.1

some_pieces : (e : Bool) (c b : ℕ) (bs line rest : List ℕ)
    → (e ≡ (b == c))
    → (e ≡ true → b ≡ c)
    → ((l r : List ℕ) → cut c bs ≡ Some (l, r) → Pieces c bs l r)
    → cond e (Some ([], bs)) (option_map (onto_first b) (cut c bs)) ≡ Some (line, rest)
    → Pieces c (b ∷ bs) line rest
some_pieces true c b bs line rest is same more h =
    let l : [] ≡ line = ap front_of h in let r : bs ≡ rest = ap back_of h in
    record {
      no_separator = ap (cut c) (sym l);
      whole =
          ap (λ (x : ℕ). x ∷ bs) (same refl)
          ∙ ap (λ (x : List ℕ). c ∷ x) r
          ∙ ap (λ (x : List ℕ). x ++ c ∷ rest) l;
    }
some_pieces false c b bs line rest is same more h = after_cut (cut c bs) refl h where
  after_cut : (o : Option (List ℕ × List ℕ))
      → cut c bs ≡ o
      → option_map (onto_first b) o ≡ Some (line, rest)
      → Pieces c (b ∷ bs) line rest
  after_cut None e h = cc
  after_cut (Some p) e h =
      let m = more p.0 p.1 e in
      let l : b ∷ p.0 ≡ line = ap front_of h in
      let r : p.1 ≡ rest = ap back_of h in
      record {
        no_separator =
            ap (cut c) (sym l)
            ∙ ap (λ t. cond t (Some ([], p.0)) (option_map (onto_first b) (cut c p.0))) (sym is)
            ∙ ap (option_map (onto_first b)) m.no_separator;
        whole =
            ap (λ (x : List ℕ). b ∷ x) m.whole
            ∙ ap (λ (x : List ℕ). (b ∷ p.0) ++ c ∷ x) r
            ∙ ap (λ (x : List ℕ). x ++ c ∷ rest) l;
      }

pub cut_pieces : (c : ℕ) (text line rest : List ℕ)
    → cut c text ≡ Some (line, rest)
    → Pieces c text line rest
cut_pieces c [] line rest e = cc
cut_pieces c (b ∷ bs) line rest e =
    some_pieces (b == c) c b bs line rest refl (eqb-true b c) (cut_pieces c bs) e

-- the first line of a text, and the lines after its line feed
pub lines_first : (line rest : List ℕ)
    → cut 10 line ≡ None
    → lines_of (line ++ 10 ∷ rest) ≡ line ∷ lines_of rest
unfolding lines_of
lines_first [] rest e = refl
lines_first (b ∷ bs) rest e =
    let h = none_behind (b == 10) b bs (cut 10 bs) e in
    ap (λ t. cond t ([] ∷ lines_of (bs ++ 10 ∷ rest)) (onto_line b (lines_of (bs ++ 10 ∷ rest))))
    h.0
    ∙ ap (onto_line b) (lines_first bs rest h.1)

-- the lines of a text without a line feed
abbrev pub one_line : List ℕ → List (List ℕ)
one_line [] = []
one_line (b ∷ bs) = (b ∷ bs) ∷ []

onto_one : (b : ℕ) (bs : List ℕ) → onto_line b (one_line bs) ≡ (b ∷ bs) ∷ []
onto_one b [] = refl
onto_one b (c ∷ cs) = refl

-- a text without a line feed is one line, if it is not empty
pub lines_last : (text : List ℕ) → cut 10 text ≡ None → lines_of text ≡ one_line text
unfolding lines_of
lines_last [] e = refl
lines_last (b ∷ bs) e =
    let h = none_behind (b == 10) b bs (cut 10 bs) e in
    ap (λ t. cond t ([] ∷ lines_of bs) (onto_line b (lines_of bs))) h.0
    ∙ ap (onto_line b) (lines_last bs h.1)
    ∙ onto_one b bs

-- lines of which the first begins with a text
pub record Begins (text : List ℕ) (lines : List (List ℕ)) : Type 0 where
  pub more : List ℕ
  pub others : List (List ℕ)
  pub are : lines ≡ (text ++ more) ∷ others

onto_begins : (b : ℕ) (text : List ℕ) (lines : List (List ℕ))
    → Begins text lines
    → Begins (b ∷ text) (onto_line b lines)
onto_begins b text lines h = record {
  more = h.more;
  others = h.others;
  are = ap (onto_line b) h.are;
}

begins_any : (b : ℕ) (lines : List (List ℕ)) → Begins (b ∷ []) (onto_line b lines)
begins_any b [] = record { more = []; others = []; are = refl }
begins_any b (l ∷ ls) = record { more = l; others = ls; are = refl }

begins_behind : (b : ℕ) (text rest : List ℕ)
    → cut 10 text ≡ None
    → Begins (b ∷ text) (onto_line b (lines_of (text ++ rest)))
unfolding lines_of
begins_behind b [] rest e = begins_any b (lines_of rest)
begins_behind b (c ∷ cs) rest e =
    let h = none_behind (c == 10) c cs (cut 10 cs) e in
    let step : lines_of ((c ∷ cs) ++ rest) ≡ onto_line c (lines_of (cs ++ rest)) =
    ap (λ t. cond t ([] ∷ lines_of (cs ++ rest)) (onto_line c (lines_of (cs ++ rest)))) h.0 in
    onto_begins b (c ∷ cs) _ (subst (Begins (c ∷ cs)) (sym step) (begins_behind c cs rest h.1))

-- whatever comes, the first line begins with a text without a line feed that is not empty
pub lines_begin : (b : ℕ) (text rest : List ℕ)
    → cut 10 (b ∷ text) ≡ None
    → Begins (b ∷ text) (lines_of ((b ∷ text) ++ rest))
unfolding lines_of
lines_begin b text rest e =
    let h = none_behind (b == 10) b text (cut 10 text) e in
    let step : lines_of ((b ∷ text) ++ rest) ≡ onto_line b (lines_of (text ++ rest)) =
    ap (λ t. cond t ([] ∷ lines_of (text ++ rest)) (onto_line b (lines_of (text ++ rest))))
    h.0 in
    subst (Begins (b ∷ text)) (sym step) (begins_behind b text rest h.1)
