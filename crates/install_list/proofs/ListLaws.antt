-- Lines of a text, judged one after the other.
use Rattle.std.proofs.Common.{
  ◌≡◌,
  ◌<◌,
  ◌≤◌,
  ◌+◌,
  ◌==◌,
  ℕ,
  suc,
  Bool,
  true,
  false,
  cond,
  not,
  List,
  [],
  ◌∷◌,
  ◌++◌,
  length,
  take,
  drop,
  Option,
  Some,
  None,
  Result,
  Ok,
  Err,
  refl,
  sym,
  ap,
  ◌∙◌,
  arith,
  append_assoc,
  append-nil,
  add-one,
}
use Rattle.std.specs.Prelude.{nat_lt, position}
use Rattle.std.specs.Result.{OnOk, is_err}
use Rattle.std.specs.List.{position_or_len}
use Rattle.std.proofs.lemmas.Bool.{eqb-true, ltb-true, ltb-false}
use Rattle.line_model.specs.Texts.{lines_of}
use Rattle.std.specs.List.{All}
use Rattle.std.proofs.lemmas.List.Elements.{All-push}
use Rattle.install_list.specs.declared.entries.Entry.{Entry}
use Rattle.install_list.specs.declared.lines.LineBad.{LineBad}
use Rattle.install_list.specs.declared.words.Order.{Order}
use Rattle.install_list.specs.Lists.{
  FirstBad,
  judged,
  behind,
  entries_from,
  items_of,
  CanEntry,
  IsSendable,
}

-- ---- the first line

lines_here : (byte : ℕ) (text : List ℕ)
    → (byte == 10) ≡ true
    → lines_of (byte ∷ text) ≡ [] ∷ lines_of text
unfolding lines_of
lines_here byte text e = rw e refl

lines_behind : (byte : ℕ) (text line : List ℕ) (lines : List (List ℕ))
    → (byte == 10) ≡ false
    → lines_of text ≡ line ∷ lines
    → lines_of (byte ∷ text) ≡ (byte ∷ line) ∷ lines
unfolding lines_of
lines_behind byte text line lines e h = rw (e, h) refl

lines_none : lines_of [] ≡ []
unfolding lines_of
lines_none = refl

lines_alone : (byte : ℕ)
    → (byte == 10) ≡ false
    → lines_of (byte ∷ []) ≡ (byte ∷ []) ∷ []
unfolding lines_of
lines_alone byte e = rw e refl

abbrev place : List ℕ → ℕ
place text = position_or_len (λ b. b == 10) text

-- there is a line feed at the index
at_by : (here : Bool) (byte : ℕ) (text : List ℕ)
    → (byte == 10) ≡ here
    → (place text < length text
    → lines_of text ≡ take (place text) text ∷ lines_of (drop (suc (place text)) text))
    → cond (not here) (1 + place text) 0 < suc (length text)
    → lines_of (byte ∷ text)
    ≡ take (cond (not here) (1 + place text) 0) (byte ∷ text)
    ∷ lines_of (drop (suc (cond (not here) (1 + place text) 0)) (byte ∷ text))
at_by true byte text e more inside = lines_here byte text e
at_by false byte text e more inside =
    let one : 1 + place text ≡ suc (place text) = omega arith in
    rw one
    (lines_behind byte text (take (place text) text) (lines_of (drop (suc (place text)) text)) e
    (more (omega (arith, inside))))

pub lines_at : (text : List ℕ)
    → place text < length text
    → lines_of text ≡ take (place text) text ∷ lines_of (drop (suc (place text)) text)
lines_at [] inside = absurd (omega (arith, inside))
lines_at (byte ∷ text) inside = at_by (byte == 10) byte text refl (lines_at text) inside

-- the text has no line feed
end_by : (here : Bool) (byte : ℕ) (text : List ℕ)
    → (byte == 10) ≡ here
    → ((text ≡ [] → ⊥) → length text ≤ place text → lines_of text ≡ text ∷ [])
    → suc (length text) ≤ cond (not here) (1 + place text) 0
    → lines_of (byte ∷ text) ≡ (byte ∷ text) ∷ []
end_by true byte text e more outside = absurd (omega (arith, outside))
end_by false byte [] e more outside = lines_alone byte e
end_by false byte (b ∷ bs) e more outside =
    lines_behind byte (b ∷ bs) (b ∷ bs) [] e
    (more (λ none. let same : b ∷ bs ≡ [] = none in cc) (omega (arith, outside)))

pub lines_end : (text : List ℕ)
    → (text ≡ [] → ⊥)
    → length text ≤ place text
    → lines_of text ≡ text ∷ []
lines_end [] some outside = absurd (some refl)
lines_end (byte ∷ text) some outside = end_by (byte == 10) byte text refl (lines_end text) outside

-- by what `position` finds
pub found_at : (text : List ℕ) (at : ℕ)
    → Some at ≡ position (λ b. b == 10) text
    → lines_of text ≡ take at text ∷ lines_of (drop (suc at) text)
found_at text at e = by (nat_lt (place text) (length text)) refl e
  where
    by : (inside : Bool)
        → nat_lt (place text) (length text) ≡ inside
        → Some at ≡ cond inside (Some (place text)) None
        → lines_of text ≡ take at text ∷ lines_of (drop (suc at) text)
    by true lt h =
        let same : at ≡ place text = cc in
        rw same (lines_at text (ltb-true (place text) (length text) lt))
    by false lt h = absurd cc

pub found_one : (text : List ℕ) (at : ℕ)
    → Some at ≡ position (λ b. b == 10) text
    → lines_of text ≡ take at text ∷ lines_of (drop (at + 1) text)
found_one text at e = rw (add-one at) (found_at text at e)

pub found_none : (text : List ℕ)
    → (text ≡ [] → ⊥)
    → None ≡ position (λ b. b == 10) text
    → lines_of text ≡ text ∷ []
found_none text some e = by (nat_lt (place text) (length text)) refl e
  where
    by : (inside : Bool)
        → nat_lt (place text) (length text) ≡ inside
        → ◌≡◌ {A = Option ℕ} None (cond inside (Some (place text)) None)
        → lines_of text ≡ text ∷ []
    by true lt h = absurd cc
    by false lt h = lines_end text some (ltb-false (place text) (length text) lt)

-- ---- the list

-- entries of lines, followed by those of the remaining lines
abbrev pub in_front : List Entry → Result (List Entry) FirstBad → Result (List Entry) FirstBad
in_front before (Err first) = Err first
in_front before (Ok entries) = Ok (before ++ entries)

front_more : (before : List Entry) (n : ℕ) (entry : Option Entry) (r : Result (List Entry) FirstBad)
    → in_front before (behind n (Ok entry) r) ≡ in_front (before ++ items_of entry) r
front_more before n None (Ok entries) =
    ap (λ (xs : List Entry). Ok (xs ++ entries)) (sym (append-nil before))
front_more before n None (Err first) = refl
front_more before n (Some entry) (Ok entries) =
    ap (λ (xs : List Entry). Ok xs) (sym (append_assoc before (entry ∷ []) entries))
front_more before n (Some entry) (Err first) = refl

-- one line more
pub judged_next : (order : Order) (before after : List Entry) (n : ℕ) (line : List ℕ)
    (lines more : List (List ℕ)) (entry : Option Entry) (whole : Result (List Entry) FirstBad)
    → lines ≡ line ∷ more
    → judged order n line ≡ Ok entry
    → after ≡ before ++ items_of entry
    → whole ≡ in_front before (entries_from order n lines)
    → whole ≡ in_front after (entries_from order (n + 1) more)
judged_next order before after n line lines more entry whole cut said added same =
    same ∙ rw (cut, said, added) (front_more before n entry (entries_from order (n + 1) more))

-- one that is bad
pub judged_bad : (order : Order) (before : List Entry) (n : ℕ) (line : List ℕ)
    (lines more : List (List ℕ)) (why : LineBad) (whole : Result (List Entry) FirstBad)
    → lines ≡ line ∷ more
    → judged order n line ≡ Err why
    → whole ≡ in_front before (entries_from order n lines)
    → whole ≡ Err (record { line = n; why = why })
judged_bad order before n line lines more why whole cut said same = same ∙ rw (cut, said) refl

-- all of them
pub judged_all : (order : Order) (before : List Entry) (n : ℕ) (text : List ℕ)
    (whole : Result (List Entry) FirstBad)
    → text ≡ []
    → whole ≡ in_front before (entries_from order n (lines_of text))
    → whole ≡ Ok before
judged_all order before n text whole none same =
    same ∙ rw (none, lines_none) (ap (λ (xs : List Entry). Ok xs) (append-nil before))

pub sent_more : (before after : List Entry) (entry : Option Entry)
    → after ≡ before ++ items_of entry
    → All CanEntry before
    → IsSendable entry
    → All CanEntry after
sent_more before after None added all can =
    rw (added, append-nil before) all
sent_more before after (Some entry) added all can =
    rw added (All-push CanEntry before entry all can)

-- ---- the loop

pub was_pushed : {A E : Type 0} (P : Type 0) (r : Result A E)
    → OnOk r P
    → is_err r ≡ false
    → P
was_pushed P (Ok x) p e = p
was_pushed P (Err x) p e = absurd cc

pub none_left : (text : List ℕ) → true ≡ (length text == 0) → text ≡ []
none_left [] e = refl
none_left (byte ∷ text) e =
    let none : length (byte ∷ text) ≡ 0 = eqb-true (length (byte ∷ text)) 0 (sym e) in
    absurd (omega (arith, none))
