-- The request of a line.
use Rattle.std.proofs.Common.{
  ◌≡◌,
  ℕ,
  Bool,
  false,
  true,
  List,
  [],
  ◌∷◌,
  ◌++◌,
  Option,
  Some,
  None,
  Result,
  Ok,
  Err,
  refl,
  sym,
  ap,
  subst,
  ◌∙◌,
  append_assoc,
  append-nil,
}
use Rattle.std.specs.Prelude.{◌==◌, ◌&&◌, ◌+◌, position, take, drop}
use Rattle.std.specs.Str.{is_utf8, IsUtf8}
use Rattle.std.proofs.lemmas.Bool.{false_from_ne_true}
use Rattle.std.proofs.lemmas.Str.{IsUtf8-from_is_utf8, is_utf8-from_IsUtf8}
use Rattle.line_model.specs.Lines.{space, fields}
use Rattle.trace_text.proofs.FieldCuts.{one_field, first_field}
use Rattle.message_model.specs.Message.{Opt}
use Rattle.rd_base.specs.declared.peers.Host.{Host}
use Rattle.client_model.specs.declared.asks.Ask.{Ask}
use Rattle.client_model.specs.Asks.{registration}
use Rattle.install_list.specs.declared.lines.LineBad.{LineBad}
use Rattle.install_list.specs.declared.lines.LineBad.TheVariants as bad
use Rattle.install_list.specs.declared.lines.LineFault.{LineFault}
use Rattle.install_list.specs.declared.lines.LineFault.TheVariants as unread
use Rattle.client_model.specs.declared.outcomes.Location.{Location}
use Rattle.install_list.specs.Lists.{
  IsJudged,
  asked_at,
  reached_by,
  made,
  last_of,
  last_word,
  path_of,
  is_segment,
  are_texts,
  located,
  IsSegment,
  IsPushed,
  IsPath,
}

-- ---- a URI

utf8_other : (uri : List ℕ) → (IsUtf8 uri → ⊥) → is_utf8 uri ≡ false
utf8_other uri never = false_from_ne_true (is_utf8 uri) (λ t. never (IsUtf8-from_is_utf8 uri t))

pub segment_other : (octets : List ℕ) → (IsUtf8 octets → ⊥) → is_utf8 octets ≡ false
segment_other octets never = utf8_other octets never

pub segment_text : (octets : List ℕ) → IsUtf8 octets → is_utf8 octets ≡ true
segment_text octets utf8 = is_utf8-from_IsUtf8 octets utf8

pub text_other : (from : Option Host) (uri links : List ℕ)
    → (IsUtf8 uri → ⊥)
    → asked_at from uri links ≡ Err bad.Ask
unfolding asked_at
text_other from uri links never = rw (utf8_other uri never) refl

asked_text : (from : Option Host) (uri links : List ℕ)
    → IsUtf8 uri
    → asked_at from uri links ≡ reached_by from (made (registration uri links))
unfolding asked_at
asked_text from uri links utf8 = rw (is_utf8-from_IsUtf8 uri utf8) refl

-- a request was built of it
pub text_asked : (from : Option Host) (uri text links : List ℕ) (ask : Ask)
    (r : Result Ask LineFault)
    → text ≡ uri
    → IsUtf8 uri
    → registration text links ≡ Ok ask
    → IsJudged r (reached_by from (Ok ask))
    → IsJudged r (asked_at from uri links)
text_asked from uri text links ask r same utf8 asked judged =
    subst (λ (x : Result Ask LineBad). IsJudged r x)
    (sym (asked_text from uri links utf8
    ∙ ap (λ x. reached_by from (made x))
    (ap (λ (t : List ℕ). registration t links) (sym same) ∙ asked)))
    judged

-- ---- words

-- a text has a first field
fields_first : (text : List ℕ)
    → (x : List ℕ) × (xs : List (List ℕ)) × (fields text ≡ x ∷ xs)
fields_first text = by (position (λ b. b == space) text) refl
  where
    by : (p : Option ℕ)
        → p ≡ position (λ b. b == space) text
        → (x : List ℕ) × (xs : List (List ℕ)) × (fields text ≡ x ∷ xs)
    by None e = (text, [], one_field text e)
    by (Some at) e = (_, _, first_field text at e)

last_behind : (x : List ℕ) (xs : List (List ℕ)) (y : List ℕ) (ys : List (List ℕ))
    → xs ≡ y ∷ ys
    → last_of (x ∷ xs) ≡ last_of xs
last_behind x xs y ys e = rw e refl

-- one text less
pub word_next : (text : List ℕ) (at : ℕ)
    → Some at ≡ position (λ b. b == space) text
    → last_word text ≡ last_word (drop (at + 1) text)
word_next text at e =
    let more = fields_first (drop (at + 1) text) in
    ap last_of (first_field text at e)
    ∙ last_behind (take at text) (fields (drop (at + 1) text)) more.0 more.1 more.2

-- the last
pub word_last : (text : List ℕ)
    → None ≡ position (λ b. b == space) text
    → last_word text ≡ text
word_last text e = ap last_of (one_field text e)

-- ---- paths

all_more : (b : Bool) (x : List ℕ) (xs ys : List (List ℕ))
    → is_utf8 x ≡ b
    → are_texts (xs ++ ys) ≡ (are_texts xs && are_texts ys)
    → are_texts ((x ∷ xs) ++ ys) ≡ (are_texts (x ∷ xs) && are_texts ys)
all_more true x xs ys e more = rw e more
all_more false x xs ys e more = rw e refl

all_both : (xs ys : List (List ℕ)) → are_texts (xs ++ ys) ≡ (are_texts xs && are_texts ys)
all_both [] ys = refl
all_both (x ∷ xs) ys = all_more (is_utf8 x) x xs ys refl (all_both xs ys)

-- a segment that was copied was appended, or why it was not
pub pushed_one : (A : Type 0) (x : A) (segment octets : List ℕ) (before after : List (List ℕ))
    → IsSegment (Ok segment) octets
    → after ≡ before ++ segment ∷ []
    → IsPushed {A = A} (Ok x) (octets ∷ []) before after
pushed_one A x segment octets before after is added = (
  added ∙ ap (λ (s : List ℕ). before ++ s ∷ []) is.0,
  rw is.1 refl,
)

pub pushed_none : (A : Type 0) (f : LineFault) (octets : List ℕ) (before after : List (List ℕ))
    → IsSegment (Err f) octets
    → IsPushed {A = A} (Err f) (octets ∷ []) before after
pushed_none A (unread.Bad bad.Ask) octets before after is = rw is refl
pushed_none A (unread.Bad bad.Many) octets before after is = absurd is
pushed_none A (unread.Bad bad.Form) octets before after is = absurd is
pushed_none A (unread.Bad bad.Zone) octets before after is = absurd is
pushed_none A (unread.Bad bad.Family) octets before after is = absurd is
pushed_none A (unread.Bad bad.Base) octets before after is = absurd is
pushed_none A unread.Starved octets before after is = tt

path_here : (option : Opt) (more : List Opt)
    → is_segment option ≡ true
    → path_of (option ∷ more) ≡ option.1 ∷ path_of more
path_here option more e = rw e refl

path_past : (option : Opt) (more : List Opt)
    → is_segment option ≡ false
    → path_of (option ∷ more) ≡ path_of more
path_past option more e = rw e refl

-- an option that is not a segment
pub option_past : (A : Type 0) (x : A) (option : Opt) (path : List (List ℕ))
    → is_segment option ≡ false
    → IsPushed {A = A} (Ok x) (path_of (option ∷ [])) path path
option_past A x option path e =
    let none = path_past option [] e in (
      sym (append-nil path) ∙ ap (λ (l : List (List ℕ)). path ++ l) (sym none),
      ap are_texts none,
    )

-- one that is
pub option_here : {A : Type 0} (r : Result A LineFault) (option : Opt)
    (before after : List (List ℕ))
    → is_segment option ≡ true
    → IsPushed r (option.1 ∷ []) before after
    → IsPushed r (path_of (option ∷ [])) before after
option_here r option before after e h =
    subst (λ (l : List (List ℕ)). IsPushed r l before after) (sym (path_here option [] e)) h

path_parts : (option : Opt) (more : List Opt)
    → path_of (option ∷ more) ≡ path_of (option ∷ []) ++ path_of more
path_parts option more = by (is_segment option) refl
  where
    by : (b : Bool)
        → is_segment option ≡ b
        → path_of (option ∷ more) ≡ path_of (option ∷ []) ++ path_of more
    by true e =
        path_here option more e
        ∙ ap (λ (l : List (List ℕ)). l ++ path_of more) (sym (path_here option [] e))
    by false e =
        path_past option more e
        ∙ ap (λ (l : List (List ℕ)). l ++ path_of more) (sym (path_past option [] e))

path_cut : (whole path : List (List ℕ)) (left more : List Opt) (option : Opt)
    → whole ≡ path ++ path_of left
    → left ≡ option ∷ more
    → whole ≡ (path ++ path_of (option ∷ [])) ++ path_of more
path_cut whole path left more option same cut =
    same
    ∙ ap (λ (l : List (List ℕ)). path ++ l) (ap path_of cut ∙ path_parts option more)
    ∙ sym (append_assoc path (path_of (option ∷ [])) (path_of more))

-- one option more
pub path_next : (whole path after : List (List ℕ)) (left more : List Opt) (option : Opt)
    → whole ≡ path ++ path_of left
    → left ≡ option ∷ more
    → after ≡ path ++ path_of (option ∷ [])
    → whole ≡ after ++ path_of more
path_next whole path after left more option same cut added =
    path_cut whole path left more option same cut
    ∙ ap (λ (l : List (List ℕ)). l ++ path_of more) (sym added)

pub texts_next : (path after texts : List (List ℕ))
    → are_texts path ≡ true
    → after ≡ path ++ texts
    → are_texts texts ≡ true
    → are_texts after ≡ true
texts_next path after texts first added is =
    ap are_texts added ∙ all_both path texts ∙ rw (first, is) refl

-- one that is not UTF-8, or was not copied
pub path_fault : (f : LineFault) (options left more : List Opt) (path after : List (List ℕ))
    (option : Opt) (A : Type 0)
    → path_of options ≡ path ++ path_of left
    → are_texts path ≡ true
    → left ≡ option ∷ more
    → IsPushed {A = A} (Err f) (path_of (option ∷ [])) path after
    → IsPath (Err f) options
path_fault (unread.Bad bad.Ask) options left more path after option A same texts cut is =
    ap are_texts (path_cut (path_of options) path left more option same cut)
    ∙ all_both (path ++ path_of (option ∷ [])) (path_of more)
    ∙ rw (all_both path (path_of (option ∷ [])), texts, is) refl
path_fault (unread.Bad bad.Many) options left more path after option A same texts cut is = absurd is
path_fault (unread.Bad bad.Form) options left more path after option A same texts cut is = absurd is
path_fault (unread.Bad bad.Zone) options left more path after option A same texts cut is = absurd is
path_fault (unread.Bad bad.Family) options left more path after option A same texts cut is =
    absurd is
path_fault (unread.Bad bad.Base) options left more path after option A same texts cut is = absurd is
path_fault unread.Starved options left more path after option A same texts cut is = tt

-- all of them
pub path_all : (options left : List Opt) (path : List (List ℕ))
    → path_of options ≡ path ++ path_of left
    → left ≡ []
    → path ≡ path_of options
path_all options left path same none =
    sym (same ∙ ap (λ (l : List Opt). path ++ path_of l) none ∙ append-nil path)

pub texts_all : (options : List Opt) (path : List (List ℕ))
    → path ≡ path_of options
    → are_texts path ≡ true
    → are_texts (path_of options) ≡ true
texts_all options path same texts = ap are_texts (sym same) ∙ texts

-- ---- locations

pub at_fault : (f : LineFault) (ask : Ask)
    → IsPath (Err f) ask.options
    → IsJudged {A = Location} (Err f) (located ask)
unfolding located
at_fault (unread.Bad bad.Ask) ask is = rw is refl
at_fault (unread.Bad bad.Many) ask is = absurd is
at_fault (unread.Bad bad.Form) ask is = absurd is
at_fault (unread.Bad bad.Zone) ask is = absurd is
at_fault (unread.Bad bad.Family) ask is = absurd is
at_fault (unread.Bad bad.Base) ask is = absurd is
at_fault unread.Starved ask is = tt
