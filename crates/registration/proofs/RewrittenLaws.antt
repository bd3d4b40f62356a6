-- A document of the lines of submitted links is read as these links: each line is a link of the
-- grammar with its first anchor in quotes, behind its attributes.
use Rattle.std.proofs.Common.{
  ◌≡◌,
  ℕ,
  Bool,
  true,
  false,
  not,
  ◌&&◌,
  ◌||◌,
  List,
  [],
  ◌∷◌,
  ◌++◌,
  map,
  filter,
  find,
  codes,
  Option,
  Some,
  None,
  option_map,
  if◌then◌else◌,
  refl,
  sym,
  ap,
  ap₂,
  ◌∙◌,
  append_assoc,
  append-nil,
  arith,
}
use Rattle.std.specs.Prelude.{IsUtf8, ◌==◌}
use Rattle.std.specs.List.{list_all, join_with_byte}
use Rattle.std.specs.Option.{option_or}
use Rattle.std.proofs.lemmas.Bool.{and_parts, eqb-true, false≢true}
use Rattle.std.proofs.lemmas.Bool.Decides.{nat_tests}
use Rattle.std.proofs.lemmas.Grind.{flat_map-append}
use Rattle.std.proofs.lemmas.List.Elements.{filter-append}
use Rattle.std.proofs.lemmas.List.Folds.{find-append, list_all-append}
use Rattle.rd_base.specs.declared.records.Item.{Item}
use Rattle.rd_base.specs.declared.submitted_links.SubmittedLink.{SubmittedLink}
use Rattle.rd_base.specs.LinkLines.{anchor_text, submitted_line, submitted}
use Rattle.rd_base.proofs.lemmas.Filters.{filter_stronger}
use Rattle.link_model.specs.Characters.{
  quote_mark,
  backslash,
  comma,
  is_empty,
  is_not_control,
  is_token_character,
  is_target_character,
}
use Rattle.link_model.specs.Documents.{
  Parameter,
  Link,
  parameter_text,
  parameters_text,
  link_text,
  document_text,
  closes_quotes,
  is_token,
  is_quoted_string,
  is_value,
  is_parameter_name,
  is_parameter,
  is_link,
}
use Rattle.link_model.specs.Quoting.{
  content_up_to_quote,
  kept_before,
  quoted,
  unquoted,
  value_of,
  is_anchor,
  anchor,
  attributes,
  submitted_link,
  submitted_links,
}
use Rattle.link_model.proofs.DocumentLaws.{document_only}
use Rattle.link_model.proofs.QuotingLaws.{unquoted-quoted, is_quoted_string-quoted}
use Rattle.registration.specs.Submissions.{submitted_of, all_submitted}

-- ---- the value of a parameter has no control character

token_so : (c : ℕ) → is_token_character c ≡ true → is_not_control c ≡ true
token_so c h = grind (arith, nat_tests)

tokens_so : (text : List ℕ)
    → list_all is_token_character text ≡ true
    → list_all is_not_control text ≡ true
tokens_so [] h = refl
tokens_so (c ∷ text) h =
    let parts = and_parts (is_token_character c) (list_all is_token_character text) h in
    rw (token_so c parts.0) (tokens_so text parts.1)

content_so : (escaped : Bool) (text : List ℕ)
    → closes_quotes escaped text ≡ true
    → list_all is_not_control (content_up_to_quote escaped text) ≡ true
content_so escaped [] h = refl
content_so true (c ∷ text) h =
    let parts = and_parts (is_not_control c) (closes_quotes false text) h in
    rw parts.0 (content_so false text parts.1)
content_so false (c ∷ text) h =
    by_quote (c == quote_mark) (λ k. content_so (c == backslash) text k) h
  where
    by_backslash : (b : Bool)
        → is_not_control c ≡ true
        → list_all is_not_control (content_up_to_quote (c == backslash) text) ≡ true
        → list_all is_not_control
        (if b then content_up_to_quote (c == backslash) text
        else c ∷ content_up_to_quote (c == backslash) text)
        ≡ true
    by_backslash true one more = more
    by_backslash false one more = rw one more

    by_quote : (q : Bool)
        → (closes_quotes (c == backslash) text ≡ true
        → list_all is_not_control (content_up_to_quote (c == backslash) text) ≡ true)
        → (if q then is_empty text
        else is_not_control c && closes_quotes (c == backslash) text) ≡ true
        → list_all is_not_control
        (if q then [] else kept_before c (content_up_to_quote (c == backslash) text))
        ≡ true
    by_quote true more k = refl
    by_quote false more k =
        let parts =
        and_parts (is_not_control c) (closes_quotes (c == backslash) text) k in
        by_backslash (c == backslash) parts.0 (more parts.1)

unquoted_so : (v : List ℕ)
    → is_token v || is_quoted_string v ≡ true
    → list_all is_not_control (unquoted v) ≡ true
unfolding unquoted
unquoted_so [] h = refl
unquoted_so (c ∷ v) h = by_quote (c == quote_mark) refl h
  where
    no_token : (c == quote_mark) ≡ true → is_token_character c ≡ false
    no_token e = rw (eqb-true c quote_mark e) refl

    by_quote : (q : Bool)
        → (c == quote_mark) ≡ q
        → (is_token_character c && list_all is_token_character v) || (q && closes_quotes false v)
        ≡ true
        → list_all is_not_control (if q then content_up_to_quote false v else c ∷ v) ≡ true
    by_quote true e k = content_so false v (rw (no_token e) at k)
    by_quote false e k =
        by_token (is_token_character c && list_all is_token_character v) refl k
      where
        by_token : (t : Bool)
            → (is_token_character c && list_all is_token_character v) ≡ t
            → t || false ≡ true
            → list_all is_not_control (c ∷ v) ≡ true
        by_token true f m = tokens_so (c ∷ v) f
        by_token false f m = absurd (false≢true m)

value_so : (p : Parameter) → is_parameter p ≡ true → list_all is_not_control (value_of p) ≡ true
value_so p h = by_value p.value ((and_parts (is_parameter_name p.name) (is_value p.value) h).1)
  where
    by_value : (v : Option (List ℕ))
        → is_value v ≡ true
        → list_all is_not_control (value_of (record { name = p.name; value = v })) ≡ true
    by_value None k = refl
    by_value (Some v) k = unquoted_so v k

-- ---- anchors

-- no octet of the text is a control character, where there is one
abbrev is_plain : Option (List ℕ) → Bool
is_plain None = true
is_plain (Some text) = list_all is_not_control text

plain_anchor : (ps : List Parameter)
    → list_all is_parameter ps ≡ true
    → is_plain (option_map value_of (find is_anchor ps)) ≡ true
plain_anchor [] h = refl
plain_anchor (p ∷ ps) h =
    let parts = and_parts (is_parameter p) (list_all is_parameter ps) h in
    by (is_anchor p) parts.0 (plain_anchor ps parts.1)
  where
    by : (t : Bool)
        → is_parameter p ≡ true
        → is_plain (option_map value_of (find is_anchor ps)) ≡ true
        → is_plain (option_map value_of (if t then Some p else find is_anchor ps)) ≡ true
    by true one more = value_so p one
    by false one more = more

-- an anchor as a parameter, in quotes
abbrev anchor_parameters : Option (List ℕ) → List Parameter
anchor_parameters None = []
anchor_parameters (Some text) = record { name = codes "anchor"; value = Some (quoted text) } ∷ []

-- a link with its attributes, and its first anchor in quotes behind them
abbrev rewritten : Link → Link
rewritten l = record {
  target = l.target;
  parameters = attributes l ++ anchor_parameters (anchor l);
}

-- ---- its text

parameters_text-anchor : (o : Option (List ℕ))
    → parameters_text (anchor_parameters o) ≡ anchor_text o
parameters_text-anchor None = refl
parameters_text-anchor (Some text) =
    append-nil (parameter_text (record { name = codes "anchor"; value = Some (quoted text) }))

in_brackets : (target rest : List ℕ)
    → 60 ∷ (target ++ 62 ∷ rest) ≡ (60 ∷ (target ++ 62 ∷ [])) ++ rest
in_brackets target rest = ap (λ (t : List ℕ). 60 ∷ t) (sym (append_assoc target (62 ∷ []) rest))

rewritten_line : (l : Link) (item : Item)
    → submitted_of item ≡ submitted_link l
    → link_text (rewritten l) ≡ submitted_line item
unfolding submitted_link submitted_line
rewritten_line l item same =
    let raw : item.raw ≡ parameters_text (attributes l) =
    ap (λ (s : SubmittedLink). s.raw) same in
    let target : item.target_ref ≡ l.target =
    ap (λ (s : SubmittedLink). s.target_ref) same in
    let anchored : item.anchor_ref ≡ anchor l =
    ap (λ (s : SubmittedLink). s.anchor_ref) same in
    rw (raw, target, anchored)
    (ap (λ (t : List ℕ). 60 ∷ (l.target ++ 62 ∷ t))
    (flat_map-append parameter_text (attributes l) (anchor_parameters (anchor l))
    ∙ ap (λ (t : List ℕ). parameters_text (attributes l) ++ t)
    (parameters_text-anchor (anchor l)))
    ∙ in_brackets l.target (parameters_text (attributes l) ++ anchor_text (anchor l)))

rewritten_lines : (links : List Link) (items : List Item)
    → all_submitted items ≡ map submitted_link links
    → map link_text (map rewritten links) ≡ map submitted_line items
rewritten_lines [] [] same = refl
rewritten_lines [] (item ∷ items) same = absurd cc
rewritten_lines (l ∷ links) [] same = absurd cc
rewritten_lines (l ∷ links) (item ∷ items) same =
    let one : submitted_of item ≡ submitted_link l = cc in
    let more : all_submitted items ≡ map submitted_link links = cc in
    ap₂ (λ (x : List ℕ) (xs : List (List ℕ)). x ∷ xs) (rewritten_line l item one)
    (rewritten_lines links items more)

-- ---- it is of the grammar

kept_all : {X : Type 0} (p keep : X → Bool) (xs : List X)
    → list_all p xs ≡ true
    → list_all p (filter keep xs) ≡ true
kept_all p keep [] h = refl
kept_all p keep (x ∷ xs) h =
    let parts = and_parts (p x) (list_all p xs) h in
    by (keep x) parts.0 (kept_all p keep xs parts.1)
  where
    by : (k : Bool)
        → p x ≡ true
        → list_all p (filter keep xs) ≡ true
        → list_all p (if k then x ∷ filter keep xs else filter keep xs) ≡ true
    by true one more = rw one more
    by false one more = more

or_true : (b : Bool) → (b || true) ≡ true
or_true true = refl
or_true false = refl

anchor_is_parameter : (o : Option (List ℕ))
    → is_plain o ≡ true
    → list_all is_parameter (anchor_parameters o) ≡ true
anchor_is_parameter None h = refl
anchor_is_parameter (Some text) h =
    rw (is_quoted_string-quoted text h, or_true (is_token (quoted text))) refl

rewritten_is_link : (l : Link) → is_link l ≡ true → is_link (rewritten l) ≡ true
rewritten_is_link l h =
    let parts =
    and_parts (list_all is_target_character l.target) (list_all is_parameter l.parameters) h in
    let kept = kept_all is_parameter (λ p. not (is_anchor p)) l.parameters parts.1 in
    let last = anchor_is_parameter (anchor l) (plain_anchor l.parameters parts.1) in
    rw (
      parts.0,
      list_all-append is_parameter (attributes l) (anchor_parameters (anchor l)),
      kept,
      last,
    ) refl

rewritten_are_links : (links : List Link)
    → list_all is_link links ≡ true
    → list_all is_link (map rewritten links) ≡ true
rewritten_are_links [] h = refl
rewritten_are_links (l ∷ links) h =
    let parts = and_parts (is_link l) (list_all is_link links) h in
    rw (rewritten_is_link l parts.0) (rewritten_are_links links parts.1)

-- ---- it says the same

no_anchors : (ps : List Parameter) → find is_anchor (filter (λ p. not (is_anchor p)) ps) ≡ None
no_anchors [] = refl
no_anchors (p ∷ ps) = by (is_anchor p) refl (no_anchors ps)
  where
    by : (t : Bool)
        → is_anchor p ≡ t
        → find is_anchor (filter (λ p. not (is_anchor p)) ps) ≡ None
        → find is_anchor
        (if not t then p ∷ filter (λ p. not (is_anchor p)) ps
        else filter (λ p. not (is_anchor p)) ps)
        ≡ None
    by true e more = more
    by false e more = rw e more

anchor_read : (o : Option (List ℕ))
    → option_map value_of (find is_anchor (anchor_parameters o)) ≡ o
anchor_read None = refl
anchor_read (Some text) = ap (λ (t : List ℕ). Some t) (unquoted-quoted text)

no_attributes : (o : Option (List ℕ))
    → filter (λ p. not (is_anchor p)) (anchor_parameters o) ≡ []
no_attributes None = refl
no_attributes (Some text) = refl

rewritten_anchor : (l : Link) → anchor (rewritten l) ≡ anchor l
rewritten_anchor l =
    ap (option_map value_of)
    (find-append is_anchor (attributes l) (anchor_parameters (anchor l))
    ∙ ap (λ (o : Option Parameter). option_or o (find is_anchor (anchor_parameters (anchor l))))
    (no_anchors l.parameters))
    ∙ anchor_read (anchor l)

rewritten_attributes : (l : Link) → attributes (rewritten l) ≡ attributes l
rewritten_attributes l =
    filter-append (λ p. not (is_anchor p)) (attributes l) (anchor_parameters (anchor l))
    ∙ ap₂ (λ (ps qs : List Parameter). ps ++ qs)
    (filter_stronger (λ p. not (is_anchor p)) (λ p. not (is_anchor p)) (λ p h. h) l.parameters)
    (no_attributes (anchor l))
    ∙ append-nil (attributes l)

rewritten_submitted : (l : Link) → submitted_link (rewritten l) ≡ submitted_link l
unfolding submitted_link
rewritten_submitted l = rw (rewritten_anchor l, rewritten_attributes l) refl

rewritten_all : (links : List Link)
    → map submitted_link (map rewritten links) ≡ map submitted_link links
rewritten_all [] = refl
rewritten_all (l ∷ links) =
    ap₂ (λ (x : SubmittedLink) (xs : List SubmittedLink). x ∷ xs) (rewritten_submitted l)
    (rewritten_all links)

-- ---- documents

-- the lines of submitted links are a document of them
pub source_reads : (links : List Link) (items : List Item)
    → list_all is_link links ≡ true
    → all_submitted items ≡ map submitted_link links
    → IsUtf8 (submitted items)
    → submitted_links (submitted items) ≡ Some (map submitted_link links)
unfolding submitted document_text submitted_links
source_reads links items each same utf8 =
    ap (option_map (map submitted_link)) (document_only (submitted items) (map rewritten links)
    (record {
      utf8 = utf8;
      spelled = ap (join_with_byte comma) (sym (rewritten_lines links items same));
      each = rewritten_are_links links each;
    }))
    ∙ ap (λ (ls : List SubmittedLink). Some ls) (rewritten_all links)
