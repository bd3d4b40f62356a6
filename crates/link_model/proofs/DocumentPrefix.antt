-- `good_prefix` is the length of the longest prefix that begins some document.
use Rattle.std.proofs.Common.{
  ◌≡◌,
  ℕ,
  zero,
  suc,
  ◌<◌,
  ◌≤◌,
  min,
  Bool,
  true,
  false,
  cond,
  ◌&&◌,
  List,
  [],
  ◌∷◌,
  ◌++◌,
  take,
  length,
  Option,
  Some,
  None,
  is_some,
  option_map,
  option_and_then,
  refl,
  sym,
  ap,
  ◌∙◌,
  subst,
  ◌⊎◌,
  inl,
  inr,
  arith,
  codes,
}
use Rattle.std.specs.Prelude.{◌==◌, if◌then◌else◌, ⊤}
use Rattle.std.specs.List.{list_all}
use Rattle.std.specs.Int.{is_in_range}
use Rattle.std.proofs.lemmas.Bool.{and_parts, false≢true, cases_lt}
use Rattle.std.specs.Str.{IsUtf8}
use Rattle.std.proofs.lemmas.Str.{is_utf8-from_IsUtf8}
use Rattle.std.proofs.lemmas.Bool.Decides.{nat_tests}
use Rattle.link_model.specs.Characters.{quote_mark, is_attribute_name_character, is_token_character}
use Rattle.link_model.specs.Utf8Prefix.{
  OctetRange,
  tail,
  tails_of,
  one_more,
  utf8_prefix_after,
  utf8_prefix,
}
use Rattle.link_model.specs.Documents.{Link, IsDocument, BeginsDocument, IsGoodPrefix}
use Rattle.link_model.specs.DocumentReading.{
  Point,
  at_beginning,
  at_link,
  at_target,
  after_part,
  at_name,
  within_name,
  after_name,
  at_value,
  in_token,
  in_quotes,
  after_backslash,
  point_after,
  with_octet,
  links_at_end,
  links_from,
  document,
  prefix_from,
  good_prefix,
}
use Rattle.rd_base.proofs.lemmas.Options.{some_same, none_some}
use Rattle.link_model.proofs.DocumentLaws.{document_found, document_only}
use Rattle.link_model.proofs.Utf8Reading.{passes, is_utf8_after, is_utf8_after-IsUtf8}
use Rattle.link_model.proofs.Utf8Found.{IsUtf8-is_utf8_after}

-- ---- no longer prefix

utf8_longest : (ranges : List OctetRange) (bs : List ℕ) (m : ℕ) (more : List ℕ)
    → utf8_prefix_after ranges bs < m
    → m ≤ length bs
    → is_utf8_after ranges (take m bs ++ more) ≡ false
unfolding utf8_prefix_after
utf8_longest [] [] m more h k = absurd (omega arith)
utf8_longest (r ∷ ranges) [] m more h k = absurd (omega arith)
utf8_longest [] (b ∷ bs) zero more h k = absurd (omega arith)
utf8_longest [] (b ∷ bs) (suc m) more h k =
    by_tails (tails_of b) h (λ ranges e. utf8_longest ranges bs m more e (omega arith))
  where
    by_tails : (o : Option (List OctetRange))
        → one_more o (λ ranges. utf8_prefix_after ranges bs) < suc m
        → ((ranges : List OctetRange)
        → utf8_prefix_after ranges bs < m
        → is_utf8_after ranges (take m bs ++ more) ≡ false)
        → passes (λ ranges. is_utf8_after ranges (take m bs ++ more)) o ≡ false
    by_tails None e f = refl
    by_tails (Some ranges) e f = f ranges (omega arith)
utf8_longest (r ∷ ranges) (b ∷ bs) zero more h k = absurd (omega arith)
utf8_longest (r ∷ ranges) (b ∷ bs) (suc m) more h k =
    by_range (is_in_range (r.0) (r.1) b) h (λ e. utf8_longest ranges bs m more e (omega arith))
  where
    by_range : (t : Bool)
        → cond t (suc (utf8_prefix_after ranges bs)) 0 < suc m
        → (utf8_prefix_after ranges bs < m → is_utf8_after ranges (take m bs ++ more) ≡ false)
        → (t && is_utf8_after ranges (take m bs ++ more)) ≡ false
    by_range true e f = f (omega arith)
    by_range false e f = refl

links_longest : (point : Point) (bs : List ℕ) (m : ℕ) (more : List ℕ)
    → prefix_from point bs < m
    → m ≤ length bs
    → links_from point (take m bs ++ more) ≡ None
unfolding prefix_from links_from
links_longest point [] m more h k = absurd (omega arith)
links_longest point (b ∷ bs) zero more h k = absurd (omega arith)
links_longest point (b ∷ bs) (suc m) more h k =
    by_point (point_after point b) h (λ next e. links_longest next bs m more e (omega arith))
  where
    by_point : (o : Option Point)
        → one_more o (λ next. prefix_from next bs) < suc m
        → ((next : Point) → prefix_from next bs < m → links_from next (take m bs ++ more) ≡ None)
        → option_and_then
        (λ next. option_map (with_octet point b) (links_from next (take m bs ++ more))) o
        ≡ None
    by_point None e f = refl
    by_point (Some next) e f = ap (option_map (with_octet point b)) (f next (omega arith))

-- ---- what begins a document

-- octets that go on with a character
abbrev is_tail_range : OctetRange → Bool
is_tail_range r = is_in_range 0x80 (r.1) (r.0)

good_if : (t : Bool) (first ranges : List OctetRange) (o : Option (List OctetRange))
    → list_all is_tail_range first ≡ true
    → (o ≡ Some ranges → list_all is_tail_range ranges ≡ true)
    → (if t then Some first else o) ≡ Some ranges
    → list_all is_tail_range ranges ≡ true
good_if true first ranges o g f h =
    subst (λ (x : List OctetRange). list_all is_tail_range x ≡ true) (some_same h) g
good_if false first ranges o g f h = f h

tails_good : (b : ℕ) (ranges : List OctetRange)
    → tails_of b ≡ Some ranges
    → list_all is_tail_range ranges ≡ true
unfolding tails_of
tails_good b ranges =
    good_if (is_in_range 0x00 0x7F b) [] ranges _ refl
    (good_if (is_in_range 0xC2 0xDF b) (tail ∷ []) ranges _ refl
    (good_if (b == 0xE0) ((0xA0, 0xBF) ∷ tail ∷ []) ranges _ refl
    (good_if (b == 0xED) ((0x80, 0x9F) ∷ tail ∷ []) ranges _ refl
    (good_if (is_in_range 0xE1 0xEF b) (tail ∷ tail ∷ []) ranges _ refl
    (good_if (b == 0xF0) ((0x90, 0xBF) ∷ tail ∷ tail ∷ []) ranges _ refl
    (good_if (is_in_range 0xF1 0xF3 b) (tail ∷ tail ∷ tail ∷ []) ranges _ refl
    (good_if (b == 0xF4) ((0x80, 0x8F) ∷ tail ∷ tail ∷ []) ranges None refl
    (λ h. absurd (none_some h)))))))))

tails_high : (b : ℕ) (r : OctetRange) (ranges : List OctetRange)
    → tails_of b ≡ Some (r ∷ ranges)
    → 128 ≤ b
unfolding tails_of
tails_high b r ranges h = grind (arith, nat_tests)

not_name : (b : ℕ) → 128 ≤ b → is_attribute_name_character b ≡ false
not_name b h = grind (arith, nat_tests)

not_token : (b : ℕ) → 128 ≤ b → is_token_character b ≡ false
not_token b h = grind (arith, nat_tests)

-- an octet past ASCII stands in quotes alone
high_in_quotes : (point next : Point) (b : ℕ)
    → 128 ≤ b
    → point_after point b ≡ Some next
    → next ≡ in_quotes
unfolding point_after
high_in_quotes at_beginning next b h e = grind (arith, nat_tests)
high_in_quotes at_link next b h e = grind (arith, nat_tests)
high_in_quotes at_target next b h e = grind (arith, nat_tests)
high_in_quotes after_part next b h e = grind (arith, nat_tests)
high_in_quotes at_name next b h e = absurd (none_some (rw (not_name b h) at e))
high_in_quotes within_name next b h e = let f = not_name b h in grind (arith, nat_tests)
high_in_quotes after_name next b h e = grind (arith, nat_tests)
high_in_quotes at_value next b h e = let f = not_token b h in grind (arith, nat_tests)
high_in_quotes in_token next b h e = let f = not_token b h in grind (arith, nat_tests)
high_in_quotes in_quotes next b h e = grind (arith, nat_tests)
high_in_quotes after_backslash next b h e = grind (arith, nat_tests)

-- ---- an ending for what begins

-- the octets that end a document at a point
ending : Point → List ℕ
ending at_beginning = []
ending at_link = codes "<>"
ending at_target = codes ">"
ending after_part = []
ending at_name = codes "x"
ending within_name = []
ending after_name = []
ending at_value = codes "x"
ending in_token = []
ending in_quotes = codes "\""
ending after_backslash = codes "x\""

-- the octets may stand after the point, and text ends with them
abbrev Ending : List OctetRange → Point → List ℕ → Type 0
Ending ranges point bytes =
    (is_utf8_after ranges bytes ≡ true) × (is_some (links_from point bytes) ≡ true)

ends : (point : Point) → Ending [] point (ending point)
unfolding tails_of links_from point_after with_octet links_at_end ending
ends at_beginning = (refl, refl)
ends at_link = (refl, refl)
ends at_target = (refl, refl)
ends after_part = (refl, refl)
ends at_name = (refl, refl)
ends within_name = (refl, refl)
ends after_name = (refl, refl)
ends at_value = (refl, refl)
ends in_token = (refl, refl)
ends in_quotes = (refl, refl)
ends after_backslash = (refl, refl)

-- the least octets of the ranges, and a closing quote
least : List OctetRange → List ℕ
least [] = quote_mark ∷ []
least (r ∷ ranges) = r.0 ∷ least ranges

stays_in_quotes : (c : ℕ) → 128 ≤ c → point_after in_quotes c ≡ Some in_quotes
unfolding point_after
stays_in_quotes c h = grind (arith, nat_tests)

read_on : (point next : Point) (c : ℕ) (cs : List ℕ)
    → point_after point c ≡ Some next
    → is_some (links_from next cs) ≡ true
    → is_some (links_from point (c ∷ cs)) ≡ true
unfolding links_from
read_on point next c cs e h = rw e (by_rest (links_from next cs) h)
  where
    by_rest : (o : Option (List Link))
        → is_some o ≡ true
        → is_some (option_map (with_octet point c) o) ≡ true
    by_rest None k = k
    by_rest (Some links) k = refl

least_within : (r : OctetRange)
    → is_tail_range r ≡ true
    → (is_in_range (r.0) (r.1) (r.0) ≡ true) × (128 ≤ r.0)
least_within r h = grind (arith, nat_tests)

closes : (ranges : List OctetRange)
    → list_all is_tail_range ranges ≡ true
    → Ending ranges in_quotes (least ranges)
unfolding least ending
closes [] h = ends in_quotes
closes (r ∷ ranges) h =
    let parts = and_parts (is_tail_range r) (list_all is_tail_range ranges) h in
    let first = least_within r (parts.0) in
    let rest = closes ranges (parts.1) in (
      rw (first.0) (rest.0),
      read_on in_quotes in_quotes (r.0) (least ranges)
          (stays_in_quotes (r.0) (first.1)) (rest.1),
    )

-- octets must come first in quotes alone
Pending : List OctetRange → Point → Type 0
Pending [] point = ⊤
Pending (r ∷ ranges) point = (point ≡ in_quotes) × (list_all is_tail_range (r ∷ ranges) ≡ true)

pending_after : (point next : Point) (b : ℕ) (ranges : List OctetRange)
    → tails_of b ≡ Some ranges
    → point_after point b ≡ Some next
    → Pending ranges next
unfolding Pending
pending_after point next b [] e f = tt
pending_after point next b (r ∷ ranges) e f =
    (high_in_quotes point next b (tails_high b r ranges e) f, tails_good b (r ∷ ranges) e)

tail_high : (r : OctetRange) (b : ℕ)
    → is_tail_range r ≡ true
    → is_in_range (r.0) (r.1) b ≡ true
    → 128 ≤ b
tail_high r b h k = grind (arith, nat_tests)

abbrev SomeEnding : List OctetRange → Point → List ℕ → Type 0
SomeEnding ranges point bytes = (more : List ℕ) × Ending ranges point (bytes ++ more)

ending_now : (ranges : List OctetRange) (point : Point)
    → Pending ranges point
    → SomeEnding ranges point []
unfolding Pending
ending_now [] point h = (ending point, ends point)
ending_now (r ∷ ranges) point h = (
  least (r ∷ ranges),
  subst (λ (p : Point). Ending (r ∷ ranges) p (least (r ∷ ranges)))
      (sym (h.0)) (closes (r ∷ ranges) (h.1)),
)

first_of_character : (b : ℕ) (rest : List ℕ) (ranges : List OctetRange) (point next : Point)
    → tails_of b ≡ Some ranges
    → point_after point b ≡ Some next
    → SomeEnding ranges next rest
    → SomeEnding [] point (b ∷ rest)
first_of_character b rest ranges point next e f g =
    (g.0, (rw e (g.1.0), read_on point next b (rest ++ g.0) f (g.1.1)))

further_of_character : (b : ℕ) (rest : List ℕ) (r : OctetRange) (ranges : List OctetRange)
    → is_in_range (r.0) (r.1) b ≡ true
    → 128 ≤ b
    → SomeEnding ranges in_quotes rest
    → SomeEnding (r ∷ ranges) in_quotes (b ∷ rest)
further_of_character b rest r ranges e l g =
    (g.0, (rw e (g.1.0), read_on in_quotes in_quotes b (rest ++ g.0) (stays_in_quotes b l) (g.1.1)))

pending_rest : (r : OctetRange) (ranges : List OctetRange)
    → list_all is_tail_range (r ∷ ranges) ≡ true
    → Pending ranges in_quotes
unfolding Pending
pending_rest r [] h = tt
pending_rest r (s ∷ ranges) h =
    (refl, (and_parts (is_tail_range r) (list_all is_tail_range (s ∷ ranges)) h).1)

begins : (bs : List ℕ) (ranges : List OctetRange) (point : Point) (n : ℕ)
    → n ≤ utf8_prefix_after ranges bs
    → n ≤ prefix_from point bs
    → Pending ranges point
    → SomeEnding ranges point (take n bs)
unfolding utf8_prefix_after prefix_from Pending
begins bs ranges point zero h k p = ending_now ranges point p
begins [] ranges point (suc n) h k p = absurd (omega arith)
begins (b ∷ bs) [] point (suc n) h k p =
    by_next (tails_of b) refl h (point_after point b) refl k
    (λ ranges next. begins bs ranges next n)
  where
    by_next : (o : Option (List OctetRange))
        → tails_of b ≡ o
        → suc n ≤ one_more o (λ ranges. utf8_prefix_after ranges bs)
        → (q : Option Point)
        → point_after point b ≡ q
        → suc n ≤ one_more q (λ next. prefix_from next bs)
        → ((ranges : List OctetRange) (next : Point)
        → n ≤ utf8_prefix_after ranges bs
        → n ≤ prefix_from next bs
        → Pending ranges next
        → SomeEnding ranges next (take n bs))
        → SomeEnding [] point (b ∷ take n bs)
    by_next None e x q f y again = absurd (omega arith)
    by_next (Some ranges) e x None f y again = absurd (omega arith)
    by_next (Some ranges) e x (Some next) f y again =
        first_of_character b (take n bs) ranges point next e f
        (again ranges next (omega arith) (omega arith) (pending_after point next b ranges e f))
begins (b ∷ bs) (r ∷ ranges) point (suc n) h k p =
    subst (λ (q : Point). SomeEnding (r ∷ ranges) q (b ∷ take n bs)) (sym (p.0))
    (by_range (is_in_range (r.0) (r.1) b) refl h (λ x. begins bs ranges in_quotes n x))
  where
    in_point : suc n ≤ prefix_from in_quotes (b ∷ bs)
    in_point = subst (λ (q : Point). suc n ≤ prefix_from q (b ∷ bs)) (p.0) k

    by_range : (t : Bool)
        → is_in_range (r.0) (r.1) b ≡ t
        → suc n ≤ cond t (suc (utf8_prefix_after ranges bs)) 0
        → (n ≤ utf8_prefix_after ranges bs
        → n ≤ prefix_from in_quotes bs
        → Pending ranges in_quotes
        → SomeEnding ranges in_quotes (take n bs))
        → SomeEnding (r ∷ ranges) in_quotes (b ∷ take n bs)
    by_range false e x again = absurd (omega arith)
    by_range true e x again =
        let high : 128 ≤ b =
        tail_high r b ((and_parts (is_tail_range r) (list_all is_tail_range ranges) (p.1)).0)
        e in
        let y : suc n ≤ one_more (point_after in_quotes b) (λ next. prefix_from next bs) =
        in_point in
        let z : suc n ≤ suc (prefix_from in_quotes bs) = rw (stays_in_quotes b high) at y in
        further_of_character b (take n bs) r ranges e high
        (again (omega arith) (omega arith) (pending_rest r ranges (p.1)))

-- ---- the longest prefix

utf8_prefix_within : (ranges : List OctetRange) (bs : List ℕ)
    → utf8_prefix_after ranges bs ≤ length bs
unfolding utf8_prefix_after
utf8_prefix_within [] [] = omega arith
utf8_prefix_within (r ∷ ranges) [] = omega arith
utf8_prefix_within [] (b ∷ bs) = by_tails (tails_of b) (λ ranges. utf8_prefix_within ranges bs)
  where
    by_tails : (o : Option (List OctetRange))
        → ((ranges : List OctetRange) → utf8_prefix_after ranges bs ≤ length bs)
        → one_more o (λ ranges. utf8_prefix_after ranges bs) ≤ suc (length bs)
    by_tails None f = omega arith
    by_tails (Some ranges) f = let x = f ranges in omega arith
utf8_prefix_within (r ∷ ranges) (b ∷ bs) =
    by_range (is_in_range (r.0) (r.1) b) (utf8_prefix_within ranges bs)
  where
    by_range : (t : Bool)
        → utf8_prefix_after ranges bs ≤ length bs
        → cond t (suc (utf8_prefix_after ranges bs)) 0 ≤ suc (length bs)
    by_range true x = omega arith
    by_range false x = omega arith

some_links : (o : Option (List Link)) → is_some o ≡ true → (links : List Link) × (o ≡ Some links)
some_links None h = absurd (false≢true h)
some_links (Some links) h = (links, refl)

read_links : (bytes : List ℕ) (links : List Link)
    → IsDocument bytes links
    → links_from at_beginning bytes ≡ Some links
unfolding document
read_links bytes links d = rw (is_utf8-from_IsUtf8 bytes d.utf8) at (document_only bytes links d)

begins_document : (bytes more : List ℕ)
    → Ending [] at_beginning (bytes ++ more)
    → BeginsDocument bytes
unfolding document
begins_document bytes more g =
    let text : IsUtf8 (bytes ++ more) = IsUtf8-is_utf8_after (bytes ++ more) (g.0) in
    let found = some_links (links_from at_beginning (bytes ++ more)) (g.1) in (
      more,
      found.0,
      document_found (bytes ++ more) (found.0)
          (rw (is_utf8-from_IsUtf8 (bytes ++ more) text) (found.1)),
    )

no_longer : (bytes : List ℕ) (m : ℕ)
    → min (utf8_prefix bytes) (prefix_from at_beginning bytes) < m
    → m ≤ length bytes
    → (more : List ℕ) (links : List Link)
    → IsDocument (take m bytes ++ more) links
    → ⊥
no_longer bytes m h k more links d = by_part (cases_lt (utf8_prefix bytes) m)
  where
    by_part : (utf8_prefix bytes < m) ⊎ (m ≤ utf8_prefix bytes) → ⊥
    by_part (inl x) =
        false≢true (sym (utf8_longest [] bytes m more x k)
        ∙ is_utf8_after-IsUtf8 (take m bytes ++ more) d.utf8)
    by_part (inr x) =
        let y : prefix_from at_beginning bytes < m = omega arith in
        none_some (sym (links_longest at_beginning bytes m more y k)
        ∙ read_links (take m bytes ++ more) links d)

-- the first octets that `good_prefix` counts begin some document, and more octets do not
-- An end theorem: nothing here cites it.
pub good_prefix-IsGoodPrefix : (bytes : List ℕ) → IsGoodPrefix bytes (good_prefix bytes)
unfolding good_prefix Pending
good_prefix-IsGoodPrefix bytes =
    let n : ℕ = min (utf8_prefix bytes) (prefix_from at_beginning bytes) in
    let here = begins bytes [] at_beginning n (omega arith) (omega arith) tt in
    let short : utf8_prefix bytes ≤ length bytes = utf8_prefix_within [] bytes in
    record {
      within = omega arith;
      begins = begins_document (take n bytes) (here.0) (here.1);
      longest = λ m h k d. no_longer bytes m h k (d.0) (d.1) (d.2);
    }
