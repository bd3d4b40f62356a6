-- A document has one list of links, and `document` finds it.
use Rattle.std.proofs.Common.{
  ◌≡◌,
  ℕ,
  Bool,
  true,
  false,
  List,
  [],
  ◌∷◌,
  ◌++◌,
  Some,
  option_map,
  option_and_then,
  refl,
  sym,
  ap,
  ◌∙◌,
  ◌⊎◌,
  inl,
  inr,
  append-nil,
}
use Rattle.std.specs.Str.{is_utf8}
use Rattle.std.specs.List.{list_all}
use Rattle.std.proofs.lemmas.Str.{IsUtf8-from_is_utf8, is_utf8-from_IsUtf8}
use Rattle.link_model.specs.Characters.{comma}
use Rattle.link_model.specs.Documents.{Link, link_text, document_text, is_link, IsDocument}
use Rattle.link_model.specs.DocumentReading.{
  Point,
  at_beginning,
  point_after,
  with_octet,
  links_at_end,
  links_from,
  document,
}
use Rattle.rd_base.proofs.lemmas.Options.{some_same, none_some}
use Rattle.link_model.proofs.DocumentPoints.{links_text, text_at, fits_at}
use Rattle.link_model.proofs.DocumentSteps.{each_step}
use Rattle.link_model.proofs.DocumentFound.{links_from_found}
use Rattle.link_model.proofs.DocumentGoes.{Ends, Goes, ends_or_goes}

cons_nil : {x : ℕ} {xs : List ℕ} → x ∷ xs ≡ [] → ⊥
cons_nil h = cc

-- what may be left at a point is read from the text that it leaves
pub links_from_only : (bytes : List ℕ) (point : Point) (links : List Link)
    → fits_at point links ≡ true
    → text_at point links ≡ bytes
    → links_from point bytes ≡ Some links
unfolding links_from
links_from_only [] point links h e = by_kind (ends_or_goes point links h)
  where
    by_kind : Ends point links ⊎ Goes point links → links_at_end point ≡ Some links
    by_kind (inl ends) = ends.1
    by_kind (inr goes) =
        absurd (cons_nil ((each_step point goes.octet goes.next goes.follows goes.rest goes.fits).0
        ∙ ap (text_at point) goes.made
        ∙ e))
links_from_only (c ∷ cs) point links h e =
    by_kind (λ next rest f k. links_from_only cs next rest f k) (ends_or_goes point links h)
  where
    by_kind : ((next : Point) (rest : List Link)
        → fits_at next rest ≡ true
        → text_at next rest ≡ cs
        → links_from next cs ≡ Some rest)
        → Ends point links ⊎ Goes point links
        → option_and_then (λ next. option_map (with_octet point c) (links_from next cs))
        (point_after point c)
        ≡ Some links
    by_kind again (inl ends) = absurd (cons_nil (sym (sym (ends.0) ∙ e)))
    by_kind again (inr goes) =
        let whole : goes.octet ∷ text_at goes.next goes.rest ≡ c ∷ cs =
        (each_step point goes.octet goes.next goes.follows goes.rest goes.fits).0
        ∙ ap (text_at point) goes.made
        ∙ e in
        let same : goes.octet ≡ c = cc in
        let rest : text_at goes.next goes.rest ≡ cs = cc in
        let follows : point_after point c ≡ Some goes.next =
        ap (point_after point) (sym same) ∙ goes.follows in
        let made : with_octet point c goes.rest ≡ links =
        ap (λ (d : ℕ). with_octet point d goes.rest) (sym same) ∙ goes.made in
        rw (follows, again goes.next goes.rest goes.fits rest, made) refl

-- ---- whole documents

document_text-links : (links : List Link) → document_text links ≡ links_text links
unfolding document_text
document_text-links [] = refl
document_text-links (l ∷ []) = sym (append-nil (link_text l))
document_text-links (l ∷ m ∷ links) =
    ap (λ (x : List ℕ). link_text l ++ comma ∷ x) (document_text-links (m ∷ links))

text_at_beginning : (links : List Link) → text_at at_beginning links ≡ document_text links
text_at_beginning [] = sym (document_text-links [])
text_at_beginning (l ∷ links) = sym (document_text-links (l ∷ links))

fits_at_beginning : (links : List Link) → fits_at at_beginning links ≡ list_all is_link links
fits_at_beginning [] = refl
fits_at_beginning (l ∷ links) = refl

-- what `document` gives are links of the octets
pub document_found : (bytes : List ℕ) (links : List Link)
    → document bytes ≡ Some links
    → IsDocument bytes links
unfolding document
document_found bytes links h = by_test (is_utf8 bytes) refl
  where
    by_test : (b : Bool) → is_utf8 bytes ≡ b → IsDocument bytes links
    by_test true e =
        let spells = links_from_found at_beginning bytes links (rw e at h) in
        record {
          utf8 = IsUtf8-from_is_utf8 bytes e;
          spelled = spells.0 ∙ text_at_beginning links;
          each = sym (fits_at_beginning links) ∙ spells.1;
        }
    by_test false e = absurd (none_some (rw e at h))

-- `document` reads each document
pub document_only : (bytes : List ℕ) (links : List Link)
    → IsDocument bytes links
    → document bytes ≡ Some links
unfolding document
document_only bytes links d =
    rw (is_utf8-from_IsUtf8 bytes d.utf8)
    (links_from_only bytes at_beginning links (fits_at_beginning links ∙ d.each)
    (text_at_beginning links ∙ sym d.spelled))

-- a document has one list of links
-- An end theorem: nothing here cites it.
pub one_list : (bytes : List ℕ) (links others : List Link)
    → IsDocument bytes links
    → IsDocument bytes others
    → links ≡ others
one_list bytes links others d e =
    some_same (sym (document_only bytes links d) ∙ document_only bytes others e)
