-- What it says of octets that they are a document.
use Rattle.std.proofs.Common.{
  ◌≡◌,
  ℕ,
  Bool,
  true,
  false,
  List,
  Option,
  Some,
  is_some,
  refl,
  sym,
  ap,
  subst,
  IsUtf8,
}
use Rattle.std.specs.Prelude.{not, if◌then◌else◌, None, Result, Ok, Err, IfOk, IfErr, IsOkAnd}
use Rattle.std.specs.Str.{is_utf8}
use Rattle.std.proofs.lemmas.Str.{IsUtf8-from_is_utf8}
use Rattle.std.proofs.lemmas.Bool.{false≢true}
use Rattle.link_model.specs.Documents.{Link, IsDocument, IsGoodPrefix}
use Rattle.link_model.proofs.DocumentLaws.{document_found, document_only}
use Rattle.link_model.specs.DocumentReading.{document, good_prefix}
use Rattle.link_model.proofs.DocumentPrefix.{good_prefix-IsGoodPrefix}
use Rattle.link_format.specs.LinksOfText.{links_of, links_in}

-- a document is text, and its links are those of the text
pub record Checked (bytes : List ℕ) : Type 0 where
  pub utf8 : IsUtf8 bytes
  pub spells : is_some (links_of bytes) ≡ true
  pub links : document bytes ≡ Some (links_in bytes)

pub checked : (bytes : List ℕ) → is_some (document bytes) ≡ true → Checked bytes
unfolding document
checked bytes h = by_test (is_utf8 bytes) (links_of bytes) refl refl h
  where
    by_test : (b : Bool) (o : Option (List Link))
        → is_utf8 bytes ≡ b
        → links_of bytes ≡ o
        → is_some (if b then o else None) ≡ true
        → Checked bytes
    by_test true (Some links) e f h =
        record { utf8 = IsUtf8-from_is_utf8 bytes e; spells = ap is_some f; links = rw (e, f) refl }
    by_test true None e f h = absurd (false≢true h)
    by_test false o e f h = absurd (false≢true h)

-- the same, by the test that found it
pub checked_where_found : (bytes : List ℕ) (found : Bool)
    → found ≡ is_some (document bytes)
    → not found ≡ false
    → Checked bytes
checked_where_found bytes true e h = checked bytes (sym e)
checked_where_found bytes false e h = absurd (false≢true (sym h))

-- what is read of a document is the list of its links: there is no other
pub links_found : (bytes : List ℕ) {E : Type 0} (result : Result (List Link) E)
    → IfOk result (λ links. document bytes ≡ Some links)
    → IfOk result (λ links. IsDocument bytes links)
links_found bytes (Ok links) e = document_found bytes links e
links_found bytes (Err bad) e = e

-- every document is read as its links
pub links_only : (bytes : List ℕ) {E : Type 0} (result : Result (List Link) E)
    → IfOk result (λ links. document bytes ≡ Some links)
    → IfErr result (λ bad. document bytes ≡ None)
    → (links : List Link)
    → IsDocument bytes links
    → IsOkAnd result (λ found. found ≡ links)
links_only bytes (Ok found) e f links d = let h = document_only bytes links d in cc
links_only bytes (Err bad) e f links d = absurd (let h = document_only bytes links d in cc)

-- the offset of a fault is the length of the longest prefix that begins a document
pub prefix_found : (bytes : List ℕ) {E : Type 0} (at : E → ℕ) (result : Result (List Link) E)
    → IfErr result (λ bad. at bad ≡ good_prefix bytes)
    → IfErr result (λ bad. IsGoodPrefix bytes (at bad))
prefix_found bytes at (Ok links) e = e
prefix_found bytes at (Err bad) e =
    subst (λ n. IsGoodPrefix bytes n) (sym e) (good_prefix-IsGoodPrefix bytes)
