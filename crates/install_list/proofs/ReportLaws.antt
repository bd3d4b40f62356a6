-- What is reported of a status.
use Rattle.std.proofs.Common.{
  ◌≡◌,
  ℕ,
  ◌≤◌,
  List,
  ◌∷◌,
  ◌++◌,
  length,
  take,
  drop,
  flat_map,
  Bor,
  Option,
  refl,
  ap,
  subst,
  sym,
  ◌∙◌,
  inl,
  inr,
  take-append-drop,
}
use Rattle.std.proofs.lemmas.Grind.{flat_map-append}
use Rattle.std.proofs.lemmas.List.{take_all}
use Rattle.std.proofs.KnownBytes.{Appends-trans}
use Rattle.rd_base.specs.Outside.{Rose}
use Rattle.std.specs.Io.KnownBytes.{Appends}
use Rattle.install_list.specs.declared.statuses.InstallStatus.{InstallStatus}
use Rattle.install_list.specs.Endings.{Says, IsReported, status_text}
use Rattle.install_list.specs.Printing.{IsFrontOf}
use Rattle.install_list.proofs.TextFronts.{front_self, front_trans, front_take, front_behind}

-- texts one after the other
abbrev pub joined : List (Bor (List ℕ)) → List ℕ
joined texts = flat_map (λ text. text.now) texts

-- with one text more
joined_more : (i : ℕ) (texts : List (Bor (List ℕ))) (text : Bor (List ℕ))
    (rest : List (Bor (List ℕ)))
    → drop i texts ≡ text ∷ rest
    → joined texts ≡ joined (take i texts) ++ (text.now ++ joined rest)
joined_more i texts text rest left =
    ap joined (sym (take-append-drop i texts))
    ∙ flat_map-append (λ t. t.now) (take i texts) (drop i texts)
    ∙ ap (λ ts. joined (take i texts) ++ joined ts) left

module _ (old mid : Option (List ℕ)) (counted counts : ℕ) (i : ℕ)
    (texts : List (Bor (List ℕ)))
    (known : Appends old mid (joined (take i texts))) where
  -- after the last text, all was reported
  pub all_said : length texts ≤ i → Says old mid counted counts (joined texts)
  all_said last =
      let whole = ap joined (take_all i texts last) in
      record {
        said = joined texts;
        front = front_self (joined texts);
        stands = subst (Appends old mid) whole known;
        whole = inl refl;
      }

  -- if the sink failed, a prefix
  pub front_said : (new : Option (List ℕ)) (text : Bor (List ℕ)) (rest : List (Bor (List ℕ)))
      → drop i texts ≡ text ∷ rest
      → (n : ℕ) × Appends mid new (take n text.now)
      → Rose counted counts
      → Says old new counted counts (joined texts)
  front_said new text rest left taken rose = record {
    said = joined (take i texts) ++ take taken.0 text.now;
    front =
        subst (IsFrontOf (joined (take i texts) ++ take taken.0 text.now))
        (sym (joined_more i texts text rest left))
        (front_behind (joined (take i texts)) (take taken.0 text.now) (text.now ++ joined rest)
        (front_trans (take taken.0 text.now) text.now (text.now ++ joined rest)
        (front_take taken.0 text.now) (joined rest, refl)));
    stands = Appends-trans old mid new _ _ known taken.1;
    whole = inr rose;
  }

-- the text that was reported is that of this status
pub said : (status named : InstallStatus) (old new : Option (List ℕ)) (counted counts : ℕ)
    → status ≡ named
    → Says old new counted counts (status_text named)
    → IsReported old new counted counts status
said status named old new counted counts e h = subst (IsReported old new counted counts) (sym e) h
