-- A line is read exactly of its texts.
use Rattle.std.proofs.Common.{
  ◌≡◌,
  ◌↔◌,
  ℕ,
  ◌<◌,
  ◌^◌,
  true,
  List,
  [],
  ◌∷◌,
  length,
  codes,
  Option,
  Some,
  None,
  Ok,
  Err,
  ok_or,
  nat_lt,
  bytes_eq,
  refl,
  sym,
  ap,
  subst,
  inl,
  inr,
  ◌∙◌,
  arith,
}
use Rattle.std.proofs.lemmas.Bool.{ltb-false}
use Rattle.std.proofs.lemmas.Option.{option_and_then_some, none-some, same_Some}
use Rattle.std.proofs.lemmas.Slice.Eq.{bytes_eq-Decides}
use Rattle.line_model.specs.declared.lines.Line.{Line}
use Rattle.line_model.specs.declared.lines.Line.TheVariants as line
use Rattle.line_model.specs.declared.lines.Reason.TheVariants as reason
use Rattle.line_model.specs.Numbers.{
  IsNumber,
  max_worker,
  max_moment,
  max_word,
  max_first,
  number_of,
}
use Rattle.rd_base.specs.Peers.{peer_of}
use Rattle.line_model.specs.Datagrams.{datagram_of}
use Rattle.line_model.specs.Lines.{
  max_line,
  fields,
  joined,
  come_of,
  go_of,
  tick_of,
  begin_of,
  said_by,
  line_of,
  AreFieldsOf,
  comes,
  comes_alone,
  goes,
  ticks,
  ticks_alone,
  begins,
  IsLineText,
}
use Rattle.line_model.proofs.Numbers.{number_of-found, number_of-IsNumber}
use Rattle.rd_base.proofs.PeerBounds.{peer_of-IsPeerText}
use Rattle.line_model.proofs.Datagrams.{datagram_of-found, datagram_of-IsDatagramText}
use Rattle.line_model.proofs.Spaces.{
  HasNoSpace,
  decimal_spaceless,
  peer_spaceless,
  IsDatagramText_spaceless,
}
use Rattle.line_model.proofs.Fields.{fields-joined, joined-fields}
use Rattle.line_model.proofs.PrintedLines.{line_of_fields}
use Rattle.rd_base.proofs.lemmas.Choices.{either_of}

-- a word is what it was compared with
is_word : (verb : List ℕ) (word : List ℕ) → bytes_eq verb word ≡ true → verb ≡ word
is_word verb word e = (bytes_eq-Decides verb word).0 e

module _ (verb w m : List ℕ) (l : Line) where
  come_found : (p d x : List ℕ)
      → verb ≡ codes "in"
      → come_of w m p d (number_of max_word x) ≡ Some l
      → AreFieldsOf (verb ∷ w ∷ m ∷ p ∷ d ∷ x ∷ []) l
  unfolding come_of
  come_found p d x is e =
      option_and_then_some _ (number_of max_worker w) l e λ worker ew e1.
      option_and_then_some _ (number_of max_moment m) l e1 λ ms em e2.
      option_and_then_some _ (peer_of p) l e2 λ peer ep e3.
      option_and_then_some _ (datagram_of d) l e3 λ octets ed e4.
      option_and_then_some _ (number_of max_word x) l e4 λ word ex e5.
      let spelled : AreFieldsOf (codes "in" ∷ w ∷ m ∷ p ∷ d ∷ x ∷ [])
      (line.Come worker (record { 0 = ms }) peer octets word) =
      comes (number_of-found max_worker w worker ew) (number_of-found max_moment m ms em)
      ((peer_of-IsPeerText p peer).0 ep) (datagram_of-found d octets ed)
      (number_of-found max_word x word ex)
      in
      subst (λ v. AreFieldsOf (v ∷ w ∷ m ∷ p ∷ d ∷ x ∷ []) l) (sym is)
      (subst (AreFieldsOf (codes "in" ∷ w ∷ m ∷ p ∷ d ∷ x ∷ [])) (same_Some _ l e5)
      spelled)

  come_alone_found : (p d : List ℕ)
      → verb ≡ codes "in"
      → come_of w m p d (Some 0) ≡ Some l
      → AreFieldsOf (verb ∷ w ∷ m ∷ p ∷ d ∷ []) l
  unfolding come_of
  come_alone_found p d is e =
      option_and_then_some _ (number_of max_worker w) l e λ worker ew e1.
      option_and_then_some _ (number_of max_moment m) l e1 λ ms em e2.
      option_and_then_some _ (peer_of p) l e2 λ peer ep e3.
      option_and_then_some _ (datagram_of d) l e3 λ octets ed e4.
      let spelled : AreFieldsOf (codes "in" ∷ w ∷ m ∷ p ∷ d ∷ [])
      (line.Come worker (record { 0 = ms }) peer octets 0) =
      comes_alone (number_of-found max_worker w worker ew)
      (number_of-found max_moment m ms em)
      ((peer_of-IsPeerText p peer).0 ep) (datagram_of-found d octets ed)
      in
      subst (λ v. AreFieldsOf (v ∷ w ∷ m ∷ p ∷ d ∷ []) l) (sym is)
      (subst (AreFieldsOf (codes "in" ∷ w ∷ m ∷ p ∷ d ∷ [])) (same_Some _ l e4) spelled)

  go_found : verb ≡ codes "go" → go_of w m ≡ Some l → AreFieldsOf (verb ∷ w ∷ m ∷ []) l
  unfolding go_of
  go_found is e =
      option_and_then_some _ (number_of max_worker w) l e λ worker ew e1.
      option_and_then_some _ (number_of max_moment m) l e1 λ ms em e2.
      let spelled : AreFieldsOf (codes "go" ∷ w ∷ m ∷ []) (line.Go worker (record { 0 = ms })) =
      goes (number_of-found max_worker w worker ew) (number_of-found max_moment m ms em) in
      subst (λ v. AreFieldsOf (v ∷ w ∷ m ∷ []) l) (sym is)
      (subst (AreFieldsOf (codes "go" ∷ w ∷ m ∷ [])) (same_Some _ l e2) spelled)

  tick_found : (x : List ℕ)
      → verb ≡ codes "tick"
      → tick_of w m (number_of max_word x) ≡ Some l
      → AreFieldsOf (verb ∷ w ∷ m ∷ x ∷ []) l
  unfolding tick_of
  tick_found x is e =
      option_and_then_some _ (number_of max_worker w) l e λ worker ew e1.
      option_and_then_some _ (number_of max_moment m) l e1 λ ms em e2.
      option_and_then_some _ (number_of max_word x) l e2 λ word ex e3.
      let spelled : AreFieldsOf (codes "tick" ∷ w ∷ m ∷ x ∷ [])
      (line.Tick worker (record { 0 = ms }) word) =
      ticks (number_of-found max_worker w worker ew) (number_of-found max_moment m ms em)
      (number_of-found max_word x word ex)
      in
      subst (λ v. AreFieldsOf (v ∷ w ∷ m ∷ x ∷ []) l) (sym is)
      (subst (AreFieldsOf (codes "tick" ∷ w ∷ m ∷ x ∷ [])) (same_Some _ l e3) spelled)

  alone_found : verb ≡ codes "tick"
      → tick_of w m (Some 0) ≡ Some l
      → AreFieldsOf (verb ∷ w ∷ m ∷ []) l
  unfolding tick_of
  alone_found is e =
      option_and_then_some _ (number_of max_worker w) l e λ worker ew e1.
      option_and_then_some _ (number_of max_moment m) l e1 λ ms em e2.
      let spelled : AreFieldsOf (codes "tick" ∷ w ∷ m ∷ [])
      (line.Tick worker (record { 0 = ms }) 0) =
      ticks_alone (number_of-found max_worker w worker ew)
      (number_of-found max_moment m ms em) in
      subst (λ v. AreFieldsOf (v ∷ w ∷ m ∷ []) l) (sym is)
      (subst (AreFieldsOf (codes "tick" ∷ w ∷ m ∷ [])) (same_Some _ l e2) spelled)

  begin_found : (n : List ℕ)
      → verb ≡ codes "begin"
      → begin_of w m n ≡ Some l
      → AreFieldsOf (verb ∷ w ∷ m ∷ n ∷ []) l
  unfolding begin_of
  begin_found n is e =
      option_and_then_some _ (number_of max_worker w) l e λ worker ew e1.
      option_and_then_some _ (number_of max_moment m) l e1 λ ms em e2.
      option_and_then_some _ (number_of max_first n) l e2 λ first ef e3.
      let spelled : AreFieldsOf (codes "begin" ∷ w ∷ m ∷ n ∷ [])
      (line.Begin worker (record { 0 = ms }) first) =
      begins (number_of-found max_worker w worker ew) (number_of-found max_moment m ms em)
      (number_of-found max_first n first ef)
      in
      subst (λ v. AreFieldsOf (v ∷ w ∷ m ∷ n ∷ []) l) (sym is)
      (subst (AreFieldsOf (codes "begin" ∷ w ∷ m ∷ n ∷ [])) (same_Some _ l e3) spelled)

-- what the fields say is what they spell
pub said_by-found : (parts : List (List ℕ)) (l : Line)
    → said_by parts ≡ Some l
    → AreFieldsOf parts l
unfolding said_by
said_by-found [] l e = absurd (none-some l e)
said_by-found (verb ∷ []) l e = absurd (none-some l e)
said_by-found (verb ∷ w ∷ []) l e = absurd (none-some l e)
said_by-found (verb ∷ w ∷ m ∷ []) l e =
    elim (either_of (bytes_eq verb (codes "go")) _ _ (Some l) e) [
      | inl h ↦ go_found verb w m l (is_word verb (codes "go") h.0) h.1
      | inr h ↦ elim (either_of (bytes_eq verb (codes "tick")) _ _ (Some l) h.1) [
        | inl k ↦ alone_found verb w m l (is_word verb (codes "tick") k.0) k.1
        | inr k ↦ absurd (none-some l k.1)
      ]
    ]
said_by-found (verb ∷ w ∷ m ∷ x ∷ []) l e =
    elim (either_of (bytes_eq verb (codes "tick")) _ _ (Some l) e) [
      | inl h ↦ tick_found verb w m l x (is_word verb (codes "tick") h.0) h.1
      | inr h ↦ elim (either_of (bytes_eq verb (codes "begin")) _ _ (Some l) h.1) [
        | inl k ↦ begin_found verb w m l x (is_word verb (codes "begin") k.0) k.1
        | inr k ↦ absurd (none-some l k.1)
      ]
    ]
said_by-found (verb ∷ w ∷ m ∷ p ∷ d ∷ []) l e =
    elim (either_of (bytes_eq verb (codes "in")) _ _ (Some l) e) [
      | inl h ↦ come_alone_found verb w m l p d (is_word verb (codes "in") h.0) h.1
      | inr h ↦ absurd (none-some l h.1)
    ]
said_by-found (verb ∷ w ∷ m ∷ p ∷ d ∷ x ∷ []) l e =
    elim (either_of (bytes_eq verb (codes "in")) _ _ (Some l) e) [
      | inl h ↦ come_found verb w m l p d x (is_word verb (codes "in") h.0) h.1
      | inr h ↦ absurd (none-some l h.1)
    ]
said_by-found (verb ∷ w ∷ m ∷ p ∷ d ∷ x ∷ more ∷ parts) l e = absurd (none-some l e)

-- what fields spell is what they say
pub said_by-AreFieldsOf : (parts : List (List ℕ)) (l : Line)
    → AreFieldsOf parts l
    → said_by parts ≡ Some l
unfolding said_by come_of go_of tick_of begin_of
said_by-AreFieldsOf _ _
    (comes {w} {m} {p} {d} {x} {worker} {moment} {peer} {octets} {word} hw hm hp hd hx) =
    rw (
      number_of-IsNumber max_worker w worker hw (omega arith),
      number_of-IsNumber max_moment m
          moment.0 hm (omega arith),
      (peer_of-IsPeerText p peer).1 hp,
      datagram_of-IsDatagramText
          d octets hd,
      number_of-IsNumber max_word x word hx (omega arith),
    )
said_by-AreFieldsOf _ _
    (comes_alone {w} {m} {p} {d} {worker} {moment} {peer} {octets} hw hm hp hd) =
    rw (
      number_of-IsNumber max_worker w worker hw (omega arith),
      number_of-IsNumber max_moment m
          moment.0 hm (omega arith),
      (peer_of-IsPeerText p peer).1 hp,
      datagram_of-IsDatagramText
          d octets hd,
    )
said_by-AreFieldsOf _ _ (goes {w} {m} {worker} {moment} hw hm) =
    rw (
      number_of-IsNumber max_worker w worker hw (omega arith),
      number_of-IsNumber max_moment m
          moment.0 hm (omega arith),
    )
said_by-AreFieldsOf _ _ (ticks {w} {m} {x} {worker} {moment} {word} hw hm hx) =
    rw (
      number_of-IsNumber max_worker w worker hw (omega arith),
      number_of-IsNumber max_moment m
          moment.0 hm (omega arith),
      number_of-IsNumber max_word x word hx (omega arith),
    )
said_by-AreFieldsOf _ _ (ticks_alone {w} {m} {worker} {moment} hw hm) =
    rw (
      number_of-IsNumber max_worker w worker hw (omega arith),
      number_of-IsNumber max_moment m
          moment.0 hm (omega arith),
    )
said_by-AreFieldsOf _ _ (begins {w} {m} {n} {worker} {moment} {first} hw hm hn) =
    rw (
      number_of-IsNumber max_worker w worker hw (omega arith),
      number_of-IsNumber max_moment m
          moment.0 hm (omega arith),
      number_of-IsNumber max_first n first hn (omega arith),
    )

-- a number of a line has no space
number_spaceless : (limit : ℕ) (text : List ℕ) (n : ℕ)
    → IsNumber limit text n
    → limit < 2 ^ 64
    → HasNoSpace text
number_spaceless limit text n h small =
    let within = h.within in subst HasNoSpace (sym h.printed) (decimal_spaceless n (omega arith))

-- fields that spell a line come back from the line that they make
fields_of_line : (parts : List (List ℕ)) (l : Line)
    → AreFieldsOf parts l
    → fields (joined parts) ≡ parts
fields_of_line _ _
    (comes {w} {m} {p} {d} {x} {worker} {moment} {peer} {octets} {word} hw hm hp hd hx) =
    fields-joined (codes "in") (w ∷ m ∷ p ∷ d ∷ x ∷ []) (refl, (refl, tt)) (
      number_spaceless max_worker w worker hw (omega arith),
      (
        number_spaceless max_moment m moment.0 hm (omega arith),
        (
          subst HasNoSpace (sym hp.printed) (peer_spaceless peer hp.fits),
          (
            IsDatagramText_spaceless d octets hd,
            (number_spaceless max_word x word hx (omega arith), tt),
          ),
        ),
      ),
    )
fields_of_line _ _
    (comes_alone {w} {m} {p} {d} {worker} {moment} {peer} {octets} hw hm hp hd) =
    fields-joined (codes "in") (w ∷ m ∷ p ∷ d ∷ []) (refl, (refl, tt)) (
      number_spaceless max_worker w worker hw (omega arith),
      (
        number_spaceless max_moment m moment.0 hm (omega arith),
        (
          subst HasNoSpace (sym hp.printed) (peer_spaceless peer hp.fits),
          (IsDatagramText_spaceless d octets hd, tt),
        ),
      ),
    )
fields_of_line _ _ (goes {w} {m} {worker} {moment} hw hm) =
    fields-joined (codes "go") (w ∷ m ∷ []) (refl, (refl, tt)) (
      number_spaceless max_worker w worker hw (omega arith),
      (number_spaceless max_moment m moment.0 hm (omega arith), tt),
    )
fields_of_line _ _ (ticks {w} {m} {x} {worker} {moment} {word} hw hm hx) =
    fields-joined (codes "tick") (w ∷ m ∷ x ∷ []) (refl, (refl, (refl, (refl, tt)))) (
      number_spaceless max_worker w worker hw (omega arith),
      (
        number_spaceless max_moment m moment.0 hm (omega arith),
        (number_spaceless max_word x word hx (omega arith), tt),
      ),
    )
fields_of_line _ _ (ticks_alone {w} {m} {worker} {moment} hw hm) =
    fields-joined (codes "tick") (w ∷ m ∷ []) (refl, (refl, (refl, (refl, tt)))) (
      number_spaceless max_worker w worker hw (omega arith),
      (number_spaceless max_moment m moment.0 hm (omega arith), tt),
    )
fields_of_line _ _ (begins {w} {m} {n} {worker} {moment} {first} hw hm hn) =
    fields-joined (codes "begin") (w ∷ m ∷ n ∷ []) (refl, (refl, (refl, (refl, (refl, tt))))) (
      number_spaceless max_worker w worker hw (omega arith),
      (
        number_spaceless max_moment m moment.0 hm (omega arith),
        (number_spaceless max_first n first hn (omega arith), tt),
      ),
    )

-- a value that stands is there
ok_there : (o : Option Line) (l : Line) → ok_or o reason.Form ≡ Ok l → o ≡ Some l
ok_there (Some x) l e = cc e
ok_there None l e = cc

-- what is read is the line whose text it is
line_found : (text : List ℕ) (l : Line) → line_of text ≡ Ok l → IsLineText text l
unfolding line_of
line_found text l e =
    elim (either_of (nat_lt max_line (length text)) (Err reason.Long)
    (ok_or (said_by (fields text)) reason.Form) (Ok l) e) [
      | inl h ↦ cc h.1
      | inr h ↦ record {
        short = ltb-false max_line (length text) h.0;
        parts = fields text;
        spelled = sym (joined-fields text);
        said = said_by-found (fields text) l (ok_there (said_by (fields text)) l h.1);
      }
    ]

-- the text of a line is read as it
line_again : (text : List ℕ) (l : Line) → IsLineText text l → line_of text ≡ Ok l
line_again text l h =
    line_of_fields text l h.short
    (ap said_by (ap fields h.spelled ∙ fields_of_line h.parts l h.said)
    ∙ said_by-AreFieldsOf h.parts l h.said)

-- a text is read as a line exactly where it is that line
-- An end theorem: nothing here cites it.
pub line_of-IsLineText : (text : List ℕ) (l : Line) → (line_of text ≡ Ok l) ↔ IsLineText text l
line_of-IsLineText text l = (line_found text l, line_again text l)
