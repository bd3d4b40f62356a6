-- Octets that were judged are a front of a message, a message or a bad one, and back (RFC 8323
-- section 3.2).
use Rattle.std.proofs.Common.{
  ◌≡◌,
  ℕ,
  zero,
  suc,
  ◌+◌,
  ◌/◌,
  ◌%◌,
  ◌<◌,
  lit<,
  Bool,
  Option,
  Some,
  None,
  List,
  [],
  ◌∷◌,
  ◌++◌,
  length,
  drop,
  take,
  refl,
  sym,
  ap,
  subst,
  ◌∙◌,
  ◌⊎◌,
  inl,
  inr,
  append_assoc,
  append-nil,
  arith,
}
use Rattle.std.proofs.lemmas.List.{
  length-append,
  length-take-le,
  length-drop,
  take-append-drop,
  drop_at,
}
use Rattle.message_model.specs.Numbers.{IsByte, AreBytes}
use Rattle.message_model.proofs.ByteLemmas.{AreBytes-front, AreBytes-back}
use Rattle.stream_model.specs.declared.messages.Judged.TheVariants as judged
use Rattle.stream_model.specs.declared.messages.StreamBad.{StreamBad}
use Rattle.stream_model.specs.Messages.{
  StreamMessage,
  IsStreamMessage,
  nibble_of,
  extension_of,
  lengths_spelling,
  stream_spelling,
}
use Rattle.stream_model.specs.Faults.{
  lengths_fault,
  fault_of,
  first_of,
  known_by,
  known_octets,
}
use Rattle.stream_model.specs.Judging.{
  judge,
  FrontsMore,
  verdict_by,
  extension_size,
  length_said,
}
use Rattle.stream_model.specs.Streams.{IsGood, IsBad, IsFront}
use Rattle.stream_model.proofs.LengthLemmas.{joined, spelled_again}
use Rattle.stream_model.proofs.MessageLaws.{body, known_judged, front_more}

-- ---- fronts

-- Octets of which more is to come.
pub record IsFrontOf (front whole : List ℕ) : Type 0 where
  pub more : List ℕ
  pub some : 0 < length more
  pub same : front ++ more ≡ whole

-- Octets and what follows them.
pub record IsFollowed (front whole : List ℕ) : Type 0 where
  pub more : List ℕ
  pub same : whole ≡ front ++ more

-- Octets that are compared: the first are a front of the others, or the others are one of the
-- first.
abbrev AreCompared : List ℕ → List ℕ → Type 0
AreCompared octets whole = IsFrontOf octets whole ⊎ IsFollowed whole octets

one_before : (b : ℕ) (octets whole : List ℕ)
    → AreCompared octets whole
    → AreCompared (b ∷ octets) (b ∷ whole)
one_before b octets whole (inl f) = inl (record {
  more = f.more;
  some = f.some;
  same = ap (λ (l : List ℕ). b ∷ l) f.same;
})
one_before b octets whole (inr f) = inr (record {
  more = f.more;
  same = ap (λ (l : List ℕ). b ∷ l) f.same;
})

all_before : (front octets whole : List ℕ)
    → AreCompared octets whole
    → AreCompared (front ++ octets) (front ++ whole)
all_before [] octets whole c = c
all_before (b ∷ front) octets whole c =
    one_before b (front ++ octets) (front ++ whole) (all_before front octets whole c)

-- ---- this many octets

-- The first octets, with zeros behind them where they are too few.
filled : ℕ → List ℕ → List ℕ
filled zero octets = []
filled (suc n) [] = 0 ∷ filled n []
filled (suc n) (b ∷ octets) = b ∷ filled n octets

length-filled : (n : ℕ) (octets : List ℕ) → length (filled n octets) ≡ n
unfolding filled
length-filled zero octets = refl
length-filled (suc n) [] = ap suc (length-filled n [])
length-filled (suc n) (b ∷ octets) = ap suc (length-filled n octets)

filled_bytes : (n : ℕ) (octets : List ℕ) → AreBytes octets → AreBytes (filled n octets)
unfolding filled
filled_bytes zero octets bytes = tt
filled_bytes (suc n) [] bytes = (lit< tt, filled_bytes n [] tt)
filled_bytes (suc n) (b ∷ octets) bytes = (bytes.0, filled_bytes n octets bytes.1)

compared_filled : (n : ℕ) (octets : List ℕ) → AreCompared octets (filled n octets)
unfolding filled
compared_filled zero octets = inr (record { more = octets; same = refl })
compared_filled (suc n) [] = inl (record {
  more = filled (suc n) [];
  some = rw (length-filled (suc n) []) (omega arith);
  same = refl;
})
compared_filled (suc n) (b ∷ octets) =
    one_before b octets (filled n octets) (compared_filled n octets)

-- ---- a message for any octets

-- The message with this code, token and tail, by the lengths of the last two.
record IsMade (token size : ℕ) (octets : List ℕ) : Type 0 where
  message : StreamMessage
  code : IsByte message.code
  token_bytes : AreBytes message.token
  tail_bytes : AreBytes message.tail
  token_length : length message.token ≡ token
  tail_length : length message.tail ≡ size
  spelled : body message ≡ octets

made : (token size : ℕ) (octets : List ℕ)
    → length octets ≡ token + size + 1
    → AreBytes octets
    → IsMade token size octets
made token size [] e bytes = absurd (omega (arith, e))
made token size (c ∷ octets) e bytes =
    let parts : take token octets ++ drop token octets ≡ octets = take-append-drop token octets in
    let both = subst AreBytes (sym parts) bytes.1 in
    record {
      message = record { code = c; token = take token octets; tail = drop token octets };
      code = bytes.0;
      token_bytes = AreBytes-front (take token octets) (drop token octets) both;
      tail_bytes = AreBytes-back (take token octets) (drop token octets) both;
      token_length = length-take-le token octets (omega (arith, e));
      tail_length = length-drop token octets ∙ omega (arith, e);
      spelled = ap (λ (l : List ℕ). c ∷ l) parts;
    }

-- Octets are compared with all of a message, where they are with its lengths.
front_by_lengths : (m : StreamMessage) (octets : List ℕ) (fault : Option StreamBad)
    → IsFrontOf octets (lengths_spelling m)
    → IsFrontOf octets (known_by fault m)
front_by_lengths m octets (Some why) f = f
front_by_lengths m octets None f = record {
  more = f.more ++ body m;
  some = rw (length-append f.more (body m)) (omega (arith, f.some));
  same =
      sym (append_assoc octets f.more (body m)) ∙ ap (λ (l : List ℕ). l ++ body m) f.same;
}

side_by_body : (m : StreamMessage) (octets behind : List ℕ) (fault : Option StreamBad)
    → octets ≡ lengths_spelling m ++ behind
    → AreCompared behind (body m)
    → AreCompared octets (known_by fault m)
side_by_body m octets behind (Some why) e c = inr (record { more = behind; same = e })
side_by_body m octets behind None e c =
    subst (λ (l : List ℕ). AreCompared l (stream_spelling m)) (sym e)
    (all_before (lengths_spelling m) behind (body m) c)

-- A message with which octets are compared.
record IsCompared (octets : List ℕ) : Type 0 where
  message : StreamMessage
  fits : IsStreamMessage message
  side : AreCompared octets (known_octets message)

-- The octets behind the first one, of which so many extend its nibble.
compared_behind : (b e n : ℕ) (octets : List ℕ) (m : StreamMessage)
    → lengths_spelling m ≡ b ∷ filled e octets
    → body m ≡ filled n (drop e octets)
    → AreCompared (b ∷ octets) (known_octets m)
compared_behind b e n octets m lengths_is body_is = by (compared_filled e octets)
  where
    by : AreCompared octets (filled e octets) → AreCompared (b ∷ octets) (known_octets m)
    by (inl f) = inl (front_by_lengths m (b ∷ octets) (lengths_fault m) (record {
      more = f.more;
      some = f.some;
      same = ap (λ (l : List ℕ). b ∷ l) f.same ∙ sym lengths_is;
    }))
    by (inr f) =
        let behind : drop e octets ≡ f.more =
        ap (drop e) f.same ∙ drop_at (filled e octets) f.more e (length-filled e octets) in
        side_by_body m (b ∷ octets) (drop e octets) (lengths_fault m)
        (ap (λ (l : List ℕ). b ∷ l) f.same ∙ rw (lengths_is, behind) refl)
        (subst (λ (l : List ℕ). AreCompared (drop e octets) l) (sym body_is)
        (compared_filled n (drop e octets)))

compared : (octets : List ℕ) → AreBytes octets → IsCompared octets
unfolding lengths_spelling nibble_of extension_of
compared [] bytes = record {
  message = record { code = 0; token = []; tail = [] };
  fits = record {
    code = lit< tt;
    token_length = lit< tt;
    token = tt;
    tail_length = lit< tt;
    tail = tt;
  };
  side = inl (record { more = 0 ∷ 0 ∷ []; some = lit< tt; same = refl });
}
compared (b ∷ octets) bytes =
    let nibble = b / 16 in
    let token = b % 16 in
    let e = extension_size nibble in
    let again = spelled_again nibble (filled e octets) (omega (arith, bytes.0))
    (length-filled e octets) (filled_bytes e octets bytes.1) in
    let size = length_said nibble (filled e octets) in
    let n = token + size + 1 in
    let behind : AreBytes (drop e octets) = AreBytes-back (take e octets) (drop e octets)
    (subst AreBytes (sym (take-append-drop e octets)) bytes.1) in
    let m = made token size (filled n (drop e octets)) (length-filled n (drop e octets))
    (filled_bytes n (drop e octets) behind) in
    record {
      message = m.message;
      fits = record {
        code = m.code;
        token_length = rw m.token_length (omega arith);
        token = m.token_bytes;
        tail_length = rw m.tail_length again.most;
        tail = m.tail_bytes;
      };
      side = compared_behind b e n octets m.message
          (rw (m.tail_length, m.token_length, again.nibble_is, again.extension_is, joined b) refl)
          m.spelled;
    }

-- ---- what was judged

verdict_not_more : (fault : Option StreamBad) → verdict_by fault ≡ judged.More → ⊥
verdict_not_more None e = absurd cc
verdict_not_more (Some why) e = absurd cc

known_not_more : (is_first : Bool) (m : StreamMessage)
    → IsStreamMessage m
    → judge is_first (known_octets m) ≡ judged.More
    → ⊥
known_not_more is_first m fits e =
    verdict_not_more (fault_of is_first m) (sym (known_judged is_first m fits.token_length) ∙ e)

-- Less than a message is a proper front of one.
pub more_front : (is_first : Bool) (octets : List ℕ)
    → AreBytes octets
    → FrontsMore is_first octets
    → judge is_first octets ≡ judged.More
    → IsFront octets
more_front is_first octets bytes fronts more = by (compared octets bytes).side
  where
    m : StreamMessage
    m = (compared octets bytes).message

    fits : IsStreamMessage m
    fits = (compared octets bytes).fits

    behind : (rest : List ℕ) → octets ≡ known_octets m ++ rest → ⊥
    behind [] same =
        known_not_more is_first m fits
        (ap (judge is_first) (sym (append-nil (known_octets m)) ∙ sym same) ∙ more)
    behind (x ∷ rest) same =
        known_not_more is_first m fits
        (fronts (known_octets m) (x ∷ rest) (sym same) (omega arith))

    by : AreCompared octets (known_octets m) → IsFront octets
    by (inl f) = record {
      message = m;
      fits = fits;
      more = f.more;
      some = f.some;
      known = f.same;
    }
    by (inr f) = absurd (behind f.more f.same)

-- Octets are those of a message by which it is known whether it is bad.
record IsKnown (octets : List ℕ) : Type 0 where
  message : StreamMessage
  fits : IsStreamMessage message
  known : known_octets message ≡ octets

known_of : (is_first : Bool) (octets : List ℕ)
    → AreBytes octets
    → FrontsMore is_first octets
    → (judge is_first octets ≡ judged.More → ⊥)
    → IsKnown octets
known_of is_first octets bytes fronts not_more = by (compared octets bytes).side
  where
    m : StreamMessage
    m = (compared octets bytes).message

    fits : IsStreamMessage m
    fits = (compared octets bytes).fits

    behind : (rest : List ℕ) → octets ≡ known_octets m ++ rest → known_octets m ≡ octets
    behind [] same = sym (append-nil (known_octets m)) ∙ sym same
    behind (x ∷ rest) same =
        absurd (known_not_more is_first m fits
        (fronts (known_octets m) (x ∷ rest) (sym same) (omega arith)))

    by : AreCompared octets (known_octets m) → IsKnown octets
    by (inl f) =
        absurd (not_more (front_more is_first m octets f.more fits.token_length f.same f.some))
    by (inr f) = record { message = m; fits = fits; known = behind f.more f.same }

whole_faultless : (fault : Option StreamBad) → verdict_by fault ≡ judged.Whole
    → fault ≡ None
whole_faultless None e = refl
whole_faultless (Some why) e = absurd cc

bad_fault : (fault : Option StreamBad) (why : StreamBad)
    → verdict_by fault ≡ judged.Bad why
    → fault ≡ Some why
bad_fault None why e = absurd cc
bad_fault (Some other) why e = let same : other ≡ why = cc in ap Some same

lengths_good : (fault later : Option StreamBad) → first_of fault later ≡ None → fault ≡ None
lengths_good None later e = refl
lengths_good (Some why) later e = absurd cc

-- All octets of a good message are needed to know that it is good.
good_known : (is_first : Bool) (m : StreamMessage)
    → fault_of is_first m ≡ None
    → known_octets m ≡ stream_spelling m
good_known is_first m good =
    ap (λ (f : Option StreamBad). known_by f m) (lengths_good (lengths_fault m) _ good)

-- A whole message is one that is not bad.
pub whole_good : (is_first : Bool) (octets : List ℕ)
    → AreBytes octets
    → FrontsMore is_first octets
    → judge is_first octets ≡ judged.Whole
    → IsGood is_first octets
whole_good is_first octets bytes fronts whole =
    let k = known_of is_first octets bytes fronts (λ e. cc) in
    let good = whole_faultless (fault_of is_first k.message)
    (sym (known_judged is_first k.message k.fits.token_length)
    ∙ ap (judge is_first) k.known
    ∙ whole) in
    record {
      message = k.message;
      fits = k.fits;
      good = good;
      spelled = sym (good_known is_first k.message good) ∙ k.known;
    }

pub bad_bad : (is_first : Bool) (octets : List ℕ) (why : StreamBad)
    → AreBytes octets
    → FrontsMore is_first octets
    → judge is_first octets ≡ judged.Bad why
    → IsBad is_first why octets
bad_bad is_first octets why bytes fronts is_bad =
    let k = known_of is_first octets bytes fronts (λ e. cc) in
    record {
      message = k.message;
      fits = k.fits;
      fault = bad_fault (fault_of is_first k.message) why
          (sym (known_judged is_first k.message k.fits.token_length)
          ∙ ap (judge is_first) k.known
          ∙ is_bad);
      known = k.known;
    }

-- ---- and back

-- Each front of a front of a message is less than a message.
pub front_judged : (is_first : Bool) (octets front rest : List ℕ)
    → IsFront octets
    → front ++ rest ≡ octets
    → judge is_first front ≡ judged.More
front_judged is_first octets front rest f same =
    front_more is_first f.message front (rest ++ f.more) f.fits.token_length
    (sym (append_assoc front rest f.more) ∙ ap (λ (l : List ℕ). l ++ f.more) same ∙ f.known)
    (rw (length-append rest f.more) (omega (arith, f.some)))

pub good_judged : (is_first : Bool) (octets : List ℕ)
    → IsGood is_first octets
    → judge is_first octets ≡ judged.Whole
good_judged is_first octets g =
    ap (judge is_first) (sym g.spelled ∙ sym (good_known is_first g.message g.good))
    ∙ known_judged is_first g.message g.fits.token_length
    ∙ ap verdict_by g.good

pub good_fronts : (is_first : Bool) (octets : List ℕ)
    → IsGood is_first octets
    → FrontsMore is_first octets
good_fronts is_first octets g = λ front more same some.
    front_more is_first g.message front more g.fits.token_length
    (same ∙ sym g.spelled ∙ sym (good_known is_first g.message g.good)) some

pub bad_judged : (is_first : Bool) (octets : List ℕ) (why : StreamBad)
    → IsBad is_first why octets
    → judge is_first octets ≡ judged.Bad why
bad_judged is_first octets why b =
    ap (judge is_first) (sym b.known)
    ∙ known_judged is_first b.message b.fits.token_length
    ∙ ap verdict_by b.fault

pub bad_fronts : (is_first : Bool) (octets : List ℕ) (why : StreamBad)
    → IsBad is_first why octets
    → FrontsMore is_first octets
bad_fronts is_first octets why b = λ front more same some.
    front_more is_first b.message front more b.fits.token_length (same ∙ sym b.known) some
