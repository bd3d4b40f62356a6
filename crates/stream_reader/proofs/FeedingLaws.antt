-- What a piece gives is what the stream has (RFC 8323 sections 3.2 and 3.3).
use Rattle.std.proofs.Common.{
  ◌≡◌,
  ℕ,
  zero,
  suc,
  ◌<◌,
  Bool,
  false,
  List,
  [],
  ◌∷◌,
  ◌++◌,
  length,
  drop,
  take,
  refl,
  sym,
  ap,
  subst,
  ◌∙◌,
  append_assoc,
  append-nil,
  arith,
}
use Rattle.std.proofs.lemmas.List.{take-append-drop}
use Rattle.message_model.specs.Numbers.{AreBytes}
use Rattle.message_model.proofs.ByteLemmas.{AreBytes-append, AreBytes-front}
use Rattle.stream_model.specs.declared.messages.Judged.{Judged}
use Rattle.stream_model.specs.declared.messages.Judged.TheVariants as judged
use Rattle.stream_model.specs.declared.messages.StreamBad.{StreamBad}
use Rattle.stream_model.specs.Judging.{judge, FrontsMore}
use Rattle.stream_model.specs.Streams.{
  IsGood,
  IsBad,
  IsFront,
  broken,
  with_message,
  stream_by,
  stream_from,
}
use Rattle.stream_model.proofs.ReadingLaws.{
  more_front,
  whole_good,
  bad_bad,
  front_judged,
  good_judged,
  good_fronts,
  bad_judged,
  bad_fronts,
}
use Rattle.stream_model.proofs.StreamLaws.{reach, go_on}
use Rattle.stream_reader.specs.declared.feeding.Fed.{Fed}
use Rattle.stream_reader.specs.declared.feeding.Fed.TheVariants as fed
use Rattle.stream_reader.specs.Reading.{
  Held,
  between_messages,
  held_as,
  IsTaken,
  IsFedBy,
  IsFed,
  IsWithin,
  stream_after,
  GoesOn,
  IsJudged,
  IsReached,
}
use Rattle.stream_reader.proofs.WantingLemmas.{front_of_more}

-- ---- what was judged is what the relation says

front_bytes : (n : ℕ) (octets : List ℕ) → AreBytes octets → AreBytes (take n octets)
front_bytes n octets bytes =
    AreBytes-front (take n octets) (drop n octets)
    (subst AreBytes (sym (take-append-drop n octets)) bytes)

-- Less than a message has no front that is one.
fronts_of_more : (is_first : Bool) (octets : List ℕ)
    → judge is_first octets ≡ judged.More
    → FrontsMore is_first octets
fronts_of_more is_first octets e = λ front more same some.
    front_of_more is_first front more (ap (judge is_first) same ∙ e)

taken_of_reached : (old new : Held) (piece : List ℕ) (r : Fed)
    → AreBytes new.pending
    → IsReached old piece r new
    → IsTaken old piece r new
taken_of_reached old new piece fed.More bytes s = record {
  held = s.0;
  front = more_front new.is_first new.pending bytes
      (fronts_of_more new.is_first new.pending s.1) s.1;
}
taken_of_reached old new piece (fed.Whole n) bytes s = record {
  within = s.within;
  held = s.held;
  good = whole_good new.is_first new.pending bytes s.fronts s.verdict_is;
}
taken_of_reached old new piece (fed.Bad n why) bytes s = record {
  within = s.within;
  held = s.held;
  is_bad = bad_bad new.is_first new.pending why bytes s.fronts s.verdict_is;
}

-- Octets that were taken are those of the piece.
reached_bytes : (old new : Held) (piece : List ℕ) (r : Fed)
    → AreBytes old.pending
    → AreBytes piece
    → IsReached old piece r new
    → AreBytes new.pending
reached_bytes old new piece fed.More held bytes s =
    subst (λ (h : Held). AreBytes h.pending) (sym s.0)
    (AreBytes-append old.pending piece held bytes)
reached_bytes old new piece (fed.Whole n) held bytes s =
    subst (λ (h : Held). AreBytes h.pending) (sym s.held)
    (AreBytes-append old.pending (take n piece) held (front_bytes n piece bytes))
reached_bytes old new piece (fed.Bad n why) held bytes s =
    subst (λ (h : Held). AreBytes h.pending) (sym s.held)
    (AreBytes-append old.pending (take n piece) held (front_bytes n piece bytes))

-- A piece that goes on with the octets that are held.
pub fed_more : (old new : Held) (piece : List ℕ) (r : Fed)
    → AreBytes old.pending
    → AreBytes piece
    → held_as old ≡ judged.More
    → IsReached old piece r new
    → IsFed old piece r new
fed_more old new piece r held bytes e s =
    rw e (taken_of_reached old new piece r (reached_bytes old new piece r held bytes s) s)

-- A piece that begins the next message.
pub fed_next : (old behind new : Held) (piece : List ℕ) (r : Fed)
    → AreBytes piece
    → held_as old ≡ judged.Whole
    → behind ≡ between_messages
    → IsReached behind piece r new
    → IsFed old piece r new
fed_next old behind new piece r bytes e next s =
    let after = subst (λ (h : Held). IsReached h piece r new) next s in
    rw e
    (taken_of_reached between_messages new piece r
    (reached_bytes between_messages new piece r tt bytes after) after)

-- ---- how much was taken

pub between_open : held_as between_messages ≡ judged.More
unfolding judge
between_open = refl

-- Octets that make a message whole are one or more.
some_taken : (old new : Held) (piece : List ℕ) (n : ℕ)
    → held_as old ≡ judged.More
    → IsJudged old piece n judged.Whole new
    → 0 < n
some_taken old new piece zero e s =
    let same : held_as new ≡ judged.More =
    ap held_as s.held
    ∙ ap (judge old.is_first) (append-nil old.pending)
    ∙ e in
    absurd (whole_not_more (sym s.verdict_is ∙ same))
  where
    whole_not_more : judged.Whole ≡ judged.More → ⊥
    whole_not_more same = cc
some_taken old new piece (suc n) e s = omega arith

pub within_more : (old new : Held) (piece : List ℕ) (r : Fed)
    → held_as old ≡ judged.More
    → IsReached old piece r new
    → IsWithin (length piece) r
within_more old new piece fed.More e s = tt
within_more old new piece (fed.Whole n) e s = (some_taken old new piece n e s, s.within)
within_more old new piece (fed.Bad n why) e s = s.within

pub within_next : (behind new : Held) (piece : List ℕ) (r : Fed)
    → behind ≡ between_messages
    → IsReached behind piece r new
    → IsWithin (length piece) r
within_next behind new piece r next s =
    within_more between_messages new piece r between_open
    (subst (λ (h : Held). IsReached h piece r new) next s)

-- ---- and what the stream has

after_more : (h : Held) (octets : List ℕ)
    → held_as h ≡ judged.More
    → stream_after h octets ≡ stream_from h.is_first h.pending octets
after_more h octets e = rw e refl

after_whole : (h : Held) (octets : List ℕ)
    → held_as h ≡ judged.Whole
    → stream_after h octets ≡ stream_from false [] octets
after_whole h octets e = rw e refl

after_bad : (h : Held) (octets : List ℕ) (why : StreamBad)
    → held_as h ≡ judged.Bad why
    → stream_after h octets ≡ broken why
after_bad h octets why e = rw e refl

-- Fronts of octets behind those that are held.
fronts_behind : (is_first : Bool) (pending octets : List ℕ)
    → FrontsMore is_first (pending ++ octets)
    → (front rest : List ℕ)
    → front ++ rest ≡ octets
    → 0 < length rest
    → judge is_first (pending ++ front) ≡ judged.More
fronts_behind is_first pending octets fronts front rest same some =
    fronts (pending ++ front) rest
    (append_assoc pending front rest ∙ ap (λ (l : List ℕ). pending ++ l) same) some

-- The octets that were taken reach a message that was judged so.
reached : (is_first : Bool) (pending piece further : List ℕ) (n : ℕ) (j : Judged)
    → judge is_first pending ≡ judged.More
    → FrontsMore is_first (pending ++ take n piece)
    → judge is_first (pending ++ take n piece) ≡ j
    → (j ≡ judged.More → ⊥)
    → stream_from is_first pending (piece ++ further)
    ≡ stream_by j (pending ++ take n piece)
    (stream_from is_first (pending ++ take n piece) (drop n piece ++ further))
    (stream_from false [] (drop n piece ++ further))
reached is_first pending piece further n j before fronts e not_more =
    ap (stream_from is_first pending) split
    ∙ reach is_first pending (take n piece) (drop n piece ++ further) j (some (take n piece) e)
    (fronts_behind is_first pending (take n piece) fronts) e
  where
    split : piece ++ further ≡ take n piece ++ (drop n piece ++ further)
    split =
        ap (λ (l : List ℕ). l ++ further) (sym (take-append-drop n piece))
        ∙ append_assoc (take n piece) (drop n piece) further

    some : (octets : List ℕ) → judge is_first (pending ++ octets) ≡ j → 0 < length octets
    some [] same =
        absurd (not_more (sym same ∙ ap (judge is_first) (append-nil pending) ∙ before))
    some (b ∷ octets) same = omega arith

-- A piece that goes on with a message.
taken_stream : (old new : Held) (piece further : List ℕ) (r : Fed)
    → held_as old ≡ judged.More
    → IsTaken old piece r new
    → GoesOn old piece further r new
taken_stream old new piece further fed.More e s =
    let front : IsFront (old.pending ++ piece) =
    subst (λ (h : Held). IsFront h.pending) s.held s.front in
    let more : held_as new ≡ judged.More =
    front_judged new.is_first new.pending new.pending [] s.front (append-nil new.pending) in
    after_more old (piece ++ further) e
    ∙ go_on old.is_first old.pending piece further (λ part rest same.
    front_judged old.is_first (old.pending ++ piece) (old.pending ++ part) rest front
    (append_assoc old.pending part rest ∙ ap (λ (l : List ℕ). old.pending ++ l) same))
    ∙ ap (λ (h : Held). stream_from h.is_first h.pending further) (sym s.held)
    ∙ sym (after_more new further more)
taken_stream old new piece further (fed.Whole n) e s =
    let good : IsGood old.is_first (old.pending ++ take n piece) =
    subst (λ (h : Held). IsGood h.is_first h.pending) s.held s.good in
    let whole : held_as new ≡ judged.Whole = good_judged new.is_first new.pending s.good in
    after_more old (piece ++ further) e
    ∙ reached old.is_first old.pending piece further n judged.Whole e
    (good_fronts old.is_first (old.pending ++ take n piece) good)
    (good_judged old.is_first (old.pending ++ take n piece) good)
    (λ same. cc)
    ∙ ap (λ (h : Held). with_message h.pending (stream_from false [] (drop n piece ++ further)))
    (sym s.held)
    ∙ ap (with_message new.pending) (sym (after_whole new (drop n piece ++ further) whole))
taken_stream old new piece further (fed.Bad n why) e s =
    let bad : IsBad old.is_first why (old.pending ++ take n piece) =
    subst (λ (h : Held). IsBad h.is_first why h.pending) s.held s.is_bad in
    after_more old (piece ++ further) e
    ∙ reached old.is_first old.pending piece further n (judged.Bad why) e
    (bad_fronts old.is_first (old.pending ++ take n piece) why bad)
    (bad_judged old.is_first (old.pending ++ take n piece) why bad)
    (λ same. cc)

-- Behind a message the next one begins.
next_stream : (old new : Held) (piece further : List ℕ) (r : Fed)
    → held_as old ≡ judged.Whole
    → GoesOn between_messages piece further r new
    → GoesOn old piece further r new
unfolding judge
next_stream old new piece further fed.More e s = after_whole old (piece ++ further) e ∙ s
next_stream old new piece further (fed.Whole n) e s = after_whole old (piece ++ further) e ∙ s
next_stream old new piece further (fed.Bad n why) e s = after_whole old (piece ++ further) e ∙ s

-- What a piece gives, with any further octets.
pub fed_stream : (old new : Held) (piece further : List ℕ) (r : Fed)
    → IsFed old piece r new
    → GoesOn old piece further r new
fed_stream old new piece further r s = by (held_as old) refl s
  where
    broken_on : (why : StreamBad) (q : Fed) (h : Held)
        → held_as old ≡ judged.Bad why
        → q ≡ fed.Bad 0 why
        → h ≡ old
        → GoesOn old piece further q h
    broken_on why q h e is same =
        subst (λ (a : Fed). GoesOn old piece further a h) (sym is)
        (after_bad old (piece ++ further) why e)

    by : (j : Judged)
        → held_as old ≡ j
        → IsFedBy j old piece r new
        → GoesOn old piece further r new
    by judged.More e s = taken_stream old new piece further r e s
    by judged.Whole e s =
        next_stream old new piece further r e
        (taken_stream between_messages new piece further r between_open s)
    by (judged.Bad why) e s = broken_on why r new e s.0 s.1
