-- How many messages ended so far, and what is held then.
use Rattle.std.proofs.Common.{◌≡◌, ℕ, ◌+◌, ◌<◌, List, [], length}
use Rattle.std.proofs.Common.{refl, sym, ap, ◌∙◌, append-nil, arith}
use Rattle.stream_model.specs.declared.messages.StreamBad.{StreamBad}
use Rattle.stream_model.specs.declared.messages.Judged.{Judged}
use Rattle.stream_model.specs.declared.messages.Judged.TheVariants as judged
use Rattle.stream_model.specs.Streams.{Stream, broken, with_message}
use Rattle.stream_model.proofs.ReadingLaws.{bad_judged, front_judged, good_judged}
use Rattle.stream_reader.specs.declared.feeding.Fed.TheVariants as fed
use Rattle.stream_reader.specs.Reading.{
  Held,
  IsBroken,
  IsFed,
  IsFedBy,
  IsLess,
  IsWhole,
  between_messages,
  held_as,
  stream_after,
}
use Rattle.tcp_door.specs.Waiting.{HasBefore}

-- ---- what is held

less_bad : (n : ℕ) (why : StreamBad) → fed.More ≡ fed.Bad n why → ⊥
less_bad n why e = cc

whole_bad : (n m : ℕ) (why : StreamBad) → fed.Whole n ≡ fed.Bad m why → ⊥
whole_bad n m why e = cc

same_bad : (n m : ℕ) (why other : StreamBad) → fed.Bad n why ≡ fed.Bad m other
    → why ≡ other
same_bad n m why other e = cc

-- Behind a piece with which no message is whole, less than a message is held.
pub more_held : (old new : Held) (piece : List ℕ) → IsFed old piece fed.More new
    → held_as new ≡ judged.More
more_held old new piece fed_so = by (held_as old) fed_so
  where
    of : (h : Held) → IsLess h piece new → held_as new ≡ judged.More
    of h s =
        front_judged new.is_first new.pending new.pending [] s.front (append-nil new.pending)

    by : (j : Judged) → IsFedBy j old piece fed.More new → held_as new ≡ judged.More
    by judged.More s = of old s
    by judged.Whole s = of between_messages s
    by (judged.Bad why) s = absurd (less_bad 0 why s.0)

-- Behind one that makes a message whole, that message is held.
pub whole_held : (old new : Held) (piece : List ℕ) (n : ℕ)
    → IsFed old piece (fed.Whole n) new
    → held_as new ≡ judged.Whole
whole_held old new piece n fed_so = by (held_as old) fed_so
  where
    of : (h : Held) → IsWhole h piece n new → held_as new ≡ judged.Whole
    of h s = good_judged new.is_first new.pending s.good

    by : (j : Judged) → IsFedBy j old piece (fed.Whole n) new
        → held_as new ≡ judged.Whole
    by judged.More s = of old s
    by judged.Whole s = of between_messages s
    by (judged.Bad why) s = absurd (whole_bad n 0 why s.0)

-- Behind a bad one, that one is held.
pub bad_held : (old new : Held) (piece : List ℕ) (n : ℕ) (why : StreamBad)
    → IsFed old piece (fed.Bad n why) new
    → held_as new ≡ judged.Bad why
bad_held old new piece n why fed_so = by (held_as old) refl fed_so
  where
    of : (h : Held) → IsBroken h piece n why new → held_as new ≡ judged.Bad why
    of h s = bad_judged new.is_first new.pending why s.is_bad

    by : (j : Judged) → held_as old ≡ j → IsFedBy j old piece (fed.Bad n why) new
        → held_as new ≡ judged.Bad why
    by judged.More is s = of old s
    by judged.Whole is s = of between_messages s
    by (judged.Bad other) is s =
        ap held_as s.1
        ∙ is
        ∙ ap (λ (w : StreamBad). judged.Bad w) (sym (same_bad n 0 why other s.0))

-- ---- how many messages

-- One message more.
pub one_more : (n : ℕ) (whole old new : Stream) (message : List ℕ)
    → HasBefore n whole old
    → old ≡ with_message message new
    → HasBefore (n + 1) whole new
one_more n whole old new message has is =
    let count = ap (λ (s : Stream). length s.messages) is in record {
      messages = omega (arith, has.messages, count);
      fault = has.fault ∙ ap (λ (s : Stream). s.fault) is;
      rest = has.rest ∙ ap (λ (s : Stream). s.rest) is;
    }

pub some_more : (n : ℕ) → 0 < n + 1
some_more n = omega arith

-- None more.
pub none_more : (n : ℕ) (whole old new : Stream) → HasBefore n whole old
    → old ≡ new
    → HasBefore n whole new
none_more n whole old new has is = record {
  messages = has.messages ∙ ap (λ (s : Stream). n + length s.messages) is;
  fault = has.fault ∙ ap (λ (s : Stream). s.fault) is;
  rest = has.rest ∙ ap (λ (s : Stream). s.rest) is;
}

-- Behind a bad message nothing more is found.
pub broken_after : (h : Held) (why : StreamBad) (further : List ℕ)
    → held_as h ≡ judged.Bad why
    → stream_after h further ≡ broken why
broken_after h why further is = rw is refl
