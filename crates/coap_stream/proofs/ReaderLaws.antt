-- What a reader holds after a piece.
use Rattle.std.proofs.Common.{◌≡◌, ℕ, ◌<◌, ◌==◌, Bool, true, false, List, [], length}
use Rattle.std.proofs.Common.{
  Option,
  Some,
  None,
  refl,
  sym,
  ap,
  subst,
  ◌∙◌,
  append-nil,
  arith,
}
use Rattle.std.specs.Prelude.{if◌then◌else◌}
use Rattle.std.specs.Option.{option_map}
use Rattle.std.proofs.lemmas.List.{length-append}
use Rattle.coap_stream.specs.declared.lines.Line.{Line}
use Rattle.rd_seat.specs.Callers.{CallerSeen}
use Rattle.message_model.specs.Codes.{is_request_code}
use Rattle.stream_model.specs.declared.messages.Judged.{Judged}
use Rattle.stream_model.specs.declared.messages.Judged.TheVariants as judged
use Rattle.stream_model.specs.declared.messages.StreamBad.{StreamBad}
use Rattle.stream_model.specs.declared.signals.TheConstants as signals
use Rattle.stream_model.specs.Streams.{IsGood, IsFront, partial, stream_from}
use Rattle.stream_model.proofs.ReadingLaws.{front_judged, good_judged}
use Rattle.stream_reader.specs.declared.feeding.Fed.TheVariants as fed
use Rattle.stream_reader.specs.declared.frames.Frame.{Frame}
use Rattle.stream_reader.specs.Reading.{
  Held,
  IsFed,
  IsFedBy,
  IsLess,
  between_messages,
  held_as,
  stream_after,
}
use Rattle.stream_reader.specs.Shown.{frame_shown, message_by, message_of, shown_in, Shown}
use Rattle.coap_stream.specs.declared.purposes.Meant.TheVariants as meant
use Rattle.coap_stream.specs.declared.talked.TalkEnd.{TalkEnd}
use Rattle.coap_stream.specs.declared.talked.TalkEnd.TheVariants as end_as
use Rattle.coap_stream.specs.Requests.{IsRequest, meant_by}
use Rattle.coap_stream.specs.Made.{VoiceSeen}
use Rattle.coap_stream.specs.Endings.{TalkSeen}
use Rattle.coap_stream.specs.Talking.{Counts, WasHeard, WouldEnd, voice_of}
use Rattle.coap_stream.proofs.ShownLaws.{FitsDatagram, good_fits, good_request, good_shown}

-- ---- a whole message

other_fed : (n : ℕ) (why : StreamBad) → fed.Whole n ≡ fed.Bad 0 why → ⊥
other_fed n why e = cc

-- A message that is whole is good.
pub whole_good : (old new : Held) (piece : List ℕ) (n : ℕ)
    → IsFed old piece (fed.Whole n) new
    → IsGood new.is_first new.pending
whole_good old new piece n fed_so = by (held_as old) fed_so
  where
    by : (j : Judged) → IsFedBy j old piece (fed.Whole n) new
        → IsGood new.is_first new.pending
    by judged.More s = s.good
    by judged.Whole s = s.good
    by (judged.Bad why) s = absurd (other_fed n why s.0)

-- The message that a reader gives is what its octets show.
pub message_shown : (h : Held) → IsGood h.is_first h.pending
    → message_of h ≡ shown_in h.pending
message_shown h good =
    ap (λ (j : Judged). message_by j h.pending) (good_judged h.is_first h.pending good)

-- Behind it there is nothing.
pub nothing_behind : (h : Held) → IsGood h.is_first h.pending
    → stream_after h [] ≡ partial []
unfolding stream_from
nothing_behind h good = rw (good_judged h.is_first h.pending good) refl

-- A reader that holds a good message gives a frame.
pub frame_there : (h : Held) (o : Option Frame) → IsGood h.is_first h.pending
    → option_map frame_shown o ≡ message_of h
    → o ≡ None
    → ⊥
frame_there h o good is none =
    let s = good_shown h.is_first h.pending good in
    none_some s.0 (ap (λ (p : Option Frame). option_map frame_shown p) (sym none)
    ∙ is ∙ message_shown h good ∙ s.1)
  where
    none_some : (s : Shown) → None ≡ Some s → ⊥
    none_some s e = cc

-- And that frame fits a datagram.
pub frame_fits : (h : Held) (o : Option Frame) (f : Frame) → IsGood h.is_first h.pending
    → option_map frame_shown o ≡ message_of h
    → o ≡ Some f
    → FitsDatagram (frame_shown f)
frame_fits h o f good is some =
    good_fits h.is_first h.pending (frame_shown f) good
    (sym (message_shown h good) ∙ sym is
    ∙ ap (λ (p : Option Frame). option_map frame_shown p) some)

-- What is meant as a request has a request's code.
meant_request : (c : ℕ) → meant_by c ≡ meant.Request → is_request_code c ≡ true
meant_request c is =
    by (c == signals.PING) (c == signals.RELEASE) (c == signals.ABORT) (is_request_code c) is
  where
    by : (p q r s : Bool)
        → (if p then meant.Ping else (if q then meant.Release
        else (if r then meant.Abort else (if s then meant.Request else meant.Passed))))
        ≡ meant.Request
        → s ≡ true
    by true q r s e = absurd cc
    by false true r s e = absurd cc
    by false false true s e = absurd cc
    by false false false true e = refl
    by false false false false e = absurd cc

pub frame_request : (f : Frame) → FitsDatagram (frame_shown f)
    → meant_by f.code ≡ meant.Request
    → IsRequest (frame_shown f)
frame_request f fits is = good_request (frame_shown f) fits (meant_request f.code is)

-- ---- less than a message

less_whole : (n : ℕ) (why : StreamBad) → fed.More ≡ fed.Bad n why → ⊥
less_whole n why e = cc

record IsLeft (old new : Held) (piece : List ℕ) : Type 0 where
  pub front : IsFront new.pending
  pub some : 0 < length piece → 0 < length new.pending

left_in : (old new : Held) (piece : List ℕ) → IsFed old piece fed.More new
    → IsLeft old new piece
left_in old new piece fed_so = by (held_as old) fed_so
  where
    of : (h : Held) → IsLess h piece new → IsLeft old new piece
    of h s = record {
      front = s.front;
      some = λ more.
          (let whole = ap (λ (k : Held). length k.pending) s.held
          ∙ length-append h.pending piece in omega (arith, whole, more));
    }

    by : (j : Judged) → IsFedBy j old piece fed.More new → IsLeft old new piece
    by judged.More s = of old s
    by judged.Whole s = of between_messages s
    by (judged.Bad why) s = absurd (less_whole 0 why s.0)

-- Within a message the octets that came of it are left.
pub within_message : (old new : Held) (piece : List ℕ)
    → IsFed old piece fed.More new
    → 0 < length piece
    → WouldEnd end_as.Cut (stream_after new [])
unfolding stream_from
within_message old new piece fed_so more =
    let left = left_in old new piece fed_so in
    let is_more : held_as new ≡ judged.More =
    front_judged new.is_first new.pending new.pending [] left.front (append-nil new.pending) in
    (new.pending, left.some more, rw is_more refl)

-- ---- what was heard

-- A message that was heard from a reader is the one that its octets show.
pub as_shown : (line : Line) (h : Held) (end : Option TalkEnd) (a b : CallerSeen)
    (now : TalkSeen) (still : Bool) (w : VoiceSeen) (counts counted : Counts)
    → IsGood h.is_first h.pending
    → still ≡ true
    → WasHeard line (message_of h) end a b (voice_of still now) w counts counted
    → WasHeard line (shown_in h.pending) end a b (voice_of true now) w counts counted
as_shown line h end a b now still w counts counted good is was =
    subst (λ (o : Option Shown). WasHeard line o end a b (voice_of true now) w counts counted)
    (message_shown h good)
    (subst (λ (x : Bool).
    WasHeard line (message_of h) end a b (voice_of x now) w counts counted) is was)
