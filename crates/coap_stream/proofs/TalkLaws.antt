-- A conversation, message by message.
use Rattle.std.proofs.Common.{
  ◌≡◌,
  ℕ,
  ◌+◌,
  ◌*◌,
  ◌<◌,
  ◌≤◌,
  ◌==◌,
  Bool,
  true,
  false,
}
use Rattle.std.proofs.Common.{List, [], ◌∷◌, ◌++◌, drop, take, Option, Some, None, refl}
use Rattle.std.proofs.Common.{sym, ap, subst, ◌∙◌, append_assoc, append-nil, arith}
use Rattle.std.specs.Prelude.{reverse}
use Rattle.std.proofs.lemmas.List.{reverse-append, take-append-drop}
use Rattle.stream_model.proofs.ReadingLaws.{bad_judged}
use Rattle.rd_base.proofs.lemmas.Options.{some_same}
use Rattle.coap_stream.specs.declared.lines.Line.{Line}
use Rattle.stream_model.specs.declared.messages.StreamBad.{StreamBad}
use Rattle.stream_model.specs.Streams.{Stream, stream_of, with_message, broken}
use Rattle.stream_reader.specs.declared.feeding.Fed.TheVariants as fed
use Rattle.stream_model.specs.declared.messages.Judged.{Judged}
use Rattle.stream_model.specs.declared.messages.Judged.TheVariants as judged
use Rattle.stream_reader.specs.Reading.{
  Held,
  GoesOn,
  IsBroken,
  IsFed,
  IsFedBy,
  between_messages,
  held_as,
  stream_after,
  with_octets,
}
use Rattle.stream_reader.specs.Shown.{Shown, shown_in}
use Rattle.rd_seat.specs.Callers.{CallerSeen}
use Rattle.rd_seat.proofs.CallLaws.{CallsMade-then}
use Rattle.coap_stream.specs.declared.purposes.Meant.{Meant}
use Rattle.coap_stream.specs.declared.purposes.Meant.TheVariants as meant
use Rattle.coap_stream.specs.declared.refusing.Unasked.{Unasked}
use Rattle.coap_stream.specs.declared.talked.TalkEnd.{TalkEnd}
use Rattle.coap_stream.specs.declared.talked.TalkEnd.TheVariants as end_as
use Rattle.coap_stream.specs.Requests.{meant_by, heard_as, number_asked, unasked_of}
use Rattle.coap_stream.specs.Calls.{as_they_came}
use Rattle.coap_stream.specs.Made.{VoiceSeen, Speaks}
use Rattle.coap_stream.specs.Answered.{MessageDone}
use Rattle.coap_stream.specs.Talks.{
  Exchange,
  Answers,
  AnswersAs,
  AnswersRequest,
  asked_as,
  asked_by,
  asked_of,
  calls_of,
  written_of,
  ends_by,
  end_by,
  ended_by,
  most_asked,
  opening,
  size_of_all,
}
use Rattle.coap_stream.specs.Manners.{size_after}
use Rattle.coap_stream.specs.Endings.{TalkSeen, AreFirst, EndsSo}
use Rattle.coap_stream.specs.Talking.{
  Counts,
  WasHeard,
  Answering,
  HoldsBad,
  HoldsCause,
  IsAmong,
  TalksSo,
  TalksTo,
  TalksUntil,
  voice_of,
  with_messages,
}
use Rattle.coap_stream.proofs.VoiceLaws.{Speaks-then}

-- ---- what a message hands to the seat and drops

drops_request : (line : Line) (asked most : ℕ) (why : Option Unasked) (e : Exchange)
    → AnswersRequest line asked most why e → e.dropped ≤ 1152
    → e.dropped ≤ 1152 * number_asked why
drops_request line asked most None e answers few = omega (arith, few)
drops_request line asked most (Some why) e answers few = omega (arith, answers.dropped)

drops_as : (line : Line) (asked most : ℕ) (m : Meant) (e : Exchange)
    → AnswersAs line asked most m e → e.dropped ≤ 1152
    → e.dropped ≤ 1152 * asked_as m (unasked_of (heard_as asked e.message))
drops_as line asked most meant.Passed e answers few = omega (arith, answers.dropped)
drops_as line asked most meant.Ping e answers few = omega (arith, answers.dropped)
drops_as line asked most meant.Release e answers few = omega (arith, answers.dropped)
drops_as line asked most meant.Abort e answers few = omega (arith, answers.dropped)
drops_as line asked most meant.Request e answers few =
    drops_request line asked most (unasked_of (heard_as asked e.message)) e answers few

pub asks_few : (m : Meant) (why : Option Unasked) → asked_as m why ≤ 1
asks_few meant.Passed why = omega arith
asks_few meant.Ping why = omega arith
asks_few meant.Release why = omega arith
asks_few meant.Abort why = omega arith
asks_few meant.Request None = omega arith
asks_few meant.Request (Some why) = omega arith

pub not_spent : (x : Option TalkEnd) (n : ℕ) → None ≡ end_by x (n == most_asked)
    → n ≡ most_asked → ⊥
not_spent x n is same =
    by x (subst (λ (k : ℕ). None ≡ end_by x (k == most_asked)) same is)
  where
    by : (y : Option TalkEnd) → None ≡ end_by y (most_asked == most_asked) → ⊥
    by None e = cc
    by (Some end) e = cc

-- There is a number for one request more.
pub heard_few : (shown : Shown) (end : Option TalkEnd) (asked asked_then : ℕ)
    → asked_then ≡ asked + asked_by asked shown
    → end ≡ end_by (ends_by (meant_by shown.code)) (asked_then == most_asked)
    → asked < 65536 → end ≡ None → asked_then < 65536
heard_few shown end asked asked_then more ends few none =
    let one = asks_few (meant_by shown.code) (unasked_of (heard_as asked shown)) in
    let least : asked_then ≤ 65536 = omega (arith, more, one, few) in
    let other : asked_then ≡ 65536 → ⊥ =
    not_spent (ends_by (meant_by shown.code)) asked_then (sym none ∙ ends) in
    below asked_then least other
  where
    below : (n : ℕ) → n ≤ 65536 → (n ≡ 65536 → ⊥) → n < 65536
    below n least other = omega (arith, least, other)

-- And room for what its ticks send.
pub heard_room : (line : Line) (shown : Shown) (a b : CallerSeen) (v w : VoiceSeen)
    (asked asked_then most dropped dropped_then : ℕ)
    → MessageDone line asked most shown a b v w dropped dropped_then
    → asked_then ≡ asked + asked_by asked shown
    → dropped ≤ 1152 * asked → dropped_then ≤ 1152 * asked_then
heard_room line shown a b v w asked asked_then most dropped dropped_then done more room =
    let e = done.exchange in
    let drops : e.dropped ≤ 1152 * asked_by asked e.message =
    drops_as line asked most (meant_by e.message.code) e done.answers done.done.few in
    let same : asked_by asked e.message ≡ asked_by asked shown =
    ap (λ (s : Shown). asked_by asked s) done.same in
    omega (arith, drops, same, done.done.drops, more, room)

-- ---- one message more

-- What is seen after it.
abbrev pub then_seen : TalkSeen → CallerSeen → VoiceSeen → TalkSeen
then_seen now after spoken =
    record now { caller = after; holds = spoken.holds; write_faults = spoken.faults }

record AnsweredMore (line : Line) (before now : TalkSeen) (still : Bool) (counts : Counts)
    (taken : List ℕ) (messages : List (List ℕ)) (exchanges : List Exchange)
    (end : Option TalkEnd) : Type 0 where
  pub exchange : Exchange
  pub answering : Answering line before now still counts taken messages (exchange ∷ exchanges)
  pub ended : ended_by (exchange ∷ exchanges) ≡ end

answered_more : (line : Line) (before now : TalkSeen) (after : CallerSeen) (spoken : VoiceSeen)
    (counts counted : Counts) (end : Option TalkEnd) (taken : List ℕ)
    (messages : List (List ℕ)) (exchanges : List Exchange) (octets : List ℕ)
    → Answering line before now true counts taken messages exchanges
    → ended_by exchanges ≡ None
    → WasHeard line (shown_in octets) end now.caller after (voice_of true now) spoken
    counts counted
    → AnsweredMore line before (then_seen now after spoken) spoken.open_still counted taken
    (octets ∷ messages) exchanges end
answered_more line before now after spoken counts counted end taken messages es octets r goes was =
    let e = was.done.exchange in
    let asked : counted.asked ≡ asked_of (e ∷ es) =
    was.asked
    ∙ ap (λ (n : ℕ). n + asked_by n was.shown) r.asked
    ∙ ap (λ (s : Shown). asked_of es + asked_by (asked_of es) s) (sym was.done.same) in
    let most : counted.most ≡ size_of_all (e ∷ es) =
    was.most
    ∙ ap (λ (n : ℕ). size_after n was.shown) r.most
    ∙ ap (λ (s : Shown). size_after (size_of_all es) s) (sym was.done.same) in
    record {
      exchange = e;
      answering = record {
        read = r.read;
        read_faults = r.read_faults;
        shown = (was.is ∙ ap (λ (s : Shown). Some s) (sym was.done.same), r.shown);
        answered = (
          r.answered,
          goes,
          subst (λ (n : ℕ). Answers line (asked_of es) n e) r.most
              (subst (λ (n : ℕ). Answers line n counts.most e) r.asked was.done.answers),
        );
        made = CallsMade-then as_they_came (calls_of es) e.calls before.caller now.caller after
            r.made was.done.done.made;
        written = subst (λ (l : List ℕ). Speaks (voice_of true before) l spoken)
            (append_assoc (opening line) (written_of es) e.written)
            (Speaks-then (voice_of true before) (voice_of true now) spoken
            (opening line ++ written_of es) e.written r.written was.done.done.written);
        asked = asked;
        dropped = was.done.done.drops
            ∙ ap (λ (n : ℕ). n + e.dropped) r.dropped;
        most = most;
      };
      ended =
          ap (λ (s : Shown).
          end_by (ends_by (meant_by s.code)) (asked_of (e ∷ es) == most_asked))
          was.done.same
          ∙ ap (λ (n : ℕ). end_by (ends_by (meant_by was.shown.code)) (n == most_asked))
          (sym asked)
          ∙ sym was.ends;
    }

-- A message behind others, before those of a stream.
messages_more : (messages : List (List ℕ)) (message : List ℕ) (s : Stream)
    → with_messages messages (with_message message s) ≡ with_messages (message ∷ messages) s
messages_more messages message s =
    ap (λ (l : List (List ℕ)). with_list l)
    (sym (ap (λ (l : List (List ℕ)). l ++ s.messages) (reverse-append (message ∷ []) messages)
    ∙ append_assoc (reverse messages) (message ∷ []) s.messages))
  where
    with_list : List (List ℕ) → Stream
    with_list l = record s { messages = l }

-- What was read is these messages and one more, and then what follows it.
stream_more : (taken : List ℕ) (messages : List (List ℕ)) (held next : Held) (rest : List ℕ)
    (n : ℕ)
    → ((further : List ℕ) → stream_of (taken ++ further)
    ≡ with_messages messages (stream_after held (rest ++ further)))
    → ((further : List ℕ) → GoesOn held rest further (fed.Whole n) next)
    → (further : List ℕ) → stream_of (taken ++ further)
    ≡ with_messages (next.pending ∷ messages) (stream_after next (drop n rest ++ further))
stream_more taken messages held next rest n stream goes further =
    stream further
    ∙ ap (with_messages messages) (goes further)
    ∙ messages_more messages next.pending (stream_after next (drop n rest ++ further))

are_first : (taken : List ℕ) (messages : List (List ℕ)) (s : List ℕ → Stream)
    → ((further : List ℕ)
    → stream_of (taken ++ further) ≡ with_messages messages (s further))
    → (further : List ℕ) → AreFirst messages (stream_of (taken ++ further))
are_first taken messages s stream further = record {
  more = (s further).messages;
  all = ap (λ (x : Stream). x.messages) (stream further);
}

-- ---- the octets that the reader holds

other_whole : (n m : ℕ) (why : StreamBad) → fed.Whole n ≡ fed.Bad m why → ⊥
other_whole n m why e = cc

other_more : (m : ℕ) (why : StreamBad) → fed.More ≡ fed.Bad m why → ⊥
other_more m why e = cc

-- What was held is spent when the next message begins.
among_next : (taken pending rest : List ℕ) → IsAmong taken pending rest → IsAmong taken [] rest
among_next taken pending rest a = record {
  spent = a.spent ++ pending;
  whole = a.whole ∙ sym (append_assoc a.spent pending rest);
}

-- Octets that are taken of the rest are held.
among_taken : (taken pending rest : List ℕ) (n : ℕ) → IsAmong taken pending rest
    → IsAmong taken (pending ++ take n rest) (drop n rest)
among_taken taken pending rest n a = record {
  spent = a.spent;
  whole = a.whole
      ∙ ap (λ (l : List ℕ). a.spent ++ (pending ++ l)) (sym (take-append-drop n rest))
      ∙ ap (λ (l : List ℕ). a.spent ++ l) (sym (append_assoc pending (take n rest) (drop n rest)));
}

among_held : (taken rest : List ℕ) (n : ℕ) (held next : Held)
    → next ≡ with_octets held (take n rest) → IsAmong taken held.pending rest
    → IsAmong taken next.pending (drop n rest)
among_held taken rest n held next is a =
    subst (λ (h : Held). IsAmong taken h.pending (drop n rest)) (sym is)
    (among_taken taken held.pending rest n a)

pub among_whole : (taken : List ℕ) (held next : Held) (rest : List ℕ) (n : ℕ)
    → IsAmong taken held.pending rest → IsFed held rest (fed.Whole n) next
    → IsAmong taken next.pending (drop n rest)
among_whole taken held next rest n a feeds = by (held_as held) feeds
  where
    by : (j : Judged) → IsFedBy j held rest (fed.Whole n) next
        → IsAmong taken next.pending (drop n rest)
    by judged.More s = among_held taken rest n held next s.held a
    by judged.Whole s =
        among_held taken rest n between_messages next s.held
        (among_next taken held.pending rest a)
    by (judged.Bad why) s = absurd (other_whole n 0 why s.0)

among_all : (taken rest : List ℕ) (held next : Held)
    → next ≡ with_octets held rest → IsAmong taken held.pending rest
    → IsAmong taken next.pending []
among_all taken rest held next is a =
    subst (λ (h : Held). IsAmong taken h.pending []) (sym is)
    (record {
      spent = a.spent;
      whole = a.whole
          ∙ ap (λ (l : List ℕ). a.spent ++ l) (sym (append-nil (held.pending ++ rest)));
    })

pub among_less : (taken : List ℕ) (held next : Held) (rest : List ℕ)
    → IsAmong taken held.pending rest → IsFed held rest fed.More next
    → IsAmong taken next.pending []
among_less taken held next rest a feeds = by (held_as held) feeds
  where
    by : (j : Judged) → IsFedBy j held rest fed.More next → IsAmong taken next.pending []
    by judged.More s = among_all taken rest held next s.held a
    by judged.Whole s =
        among_all taken rest between_messages next s.held (among_next taken held.pending rest a)
    by (judged.Bad why) s = absurd (other_more 0 why s.0)

-- A message that is bad is held.
pub among_bad : (taken : List ℕ) (held next : Held) (rest : List ℕ) (n : ℕ) (why : StreamBad)
    → IsAmong taken held.pending rest → IsFed held rest (fed.Bad n why) next
    → HoldsBad why taken next
among_bad taken held next rest n why a feeds = by (held_as held) refl feeds
  where
    bad_as : (h : Held) → IsBroken h rest n why next → IsAmong taken h.pending rest
        → HoldsBad why taken next
    bad_as h s b = record {
      more = drop n rest;
      among = among_held taken rest n h next s.held b;
      verdict = bad_judged next.is_first next.pending why s.is_bad;
    }

    by : (j : Judged) → held_as held ≡ j → IsFedBy j held rest (fed.Bad n why) next
        → HoldsBad why taken next
    by judged.More is s = bad_as held s a
    by judged.Whole is s =
        bad_as between_messages s (among_next taken held.pending rest a)
    by (judged.Bad other) is s =
        let same : why ≡ other = cc in
        subst (λ (h : Held). HoldsBad why taken h) (sym s.1)
        (record {
          more = rest;
          among = a;
          verdict = is ∙ ap (λ (w : StreamBad). judged.Bad w) (sym same);
        })

-- It goes on behind a message.
pub goes_on_more : (line : Line) (before now : TalkSeen) (after : CallerSeen)
    (spoken : VoiceSeen) (counts counted : Counts) (held next : Held) (rest : List ℕ) (n : ℕ)
    → TalksSo line before now counts held rest
    → IsFed held rest (fed.Whole n) next
    → ((further : List ℕ) → GoesOn held rest further (fed.Whole n) next)
    → WasHeard line (shown_in next.pending) None now.caller after (voice_of true now) spoken
    counts counted
    → spoken.open_still ≡ true
    → TalksSo line before (then_seen now after spoken) counted next (drop n rest)
goes_on_more line before now after spoken counts counted held next rest n r feeds goes was still =
    let more = answered_more line before now after spoken counts counted None r.taken r.messages
    r.exchanges next.pending r.answering r.goes_on was in
    record {
      taken = r.taken;
      messages = next.pending ∷ r.messages;
      exchanges = more.exchange ∷ r.exchanges;
      answering = subst (λ (b : Bool). Answering line before (then_seen now after spoken) b counted
          r.taken (next.pending ∷ r.messages) (more.exchange ∷ r.exchanges)) still
          more.answering;
      stream = stream_more r.taken r.messages held next rest n r.stream goes;
      goes_on = more.ended;
      among = among_whole r.taken held next rest n r.among feeds;
    }

-- How a message may end it.
ends_by_message : (taken : List ℕ) (messages : List (List ℕ)) (es : List Exchange)
    (left : Option (List ℕ)) (m : Meant) (b : Bool) (end : TalkEnd)
    → Some end ≡ end_by (ends_by m) b
    → ended_by es ≡ Some end
    → EndsSo end taken messages es left
ends_by_message taken messages es left m b end by ended = cases m b by
  where
    as_end : (x : TalkEnd) → Some end ≡ Some x
        → (ended_by es ≡ Some x → EndsSo x taken messages es left)
        → EndsSo end taken messages es left
    as_end x same so =
        subst (λ (y : TalkEnd). EndsSo y taken messages es left) (sym (some_same same))
        (so (ended ∙ same))

    spent : (c : Bool) → Some end ≡ end_by None c → EndsSo end taken messages es left
    spent true same = as_end end_as.Spent same (λ so. so)
    spent false same = absurd cc

    cases : (n : Meant) (c : Bool) → Some end ≡ end_by (ends_by n) c
        → EndsSo end taken messages es left
    cases meant.Release c same = as_end end_as.Released same (λ so. so)
    cases meant.Abort c same = as_end end_as.Aborted same (λ so. so)
    cases meant.Passed c same = spent c same
    cases meant.Ping c same = spent c same
    cases meant.Request c same = spent c same

-- No message that is answered is bad.
no_cause : (m : Meant) (b : Bool) (end : TalkEnd) (taken : List ℕ) (held : Held)
    → Some end ≡ end_by (ends_by m) b → HoldsCause end taken held
no_cause m b end taken held by = cases m b by
  where
    as_end : (x : TalkEnd) → Some end ≡ Some x → HoldsCause x taken held
        → HoldsCause end taken held
    as_end x same so =
        subst (λ (y : TalkEnd). HoldsCause y taken held) (sym (some_same same)) so

    spent : (c : Bool) → Some end ≡ end_by None c → HoldsCause end taken held
    spent true same = as_end end_as.Spent same tt
    spent false same = absurd cc

    cases : (n : Meant) (c : Bool) → Some end ≡ end_by (ends_by n) c
        → HoldsCause end taken held
    cases meant.Release c same = as_end end_as.Released same tt
    cases meant.Abort c same = as_end end_as.Aborted same tt
    cases meant.Passed c same = spent c same
    cases meant.Ping c same = spent c same
    cases meant.Request c same = spent c same

-- It ends with a message.
pub ends_with : (line : Line) (before now : TalkSeen) (after : CallerSeen)
    (spoken : VoiceSeen) (counts counted : Counts) (held next : Held) (rest : List ℕ) (n : ℕ)
    (end : TalkEnd)
    → TalksSo line before now counts held rest
    → ((further : List ℕ) → GoesOn held rest further (fed.Whole n) next)
    → WasHeard line (shown_in next.pending) (Some end) now.caller after (voice_of true now)
    spoken counts counted
    → spoken.open_still ≡ true
    → TalksTo line before (then_seen now after spoken) counted next end
ends_with line before now after spoken counts counted held next rest n end r goes was still =
    let more = answered_more line before now after spoken counts counted (Some end) r.taken
    r.messages r.exchanges next.pending r.answering r.goes_on was in
    record {
      taken = r.taken;
      messages = next.pending ∷ r.messages;
      exchanges = more.exchange ∷ r.exchanges;
      answering = subst (λ (b : Bool). Answering line before (then_seen now after spoken) b counted
          r.taken (next.pending ∷ r.messages) (more.exchange ∷ r.exchanges)) still
          more.answering;
      first = are_first r.taken (next.pending ∷ r.messages)
          (λ further. stream_after next (drop n rest ++ further))
          (stream_more r.taken r.messages held next rest n r.stream goes);
      ends = ends_by_message r.taken (next.pending ∷ r.messages)
          (more.exchange ∷ r.exchanges) now.source.left (meant_by was.shown.code)
          (counted.asked == most_asked) end was.ends more.ended;
      cause = no_cause (meant_by was.shown.code) (counted.asked == most_asked) end r.taken next
          was.ends;
    }

-- A writing failed at a message.
pub fails_at : (line : Line) (before now : TalkSeen) (after : CallerSeen)
    (spoken : VoiceSeen) (counts counted : Counts) (held next : Held) (rest : List ℕ) (n : ℕ)
    (end : Option TalkEnd)
    → TalksSo line before now counts held rest
    → ((further : List ℕ) → GoesOn held rest further (fed.Whole n) next)
    → WasHeard line (shown_in next.pending) end now.caller after (voice_of true now)
    spoken counts counted
    → spoken.open_still ≡ false
    → TalksUntil line before (then_seen now after spoken) counted
fails_at line before now after spoken counts counted held next rest n end r goes was still =
    let more = answered_more line before now after spoken counts counted end r.taken
    r.messages r.exchanges next.pending r.answering r.goes_on was in
    record {
      taken = r.taken;
      messages = next.pending ∷ r.messages;
      exchanges = more.exchange ∷ r.exchanges;
      answering = subst (λ (b : Bool). Answering line before (then_seen now after spoken) b counted
          r.taken (next.pending ∷ r.messages) (more.exchange ∷ r.exchanges)) still
          more.answering;
      first = are_first r.taken (next.pending ∷ r.messages)
          (λ further. stream_after next (drop n rest ++ further))
          (stream_more r.taken r.messages held next rest n r.stream goes);
    }

-- ---- where a piece ends, or a message is bad

-- Less than a message is left.
pub goes_on_less : (line : Line) (before now : TalkSeen) (counts : Counts) (held next : Held)
    (rest : List ℕ)
    → TalksSo line before now counts held rest
    → IsFed held rest fed.More next
    → ((further : List ℕ) → GoesOn held rest further fed.More next)
    → TalksSo line before now counts next []
goes_on_less line before now counts held next rest r feeds goes = record {
  taken = r.taken;
  messages = r.messages;
  exchanges = r.exchanges;
  answering = r.answering;
  stream = λ further. r.stream further ∙ ap (with_messages r.messages) (goes further);
  goes_on = r.goes_on;
  among = among_less r.taken held next rest r.among feeds;
}

-- The next message is bad.
pub ends_at_bad : (line : Line) (before now : TalkSeen) (counts : Counts) (held next : Held)
    (rest : List ℕ) (n : ℕ) (why : StreamBad)
    → TalksSo line before now counts held rest
    → IsFed held rest (fed.Bad n why) next
    → ((further : List ℕ) → GoesOn held rest further (fed.Bad n why) next)
    → TalksTo line before now counts next (end_as.Refused why)
ends_at_bad line before now counts held next rest n why r feeds goes =
    let stream : (further : List ℕ)
    → stream_of (r.taken ++ further) ≡ with_messages r.messages (broken why) =
    λ further. r.stream further ∙ ap (with_messages r.messages) (goes further) in
    record {
      taken = r.taken;
      messages = r.messages;
      exchanges = r.exchanges;
      answering = r.answering;
      first = are_first r.taken r.messages (λ further. broken why) stream;
      ends = (
        λ further. (record {
          all = ap (λ (s : Stream). s.messages) (stream further)
              ∙ append-nil (reverse r.messages);
          follows = ap (λ (s : Stream). s.fault) (stream further);
        }),
        r.goes_on,
      );
      cause = among_bad r.taken held next rest n why r.among feeds;
    }
