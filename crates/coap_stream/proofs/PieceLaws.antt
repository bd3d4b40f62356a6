-- A conversation, piece by piece, to its end.
use Rattle.std.proofs.Common.{◌≡◌, ℕ, ◌<◌, ◌≤◌, Bool, true, false, List, []}
use Rattle.std.proofs.Common.{◌++◌, length, Option, Some, None, Result, Err}
use Rattle.std.proofs.Common.{refl, sym, ap, subst, ◌∙◌, append_assoc, append-nil}
use Rattle.std.specs.Prelude.{reverse}
use Rattle.std.specs.Io.KnownBytes.{Consumes, IsAtEnd, Keeps}
use Rattle.std.proofs.KnownBytes.{Appends-nil, Consumes-nil, Consumes-trans, Consumes-kept}
use Rattle.coap_stream.specs.declared.lines.Line.{Line}
use Rattle.rd_base.specs.Outside.{Rose}
use Rattle.stream_model.specs.Judging.{judge}
use Rattle.stream_model.specs.Streams.{Stream, stream_from, stream_of, partial}
use Rattle.stream_reader.specs.Reading.{Held, at_beginning, stream_after}
use Rattle.rd_seat.proofs.CallLaws.{CallsMade-none}
use Rattle.coap_stream.specs.declared.talked.TalkEnd.{TalkEnd}
use Rattle.coap_stream.specs.declared.talked.TalkEnd.TheVariants as end_as
use Rattle.coap_stream.specs.declared.talked.TalkFault.{TalkFault}
use Rattle.coap_stream.specs.declared.talked.TalkFault.TheVariants as fault
use Rattle.coap_stream.specs.declared.talked.Talked.{Talked}
use Rattle.coap_stream.specs.Calls.{as_they_came}
use Rattle.coap_stream.specs.Made.{VoiceSeen, Speaks, SpeaksBy}
use Rattle.coap_stream.specs.Talks.{Exchange, ended_by, written_of, opening, farewell}
use Rattle.coap_stream.specs.Endings.{
  TalkSeen,
  SourceSeen,
  AreAll,
  EndsSo,
  IsCause,
  IsFarewell,
  TalksOver,
  cause_by,
}
use Rattle.coap_stream.specs.Manners.{usual_size}
use Rattle.coap_stream.specs.Talking.{
  Counts,
  Answering,
  HoldsCause,
  TalksSo,
  TalksTo,
  TalksUntil,
  WouldEnd,
  voice_of,
  with_messages,
  told_if,
}
use Rattle.coap_stream.proofs.VoiceLaws.{Speaks-then}

-- ---- the beginning

abbrev counts_none : Counts
counts_none = record { asked = 0; dropped = 0; most = usual_size }

-- What is seen when so much was written.
abbrev pub said_seen : TalkSeen → VoiceSeen → TalkSeen
said_seen t spoken = record t { holds = spoken.holds; write_faults = spoken.faults }

begins_answering : (line : Line) (before : TalkSeen) (spoken : VoiceSeen)
    → Speaks (voice_of true before) (opening line) spoken
    → Answering line before (said_seen before spoken) spoken.open_still counts_none [] [] []
begins_answering line before spoken speaks = record {
  read = Consumes-nil before.source.left;
  read_faults = refl;
  shown = tt;
  answered = tt;
  made = CallsMade-none as_they_came before.caller;
  written = subst (λ (l : List ℕ). Speaks (voice_of true before) l spoken)
      (sym (append-nil (opening line))) speaks;
  asked = refl;
  dropped = refl;
  most = refl;
}

-- The first piece may come.
pub talk_begins : (line : Line) (before : TalkSeen) (spoken : VoiceSeen)
    → Speaks (voice_of true before) (opening line) spoken
    → spoken.open_still ≡ true
    → TalksSo line before (said_seen before spoken) counts_none at_beginning []
unfolding judge
talk_begins line before spoken speaks still = record {
  taken = [];
  messages = [];
  exchanges = [];
  answering = subst (λ (b : Bool).
      Answering line before (said_seen before spoken) b counts_none [] [] []) still
      (begins_answering line before spoken speaks);
  stream = λ further. refl;
  goes_on = refl;
  among = record { spent = []; whole = refl };
}

-- The writing of the CSM failed.
pub talk_unbegun : (line : Line) (before : TalkSeen) (spoken : VoiceSeen)
    → Speaks (voice_of true before) (opening line) spoken
    → spoken.open_still ≡ false
    → TalksUntil line before (said_seen before spoken) counts_none
talk_unbegun line before spoken speaks still = record {
  taken = [];
  messages = [];
  exchanges = [];
  answering = subst (λ (b : Bool).
      Answering line before (said_seen before spoken) b counts_none [] [] []) still
      (begins_answering line before spoken speaks);
  first = λ further. (record { more = (stream_of further).messages; all = refl });
}

-- ---- readings

abbrev pub read_seen : TalkSeen → SourceSeen → TalkSeen
read_seen t source = record t { source = source }

with_read : (line : Line) (before now : TalkSeen) (source : SourceSeen) (still : Bool)
    (counts : Counts) (taken piece : List ℕ) (messages : List (List ℕ))
    (exchanges : List Exchange)
    → Answering line before now still counts taken messages exchanges
    → Consumes now.source.left source.left piece
    → source.faults ≡ now.source.faults
    → Answering line before (read_seen now source) still counts (taken ++ piece) messages
    exchanges
with_read line before now source still counts taken piece messages exchanges r reads same =
    record {
      read = Consumes-trans before.source.left now.source.left source.left taken piece
          r.read reads;
      read_faults = same ∙ r.read_faults;
      shown = r.shown;
      answered = r.answered;
      made = r.made;
      written = r.written;
      asked = r.asked;
      dropped = r.dropped;
      most = r.most;
    }

-- A piece was read.
pub talk_reads : (line : Line) (before now : TalkSeen) (source : SourceSeen) (counts : Counts)
    (held : Held) (piece : List ℕ)
    → TalksSo line before now counts held []
    → Consumes now.source.left source.left piece
    → source.faults ≡ now.source.faults
    → TalksSo line before (read_seen now source) counts held piece
talk_reads line before now source counts held piece r reads same = record {
  taken = r.taken ++ piece;
  messages = r.messages;
  exchanges = r.exchanges;
  answering = with_read line before now source true counts r.taken piece r.messages r.exchanges
      r.answering reads same;
  stream = λ further. ap stream_of (append_assoc r.taken piece further)
      ∙ r.stream (piece ++ further);
  goes_on = r.goes_on;
  among = record {
    spent = r.among.spent;
    whole = ap (λ (l : List ℕ). l ++ piece) r.among.whole
        ∙ append_assoc r.among.spent (held.pending ++ []) piece
        ∙ ap (λ (l : List ℕ). r.among.spent ++ (l ++ piece)) (append-nil held.pending);
  };
}

-- ---- the end of the source

-- What the messages and what follows them give, when nothing more comes.
at_end : (taken : List ℕ) (messages : List (List ℕ)) (exchanges : List Exchange) (held : Held)
    (left : Option (List ℕ)) (end : TalkEnd)
    → stream_of (taken ++ []) ≡ with_messages messages (stream_after held [])
    → WouldEnd end (stream_after held [])
    → IsAtEnd left
    → ended_by exchanges ≡ None
    → EndsSo end taken messages exchanges left
at_end taken messages exchanges held left end stream would all goes = by end would
  where
    is : stream_of taken ≡ with_messages messages (stream_after held [])
    is = ap stream_of (sym (append-nil taken)) ∙ stream

    whole : (rest : List ℕ) → stream_after held [] ≡ partial rest
        → AreAll messages None (stream_of taken)
    whole rest e = record {
      all = ap (λ (s : Stream). s.messages) is
          ∙ ap (λ (s : Stream). reverse messages ++ s.messages) e
          ∙ append-nil (reverse messages);
      follows = ap (λ (s : Stream). s.fault) is ∙ ap (λ (s : Stream). s.fault) e;
    }

    left_over : (rest : List ℕ) → stream_after held [] ≡ partial rest
        → (stream_of taken).rest ≡ rest
    left_over rest e = ap (λ (s : Stream). s.rest) is ∙ ap (λ (s : Stream). s.rest) e

    by : (x : TalkEnd) → WouldEnd x (stream_after held [])
        → EndsSo x taken messages exchanges left
    by end_as.Closed would = (whole [] would, left_over [] would, all, goes)
    by end_as.Cut would = (
      whole would.0 would.2,
      subst (λ (l : List ℕ). 0 < length l) (sym (left_over would.0 would.2)) would.1,
      all,
      goes,
    )
    by end_as.Released would = absurd would
    by end_as.Aborted would = absurd would
    by (end_as.Refused why) would = absurd would
    by end_as.Spent would = absurd would

-- An end of the source has no cause.
would_cause : (end : TalkEnd) (taken : List ℕ) (held : Held)
    → WouldEnd end (stream_after held []) → HoldsCause end taken held
would_cause end_as.Closed taken held would = tt
would_cause end_as.Cut taken held would = tt
would_cause end_as.Released taken held would = absurd would
would_cause end_as.Aborted taken held would = absurd would
would_cause (end_as.Refused why) taken held would = absurd would
would_cause end_as.Spent taken held would = absurd would

-- The source ended.
pub talk_closes : (line : Line) (before now : TalkSeen) (source : SourceSeen) (counts : Counts)
    (held : Held) (end : TalkEnd)
    → TalksSo line before now counts held []
    → WouldEnd end (stream_after held [])
    → Consumes now.source.left source.left []
    → source.faults ≡ now.source.faults
    → IsAtEnd source.left
    → TalksTo line before (read_seen now source) counts held end
talk_closes line before now source counts held end r would reads same all = record {
  taken = r.taken ++ [];
  messages = r.messages;
  exchanges = r.exchanges;
  answering = with_read line before now source true counts r.taken [] r.messages r.exchanges
      r.answering reads same;
  first = λ further. (record {
    more = (stream_after held further).messages;
    all = ap (λ (s : Stream). s.messages)
        (ap stream_of (append_assoc r.taken [] further) ∙ r.stream further);
  });
  ends = at_end (r.taken ++ []) r.messages r.exchanges held source.left end
      (ap stream_of (append-nil (r.taken ++ [])) ∙ r.stream []) would all r.goes_on;
  cause = would_cause end (r.taken ++ []) held would;
}

-- ---- what is answered

-- The cause is the option of the message that the reader holds.
cause_of : (end : TalkEnd) (taken : List ℕ) (held : Held)
    → HoldsCause end taken held → IsCause end taken (cause_by end held)
cause_of (end_as.Refused why) taken held c = record {
  held = held;
  spent = c.among.spent;
  more = c.more;
  among = c.among.whole;
  verdict = c.verdict;
  option = refl;
}
cause_of end_as.Closed taken held c = refl
cause_of end_as.Cut taken held c = refl
cause_of end_as.Released taken held c = refl
cause_of end_as.Aborted taken held c = refl
cause_of end_as.Spent taken held c = refl

-- It ended so, and said its farewell, or failed at it.
pub talk_ends : (line : Line) (before now : TalkSeen) (spoken : VoiceSeen) (counts : Counts)
    (held : Held) (end : TalkEnd)
    → TalksTo line before now counts held end
    → Speaks (voice_of true now) (farewell line end (cause_by end held)) spoken
    → TalksOver line before (said_seen now spoken)
    (told_if spoken.open_still (record {
      end = end;
      asked = counts.asked;
      dropped = counts.dropped;
    }))
talk_ends line before now spoken counts held end r speaks = by spoken.open_still whole
  where
    last : List ℕ
    last = farewell line end (cause_by end held)

    said_last : IsFarewell line end r.taken last
    said_last = record {
      bad = cause_by end held;
      cause = cause_of end r.taken held r.cause;
      octets_are = refl;
    }

    octets : List ℕ
    octets = opening line ++ (written_of r.exchanges ++ last)

    whole : Speaks (voice_of true before) octets spoken
    whole = subst (λ (l : List ℕ). Speaks (voice_of true before) l spoken)
        (append_assoc (opening line) (written_of r.exchanges) last)
        (Speaks-then (voice_of true before) (voice_of true now) spoken
        (opening line ++ written_of r.exchanges) last r.answering.written speaks)

    by : (b : Bool) → SpeaksBy true b octets (voice_of true before) spoken
        → TalksOver line before (said_seen now spoken) (told_if b (record {
          end = end;
          asked = counts.asked;
          dropped = counts.dropped;
        }))
    by true said = record {
      taken = r.taken;
      read = r.answering.read;
      messages = r.messages;
      exchanges = r.exchanges;
      shown = r.answering.shown;
      first = r.first;
      answered = r.answering.answered;
      made = r.answering.made;
      concludes = (
        r.ends,
        r.answering.asked,
        r.answering.dropped,
        (last, said_last, said.0),
        said.1,
        r.answering.read_faults,
      );
    }
    by false said = record {
      taken = r.taken;
      read = r.answering.read;
      messages = r.messages;
      exchanges = r.exchanges;
      shown = r.answering.shown;
      first = r.first;
      answered = r.answering.answered;
      made = r.answering.made;
      concludes = (
        (Some end, octets, (r.ends, last, said_last, refl), said.0),
        said.1,
        said.2,
        r.answering.read_faults,
      );
    }

-- A writing failed before its end.
pub talk_fails : (line : Line) (before now : TalkSeen) (counts : Counts)
    → TalksUntil line before now counts
    → TalksOver line before now (Err fault.Write)
talk_fails line before now counts r = record {
  taken = r.taken;
  read = r.answering.read;
  messages = r.messages;
  exchanges = r.exchanges;
  shown = r.answering.shown;
  first = r.first;
  answered = r.answering.answered;
  made = r.answering.made;
  concludes = (
    (None, opening line ++ written_of r.exchanges, refl, r.answering.written.0),
    r.answering.written.1,
    r.answering.written.2,
    r.answering.read_faults,
  );
}

-- A reading failed.
pub talk_unread : (line : Line) (before now : TalkSeen) (source : SourceSeen) (counts : Counts)
    (held : Held)
    → TalksSo line before now counts held []
    → Keeps now.source.left source.left
    → now.source.faults ≤ source.faults
    → Rose now.source.faults source.faults
    → TalksOver line before (read_seen now source) (Err fault.Read)
talk_unread line before now source counts held r keeps least rose = record {
  taken = r.taken;
  read = Consumes-kept before.source.left now.source.left source.left r.taken
      r.answering.read keeps;
  messages = r.messages;
  exchanges = r.exchanges;
  shown = r.answering.shown;
  first = λ further. (record {
    more = (stream_after held further).messages;
    all = ap (λ (s : Stream). s.messages) (r.stream further);
  });
  answered = r.answering.answered;
  made = r.answering.made;
  concludes = (
    r.answering.written.0,
    r.goes_on,
    subst (λ (n : ℕ). n ≤ source.faults) r.answering.read_faults least,
    subst (λ (n : ℕ). Rose n source.faults) r.answering.read_faults rose,
    r.answering.written.1,
  );
}

-- Memory ran out before anything was done.
pub talk_starves : (line : Line) (before : TalkSeen)
    → TalksOver line before before (Err fault.Starved)
talk_starves line before = record {
  taken = [];
  read = Consumes-nil before.source.left;
  messages = [];
  exchanges = [];
  shown = tt;
  first = λ further. (record { more = (stream_of further).messages; all = refl });
  answered = tt;
  made = CallsMade-none as_they_came before.caller;
  concludes = (refl, Appends-nil before.holds, refl, refl);
}

-- ---- as a function has it

-- The first piece may come, or the writing of the CSM failed: for counts that are none, and a
-- reader at its beginning.
pub begins_as : (line : Line) (before : TalkSeen) (spoken : VoiceSeen) (still : Bool)
    (asked dropped most : ℕ) (held : Held)
    → Speaks (voice_of still before) (opening line) spoken
    → still ≡ true
    → spoken.open_still ≡ true
    → asked ≡ 0
    → dropped ≡ 0
    → most ≡ usual_size
    → held ≡ at_beginning
    → TalksSo line before (said_seen before spoken) (record {
      asked = asked;
      dropped = dropped;
      most = most;
    }) held []
begins_as line before spoken still asked dropped most held speaks is goes none no_drops usual new =
    subst (λ (n : ℕ). TalksSo line before (said_seen before spoken)
    (record { asked = n; dropped = dropped; most = most }) held []) (sym none)
    (subst (λ (n : ℕ). TalksSo line before (said_seen before spoken)
    (record { asked = 0; dropped = n; most = most }) held []) (sym no_drops)
    (subst (λ (n : ℕ). TalksSo line before (said_seen before spoken)
    (record { asked = 0; dropped = 0; most = n }) held []) (sym usual)
    (subst (λ (h : Held). TalksSo line before (said_seen before spoken) counts_none h []) (sym new)
    (talk_begins line before spoken
    (subst (λ (b : Bool). Speaks (voice_of b before) (opening line) spoken) is speaks) goes))))

pub unbegun_as : (line : Line) (before : TalkSeen) (spoken : VoiceSeen) (still : Bool)
    → Speaks (voice_of still before) (opening line) spoken
    → still ≡ true
    → spoken.open_still ≡ false
    → TalksOver line before (said_seen before spoken) (Err fault.Write)
unbegun_as line before spoken still speaks is fails =
    talk_fails line before (said_seen before spoken) counts_none
    (talk_unbegun line before spoken
    (subst (λ (b : Bool). Speaks (voice_of b before) (opening line) spoken) is speaks) fails)

pub beginning_empty : (held : Held) → held ≡ at_beginning
    → stream_after held [] ≡ partial []
unfolding judge stream_from
beginning_empty held new =
    subst (λ (h : Held). stream_after h [] ≡ partial []) (sym new) refl

-- Its end, as it is answered.
pub ends_as : (line : Line) (before now : TalkSeen) (spoken : VoiceSeen) (counts : Counts)
    (held : Held) (end : TalkEnd) (still : Bool) (result : Result Talked TalkFault)
    → TalksTo line before now counts held end
    → Speaks (voice_of still now) (farewell line end (cause_by end held)) spoken
    → still ≡ true
    → result ≡ told_if spoken.open_still (record {
      end = end;
      asked = counts.asked;
      dropped = counts.dropped;
    })
    → TalksOver line before (said_seen now spoken) result
ends_as line before now spoken counts held end still result r speaks is told =
    subst (λ (x : Result Talked TalkFault). TalksOver line before (said_seen now spoken) x)
    (sym told)
    (talk_ends line before now spoken counts held end r
    (subst (λ (b : Bool). Speaks (voice_of b now) (farewell line end (cause_by end held)) spoken)
    is speaks))
