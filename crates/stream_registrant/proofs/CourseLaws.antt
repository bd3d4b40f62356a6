-- The course of a request, step by step.
use Rattle.std.proofs.Common.{
  ◌≡◌,
  ℕ,
  ◌≤◌,
  Bool,
  List,
  [],
  ◌∷◌,
  ◌++◌,
  drop,
  length,
  Option,
  Some,
  None,
  Ok,
  Err,
  refl,
  sym,
  ap,
  subst,
  ◌∙◌,
  inl,
  inr,
  append_assoc,
  append-nil,
}
use Rattle.std.specs.Prelude.{reverse}
use Rattle.std.specs.Io.KnownBytes.{Consumes}
use Rattle.std.proofs.KnownBytes.{Consumes-nil, Consumes-trans, Consumes-kept}
use Rattle.std.proofs.lemmas.List.{reverse-append}
use Rattle.rd_base.specs.Outside.{Rose}
use Rattle.stream_model.specs.declared.messages.StreamBad.{StreamBad}
use Rattle.stream_model.specs.declared.messages.Judged.{Judged}
use Rattle.stream_model.specs.declared.messages.Judged.TheVariants as judged
use Rattle.stream_model.specs.Faults.{longest_message}
use Rattle.stream_model.specs.Streams.{IsGood, Stream, with_message}
use Rattle.stream_model.proofs.ReadingLaws.{bad_judged, good_judged}
use Rattle.stream_reader.specs.declared.feeding.Fed.TheVariants as fed
use Rattle.stream_reader.specs.Reading.{
  GoesOn,
  Held,
  IsFed,
  IsFedBy,
  held_as,
  stream_after,
  stream_by_held,
}
use Rattle.stream_reader.specs.Shown.{Shown, message_by, message_of, shown_in}
use Rattle.client_model.specs.Requests.{Request}
use Rattle.stream_registrant.specs.declared.answers.Unanswered.{Unanswered}
use Rattle.stream_registrant.specs.declared.answers.Unanswered.TheVariants as unanswered
use Rattle.stream_registrant.specs.declared.hearing.Step.{Step}
use Rattle.stream_registrant.specs.declared.hearing.Step.TheVariants as step
use Rattle.stream_registrant.specs.Answers.{End, ends_by, ends_in, or_later, verdict}
use Rattle.stream_registrant.specs.Saying.{
  BreaksOff,
  IsBegun,
  Says,
  Voice,
  abort,
  said_by,
  said_in,
  said_of,
}
use Rattle.stream_registrant.specs.Hearing.{IsHeard, IsHeardIn, IsRefused}
use Rattle.stream_registrant.specs.Courses.{
  EndsBy,
  Ends,
  IsRead,
  IsStepped,
  IsTold,
  Seen,
  SessionSeen,
  Takes,
  Waits,
  abort_by,
  ahead,
  all_said,
  with_messages,
}
use Rattle.stream_registrant.proofs.VoiceLaws.{
  BreaksOff-before,
  BreaksOff-then,
  Says-none,
  Says-then,
}

-- ---- what a piece did to the reader

other_whole : (n m : ℕ) (why : StreamBad) → fed.Whole n ≡ fed.Bad m why → ⊥
other_whole n m why e = cc

-- A message that is complete is good.
pub whole_good : (old new : Held) (piece : List ℕ) (n : ℕ)
    → IsFed old piece (fed.Whole n) new
    → IsGood new.is_first new.pending
whole_good old new piece n fed_so = by (held_as old) fed_so
  where
    by : (j : Judged) → IsFedBy j old piece (fed.Whole n) new
        → IsGood new.is_first new.pending
    by judged.More s = s.good
    by judged.Whole s = s.good
    by (judged.Bad why) s = absurd (other_whole n 0 why s.0)

pub whole_judged : (old new : Held) (piece : List ℕ) (n : ℕ)
    → IsFed old piece (fed.Whole n) new
    → held_as new ≡ judged.Whole
whole_judged old new piece n fed_so =
    good_judged new.is_first new.pending (whole_good old new piece n fed_so)

same_why : (n m : ℕ) (why other : StreamBad) → fed.Bad n why ≡ fed.Bad m other → why ≡ other
same_why n m why other e = cc

-- A message that is bad is held.
pub broken_judged : (old new : Held) (piece : List ℕ) (n : ℕ) (why : StreamBad)
    → IsFed old piece (fed.Bad n why) new
    → held_as new ≡ judged.Bad why
broken_judged old new piece n why fed_so = by (held_as old) refl fed_so
  where
    by : (j : Judged) → held_as old ≡ j → IsFedBy j old piece (fed.Bad n why) new
        → held_as new ≡ judged.Bad why
    by judged.More is s = bad_judged new.is_first new.pending why s.is_bad
    by judged.Whole is s = bad_judged new.is_first new.pending why s.is_bad
    by (judged.Bad other) is s =
        ap held_as s.1
        ∙ is
        ∙ ap (λ (w : StreamBad). judged.Bad w) (sym (same_why n 0 why other s.0))

-- ---- what is taken

abbrev moved : Seen → Held → List ℕ → Seen
moved s held rest = record s { session = record s.session { held = held; rest = rest } }

-- Less than a message was left.
pub takes_less : (messages : List (List ℕ)) (before now : Seen) (next : Held)
    → Takes messages before now
    → ((further : List ℕ)
    → GoesOn now.session.held now.session.rest further fed.More next)
    → Takes messages before (moved now next [])
takes_less messages before now next t goes = record {
  taken = t.taken;
  read = t.read;
  stream = λ further. t.stream further ∙ ap (with_messages messages) (goes further);
}

-- Octets were read, when none were left.
pub takes_read : (messages : List (List ℕ)) (before now : Seen) (left : Option (List ℕ))
    (faults : ℕ) (piece : List ℕ)
    → Takes messages before now
    → now.session.rest ≡ []
    → Consumes now.left left piece
    → Takes messages before (record (moved now now.session.held piece) {
      left = left;
      read_faults = faults;
    })
takes_read messages before now left faults piece t none reads = record {
  taken = t.taken ++ piece;
  read = Consumes-trans before.left now.left left t.taken piece t.read reads;
  stream = λ further.
      ap (ahead before.session) (append_assoc t.taken piece further)
      ∙ t.stream (piece ++ further)
      ∙ ap (λ (l : List ℕ).
      with_messages messages (stream_after now.session.held (l ++ (piece ++ further)))) none;
}

-- A message behind others, before those of a stream.
messages_more : (messages : List (List ℕ)) (message : List ℕ) (s : Stream)
    → with_messages messages (with_message message s) ≡ with_messages (message ∷ messages) s
messages_more messages message s =
    ap (λ (l : List (List ℕ)). with_list l)
    (sym (ap (λ (l : List (List ℕ)). l ++ s.messages) (reverse-append (message ∷ []) messages)
    ∙ append_assoc (reverse messages) (message ∷ []) s.messages))
  where
    with_list : List (List ℕ) → Stream
    with_list l = record s { messages = l }

-- One more message was taken.
pub takes_whole : (messages : List (List ℕ)) (before now : Seen) (next : Held) (n : ℕ)
    → Takes messages before now
    → ((further : List ℕ)
    → GoesOn now.session.held now.session.rest further (fed.Whole n) next)
    → Takes (next.pending ∷ messages) before (moved now next (drop n now.session.rest))
takes_whole messages before now next n t goes = record {
  taken = t.taken;
  read = t.read;
  stream = λ further.
      t.stream further
      ∙ ap (with_messages messages) (goes further)
      ∙ messages_more messages next.pending
      (stream_after next (drop n now.session.rest ++ further));
}

-- The next message is bad.
pub takes_bad : (messages : List (List ℕ)) (before now : Seen) (next : Held) (n : ℕ)
    (why : StreamBad)
    → Takes messages before now
    → ((further : List ℕ)
    → GoesOn now.session.held now.session.rest further (fed.Bad n why) next)
    → held_as next ≡ judged.Bad why
    → Takes messages before (moved now next (drop n now.session.rest))
takes_bad messages before now next n why t goes verdict_is = record {
  taken = t.taken;
  read = t.read;
  stream = λ further.
      t.stream further
      ∙ ap (with_messages messages) (goes further)
      ∙ ap (with_messages messages)
      (sym (ap (λ (j : Judged).
      stream_by_held j next (drop n now.session.rest ++ further)) verdict_is));
}

-- What is written has no part in what is taken.
takes_as : (messages : List (List ℕ)) (before now after : Seen)
    → after.session ≡ now.session
    → after.left ≡ now.left
    → Takes messages before now
    → Takes messages before after
takes_as messages before now after session left t = record {
  taken = t.taken;
  read = subst (λ (l : Option (List ℕ)). Consumes before.left l t.taken) (sym left) t.read;
  stream = λ further. t.stream further
      ∙ ap (λ (s : SessionSeen). with_messages messages (ahead s further)) (sym session);
}

abbrev spoken : Seen → Voice → Seen
spoken s voice = record s { voice = voice }

takes_spoken : (messages : List (List ℕ)) (before now : Seen) (voice : Voice)
    → Takes messages before now
    → Takes messages before (spoken now voice)
takes_spoken messages before now voice t =
    takes_as messages before now (spoken now voice) refl refl t

-- ---- a message

verdict_with : (r : Request) (messages : List (List ℕ)) (octets : List ℕ) (e : Option End)
    → verdict r messages ≡ None
    → ends_in r (shown_in octets) ≡ e
    → verdict r (octets ∷ messages) ≡ e
unfolding verdict
verdict_with r messages octets e none is =
    ap (λ (o : Option End). or_later o (ends_in r (shown_in octets))) none ∙ is

said_with : (first : List ℕ) (messages : List (List ℕ)) (octets : List ℕ)
    → (first ++ said_of messages) ++ said_in (shown_in octets)
    ≡ first ++ said_of (octets ∷ messages)
unfolding said_of
said_with first messages octets =
    append_assoc first (said_of messages) (said_in (shown_in octets))

-- A message that ends the request so, if it does, and for which these octets were written.
pub ends_more : (r : Request) (first : List ℕ) (messages : List (List ℕ)) (octets : List ℕ)
    (before now : Seen) (voice : Voice) (e : Option End)
    → EndsBy None r first messages before now
    → ends_in r (shown_in octets) ≡ e
    → Says (said_in (shown_in octets)) now.voice voice
    → EndsBy e r first (octets ∷ messages) before (spoken now voice)
ends_more r first messages octets before now voice e so is says = (
  verdict_with r messages octets e so.0 is,
  subst (λ (l : List ℕ). Says l before.voice voice) (said_with first messages octets)
      (Says-then before.voice now.voice voice (first ++ said_of messages)
      (said_in (shown_in octets)) so.1 says),
)

-- The octets for a message were not all written.
pub breaks_more : (r : Request) (first : List ℕ) (messages : List (List ℕ)) (octets : List ℕ)
    (before now : Seen) (voice : Voice) (j : Judged)
    → EndsBy None r first messages before now
    → j ≡ judged.Whole
    → BreaksOff (said_in (shown_in octets)) now.voice voice
    → BreaksOff (all_said first (octets ∷ messages) j) before.voice voice
breaks_more r first messages octets before now voice j so whole breaks =
    subst (λ (l : List ℕ). BreaksOff l before.voice voice)
    (said_with first messages octets
    ∙ ap (λ (l : List ℕ). first ++ l) (sym (append-nil (said_of (octets ∷ messages))))
    ∙ ap (λ (x : Judged). all_said first (octets ∷ messages) x) (sym whole))
    (BreaksOff-then before.voice now.voice voice (first ++ said_of messages)
    (said_in (shown_in octets)) so.1 breaks)

-- A message was handled.
heard_step : (r : Request) (first : List ℕ) (messages : List (List ℕ)) (before now : Seen)
    (voice : Voice) (s : Shown) (result : Step)
    → Takes (now.session.held.pending ∷ messages) before now
    → EndsBy None r first messages before now
    → now.read_faults ≡ before.read_faults
    → held_as now.session.held ≡ judged.Whole
    → shown_in now.session.held.pending ≡ Some s
    → IsHeard r s now.voice voice result
    → IsStepped r first before (spoken now voice) result
heard_step r first messages before now voice s result takes so same whole shown was =
    by result was
  where
    octets : List ℕ
    octets = now.session.held.pending

    all : List (List ℕ)
    all = octets ∷ messages

    taken : Takes all before (spoken now voice)
    taken = takes_spoken all before now voice takes

    ends : (e : Option End) → ends_by r s ≡ e → Says (said_by s) now.voice voice
        → EndsBy e r first all before (spoken now voice)
    ends e is says =
        ends_more r first messages octets before now voice e so
        (ap (ends_in r) shown ∙ is)
        (subst (λ (o : Option Shown). Says (said_in o) now.voice voice) (sym shown) says)

    by : (x : Step) → IsHeard r s now.voice voice x → IsStepped r first before (spoken now voice) x
    by step.Waits w = record {
      messages = all;
      takes = taken;
      ends = ends None w.0 w.1;
      unfailed = same;
    }
    by (step.Over (Ok a)) w = record {
      messages = all;
      takes = taken;
      concludes = (ends (Some (Ok a)) w.0 w.1, same);
    }
    by (step.Over (Err unanswered.Released)) w = record {
      messages = all;
      takes = taken;
      concludes = (ends (Some (Err unanswered.Released)) w.0 w.1, same);
    }
    by (step.Over (Err unanswered.Aborted)) w = record {
      messages = all;
      takes = taken;
      concludes = (ends (Some (Err unanswered.Aborted)) w.0 w.1, same);
    }
    by (step.Over (Err unanswered.Write)) w = record {
      messages = all;
      takes = taken;
      concludes = (
        verdict_with r messages octets None so.0 (ap (ends_in r) shown ∙ w.0),
        breaks_more r first messages octets before now voice (held_as now.session.held) so whole
            (subst (λ (o : Option Shown). BreaksOff (said_in o) now.voice voice) (sym shown) w.1),
        same,
      );
    }
    by (step.Over (Err unanswered.Starved)) w = record {
      messages = all;
      takes = taken;
      concludes = (
        subst (λ (l : List ℕ). Says l before.voice voice) (said_with first messages octets)
            (Says-then before.voice now.voice voice (first ++ said_of messages)
            (said_in (shown_in octets)) so.1
            (subst (λ (o : Option Shown). Says (said_in o) now.voice voice) (sym shown) w)),
        same,
      );
    }
    by (step.Over (Err unanswered.Size)) w = absurd w
    by (step.Over (Err unanswered.Closed)) w = absurd w
    by (step.Over (Err (unanswered.Bad why))) w = absurd w
    by (step.Over (Err unanswered.Read)) w = absurd w

-- A message that shows nothing was passed.
passed_step : (r : Request) (first : List ℕ) (messages : List (List ℕ)) (before now : Seen)
    (voice : Voice) (result : Step)
    → Takes (now.session.held.pending ∷ messages) before now
    → EndsBy None r first messages before now
    → now.read_faults ≡ before.read_faults
    → shown_in now.session.held.pending ≡ None
    → (result ≡ step.Waits) × (voice ≡ now.voice)
    → IsStepped r first before (spoken now voice) result
passed_step r first messages before now voice result takes so same shown was =
    subst (λ (x : Step). IsStepped r first before (spoken now voice) x) (sym was.0) (record {
      messages = octets ∷ messages;
      takes = takes_spoken (octets ∷ messages) before now voice takes;
      ends = ends_more r first messages octets before now voice None so
          (ap (ends_in r) shown)
          (subst (λ (o : Option Shown). Says (said_in o) now.voice voice) (sym shown)
          (subst (λ (v : Voice). Says [] now.voice v) (sym was.1) (Says-none now.voice)));
      unfailed = same;
    })
  where
    octets : List ℕ
    octets = now.session.held.pending

-- ---- the steps

-- A message was complete.
pub steps_whole : (r : Request) (first : List ℕ) (before now : Seen) (next : Held) (n : ℕ)
    (voice : Voice) (result : Step)
    → Waits r first before now
    → IsFed now.session.held now.session.rest (fed.Whole n) next
    → ((further : List ℕ)
    → GoesOn now.session.held now.session.rest further (fed.Whole n) next)
    → IsHeardIn r (message_of next) now.voice voice result
    → IsStepped r first before (spoken (moved now next (drop n now.session.rest)) voice) result
steps_whole r first before now next n voice result w feeds goes was =
    by (shown_in next.pending) refl
    (subst (λ (o : Option Shown). IsHeardIn r o now.voice voice result)
    (ap (λ (j : Judged). message_by j next.pending) whole) was)
  where
    after : Seen
    after = moved now next (drop n now.session.rest)

    whole : held_as next ≡ judged.Whole
    whole = whole_judged now.session.held next now.session.rest n feeds

    taken : Takes (next.pending ∷ w.messages) before after
    taken = takes_whole w.messages before now next n w.takes goes

    by : (o : Option Shown) → shown_in next.pending ≡ o
        → IsHeardIn r o now.voice voice result
        → IsStepped r first before (spoken after voice) result
    by None shown was =
        passed_step r first w.messages before after voice result taken w.ends w.unfailed shown was
    by (Some s) shown was =
        heard_step r first w.messages before after voice s result taken w.ends w.unfailed whole
        shown was

-- A message was bad.
pub steps_bad : (r : Request) (first : List ℕ) (before now : Seen) (next : Held) (n : ℕ)
    (why : StreamBad) (voice : Voice) (result : Step)
    → Waits r first before now
    → IsFed now.session.held now.session.rest (fed.Bad n why) next
    → ((further : List ℕ)
    → GoesOn now.session.held now.session.rest further (fed.Bad n why) next)
    → IsRefused why now.voice voice result
    → IsStepped r first before (spoken (moved now next (drop n now.session.rest)) voice) result
steps_bad r first before now next n why voice result w feeds goes was = by result was
  where
    after : Seen
    after = moved now next (drop n now.session.rest)

    bad : held_as next ≡ judged.Bad why
    bad = broken_judged now.session.held next now.session.rest n why feeds

    taken : Takes w.messages before (spoken after voice)
    taken = takes_spoken w.messages before after voice
        (takes_bad w.messages before now next n why w.takes goes bad)

    joined : (first ++ said_of w.messages) ++ abort ≡ all_said first w.messages (judged.Bad why)
    joined = append_assoc first (said_of w.messages) abort

    by : (x : Step) → IsRefused why now.voice voice x
        → IsStepped r first before (spoken after voice) x
    by (step.Over (Err (unanswered.Bad other))) s =
        subst (λ (y : StreamBad).
        IsStepped r first before (spoken after voice) (step.Over (Err (unanswered.Bad y))))
        (sym s.0)
        (record {
          messages = w.messages;
          takes = taken;
          concludes = (
            w.ends.0,
            bad,
            subst (λ (l : List ℕ). Says l before.voice voice) joined
                (Says-then before.voice now.voice voice (first ++ said_of w.messages) abort
                w.ends.1 s.1),
            w.unfailed,
          );
        })
    by (step.Over (Err unanswered.Write)) s = record {
      messages = w.messages;
      takes = taken;
      concludes = (
        w.ends.0,
        subst (λ (l : List ℕ). BreaksOff l before.voice voice)
            (joined ∙ ap (all_said first w.messages) (sym bad))
            (BreaksOff-then before.voice now.voice voice (first ++ said_of w.messages) abort
            w.ends.1 s),
        w.unfailed,
      );
    }
    by step.Waits s = absurd s
    by (step.Over (Ok a)) s = absurd s
    by (step.Over (Err unanswered.Size)) s = absurd s
    by (step.Over (Err unanswered.Closed)) s = absurd s
    by (step.Over (Err unanswered.Released)) s = absurd s
    by (step.Over (Err unanswered.Aborted)) s = absurd s
    by (step.Over (Err unanswered.Read)) s = absurd s
    by (step.Over (Err unanswered.Starved)) s = absurd s

-- Less than a message was left, and more was read.
pub steps_read : (r : Request) (first : List ℕ) (before now : Seen) (next : Held)
    (left : Option (List ℕ)) (faults : ℕ) (rest : List ℕ) (result : Step)
    → Waits r first before now
    → ((further : List ℕ)
    → GoesOn now.session.held now.session.rest further fed.More next)
    → IsRead now.left left now.read_faults faults rest result
    → IsStepped r first before
    (record (moved now next rest) { left = left; read_faults = faults }) result
steps_read r first before now next left faults rest result w goes was = by result was
  where
    less : Takes w.messages before (moved now next [])
    less = takes_less w.messages before now next w.takes goes

    after : Seen
    after = record (moved now next rest) { left = left; read_faults = faults }

    taken : Consumes now.left left rest → Takes w.messages before after
    taken reads =
        takes_read w.messages before (moved now next []) left faults rest less refl reads

    at : rest ≡ [] → Consumes now.left left [] → Takes w.messages before after
    at none reads = taken (subst (λ (l : List ℕ). Consumes now.left left l) (sym none) reads)

    by : (x : Step) → IsRead now.left left now.read_faults faults rest x
        → IsStepped r first before after x
    by step.Waits s = record {
      messages = w.messages;
      takes = taken s.0;
      ends = w.ends;
      unfailed = s.1 ∙ w.unfailed;
    }
    by (step.Over (Err unanswered.Closed)) s = record {
      messages = w.messages;
      takes = at s.1 s.0;
      concludes = (w.ends, s.2, s.1, s.3 ∙ w.unfailed);
    }
    by (step.Over (Err unanswered.Read)) s = record {
      messages = w.messages;
      takes = at s.1 (Consumes-kept now.left now.left left [] (Consumes-nil now.left) s.0);
      concludes = (
        w.ends,
        (
          subst (λ (n : ℕ). n ≤ faults) w.unfailed s.2.0,
          subst (λ (n : ℕ). Rose n faults) w.unfailed s.2.1,
        ),
      );
    }
    by (step.Over (Ok a)) s = absurd s
    by (step.Over (Err unanswered.Size)) s = absurd s
    by (step.Over (Err unanswered.Released)) s = absurd s
    by (step.Over (Err unanswered.Aborted)) s = absurd s
    by (step.Over (Err (unanswered.Bad why))) s = absurd s
    by (step.Over (Err unanswered.Write)) s = absurd s
    by (step.Over (Err unanswered.Starved)) s = absurd s

-- ---- the beginning

no_verdict : (r : Request) → verdict r [] ≡ None
unfolding verdict
no_verdict r = refl

none_said : (first : List ℕ) → first ≡ first ++ said_of []
unfolding said_of
none_said first = sym (append-nil first)

-- No message is taken.
takes_none : (before now : Seen)
    → now.session.held ≡ before.session.held
    → now.session.rest ≡ before.session.rest
    → now.left ≡ before.left
    → Takes [] before now
takes_none before now held rest left = record {
  taken = [];
  read = subst (λ (l : Option (List ℕ)). Consumes before.left l []) (sym left)
      (Consumes-nil before.left);
  stream = λ further.
      sym (ap (λ (h : Held). stream_after h (now.session.rest ++ further)) held
      ∙ ap (λ (l : List ℕ). stream_after before.session.held (l ++ further)) rest);
}

-- The first octets were written.
pub begins : (r : Request) (first : List ℕ) (before : Seen) (is_open : Bool) (voice : Voice)
    → Says first before.voice voice
    → Waits r first before
    (record before { session = record before.session { is_open = is_open }; voice = voice })
begins r first before is_open voice says = record {
  messages = [];
  takes = takes_none before
      (record before { session = record before.session { is_open = is_open }; voice = voice })
      refl refl refl;
  ends = (
    no_verdict r,
    subst (λ (l : List ℕ). Says l before.voice voice) (none_said first) says,
  );
  unfailed = refl;
}

-- They were written, and the request ended.
pub told_sent : (r : Request) (opening request : List ℕ) (before after : Seen) (end : End)
    → length request ≤ longest_message
    → Ends r (opening ++ request) before after end
    → IsTold r opening request before after end
told_sent r opening request before after end short ends =
    inr (record { short = short; ends = ends })

-- They were not all written.
pub told_unsent : (r : Request) (opening request : List ℕ) (before : Seen) (voice : Voice)
    (why : Unanswered)
    → IsBegun opening request before.voice voice (Err why)
    → IsTold r opening request before (spoken before voice) (Err why)
told_unsent r opening request before voice unanswered.Size s =
    inl (ap (spoken before) s.0, inl (refl, s.1))
told_unsent r opening request before voice unanswered.Starved s =
    inl (ap (spoken before) s, inr refl)
told_unsent r opening request before voice unanswered.Write s =
    inr (record {
      short = s.1;
      ends = record {
        messages = [];
        takes = takes_none before (spoken before voice) refl refl refl;
        concludes = (
          no_verdict r,
          BreaksOff-before before.voice voice (opening ++ request)
              (said_of [] ++ abort_by (held_as before.session.held)) s.0,
          refl,
        );
      };
    })
told_unsent r opening request before voice unanswered.Closed s = absurd s
told_unsent r opening request before voice unanswered.Released s = absurd s
told_unsent r opening request before voice unanswered.Aborted s = absurd s
told_unsent r opening request before voice (unanswered.Bad why) s = absurd s
told_unsent r opening request before voice unanswered.Read s = absurd s
