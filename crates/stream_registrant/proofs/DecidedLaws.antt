-- How a request ends, by the octets of its source, in whatever pieces they come.
use Rattle.std.proofs.Common.{
  ◌≡◌,
  ℕ,
  List,
  [],
  ◌∷◌,
  ◌++◌,
  Option,
  Some,
  None,
  Ok,
  Err,
  refl,
  sym,
  ap,
  subst,
  ◌∙◌,
  inl,
  inr,
}
use Rattle.std.specs.Prelude.{reverse}
use Rattle.std.specs.Io.KnownBytes.{Consumes, IsAtEnd}
use Rattle.std.proofs.lemmas.List.{reverse-append, reverse-reverse}
use Rattle.stream_model.specs.declared.messages.Judged.{Judged}
use Rattle.stream_model.specs.declared.messages.Judged.TheVariants as judged
use Rattle.stream_model.specs.Judging.{judge}
use Rattle.stream_model.specs.Streams.{Stream, stream_from, stream_of}
use Rattle.stream_reader.specs.Reading.{
  Held,
  at_beginning,
  held_as,
  stream_after,
  stream_by_held,
}
use Rattle.stream_reader.specs.Shown.{shown_in}
use Rattle.client_model.specs.Requests.{Request}
use Rattle.stream_registrant.specs.declared.answers.Unanswered.TheVariants as unanswered
use Rattle.stream_registrant.specs.Answers.{End, ends_in, or_later, verdict}
use Rattle.stream_registrant.specs.Courses.{
  Concludes,
  Decides,
  IsDecided,
  IsTold,
  Seen,
  ahead,
  verdict_in,
  with_messages,
}

-- ---- a new session

-- What is ahead of a new session is the stream of the octets that come.
pub opening_ahead : (held : Held) (rest octets : List ℕ)
    → held ≡ at_beginning
    → rest ≡ []
    → stream_after held (rest ++ octets) ≡ stream_of octets
unfolding judge
opening_ahead held rest octets is none =
    ap (λ (h : Held). stream_after h (rest ++ octets)) is
    ∙ ap (λ (l : List ℕ). stream_after at_beginning (l ++ octets)) none

-- ---- more messages

-- What ended a request is not changed by later messages.
verdict_stays : (r : Request) (later messages : List (List ℕ)) (e : End)
    → verdict r messages ≡ Some e
    → verdict r (later ++ messages) ≡ Some e
unfolding verdict
verdict_stays r [] messages e is = is
verdict_stays r (octets ∷ later) messages e is =
    ap (λ (o : Option End). or_later o (ends_in r (shown_in octets)))
    (verdict_stays r later messages e is)

reversed : (messages more : List (List ℕ))
    → reverse (reverse messages ++ more) ≡ reverse more ++ messages
reversed messages more =
    reverse-append (reverse messages) more
    ∙ ap (λ (l : List (List ℕ)). reverse more ++ l) (reverse-reverse messages)

verdict_first : (r : Request) (messages : List (List ℕ)) (s : Stream) (e : End)
    → verdict r messages ≡ Some e
    → verdict_in r (with_messages messages s) ≡ Some e
verdict_first r messages s e is =
    ap (verdict r) (reversed messages s.messages)
    ∙ verdict_stays r (reverse s.messages) messages e is

verdict_all : (r : Request) (messages : List (List ℕ)) (s : Stream)
    → s.messages ≡ []
    → verdict r messages ≡ None
    → verdict_in r (with_messages messages s) ≡ None
verdict_all r messages s none is =
    ap (verdict r) (reversed messages s.messages
    ∙ ap (λ (l : List (List ℕ)). reverse l ++ messages) none)
    ∙ is

-- Without more octets a reader finds no more messages.
nothing_more : (h : Held) → (stream_after h []).messages ≡ []
unfolding stream_from
nothing_more h = by (held_as h)
  where
    by : (j : Judged) → (stream_by_held j h []).messages ≡ []
    by judged.More = refl
    by judged.Whole = refl
    by (judged.Bad why) = refl

-- After a bad message there are none.
none_after_bad : (h : Held) (j : Judged) (octets : List ℕ) (why : _)
    → j ≡ judged.Bad why
    → (stream_by_held j h octets).messages ≡ []
none_after_bad h j octets why is =
    ap (λ (x : Judged). (stream_by_held x h octets).messages) is

-- ---- by the octets

-- The octets of the source are those that were taken and those that are left.
decided_taken : (r : Request) (first : List ℕ) (messages : List (List ℕ)) (before now : Seen)
    (octets behind : List ℕ) (end : End)
    → (taken : List ℕ)
    → octets ≡ taken ++ behind
    → ((further : List ℕ)
    → ahead before.session (taken ++ further) ≡ with_messages messages (ahead now.session further))
    → (IsAtEnd now.left → behind ≡ [])
    → Concludes r first messages before now end
    → Decides (verdict_in r (ahead before.session octets)) end
decided_taken r first messages before now octets behind end taken split stream ended concludes =
    by end concludes
  where
    is : ahead before.session octets ≡ with_messages messages (ahead now.session behind)
    is = ap (ahead before.session) split ∙ stream behind

    some : (e : End) → verdict r messages ≡ Some e
        → verdict_in r (ahead before.session octets) ≡ Some e
    some e v = ap (verdict_in r) is ∙ verdict_first r messages (ahead now.session behind) e v

    none : (ahead now.session behind).messages ≡ [] → verdict r messages ≡ None
        → verdict_in r (ahead before.session octets) ≡ None
    none empty v =
        ap (verdict_in r) is ∙ verdict_all r messages (ahead now.session behind) empty v

    by : (e : End) → Concludes r first messages before now e
        → Decides (verdict_in r (ahead before.session octets)) e
    by (Ok a) c = some (Ok a) c.0.0
    by (Err unanswered.Released) c = some (Err unanswered.Released) c.0.0
    by (Err unanswered.Aborted) c = some (Err unanswered.Aborted) c.0.0
    by (Err unanswered.Closed) c =
        none
        (ap (λ (l : List ℕ). (stream_after now.session.held (l ++ behind)).messages) c.2
        ∙ ap (λ (l : List ℕ). (stream_after now.session.held l).messages) (ended c.1)
        ∙ nothing_more now.session.held)
        c.0.0
    by (Err (unanswered.Bad why)) c =
        none
        (none_after_bad now.session.held (held_as now.session.held)
        (now.session.rest ++ behind) why c.1)
        c.0
    by (Err unanswered.Read) c = tt
    by (Err unanswered.Write) c = tt
    by (Err unanswered.Starved) c = tt
    by (Err unanswered.Size) c = tt

decided_read : (r : Request) (first : List ℕ) (messages : List (List ℕ)) (before now : Seen)
    (left after : Option (List ℕ)) (end : End)
    → now.left ≡ after
    → (taken : List ℕ)
    → Consumes left after taken
    → ((further : List ℕ)
    → ahead before.session (taken ++ further) ≡ with_messages messages (ahead now.session further))
    → Concludes r first messages before now end
    → IsDecided r left before.session end
decided_read r first messages before now None after end same taken read stream concludes = tt
decided_read r first messages before now (Some octets) None end same taken read stream concludes =
    absurd read
decided_read r first messages before now (Some octets) (Some behind) end same taken read stream
    concludes =
    decided_taken r first messages before now octets behind end taken read stream
    (λ all. subst (λ (o : Option (List ℕ)). IsAtEnd o) same all) concludes

unsent : (v : Option End) (end : End)
    → end ≡ Err unanswered.Size
    → Decides v end
unsent v end is = subst (λ (e : End). Decides v e) (sym is) tt

starved : (v : Option End) (end : End)
    → end ≡ Err unanswered.Starved
    → Decides v end
starved v end is = subst (λ (e : End). Decides v e) (sym is) tt

-- The result is what the definition says of the octets of the source.
pub decided : (r : Request) (opening request : List ℕ) (before after : Seen) (end : End)
    → IsTold r opening request before after end
    → IsDecided r before.left before.session end
decided r opening request before after end (inl (same, inl (is, long))) =
    by before.left
  where
    by : (o : Option (List ℕ)) → IsDecided r o before.session end
    by None = tt
    by (Some octets) = unsent (verdict_in r (ahead before.session octets)) end is
decided r opening request before after end (inl (same, inr is)) = by before.left
  where
    by : (o : Option (List ℕ)) → IsDecided r o before.session end
    by None = tt
    by (Some octets) = starved (verdict_in r (ahead before.session octets)) end is
decided r opening request before after end (inr sent) =
    decided_read r (opening ++ request) sent.ends.messages before after before.left after.left end
    refl sent.ends.takes.taken sent.ends.takes.read sent.ends.takes.stream sent.ends.concludes
