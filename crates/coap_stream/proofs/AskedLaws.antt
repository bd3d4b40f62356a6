-- What a conversation hands to the seat is what the octets of its connection say.
use Rattle.std.proofs.Common.{◌≡◌, ℕ, ◌<◌, ◌≤◌, List, [], ◌∷◌, ◌++◌}
use Rattle.std.proofs.Common.{Option, Some, None, Result, Ok, Err}
use Rattle.std.proofs.Common.{refl, sym, ap, subst, ◌∙◌, append_assoc, append-nil, arith}
use Rattle.std.specs.Prelude.{reverse, IfOk, IfSome}
use Rattle.std.specs.Io.KnownBytes.{Consumes, IsAtEnd}
use Rattle.std.proofs.lemmas.List.{reverse-append}
use Rattle.coap_stream.specs.declared.lines.Line.{Line}
use Rattle.stream_model.specs.declared.messages.StreamBad.{StreamBad}
use Rattle.stream_model.specs.Streams.{stream_of}
use Rattle.stream_reader.specs.Shown.{Shown, shown_in}
use Rattle.coap_stream.specs.declared.talked.TalkEnd.{TalkEnd}
use Rattle.coap_stream.specs.declared.talked.TalkEnd.TheVariants as end_as
use Rattle.coap_stream.specs.declared.talked.TalkFault.{TalkFault}
use Rattle.coap_stream.specs.declared.talked.Talked.{Talked}
use Rattle.coap_stream.specs.Requests.{meant_by, heard_as, unasked_of}
use Rattle.coap_stream.specs.Talks.{
  Exchange,
  AreAnswered,
  asked_of,
  ends_by,
  ended_by,
  most_asked,
}
use Rattle.coap_stream.specs.Endings.{TalkSeen, AreAll, AreShown, EndsSo, TalksOver}
use Rattle.coap_stream.specs.Asked.{asked_after, asked_in, asked_over, end_with, unless_ended}
use Rattle.coap_stream.proofs.TalkLaws.{asks_few, not_spent}

-- ---- no more than there are numbers

below_most : (es : List Exchange) → asked_of es ≤ 65536 → ended_by es ≡ None
    → asked_of es < 65536
below_most [] few open_still = omega arith
below_most (e ∷ es) few open_still =
    let other : asked_of (e ∷ es) ≡ 65536 → ⊥ =
    not_spent (ends_by (meant_by e.message.code)) (asked_of (e ∷ es)) (sym open_still) in
    less (asked_of (e ∷ es)) few other
  where
    less : (n : ℕ) → n ≤ 65536 → (n ≡ 65536 → ⊥) → n < 65536
    less n few other = omega (arith, few, other)

pub asked_most : (line : Line) (es : List Exchange) → AreAnswered line es
    → asked_of es ≤ 65536
asked_most line [] answered = omega arith
asked_most line (e ∷ es) answered =
    let before = below_most es (asked_most line es answered.0) answered.1 in
    let more = asks_few (meant_by e.message.code)
    (unasked_of (heard_as (asked_of es) e.message)) in
    omega (arith, before, more)

pub talk_most : (line : Line) (before after : TalkSeen) (t : Talked)
    → TalksOver line before after (Ok t) → t.asked ≤ 65536
talk_most line before after t talks =
    let most = asked_most line talks.exchanges talks.answered in
    omega (arith, most, talks.concludes.1)

-- ---- message by message

reverse_more : (messages : List (List ℕ)) (octets : List ℕ) (more : List (List ℕ))
    → reverse (octets ∷ messages) ++ more ≡ reverse messages ++ (octets ∷ more)
reverse_more messages octets more =
    ap (λ (l : List (List ℕ)). l ++ more) (reverse-append (octets ∷ []) messages)
    ∙ append_assoc (reverse messages) (octets ∷ []) more

-- One message more, where those before it did not end the conversation.
one_asked : (octets : List ℕ) (e : Exchange) (n : ℕ) (more : List (List ℕ))
    → shown_in octets ≡ Some e.message
    → asked_over n (octets ∷ more)
    ≡ unless_ended (end_with (Some e.message) (asked_after n (Some e.message)))
    (asked_after n (Some e.message)) (asked_over (asked_after n (Some e.message)) more)
one_asked octets e n more shown =
    ap (λ (o : Option Shown). unless_ended (end_with o (asked_after n o)) (asked_after n o)
    (asked_over (asked_after n o) more)) shown

are_asked : (line : Line) (messages : List (List ℕ)) (es : List Exchange)
    (more : List (List ℕ))
    → AreShown messages es
    → AreAnswered line es
    → asked_over 0 (reverse messages ++ more)
    ≡ unless_ended (ended_by es) (asked_of es) (asked_over (asked_of es) more)
are_asked line [] [] more shown answered = refl
are_asked line (octets ∷ messages) [] more shown answered = absurd shown
are_asked line [] (e ∷ es) more shown answered = absurd shown
are_asked line (octets ∷ messages) (e ∷ es) more shown answered =
    ap (asked_over 0) (reverse_more messages octets more)
    ∙ are_asked line messages es (octets ∷ more) shown.1 answered.0
    ∙ ap (λ (o : Option TalkEnd). unless_ended o (asked_of es)
    (asked_over (asked_of es) (octets ∷ more))) answered.1
    ∙ one_asked octets e (asked_of es) more shown.0

-- ---- a conversation

-- All messages were answered, and none of them ended it.
all_asked : (line : Line) (messages : List (List ℕ)) (es : List Exchange) (octets : List ℕ)
    (why : Option StreamBad)
    → AreShown messages es
    → AreAnswered line es
    → AreAll messages why (stream_of octets)
    → ended_by es ≡ None
    → asked_in octets ≡ asked_of es
all_asked line messages es octets why shown answered all open_still =
    ap (asked_over 0) (all.all ∙ sym (append-nil (reverse messages)))
    ∙ are_asked line messages es [] shown answered
    ∙ ap (λ (o : Option TalkEnd). unless_ended o (asked_of es) (asked_of es)) open_still

-- The last of them ended it, whatever follows.
first_asked : (line : Line) (messages : List (List ℕ)) (es : List Exchange) (octets : List ℕ)
    (more : List (List ℕ)) (end : TalkEnd)
    → AreShown messages es
    → AreAnswered line es
    → (stream_of octets).messages ≡ reverse messages ++ more
    → ended_by es ≡ Some end
    → asked_in octets ≡ asked_of es
first_asked line messages es octets more end shown answered first ended =
    ap (asked_over 0) first
    ∙ are_asked line messages es more shown answered
    ∙ ap (λ (o : Option TalkEnd). unless_ended o (asked_of es)
    (asked_over (asked_of es) more)) ended

-- What was read and what is left are the octets.
whole_octets : (left : Option (List ℕ)) (taken octets : List ℕ)
    → Consumes (Some octets) left taken
    → (rest : List ℕ) × (left ≡ Some rest) × (octets ≡ taken ++ rest)
whole_octets None taken octets read = absurd read
whole_octets (Some rest) taken octets read = (rest, refl, read)

nothing_left : (left : Option (List ℕ)) (rest : List ℕ)
    → left ≡ Some rest → IsAtEnd left → rest ≡ []
nothing_left left rest is at_end = subst IsAtEnd is at_end

-- A conversation hands to the seat what the octets say.
pub talk_counts : (line : Line) (before after : TalkSeen) (t : Talked) (octets : List ℕ)
    → TalksOver line before after (Ok t)
    → before.source.left ≡ Some octets
    → t.asked ≡ asked_in octets
talk_counts line before after t octets talks told =
    talks.concludes.1 ∙ sym (by t.end talks.concludes.0)
  where
    es : List Exchange
    es = talks.exchanges

    whole : (rest : List ℕ) × (after.source.left ≡ Some rest)
        × (octets ≡ talks.taken ++ rest)
    whole = whole_octets after.source.left talks.taken octets
        (subst (λ (o : Option (List ℕ)). Consumes o after.source.left talks.taken) told
        talks.read)

    at_end : (why : Option StreamBad) → AreAll talks.messages why (stream_of talks.taken)
        → IsAtEnd after.source.left → ended_by es ≡ None → asked_in octets ≡ asked_of es
    at_end why all end goes =
        let none : whole.0 ≡ [] = nothing_left after.source.left whole.0 whole.1 end in
        let same : talks.taken ≡ octets =
        sym (append-nil talks.taken) ∙ ap (λ (l : List ℕ). talks.taken ++ l) (sym none)
        ∙ sym whole.2 in
        ap asked_in (sym same)
        ∙ all_asked line talks.messages es talks.taken why talks.shown talks.answered all goes

    ended : (end : TalkEnd) → ended_by es ≡ Some end → asked_in octets ≡ asked_of es
    ended end is =
        ap asked_in whole.2
        ∙ first_asked line talks.messages es (talks.taken ++ whole.0)
        (talks.first whole.0).more end talks.shown talks.answered (talks.first whole.0).all is

    by : (end : TalkEnd)
        → EndsSo end talks.taken talks.messages es after.source.left
        → asked_in octets ≡ asked_of es
    by end_as.Closed so = at_end None so.0 so.2 so.3
    by end_as.Cut so = at_end None so.0 so.2 so.3
    by (end_as.Refused why) so =
        ap asked_in whole.2
        ∙ all_asked line talks.messages es (talks.taken ++ whole.0) (Some why)
        talks.shown talks.answered (so.0 whole.0) so.1
    by end_as.Released so = ended end_as.Released so
    by end_as.Aborted so = ended end_as.Aborted so
    by end_as.Spent so = ended end_as.Spent so

-- ---- whatever it answers

pub counts_told : (line : Line) (before after : TalkSeen) (r : Result Talked TalkFault)
    → TalksOver line before after r
    → IfOk r (λ t. IfSome before.source.left (λ octets. t.asked ≡ asked_in octets))
counts_told line before after (Err why) talks = tt
counts_told line before after (Ok t) talks = by before.source.left refl
  where
    by : (left : Option (List ℕ)) → before.source.left ≡ left
        → IfSome left (λ octets. t.asked ≡ asked_in octets)
    by None is = tt
    by (Some octets) is = talk_counts line before after t octets talks is

pub most_told : (line : Line) (before after : TalkSeen) (r : Result Talked TalkFault)
    → TalksOver line before after r
    → IfOk r (λ t. t.asked ≤ most_asked)
most_told line before after (Err why) talks = tt
most_told line before after (Ok t) talks = talk_most line before after t talks
