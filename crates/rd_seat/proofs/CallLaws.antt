-- Calls of a seat, one alone and one after the other.
use Rattle.std.proofs.Common.{◌≡◌, ℕ, Bool, true, false}
use Rattle.std.proofs.Common.{List, [], ◌∷◌, ◌++◌, length, Option, None, Some}
use Rattle.std.proofs.Common.{refl, sym, ap, ◌∙◌, subst, inl, inr}
use Rattle.std.specs.Prelude.{if◌then◌else◌, option_map, IfSome}
use Rattle.std.proofs.lemmas.List.Elements.{All-nil}
use Rattle.rd_base.specs.declared.moments.Moment.{Moment}
use Rattle.rd_base.specs.declared.peers.Peer.{Peer}
use Rattle.udp_link.specs.Told.{WhereTold, Stays}
use Rattle.udp_link.specs.Links.{Datagram}
use Rattle.udp_link.specs.Clocks.{GivesFirst}
use Rattle.history_model.specs.Live.{IsFront}
use Rattle.journal_model.specs.declared.rows.Row.{Row}
use Rattle.journal_model.specs.declared.steps.Step.{Step}
use Rattle.journal_model.specs.declared.steps.StepKind.TheVariants as step
use Rattle.journal_model.specs.Machine.{is_look_datagram}
use Rattle.journal_model.specs.Rows.{row}
use Rattle.journal_model.specs.Seats.{Seat, MakesRow, job_left}
use Rattle.rd_desk.specs.declared.jobs.Job.{Job}
use Rattle.rd_desk.specs.declared.jobs.Job.TheVariants as job
use Rattle.rd_desk.specs.calls.WriteJobs.{Write}
use Rattle.rd_seat.specs.declared.hearing.SeatHeard.{SeatHeard}
use Rattle.rd_seat.specs.declared.hearing.SeatHeard.TheVariants as heard
use Rattle.rd_seat.specs.Heard.{is_starved_hearing, answer_left, LeavesWrite, IsKeepOf, MayBeDone}
use Rattle.rd_seat.specs.Heard.{IsOpenWrite, go_step}
use Rattle.rd_seat.specs.Jobs.{last_place}
use Rattle.rd_seat.specs.Seats.{SeatSeen, IsOfHall, seat_of, MakesStep, LooksAtMet}
use Rattle.rd_seat.specs.Steps.{tick_step, admit_step, look_step}
use Rattle.rd_seat.specs.Chains.{Chain}
use Rattle.rd_seat.specs.Calls.{Call, Does, IsLeftBy, IsHearing, IsOfJob}
use Rattle.rd_seat.specs.Calls.{GivesMoment, GivesWord, job_at, job_held, job_kept}
use Rattle.rd_seat.specs.Callers.{ClockSeen, CallerSeen, CallsMade}
use Rattle.rd_seat.proofs.ToldLaws.{told_then, told_as, told_same}

-- ---- one after the other

pub Chain-then : {A S : Type 0} (R : S → A → S → Type 0) (a b c : S) (xs ys : List A)
    → Chain R a xs b → Chain R b ys c → Chain R a (ys ++ xs) c
Chain-then R a b c xs [] r s = subst (λ z. Chain R a xs z) (sym s) r
Chain-then R a b c xs (y ∷ ys) r s = (s.0, Chain-then R a b s.0 xs ys r s.1, s.2)

-- ---- what the clock gave

-- a clock that was asked for a moment and then for a word
pub record Asked (now : Moment) (word : ℕ) (before middle after : ClockSeen) : Type 0 where
  pub moment : WhereTold (GivesFirst (record { 0 = 0 }) now) before.times middle.times
  pub words_stay : Stays before.words middle.words
  pub word_of : WhereTold (GivesFirst 0 word) middle.words after.words
  pub times_stay : Stays middle.times after.times

-- the moment of a call, and whatever the clock did afterwards left it
one_moment : {S : Type 0} (c : Call S) (a b d : Option (List Moment))
    → WhereTold (GivesFirst (record { 0 = 0 }) c.step.handed) a b → Stays b d
    → WhereTold (λ before now. Chain (λ x e y. GivesMoment x e y) before (c ∷ []) now) a d
one_moment c a b d r s = told_then (λ x y z f e. (x, refl, (f.0, e ∙ f.1))) a b d r s

-- a word that was asked for after that
one_word : {S : Type 0} (c : Call S) (word : ℕ) (a b d : Option (List ℕ))
    → ((x y : List ℕ) → GivesFirst 0 word x y → GivesWord x c y)
    → Stays a b → WhereTold (GivesFirst 0 word) b d
    → WhereTold (λ before now. Chain (λ x e y. GivesWord x e y) before (c ∷ []) now) a d
one_word c word a b d gives s r =
    told_then (λ x y z e f. (x, refl, subst (λ (l : List ℕ). GivesWord l c z) e (gives y z f)))
    a b d s r

-- a clock that was asked for no word
no_word : {S : Type 0} (c : Call S) (a b : Option (List ℕ))
    → ((x : List ℕ) → GivesWord x c x) → Stays a b
    → WhereTold (λ before now. Chain (λ x e y. GivesWord x e y) before (c ∷ []) now) a b
no_word c a b gives s =
    told_as (λ x y e. (x, refl, subst (λ (l : List ℕ). GivesWord x c l) (sym e) (gives x)))
    a b s

-- ---- one call

one_call : {S : Type 0} (told : S → List Datagram) (c : Call S) (a b : CallerSeen)
    → Does told a.seat c b.seat
    → WhereTold (λ old new. Chain (λ x e y. GivesMoment x e y) old (c ∷ []) new)
    a.clock.times b.clock.times
    → WhereTold (λ old new. Chain (λ x e y. GivesWord x e y) old (c ∷ []) new)
    a.clock.words b.clock.words
    → CallsMade told (c ∷ []) a b
one_call told c a b does times words =
    record { seat = (a.seat, refl, does); moments = times; words = words }

-- ---- jobs

-- what a row leaves is the job that was answered
left-held : (result : SeatHeard) (seen : List Row) → LeavesWrite result seen
    → IsLeftBy seen (option_map (job_at (last_place seen)) (job_held result))
left-held heard.Done [] h = h
left-held heard.Done (r ∷ found) h = sym h
left-held (heard.Held (job.Write j)) [] h = h
left-held (heard.Held (job.Write j)) (r ∷ found) h =
    ap (λ (w : Write). Some (record {
      kind = step.Commit (length found);
      peer = w.peer;
      datagram = w.datagram;
    })) h.is ∙ sym h.left
left-held (heard.Held (job.Keep j)) seen h = absurd h
left-held heard.Starved [] h = h
left-held heard.Starved (r ∷ found) h = sym h

-- what a look leaves is the job that was answered
kept-held : (result : SeatHeard) (place : ℕ) (s : Step) → IsKeepOf s.peer s.datagram result
    → option_map (job_at place) (job_held result) ≡ job_kept (answer_left result) s
kept-held heard.Done place s h = refl
kept-held (heard.Held (job.Write j)) place s h = absurd h
kept-held (heard.Held (job.Keep j)) place s h = λ i. Some (record {
  kind = step.Keep j.answer.body j.answer.tag;
  peer = h.0 i;
  datagram = h.1 i;
})
kept-held heard.Starved place s h = refl

-- the job that is left may be done
pub open-held : (result : SeatHeard) (seat : SeatSeen) → MayBeDone result seat
    → IfSome (job_held result) (λ j. IsOpenWrite (last_place seat.seen) seat j)
open-held heard.Done seat h = tt
open-held (heard.Held j) seat h = h
open-held heard.Starved seat h = tt

-- the step of a job is the job's
pub go-IsOfJob : (worker place : ℕ) (now : Moment) (j : Job) (drawn : ℕ)
    → IsOfJob (job_at place j) (go_step worker place now j drawn)
go-IsOfJob worker place now (job.Write j) drawn =
    record { kind = refl; peer = refl; datagram = refl }
go-IsOfJob worker place now (job.Keep j) drawn =
    record { kind = refl; peer = refl; datagram = refl }

-- the row that a step made, whatever was shown before
pub any_row : (a b : SeatSeen) (s : Step) (starved : Bool) (out : List Datagram)
    → MakesStep a s starved out b
    → MakesRow (seat_of a [] []) s starved out (seat_of b [] [])
any_row a b s starved out makes =
    makes [] [] (record { all_met = All-nil (λ f. IsFront f a.met); front_met = (a.met, refl) })

-- a row that leaves no job
none_left : (a b : SeatSeen) (s : Step) (starved : Bool) (out : List Datagram)
    → MakesStep a s starved out b
    → ((found : List Row) → job_left (row found s starved) found ≡ None)
    → IsLeftBy b.seen None
none_left a b s starved out makes none =
    let made : MakesRow (seat_of a [] []) s starved out (seat_of b [] []) =
    any_row a b s starved out makes in
    subst (λ (rows : List Row). IsLeftBy rows None)
    (sym (ap (λ (seat : Seat). seat.seen) made.seat)) (sym (none made.found))

none_ticked : (worker : ℕ) (now : Moment) (word drawn : ℕ) (starved : Bool) (found : List Row)
    → job_left (row found (tick_step worker now word drawn) starved) found ≡ None
unfolding row
none_ticked worker now word drawn starved found = refl

none_done : (worker place : ℕ) (now : Moment) (j : Job) (drawn : ℕ) (starved : Bool)
    (found : List Row)
    → job_left (row found (go_step worker place now j drawn) starved) found ≡ None
unfolding row
none_done worker place now (job.Write j) drawn starved found = refl
none_done worker place now (job.Keep j) drawn starved found = refl

-- ---- the calls of a caller

-- a tick
abbrev pub tick_call : {S : Type 0} → SeatSeen → Moment → ℕ → Bool → S → Call S
tick_call a now word starved sent = record {
  step = tick_step a.worker now word a.drawn;
  starved = starved;
  sent = sent;
  left = None;
}

pub tick-made : {S : Type 0} (told : S → List Datagram) (a b : CallerSeen) (middle : ClockSeen)
    (now : Moment) (word : ℕ) (starved : Bool) (sent : S)
    → IsOfHall a.seat.hall b.seat → IsFront a.seat.met b.seat.met
    → MakesStep a.seat (tick_step a.seat.worker now word a.seat.drawn) starved (told sent) b.seat
    → Asked now word a.clock middle b.clock
    → CallsMade told (tick_call a.seat now word starved sent ∷ []) a b
tick-made told a b middle now word starved sent of_hall grows makes asked =
    let c : Call _ = tick_call a.seat now word starved sent in
    let left : IsLeftBy b.seat.seen None =
    none_left a.seat b.seat c.step starved (told sent) makes
    (none_ticked a.seat.worker now word a.seat.drawn starved) in
    one_call told c a b
    (inl (record { of_hall = of_hall; grows = grows; made = makes; left = left }))
    (one_moment c a.clock.times middle.times b.clock.times asked.moment asked.times_stay)
    (one_word c word a.clock.words middle.words b.clock.words (λ x y g. g)
    asked.words_stay asked.word_of)

-- a job that is done
abbrev pub go_call : {S : Type 0} → SeatSeen → Moment → Job → Bool → S → Call S
go_call a now j starved sent = record {
  step = go_step a.worker (last_place a.seen) now j a.drawn;
  starved = starved;
  sent = sent;
  left = None;
}

no_word_done : {S : Type 0} (a : SeatSeen) (now : Moment) (j : Job) (starved : Bool) (sent : S)
    (x : List ℕ) → GivesWord x (go_call a now j starved sent) x
no_word_done a now (job.Write j) starved sent x = refl
no_word_done a now (job.Keep j) starved sent x = refl

handed_done : {S : Type 0} (a : SeatSeen) (now : Moment) (j : Job) (starved : Bool) (sent : S)
    → (go_call a now j starved sent).step.handed ≡ now
handed_done a now (job.Write j) starved sent = refl
handed_done a now (job.Keep j) starved sent = refl

pub go-made : {S : Type 0} (told : S → List Datagram) (a b : CallerSeen) (now : Moment) (j : Job)
    (starved : Bool) (sent : S)
    → IsOfHall a.seat.hall b.seat → IsFront a.seat.met b.seat.met
    → MakesStep a.seat (go_step a.seat.worker (last_place a.seat.seen) now j a.seat.drawn)
    starved (told sent) b.seat
    → WhereTold (GivesFirst (record { 0 = 0 }) now) a.clock.times b.clock.times
    → Stays a.clock.words b.clock.words
    → CallsMade told (go_call a.seat now j starved sent ∷ []) a b
go-made told a b now j starved sent of_hall grows makes times words =
    let c : Call _ = go_call a.seat now j starved sent in
    let left : IsLeftBy b.seat.seen None =
    none_left a.seat b.seat c.step starved (told sent) makes
    (none_done a.seat.worker (last_place a.seat.seen) now j a.seat.drawn starved) in
    let gives : WhereTold (GivesFirst (record { 0 = 0 }) c.step.handed)
    a.clock.times b.clock.times =
    subst (λ (m : Moment). WhereTold (GivesFirst (record { 0 = 0 }) m)
    a.clock.times b.clock.times) (sym (handed_done a.seat now j starved sent)) times in
    one_call told c a b
    (inl (record { of_hall = of_hall; grows = grows; made = makes; left = left }))
    (told_as (λ x y g. (x, refl, g)) a.clock.times b.clock.times gives)
    (no_word c a.clock.words b.clock.words (no_word_done a.seat now j starved sent) words)

-- a datagram that is heard, whether it is a look or not
abbrev hear_step : Bool → ℕ → Moment → ℕ → Peer → List ℕ → ℕ → Step
hear_step true worker now word peer datagram drawn = look_step worker now 0 peer datagram drawn
hear_step false worker now word peer datagram drawn =
    admit_step worker now word peer datagram drawn

abbrev pub hear_call : {S : Type 0} → Bool → SeatSeen → List Row → Moment → ℕ → Peer
    → List ℕ → SeatHeard → S → Call S
hear_call look a seen now word peer datagram result sent = record {
  step = hear_step look a.worker now word peer datagram a.drawn;
  starved = is_starved_hearing result;
  sent = sent;
  left = option_map (job_at (last_place seen)) (job_held result);
}

pub hear-IsHearing : {S : Type 0} (look : Bool) (a : SeatSeen) (seen : List Row) (now : Moment)
    (word : ℕ) (peer : Peer) (datagram : List ℕ) (result : SeatHeard) (sent : S)
    → is_look_datagram datagram ≡ look
    → IsHearing peer datagram (hear_call look a seen now word peer datagram result sent)
hear-IsHearing true a seen now word peer datagram result sent e = record {
  kind = ap (λ (x : Bool). if x then step.Look else step.Admit) (sym e);
  peer_of = refl;
  datagram_of = refl;
}
hear-IsHearing false a seen now word peer datagram result sent e = record {
  kind = ap (λ (x : Bool). if x then step.Look else step.Admit) (sym e);
  peer_of = refl;
  datagram_of = refl;
}

-- what hearing it did, where it is a look and where it is none
pub record WasHeard (now : Moment) (word : ℕ) (peer : Peer) (datagram : List ℕ)
    (result : SeatHeard) (out : List Datagram) (before after : SeatSeen) : Type 0 where
  pub of_hall : IsOfHall before.hall after
  pub grows : IsFront before.met after.met
  pub makes : is_look_datagram datagram ≡ false
      → MakesStep before (admit_step before.worker now word peer datagram before.drawn)
      (is_starved_hearing result) out after
  pub leaves : is_look_datagram datagram ≡ false → LeavesWrite result after.seen
  pub looks : is_look_datagram datagram ≡ true
      → LooksAtMet before (look_step before.worker now 0 peer datagram before.drawn)
      (is_starved_hearing result) out (answer_left result) after
  pub keeps : is_look_datagram datagram ≡ true → IsKeepOf peer datagram result

pub hear-made : {S : Type 0} (told : S → List Datagram) (look : Bool) (a b : CallerSeen)
    (middle : ClockSeen) (now : Moment) (word : ℕ) (peer : Peer) (datagram : List ℕ)
    (result : SeatHeard) (sent : S) → is_look_datagram datagram ≡ look
    → WasHeard now word peer datagram result (told sent) a.seat b.seat
    → Asked now word a.clock middle b.clock
    → CallsMade told
    (hear_call look a.seat b.seat.seen now word peer datagram result sent ∷ []) a b
hear-made told true a b middle now word peer datagram result sent e was asked =
    let c : Call _ = hear_call true a.seat b.seat.seen now word peer datagram result sent in
    one_call told c a b
    (inr (record {
      of_hall = was.of_hall;
      grows = was.grows;
      held = answer_left result;
      looks = was.looks e;
      left = kept-held result (last_place b.seat.seen) c.step (was.keeps e);
    }))
    (one_moment c a.clock.times middle.times b.clock.times asked.moment asked.times_stay)
    (one_word c word a.clock.words middle.words b.clock.words (λ x y g. g.1)
    asked.words_stay asked.word_of)
hear-made told false a b middle now word peer datagram result sent e was asked =
    let c : Call _ = hear_call false a.seat b.seat.seen now word peer datagram result sent in
    one_call told c a b
    (inl (record {
      of_hall = was.of_hall;
      grows = was.grows;
      made = was.makes e;
      left = left-held result b.seat.seen (was.leaves e);
    }))
    (one_moment c a.clock.times middle.times b.clock.times asked.moment asked.times_stay)
    (one_word c word a.clock.words middle.words b.clock.words (λ x y g. g)
    asked.words_stay asked.word_of)

-- ---- more calls

pub CallsMade-none : {S : Type 0} (told : S → List Datagram) (a : CallerSeen)
    → CallsMade told [] a a
CallsMade-none told a = record {
  seat = refl;
  moments = told_same (λ old new. new ≡ old) (λ x. refl) a.clock.times;
  words = told_same (λ old new. new ≡ old) (λ x. refl) a.clock.words;
}

pub CallsMade-then : {S : Type 0} (told : S → List Datagram) (xs ys : List (Call S))
    (a b c : CallerSeen) → CallsMade told xs a b → CallsMade told ys b c
    → CallsMade told (ys ++ xs) a c
CallsMade-then told xs ys a b c r s = record {
  seat = Chain-then (λ old d new. Does told old d new) a.seat b.seat c.seat xs ys r.seat s.seat;
  moments = told_then
      (λ x y z f g. Chain-then (λ old d new. GivesMoment old d new) x y z xs ys f g)
      a.clock.times b.clock.times c.clock.times r.moments s.moments;
  words = told_then (λ x y z f g. Chain-then (λ old d new. GivesWord old d new) x y z xs ys f g)
      a.clock.words b.clock.words c.clock.words r.words s.words;
}
