-- Steps in which memory runs out, computed: what each kind of step sends and notes then.
-- Beside each the datagrams are shown: type, code, Message ID, token, options, payload.
use Rattle.std.proofs.Common.{◌≡◌, ℕ, true, false, List, [], ◌∷◌, map, codes, refl}
use Rattle.message_model.proofs.Notation.{hex}
use Rattle.event_model.specs.declared.notes.Note.{Note}
use Rattle.event_model.specs.declared.notes.Note.TheVariants as note
use Rattle.event_model.proofs.ManyObservers.{peer}
use Rattle.journal_model.specs.declared.steps.Step.{Step}
use Rattle.journal_model.specs.declared.steps.StepKind.{StepKind}
use Rattle.journal_model.specs.declared.steps.StepKind.TheVariants as step
use Rattle.journal_model.specs.declared.rows.Row.{Row}
use Rattle.journal_model.specs.Rows.{row}
use Rattle.journal_model.specs.Machine.{run, unstarved}
use Rattle.journal_model.proofs.OnLiterals.{machine_on_literals}

-- a step of worker 1 at a moment, that drew so many Message IDs before, with a datagram of the peer
-- 192.0.3.k
abbrev step_of : StepKind → ℕ → ℕ → ℕ → List ℕ → Step
step_of kind moment drawn k digits = record {
  kind = kind;
  worker = 1;
  handed = record { 0 = moment };
  word = 0;
  peer = peer k;
  datagram = hex digits;
  drawn = drawn;
}

-- what the row of a step sends and what it notes, where memory runs out
abbrev starved_sends : List Row → Step → List (List ℕ)
starved_sends rows s = map (λ d. d.1) (row rows s true).sent

abbrev starved_notes : List Row → Step → List Note
starved_notes rows s = (row rows s true).notes

-- a registration is heard: CON 0.02 m=0001 t=a1 [11 rd][15 ep=n]
abbrev registration : Step
registration = step_of step.Admit 1000 0 1 (codes "41020001a1b272644465703d6e")

-- it gets ACK 5.00 m=0001 t=a1, and is not admitted
request_sends : starved_sends [] registration ≡ hex (codes "61a00001a1") ∷ []
unfolding machine_on_literals
request_sends = refl

request_notes : starved_notes [] registration ≡ []
unfolding machine_on_literals
request_notes = refl

-- not confirmable, it gets NON 5.00 m=1000 t=a1
plain_sends :
    starved_sends [] (step_of step.Admit 1000 0 1 (codes "51020001a1b272644465703d6e"))
    ≡ hex (codes "51a01000a1") ∷ []
unfolding machine_on_literals
plain_sends = refl

-- a lookup gets ACK 5.00 m=0010 t=c1: CON 0.01 m=0010 t=c1 [11 rd-lookup][11 res]
look_sends :
    starved_sends [] (step_of step.Look 1000 0 2 (codes "41010010c1b972642d6c6f6f6b757003726573"))
    ≡ hex (codes "61a00010c1") ∷ []
unfolding machine_on_literals
look_sends = refl

-- a body that is to be kept is not, and its first block is not sent
abbrev keep : Step
keep =
    step_of (step.Keep (codes "<coap://h/x>") (hex (codes "0000000000010000"))) 1001 0 2
    (codes "41010010c1b972642d6c6f6f6b757003726573")

keep_sends : starved_sends [] keep ≡ hex (codes "61a00010c1") ∷ []
unfolding machine_on_literals
keep_sends = refl

keep_notes : starved_notes [] keep ≡ []
unfolding machine_on_literals
keep_notes = refl

-- the registration was admitted, and is done: it gets ACK 5.00 m=0001 t=a1, and its admission ends
abbrev admitted : List Row
admitted = run (unstarved (registration ∷ []))

abbrev commit : Step
commit = step_of (step.Commit 0) 1001 0 1 (codes "41020001a1b272644465703d6e")

commit_sends : starved_sends admitted commit ≡ hex (codes "61a00001a1") ∷ []
unfolding machine_on_literals
commit_sends = refl

commit_notes : starved_notes admitted commit ≡ note.Failed 0 ∷ []
unfolding machine_on_literals
commit_notes = refl

-- before, it was a repeat where it came again; afterwards it is admitted
repeat_notes : (row admitted registration false).notes ≡ []
unfolding machine_on_literals
repeat_notes = refl

again_notes :
    (row (row admitted commit true ∷ admitted) registration false).notes
    ≡ note.Admitted (peer 1) 1 ∷ []
unfolding machine_on_literals
again_notes = refl

-- one peer observes the type a and another the type b, the links of a third are fetched; a link of
-- type a is registered, of which a tick tells, and then one of type b
--     CON 0.01 m=0010 t=c1 [6 x][11 rd-lookup][11 res][15 rt=a]
--     CON 0.01 m=0010 t=c2 [6 x][11 rd-lookup][11 res][15 rt=b]
--     CON 0.02 m=0004 t=e1 [11 .well-known][11 rd][15 ep=s]
--     CON 0.02 m=0005 t=e1 [11 .well-known][11 rd][15 ep=s][252 x0000000000000000]
--     CON 0.02 m=0001 t=a1 [11 rd][15 ep=n] | <x>;rt=a
--     CON 0.02 m=0002 t=a1 [11 rd][15 ep=m] | <x>;rt=b
abbrev observed : List Row
observed = run (unstarved (
    step_of step.Admit 1000 0 2 (codes "41010010c1605972642d6c6f6f6b7570037265734472743d61")
    ∷ step_of step.Admit 1000 0 3 (codes "41010010c2605972642d6c6f6f6b7570037265734472743d62")
    ∷ step_of step.Admit 1000 0 4 (codes "41020004e1bb2e77656c6c2d6b6e6f776e0272644465703d73")
    ∷ step_of step.Admit 1000 0 4
    (codes "41020005e1bb2e77656c6c2d6b6e6f776e0272644465703d73d8e00000000000000000")
    ∷ step_of (step.Commit 3) 1000 0 4
    (codes "41020005e1bb2e77656c6c2d6b6e6f776e0272644465703d73d8e00000000000000000")
    ∷ step_of step.Admit 1000 1 1 (codes "41020001a1b272644465703d6eff3c783e3b72743d61")
    ∷ step_of (step.Commit 5) 1000 1 1 (codes "41020001a1b272644465703d6eff3c783e3b72743d61")
    ∷ step_of step.Tick 1000 1 0 []
    ∷ step_of step.Admit 1001 2 1 (codes "41020002a1b272644465703d6dff3c783e3b72743d62")
    ∷ step_of (step.Commit 8) 1001 2 1 (codes "41020002a1b272644465703d6dff3c783e3b72743d62")
    ∷ []))

-- a response to that fetch is as if it had not come: CON 2.05 m=0777 t=0000000000000001 | <y> gets
-- nothing, and is not gathered
abbrev response : Step
response = step_of step.Admit 1002 3 4 (codes "484507770000000000000001ff3c793e")

response_sends : starved_sends observed response ≡ []
unfolding machine_on_literals
response_sends = refl

response_notes : starved_notes observed response ≡ []
unfolding machine_on_literals
response_notes = refl

-- the next tick, when the notification and the request of the fetch have waited
abbrev tick : Step
tick = step_of step.Tick 3000 2 0 []

-- the notification of type a is retransmitted, the observer of type b is told, and the request is
-- retransmitted
--     CON 2.05 m=1001 t=c1 [4 x0000000000010000][6 x03][12 x28] | <coap://192.0.3.1/x>;rt=a
--     CON 2.05 m=1002 t=c2 [4 x0000000000020000][6 x04][12 x28] | <coap://192.0.3.1/x>;rt=b
--     CON 0.01 m=1000 t=0000000000000001 [11 .well-known][11 core]
tick_sends : map (λ d. d.1) (row observed tick false).sent ≡ map hex (
    codes "41451001c148000000000001000021036128ff3c636f61703a2f2f3139322e302e332e312f783e3b72743d61"
    ∷ codes
    "41451002c248000000000002000021046128ff3c636f61703a2f2f3139322e302e332e312f783e3b72743d62"
    ∷ codes "480110000000000000000001bb2e77656c6c2d6b6e6f776e04636f7265"
    ∷ [])
unfolding machine_on_literals
tick_sends = refl

-- out of memory, all but the new notification
starved_tick_sends : starved_sends observed tick ≡ map hex (
    codes "41451001c148000000000001000021036128ff3c636f61703a2f2f3139322e302e332e312f783e3b72743d61"
    ∷ codes "480110000000000000000001bb2e77656c6c2d6b6e6f776e04636f7265"
    ∷ [])
unfolding machine_on_literals
starved_tick_sends = refl

-- and the next tick tells the observer
after_starved_tick :
    map (λ d. d.1) (row (row observed tick true ∷ observed) tick false).sent
    ≡ hex (codes
    "41451002c248000000000002000021046128ff3c636f61703a2f2f3139322e302e332e312f783e3b72743d62")
    ∷ []
unfolding machine_on_literals
after_starved_tick = refl
