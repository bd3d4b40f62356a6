-- Seats, computed: a desk step at a turn, the moment of a look, and what a look gives from a front.
-- Beside each the datagrams are shown: type, code, Message ID, token, options, payload.
use Rattle.std.proofs.Common.{
  ◌≡◌,
  ℕ,
  true,
  false,
  List,
  [],
  ◌∷◌,
  ◌++◌,
  length,
  map,
  codes,
  Some,
  None,
  option_map,
  refl,
}
use Rattle.std.proofs.lemmas.List.Elements.{All-nil}
use Rattle.rd_base.specs.declared.peers.Host.TheVariants as host
use Rattle.rd_base.specs.declared.peers.Peer.{Peer}
use Rattle.message_model.proofs.Notation.{hex}
use Rattle.history_model.specs.declared.entries.Entry.{Entry}
use Rattle.history_model.specs.Live.{IsFront}
use Rattle.event_model.specs.KeptAnswers.{Answer}
use Rattle.journal_model.specs.declared.steps.Step.{Step}
use Rattle.journal_model.specs.declared.steps.StepKind.{StepKind}
use Rattle.journal_model.specs.declared.steps.StepKind.TheVariants as step
use Rattle.journal_model.specs.declared.rows.Row.{Row}
use Rattle.journal_model.specs.Journal.{entries}
use Rattle.journal_model.specs.Rows.{row}
use Rattle.journal_model.specs.Machine.{Job}
use Rattle.journal_model.specs.Seats.{
  Seat,
  new_seat,
  Agree,
  job_left,
  after_row,
  MakesRow,
  look_moment,
  seat_looked,
  seat_held,
  after_look,
  LooksFrom,
}
use Rattle.trace_model.specs.Steps.{journal}
use Rattle.trace_model.proofs.OnLiterals.{output_on_literals}
use Rattle.trace_model.proofs.OutputLines.{lines, many}

-- 192.0.2.10:5683
abbrev device : Peer
device = record { host = host.V4 (192 ∷ 0 ∷ 2 ∷ 10 ∷ []); port = 5683 }

-- a step of worker 1
abbrev step_of : StepKind → ℕ → ℕ → List ℕ → Step
step_of kind moment drawn digits = record {
  kind = kind;
  worker = 1;
  handed = record { 0 = moment };
  word = 0;
  peer = device;
  datagram = hex digits;
  drawn = drawn;
}

-- worker 0 registered a device at 1005, for ten minutes
--     CON 0.02 m=0001 t=a1 [11 rd][12 x28][15 ep=node1][15 lt=600] |
-- </temp>;rt="temperature";ct=0,</light>;rt="light-lux";if="sensor"
abbrev registered : List Row
registered = journal 2 (lines (
    codes
    "in 0 1000 192.0.2.10:5683 41020001a1b2726411283865703d6e6f646531066c743d363030ff3c2f74656d703e3b72743d2274656d7065726174757265223b63743d302c3c2f6c696768743e3b72743d226c696768742d6c7578223b69663d2273656e736f7222"
    ∷ codes "go 0 1005" ∷ []))

-- ---- a desk step

-- seat 1 hears a registration, by a clock that is behind: NON 0.02 m=0042 t=a9 [11 rd][15 ep=z]
abbrev heard : Step
heard = step_of step.Admit 500 0 (codes "51020042a9b272644465703d7a")

-- it makes the row behind the two that it had not seen, and sends nothing
abbrev after_hearing : Seat
after_hearing = after_row (new_seat 1) registered (row registered heard false)

hears : MakesRow (new_seat 1) heard false [] after_hearing
unfolding output_on_literals
hears = record {
  found = registered;
  goes_on = record { further = registered; whole = refl };
  by_others = refl;
  agrees = All-nil (λ (front : List Entry). Agree front (entries registered));
  desk = refl;
  own = record { worker = refl; drawn = refl };
  sends = refl;
  seat = refl;
}

-- its moment is that of the journal, and the write is its job
its_moment : after_hearing.last ≡ 1005
unfolding output_on_literals
its_moment = refl

its_rows : length after_hearing.seen ∷ length after_hearing.mine ∷ [] ≡ 3 ∷ 1 ∷ []
unfolding output_on_literals
its_rows = refl

its_job :
    option_map (λ (job : Job). job.kind) (job_left (row registered heard false) registered)
    ≡ Some (step.Commit 2)
unfolding output_on_literals
its_job = refl

-- the write is done: NON 2.01 m=1000 t=a9 [8 rd][8 2]
abbrev done : Row
done =
    row after_hearing.seen (step_of (step.Commit 2) 1006 0 (codes "51020042a9b272644465703d7a"))
    false

done_sends : map (λ d. d.1) done.sent ≡ hex (codes "51411000a98272640132") ∷ []
unfolding output_on_literals
done_sends = refl

-- it drew one Message ID, and both its rows are its own
abbrev after_done : Seat
after_done = after_row after_hearing after_hearing.seen done

done_leaves : after_done.drawn ∷ after_done.last ∷ length after_done.mine ∷ [] ≡ 1 ∷ 1006 ∷ 2 ∷ []
unfolding output_on_literals
done_leaves = refl

-- ---- the moment of a look: the greatest of three

-- a lookup: CON 0.01 m=0002 t=b2 [11 rd-lookup][11 res][15 rt=light-lux]
abbrev looking : ℕ → Step
looking moment =
    step_of step.Look moment 0
    (codes "41010002b2b972642d6c6f6f6b7570037265734c72743d6c696768742d6c7578")

-- a seat whose last step was at a moment
abbrev seat_at : ℕ → Seat
seat_at last = record {
  worker = 1;
  seen = [];
  mine = [];
  shown = [];
  front = [];
  last = last;
  drawn = 0;
}

moment_of_front : look_moment (seat_at 1004) (looking 1004) (entries registered) ≡ 1005
unfolding output_on_literals
moment_of_front = refl

moment_handed : look_moment (seat_at 1005) (looking 1006) (entries registered) ≡ 1006
unfolding output_on_literals
moment_handed = refl

moment_of_seat : look_moment (seat_at 1006) (looking 1005) (entries registered) ≡ 1006
unfolding output_on_literals
moment_of_seat = refl

-- ---- what a look gives

-- what is sent for the lookup from a front, by a seat whose last step was at a moment
abbrev found_from : List Entry → ℕ → ℕ → List (List ℕ)
found_from front last moment =
    map (λ d. d.1) (seat_looked (seat_at last) (looking moment) false front).sent

-- from the opening version nothing: ACK 2.05 m=0002 t=b2 [4 x0000000000000000][12 x28]
found_before : found_from [] 0 1006 ≡ hex (codes "61450002b24800000000000000008128") ∷ []
unfolding output_on_literals
found_before = refl

-- from one that holds the registration: ACK 2.05 m=0002 t=b2 [4 x0000000000010000][12 x28] |
-- <coap://192.0.2.10/light>;rt="light-lux";if="sensor"
found_now :
    found_from (entries registered) 0 601004
    ≡ hex (codes
    "61450002b24800000000000100008128ff3c636f61703a2f2f3139322e302e322e31302f6c696768743e3b72743d226c696768742d6c7578223b69663d2273656e736f7222")
    ∷ []
unfolding output_on_literals
found_now = refl

-- it has lapsed at the last moment of the seat, though the clock went back: ACK 2.05 m=0002 t=b2 [4
-- x0000000000010001][12 x28]
found_lapsed :
    found_from (entries registered) 601005 601004
    ≡ hex (codes "61450002b24800000000000100018128") ∷ []
unfolding output_on_literals
found_lapsed = refl

-- a look is shown: the seat has not seen more, and its last moment is that of the look
abbrev after_looking : Seat
after_looking = after_look (seat_at 0) (looking 2000) false (entries registered)

looks : LooksFrom (seat_at 0) (looking 2000) false
    (seat_looked (seat_at 0) (looking 2000) false (entries registered)).sent None after_looking
unfolding output_on_literals
looks = record {
  front = entries registered;
  holds_seen = (entries registered, refl);
  holds_shown = (entries registered, refl);
  look = refl;
  own = record { worker = refl; drawn = refl };
  sends = refl;
  holds = refl;
  seat = refl;
}

look_leaves :
    length after_looking.seen
    ∷ length after_looking.shown
    ∷ length after_looking.front
    ∷ after_looking.last
    ∷ []
    ≡ 0 ∷ 1 ∷ 1 ∷ 2000 ∷ []
unfolding output_on_literals
look_leaves = refl

-- from a front that lacks an entry that the seat has seen no look is answered
old_front : IsFront (entries registered) [] → ⊥
unfolding output_on_literals
old_front begins = absurd (let h : ◌∷◌ _ _ ≡ [] = begins.1 in cc)

-- ---- a body that is longer than the block size

-- CON 0.02 m=0001 t=a1 [11 rd][15 ep=n][15 base=coap://h] | </xxx..x>, with 2,039 letters
abbrev registered_long : List Row
registered_long = journal 2 (lines (
    (codes
    "in 0 1000 192.0.2.10:5683 41020001a1b272644465703d6e0d00626173653d636f61703a2f2f68ff3c2f"
    ++ (many 2039 (codes "78") ++ codes "3e"))
    ∷ codes "go 0 1000" ∷ []))

-- CON 0.01 m=0010 t=c1 [11 rd-lookup][11 res][15 ep=n]
abbrev looking_long : Step
looking_long = step_of step.Look 1001 0 (codes "41010010c1b972642d6c6f6f6b7570037265734465703d6e")

-- nothing is sent, and the whole body is held under its tag
long_sends : (seat_looked (seat_at 0) looking_long false (entries registered_long)).sent ≡ []
unfolding output_on_literals
long_sends = refl

long_holds :
    option_map (λ (answer : Answer). length answer.body)
    (seat_held (seat_at 0) looking_long false (entries registered_long))
    ≡ Some 2050
unfolding output_on_literals
long_holds = refl

long_tag :
    option_map (λ (answer : Answer). answer.tag)
    (seat_held (seat_at 0) looking_long false (entries registered_long))
    ≡ Some (hex (codes "0000000000010000"))
unfolding output_on_literals
long_tag = refl

-- out of memory: ACK 5.00 m=0010 t=c1, and nothing is held
starved_sends :
    map (λ d. d.1) (seat_looked (seat_at 0) looking_long true (entries registered_long)).sent
    ≡ hex (codes "61a00010c1") ∷ []
unfolding output_on_literals
starved_sends = refl

starved_holds : seat_held (seat_at 0) looking_long true (entries registered_long) ≡ None
unfolding output_on_literals
starved_holds = refl
