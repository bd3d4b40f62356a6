-- Serving: calls that are wrong after a receive, sums, lines, and words, computed.
use Rattle.std.proofs.Common.{
  ◌≡◌,
  ℕ,
  List,
  [],
  ◌∷◌,
  length,
  Some,
  None,
  Ok,
  Err,
  codes,
  refl,
  sym,
  ap,
}
use Rattle.std.proofs.Common.{◌∙◌, arith}
use Rattle.std.specs.Prelude.{⊤}
use Rattle.std.specs.Fmt.{digits}
use Rattle.rd_base.specs.declared.peers.Peer.{Peer}
use Rattle.line_model.specs.Numbers.{number_of}
use Rattle.journal_model.specs.Machine.{Job}
use Rattle.rd_server.specs.declared.serving.served.Served.{Served}
use Rattle.rd_server.specs.declared.serving.served.ServeFault.TheVariants as fault
use Rattle.trace_replay.specs.Options.{words_after}
use Rattle.rd_seat.specs.Callers.{DoesJob}
use Rattle.rd_server.specs.serving.Calls.{Call}
use Rattle.rd_server.specs.serving.Sendings.{Sending}
use Rattle.rd_server.specs.serving.Endings.{joined, served_line}
use Rattle.rd_server.specs.serving.Plans.{plan_said}
use Rattle.rd_server.specs.serving.Turns.{Follows, HearsAt, Nothing, Failed}

-- ---- calls after a receive

-- the tick that comes after the sixteenth datagram is left out
left_out_falls : (peer : Peer) (datagram : List ℕ) (calls : List Call)
    (it : HearsAt 16 peer datagram calls) → it.ticks ≡ [] → ⊥
left_out_falls peer datagram calls it none =
    omega (arith, ap (λ (l : List Call). length l) (sym none ∙ it.sixteenth.alone))

-- one comes after the fifteenth
early_tick_falls : (peer : Peer) (datagram : List ℕ) (calls : List Call)
    (it : HearsAt 15 peer datagram calls) (tick : Call) → it.ticks ≡ tick ∷ [] → ⊥
early_tick_falls peer datagram calls it tick one =
    omega (arith, ap (λ (l : List Call). length l) (sym one ∙ it.sixteenth))

-- a job that is left is not done
job_left_falls : (j : Job) → DoesJob {S = List Sending} (Some j) [] → ⊥
job_left_falls j it = omega (arith, ap (λ (l : List Call). length l) it.1)

-- nothing came, and time does not pass
no_tick_falls : (earlier : ℕ) → Follows earlier Nothing [] → ⊥
no_tick_falls earlier it = omega (arith, ap (λ (l : List Call). length l) it.alone)

-- a call is made after a receive that failed
call_after_failure_falls : (earlier : ℕ) (c : Call) → Follows earlier Failed (c ∷ []) → ⊥
call_after_failure_falls earlier c it = omega (arith, ap (λ (l : List Call). length l) it)

-- ---- sums

one : Served
one = record { heard = 3; sent = 2; lost = 1; too_long = 4; starved = 0 }

two : Served
two = record { heard = 10; sent = 20; lost = 30; too_long = 40; starved = 50 }

unfoldable on_literals : ⊤
unfolding words_after number_of digits one two
on_literals = tt

sums : joined (Ok one ∷ Ok two ∷ [])
    ≡ Ok (record { heard = 13; sent = 22; lost = 31; too_long = 44; starved = 50 })
unfolding on_literals
sums = refl

-- a link that fails is told, whoever was served; want of memory comes before it
link_failed : joined (Ok one ∷ Err fault.Link ∷ Ok two ∷ []) ≡ Err fault.Link
unfolding on_literals
link_failed = refl

memory_first : joined (Err fault.Link ∷ Ok one ∷ Err fault.Memory ∷ []) ≡ Err fault.Memory
unfolding on_literals
memory_first = refl

line : served_line two ≡ codes "served 10 20 30\n"
unfolding on_literals
line = refl

-- ---- words

by_default : plan_said []
    ≡ Some (record { port = 5_683; workers = 4; turns = 1_000_000_000_000; tcp = None })
unfolding on_literals
by_default = refl

all_three : plan_said (codes "--turns" ∷ codes "1" ∷ codes "--port=65535" ∷ codes "--workers"
    ∷ codes "16" ∷ []) ≡ Some (record { port = 65_535; workers = 16; turns = 1; tcp = None })
unfolding on_literals
all_three = refl

over_tcp : plan_said (codes "--tcp" ∷ codes "1000000" ∷ codes "--port=1" ∷ [])
    ≡ Some (record {
      port = 1;
      workers = 4;
      turns = 1_000_000_000_000;
      tcp = Some 1_000_000;
    })
unfolding on_literals
over_tcp = refl

-- beside connections over TCP nothing but a port is said
with_workers : plan_said (codes "--workers=1" ∷ codes "--tcp=1" ∷ []) ≡ None
unfolding on_literals
with_workers = refl

with_turns : plan_said (codes "--tcp=1" ∷ codes "--turns=1" ∷ []) ≡ None
unfolding on_literals
with_turns = refl

many_streams : plan_said (codes "--tcp=1000001" ∷ []) ≡ None
unfolding on_literals
many_streams = refl

-- out of bounds, twice, another name, a name for its value
no_port : plan_said (codes "--port" ∷ codes "0" ∷ []) ≡ None
unfolding on_literals
no_port = refl

high_port : plan_said (codes "--port=65536" ∷ []) ≡ None
unfolding on_literals
high_port = refl

many_workers : plan_said (codes "--workers=17" ∷ []) ≡ None
unfolding on_literals
many_workers = refl

twice : plan_said (codes "--port=1" ∷ codes "--port=1" ∷ []) ≡ None
unfolding on_literals
twice = refl

other : plan_said (codes "--make=1" ∷ []) ≡ None
unfolding on_literals
other = refl

a_name_for_its_value : plan_said (codes "--port" ∷ codes "--port=1" ∷ []) ≡ None
unfolding on_literals
a_name_for_its_value = refl

lone : plan_said (codes "--turns" ∷ []) ≡ None
unfolding on_literals
lone = refl
