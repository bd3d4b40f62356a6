-- How a server ends: the sums of its workers, the line that is written of them, and its status.
use Rattle.std.specs.Prelude.{◌≡◌, ℕ, ◌+◌, ◌<◌, ◌≤◌, List, [], ◌∷◌, ◌++◌, codes, length, take}
use Rattle.std.specs.Prelude.{Option, Result, Ok, Err}
use Rattle.std.specs.Fmt.{decimal}
use Rattle.std.specs.Io.KnownBytes.{Appends}
use Rattle.rd_base.specs.Outside.{Rose}
use Rattle.rd_server.specs.declared.serving.served.Served.{Served}
use Rattle.rd_server.specs.declared.serving.served.ServeFault.{ServeFault}
use Rattle.rd_server.specs.declared.serving.served.ServeFault.TheVariants as fault
use Rattle.rd_server.specs.declared.serving.serve_status.ServeStatus.{ServeStatus}
use Rattle.rd_server.specs.declared.serving.serve_status.ServeStatus.TheVariants as status

-- ---- sums

-- The counts of a worker that has counted nothing.
abbrev pub none_served : Served
none_served = record { heard = 0; sent = 0; lost = 0; too_long = 0; starved = 0 }

-- Returns the sums of two counts.
abbrev pub both_served : Served → Served → Served
both_served a b = record {
  heard = a.heard + b.heard;
  sent = a.sent + b.sent;
  lost = a.lost + b.lost;
  too_long = a.too_long + b.too_long;
  starved = a.starved + b.starved;
}

-- Returns the sums of two counts, or the first fault that applies: memory precedes a link.
abbrev pub join : Result Served ServeFault → Result Served ServeFault → Result Served ServeFault
join (Ok a) (Ok b) = Ok (both_served a b)
join (Ok a) (Err f) = Err f
join (Err f) (Ok b) = Err f
join (Err fault.Memory) (Err g) = Err fault.Memory
join (Err fault.Link) (Err g) = Err g

-- Returns the same, after the outcomes of more ends.
abbrev pub joined_after : Result Served ServeFault → List (Result Served ServeFault)
    → Result Served ServeFault
joined_after so_far [] = so_far
joined_after so_far (o ∷ more) = joined_after (join so_far o) more

-- Returns the sums of all ends, if all were served.
abbrev pub joined : List (Result Served ServeFault) → Result Served ServeFault
joined outcomes = joined_after (Ok none_served) outcomes

-- ---- what is written

-- Returns the line of the sums.
abbrev pub served_line : Served → List ℕ
served_line s = codes "served " ++ (decimal s.heard ++ (codes " " ++ (decimal s.sent
    ++ (codes " " ++ (decimal s.lost ++ codes "\n")))))

-- States how a server ends, from the outcomes of its workers. It says what the server wrote, and
-- that the count of the output's faults rose if and only if the line was not written whole.
abbrev pub Concludes : Result Served ServeFault → Option (List ℕ) → Option (List ℕ) → ℕ → ℕ
    → ServeStatus → Type 0
Concludes (Ok sums) old new faults faults_then status.Done =
    Appends old new (served_line sums) × (faults_then ≡ faults)
Concludes (Ok sums) old new faults faults_then status.Write =
    ((n : ℕ) × (n < length (served_line sums)) × Appends old new (take n (served_line sums)))
    × (faults ≤ faults_then) × Rose faults faults_then
Concludes (Ok sums) old new faults faults_then status.Memory =
    Appends old new [] × (faults_then ≡ faults)
Concludes (Err fault.Memory) old new faults faults_then status.Memory =
    Appends old new [] × (faults_then ≡ faults)
Concludes (Err fault.Link) old new faults faults_then status.Link =
    Appends old new [] × (faults_then ≡ faults)
Concludes _ old new faults faults_then _ = ⊥
