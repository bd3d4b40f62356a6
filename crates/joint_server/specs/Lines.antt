-- What a server over UDP and TCP writes at its end.
use Rattle.std.specs.Prelude.{◌≡◌, ℕ, ◌+◌, ◌*◌, ◌^◌, ◌<◌, ◌≤◌, List, [], ◌∷◌, ◌++◌}
use Rattle.std.specs.Prelude.{Option, Result, Ok, Err, codes, length, take}
use Rattle.std.specs.Fmt.{decimal}
use Rattle.std.specs.Io.KnownBytes.{Appends}
use Rattle.rd_base.specs.Outside.{Rose}
use Rattle.rd_server.specs.declared.serving.served.Served.{Served}
use Rattle.rd_server.specs.declared.serving.served.ServeFault.{ServeFault}
use Rattle.rd_server.specs.declared.serving.served.ServeFault.TheVariants as fault
use Rattle.rd_server.specs.declared.serving.serve_status.ServeStatus.{ServeStatus}
use Rattle.rd_server.specs.declared.serving.serve_status.ServeStatus.TheVariants as status
use Rattle.rd_server.specs.serving.Endings as endings
use Rattle.rd_server.specs.serving.Endings.{none_served, served_line}
use Rattle.rd_server.specs.serving.Sums.{IsBelow, worker_most}
use Rattle.joint_server.specs.declared.attended.Attended.{Attended}
use Rattle.joint_server.specs.Standing.{IsFew}
use Rattle.joint_server.specs.declared.lines.Sums.{Sums}
use Rattle.joint_server.specs.declared.posts.Post.{Post}
use Rattle.joint_server.specs.declared.posts.Post.TheVariants as post

-- The counts of workers, added up: those of datagrams and those of connections.
abbrev pub none_counted : Sums
none_counted = record { served = none_served; attended = record { connections = 0; asked = 0 } }

-- Returns the result of a service as sums, with nothing of the other kind.
abbrev pub of_served : Result Served ServeFault → Result Sums ServeFault
of_served (Ok served) = Ok (record none_counted { served = served })
of_served (Err f) = Err f

abbrev pub of_attended : Result Attended ServeFault → Result Sums ServeFault
of_attended (Ok attended) = Ok (record none_counted { attended = attended })
of_attended (Err f) = Err f

-- Returns the outcome of a worker.
abbrev pub outcome_of : {L E C : Type 0} → Post L E C → Result Sums ServeFault
outcome_of (post.Udp end) = of_served end.outcome
outcome_of (post.Tcp stand) = of_attended stand.outcome

-- Returns the sums of both.
abbrev pub both : Sums → Sums → Sums
both a b = record {
  served = endings.both_served a.served b.served;
  attended = record {
    connections = a.attended.connections + b.attended.connections;
    asked = a.attended.asked + b.attended.asked;
  };
}

-- Returns the sums of both, or the first fault that applies: memory precedes the others.
abbrev pub join : Result Sums ServeFault → Result Sums ServeFault → Result Sums ServeFault
join (Ok a) (Ok b) = Ok (both a b)
join (Ok a) (Err f) = Err f
join (Err f) (Ok b) = Err f
join (Err fault.Memory) (Err g) = Err fault.Memory
join (Err fault.Link) (Err g) = Err g

-- Returns the same, after the outcomes of more workers.
abbrev pub joined_after : {L E C : Type 0} → Result Sums ServeFault → List (Post L E C)
    → Result Sums ServeFault
joined_after so_far [] = so_far
joined_after so_far (p ∷ posts) = joined_after (join so_far (outcome_of p)) posts

-- Returns the sums of all workers, if all were served.
abbrev pub joined : {L E C : Type 0} → List (Post L E C) → Result Sums ServeFault
joined posts = joined_after (Ok none_counted) posts

-- Returns the line of the sums of connections.
abbrev pub talked_line : Attended → List ℕ
talked_line a = codes "talked " ++ (decimal a.connections
    ++ (codes " " ++ (decimal a.asked ++ codes "\n")))

-- Returns the lines of the sums.
abbrev pub sums_lines : Sums → List ℕ
sums_lines s = served_line s.served ++ talked_line s.attended

-- States how a server ends, from the outcomes of its workers. It says what the server wrote, and
-- that the count of the output's faults rose if and only if the lines were not written whole.
abbrev pub Concludes : Result Sums ServeFault → Option (List ℕ) → Option (List ℕ) → ℕ → ℕ
    → ServeStatus → Type 0
Concludes (Ok sums) old new faults faults_then status.Done =
    Appends old new (sums_lines sums) × (faults_then ≡ faults)
Concludes (Ok sums) old new faults faults_then status.Write =
    ((n : ℕ) × (n < length (sums_lines sums)) × Appends old new (take n (sums_lines sums)))
    × (faults ≤ faults_then) × Rose faults faults_then
Concludes (Ok sums) old new faults faults_then status.Memory =
    Appends old new [] × (faults_then ≡ faults)
Concludes (Err fault.Memory) old new faults faults_then status.Memory =
    Appends old new [] × (faults_then ≡ faults)
Concludes (Err fault.Link) old new faults faults_then status.Link =
    Appends old new [] × (faults_then ≡ faults)
Concludes _ old new faults faults_then _ = ⊥

-- Sums of at most this number of workers.
pub record AreBelow (workers : ℕ) (sums : Sums) : Type 0 where
  pub served : IsBelow (workers * worker_most) sums.served
  pub attended : IsFew (workers * 10 ^ 12) sums.attended
