-- The steps that a seat makes at its turn.
use Rattle.std.specs.Prelude.{ℕ, List, [], ◌∷◌}
use Rattle.rd_base.specs.declared.moments.Moment.{Moment}
use Rattle.rd_base.specs.declared.peers.Host.TheVariants as host
use Rattle.rd_base.specs.declared.peers.Peer.{Peer}
use Rattle.history_model.specs.declared.entries.Change.TheVariants as change
use Rattle.history_model.specs.declared.entries.Entry.{Entry}
use Rattle.journal_model.specs.declared.steps.Step.{Step}
use Rattle.journal_model.specs.declared.steps.StepKind.TheVariants as step
use Rattle.rd_look.specs.KeepJobs.{Keep}

-- The peer in the step of a tick or a beginning, which have none.
abbrev pub nobody : Peer
nobody = record { host = host.V4 (0 ∷ 0 ∷ 0 ∷ 0 ∷ []); port = 0 }

-- Returns the step in which time passes.
abbrev pub tick_step : ℕ → Moment → ℕ → ℕ → Step
tick_step worker moment word drawn = record {
  kind = step.Tick;
  worker = worker;
  handed = moment;
  word = word;
  peer = nobody;
  datagram = [];
  drawn = drawn;
}

-- Returns the step in which a run begins above a number.
abbrev pub begin_step : ℕ → Moment → ℕ → ℕ → Step
begin_step worker moment first drawn = record {
  kind = step.Begin first;
  worker = worker;
  handed = moment;
  word = 0;
  peer = nobody;
  datagram = [];
  drawn = drawn;
}

-- Returns the step in which a datagram that is not a look is handled.
abbrev pub admit_step : ℕ → Moment → ℕ → Peer → List ℕ → ℕ → Step
admit_step worker moment word peer datagram drawn = record {
  kind = step.Admit;
  worker = worker;
  handed = moment;
  word = word;
  peer = peer;
  datagram = datagram;
  drawn = drawn;
}

-- Returns the step of a look.
abbrev pub look_step : ℕ → Moment → ℕ → Peer → List ℕ → ℕ → Step
look_step worker moment word peer datagram drawn = record {
  kind = step.Look;
  worker = worker;
  handed = moment;
  word = word;
  peer = peer;
  datagram = datagram;
  drawn = drawn;
}

-- Returns the step in which the write that was admitted at a place is done.
abbrev pub commit_step : ℕ → ℕ → Moment → Peer → List ℕ → ℕ → Step
commit_step worker place moment peer datagram drawn = record {
  kind = step.Commit place;
  worker = worker;
  handed = moment;
  word = 0;
  peer = peer;
  datagram = datagram;
  drawn = drawn;
}

-- Returns the step in which a body is kept.
abbrev pub keep_step : ℕ → Moment → Keep → ℕ → Step
keep_step worker moment job drawn = record {
  kind = step.Keep job.answer.body job.answer.tag;
  worker = worker;
  handed = moment;
  word = 0;
  peer = job.peer;
  datagram = job.datagram;
  drawn = drawn;
}

-- An entry that no step made.
abbrev pub no_entry : Entry
no_entry = record {
  moment = record { 0 = 0 };
  worker = 0;
  peer = nobody;
  change = change.Remove 0;
}

-- Returns the first of a list of entries, or `no_entry` if there is none.
abbrev pub first_entry : List Entry → Entry
first_entry [] = no_entry
first_entry (entry ∷ more) = entry
