use Rattle.std.proofs.Common.{◌≡◌, ℕ, List, if◌then◌else◌, sym, ap, ◌∙◌, subst}
use Rattle.message_model.specs.declared.messages.Role.TheVariants as role
use Rattle.journal_model.specs.declared.steps.StepKind.TheVariants as step
use Rattle.rd_request.specs.declared.accepted.Request.{Request}
use Rattle.rd_request.specs.declared.incoming.Incoming.{Incoming}
use Rattle.rd_request.specs.declared.incoming.Incoming.TheVariants as incoming
use Rattle.rd_request.specs.Accepted.{message_of}
use Rattle.rd_request.specs.Incoming.{IsIncoming}
use Rattle.rd_request.proofs.IncomingLaws.{looks_is, looks_not_as}
use Rattle.rd_request.proofs.KeptRequestLaws.{spelling_read, spelling_looks}
use Rattle.trace_replay.proofs.WorkerSteps.{ok_as}
use Rattle.trace_replay.proofs.workers.Worker.hear.Goals as goal

-- what was read of a datagram is a look
look_read : (datagram : List ℕ) (read : Incoming) (request : Request)
    → read ≡ incoming.Look request
    → IsIncoming datagram read
    → IsIncoming datagram (incoming.Look request)
look_read datagram read request is was = subst (IsIncoming datagram) is was

-- what is no look is admitted

pub admit-requires-clause-other : goal.admit-requires-clause-other
admit-requires-clause-other c =
    looks_not_as c.args.arrival.datagram.now c.args.arrival.incoming c.requires.read
    c.in_default.not-Look

pub returns-in_default : goal.returns-in_default
returns-in_default c =
    let other = looks_not_as c.args.arrival.datagram.now c.args.arrival.incoming c.requires.read
    c.in_default.not-Look in
    ok_as c.admit.result
    (λ _ made rows s kind.
    made rows s (kind ∙ ap (λ b. if b then step.Look else step.Admit) other))
    c.admit.ensures

-- a look is answered by the request that was read of it

pub look-requires-clause-read : goal.look-requires-clause-read
look-requires-clause-read c =
    let is =
    look_read c.args.arrival.datagram.now _ c.in-Look.request c.in-Look.is c.requires.read in
    spelling_read role.Request c.args.arrival.datagram.now (message_of c.in-Look.request) is.0

pub look-requires-clause-looks : goal.look-requires-clause-looks
look-requires-clause-looks c =
    spelling_looks c.args.arrival.datagram.now c.in-Look.request
    (look_read c.args.arrival.datagram.now _ c.in-Look.request c.in-Look.is c.requires.read)

pub returns : goal.returns
returns c =
    let is =
    look_read c.args.arrival.datagram.now _ c.in-Look.request c.in-Look.is c.requires.read in
    let looks = looks_is c.args.arrival.datagram.now (incoming.Look c.in-Look.request) is in
    ok_as c.look.result
    (λ _ made rows s kind by of word.
    made rows s (kind ∙ ap (λ b. if b then step.Look else step.Admit) looks) by
    (of ∙ sym is.0.spelled))
    c.look.ensures
