-- What an admission does, by what it hears (RFC 7252 section 4).
use Rattle.std.proofs.Common.{◌≡◌, ℕ, Bool, true, false, List, Some, None, Result, refl}
use Rattle.std.proofs.lemmas.Bool.{false≢true}
use Rattle.message_model.specs.declared.messages.Role.TheVariants as role
use Rattle.message_model.specs.declared.messages.Unread.{Unread}
use Rattle.message_model.specs.declared.requests.Path.{Path}
use Rattle.message_model.specs.declared.requests.Path.TheVariants as path
use Rattle.message_model.specs.Message.{Message}
use Rattle.message_model.specs.OptionTable.{first_bad_option}
use Rattle.message_model.specs.Reading.{reading}
use Rattle.message_model.specs.Request.{path_in}
use Rattle.journal_model.specs.declared.steps.Step.{Step}
use Rattle.journal_model.specs.declared.steps.StepKind.TheVariants as step
use Rattle.journal_model.specs.declared.rows.Row.{Row}
use Rattle.journal_model.specs.Effects.{Reply}
use Rattle.journal_model.specs.Journal.{events}
use Rattle.journal_model.specs.Requests.{
  Method,
  get,
  post,
  put,
  delete,
  other_method,
  method_of,
  is_write,
  refusal_of_request,
}
use Rattle.journal_model.specs.Rows.{
  served_on_location,
  served,
  refusal_answered,
  message_effects,
  heard,
  effects,
  row_moment,
}
use Rattle.journal_model.specs.Writes.{write_effects}
use Rattle.rd_request.specs.WriteRequests.{writes_to_registrations}
use Rattle.rd_desk.specs.parts.Hearing.{write_heard}

-- an admission hears what is read of its datagram
pub admission_hears : (rows : List Row) (s : Step) (starved : Bool) (read : Result Message Unread)
    → s.kind ≡ step.Admit
    → reading s.datagram ≡ read
    → heard starved rows (row_moment rows s) s read
    ≡ effects s.kind starved rows (row_moment rows s) s
unfolding effects
admission_hears rows s starved read kind is = rw kind (rw is refl)

-- a request that is refused for itself
pub request_refused : (rows : List Row) (s : Step) (m : Message) (refusal : Reply)
    → refusal_of_request m ≡ Some refusal
    → refusal_answered m.kind (first_bad_option m.options) s m refusal
    ≡ message_effects role.Request false rows (row_moment rows s) s m
request_refused rows s m refusal is = rw is refl

-- a write
pub request_writes : (rows : List Row) (s : Step) (starved : Bool) (m : Message)
    → refusal_of_request m ≡ None
    → writes_to_registrations m ≡ true
    → write_heard starved rows s m
    ≡ message_effects role.Request starved rows (row_moment rows s) s m
unfolding served
request_writes rows s true m none writes = refl
request_writes rows s false m none writes = rw none (by (path_in m) writes)
  where
    on_location : (method : Method) (number : ℕ)
        → is_write (path.Location number) method ≡ true
        → write_effects (events rows) (row_moment rows s) s m
        ≡ served_on_location method rows (row_moment rows s) s m
    on_location get number h = absurd (false≢true h)
    on_location post number h = refl
    on_location put number h = refl
    on_location delete number h = refl
    on_location other_method number h = absurd (false≢true h)

    by : (p : Path)
        → is_write p (method_of m.code) ≡ true
        → write_effects (events rows) (row_moment rows s) s m
        ≡ served p rows (row_moment rows s) s m
    by path.Core h = absurd (false≢true h)
    by path.SimpleRd h = refl
    by path.Rd h = refl
    by (path.Location number) h = on_location (method_of m.code) number h
    by path.Res h = absurd (false≢true h)
    by path.Ep h = absurd (false≢true h)
    by path.Other h = absurd (false≢true h)
