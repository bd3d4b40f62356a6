use Rattle.std.proofs.Common.{◌≡◌, ℕ, List, false, refl, ap, subst, sym, ◌∙◌}
use Rattle.std.specs.List.{list_any}
use Rattle.message_model.specs.declared.messages.Role.TheVariants as role
use Rattle.message_model.specs.OptionTable.{first_bad_option}
use Rattle.message_model.specs.Reading.{reading}
use Rattle.message_model.specs.Spelling.{spelling}
use Rattle.coap_message.specs.Views.{message_in}
use Rattle.event_model.specs.Repeats.{is_admitting}
use Rattle.journal_model.specs.Effects.{Effects, nothing, resetting}
use Rattle.journal_model.specs.Requests.{refusal_of_request}
use Rattle.journal_model.specs.Rows.{
  heard,
  message_effects,
  refusal_answered,
  unread_answered,
  row_moment,
}
use Rattle.journal_model.proofs.notes.SilentSteps.{refusal_notes, unread_notes}
use Rattle.rd_request.specs.declared.incoming.Incoming.{Incoming}
use Rattle.rd_request.specs.Accepted.{message_of}
use Rattle.rd_request.specs.Asking.{refused_with}
use Rattle.rd_request.specs.Incoming.{IsIncoming}
use Rattle.rd_request.proofs.AskedLaws.{none_there}
use Rattle.rd_request.proofs.IncomingLaws.{look_left}
use Rattle.rd_request.proofs.WriteRequestLaws.{write_datagram}
use Rattle.rd_desk.specs.calls.Admitting.{is_starved_admission, IsHeldFor}
use Rattle.rd_desk.specs.parts.Lookups.{later_heard, lookup_heard}
use Rattle.rd_desk.specs.parts.Responding.{response_heard}
use Rattle.rd_desk.specs.parts.UnderWay.{UnderWay}
use Rattle.rd_desk.proofs.parts.AdmissionLaws.{request_refused, request_writes}
use Rattle.rd_desk.proofs.parts.HearingLaws.{
  served_lookup,
  served_admits,
  served_read,
  read_admits,
  read_has_tag,
  later-read,
  takes_lookup,
  takes_read,
  takes_write,
  response_is,
  response_admits,
  acknowledged_admits,
  reset_admits,
  refusal_admits,
  unread_admits,
  jobless_starved,
  jobless_way,
  jobless_held,
}
use Rattle.rd_desk.proofs.parts.RoleLaws.{heard_for, admits_for, takes_for}
use Rattle.rd_request.proofs.KeptRequestLaws.{spelling_read}
use Rattle.rd_desk.proofs.parts.PartLaws.{only_silent}
use Rattle.rd_desk.proofs.parts.WayLaws.{step_of}
use Rattle.rd_desk.proofs.changes.StagingLaws.{laid_none}
use Rattle.rd_desk.proofs.tables.Tables.hear.Goals as goal

-- what a datagram was read as says of it what that says
told_as : (datagram : List ℕ) (read is : Incoming)
    → read ≡ is
    → IsIncoming datagram read
    → IsIncoming datagram is
told_as datagram read is same told = subst (IsIncoming datagram) same told

pub returns-in-Unread-clause-way : goal.returns-in-Unread-clause-way
returns-in-Unread-clause-way g c rows s of worded way =
    subst
    (λ (e : Effects). UnderWay rows s false e c.args.self.now c.reject.new.out c.args.mids.now)
    (ap (heard false rows (row_moment rows s) s) (sym
    (told_as c.args.arrival.datagram.now _ _ c.in-Unread.is c.requires.read)))
    (only_silent rows s false (unread_answered s c.in-Unread.fault) c.args.self.now c.args.out.now
    c.reject.new.out c.args.mids.now c.args.mids.now (unread_notes s c.in-Unread.fault)
    (c.reject.ensures s c.args.mids.now of) way)

pub returns-in-Unread-clause-held : goal.returns-in-Unread-clause-held
returns-in-Unread-clause-held g c rows s of datagram way =
    ap (λ (e : Effects). list_any is_admitting e.notes)
    (ap (heard false rows (row_moment rows s) s)
    (told_as c.args.arrival.datagram.now _ _ c.in-Unread.is c.requires.read))
    ∙ unread_admits s c.in-Unread.fault

pub returns-in-Unread-clause-laid : goal.returns-in-Unread-clause-laid
returns-in-Unread-clause-laid g c = laid_none c.args.self.now.version _ _ _ refl c.requires.free

pub returns-in-Ping-clause-way : goal.returns-in-Ping-clause-way
returns-in-Ping-clause-way g c rows s of worded way =
    let m = message_in c.in-Ping.view in
    subst (λ (e : Effects).
    UnderWay rows s false e c.args.self.now c.send_empty.new.out c.args.mids.now)
    (heard_for rows s false role.Ping c.args.arrival.datagram.now m
    (told_as c.args.arrival.datagram.now _ _ c.in-Ping.is c.requires.read))
    (only_silent rows s false (resetting s m.mid) c.args.self.now c.args.out.now
    c.send_empty.new.out c.args.mids.now c.args.mids.now refl
    (c.send_empty.ensures.sends s c.args.mids.now of) way)

pub returns-in-Ping-clause-held : goal.returns-in-Ping-clause-held
returns-in-Ping-clause-held g c rows s of datagram way =
    admits_for rows s false role.Ping c.args.arrival.datagram.now (message_in c.in-Ping.view)
    (told_as c.args.arrival.datagram.now _ _ c.in-Ping.is c.requires.read) refl

pub returns-in-Ping-clause-laid : goal.returns-in-Ping-clause-laid
returns-in-Ping-clause-laid g c = laid_none c.args.self.now.version _ _ _ refl c.requires.free

pub returns-in-Acknowledgement-clause-way : goal.returns-in-Acknowledgement-clause-way
returns-in-Acknowledgement-clause-way g c rows s of worded way =
    subst (λ (e : Effects).
    UnderWay rows s false e c.acknowledge.new.self c.args.out.now c.args.mids.now)
    (heard_for rows s false role.Acknowledgement c.args.arrival.datagram.now
    (message_in c.in-Acknowledgement.view)
    (told_as c.args.arrival.datagram.now _ _ c.in-Acknowledgement.is c.requires.read))
    (c.acknowledge.ensures.way rows s false c.args.out.now c.args.mids.now of way)

pub returns-in-Acknowledgement-clause-held : goal.returns-in-Acknowledgement-clause-held
returns-in-Acknowledgement-clause-held g c rows s of datagram way =
    let m = message_in c.in-Acknowledgement.view in
    admits_for rows s false role.Acknowledgement c.args.arrival.datagram.now m
    (told_as c.args.arrival.datagram.now _ _ c.in-Acknowledgement.is c.requires.read)
    (acknowledged_admits rows s m)

pub returns-in-Acknowledgement-clause-laid : goal.returns-in-Acknowledgement-clause-laid
returns-in-Acknowledgement-clause-laid g c =
    laid_none c.args.self.now.version _ _ _ c.acknowledge.ensures.version c.requires.free

pub returns-in-Reset-clause-way : goal.returns-in-Reset-clause-way
returns-in-Reset-clause-way g c rows s of worded way =
    subst (λ (e : Effects). UnderWay rows s false e c.reset.new.self c.args.out.now c.args.mids.now)
    (heard_for rows s false role.Reset c.args.arrival.datagram.now (message_in c.in-Reset.view)
    (told_as c.args.arrival.datagram.now _ _ c.in-Reset.is c.requires.read))
    (c.reset.ensures.way rows s false c.args.out.now c.args.mids.now of way)

pub returns-in-Reset-clause-held : goal.returns-in-Reset-clause-held
returns-in-Reset-clause-held g c rows s of datagram way =
    let m = message_in c.in-Reset.view in
    admits_for rows s false role.Reset c.args.arrival.datagram.now m
    (told_as c.args.arrival.datagram.now _ _ c.in-Reset.is c.requires.read)
    (reset_admits rows s m)

pub returns-in-Reset-clause-laid : goal.returns-in-Reset-clause-laid
returns-in-Reset-clause-laid g c =
    laid_none c.args.self.now.version _ _ _ c.reset.ensures.version c.requires.free

pub returns-in-Response-clause-way : goal.returns-in-Response-clause-way
returns-in-Response-clause-way g c rows s of worded way =
    let m = message_in c.in-Response.view in
    let starved = is_starved_admission c.without_job.result in
    subst (λ (e : Effects).
    UnderWay rows s starved e c.hear_response.new.self c.hear_response.new.out
    c.hear_response.new.mids)
    (heard_for rows s starved role.Response c.args.arrival.datagram.now m
    (told_as c.args.arrival.datagram.now _ _ c.in-Response.is c.requires.read))
    (jobless_way rows s c.hear_response.result c.without_job.result c.args.self.now
    c.hear_response.new.self c.args.out.now c.hear_response.new.out c.args.mids.now
    c.hear_response.new.mids
    (λ b. response_heard b rows s m)
    (λ b. message_effects role.Response b rows (row_moment rows s) s m) c.without_job.ensures
    (λ b. response_is rows s b m) (c.hear_response.ensures.way rows s of worded) way)

pub returns-in-Response-clause-held : goal.returns-in-Response-clause-held
returns-in-Response-clause-held g c rows s of datagram way =
    let m = message_in c.in-Response.view in
    jobless_held c.hear_response.result c.without_job.result
    (λ b. heard b rows (row_moment rows s) s (reading c.args.arrival.datagram.now)) s
    (row_moment rows s) c.without_job.ensures
    (λ b. admits_for rows s b role.Response c.args.arrival.datagram.now m
    (told_as c.args.arrival.datagram.now _ _ c.in-Response.is c.requires.read)
    (response_admits rows s b m))

pub returns-in-Response-clause-unstarved : goal.returns-in-Response-clause-unstarved
returns-in-Response-clause-unstarved g c rows s of way silent =
    ap is_starved_admission c.without_job.ensures
    ∙ (jobless_starved c.hear_response.result
    ∙ c.hear_response.ensures.unstarved rows s of way
    (takes_for rows s role.Response c.args.arrival.datagram.now (message_in c.in-Response.view)
    (told_as c.args.arrival.datagram.now _ _ c.in-Response.is c.requires.read) silent))

pub returns-in-Refused-clause-way : goal.returns-in-Refused-clause-way
returns-in-Refused-clause-way g c rows s of worded way =
    let m = message_in c.in-Refused.view in
    let is = (told_as c.args.arrival.datagram.now _ _ c.in-Refused.is c.requires.read) in
    let e =
    refusal_answered m.kind (first_bad_option m.options) s m
    (refused_with c.in-Refused.refused) in
    subst (λ (f : Effects).
    UnderWay rows s false f c.args.self.now c.refuse.new.out c.refuse.new.mids)
    (request_refused rows s m (refused_with c.in-Refused.refused) is.answer
    ∙ heard_for rows s false role.Request c.args.arrival.datagram.now m is.request)
    (only_silent rows s false e c.args.self.now c.args.out.now c.refuse.new.out c.args.mids.now
    c.refuse.new.mids
    (refusal_notes m.kind (first_bad_option m.options) s m (refused_with c.in-Refused.refused))
    (c.refuse.ensures.sends s
    (step_of rows s false nothing c.args.self.now c.args.out.now c.args.mids.now c.args.arrival.peer
    of
    refl way)) way)

pub returns-in-Refused-clause-held : goal.returns-in-Refused-clause-held
returns-in-Refused-clause-held g c rows s of datagram way =
    let m = message_in c.in-Refused.view in
    let is = (told_as c.args.arrival.datagram.now _ _ c.in-Refused.is c.requires.read) in
    admits_for rows s false role.Request c.args.arrival.datagram.now m is.request
    (ap (λ (e : Effects). list_any is_admitting e.notes)
    (sym (request_refused rows s m (refused_with c.in-Refused.refused) is.answer))
    ∙ refusal_admits s m (refused_with c.in-Refused.refused))

pub returns-in-Refused-clause-laid : goal.returns-in-Refused-clause-laid
returns-in-Refused-clause-laid g c = laid_none c.args.self.now.version _ _ _ refl c.requires.free

pub returns-in-Lookup-clause-way : goal.returns-in-Lookup-clause-way
returns-in-Lookup-clause-way g c rows s of worded way =
    let m = message_of c.in-Lookup.request in
    let is = (told_as c.args.arrival.datagram.now _ _ c.in-Lookup.is c.requires.read) in
    let starved = is_starved_admission c.without_job-in-Lookup.result in
    let none = none_there (refusal_of_request m) c.in-Lookup.request.accepted in
    subst (λ (e : Effects).
    UnderWay rows s starved e c.hear_lookup.new.self c.hear_lookup.new.out
    c.hear_lookup.new.mids)
    (heard_for rows s starved role.Request c.args.arrival.datagram.now m is.0)
    (jobless_way rows s c.hear_lookup.result c.without_job-in-Lookup.result c.args.self.now
    c.hear_lookup.new.self c.args.out.now c.hear_lookup.new.out c.args.mids.now
    c.hear_lookup.new.mids
    (λ b. lookup_heard b rows s m)
    (λ b. message_effects role.Request b rows (row_moment rows s) s m)
    c.without_job-in-Lookup.ensures (λ b. served_lookup rows s b m none is.2)
    (c.hear_lookup.ensures.way rows s of) way)

pub returns-in-Lookup-clause-held : goal.returns-in-Lookup-clause-held
returns-in-Lookup-clause-held g c rows s of datagram way =
    let m = message_of c.in-Lookup.request in
    let is = (told_as c.args.arrival.datagram.now _ _ c.in-Lookup.is c.requires.read) in
    let none = none_there (refusal_of_request m) c.in-Lookup.request.accepted in
    jobless_held c.hear_lookup.result c.without_job-in-Lookup.result
    (λ b. heard b rows (row_moment rows s) s (reading c.args.arrival.datagram.now)) s
    (row_moment rows s) c.without_job-in-Lookup.ensures
    (λ b. admits_for rows s b role.Request c.args.arrival.datagram.now m is.0
    (served_admits rows s b m none is.2))

pub returns-in-Lookup-clause-unstarved : goal.returns-in-Lookup-clause-unstarved
returns-in-Lookup-clause-unstarved g c rows s of way silent =
    let m = message_of c.in-Lookup.request in
    let is = (told_as c.args.arrival.datagram.now _ _ c.in-Lookup.is c.requires.read) in
    takes_lookup rows s m (is_starved_admission c.without_job-in-Lookup.result)
    (none_there (refusal_of_request m) c.in-Lookup.request.accepted) is.2
    (takes_for rows s role.Request c.args.arrival.datagram.now m is.0 silent)

pub returns-in-Lookup-clause-laid : goal.returns-in-Lookup-clause-laid
returns-in-Lookup-clause-laid g c =
    laid_none c.args.self.now.version _ _ _ c.hear_lookup.ensures.version c.requires.free

pub answer_later-requires-clause-seeks : goal.answer_later-requires-clause-seeks
answer_later-requires-clause-seeks g c =
    let is = (told_as c.args.arrival.datagram.now _ _ c.in-Read.is c.requires.read) in
    read_has_tag (message_of c.in-Read.request) is.2

pub returns-in-Read-clause-way : goal.returns-in-Read-clause-way
returns-in-Read-clause-way g c rows s of worded way =
    let m = message_of c.in-Read.request in
    let is = (told_as c.args.arrival.datagram.now _ _ c.in-Read.is c.requires.read) in
    let starved = is_starved_admission c.without_job-in-Read.result in
    let none = none_there (refusal_of_request m) c.in-Read.request.accepted in
    subst (λ (e : Effects).
    UnderWay rows s starved e c.answer_later.new.self c.answer_later.new.out
    c.answer_later.new.mids)
    (heard_for rows s starved role.Request c.args.arrival.datagram.now m is.0)
    (jobless_way rows s c.answer_later.result c.without_job-in-Read.result c.args.self.now
    c.answer_later.new.self c.args.out.now c.answer_later.new.out c.args.mids.now
    c.answer_later.new.mids
    (λ b. later_heard b rows s m)
    (λ b. message_effects role.Request b rows (row_moment rows s) s m)
    c.without_job-in-Read.ensures
    (λ b. served_read rows s b m none is.2 (later-read m is.2 is.1))
    (c.answer_later.ensures.way rows s of) way)

pub returns-in-Read-clause-held : goal.returns-in-Read-clause-held
returns-in-Read-clause-held g c rows s of datagram way =
    let m = message_of c.in-Read.request in
    let is = (told_as c.args.arrival.datagram.now _ _ c.in-Read.is c.requires.read) in
    let none = none_there (refusal_of_request m) c.in-Read.request.accepted in
    jobless_held c.answer_later.result c.without_job-in-Read.result
    (λ b. heard b rows (row_moment rows s) s (reading c.args.arrival.datagram.now)) s
    (row_moment rows s) c.without_job-in-Read.ensures
    (λ b. admits_for rows s b role.Request c.args.arrival.datagram.now m is.0
    (read_admits rows s b m none is.2 (later-read m is.2 is.1)))

pub returns-in-Read-clause-unstarved : goal.returns-in-Read-clause-unstarved
returns-in-Read-clause-unstarved g c rows s of way silent =
    let m = message_of c.in-Read.request in
    let is = (told_as c.args.arrival.datagram.now _ _ c.in-Read.is c.requires.read) in
    takes_read rows s m (is_starved_admission c.without_job-in-Read.result)
    (none_there (refusal_of_request m) c.in-Read.request.accepted) is.2
    (takes_for rows s role.Request c.args.arrival.datagram.now m is.0 silent)

pub returns-in-Read-clause-laid : goal.returns-in-Read-clause-laid
returns-in-Read-clause-laid g c =
    laid_none c.args.self.now.version _ _ _ c.answer_later.ensures.version c.requires.free

pub hear_write-requires-clause-write : goal.hear_write-requires-clause-write
hear_write-requires-clause-write g c =
    let m = message_of c.in-Write.request in
    let is = (told_as c.args.arrival.datagram.now _ _ c.in-Write.is c.requires.read) in
    write_datagram (spelling m) m
    (spelling_read role.Request c.args.arrival.datagram.now m is.0)
    is.0.role_is (none_there (refusal_of_request m) c.in-Write.request.accepted) is.1

pub hear_write-requires-clause-read : goal.hear_write-requires-clause-read
hear_write-requires-clause-read g c =
    spelling_read role.Request c.args.arrival.datagram.now (message_of c.in-Write.request)
    (told_as c.args.arrival.datagram.now _ _ c.in-Write.is c.requires.read).0

pub returns-in-Write-clause-way : goal.returns-in-Write-clause-way
returns-in-Write-clause-way g c rows s of worded way =
    let m = message_of c.in-Write.request in
    let is = (told_as c.args.arrival.datagram.now _ _ c.in-Write.is c.requires.read) in
    let starved = is_starved_admission c.hear_write.result in
    subst (λ (e : Effects).
    UnderWay rows s starved e c.hear_write.new.self c.hear_write.new.out
    c.hear_write.new.mids)
    (request_writes rows s starved m (none_there (refusal_of_request m) c.in-Write.request.accepted)
    is.1
    ∙ heard_for rows s starved role.Request c.args.arrival.datagram.now m is.0)
    (c.hear_write.ensures.way rows s of worded way)

pub returns-in-Write-clause-held : goal.returns-in-Write-clause-held
returns-in-Write-clause-held g c rows s of datagram way =
    let m = message_of c.in-Write.request in
    let is = (told_as c.args.arrival.datagram.now _ _ c.in-Write.is c.requires.read) in
    let starved = is_starved_admission c.hear_write.result in
    subst (λ (e : Effects). IsHeldFor c.hear_write.result e.notes s (row_moment rows s))
    (request_writes rows s starved m (none_there (refusal_of_request m) c.in-Write.request.accepted)
    is.1
    ∙ heard_for rows s starved role.Request c.args.arrival.datagram.now m is.0)
    (c.hear_write.ensures.held rows s of
    (datagram
    ∙ sym is.0.spelled) way)

pub returns-in-Write-clause-unstarved : goal.returns-in-Write-clause-unstarved
returns-in-Write-clause-unstarved g c rows s of way silent =
    let m = message_of c.in-Write.request in
    let is = (told_as c.args.arrival.datagram.now _ _ c.in-Write.is c.requires.read) in
    c.hear_write.ensures.unstarved rows s of way
    (takes_write rows s m (none_there (refusal_of_request m) c.in-Write.request.accepted) is.1
    (takes_for rows s role.Request c.args.arrival.datagram.now m is.0 silent))

pub returns-in-Write-clause-laid : goal.returns-in-Write-clause-laid
returns-in-Write-clause-laid g c =
    laid_none c.args.self.now.version _ _ _ c.hear_write.ensures.version c.requires.free

pub returns-in-Nothing-clause-way : goal.returns-in-Nothing-clause-way
returns-in-Nothing-clause-way g c rows s of worded way =
    subst (λ (e : Effects). UnderWay rows s false e c.args.self.now c.args.out.now c.args.mids.now)
    (heard_for rows s false role.Ignored c.args.arrival.datagram.now
    (told_as c.args.arrival.datagram.now _ _ c.in-Nothing.is c.requires.read).0
    (told_as c.args.arrival.datagram.now _ _ c.in-Nothing.is c.requires.read).1) way

pub returns-in-Nothing-clause-held : goal.returns-in-Nothing-clause-held
returns-in-Nothing-clause-held g c rows s of datagram way =
    admits_for rows s false role.Ignored c.args.arrival.datagram.now
    (told_as c.args.arrival.datagram.now _ _ c.in-Nothing.is c.requires.read).0
    (told_as c.args.arrival.datagram.now _ _ c.in-Nothing.is c.requires.read).1 refl

pub returns-in-Nothing-clause-laid : goal.returns-in-Nothing-clause-laid
returns-in-Nothing-clause-laid g c = laid_none c.args.self.now.version _ _ _ refl c.requires.free

pub unreachable-requires : goal.unreachable-requires
unreachable-requires g c =
    look_left c.args.arrival.datagram.now c.in-Look.field-0
    (told_as c.args.arrival.datagram.now _ _ c.in-Look.is c.requires.read) c.requires.other
