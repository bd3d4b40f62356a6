use Rattle.std.proofs.Common.{sym, ap, subst, ◌∙◌, is_none}
use Rattle.message_model.specs.declared.requests.Path.TheVariants as path
use Rattle.message_model.specs.Reading.{reading}
use Rattle.message_model.specs.Spelling.{spelling}
use Rattle.journal_model.specs.Changes as changes
use Rattle.journal_model.specs.Commits.{settling}
use Rattle.journal_model.specs.Requests.{refusal_of_request}
use Rattle.rd_request.specs.Accepted.{message_of}
use Rattle.rd_request.proofs.AskedLaws.{none_there}
use Rattle.rd_request.proofs.ResourceLaws.{registration_path, simple_path, location_path}
use Rattle.journal_model.specs.Rows.{row_moment}
use Rattle.rd_desk.specs.parts.Committing.{unless_failing}
use Rattle.rd_desk.specs.calls.Stepping.{is_starved_step}
use Rattle.rd_desk.proofs.changes.CommitLaws.{
  good_registration,
  good_simple,
  way_job,
  registers_links,
}
use Rattle.rd_desk.specs.parts.UnderWay.{UnderWay}
use Rattle.rd_desk.specs.calls.WriteJobs.{Write}
use Rattle.rd_desk.proofs.tables.Tables.commit_write.Goals as goal

pub returns-in-Registration-clause-way : goal.returns-in-Registration-clause-way
returns-in-Registration-clause-way g c =
    λ rows s place m by word read opened way.
    let request = c.request-request.result in
    way_job rows s (is_starved_step c.commit_links.result) place c.job.inside.peer
    (spelling c.job.inside.request) c.job.inside.admitted.0 c.args.job m (message_of request)
    (path.Rd) c.commit_links.new.self c.commit_links.new.out
    c.commit_links.new.mids c.job.view_is
    (ap (λ (j : Write). reading j.datagram) c.job.view_is ∙ c.request-request.ensures.read) read
    (sym (registration_path request c.in-Registration.is)) by opened
    (λ mine own. subst (λ (o : changes.Outcome).
    UnderWay rows s (is_starved_step c.commit_links.result)
    (unless_failing (is_starved_step c.commit_links.result) place s (message_of request)
    (settling place s (message_of request) o))
    c.commit_links.new.self c.commit_links.new.out c.commit_links.new.mids)
    (registers_links rows (row_moment rows s) s (message_of request))
    (c.commit_links.ensures.way rows s place mine own way))

pub returns-in-SimpleRegistration-clause-way : goal.returns-in-SimpleRegistration-clause-way
returns-in-SimpleRegistration-clause-way g c =
    λ rows s place m by word read opened way.
    let request = c.request-request.result in
    way_job rows s (is_starved_step c.commit_simple.result) place c.job.inside.peer
    (spelling c.job.inside.request) c.job.inside.admitted.0 c.args.job m (message_of request)
    (path.SimpleRd) c.commit_simple.new.self c.commit_simple.new.out c.commit_simple.new.mids
    c.job.view_is
    (ap (λ (j : Write). reading j.datagram) c.job.view_is ∙ c.request-request.ensures.read) read
    (sym (simple_path request c.in-SimpleRegistration.is)) by opened
    (λ mine own. c.commit_simple.ensures.way rows s place mine word own way)

pub returns-in-Location-clause-way : goal.returns-in-Location-clause-way
returns-in-Location-clause-way g c =
    λ rows s place m by word read opened way.
    let request = c.request-request.result in
    let number = c.in-Location.number in
    way_job rows s (is_starved_step c.commit_location.result) place c.job.inside.peer
    (spelling c.job.inside.request) c.job.inside.admitted.0 c.args.job m (message_of request)
    (path.Location number) c.commit_location.new.self c.commit_location.new.out
    c.commit_location.new.mids c.job.view_is
    (ap (λ (j : Write). reading j.datagram) c.job.view_is ∙ c.request-request.ensures.read) read
    (sym (location_path request number c.in-Location.is)) by opened
    (λ mine own. c.commit_location.ensures.way rows s place mine own way)

pub commit_location-requires-clause-at : goal.commit_location-requires-clause-at
commit_location-requires-clause-at g c =
    location_path c.request-request.result c.in-Location.number c.in-Location.is

pub commit_location-requires-clause-writes : goal.commit_location-requires-clause-writes
commit_location-requires-clause-writes g c = c.request-request.ensures.writes

pub invariant_of-commit_links : goal.invariant_of-commit_links
invariant_of-commit_links g c =
    let request = c.request-request.result in
    let none =
    none_there (refusal_of_request (message_of request)) request.accepted in
    record {
      good =
          ap is_none
          (good_registration (message_of request) none
          (registration_path request c.in-Registration.is));
    }

pub invariant_of-commit_simple : goal.invariant_of-commit_simple
invariant_of-commit_simple g c =
    let request = c.request-request.result in
    let none =
    none_there (refusal_of_request (message_of request)) request.accepted in
    record {
      good =
          ap is_none
          (good_simple (message_of request) none
          (simple_path request c.in-SimpleRegistration.is));
    }
