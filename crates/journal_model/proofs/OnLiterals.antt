-- What an example unfolds, so that the machine computes on steps that are written out.
use Rattle.std.specs.Prelude.{⊤}
use Rattle.message_model.proofs.OnLiterals.{messages_on_literals}
use Rattle.event_model.proofs.OnLiterals.{events_on_literals}
use Rattle.journal_model.specs.Journal.{events, entries, now, latest, row_at, transitions}
use Rattle.journal_model.specs.Effects.{answering}
use Rattle.journal_model.specs.Requests.{refusal_of_request, is_look_request}
use Rattle.journal_model.specs.Bodies.{body_reply}
use Rattle.journal_model.specs.Looks.{look, look_effects, keep_effects}
use Rattle.journal_model.specs.Lookups.{
  later_block,
  observed,
  unobserved,
  lookup_effects,
  read_effects,
}
use Rattle.journal_model.specs.Writes.{write_effects}
use Rattle.journal_model.specs.Changes.{body_read, registration, replacement}
use Rattle.journal_model.specs.Registrations.{block_uploaded, registering, replacing}
use Rattle.journal_model.specs.Commits.{commit_effects}
use Rattle.journal_model.specs.EmptyMessages.{acknowledged, reset}
use Rattle.journal_model.specs.Responses.{response_effects}
use Rattle.journal_model.specs.Ticks.{
  octets_sent,
  notifications_again,
  notifications,
  requests_again,
  tick_effects,
}
use Rattle.journal_model.specs.Rows.{served, effects, row_moment, row}
use Rattle.journal_model.specs.Machine.{is_look_datagram, job_of, mids_drawn, run}
use Rattle.journal_model.specs.Seats.{rows_of}

-- the definitions of the machine
unfoldable pub machine_on_literals : ⊤
unfolding messages_on_literals events_on_literals events entries now latest row_at transitions
    answering refusal_of_request is_look_request body_reply look look_effects keep_effects
    later_block observed unobserved lookup_effects read_effects write_effects body_read registration
    replacement block_uploaded registering replacing commit_effects acknowledged reset
    response_effects notifications_again notifications requests_again tick_effects served effects
    row_moment row
    is_look_datagram job_of mids_drawn run rows_of octets_sent
machine_on_literals = tt
