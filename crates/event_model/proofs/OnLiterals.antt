-- What an example unfolds, so that looking back computes on events that are written out.
use Rattle.std.specs.Prelude.{⊤}
use Rattle.history_model.proofs.HistoryLiterals.{history_on_literals}
use Rattle.event_model.specs.Events.{events_since, last_said}
use Rattle.event_model.specs.Repeats.{admissions, kept, repeated, settled, exchanges_at}
use Rattle.event_model.specs.Uploads.{upload, live_upload, uploads, live_uploads, uploads_at}
use Rattle.event_model.specs.KeptAnswers.{names_used, kept_answer, kept_answers_at}
use Rattle.event_model.specs.Observers.{
  observers,
  has_room_for,
  observe_value,
  observe_values_sent,
  last_body_formed,
}
use Rattle.event_model.specs.Flights.{deadline, flight, is_waited_for, waiting_notification}
use Rattle.event_model.specs.Due.{is_change_of, is_due, observers_standing}
use Rattle.event_model.specs.Fetches.{
  fetches,
  next_token,
  gathered,
  collected,
  fetch_deadline,
  fetches_started,
  fetches_running,
}
use Rattle.event_model.specs.Challenges.{
  challenges,
  challenges_made,
  next_challenge,
  is_good,
  latest_challenges,
}

-- the definitions of events
unfoldable pub events_on_literals : ⊤
unfolding history_on_literals events_since last_said admissions kept repeated settled exchanges_at
    upload live_upload uploads live_uploads uploads_at names_used kept_answer kept_answers_at
    observers has_room_for observe_value observe_values_sent last_body_formed deadline flight
    is_waited_for waiting_notification is_change_of is_due observers_standing fetches next_token
    gathered
    collected fetch_deadline fetches_started fetches_running challenges challenges_made
    next_challenge is_good latest_challenges
events_on_literals = tt
