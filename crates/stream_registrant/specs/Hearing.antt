-- What is done for a message.
use Rattle.std.specs.Prelude.{◌≡◌, List, ℕ, Option, Some, None, Ok, Err, ⊤}
use Rattle.stream_model.specs.declared.messages.StreamBad.{StreamBad}
use Rattle.stream_reader.specs.Shown.{Shown}
use Rattle.client_model.specs.Requests.{Request}
use Rattle.stream_registrant.specs.declared.answers.Unanswered.TheVariants as unanswered
use Rattle.stream_registrant.specs.declared.hearing.Step.{Step}
use Rattle.stream_registrant.specs.declared.hearing.Step.TheVariants as step
use Rattle.stream_registrant.specs.Answers.{answer_in, ends_by}
use Rattle.stream_registrant.specs.Saying.{Voice, Says, BreaksOff, abort, pong, said_by}

-- States the result of a message that is no signal.
abbrev pub IsAnswered : Request → Shown → Step → Type 0
IsAnswered r s step.Waits = answer_in r s ≡ None
IsAnswered r s (step.Over (Ok a)) = answer_in r s ≡ Some a
IsAnswered r s (step.Over (Err unanswered.Starved)) = ⊤
IsAnswered r s (step.Over (Err _)) = ⊥

-- States the result of a Ping with this token.
abbrev pub IsPonged : List ℕ → Voice → Voice → Step → Type 0
IsPonged token before now step.Waits = Says (pong token) before now
IsPonged token before now (step.Over (Err unanswered.Write)) =
    BreaksOff (pong token) before now
IsPonged token before now (step.Over _) = ⊥

-- States the result of a message: whether it ends the request, and what was written for it.
abbrev pub IsHeard : Request → Shown → Voice → Voice → Step → Type 0
IsHeard r s before now step.Waits = (ends_by r s ≡ None) × Says (said_by s) before now
IsHeard r s before now (step.Over (Ok a)) =
    (ends_by r s ≡ Some (Ok a)) × Says (said_by s) before now
IsHeard r s before now (step.Over (Err unanswered.Released)) =
    (ends_by r s ≡ Some (Err unanswered.Released)) × Says (said_by s) before now
IsHeard r s before now (step.Over (Err unanswered.Aborted)) =
    (ends_by r s ≡ Some (Err unanswered.Aborted)) × Says (said_by s) before now
IsHeard r s before now (step.Over (Err unanswered.Write)) =
    (ends_by r s ≡ None) × BreaksOff (said_by s) before now
IsHeard r s before now (step.Over (Err unanswered.Starved)) = Says (said_by s) before now
IsHeard r s before now (step.Over (Err _)) = ⊥

-- States the result of the message that is complete, if it shows one.
abbrev pub IsHeardIn : Request → Option Shown → Voice → Voice → Step → Type 0
IsHeardIn r None before now result = (result ≡ step.Waits) × (now ≡ before)
IsHeardIn r (Some s) before now result = IsHeard r s before now result

-- States the result of a message that is bad for this reason.
abbrev pub IsRefused : StreamBad → Voice → Voice → Step → Type 0
IsRefused why before now (step.Over (Err (unanswered.Bad other))) =
    (other ≡ why) × Says abort before now
IsRefused why before now (step.Over (Err unanswered.Write)) = BreaksOff abort before now
IsRefused why before now _ = ⊥
