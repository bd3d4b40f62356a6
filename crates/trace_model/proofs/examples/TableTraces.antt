-- What tables show after traces, each part at the edge of its age.
use Rattle.std.proofs.Common.{
  ◌≡◌,
  ℕ,
  Bool,
  true,
  false,
  List,
  [],
  ◌∷◌,
  ◌++◌,
  length,
  map,
  codes,
  Option,
  Some,
  option_map,
  refl,
}
use Rattle.event_model.specs.Repeats.{exchanges_at}
use Rattle.event_model.specs.Uploads.{uploads_at}
use Rattle.event_model.specs.KeptAnswers.{kept_answers_at}
use Rattle.event_model.specs.Flights.{Retransmission}
use Rattle.event_model.specs.Fetches.{fetches_running}
use Rattle.journal_model.specs.declared.rows.Row.{Row}
use Rattle.journal_model.specs.Journal.{events, now}
use Rattle.journal_model.specs.Ticks.{octets_sent}
use Rattle.trace_model.specs.Steps.{journal}
use Rattle.trace_model.proofs.OnLiterals.{output_on_literals}
use Rattle.trace_model.proofs.OutputLines.{lines, many, standing}

-- the journal of a trace of one worker
abbrev journal_of : List (List ℕ) → List Row
journal_of trace = journal 1 (lines trace)

-- ---- exchanges

-- the moments of the exchanges that are kept
abbrev exchanges_after : List (List ℕ) → List ℕ
exchanges_after trace =
    map (λ x. x.moment) (exchanges_at (now (journal_of trace)) (events (journal_of trace)))

-- a device registers at 1000: CON 0.02 m=0001 t=a1 [11 rd][15 ep=n] | </l>;rt="light-lux"
abbrev registering : List (List ℕ)
registering =
    codes
    "in 0 1000 192.0.2.10:5683 41020001a1b272644465703d6eff3c2f6c3e3b72743d226c696768742d6c757822"
    ∷ codes "go 0 1000"
    ∷ []

young_exchange : exchanges_after (registering ++ codes "tick 0 247999" ∷ []) ≡ 1_000 ∷ []
unfolding output_on_literals
young_exchange = refl

old_exchange : exchanges_after (registering ++ codes "tick 0 248000" ∷ []) ≡ []
unfolding output_on_literals
old_exchange = refl

-- ---- uploads

-- what is collected of the uploads that live, by its length
abbrev uploads_after : List (List ℕ) → List ℕ
uploads_after trace =
    map (λ u. length u.body) (uploads_at (now (journal_of trace)) (events (journal_of trace)))

-- the first of some blocks comes at 1000: CON 0.02 m=0001 t=a1 [11 rd][15 ep=n][27 x08] |
-- </a>,</bbbbbbbb>
abbrev uploading : List (List ℕ)
uploading =
    codes
    "in 0 1000 192.0.2.10:5683 41020001a1b272644465703d6ec108ff3c2f613e2c3c2f62626262626262623e"
    ∷ codes "go 0 1000"
    ∷ []

young_upload : uploads_after (uploading ++ codes "tick 0 247999" ∷ []) ≡ 16 ∷ []
unfolding output_on_literals
young_upload = refl

old_upload : uploads_after (uploading ++ codes "tick 0 248000" ∷ []) ≡ []
unfolding output_on_literals
old_upload = refl

-- ---- kept answers

-- the moments at which the kept answers that live were last used
abbrev answers_after : List (List ℕ) → List ℕ
answers_after trace =
    map (λ a. a.moment) (kept_answers_at (now (journal_of trace)) (events (journal_of trace)))

-- a listing that is longer than a block is kept at 1000
--     in 0 1000 192.0.2.10:5683: CON 0.02 m=0001 t=a1 [11 rd][15 ep=n][15 base=coap://h] |
-- </x{2039}>
--     go 0 1000
--     in 0 1000 192.0.2.30:40000: CON 0.01 m=0010 t=c1 [11 rd-lookup][11 res][15 ep=n]
--     go 0 1000
abbrev keeping : List (List ℕ)
keeping =
    (codes
    "in 0 1000 192.0.2.10:5683 41020001a1b272644465703d6e0d00626173653d636f61703a2f2f68ff3c2f"
    ++ (many 2039 (codes "78") ++ codes "3e"))
    ∷ codes "go 0 1000"
    ∷ codes "in 0 1000 192.0.2.30:40000 41010010c1b972642d6c6f6f6b7570037265734465703d6e"
    ∷ codes "go 0 1000" ∷ []

young_answer : answers_after (keeping ++ codes "tick 0 247999" ∷ []) ≡ 1_000 ∷ []
unfolding output_on_literals
young_answer = refl

old_answer : answers_after (keeping ++ codes "tick 0 248000" ∷ []) ≡ []
unfolding output_on_literals
old_answer = refl

-- ---- notifications in flight

-- what waits for each observer
abbrev notifications_after : List (List ℕ) → List (Option Retransmission)
notifications_after trace = map (λ w. option_map (λ m. m.resend) w.waits)
    (standing (journal_of trace))

-- an observer asks at 800, and such a link is registered at 900: CON 0.01 m=0010 t=c1 [6 x][11
-- rd-lookup][11 res][15 rt=light-lux]
abbrev observing : List (List ℕ)
observing =
    codes
    "in 0 800 192.0.2.30:40000 41010010c1605972642d6c6f6f6b7570037265734c72743d6c696768742d6c7578"
    ∷ codes
    "in 0 900 192.0.2.10:5683 41020001a1b272644465703d6eff3c2f6c3e3b72743d226c696768742d6c757822"
    ∷ codes "go 0 900"
    ∷ []

-- a notification that was sent at 1000 and waits for 3000, and one that was sent at 2000 and waits
-- for 2000, are not the same
long_wait :
    notifications_after (observing ++ codes "tick 0 1000 1000" ∷ codes "tick 0 2000" ∷ [])
    ≡ Some (record { sent = 1_000; wait = 3_000; again = 0 }) ∷ []
unfolding output_on_literals
long_wait = refl

short_wait :
    notifications_after (observing ++ codes "tick 0 2000" ∷ [])
    ≡ Some (record { sent = 2_000; wait = 2_000; again = 0 }) ∷ []
unfolding output_on_literals
short_wait = refl

-- both are retransmitted at 4000, and then they wait until 10000 and until 8000
long_again :
    notifications_after
    (observing ++ codes "tick 0 1000 1000" ∷ codes "tick 0 2000" ∷ codes "tick 0 4000" ∷ [])
    ≡ Some (record { sent = 4_000; wait = 6_000; again = 1 }) ∷ []
unfolding output_on_literals
long_again = refl

short_again :
    notifications_after (observing ++ codes "tick 0 2000" ∷ codes "tick 0 4000" ∷ [])
    ≡ Some (record { sent = 4_000; wait = 4_000; again = 1 }) ∷ []
unfolding output_on_literals
short_again = refl

-- ---- fetches

-- of each fetch the message that waits, and whether it was acknowledged
abbrev fetches_after : List (List ℕ) → List (Retransmission × Bool)
fetches_after trace =
    map (λ f. (f.waits.resend, f.acknowledged))
    (fetches_running (octets_sent (journal_of trace)) (events (journal_of trace)))

-- a device has its list fetched from 0 on, once it answered a challenge, and nothing comes: CON
-- 0.02 m=0005 t=e1 [11 .well-known][11 rd][15 ep=s1][252 x0000000700000000]
abbrev fetching : List (List ℕ)
fetching =
    codes "in 0 0 192.0.2.10:5683 41020004e1bb2e77656c6c2d6b6e6f776e0272644565703d7331 7"
    ∷ codes
    "in 0 0 192.0.2.10:5683 41020005e1bb2e77656c6c2d6b6e6f776e0272644565703d7331d8e00000000700000000"
    ∷ codes "go 0 0" ∷ codes "tick 0 2000" ∷ codes "tick 0 6000" ∷ codes "tick 0 77000" ∷ []

-- the request is acknowledged late: ACK 0.00 m=0000
abbrev acknowledging : List (List ℕ)
acknowledging = codes "in 0 77001 192.0.2.10:5683 60000000" ∷ []

-- that the request was acknowledged is shown
unanswered :
    fetches_after fetching ≡ (record { sent = 77_000; wait = 16_000; again = 3 }, false) ∷ []
unfolding output_on_literals
unanswered = refl

acknowledged :
    fetches_after (fetching ++ acknowledging)
    ≡ (record { sent = 77_000; wait = 16_000; again = 3 }, true) ∷ []
unfolding output_on_literals
acknowledged = refl

-- so at 93000 one is retransmitted, and the other ends
sent_again :
    fetches_after (fetching ++ codes "tick 0 93000" ∷ [])
    ≡ (record { sent = 93_000; wait = 32_000; again = 4 }, false) ∷ []
unfolding output_on_literals
sent_again = refl

ended : fetches_after (fetching ++ (acknowledging ++ codes "tick 0 93000" ∷ [])) ≡ []
unfolding output_on_literals
ended = refl
