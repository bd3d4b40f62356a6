-- Who is due, computed: a change makes an observer due, also where it is changed back, and a look
-- alone makes nobody due.
use Rattle.std.proofs.Common.{◌≡◌, ℕ, true, false, List, [], ◌∷◌, ◌++◌, codes, refl}
use Rattle.trace_model.proofs.OnLiterals.{output_on_literals}
use Rattle.trace_model.proofs.OutputLines.{due_after}

-- an observer asks at 1000: CON 0.01 m=0010 t=c1 [6 x][11 rd-lookup][11 res][15 rt=light-lux]
abbrev observing : List (List ℕ)
observing =
    codes
    "in 0 1000 192.0.2.30:40000 41010010c1605972642d6c6f6f6b7570037265734c72743d6c696768742d6c7578"
    ∷ []

-- a device registers such a link at 1300: CON 0.02 m=0001 t=a1 [11 rd][15 ep=n] |
-- </l>;rt="light-lux"
abbrev registering : List (List ℕ)
registering =
    codes
    "in 0 1300 192.0.2.10:5683 41020001a1b272644465703d6eff3c2f6c3e3b72743d226c696768742d6c757822"
    ∷ codes "go 0 1300"
    ∷ []

-- and another link: </p>;rt="pump"
abbrev registering_other : List (List ℕ)
registering_other =
    codes "in 0 1300 192.0.2.10:5683 41020001a1b272644465703d6eff3c2f703e3b72743d2270756d7022"
    ∷ codes "go 0 1300"
    ∷ []

-- and removes its registration: CON 0.04 m=0002 t=a2 [11 rd][11 1]
abbrev removing : List (List ℕ)
removing = codes "in 0 1400 192.0.2.10:5683 41040002a2b272640131" ∷ codes "go 0 1400" ∷ []

-- the same lookup without Observe
abbrev looking : List (List ℕ)
looking =
    codes
    "in 0 91301000 192.0.2.30:40000 41010011c1b972642d6c6f6f6b7570037265734c72743d6c696768742d6c7578"
    ∷ []

not_due : due_after observing ≡ false ∷ []
unfolding output_on_literals
not_due = refl

due_by_change : due_after (observing ++ registering) ≡ true ∷ []
unfolding output_on_literals
due_by_change = refl

due_though_changed_back : due_after (observing ++ (registering ++ removing)) ≡ true ∷ []
unfolding output_on_literals
due_though_changed_back = refl

not_due_by_other_change : due_after (observing ++ registering_other) ≡ false ∷ []
unfolding output_on_literals
not_due_by_other_change = refl

-- the notification is sent at 1350; then a look comes long after the lapse, and a tick
abbrev notified : List (List ℕ)
notified = observing ++ (registering ++ codes "tick 0 1350" ∷ [])

not_due_by_look : due_after (notified ++ looking) ≡ false ∷ []
unfolding output_on_literals
not_due_by_look = refl

due_by_time :
    due_after (notified ++ (looking ++ codes "in 0 91301000 192.0.2.10:5683 70000009" ∷ []))
    ≡ true ∷ []
unfolding output_on_literals
due_by_time = refl

-- ---- after the notification: links are replaced, and a registration is read

-- the device replaces its link by another: CON 0.03 m=0003 t=a3 [11 rd][11 1] | </t>
due_by_replacement :
    due_after (notified ++ (codes "in 0 1400 192.0.2.10:5683 41030003a3b272640131ff3c2f743e"
    ∷ codes "go 0 1400"
    ∷ []))
    ≡ true ∷ []
unfolding output_on_literals
due_by_replacement = refl

-- and by the same: CON 0.03 m=0003 t=a3 [11 rd][11 1] | </l>;rt="light-lux"
not_due_by_same_links :
    due_after (notified
    ++ (codes
    "in 0 1400 192.0.2.10:5683 41030003a3b272640131ff3c2f6c3e3b72743d226c696768742d6c757822"
    ∷ codes "go 0 1400"
    ∷ []))
    ≡ false ∷ []
unfolding output_on_literals
not_due_by_same_links = refl

-- its registration is read: CON 0.01 m=0003 t=a3 [11 rd][11 1]
not_due_by_read :
    due_after (notified ++ codes "in 0 1400 192.0.2.30:40000 41010003a3b272640131" ∷ [])
    ≡ false ∷ []
unfolding output_on_literals
not_due_by_read = refl
