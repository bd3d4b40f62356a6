-- Traces shown step by step: what each step writes, and which observers are due after it.
-- Beside each the datagrams are shown, and what a step writes stands below its line.
use Rattle.std.proofs.Common.{◌≡◌, true, false, List, ℕ, [], ◌∷◌, ◌++◌, map, codes, refl}
use Rattle.trace_model.proofs.OnLiterals.{output_on_literals}
use Rattle.trace_model.proofs.OutputLines.{lines, step_by_step, due_after}

-- a repeat at another worker; the last line makes no step
--     in 0 1000 192.0.2.10:5683: CON 0.02 m=0001 t=a1 [11 rd][12 x28][15 ep=node1][15 lt=600] |
-- </temp>;rt="temperature";ct=0,</light>;rt="light-lux";if="sensor"
--     in 1 1001 192.0.2.10:5683: CON 0.02 m=0001 t=a1 [11 rd][12 x28][15 ep=node1][15 lt=600] |
-- </temp>;rt="temperature";ct=0,</light>;rt="light-lux";if="sensor"
--     go 0 1005
--         out 0 192.0.2.10:5683: ACK 2.01 m=0001 t=a1 [8 rd][8 1]
--     in 1 1010 192.0.2.10:5683: CON 0.02 m=0001 t=a1 [11 rd][12 x28][15 ep=node1][15 lt=600] |
-- </temp>;rt="temperature";ct=0,</light>;rt="light-lux";if="sensor"
--         out 1 192.0.2.10:5683: ACK 2.01 m=0001 t=a1 [8 rd][8 1]
--     go 1 1011
--     end 1 1 0
repeated_by_steps : step_by_step 2 (
    codes
    "in 0 1000 192.0.2.10:5683 41020001a1b2726411283865703d6e6f646531066c743d363030ff3c2f74656d703e3b72743d2274656d7065726174757265223b63743d302c3c2f6c696768743e3b72743d226c696768742d6c7578223b69663d2273656e736f7222"
    ∷ codes
    "in 1 1001 192.0.2.10:5683 41020001a1b2726411283865703d6e6f646531066c743d363030ff3c2f74656d703e3b72743d2274656d7065726174757265223b63743d302c3c2f6c696768743e3b72743d226c696768742d6c7578223b69663d2273656e736f7222"
    ∷ codes "go 0 1005"
    ∷ codes
    "in 1 1010 192.0.2.10:5683 41020001a1b2726411283865703d6e6f646531066c743d363030ff3c2f74656d703e3b72743d2274656d7065726174757265223b63743d302c3c2f6c696768743e3b72743d226c696768742d6c7578223b69663d2273656e736f7222"
    ∷ codes "go 1 1011" ∷ [])
    ≡ map lines (
    []
    ∷ []
    ∷ (codes "out 0 192.0.2.10:5683 61410001a18272640131" ∷ [])
    ∷ (codes "out 1 192.0.2.10:5683 61410001a18272640131" ∷ [])
    ∷ (codes "end 1 1 0" ∷ []) ∷ [])
unfolding output_on_literals
repeated_by_steps = refl

-- a write is a repeat for less than 247 seconds, and then leaves a job
--     in 0 1000 192.0.2.10:5683: CON 0.02 m=0001 t=a1 [11 rd][12 x28][15 ep=node1][15 lt=600] |
-- </temp>;rt="temperature";ct=0,</light>;rt="light-lux";if="sensor"
--     go 0 1000
--         out 0 192.0.2.10:5683: ACK 2.01 m=0001 t=a1 [8 rd][8 1]
--     in 0 247999 192.0.2.10:5683: CON 0.02 m=0001 t=a1 [11 rd][12 x28][15 ep=node1][15 lt=600] |
-- </temp>;rt="temperature";ct=0,</light>;rt="light-lux";if="sensor"
--         out 0 192.0.2.10:5683: ACK 2.01 m=0001 t=a1 [8 rd][8 1]
--     in 0 248000 192.0.2.10:5683: CON 0.02 m=0001 t=a1 [11 rd][12 x28][15 ep=node1][15 lt=600] |
-- </temp>;rt="temperature";ct=0,</light>;rt="light-lux";if="sensor"
--     go 0 248000
--         out 0 192.0.2.10:5683: ACK 2.01 m=0001 t=a1 [8 rd][8 1]
--     end 2 1 0
exchange_by_steps : step_by_step 1 (
    codes
    "in 0 1000 192.0.2.10:5683 41020001a1b2726411283865703d6e6f646531066c743d363030ff3c2f74656d703e3b72743d2274656d7065726174757265223b63743d302c3c2f6c696768743e3b72743d226c696768742d6c7578223b69663d2273656e736f7222"
    ∷ codes "go 0 1000"
    ∷ codes
    "in 0 247999 192.0.2.10:5683 41020001a1b2726411283865703d6e6f646531066c743d363030ff3c2f74656d703e3b72743d2274656d7065726174757265223b63743d302c3c2f6c696768743e3b72743d226c696768742d6c7578223b69663d2273656e736f7222"
    ∷ codes
    "in 0 248000 192.0.2.10:5683 41020001a1b2726411283865703d6e6f646531066c743d363030ff3c2f74656d703e3b72743d2274656d7065726174757265223b63743d302c3c2f6c696768743e3b72743d226c696768742d6c7578223b69663d2273656e736f7222"
    ∷ codes "go 0 248000" ∷ [])
    ≡ map lines (
    []
    ∷ (codes "out 0 192.0.2.10:5683 61410001a18272640131" ∷ [])
    ∷ (codes "out 0 192.0.2.10:5683 61410001a18272640131" ∷ [])
    ∷ []
    ∷ (codes "out 0 192.0.2.10:5683 61410001a18272640131" ∷ [])
    ∷ (codes "end 2 1 0" ∷ []) ∷ [])
unfolding output_on_literals
exchange_by_steps = refl

-- a request that is not confirmable
--     in 1 1 192.0.2.10:5683: NON 0.02 m=0042 t=a9 [11 rd][15 ep=z]
--     go 1 2
--         out 1 192.0.2.10:5683: NON 2.01 m=1000 t=a9 [8 rd][8 1]
--     in 1 3 192.0.2.10:5683: NON 0.02 m=0042 t=a9 [11 rd][15 ep=z]
--         out 1 192.0.2.10:5683: NON 2.01 m=1000 t=a9 [8 rd][8 1]
--     end 1 1 0
not_confirmable_by_steps : step_by_step 2 (
    codes "in 1 1 192.0.2.10:5683 51020042a9b272644465703d7a"
    ∷ codes "go 1 2"
    ∷ codes "in 1 3 192.0.2.10:5683 51020042a9b272644465703d7a" ∷ [])
    ≡ map lines (
    []
    ∷ (codes "out 1 192.0.2.10:5683 51411000a98272640131" ∷ [])
    ∷ (codes "out 1 192.0.2.10:5683 51411000a98272640131" ∷ [])
    ∷ (codes "end 1 1 0" ∷ []) ∷ [])
unfolding output_on_literals
not_confirmable_by_steps = refl

-- a lookup is observed, another link is registered, and then one that is looked up: a notification
-- is sent
--     in 0 1000 192.0.2.30:40000: CON 0.01 m=0010 t=c1 [6 x][11 rd-lookup][11 res][15 rt=light-lux]
--         out 0 192.0.2.30:40000: ACK 2.05 m=0010 t=c1 [4 x0000000000000000][6 x01][12 x28]
--     in 0 1100 192.0.2.20:61616: CON 0.02 m=0001 t=d1 [11 rd][15 ep=other] | </p>;rt="pump"
--     go 0 1100
--         out 0 192.0.2.20:61616: ACK 2.01 m=0001 t=d1 [8 rd][8 1]
--     tick 0 1200
--     in 0 1300 192.0.2.10:5683: CON 0.02 m=0001 t=a1 [11 rd][12 x28][15 ep=node1][15 lt=600] |
-- </temp>;rt="temperature";ct=0,</light>;rt="light-lux";if="sensor"
--     go 0 1300
--         out 0 192.0.2.10:5683: ACK 2.01 m=0001 t=a1 [8 rd][8 2]
--     tick 0 1400
--         out 0 192.0.2.30:40000: CON 2.05 m=0000 t=c1 [4 x0000000000020000][6 x02][12 x28] |
-- <coap://192.0.2.10/light>;rt="light-lux";if="sensor"
abbrev notified : List (List ℕ)
notified =
    codes
    "in 0 1000 192.0.2.30:40000 41010010c1605972642d6c6f6f6b7570037265734c72743d6c696768742d6c7578"
    ∷ codes
    "in 0 1100 192.0.2.20:61616 41020001d1b272644865703d6f74686572ff3c2f703e3b72743d2270756d7022"
    ∷ codes "go 0 1100"
    ∷ codes "tick 0 1200"
    ∷ codes
    "in 0 1300 192.0.2.10:5683 41020001a1b2726411283865703d6e6f646531066c743d363030ff3c2f74656d703e3b72743d2274656d7065726174757265223b63743d302c3c2f6c696768743e3b72743d226c696768742d6c7578223b69663d2273656e736f7222"
    ∷ codes "go 0 1300"
    ∷ codes "tick 0 1400" ∷ []

-- what these steps write
abbrev notified_writes : List (List (List ℕ))
notified_writes =
    (codes "out 0 192.0.2.30:40000 61450010c148000000000000000021016128" ∷ [])
    ∷ []
    ∷ (codes "out 0 192.0.2.20:61616 61410001d18272640131" ∷ [])
    ∷ []
    ∷ []
    ∷ (codes "out 0 192.0.2.10:5683 61410001a18272640132" ∷ [])
    ∷ (codes
    "out 0 192.0.2.30:40000 41450000c148000000000002000021026128ff3c636f61703a2f2f3139322e302e322e31302f6c696768743e3b72743d226c696768742d6c7578223b69663d2273656e736f7222"
    ∷ [])
    ∷ []

-- the notification is acknowledged, and so is that of the lapse; then a link is registered and
-- removed again
--     in 0 1401 192.0.2.30:40000: ACK 0.00 m=0000
--     tick 0 601300
--         out 0 192.0.2.30:40000: CON 2.05 m=0001 t=c1 [4 x0000000000020001][6 x03][12 x28]
--     in 0 601301 192.0.2.30:40000: ACK 0.00 m=0001
--     in 0 700000 192.0.2.10:5683: CON 0.02 m=0001 t=a1 [11 rd][12 x28][15 ep=node1][15 lt=600] |
-- </temp>;rt="temperature";ct=0,</light>;rt="light-lux";if="sensor"
--     go 0 700000
--         out 0 192.0.2.10:5683: ACK 2.01 m=0001 t=a1 [8 rd][8 3]
--     in 0 700010 192.0.2.10:5683: CON 0.04 m=0009 t=a3 [11 rd][11 3]
--     go 0 700010
--         out 0 192.0.2.10:5683: ACK 2.02 m=0009 t=a3
abbrev changed_back : List (List ℕ)
changed_back =
    codes "in 0 1401 192.0.2.30:40000 60000000"
    ∷ codes "tick 0 601300"
    ∷ codes "in 0 601301 192.0.2.30:40000 60000001"
    ∷ codes
    "in 0 700000 192.0.2.10:5683 41020001a1b2726411283865703d6e6f646531066c743d363030ff3c2f74656d703e3b72743d2274656d7065726174757265223b63743d302c3c2f6c696768743e3b72743d226c696768742d6c7578223b69663d2273656e736f7222"
    ∷ codes "go 0 700000"
    ∷ codes "in 0 700010 192.0.2.10:5683 41040009a3b272640133"
    ∷ codes "go 0 700010" ∷ []

-- what these steps write
abbrev changed_back_writes : List (List (List ℕ))
changed_back_writes =
    []
    ∷ (codes "out 0 192.0.2.30:40000 41450001c148000000000002000121036128" ∷ [])
    ∷ []
    ∷ []
    ∷ (codes "out 0 192.0.2.10:5683 61410001a18272640133" ∷ [])
    ∷ []
    ∷ (codes "out 0 192.0.2.10:5683 61420009a3" ∷ []) ∷ []

-- the tick after it writes nothing
--     tick 0 700020
--     end 4 1 1
observed_by_steps : step_by_step 1 (notified ++ (changed_back ++ codes "tick 0 700020" ∷ []))
    ≡ map lines (notified_writes ++ (changed_back_writes ++ [] ∷ (codes "end 4 1 1" ∷ []) ∷ []))
unfolding output_on_literals
observed_by_steps = refl

-- though the listing is the same again, the observer is due before that tick, and no more after it
due_by_a_change_back : due_after (notified ++ changed_back) ≡ true ∷ []
unfolding output_on_literals
due_by_a_change_back = refl

not_due_after_the_tick :
    due_after (notified ++ (changed_back ++ codes "tick 0 700020" ∷ [])) ≡ false ∷ []
unfolding output_on_literals
not_due_after_the_tick = refl

-- the notification is never acknowledged: it is retransmitted four times, and then the observer is
-- removed
--     tick 0 3400
--         out 0 192.0.2.30:40000: CON 2.05 m=0000 t=c1 [4 x0000000000020000][6 x02][12 x28] |
-- <coap://192.0.2.10/light>;rt="light-lux";if="sensor"
--     tick 0 7400
--         out 0 192.0.2.30:40000: CON 2.05 m=0000 t=c1 [4 x0000000000020000][6 x02][12 x28] |
-- <coap://192.0.2.10/light>;rt="light-lux";if="sensor"
--     tick 0 15400
--         out 0 192.0.2.30:40000: CON 2.05 m=0000 t=c1 [4 x0000000000020000][6 x02][12 x28] |
-- <coap://192.0.2.10/light>;rt="light-lux";if="sensor"
--     tick 0 31400
--         out 0 192.0.2.30:40000: CON 2.05 m=0000 t=c1 [4 x0000000000020000][6 x02][12 x28] |
-- <coap://192.0.2.10/light>;rt="light-lux";if="sensor"
--     tick 0 63400
--     end 2 2 0
never_acknowledged_by_steps : step_by_step 1 (notified ++ (
    codes "tick 0 3400"
    ∷ codes "tick 0 7400"
    ∷ codes "tick 0 15400"
    ∷ codes "tick 0 31400"
    ∷ codes "tick 0 63400" ∷ []))
    ≡ map lines (notified_writes ++ (
    (codes
    "out 0 192.0.2.30:40000 41450000c148000000000002000021026128ff3c636f61703a2f2f3139322e302e322e31302f6c696768743e3b72743d226c696768742d6c7578223b69663d2273656e736f7222"
    ∷ [])
    ∷ (codes
    "out 0 192.0.2.30:40000 41450000c148000000000002000021026128ff3c636f61703a2f2f3139322e302e322e31302f6c696768743e3b72743d226c696768742d6c7578223b69663d2273656e736f7222"
    ∷ [])
    ∷ (codes
    "out 0 192.0.2.30:40000 41450000c148000000000002000021026128ff3c636f61703a2f2f3139322e302e322e31302f6c696768743e3b72743d226c696768742d6c7578223b69663d2273656e736f7222"
    ∷ [])
    ∷ (codes
    "out 0 192.0.2.30:40000 41450000c148000000000002000021026128ff3c636f61703a2f2f3139322e302e322e31302f6c696768743e3b72743d226c696768742d6c7578223b69663d2273656e736f7222"
    ∷ [])
    ∷ []
    ∷ (codes "end 2 2 0" ∷ []) ∷ []))
unfolding output_on_literals
never_acknowledged_by_steps = refl

-- a page of one line is observed; a second line comes after it
--     in 0 1000 192.0.2.30:40000: CON 0.01 m=0010 t=c1 [6 x][11 rd-lookup][11 res][15
-- rt=light-lux][15 count=1]
--         out 0 192.0.2.30:40000: ACK 2.05 m=0010 t=c1 [4 x0000000000000000][6 x01][12 x28]
--     in 0 1001 192.0.2.10:5683: CON 0.02 m=0001 t=a1 [11 rd][12 x28][15 ep=node1][15 lt=600] |
-- </temp>;rt="temperature";ct=0,</light>;rt="light-lux";if="sensor"
--     go 0 1001
--         out 0 192.0.2.10:5683: ACK 2.01 m=0001 t=a1 [8 rd][8 1]
--     tick 0 1002
--         out 0 192.0.2.30:40000: CON 2.05 m=0000 t=c1 [4 x0000000000010000][6 x02][12 x28] |
-- <coap://192.0.2.10/light>;rt="light-lux";if="sensor"
--     in 0 1003 192.0.2.30:40000: ACK 0.00 m=0000
--     in 0 1004 192.0.2.20:61616: CON 0.02 m=0001 t=a1 [11 rd][12 x28][15 ep=node2][15 lt=600] |
-- </temp>;rt="temperature";ct=0,</light>;rt="light-lux";if="sensor"
--     go 0 1004
--         out 0 192.0.2.20:61616: ACK 2.01 m=0001 t=a1 [8 rd][8 2]
abbrev second_line : List (List ℕ)
second_line =
    codes
    "in 0 1000 192.0.2.30:40000 41010010c1605972642d6c6f6f6b7570037265734c72743d6c696768742d6c757807636f756e743d31"
    ∷ codes
    "in 0 1001 192.0.2.10:5683 41020001a1b2726411283865703d6e6f646531066c743d363030ff3c2f74656d703e3b72743d2274656d7065726174757265223b63743d302c3c2f6c696768743e3b72743d226c696768742d6c7578223b69663d2273656e736f7222"
    ∷ codes "go 0 1001"
    ∷ codes "tick 0 1002"
    ∷ codes "in 0 1003 192.0.2.30:40000 60000000"
    ∷ codes
    "in 0 1004 192.0.2.20:61616 41020001a1b2726411283865703d6e6f646532066c743d363030ff3c2f74656d703e3b72743d2274656d7065726174757265223b63743d302c3c2f6c696768743e3b72743d226c696768742d6c7578223b69663d2273656e736f7222"
    ∷ codes "go 0 1004" ∷ []

-- what these steps write
abbrev second_line_writes : List (List (List ℕ))
second_line_writes =
    (codes "out 0 192.0.2.30:40000 61450010c148000000000000000021016128" ∷ [])
    ∷ []
    ∷ (codes "out 0 192.0.2.10:5683 61410001a18272640131" ∷ [])
    ∷ (codes
    "out 0 192.0.2.30:40000 41450000c148000000000001000021026128ff3c636f61703a2f2f3139322e302e322e31302f6c696768743e3b72743d226c696768742d6c7578223b69663d2273656e736f7222"
    ∷ [])
    ∷ []
    ∷ []
    ∷ (codes "out 0 192.0.2.20:61616 61410001a18272640132" ∷ []) ∷ []

-- the tick after it finds the page unchanged, and writes nothing
--     tick 0 1005
--     end 2 2 1
page_unchanged_by_steps : step_by_step 1 (second_line ++ codes "tick 0 1005" ∷ [])
    ≡ map lines (second_line_writes ++ [] ∷ (codes "end 2 2 1" ∷ []) ∷ [])
unfolding output_on_literals
page_unchanged_by_steps = refl

-- the second line makes the observer due, and after the tick it is due no more
due_by_the_second_line : due_after second_line ≡ true ∷ []
unfolding output_on_literals
due_by_the_second_line = refl

not_due_on_the_same_page : due_after (second_line ++ codes "tick 0 1005" ∷ []) ≡ false ∷ []
unfolding output_on_literals
not_due_on_the_same_page = refl

-- one peer observes two lookups, and a registration changes both
--     in 0 1000 192.0.2.30:40000: CON 0.01 m=0010 t=c1 [6 x][11 rd-lookup][11 res][15 rt=light-lux]
--         out 0 192.0.2.30:40000: ACK 2.05 m=0010 t=c1 [4 x0000000000000000][6 x01][12 x28]
--     in 0 1000 192.0.2.30:40000: CON 0.01 m=0011 t=c2 [6 x][11 rd-lookup][11 res][15
-- rt=temperature]
--         out 0 192.0.2.30:40000: ACK 2.05 m=0011 t=c2 [4 x0000000000000000][6 x02][12 x28]
--     in 0 1001 192.0.2.10:5683: CON 0.02 m=0001 t=a1 [11 rd][12 x28][15 ep=node1][15 lt=600] |
-- </temp>;rt="temperature";ct=0,</light>;rt="light-lux";if="sensor"
--     go 0 1001
--         out 0 192.0.2.10:5683: ACK 2.01 m=0001 t=a1 [8 rd][8 1]
abbrev both_change : List (List ℕ)
both_change =
    codes
    "in 0 1000 192.0.2.30:40000 41010010c1605972642d6c6f6f6b7570037265734c72743d6c696768742d6c7578"
    ∷ codes
    "in 0 1000 192.0.2.30:40000 41010011c2605972642d6c6f6f6b7570037265734d0172743d74656d7065726174757265"
    ∷ codes
    "in 0 1001 192.0.2.10:5683 41020001a1b2726411283865703d6e6f646531066c743d363030ff3c2f74656d703e3b72743d2274656d7065726174757265223b63743d302c3c2f6c696768743e3b72743d226c696768742d6c7578223b69663d2273656e736f7222"
    ∷ codes "go 0 1001" ∷ []

-- what these steps write
abbrev both_change_writes : List (List (List ℕ))
both_change_writes =
    (codes "out 0 192.0.2.30:40000 61450010c148000000000000000021016128" ∷ [])
    ∷ (codes "out 0 192.0.2.30:40000 61450011c248000000000000000021026128" ∷ [])
    ∷ []
    ∷ (codes "out 0 192.0.2.10:5683 61410001a18272640131" ∷ []) ∷ []

-- both observers are due
both_due : due_after both_change ≡ true ∷ true ∷ []
unfolding output_on_literals
both_due = refl

-- one tick sends one notification, and the tick after its acknowledgement the other
--     tick 0 1002
--         out 0 192.0.2.30:40000: CON 2.05 m=0000 t=c1 [4 x0000000000010000][6 x03][12 x28] |
-- <coap://192.0.2.10/light>;rt="light-lux";if="sensor"
--     in 0 1003 192.0.2.30:40000: ACK 0.00 m=0000
--     tick 0 1004
--         out 0 192.0.2.30:40000: CON 2.05 m=0001 t=c2 [4 x0000000000010000][6 x04][12 x28] |
-- <coap://192.0.2.10/temp>;rt="temperature";ct=0
--     end 1 1 2
one_flight_by_steps : step_by_step 1 (both_change ++ (
    codes "tick 0 1002"
    ∷ codes "in 0 1003 192.0.2.30:40000 60000000"
    ∷ codes "tick 0 1004" ∷ []))
    ≡ map lines (both_change_writes ++ (
    (codes
    "out 0 192.0.2.30:40000 41450000c148000000000001000021036128ff3c636f61703a2f2f3139322e302e322e31302f6c696768743e3b72743d226c696768742d6c7578223b69663d2273656e736f7222"
    ∷ [])
    ∷ []
    ∷ (codes
    "out 0 192.0.2.30:40000 41450001c248000000000001000021046128ff3c636f61703a2f2f3139322e302e322e31302f74656d703e3b72743d2274656d7065726174757265223b63743d30"
    ∷ [])
    ∷ (codes "end 1 1 2" ∷ []) ∷ []))
unfolding output_on_literals
one_flight_by_steps = refl

-- a device asks that its list be fetched, and shows that it receives
--     in 0 999 192.0.2.10:5683, word 7: CON 0.02 m=0004 t=e1 [11 .well-known][11 rd][15 ep=s1]
--         out 0 192.0.2.10:5683: ACK 4.01 m=0004 t=e1 [252 x0000000700000000]
--     in 0 1000 192.0.2.10:5683: CON 0.02 m=0005 t=e1 [11 .well-known][11 rd][15 ep=s1][252
-- x0000000700000000]
--     go 0 1000
--         out 0 192.0.2.10:5683: ACK 2.04 m=0005 t=e1
--         out 0 192.0.2.10:5683: CON 0.01 m=0000 t=0000000000000001 [11 .well-known][11 core]
abbrev asked : List (List ℕ)
asked =
    codes "in 0 999 192.0.2.10:5683 41020004e1bb2e77656c6c2d6b6e6f776e0272644565703d7331 7"
    ∷ codes
    "in 0 1000 192.0.2.10:5683 41020005e1bb2e77656c6c2d6b6e6f776e0272644565703d7331d8e00000000700000000"
    ∷ codes "go 0 1000" ∷ []

-- what these steps write
abbrev asked_writes : List (List (List ℕ))
asked_writes =
    (codes "out 0 192.0.2.10:5683 61810004e1d8ef0000000700000000" ∷ [])
    ∷ []
    ∷ (codes "out 0 192.0.2.10:5683 61440005e1"
    ∷ codes "out 0 192.0.2.10:5683 480100000000000000000001bb2e77656c6c2d6b6e6f776e04636f7265"
    ∷ [])
    ∷ []

-- its first block comes
--     in 0 1001 192.0.2.10:5683: ACK 0.00 m=0000
--     in 0 1002 192.0.2.10:5683: CON 2.05 m=0777 t=0000000000000001 [4 xaa][12 x28][23 x08] |
-- </a>;rt="0123456
--         out 0 192.0.2.10:5683: ACK 0.00 m=0777
--         out 0 192.0.2.10:5683: CON 0.01 m=0001 t=0000000000000001 [11 .well-known][11 core][23
-- x10]
abbrev half_fetched : List (List ℕ)
half_fetched =
    codes "in 0 1001 192.0.2.10:5683 60000000"
    ∷ codes
    "in 0 1002 192.0.2.10:5683 48450777000000000000000141aa8128b108ff3c2f613e3b72743d2230313233343536"
    ∷ []

-- what these steps write
abbrev half_fetched_writes : List (List (List ℕ))
half_fetched_writes =
    []
    ∷ (codes "out 0 192.0.2.10:5683 60000777"
    ∷ codes
    "out 0 192.0.2.10:5683 480100010000000000000001bb2e77656c6c2d6b6e6f776e04636f7265c110"
    ∷ [])
    ∷ []

-- the last block completes the registration
--     in 0 1003 192.0.2.10:5683: ACK 2.05 m=0001 t=0000000000000001 [4 xaa][12 x28][23 x10] | "
--     end 1 1 0
fetched_by_steps : step_by_step 1 (asked ++ (half_fetched ++ (
    codes "in 0 1003 192.0.2.10:5683 68450001000000000000000141aa8128b110ff22" ∷ [])))
    ≡ map lines (asked_writes ++ (half_fetched_writes ++ (
    []
    ∷ (codes "end 1 1 0" ∷ []) ∷ [])))
unfolding output_on_literals
fetched_by_steps = refl

-- no answer comes: the request is retransmitted four times, and then the fetch ends
--     tick 0 3000
--         out 0 192.0.2.10:5683: CON 0.01 m=0000 t=0000000000000001 [11 .well-known][11 core]
--     tick 0 7000
--         out 0 192.0.2.10:5683: CON 0.01 m=0000 t=0000000000000001 [11 .well-known][11 core]
--     tick 0 15000
--         out 0 192.0.2.10:5683: CON 0.01 m=0000 t=0000000000000001 [11 .well-known][11 core]
--     tick 0 31000
--         out 0 192.0.2.10:5683: CON 0.01 m=0000 t=0000000000000001 [11 .well-known][11 core]
--     tick 0 63000
--     end 0 0 0
never_answered_by_steps : step_by_step 1 (asked ++ (
    codes "tick 0 3000"
    ∷ codes "tick 0 7000"
    ∷ codes "tick 0 15000"
    ∷ codes "tick 0 31000"
    ∷ codes "tick 0 63000" ∷ []))
    ≡ map lines (asked_writes ++ (
    (codes "out 0 192.0.2.10:5683 480100000000000000000001bb2e77656c6c2d6b6e6f776e04636f7265" ∷ [])
    ∷ (codes "out 0 192.0.2.10:5683 480100000000000000000001bb2e77656c6c2d6b6e6f776e04636f7265"
    ∷ [])
    ∷ (codes "out 0 192.0.2.10:5683 480100000000000000000001bb2e77656c6c2d6b6e6f776e04636f7265"
    ∷ [])
    ∷ (codes "out 0 192.0.2.10:5683 480100000000000000000001bb2e77656c6c2d6b6e6f776e04636f7265"
    ∷ [])
    ∷ []
    ∷ (codes "end 0 0 0" ∷ []) ∷ []))
unfolding output_on_literals
never_answered_by_steps = refl

-- a response of another code is acknowledged, and ends the fetch
--     in 0 1001 192.0.2.10:5683: ACK 0.00 m=0000
--     in 0 1002 192.0.2.10:5683: CON 4.04 m=0777 t=0000000000000001 [4 xaa][12 x28][23 x08] |
-- </a>;rt="0123456
--         out 0 192.0.2.10:5683: ACK 0.00 m=0777
--     in 0 1003 192.0.2.10:5683: CON 0.02 m=0006 t=e1 [11 .well-known][11 rd][15 ep=s1][252
-- x0000000700000000]
--     go 0 1003
--         out 0 192.0.2.10:5683: ACK 2.04 m=0006 t=e1
--         out 0 192.0.2.10:5683: CON 0.01 m=0001 t=0000000000000002 [11 .well-known][11 core]
--     end 0 0 0
answered_by_an_error_by_steps : step_by_step 1 (asked ++ (
    codes "in 0 1001 192.0.2.10:5683 60000000"
    ∷ codes
    "in 0 1002 192.0.2.10:5683 48840777000000000000000141aa8128b108ff3c2f613e3b72743d2230313233343536"
    ∷ codes
    "in 0 1003 192.0.2.10:5683 41020006e1bb2e77656c6c2d6b6e6f776e0272644565703d7331d8e00000000700000000"
    ∷ codes "go 0 1003" ∷ []))
    ≡ map lines (asked_writes ++ (
    []
    ∷ (codes "out 0 192.0.2.10:5683 60000777" ∷ [])
    ∷ []
    ∷ (codes "out 0 192.0.2.10:5683 61440006e1"
    ∷ codes "out 0 192.0.2.10:5683 480100010000000000000002bb2e77656c6c2d6b6e6f776e04636f7265"
    ∷ [])
    ∷ (codes "end 0 0 0" ∷ []) ∷ []))
unfolding output_on_literals
answered_by_an_error_by_steps = refl
