-- Traces of observers. Beside each the datagrams are shown: type, code, Message ID, token, options,
-- payload.
use Rattle.std.proofs.Common.{◌≡◌, [], ◌∷◌, codes, refl}
use Rattle.trace_model.specs.Output.{output}
use Rattle.trace_model.proofs.OnLiterals.{output_on_literals}
use Rattle.trace_model.proofs.OutputLines.{lines, writes}

-- an observer gets a notification of a change and of a lapse, and none where the listing changed
-- and changed back
--     in 0 1000 192.0.2.30:40000: CON 0.01 m=0010 t=c1 [6 x][11 rd-lookup][11 res][15 rt=light-lux]
--     in 0 1100 192.0.2.20:61616: CON 0.02 m=0001 t=d1 [11 rd][15 ep=other] | </p>;rt="pump"
--     go 0 1100
--     tick 0 1200
--     in 0 1300 192.0.2.10:5683: CON 0.02 m=0001 t=a1 [11 rd][12 x28][15 ep=node1][15 lt=600] |
-- </temp>;rt="temperature";ct=0,</light>;rt="light-lux";if="sensor"
--     go 0 1300
--     tick 0 1400
--     in 0 1400 192.0.2.30:40000: ACK 0.00 m=0000
--     tick 0 601300
--     in 0 601301 192.0.2.30:40000: ACK 0.00 m=0001
--     in 0 700000 192.0.2.10:5683: CON 0.02 m=0001 t=a1 [11 rd][12 x28][15 ep=node1][15 lt=600] |
-- </temp>;rt="temperature";ct=0,</light>;rt="light-lux";if="sensor"
--     go 0 700000
--     in 0 700010 192.0.2.10:5683: CON 0.04 m=0009 t=a3 [11 rd][11 3]
--     go 0 700010
--     tick 0 700020
-- gives
--     out 0 192.0.2.30:40000: ACK 2.05 m=0010 t=c1 [4 x0000000000000000][6 x01][12 x28]
--     out 0 192.0.2.20:61616: ACK 2.01 m=0001 t=d1 [8 rd][8 1]
--     out 0 192.0.2.10:5683: ACK 2.01 m=0001 t=a1 [8 rd][8 2]
--     out 0 192.0.2.30:40000: CON 2.05 m=0000 t=c1 [4 x0000000000020000][6 x02][12 x28] |
-- <coap://192.0.2.10/light>;rt="light-lux";if="sensor"
--     out 0 192.0.2.30:40000: CON 2.05 m=0001 t=c1 [4 x0000000000020001][6 x03][12 x28]
--     out 0 192.0.2.10:5683: ACK 2.01 m=0001 t=a1 [8 rd][8 3]
--     out 0 192.0.2.10:5683: ACK 2.02 m=0009 t=a3
--     end 4 1 1
observed : output 1 (lines (
    codes
    "in 0 1000 192.0.2.30:40000 41010010c1605972642d6c6f6f6b7570037265734c72743d6c696768742d6c7578"
    ∷ codes
    "in 0 1100 192.0.2.20:61616 41020001d1b272644865703d6f74686572ff3c2f703e3b72743d2270756d7022"
    ∷ codes "go 0 1100"
    ∷ codes "tick 0 1200"
    ∷ codes
    "in 0 1300 192.0.2.10:5683 41020001a1b2726411283865703d6e6f646531066c743d363030ff3c2f74656d703e3b72743d2274656d7065726174757265223b63743d302c3c2f6c696768743e3b72743d226c696768742d6c7578223b69663d2273656e736f7222"
    ∷ codes "go 0 1300"
    ∷ codes "tick 0 1400"
    ∷ codes "in 0 1400 192.0.2.30:40000 60000000"
    ∷ codes "tick 0 601300"
    ∷ codes "in 0 601301 192.0.2.30:40000 60000001"
    ∷ codes
    "in 0 700000 192.0.2.10:5683 41020001a1b2726411283865703d6e6f646531066c743d363030ff3c2f74656d703e3b72743d2274656d7065726174757265223b63743d302c3c2f6c696768743e3b72743d226c696768742d6c7578223b69663d2273656e736f7222"
    ∷ codes "go 0 700000"
    ∷ codes "in 0 700010 192.0.2.10:5683 41040009a3b272640133"
    ∷ codes "go 0 700010"
    ∷ codes "tick 0 700020" ∷ []))
    ≡ writes (
    codes "out 0 192.0.2.30:40000 61450010c148000000000000000021016128"
    ∷ codes "out 0 192.0.2.20:61616 61410001d18272640131"
    ∷ codes "out 0 192.0.2.10:5683 61410001a18272640132"
    ∷ codes
    "out 0 192.0.2.30:40000 41450000c148000000000002000021026128ff3c636f61703a2f2f3139322e302e322e31302f6c696768743e3b72743d226c696768742d6c7578223b69663d2273656e736f7222"
    ∷ codes "out 0 192.0.2.30:40000 41450001c148000000000002000121036128"
    ∷ codes "out 0 192.0.2.10:5683 61410001a18272640133"
    ∷ codes "out 0 192.0.2.10:5683 61420009a3"
    ∷ codes "end 4 1 1" ∷ [])
unfolding output_on_literals
observed = refl

-- a notification is retransmitted four times, and then its observer is removed
--     in 0 1000 192.0.2.30:40000: CON 0.01 m=0010 t=c1 [6 x][11 rd-lookup][11 res][15 rt=light-lux]
--     in 0 1100 192.0.2.20:61616: CON 0.02 m=0001 t=d1 [11 rd][15 ep=other] | </p>;rt="pump"
--     go 0 1100
--     tick 0 1200
--     in 0 1300 192.0.2.10:5683: CON 0.02 m=0001 t=a1 [11 rd][12 x28][15 ep=node1][15 lt=600] |
-- </temp>;rt="temperature";ct=0,</light>;rt="light-lux";if="sensor"
--     go 0 1300
--     tick 0 1400
--     tick 0 3399
--     tick 0 3400
--     tick 0 7399
--     tick 0 7400
--     tick 0 15399
--     tick 0 15400
--     tick 0 31399
--     tick 0 31400
--     tick 0 63399
--     tick 0 63400
-- gives
--     out 0 192.0.2.30:40000: ACK 2.05 m=0010 t=c1 [4 x0000000000000000][6 x01][12 x28]
--     out 0 192.0.2.20:61616: ACK 2.01 m=0001 t=d1 [8 rd][8 1]
--     out 0 192.0.2.10:5683: ACK 2.01 m=0001 t=a1 [8 rd][8 2]
--     out 0 192.0.2.30:40000: CON 2.05 m=0000 t=c1 [4 x0000000000020000][6 x02][12 x28] |
-- <coap://192.0.2.10/light>;rt="light-lux";if="sensor"
--     out 0 192.0.2.30:40000: CON 2.05 m=0000 t=c1 [4 x0000000000020000][6 x02][12 x28] |
-- <coap://192.0.2.10/light>;rt="light-lux";if="sensor"
--     out 0 192.0.2.30:40000: CON 2.05 m=0000 t=c1 [4 x0000000000020000][6 x02][12 x28] |
-- <coap://192.0.2.10/light>;rt="light-lux";if="sensor"
--     out 0 192.0.2.30:40000: CON 2.05 m=0000 t=c1 [4 x0000000000020000][6 x02][12 x28] |
-- <coap://192.0.2.10/light>;rt="light-lux";if="sensor"
--     out 0 192.0.2.30:40000: CON 2.05 m=0000 t=c1 [4 x0000000000020000][6 x02][12 x28] |
-- <coap://192.0.2.10/light>;rt="light-lux";if="sensor"
--     end 2 2 0
never_acknowledged : output 1 (lines (
    codes
    "in 0 1000 192.0.2.30:40000 41010010c1605972642d6c6f6f6b7570037265734c72743d6c696768742d6c7578"
    ∷ codes
    "in 0 1100 192.0.2.20:61616 41020001d1b272644865703d6f74686572ff3c2f703e3b72743d2270756d7022"
    ∷ codes "go 0 1100"
    ∷ codes "tick 0 1200"
    ∷ codes
    "in 0 1300 192.0.2.10:5683 41020001a1b2726411283865703d6e6f646531066c743d363030ff3c2f74656d703e3b72743d2274656d7065726174757265223b63743d302c3c2f6c696768743e3b72743d226c696768742d6c7578223b69663d2273656e736f7222"
    ∷ codes "go 0 1300"
    ∷ codes "tick 0 1400"
    ∷ codes "tick 0 3399"
    ∷ codes "tick 0 3400"
    ∷ codes "tick 0 7399"
    ∷ codes "tick 0 7400"
    ∷ codes "tick 0 15399"
    ∷ codes "tick 0 15400"
    ∷ codes "tick 0 31399"
    ∷ codes "tick 0 31400"
    ∷ codes "tick 0 63399"
    ∷ codes "tick 0 63400" ∷ []))
    ≡ writes (
    codes "out 0 192.0.2.30:40000 61450010c148000000000000000021016128"
    ∷ codes "out 0 192.0.2.20:61616 61410001d18272640131"
    ∷ codes "out 0 192.0.2.10:5683 61410001a18272640132"
    ∷ codes
    "out 0 192.0.2.30:40000 41450000c148000000000002000021026128ff3c636f61703a2f2f3139322e302e322e31302f6c696768743e3b72743d226c696768742d6c7578223b69663d2273656e736f7222"
    ∷ codes
    "out 0 192.0.2.30:40000 41450000c148000000000002000021026128ff3c636f61703a2f2f3139322e302e322e31302f6c696768743e3b72743d226c696768742d6c7578223b69663d2273656e736f7222"
    ∷ codes
    "out 0 192.0.2.30:40000 41450000c148000000000002000021026128ff3c636f61703a2f2f3139322e302e322e31302f6c696768743e3b72743d226c696768742d6c7578223b69663d2273656e736f7222"
    ∷ codes
    "out 0 192.0.2.30:40000 41450000c148000000000002000021026128ff3c636f61703a2f2f3139322e302e322e31302f6c696768743e3b72743d226c696768742d6c7578223b69663d2273656e736f7222"
    ∷ codes
    "out 0 192.0.2.30:40000 41450000c148000000000002000021026128ff3c636f61703a2f2f3139322e302e322e31302f6c696768743e3b72743d226c696768742d6c7578223b69663d2273656e736f7222"
    ∷ codes "end 2 2 0" ∷ [])
unfolding output_on_literals
never_acknowledged = refl

-- a Reset removes the observer
--     in 0 1000 192.0.2.30:40000: CON 0.01 m=0010 t=c1 [6 x][11 rd-lookup][11 res][15 rt=light-lux]
--     in 0 1100 192.0.2.20:61616: CON 0.02 m=0001 t=d1 [11 rd][15 ep=other] | </p>;rt="pump"
--     go 0 1100
--     tick 0 1200
--     in 0 1300 192.0.2.10:5683: CON 0.02 m=0001 t=a1 [11 rd][12 x28][15 ep=node1][15 lt=600] |
-- </temp>;rt="temperature";ct=0,</light>;rt="light-lux";if="sensor"
--     go 0 1300
--     tick 0 1400
--     in 0 1500 192.0.2.30:40000: RST 0.00 m=0000
-- gives
--     out 0 192.0.2.30:40000: ACK 2.05 m=0010 t=c1 [4 x0000000000000000][6 x01][12 x28]
--     out 0 192.0.2.20:61616: ACK 2.01 m=0001 t=d1 [8 rd][8 1]
--     out 0 192.0.2.10:5683: ACK 2.01 m=0001 t=a1 [8 rd][8 2]
--     out 0 192.0.2.30:40000: CON 2.05 m=0000 t=c1 [4 x0000000000020000][6 x02][12 x28] |
-- <coap://192.0.2.10/light>;rt="light-lux";if="sensor"
--     end 2 2 0
rejected : output 1 (lines (
    codes
    "in 0 1000 192.0.2.30:40000 41010010c1605972642d6c6f6f6b7570037265734c72743d6c696768742d6c7578"
    ∷ codes
    "in 0 1100 192.0.2.20:61616 41020001d1b272644865703d6f74686572ff3c2f703e3b72743d2270756d7022"
    ∷ codes "go 0 1100"
    ∷ codes "tick 0 1200"
    ∷ codes
    "in 0 1300 192.0.2.10:5683 41020001a1b2726411283865703d6e6f646531066c743d363030ff3c2f74656d703e3b72743d2274656d7065726174757265223b63743d302c3c2f6c696768743e3b72743d226c696768742d6c7578223b69663d2273656e736f7222"
    ∷ codes "go 0 1300"
    ∷ codes "tick 0 1400"
    ∷ codes "in 0 1500 192.0.2.30:40000 70000000" ∷ []))
    ≡ writes (
    codes "out 0 192.0.2.30:40000 61450010c148000000000000000021016128"
    ∷ codes "out 0 192.0.2.20:61616 61410001d18272640131"
    ∷ codes "out 0 192.0.2.10:5683 61410001a18272640132"
    ∷ codes
    "out 0 192.0.2.30:40000 41450000c148000000000002000021026128ff3c636f61703a2f2f3139322e302e322e31302f6c696768743e3b72743d226c696768742d6c7578223b69663d2273656e736f7222"
    ∷ codes "end 2 2 0" ∷ [])
unfolding output_on_literals
rejected = refl

-- an observer asks to observe no more
--     in 0 1000 192.0.2.30:40000: CON 0.01 m=0010 t=c1 [6 x][11 rd-lookup][11 res][15 rt=light-lux]
--     in 0 1001 192.0.2.30:40000: CON 0.01 m=0011 t=c1 [6 x01][11 rd-lookup][11 res][15
-- rt=light-lux]
-- gives
--     out 0 192.0.2.30:40000: ACK 2.05 m=0010 t=c1 [4 x0000000000000000][6 x01][12 x28]
--     out 0 192.0.2.30:40000: ACK 2.05 m=0011 t=c1 [4 x0000000000000000][12 x28]
--     end 0 0 0
observation_ended : output 1 (lines (
    codes
    "in 0 1000 192.0.2.30:40000 41010010c1605972642d6c6f6f6b7570037265734c72743d6c696768742d6c7578"
    ∷ codes
    "in 0 1001 192.0.2.30:40000 41010011c161015972642d6c6f6f6b7570037265734c72743d6c696768742d6c7578"
    ∷ []))
    ≡ writes (
    codes "out 0 192.0.2.30:40000 61450010c148000000000000000021016128"
    ∷ codes "out 0 192.0.2.30:40000 61450011c14800000000000000008128"
    ∷ codes "end 0 0 0" ∷ [])
unfolding output_on_literals
observation_ended = refl

-- a change that the page does not show: no notification, and the observer is due no more
--     in 0 1000 192.0.2.30:40000: CON 0.01 m=0010 t=c1 [6 x][11 rd-lookup][11 res][15
-- rt=light-lux][15 count=1]
--     in 0 1001 192.0.2.10:5683: CON 0.02 m=0001 t=a1 [11 rd][12 x28][15 ep=node1][15 lt=600] |
-- </temp>;rt="temperature";ct=0,</light>;rt="light-lux";if="sensor"
--     go 0 1001
--     tick 0 1002
--     in 0 1003 192.0.2.30:40000: ACK 0.00 m=0000
--     in 0 1004 192.0.2.20:61616: CON 0.02 m=0001 t=a1 [11 rd][12 x28][15 ep=node2][15 lt=600] |
-- </temp>;rt="temperature";ct=0,</light>;rt="light-lux";if="sensor"
--     go 0 1004
--     tick 0 1005
-- gives
--     out 0 192.0.2.30:40000: ACK 2.05 m=0010 t=c1 [4 x0000000000000000][6 x01][12 x28]
--     out 0 192.0.2.10:5683: ACK 2.01 m=0001 t=a1 [8 rd][8 1]
--     out 0 192.0.2.30:40000: CON 2.05 m=0000 t=c1 [4 x0000000000010000][6 x02][12 x28] |
-- <coap://192.0.2.10/light>;rt="light-lux";if="sensor"
--     out 0 192.0.2.20:61616: ACK 2.01 m=0001 t=a1 [8 rd][8 2]
--     end 2 2 1
page_unchanged : output 1 (lines (
    codes
    "in 0 1000 192.0.2.30:40000 41010010c1605972642d6c6f6f6b7570037265734c72743d6c696768742d6c757807636f756e743d31"
    ∷ codes
    "in 0 1001 192.0.2.10:5683 41020001a1b2726411283865703d6e6f646531066c743d363030ff3c2f74656d703e3b72743d2274656d7065726174757265223b63743d302c3c2f6c696768743e3b72743d226c696768742d6c7578223b69663d2273656e736f7222"
    ∷ codes "go 0 1001"
    ∷ codes "tick 0 1002"
    ∷ codes "in 0 1003 192.0.2.30:40000 60000000"
    ∷ codes
    "in 0 1004 192.0.2.20:61616 41020001a1b2726411283865703d6e6f646532066c743d363030ff3c2f74656d703e3b72743d2274656d7065726174757265223b63743d302c3c2f6c696768743e3b72743d226c696768742d6c7578223b69663d2273656e736f7222"
    ∷ codes "go 0 1004"
    ∷ codes "tick 0 1005" ∷ []))
    ≡ writes (
    codes "out 0 192.0.2.30:40000 61450010c148000000000000000021016128"
    ∷ codes "out 0 192.0.2.10:5683 61410001a18272640131"
    ∷ codes
    "out 0 192.0.2.30:40000 41450000c148000000000001000021026128ff3c636f61703a2f2f3139322e302e322e31302f6c696768743e3b72743d226c696768742d6c7578223b69663d2273656e736f7222"
    ∷ codes "out 0 192.0.2.20:61616 61410001a18272640132"
    ∷ codes "end 2 2 1" ∷ [])
unfolding output_on_literals
page_unchanged = refl

-- two observers of one peer get their notifications one after the other
--     in 0 1000 192.0.2.30:40000: CON 0.01 m=0010 t=c1 [6 x][11 rd-lookup][11 res][15 rt=light-lux]
--     in 0 1000 192.0.2.30:40000: CON 0.01 m=0011 t=c2 [6 x][11 rd-lookup][11 res][15
-- rt=temperature]
--     in 0 1001 192.0.2.10:5683: CON 0.02 m=0001 t=a1 [11 rd][12 x28][15 ep=node1][15 lt=600] |
-- </temp>;rt="temperature";ct=0,</light>;rt="light-lux";if="sensor"
--     go 0 1001
--     tick 0 1002
--     in 0 1003 192.0.2.30:40000: ACK 0.00 m=0000
--     tick 0 1004
-- gives
--     out 0 192.0.2.30:40000: ACK 2.05 m=0010 t=c1 [4 x0000000000000000][6 x01][12 x28]
--     out 0 192.0.2.30:40000: ACK 2.05 m=0011 t=c2 [4 x0000000000000000][6 x02][12 x28]
--     out 0 192.0.2.10:5683: ACK 2.01 m=0001 t=a1 [8 rd][8 1]
--     out 0 192.0.2.30:40000: CON 2.05 m=0000 t=c1 [4 x0000000000010000][6 x03][12 x28] |
-- <coap://192.0.2.10/light>;rt="light-lux";if="sensor"
--     out 0 192.0.2.30:40000: CON 2.05 m=0001 t=c2 [4 x0000000000010000][6 x04][12 x28] |
-- <coap://192.0.2.10/temp>;rt="temperature";ct=0
--     end 1 1 2
one_flight_each_peer : output 1 (lines (
    codes
    "in 0 1000 192.0.2.30:40000 41010010c1605972642d6c6f6f6b7570037265734c72743d6c696768742d6c7578"
    ∷ codes
    "in 0 1000 192.0.2.30:40000 41010011c2605972642d6c6f6f6b7570037265734d0172743d74656d7065726174757265"
    ∷ codes
    "in 0 1001 192.0.2.10:5683 41020001a1b2726411283865703d6e6f646531066c743d363030ff3c2f74656d703e3b72743d2274656d7065726174757265223b63743d302c3c2f6c696768743e3b72743d226c696768742d6c7578223b69663d2273656e736f7222"
    ∷ codes "go 0 1001"
    ∷ codes "tick 0 1002"
    ∷ codes "in 0 1003 192.0.2.30:40000 60000000"
    ∷ codes "tick 0 1004" ∷ []))
    ≡ writes (
    codes "out 0 192.0.2.30:40000 61450010c148000000000000000021016128"
    ∷ codes "out 0 192.0.2.30:40000 61450011c248000000000000000021026128"
    ∷ codes "out 0 192.0.2.10:5683 61410001a18272640131"
    ∷ codes
    "out 0 192.0.2.30:40000 41450000c148000000000001000021036128ff3c636f61703a2f2f3139322e302e322e31302f6c696768743e3b72743d226c696768742d6c7578223b69663d2273656e736f7222"
    ∷ codes
    "out 0 192.0.2.30:40000 41450001c248000000000001000021046128ff3c636f61703a2f2f3139322e302e322e31302f74656d703e3b72743d2274656d7065726174757265223b63743d30"
    ∷ codes "end 1 1 2" ∷ [])
unfolding output_on_literals
one_flight_each_peer = refl

-- acknowledgements and Resets of others change nothing
--     in 0 1000 192.0.2.30:40000: CON 0.01 m=0010 t=c1 [6 x][11 rd-lookup][11 res][15 rt=light-lux]
--     in 0 1100 192.0.2.20:61616: CON 0.02 m=0001 t=d1 [11 rd][15 ep=other] | </p>;rt="pump"
--     go 0 1100
--     tick 0 1200
--     in 0 1300 192.0.2.10:5683: CON 0.02 m=0001 t=a1 [11 rd][12 x28][15 ep=node1][15 lt=600] |
-- </temp>;rt="temperature";ct=0,</light>;rt="light-lux";if="sensor"
--     go 0 1300
--     tick 0 1400
--     in 0 1500 192.0.2.20:61616: RST 0.00 m=0000
--     in 0 1500 192.0.2.30:40000: ACK 0.00 m=0005
--     tick 0 3400
-- gives
--     out 0 192.0.2.30:40000: ACK 2.05 m=0010 t=c1 [4 x0000000000000000][6 x01][12 x28]
--     out 0 192.0.2.20:61616: ACK 2.01 m=0001 t=d1 [8 rd][8 1]
--     out 0 192.0.2.10:5683: ACK 2.01 m=0001 t=a1 [8 rd][8 2]
--     out 0 192.0.2.30:40000: CON 2.05 m=0000 t=c1 [4 x0000000000020000][6 x02][12 x28] |
-- <coap://192.0.2.10/light>;rt="light-lux";if="sensor"
--     out 0 192.0.2.30:40000: CON 2.05 m=0000 t=c1 [4 x0000000000020000][6 x02][12 x28] |
-- <coap://192.0.2.10/light>;rt="light-lux";if="sensor"
--     end 2 2 1
strangers : output 1 (lines (
    codes
    "in 0 1000 192.0.2.30:40000 41010010c1605972642d6c6f6f6b7570037265734c72743d6c696768742d6c7578"
    ∷ codes
    "in 0 1100 192.0.2.20:61616 41020001d1b272644865703d6f74686572ff3c2f703e3b72743d2270756d7022"
    ∷ codes "go 0 1100"
    ∷ codes "tick 0 1200"
    ∷ codes
    "in 0 1300 192.0.2.10:5683 41020001a1b2726411283865703d6e6f646531066c743d363030ff3c2f74656d703e3b72743d2274656d7065726174757265223b63743d302c3c2f6c696768743e3b72743d226c696768742d6c7578223b69663d2273656e736f7222"
    ∷ codes "go 0 1300"
    ∷ codes "tick 0 1400"
    ∷ codes "in 0 1500 192.0.2.20:61616 70000000"
    ∷ codes "in 0 1500 192.0.2.30:40000 60000005"
    ∷ codes "tick 0 3400" ∷ []))
    ≡ writes (
    codes "out 0 192.0.2.30:40000 61450010c148000000000000000021016128"
    ∷ codes "out 0 192.0.2.20:61616 61410001d18272640131"
    ∷ codes "out 0 192.0.2.10:5683 61410001a18272640132"
    ∷ codes
    "out 0 192.0.2.30:40000 41450000c148000000000002000021026128ff3c636f61703a2f2f3139322e302e322e31302f6c696768743e3b72743d226c696768742d6c7578223b69663d2273656e736f7222"
    ∷ codes
    "out 0 192.0.2.30:40000 41450000c148000000000002000021026128ff3c636f61703a2f2f3139322e302e322e31302f6c696768743e3b72743d226c696768742d6c7578223b69663d2273656e736f7222"
    ∷ codes "end 2 2 1" ∷ [])
unfolding output_on_literals
strangers = refl
