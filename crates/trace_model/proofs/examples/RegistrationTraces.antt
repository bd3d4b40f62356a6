-- Traces of registrations, updates and removals. Beside each the datagrams are shown: type, code,
-- Message ID, token, options, payload.
use Rattle.std.proofs.Common.{◌≡◌, [], ◌∷◌, codes, refl}
use Rattle.trace_model.specs.Output.{output}
use Rattle.trace_model.proofs.OnLiterals.{output_on_literals}
use Rattle.trace_model.proofs.OutputLines.{lines, writes}

-- a device registers two links
--     in 0 1000 192.0.2.10:5683: CON 0.02 m=0001 t=a1 [11 rd][12 x28][15 ep=node1][15 lt=600] |
-- </temp>;rt="temperature";ct=0,</light>;rt="light-lux";if="sensor"
--     go 0 1005
-- gives
--     out 0 192.0.2.10:5683: ACK 2.01 m=0001 t=a1 [8 rd][8 1]
--     end 1 1 0
registers : output 1 (lines (
    codes
    "in 0 1000 192.0.2.10:5683 41020001a1b2726411283865703d6e6f646531066c743d363030ff3c2f74656d703e3b72743d2274656d7065726174757265223b63743d302c3c2f6c696768743e3b72743d226c696768742d6c7578223b69663d2273656e736f7222"
    ∷ codes "go 0 1005" ∷ []))
    ≡ writes (
    codes "out 0 192.0.2.10:5683 61410001a18272640131"
    ∷ codes "end 1 1 0" ∷ [])
unfolding output_on_literals
registers = refl

-- a device registers one link
--     in 0 5 192.0.2.10:5683: CON 0.02 m=0001 t=a1 [11 rd][12 x28][15 ep=node1] | </temp>
--     go 0 6
-- gives
--     out 0 192.0.2.10:5683: ACK 2.01 m=0001 t=a1 [8 rd][8 1]
--     end 1 1 0
registers_one_link : output 1 (lines (
    codes "in 0 5 192.0.2.10:5683 41020001a1b2726411283865703d6e6f646531ff3c2f74656d703e"
    ∷ codes "go 0 6" ∷ []))
    ≡ writes (
    codes "out 0 192.0.2.10:5683 61410001a18272640131"
    ∷ codes "end 1 1 0" ∷ [])
unfolding output_on_literals
registers_one_link = refl

-- an empty trace
nothing_happens : output 1 (lines (
    []))
    ≡ writes (
    codes "end 0 0 0" ∷ [])
unfolding output_on_literals
nothing_happens = refl

-- a body that is no document
--     in 0 5 192.0.2.10:5683: CON 0.02 m=0002 t=a1 [11 rd][12 x28][15 ep=n] | </t>;
--     go 0 6
-- gives
--     out 0 192.0.2.10:5683: ACK 4.00 m=0002 t=a1 | links
--     end 0 0 0
refused_links : output 1 (lines (
    codes "in 0 5 192.0.2.10:5683 41020002a1b2726411283465703d6eff3c2f743e3b"
    ∷ codes "go 0 6" ∷ []))
    ≡ writes (
    codes "out 0 192.0.2.10:5683 61800002a1ff6c696e6b73"
    ∷ codes "end 0 0 0" ∷ [])
unfolding output_on_literals
refused_links = refl

-- an endpoint name that is empty
--     in 0 5 192.0.2.10:5683: CON 0.02 m=0003 t=a1 [11 rd][12 x28][15 ep=] | </t>;
--     go 0 6
-- gives
--     out 0 192.0.2.10:5683: ACK 4.00 m=0003 t=a1 | query
--     end 0 0 0
refused_query : output 1 (lines (
    codes "in 0 5 192.0.2.10:5683 41020003a1b2726411283365703dff3c2f743e3b"
    ∷ codes "go 0 6" ∷ []))
    ≡ writes (
    codes "out 0 192.0.2.10:5683 61800003a1ff7175657279"
    ∷ codes "end 0 0 0" ∷ [])
unfolding output_on_literals
refused_query = refl

-- a repeat gets nothing while the first is in flight, and then the same octets, from another worker
-- too
--     in 0 1000 192.0.2.10:5683: CON 0.02 m=0001 t=a1 [11 rd][12 x28][15 ep=node1][15 lt=600] |
-- </temp>;rt="temperature";ct=0,</light>;rt="light-lux";if="sensor"
--     in 1 1001 192.0.2.10:5683: CON 0.02 m=0001 t=a1 [11 rd][12 x28][15 ep=node1][15 lt=600] |
-- </temp>;rt="temperature";ct=0,</light>;rt="light-lux";if="sensor"
--     go 0 1005
--     in 1 1010 192.0.2.10:5683: CON 0.02 m=0001 t=a1 [11 rd][12 x28][15 ep=node1][15 lt=600] |
-- </temp>;rt="temperature";ct=0,</light>;rt="light-lux";if="sensor"
--     go 1 1011
-- gives
--     out 0 192.0.2.10:5683: ACK 2.01 m=0001 t=a1 [8 rd][8 1]
--     out 1 192.0.2.10:5683: ACK 2.01 m=0001 t=a1 [8 rd][8 1]
--     end 1 1 0
repeated_at_another_worker : output 2 (lines (
    codes
    "in 0 1000 192.0.2.10:5683 41020001a1b2726411283865703d6e6f646531066c743d363030ff3c2f74656d703e3b72743d2274656d7065726174757265223b63743d302c3c2f6c696768743e3b72743d226c696768742d6c7578223b69663d2273656e736f7222"
    ∷ codes
    "in 1 1001 192.0.2.10:5683 41020001a1b2726411283865703d6e6f646531066c743d363030ff3c2f74656d703e3b72743d2274656d7065726174757265223b63743d302c3c2f6c696768743e3b72743d226c696768742d6c7578223b69663d2273656e736f7222"
    ∷ codes "go 0 1005"
    ∷ codes
    "in 1 1010 192.0.2.10:5683 41020001a1b2726411283865703d6e6f646531066c743d363030ff3c2f74656d703e3b72743d2274656d7065726174757265223b63743d302c3c2f6c696768743e3b72743d226c696768742d6c7578223b69663d2273656e736f7222"
    ∷ codes "go 1 1011" ∷ []))
    ≡ writes (
    codes "out 0 192.0.2.10:5683 61410001a18272640131"
    ∷ codes "out 1 192.0.2.10:5683 61410001a18272640131"
    ∷ codes "end 1 1 0" ∷ [])
unfolding output_on_literals
repeated_at_another_worker = refl

-- a write is a repeat for less than 247 seconds
--     in 0 1000 192.0.2.10:5683: CON 0.02 m=0001 t=a1 [11 rd][12 x28][15 ep=node1][15 lt=600] |
-- </temp>;rt="temperature";ct=0,</light>;rt="light-lux";if="sensor"
--     go 0 1000
--     in 0 247999 192.0.2.10:5683: CON 0.02 m=0001 t=a1 [11 rd][12 x28][15 ep=node1][15 lt=600] |
-- </temp>;rt="temperature";ct=0,</light>;rt="light-lux";if="sensor"
--     in 0 248000 192.0.2.10:5683: CON 0.02 m=0001 t=a1 [11 rd][12 x28][15 ep=node1][15 lt=600] |
-- </temp>;rt="temperature";ct=0,</light>;rt="light-lux";if="sensor"
--     go 0 248000
-- gives
--     out 0 192.0.2.10:5683: ACK 2.01 m=0001 t=a1 [8 rd][8 1]
--     out 0 192.0.2.10:5683: ACK 2.01 m=0001 t=a1 [8 rd][8 1]
--     out 0 192.0.2.10:5683: ACK 2.01 m=0001 t=a1 [8 rd][8 1]
--     end 2 1 0
edge_of_an_exchange : output 1 (lines (
    codes
    "in 0 1000 192.0.2.10:5683 41020001a1b2726411283865703d6e6f646531066c743d363030ff3c2f74656d703e3b72743d2274656d7065726174757265223b63743d302c3c2f6c696768743e3b72743d226c696768742d6c7578223b69663d2273656e736f7222"
    ∷ codes "go 0 1000"
    ∷ codes
    "in 0 247999 192.0.2.10:5683 41020001a1b2726411283865703d6e6f646531066c743d363030ff3c2f74656d703e3b72743d2274656d7065726174757265223b63743d302c3c2f6c696768743e3b72743d226c696768742d6c7578223b69663d2273656e736f7222"
    ∷ codes
    "in 0 248000 192.0.2.10:5683 41020001a1b2726411283865703d6e6f646531066c743d363030ff3c2f74656d703e3b72743d2274656d7065726174757265223b63743d302c3c2f6c696768743e3b72743d226c696768742d6c7578223b69663d2273656e736f7222"
    ∷ codes "go 0 248000" ∷ []))
    ≡ writes (
    codes "out 0 192.0.2.10:5683 61410001a18272640131"
    ∷ codes "out 0 192.0.2.10:5683 61410001a18272640131"
    ∷ codes "out 0 192.0.2.10:5683 61410001a18272640131"
    ∷ codes "end 2 1 0" ∷ [])
unfolding output_on_literals
edge_of_an_exchange = refl

-- at the moment of its lapse a registration is live no more
--     in 0 1000 192.0.2.10:5683: CON 0.02 m=0001 t=a1 [11 rd][12 x28][15 ep=node1][15 lt=600] |
-- </temp>;rt="temperature";ct=0,</light>;rt="light-lux";if="sensor"
--     go 0 1000
--     in 0 600999 192.0.2.30:40000: CON 0.01 m=0002 t=b2 [11 rd-lookup][11 res][15 rt=light-lux]
--     in 0 601000 192.0.2.30:40000: CON 0.01 m=0002 t=b2 [11 rd-lookup][11 res][15 rt=light-lux]
--     in 0 601000 192.0.2.10:5683: CON 0.02 m=0003 t=a2 [11 rd][11 1]
--     go 0 601000
-- gives
--     out 0 192.0.2.10:5683: ACK 2.01 m=0001 t=a1 [8 rd][8 1]
--     out 0 192.0.2.30:40000: ACK 2.05 m=0002 t=b2 [4 x0000000000010000][12 x28] |
-- <coap://192.0.2.10/light>;rt="light-lux";if="sensor"
--     out 0 192.0.2.30:40000: ACK 2.05 m=0002 t=b2 [4 x0000000000010001][12 x28]
--     out 0 192.0.2.10:5683: ACK 4.04 m=0003 t=a2 | registration
--     end 1 0 0
edge_of_a_lease : output 1 (lines (
    codes
    "in 0 1000 192.0.2.10:5683 41020001a1b2726411283865703d6e6f646531066c743d363030ff3c2f74656d703e3b72743d2274656d7065726174757265223b63743d302c3c2f6c696768743e3b72743d226c696768742d6c7578223b69663d2273656e736f7222"
    ∷ codes "go 0 1000"
    ∷ codes
    "in 0 600999 192.0.2.30:40000 41010002b2b972642d6c6f6f6b7570037265734c72743d6c696768742d6c7578"
    ∷ codes
    "in 0 601000 192.0.2.30:40000 41010002b2b972642d6c6f6f6b7570037265734c72743d6c696768742d6c7578"
    ∷ codes "in 0 601000 192.0.2.10:5683 41020003a2b272640131"
    ∷ codes "go 0 601000" ∷ []))
    ≡ writes (
    codes "out 0 192.0.2.10:5683 61410001a18272640131"
    ∷ codes
    "out 0 192.0.2.30:40000 61450002b24800000000000100008128ff3c636f61703a2f2f3139322e302e322e31302f6c696768743e3b72743d226c696768742d6c7578223b69663d2273656e736f7222"
    ∷ codes "out 0 192.0.2.30:40000 61450002b24800000000000100018128"
    ∷ codes "out 0 192.0.2.10:5683 61840003a2ff726567697374726174696f6e"
    ∷ codes "end 1 0 0" ∷ [])
unfolding output_on_literals
edge_of_a_lease = refl

-- a registration after a lapse has a new number
--     in 0 1000 192.0.2.10:5683: CON 0.02 m=0001 t=a1 [11 rd][12 x28][15 ep=node1][15 lt=600] |
-- </temp>;rt="temperature";ct=0,</light>;rt="light-lux";if="sensor"
--     go 0 1000
--     in 0 601000 192.0.2.10:5683: CON 0.02 m=0001 t=a1 [11 rd][12 x28][15 ep=node1][15 lt=600] |
-- </temp>;rt="temperature";ct=0,</light>;rt="light-lux";if="sensor"
--     go 0 601000
--     in 0 601000 192.0.2.10:5683: CON 0.04 m=0004 t=a3 [11 rd][11 1]
--     go 0 601000
-- gives
--     out 0 192.0.2.10:5683: ACK 2.01 m=0001 t=a1 [8 rd][8 1]
--     out 0 192.0.2.10:5683: ACK 2.01 m=0001 t=a1 [8 rd][8 2]
--     out 0 192.0.2.10:5683: ACK 4.04 m=0004 t=a3 | registration
--     end 2 1 0
registered_after_lapse : output 1 (lines (
    codes
    "in 0 1000 192.0.2.10:5683 41020001a1b2726411283865703d6e6f646531066c743d363030ff3c2f74656d703e3b72743d2274656d7065726174757265223b63743d302c3c2f6c696768743e3b72743d226c696768742d6c7578223b69663d2273656e736f7222"
    ∷ codes "go 0 1000"
    ∷ codes
    "in 0 601000 192.0.2.10:5683 41020001a1b2726411283865703d6e6f646531066c743d363030ff3c2f74656d703e3b72743d2274656d7065726174757265223b63743d302c3c2f6c696768743e3b72743d226c696768742d6c7578223b69663d2273656e736f7222"
    ∷ codes "go 0 601000"
    ∷ codes "in 0 601000 192.0.2.10:5683 41040004a3b272640131"
    ∷ codes "go 0 601000" ∷ []))
    ≡ writes (
    codes "out 0 192.0.2.10:5683 61410001a18272640131"
    ∷ codes "out 0 192.0.2.10:5683 61410001a18272640132"
    ∷ codes "out 0 192.0.2.10:5683 61840004a3ff726567697374726174696f6e"
    ∷ codes "end 2 1 0" ∷ [])
unfolding output_on_literals
registered_after_lapse = refl

-- an update makes the base that of its source where none was given
--     in 0 1000 192.0.2.10:5683: CON 0.02 m=0001 t=a1 [11 rd][12 x28][15 ep=node1][15 lt=600] |
-- </temp>;rt="temperature";ct=0,</light>;rt="light-lux";if="sensor"
--     go 0 1005
--     in 0 1006 192.0.2.10:61616: CON 0.02 m=0009 t=a4 [11 rd][11 1]
--     go 0 1006
--     in 0 1007 192.0.2.30:40000: CON 0.01 m=0002 t=b2 [11 rd-lookup][11 res][15 rt=light-lux]
-- gives
--     out 0 192.0.2.10:5683: ACK 2.01 m=0001 t=a1 [8 rd][8 1]
--     out 0 192.0.2.10:61616: ACK 2.04 m=0009 t=a4
--     out 0 192.0.2.30:40000: ACK 2.05 m=0002 t=b2 [4 x0000000000020000][12 x28] |
-- <coap://192.0.2.10:61616/light>;rt="light-lux";if="sensor"
--     end 2 1 0
updated_from_another_port : output 1 (lines (
    codes
    "in 0 1000 192.0.2.10:5683 41020001a1b2726411283865703d6e6f646531066c743d363030ff3c2f74656d703e3b72743d2274656d7065726174757265223b63743d302c3c2f6c696768743e3b72743d226c696768742d6c7578223b69663d2273656e736f7222"
    ∷ codes "go 0 1005"
    ∷ codes "in 0 1006 192.0.2.10:61616 41020009a4b272640131"
    ∷ codes "go 0 1006"
    ∷ codes
    "in 0 1007 192.0.2.30:40000 41010002b2b972642d6c6f6f6b7570037265734c72743d6c696768742d6c7578"
    ∷ []))
    ≡ writes (
    codes "out 0 192.0.2.10:5683 61410001a18272640131"
    ∷ codes "out 0 192.0.2.10:61616 61440009a4"
    ∷ codes
    "out 0 192.0.2.30:40000 61450002b24800000000000200008128ff3c636f61703a2f2f3139322e302e322e31303a36313631362f6c696768743e3b72743d226c696768742d6c7578223b69663d2273656e736f7222"
    ∷ codes "end 2 1 0" ∷ [])
unfolding output_on_literals
updated_from_another_port = refl

-- a base that was given stays with an update from elsewhere
--     in 0 1000 192.0.2.10:5683: CON 0.02 m=0001 t=a1 [11 rd][12 x28][15 ep=node1][15 lt=600][15
-- base=coap://sensor.example] | </temp>;rt="temperature";ct=0,</light>;rt="light-lux";if="sensor"
--     go 0 1005
--     in 0 1006 192.0.2.30:40000: CON 0.01 m=0002 t=b2 [11 rd-lookup][11 res][15 rt=light-lux]
--     in 0 1007 192.0.2.10:61616: CON 0.02 m=0009 t=a4 [11 rd][11 1]
--     go 0 1007
--     in 0 1008 192.0.2.30:40000: CON 0.01 m=0002 t=b2 [11 rd-lookup][11 res][15 rt=light-lux]
-- gives
--     out 0 192.0.2.10:5683: ACK 2.01 m=0001 t=a1 [8 rd][8 1]
--     out 0 192.0.2.30:40000: ACK 2.05 m=0002 t=b2 [4 x0000000000010000][12 x28] |
-- <coap://sensor.example/light>;rt="light-lux";if="sensor"
--     out 0 192.0.2.10:61616: ACK 2.04 m=0009 t=a4
--     out 0 192.0.2.30:40000: ACK 2.05 m=0002 t=b2 [4 x0000000000020000][12 x28] |
-- <coap://sensor.example/light>;rt="light-lux";if="sensor"
--     end 2 1 0
given_base_stays : output 1 (lines (
    codes
    "in 0 1000 192.0.2.10:5683 41020001a1b2726411283865703d6e6f646531066c743d3630300d0d626173653d636f61703a2f2f73656e736f722e6578616d706c65ff3c2f74656d703e3b72743d2274656d7065726174757265223b63743d302c3c2f6c696768743e3b72743d226c696768742d6c7578223b69663d2273656e736f7222"
    ∷ codes "go 0 1005"
    ∷ codes
    "in 0 1006 192.0.2.30:40000 41010002b2b972642d6c6f6f6b7570037265734c72743d6c696768742d6c7578"
    ∷ codes "in 0 1007 192.0.2.10:61616 41020009a4b272640131"
    ∷ codes "go 0 1007"
    ∷ codes
    "in 0 1008 192.0.2.30:40000 41010002b2b972642d6c6f6f6b7570037265734c72743d6c696768742d6c7578"
    ∷ []))
    ≡ writes (
    codes "out 0 192.0.2.10:5683 61410001a18272640131"
    ∷ codes
    "out 0 192.0.2.30:40000 61450002b24800000000000100008128ff3c636f61703a2f2f73656e736f722e6578616d706c652f6c696768743e3b72743d226c696768742d6c7578223b69663d2273656e736f7222"
    ∷ codes "out 0 192.0.2.10:61616 61440009a4"
    ∷ codes
    "out 0 192.0.2.30:40000 61450002b24800000000000200008128ff3c636f61703a2f2f73656e736f722e6578616d706c652f6c696768743e3b72743d226c696768742d6c7578223b69663d2273656e736f7222"
    ∷ codes "end 2 1 0" ∷ [])
unfolding output_on_literals
given_base_stays = refl

-- an update gives an attribute anew, and a lifetime
--     in 0 1000 192.0.2.10:5683: CON 0.02 m=0001 t=a1 [11 rd][12 x28][15 ep=node1][15 lt=600][15
-- floor=3] | </temp>;rt="temperature";ct=0,</light>;rt="light-lux";if="sensor"
--     go 0 1000
--     in 0 2000 192.0.2.10:5683: CON 0.02 m=0002 [11 rd][11 1][15 floor=4][15 lt=60]
--     go 0 2000
-- gives
--     out 0 192.0.2.10:5683: ACK 2.01 m=0001 t=a1 [8 rd][8 1]
--     out 0 192.0.2.10:5683: ACK 2.04 m=0002
--     end 2 1 0
updated_attributes : output 1 (lines (
    codes
    "in 0 1000 192.0.2.10:5683 41020001a1b2726411283865703d6e6f646531066c743d36303007666c6f6f723d33ff3c2f74656d703e3b72743d2274656d7065726174757265223b63743d302c3c2f6c696768743e3b72743d226c696768742d6c7578223b69663d2273656e736f7222"
    ∷ codes "go 0 1000"
    ∷ codes "in 0 2000 192.0.2.10:5683 40020002b27264013147666c6f6f723d34056c743d3630"
    ∷ codes "go 0 2000" ∷ []))
    ≡ writes (
    codes "out 0 192.0.2.10:5683 61410001a18272640131"
    ∷ codes "out 0 192.0.2.10:5683 60440002"
    ∷ codes "end 2 1 0" ∷ [])
unfolding output_on_literals
updated_attributes = refl

-- two workers register one name: the order of the commits counts
--     in 0 1000 192.0.2.10:5683: CON 0.02 m=0001 t=a1 [11 rd][12 x28][15 ep=node1][15 lt=600] |
-- </temp>;rt="temperature";ct=0,</light>;rt="light-lux";if="sensor"
--     in 1 1001 192.0.2.20:61616: CON 0.02 m=0001 t=a1 [11 rd][12 x28][15 ep=node1][15 lt=600] |
-- </temp>;rt="temperature";ct=0,</light>;rt="light-lux";if="sensor"
--     go 1 1002
--     go 0 1003
--     in 0 1004 192.0.2.30:40000: CON 0.01 m=0002 t=b2 [11 rd-lookup][11 res][15 rt=light-lux]
--     in 0 1004 192.0.2.30:40000: CON 0.01 m=0003 t=b2 [11 rd-lookup][11 res][15 ep=node1]
-- gives
--     out 1 192.0.2.20:61616: ACK 2.01 m=0001 t=a1 [8 rd][8 1]
--     out 0 192.0.2.10:5683: ACK 2.01 m=0001 t=a1 [8 rd][8 1]
--     out 0 192.0.2.30:40000: ACK 2.05 m=0002 t=b2 [4 x0000000000020000][12 x28] |
-- <coap://192.0.2.10/light>;rt="light-lux";if="sensor"
--     out 0 192.0.2.30:40000: ACK 2.05 m=0003 t=b2 [4 x0000000000020000][12 x28] |
-- <coap://192.0.2.10/temp>;rt="temperature";ct=0,<coap://192.0.2.10/light>;rt="light-lux";if="sensor"
--     end 2 1 0
two_workers_race : output 2 (lines (
    codes
    "in 0 1000 192.0.2.10:5683 41020001a1b2726411283865703d6e6f646531066c743d363030ff3c2f74656d703e3b72743d2274656d7065726174757265223b63743d302c3c2f6c696768743e3b72743d226c696768742d6c7578223b69663d2273656e736f7222"
    ∷ codes
    "in 1 1001 192.0.2.20:61616 41020001a1b2726411283865703d6e6f646531066c743d363030ff3c2f74656d703e3b72743d2274656d7065726174757265223b63743d302c3c2f6c696768743e3b72743d226c696768742d6c7578223b69663d2273656e736f7222"
    ∷ codes "go 1 1002"
    ∷ codes "go 0 1003"
    ∷ codes
    "in 0 1004 192.0.2.30:40000 41010002b2b972642d6c6f6f6b7570037265734c72743d6c696768742d6c7578"
    ∷ codes "in 0 1004 192.0.2.30:40000 41010003b2b972642d6c6f6f6b7570037265734865703d6e6f646531"
    ∷ []))
    ≡ writes (
    codes "out 1 192.0.2.20:61616 61410001a18272640131"
    ∷ codes "out 0 192.0.2.10:5683 61410001a18272640131"
    ∷ codes
    "out 0 192.0.2.30:40000 61450002b24800000000000200008128ff3c636f61703a2f2f3139322e302e322e31302f6c696768743e3b72743d226c696768742d6c7578223b69663d2273656e736f7222"
    ∷ codes
    "out 0 192.0.2.30:40000 61450003b24800000000000200008128ff3c636f61703a2f2f3139322e302e322e31302f74656d703e3b72743d2274656d7065726174757265223b63743d302c3c636f61703a2f2f3139322e302e322e31302f6c696768743e3b72743d226c696768742d6c7578223b69663d2273656e736f7222"
    ∷ codes "end 2 1 0" ∷ [])
unfolding output_on_literals
two_workers_race = refl

-- a moment below the greatest is raised to it
--     in 0 5000 192.0.2.10:5683: CON 0.02 m=0001 t=a1 [11 rd][12 x28][15 ep=node1][15 lt=600] |
-- </temp>;rt="temperature";ct=0,</light>;rt="light-lux";if="sensor"
--     go 0 3000
--     in 0 604999 192.0.2.30:40000: CON 0.01 m=0002 t=b2 [11 rd-lookup][11 res][15 rt=light-lux]
--     in 0 605000 192.0.2.30:40000: CON 0.01 m=0002 t=b2 [11 rd-lookup][11 res][15 rt=light-lux]
-- gives
--     out 0 192.0.2.10:5683: ACK 2.01 m=0001 t=a1 [8 rd][8 1]
--     out 0 192.0.2.30:40000: ACK 2.05 m=0002 t=b2 [4 x0000000000010000][12 x28] |
-- <coap://192.0.2.10/light>;rt="light-lux";if="sensor"
--     out 0 192.0.2.30:40000: ACK 2.05 m=0002 t=b2 [4 x0000000000010001][12 x28]
--     end 1 0 0
clock_goes_back : output 1 (lines (
    codes
    "in 0 5000 192.0.2.10:5683 41020001a1b2726411283865703d6e6f646531066c743d363030ff3c2f74656d703e3b72743d2274656d7065726174757265223b63743d302c3c2f6c696768743e3b72743d226c696768742d6c7578223b69663d2273656e736f7222"
    ∷ codes "go 0 3000"
    ∷ codes
    "in 0 604999 192.0.2.30:40000 41010002b2b972642d6c6f6f6b7570037265734c72743d6c696768742d6c7578"
    ∷ codes
    "in 0 605000 192.0.2.30:40000 41010002b2b972642d6c6f6f6b7570037265734c72743d6c696768742d6c7578"
    ∷ []))
    ≡ writes (
    codes "out 0 192.0.2.10:5683 61410001a18272640131"
    ∷ codes
    "out 0 192.0.2.30:40000 61450002b24800000000000100008128ff3c636f61703a2f2f3139322e302e322e31302f6c696768743e3b72743d226c696768742d6c7578223b69663d2273656e736f7222"
    ∷ codes "out 0 192.0.2.30:40000 61450002b24800000000000100018128"
    ∷ codes "end 1 0 0" ∷ [])
unfolding output_on_literals
clock_goes_back = refl

-- a request that is not confirmable
--     in 1 1 192.0.2.10:5683: NON 0.02 m=0042 t=a9 [11 rd][15 ep=z]
--     go 1 2
--     in 1 3 192.0.2.10:5683: NON 0.02 m=0042 t=a9 [11 rd][15 ep=z]
-- gives
--     out 1 192.0.2.10:5683: NON 2.01 m=1000 t=a9 [8 rd][8 1]
--     out 1 192.0.2.10:5683: NON 2.01 m=1000 t=a9 [8 rd][8 1]
--     end 1 1 0
not_confirmable : output 2 (lines (
    codes "in 1 1 192.0.2.10:5683 51020042a9b272644465703d7a"
    ∷ codes "go 1 2"
    ∷ codes "in 1 3 192.0.2.10:5683 51020042a9b272644465703d7a" ∷ []))
    ≡ writes (
    codes "out 1 192.0.2.10:5683 51411000a98272640131"
    ∷ codes "out 1 192.0.2.10:5683 51411000a98272640131"
    ∷ codes "end 1 1 0" ∷ [])
unfolding output_on_literals
not_confirmable = refl

-- the first Message ID of the first worker
--     in 0 1 192.0.2.10:5683: NON 0.02 m=0042 t=a9 [11 rd][15 ep=z]
--     go 0 2
-- gives
--     out 0 192.0.2.10:5683: NON 2.01 m=0000 t=a9 [8 rd][8 1]
--     end 1 1 0
not_confirmable_at_the_first_worker : output 1 (lines (
    codes "in 0 1 192.0.2.10:5683 51020042a9b272644465703d7a"
    ∷ codes "go 0 2" ∷ []))
    ≡ writes (
    codes "out 0 192.0.2.10:5683 51410000a98272640131"
    ∷ codes "end 1 1 0" ∷ [])
unfolding output_on_literals
not_confirmable_at_the_first_worker = refl

-- refusals that a request alone decides
--     in 0 1 192.0.2.10:5683: CON 0.01 m=0001 [35 coap://x]
--     in 0 1 192.0.2.10:5683: CON 0.01 m=0002 [11 foo]
--     in 0 1 192.0.2.10:5683: CON 0.03 m=0003 [11 rd]
--     in 0 1 192.0.2.10:5683: CON 0.01 m=0004 [11 rd-lookup][11 res][23 x07]
--     in 0 1 192.0.2.10:5683: CON 0.01 m=0005 [11 rd-lookup][11 res][17 x32]
--     in 0 1 192.0.2.10:5683: CON 0.02 m=0006 [11 rd][12 x32][15 ep=a]
--     in 0 1 192.0.2.10:5683: CON 0.02 m=0007 [11 rd]
--     in 0 1 192.0.2.10:5683: CON 0.02 m=0008 [11 rd][11 1] | x
-- gives
--     out 0 192.0.2.10:5683: ACK 5.05 m=0001 | proxy
--     out 0 192.0.2.10:5683: ACK 4.04 m=0002 | path
--     out 0 192.0.2.10:5683: ACK 4.05 m=0003 | method
--     out 0 192.0.2.10:5683: ACK 4.00 m=0004 | block
--     out 0 192.0.2.10:5683: ACK 4.06 m=0005 | accept
--     out 0 192.0.2.10:5683: ACK 4.15 m=0006 | format
--     out 0 192.0.2.10:5683: ACK 4.00 m=0007 | query
--     out 0 192.0.2.10:5683: ACK 4.00 m=0008 | payload
--     end 0 0 0
refused_requests : output 1 (lines (
    codes "in 0 1 192.0.2.10:5683 40010001d816636f61703a2f2f78"
    ∷ codes "in 0 1 192.0.2.10:5683 40010002b3666f6f"
    ∷ codes "in 0 1 192.0.2.10:5683 40030003b27264"
    ∷ codes "in 0 1 192.0.2.10:5683 40010004b972642d6c6f6f6b757003726573c107"
    ∷ codes "in 0 1 192.0.2.10:5683 40010005b972642d6c6f6f6b7570037265736132"
    ∷ codes "in 0 1 192.0.2.10:5683 40020006b2726411323465703d61"
    ∷ codes "in 0 1 192.0.2.10:5683 40020007b27264"
    ∷ codes "in 0 1 192.0.2.10:5683 40020008b272640131ff78" ∷ []))
    ≡ writes (
    codes "out 0 192.0.2.10:5683 60a50001ff70726f7879"
    ∷ codes "out 0 192.0.2.10:5683 60840002ff70617468"
    ∷ codes "out 0 192.0.2.10:5683 60850003ff6d6574686f64"
    ∷ codes "out 0 192.0.2.10:5683 60800004ff626c6f636b"
    ∷ codes "out 0 192.0.2.10:5683 60860005ff616363657074"
    ∷ codes "out 0 192.0.2.10:5683 608f0006ff666f726d6174"
    ∷ codes "out 0 192.0.2.10:5683 60800007ff7175657279"
    ∷ codes "out 0 192.0.2.10:5683 60800008ff7061796c6f6164"
    ∷ codes "end 0 0 0" ∷ [])
unfolding output_on_literals
refused_requests = refl

-- datagrams that are no message, or that are rejected
--     in 0 1 192.0.2.10:5683: BAD Format 49011234
--     in 0 1 192.0.2.10:5683: BAD Format 50011235ff
--     in 0 1 192.0.2.10:5683: BAD Version 80010001
--     in 0 1 192.0.2.10:5683: CON 0.01 m=1236 [9 x]
--     in 0 1 192.0.2.10:5683: NON 0.01 m=1237 [9 x]
--     in 0 1 192.0.2.10:5683: CON 0.00 m=1238
--     in 0 1 192.0.2.10:5683 -
-- gives
--     out 0 192.0.2.10:5683: RST 0.00 m=1234
--     out 0 192.0.2.10:5683: ACK 4.02 m=1236 | option
--     out 0 192.0.2.10:5683: RST 0.00 m=1238
--     end 0 0 0
malformed : output 1 (lines (
    codes "in 0 1 192.0.2.10:5683 49011234"
    ∷ codes "in 0 1 192.0.2.10:5683 50011235ff"
    ∷ codes "in 0 1 192.0.2.10:5683 80010001"
    ∷ codes "in 0 1 192.0.2.10:5683 4001123690"
    ∷ codes "in 0 1 192.0.2.10:5683 5001123790"
    ∷ codes "in 0 1 192.0.2.10:5683 40001238"
    ∷ codes "in 0 1 192.0.2.10:5683 -" ∷ []))
    ≡ writes (
    codes "out 0 192.0.2.10:5683 70001234"
    ∷ codes "out 0 192.0.2.10:5683 60821236ff6f7074696f6e"
    ∷ codes "out 0 192.0.2.10:5683 70001238"
    ∷ codes "end 0 0 0" ∷ [])
unfolding output_on_literals
malformed = refl
