-- Traces of simple registrations. Beside each the datagrams are shown: type, code, Message ID,
-- token, options, payload.
use Rattle.std.proofs.Common.{◌≡◌, [], ◌∷◌, codes, refl}
use Rattle.trace_model.specs.Output.{output}
use Rattle.trace_model.proofs.OnLiterals.{output_on_literals}
use Rattle.trace_model.proofs.OutputLines.{lines, writes}

-- a device has its list fetched in two blocks
--     in 0 999 192.0.2.10:5683, word 7: CON 0.02 m=0004 t=e1 [11 .well-known][11 rd][15 ep=s1]
--     in 0 1000 192.0.2.10:5683: CON 0.02 m=0005 t=e1 [11 .well-known][11 rd][15 ep=s1][252
-- x0000000700000000]
--     go 0 1000
--     in 0 1001 192.0.2.10:5683: ACK 0.00 m=0000
--     in 0 1002 192.0.2.10:5683: CON 2.05 m=0777 t=0000000000000001 [4 xaa][12 x28][23 x08] |
-- </a>;rt="0123456
--     in 0 1003 192.0.2.10:5683: ACK 2.05 m=0001 t=0000000000000001 [4 xaa][12 x28][23 x10] | "
--     in 0 1004 192.0.2.30:40000: CON 0.01 m=0002 [11 rd-lookup][11 res][15 ep=s1]
-- gives
--     out 0 192.0.2.10:5683: ACK 4.01 m=0004 t=e1 [252 x0000000700000000]
--     out 0 192.0.2.10:5683: ACK 2.04 m=0005 t=e1
--     out 0 192.0.2.10:5683: CON 0.01 m=0000 t=0000000000000001 [11 .well-known][11 core]
--     out 0 192.0.2.10:5683: ACK 0.00 m=0777
--     out 0 192.0.2.10:5683: CON 0.01 m=0001 t=0000000000000001 [11 .well-known][11 core][23 x10]
--     out 0 192.0.2.30:40000: ACK 2.05 m=0002 [4 x0000000000010000][12 x28] |
-- <coap://192.0.2.10/a>;rt="0123456"
--     end 1 1 0
fetched : output 1 (lines (
    codes "in 0 999 192.0.2.10:5683 41020004e1bb2e77656c6c2d6b6e6f776e0272644565703d7331 7"
    ∷ codes
    "in 0 1000 192.0.2.10:5683 41020005e1bb2e77656c6c2d6b6e6f776e0272644565703d7331d8e00000000700000000"
    ∷ codes "go 0 1000"
    ∷ codes "in 0 1001 192.0.2.10:5683 60000000"
    ∷ codes
    "in 0 1002 192.0.2.10:5683 48450777000000000000000141aa8128b108ff3c2f613e3b72743d2230313233343536"
    ∷ codes "in 0 1003 192.0.2.10:5683 68450001000000000000000141aa8128b110ff22"
    ∷ codes "in 0 1004 192.0.2.30:40000 40010002b972642d6c6f6f6b7570037265734565703d7331" ∷ []))
    ≡ writes (
    codes "out 0 192.0.2.10:5683 61810004e1d8ef0000000700000000"
    ∷ codes "out 0 192.0.2.10:5683 61440005e1"
    ∷ codes "out 0 192.0.2.10:5683 480100000000000000000001bb2e77656c6c2d6b6e6f776e04636f7265"
    ∷ codes "out 0 192.0.2.10:5683 60000777"
    ∷ codes "out 0 192.0.2.10:5683 480100010000000000000001bb2e77656c6c2d6b6e6f776e04636f7265c110"
    ∷ codes
    "out 0 192.0.2.30:40000 604500024800000000000100008128ff3c636f61703a2f2f3139322e302e322e31302f613e3b72743d223031323334353622"
    ∷ codes "end 1 1 0" ∷ [])
unfolding output_on_literals
fetched = refl

-- the second block has another tag: no registration
--     in 0 999 192.0.2.10:5683, word 7: CON 0.02 m=0004 t=e1 [11 .well-known][11 rd][15 ep=s1]
--     in 0 1000 192.0.2.10:5683: CON 0.02 m=0005 t=e1 [11 .well-known][11 rd][15 ep=s1][252
-- x0000000700000000]
--     go 0 1000
--     in 0 1001 192.0.2.10:5683: ACK 0.00 m=0000
--     in 0 1002 192.0.2.10:5683: CON 2.05 m=0777 t=0000000000000001 [4 xaa][12 x28][23 x08] |
-- </a>;rt="0123456
--     in 0 1003 192.0.2.10:5683: ACK 2.05 m=0001 t=0000000000000001 [4 xbb][12 x28][23 x10] | "
-- gives
--     out 0 192.0.2.10:5683: ACK 4.01 m=0004 t=e1 [252 x0000000700000000]
--     out 0 192.0.2.10:5683: ACK 2.04 m=0005 t=e1
--     out 0 192.0.2.10:5683: CON 0.01 m=0000 t=0000000000000001 [11 .well-known][11 core]
--     out 0 192.0.2.10:5683: ACK 0.00 m=0777
--     out 0 192.0.2.10:5683: CON 0.01 m=0001 t=0000000000000001 [11 .well-known][11 core][23 x10]
--     end 0 0 0
other_tag : output 1 (lines (
    codes "in 0 999 192.0.2.10:5683 41020004e1bb2e77656c6c2d6b6e6f776e0272644565703d7331 7"
    ∷ codes
    "in 0 1000 192.0.2.10:5683 41020005e1bb2e77656c6c2d6b6e6f776e0272644565703d7331d8e00000000700000000"
    ∷ codes "go 0 1000"
    ∷ codes "in 0 1001 192.0.2.10:5683 60000000"
    ∷ codes
    "in 0 1002 192.0.2.10:5683 48450777000000000000000141aa8128b108ff3c2f613e3b72743d2230313233343536"
    ∷ codes "in 0 1003 192.0.2.10:5683 68450001000000000000000141bb8128b110ff22" ∷ []))
    ≡ writes (
    codes "out 0 192.0.2.10:5683 61810004e1d8ef0000000700000000"
    ∷ codes "out 0 192.0.2.10:5683 61440005e1"
    ∷ codes "out 0 192.0.2.10:5683 480100000000000000000001bb2e77656c6c2d6b6e6f776e04636f7265"
    ∷ codes "out 0 192.0.2.10:5683 60000777"
    ∷ codes "out 0 192.0.2.10:5683 480100010000000000000001bb2e77656c6c2d6b6e6f776e04636f7265c110"
    ∷ codes "end 0 0 0" ∷ [])
unfolding output_on_literals
other_tag = refl

-- a device whose fetch runs is refused another
--     in 0 999 192.0.2.10:5683, word 7: CON 0.02 m=0004 t=e1 [11 .well-known][11 rd][15 ep=s1]
--     in 0 1000 192.0.2.10:5683: CON 0.02 m=0005 t=e1 [11 .well-known][11 rd][15 ep=s1][252
-- x0000000700000000]
--     go 0 1000
--     in 0 1001 192.0.2.10:5683: CON 0.02 m=0006 t=e1 [11 .well-known][11 rd][15 ep=s1][252
-- x0000000700000000]
--     go 0 1001
-- gives
--     out 0 192.0.2.10:5683: ACK 4.01 m=0004 t=e1 [252 x0000000700000000]
--     out 0 192.0.2.10:5683: ACK 2.04 m=0005 t=e1
--     out 0 192.0.2.10:5683: CON 0.01 m=0000 t=0000000000000001 [11 .well-known][11 core]
--     out 0 192.0.2.10:5683: ACK 5.03 m=0006 t=e1 | fetching
--     end 0 0 0
refused_while_fetching : output 1 (lines (
    codes "in 0 999 192.0.2.10:5683 41020004e1bb2e77656c6c2d6b6e6f776e0272644565703d7331 7"
    ∷ codes
    "in 0 1000 192.0.2.10:5683 41020005e1bb2e77656c6c2d6b6e6f776e0272644565703d7331d8e00000000700000000"
    ∷ codes "go 0 1000"
    ∷ codes
    "in 0 1001 192.0.2.10:5683 41020006e1bb2e77656c6c2d6b6e6f776e0272644565703d7331d8e00000000700000000"
    ∷ codes "go 0 1001" ∷ []))
    ≡ writes (
    codes "out 0 192.0.2.10:5683 61810004e1d8ef0000000700000000"
    ∷ codes "out 0 192.0.2.10:5683 61440005e1"
    ∷ codes "out 0 192.0.2.10:5683 480100000000000000000001bb2e77656c6c2d6b6e6f776e04636f7265"
    ∷ codes "out 0 192.0.2.10:5683 61a30006e1ff6665746368696e67"
    ∷ codes "end 0 0 0" ∷ [])
unfolding output_on_literals
refused_while_fetching = refl

-- the request is retransmitted four times, and then the fetch ends
--     in 0 999 192.0.2.10:5683, word 7: CON 0.02 m=0004 t=e1 [11 .well-known][11 rd][15 ep=s1]
--     in 0 1000 192.0.2.10:5683: CON 0.02 m=0005 t=e1 [11 .well-known][11 rd][15 ep=s1][252
-- x0000000700000000]
--     go 0 1000
--     tick 0 2999
--     tick 0 3000
--     tick 0 6999
--     tick 0 7000
--     tick 0 14999
--     tick 0 15000
--     tick 0 30999
--     tick 0 31000
--     tick 0 63000
-- gives
--     out 0 192.0.2.10:5683: ACK 4.01 m=0004 t=e1 [252 x0000000700000000]
--     out 0 192.0.2.10:5683: ACK 2.04 m=0005 t=e1
--     out 0 192.0.2.10:5683: CON 0.01 m=0000 t=0000000000000001 [11 .well-known][11 core]
--     out 0 192.0.2.10:5683: CON 0.01 m=0000 t=0000000000000001 [11 .well-known][11 core]
--     out 0 192.0.2.10:5683: CON 0.01 m=0000 t=0000000000000001 [11 .well-known][11 core]
--     out 0 192.0.2.10:5683: CON 0.01 m=0000 t=0000000000000001 [11 .well-known][11 core]
--     out 0 192.0.2.10:5683: CON 0.01 m=0000 t=0000000000000001 [11 .well-known][11 core]
--     end 0 0 0
never_answered : output 1 (lines (
    codes "in 0 999 192.0.2.10:5683 41020004e1bb2e77656c6c2d6b6e6f776e0272644565703d7331 7"
    ∷ codes
    "in 0 1000 192.0.2.10:5683 41020005e1bb2e77656c6c2d6b6e6f776e0272644565703d7331d8e00000000700000000"
    ∷ codes "go 0 1000"
    ∷ codes "tick 0 2999"
    ∷ codes "tick 0 3000"
    ∷ codes "tick 0 6999"
    ∷ codes "tick 0 7000"
    ∷ codes "tick 0 14999"
    ∷ codes "tick 0 15000"
    ∷ codes "tick 0 30999"
    ∷ codes "tick 0 31000"
    ∷ codes "tick 0 63000" ∷ []))
    ≡ writes (
    codes "out 0 192.0.2.10:5683 61810004e1d8ef0000000700000000"
    ∷ codes "out 0 192.0.2.10:5683 61440005e1"
    ∷ codes "out 0 192.0.2.10:5683 480100000000000000000001bb2e77656c6c2d6b6e6f776e04636f7265"
    ∷ codes "out 0 192.0.2.10:5683 480100000000000000000001bb2e77656c6c2d6b6e6f776e04636f7265"
    ∷ codes "out 0 192.0.2.10:5683 480100000000000000000001bb2e77656c6c2d6b6e6f776e04636f7265"
    ∷ codes "out 0 192.0.2.10:5683 480100000000000000000001bb2e77656c6c2d6b6e6f776e04636f7265"
    ∷ codes "out 0 192.0.2.10:5683 480100000000000000000001bb2e77656c6c2d6b6e6f776e04636f7265"
    ∷ codes "end 0 0 0" ∷ [])
unfolding output_on_literals
never_answered = refl

-- after the end of a fetch without an answer the device is fetched from anew
--     in 0 999 192.0.2.10:5683, word 7: CON 0.02 m=0004 t=e1 [11 .well-known][11 rd][15 ep=s1]
--     in 0 1000 192.0.2.10:5683: CON 0.02 m=0005 t=e1 [11 .well-known][11 rd][15 ep=s1][252
-- x0000000700000000]
--     go 0 1000
--     tick 0 3000
--     tick 0 7000
--     tick 0 15000
--     tick 0 31000
--     tick 0 63000
--     in 0 63001 192.0.2.10:5683: CON 0.02 m=0006 t=e1 [11 .well-known][11 rd][15 ep=s1][252
-- x0000000700000000]
--     go 0 63001
-- gives
--     out 0 192.0.2.10:5683: ACK 4.01 m=0004 t=e1 [252 x0000000700000000]
--     out 0 192.0.2.10:5683: ACK 2.04 m=0005 t=e1
--     out 0 192.0.2.10:5683: CON 0.01 m=0000 t=0000000000000001 [11 .well-known][11 core]
--     out 0 192.0.2.10:5683: CON 0.01 m=0000 t=0000000000000001 [11 .well-known][11 core]
--     out 0 192.0.2.10:5683: CON 0.01 m=0000 t=0000000000000001 [11 .well-known][11 core]
--     out 0 192.0.2.10:5683: CON 0.01 m=0000 t=0000000000000001 [11 .well-known][11 core]
--     out 0 192.0.2.10:5683: CON 0.01 m=0000 t=0000000000000001 [11 .well-known][11 core]
--     out 0 192.0.2.10:5683: ACK 2.04 m=0006 t=e1
--     out 0 192.0.2.10:5683: CON 0.01 m=0001 t=0000000000000002 [11 .well-known][11 core]
--     end 0 0 0
fetched_anew : output 1 (lines (
    codes "in 0 999 192.0.2.10:5683 41020004e1bb2e77656c6c2d6b6e6f776e0272644565703d7331 7"
    ∷ codes
    "in 0 1000 192.0.2.10:5683 41020005e1bb2e77656c6c2d6b6e6f776e0272644565703d7331d8e00000000700000000"
    ∷ codes "go 0 1000"
    ∷ codes "tick 0 3000"
    ∷ codes "tick 0 7000"
    ∷ codes "tick 0 15000"
    ∷ codes "tick 0 31000"
    ∷ codes "tick 0 63000"
    ∷ codes
    "in 0 63001 192.0.2.10:5683 41020006e1bb2e77656c6c2d6b6e6f776e0272644565703d7331d8e00000000700000000"
    ∷ codes "go 0 63001" ∷ []))
    ≡ writes (
    codes "out 0 192.0.2.10:5683 61810004e1d8ef0000000700000000"
    ∷ codes "out 0 192.0.2.10:5683 61440005e1"
    ∷ codes "out 0 192.0.2.10:5683 480100000000000000000001bb2e77656c6c2d6b6e6f776e04636f7265"
    ∷ codes "out 0 192.0.2.10:5683 480100000000000000000001bb2e77656c6c2d6b6e6f776e04636f7265"
    ∷ codes "out 0 192.0.2.10:5683 480100000000000000000001bb2e77656c6c2d6b6e6f776e04636f7265"
    ∷ codes "out 0 192.0.2.10:5683 480100000000000000000001bb2e77656c6c2d6b6e6f776e04636f7265"
    ∷ codes "out 0 192.0.2.10:5683 480100000000000000000001bb2e77656c6c2d6b6e6f776e04636f7265"
    ∷ codes "out 0 192.0.2.10:5683 61440006e1"
    ∷ codes "out 0 192.0.2.10:5683 480100010000000000000002bb2e77656c6c2d6b6e6f776e04636f7265"
    ∷ codes "end 0 0 0" ∷ [])
unfolding output_on_literals
fetched_anew = refl

-- another code than 2.05 ends the fetch
--     in 0 999 192.0.2.10:5683, word 7: CON 0.02 m=0004 t=e1 [11 .well-known][11 rd][15 ep=s1]
--     in 0 1000 192.0.2.10:5683: CON 0.02 m=0005 t=e1 [11 .well-known][11 rd][15 ep=s1][252
-- x0000000700000000]
--     go 0 1000
--     in 0 1001 192.0.2.10:5683: ACK 0.00 m=0000
--     in 0 1002 192.0.2.10:5683: CON 4.04 m=0777 t=0000000000000001 [4 xaa][12 x28][23 x08] |
-- </a>;rt="0123456
-- gives
--     out 0 192.0.2.10:5683: ACK 4.01 m=0004 t=e1 [252 x0000000700000000]
--     out 0 192.0.2.10:5683: ACK 2.04 m=0005 t=e1
--     out 0 192.0.2.10:5683: CON 0.01 m=0000 t=0000000000000001 [11 .well-known][11 core]
--     out 0 192.0.2.10:5683: ACK 0.00 m=0777
--     end 0 0 0
answered_by_an_error : output 1 (lines (
    codes "in 0 999 192.0.2.10:5683 41020004e1bb2e77656c6c2d6b6e6f776e0272644565703d7331 7"
    ∷ codes
    "in 0 1000 192.0.2.10:5683 41020005e1bb2e77656c6c2d6b6e6f776e0272644565703d7331d8e00000000700000000"
    ∷ codes "go 0 1000"
    ∷ codes "in 0 1001 192.0.2.10:5683 60000000"
    ∷ codes
    "in 0 1002 192.0.2.10:5683 48840777000000000000000141aa8128b108ff3c2f613e3b72743d2230313233343536"
    ∷ []))
    ≡ writes (
    codes "out 0 192.0.2.10:5683 61810004e1d8ef0000000700000000"
    ∷ codes "out 0 192.0.2.10:5683 61440005e1"
    ∷ codes "out 0 192.0.2.10:5683 480100000000000000000001bb2e77656c6c2d6b6e6f776e04636f7265"
    ∷ codes "out 0 192.0.2.10:5683 60000777"
    ∷ codes "end 0 0 0" ∷ [])
unfolding output_on_literals
answered_by_an_error = refl

-- responses with another token or from another peer
--     in 0 999 192.0.2.10:5683, word 7: CON 0.02 m=0004 t=e1 [11 .well-known][11 rd][15 ep=s1]
--     in 0 1000 192.0.2.10:5683: CON 0.02 m=0005 t=e1 [11 .well-known][11 rd][15 ep=s1][252
-- x0000000700000000]
--     go 0 1000
--     in 0 1001 192.0.2.10:5683: CON 2.05 m=0888 t=0000000000000002 [12 x28] | </a>
--     in 0 1001 192.0.2.20:61616: CON 2.05 m=0888 t=0000000000000001 [12 x28] | </a>
--     in 0 1001 192.0.2.20:61616: NON 2.05 m=0888 t=0000000000000001 [12 x28] | </a>
-- gives
--     out 0 192.0.2.10:5683: ACK 4.01 m=0004 t=e1 [252 x0000000700000000]
--     out 0 192.0.2.10:5683: ACK 2.04 m=0005 t=e1
--     out 0 192.0.2.10:5683: CON 0.01 m=0000 t=0000000000000001 [11 .well-known][11 core]
--     out 0 192.0.2.10:5683: RST 0.00 m=0888
--     out 0 192.0.2.20:61616: RST 0.00 m=0888
--     end 0 0 0
stranger_responses : output 1 (lines (
    codes "in 0 999 192.0.2.10:5683 41020004e1bb2e77656c6c2d6b6e6f776e0272644565703d7331 7"
    ∷ codes
    "in 0 1000 192.0.2.10:5683 41020005e1bb2e77656c6c2d6b6e6f776e0272644565703d7331d8e00000000700000000"
    ∷ codes "go 0 1000"
    ∷ codes "in 0 1001 192.0.2.10:5683 484508880000000000000002c128ff3c2f613e"
    ∷ codes "in 0 1001 192.0.2.20:61616 484508880000000000000001c128ff3c2f613e"
    ∷ codes "in 0 1001 192.0.2.20:61616 584508880000000000000001c128ff3c2f613e" ∷ []))
    ≡ writes (
    codes "out 0 192.0.2.10:5683 61810004e1d8ef0000000700000000"
    ∷ codes "out 0 192.0.2.10:5683 61440005e1"
    ∷ codes "out 0 192.0.2.10:5683 480100000000000000000001bb2e77656c6c2d6b6e6f776e04636f7265"
    ∷ codes "out 0 192.0.2.10:5683 70000888"
    ∷ codes "out 0 192.0.2.20:61616 70000888"
    ∷ codes "end 0 0 0" ∷ [])
unfolding output_on_literals
stranger_responses = refl
