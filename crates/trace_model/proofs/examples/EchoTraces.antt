-- Traces of challenges (RFC 9175 section 2.3). Beside each the datagrams are shown, and what a step
-- writes stands below its line.
use Rattle.std.proofs.Common.{◌≡◌, List, ℕ, [], ◌∷◌, ◌++◌, map, codes, refl}
use Rattle.trace_model.specs.Output.{output}
use Rattle.trace_model.proofs.OnLiterals.{output_on_literals}
use Rattle.trace_model.proofs.OutputLines.{lines, writes, step_by_step}

-- a simple registration: CON 0.02 m=0005 t=e1 [11 .well-known][11 rd][15 ep=s1]
abbrev simple : List ℕ
simple = codes "41020005e1bb2e77656c6c2d6b6e6f776e0272644565703d7331"

-- one with a value: CON 0.02 m=0006 t=e1 [11 .well-known][11 rd][15 ep=s1][252 x0000000700000000]
abbrev with_value : List ℕ
with_value = codes "41020006e1bb2e77656c6c2d6b6e6f776e0272644565703d7331d8e00000000700000000"

-- a device is challenged by its word and the number of challenges before
--     in 0 1000 192.0.2.10:5683, word 7: CON 0.02 m=0005 t=e1 [11 .well-known][11 rd][15 ep=s1]
--         out 0 192.0.2.10:5683: ACK 4.01 m=0005 t=e1 [252 x0000000700000000]
abbrev asks : List (List ℕ)
asks = (codes "in 0 1000 192.0.2.10:5683 " ++ (simple ++ codes " 7")) ∷ []

abbrev challenged : List (List ℕ)
challenged = codes "out 0 192.0.2.10:5683 61810005e1d8ef0000000700000000" ∷ []

-- no job is left: a worker that goes on makes no step, and so there is no row for it
no_job : step_by_step 1 (asks ++ codes "go 0 1001" ∷ [])
    ≡ map lines (challenged ∷ (codes "end 0 0 0" ∷ []) ∷ [])
unfolding output_on_literals
no_job = refl

-- with the value the device is answered and asked for its list
--     in 0 1002 192.0.2.10:5683: CON 0.02 m=0006 t=e1 [11 .well-known][11 rd][15 ep=s1][252
-- x0000000700000000]
--     go 0 1002
--         out 0 192.0.2.10:5683: ACK 2.04 m=0006 t=e1
--         out 0 192.0.2.10:5683: CON 0.01 m=0000 t=0000000000000001 [11 .well-known][11 core]
answers : step_by_step 1 (asks ++ (
    (codes "in 0 1002 192.0.2.10:5683 " ++ with_value)
    ∷ codes "go 0 1002" ∷ []))
    ≡ map lines (
    challenged
    ∷ []
    ∷ (codes "out 0 192.0.2.10:5683 61440006e1"
    ∷ codes "out 0 192.0.2.10:5683 480100000000000000000001bb2e77656c6c2d6b6e6f776e04636f7265"
    ∷ [])
    ∷ (codes "end 0 0 0" ∷ []) ∷ [])
unfolding output_on_literals
answers = refl

-- from another peer it is no answer: that one is challenged by the next value, its word being 0
--     in 0 1002 192.0.2.20:61616: CON 0.02 m=0006 t=e1 [11 .well-known][11 rd][15 ep=s1][252
-- x0000000700000000]
--         out 0 192.0.2.20:61616: ACK 4.01 m=0006 t=e1 [252 x0000000000000001]
another_peer : output 1 (lines (asks ++ (
    (codes "in 0 1002 192.0.2.20:61616 " ++ with_value) ∷ [])))
    ≡ writes (challenged ++ (
    codes "out 0 192.0.2.20:61616 61810006e1d8ef0000000000000001" ∷ codes "end 0 0 0" ∷ []))
unfolding output_on_literals
another_peer = refl

-- a value is good for less than 247 seconds
young : output 1 (lines (asks ++ (
    (codes "in 0 247999 192.0.2.10:5683 " ++ with_value) ∷ [])))
    ≡ writes (challenged ++ codes "end 0 0 0" ∷ [])
unfolding output_on_literals
young = refl

old : output 1 (lines (asks ++ (
    (codes "in 0 248000 192.0.2.10:5683 " ++ with_value) ∷ [])))
    ≡ writes (challenged ++ (
    codes "out 0 192.0.2.10:5683 61810006e1d8ef0000000000000001" ∷ codes "end 0 0 0" ∷ []))
unfolding output_on_literals
old = refl

-- of two challenges the later alone is good
earlier : output 1 (lines (asks ++ (
    codes "in 0 1001 192.0.2.10:5683 41020007e1bb2e77656c6c2d6b6e6f776e0272644565703d7331"
    ∷ (codes "in 0 1002 192.0.2.10:5683 " ++ with_value) ∷ [])))
    ≡ writes (challenged ++ (
    codes "out 0 192.0.2.10:5683 61810007e1d8ef0000000000000001"
    ∷ codes "out 0 192.0.2.10:5683 61810006e1d8ef0000000000000002"
    ∷ codes "end 0 0 0" ∷ []))
unfolding output_on_literals
earlier = refl

-- a challenge is not kept: under the same Message ID the request is challenged anew
not_kept : output 1 (lines (asks ++ (codes "in 0 1001 192.0.2.10:5683 " ++ simple) ∷ []))
    ≡ writes (challenged ++ (
    codes "out 0 192.0.2.10:5683 61810005e1d8ef0000000000000001" ∷ codes "end 0 0 0" ∷ []))
unfolding output_on_literals
not_kept = refl

-- a repeat of one that was admitted gets its kept reply, with no Echo and with any, also with a
-- value that is too old by then, and is not challenged
repeated : output 1 (lines (asks ++ (
    (codes "in 0 1002 192.0.2.10:5683 " ++ with_value)
    ∷ codes "go 0 1002"
    ∷ codes "in 0 1003 192.0.2.10:5683 41020006e1bb2e77656c6c2d6b6e6f776e0272644565703d7331"
    ∷ (codes "in 0 248000 192.0.2.10:5683 " ++ with_value) ∷ [])))
    ≡ writes (challenged ++ (
    codes "out 0 192.0.2.10:5683 61440006e1"
    ∷ codes "out 0 192.0.2.10:5683 480100000000000000000001bb2e77656c6c2d6b6e6f776e04636f7265"
    ∷ codes "out 0 192.0.2.10:5683 61440006e1"
    ∷ codes "out 0 192.0.2.10:5683 61440006e1"
    ∷ codes "end 0 0 0" ∷ []))
unfolding output_on_literals
repeated = refl

-- what is not confirmable is challenged under the next Message ID of its worker
--     in 1 1000 192.0.2.10:5683, word 7: NON 0.02 m=0005 t=e1 [11 .well-known][11 rd][15 ep=s1]
--         out 1 192.0.2.10:5683: NON 4.01 m=1000 t=e1 [252 x0000000700000000]
not_confirmable : output 2 (lines (
    codes "in 1 1000 192.0.2.10:5683 51020005e1bb2e77656c6c2d6b6e6f776e0272644565703d7331 7"
    ∷ []))
    ≡ writes (
    codes "out 1 192.0.2.10:5683 51811000e1d8ef0000000700000000" ∷ codes "end 0 0 0" ∷ [])
unfolding output_on_literals
not_confirmable = refl

-- what is refused for itself is refused before it is challenged: with a payload, 4.00 `payload`
refused_before : output 1 (lines (
    codes "in 0 1000 192.0.2.10:5683 41020005e1bb2e77656c6c2d6b6e6f776e0272644565703d7331ff78 7"
    ∷ []))
    ≡ writes (
    codes "out 0 192.0.2.10:5683 61800005e1ff7061796c6f6164" ∷ codes "end 0 0 0" ∷ [])
unfolding output_on_literals
refused_before = refl
