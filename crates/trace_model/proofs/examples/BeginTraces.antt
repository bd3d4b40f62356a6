-- Traces in which a run begins above a number. Beside each the datagrams are shown: type, code,
-- Message ID, token, options, payload.
use Rattle.std.proofs.Common.{◌≡◌, [], ◌∷◌, codes, refl}
use Rattle.trace_model.specs.Output.{output}
use Rattle.trace_model.proofs.OnLiterals.{output_on_literals}
use Rattle.trace_model.proofs.OutputLines.{lines, writes}

-- a run begins at 1700000000000 milliseconds: a location and an entity tag from an earlier run are
-- none of it, and the tag counts the beginning and the registration
--     begin 0 0 1700000000000
--     in 0 0 192.0.2.10:5683: CON 0.02 m=0001 t=a1 [11 rd][15 ep=n] | </l>
--     go 0 0
--     in 0 0 192.0.2.11:5683: CON 0.02 m=0002 t=a2 [11 rd][11 7]
--     go 0 0
--     in 0 0 192.0.2.30:40000: CON 0.01 m=0003 t=a3 [4 x0000000000010000][11 rd-lookup][11 res]
-- gives
--     out 0 192.0.2.10:5683: ACK 2.01 m=0001 t=a1 [8 rd][8 1700000000001]
--     out 0 192.0.2.11:5683: ACK 4.04 m=0002 t=a2 | registration
--     out 0 192.0.2.30:40000: ACK 2.05 m=0003 t=a3 [4 x018bcfe568020000][12 x28] |
-- <coap://192.0.2.10/l>
--     end 1700000000002 1 0
begins_first : output 1 (lines (
    codes "begin 0 0 1700000000000"
    ∷ codes "in 0 0 192.0.2.10:5683 41020001a1b272644465703d6eff3c2f6c3e"
    ∷ codes "go 0 0"
    ∷ codes "in 0 0 192.0.2.11:5683 41020002a2b272640137"
    ∷ codes "go 0 0"
    ∷ codes
    "in 0 0 192.0.2.30:40000 41010003a34800000000000100007972642d6c6f6f6b757003726573"
    ∷ []))
    ≡ writes (
    codes "out 0 192.0.2.10:5683 61410001a18272640d0031373030303030303030303031"
    ∷ codes "out 0 192.0.2.11:5683 61840002a2ff726567697374726174696f6e"
    ∷ codes
    "out 0 192.0.2.30:40000 61450003a348018bcfe5680200008128ff3c636f61703a2f2f3139322e302e322e31302f6c3e"
    ∷ codes "end 1700000000002 1 0" ∷ [])
unfolding output_on_literals
begins_first = refl

-- midway a beginning lifts the numbers that are given after it, and leaves what is registered; the
-- worker that holds a job keeps it
--     in 0 0 192.0.2.10:5683: CON 0.02 m=0001 t=a1 [11 rd][15 ep=n] | </l>
--     go 0 0
--     in 0 0 192.0.2.11:5683: CON 0.02 m=0002 t=a2 [11 rd][15 ep=m] | </l>
--     begin 0 5 7
--     go 0 5
--     in 0 5 192.0.2.10:5683: CON 0.02 m=0003 t=a3 [11 rd][11 1]
--     go 0 5
-- gives
--     out 0 192.0.2.10:5683: ACK 2.01 m=0001 t=a1 [8 rd][8 1]
--     out 0 192.0.2.11:5683: ACK 2.01 m=0002 t=a2 [8 rd][8 8]
--     out 0 192.0.2.10:5683: ACK 2.04 m=0003 t=a3
--     end 10 2 0
begins_midway : output 1 (lines (
    codes "in 0 0 192.0.2.10:5683 41020001a1b272644465703d6eff3c2f6c3e"
    ∷ codes "go 0 0"
    ∷ codes "in 0 0 192.0.2.11:5683 41020002a2b272644465703d6dff3c2f6c3e"
    ∷ codes "begin 0 5 7"
    ∷ codes "go 0 5"
    ∷ codes "in 0 5 192.0.2.10:5683 41020003a3b272640131"
    ∷ codes "go 0 5" ∷ []))
    ≡ writes (
    codes "out 0 192.0.2.10:5683 61410001a18272640131"
    ∷ codes "out 0 192.0.2.11:5683 61410002a28272640138"
    ∷ codes "out 0 192.0.2.10:5683 61440003a3"
    ∷ codes "end 10 2 0" ∷ [])
unfolding output_on_literals
begins_midway = refl

-- a second beginning, above a lower number, is a change like any other: it lifts nothing
--     begin 0 0 10
--     begin 0 0 5
--     in 0 0 192.0.2.10:5683: CON 0.02 m=0001 t=a1 [11 rd][15 ep=n] | </l>
--     go 0 0
-- gives
--     out 0 192.0.2.10:5683: ACK 2.01 m=0001 t=a1 [8 rd][8 11]
--     end 13 1 0
begins_twice : output 1 (lines (
    codes "begin 0 0 10"
    ∷ codes "begin 0 0 5"
    ∷ codes "in 0 0 192.0.2.10:5683 41020001a1b272644465703d6eff3c2f6c3e"
    ∷ codes "go 0 0" ∷ []))
    ≡ writes (
    codes "out 0 192.0.2.10:5683 61410001a1827264023131"
    ∷ codes "end 13 1 0" ∷ [])
unfolding output_on_literals
begins_twice = refl

-- above the greatest number that is counted a run cannot begin, and nothing is done
--     begin 0 0 281474976710655
--     in 0 0 192.0.2.10:5683: CON 0.02 m=0001 t=a1 [11 rd][15 ep=n] | </l>
--     go 0 0
-- gives
--     out 0 192.0.2.10:5683: ACK 2.01 m=0001 t=a1 [8 rd][8 1]
--     end 1 1 0
begins_at_the_last : output 1 (lines (
    codes "begin 0 0 281474976710655"
    ∷ codes "in 0 0 192.0.2.10:5683 41020001a1b272644465703d6eff3c2f6c3e"
    ∷ codes "go 0 0" ∷ []))
    ≡ writes (
    codes "out 0 192.0.2.10:5683 61410001a18272640131"
    ∷ codes "end 1 1 0" ∷ [])
unfolding output_on_literals
begins_at_the_last = refl

-- one below, it begins, and no change is accepted any more
--     begin 0 0 281474976710654
--     in 0 0 192.0.2.10:5683: CON 0.02 m=0001 t=a1 [11 rd][15 ep=n] | </l>
--     go 0 0
-- gives
--     out 0 192.0.2.10:5683: ACK 5.03 m=0001 t=a1 | entries
--     end 281474976710655 0 0
begins_before_the_last : output 1 (lines (
    codes "begin 0 0 281474976710654"
    ∷ codes "in 0 0 192.0.2.10:5683 41020001a1b272644465703d6eff3c2f6c3e"
    ∷ codes "go 0 0" ∷ []))
    ≡ writes (
    codes "out 0 192.0.2.10:5683 61a30001a1ff656e7472696573"
    ∷ codes "end 281474976710655 0 0" ∷ [])
unfolding output_on_literals
begins_before_the_last = refl
