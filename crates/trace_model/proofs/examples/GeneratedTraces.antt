-- Make runs, computed: the trace of one device, and that of ten.
use Rattle.std.proofs.Common.{◌≡◌, [], ◌∷◌, codes, refl}
use Rattle.line_model.specs.Generator.{generated}
use Rattle.trace_model.specs.Output.{output}
use Rattle.trace_model.specs.Made.{made_output}
use Rattle.trace_model.proofs.OnLiterals.{output_on_literals}
use Rattle.trace_model.proofs.OutputLines.{lines, writes}

-- one device
made_one : made_output 1 1 ≡ lines (
    codes "made 3"
    ∷ codes "sent 1 10"
    ∷ codes "end 1 1 0" ∷ [])
unfolding output_on_literals
made_one = refl

-- ten devices and two workers
made_ten : made_output 10 2 ≡ lines (
    codes "made 22"
    ∷ codes "sent 11 185"
    ∷ codes "end 10 10 1" ∷ [])
unfolding output_on_literals
made_ten = refl

-- what the trace of ten devices writes: no worker is busy, and the observer gets its first listing
-- at once
--     CON 0.01 m=4e2a t=000a [6 x][11 rd-lookup][11 res][15 rt=kind3]
-- gives
--     ACK 2.05 m=4e2a t=000a [4 x00000000000a0000][6 x01][12 x28] |
-- <coap://10.0.0.3/s3>;rt="kind3",<coap://10.0.0.10/s0>;rt="kind3"
ten_devices : output 2 (generated 10 2) ≡ writes (
    codes "out 1 10.0.0.1:5683 61410001018272640131"
    ∷ codes "out 0 10.0.0.2:5683 61410002028272640132"
    ∷ codes "out 1 10.0.0.3:5683 61410003038272640133"
    ∷ codes "out 0 10.0.0.4:5683 61410004048272640134"
    ∷ codes "out 1 10.0.0.5:5683 61410005058272640135"
    ∷ codes "out 0 10.0.0.6:5683 61410006068272640136"
    ∷ codes "out 1 10.0.0.7:5683 61410007078272640137"
    ∷ codes "out 0 10.0.0.8:5683 61410008088272640138"
    ∷ codes "out 1 10.0.0.9:5683 61410009098272640139"
    ∷ codes "out 0 10.0.0.10:5683 6141000a0a827264023130"
    ∷ codes
    "out 0 10.1.0.1:40000 62454e2a000a4800000000000a000021016128ff3c636f61703a2f2f31302e302e302e332f73333e3b72743d226b696e6433222c3c636f61703a2f2f31302e302e302e31302f73303e3b72743d226b696e643322"
    ∷ codes "end 10 10 1" ∷ [])
unfolding output_on_literals
ten_devices = refl
