-- Traces with a bad line.
use Rattle.std.proofs.Common.{◌≡◌, [], ◌∷◌, codes, refl}
use Rattle.line_model.specs.declared.lines.Reason.TheVariants as reason
use Rattle.trace_model.specs.Output.{output}
use Rattle.trace_model.proofs.OnLiterals.{output_on_literals}
use Rattle.trace_model.proofs.OutputLines.{lines, stops_at}

-- a line of no form
bad_form : output 1 (lines (
    codes "in 0 10" ∷ []))
    ≡ stops_at 1 reason.Form ([])
unfolding output_on_literals
bad_form = refl

-- a worker that there is not
bad_worker : output 2 (lines (
    codes "tick 3 5" ∷ []))
    ≡ stops_at 1 reason.Worker ([])
unfolding output_on_literals
bad_worker = refl

-- a datagram for a worker that holds a job
--     in 0 1 192.0.2.10:5683: CON 0.02 m=0001 t=a1 [11 rd][12 x28][15 ep=node1][15 lt=600] |
-- </temp>;rt="temperature";ct=0,</light>;rt="light-lux";if="sensor"
--     in 0 1 192.0.2.10:5683: CON 0.02 m=0001 t=a1 [11 rd][12 x28][15 ep=node1][15 lt=600] |
-- </temp>;rt="temperature";ct=0,</light>;rt="light-lux";if="sensor"
-- gives
bad_busy : output 1 (lines (
    codes
    "in 0 1 192.0.2.10:5683 41020001a1b2726411283865703d6e6f646531066c743d363030ff3c2f74656d703e3b72743d2274656d7065726174757265223b63743d302c3c2f6c696768743e3b72743d226c696768742d6c7578223b69663d2273656e736f7222"
    ∷ codes
    "in 0 1 192.0.2.10:5683 41020001a1b2726411283865703d6e6f646531066c743d363030ff3c2f74656d703e3b72743d2274656d7065726174757265223b63743d302c3c2f6c696768743e3b72743d226c696768742d6c7578223b69663d2273656e736f7222"
    ∷ []))
    ≡ stops_at 2 reason.Busy ([])
unfolding output_on_literals
bad_busy = refl
