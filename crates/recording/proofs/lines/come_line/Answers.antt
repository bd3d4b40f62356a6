-- The line is one that a trace may have.
use Rattle.std.proofs.Common.{arith, ◌≡◌, ◌≤◌, ℕ, List, length, subst, sym}
use Rattle.hex.specs.Hex.{IsBytes}
use Rattle.line_model.specs.Lines.{come}
use Rattle.line_model.specs.Datagrams.{max_datagram}
use Rattle.recording.proofs.lines.come_line.Goals as goal

-- a copy of octets that fit is as long, and fits too
copied : (octets copy : List ℕ) → copy ≡ octets → length octets ≤ max_datagram → IsBytes octets
    → (length copy ≤ max_datagram) × IsBytes copy
copied octets copy same short fits =
    let P : List ℕ → Type 0 = λ xs. (length xs ≤ max_datagram) × IsBytes xs in
    subst P (sym same) (short, fits)

pub returns : goal.returns
returns c =
    let octets = c.args.payload.now in
    let fits : IsBytes octets = λ k. omega (arith, c.type_inv.payload k) in
    let both =
    copied octets c.in_ok-datagram.datagram c.in_ok-datagram.ensures c.requires.payload fits in
    come (omega arith) (omega arith) c.requires.peer both.0 both.1 (omega arith)
