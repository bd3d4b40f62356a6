use Rattle.std.proofs.Common.{◌≡◌, length, vec_len}
use Rattle.rd_host.proofs.doorways_at.Given as goal

-- Each socket so far has an address.
abbrev pub invariant-addresses : goal.invariant-addresses
invariant-addresses l = length l.tcp ≡ vec_len l.doorways
