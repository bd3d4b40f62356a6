-- A registration that many tests make.
use Rattle.std.specs.Prelude.{ℕ, [], ◌∷◌, None, codes}
use Rattle.rd_base.specs.declared.parameters.RegParams.{RegParams}
use Rattle.rd_base.specs.declared.peers.Peer.{Peer}
use Rattle.rd_base.specs.declared.peers.Host.TheVariants.{V4}
use Rattle.history_model.specs.declared.entries.Change.TheVariants.{Register}
use Rattle.history_model.specs.declared.entries.Entry.{Entry}

-- The peer of the registration.
abbrev pub sample_peer : Peer
sample_peer = record { host = V4 (192 ∷ 0 ∷ 2 ∷ 10 ∷ []); port = 5683 }

-- The parameters of the registration, which has no links.
abbrev pub sample_params : RegParams
sample_params = record {
  name = record { ep = codes "node"; sector = None };
  lt = 600;
  base = None;
  attrs = [];
}

-- Returns the entry of the registration at a moment.
abbrev pub sample_entry : ℕ → Entry
sample_entry moment = record {
  moment = record { 0 = moment };
  worker = 0;
  peer = sample_peer;
  change = Register sample_params [];
}
