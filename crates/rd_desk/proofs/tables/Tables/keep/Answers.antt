use Rattle.rd_desk.specs.calls.Stepping.{is_starved_step}
use Rattle.rd_desk.proofs.parts.KeepLaws.{keep_made}
use Rattle.rd_desk.proofs.tables.Tables.keep.Goals as goal

pub returns : goal.returns
returns c = record {
  made = λ rows s kind by datagram call.
      keep_made rows s (is_starved_step c.keep_listing.result) c.args.now c.args.job c.args.self.now
      c.keep_listing.new.self c.keep_listing.new.out c.args.mids.now c.keep_listing.new.mids
      kind datagram call
      (c.keep_listing.ensures.way rows s by
      (c.pass.ensures.way rows s (is_starved_step c.keep_listing.result) c.args.out.now
      c.args.mids.now c.requires.empty call));
}
