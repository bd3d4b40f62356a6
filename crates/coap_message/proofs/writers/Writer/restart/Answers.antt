use Rattle.std.proofs.Common.{arith}
use Rattle.coap_message.proofs.WriterLemmas.{writes_bare}
use Rattle.coap_message.proofs.writers.Writer.restart.Goals as goal

pub invariant_of-self : goal.invariant_of-self
invariant_of-self c =
    let held =
    writes_bare c.put_header-self-inside.new.octets c.put_header-self-inside.result c.args.kind
    c.args.code c.args.mid c.args.token.octets.now
    c.put_header-self-inside.ensures.put c.ranges.code.fits c.ranges.mid.fits
    c.put_header-self-inside.ensures.bytes c.args.token.short c.requires.class c.requires.empty in
    record {
      short = omega (arith, c.put_header-self-inside.ensures.end, c.args.token.short);
      written = held.written;
    }

pub returns : goal.returns
returns c =
    let held =
    writes_bare c.put_header-self-inside.new.octets c.put_header-self-inside.result c.args.kind
    c.args.code c.args.mid c.args.token.octets.now
    c.put_header-self-inside.ensures.put c.ranges.code.fits c.ranges.mid.fits
    c.put_header-self-inside.ensures.bytes c.args.token.short c.requires.class c.requires.empty in
    held.shows
