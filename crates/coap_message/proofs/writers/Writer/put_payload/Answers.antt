use Rattle.std.proofs.Common.{◌≤◌, length, take, sym, subst, arith}
use Rattle.message_model.proofs.ByteLemmas.{AreBytes-from_Fits}
use Rattle.message_model.specs.Message.{Message}
use Rattle.message_model.specs.Spelling.{spelling}
use Rattle.coap_message.specs.PartialMessages.{longest_datagram, with_payload}
use Rattle.coap_message.specs.SpelledMessages.{IsWritten}
use Rattle.coap_message.proofs.WriterLemmas.{payload_size_is, writes_payload}
use Rattle.coap_message.proofs.writers.Writer.put_payload.Goals as goal

pub returns-then-payload_size-self-clause-too_long :
    goal.returns-then-payload_size-self-clause-too_long
returns-then-payload_size-self-clause-too_long c =
    let written =
    subst (λ (m : Message).
    IsWritten (take c.self.inside.length c.self.inside.octets) c.self.inside.last m)
    c.self.view_is c.self.invariant.written in
    let size =
    payload_size_is c.self.inside.octets c.self.inside.length c.self.inside.last c.args.self.now
    c.args.payload.now (omega (arith, c.self.told, c.self.invariant.short)) c.requires.open
    written in
    omega (arith, size, c.payload_size.ensures, c.if-payload_size-self.true, c.self.invariant.short)

pub invariant_of-self : goal.invariant_of-self
invariant_of-self c =
    let held =
    writes_payload c.self.inside.octets c.put_payload-self-inside.new.octets
    c.self.inside.length c.put_payload-self-inside.result c.self.inside.last c.args.self.now
    c.args.payload.now
    c.put_payload-self-inside.ensures.put c.self.view_is c.self.invariant.written c.requires.open
    c.requires.empty (AreBytes-from_Fits c.args.payload.now c.type_inv.payload) in
    record {
      short =
          omega (
            arith,
            c.put_payload-self-inside.ensures.end,
            c.payload_size.ensures,
            c.if-payload_size-self.false,
            c.self.invariant.short,
          );
      written = held.written;
    }

pub returns-clause-ok : goal.returns-clause-ok
returns-clause-ok c =
    let held =
    writes_payload c.self.inside.octets c.put_payload-self-inside.new.octets
    c.self.inside.length c.put_payload-self-inside.result c.self.inside.last c.args.self.now
    c.args.payload.now
    c.put_payload-self-inside.ensures.put c.self.view_is c.self.invariant.written c.requires.open
    c.requires.empty (AreBytes-from_Fits c.args.payload.now c.type_inv.payload) in
    held.shows

pub returns-clause-short : goal.returns-clause-short
returns-clause-short c =
    let written =
    subst (λ (m : Message).
    IsWritten (take c.self.inside.length c.self.inside.octets) c.self.inside.last m)
    c.self.view_is c.self.invariant.written in
    let size =
    payload_size_is c.self.inside.octets c.self.inside.length c.self.inside.last c.args.self.now
    c.args.payload.now (omega (arith, c.self.told, c.self.invariant.short)) c.requires.open
    written in
    let held =
    writes_payload c.self.inside.octets c.put_payload-self-inside.new.octets
    c.self.inside.length c.put_payload-self-inside.result c.self.inside.last c.args.self.now
    c.args.payload.now
    c.put_payload-self-inside.ensures.put c.self.view_is c.self.invariant.written c.requires.open
    c.requires.empty (AreBytes-from_Fits c.args.payload.now c.type_inv.payload) in
    let fits : length (spelling (with_payload c.args.self.now c.args.payload.now)) ≤
    longest_datagram =
    omega (
      arith,
      size,
      c.payload_size.ensures,
      c.if-payload_size-self.false,
      c.self.invariant.short,
    ) in
    subst (λ (m : Message). length (spelling m) ≤ longest_datagram) (sym held.shows) fits
