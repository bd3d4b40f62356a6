use Rattle.std.specs.Prelude.{Result, Ok, Err, OnErr}
use Rattle.message_model.proofs.ByteLemmas.{AreBytes-from_Fits}
use Rattle.coap_message.specs.Headers.{header_in}
use Rattle.coap_message.specs.Views.{message_in}
use Rattle.coap_message.proofs.ViewLemmas.{read_takes, header_spells_none, body_spells_none}
use Rattle.coap_message.proofs.datagrams.view.Goals as goal

pub returns-in-Some-clause-sound : goal.returns-in-Some-clause-sound
returns-in-Some-clause-sound c =
    let r =
    read_takes c.args.datagram.now c.in_ok-header.rest.now (header_in c.in_ok-header.header)
    (message_in c.in-Some.view) (AreBytes-from_Fits c.args.datagram.now c.type_inv.datagram)
    c.in_ok-header.ensures c.in-Some.ensures.message in
    r.0

pub returns-in-Some-clause-spelled : goal.returns-in-Some-clause-spelled
returns-in-Some-clause-spelled c =
    let r =
    read_takes c.args.datagram.now c.in_ok-header.rest.now (header_in c.in_ok-header.header)
    (message_in c.in-Some.view) (AreBytes-from_Fits c.args.datagram.now c.type_inv.datagram)
    c.in_ok-header.ensures c.in-Some.ensures.message in
    r.1

-- what holds anyway holds at an error
on_err : {T E : Type 0} (r : Result T E) (P : Type 0) → P → OnErr r P
on_err (Ok x) P h = tt
on_err (Err e) P h = h

pub returns-in_err-header-clause-unread : goal.returns-in_err-header-clause-unread
returns-in_err-header-clause-unread c =
    on_err _ _
    (header_spells_none c.args.datagram.now c.in_err-header.field-0.0 c.in_err-header.ensures)

pub returns-in-None-clause-unread : goal.returns-in-None-clause-unread
returns-in-None-clause-unread c =
    body_spells_none c.args.datagram.now c.in_ok-header.rest.now (header_in c.in_ok-header.header)
    c.in_ok-header.ensures c.in-None.ensures.message
