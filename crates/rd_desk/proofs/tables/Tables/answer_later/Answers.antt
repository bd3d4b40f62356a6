use Rattle.std.proofs.Common.{false, refl}
use Rattle.coap_message.specs.Views.{message_in}
use Rattle.coap_options.proofs.MeaningLaws.{is_meaning}
use Rattle.journal_model.specs.Effects.{nothing}
use Rattle.rd_desk.proofs.parts.LookupLaws.{
  lookup_starved,
  used_way,
  fresh_way,
  missing_way,
  fresh_starved,
}
use Rattle.rd_desk.proofs.tables.Tables.answer_later.Goals as goal

pub returns-in_default-clause-way : goal.returns-in_default-clause-way
returns-in_default-clause-way c =
    λ rows s of way.
    lookup_starved rows s c.args.self.now c.args.out.now c.answer_starved.new.out c.args.mids.now
    c.answer_starved.new.mids c.args.peer (message_in c.args.request.now.meaning.view) of
    c.answer_starved.ensures.sends way

pub returns-then-send_kept-clause-way : goal.returns-then-send_kept-clause-way
returns-then-send_kept-clause-way c =
    λ rows s of way.
    let m = message_in c.args.request.now.meaning.view in
    used_way rows s _ c.args.self.now c.send_kept.new.transfers c.args.out.now c.send_kept.new.out
    c.args.mids.now c.send_kept.new.mids c.args.peer m c.in-Ok.key c.self.view_is of
    (c.in-Ok.ensures.key m (is_meaning c.args.request.now.meaning))
    (c.send_kept.ensures.used c.if-send_kept.true) way

pub returns-in_default-form_later-clause-way : goal.returns-in_default-form_later-clause-way
returns-in_default-form_later-clause-way c =
    λ rows s of way.
    let unchanged = c.send_kept.ensures.unchanged c.if-send_kept.false in
    fresh_starved rows s _ c.args.self.now c.send_kept.new.transfers c.args.out.now
    c.send_kept.new.out c.answer_starved-in_default-form_later.new.out c.args.mids.now
    c.send_kept.new.mids c.answer_starved-in_default-form_later.new.mids c.args.peer
    (message_in c.args.request.now.meaning.view)
    c.self.view_is of unchanged.0 unchanged.1 unchanged.2
    c.answer_starved-in_default-form_later.ensures.sends way

pub returns-in_default-found-clause-way : goal.returns-in_default-found-clause-way
returns-in_default-found-clause-way c =
    λ rows s of way.
    let m = message_in c.args.request.now.meaning.view in
    let unchanged = c.send_kept.ensures.unchanged c.if-send_kept.false in
    missing_way rows s _ c.args.self.now c.send_kept.new.transfers c.args.out.now
    c.send_kept.new.out c.answer_not_live.new.out c.args.mids.now c.send_kept.new.mids
    c.answer_not_live.new.mids c.args.peer m c.in-Ok.key c.in-Ok-form_later.found c.self.view_is of
    (c.in-Ok.ensures.key m (is_meaning c.args.request.now.meaning))
    (c.send_kept.ensures.none c.if-send_kept.false) unchanged.0 unchanged.1 unchanged.2
    c.in_default-found.is c.in-Ok-form_later.ensures.formed c.answer_not_live.ensures way

pub returns-clause-way : goal.returns-clause-way
returns-clause-way c =
    λ rows s of way.
    let m = message_in c.args.request.now.meaning.view in
    let unchanged = c.send_kept.ensures.unchanged c.if-send_kept.false in
    fresh_way rows s _ c.args.self.now c.give_formed.new.self c.send_kept.new.transfers
    c.args.out.now c.send_kept.new.out c.give_formed.new.out c.args.mids.now
    c.send_kept.new.mids c.give_formed.new.mids c.args.peer m c.in-Ok.key
    c.in-Ok-form_later.found c.in-Some.formed c.self.view_is of
    (c.in-Ok.ensures.key m (is_meaning c.args.request.now.meaning))
    (c.send_kept.ensures.none c.if-send_kept.false) unchanged.0 unchanged.1 unchanged.2
    c.in-Some.is c.in-Ok-form_later.ensures.formed
    (c.give_formed.ensures.way rows s false nothing of refl) way
