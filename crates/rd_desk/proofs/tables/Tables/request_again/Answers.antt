use Rattle.std.proofs.Common.{◌≡◌, ◌<◌, length, sym, ap, subst, ◌∙◌, arith}
use Rattle.std.specs.Arc.{arc_value}
use Rattle.exchange_core.specs.declared.resends.Again.TheVariants as again
use Rattle.simple_registration.specs.Table.{Table}
use Rattle.simple_registration.specs.FetchEvents.{FetchesStandFor}
use Rattle.rd_desk.specs.calls.Desks.{Seen}
use Rattle.rd_desk.proofs.ticking.RequestWalk.{resending_waits, resending_sends, resending_ends}
use Rattle.rd_desk.proofs.tables.Tables.request_again.Goals as goal

pub returns-in-Wait : goal.returns-in-Wait
returns-in-Wait c rows s starved first mids most less one h =
    let shown = ap (λ (d : Seen). length d.fetches.fetches) c.self.view_is in
    let inside = c.requires in
    let within : c.args.index < length c.self.inside.fetches.fetches =
    omega (arith, shown, inside) in
    resending_waits rows s starved first _ c.args.self.now _ c.args.out.now mids c.args.index most
    less one within c.self.view_is
    (λ octets past peer e stands got last. sym c.in-Wait.is
    ∙ c.timeout.ensures.answer octets past peer e stands got last)
    (ap (λ (t : Table).
    record {
      moment = c.self.inside.moment.0;
      version = arc_value c.self.inside.version;
      exchanges = c.self.inside.exchanges;
      transfers = c.self.inside.transfers;
      watching = c.self.inside.watching;
      fetches = t;
      challenges = c.self.inside.echoes;
      observed =
          c.self.inside.observed;
    })
    (c.timeout.ensures.kept
    (λ e. absurd (let no : again.Wait ≡ again.Send = sym c.in-Wait.is ∙ e in cc)))) h

pub returns-in-Send : goal.returns-in-Send
returns-in-Send c rows s starved first mids most less one h =
    let shown = ap (λ (d : Seen). length d.fetches.fetches) c.self.view_is in
    let inside = c.requires in
    let within : c.args.index < length c.self.inside.fetches.fetches =
    omega (arith, shown, inside) in
    resending_sends rows s starved first _ c.args.self.now c.timeout.new.self c.args.out.now
    c.send_request.new.out mids c.args.index most less one within c.self.view_is
    (λ octets past peer e stands got last. sym c.in-Send.is
    ∙ c.timeout.ensures.answer octets past peer e stands got last)
    (λ octets past peer e stands got is at. c.timeout.ensures.resent octets past peer e stands got
    c.in-Send.is is at)
    c.send_request.ensures.some c.send_request.ensures.sent h

pub returns-in-GaveUp : goal.returns-in-GaveUp
returns-in-GaveUp c rows s starved first mids most less one h =
    let shown = ap (λ (d : Seen). length d.fetches.fetches) c.self.view_is in
    let inside = c.requires in
    let within : c.args.index < length c.self.inside.fetches.fetches =
    omega (arith, shown, inside) in
    let still =
    c.timeout.ensures.kept
    (λ e. absurd (let no : again.GaveUp ≡ again.Send = sym c.in-GaveUp.is ∙ e in cc)) in
    resending_ends rows s starved first _ c.args.self.now c.end_fetch.new.fetches c.args.out.now
    mids c.args.index most less one within c.self.view_is
    (λ octets past peer e stands got last. sym c.in-GaveUp.is
    ∙ c.timeout.ensures.answer octets past peer e stands got last)
    (λ octets past peer e got is stands.
    c.end_fetch.ensures octets past peer e got is
    (subst (λ (t : Table). FetchesStandFor octets past t) (sym still) stands)) h
