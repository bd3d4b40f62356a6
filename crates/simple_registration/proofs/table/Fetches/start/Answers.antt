use Rattle.std.proofs.Common.{
  ◌≡◌,
  ℕ,
  Option,
  ◌+◌,
  ◌%◌,
  ◌^◌,
  ◌∷◌,
  ◌++◌,
  [],
  List,
  subst,
  sym,
  ap,
  ◌∙◌,
  arith,
}
use Rattle.std.specs.Prelude.{is_some}
use Rattle.event_model.specs.Fetches.{Fetch, next_token}
use Rattle.simple_registration.specs.declared.asks.Ask.{Ask}
use Rattle.simple_registration.specs.Hearing.{first_ask}
use Rattle.simple_registration.specs.FetchEvents.{FetchesStandFor}
use Rattle.simple_registration.proofs.CallLaws.{
  table_of,
  refused_fetching,
  refused_full,
  not_refused,
  token_is,
  starts,
}
use Rattle.simple_registration.proofs.table.Fetches.start.Goals as goal

pub returns-then-is_some-clause-refused : goal.returns-then-is_some-clause-refused
returns-then-is_some-clause-refused c octets events stands =
    refused_fetching octets events c.self.inside.rows.items c.self.inside.started c.args.peer
    (subst (FetchesStandFor octets events) (sym c.self.view_is) stands)
    (ap (λ (o : Option ℕ). is_some o) (sym c.index_of.ensures)
    ∙ (sym c.is_some.ensures ∙ c.if-is_some.true))

pub returns-then-len-eq-MAX_FETCHES-clause-refused :
    goal.returns-then-len-eq-MAX_FETCHES-clause-refused
returns-then-len-eq-MAX_FETCHES-clause-refused c octets events stands =
    refused_full octets events c.self.inside.rows.items c.self.inside.started c.args.peer
    (subst (FetchesStandFor octets events) (sym c.self.view_is) stands)
    (ap (λ (o : Option ℕ). is_some o) (sym c.index_of.ensures)
    ∙ (sym c.is_some.ensures ∙ c.if-is_some.false))
    (let ok = c.self.inside.rows.ok.0 in omega
    (arith, c.len.ensures, c.if-len-eq-MAX_FETCHES.true, ok))

pub returns-clause-refused : goal.returns-clause-refused
returns-clause-refused c octets events stands =
    let ok = c.self.inside.rows.ok.0 in
    (not_refused octets events c.self.inside.rows.items c.self.inside.started c.args.peer
    (subst (FetchesStandFor octets events) (sym c.self.view_is) stands)
    (ap (λ (o : Option ℕ). is_some o) (sym c.index_of.ensures)
    ∙ (sym c.is_some.ensures ∙ c.if-is_some.false))
    (let most = c.self.invariant.1 in omega
    (arith, c.len.ensures, c.if-len-eq-MAX_FETCHES.false, ok, most))).1

pub returns-clause-ask : goal.returns-clause-ask
returns-clause-ask c octets events stands =
    c.in_ok-fetch.ensures.ask
    ∙ ap (λ (t : List ℕ). first_ask c.args.mid c.args.peer t)
    (c.of-token.ensures
    ∙ (c.to_be_bytes.ensures
    ∙ token_is octets events c.self.inside.rows.items c.self.inside.started
    (subst (FetchesStandFor octets events) (sym c.self.view_is) stands)))

pub returns-clause-started : goal.returns-clause-started
returns-clause-started c octets events e stands is at with sent =
    let ok = c.self.inside.rows.ok.0 in
    let before : FetchesStandFor octets events
    (table_of c.self.inside.rows.items c.self.inside.started) =
    subst (FetchesStandFor octets events) (sym c.self.view_is) stands in
    let token : c.of-token.result ≡ next_token events =
    c.of-token.ensures
    ∙ (c.to_be_bytes.ensures ∙ token_is octets events c.self.inside.rows.items
    c.self.inside.started before) in
    subst (λ (fs : List Fetch).
    FetchesStandFor octets (e ∷ events)
    (table_of fs ((c.self.inside.started + 1) % 2 ^ 64)))
    (sym (c.push_reserved.ensures.items
    ∙ ap (λ (f : Fetch). c.self.inside.rows.items ++ f ∷ []) c.in_ok-fetch.ensures.fetch))
    (starts octets c.args.now.0 c.args.word c.args.mid c.args.peer c.of-token.result c.args.params
    c.in_ok-fetch.ask.bytes e events c.self.inside.rows.items c.self.inside.started
    (not_refused octets events c.self.inside.rows.items c.self.inside.started c.args.peer before
    (ap (λ (o : Option ℕ). is_some o) (sym c.index_of.ensures)
    ∙ (sym c.is_some.ensures ∙ c.if-is_some.false))
    (let most = c.self.invariant.1 in omega
    (arith, c.len.ensures, c.if-len-eq-MAX_FETCHES.false, ok, most))).0
    is at with token (ap (λ (a : Ask). a.bytes) c.in_ok-fetch.ensures.ask) sent before)
