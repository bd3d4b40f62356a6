use Rattle.std.proofs.Common.{◌≡◌, true, List, set, subst, sym, ap, ◌∙◌}
use Rattle.std.specs.List.{remove}
use Rattle.coap_message.specs.Views.{message_in}
use Rattle.event_model.specs.Fetches.{Fetch}
use Rattle.simple_registration.specs.declared.hearing.Heard.{Heard}
use Rattle.simple_registration.specs.declared.hearing.Heard.TheVariants as heard
use Rattle.simple_registration.specs.Hearing.{IsLeftBy}
use Rattle.simple_registration.specs.Table.{Table, is_of, belongs_among, IsKeptAfter}
use Rattle.simple_registration.specs.FetchEvents.{FetchesStandFor}
use Rattle.rd_base.proofs.lemmas.Firsts.{without_first-at}
use Rattle.simple_registration.proofs.CallLaws.{
  table_of,
  belongs_nowhere,
  answers,
  goes_on,
  ends,
  set_same,
  kept_after_response,
}
use Rattle.simple_registration.proofs.table.Fetches.response.Goals as goal

pub unreachable-requires : goal.unreachable-requires
unreachable-requires c =
    belongs_nowhere c.self.inside.rows.items c.args.peer (message_in c.args.meaning.now.view)
    (subst (λ (t : Table).
    belongs_among c.args.peer (message_in c.args.meaning.now.view) t.fetches ≡ true)
    (sym c.self.view_is) c.requires.belongs) (sym c.index_of.ensures ∙ c.in_default.is)

pub returns-in-Ended-clause-answer : goal.returns-in-Ended-clause-answer
returns-in-Ended-clause-answer c octets events request stands made some =
    c.in-Ended.ensures.answer some
    ∙ answers octets events c.self.inside.rows.items c.self.inside.started c.args.peer c.args.mid
    (message_in c.args.meaning.now.view) request c.in-Some.index c.index_mut.result.now
    (sym c.in-Some.ensures) c.index_mut.ensures.value
    (subst (FetchesStandFor octets events) (sym c.self.view_is) stands) made

pub returns-in-Ended-clause-ended : goal.returns-in-Ended-clause-ended
returns-in-Ended-clause-ended c octets events e stands over is =
    ends octets events c.self.inside.rows.items c.remove.new.self.items c.self.inside.started
    c.args.peer e
    (c.remove.ensures.items
    ∙ (ap (λ (fs : List Fetch). remove fs c.in-Some.index)
    (set_same c.self.inside.rows.items c.in-Some.index c.index_mut.result.now
    c.hear-heard.new.self c.index_mut.ensures.value c.in-Ended.ensures.left)
    ∙ without_first-at (is_of c.args.peer) c.self.inside.rows.items c.in-Some.index
    (sym c.in-Some.ensures))) is
    (subst (FetchesStandFor octets events) (sym c.self.view_is) stands)

pub returns-clause-answer : goal.returns-clause-answer
returns-clause-answer c octets events request stands made some =
    c.hear-heard.ensures.answer some
    ∙ answers octets events c.self.inside.rows.items c.self.inside.started c.args.peer c.args.mid
    (message_in c.args.meaning.now.view) request c.in-Some.index c.index_mut.result.now
    (sym c.in-Some.ensures) c.index_mut.ensures.value
    (subst (FetchesStandFor octets events) (sym c.self.view_is) stands) made

pub returns-clause-next : goal.returns-clause-next
returns-clause-next c octets events request block gathered asked ask stands made is_block next
    gathered_is asked_is at with sent =
    goes_on octets events c.self.inside.rows.items c.self.inside.started c.args.peer c.args.now.0
    c.args.word c.args.mid (message_in c.args.meaning.now.view) request block gathered asked ask
    c.in-Some.index
    c.index_mut.result.now c.hear-heard.new.self (sym c.in-Some.ensures) c.index_mut.ensures.value
    (subst (FetchesStandFor octets events) (sym c.self.view_is) stands) made is_block
    (sym next
    ∙ c.hear-heard.ensures.answer
    (λ e. let no : heard.Next ask ≡ heard.Starved = sym next ∙ e in absurd cc)) gathered_is
    asked_is at with sent
    (subst (λ (h : Heard).
    IsLeftBy h c.args.now.0 c.args.word c.args.mid (message_in c.args.meaning.now.view)
    c.index_mut.result.now c.hear-heard.new.self) next c.hear-heard.ensures.left block
    is_block)

pub returns-clause-ended : goal.returns-clause-ended
returns-clause-ended c octets events e stands over is = absurd (c.in_default-heard.not-Ended over)

pub returns-clause-kept : goal.returns-clause-kept
returns-clause-kept c =
    subst (λ (t : Table).
    IsKeptAfter c.hear-heard.result t
    (table_of (set c.self.inside.rows.items c.in-Some.index c.hear-heard.new.self)
    c.self.inside.started)) c.self.view_is
    (kept_after_response c.hear-heard.result c.args.now.0 c.args.word c.args.mid
    (message_in c.args.meaning.now.view) c.self.inside.rows.items c.self.inside.started
    c.in-Some.index c.index_mut.result.now c.hear-heard.new.self
    c.index_mut.ensures.value c.hear-heard.ensures.left)
