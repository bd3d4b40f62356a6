use Rattle.std.proofs.Common.{
  ◌≡◌,
  ℕ,
  not,
  ◌&&◌,
  Bool,
  true,
  List,
  Option,
  Some,
  option_map,
  sym,
  ap,
  subst,
  ◌∙◌,
}
use Rattle.rd_base.specs.declared.peers.Peer.{Peer}
use Rattle.message_model.specs.declared.requests.Path.{Path}
use Rattle.message_model.specs.Message.{Message}
use Rattle.message_model.specs.Request.{path_in, echo_in}
use Rattle.coap_message.specs.Views.{message_in}
use Rattle.event_model.specs.Events.{Event}
use Rattle.event_model.specs.Challenges.{is_good}
use Rattle.journal_model.specs.declared.steps.Step.{Step}
use Rattle.journal_model.specs.Effects.{nothing}
use Rattle.journal_model.specs.Journal.{events}
use Rattle.journal_model.specs.Rows.{row_moment}
use Rattle.journal_model.specs.Writes.{is_fetched_for, is_unproved, shows_address}
use Rattle.journal_model.proofs.UnfinishedRowLaws.{events-making_nothing}
use Rattle.simple_registration.specs.Challenges.{ChallengesStandFor}
use Rattle.rd_request.specs.Resources.{is_at}
use Rattle.rd_desk.specs.calls.Desks.{Seen}
use Rattle.rd_desk.proofs.parts.WayLaws.{way_moment}
use Rattle.rd_desk.proofs.tables.Tables.is_unproved.Goals as goal

-- by what is said of a write: whether it is fetched for, and what its Echo shows
unproved_by : (past : List Event) (moment : ℕ) (s : Step) (m : Message) (fetched : Bool)
    (value : Option (List ℕ))
    → is_fetched_for (path_in m) ≡ fetched
    → echo_in m ≡ value
    → is_unproved past moment s m ≡ (fetched && not (shows_address value moment s.peer past))
unproved_by past moment s m fetched value is has =
    ap (λ (b : Bool). b && not (shows_address (echo_in m) moment s.peer past)) is
    ∙ ap (λ (v : Option (List ℕ)). fetched && not (shows_address v moment s.peer past)) has

-- a value is good at the moment of the row, of its peer
good_here : (past : List Event) (at moment : ℕ) (one other : Peer) (value : List ℕ)
    → at ≡ moment
    → other ≡ one
    → is_good at one value past ≡ is_good moment other value past
good_here past at moment one other value time of =
    ap (λ (n : ℕ). is_good n one value past) time
    ∙ ap (λ (p : Peer). is_good moment p value past) (sym of)

pub returns-in-Some : goal.returns-in-Some
returns-in-Some c rows s starved out mids of way =
    let request = c.args.request.now in
    let m = message_in request.meaning.view in
    let past = events rows in
    let value = c.in-Some.value.now in
    let here : is_at request.resource (path_in m) ≡ true =
    subst (λ (p : Path). is_at request.resource p ≡ true) request.meaning.path_said request.here in
    let stands : ChallengesStandFor past c.self.inside.echoes =
    subst (ChallengesStandFor past) (sym (ap (λ (d : Seen). d.challenges) c.self.view_is))
    (subst (λ (es : List Event). ChallengesStandFor es c.args.self.now.challenges)
    (events-making_nothing rows s starved) way.stands.challenges) in
    ap not (c.good.ensures past stands
    ∙ good_here past _ (row_moment rows s) c.args.peer.now s.peer value
    (ap (λ (d : Seen). d.moment) c.self.view_is
    ∙ way_moment rows s starved nothing c.args.self.now out mids way) of)
    ∙ sym (unproved_by past (row_moment rows s) s m true (Some value)
    (sym (c.is_fetched_for.ensures (path_in m) here) ∙ c.if-not-is_fetched_for.false)
    (sym request.meaning.echo_said ∙ ap (option_map (λ v. v.now)) c.in-Some.is))
