use Rattle.std.proofs.Common.{
  ◌≡◌,
  ◌++◌,
  ℕ,
  ◌≤◌,
  ◌<◌,
  ◌^◌,
  Bool,
  true,
  max,
  List,
  None,
  refl,
  sym,
  ap,
  subst,
  ◌∙◌,
  arith,
}
use Rattle.std.specs.Arc.{arc_value}
use Rattle.rd_base.specs.declared.peers.Peer.{Peer}
use Rattle.message_model.specs.Reading.{reading}
use Rattle.message_model.specs.Spelling.{spelling}
use Rattle.history_model.specs.Live.{last_moment}
use Rattle.history_model.specs.Versions.{Version, VersionStandsFor}
use Rattle.journal_model.specs.declared.steps.Step.{Step}
use Rattle.journal_model.specs.Effects.{Effects}
use Rattle.journal_model.specs.Looks.{looked, held_after}
use Rattle.coap_answers.specs.Sendings.{Sends}
use Rattle.rd_request.specs.Accepted.{message_of}
use Rattle.rd_look.specs.Looking.{is_starved_look, IsHeld}
use Rattle.rd_seat.specs.Looks.{answer_held}
use Rattle.rd_seat.specs.Seats.{SeatSeen}
use Rattle.rd_seat.specs.Shares.{share_shown}
use Rattle.rd_seat.specs.Steps.{look_step}
use Rattle.rd_seat.proofs.SeatLaws.{
  looked-LooksFrom,
  look-IsAtRest,
  held_answer,
  held_starved,
  drawing-drawn_more,
  drawing-small,
}
use Rattle.rd_seat.proofs.shares.Share.look.Goals as goal

-- no version could be had: the seat is as before, but for the answer and the moment
pub returns-in_default-clause-looked : goal.returns-in_default-clause-looked
returns-in_default-clause-looked c =
    let s : Step = look_step c.args.self.now.mids.worker c.args.now 0 c.args.peer
    (spelling (message_of c.args.request.now)) c.args.self.now.mids.drawn in
    let same : c.refresh.new.self.seen ≡ c.args.self.now.looker.seen =
    c.in_default.ensures.starved in
    let before : last_moment c.refresh.new.self.seen ≤ c.args.self.now.last.0 =
    subst (λ h. last_moment h ≤ c.args.self.now.last.0) (sym same) c.requires.rest.in_time in
    let later : c.later-self.result.0 ≡ max c.args.self.now.last.0 c.args.now.0 =
    c.later-self.ensures in
    let done : Effects = looked true c.refresh.new.self.seen c.later-self.result.0 s
    (reading (spelling (message_of c.args.request.now))) in
    let after : SeatSeen = share_shown (record {
      alloc = c.args.self.now.alloc;
      pass =
          c.args.self.now.pass;
      looker = c.refresh.new.self;
      mids = c.look_starved.new.mids;
      last =
          c.later-self.result;
    }) in
    let sends : Sends done c.args.out.now c.look_starved.new.out c.args.self.now.mids
    c.look_starved.new.mids =
    c.look_starved.ensures.sends s c.refresh.new.self.seen c.later-self.result.0
    (record { peer_is = refl; worker = refl; drawn = refl }) in
    record {
      goes_on = record {
        hall = refl;
        rest = look-IsAtRest c.args.self.now.pass c.args.self.now.looker c.refresh.new.self
            c.args.self.now.mids c.look_starved.new.mids c.args.self.now.last c.later-self.result
            c.requires.rest
            c.refresh.ensures.name c.refresh.ensures.seen sends.worker
            (omega (arith, before, later))
            (subst (λ (n : ℕ). n < 2 ^ 64) (sym sends.drawn)
            (drawing-small done.drew c.args.self.now.mids.drawn c.requires.rest.drawn));
        met = c.refresh.ensures.seen;
      };
      looks = λ shown front may.
          looked-LooksFrom (share_shown c.args.self.now) after shown front s true
          c.look_starved.new.out None c.later-self.result.0 may c.requires.rest.met
          c.refresh.ensures.seen refl refl refl
          (omega (arith, before, later))
          (sends.sent ∙ ap (λ (b : List (Peer × List ℕ)). b ++ done.sent) c.requires.empty)
          (held_starved c.refresh.new.self.seen c.later-self.result.0
          (reading (spelling (message_of c.args.request.now))))
          sends.worker refl refl refl
          (sends.drawn ∙ drawing-drawn_more done.drew c.args.self.now.mids.drawn
          c.requires.rest.drawn);
    }

-- a version was had
pub returns-clause-looked : goal.returns-clause-looked
returns-clause-looked c =
    let s : Step = look_step c.args.self.now.mids.worker c.args.now 0 c.args.peer
    (spelling (message_of c.args.request.now)) c.args.self.now.mids.drawn in
    let stands : VersionStandsFor 0 c.refresh.new.self.seen (arc_value c.in-Some.version.now) =
    c.in-Some.ensures.stands in
    let at : c.at.result.0 ≡ last_moment c.refresh.new.self.seen =
    c.at.ensures ∙ (ap (λ (v : Version). v.at) c.deref.ensures ∙ stands.at) in
    let later : c.later-moment.result.0 ≡ max c.at.result.0 c.later.result.0 =
    c.later-moment.ensures in
    let earlier : c.later.result.0 ≡ max c.args.self.now.last.0 c.args.now.0 = c.later.ensures in
    let starved : Bool = is_starved_look c.answer_look.result in
    let shown_for : VersionStandsFor 0 c.refresh.new.self.seen c.deref-2.result.now =
    subst (VersionStandsFor 0 c.refresh.new.self.seen) (sym c.deref-2.ensures) stands in
    let done : Effects = looked starved c.refresh.new.self.seen c.later-moment.result.0 s
    (reading (spelling (message_of c.args.request.now))) in
    let sends : Sends done c.args.out.now c.answer_look.new.out c.args.self.now.mids
    c.answer_look.new.mids =
    c.answer_look.ensures.sends s c.refresh.new.self.seen shown_for
    (record { peer_is = refl; worker = refl; drawn = refl }) in
    let held : IsHeld c.args.peer (spelling (message_of c.args.request.now))
    (held_after starved c.refresh.new.self.seen c.later-moment.result.0
    (reading (spelling (message_of c.args.request.now)))) c.answer_look.result =
    c.answer_look.ensures.held c.refresh.new.self.seen shown_for in
    let after : SeatSeen = share_shown (record {
      alloc = c.args.self.now.alloc;
      pass =
          c.args.self.now.pass;
      looker = c.refresh.new.self;
      mids = c.answer_look.new.mids;
      last =
          c.later-moment.result;
    }) in
    record {
      goes_on = record {
        hall = refl;
        rest = look-IsAtRest c.args.self.now.pass c.args.self.now.looker c.refresh.new.self
            c.args.self.now.mids c.answer_look.new.mids c.args.self.now.last c.later-moment.result
            c.requires.rest
            c.refresh.ensures.name c.refresh.ensures.seen sends.worker (omega (arith, at, later))
            (subst (λ (n : ℕ). n < 2 ^ 64) (sym sends.drawn)
            (drawing-small done.drew c.args.self.now.mids.drawn c.requires.rest.drawn));
        met = c.refresh.ensures.seen;
      };
      looks = λ shown front may.
          looked-LooksFrom (share_shown c.args.self.now) after shown front s starved
          c.answer_look.new.out (answer_held c.answer_look.result) c.later-moment.result.0 may
          c.requires.rest.met c.refresh.ensures.seen refl refl refl
          (omega (arith, at, later, earlier))
          (sends.sent ∙ ap (λ (b : List (Peer × List ℕ)). b ++ done.sent) c.requires.empty)
          (held_answer c.args.peer (spelling (message_of c.args.request.now))
          (held_after starved c.refresh.new.self.seen c.later-moment.result.0
          (reading (spelling (message_of c.args.request.now)))) c.answer_look.result held)
          sends.worker refl refl refl
          (sends.drawn ∙ drawing-drawn_more done.drew c.args.self.now.mids.drawn
          c.requires.rest.drawn);
    }
