use Rattle.std.proofs.Common.{◌≡◌, max, sym, ap, subst, ◌∙◌}
use Rattle.journal_model.specs.Rows.{row_moment}
use Rattle.observation.specs.Directories.{DirectoryStandsFor}
use Rattle.observation.specs.Watching.{WatchingStandsFor}
use Rattle.rd_desk.specs.calls.Desks.{Seen}
use Rattle.rd_desk.proofs.parts.WayLaws.{begun, moment_passes}
use Rattle.rd_desk.proofs.tables.Tables.pass.Goals as goal

pub returns-clause-way : goal.returns-clause-way
returns-clause-way c rows s starved out mids none call =
    let seen = c.self.view_is in
    let before : c.self.inside.moment.0 ≡ c.args.self.now.moment =
    ap (λ (d : Seen). d.moment) seen in
    let here : c.later-to.result.0 ≡ row_moment rows s =
    c.later-to.ensures
    ∙ (ap (max c.args.now.0) before ∙ moment_passes rows s c.args.now mids c.args.self.now call)
    in
    let version = c.deref.ensures ∙ ap (λ (d : Seen). d.version) seen in
    begun rows s starved _ c.args.self.now c.later-to.result.0 c.pass.new.self out c.args.now mids
    seen none c.later-to.ensures
    (c.pass.ensures rows s starved call.journal call.no_look (before ∙ call.stands.moment) here
    (subst (DirectoryStandsFor rows) (sym version) call.stands.directory)
    (subst (WatchingStandsFor rows) (sym (ap (λ (d : Seen). d.watching) seen))
    call.stands.watching)) call
