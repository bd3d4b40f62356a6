use Rattle.std.proofs.Common.{◌≡◌, true, ◌++◌, sym, ap, ◌∙◌, rules}
use Rattle.history_model.specs.Leases.{is_live_at}
use Rattle.record_model.specs.ListingLines.{part}
use Rattle.listing.specs.AppendedLines.{appended, shown_lines}
use Rattle.directory_core.specs.Pages.{live_part}
use Rattle.directory_core.proofs.PageLaws.{added, live_gives}
use Rattle.directory_core.proofs.pages.Page.add.Goals as goal

pub returns : goal.returns
returns c more =
    let query = c.args.query.now in
    let old = c.args.self.now in
    let live : is_live_at c.args.now.0 c.args.kept.now ≡ true = search rules in
    let gives : part query c.as_record.result.now ≡ live_part query c.args.now.0 c.args.kept.now =
    ap (part query) c.as_record.ensures
    ∙ sym (live_gives query c.args.now.0 c.args.kept.now live) in
    added query c.as_record.result.now old.text c.lines.new.into old.skip c.in_ok-skipped.skipped
    old.most c.in_ok-skipped.written more c.in_ok-skipped.ensures.text
    c.in_ok-skipped.ensures.skipped c.in_ok-skipped.ensures.written
    ∙ ap (λ lines. appended old.text (shown_lines old.skip old.most (lines ++ more))) gives
