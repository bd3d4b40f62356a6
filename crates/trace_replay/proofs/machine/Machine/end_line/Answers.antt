use Rattle.std.proofs.Common.{◌≤◌, vec_items, ap, sym, subst, ◌∙◌}
use Rattle.std.proofs.Math.Nat.{le_refl}
use Rattle.history_model.specs.Versions.{Version, VersionStandsFor}
use Rattle.trace_replay.proofs.MachineLaws.{version_in_time, end_is}
use Rattle.trace_replay.proofs.machine.Machine.end_line.Goals as goal

pub live_count-live-requires-clause-after_at : goal.live_count-live-requires-clause-after_at
live_count-live-requires-clause-after_at c =
    subst (λ (v : Version). v.at ≤ c.args.self.now.latest.0)
    (sym (c.deref-2.ensures ∙ c.version-version.ensures.value))
    (version_in_time c.args.self.now c.args.self.now.latest.0 c.requires
    (le_refl c.args.self.now.latest.0)).0

pub live_count-live-requires-clause-after_sweep : goal.live_count-live-requires-clause-after_sweep
live_count-live-requires-clause-after_sweep c =
    subst (λ (v : Version). v.swept ≤ c.args.self.now.latest.0)
    (sym (c.deref-2.ensures ∙ c.version-version.ensures.value))
    (version_in_time c.args.self.now c.args.self.now.latest.0 c.requires
    (le_refl c.args.self.now.latest.0)).1

pub returns : goal.returns
returns c = λ workers rows at.
    c.of.ensures ∙ (ap vec_items c.into_bytes.ensures.value ∙ (c.in_ok-text.ensures.ok
    ∙ end_is workers rows c.args.self.now c.entries-entries.result c.live_count-live.result
    c.watchers-observers.result at
    (c.entries-entries.ensures
    ∙ ap (λ (v : Version). v.entries) (c.deref.ensures ∙ c.version-version.ensures.value))
    (λ first history stands. c.live_count-live.ensures first history
    (subst (VersionStandsFor first history)
    (sym (c.deref-2.ensures ∙ c.version-version.ensures.value)) stands))
    c.watchers-observers.ensures.kept))
