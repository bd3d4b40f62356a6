-- What a step leaves on a board: what is planned of a write has one entry more than any history
-- that the version before stands for, and is laid or leaves all as it was.
use Rattle.std.proofs.Common.{
  ◌≡◌,
  ◌≤◌,
  ◌<◌,
  ◌+◌,
  ℕ,
  Bool,
  true,
  false,
  List,
  [],
  ◌∷◌,
  ◌++◌,
  length,
  filter_map,
  if◌then◌else◌,
  Option,
  Some,
  None,
  Result,
  Ok,
  Err,
  IfOk,
  IfSome,
  refl,
  sym,
  ap,
  subst,
  ◌∙◌,
  arith,
}
use Rattle.std.proofs.lemmas.Bool.{false≢true, true≢false}
use Rattle.std.proofs.lemmas.List.{append-nil}
use Rattle.std.specs.Arc.{arc_value}
use Rattle.rd_base.specs.declared.out_of_memory.Starved.{Starved}
use Rattle.rd_base.specs.declared.peers.Host.TheVariants as host
use Rattle.rd_base.specs.declared.peers.Peer.{Peer}
use Rattle.history_model.specs.declared.entries.Entry.{Entry}
use Rattle.history_model.specs.Replay.{count_after, counted}
use Rattle.history_model.specs.Versions.{Version, VersionStandsFor}
use Rattle.history_model.proofs.ReplayLaws.{lifted-above}
use Rattle.event_model.specs.declared.notes.Note.{Note}
use Rattle.journal_model.specs.Changes as changes
use Rattle.journal_model.specs.Journal.{entries, entry_noted, entries_of}
use Rattle.journal_model.specs.declared.rows.Row.{Row}
use Rattle.journal_model.specs.declared.steps.Step.{Step}
use Rattle.journal_model.specs.declared.steps.StepKind.TheVariants as step
use Rattle.directory_core.specs.Boards.{HasOneMore}
use Rattle.rd_desk.specs.declared.write.outcomes.Entering.{Entering}
use Rattle.rd_desk.specs.declared.write.outcomes.Outcome.{Outcome}
use Rattle.rd_desk.specs.parts.Outcomes.{AreNotes, IsPlanned, IsTimely, IsReadyAt}
use Rattle.rd_desk.specs.calls.Desks.{Seen, StandsFor}
use Rattle.rd_desk.specs.calls.Staging.{staged_after, LeavesStaged}
use Rattle.rd_desk.specs.parts.Laying.{version_ready, IsLaid, IsLeftBy, IsNextOf, IsSweptBefore}

-- a step of a peer
abbrev pub from_peer : Peer → Step
from_peer peer = record {
  kind = step.Tick;
  worker = 0;
  handed = record { 0 = 0 };
  word = 0;
  peer = peer;
  datagram = [];
  drawn = 0;
}

-- a step of any peer
abbrev pub anyone : Step
anyone = from_peer (record { host = host.V4 (0 ∷ 0 ∷ 0 ∷ 0 ∷ []); port = 0 })

noted_next : (history : List Entry) (swept : ℕ) (further notes : List Note) (e : Option Entering)
    → AreNotes history swept further notes e
    → IfSome e (λ e. HasOneMore history (arc_value e.version))
noted_next history swept further notes None it = tt
noted_next history swept further notes (Some e) it = record { entry = it.0; stands = it.2.stands }

-- what is planned after a history has one entry more, where it makes one
pub next_planned : (r : Result Outcome Starved) (history : List Entry) (swept : ℕ)
    (further : List Note) (meant : changes.Outcome)
    → IfOk r (IsPlanned history swept further meant)
    → IfOk r (IsNextOf history)
next_planned (Ok o) history swept further meant it =
    noted_next history swept further meant.notes o.entering it.notes
next_planned (Err e) history swept further meant it = tt

timed : (moment : ℕ) (e : Option Entering)
    → IfSome e (IsReadyAt moment)
    → IfSome e (λ e. (arc_value e.version).swept ≤ (arc_value e.version).at)
timed moment None it = tt
timed moment (Some e) it = let at = it.0 in let swept = it.1 in omega (arith, at, swept)

-- what is planned of a moment was not swept after its entry
pub swept_planned : (r : Result Outcome Starved) (moment : ℕ)
    → IfOk r (IsTimely moment)
    → IfOk r IsSweptBefore
swept_planned (Ok o) moment it = timed moment o.entering it
swept_planned (Err e) moment it = tt

-- where a board tells a history, what holds of each that the version stands for holds of that
pub next_told : (told : Option (List Entry)) (version : Version) (r : Result Outcome Starved)
    → IfSome told (λ history. VersionStandsFor 0 history version)
    → ((history : List Entry) → VersionStandsFor 0 history version → IfOk r (IsNextOf history))
    → IfSome told (λ history. IfOk r (IsNextOf history))
next_told None version r stands next = tt
next_told (Some history) version r stands next = next history stands

-- what is planned stays as it is when its version is laid
pub of_laid : (P : Outcome → Type 0) (planned : Result Outcome Starved) (o : Outcome)
    → planned ≡ Ok o
    → IfOk planned P
    → P o
of_laid P planned o same it = subst (λ (r : Result Outcome Starved). IfOk r P) same it

none_staged : (before : Option (Option Version)) → IfSome before (λ staged. before ≡ Some staged)
none_staged None = tt
none_staged (Some b) = refl

-- nothing is entered, and nothing is laid
pub laid_none : (old new : Version) (before : Option (Option Version)) (is_staged : Bool)
    → new ≡ old → is_staged ≡ false → IsLaid old new before before is_staged
laid_none old new before is_staged same free = record {
  entered = false;
  staged = none_staged before;
  kept = λ none. same;
  made = λ entered. absurd (false≢true entered);
  free = λ none. free;
}

-- what is planned is laid and done
pub laid_planned : (old new : Version) (e : Option Entering)
    (before after : Option (Option Version)) (is_staged : Bool)
    → IfSome before (λ staged. after ≡ Some (version_ready e staged)) → IsLeftBy old new e
    → ((history : List Entry) → VersionStandsFor 0 history old
    → IfSome e (λ e. HasOneMore history (arc_value e.version)))
    → (e ≡ None → is_staged ≡ false) → IsLaid old new before after is_staged
laid_planned old new None before after is_staged laid left next free = record {
  entered = false;
  staged = laid;
  kept = λ none. left;
  made = λ entered. absurd (false≢true entered);
  free = λ none. free refl;
}
laid_planned old new (Some e) before after is_staged laid left next free = record {
  entered = true;
  staged = staged before laid;
  kept = λ none. absurd (true≢false none);
  made = λ entered history stands. subst (HasOneMore history) (sym left) (next history stands);
  free = λ none. absurd (true≢false none);
}
  where
    staged : (b : Option (Option Version))
        → IfSome b (λ staged. after ≡ Some (Some (arc_value e.version)))
        → IfSome b (λ staged. after ≡ Some (Some new))
    staged None h = tt
    staged (Some b) h = h ∙ ap (λ v. Some (Some v)) (sym left)

-- nor is anything where memory ran out
pub laid_kept : (old new : Version) (before after : Option (Option Version)) (is_staged : Bool)
    → new ≡ old → after ≡ before → is_staged ≡ false → IsLaid old new before after is_staged
laid_kept old new before after is_staged same kept free =
    subst (λ (now : Option (Option Version)). IsLaid old new before now is_staged) (sym kept)
    (laid_none old new before is_staged same free)

-- where the version stayed before, it is laid as from the beginning
pub laid_from : (old begun new : Version) (before after : Option (Option Version))
    (is_staged : Bool) → begun ≡ old → IsLaid begun new before after is_staged
    → IsLaid old new before after is_staged
laid_from old begun new before after is_staged same laid =
    subst (λ (v : Version). IsLaid v new before after is_staged) same laid

-- ---- a whole step

carried : (after : Option (Option Version)) (f g : Option Version → Option Version)
    → ((o : Option Version) → f o ≡ g o)
    → (before : Option (Option Version))
    → IfSome before (λ o. after ≡ Some (f o))
    → IfSome before (λ o. after ≡ Some (g o))
carried after f g same None h = tt
carried after f g same (Some b) h = h ∙ ap Some (same b)

-- so many entries leave the version before, or this one
none_left : (es : List Entry) (version : Version)
    → length es ≡ 0
    → (o : Option Version)
    → o ≡ staged_after es version o
none_left [] version n o = refl
none_left (e ∷ es) version n o = absurd (omega (arith, n))

one_left : (es : List Entry) (version : Version)
    → length es ≡ 1
    → (o : Option Version)
    → Some version ≡ staged_after es version o
one_left [] version n o = absurd (omega (arith, n))
one_left (e ∷ es) version n o = refl

-- with entries more at least as many more are counted
counted_more : (first : ℕ) (history es : List Entry)
    → counted first history + length es ≤ counted first (history ++ es)
unfolding counted
counted_more first [] [] = omega arith
counted_more first [] (e ∷ es) =
    let low = lifted-above first e.change in
    let more = counted_more (count_after first e) [] es in omega (arith, low, more)
counted_more first (e ∷ history) es = counted_more (count_after first e) history es

-- where more is counted with entries more, there are some
some_more : (history es : List Entry)
    → counted 0 history < counted 0 (history ++ es)
    → 0 < length es
some_more history [] more =
    let same : counted 0 (history ++ []) ≡ counted 0 history =
    ap (counted 0) (append-nil history) in
    absurd (omega (arith, more, same))
some_more history (e ∷ es) more = omega arith

-- a version stood for a history, and then one for that with the entries of these notes, of which
-- there is one at most: it is staged where there is one
leaves_staged : (history : List Entry) (notes : List Note) (old new : Version)
    (before after : Option (Option Version)) (is_staged : Bool)
    → length (filter_map entry_noted notes) ≤ 1
    → VersionStandsFor 0 history old
    → VersionStandsFor 0 (history ++ filter_map entry_noted notes) new
    → IsLaid old new before after is_staged → LeavesStaged notes new before after is_staged
leaves_staged history notes old new before after is_staged few stood stands laid =
    by laid.entered refl
  where
    by : (entered : Bool) → laid.entered ≡ entered → LeavesStaged notes new before after is_staged
    by false is =
        let was = stood.entries in
        let are = stands.entries in
        let same = ap (λ (v : Version). v.entries) (laid.kept is) in
        let longer = counted_more 0 history (filter_map entry_noted notes) in (
          carried after (λ o. o) (λ o. staged_after (filter_map entry_noted notes) new o)
              (none_left (filter_map entry_noted notes) new (omega (arith, was, are, same, longer)))
              before
              (subst (λ (b : Bool). IfSome before
              (λ staged. after ≡ Some (if b then Some new else staged))) is laid.staged),
          λ none. laid.free is,
        )
    by true is =
        let more = laid.made is history stood in
        let was = more.stands.entries in
        let are = stands.entries in
        let longer = counted_more 0 history (filter_map entry_noted notes) in
        let once = counted_more 0 history (more.entry ∷ []) in
        let some : 0 < length (filter_map entry_noted notes) =
        some_more history (filter_map entry_noted notes) (omega (arith, was, are, once)) in (
          carried after (λ o. Some new) (λ o. staged_after (filter_map entry_noted notes) new o)
              (one_left (filter_map entry_noted notes) new (omega (arith, few, some)))
              before
              (subst (λ (b : Bool). IfSome before
              (λ staged. after ≡ Some (if b then Some new else staged))) is laid.staged),
          λ none. let no = ap length none in absurd (omega (arith, some, no)),
        )

-- a step that was made, whose row has one entry at most, leaves its version staged where it made
-- one
pub made_staged : (rows : List Row) (r : Row) (d e : Seen) (before after : Option (Option Version))
    (is_staged : Bool) → length (entries_of r) ≤ 1
    → StandsFor rows d → StandsFor (r ∷ rows) e
    → IsLaid d.version e.version before after is_staged
    → LeavesStaged r.notes e.version before after is_staged
unfolding entries
made_staged rows r d e before after is_staged few stood stands laid =
    leaves_staged (entries rows) r.notes d.version e.version before after is_staged few
    stood.directory.history stands.directory.history laid
