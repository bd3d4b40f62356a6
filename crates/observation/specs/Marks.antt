-- Marks of watched queries: which of them changes of the registrations set, and which observers
-- they make due (RFC 7641 section 4.2).
use Rattle.std.specs.Prelude.{◌≡◌, Bool, true, ◌||◌, List, map, fold, Some, None, if◌then◌else◌}
use Rattle.rd_base.specs.declared.queries.Query.{Query}
use Rattle.rd_base.specs.declared.records.Record.{Record}
use Rattle.watch_table.specs.WatchedQueries.{Watched, Table, is_marked_at, all_touched}
use Rattle.observers.specs.Standing.{Standing}

-- Returns a watched query after changes of the registrations. The test says whether its lines
-- changed. If so, the query is marked and its body is dropped.
abbrev pub touched_where : (Query → Bool) → Watched → Watched
touched_where test w = if test w.query then record w { marked = true; body = None } else w

-- Returns each of the watched queries after such changes.
abbrev pub all_touched_where : (Query → Bool) → Table → Table
all_touched_where test t = map (λ e. (e.0, touched_where test e.1)) t

-- Returns each of the watched queries after these records lapsed, one after another.
abbrev pub all_lapsed : List Record → Table → Table
all_lapsed records t = fold (λ before r. all_touched (Some r) None before) t records

-- Returns an observer, which is made due if its query is marked.
abbrev pub handed : Table → Standing → Standing
handed t w = record w { due = w.due || is_marked_at w.slot t }

-- States that the observer is due if its query is marked.
abbrev pub IsHanded : Table → Standing → Type 0
IsHanded t w = is_marked_at w.slot t ≡ true → w.due ≡ true
