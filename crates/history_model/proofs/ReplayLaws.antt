-- The entries of a history, one after another, and what one of them makes of a state.
use Rattle.std.proofs.Common.{
  ◌≡◌,
  ℕ,
  ◌+◌,
  Bool,
  true,
  false,
  not,
  cond,
  List,
  [],
  ◌∷◌,
  ◌++◌,
  filter,
  Option,
  Some,
  None,
  refl,
  sym,
  eqb-true,
  max,
  ◌≤◌,
  arith,
}
use Rattle.std.proofs.lemmas.List.Sums.{fold_push}
use Rattle.rd_base.specs.declared.moments.Moment.{Moment}
use Rattle.rd_base.specs.declared.parameters.RegParams.{RegParams}
use Rattle.rd_base.specs.declared.parameters.UpdateParams.{UpdateParams}
use Rattle.rd_base.specs.declared.peers.Peer.{Peer}
use Rattle.rd_base.specs.declared.records.Record.{Record}
use Rattle.rd_base.specs.declared.submitted_links.SubmittedLink.{SubmittedLink}
use Rattle.record_model.specs.Records.{registered, updated}
use Rattle.history_model.specs.declared.entries.Change.{Change}
use Rattle.history_model.specs.declared.entries.Change.TheVariants as change
use Rattle.history_model.specs.declared.entries.Entry.{Entry}
use Rattle.history_model.specs.Replay.{
  State,
  empty,
  is_numbered,
  number_named,
  with_changed,
  replaced,
  registered_under,
  changed,
  apply,
  replay,
  lifted,
  count_after,
  counted,
}
use Rattle.history_model.specs.Live.{last_moment}

-- ---- histories

-- without an entry
pub replay-nil : replay [] ≡ empty
unfolding replay
replay-nil = refl

-- with one entry more, a history makes what the entry makes of what it made before
pub replay_push : (history : List Entry) (entry : Entry)
    → replay (history ++ entry ∷ []) ≡ apply (replay history) entry
unfolding replay
replay_push history entry = fold_push apply empty history entry

pub last_moment-nil : last_moment [] ≡ 0
unfolding last_moment
last_moment-nil = refl

pub last_moment_push : (history : List Entry) (entry : Entry)
    → last_moment (history ++ entry ∷ []) ≡ entry.moment.0
unfolding last_moment
last_moment_push history entry = fold_push (λ (before : ℕ) (e : Entry). e.moment.0) 0 history entry

-- ---- counts

-- without an entry
pub counted-nil : (first : ℕ) → counted first [] ≡ first
unfolding counted
counted-nil first = refl

-- with one entry more
pub counted_push : (first : ℕ) (history : List Entry) (entry : Entry)
    → counted first (history ++ entry ∷ []) ≡ count_after (counted first history) entry
unfolding counted
counted_push first history entry = fold_push count_after first history entry

-- no change follows a lower count
pub lifted-above : (count : ℕ) (c : Change) → count ≤ lifted count c
lifted-above count (change.Register params links) = omega arith
lifted-above count (change.Update number given) = omega arith
lifted-above count (change.Replace number links) = omega arith
lifted-above count (change.Remove number) = omega arith
lifted-above count (change.Begin first) = omega arith

-- as many are counted at least as were before
pub counted-above : (first : ℕ) (history : List Entry) → first ≤ counted first history
unfolding counted
counted-above first [] = omega arith
counted-above first (e ∷ es) =
    let low = lifted-above first e.change in
    let more = counted-above (count_after first e) es in
    omega (arith, low, more)

-- ---- what an entry makes

-- by the kind of the change
-- An end theorem: nothing here cites it.
pub apply-Register : (state : State) (now : Moment) (worker : ℕ) (peer : Peer) (params : RegParams)
    (links : List SubmittedLink)
    → apply state (record
    { moment = now; worker = worker; peer = peer; change = change.Register params links })
    ≡ registered_under (number_named params.name now.0 state.records) state now peer params
    links
unfolding apply
apply-Register state now worker peer params links = refl

-- An end theorem: nothing here cites it.
pub apply-Update : (state : State) (now : Moment) (worker : ℕ) (peer : Peer) (number : ℕ)
    (given : UpdateParams)
    → apply state (record
    { moment = now; worker = worker; peer = peer; change = change.Update number given })
    ≡ record {
      records = with_changed number (updated now peer given) state.records;
      last_number = state.last_number;
    }
unfolding apply
apply-Update state now worker peer number given = refl

-- An end theorem: nothing here cites it.
pub apply-Replace : (state : State) (now : Moment) (worker : ℕ) (peer : Peer) (number : ℕ)
    (links : List SubmittedLink)
    → apply state (record
    { moment = now; worker = worker; peer = peer; change = change.Replace number links })
    ≡ record {
      records = with_changed number (replaced links) state.records;
      last_number = state.last_number;
    }
unfolding apply
apply-Replace state now worker peer number links = refl

-- An end theorem: nothing here cites it.
pub apply-Remove : (state : State) (now : Moment) (worker : ℕ) (peer : Peer) (number : ℕ)
    → apply state
    (record { moment = now; worker = worker; peer = peer; change = change.Remove number })
    ≡ record {
      records = filter (λ r. not (is_numbered number r)) state.records;
      last_number = state.last_number;
    }
unfolding apply
apply-Remove state now worker peer number = refl

-- An end theorem: nothing here cites it.
pub apply-Begin : (state : State) (now : Moment) (worker : ℕ) (peer : Peer) (first : ℕ)
    → apply state
    (record { moment = now; worker = worker; peer = peer; change = change.Begin first })
    ≡ record { records = state.records; last_number = max state.last_number first }
unfolding apply
apply-Begin state now worker peer first = refl

-- where each record of the number keeps it, and none is granted after the moment
pub record KeepsNumber (moment number : ℕ) (new : Record → Record) : Type 0 where
  pub keeps : (r : Record) → r.number ≡ number → (new r).number ≡ r.number
  pub granted : (r : Record) → r.granted.0 ≤ moment → (new r).granted.0 ≤ moment

pub registered-KeepsNumber : (number : ℕ) (now : Moment) (peer : Peer) (params : RegParams)
    (links : List SubmittedLink)
    → KeepsNumber now.0 number (λ r. registered number now peer params links)
unfolding registered
registered-KeepsNumber number now peer params links = record {
  keeps = λ r e. sym e;
  granted = λ r by_then. omega arith;
}

pub updated-KeepsNumber : (number : ℕ) (now : Moment) (peer : Peer) (given : UpdateParams)
    → KeepsNumber now.0 number (updated now peer given)
unfolding updated
updated-KeepsNumber number now peer given = record {
  keeps = λ r e. refl;
  granted = λ r by_then. omega arith;
}

pub replaced-KeepsNumber : (number moment : ℕ) (links : List SubmittedLink)
    → KeepsNumber moment number (replaced links)
unfolding replaced
replaced-KeepsNumber number moment links = record {
  keeps = λ r e. refl;
  granted = λ r by_then. by_then;
}

-- what holds after each kind of change, holds after an entry
pub by_change : (P : State → Type 0) (state : State) (entry : Entry)
    → ((number : ℕ) (new : Record → Record)
    → KeepsNumber entry.moment.0 number new
    → P (record state { records = with_changed number new state.records }))
    → ((r : Record)
    → r.number ≡ state.last_number + 1
    → r.granted.0 ≡ entry.moment.0
    → P (record { records = state.records ++ r ∷ []; last_number = state.last_number + 1 }))
    → ((number : ℕ)
    → P (record state { records = filter (λ r. not (is_numbered number r)) state.records }))
    → ((first : ℕ)
    → entry.change ≡ change.Begin first
    → P (record state { last_number = max state.last_number first }))
    → P (apply state entry)
unfolding apply registered
by_change P state entry replaces appends removes begins = of_change entry.change refl
  where
    of_number : (o : Option ℕ) (params : RegParams) (links : List SubmittedLink)
        → P (registered_under o state entry.moment entry.peer params links)
    of_number (Some number) params links =
        replaces number (λ r. registered number entry.moment entry.peer params links)
        (registered-KeepsNumber number entry.moment entry.peer params links)
    of_number None params links =
        appends (registered (state.last_number + 1) entry.moment entry.peer params links) refl refl

    of_change : (c : Change) → entry.change ≡ c → P (changed state entry.moment entry.peer c)
    of_change (change.Register params links) is =
        of_number (number_named params.name entry.moment.0 state.records) params links
    of_change (change.Update number given) is =
        replaces number (updated entry.moment entry.peer given)
        (updated-KeepsNumber number entry.moment entry.peer given)
    of_change (change.Replace number links) is =
        replaces number (replaced links)
        (replaced-KeepsNumber number entry.moment.0 links)
    of_change (change.Remove number) is = removes number
    of_change (change.Begin first) is = begins first is

-- a record that a change may be about keeps its number
pub changed_number : (moment number : ℕ) (new : Record → Record)
    → KeepsNumber moment number new
    → (r : Record)
    → (cond (is_numbered number r) (new r) r).number ≡ r.number
changed_number moment number new keeps r = by (is_numbered number r) refl
  where
    by : (b : Bool) → is_numbered number r ≡ b → (cond b (new r) r).number ≡ r.number
    by true e = keeps.keeps r (eqb-true r.number number e)
    by false e = refl
