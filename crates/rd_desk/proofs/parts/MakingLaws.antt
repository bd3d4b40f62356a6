-- What a journal shows of a row that is being made, when it begins and with one thing more.
use Rattle.std.proofs.Common.{
  ◌≡◌,
  ℕ,
  ◌<◌,
  ◌&&◌,
  ◌||◌,
  Bool,
  true,
  false,
  cond,
  List,
  [],
  ◌∷◌,
  ◌++◌,
  length,
  find,
  Option,
  Some,
  option_map,
  unwrap_or,
  refl,
  sym,
  ap,
  ◌∙◌,
  append-nil,
}
use Rattle.std.specs.List.{list_any}
use Rattle.std.proofs.lemmas.Bool.{false≢true}
use Rattle.std.proofs.lemmas.List.Folds.{list_any-append}
use Rattle.rd_base.specs.declared.peers.Peer.{Peer}
use Rattle.rd_base.proofs.lemmas.Each.{each_append, each_weaker}
use Rattle.history_model.specs.declared.entries.Entry.{Entry}
use Rattle.event_model.specs.declared.notes.Note.{Note}
use Rattle.event_model.specs.declared.notes.Note.TheVariants as note
use Rattle.event_model.specs.Same.{is_same_peer}
use Rattle.journal_model.specs.declared.steps.Step.{Step}
use Rattle.journal_model.specs.declared.rows.Row.{Row}
use Rattle.journal_model.specs.Effects.{Effects, nothing, joined}
use Rattle.journal_model.specs.Journal.{entries, now}
use Rattle.journal_model.specs.Rows.{row_with, row_moment}
use Rattle.journal_model.specs.Ticks.{is_confirmable_with, octets_sent}
use Rattle.journal_model.specs.UnfinishedRow.{making}
use Rattle.journal_model.proofs.EntriesNoted.{entries_in, entries_in-append}
use Rattle.journal_model.proofs.observers.SentOctets.{octets_sent-before, octets_sent-own}
use Rattle.coap_answers.specs.Sendings.{is_confirmable_sent, IsRequestSent, AreRequestsSent}

-- it enters nothing when it begins
pub entries-making_nothing : (rows : List Row) (s : Step) (starved : Bool)
    → entries (making rows s starved nothing) ≡ entries rows
unfolding entries
entries-making_nothing rows s starved = append-nil (entries rows)

-- what is done next leaves its moment
pub now-making_joined : (rows : List Row) (s : Step) (starved : Bool) (done more : Effects)
    → now (making rows s starved (joined done more)) ≡ now (making rows s starved done)
unfolding now
now-making_joined rows s starved done more = refl

-- and the entries, where it enters none
pub entries-making_joined : (rows : List Row) (s : Step) (starved : Bool) (done more : Effects)
    → entries_in more.notes ≡ []
    → entries (making rows s starved (joined done more)) ≡ entries (making rows s starved done)
unfolding entries
entries-making_joined rows s starved done more none =
    ap (λ (es : List Entry). entries rows ++ es)
    (entries_in-append done.notes more.notes
    ∙ (ap (λ (es : List Entry). entries_in done.notes ++ es) none
    ∙ append-nil (entries_in done.notes)))

-- ---- what it sent

-- the first that passes a test is the first among more
find_front : {A : Type 0} (test : A → Bool) (xs ys : List A)
    → list_any test xs ≡ true
    → find test (xs ++ ys) ≡ find test xs
find_front test [] ys some = absurd (false≢true some)
find_front test (x ∷ xs) ys some = by (test x) some (λ h. find_front test xs ys h)
  where
    by : (b : Bool)
        → (b || list_any test xs) ≡ true
        → (list_any test xs ≡ true → find test (xs ++ ys) ≡ find test xs)
        → cond b (Some x) (find test (xs ++ ys)) ≡ cond b (Some x) (find test xs)
    by true h more = refl
    by false h more = more h

-- earlier rows sent the same octets, whatever it sends
pub octets-making_before : (rows : List Row) (s : Step) (starved : Bool) (done more : Effects)
    (place : ℕ) (peer : Peer) (mid : ℕ)
    → place < length rows
    → octets_sent (making rows s starved (joined done more)) place peer mid
    ≡ octets_sent (making rows s starved done) place peer mid
octets-making_before rows s starved done more place peer mid low =
    octets_sent-before rows (row_with s (row_moment rows s) starved (joined done more)) place peer
    mid low
    ∙ sym (octets_sent-before rows (row_with s (row_moment rows s) starved done) place peer mid low)

-- and of a message that it sent it sent the same
pub octets-making_own : (rows : List Row) (s : Step) (starved : Bool) (done more : Effects)
    (peer : Peer) (mid : ℕ)
    → is_confirmable_sent done.sent peer mid ≡ true
    → octets_sent (making rows s starved (joined done more)) (length rows) peer mid
    ≡ octets_sent (making rows s starved done) (length rows) peer mid
octets-making_own rows s starved done more peer mid some =
    octets_sent-own rows (row_with s (row_moment rows s) starved (joined done more)) peer mid
    ∙ (ap (λ (d : Option (Peer × List ℕ)). unwrap_or (option_map (λ (x : Peer × List ℕ). x.1) d) [])
    (find_front (λ (d : Peer × List ℕ). is_same_peer d.0 peer && is_confirmable_with mid d.1)
    done.sent more.sent some)
    ∙ sym (octets_sent-own rows (row_with s (row_moment rows s) starved done) peer mid))

-- ---- requests of fetches

-- a request that is sent is among more
is_request-front : (sent more : List (Peer × List ℕ)) (n : Note)
    → IsRequestSent sent n
    → IsRequestSent (sent ++ more) n
is_request-front sent more (note.Asked peer token mid params number) h =
    list_any-append (λ (d : Peer × List ℕ). is_same_peer d.0 peer && is_confirmable_with mid d.1)
    sent more
    ∙ rw h refl
is_request-front sent more _ h = tt

is_request-behind : (sent more : List (Peer × List ℕ)) (n : Note)
    → IsRequestSent more n
    → IsRequestSent (sent ++ more) n
is_request-behind sent more (note.Asked peer token mid params number) h =
    list_any-append (λ (d : Peer × List ℕ). is_same_peer d.0 peer && is_confirmable_with mid d.1)
    sent more
    ∙ rw h (or_true (is_confirmable_sent sent peer mid))
  where
    or_true : (b : Bool) → (b || true) ≡ true
    or_true true = refl
    or_true false = refl
is_request-behind sent more _ h = tt

-- what is noted one after the other is sent one after the other
pub requests-joined : (done more : Effects)
    → AreRequestsSent done
    → AreRequestsSent more
    → AreRequestsSent (joined done more)
requests-joined done more h g =
    each_append (IsRequestSent (done.sent ++ more.sent)) done.notes more.notes
    (each_weaker (IsRequestSent done.sent) (IsRequestSent (done.sent ++ more.sent))
    (is_request-front done.sent more.sent) done.notes h)
    (each_weaker (IsRequestSent more.sent) (IsRequestSent (done.sent ++ more.sent))
    (is_request-behind done.sent more.sent) more.notes g)
