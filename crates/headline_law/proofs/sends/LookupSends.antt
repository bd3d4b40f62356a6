-- What looks, lookups and reads of a registration send: blocks of what is found now, or of the kept
-- answer.
use Rattle.std.proofs.Common.{
  option_map,
  ◌≡◌,
  ℕ,
  ◌≤◌,
  ◌==◌,
  Bool,
  true,
  false,
  cond,
  List,
  [],
  ◌∷◌,
  length,
  Option,
  Some,
  None,
  refl,
  sym,
  ap,
  subst,
  ◌∙◌,
}
use Rattle.std.specs.List.{list_any, AllByRecursion}
use Rattle.std.proofs.lemmas.Bool.{false≢true}
use Rattle.std.proofs.lemmas.List.Folds.{list_any-append}
use Rattle.rd_base.specs.declared.peers.Peer.{Peer}
use Rattle.message_model.specs.Message.{Message, longest_token}
use Rattle.message_model.specs.Request.{path_in, observe_in}
use Rattle.message_model.specs.RequestKey.{key_in}
use Rattle.message_model.specs.Blocks.{block_of}
use Rattle.message_model.specs.Spelling.{header_spelling, spelling}
use Rattle.record_model.specs.Discovery.{discovery}
use Rattle.history_model.specs.declared.entries.Entry.{Entry}
use Rattle.history_model.specs.Listing.{listing, tag}
use Rattle.history_model.specs.Sources.{source}
use Rattle.event_model.specs.declared.notes.Note.{Note}
use Rattle.event_model.specs.declared.notes.Note.TheVariants as note
use Rattle.event_model.specs.KeptAnswers.{Answer, kept_answer}
use Rattle.event_model.specs.Observers.{observers, is_observer, has_room_for, observe_value}
use Rattle.journal_model.specs.declared.steps.Step.{Step}
use Rattle.journal_model.specs.declared.rows.Row.{Row}
use Rattle.journal_model.specs.Journal.{events, entries}
use Rattle.journal_model.specs.Effects.{Effects, answer_kind, answer_mid, answering}
use Rattle.journal_model.specs.Bodies.{is_long}
use Rattle.journal_model.specs.Requests.{
  query_of,
  asked_block,
  number_of,
  szx_of,
  is_lookup,
  is_later_block,
  register,
  deregister,
  reads_registration,
}
use Rattle.journal_model.specs.Sought.{Sought, listing_of, source_of, own_links, sought_in, has_tag}
use Rattle.journal_model.specs.Sought as seeking
use Rattle.journal_model.specs.Looks.{
  names_tag,
  unless_long,
  unless_valid,
  found_or_not,
  look_for,
  look,
  look_sent,
  look_effects,
  keep_effects,
}
use Rattle.journal_model.specs.Lookups.{
  listing_now,
  found_now,
  block_now,
  block_of_found,
  block_of_kept,
  later_block,
  removal,
  without,
  keeping,
  observed_if,
  observed,
  unobserved,
  observation_effects,
  first_block_effects,
  block_effects,
  lookup_effects,
  read_block_effects,
  read_effects,
  observing_by,
}
use Rattle.journal_model.proofs.notes.LookupNotes.{
  lookup_seeks,
  read_seeks,
  seeks_once,
  found_KeptAt,
}
use Rattle.journal_model.proofs.sends.BodyAnswers.{
  Wanted,
  wanted_by,
  request-usable,
  IsBodyOf,
  IsUntagged,
  HasNone,
  other_code,
  none_of_any,
  tag-length,
  part_bears,
  body_bears,
  body_untagged,
}
use Rattle.journal_model.proofs.StepNotes.{look_effects-notes}

-- a datagram goes to a peer, and each 2.05 has the block of this body that is wanted, under this
-- tag
abbrev pub IsAnswerOf : Peer → Wanted → List ℕ → List ℕ → Peer × List ℕ → Type 0
IsAnswerOf peer wanted body tag d = (d.0 ≡ peer) × IsBodyOf wanted body tag d.1

-- so is all that is sent
abbrev pub AreBodiesOf : Peer → Wanted → List ℕ → List ℕ → List (Peer × List ℕ) → Type 0
AreBodiesOf peer wanted body tag sent = AllByRecursion (IsAnswerOf peer wanted body tag) sent

-- what a request of a peer gets, from a history at a moment: a block of what is found of what it
-- seeks, or no body
pub data AreFound (peer : Peer) (m : Message) (history : List Entry) (moment : ℕ)
    (sent : List (Peer × List ℕ)) : Type 0 where
  of_body : (sought : Sought) (whole : List ℕ)
      → sought_in m ≡ Some sought
      → seeking.body sought history moment ≡ Some whole
      → AreBodiesOf peer (wanted_by m) whole (tag history moment) sent
      → AreFound peer m history moment sent
  of_none : AllByRecursion (λ (d : Peer × List ℕ). HasNone d.1) sent
      → AreFound peer m history moment sent

-- what a look sends: of what is found under a tag, or what has none
pub data LookOutcome (peer : Peer) (m : Message) (history : List Entry) (moment : ℕ)
    (sent : List (Peer × List ℕ)) : Type 0 where
  found : AreFound peer m history moment sent → LookOutcome peer m history moment sent
  discovered : has_tag (sought_in m) ≡ false
      → AllByRecursion (λ (d : Peer × List ℕ). IsUntagged d.1) sent
      → LookOutcome peer m history moment sent

-- so it is of each look
pub look_outcome : (history : List Entry) (moment : ℕ) (s : Step) (m : Message)
    → length m.token ≤ longest_token
    → LookOutcome s.peer m history moment (look_effects history moment s m).sent
unfolding look_effects look answering spelling header_spelling
look_outcome history moment s m small = by (sought_in m) refl
  where
    fresh : List ℕ → Answer
    fresh whole = record { body = whole; tag = tag history moment }

    long : (b : Bool) (whole : List ℕ)
        → AreBodiesOf s.peer (wanted_by m) whole (tag history moment)
        (look_sent s m (Some (unless_long b m (fresh whole)))).sent
    long true whole = tt
    long false whole = (
      (
        refl,
        body_bears (answer_kind m.kind) (answer_mid s m m.kind) m.token (tag history moment)
            None (asked_block m) whole small (tag-length history moment) (request-usable m),
      ),
      tt,
    )

    valid : (b : Bool) (whole : List ℕ)
        → AreBodiesOf s.peer (wanted_by m) whole (tag history moment)
        (look_sent s m (Some (unless_valid b m (fresh whole)))).sent
    valid true whole =
        ((refl, none_of_any (wanted_by m) whole (tag history moment) _ (other_code _ refl)), tt)
    valid false whole = long (is_long (asked_block m) whole) whole

    of_source : (number : ℕ) (o : Option (List ℕ))
        → sought_in m ≡ Some (source_of number)
        → source number history moment ≡ o
        → LookOutcome s.peer m history moment
        (look_sent s m (Some (found_or_not (Some (tag history moment)) m o))).sent
    of_source number None seeks is = found (of_none (other_code _ refl, tt))
    of_source number (Some whole) seeks is =
        found (of_body (source_of number) whole seeks is
        (valid (names_tag (tag history moment) m) whole))

    by : (o : Option Sought)
        → sought_in m ≡ o
        → LookOutcome s.peer m history moment
        (look_sent s m (option_map (look_for history moment m) o)).sent
    by None seeks = found (of_none tt)
    by (Some (listing_of query)) seeks =
        found (of_body (listing_of query) (listing query history moment) seeks refl
        (valid (names_tag (tag history moment) m) (listing query history moment)))
    by (Some (source_of number)) seeks = of_source number (source number history moment) seeks refl
    by (Some (own_links query)) seeks =
        discovered (ap has_tag seeks) (
          body_untagged (answer_kind m.kind) (answer_mid s m m.kind) m.token None (asked_block m)
              (discovery query) small,
          tt,
        )

-- so it is of what is found, where what is sought has a tag
look_found : (history : List Entry) (moment : ℕ) (s : Step) (m : Message)
    → length m.token ≤ longest_token
    → has_tag (sought_in m) ≡ true
    → AreFound s.peer m history moment (look_effects history moment s m).sent
look_found history moment s m small under = by (look_outcome history moment s m small)
  where
    by : LookOutcome s.peer m history moment (look_effects history moment s m).sent
        → AreFound s.peer m history moment (look_effects history moment s m).sent
    by (found it) = it
    by (discovered none all) = absurd (false≢true (sym none ∙ under))

-- a keep
pub keep_bears : (s : Step) (m : Message) (body tag : List ℕ)
    → length m.token ≤ longest_token
    → length tag ≡ 8
    → AreBodiesOf s.peer (wanted_by m) body tag (keep_effects s m body tag).sent
unfolding keep_effects answering
keep_bears s m body tag small short = (
  (
    refl,
    body_bears (answer_kind m.kind) (answer_mid s m m.kind) m.token tag None (asked_block m)
        body small short (request-usable m),
  ),
  tt,
)

-- the note reads a kept answer
abbrev pub reads_kept : Note → Bool
reads_kept (note.Used peer key) = true
reads_kept _ = false

-- what a lookup or a read of a registration sends: of what is found now, or a further block of the
-- kept answer, which it then uses
pub data LookupOutcome (rows : List Row) (moment : ℕ) (s : Step) (m : Message) (e : Effects) : Type
    0 where
  now : list_any reads_kept e.notes ≡ false → AreFound s.peer m (entries rows) moment e.sent
      → LookupOutcome rows moment s m e
  kept : (answer : Answer) → is_later_block m ≡ true
      → kept_answer moment (s.peer, key_in m) (events rows) ≡ Some answer
      → e.notes ≡ note.Used s.peer (key_in m) ∷ []
      → (length answer.tag ≡ 8 → AreBodiesOf s.peer (wanted_by m) answer.body answer.tag e.sent)
      → LookupOutcome rows moment s m e

-- so it is of a further block
later_outcome : (rows : List Row) (moment : ℕ) (s : Step) (m : Message)
    → length m.token ≤ longest_token
    → is_later_block m ≡ true
    → LookupOutcome rows moment s m (later_block rows moment s m)
unfolding later_block answering spelling header_spelling
later_outcome rows moment s m small further =
    by (found_now rows moment m) refl (kept_answer moment (s.peer, key_in m) (events rows)) refl
  where
    part_found : (a : Answer)
        → found_now rows moment m ≡ Some a
        → (part : Option (List ℕ × Bool))
        → block_of a.body (number_of (asked_block m)) (szx_of (asked_block m)) ≡ part
        → AreFound s.peer m (entries rows) moment (block_now s m a part).sent
    part_found a is part cut =
        let it = found_KeptAt rows moment m a is in
        of_body it.sought a.body (seeks_once (key_in m) it.sought m it.seeks refl) it.found
        (subst (λ t. AreBodiesOf s.peer (wanted_by m) a.body t (block_now s m a part).sent)
        it.tag_is
        (bears part cut
        (ap length it.tag_is ∙ tag-length (entries rows) moment)))
      where
        bears : (p : Option (List ℕ × Bool))
            → block_of a.body (number_of (asked_block m)) (szx_of (asked_block m)) ≡ p
            → length a.tag ≡ 8
            → AreBodiesOf s.peer (wanted_by m) a.body a.tag (block_now s m a p).sent
        bears None e short = (
          (
            refl,
            part_bears (answer_kind m.kind) (answer_mid s m m.kind) a.tag None (asked_block m)
                m.token a.body None small short (request-usable m) e,
          ),
          tt,
        )
        bears (Some p) e short = (
          (
            refl,
            part_bears (answer_kind m.kind) (answer_mid s m m.kind) a.tag None (asked_block m)
                m.token a.body (Some p) small short (request-usable m) e,
          ),
          tt,
        )

    now_block : (a : Answer)
        → found_now rows moment m ≡ Some a
        → (part : Option (List ℕ × Bool))
        → block_of a.body (number_of (asked_block m)) (szx_of (asked_block m)) ≡ part
        → LookupOutcome rows moment s m (block_now s m a part)
    now_block a is None cut = now refl (part_found a is None cut)
    now_block a is (Some part) cut = now refl (part_found a is (Some part) cut)

    fresh : (o : Option Answer)
        → found_now rows moment m ≡ o
        → LookupOutcome rows moment s m (block_of_found s m o)
    fresh None is = now refl (of_none (other_code _ refl, tt))
    fresh (Some a) is =
        now_block a is (block_of a.body (number_of (asked_block m)) (szx_of (asked_block m))) refl

    by : (o : Option Answer)
        → found_now rows moment m ≡ o
        → (held : Option Answer)
        → kept_answer moment (s.peer, key_in m) (events rows) ≡ held
        → LookupOutcome rows moment s m (block_of_kept s m o held)
    by o is (Some answer) e =
        kept answer further e refl
        (λ short. (
          (
            refl,
            body_bears (answer_kind m.kind)
                (answer_mid s m m.kind) m.token answer.tag None
                (asked_block m) answer.body small short
                (request-usable m),
          ),
          tt,
        ))
    by o is None e = fresh o is

-- so it is of a look of what has a tag
look_now : (rows : List Row) (moment : ℕ) (s : Step) (m : Message)
    → length m.token ≤ longest_token
    → has_tag (sought_in m) ≡ true
    → LookupOutcome rows moment s m (look_effects (entries rows) moment s m)
look_now rows moment s m small under =
    now (ap (list_any reads_kept) (look_effects-notes (entries rows) moment s m))
    (look_found (entries rows) moment s m small under)

-- so it is of each read of a registration
pub read_outcome : (rows : List Row) (moment : ℕ) (s : Step) (m : Message)
    → length m.token ≤ longest_token
    → reads_registration m ≡ true
    → LookupOutcome rows moment s m (read_effects rows moment s m)
unfolding read_effects
read_outcome rows moment s m small reads = by (is_later_block m) refl
  where
    by : (b : Bool) → is_later_block m ≡ b
        → LookupOutcome rows moment s m (read_block_effects b rows moment s m)
    by true further = later_outcome rows moment s m small further
    by false first = look_now rows moment s m small (read_seeks m reads)

-- so it is of each lookup that the journal takes part in
pub lookup_outcome : (rows : List Row) (moment : ℕ) (s : Step) (m : Message)
    → length m.token ≤ longest_token
    → is_lookup (path_in m) ≡ true
    → LookupOutcome rows moment s m (lookup_effects rows moment s m)
unfolding lookup_effects observed unobserved answering
lookup_outcome rows moment s m small lookup = by (is_later_block m) refl
  where
    lists : (sent : List (Peer × List ℕ))
        → AreBodiesOf s.peer (wanted_by m) (listing (query_of m) (entries rows) moment)
        (tag (entries rows) moment) sent
        → AreFound s.peer m (entries rows) moment sent
    lists sent all =
        of_body (listing_of (query_of m)) (listing (query_of m) (entries rows) moment)
        (lookup_seeks m lookup) refl all

    removed : (b : Bool) (peer : Peer) (token : List ℕ)
        → list_any reads_kept (cond b (note.Unwatched peer token ∷ []) []) ≡ false
    removed true peer token = refl
    removed false peer token = refl

    keeps : (b : Bool) (a : Answer)
        → list_any reads_kept (cond b (note.Kept s.peer (key_in m) a.body a.tag ∷ []) []) ≡ false
    keeps true a = refl
    keeps false a = refl

    ends : list_any reads_kept (removal (s.peer, m.token) (observers (events rows))) ≡ false
    ends = removed (is_observer (s.peer, m.token) (observers (events rows))) s.peer m.token

    keeping_now : list_any reads_kept (keeping s m (listing_now rows moment m)) ≡ false
    keeping_now =
        keeps (is_long (asked_block m) (listing_now rows moment m).body) (listing_now rows moment m)

    added : (b : Bool)
        → LookupOutcome rows moment s m (observed_if b rows s m (listing_now rows moment m))
    added true = now
        (list_any-append reads_kept (removal (s.peer, m.token) (observers (events rows))) _
        ∙ rw (ends, keeping_now) refl)
        (lists _ (
          (
            refl,
            body_bears (answer_kind m.kind) (answer_mid s m m.kind) m.token
                (tag (entries rows) moment) (Some (observe_value (events rows))) (asked_block m)
                (listing (query_of m) (entries rows) moment) small
                (tag-length (entries rows) moment)
                (request-usable m),
          ),
          tt,
        ))
    added false = now
        (list_any-append reads_kept (removal (s.peer, m.token) (observers (events rows))) _
        ∙ rw (ends, keeping_now) refl)
        (lists _ (
          (
            refl,
            body_bears (answer_kind m.kind) (answer_mid s m m.kind) m.token
                (tag (entries rows) moment) None (asked_block m)
                (listing (query_of m) (entries rows) moment) small
                (tag-length (entries rows) moment)
                (request-usable m),
          ),
          tt,
        ))

    only_looked : LookupOutcome rows moment s m (look_effects (entries rows) moment s m)
    only_looked = look_now rows moment s m small (ap has_tag (lookup_seeks m lookup))

    valued : (b c : Bool)
        → LookupOutcome rows moment s m (observation_effects (observing_by b c) rows moment s m)
    valued true c =
        added (has_room_for (query_of m) (without (s.peer, m.token) (observers (events rows))))
    valued false true = added false
    valued false false = only_looked

    observe : (o : Option ℕ) → LookupOutcome rows moment s m (first_block_effects o rows moment s m)
    observe None = only_looked
    observe (Some value) = valued (value == register) (value == deregister)

    by : (b : Bool) → is_later_block m ≡ b
        → LookupOutcome rows moment s m (block_effects b rows moment s m)
    by true further = later_outcome rows moment s m small further
    by false first = observe (observe_in m)
