-- Lookups and reads of a registration that need the journal: later blocks of a body, and
-- observation (RFC 7959 section 2.4, RFC 7641 sections 3 and 4.1).
use Rattle.std.specs.Prelude.{
  ℕ,
  Bool,
  true,
  false,
  not,
  ◌==◌,
  List,
  [],
  ◌∷◌,
  ◌++◌,
  filter,
  Option,
  Some,
  None,
  option_and_then,
  if◌then◌else◌,
}
use Rattle.message_model.specs.Message.{Message}
use Rattle.message_model.specs.Request.{observe_in}
use Rattle.message_model.specs.RequestKey.{key_in}
use Rattle.message_model.specs.Blocks.{block_of}
use Rattle.history_model.specs.Listing.{listing, tag}
use Rattle.event_model.specs.declared.notes.Note.{Note}
use Rattle.event_model.specs.declared.notes.Note.TheVariants as note
use Rattle.event_model.specs.declared.notes.Observer.{Observer}
use Rattle.event_model.specs.Same.{RequestName, is_same_request}
use Rattle.event_model.specs.KeptAnswers.{Answer, kept_answer}
use Rattle.event_model.specs.Observers.{
  name_of,
  observers,
  is_observer,
  has_room_for,
  observe_value,
}
use Rattle.journal_model.specs.declared.steps.Step.{Step}
use Rattle.journal_model.specs.declared.rows.Row.{Row}
use Rattle.journal_model.specs.Journal.{events, entries}
use Rattle.journal_model.specs.Effects.{Effects, answering}
use Rattle.journal_model.specs.Requests.{
  query_of,
  asked_block,
  number_of,
  szx_of,
  is_later_block,
  register,
  deregister,
}
use Rattle.journal_model.specs.Bodies.{body_reply, part_reply, is_long}
use Rattle.journal_model.specs.Sought.{sought_in, answer_for}
use Rattle.journal_model.specs.Looks.{not_live, look_effects}

-- Returns the listing of a lookup now, and its tag.
abbrev pub listing_now : List Row → ℕ → Message → Answer
listing_now rows moment m = record {
  body = listing (query_of m) (entries rows) moment;
  tag = tag (entries rows) moment;
}

-- Returns what is found now of what a request seeks, and its tag. There is none if a registration
-- is not live.
abbrev pub found_now : List Row → ℕ → Message → Option Answer
found_now rows moment m =
    option_and_then (λ sought. answer_for sought (entries rows) moment) (sought_in m)

-- Sends a block of what is found now, which is kept if it has that block.
abbrev pub block_now : Step → Message → Answer → Option (List ℕ × Bool) → Effects
block_now s m answer None =
    answering s m (part_reply (Some answer.tag) None (asked_block m) None) []
block_now s m answer (Some part) =
    answering s m (part_reply (Some answer.tag) None (asked_block m) (Some part))
    (note.Kept s.peer (key_in m) answer.body answer.tag ∷ [])

-- Sends a later block of what is found now, or 4.04 if nothing is.
abbrev pub block_of_found : Step → Message → Option Answer → Effects
block_of_found s m None = answering s m not_live []
block_of_found s m (Some fresh) =
    block_now s m fresh (block_of fresh.body (number_of (asked_block m)) (szx_of (asked_block m)))

-- Sends a later block of the kept answer, or else of what is found now. To read the kept answer is
-- a use of it, even if the block lies after its end.
abbrev pub block_of_kept : Step → Message → Option Answer → Option Answer → Effects
block_of_kept s m fresh (Some answer) =
    answering s m (body_reply (Some answer.tag) None (asked_block m) answer.body)
    (note.Used s.peer (key_in m) ∷ [])
block_of_kept s m fresh None = block_of_found s m fresh

-- Sends a later block of what a request seeks.
unfoldable pub later_block : List Row → ℕ → Step → Message → Effects
later_block rows moment s m =
    block_of_kept s m (found_now rows moment m)
    (kept_answer moment (s.peer, key_in m) (events rows))

-- Returns the note that removes an observer with the same peer and token.
abbrev pub removal : RequestName → List Observer → List Note
removal name standing = if is_observer name standing then note.Unwatched name.0 name.1 ∷ [] else []

-- Returns the observers that are then left.
abbrev pub without : RequestName → List Observer → List Observer
without name standing = filter (λ o. not (is_same_request (name_of o) name)) standing

-- Returns the observer that a request asks to be.
abbrev pub observer_of : Step → Message → Observer
observer_of s m = record {
  peer = s.peer;
  token = m.token;
  query = query_of m;
  key = key_in m;
  szx = szx_of (asked_block m);
}

-- Returns the notes that add an observer, whose first listing was built.
abbrev pub addition : Observer → List ℕ → List Note
addition o body = note.Watched o ∷ note.Formed o.peer o.token body None ∷ []

-- Returns the note that keeps an answer, if it is longer than the block size.
abbrev pub keeping : Step → Message → Answer → List Note
keeping s m answer =
    if is_long (asked_block m) answer.body
    then note.Kept s.peer (key_in m) answer.body answer.tag ∷ []
    else []

-- Answers a request to observe: with an Observe value if the observer is added, and otherwise
-- without.
abbrev pub observed_if : Bool → List Row → Step → Message → Answer → Effects
observed_if true rows s m answer =
    answering s m (body_reply (Some answer.tag) (Some (observe_value (events rows))) (asked_block m)
    answer.body)
    (removal (s.peer, m.token) (observers (events rows))
    ++ (addition (observer_of s m) answer.body ++ keeping s m answer))
observed_if false rows s m answer =
    answering s m (body_reply (Some answer.tag) None (asked_block m) answer.body)
    (removal (s.peer, m.token) (observers (events rows)) ++ keeping s m answer)

-- Answers a lookup that asks to observe. An observer with the same peer and token is removed first,
-- and one is added if there is room for it.
unfoldable pub observed : List Row → ℕ → Step → Message → Effects
observed rows moment s m =
    observed_if (has_room_for (query_of m) (without (s.peer, m.token) (observers (events rows))))
    rows s m (listing_now rows moment m)

-- Answers a lookup that asks to observe no more.
unfoldable pub unobserved : List Row → ℕ → Step → Message → Effects
unobserved rows moment s m = observed_if false rows s m (listing_now rows moment m)

-- What a value of Observe asks for (RFC 7641 section 2).
pub data Observing : Type 0 where
  begin_observing : Observing
  end_observing : Observing
  neither : Observing

-- Returns what a value of Observe asks for, by whether it begins an observation, and otherwise
-- whether it ends one.
abbrev pub observing_by : Bool → Bool → Observing
observing_by true ends = begin_observing
observing_by false true = end_observing
observing_by false false = neither

-- Answers a lookup that asks to begin an observation, to end it, or neither.
abbrev pub observation_effects : Observing → List Row → ℕ → Step → Message → Effects
observation_effects begin_observing rows moment s m = observed rows moment s m
observation_effects end_observing rows moment s m = unobserved rows moment s m
observation_effects neither rows moment s m = look_effects (entries rows) moment s m

-- Answers a lookup of a first block, by its Observe value.
abbrev pub first_block_effects : Option ℕ → List Row → ℕ → Step → Message → Effects
first_block_effects None rows moment s m = look_effects (entries rows) moment s m
first_block_effects (Some value) rows moment s m =
    observation_effects (observing_by (value == register) (value == deregister)) rows moment s m

-- Answers a lookup of a later block, which ignores Observe, or of a first one.
abbrev pub block_effects : Bool → List Row → ℕ → Step → Message → Effects
block_effects true rows moment s m = later_block rows moment s m
block_effects false rows moment s m = first_block_effects (observe_in m) rows moment s m

-- Does a lookup that needs the journal.
unfoldable pub lookup_effects : List Row → ℕ → Step → Message → Effects
lookup_effects rows moment s m = block_effects (is_later_block m) rows moment s m

-- Does a read of a registration, of a later block or of a first one.
abbrev pub read_block_effects : Bool → List Row → ℕ → Step → Message → Effects
read_block_effects true rows moment s m = later_block rows moment s m
read_block_effects false rows moment s m = look_effects (entries rows) moment s m

-- Does a read of a registration, which ignores Observe.
unfoldable pub read_effects : List Row → ℕ → Step → Message → Effects
read_effects rows moment s m = read_block_effects (is_later_block m) rows moment s m
