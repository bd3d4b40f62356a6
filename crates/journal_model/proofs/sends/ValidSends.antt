-- Where 2.03 is sent: looks send it where the request names the tag; no other step sends it, and no
-- confirmable message has it.
use Rattle.std.proofs.Common.{
  option_map,
  ◌≡◌,
  ℕ,
  ◌+◌,
  ◌*◌,
  ◌/◌,
  ◌==◌,
  ◌||◌,
  ◌&&◌,
  Bool,
  true,
  false,
  not,
  List,
  [],
  ◌∷◌,
  length,
  Option,
  Some,
  None,
  refl,
  sym,
  ap,
  ◌∙◌,
  arith,
}
use Rattle.std.specs.Prelude.{is_some}
use Rattle.std.specs.List.{AllByRecursion}
use Rattle.std.proofs.lemmas.Bool.{false≢true, ne_eqb}
use Rattle.rd_base.specs.declared.peers.Peer.{Peer}
use Rattle.message_model.specs.declared.blocks.Block.{Block}
use Rattle.message_model.specs.declared.messages.Kind4.{Kind4}
use Rattle.message_model.specs.declared.messages.Kind4.TheVariants.{Con, Non, Ack, Rst}
use Rattle.message_model.specs.Message.{Message}
use Rattle.message_model.specs.Codes as codes_of
use Rattle.message_model.specs.Blocks.{block_of}
use Rattle.message_model.specs.Request.{path_in, observe_in}
use Rattle.message_model.specs.RequestKey.{key_in}
use Rattle.message_model.specs.Spelling.{kind_number, header_spelling, spelling}
use Rattle.record_model.specs.Discovery.{discovery}
use Rattle.history_model.specs.declared.entries.Entry.{Entry}
use Rattle.history_model.specs.Listing.{listing, tag}
use Rattle.history_model.specs.Sources.{source}
use Rattle.event_model.specs.KeptAnswers.{Answer, kept_answer}
use Rattle.event_model.specs.Observers.{observers, has_room_for, observe_value}
use Rattle.journal_model.specs.declared.steps.Step.{Step}
use Rattle.journal_model.specs.declared.rows.Row.{Row}
use Rattle.journal_model.specs.Journal.{events, entries}
use Rattle.journal_model.specs.Effects.{Reply, answer_kind, answer, answering}
use Rattle.journal_model.specs.Bodies.{part_reply, body_reply, is_long}
use Rattle.journal_model.specs.Requests.{
  query_of,
  asked_block,
  number_of,
  szx_of,
  is_lookup,
  is_discovery,
  is_later_block,
  register,
  deregister,
  is_heeded,
  reads_registration,
  only_looks,
}
use Rattle.journal_model.specs.Sought.{
  Sought,
  listing_of,
  source_of,
  own_links,
  sought_in,
  has_tag,
  is_found,
}
use Rattle.journal_model.specs.Looks.{
  Look,
  answered,
  held,
  names_tag,
  unless_long,
  unless_valid,
  found_or_not,
  look_for,
  look,
  look_sent,
  look_effects,
  keep_effects,
}
use Rattle.journal_model.specs.Lookups.{
  listing_now,
  found_now,
  block_now,
  block_of_found,
  block_of_kept,
  later_block,
  without,
  observed_if,
  observed,
  unobserved,
  observation_effects,
  first_block_effects,
  block_effects,
  lookup_effects,
  read_block_effects,
  read_effects,
  observing_by,
}
use Rattle.journal_model.specs.PlacedRows.{code_at, code_sent}

-- octets with another code than 2.03
abbrev pub NotValid : List ℕ → Type 0
NotValid octets = (code_at octets == codes_of.valid) ≡ false

-- all that is sent has another
abbrev pub NoneValid : List (Peer × List ℕ) → Type 0
NoneValid sent = AllByRecursion (λ (d : Peer × List ℕ). NotValid d.1) sent

-- the octets begin a confirmable message
abbrev pub is_confirmable : List ℕ → Bool
is_confirmable [] = false
is_confirmable (first ∷ others) = first / 16 == 4

-- whatever is confirmable has another code
abbrev pub NoConfirmableValid : List (Peer × List ℕ) → Type 0
NoConfirmableValid sent =
    AllByRecursion (λ (d : Peer × List ℕ). is_confirmable d.1 ≡ true → NotValid d.1) sent

-- it is so where nothing has this code
pub no_confirmable_valid : (sent : List (Peer × List ℕ)) → NoneValid sent → NoConfirmableValid sent
no_confirmable_valid [] h = tt
no_confirmable_valid (d ∷ sent) h = ((λ _. h.0), no_confirmable_valid sent h.1)

-- no answer is confirmable
pub answer_apart : (kind : Kind4) (n : ℕ)
    → ((1 * 64 + kind_number (answer_kind kind) * 16 + n) / 16 == 4) ≡ false
answer_apart Con n = ne_eqb _ _ (λ e. absurd (omega (arith, e)))
answer_apart Non n = ne_eqb _ _ (λ e. absurd (omega (arith, e)))
answer_apart Ack n = ne_eqb _ _ (λ e. absurd (omega (arith, e)))
answer_apart Rst n = ne_eqb _ _ (λ e. absurd (omega (arith, e)))

-- whatever it says
pub answers_apart : (s : Step) (m : Message) (reply : Reply)
    → is_confirmable (spelling (answer s m reply)) ≡ false
unfolding spelling header_spelling
answers_apart s m reply = answer_apart m.kind (length m.token)

-- ---- looks

-- so no look sends a confirmable 2.03
pub look_no_confirmable_valid : (history : List Entry) (moment : ℕ) (s : Step) (m : Message)
    → NoConfirmableValid (look_effects history moment s m).sent
unfolding look_effects answering
look_no_confirmable_valid history moment s m = by (look history moment m)
  where
    one : (reply : Reply) → NoConfirmableValid ((s.peer, spelling (answer s m reply)) ∷ [])
    one reply = ((λ e. absurd (false≢true (sym (answers_apart s m reply) ∙ e))), tt)

    by : (given : Option Look) → NoConfirmableValid (look_sent s m given).sent
    by None = tt
    by (Some (answered reply)) = one reply
    by (Some (held found)) = tt

-- a body is answered by 2.05 or 4.00
part_code : (tag : Option (List ℕ)) (observe : Option ℕ) (asked : Option Block)
    (part : Option (List ℕ × Bool))
    → ((part_reply tag observe asked part).code == codes_of.valid) ≡ false
part_code tag observe asked None = refl
part_code tag observe asked (Some part) = refl

-- whole or a block of it
pub body_code : (tag : Option (List ℕ)) (observe : Option ℕ) (asked : Option Block) (body : List ℕ)
    → ((body_reply tag observe asked body).code == codes_of.valid) ≡ false
unfolding body_reply
body_code tag observe asked body =
    part_code tag observe asked (block_of body (number_of asked) (szx_of asked))

-- a look of a listing, or of the source of a registration that is live, answers 2.03 exactly where
-- the request names the tag
pub look_valid : (history : List Entry) (moment : ℕ) (s : Step) (m : Message)
    → (code_sent (look_effects history moment s m).sent == codes_of.valid)
    ≡ (has_tag (sought_in m)
    && is_found (sought_in m) history moment
    && names_tag (tag history moment) m)
unfolding look_effects look answering spelling header_spelling
look_valid history moment s m = by (sought_in m)
  where
    now : List ℕ → Answer
    now whole = record { body = whole; tag = tag history moment }

    long : (b : Bool) (whole : List ℕ)
        → (code_sent (look_sent s m (Some (unless_long b m (now whole)))).sent == codes_of.valid)
        ≡ false
    long true whole = refl
    long false whole = body_code (Some (tag history moment)) None (asked_block m) whole

    valid : (b : Bool) (whole : List ℕ)
        → (code_sent (look_sent s m (Some (unless_valid b m (now whole)))).sent == codes_of.valid)
        ≡ b
    valid true whole = refl
    valid false whole = long (is_long (asked_block m) whole) whole

    of_source : (found : Option (List ℕ))
        → (code_sent (look_sent s m
        (Some (found_or_not (Some (tag history moment)) m found))).sent
        == codes_of.valid)
        ≡ (true && is_some found && names_tag (tag history moment) m)
    of_source None = refl
    of_source (Some whole) = valid (names_tag (tag history moment) m) whole

    by : (o : Option Sought)
        → (code_sent (look_sent s m (option_map (look_for history moment m) o)).sent
        == codes_of.valid)
        ≡ (has_tag o && is_found o history moment && names_tag (tag history moment) m)
    by None = refl
    by (Some (listing_of query)) =
        valid (names_tag (tag history moment) m) (listing query history moment)
    by (Some (source_of number)) = of_source (source number history moment)
    by (Some (own_links query)) = body_code None None (asked_block m) (discovery query)

-- ---- keeps and lookups

-- a keep
pub keep_not_valid : (s : Step) (m : Message) (body current : List ℕ)
    → NoneValid (keep_effects s m body current).sent
unfolding keep_effects answering spelling header_spelling
keep_not_valid s m body current = (body_code (Some current) None (asked_block m) body, tt)

-- a further block
later_not_valid : (rows : List Row) (moment : ℕ) (s : Step) (m : Message)
    → NoneValid (later_block rows moment s m).sent
unfolding later_block answering spelling header_spelling
later_not_valid rows moment s m =
    by (found_now rows moment m) (kept_answer moment (s.peer, key_in m) (events rows))
  where
    now_block : (answer : Answer) (part : Option (List ℕ × Bool))
        → NoneValid (block_now s m answer part).sent
    now_block answer None = (refl, tt)
    now_block answer (Some part) = (refl, tt)

    fresh : (found : Option Answer) → NoneValid (block_of_found s m found).sent
    fresh None = (refl, tt)
    fresh (Some answer) =
        now_block answer
        (block_of answer.body (number_of (asked_block m)) (szx_of (asked_block m)))

    by : (found kept : Option Answer) → NoneValid (block_of_kept s m found kept).sent
    by found (Some answer) = (body_code (Some answer.tag) None (asked_block m) answer.body, tt)
    by found None = fresh found

-- a read of a registration that is no look
pub read_not_valid : (rows : List Row) (moment : ℕ) (s : Step) (m : Message)
    → reads_registration m ≡ true
    → only_looks m ≡ false
    → NoneValid (read_effects rows moment s m).sent
unfolding read_effects
read_not_valid rows moment s m reads other = by (is_later_block m) refl
  where
    only : (a b : Bool)
        → is_later_block m ≡ false
        → (a || b || (reads_registration m && not (is_later_block m))) ≡ true
    only true b first = refl
    only false true first = refl
    only false false first = rw (reads, first) refl

    by : (b : Bool) → is_later_block m ≡ b → NoneValid (read_block_effects b rows moment s m).sent
    by true later_one = later_not_valid rows moment s m
    by false first =
        absurd (false≢true (sym other
        ∙ only (is_discovery (path_in m))
        (is_lookup (path_in m) && not (is_later_block m) && not (is_heeded (observe_in m))) first))

-- a lookup that is no look
pub lookup_not_valid : (rows : List Row) (moment : ℕ) (s : Step) (m : Message)
    → is_lookup (path_in m) ≡ true
    → only_looks m ≡ false
    → NoneValid (lookup_effects rows moment s m).sent
unfolding lookup_effects observed unobserved answering spelling header_spelling
lookup_not_valid rows moment s m lookup other = by (is_later_block m) refl
  where
    added : (b : Bool) → NoneValid (observed_if b rows s m (listing_now rows moment m)).sent
    added true = (
      body_code (Some (tag (entries rows) moment)) (Some (observe_value (events rows)))
          (asked_block m) (listing (query_of m) (entries rows) moment),
      tt,
    )
    added false = (
      body_code (Some (tag (entries rows) moment)) None (asked_block m)
          (listing (query_of m) (entries rows) moment),
      tt,
    )

    -- it is a look
    a_look : is_later_block m ≡ false → is_heeded (observe_in m) ≡ false → false ≡ true
    a_look first heeded =
        sym other
        ∙ only (is_discovery (path_in m)) (reads_registration m && not (is_later_block m))
      where
        only : (b c : Bool)
            → (b
            || (is_lookup (path_in m)
            && not (is_later_block m)
            && not (is_heeded (observe_in m)))
            || c)
            ≡ true
        only true c = refl
        only false c = rw (lookup, first, heeded) refl

    valued : (value : ℕ) (b c : Bool)
        → is_later_block m ≡ false
        → observe_in m ≡ Some value
        → (value == register) ≡ b
        → (value == deregister) ≡ c
        → NoneValid (observation_effects (observing_by b c) rows moment s m).sent
    valued value true c first has begins ends =
        added (has_room_for (query_of m) (without (s.peer, m.token) (observers (events rows))))
    valued value false true first has begins ends = added false
    valued value false false first has begins ends =
        absurd (false≢true (a_look first (ap is_heeded has ∙ rw (begins, ends) refl)))

    observe : (o : Option ℕ)
        → is_later_block m ≡ false
        → observe_in m ≡ o
        → NoneValid (first_block_effects o rows moment s m).sent
    observe None first has = absurd (false≢true (a_look first (ap is_heeded has)))
    observe (Some value) first has =
        valued value (value == register) (value == deregister) first has refl refl

    by : (b : Bool) → is_later_block m ≡ b → NoneValid (block_effects b rows moment s m).sent
    by true later_one = later_not_valid rows moment s m
    by false first = observe (observe_in m) first refl
