-- What notes say of what their row sends: the answer that settles a write is that of its commit; a
-- body that was built for an observer is sent to it; and a kept answer has a tag of eight octets.
use Rattle.std.proofs.Common.{
  ◌≡◌,
  inl,
  inr,
  ℕ,
  ◌≤◌,
  ◌==◌,
  Bool,
  true,
  false,
  cond,
  List,
  [],
  ◌∷◌,
  ◌++◌,
  length,
  Option,
  Some,
  None,
  codes,
  nat_le,
  Result,
  Ok,
  Err,
  refl,
  sym,
  ap,
  subst,
  ◌∙◌,
  arith,
}
use Rattle.std.specs.List.{AllByRecursion}
use Rattle.std.proofs.lemmas.Bool.{and_parts, false≢true, ltb-false}
use Rattle.rd_base.specs.declared.peers.Peer.{Peer}
use Rattle.rd_base.proofs.lemmas.Among.{Among, among_front}
use Rattle.rd_base.proofs.lemmas.Each.{each_append, each_weaker}
use Rattle.message_model.specs.declared.blocks.Block.{Block}
use Rattle.message_model.specs.declared.messages.Kind4.{Kind4}
use Rattle.message_model.specs.declared.messages.Role.{Role}
use Rattle.message_model.specs.declared.messages.Role.TheVariants as role
use Rattle.message_model.specs.declared.messages.Unread.{Unread}
use Rattle.message_model.specs.OptionTable.{first_bad_option}
use Rattle.message_model.specs.declared.requests.Path.{Path}
use Rattle.message_model.specs.declared.requests.Path.TheVariants as path
use Rattle.message_model.specs.Codes as codes_of
use Rattle.message_model.specs.Message.{Message, role_of, longest_token}
use Rattle.message_model.specs.Blocks.{block_of}
use Rattle.message_model.specs.Reading.{reading}
use Rattle.message_model.specs.Request.{path_in, observe_in}
use Rattle.message_model.specs.RequestKey.{key_in}
use Rattle.message_model.specs.Spelling.{spelling}
use Rattle.message_model.proofs.ReadingLaws.{header_read}
use Rattle.history_model.specs.Listing.{tag}
use Rattle.event_model.specs.declared.notes.Note.{Note}
use Rattle.event_model.specs.declared.notes.Note.TheVariants as note
use Rattle.event_model.specs.KeptAnswers.{Answer, kept_answer}
use Rattle.event_model.specs.Observers.{observers, is_observer, has_room_for, observe_value}
use Rattle.event_model.specs.Fetches.{max_fetches, fetches, is_fetching}
use Rattle.journal_model.proofs.notes.BeginNotes.{beginning-notes}
use Rattle.journal_model.specs.Beginnings.{beginning}
use Rattle.journal_model.specs.declared.steps.Step.{Step}
use Rattle.journal_model.specs.declared.steps.StepKind.{StepKind}
use Rattle.journal_model.specs.declared.steps.StepKind.TheVariants as step
use Rattle.journal_model.specs.declared.rows.Row.{Row}
use Rattle.journal_model.specs.Journal.{events, entries}
use Rattle.journal_model.specs.Effects.{
  Reply,
  bare,
  diagnostic,
  answer_kind,
  answer_mid,
  answer,
  answering,
}
use Rattle.journal_model.specs.Requests.{
  refusal_of_request,
  Method,
  get,
  post,
  put,
  delete,
  other_method,
  method_of,
  is_lookup,
  asked_block,
  number_of,
  szx_of,
  query_of,
  is_later_block,
  register,
  deregister,
}
use Rattle.journal_model.specs.Bodies.{is_long, part_reply, body_reply}
use Rattle.journal_model.specs.Looks.{look_effects, looked, keep_effects}
use Rattle.journal_model.specs.Lookups.{
  listing_now,
  found_now,
  block_now,
  block_of_found,
  block_of_kept,
  later_block,
  removal,
  without,
  addition,
  observer_of,
  keeping,
  observed_if,
  observed,
  unobserved,
  observation_effects,
  first_block_effects,
  block_effects,
  lookup_effects,
  read_block_effects,
  read_effects,
  observing_by,
}
use Rattle.journal_model.specs.Writes.{write_effects}
use Rattle.journal_model.specs.EmptyMessages.{acknowledged, reset}
use Rattle.journal_model.specs.Responses.{response_effects}
use Rattle.journal_model.specs.Rows.{
  served_on_location,
  served,
  refusal_answered,
  unread_answered,
  request_answered,
  message_effects,
  heard,
  done,
  kept_body,
  effects,
}
use Rattle.journal_model.specs.Changes.{Outcome}
use Rattle.journal_model.specs.Registrations.{registering}
use Rattle.journal_model.specs.Commits.{
  settling,
  simple_unless,
  location_outcome,
  write_done,
  commit_effects,
  fetch_room,
}
use Rattle.journal_model.specs.SentDatagrams.{
  IsFitting,
  is_response,
  AnswersRequest,
  CarriesFirst,
  IsForRequest,
}
use Rattle.journal_model.specs.CarriedBlocks.{is_content, IsAsked}
use Rattle.journal_model.proofs.NoteKinds.{of_write, of_empty, of_response, are}
use Rattle.journal_model.proofs.StepNotes.{
  look_effects-notes,
  write_effects-notes,
  acknowledged-notes,
  reset-notes,
}
use Rattle.journal_model.proofs.notes.ChangeNotes.{
  registering-notes,
  location-notes,
  response_effects-notes,
}
use Rattle.journal_model.proofs.notes.SilentSteps.{refusal_notes, unread_notes, looked_notes}
use Rattle.journal_model.proofs.observers.ObserversKnow.{IsNoTick}
use Rattle.journal_model.proofs.notes.LookupNotes.{IsAsking, lookup_seeks, found_KeptAt}
use Rattle.journal_model.proofs.sends.BodyAnswers.{
  Wanted,
  IsBodyOf,
  Bears,
  same_message,
  tag-length,
  IsUsable,
  szx-usable,
  request-usable,
  body_bears,
  with_reply,
}
use Rattle.journal_model.proofs.sends.ValidSends.{is_confirmable}
use Rattle.journal_model.proofs.datagrams.FittingReplies.{
  IsGoodReply,
  reply_read,
  reply_fits,
  good_bare,
  good_unavailable,
  good_body_reply,
  good_registering,
  good_location,
}
use Rattle.journal_model.proofs.datagrams.OwnSends.{answer_unconfirmable}

-- octets that settle the write of a place: its commit answers it so
pub record SettledBy (kind : StepKind) (s : Step) (place : ℕ) (octets : List ℕ) : Type 0 where
  pub commits : kind ≡ step.Commit place
  pub fits : IsFitting octets
  pub answers : (m : Message) → reading octets ≡ Ok m → is_response m ≡ true → AnswersRequest s m
  pub unconfirmable : is_confirmable octets ≡ false

-- the first block of a body is sent to a peer, under a token
pub record FirstSent (sent : List (Peer × List ℕ)) (peer : Peer) (token body : List ℕ) : Type 0
  where
    pub octets : List ℕ
    pub among : Among (peer, octets) sent
    pub message : Message
    pub read : reading octets ≡ Ok message
    pub token_is : message.token ≡ token
    pub carries : CarriesFirst message body

-- what a note says of what a step sends
abbrev pub NoteFact : StepKind → Step → List (Peer × List ℕ) → Note → Type 0
NoteFact kind s sent (note.Settled place octets) = SettledBy kind s place octets
NoteFact kind s sent (note.Kept peer key body current) = length current ≡ 8
NoteFact kind s sent (note.Watched o) = IsAsking o
NoteFact kind s sent (note.Formed peer token body mid) = FirstSent sent peer token body
NoteFact kind s sent _ = Unit {0}

-- of all notes
abbrev pub NoteFacts : StepKind → Step → List (Peer × List ℕ) → List Note → Type 0
NoteFacts kind s sent notes = AllByRecursion (NoteFact kind s sent) notes

-- ---- more is sent

pub first_before : (sent more : List (Peer × List ℕ)) (peer : Peer) (token body : List ℕ)
    → FirstSent sent peer token body
    → FirstSent (sent ++ more) peer token body
first_before sent more peer token body f = record {
  octets = f.octets;
  among = among_front (peer, f.octets) sent more f.among;
  message = f.message;
  read = f.read;
  token_is = f.token_is;
  carries = f.carries;
}

among_back : {A : Type 0} (x : A) (xs ys : List A) → Among x ys → Among x (xs ++ ys)
among_back x [] ys h = h
among_back x (y ∷ xs) ys h = inr (among_back x xs ys h)

pub first_after : (sent more : List (Peer × List ℕ)) (peer : Peer) (token body : List ℕ)
    → FirstSent more peer token body
    → FirstSent (sent ++ more) peer token body
first_after sent more peer token body f = record {
  octets = f.octets;
  among = among_back (peer, f.octets) sent more f.among;
  message = f.message;
  read = f.read;
  token_is = f.token_is;
  carries = f.carries;
}

-- facts stay facts
pub facts_before : (kind : StepKind) (s : Step) (sent more : List (Peer × List ℕ))
    (notes : List Note)
    → NoteFacts kind s sent notes
    → NoteFacts kind s (sent ++ more) notes
facts_before kind s sent more notes all =
    each_weaker (NoteFact kind s sent) (NoteFact kind s (sent ++ more)) by notes all
  where
    by : (n : Note) → NoteFact kind s sent n → NoteFact kind s (sent ++ more) n
    by (note.Settled place octets) h = h
    by (note.Kept peer key body current) h = h
    by (note.Watched o) h = h
    by (note.Formed peer token body mid) h = first_before sent more peer token body h
    by _ h = tt

pub facts_after : (kind : StepKind) (s : Step) (sent more : List (Peer × List ℕ))
    (notes : List Note)
    → NoteFacts kind s more notes
    → NoteFacts kind s (sent ++ more) notes
facts_after kind s sent more notes all =
    each_weaker (NoteFact kind s more) (NoteFact kind s (sent ++ more)) by notes all
  where
    by : (n : Note) → NoteFact kind s more n → NoteFact kind s (sent ++ more) n
    by (note.Settled place octets) h = h
    by (note.Kept peer key body current) h = h
    by (note.Watched o) h = h
    by (note.Formed peer token body mid) h = first_after sent more peer token body h
    by _ h = tt

-- ---- notes that say nothing

-- the note says something of what is sent
abbrev pub is_telling : Note → Bool
is_telling (note.Settled place octets) = true
is_telling (note.Kept peer key body current) = true
is_telling (note.Watched o) = true
is_telling (note.Formed peer token body mid) = true
is_telling _ = false

-- notes of a kind that says nothing
pub quiet_facts : (of_kind : Note → Bool)
    → ((n : Note) → of_kind n ≡ true → is_telling n ≡ false)
    → (kind : StepKind) (s : Step) (sent : List (Peer × List ℕ)) (notes : List Note)
    → are of_kind notes ≡ true
    → NoteFacts kind s sent notes
quiet_facts of_kind never kind s sent [] h = tt
quiet_facts of_kind never kind s sent (n ∷ notes) h =
    let both = and_parts (of_kind n) (are of_kind notes) h in
    (by n (never n both.0), quiet_facts of_kind never kind s sent notes both.1)
  where
    by : (x : Note) → is_telling x ≡ false → NoteFact kind s sent x
    by (note.Settled place octets) e = absurd (false≢true (sym e))
    by (note.Kept peer key body current) e = absurd (false≢true (sym e))
    by (note.Watched o) e = absurd (false≢true (sym e))
    by (note.Formed peer token body mid) e = absurd (false≢true (sym e))
    by _ e = tt

-- no notes
pub no_facts : (kind : StepKind) (s : Step) (sent : List (Peer × List ℕ)) (notes : List Note)
    → notes ≡ []
    → NoteFacts kind s sent notes
no_facts kind s sent notes none = subst (NoteFacts kind s sent) (sym none) tt

-- ---- the first block of a body

-- a 2.05 with the first block that is wanted of a body carries its first block
pub first_from : (peer : Peer) (wanted : Wanted) (body current : List ℕ) (m : Message)
    → reading (spelling m) ≡ Ok m
    → is_content m ≡ true
    → wanted.number ≡ 0
    → IsBodyOf wanted body current (spelling m)
    → FirstSent ((peer, spelling m) ∷ []) peer wanted.token body
first_from peer wanted body current m read content first bears =
    let it : Bears wanted body current m = bears m read content in
    record {
      octets = spelling m;
      among = inl refl;
      message = m;
      read = read;
      token_is = it.token_is;
      carries = record {
        content = content;
        number = number (asked_block m) it.block.asked;
        block = it.block.block;
      };
    }
  where
    number : (b : Option Block) → IsAsked wanted.number wanted.szx b body → number_of b ≡ 0
    number None h = refl
    number (Some b) h = h.0 ∙ first

-- an answer with the first block of a body is a 2.05
content_of : (current : List ℕ) (observe : Option ℕ) (asked : Option Block) (body : List ℕ)
    → number_of asked ≡ 0
    → ((body_reply (Some current) observe asked body).code == codes_of.content) ≡ true
unfolding body_reply block_of
content_of current observe asked body first =
    subst (λ n.
    ((part_reply (Some current) observe asked (block_of body n (szx_of asked))).code
    == codes_of.content)
    ≡ true) (sym first) refl

-- and carries it
pub first_answer : (peer : Peer) (kind : Kind4) (mid : ℕ) (token current : List ℕ)
    (observe : Option ℕ) (asked : Option Block) (body : List ℕ)
    → length token ≤ longest_token
    → length current ≡ 8
    → IsUsable asked
    → number_of asked ≡ 0
    → FirstSent
    ((peer, spelling (with_reply kind mid token (body_reply (Some current) observe asked body)))
    ∷ []) peer token body
first_answer peer kind mid token current observe asked body small short usable first =
    first_from peer (record { token = token; number = number_of asked; szx = szx_of asked }) body
    current (with_reply kind mid token (body_reply (Some current) observe asked body))
    (reply_read kind mid token (body_reply (Some current) observe asked body) small
    (good_body_reply (Some current) observe asked body short (szx-usable asked usable)))
    (content_of current observe asked body first) first
    (body_bears kind mid token current observe asked body small short usable)

-- ---- lookups and reads of a registration

later_facts : (rows : List Row) (moment : ℕ) (s : Step) (m : Message)
    → NoteFacts step.Admit s (later_block rows moment s m).sent (later_block rows moment s m).notes
unfolding later_block answering
later_facts rows moment s m =
    by (found_now rows moment m) refl (kept_answer moment (s.peer, key_in m) (events rows))
  where
    now_block : (a : Answer)
        → length a.tag ≡ 8
        → (part : Option (List ℕ × Bool))
        → NoteFacts step.Admit s (block_now s m a part).sent (block_now s m a part).notes
    now_block a short None = tt
    now_block a short (Some part) = (short, tt)

    fresh : (found : Option Answer)
        → found_now rows moment m ≡ found
        → NoteFacts step.Admit s (block_of_found s m found).sent (block_of_found s m found).notes
    fresh None is = tt
    fresh (Some a) is =
        now_block a
        (ap length (found_KeptAt rows moment m a is).tag_is ∙ tag-length (entries rows) moment)
        (block_of a.body (number_of (asked_block m)) (szx_of (asked_block m)))

    by : (found : Option Answer)
        → found_now rows moment m ≡ found
        → (kept : Option Answer)
        → NoteFacts step.Admit s (block_of_kept s m found kept).sent
        (block_of_kept s m found kept).notes
    by found is (Some answer) = (tt, tt)
    by found is None = fresh found is

look_facts : (rows : List Row) (moment : ℕ) (s : Step) (m : Message)
    → NoteFacts step.Admit s (look_effects (entries rows) moment s m).sent
    (look_effects (entries rows) moment s m).notes
look_facts rows moment s m =
    no_facts step.Admit s (look_effects (entries rows) moment s m).sent
    (look_effects (entries rows) moment s m).notes (look_effects-notes (entries rows) moment s m)

read_facts : (rows : List Row) (moment : ℕ) (s : Step) (m : Message)
    → NoteFacts step.Admit s (read_effects rows moment s m).sent
    (read_effects rows moment s m).notes
unfolding read_effects
read_facts rows moment s m = by (is_later_block m)
  where
    by : (b : Bool)
        → NoteFacts step.Admit s (read_block_effects b rows moment s m).sent
        (read_block_effects b rows moment s m).notes
    by true = later_facts rows moment s m
    by false = look_facts rows moment s m

pub lookup_facts : (rows : List Row) (moment : ℕ) (s : Step) (m : Message)
    → reading s.datagram ≡ Ok m
    → is_lookup (path_in m) ≡ true
    → NoteFacts step.Admit s (lookup_effects rows moment s m).sent
    (lookup_effects rows moment s m).notes
unfolding lookup_effects observed unobserved answering
lookup_facts rows moment s m read lookup = by (is_later_block m) refl
  where
    small : length m.token ≤ longest_token
    small = (header_read s.datagram m read).token

    short : length (tag (entries rows) moment) ≡ 8
    short = tag-length (entries rows) moment

    removed : (sent : List (Peer × List ℕ)) (b : Bool) (peer : Peer) (token : List ℕ)
        → NoteFacts step.Admit s sent (cond b (note.Unwatched peer token ∷ []) [])
    removed sent true peer token = (tt, tt)
    removed sent false peer token = tt

    keeps : (sent : List (Peer × List ℕ)) (b : Bool)
        → NoteFacts step.Admit s sent
        (cond b (note.Kept s.peer (key_in m) (listing_now rows moment m).body
        (listing_now rows moment m).tag
        ∷ []) [])
    keeps sent true = (short, tt)
    keeps sent false = tt

    with_value : (b : Bool)
        → number_of (asked_block m) ≡ 0
        → NoteFacts step.Admit s (observed_if b rows s m (listing_now rows moment m)).sent
        (observed_if b rows s m (listing_now rows moment m)).notes
    with_value true first =
        let sent : List (Peer × List ℕ) =
        (observed_if true rows s m (listing_now rows moment m)).sent in
        each_append (NoteFact step.Admit s sent)
        (removal (s.peer, m.token) (observers (events rows)))
        (addition (observer_of s m) (listing_now rows moment m).body
        ++ keeping s m (listing_now rows moment m))
        (removed sent (is_observer (s.peer, m.token) (observers (events rows))) s.peer m.token) (
          record {
            asks =
                record {
                  request =
                      m;
                  key_is = refl;
                  sought_is = lookup_seeks m lookup;
                };
            token = small;
            szx = szx-usable (asked_block m) (request-usable m);
          },
          (
            first_answer s.peer (answer_kind m.kind) (answer_mid s m m.kind) m.token
                (tag (entries rows) moment) (Some (observe_value (events rows))) (asked_block m)
                (listing_now rows moment m).body small short (request-usable m) first,
            keeps sent (is_long (asked_block m) (listing_now rows moment m).body),
          ),
        )
    with_value false first =
        let sent : List (Peer × List ℕ) =
        (observed_if false rows s m (listing_now rows moment m)).sent in
        each_append (NoteFact step.Admit s sent)
        (removal (s.peer, m.token) (observers (events rows)))
        (keeping s m (listing_now rows moment m))
        (removed sent (is_observer (s.peer, m.token) (observers (events rows))) s.peer m.token)
        (keeps sent (is_long (asked_block m) (listing_now rows moment m).body))

    valued : (b c : Bool)
        → number_of (asked_block m) ≡ 0
        → NoteFacts step.Admit s (observation_effects (observing_by b c) rows moment s m).sent
        (observation_effects (observing_by b c) rows moment s m).notes
    valued true c first =
        with_value (has_room_for (query_of m) (without (s.peer, m.token) (observers (events rows))))
        first
    valued false true first = with_value false first
    valued false false first = look_facts rows moment s m

    observe : (o : Option ℕ)
        → number_of (asked_block m) ≡ 0
        → NoteFacts step.Admit s (first_block_effects o rows moment s m).sent
        (first_block_effects o rows moment s m).notes
    observe None first = look_facts rows moment s m
    observe (Some value) first = valued (value == register) (value == deregister) first

    by : (b : Bool)
        → is_later_block m ≡ b
        → NoteFacts step.Admit s (block_effects b rows moment s m).sent
        (block_effects b rows moment s m).notes
    by true e = later_facts rows moment s m
    by false e =
        observe (observe_in m)
        (let low = ltb-false 0 (number_of (asked_block m)) e in omega (arith, low))

-- ---- commits

-- what is noted beside a change
abbrev of_change : Note → Bool
of_change (note.Entered entry) = true
of_change (note.Piece peer key number octets) = true
of_change (note.Finished peer key) = true
of_change _ = false

never_tells : (n : Note) → of_change n ≡ true → is_telling n ≡ false
never_tells (note.Settled place octets) h = absurd (false≢true h)
never_tells (note.Kept peer key body current) h = absurd (false≢true h)
never_tells (note.Watched o) h = absurd (false≢true h)
never_tells (note.Formed peer token body mid) h = absurd (false≢true h)
never_tells _ h = refl

-- an answer settles its write
settled_by : (place : ℕ) (s : Step) (m : Message) (reply : Reply)
    → reading s.datagram ≡ Ok m
    → role_of m.kind m.code ≡ role.Request
    → IsGoodReply reply
    → SettledBy (step.Commit place) s place (spelling (answer s m reply))
settled_by place s m reply read asks good = record {
  commits = refl;
  fits = reply_fits (answer_kind m.kind) (answer_mid s m m.kind) m.token reply small good;
  answers = λ n e responds. record {
    request = m;
    read = read;
    asks = asks;
    token =
        ap (λ (x : Message). x.token)
        (sym (same_message (answer s m reply) n (spelling (answer s m reply))
        (reply_read (answer_kind m.kind) (answer_mid s m m.kind) m.token reply small
        good) e));
  };
  unconfirmable = answer_unconfirmable s m reply;
}
  where
    small : length m.token ≤ longest_token
    small = (header_read s.datagram m read).token

pub commit_facts : (rows : List Row) (moment place : ℕ) (s : Step) (m : Message)
    → reading s.datagram ≡ Ok m
    → role_of m.kind m.code ≡ role.Request
    → NoteFacts (step.Commit place) s (commit_effects rows moment place s m).sent
    (commit_effects rows moment place s m).notes
unfolding commit_effects answering
commit_facts rows moment place s m read asks = by (path_in m)
  where
    outcome : (o : Outcome)
        → IsGoodReply o.reply
        → are of_change o.notes ≡ true
        → NoteFacts (step.Commit place) s (settling place s m o).sent (settling place s m o).notes
    outcome o good notes =
        each_append (NoteFact (step.Commit place) s (settling place s m o).sent) o.notes
        (note.Settled place (spelling (answer s m o.reply)) ∷ [])
        (quiet_facts of_change never_tells (step.Commit place) s (settling place s m o).sent o.notes
        notes) (settled_by place s m o.reply read asks good, tt)

    changed_reply : IsGoodReply (bare codes_of.changed)
    changed_reply = good_bare codes_of.changed refl (λ e. absurd (omega (arith, e)))

    simple : (running too_many : Bool)
        → NoteFacts (step.Commit place) s
        (simple_unless (fetch_room running too_many) (events rows) place s m).sent
        (simple_unless (fetch_room running too_many) (events rows) place s m).notes
    simple true too_many = (
      settled_by place s m (diagnostic codes_of.service_unavailable (codes "fetching")) read asks
          (good_unavailable (codes "fetching") (omega arith)),
      tt,
    )
    simple false true = (
      settled_by place s m (diagnostic codes_of.service_unavailable (codes "fetches")) read asks
          (good_unavailable (codes "fetches") (omega arith)),
      tt,
    )
    simple false false =
        (settled_by place s m (bare codes_of.changed) read asks changed_reply, (tt, tt))

    by : (p : Path)
        → NoteFacts (step.Commit place) s (write_done p rows moment place s m).sent
        (write_done p rows moment place s m).notes
    by path.Core = tt
    by path.SimpleRd =
        simple (is_fetching s.peer (events rows))
        (nat_le max_fetches (length (fetches (events rows))))
    by path.Rd =
        outcome (registering rows moment s m) (good_registering rows moment s m)
        (registering-notes of_change (λ entry. refl) (λ peer key number octets. refl)
        (λ peer key. refl) rows moment s m)
    by (path.Location number) =
        outcome (location_outcome (method_of m.code) rows moment s m number)
        (good_location (method_of m.code) rows moment s m number)
        (location-notes of_change (λ entry. refl) (λ peer key number octets. refl)
        (λ peer key. refl) (method_of m.code) rows moment s m number)
    by path.Res = tt
    by path.Ep = tt
    by path.Other = tt

-- ---- all other steps

-- what a write, an empty message and a response note says nothing of this
write_tells : (n : Note) → of_write n ≡ true → is_telling n ≡ false
write_tells (note.Settled place octets) h = absurd (false≢true h)
write_tells (note.Kept peer key body current) h = absurd (false≢true h)
write_tells (note.Watched o) h = absurd (false≢true h)
write_tells (note.Formed peer token body mid) h = absurd (false≢true h)
write_tells _ h = refl

empty_tells : (n : Note) → of_empty n ≡ true → is_telling n ≡ false
empty_tells (note.Settled place octets) h = absurd (false≢true h)
empty_tells (note.Kept peer key body current) h = absurd (false≢true h)
empty_tells (note.Watched o) h = absurd (false≢true h)
empty_tells (note.Formed peer token body mid) h = absurd (false≢true h)
empty_tells _ h = refl

response_tells : (n : Note) → of_response n ≡ true → is_telling n ≡ false
response_tells (note.Settled place octets) h = absurd (false≢true h)
response_tells (note.Kept peer key body current) h = absurd (false≢true h)
response_tells (note.Watched o) h = absurd (false≢true h)
response_tells (note.Formed peer token body mid) h = absurd (false≢true h)
response_tells _ h = refl

-- a request that is heard
request_facts : (rows : List Row) (moment : ℕ) (s : Step) (m : Message) → reading s.datagram ≡ Ok m
    → NoteFacts step.Admit s (request_answered (refusal_of_request m) rows moment s m).sent
    (request_answered (refusal_of_request m) rows moment s m).notes
unfolding served
request_facts rows moment s m read = by (refusal_of_request m)
  where
    written : NoteFacts step.Admit s (write_effects (events rows) moment s m).sent
        (write_effects (events rows) moment s m).notes
    written =
        quiet_facts of_write write_tells step.Admit s (write_effects (events rows) moment s m).sent
        (write_effects (events rows) moment s m).notes
        (write_effects-notes (events rows) moment s m)

    there : (w : Method)
        → NoteFacts step.Admit s (served_on_location w rows moment s m).sent
        (served_on_location w rows moment s m).notes
    there get = read_facts rows moment s m
    there post = written
    there put = written
    there delete = written
    there other_method = tt

    on : (p : Path)
        → path_in m ≡ p
        → NoteFacts step.Admit s (served p rows moment s m).sent (served p rows moment s m).notes
    on path.Core at = look_facts rows moment s m
    on path.Res at = lookup_facts rows moment s m read (ap is_lookup at)
    on path.Ep at = lookup_facts rows moment s m read (ap is_lookup at)
    on path.SimpleRd at = written
    on path.Rd at = written
    on (path.Location number) at = there (method_of m.code)
    on path.Other at = tt

    by : (refusal : Option Reply)
        → NoteFacts step.Admit s (request_answered refusal rows moment s m).sent
        (request_answered refusal rows moment s m).notes
    by (Some refusal) =
        no_facts step.Admit s
        (refusal_answered m.kind (first_bad_option m.options) s m refusal).sent
        (refusal_answered m.kind (first_bad_option m.options) s m refusal).notes
        (refusal_notes m.kind (first_bad_option m.options) s m refusal)
    by None = on (path_in m) refl

-- a message that is heard
role_facts : (r : Role) (starved : Bool) (rows : List Row) (moment : ℕ) (s : Step) (m : Message)
    → reading s.datagram ≡ Ok m
    → NoteFacts step.Admit s (message_effects r starved rows moment s m).sent
    (message_effects r starved rows moment s m).notes
unfolding answering
role_facts role.Ping starved rows moment s m read = tt
role_facts role.Acknowledgement starved rows moment s m read =
    quiet_facts of_empty empty_tells step.Admit s (acknowledged s.peer m.mid (events rows)).sent
    (acknowledged s.peer m.mid (events rows)).notes
    (acknowledged-notes s.peer m.mid (events rows))
role_facts role.Reset starved rows moment s m read =
    quiet_facts of_empty empty_tells step.Admit s (reset s.peer m.mid (events rows)).sent
    (reset s.peer m.mid (events rows)).notes (reset-notes s.peer m.mid (events rows))
role_facts role.Request true rows moment s m read = tt
role_facts role.Request false rows moment s m read = request_facts rows moment s m read
role_facts role.Response true rows moment s m read = tt
role_facts role.Response false rows moment s m read =
    quiet_facts of_response response_tells step.Admit s (response_effects rows moment s m).sent
    (response_effects rows moment s m).notes (response_effects-notes rows moment s m)
role_facts role.Ignored starved rows moment s m read = tt

-- any step but a tick
pub effects_facts : (kind : StepKind) (starved : Bool) (rows : List Row) (moment : ℕ) (s : Step)
    → IsNoTick kind
    → ((m : Message) → reading s.datagram ≡ Ok m → IsForRequest kind m)
    → NoteFacts kind s (effects kind starved rows moment s).sent
    (effects kind starved rows moment s).notes
unfolding effects keep_effects answering
effects_facts step.Admit starved rows moment s no_tick fair = by (reading s.datagram) refl
  where
    by : (read : Result Message Unread)
        → reading s.datagram ≡ read
        → NoteFacts step.Admit s (heard starved rows moment s read).sent
        (heard starved rows moment s read).notes
    by (Err fault) e =
        no_facts step.Admit s (unread_answered s fault).sent (unread_answered s fault).notes
        (unread_notes s fault)
    by (Ok m) e = role_facts (role_of m.kind m.code) starved rows moment s m e
effects_facts step.Look starved rows moment s no_tick fair =
    no_facts step.Look s (looked starved (entries rows) moment s (reading s.datagram)).sent
    (looked starved (entries rows) moment s (reading s.datagram)).notes
    (looked_notes starved (entries rows) moment s (reading s.datagram))
effects_facts (step.Commit place) starved rows moment s no_tick fair =
    by starved (reading s.datagram) refl
  where
    by : (b : Bool) (read : Result Message Unread)
        → reading s.datagram ≡ read
        → NoteFacts (step.Commit place) s (done b rows moment place s read).sent
        (done b rows moment place s read).notes
    by b (Err fault) e = tt
    by true (Ok m) e = (tt, tt)
    by false (Ok m) e = commit_facts rows moment place s m e (fair m e)
effects_facts (step.Keep body current) starved rows moment s no_tick fair =
    by starved (reading s.datagram) refl
  where
    by : (b : Bool) (read : Result Message Unread)
        → reading s.datagram ≡ read
        → NoteFacts (step.Keep body current) s (kept_body b s read body current).sent
        (kept_body b s read body current).notes
    by b (Err fault) e = tt
    by true (Ok m) e = tt
    by false (Ok m) e = ((fair m e).1, tt)
effects_facts step.Tick starved rows moment s no_tick fair = absurd no_tick
effects_facts (step.Begin first) starved rows moment s no_tick fair =
    quiet_facts of_begin quiet (step.Begin first) s
    (beginning starved (entries rows) moment s first).sent
    (beginning starved (entries rows) moment s first).notes
    (beginning-notes of_begin (λ entry. refl) starved (entries rows) moment s first)
  where
    of_begin : Note → Bool
    of_begin (note.Entered entry) = true
    of_begin _ = false

    quiet : (n : Note) → of_begin n ≡ true → is_telling n ≡ false
    quiet (note.Entered entry) e = refl
    quiet _ e = absurd (false≢true e)
