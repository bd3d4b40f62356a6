-- A commit sends one answer, which its exchange keeps; and what is admitted is a write.
use Rattle.std.proofs.Common.{
  ◌≡◌,
  inl,
  inr,
  ℕ,
  ◌+◌,
  ◌≤◌,
  Bool,
  true,
  false,
  List,
  [],
  ◌∷◌,
  ◌++◌,
  length,
  Option,
  Some,
  None,
  codes,
  nat_le,
  Ok,
  refl,
  sym,
  ap,
  subst,
  ◌∙◌,
  arith,
}
use Rattle.std.specs.List.{list_any}
use Rattle.std.proofs.lemmas.Bool.{false≢true}
use Rattle.rd_base.specs.declared.peers.Peer.{Peer}
use Rattle.rd_base.proofs.lemmas.Among.{Among}
use Rattle.message_model.specs.declared.messages.Kind4.{Kind4}
use Rattle.message_model.specs.declared.messages.Kind4.TheVariants.{Con, Non, Ack, Rst}
use Rattle.message_model.specs.declared.messages.Role.TheVariants as role
use Rattle.message_model.specs.declared.requests.Path.{Path}
use Rattle.message_model.specs.declared.requests.Path.TheVariants as path
use Rattle.message_model.specs.Codes as codes_of
use Rattle.message_model.specs.Message.{Message, role_of}
use Rattle.message_model.specs.OptionTable.{first_bad_option}
use Rattle.message_model.specs.Reading.{reading}
use Rattle.message_model.specs.Request.{path_in}
use Rattle.message_model.specs.Spelling.{spelling}
use Rattle.message_model.specs.FetchRequests.{fetch_request}
use Rattle.message_model.proofs.ReadingLaws.{header_read}
use Rattle.event_model.specs.declared.notes.Note.{Note}
use Rattle.event_model.specs.declared.notes.Note.TheVariants as note
use Rattle.event_model.specs.AdmissionOrder.{is_aside}
use Rattle.event_model.specs.Events.{Event}
use Rattle.event_model.specs.Repeats.{is_admitting, repeated, settled}
use Rattle.event_model.specs.Fetches.{max_fetches, fetches, is_fetching, next_token}
use Rattle.journal_model.specs.declared.steps.Step.{Step}
use Rattle.journal_model.specs.declared.steps.StepKind.TheVariants as step
use Rattle.journal_model.specs.declared.rows.Row.{Row}
use Rattle.journal_model.specs.Journal.{events, entries}
use Rattle.journal_model.specs.Effects.{
  Effects,
  Reply,
  bare,
  diagnostic,
  answer,
  answering,
  answer_kind,
  answer_mid,
  mid_of,
  drawn_for,
}
use Rattle.journal_model.specs.Requests.{
  Method,
  get,
  post,
  put,
  delete,
  other_method,
  method_of,
  is_write,
  is_changing,
  refusal_of_request,
}
use Rattle.journal_model.specs.Changes.{Outcome}
use Rattle.journal_model.specs.Registrations.{registering}
use Rattle.journal_model.specs.Looks.{look_effects}
use Rattle.journal_model.specs.Lookups.{lookup_effects, read_effects}
use Rattle.journal_model.specs.Writes.{again_answered, write_unless, write_effects}
use Rattle.journal_model.specs.Commits.{
  settling,
  simple_unless,
  location_outcome,
  write_done,
  commit_effects,
  fetch_room,
}
use Rattle.journal_model.specs.Rows.{
  served_on_location,
  served,
  request_answered,
  message_effects,
  heard,
  done,
  effects,
  row_moment,
  row,
}
use Rattle.journal_model.specs.SentDatagrams.{is_response}
use Rattle.journal_model.proofs.NoteKinds.{of_lookup, are, none_of}
use Rattle.journal_model.proofs.StepNotes.{
  look_effects-notes,
  lookup_effects-notes,
  read_effects-notes,
}
use Rattle.journal_model.proofs.notes.SilentSteps.{refusal_notes}
use Rattle.journal_model.proofs.desks.TouchedExchanges.{
  Touches,
  aside,
  admits,
  ends,
  ends_at,
  row-Touches,
}
use Rattle.journal_model.proofs.sends.BodyAnswers.{same_message}
use Rattle.journal_model.proofs.datagrams.FittingReplies.{
  IsGoodReply,
  reply_read,
  good_bare,
  good_starved,
  good_unavailable,
  good_registering,
  good_location,
}
use Rattle.headline_law.specs.AnsweredAlike.{responses_in, IsOfType, IsAnswerLike, sent_to}
use Rattle.headline_law.proofs.answers.ReportedOutcomes.{registering_reported, location_reported}
use Rattle.headline_law.proofs.whom.RunningFetches.{request_read}
use Rattle.headline_law.proofs.whom.GoesRows.{answer_responds}

-- ---- an answer is as its request wants it

pub answer_like : (s : Step) (m : Message) (reply : Reply) → IsAnswerLike m (answer s m reply)
answer_like s m reply = record { type = by m.kind refl; token = refl }
  where
    by : (k : Kind4) → m.kind ≡ k → IsOfType k m.mid (answer s m reply)
    by Con is = (ap answer_kind is, ap (answer_mid s m) is)
    by Non is = ap answer_kind is
    by Ack is = ap answer_kind is
    by Rst is = ap answer_kind is

-- ---- one response

-- what is read as no response is left out
skips : (peer : Peer) (octets : List ℕ) (m : Message) (more : List (Peer × List ℕ))
    → reading octets ≡ Ok m
    → is_response m ≡ false
    → responses_in ((peer, octets) ∷ more) ≡ responses_in more
skips peer octets m more read other = rw (read, other) refl

-- and what is read as one stands there
takes : (peer : Peer) (octets : List ℕ) (m : Message) (more : List (Peer × List ℕ))
    → reading octets ≡ Ok m
    → is_response m ≡ true
    → responses_in ((peer, octets) ∷ more) ≡ m ∷ responses_in more
takes peer octets m more read responds = rw (read, responds) refl

-- the one answer of a commit
pub record SendsOnce (s : Step) (place : ℕ) (m : Message) (starved : Bool) (e : Effects) : Type 0
  where
    pub reply : Reply
    pub read : reading (spelling (answer s m reply)) ≡ Ok (answer s m reply)
    pub sent : Among (s.peer, spelling (answer s m reply)) e.sent
    pub one : responses_in e.sent ≡ answer s m reply ∷ []
    pub keeps : starved ≡ false → Among (note.Settled place (spelling (answer s m reply))) e.notes

-- what is noted last is one of the notes
among_last : (n : Note) (notes : List Note) → Among n (notes ++ n ∷ [])
among_last n [] = inl refl
among_last n (x ∷ notes) = inr (among_last n notes)

-- a good reply is read
pub good_read : (s : Step) (m : Message) (reply : Reply)
    → reading s.datagram ≡ Ok m
    → IsGoodReply reply
    → reading (spelling (answer s m reply)) ≡ Ok (answer s m reply)
good_read s m reply read good =
    reply_read (answer_kind m.kind) (answer_mid s m m.kind) m.token reply
    (header_read s.datagram m read).token good

-- and it is a response
good_responds : (s : Step) (m : Message) (reply : Reply)
    → reading s.datagram ≡ Ok m
    → IsGoodReply reply
    → codes_of.is_response_code reply.code ≡ true
    → is_response (answer s m reply) ≡ true
good_responds s m reply read good class =
    rw (answer_responds s m reply read good class (answer s m reply)
    (good_read s m reply read good))
    refl

-- a new token has eight octets
next_short : (past : List Event) → length (next_token past) ≤ 8
unfolding next_token
next_short past = omega arith

-- a commit of a write
commit_once : (rows : List Row) (moment place : ℕ) (s : Step) (m : Message)
    → reading s.datagram ≡ Ok m
    → is_write (path_in m) (method_of m.code) ≡ true
    → SendsOnce s place m false (commit_effects rows moment place s m)
unfolding commit_effects answering
commit_once rows moment place s m read writes = by (path_in m) writes
  where
    outcome : (o : Outcome)
        → IsGoodReply o.reply
        → codes_of.is_response_code o.reply.code ≡ true
        → SendsOnce s place m false (settling place s m o)
    outcome o good class = record {
      reply = o.reply;
      read = good_read s m o.reply read good;
      sent = inl refl;
      one =
          takes s.peer (spelling (answer s m o.reply)) (answer s m o.reply) []
          (good_read s m o.reply read good) (good_responds s m o.reply read good class);
      keeps = λ e. among_last (note.Settled place (spelling (answer s m o.reply))) o.notes;
    }

    changed_good : IsGoodReply (bare codes_of.changed)
    changed_good = good_bare codes_of.changed refl (λ e. absurd (omega (arith, e)))

    short : length (next_token (events rows)) ≤ 8
    short = next_short (events rows)

    simple : (running too_many : Bool)
        → SendsOnce s place m false
        (simple_unless (fetch_room running too_many) (events rows) place s m)
    simple true too_many =
        outcome
        (record { reply = diagnostic codes_of.service_unavailable (codes "fetching"); notes = [] })
        (good_unavailable (codes "fetching") (omega arith)) refl
    simple false true =
        outcome
        (record { reply = diagnostic codes_of.service_unavailable (codes "fetches"); notes = [] })
        (good_unavailable (codes "fetches") (omega arith)) refl
    simple false false = record {
      reply = bare codes_of.changed;
      read = good_read s m (bare codes_of.changed) read changed_good;
      sent = inl refl;
      one =
          takes s.peer (spelling (answer s m (bare codes_of.changed)))
          (answer s m (bare codes_of.changed))
          ((
            s.peer,
            spelling (fetch_request (mid_of s.worker (s.drawn + drawn_for m.kind))
                (next_token (events rows)) None),
          )
          ∷ [])
          (good_read s m (bare codes_of.changed) read changed_good)
          (good_responds s m (bare codes_of.changed) read changed_good refl)
          ∙ ap (λ more. answer s m (bare codes_of.changed) ∷ more)
          (skips s.peer
          (spelling (fetch_request (mid_of s.worker (s.drawn + drawn_for m.kind))
          (next_token (events rows)) None))
          (fetch_request (mid_of s.worker (s.drawn + drawn_for m.kind))
          (next_token (events rows)) None) []
          (request_read (mid_of s.worker (s.drawn + drawn_for m.kind)) (next_token (events rows))
          None short) refl);
      keeps = λ e. inl refl;
    }

    by : (p : Path)
        → is_write p (method_of m.code) ≡ true
        → SendsOnce s place m false (write_done p rows moment place s m)
    by path.Core none = absurd (false≢true none)
    by path.SimpleRd h =
        simple (is_fetching s.peer (events rows))
        (nat_le max_fetches (length (fetches (events rows))))
    by path.Rd h =
        outcome (registering rows moment s m) (good_registering rows moment s m)
        (registering_reported rows moment s m).responds
    by (path.Location number) h =
        outcome (location_outcome (method_of m.code) rows moment s m number)
        (good_location (method_of m.code) rows moment s m number)
        (location_reported (method_of m.code) rows moment s m number).responds
    by path.Res none = absurd (false≢true none)
    by path.Ep none = absurd (false≢true none)
    by path.Other none = absurd (false≢true none)

-- a commit, where memory ran out or did not
pub effects_once : (starved : Bool) (rows : List Row) (moment place : ℕ) (s : Step) (m : Message)
    → reading s.datagram ≡ Ok m
    → is_write (path_in m) (method_of m.code) ≡ true
    → SendsOnce s place m starved (effects (step.Commit place) starved rows moment s)
unfolding effects answering
effects_once starved rows moment place s m read writes =
    subst (λ x. SendsOnce s place m starved (done starved rows moment place s x)) (sym read)
    (by starved)
  where
    by : (b : Bool) → SendsOnce s place m b (done b rows moment place s (Ok m))
    by true = record {
      reply = bare codes_of.internal_server_error;
      read = good_read s m (bare codes_of.internal_server_error) read good_starved;
      sent = inl refl;
      one =
          takes s.peer (spelling (answer s m (bare codes_of.internal_server_error)))
          (answer s m (bare codes_of.internal_server_error)) []
          (good_read s m (bare codes_of.internal_server_error) read good_starved)
          (good_responds s m (bare codes_of.internal_server_error) read good_starved refl);
      keeps = λ e. absurd (false≢true (sym e));
    }
    by false = commit_once rows moment place s m read writes

-- ---- what is admitted is a write

-- notes of a kind that admits nothing
never_admits : (kind : Note → Bool)
    → ((peer : Peer) (mid : ℕ) → kind (note.Admitted peer mid) ≡ false)
    → (notes : List Note)
    → are kind notes ≡ true
    → list_any is_admitting notes ≡ true
    → ⊥
never_admits kind never notes all some =
    false≢true (sym (none_of kind is_admitting one notes all) ∙ some)
  where
    one : (n : Note) → kind n ≡ true → is_admitting n ≡ false
    one (note.Admitted peer mid) h = absurd (false≢true (sym (never peer mid) ∙ h))
    one _ h = refl

-- of no notes
blank_admits : (notes : List Note) → notes ≡ [] → list_any is_admitting notes ≡ true → ⊥
blank_admits notes none some = false≢true (sym (ap (list_any is_admitting) none) ∙ some)

-- a request that is served
request_writes : (rows : List Row) (moment : ℕ) (s : Step) (m : Message)
    → list_any is_admitting (request_answered (refusal_of_request m) rows moment s m).notes ≡ true
    → is_write (path_in m) (method_of m.code) ≡ true
unfolding served
request_writes rows moment s m some = by (refusal_of_request m) some
  where
    there : (w : Method)
        → list_any is_admitting (served_on_location w rows moment s m).notes ≡ true
        → is_changing w ≡ true
    there get h =
        absurd (never_admits of_lookup (λ p n. refl) (read_effects rows moment s m).notes
        (read_effects-notes rows moment s m) h)
    there post h = refl
    there put h = refl
    there delete h = refl
    there other_method h = absurd (false≢true h)

    on : (p : Path)
        → list_any is_admitting (served p rows moment s m).notes ≡ true
        → is_write p (method_of m.code) ≡ true
    on path.Core h =
        absurd (blank_admits (look_effects (entries rows) moment s m).notes
        (look_effects-notes (entries rows) moment s m) h)
    on path.Res h =
        absurd (never_admits of_lookup (λ p n. refl) (lookup_effects rows moment s m).notes
        (lookup_effects-notes rows moment s m) h)
    on path.Ep h =
        absurd (never_admits of_lookup (λ p n. refl) (lookup_effects rows moment s m).notes
        (lookup_effects-notes rows moment s m) h)
    on path.SimpleRd h = refl
    on path.Rd h = refl
    on (path.Location number) h = there (method_of m.code) h
    on path.Other h = absurd (false≢true h)

    by : (refusal : Option Reply)
        → list_any is_admitting (request_answered refusal rows moment s m).notes ≡ true
        → is_write (path_in m) (method_of m.code) ≡ true
    by (Some refusal) h =
        absurd (blank_admits _
        (refusal_notes m.kind (first_bad_option m.options) s m refusal) h)
    by None h = on (path_in m) h

-- a row that admits hears a write
admit_writes : (starved : Bool) (rows : List Row) (moment : ℕ) (s : Step) (m : Message)
    → reading s.datagram ≡ Ok m
    → role_of m.kind m.code ≡ role.Request
    → list_any is_admitting (effects step.Admit starved rows moment s).notes ≡ true
    → is_write (path_in m) (method_of m.code) ≡ true
unfolding effects answering
admit_writes starved rows moment s m read asks some =
    by starved
    (subst (λ r. list_any is_admitting (message_effects r starved rows moment s m).notes ≡ true)
    asks (subst (λ x. list_any is_admitting (heard starved rows moment s x).notes ≡ true) read
    some))
  where
    by : (b : Bool)
        → list_any is_admitting (message_effects role.Request b rows moment s m).notes ≡ true
        → is_write (path_in m) (method_of m.code) ≡ true
    by true h = absurd (false≢true h)
    by false h = request_writes rows moment s m h

-- what says nothing of exchanges admits nothing
pub aside_admits_none : (notes : List Note)
    → are is_aside notes ≡ true
    → list_any is_admitting notes ≡ true
    → ⊥
aside_admits_none notes all some =
    false≢true (sym (none_of is_aside is_admitting never notes all) ∙ some)
  where
    never : (n : Note) → is_aside n ≡ true → is_admitting n ≡ false
    never (note.Admitted peer mid) h = absurd (false≢true h)
    never _ h = refl

-- and so does the end of an exchange
pub end_admits_none : (place : ℕ) (notes : List Note)
    → are (ends_at place) notes ≡ true
    → list_any is_admitting notes ≡ true
    → ⊥
end_admits_none place notes all some =
    false≢true (sym (none_of (ends_at place) is_admitting never notes all) ∙ some)
  where
    never : (n : Note) → ends_at place n ≡ true → is_admitting n ≡ false
    never (note.Admitted peer mid) h = absurd (false≢true h)
    never _ h = refl

-- so it is of the row of a step
pub row_writes : (rows : List Row) (s : Step) (starved : Bool) (m : Message)
    → list_any is_admitting (row rows s starved).notes ≡ true
    → reading s.datagram ≡ Ok m
    → is_write (path_in m) (method_of m.code) ≡ true
unfolding row
row_writes rows s starved m some read = by (row-Touches rows s starved)
  where
    same : (x y : Message) → reading s.datagram ≡ Ok x → reading s.datagram ≡ Ok y → x ≡ y
    same x y h g = same_message x y s.datagram h g

    by : Touches s.kind rows (row rows s starved).moment.0 s (row rows s starved).notes
        → is_write (path_in m) (method_of m.code) ≡ true
    by (aside all) = absurd (aside_admits_none (row rows s starved).notes all some)
    by (admits n here told asks is none) =
        admit_writes starved rows (row_moment rows s) s m read
        (subst (λ (x : Message). role_of x.kind x.code ≡ role.Request) (same n m told read) asks)
        (subst (λ k. list_any is_admitting (effects k starved rows (row_moment rows s) s).notes
        ≡ true) here some)
    by (ends place here all) =
        absurd (end_admits_none place (row rows s starved).notes all some)

-- ---- a write that comes again

-- what a write does that meets no refusal
pub effects_write : (rows : List Row) (moment : ℕ) (s : Step) (m : Message)
    → reading s.datagram ≡ Ok m
    → role_of m.kind m.code ≡ role.Request
    → refusal_of_request m ≡ None
    → is_write (path_in m) (method_of m.code) ≡ true
    → effects step.Admit false rows moment s ≡ write_effects (events rows) moment s m
unfolding effects served
effects_write rows moment s m read asks none writes =
    ap (heard false rows moment s) read
    ∙ (ap (λ r. message_effects r false rows moment s m) asks
    ∙ (ap (λ o. request_answered o rows moment s m) none
    ∙ on (path_in m) writes))
  where
    there : (w : Method)
        → is_changing w ≡ true
        → served_on_location w rows moment s m ≡ write_effects (events rows) moment s m
    there get h = absurd (false≢true h)
    there post h = refl
    there put h = refl
    there delete h = refl
    there other_method h = absurd (false≢true h)

    on : (p : Path)
        → is_write p (method_of m.code) ≡ true
        → served p rows moment s m ≡ write_effects (events rows) moment s m
    on path.Core h = absurd (false≢true h)
    on path.SimpleRd h = refl
    on path.Rd h = refl
    on (path.Location number) h = there (method_of m.code) h
    on path.Res h = absurd (false≢true h)
    on path.Ep h = absurd (false≢true h)
    on path.Other h = absurd (false≢true h)

-- it is answered by what is kept, and nothing is noted
pub record AnsweredAgain (s : Step) (kept : Option (List ℕ)) (e : Effects) : Type 0 where
  pub sent : e.sent ≡ sent_to s.peer kept
  pub notes : e.notes ≡ []

pub write_again : (rows : List Row) (moment : ℕ) (s : Step) (m : Message) (first : Event)
    → repeated moment s.peer m.mid (events rows) ≡ Some first
    → AnsweredAgain s (settled first.place (events rows)) (write_effects (events rows) moment s m)
unfolding write_effects
write_again rows moment s m first found =
    subst (λ o. AnsweredAgain s (settled first.place (events rows))
    (write_unless o (events rows) moment s m)) (sym found)
    (by (settled first.place (events rows)))
  where
    by : (kept : Option (List ℕ)) → AnsweredAgain s kept (again_answered s kept)
    by None = record { sent = refl; notes = refl }
    by (Some octets) = record { sent = refl; notes = refl }
