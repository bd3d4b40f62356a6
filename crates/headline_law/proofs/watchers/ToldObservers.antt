-- Whom a row adds as an observer is told so: its answer carries Observe.
use Rattle.std.proofs.Common.{
  ◌≡◌,
  inl,
  ℕ,
  ◌==◌,
  Bool,
  true,
  false,
  cond,
  List,
  [],
  ◌∷◌,
  Option,
  Some,
  None,
  Ok,
  refl,
  sym,
  ap,
  subst,
  ◌∙◌,
  ltb-false,
  arith,
}
use Rattle.std.specs.List.{list_any}
use Rattle.std.proofs.lemmas.Bool.{false≢true}
use Rattle.std.proofs.lemmas.List.Folds.{list_any-append}
use Rattle.rd_base.specs.declared.peers.Peer.{Peer}
use Rattle.rd_base.proofs.lemmas.Among.{Among}
use Rattle.message_model.specs.declared.blocks.Block.{Block}
use Rattle.message_model.specs.declared.messages.Role.TheVariants as role
use Rattle.message_model.specs.declared.requests.Path.{Path}
use Rattle.message_model.specs.declared.requests.Path.TheVariants as path
use Rattle.message_model.specs.Blocks.{block_of}
use Rattle.message_model.specs.Message.{Message, role_of}
use Rattle.message_model.specs.OptionTable as table
use Rattle.message_model.specs.OptionTable.{first_bad_option, stands_in}
use Rattle.message_model.specs.Reading.{reading}
use Rattle.message_model.specs.Request.{path_in, observe_in}
use Rattle.message_model.specs.RequestKey.{key_in}
use Rattle.message_model.specs.Spelling.{spelling}
use Rattle.history_model.specs.Listing.{tag}
use Rattle.event_model.specs.declared.notes.Note.{Note}
use Rattle.event_model.specs.declared.notes.Note.TheVariants as note
use Rattle.event_model.specs.Observers.{observers, is_observer, has_room_for, observe_value}
use Rattle.event_model.proofs.NotedLaws.{is_watching}
use Rattle.journal_model.specs.declared.steps.Step.{Step}
use Rattle.journal_model.specs.declared.steps.StepKind.TheVariants as step
use Rattle.journal_model.specs.declared.rows.Row.{Row}
use Rattle.journal_model.specs.Journal.{events, entries}
use Rattle.journal_model.specs.Effects.{Reply, answer, answering}
use Rattle.journal_model.specs.Requests.{
  asked_block,
  number_of,
  szx_of,
  query_of,
  register,
  deregister,
  is_lookup,
  is_later_block,
  refusal_of_request,
}
use Rattle.journal_model.specs.Bodies.{is_long, part_reply, body_reply}
use Rattle.journal_model.specs.Looks.{look_effects}
use Rattle.journal_model.specs.Lookups.{
  listing_now,
  removal,
  without,
  keeping,
  observed_if,
  observed,
  unobserved,
  observation_effects,
  first_block_effects,
  block_effects,
  lookup_effects,
  later_block,
  observing_by,
}
use Rattle.journal_model.specs.Rows.{served, request_answered, message_effects, heard, effects}
use Rattle.journal_model.proofs.NoteKinds.{of_read, none_of}
use Rattle.journal_model.proofs.StepNotes.{look_effects-notes, later_block-kept}
use Rattle.journal_model.proofs.notes.SilentSteps.{refusal_notes}
use Rattle.journal_model.proofs.sends.BodyAnswers.{tag-length, request-usable, szx-usable}
use Rattle.journal_model.proofs.datagrams.FittingReplies.{IsGoodReply, good_body_reply}

-- an answer that carries Observe is sent
pub record Told (s : Step) (m : Message) (sent : List (Peer × List ℕ)) : Type 0 where
  pub reply : Reply
  pub good : IsGoodReply reply
  pub observed : stands_in table.observe reply.options ≡ true
  pub among : Among (s.peer, spelling (answer s m reply)) sent

-- the first block of a body carries the Observe value that is given
body_observes : (current : List ℕ) (value : ℕ) (asked : Option Block) (body : List ℕ)
    → number_of asked ≡ 0
    → stands_in table.observe (body_reply (Some current) (Some value) asked body).options ≡ true
unfolding body_reply block_of
body_observes current value asked body first =
    subst (λ n.
    stands_in table.observe
    (part_reply (Some current) (Some value) asked (block_of body n (szx_of asked))).options
    ≡ true) (sym first) refl

-- a lookup
lookup_told : (rows : List Row) (moment : ℕ) (s : Step) (m : Message)
    → list_any is_watching (lookup_effects rows moment s m).notes ≡ true
    → Told s m (lookup_effects rows moment s m).sent
unfolding lookup_effects observed unobserved answering
lookup_told rows moment s m some = by (is_later_block m) refl some
  where
    silent : (notes : List Note) → notes ≡ [] → list_any is_watching notes ≡ true → ⊥
    silent notes none h = false≢true (sym (ap (list_any is_watching) none) ∙ h)

    removes : (b : Bool)
        → list_any is_watching (cond b (note.Unwatched s.peer m.token ∷ []) []) ≡ false
    removes true = refl
    removes false = refl

    keeps : (b : Bool) (body current : List ℕ)
        → list_any is_watching (cond b (note.Kept s.peer (key_in m) body current ∷ []) []) ≡ false
    keeps true body current = refl
    keeps false body current = refl

    unobserving :
        list_any is_watching (observed_if false rows s m (listing_now rows moment m)).notes ≡ true
        → ⊥
    unobserving h =
        false≢true
        (sym (list_any-append is_watching
        (removal (s.peer, m.token) (observers (events rows)))
        (keeping s m (listing_now rows moment m))
        ∙ rw (
          removes (is_observer (s.peer, m.token) (observers (events rows))),
          keeps (is_long (asked_block m) (listing_now rows moment m).body)
              (listing_now rows moment m).body (listing_now rows moment m).tag,
        ) refl) ∙ h)

    watching : (b : Bool)
        → number_of (asked_block m) ≡ 0
        → list_any is_watching (observed_if b rows s m (listing_now rows moment m)).notes ≡ true
        → Told s m (observed_if b rows s m (listing_now rows moment m)).sent
    watching true first h = record {
      reply =
          body_reply (Some (tag (entries rows) moment)) (Some (observe_value (events rows)))
          (asked_block m) (listing_now rows moment m).body;
      good =
          good_body_reply (Some (tag (entries rows) moment)) (Some (observe_value (events rows)))
          (asked_block m) (listing_now rows moment m).body (tag-length (entries rows) moment)
          (szx-usable (asked_block m) (request-usable m));
      observed =
          body_observes (tag (entries rows) moment) (observe_value (events rows)) (asked_block m)
          (listing_now rows moment m).body first;
      among = inl refl;
    }
    watching false first h = absurd (unobserving h)

    valued : (b c : Bool)
        → number_of (asked_block m) ≡ 0
        → list_any is_watching (observation_effects (observing_by b c) rows moment s m).notes ≡ true
        → Told s m (observation_effects (observing_by b c) rows moment s m).sent
    valued true c first h =
        watching (has_room_for (query_of m) (without (s.peer, m.token) (observers (events rows))))
        first h
    valued false true first h = absurd (unobserving h)
    valued false false first h =
        absurd (silent (look_effects (entries rows) moment s m).notes
        (look_effects-notes (entries rows) moment s m) h)

    observe : (o : Option ℕ)
        → number_of (asked_block m) ≡ 0
        → list_any is_watching (first_block_effects o rows moment s m).notes ≡ true
        → Told s m (first_block_effects o rows moment s m).sent
    observe None first h =
        absurd (silent (look_effects (entries rows) moment s m).notes
        (look_effects-notes (entries rows) moment s m) h)
    observe (Some value) first h = valued (value == register) (value == deregister) first h

    reads : (n : Note) → of_read n ≡ true → is_watching n ≡ false
    reads (note.Watched o) h = absurd (false≢true h)
    reads _ h = refl

    by : (b : Bool)
        → is_later_block m ≡ b
        → list_any is_watching (block_effects b rows moment s m).notes ≡ true
        → Told s m (block_effects b rows moment s m).sent
    by true e h =
        absurd (false≢true
        (sym (none_of of_read is_watching reads (later_block rows moment s m).notes
        (later_block-kept rows moment s m)) ∙ h))
    by false e h =
        observe (observe_in m)
        (let low = ltb-false 0 (number_of (asked_block m)) e in omega (arith, low)) h

-- a row that adds somebody for a lookup tells so
pub admit_told : (starved : Bool) (rows : List Row) (moment : ℕ) (s : Step) (m : Message)
    → reading s.datagram ≡ Ok m
    → role_of m.kind m.code ≡ role.Request
    → is_lookup (path_in m) ≡ true
    → list_any is_watching (effects step.Admit starved rows moment s).notes ≡ true
    → Told s m (effects step.Admit starved rows moment s).sent
unfolding effects served answering
admit_told starved rows moment s m read asks looks some =
    subst (λ x. Told s m (heard starved rows moment s x).sent) (sym read)
    (subst (λ r. Told s m (message_effects r starved rows moment s m).sent) (sym asks)
    (by starved
    (subst (λ r. list_any is_watching (message_effects r starved rows moment s m).notes ≡ true)
    asks
    (subst (λ x. list_any is_watching (heard starved rows moment s x).notes ≡ true) read some))))
  where
    on : (p : Path)
        → is_lookup p ≡ true
        → list_any is_watching (served p rows moment s m).notes ≡ true
        → Told s m (served p rows moment s m).sent
    on path.Core h g = absurd (false≢true h)
    on path.SimpleRd h g = absurd (false≢true h)
    on path.Rd h g = absurd (false≢true h)
    on (path.Location number) h g = absurd (false≢true h)
    on path.Res h g = lookup_told rows moment s m g
    on path.Ep h g = lookup_told rows moment s m g
    on path.Other h g = absurd (false≢true h)

    refused : (o : Option Reply)
        → list_any is_watching (request_answered o rows moment s m).notes ≡ true
        → Told s m (request_answered o rows moment s m).sent
    refused (Some refusal) h =
        absurd (false≢true
        (sym (ap (list_any is_watching)
        (refusal_notes m.kind (first_bad_option m.options) s m refusal)) ∙ h))
    refused None h = on (path_in m) looks h

    by : (b : Bool)
        → list_any is_watching (message_effects role.Request b rows moment s m).notes ≡ true
        → Told s m (message_effects role.Request b rows moment s m).sent
    by true h = absurd (false≢true h)
    by false h = refused (refusal_of_request m) h
