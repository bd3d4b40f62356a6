-- What a step notes as settled is the answer that its commit sent.
use Rattle.std.proofs.Common.{
  ◌≡◌,
  inl,
  ℕ,
  Bool,
  true,
  false,
  List,
  [],
  ◌∷◌,
  length,
  codes,
  nat_le,
  Result,
  Ok,
  Err,
  refl,
  sym,
  ap,
  subst,
  ◌∙◌,
  arith,
}
use Rattle.std.specs.List.{AllByRecursion}
use Rattle.std.proofs.lemmas.Bool.{false≢true, and_parts}
use Rattle.rd_base.specs.declared.peers.Peer.{Peer}
use Rattle.rd_base.proofs.lemmas.Among.{Among}
use Rattle.rd_base.proofs.lemmas.Each.{each_append}
use Rattle.message_model.specs.declared.messages.Unread.{Unread}
use Rattle.message_model.specs.declared.requests.Path.{Path}
use Rattle.message_model.specs.declared.requests.Path.TheVariants as path
use Rattle.message_model.specs.Codes as codes_of
use Rattle.message_model.specs.Message.{Message}
use Rattle.message_model.specs.OptionTable as table
use Rattle.message_model.specs.OptionTable.{stands_in}
use Rattle.message_model.specs.Reading.{reading}
use Rattle.message_model.specs.Request.{path_in}
use Rattle.message_model.specs.Spelling.{spelling}
use Rattle.event_model.specs.declared.notes.Note.{Note}
use Rattle.event_model.specs.declared.notes.Note.TheVariants as note
use Rattle.event_model.specs.Fetches.{max_fetches, fetches, is_fetching}
use Rattle.journal_model.specs.declared.steps.Step.{Step}
use Rattle.journal_model.specs.declared.steps.StepKind.{StepKind}
use Rattle.journal_model.specs.declared.steps.StepKind.TheVariants as step
use Rattle.journal_model.specs.declared.rows.Row.{Row}
use Rattle.journal_model.specs.Journal.{events, entries}
use Rattle.journal_model.specs.Effects.{Reply, bare, diagnostic, answer, answering}
use Rattle.journal_model.specs.Changes.{Outcome}
use Rattle.journal_model.specs.Requests.{method_of}
use Rattle.journal_model.specs.Registrations.{registering}
use Rattle.journal_model.specs.Commits.{
  settling,
  simple_unless,
  location_outcome,
  write_done,
  commit_effects,
  fetch_room,
}
use Rattle.journal_model.specs.Rows.{done, effects}
use Rattle.journal_model.proofs.NoteKinds.{
  of_lookup,
  of_write,
  of_empty,
  of_tick,
  of_response,
  are,
}
use Rattle.journal_model.proofs.StepNotes.{
  keep_effects-notes,
  lookup_effects-notes,
  read_effects-notes,
  write_effects-notes,
  tick_effects-notes,
}
use Rattle.journal_model.proofs.notes.ChangeNotes.{
  registering-notes,
  location-notes,
  response_effects-notes,
}
use Rattle.journal_model.proofs.notes.BeginNotes.{beginning-notes}
use Rattle.journal_model.proofs.notes.StepTable.{StepNoted, effects-StepNoted}
use Rattle.journal_model.proofs.notes.StepTable as noted
use Rattle.journal_model.proofs.datagrams.FittingReplies.{
  IsGoodReply,
  good_bare,
  good_unavailable,
  good_registering,
  good_location,
}
use Rattle.headline_law.proofs.answers.ReportedOutcomes.{
  IsReported,
  registering_reported,
  location_reported,
}

-- octets that settle the write of a place: the answer that its commit sends
pub record SettlesAnswer (kind : StepKind) (s : Step) (sent : List (Peer × List ℕ)) (place : ℕ)
    (octets : List ℕ) : Type 0 where
  pub commits : kind ≡ step.Commit place
  pub message : Message
  pub reply : Reply
  pub read : reading s.datagram ≡ Ok message
  pub octets_are : octets ≡ spelling (answer s message reply)
  pub good : IsGoodReply reply
  pub responds : codes_of.is_response_code reply.code ≡ true
  pub unobserved : stands_in table.observe reply.options ≡ false
  pub among : Among (s.peer, octets) sent

-- so it is of each note that settles something
abbrev pub SettleFact : StepKind → Step → List (Peer × List ℕ) → Note → Type 0
SettleFact kind s sent (note.Settled place octets) = SettlesAnswer kind s sent place octets
SettleFact kind s sent _ = Unit {0}

-- of all notes
abbrev pub SettleFacts : StepKind → Step → List (Peer × List ℕ) → List Note → Type 0
SettleFacts kind s sent notes = AllByRecursion (SettleFact kind s sent) notes

-- notes of a kind that settles nothing
unsettled : (of_kind : Note → Bool)
    → ((place : ℕ) (octets : List ℕ) → of_kind (note.Settled place octets) ≡ false)
    → (kind : StepKind) (s : Step) (sent : List (Peer × List ℕ)) (notes : List Note)
    → are of_kind notes ≡ true
    → SettleFacts kind s sent notes
unsettled of_kind never kind s sent [] h = tt
unsettled of_kind never kind s sent (n ∷ notes) h =
    let both = and_parts (of_kind n) (are of_kind notes) h in
    (by n both.0, unsettled of_kind never kind s sent notes both.1)
  where
    by : (x : Note) → of_kind x ≡ true → SettleFact kind s sent x
    by (note.Settled place octets) e = absurd (false≢true (sym (never place octets) ∙ e))
    by _ e = tt

-- what is noted beside a change
abbrev of_change : Note → Bool
of_change (note.Entered entry) = true
of_change (note.Piece peer key number octets) = true
of_change (note.Finished peer key) = true
of_change _ = false

-- a commit of a write
commit_settles : (rows : List Row) (moment place : ℕ) (s : Step) (m : Message)
    → reading s.datagram ≡ Ok m
    → SettleFacts (step.Commit place) s (commit_effects rows moment place s m).sent
    (commit_effects rows moment place s m).notes
unfolding commit_effects answering
commit_settles rows moment place s m read = by (path_in m)
  where
    outcome : (o : Outcome)
        → IsGoodReply o.reply
        → IsReported (entries rows) moment o.reply o.notes
        → are of_change o.notes ≡ true
        → SettleFacts (step.Commit place) s (settling place s m o).sent
        (settling place s m o).notes
    outcome o good told notes =
        each_append (SettleFact (step.Commit place) s (settling place s m o).sent) o.notes
        (note.Settled place (spelling (answer s m o.reply)) ∷ [])
        (unsettled of_change (λ p os. refl) (step.Commit place) s (settling place s m o).sent
        o.notes notes) (
          record {
            commits = refl;
            message = m;
            reply = o.reply;
            read = read;
            octets_are = refl;
            good = good;
            responds = told.responds;
            unobserved = told.unobserved;
            among = inl refl;
          },
          tt,
        )

    simply : (reply : Reply) (more : List (Peer × List ℕ))
        → IsGoodReply reply
        → codes_of.is_response_code reply.code ≡ true
        → stands_in table.observe reply.options ≡ false
        → SettlesAnswer (step.Commit place) s ((s.peer, spelling (answer s m reply)) ∷ more) place
        (spelling (answer s m reply))
    simply reply more good class none = record {
      commits = refl;
      message = m;
      reply = reply;
      read = read;
      octets_are = refl;
      good = good;
      responds = class;
      unobserved = none;
      among = inl refl;
    }

    simple : (running too_many : Bool)
        → SettleFacts (step.Commit place) s
        (simple_unless (fetch_room running too_many) (events rows) place s m).sent
        (simple_unless (fetch_room running too_many) (events rows) place s m).notes
    simple true too_many = (
      simply (diagnostic codes_of.service_unavailable (codes "fetching")) []
          (good_unavailable (codes "fetching") (omega arith)) refl refl,
      tt,
    )
    simple false true = (
      simply (diagnostic codes_of.service_unavailable (codes "fetches")) []
          (good_unavailable (codes "fetches") (omega arith)) refl refl,
      tt,
    )
    simple false false = (
      simply (bare codes_of.changed) _
          (good_bare codes_of.changed refl (λ e. absurd (omega (arith, e)))) refl refl,
      (tt, tt),
    )

    by : (p : Path)
        → SettleFacts (step.Commit place) s (write_done p rows moment place s m).sent
        (write_done p rows moment place s m).notes
    by path.Core = tt
    by path.SimpleRd =
        simple (is_fetching s.peer (events rows))
        (nat_le max_fetches (length (fetches (events rows))))
    by path.Rd =
        outcome (registering rows moment s m) (good_registering rows moment s m)
        (registering_reported rows moment s m)
        (registering-notes of_change (λ entry. refl) (λ peer key number octets. refl)
        (λ peer key. refl) rows moment s m)
    by (path.Location number) =
        outcome (location_outcome (method_of m.code) rows moment s m number)
        (good_location (method_of m.code) rows moment s m number)
        (location_reported (method_of m.code) rows moment s m number)
        (location-notes of_change (λ entry. refl) (λ peer key number octets. refl)
        (λ peer key. refl) (method_of m.code) rows moment s m number)
    by path.Res = tt
    by path.Ep = tt
    by path.Other = tt

-- a commit
done_settles : (starved : Bool) (rows : List Row) (moment place : ℕ) (s : Step)
    (read : Result Message Unread)
    → reading s.datagram ≡ read
    → SettleFacts (step.Commit place) s (done starved rows moment place s read).sent
    (done starved rows moment place s read).notes
unfolding answering
done_settles starved rows moment place s (Err fault) e = tt
done_settles true rows moment place s (Ok m) e = (tt, tt)
done_settles false rows moment place s (Ok m) e = commit_settles rows moment place s m e

-- the step commits nothing
abbrev IsNoCommit : StepKind → Type 0
IsNoCommit (step.Commit place) = ⊥
IsNoCommit _ = Unit {0}

-- any other step
other_settles : (kind : StepKind) (starved : Bool) (rows : List Row) (moment : ℕ) (s : Step)
    (sent : List (Peer × List ℕ))
    → IsNoCommit kind
    → SettleFacts kind s sent (effects kind starved rows moment s).notes
other_settles kind starved rows moment s sent no_commit =
    by (effects kind starved rows moment s).notes (effects-StepNoted kind starved rows moment s)
  where
    by : (ns : List Note)
        → StepNoted kind starved rows moment s ns
        → SettleFacts kind s sent ns
    by ns (noted.nothing blank) = subst (SettleFacts kind s sent) (sym blank) tt
    by ns (noted.write m here read asks is) =
        unsettled of_write (λ p o. refl) kind s sent ns
        (ap (are of_write) is ∙ write_effects-notes (events rows) moment s m)
    by ns (noted.lookup m here read at is) =
        unsettled of_lookup (λ p o. refl) kind s sent ns
        (ap (are of_lookup) is ∙ lookup_effects-notes rows moment s m)
    by ns (noted.source m here read at is) =
        unsettled of_lookup (λ p o. refl) kind s sent ns
        (ap (are of_lookup) is ∙ read_effects-notes rows moment s m)
    by ns (noted.empty here all) = unsettled of_empty (λ p o. refl) kind s sent ns all
    by ns (noted.response m here read responds is) =
        unsettled of_response (λ p o. refl) kind s sent ns
        (ap (are of_response) is ∙ response_effects-notes rows moment s m)
    by ns (noted.commit m place commits read is) = absurd (subst IsNoCommit commits no_commit)
    by ns (noted.failed place commits is) = absurd (subst IsNoCommit commits no_commit)
    by ns (noted.keep m body tag keeps is) =
        subst (SettleFacts kind s sent) (sym (is ∙ keep_effects-notes s m body tag)) (tt, tt)
    by ns (noted.tick ticks is) =
        unsettled of_tick (λ p o. refl) kind s sent ns
        (ap (are of_tick) is ∙ tick_effects-notes starved rows moment s)
    by ns (noted.begins first begins is) =
        unsettled of_begin (λ p o. refl) kind s sent ns
        (ap (are of_begin) is
        ∙ beginning-notes of_begin (λ entry. refl) starved (entries rows) moment s first)
      where
        of_begin : Note → Bool
        of_begin (note.Entered entry) = true
        of_begin _ = false

-- so it is of any step
pub effects_settle : (kind : StepKind) (starved : Bool) (rows : List Row) (moment : ℕ) (s : Step)
    → SettleFacts kind s (effects kind starved rows moment s).sent
    (effects kind starved rows moment s).notes
unfolding effects
effects_settle step.Admit starved rows moment s =
    other_settles step.Admit starved rows moment s _ tt
effects_settle step.Look starved rows moment s =
    other_settles step.Look starved rows moment s _ tt
effects_settle (step.Commit place) starved rows moment s =
    done_settles starved rows moment place s (reading s.datagram) refl
effects_settle (step.Keep body current) starved rows moment s =
    other_settles (step.Keep body current) starved rows moment s _ tt
effects_settle step.Tick starved rows moment s =
    other_settles step.Tick starved rows moment s _ tt
effects_settle (step.Begin first) starved rows moment s =
    other_settles (step.Begin first) starved rows moment s _ tt
