-- Each challenge that a step notes is sent to the peer of the step, which asked for a simple
-- registration.
use Rattle.std.proofs.Common.{
  ◌≡◌,
  ℕ,
  ◌≤◌,
  Bool,
  true,
  false,
  not,
  List,
  [],
  ◌∷◌,
  length,
  Option,
  Some,
  None,
  Result,
  Ok,
  Err,
  refl,
  sym,
  ap,
  subst,
  ◌∙◌,
  arith,
}
use Rattle.std.specs.List.{AllByRecursion, IsAmong}
use Rattle.std.proofs.lemmas.Bool.{and_parts, false≢true}
use Rattle.rd_base.specs.declared.peers.Peer.{Peer}
use Rattle.rd_base.proofs.lemmas.Among.{all_at_index}
use Rattle.message_model.specs.declared.messages.Role.{Role}
use Rattle.message_model.specs.declared.messages.Role.TheVariants as role
use Rattle.message_model.specs.declared.messages.Unread.{Unread}
use Rattle.message_model.specs.declared.requests.Path.{Path}
use Rattle.message_model.specs.declared.requests.Path.TheVariants as path
use Rattle.message_model.specs.Message.{Message, role_of, longest_token}
use Rattle.message_model.specs.OptionTable.{first_bad_option}
use Rattle.message_model.specs.Reading.{reading}
use Rattle.message_model.specs.Request.{path_in, echo_in}
use Rattle.message_model.specs.Spelling.{spelling}
use Rattle.message_model.proofs.ReadingLaws.{header_read}
use Rattle.event_model.specs.declared.notes.Note.{Note}
use Rattle.event_model.specs.declared.notes.Note.TheVariants as note
use Rattle.event_model.specs.Events.{Event}
use Rattle.event_model.specs.Repeats.{repeated, settled, is_full_of_exchanges}
use Rattle.event_model.specs.Challenges.{next_challenge}
use Rattle.journal_model.specs.declared.steps.Step.{Step}
use Rattle.journal_model.specs.declared.steps.StepKind.{StepKind}
use Rattle.journal_model.specs.declared.steps.StepKind.TheVariants as step
use Rattle.journal_model.specs.declared.rows.Row.{Row}
use Rattle.journal_model.specs.Journal.{events, entries}
use Rattle.journal_model.specs.Effects.{
  Effects,
  Reply,
  answer_kind,
  answer_mid,
  answer,
  answering,
}
use Rattle.journal_model.specs.Requests.{
  Method,
  get,
  post,
  put,
  delete,
  other_method,
  method_of,
  refusal_of_request,
}
use Rattle.journal_model.specs.Looks.{look_effects}
use Rattle.journal_model.specs.Writes.{
  challenge,
  again_answered,
  is_fetched_for,
  shows_address,
  is_unproved,
  admitted_unless,
  write_unless,
  write_effects,
}
use Rattle.journal_model.specs.EmptyMessages.{acknowledged, reset}
use Rattle.journal_model.specs.Responses.{response_effects}
use Rattle.journal_model.specs.Lookups.{lookup_effects, read_effects}
use Rattle.journal_model.specs.Rows.{
  served_on_location,
  served,
  request_answered,
  message_effects,
  heard,
  effects,
  row_moment,
  row,
  AreRows,
}
use Rattle.journal_model.specs.PlacedRows.{Within}
use Rattle.journal_model.proofs.NoteKinds.{
  of_lookup,
  of_empty,
  of_tick,
  of_commit,
  of_response,
  are,
}
use Rattle.journal_model.proofs.StepNotes.{
  look_effects-notes,
  keep_effects-notes,
  lookup_effects-notes,
  read_effects-notes,
  acknowledged-notes,
  reset-notes,
  tick_effects-notes,
}
use Rattle.journal_model.proofs.notes.BeginNotes.{beginning-notes}
use Rattle.journal_model.proofs.notes.ChangeNotes.{commit_effects-notes, response_effects-notes}
use Rattle.journal_model.proofs.notes.SilentSteps.{refusal_notes, unread_notes}
use Rattle.journal_model.proofs.notes.StepTable.{StepNoted, effects-StepNoted}
use Rattle.journal_model.proofs.notes.StepTable as noted
use Rattle.journal_model.proofs.entries.JournalLaws.{RowMade, each_made}
use Rattle.journal_model.proofs.datagrams.FittingReplies.{
  reply_read,
  next_challenge-length,
  good_challenge,
}
use Rattle.headline_law.specs.EchoedFirst.{SendsEcho, IsChallenge}

-- ---- what is sent

-- the step challenges a peer by a value: so it answers a simple registration, and sends this alone
record Challenges (rows : List Row) (s : Step) (sent : List (Peer × List ℕ)) (peer : Peer)
    (value : List ℕ) : Type 0 where
  heard : s.kind ≡ step.Admit
  message : Message
  read : reading s.datagram ≡ Ok message
  asks : role_of message.kind message.code ≡ role.Request
  simple : path_in message ≡ path.SimpleRd
  to : peer ≡ s.peer
  value_is : value ≡ next_challenge s.word (events rows)
  sent_is : sent ≡ (peer, spelling (answer s message (challenge value))) ∷ []

-- what a note says of that
abbrev ChallengeFact : List Row → Step → List (Peer × List ℕ) → Note → Type 0
ChallengeFact rows s sent (note.Challenged peer value) = Challenges rows s sent peer value
ChallengeFact rows s sent _ = Unit {0}

-- of all that a step does
abbrev ChallengesSent : List Row → Step → Effects → Type 0
ChallengesSent rows s e = AllByRecursion (ChallengeFact rows s e.sent) e.notes

-- notes of a kind that challenges nobody
never_challenges : (kind : Note → Bool)
    → ((peer : Peer) (value : List ℕ) → kind (note.Challenged peer value) ≡ false)
    → (rows : List Row) (s : Step) (sent : List (Peer × List ℕ)) (notes : List Note)
    → are kind notes ≡ true
    → AllByRecursion (ChallengeFact rows s sent) notes
never_challenges kind never rows s sent [] h = tt
never_challenges kind never rows s sent (n ∷ notes) h =
    let both = and_parts (kind n) (are kind notes) h in
    (by n both.0, never_challenges kind never rows s sent notes both.1)
  where
    by : (x : Note) → kind x ≡ true → ChallengeFact rows s sent x
    by (note.Challenged peer value) fits = absurd (false≢true (sym (never peer value) ∙ fits))
    by _ fits = tt

-- no notes
none_challenged : (rows : List Row) (s : Step) (sent : List (Peer × List ℕ)) (notes : List Note)
    → notes ≡ []
    → AllByRecursion (ChallengeFact rows s sent) notes
none_challenged rows s sent notes none =
    subst (AllByRecursion (ChallengeFact rows s sent)) (sym none) tt

-- ---- writes

-- what is unproved is a simple registration
unproved_simple : (events : List Event) (moment : ℕ) (s : Step) (m : Message)
    → is_unproved events moment s m ≡ true
    → path_in m ≡ path.SimpleRd
unproved_simple events moment s m h =
    by (path_in m)
    (and_parts (is_fetched_for (path_in m)) (not (shows_address (echo_in m) moment s.peer events))
    h).0
  where
    by : (p : Path) → is_fetched_for p ≡ true → p ≡ path.SimpleRd
    by path.SimpleRd e = refl
    by path.Core e = absurd (false≢true e)
    by path.Rd e = absurd (false≢true e)
    by (path.Location number) e = absurd (false≢true e)
    by path.Res e = absurd (false≢true e)
    by path.Ep e = absurd (false≢true e)
    by path.Other e = absurd (false≢true e)

write_challenges : (rows : List Row) (moment : ℕ) (s : Step) (m : Message)
    → s.kind ≡ step.Admit
    → reading s.datagram ≡ Ok m
    → role_of m.kind m.code ≡ role.Request
    → ChallengesSent rows s (write_effects (events rows) moment s m)
unfolding write_effects answering
write_challenges rows moment s m here read asks = by (repeated moment s.peer m.mid (events rows))
  where
    again : (octets : Option (List ℕ)) → ChallengesSent rows s (again_answered s octets)
    again None = tt
    again (Some octets) = tt

    new : (full unproved : Bool)
        → is_unproved (events rows) moment s m ≡ unproved
        → ChallengesSent rows s (admitted_unless full unproved (events rows) s m)
    new true unproved e = tt
    new false true e = (
      record {
        heard = here;
        message = m;
        read = read;
        asks = asks;
        simple = unproved_simple (events rows) moment s m e;
        to = refl;
        value_is = refl;
        sent_is = refl;
      },
      tt,
    )
    new false false e = (tt, tt)

    by : (first : Option Event)
        → ChallengesSent rows s (write_unless first (events rows) moment s m)
    by (Some first) = again (settled first.place (events rows))
    by None =
        new (is_full_of_exchanges moment (events rows)) (is_unproved (events rows) moment s m) refl

-- ---- what is heard

request_challenges : (rows : List Row) (moment : ℕ) (s : Step) (m : Message)
    → s.kind ≡ step.Admit
    → reading s.datagram ≡ Ok m
    → role_of m.kind m.code ≡ role.Request
    → ChallengesSent rows s (request_answered (refusal_of_request m) rows moment s m)
unfolding served
request_challenges rows moment s m here read asks = by (refusal_of_request m)
  where
    write : ChallengesSent rows s (write_effects (events rows) moment s m)
    write = write_challenges rows moment s m here read asks

    looks : ChallengesSent rows s (look_effects (entries rows) moment s m)
    looks = none_challenged rows s _ _ (look_effects-notes (entries rows) moment s m)

    lookups : ChallengesSent rows s (lookup_effects rows moment s m)
    lookups =
        never_challenges of_lookup (λ p v. refl) rows s _ (lookup_effects rows moment s m).notes
        (lookup_effects-notes rows moment s m)

    there : (w : Method) → ChallengesSent rows s (served_on_location w rows moment s m)
    there get =
        never_challenges of_lookup (λ p v. refl) rows s _ (read_effects rows moment s m).notes
        (read_effects-notes rows moment s m)
    there post = write
    there put = write
    there delete = write
    there other_method = tt

    on : (p : Path) → ChallengesSent rows s (served p rows moment s m)
    on path.Core = looks
    on path.Res = lookups
    on path.Ep = lookups
    on path.SimpleRd = write
    on path.Rd = write
    on (path.Location number) = there (method_of m.code)
    on path.Other = tt

    by : (refusal : Option Reply) → ChallengesSent rows s (request_answered refusal rows moment s m)
    by (Some refusal) =
        none_challenged rows s _ _ (refusal_notes m.kind (first_bad_option m.options) s m refusal)
    by None = on (path_in m)

role_challenges : (r : Role) (starved : Bool) (rows : List Row) (moment : ℕ) (s : Step)
    (m : Message)
    → s.kind ≡ step.Admit
    → reading s.datagram ≡ Ok m
    → role_of m.kind m.code ≡ r
    → ChallengesSent rows s (message_effects r starved rows moment s m)
unfolding answering
role_challenges role.Ping starved rows moment s m here read is = tt
role_challenges role.Acknowledgement starved rows moment s m here read is =
    never_challenges of_empty (λ p v. refl) rows s _ (acknowledged s.peer m.mid (events rows)).notes
    (acknowledged-notes s.peer m.mid (events rows))
role_challenges role.Reset starved rows moment s m here read is =
    never_challenges of_empty (λ p v. refl) rows s _ (reset s.peer m.mid (events rows)).notes
    (reset-notes s.peer m.mid (events rows))
role_challenges role.Request true rows moment s m here read is = tt
role_challenges role.Request false rows moment s m here read is =
    request_challenges rows moment s m here read is
role_challenges role.Response true rows moment s m here read is = tt
role_challenges role.Response false rows moment s m here read is =
    never_challenges of_response (λ p v. refl) rows s _ (response_effects rows moment s m).notes
    (response_effects-notes rows moment s m)
role_challenges role.Ignored starved rows moment s m here read is = tt

heard_challenges : (starved : Bool) (rows : List Row) (moment : ℕ) (s : Step)
    → s.kind ≡ step.Admit
    → ChallengesSent rows s (effects step.Admit starved rows moment s)
unfolding effects
heard_challenges starved rows moment s here = by (reading s.datagram) refl
  where
    by : (read : Result Message Unread)
        → reading s.datagram ≡ read
        → ChallengesSent rows s (heard starved rows moment s read)
    by (Err fault) e = none_challenged rows s _ _ (unread_notes s fault)
    by (Ok m) e = role_challenges (role_of m.kind m.code) starved rows moment s m here e refl

-- ---- any step

effects_challenges : (kind : StepKind) (starved : Bool) (rows : List Row) (moment : ℕ) (s : Step)
    → s.kind ≡ kind
    → ChallengesSent rows s (effects kind starved rows moment s)
effects_challenges kind starved rows moment s here =
    by (effects kind starved rows moment s).notes (effects-StepNoted kind starved rows moment s)
    refl
  where
    sent : List (Peer × List ℕ)
    sent = (effects kind starved rows moment s).sent

    admits : kind ≡ step.Admit → ChallengesSent rows s (effects kind starved rows moment s)
    admits is =
        subst (λ (k : StepKind). ChallengesSent rows s (effects k starved rows moment s)) (sym is)
        (heard_challenges starved rows moment s (here ∙ is))

    of_kind : (test : Note → Bool)
        → ((peer : Peer) (value : List ℕ) → test (note.Challenged peer value) ≡ false)
        → are test (effects kind starved rows moment s).notes ≡ true
        → ChallengesSent rows s (effects kind starved rows moment s)
    of_kind test never h = never_challenges test never rows s _ _ h

    by : (ns : List Note)
        → StepNoted kind starved rows moment s ns
        → (effects kind starved rows moment s).notes ≡ ns
        → ChallengesSent rows s (effects kind starved rows moment s)
    by ns (noted.nothing blank) e = none_challenged rows s _ _ (e ∙ blank)
    by ns (noted.write m at read asks is) e = admits at
    by ns (noted.lookup m at read seeks is) e = admits at
    by ns (noted.source m at read reads is) e = admits at
    by ns (noted.empty at all) e = admits at
    by ns (noted.response m at read responds is) e = admits at
    by ns (noted.commit m place commits read is) e =
        of_kind of_commit (λ p v. refl)
        (ap (are of_commit) (e ∙ is) ∙ commit_effects-notes rows moment place s m)
    by ns (noted.failed place commits is) e =
        of_kind of_commit (λ p v. refl) (ap (are of_commit) (e ∙ is))
    by ns (noted.keep m body tag keeps is) e =
        of_kind of_lookup (λ p v. refl)
        (ap (are of_lookup) (e ∙ (is ∙ keep_effects-notes s m body tag)))
    by ns (noted.tick ticks is) e =
        of_kind of_tick (λ p v. refl)
        (ap (are of_tick) (e ∙ is) ∙ tick_effects-notes starved rows moment s)
    by ns (noted.begins first begins is) e =
        of_kind of_commit (λ p v. refl)
        (ap (are of_commit) (e ∙ is)
        ∙ beginning-notes of_commit (λ entry. refl) starved (entries rows) moment s first)

-- ---- rows

-- the challenge can be read, and has its value in Echo
sends_echo : (r : Row) (s : Step) (m : Message) (peer : Peer) (value : List ℕ)
    → reading s.datagram ≡ Ok m
    → length value ≡ 8
    → r.sent ≡ (peer, spelling (answer s m (challenge value))) ∷ []
    → SendsEcho r peer value
sends_echo r s m peer value read short is = record {
  octets = spelling (answer s m (challenge value));
  among = rw is (0, (omega arith, refl));
  message = answer s m (challenge value);
  read =
      reply_read (answer_kind m.kind) (answer_mid s m m.kind) m.token (challenge value) small
      (good_challenge value short);
  code = refl;
  options = refl;
}
  where
    small : length m.token ≤ longest_token
    small = (header_read s.datagram m read).token

-- so it is of the row of a step
row_challenges : (rows : List Row) (s : Step) (starved : Bool) (peer : Peer) (value : List ℕ)
    → IsAmong (row rows s starved).notes (note.Challenged peer value)
    → IsChallenge rows (row rows s starved) peer value
unfolding row
row_challenges rows s starved peer value among =
    let it : Challenges rows s (effects s.kind starved rows (row_moment rows s) s).sent peer value =
    all_at_index (ChallengeFact rows s (effects s.kind starved rows (row_moment rows s) s).sent)
    (effects s.kind starved rows (row_moment rows s) s).notes (note.Challenged peer value) among
    (effects_challenges s.kind starved rows (row_moment rows s) s refl) in
    record {
      heard = it.heard;
      message = it.message;
      read = it.read;
      asks = it.asks;
      simple = it.simple;
      to = it.to;
      value_is = it.value_is;
      sends =
          sends_echo (row rows s starved) s it.message peer value it.read
          (ap length it.value_is ∙ next_challenge-length s.word (events rows)) it.sent_is;
    }

-- and of each row among rows of steps
pub challenge_of : (rows before : List Row) (r : Row) (peer : Peer) (value : List ℕ)
    → AreRows rows
    → Within rows before r
    → IsAmong r.notes (note.Challenged peer value)
    → IsChallenge before r peer value
challenge_of rows before r peer value all within among =
    let it : RowMade before r = each_made rows before r all within in
    subst (λ (x : Row). IsChallenge before x peer value) (sym it.is)
    (row_challenges before it.step it.starved peer value
    (subst (λ (x : Row). IsAmong x.notes (note.Challenged peer value)) it.is among))
