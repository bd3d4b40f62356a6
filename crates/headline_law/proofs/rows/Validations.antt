-- 2.03 is sent by a look alone, to whom asked, and it carries the tag of its own row and nothing
-- else.
use Rattle.std.proofs.Common.{
  ◌≡◌,
  ℕ,
  ◌≤◌,
  ◌==◌,
  Bool,
  true,
  false,
  List,
  [],
  ◌∷◌,
  length,
  Option,
  Some,
  None,
  Result,
  Ok,
  refl,
  sym,
  ap,
  subst,
  ◌∙◌,
  arith,
}
use Rattle.std.specs.List.{AllByRecursion}
use Rattle.std.proofs.lemmas.Bool.{false≢true}
use Rattle.std.specs.Prelude.{is_some, option_map}
use Rattle.rd_base.specs.declared.peers.Peer.{Peer}
use Rattle.message_model.specs.declared.messages.Unread.{Unread}
use Rattle.message_model.specs.Message.{Message, longest_token}
use Rattle.message_model.specs.Codes as codes_of
use Rattle.message_model.specs.OptionTable as table
use Rattle.message_model.specs.Reading.{reading}
use Rattle.message_model.specs.Spelling.{spelling, header_spelling}
use Rattle.message_model.proofs.MessageLaws.{reading_in_order}
use Rattle.message_model.proofs.ReadingLaws.{header_read}
use Rattle.record_model.specs.Discovery.{discovery}
use Rattle.history_model.specs.declared.entries.Entry.{Entry}
use Rattle.history_model.specs.Listing.{listing, tag}
use Rattle.journal_model.specs.declared.steps.Step.{Step}
use Rattle.journal_model.specs.declared.steps.StepKind.{StepKind}
use Rattle.journal_model.specs.declared.steps.StepKind.TheVariants as step
use Rattle.journal_model.specs.declared.rows.Row.{Row}
use Rattle.journal_model.specs.Journal.{is_look, entries}
use Rattle.journal_model.specs.Effects.{answer, answering, without_memory}
use Rattle.journal_model.specs.Requests.{asked_block, is_look_request}
use Rattle.journal_model.specs.Bodies.{is_long}
use Rattle.journal_model.specs.Effects.{answering}
use Rattle.journal_model.specs.Looks.{
  names_tag,
  still_valid,
  unless_long,
  unless_valid,
  found_or_not,
  look_for,
  look,
  look_sent,
  looked,
  look_effects,
}
use Rattle.journal_model.specs.Rows.{effects, row_moment, row}
use Rattle.journal_model.specs.Machine.{MayMake, IsJournal}
use Rattle.journal_model.specs.CarriedBlocks.{looks_with_tag, Sent, Validates}
use Rattle.journal_model.specs.AskedListings.{asked_at}
use Rattle.journal_model.proofs.EventRows.{row_within}
use Rattle.rd_base.proofs.lemmas.Among.{all_at_index}
use Rattle.rd_base.proofs.lemmas.Each.{each_weaker}
use Rattle.journal_model.proofs.entries.JournalLaws.{Made, each_row}
use Rattle.journal_model.proofs.sends.BodyAnswers.{
  wanted_by,
  asking,
  code_read,
  same_message,
  tag-length,
}
use Rattle.journal_model.proofs.sends.PlainSteps.{starved_plain}
use Rattle.journal_model.proofs.sends.TickSends.{plain_not_valid}
use Rattle.journal_model.proofs.sends.ValidSends.{NotValid, body_code}
use Rattle.headline_law.proofs.sends.ValidLaw.{
  RowSends,
  journal_sends,
  looked_a_look,
  LooksAt,
  a_look_reads,
}
use Rattle.headline_law.proofs.rows.RowCarries.{asked_in-own}
use Rattle.journal_model.specs.Sought.{
  Sought,
  listing_of,
  source_of,
  own_links,
  sought_in,
  has_tag,
  is_found,
}
use Rattle.history_model.specs.Sources.{source}
use Rattle.event_model.specs.KeptAnswers.{Answer}

-- a datagram to a peer and a token: where it is read to be 2.03, it carries the tag of a history at
-- a moment and nothing else, and the request named that tag and seeks what is found there under it
pub record IsValidation (s : Step) (m : Message) (history : List Entry) (moment : ℕ)
    (d : Peer × List ℕ) (n : Message) : Type 0 where
  pub peer_is : d.0 ≡ s.peer
  pub token_is : n.token ≡ m.token
  pub sought : Sought
  pub seeks : sought_in m ≡ Some sought
  pub tagged : has_tag (sought_in m) ≡ true
  pub there : is_found (sought_in m) history moment ≡ true
  pub named : names_tag (tag history moment) m ≡ true
  pub options : n.options ≡ (table.etag, tag history moment) ∷ []
  pub payload : n.payload ≡ []

-- whatever it is read to be
abbrev pub ValidatesAt : Step → Message → List Entry → ℕ → Peer × List ℕ → Type 0
ValidatesAt s m history moment d =
    (n : Message) → reading d.1 ≡ Ok n → n.code ≡ codes_of.valid
    → IsValidation s m history moment d n

-- octets with another code
other_validates : (s : Step) (m : Message) (history : List Entry) (moment : ℕ) (d : Peer × List ℕ)
    → NotValid d.1
    → ValidatesAt s m history moment d
other_validates s m history moment d other n e valid =
    absurd (false≢true
    (sym other ∙ (ap (λ c. c == codes_of.valid) (sym (code_read d.1 n e)) ∙ rw valid refl)))

-- a look
look_validates : (history : List Entry) (moment : ℕ) (s : Step) (m : Message)
    → length m.token ≤ longest_token
    → AllByRecursion (ValidatesAt s m history moment) (look_effects history moment s m).sent
unfolding look_effects look answering spelling header_spelling
look_validates history moment s m small = by (sought_in m) refl
  where
    fresh : List ℕ → Answer
    fresh whole = record { body = whole; tag = tag history moment }

    long : (b : Bool) (whole : List ℕ)
        → AllByRecursion (ValidatesAt s m history moment)
        (look_sent s m (Some (unless_long b m (fresh whole)))).sent
    long true whole = tt
    long false whole = (
      other_validates s m history moment (s.peer, _)
          (body_code (Some (tag history moment)) None (asked_block m) whole),
      tt,
    )

    same : (n : Message)
        → reading (spelling (answer s m (still_valid (tag history moment)))) ≡ Ok n
        → answer s m (still_valid (tag history moment)) ≡ n
    same n e = same_message _ n _ (reading_in_order (answer s m (still_valid (tag history moment)))
        (record {
          class = refl;
          token = small;
          options = (
            omega arith,
            omega arith,
            (let h = tag-length history moment in omega (arith, h)),
            tt,
          );
          empty = λ none. absurd (omega arith);
        })) e

    valid : (sought : Sought) (whole : List ℕ) (b : Bool)
        → sought_in m ≡ Some sought
        → has_tag (Some sought) ≡ true
        → is_found (Some sought) history moment ≡ true
        → names_tag (tag history moment) m ≡ b
        → AllByRecursion (ValidatesAt s m history moment)
        (look_sent s m (Some (unless_valid b m (fresh whole)))).sent
    valid sought whole true seeks under there names = (
      (λ n e is. subst (λ (x : Message).
          IsValidation s m history moment
          (s.peer, spelling (answer s m (still_valid (tag history moment)))) x) (same n e)
          (record {
            peer_is = refl;
            token_is = refl;
            sought = sought;
            seeks = seeks;
            tagged = ap has_tag seeks ∙ under;
            there = ap (λ (o : Option Sought). is_found o history moment) seeks ∙ there;
            named = names;
            options = refl;
            payload = refl;
          })),
      tt,
    )
    valid sought whole false seeks under there names = long (is_long (asked_block m) whole) whole

    of_source : (number : ℕ) (o : Option (List ℕ))
        → sought_in m ≡ Some (source_of number)
        → source number history moment ≡ o
        → AllByRecursion (ValidatesAt s m history moment)
        (look_sent s m (Some (found_or_not (Some (tag history moment)) m o))).sent
    of_source number None seeks is = (other_validates s m history moment (s.peer, _) refl, tt)
    of_source number (Some whole) seeks is =
        valid (source_of number) whole (names_tag (tag history moment) m) seeks refl
        (ap (λ (o : Option (List ℕ)). is_some o) is) refl

    by : (o : Option Sought)
        → sought_in m ≡ o
        → AllByRecursion (ValidatesAt s m history moment)
        (look_sent s m (option_map (look_for history moment m) o)).sent
    by None seeks = tt
    by (Some (listing_of query)) seeks =
        valid (listing_of query) (listing query history moment) (names_tag (tag history moment) m)
        seeks refl refl refl
    by (Some (source_of number)) seeks = of_source number (source number history moment) seeks refl
    by (Some (own_links query)) seeks = (
      other_validates s m history moment (s.peer, _)
          (body_code None None (asked_block m) (discovery query)),
      tt,
    )

-- whatever the row of a look sends
row_validates : (rows : List Row) (s : Step) (starved : Bool) → MayMake rows s → s.kind ≡ step.Look
    → AllByRecursion (λ (d : Peer × List ℕ).
    (n : Message)
    → reading d.1 ≡ Ok n
    → n.code ≡ codes_of.valid
    → Validates (record { row = row rows s starved; before = rows }) d.0 n)
    (row rows s starved).sent
unfolding row effects is_look_request
row_validates rows s starved may is =
    subst
    (λ (k : StepKind). AllByRecursion Each (effects k starved rows (row_moment rows s) s).sent)
    (sym is)
    (subst (λ (read : Result Message Unread).
    AllByRecursion Each (looked starved (entries rows) (row_moment rows s) s read).sent)
    (sym it.read_is) (by starved))
  where
    Each : Peer × List ℕ → Type 0
    Each d =
        (n : Message)
        → reading d.1 ≡ Ok n
        → n.code ≡ codes_of.valid
        → Validates (record { row = row rows s starved; before = rows }) d.0 n

    it : LooksAt (reading s.datagram)
    it = a_look_reads (reading s.datagram) (looked_a_look rows s may is)

    m : Message
    m = it.message

    one : (d : Peer × List ℕ) → ValidatesAt s m (entries rows) (row_moment rows s) d → Each d
    one d h n e valid =
        let v : IsValidation s m (entries rows) (row_moment rows s) d n = h n e valid in
        record {
          looks = ap is_look is;
          named =
              ap (looks_with_tag (entries rows) (row_moment rows s)) it.read_is
              ∙ rw (it.looks, v.tagged, v.there, v.named) refl;
          asked = asking (wanted_by m) v.sought;
          asks =
              ap (λ k.
              asked_at k (d.0, n.token)
              (record { row = row rows s starved; before = rows })) is
              ∙ asked_in-own s.peer m v.sought (d.0, n.token) (reading s.datagram) it.read_is
              v.seeks v.peer_is v.token_is;
          options = v.options;
          payload = v.payload;
        }

    by : (b : Bool)
        → AllByRecursion Each (looked b (entries rows) (row_moment rows s) s (Ok m)).sent
    by true =
        each_weaker (λ (d : Peer × List ℕ). NotValid d.1) Each
        (λ d other. one d (other_validates s m (entries rows) (row_moment rows s) d other))
        (without_memory s m).sent
        (plain_not_valid (without_memory s m).sent (starved_plain s m))
    by false =
        each_weaker (ValidatesAt s m (entries rows) (row_moment rows s)) Each one
        (look_effects (entries rows) (row_moment rows s) s m).sent
        (look_validates (entries rows) (row_moment rows s) s m
        (header_read s.datagram m it.read_is).token)

-- so is each 2.03 of a journal
pub sent_validates : (rows : List Row)
    → IsJournal rows
    → (sent : Sent rows)
    → sent.message.code ≡ codes_of.valid
    → Validates sent.here sent.peer sent.message
unfolding row
sent_validates rows journal sent valid = by (is_look sent.here.row.step.kind) refl
  where
    it : Made sent.here.before sent.here.row
    it = each_row rows sent.here.before sent.here.row journal sent.within

    looks : (k : StepKind) → is_look k ≡ true → k ≡ step.Look
    looks step.Look h = refl
    looks step.Admit h = absurd (false≢true h)
    looks (step.Commit place) h = absurd (false≢true h)
    looks (step.Keep body tag) h = absurd (false≢true h)
    looks step.Tick h = absurd (false≢true h)
    looks (step.Begin first) h = absurd (false≢true h)

    Each : Row → Peer × List ℕ → Type 0
    Each r d =
        (n : Message)
        → reading d.1 ≡ Ok n
        → n.code ≡ codes_of.valid
        → Validates (record { row = r; before = sent.here.before }) d.0 n

    by : (b : Bool)
        → is_look sent.here.row.step.kind ≡ b
        → Validates sent.here sent.peer sent.message
    by true looking =
        all_at_index (Each sent.here.row) sent.here.row.sent (sent.peer, sent.octets) sent.among
        (subst (λ (r : Row). AllByRecursion (Each r) r.sent) (sym it.is)
        (row_validates sent.here.before it.step it.starved it.may
        (looks it.step.kind (ap (λ (r : Row). is_look r.step.kind) (sym it.is) ∙ looking))))
        sent.message sent.read valid
    by false other =
        let sends : RowSends sent.here.before sent.here.row =
        row_within RowSends rows sent.here.before sent.here.row (journal_sends rows journal)
        sent.within in
        let no : NotValid sent.octets =
        all_at_index (λ (d : Peer × List ℕ). NotValid d.1) sent.here.row.sent
        (sent.peer, sent.octets) sent.among (sends.others other) in
        absurd (false≢true (sym no
        ∙ (ap (λ c. c == codes_of.valid)
        (sym (code_read sent.octets sent.message sent.read))
        ∙ rw valid refl)))
