-- Rows of keeps: what they send and keep was formed by the look whose job they end.
use Rattle.std.proofs.Common.{◌≡◌, ℕ, ◌≤◌, Bool, true, false, not, cond, List, [], ◌∷◌, length}
use Rattle.std.proofs.Common.{Option, Some, None, Ok, refl, sym, ap, subst, ◌∙◌}
use Rattle.std.specs.Prelude.{option_map}
use Rattle.std.specs.List.{AllByRecursion}
use Rattle.std.proofs.lemmas.Bool.{false≢true}
use Rattle.rd_base.specs.declared.peers.Peer.{Peer}
use Rattle.message_model.specs.declared.messages.Role.TheVariants as role
use Rattle.message_model.specs.Message.{Message, role_of}
use Rattle.message_model.specs.Reading.{reading}
use Rattle.message_model.specs.RequestKey.{key_in}
use Rattle.history_model.specs.Listing.{listing, tag}
use Rattle.journal_model.specs.declared.steps.Step.{Step}
use Rattle.journal_model.specs.declared.steps.StepKind.{StepKind}
use Rattle.journal_model.specs.declared.steps.StepKind.TheVariants as step
use Rattle.journal_model.specs.declared.rows.Row.{Row}
use Rattle.journal_model.specs.Journal.{entries}
use Rattle.journal_model.specs.Requests.{asked_block}
use Rattle.journal_model.specs.Bodies.{is_long}
use Rattle.history_model.specs.Sources.{source}
use Rattle.history_model.specs.declared.entries.Entry.{Entry}
use Rattle.event_model.specs.KeptAnswers.{Answer}
use Rattle.std.proofs.lemmas.Option.{same_Some}
use Rattle.journal_model.specs.Sought.{Sought, listing_of, source_of, own_links, sought_in}
use Rattle.journal_model.specs.Sought as seeking
use Rattle.journal_model.specs.Looks.{
  names_tag,
  unless_long,
  unless_valid,
  found_or_not,
  look_for,
  look,
  body_held,
  held_after,
  keep_effects,
}
use Rattle.journal_model.specs.Rows.{effects, row_moment, row}
use Rattle.journal_model.specs.Machine.{
  Job,
  job_of,
  MayBegin,
  hears,
  goes,
  ticks,
  is_look_datagram,
  is_look_reading,
  IsJournal,
  begins,
}
use Rattle.journal_model.specs.PlacedRows.{Placed}
use Rattle.journal_model.specs.BodyFormers.{look_of, former_of_body, former_at, is_keep}
use Rattle.journal_model.specs.BodyFormers.{is_formed_in_rows}
use Rattle.journal_model.specs.AskedListings.{asked_at}
use Rattle.journal_model.proofs.EntriesNoted.{entries_in}
use Rattle.journal_model.proofs.StepNotes.{keep_effects-notes}
use Rattle.journal_model.proofs.notes.SilentSteps.{looked_notes}
use Rattle.journal_model.proofs.entries.JournalLaws.{Made, each_row, entries-none_noted}
use Rattle.journal_model.proofs.Jobs.{KeepsOf, keeps_of}
use Rattle.message_model.proofs.ReadingLaws.{header_read}
use Rattle.journal_model.proofs.sends.BodyAnswers.{
  wanted_by,
  asking,
  Bears,
  tag-length,
  same_message,
  bears_carries,
}
use Rattle.headline_law.proofs.sends.LookupSends.{IsAnswerOf, keep_bears}
use Rattle.journal_model.proofs.notes.LookupNotes.{IsAsking, KeptAt, OfWatched}
use Rattle.headline_law.proofs.sends.ValidLaw.{LooksAt, a_look_reads, looked_a_look}
use Rattle.headline_law.proofs.flights.CarriedListings.{Carried, former_holds_seen}
use Rattle.headline_law.proofs.rows.RowCarries.{NoteAsFormed, RowCarries, asked_in-own}
use Rattle.rd_base.proofs.lemmas.Each.{each_weaker}

-- ---- a row of a keep

-- a body under a tag is what is found of what a request seeks, in a history at a moment
record IsHeld (history : List Entry) (moment : ℕ) (m : Message) (a : Answer) : Type 0 where
  sought : Sought
  seeks : sought_in m ≡ Some sought
  found : seeking.body sought history moment ≡ Some a.body
  tag_is : a.tag ≡ tag history moment

-- so it is of what a look holds
held_found : (history : List Entry) (moment : ℕ) (m : Message) (a : Answer)
    → body_held (look history moment m) ≡ Some a
    → IsHeld history moment m a
unfolding look
held_found history moment m a e = by (sought_in m) refl e
  where
    now : List ℕ → Answer
    now whole = record { body = whole; tag = tag history moment }

    none : None ≡ Some a → IsHeld history moment m a
    none h = absurd cc

    long : (sought : Sought) (whole : List ℕ) (b : Bool)
        → sought_in m ≡ Some sought
        → seeking.body sought history moment ≡ Some whole
        → body_held (Some (unless_long b m (now whole))) ≡ Some a
        → IsHeld history moment m a
    long sought whole true seeks is h =
        subst (IsHeld history moment m) (same_Some (now whole) a h)
        (record { sought = sought; seeks = seeks; found = is; tag_is = refl })
    long sought whole false seeks is h = none h

    valid : (sought : Sought) (whole : List ℕ) (b : Bool)
        → sought_in m ≡ Some sought
        → seeking.body sought history moment ≡ Some whole
        → body_held (Some (unless_valid b m (now whole))) ≡ Some a
        → IsHeld history moment m a
    valid sought whole true seeks is h = none h
    valid sought whole false seeks is h =
        long sought whole (is_long (asked_block m) whole) seeks is h

    of_source : (number : ℕ) (o : Option (List ℕ))
        → sought_in m ≡ Some (source_of number)
        → source number history moment ≡ o
        → body_held (Some (found_or_not (Some (tag history moment)) m o)) ≡ Some a
        → IsHeld history moment m a
    of_source number None seeks is h = none h
    of_source number (Some whole) seeks is h =
        valid (source_of number) whole (names_tag (tag history moment) m) seeks is h

    by : (o : Option Sought)
        → sought_in m ≡ o
        → body_held (option_map (look_for history moment m) o) ≡ Some a
        → IsHeld history moment m a
    by None seeks h = none h
    by (Some (listing_of query)) seeks h =
        valid (listing_of query) (listing query history moment) (names_tag (tag history moment) m)
        seeks refl h
    by (Some (source_of number)) seeks h =
        of_source number (source number history moment) seeks refl h
    by (Some (own_links query)) seeks h = none h

-- so it is of what a look at its datagram leaves
left_found : (starved : Bool) (history : List Entry) (moment : ℕ) (m : Message) (a : Answer)
    → held_after starved history moment (Ok m) ≡ Some a
    → IsHeld history moment m a
left_found true history moment m a e = absurd (let h : None ≡ Some a = e in cc)
left_found false history moment m a e = held_found history moment m a e

-- two keeps of one body are equal in both parts
same_keep : (body current others other : List ℕ)
    → step.Keep body current ≡ step.Keep others other
    → (body ≡ others) × (current ≡ other)
same_keep body current others other e = (ap body_of e, ap tag_of e)
  where
    body_of : StepKind → List ℕ
    body_of (step.Keep b t) = b
    body_of _ = []

    tag_of : StepKind → List ℕ
    tag_of (step.Keep b t) = t
    tag_of _ = []

-- the look whose job a keep ends
pub record KeepOf (rows : List Row) (worker : ℕ) (m : Message) (body current : List ℕ) : Type 0
  where
    pub look : Placed
    pub found : look_of worker rows ≡ Some look
    pub is_kept : KeptAt (entries (look.row ∷ look.before)) look.row.moment.0 (key_in m) body
        current
    pub sought_is : sought_in m ≡ Some is_kept.sought
    pub asks : role_of m.kind m.code ≡ role.Request

-- a row of a look notes nothing, and its datagram is that of a look
record LookRow (before : List Row) (r : Row) : Type 0 where
  silent : r.notes ≡ []
  looks : is_look_reading (reading r.step.datagram) ≡ true

-- so it is of each row of a look
row_of_look : (before : List Row) (r : Row)
    → Made before r
    → r.step.kind ≡ step.Look
    → LookRow before r
unfolding row effects
row_of_look before r it is =
    let kind : it.step.kind ≡ step.Look = sym (ap (λ (x : Row). x.step.kind) it.is) ∙ is in
    subst (λ (x : Row). LookRow before x) (sym it.is) (record {
      silent =
          ap (λ k. (effects k it.starved before (row_moment before it.step) it.step).notes) kind
          ∙ looked_notes it.starved (entries before) (row_moment before it.step) it.step
          (reading it.step.datagram);
      looks = looked_a_look before it.step it.may kind;
    })

-- the job that a keep ends
keep_job_of : (rows : List Row) (s : Step) (body current : List ℕ)
    → MayBegin rows s
    → s.kind ≡ step.Keep body current
    → job_of s.worker rows ≡ Some (record { kind = s.kind; peer = s.peer; datagram = s.datagram })
keep_job_of rows s body current (hears none heard) kind =
    absurd (by (is_look_datagram s.datagram) (sym heard ∙ kind))
  where
    by : (b : Bool) → cond b step.Look step.Admit ≡ step.Keep body current → ⊥
    by true e = let h : step.Look ≡ step.Keep body current = e in cc
    by false e = let h : step.Admit ≡ step.Keep body current = e in cc
keep_job_of rows s body current (goes holds) kind = holds
keep_job_of rows s body current (ticks tick) kind =
    absurd (let h : step.Tick ≡ step.Keep body current = sym tick ∙ kind in cc)
keep_job_of rows s body current (begins {first = first} begin) kind =
    absurd (let h : step.Begin first ≡ step.Keep body current = sym begin ∙ kind in cc)

-- so it is of each keep
pub keep_of : (rows : List Row) (s : Step) (m : Message) (body current : List ℕ)
    → IsJournal rows
    → MayBegin rows s
    → s.kind ≡ step.Keep body current
    → reading s.datagram ≡ Ok m
    → KeepOf rows s.worker m body current
keep_of rows s m body current journal may kind read = record {
  look = held.look;
  found = held.found;
  is_kept = record {
    sought = its_body.sought;
    seeks = record { request = m; key_is = refl; sought_is = its_body.seeks };
    found =
        subst (λ history.
        seeking.body its_body.sought history held.look.row.moment.0 ≡ Some body)
        (sym same_entries) (its_body.found ∙ ap Some (sym kept.0));
    tag_is =
        kept.1
        ∙ its_body.tag_is
        ∙ ap (λ history. tag history held.look.row.moment.0) (sym same_entries);
  };
  sought_is = its_body.seeks;
  asks =
      subst (λ (x : Message). role_of x.kind x.code ≡ role.Request)
      (same_message looks_at.message m held.look.row.step.datagram looks_at.read_is same_read)
      looks_at.asks;
}
  where
    job : Job
    job = record { kind = s.kind; peer = s.peer; datagram = s.datagram }

    held : KeepsOf rows s.worker job
    held = keeps_of s.worker rows job body current (keep_job_of rows s body current may kind) kind

    its : LookRow held.look.before held.look.row
    its =
        row_of_look held.look.before held.look.row
        (each_row rows held.look.before held.look.row journal held.within) held.is_one

    same_read : reading held.look.row.step.datagram ≡ Ok m
    same_read = ap reading (sym held.keeps.datagram) ∙ read

    same_entries : entries (held.look.row ∷ held.look.before) ≡ entries held.look.before
    same_entries = entries-none_noted held.look.before held.look.row (ap entries_in its.silent)

    kept : (body ≡ held.keeps.found.body) × (current ≡ held.keeps.found.tag)
    kept =
        same_keep body current held.keeps.found.body held.keeps.found.tag
        (sym kind ∙ held.keeps.kind)

    its_body :
        IsHeld (entries held.look.before) held.look.row.moment.0 m held.keeps.found
    its_body =
        left_found held.look.row.starved (entries held.look.before) held.look.row.moment.0 m
        held.keeps.found
        (ap (held_after held.look.row.starved (entries held.look.before) held.look.row.moment.0)
        (sym same_read) ∙ held.keeps.held)

    looks_at : LooksAt (reading held.look.row.step.datagram)
    looks_at = a_look_reads (reading held.look.row.step.datagram) its.looks

-- any row of a keep
-- of a journal in which it is known to end a look; of any other nothing is said of what it sends
-- and keeps
pub keep_row : (keeps : Bool) (rows : List Row) (r : Row) (m : Message) (body current : List ℕ)
    → (keeps ≡ true → KeepOf rows r.step.worker m body current)
    → r.step.kind ≡ step.Keep body current → reading r.step.datagram ≡ Ok m
    → r.sent ≡ (keep_effects r.step m body current).sent
    → r.notes ≡ (keep_effects r.step m body current).notes → RowCarries keeps rows r
keep_row true rows r m body current ends kind read sent notes = record {
  carried = λ _. subst (AllByRecursion (Carried here)) (sym sent)
      (each_weaker (IsAnswerOf r.step.peer (wanted_by m) body current) (Carried here) one
      (keep_effects r.step m body current).sent (keep_bears r.step m body current small short));
  noted = λ _. subst (AllByRecursion (NoteAsFormed here))
      (sym (notes ∙ keep_effects-notes r.step m body current)) (
        record {
          former = it.look;
          formed = ap (λ k. former_of_body k here) kind ∙ it.found;
          is_kept = it.is_kept;
        },
        tt,
      );
  asking = subst (AllByRecursion (OfWatched IsAsking))
      (sym (notes ∙ keep_effects-notes r.step m body current)) (tt, tt);
}
  where
    here : Placed
    here = record { row = r; before = rows }

    it : KeepOf rows r.step.worker m body current
    it = ends refl

    small : length m.token ≤ 8
    small = (header_read r.step.datagram m read).token

    short : length current ≡ 8
    short =
        ap length it.is_kept.tag_is
        ∙ tag-length (entries (it.look.row ∷ it.look.before)) it.look.row.moment.0

    formed : (peer : Peer) (mid : ℕ) → former_at r.step.kind peer mid here ≡ Some it.look
    formed peer mid = ap (λ k. former_at k peer mid here) kind ∙ it.found

    one : (d : Peer × List ℕ) → IsAnswerOf r.step.peer (wanted_by m) body current d → Carried here d
    one d bears n e listed _ = record {
      former = it.look;
      formed = formed d.0 n.mid;
      asked = asking (wanted_by m) it.is_kept.sought;
      asks =
          ap (λ k. asked_at k (d.0, n.token) here) kind
          ∙ asked_in-own r.step.peer m it.is_kept.sought (d.0, n.token) (reading r.step.datagram)
          read it.sought_is bears.0 (bears.1 n e listed).token_is;
      holds_seen = former_holds_seen r.step.kind d.0 n.mid here it.look (formed d.0 n.mid);
      carries =
          bears_carries (wanted_by m) it.is_kept.sought (entries (it.look.row ∷ it.look.before))
          it.look.row.moment.0 body n it.is_kept.found
          (subst (λ t. Bears (wanted_by m) body t n) it.is_kept.tag_is (bears.1 n e listed));
    }
keep_row false rows r m body current ends kind read sent notes = record {
  carried = λ known. absurd
      (false≢true (sym (ap (λ k. is_formed_in_rows k (record { row = r; before = rows })) kind)
      ∙ known));
  noted = λ known. absurd (false≢true (sym (ap (λ k. not (is_keep k)) kind) ∙ known));
  asking = subst (AllByRecursion (OfWatched IsAsking))
      (sym (notes ∙ keep_effects-notes r.step m body current)) (tt, tt);
}
