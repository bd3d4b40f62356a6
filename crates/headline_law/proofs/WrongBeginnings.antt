-- Rows with a wrong beginning of a run: none of them has the headline. Beside each datagram its
-- parts are shown: type, code, Message ID, token, options, payload.
use Rattle.std.proofs.Common.{◌≡◌, inl, inr, ℕ, Bool, false, List, [], ◌∷◌, Option, Some}
use Rattle.std.proofs.Common.{codes, refl, sym, ap, subst, ◌∙◌, arith}
use Rattle.std.proofs.lemmas.Option.{same_Some}
use Rattle.message_model.specs.declared.messages.Kind4.TheVariants.{Con}
use Rattle.message_model.specs.Codes as codes_of
use Rattle.message_model.specs.Message.{Message}
use Rattle.message_model.specs.OptionTable as table
use Rattle.message_model.specs.Request.{queries_in}
use Rattle.message_model.specs.Spelling.{spelling}
use Rattle.message_model.proofs.OnLiterals.{messages_on_literals}
use Rattle.record_model.specs.Parameters.{registration_values}
use Rattle.history_model.specs.declared.entries.Change.TheVariants as change
use Rattle.history_model.specs.declared.entries.Entry.{Entry}
use Rattle.history_model.specs.Listing.{listing, tag}
use Rattle.history_model.proofs.HistoryLiterals.{history_on_literals}
use Rattle.event_model.specs.declared.notes.Note.TheVariants as note
use Rattle.event_model.proofs.ManyObservers.{peer}
use Rattle.journal_model.specs.declared.steps.StepKind.TheVariants as step
use Rattle.journal_model.specs.declared.rows.Row.{Row}
use Rattle.journal_model.specs.Journal.{entries}
use Rattle.journal_model.specs.Requests.{query_of, asked_block}
use Rattle.journal_model.specs.PlacedRows.{Placed}
use Rattle.journal_model.specs.Sought.{Sought, listing_of}
use Rattle.journal_model.specs.Sought as seeking
use Rattle.journal_model.specs.AskedListings.{Asked}
use Rattle.journal_model.specs.CarriedBlocks.{IsBlockOf, FormedAs}
use Rattle.journal_model.specs.Headline.{Headline}
use Rattle.journal_model.proofs.OnLiterals.{machine_on_literals}
use Rattle.headline_law.proofs.WrongRows.{row_of, lookup, answer}

-- the entry of a run that begins above 7
abbrev begin : Entry
begin =
    record {
      moment = record { 0 = 0 };
      worker = 0;
      peer = peer 1;
      change = change.Begin 7;
    }

-- ---- a run that time begins

-- time passes, and a beginning is entered
abbrev pub begun_by_a_tick : Row
begun_by_a_tick = row_of step.Tick [] false [] (note.Entered begin ∷ [])

-- An end theorem: nothing here cites it.
pub begun_by_a_tick_falls : (before : List Row) → Headline (begun_by_a_tick ∷ before) → ⊥
begun_by_a_tick_falls before h =
    elim (h.changes.origin before begun_by_a_tick
    (record { later = []; whole = refl }) (omega arith)) [
      | inl commit ↦ let no : step.Tick ≡ step.Commit commit.0 = commit.1 in absurd cc
      | inr (inr begins) ↦ let no : step.Tick ≡ step.Begin begins.0 = begins.1 in absurd cc
      | inr (inl completion) ↦
          let no : step.Tick ≡ step.Admit = completion.answers.kind in absurd cc
    ]

-- ---- a tag that forgets the beginning

-- a run begins above 7
abbrev pub begun : Row
begun = row_of (step.Begin 7) [] false [] (note.Entered begin ∷ [])

-- the tag of one entry without a beginning
abbrev one_entry : List ℕ
one_entry = 0 ∷ 0 ∷ 0 ∷ 0 ∷ 0 ∷ 1 ∷ 0 ∷ 0 ∷ []

-- ACK 2.05 m=0010 t=c1 [4 0000000000010000]
abbrev counted_from_nothing : Message
counted_from_nothing = answer codes_of.content (193 ∷ []) ((table.etag, one_entry) ∷ []) []

abbrev pub looked_after : Row
looked_after =
    row_of step.Look (spelling lookup) false ((peer 1, spelling counted_from_nothing) ∷ []) []

-- An end theorem: nothing here cites it.
pub counted_from_nothing_falls : Headline (looked_after ∷ begun ∷ []) → ⊥
unfolding messages_on_literals machine_on_literals
counted_from_nothing_falls h =
    absurd (let one : ◌≡◌ {A = ℕ} 1 8 = ap sixth (f.carries.tag
    ∙ ap (λ (p : Placed). tag (entries (p.row ∷ p.before)) p.row.moment.0 ∷ []) (sym former)) in
    omega (arith, one))
  where
    here : Placed
    here = record { row = looked_after; before = begun ∷ [] }

    f : FormedAs here (peer 1) counted_from_nothing
    f = h.answers.carried (record {
      here = here;
      within = record { later = []; whole = refl };
      peer = peer 1;
      octets = spelling counted_from_nothing;
      among = (0, (omega arith, refl));
      message = counted_from_nothing;
      read = refl;
    }) refl

    former : here ≡ f.former
    former = same_Some here f.former f.formed

    -- the low octet of the count of changes in the first tag
    sixth : List (List ℕ) → ℕ
    sixth ((a ∷ b ∷ c ∷ d ∷ e ∷ f ∷ g) ∷ others) = f
    sixth _ = 0

-- ---- a registration that is numbered below the beginning

-- CON 0.02 m=0001 t=01 [11 rd][15 ep=n]
abbrev registration : Message
registration = record {
  kind = Con;
  code = codes_of.post;
  mid = 1;
  token = 1 ∷ [];
  options = (table.uri_path, codes "rd") ∷ (table.uri_query, codes "ep=n") ∷ [];
  payload = [];
}

-- it is entered after the beginning
abbrev pub registered : Row
registered = row_of (step.Commit 0) (spelling registration) false []
    (note.Entered (record {
      moment = record { 0 = 0 };
      worker = 0;
      peer = peer 1;
      change = change.Register (registration_values (queries_in registration)) [];
    }) ∷ [])

-- the tag of nine changes
abbrev nine_changes : List ℕ
nine_changes = 0 ∷ 0 ∷ 0 ∷ 0 ∷ 0 ∷ 9 ∷ 0 ∷ 0 ∷ []

-- ACK 2.05 m=0010 t=c1 [4 0000000000090000][23 0/1/16] </rd/1>;base="co
abbrev numbered_below : Message
numbered_below = answer codes_of.content (193 ∷ [])
    ((table.etag, nine_changes) ∷ (table.block2, 8 ∷ []) ∷ []) (codes "</rd/1>;base=\"co")

abbrev pub listed_below : Row
listed_below =
    row_of step.Look (spelling lookup) false ((peer 1, spelling numbered_below) ∷ []) []

abbrev numbered_rows : List Row
numbered_rows = listed_below ∷ registered ∷ begun ∷ []

-- An end theorem: nothing here cites it.
pub numbered_below_falls : Headline numbered_rows → ⊥
unfolding messages_on_literals machine_on_literals history_on_literals
numbered_below_falls h =
    absurd (let other : ◌≡◌ {A = ℕ} 56 49 = ap digit carried in omega (arith, other))
  where
    here : Placed
    here = record { row = listed_below; before = registered ∷ begun ∷ [] }

    f : FormedAs here (peer 1) numbered_below
    f = h.answers.carried (record {
      here = here;
      within = record { later = []; whole = refl };
      peer = peer 1;
      octets = spelling numbered_below;
      among = (0, (omega arith, refl));
      message = numbered_below;
      read = refl;
    }) refl

    former : here ≡ f.former
    former = same_Some here f.former f.formed

    asked : Asked
    asked = record { sought = listing_of (query_of lookup); number = 0; szx = 0 }

    sought : listing_of (query_of lookup) ≡ f.asked.sought
    sought = ap (λ (a : Asked). a.sought) (same_Some asked f.asked f.asks)

    whole_is : listing (query_of lookup) (entries numbered_rows) 0 ≡ f.carries.whole
    whole_is =
        same_Some (listing (query_of lookup) (entries numbered_rows) 0) f.carries.whole
        (subst (λ (p : Placed).
        seeking.body (listing_of (query_of lookup)) (entries (p.row ∷ p.before)) p.row.moment.0
        ≡ Some f.carries.whole) (sym former)
        (subst (λ (x : Sought).
        seeking.body x (entries (f.former.row ∷ f.former.before)) f.former.row.moment.0
        ≡ Some f.carries.whole) (sym sought) f.carries.found))

    carried : IsBlockOf (asked_block numbered_below)
        (listing (query_of lookup) (entries numbered_rows) 0) numbered_below.payload
    carried =
        subst (λ (body : List ℕ). IsBlockOf (asked_block numbered_below) body
        numbered_below.payload) (sym whole_is) f.carries.block.block

    -- the number in the location that begins a block
    digit : Option (List ℕ × Bool) → ℕ
    digit (Some ((a ∷ b ∷ c ∷ d ∷ e ∷ number ∷ others), more)) = number
    digit _ = 0
