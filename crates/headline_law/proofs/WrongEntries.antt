-- Rows with a wrong entry: none of them has the headline, whatever rows stand before them. Beside
-- each datagram its parts are shown: type, code, Message ID, token, options, payload.
use Rattle.std.proofs.Common.{◌≡◌, inl, inr, ℕ, true, false, List, [], ◌∷◌, Option, Some, None}
use Rattle.std.proofs.Common.{Result, Ok, codes, refl, sym, ap, subst, ◌∙◌, arith}
use Rattle.std.proofs.lemmas.Bool.{false≢true}
use Rattle.std.proofs.lemmas.Option.{same_Some}
use Rattle.rd_base.specs.declared.parameters.RegParams.{RegParams}
use Rattle.rd_base.specs.declared.submitted_links.SubmittedLink.{SubmittedLink}
use Rattle.message_model.specs.declared.messages.Kind4.TheVariants.{Con}
use Rattle.message_model.specs.declared.messages.Unread.{Unread}
use Rattle.message_model.specs.declared.requests.Path.TheVariants as path
use Rattle.message_model.specs.Codes as codes_of
use Rattle.message_model.specs.Message.{Message}
use Rattle.message_model.specs.OptionTable as table
use Rattle.message_model.specs.Reading.{reading}
use Rattle.message_model.specs.Request.{path_in, queries_in}
use Rattle.message_model.specs.Spelling.{spelling}
use Rattle.message_model.proofs.OnLiterals.{messages_on_literals}
use Rattle.record_model.specs.Parameters.{registration_values}
use Rattle.history_model.specs.declared.entries.Change.TheVariants as change
use Rattle.history_model.specs.declared.entries.Entry.{Entry}
use Rattle.event_model.specs.declared.notes.Note.TheVariants as note
use Rattle.event_model.specs.Fetches.{Request}
use Rattle.event_model.proofs.ManyObservers.{peer}
use Rattle.journal_model.specs.declared.steps.StepKind.TheVariants as step
use Rattle.journal_model.specs.declared.rows.Row.{Row}
use Rattle.journal_model.specs.Journal.{events}
use Rattle.journal_model.specs.Responses.{fetch_of}
use Rattle.journal_model.specs.Headline.{Headline}
use Rattle.journal_model.specs.AskedChanges.{AsksChange, CommitAsks, CompletionMakes, IsEntryOf}
use Rattle.journal_model.proofs.OnLiterals.{machine_on_literals}
use Rattle.headline_law.proofs.WrongRows.{row_of}

-- ---- what is entered

-- a registration of links, at the moment, the worker and the peer of these rows
abbrev registered : RegParams → List SubmittedLink → Entry
registered params links =
    record {
      moment = record { 0 = 0 };
      worker = 0;
      peer = peer 1;
      change = change.Register params links;
    }

-- what is read from the same octets is one message
same_read : (m n : Message) → ◌≡◌ {A = Result Message Unread} (Ok m) (Ok n) → m ≡ n
same_read m n e = cc

-- ---- a 4.04 whose payload reads as links is entered

-- NON 4.04 m=0010 t=01 </a>: what a device answers to a fetch
abbrev not_found : Message
not_found = record {
  kind = Con;
  code = codes_of.not_found;
  mid = 16;
  token = 1 ∷ [];
  options = [];
  payload = codes "</a>";
}

abbrev not_found_entered : RegParams → List SubmittedLink → Row
not_found_entered params links =
    row_of step.Admit (spelling not_found) false []
    (note.Entered (registered params links) ∷ note.Ceased (peer 1) ∷ [])

-- An end theorem: nothing here cites it.
pub not_found_entered_falls : (params : RegParams) (links : List SubmittedLink) (before : List Row)
    → Headline (not_found_entered params links ∷ before) → ⊥
unfolding messages_on_literals
not_found_entered_falls params links before h =
    elim (h.changes.origin before (not_found_entered params links)
    (record { later = []; whole = refl }) (omega arith)) [
      | inl commit ↦ let no : step.Admit ≡ step.Commit commit.0 = commit.1 in absurd cc
      | inr (inr begin) ↦ let no : step.Admit ≡ step.Begin begin.0 = begin.1 in absurd cc
      | inr (inl completion) ↦
          let read : reading (spelling not_found) ≡ Ok completion.answers.message =
          completion.answers.read in
          let is : not_found ≡ completion.answers.message =
          same_read not_found completion.answers.message read in
          let code : ◌≡◌ {A = ℕ} codes_of.not_found codes_of.content =
          ap (λ (m : Message). m.code) is ∙ completion.body.content in
          absurd (omega (arith, code))
    ]

-- ---- a first block, after which more follow, is registered at once

-- CON 0.02 m=0010 t=01 [11 rd][15 ep=n][27 0/1/16] </aaaaaaaaaaaaa>
abbrev first_block : Message
first_block = record {
  kind = Con;
  code = codes_of.post;
  mid = 16;
  token = 1 ∷ [];
  options = (table.uri_path, codes "rd") ∷ (table.uri_query, codes "ep=n") ∷ (table.block1, 8 ∷ [])
      ∷ [];
  payload = codes "</aaaaaaaaaaaaa>";
}

abbrev first_block_entered : RegParams → List SubmittedLink → Row
first_block_entered params links =
    row_of (step.Commit 0) (spelling first_block) false []
    (note.Entered (registered params links) ∷ [])

-- An end theorem: nothing here cites it.
pub first_block_entered_falls : (params : RegParams) (links : List SubmittedLink)
    (before : List Row) → Headline (first_block_entered params links ∷ before) → ⊥
unfolding messages_on_literals machine_on_literals
first_block_entered_falls params links before h =
    by asks.message asks.asks
    (same_read first_block asks.message
    (let read : reading (spelling first_block) ≡ Ok asks.message = asks.read in read))
  where
    r : Row
    r = first_block_entered params links

    it : IsEntryOf before 0 r.step (registered params links)
    it = h.changes.entry before r (registered params links)
        (record { later = []; whole = refl }) refl

    asks : CommitAsks before 0 r.step (change.Register params links)
    asks = it.asked

    by : (m : Message) → AsksChange (path_in m) before 0 r.step m (change.Register params links)
        → first_block ≡ m → ⊥
    by m change_asked is =
        let own : AsksChange path.Rd before 0 r.step first_block (change.Register params links) =
        subst (λ (x : Message). AsksChange (path_in x) before 0 r.step x
        (change.Register params links)) (sym is) change_asked in
        let last : true ≡ false = own.1.last in
        false≢true (sym last)

-- ---- a response with a path and a query of its own is entered with its own parameters

-- CON 2.05 m=0010 t=01 [11 rd][15 ep=own] </a>
abbrev with_query : Message
with_query = record {
  kind = Con;
  code = codes_of.content;
  mid = 16;
  token = 1 ∷ [];
  options = (table.uri_path, codes "rd") ∷ (table.uri_query, codes "ep=own") ∷ [];
  payload = codes "</a>";
}

abbrev own_parameters_entered : List SubmittedLink → Row
own_parameters_entered links =
    row_of step.Admit (spelling with_query) false []
    (note.Entered (registered (registration_values (queries_in with_query)) links)
    ∷ note.Ceased (peer 1) ∷ [])

-- the fetch runs for a registration with these parameters
abbrev fetch_runs : RegParams → Row
fetch_runs params =
    row_of (step.Commit 0) [] false [] (note.Asked (peer 1) (1 ∷ []) 0 params 0 ∷ [])

-- An end theorem: nothing here cites it.
pub own_parameters_entered_fall : (params : RegParams) (links : List SubmittedLink)
    → (params ≡ registration_values (queries_in with_query) → ⊥)
    → Headline (own_parameters_entered links ∷ fetch_runs params ∷ []) → ⊥
unfolding messages_on_literals machine_on_literals
own_parameters_entered_fall params links other h =
    by makes.answers.message makes.answers.request
    (same_read with_query makes.answers.message
    (let read : reading (spelling with_query) ≡ Ok makes.answers.message = makes.answers.read in
    read)) makes.answers.fetch makes.makes.0
  where
    r : Row
    r = own_parameters_entered links

    it : IsEntryOf (fetch_runs params ∷ []) 0 r.step
        (registered (registration_values (queries_in with_query)) links)
    it = h.changes.entry (fetch_runs params ∷ []) r
        (registered (registration_values (queries_in with_query)) links)
        (record { later = []; whole = refl }) refl

    makes : CompletionMakes (fetch_runs params ∷ []) r.step
        (change.Register (registration_values (queries_in with_query)) links)
    makes = it.asked

    params_of : Option Request → Option RegParams
    params_of None = None
    params_of (Some request) = Some request.params

    by : (m : Message) (request : Request) → with_query ≡ m
        → fetch_of r.step m (events (fetch_runs params ∷ [])) ≡ Some request
        → registration_values (queries_in with_query) ≡ request.params → ⊥
    by m request is fetch own =
        let asked : Some params ≡ Some request.params =
        ap params_of (ap (λ (x : Message). fetch_of r.step x (events (fetch_runs params ∷ []))) is
        ∙ fetch) in
        other (same_Some params request.params asked ∙ sym own)
