-- What commits and responses send is neither 2.05 nor 2.03, and so is what commits settle.
use Rattle.std.proofs.Common.{
  ◌≡◌,
  ℕ,
  Bool,
  true,
  false,
  List,
  [],
  length,
  Option,
  Some,
  None,
  refl,
  nat_le,
}
use Rattle.std.specs.List.{AllByRecursion}
use Rattle.rd_base.specs.declared.peers.Peer.{Peer}
use Rattle.message_model.specs.declared.blocks.Block.{Block}
use Rattle.message_model.specs.declared.messages.Kind4.{Kind4}
use Rattle.message_model.specs.declared.messages.Kind4.TheVariants.{Con, Non, Ack, Rst}
use Rattle.message_model.specs.declared.requests.Path.{Path}
use Rattle.message_model.specs.declared.requests.Path.TheVariants as path
use Rattle.message_model.specs.Message.{Message}
use Rattle.message_model.specs.Spelling.{header_spelling, spelling}
use Rattle.message_model.specs.Request.{path_in}
use Rattle.message_model.specs.Responses.{block_in, is_elsewhere}
use Rattle.event_model.specs.declared.notes.Note.{Note}
use Rattle.event_model.specs.declared.notes.Note.TheVariants as note
use Rattle.event_model.specs.Fetches.{
  Request,
  max_fetches,
  fetches,
  is_fetching,
  gathered,
  collected,
}
use Rattle.journal_model.specs.declared.steps.Step.{Step}
use Rattle.journal_model.specs.declared.rows.Row.{Row}
use Rattle.journal_model.specs.Journal.{events, entries}
use Rattle.journal_model.specs.Effects.{answer, answering}
use Rattle.journal_model.specs.Changes.{Outcome}
use Rattle.journal_model.specs.Registrations.{registering}
use Rattle.journal_model.specs.Requests.{Method, get, post, put, delete, other_method, method_of}
use Rattle.journal_model.specs.Commits.{
  settling,
  simple_unless,
  location_outcome,
  write_done,
  commit_effects,
  fetch_room,
}
use Rattle.journal_model.specs.Responses.{
  fetch_of,
  strange,
  acknowledgement,
  more_follow,
  ends_fetch,
  gathering,
  response_taken,
  response_to,
  response_to_request,
  response_effects,
  response_use,
}
use Rattle.journal_model.proofs.NoteKinds.{are}
use Rattle.journal_model.proofs.notes.ChangeNotes.{registering-notes, location-notes}
use Rattle.journal_model.proofs.sends.PlainSteps.{
  IsPlainCode,
  IsPlain,
  ArePlain,
  SettlesPlainly,
  plain_spelled,
  plain_answering,
  change_plain,
  registering_plain,
  replacing_plain,
  never_settles,
}
use Rattle.rd_base.proofs.lemmas.Each.{each_append}

-- what is noted beside a change
abbrev of_change : Note → Bool
of_change (note.Entered entry) = true
of_change (note.Piece peer key number octets) = true
of_change (note.Finished peer key) = true
of_change _ = false

-- what a commit sends, and what it settles
pub record CommitsPlainly (sent : List (Peer × List ℕ)) (notes : List Note) : Type 0 where
  pub sends : ArePlain sent
  pub settles : AllByRecursion SettlesPlainly notes

-- a write on a registration
location_plain : (w : Method) (rows : List Row) (moment : ℕ) (s : Step) (m : Message) (number : ℕ)
    → IsPlainCode (location_outcome w rows moment s m number).reply.code
location_plain get rows moment s m number = record { no_content = refl; no_valid = refl }
location_plain post rows moment s m number =
    change_plain (entries rows) _ _ (record { no_content = refl; no_valid = refl })
location_plain put rows moment s m number = replacing_plain rows moment s m number
location_plain delete rows moment s m number =
    change_plain (entries rows) _ _ (record { no_content = refl; no_valid = refl })
location_plain other_method rows moment s m number = record { no_content = refl; no_valid = refl }

-- a commit of a write that was read
pub commit_plain : (rows : List Row) (moment place : ℕ) (s : Step) (m : Message)
    → CommitsPlainly (commit_effects rows moment place s m).sent
    (commit_effects rows moment place s m).notes
unfolding commit_effects answering spelling header_spelling
commit_plain rows moment place s m = by (path_in m)
  where
    settled : (done : Outcome)
        → IsPlainCode done.reply.code
        → are of_change done.notes ≡ true
        → CommitsPlainly (settling place s m done).sent (settling place s m done).notes
    settled done plain notes = record {
      sends = plain_answering s m done.reply [] plain;
      settles =
          each_append SettlesPlainly done.notes _
          (never_settles of_change (λ p o. refl) done.notes notes)
          (plain_spelled (answer s m done.reply) plain, tt);
    }

    simple : (running too_many : Bool)
        → CommitsPlainly
        (simple_unless (fetch_room running too_many) (events rows) place s m).sent
        (simple_unless (fetch_room running too_many) (events rows) place s m).notes
    simple true too_many = record {
      sends = (record { no_content = refl; no_valid = refl }, tt);
      settles = (record { no_content = refl; no_valid = refl }, tt);
    }
    simple false true = record {
      sends = (record { no_content = refl; no_valid = refl }, tt);
      settles = (record { no_content = refl; no_valid = refl }, tt);
    }
    simple false false = record {
      sends = (
        record { no_content = refl; no_valid = refl },
        (record { no_content = refl; no_valid = refl }, tt),
      );
      settles = (record { no_content = refl; no_valid = refl }, (tt, tt));
    }

    by : (p : Path)
        → CommitsPlainly (write_done p rows moment place s m).sent
        (write_done p rows moment place s m).notes
    by path.Core = record { sends = tt; settles = tt }
    by path.SimpleRd =
        simple (is_fetching s.peer (events rows))
        (nat_le max_fetches (length (fetches (events rows))))
    by path.Rd =
        settled (registering rows moment s m) (registering_plain rows moment s m)
        (registering-notes of_change (λ entry. refl) (λ peer key number octets. refl)
        (λ peer key. refl) rows moment s m)
    by (path.Location number) =
        settled (location_outcome (method_of m.code) rows moment s m number)
        (location_plain (method_of m.code) rows moment s m number)
        (location-notes of_change (λ entry. refl) (λ peer key number octets. refl)
        (λ peer key. refl) (method_of m.code) rows moment s m number)
    by path.Res = record { sends = tt; settles = tt }
    by path.Ep = record { sends = tt; settles = tt }
    by path.Other = record { sends = tt; settles = tt }

-- a response
pub response_plain : (rows : List Row) (moment : ℕ) (s : Step) (m : Message)
    → ArePlain (response_effects rows moment s m).sent
unfolding response_effects spelling header_spelling
response_plain rows moment s m = by (fetch_of s m (events rows))
  where
    foreign : (k : Kind4) → ArePlain (strange s m k).sent
    foreign Con = (record { no_content = refl; no_valid = refl }, tt)
    foreign Non = tt
    foreign Ack = tt
    foreign Rst = tt

    acknowledged : (k : Kind4) → ArePlain (acknowledgement s m k).sent
    acknowledged Con = (record { no_content = refl; no_valid = refl }, tt)
    acknowledged Non = tt
    acknowledged Ack = tt
    acknowledged Rst = tt

    gathers : (more : Bool) (b : Option Block) (request : Request)
        → ArePlain (gathering more b rows moment s m request).sent
    gathers more None request = tt
    gathers false (Some b) request = tt
    gathers true (Some b) request = (record { no_content = refl; no_valid = refl }, tt)

    taken : (elsewhere over : Bool) (request : Request)
        → ArePlain (response_taken (response_use elsewhere over) rows moment s m request).sent
    taken true over request = tt
    taken false true request = tt
    taken false false request = gathers (more_follow (block_in m)) (block_in m) request

    by : (request : Option Request) → ArePlain (response_to_request request rows moment s m).sent
    by None = foreign m.kind
    by (Some request) =
        each_append (λ (d : Peer × List ℕ). IsPlain d.1) (acknowledgement s m m.kind).sent
        (response_to rows moment s m request).sent (acknowledged m.kind)
        (taken (is_elsewhere (block_in m) (length (collected s.peer (events rows))))
        (ends_fetch m (gathered s.peer (events rows)) (length (collected s.peer (events rows))))
        request)
