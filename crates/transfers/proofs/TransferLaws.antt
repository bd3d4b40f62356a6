-- What a table of transfers stands for, for who keeps it beside a journal: no event, later moments,
-- and notes that are aside.
use Rattle.std.proofs.Common.{
  ◌≡◌,
  ◌≢◌,
  ℕ,
  ◌≤◌,
  ◌==◌,
  Bool,
  true,
  false,
  List,
  [],
  ◌∷◌,
  length,
  refl,
  sym,
  ap,
  subst,
  ◌∙◌,
}
use Rattle.std.specs.List.{list_any}
use Rattle.rd_base.specs.declared.peers.Peer.{Peer}
use Rattle.message_model.specs.declared.blocks.Block.{Block}
use Rattle.event_model.specs.declared.notes.Note.{Note}
use Rattle.event_model.specs.declared.notes.Note.TheVariants as note
use Rattle.event_model.specs.Events.{Event, noted}
use Rattle.event_model.specs.Uploads.{Upload, live_upload}
use Rattle.event_model.specs.KeptAnswers.{KeptAnswer}
use Rattle.event_model.proofs.AsideLaws.{notes_aside}
use Rattle.event_model.proofs.AsideTables.{about_uploads, about_answers}
use Rattle.transfers.specs.declared.collecting.Upload.{Upload as BlockAnswer}
use Rattle.transfers.specs.declared.collecting.Upload.TheVariants as answer
use Rattle.transfers.specs.Uploading.{live_body, young_uploads, taken}
use Rattle.transfers.specs.BlockAnswers.{answer_to}
use Rattle.transfers.specs.TransferEvents.{
  Table,
  UploadsStandFor,
  AnswersStandFor,
  TransfersStandFor,
  block_answer,
}
use Rattle.transfers.proofs.BlockLaws.{more_lives}
use Rattle.transfers.proofs.UploadEvents.{
  live_body-is,
  count-is,
  UploadsStandFor-none,
  UploadsStandFor-later,
  UploadsStandFor-aside,
  UploadsStandFor-begun,
  UploadsStandFor-gone_on,
}
use Rattle.transfers.proofs.KeptEvents.{AnswersStandFor-none, AnswersStandFor-aside}

pub TransfersStandFor-none : (at : ℕ) (t : Table)
    → t.uploads ≡ []
    → t.answers ≡ []
    → TransfersStandFor at [] t
TransfersStandFor-none at t none empty = record {
  uploads = subst (UploadsStandFor at []) (sym none) (UploadsStandFor-none at);
  answers = subst (AnswersStandFor []) (sym empty) AnswersStandFor-none;
}

pub TransfersStandFor-later : (at now : ℕ) (events : List Event) (t : Table)
    → at ≤ now
    → TransfersStandFor at events t
    → TransfersStandFor now events t
TransfersStandFor-later at now events t h stands = record {
  uploads = UploadsStandFor-later at now events t.uploads h stands.uploads;
  answers = stands.answers;
}

-- ---- notes that are aside

pub UploadsStandFor-noted : (at : ℕ) (us : List Upload) (place moment word : ℕ) (notes : List Note)
    (events : List Event)
    → list_any about_uploads notes ≡ false
    → UploadsStandFor at events us → UploadsStandFor at (noted place moment word notes events) us
UploadsStandFor-noted at us place moment word notes events none stands =
    notes_aside about_uploads (λ past. UploadsStandFor at past us)
    (λ e past other h. UploadsStandFor-aside at e past us other h) place moment word notes
    events none stands

pub AnswersStandFor-noted : (xs : List KeptAnswer) (place moment word : ℕ) (notes : List Note)
    (events : List Event)
    → list_any about_answers notes ≡ false
    → AnswersStandFor events xs → AnswersStandFor (noted place moment word notes events) xs
AnswersStandFor-noted xs place moment word notes events none stands =
    notes_aside about_answers (λ past. AnswersStandFor past xs)
    (λ e past other h. AnswersStandFor-aside e past xs other h) place moment word notes events
    none stands

pub TransfersStandFor-noted : (at : ℕ) (t : Table) (place moment word : ℕ) (notes : List Note)
    (events : List Event)
    → list_any about_uploads notes ≡ false
    → list_any about_answers notes ≡ false
    → TransfersStandFor at events t → TransfersStandFor at (noted place moment word notes events) t
TransfersStandFor-noted at t place moment word notes events no_upload no_answer stands = record {
  uploads =
      UploadsStandFor-noted at t.uploads place moment word notes events no_upload stands.uploads;
  answers = AnswersStandFor-noted t.answers place moment word notes events no_answer stands.answers;
}

-- ---- a block

-- it is answered as by looking back
pub answer-is : (at now : ℕ) (peer : Peer) (key : List ℕ) (b : Block) (piece : List ℕ)
    (events : List Event) (us : List Upload)
    → at ≤ now
    → UploadsStandFor at events us
    → answer_to b piece (live_body now (peer, key) us) (length (young_uploads now us))
    ≡ block_answer now (peer, key) b piece events
unfolding block_answer
answer-is at now peer key b piece events us h stands =
    let later = UploadsStandFor-later at now events us h stands in
    ap (λ body. answer_to b piece body (length (young_uploads now us)))
    (live_body-is now (peer, key) events us later)
    ∙ ap (λ count. answer_to b piece (live_upload now (peer, key) events) count)
    (count-is now events us later)

-- where it is collected, the uploads stand for its note too
pub UploadsStandFor-taken : (at now : ℕ) (peer : Peer) (key : List ℕ) (b : Block) (piece : List ℕ)
    (e : Event) (events : List Event) (us : List Upload)
    → at ≤ now
    → answer_to b piece (live_body now (peer, key) us) (length (young_uploads now us)) ≡ answer.More
    → e.note ≡ note.Piece peer key b.num piece
    → e.moment ≡ now
    → UploadsStandFor at events us
    → UploadsStandFor now (e ∷ events) (taken b now (peer, key) piece us)
UploadsStandFor-taken at now peer key b piece e events us h more is moment stands =
    by (b.num == 0) refl
  where
    later : UploadsStandFor now events us
    later = UploadsStandFor-later at now events us h stands

    by : (z : Bool)
        → (b.num == 0) ≡ z
        → UploadsStandFor now (e ∷ events) (taken b now (peer, key) piece us)
    by true z = rw z (UploadsStandFor-begun now peer key b.num piece e events us is moment z later)
    by false z =
        let lives =
        more_lives b piece (live_body now (peer, key) us) (length (young_uploads now us)) z
        more in
        rw z (UploadsStandFor-gone_on now peer key b.num piece e events us lives.0 is moment z
        (sym (live_body-is now (peer, key) events us later) ∙ lives.1) later)

-- a block that is collected is not answered by want of memory
pub more-not_starved : (a : BlockAnswer) → a ≡ answer.More → a ≢ answer.Starved
more-not_starved a more starved =
    absurd (let same : answer.More ≡ answer.Starved = sym more ∙ starved in cc)
