-- What follows where a block is collected: it begins an upload for which there is room, or it goes
-- on with one that lives.
use Rattle.std.proofs.Common.{
  ◌≡◌,
  ℕ,
  ◌+◌,
  ◌<◌,
  ◌≤◌,
  ◌==◌,
  Bool,
  true,
  false,
  ◌&&◌,
  cond,
  ltb,
  leb,
  List,
  [],
  length,
  Option,
  Some,
  None,
  refl,
  sym,
  ap,
  subst,
  ◌∙◌,
  arith,
}
use Rattle.message_model.specs.declared.blocks.Block.{Block}
use Rattle.message_model.specs.Uploads.{max_body}
use Rattle.event_model.specs.Uploads.{Upload}
use Rattle.event_model.specs.Same.{RequestName}
use Rattle.transfers.specs.Uploading.{live_body, young_uploads, other_uploads}
use Rattle.transfers.specs.declared.collecting.Upload.TheVariants as upload
use Rattle.transfers.specs.BlockAnswers.{answer_unless, answer_after, answer_to}
use Rattle.transfers.proofs.UploadLists.{others-few}

-- a block that is collected is none that would be one too many, and more follow
collected : (large too_many more : Bool) (body : List ℕ)
    → answer_unless large too_many more body ≡ upload.More
    → (too_many ≡ false) × (more ≡ true)
collected true too_many more body h = absurd cc
collected false true more body h = absurd cc
collected false false true body h = (refl, refl)
collected false false false body h = absurd cc

-- where nothing is collected under the name, fewer uploads live than may
pub more_room : (b : Block) (piece : List ℕ) (live : ℕ)
    → answer_to b piece None live ≡ upload.More
    → live < 64
unfolding answer_to
more_room b piece live h = by (b.num == 0) h
  where
    by : (z : Bool)
        → answer_after (cond z (Some []) None) piece (z && b.more && true && leb 64 live) b.more
        ≡ upload.More
        → live < 64
    by true h =
        let both =
        collected (ltb max_body (0 + length piece)) (b.more && true && leb 64 live) b.more piece
        h in
        let few : leb 64 live ≡ false =
        subst (λ m. (m && true && leb 64 live) ≡ false) both.1 both.0 in
        grind (arith, few)
    by false h = absurd (let other : upload.OutOfOrder ≡ upload.More = h in cc)

-- a further block goes on with an upload that lives
pub more_lives : (b : Block) (piece : List ℕ) (body : Option (List ℕ)) (live : ℕ)
    → (b.num == 0) ≡ false
    → answer_to b piece body live ≡ upload.More
    → (octets : List ℕ) × (body ≡ Some octets)
unfolding answer_to
more_lives b piece None live z h =
    absurd (let other : upload.OutOfOrder ≡ upload.More = rw z at h in cc)
more_lives b piece (Some octets) live z h = (octets, refl)

-- so there is room for its upload beside those of other names
pub room_for : (b : Block) (piece : List ℕ) (now : ℕ) (name : RequestName) (us : List Upload)
    {body : Option (List ℕ)} {count : ℕ}
    → body ≡ live_body now name us
    → count ≡ length (young_uploads now us)
    → upload.More ≡ answer_to b piece body count
    → length us ≤ 64
    → length (other_uploads now name us) < 64
room_for b piece now name us {body} {count} is as_many more few =
    others-few now name us body (sym is) few
    (λ none. subst (λ n. n < 64) as_many
    (more_room b piece count (ap (λ o. answer_to b piece o count) (sym none) ∙ sym more)))
