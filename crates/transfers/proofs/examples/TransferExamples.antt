-- How blocks are answered, and what tables stand for, computed on events.
use Rattle.std.proofs.Common.{
  ◌≡◌,
  ℕ,
  ◌-◌,
  Bool,
  true,
  false,
  List,
  [],
  ◌∷◌,
  ◌++◌,
  map,
  replicate,
  refl,
}
use Rattle.std.specs.List.{range_with_len}
use Rattle.message_model.specs.declared.blocks.Block.{Block}
use Rattle.event_model.specs.declared.notes.Note.{Note}
use Rattle.event_model.specs.declared.notes.Note.TheVariants as note
use Rattle.event_model.specs.Same.{RequestName}
use Rattle.event_model.specs.Events.{Event}
use Rattle.event_model.specs.Uploads.{Upload}
use Rattle.event_model.specs.KeptAnswers.{KeptAnswer}
use Rattle.event_model.proofs.OnLiterals.{events_on_literals}
use Rattle.event_model.proofs.ManyObservers.{peer}
use Rattle.transfers.specs.declared.collecting.Upload.TheVariants as upload
use Rattle.transfers.specs.BlockAnswers.{answer_to}
use Rattle.transfers.specs.TransferEvents.{UploadsStandFor, AnswersStandFor, block_answer}

-- the key of the requests
abbrev key : List ℕ
key = 1 ∷ []

abbrev name : ℕ → RequestName
name k = (peer k, key)

-- an event at a moment
abbrev at : ℕ → Note → Event
at moment n = record { place = 0; moment = moment; word = 0; note = n }

-- a block of 16 octets of peer k
abbrev sixteen : List ℕ
sixteen = range_with_len 0 16

abbrev piece : ℕ → ℕ → ℕ → Event
piece moment k number = at moment (note.Piece (peer k) key number sixteen)

abbrev block : ℕ → Bool → ℕ → Block
block num more szx = record { num = num; more = more; szx = szx }

-- ---- in order, and not

more_follow : block_answer 0 (name 1) (block 1 true 0) (7 ∷ []) (piece 0 1 0 ∷ []) ≡ upload.More
unfolding events_on_literals block_answer answer_to
more_follow = refl

the_last :
    block_answer 0 (name 1) (block 1 false 0) (7 ∷ []) (piece 0 1 0 ∷ [])
    ≡ upload.Whole (sixteen ++ 7 ∷ [])
unfolding events_on_literals block_answer answer_to
the_last = refl

-- a first block begins anew
begins_anew :
    block_answer 0 (name 1) (block 0 false 0) (7 ∷ []) (piece 0 1 0 ∷ []) ≡ upload.Whole (7 ∷ [])
unfolding events_on_literals block_answer answer_to
begins_anew = refl

a_gap : block_answer 0 (name 1) (block 2 true 0) (7 ∷ []) (piece 0 1 0 ∷ []) ≡ upload.OutOfOrder
unfolding events_on_literals block_answer answer_to
a_gap = refl

-- another size, whose offset fits
another_size :
    block_answer 0 (name 1) (block 1 false 1) (7 ∷ []) (piece 0 1 1 ∷ piece 0 1 0 ∷ [])
    ≡ upload.Whole (sixteen ++ sixteen ++ 7 ∷ [])
unfolding events_on_literals block_answer answer_to
another_size = refl

after_its_end :
    block_answer 0 (name 1) (block 1 true 0) (7 ∷ [])
    (at 0 (note.Finished (peer 1) key) ∷ piece 0 1 0 ∷ [])
    ≡ upload.OutOfOrder
unfolding events_on_literals block_answer answer_to
after_its_end = refl

of_another_peer :
    block_answer 0 (name 2) (block 1 true 0) (7 ∷ []) (piece 0 1 0 ∷ []) ≡ upload.OutOfOrder
unfolding events_on_literals block_answer answer_to
of_another_peer = refl

-- ---- ages

young_enough :
    block_answer 246_999 (name 1) (block 1 true 0) (7 ∷ []) (piece 0 1 0 ∷ []) ≡ upload.More
unfolding events_on_literals block_answer answer_to
young_enough = refl

too_old :
    block_answer 247_000 (name 1) (block 1 true 0) (7 ∷ []) (piece 0 1 0 ∷ []) ≡ upload.OutOfOrder
unfolding events_on_literals block_answer answer_to
too_old = refl

-- ---- as many as may live

-- 64 uploads, the first of peer 1 at a moment and the others at the moment 1
abbrev uploads_of_64 : ℕ → List Event
uploads_of_64 moment = map (λ k. piece 1 (64 - k) 0) (range_with_len 0 63) ++ piece moment 1 0 ∷ []

one_too_many :
    block_answer 1 (name 65) (block 0 true 0) sixteen (uploads_of_64 1) ≡ upload.FullUploads
unfolding events_on_literals block_answer answer_to
one_too_many = refl

whole_at_once :
    block_answer 1 (name 65) (block 0 false 0) sixteen (uploads_of_64 1) ≡ upload.Whole sixteen
unfolding events_on_literals block_answer answer_to
whole_at_once = refl

over_a_live_one : block_answer 1 (name 2) (block 0 true 0) sixteen (uploads_of_64 1) ≡ upload.More
unfolding events_on_literals block_answer answer_to
over_a_live_one = refl

one_has_aged_out :
    block_answer 247_000 (name 65) (block 0 true 0) sixteen (uploads_of_64 0) ≡ upload.More
unfolding events_on_literals block_answer answer_to
one_has_aged_out = refl

-- ---- as many octets as may be

the_most : block_answer 0 (name 1) (block 0 true 6) (replicate 8_192 0) [] ≡ upload.More
unfolding events_on_literals block_answer answer_to
the_most = refl

one_more : block_answer 0 (name 1) (block 0 true 6) (replicate 8_193 0) [] ≡ upload.TooLarge
unfolding events_on_literals block_answer answer_to
one_more = refl

-- ---- what tables stand for

abbrev upload_at : ℕ → ℕ → Upload
upload_at moment k = record { name = name k; body = sixteen; moment = moment }

-- an old upload may lie in the table, and need not
with_an_old_one : UploadsStandFor 247_000 (piece 1 2 0 ∷ piece 0 1 0 ∷ [])
    (upload_at 0 1 ∷ upload_at 1 2 ∷ [])
unfolding events_on_literals
with_an_old_one = record { live = refl }

without_an_old_one : UploadsStandFor 247_000 (piece 1 2 0 ∷ piece 0 1 0 ∷ []) (upload_at 1 2 ∷ [])
unfolding events_on_literals
without_an_old_one = record { live = refl }

-- answers stand in the order of their use, however old
abbrev kept : ℕ → ℕ → Event
kept moment k = at moment (note.Kept (peer k) key (k ∷ []) (9 ∷ []))

abbrev answer_at : ℕ → ℕ → KeptAnswer
answer_at moment k = record {
  name = name k;
  answer = record { body = k ∷ []; tag = 9 ∷ [] };
  moment = moment;
}

in_order_of_use : AnswersStandFor (at 2 (note.Used (peer 1) key) ∷ kept 1 2 ∷ kept 0 1 ∷ [])
    (answer_at 2 1 ∷ answer_at 1 2 ∷ [])
unfolding events_on_literals
in_order_of_use = record { kept = refl }

kept_again : AnswersStandFor (kept 300_000 1 ∷ kept 1 2 ∷ kept 0 1 ∷ [])
    (answer_at 300_000 1 ∷ answer_at 1 2 ∷ [])
unfolding events_on_literals
kept_again = record { kept = refl }
