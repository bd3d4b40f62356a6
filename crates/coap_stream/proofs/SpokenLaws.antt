-- What is written, and its octets.
use Rattle.std.proofs.Common.{
  ◌≡◌,
  ℕ,
  ◌+◌,
  ◌*◌,
  Bool,
  true,
  false,
  List,
  [],
  ◌∷◌,
  ◌++◌,
  length,
  take,
  min,
  Option,
  refl,
  sym,
  ap,
  ◌∙◌,
  subst,
  append_assoc,
  arith,
}
use Rattle.std.proofs.lemmas.List.{length-append, take_min}
use Rattle.std.specs.Io.KnownBytes.{Appends}
use Rattle.rd_base.specs.Outside.{CountsAll}
use Rattle.message_model.specs.Spelling.{payload_spelling}
use Rattle.stream_model.specs.Messages.{nibble_of, extension_of, lengths_spelling}
use Rattle.stream_reader.specs.declared.frames.Frame.{Frame}
use Rattle.coap_stream.specs.Spoken.{IsPut, frame_spelling}

-- What was written of octets: all, or a front that is no longer than they are.
pub is_put : (before now : Option (List ℕ)) (faults faults_then : ℕ) (octets bytes : List ℕ)
    (all : Bool)
    → octets ≡ bytes
    → (all ≡ true → Appends before now octets)
    → (n : ℕ) × Appends before now (take n octets)
    → CountsAll faults faults_then all
    → IsPut before now faults faults_then bytes all
is_put before now faults faults_then octets bytes true same whole front counts =
    (subst (Appends before now) same (whole refl), counts)
is_put before now faults faults_then octets bytes false same whole front counts = (
  (min front.0 (length bytes), omega arith, subst (Appends before now) cut front.1),
  counts.0,
  counts.1,
)
  where
    cut : take front.0 octets ≡ take (min front.0 (length bytes)) bytes
    cut = ap (take front.0) same ∙ sym (take_min front.0 bytes)

-- ---- a message

-- Its parts, one behind the other.
pub frame_put : (f : Frame) (tail : ℕ) (a b c d e : List ℕ)
    → tail ≡ length f.options.now + length (payload_spelling f.payload.now)
    → a ≡ (nibble_of tail * 16 + length f.token.now) ∷ extension_of tail
    → b ≡ a ++ f.code ∷ []
    → c ≡ b ++ f.token.now
    → d ≡ c ++ f.options.now
    → e ≡ d ++ payload_spelling f.payload.now
    → e ≡ frame_spelling f
unfolding lengths_spelling
frame_put f tail a b c d e size fa fb fc fd fe =
    let payload = payload_spelling f.payload.now in
    let whole : length (f.options.now ++ payload) ≡ tail =
    length-append f.options.now payload ∙ sym size in
    fe
    ∙ ap (λ (l : List ℕ). l ++ payload) (fd ∙ ap (λ (l : List ℕ). l ++ f.options.now)
    (fc ∙ ap (λ (l : List ℕ). l ++ f.token.now)
    (fb ∙ ap (λ (l : List ℕ). l ++ f.code ∷ []) fa)))
    ∙ rw whole (simp append_assoc)
