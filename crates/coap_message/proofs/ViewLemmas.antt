-- Options read one after the other from the beginning of a tail.
use Rattle.std.proofs.Common.{
  ◌≡◌,
  ℕ,
  ◌-◌,
  List,
  [],
  ◌∷◌,
  ◌++◌,
  length,
  take,
  Option,
  Some,
  None,
  Result,
  Ok,
  Err,
  refl,
  sym,
  ap,
  subst,
  ◌∙◌,
  append_assoc,
  arith,
}
use Rattle.std.specs.Option.{option_map}
use Rattle.std.proofs.lemmas.List.{append-nil, take_at, length-append}
use Rattle.std.proofs.lemmas.Option.{same_Some}
use Rattle.message_model.specs.declared.messages.Unread.{Unread}
use Rattle.message_model.specs.declared.messages.Unread.TheVariants.{Format}
use Rattle.message_model.specs.Numbers.{AreBytes}
use Rattle.message_model.specs.Message.{Message, Opt, IsMessage, AreOptionsAfter, end_number}
use Rattle.message_model.specs.Spelling.{marker, option_spelling, options_spelling, spelling}
use Rattle.message_model.specs.Reading.{
  ◌>>=◌,
  byte_at,
  option_at,
  Tail,
  payload_at,
  with_option,
  tail_at,
  Header,
  header_at,
  body_at,
  reading,
}
use Rattle.message_model.proofs.ByteLemmas.{AreBytes-back, byte_at-some, byte_at-none}
use Rattle.message_model.proofs.OptionLemmas.{IsOptionAfter, option_takes, option_again}
use Rattle.message_model.proofs.TailLemmas.{tail_step, tail_at-nil, tail_at-payload, tail_at-option}
use Rattle.message_model.proofs.OrderLemmas.{
  end_number-push,
  AreOptionsAfter-push,
  options_spelling-push,
}
use Rattle.message_model.proofs.MessageLaws.{reading_takes, unread_spells_none}
use Rattle.coap_message.specs.OptionsAt.{options_at, AreOptionsAlone}
use Rattle.coap_message.proofs.OptionsAtLemmas.{options_at-none, options_at-some}

-- ---- options before a tail

-- a tail with these options before it
abbrev with_options : List Opt → Option Tail → Option Tail
with_options options tail = option_map (λ t. (options ++ t.0, t.1)) tail

with_options-nil : (tail : Option Tail) → tail ≡ with_options [] tail
with_options-nil None = refl
with_options-nil (Some t) = refl

with_options-more : (option : Opt) (options : List Opt) (tail : Option Tail)
    → (with_options options tail >>= λ t. Some (with_option option t))
    ≡ with_options (option ∷ options) tail
with_options-more option options None = refl
with_options-more option options (Some t) = refl

first_option : (before : ℕ) (option : Opt) (options : List Opt) (rest : List ℕ)
    → AreOptionsAfter before (option ∷ options)
    → option_at before (options_spelling before (option ∷ options) ++ rest)
    ≡ Some (option, options_spelling option.0 options ++ rest)
unfolding options_spelling
first_option before option options rest fits =
    ap (option_at before)
    (append_assoc (option_spelling before option) (options_spelling option.0 options) rest)
    ∙ option_again before option (options_spelling option.0 options ++ rest)
    (record { ascends = fits.0; number = fits.1; size = fits.2; value = fits.3 })

pub tail_at-options : (before : ℕ) (options : List Opt) (rest : List ℕ)
    → AreOptionsAfter before options
    → tail_at before (options_spelling before options ++ rest)
    ≡ with_options options (tail_at (end_number before options) rest)
unfolding options_spelling
tail_at-options before [] rest fits = with_options-nil (tail_at before rest)
tail_at-options before (option ∷ options) rest fits =
    tail_step before (options_spelling before (option ∷ options) ++ rest) option
    (options_spelling option.0 options ++ rest) (first_option before option options rest fits)
    ∙ ap (λ (tail : Option Tail). tail >>= λ t. Some (with_option option t))
    (tail_at-options option.0 options rest fits.4)
    ∙ with_options-more option options (tail_at (end_number option.0 options) rest)

pub options_at-options : (before : ℕ) (options : List Opt) (rest : List ℕ)
    → AreOptionsAfter before options
    → options_at before (options_spelling before options ++ rest)
    ≡ options ++ options_at (end_number before options) rest
unfolding options_spelling
options_at-options before [] rest fits = refl
options_at-options before (option ∷ options) rest fits =
    options_at-some before (options_spelling before (option ∷ options) ++ rest)
    (option, options_spelling option.0 options ++ rest)
    (first_option before option options rest fits)
    ∙ ap (λ (others : List Opt). option ∷ others) (options_at-options option.0 options rest fits.4)

no_option : (before : ℕ) → option_at before [] ≡ None
unfolding option_at
no_option before = refl

-- The spelling of options alone gives them.
pub options_at-spelling : (options : List Opt)
    → AreOptionsAfter 0 options
    → options_at 0 (options_spelling 0 options) ≡ options
options_at-spelling options fits =
    ap (options_at 0) (sym (append-nil (options_spelling 0 options)))
    ∙ options_at-options 0 options [] fits
    ∙ ap (λ (others : List Opt). options ++ others)
    (options_at-none (end_number 0 options) [] (no_option (end_number 0 options)))
    ∙ append-nil options

-- ---- the walk

-- Options were read from the front of the bytes, the last with the number before, up to the rest.
pub record Walked (bytes : List ℕ) (before : ℕ) (rest : List ℕ) : Type 0 where
  pub options : List Opt
  pub parts : bytes ≡ options_spelling 0 options ++ rest
  pub fits : AreOptionsAfter 0 options
  pub last : end_number 0 options ≡ before

pub Walked-init : (bytes : List ℕ) → Walked bytes 0 bytes
unfolding options_spelling
Walked-init bytes = record { options = []; parts = refl; fits = tt; last = refl }

pub Walked-more : (bytes : List ℕ) (before : ℕ) (rest : List ℕ) (x : Opt × List ℕ)
    → AreBytes bytes
    → Walked bytes before rest
    → option_at before rest ≡ Some x
    → Walked bytes x.0.0 x.1
Walked-more bytes before rest x fit walked e =
    let rest_fits : AreBytes rest =
    AreBytes-back (options_spelling 0 walked.options) rest (subst AreBytes walked.parts fit) in
    let taken = option_takes before rest x rest_fits e in
    let stands : IsOptionAfter (end_number 0 walked.options) x.0 =
    subst (λ (k : ℕ). IsOptionAfter k x.0) (sym walked.last) taken.1 in
    let regrouped :
    options_spelling 0 walked.options ++ (option_spelling before x.0 ++ x.1)
    ≡ (options_spelling 0 walked.options ++ option_spelling before x.0) ++ x.1 =
    sym (append_assoc (options_spelling 0 walked.options) (option_spelling before x.0) x.1) in
    let pushed :
    options_spelling 0 walked.options ++ option_spelling before x.0
    ≡ options_spelling 0 (walked.options ++ x.0 ∷ []) =
    ap (λ (k : ℕ). options_spelling 0 walked.options ++ option_spelling k x.0) (sym walked.last)
    ∙ sym (options_spelling-push 0 walked.options x.0) in
    record {
      options = walked.options ++ x.0 ∷ [];
      parts =
          walked.parts
          ∙ ap (λ (t : List ℕ). options_spelling 0 walked.options ++ t) taken.0.parts
          ∙ regrouped
          ∙ ap (λ (t : List ℕ). t ++ x.1) pushed;
      fits = AreOptionsAfter-push 0 walked.options x.0 walked.fits stands;
      last = end_number-push 0 walked.options x.0;
    }

-- the tail goes on with what is left
walked_tail : (bytes : List ℕ) (before : ℕ) (rest : List ℕ)
    → (w : Walked bytes before rest)
    → tail_at 0 bytes ≡ with_options w.options (tail_at before rest)
walked_tail bytes before rest w =
    ap (tail_at 0) w.parts ∙ tail_at-options 0 w.options rest w.fits
    ∙ ap (λ (k : ℕ). with_options w.options (tail_at k rest)) w.last

pub Walked-end : (bytes : List ℕ) (before : ℕ)
    → Walked bytes before []
    → Some (options_at 0 bytes, []) ≡ tail_at 0 bytes
Walked-end bytes before w =
    let spelled : bytes ≡ options_spelling 0 w.options =
    w.parts ∙ append-nil (options_spelling 0 w.options) in
    let options : options_at 0 bytes ≡ w.options =
    ap (options_at 0) spelled ∙ options_at-spelling w.options w.fits in
    let tail : tail_at 0 bytes ≡ Some (w.options ++ [], []) =
    walked_tail bytes before [] w ∙ ap (with_options w.options) (tail_at-nil before) in
    rw (options, tail, append-nil w.options) refl

pub Walked-payload : (bytes : List ℕ) (before b : ℕ) (payload : List ℕ)
    → Walked bytes before (marker ∷ b ∷ payload)
    → Some (options_at 0 (take (length bytes - length (marker ∷ b ∷ payload)) bytes), b ∷ payload)
    ≡ tail_at 0 bytes
Walked-payload bytes before b payload w =
    let size :
    length bytes - length (marker ∷ b ∷ payload) ≡ length (options_spelling 0 w.options) =
    omega (
      arith,
      ap length w.parts,
      length-append (options_spelling 0 w.options) (marker ∷ b ∷
          payload),
    ) in
    let front : take (length (options_spelling 0 w.options)) bytes ≡ options_spelling 0 w.options =
    ap (take (length (options_spelling 0 w.options))) w.parts
    ∙ take_at (options_spelling 0 w.options) (marker ∷ b ∷ payload)
    (length (options_spelling 0 w.options)) refl in
    let options :
    options_at 0 (take (length bytes - length (marker ∷ b ∷ payload)) bytes) ≡ w.options =
    ap (λ (k : ℕ). options_at 0 (take k bytes)) size
    ∙ ap (options_at 0) front
    ∙ options_at-spelling w.options w.fits in
    let tail : tail_at 0 bytes ≡ Some (w.options ++ [], b ∷ payload) =
    walked_tail bytes before (marker ∷ b ∷ payload) w
    ∙ ap (with_options w.options) (tail_at-payload before (b ∷ payload)) in
    ap (λ (found : List Opt). Some (found, b ∷ payload)) (options ∙ sym (append-nil w.options))
    ∙ sym tail

pub Walked-marker : (bytes : List ℕ) (before : ℕ)
    → Walked bytes before (marker ∷ [])
    → None ≡ tail_at 0 bytes
Walked-marker bytes before w =
    sym (walked_tail bytes before (marker ∷ []) w
    ∙ ap (with_options w.options) (tail_at-payload before []))

no_step : (before b : ℕ) (rest : List ℕ)
    → (b ≡ marker → ⊥)
    → option_at before (b ∷ rest) ≡ None
    → tail_at before (b ∷ rest) ≡ None
no_step before b rest other e =
    tail_at-option before b rest other
    ∙ ap (λ (o : Option (Opt × List ℕ)).
    o >>= λ x. tail_at x.0.0 x.1 >>= λ t. Some (with_option x.0 t)) e

pub Walked-bad : (bytes : List ℕ) (before b : ℕ) (rest : List ℕ)
    → (b ≡ marker → ⊥)
    → option_at before (b ∷ rest) ≡ None
    → Walked bytes before (b ∷ rest)
    → None ≡ tail_at 0 bytes
Walked-bad bytes before b rest other e w =
    sym (walked_tail bytes before (b ∷ rest) w
    ∙ ap (with_options w.options) (no_step before b rest other e))

-- ---- where the walk ends

same_walk : (bytes : List ℕ) (before : ℕ) (rest more : List ℕ)
    → rest ≡ more
    → Walked bytes before rest
    → Walked bytes before more
same_walk bytes before rest more e w = subst (λ (t : List ℕ). Walked bytes before t) e w

begins : (rest : List ℕ) (first : ℕ) (following : List ℕ)
    → Some (first, following) ≡ byte_at rest
    → first ≡ marker
    → rest ≡ marker ∷ following
begins rest first following e same =
    byte_at-some rest (first, following) e ∙ ap (λ (k : ℕ). k ∷ following) same

pub ends_at_end : (bytes : List ℕ) (before : ℕ) (rest : List ℕ)
    → Walked bytes before rest
    → None ≡ byte_at rest
    → Some (options_at 0 bytes, rest) ≡ tail_at 0 bytes
ends_at_end bytes before rest w e =
    let none : rest ≡ [] = byte_at-none rest e in
    ap (λ (t : List ℕ). Some (options_at 0 bytes, t)) none
    ∙ Walked-end bytes before (same_walk bytes before rest [] none w)

pub ends_at_marker : (bytes : List ℕ) (before : ℕ) (rest : List ℕ) (first : ℕ) (following : List ℕ)
    → Walked bytes before rest
    → Some (first, following) ≡ byte_at rest
    → first ≡ marker
    → None ≡ payload_at following
    → None ≡ tail_at 0 bytes
ends_at_marker bytes before rest first [] w e same none =
    Walked-marker bytes before
    (same_walk bytes before rest (marker ∷ []) (begins rest first [] e same) w)
ends_at_marker bytes before rest first (b ∷ following) w e same none = absurd cc

pub ends_at_payload : (bytes : List ℕ) (before : ℕ) (rest : List ℕ) (first : ℕ)
    (following payload : List ℕ)
    → Walked bytes before rest
    → Some (first, following) ≡ byte_at rest
    → first ≡ marker
    → Some ([], payload) ≡ payload_at following
    → Some (options_at 0 (take (length bytes - length rest) bytes), payload) ≡ tail_at 0 bytes
ends_at_payload bytes before rest first [] payload w e same some = absurd cc
ends_at_payload bytes before rest first (b ∷ following) payload w e same some =
    let parts : rest ≡ marker ∷ b ∷ following = begins rest first (b ∷ following) e same in
    let whole : payload ≡ b ∷ following =
    ap (λ (t : Tail). t.1) (same_Some ([], payload) ([], b ∷ following) some) in
    ap (λ (t : List ℕ). Some (options_at 0 (take (length bytes - length rest) bytes), t)) whole
    ∙ ap (λ (t : List ℕ). Some (options_at 0 (take (length bytes - length t) bytes), b ∷ following))
    parts
    ∙ Walked-payload bytes before b following
    (same_walk bytes before rest (marker ∷ b ∷ following) parts w)

pub ends_at_bad : (bytes : List ℕ) (before : ℕ) (rest : List ℕ) (first : ℕ) (following : List ℕ)
    → Walked bytes before rest
    → Some (first, following) ≡ byte_at rest
    → (first ≡ marker → ⊥)
    → None ≡ option_at before rest
    → None ≡ tail_at 0 bytes
ends_at_bad bytes before rest first following w e other bad =
    let parts : rest ≡ first ∷ following = byte_at-some rest (first, following) e in
    Walked-bad bytes before first following other (ap (option_at before) (sym parts) ∙ sym bad)
    (same_walk bytes before rest (first ∷ following) parts w)

-- ---- the octets of the options

spelled_alone : (octets : List ℕ) (options : List Opt)
    → AreOptionsAfter 0 options
    → octets ≡ options_spelling 0 options
    → AreOptionsAlone octets
spelled_alone octets options fits spelled =
    ap (options_spelling 0) (ap (options_at 0) spelled ∙ options_at-spelling options fits)
    ∙ sym spelled

-- Where nothing is left, the bytes are options alone.
pub alone_at_end : (bytes : List ℕ) (before : ℕ) (rest : List ℕ)
    → Walked bytes before rest
    → None ≡ byte_at rest
    → AreOptionsAlone bytes
alone_at_end bytes before rest w e =
    spelled_alone bytes w.options w.fits
    (w.parts
    ∙ ap (λ (t : List ℕ). options_spelling 0 w.options ++ t) (byte_at-none rest e)
    ∙ append-nil (options_spelling 0 w.options))

-- The bytes before what is left are options alone.
pub alone_at_payload : (bytes : List ℕ) (before : ℕ) (rest : List ℕ)
    → Walked bytes before rest
    → AreOptionsAlone (take (length bytes - length rest) bytes)
alone_at_payload bytes before rest w =
    let size : length bytes - length rest ≡ length (options_spelling 0 w.options) =
    omega (arith, ap length w.parts, length-append (options_spelling 0 w.options) rest) in
    spelled_alone (take (length bytes - length rest) bytes) w.options w.fits
    (ap (λ (k : ℕ). take k bytes) size
    ∙ ap (take (length (options_spelling 0 w.options))) w.parts
    ∙ take_at (options_spelling 0 w.options) rest (length (options_spelling 0 w.options)) refl)

-- ---- what is read

read_is : (bytes rest : List ℕ) (header : Header) (m : Message)
    → ◌≡◌ {A = Result (Header × List ℕ) Unread} (Ok (header, rest)) (header_at bytes)
    → Some m ≡ body_at header rest
    → reading bytes ≡ Ok m
unfolding reading
read_is bytes rest header m e f = rw (← e, ← f) refl

-- What is read following a header is a message, and the bytes are its spelling.
pub read_takes : (bytes rest : List ℕ) (header : Header) (m : Message)
    → AreBytes bytes
    → ◌≡◌ {A = Result (Header × List ℕ) Unread} (Ok (header, rest)) (header_at bytes)
    → Some m ≡ body_at header rest
    → IsMessage m × (spelling m ≡ bytes)
read_takes bytes rest header m fits e f =
    reading_takes bytes m fits (read_is bytes rest header m e f)

refused_header : (bytes : List ℕ) (fault : Unread)
    → ◌≡◌ {A = Result (Header × List ℕ) Unread} (Err fault) (header_at bytes)
    → reading bytes ≡ Err fault
unfolding reading
refused_header bytes fault e = rw (← e) refl

refused_body : (bytes rest : List ℕ) (header : Header)
    → ◌≡◌ {A = Result (Header × List ℕ) Unread} (Ok (header, rest)) (header_at bytes)
    → None ≡ body_at header rest
    → reading bytes ≡ Err (Format header.kind header.mid)
unfolding reading
refused_body bytes rest header e f = rw (← e, ← f) refl

-- No message is spelled by bytes that are refused.
pub header_spells_none : (bytes : List ℕ) (fault : Unread)
    → ◌≡◌ {A = Result (Header × List ℕ) Unread} (Err fault) (header_at bytes)
    → (m : Message)
    → IsMessage m
    → spelling m ≡ bytes
    → ⊥
header_spells_none bytes fault e m fits same =
    unread_spells_none bytes fault m (refused_header bytes fault e) fits same

pub body_spells_none : (bytes rest : List ℕ) (header : Header)
    → ◌≡◌ {A = Result (Header × List ℕ) Unread} (Ok (header, rest)) (header_at bytes)
    → None ≡ body_at header rest
    → (m : Message)
    → IsMessage m
    → spelling m ≡ bytes
    → ⊥
body_spells_none bytes rest header e f m fits same =
    unread_spells_none bytes (Format header.kind header.mid) m (refused_body bytes rest header e f)
    fits same
