-- The octets of the options of signals (RFC 8323 sections 5.3.2, 5.4.1 and 5.6).
use Rattle.std.proofs.Common.{◌≡◌, ℕ, ◌<◌, ◌^◌, ◌/◌, ◌%◌, ◌==◌, List, [], ◌∷◌, ◌++◌, refl, arith}
use Rattle.std.proofs.Common.{Bool, true, false, Option, Some, None, sym, ap, ◌∙◌, append-nil}
use Rattle.std.specs.Prelude.{◌&&◌, not, option_and_then, if◌then◌else◌}
use Rattle.std.specs.Option.{option_map}
use Rattle.std.specs.List.{list_any}
use Rattle.message_model.specs.Codes as code_named
use Rattle.message_model.specs.Message.{Message, Opt}
use Rattle.stream_model.specs.declared.signals.TheConstants as signals
use Rattle.stream_model.specs.Messages.{stream_spelling}
use Rattle.stream_reader.specs.declared.frames.Frame.{Frame}
use Rattle.stream_reader.specs.Shown.{Shown, frame_shown, shown_in}
use Rattle.coap_stream.specs.declared.lines.Manner.{Manner}
use Rattle.coap_stream.specs.declared.lines.Manner.TheVariants as manner
use Rattle.std.proofs.lemmas.Bool.{le-ltb, lt-ltb, ne_eqb}
use Rattle.message_model.specs.Numbers.{uint_bytes}
use Rattle.message_model.specs.Spelling.{
  extension_of,
  nibble_of,
  option_spelling,
  options_spelling,
  payload_spelling,
}
use Rattle.coap_stream.specs.Manners.{
  bad_csm_option,
  bad_option_in,
  bad_option_of,
  block_for,
  block_wanted,
  block_wise_transfer,
  custody,
  has_option,
  is_from_block2,
  pong_by,
  saying,
  saying_with,
  sized_by,
  with_block,
}

pub custody_octets : 32 ∷ [] ≡ options_spelling 0 ((custody, []) ∷ [])
unfolding options_spelling option_spelling nibble_of extension_of
custody_octets = refl

pub offered_octets : 64 ∷ [] ≡ options_spelling 0 ((block_wise_transfer, []) ∷ [])
unfolding options_spelling option_spelling nibble_of extension_of
offered_octets = refl

one_octet : (n : ℕ) → 33 ∷ n ∷ [] ≡ options_spelling 0 ((bad_csm_option, n ∷ []) ∷ [])
unfolding options_spelling option_spelling nibble_of extension_of
one_octet n = refl

two_octets : (a b : ℕ)
    → 34 ∷ a ∷ b ∷ [] ≡ options_spelling 0 ((bad_csm_option, a ∷ b ∷ []) ∷ [])
unfolding options_spelling option_spelling nibble_of extension_of
two_octets a b = refl

pub bad_short : (n : ℕ) → (n ≡ 0 → ⊥) → n < 256
    → 33 ∷ n ∷ [] ≡ options_spelling 0 ((bad_csm_option, uint_bytes n) ∷ [])
unfolding uint_bytes
bad_short n some few = rw (ne_eqb n 0 some) (rw (lt-ltb n 256 few) (one_octet n))

pub bad_long : (n : ℕ) → (n ≡ 0 → ⊥) → (n < 256 → ⊥) → n < 2 ^ 16
    → 34 ∷ (n / 256) ∷ (n % 256) ∷ []
    ≡ options_spelling 0 ((bad_csm_option, uint_bytes n) ∷ [])
unfolding uint_bytes
bad_long n some more few =
    rw (ne_eqb n 0 some) (rw (le-ltb n 256 (omega (arith, more)))
    (rw (lt-ltb n 65536 few) (two_octets (n / 256) (n % 256))))

-- ---- what is said

pub with_option : (code : ℕ) (token option : List ℕ) (o : Opt)
    → option ≡ options_spelling 0 (o ∷ [])
    → stream_spelling (record {
      code = code;
      token = token;
      tail = option ++ payload_spelling [];
    }) ≡ saying_with code token o
unfolding payload_spelling
with_option code token option o is =
    ap (λ (l : List ℕ). stream_spelling (record { code = code; token = token; tail = l }))
    (append-nil option ∙ is)

pub pong_with : (message : Shown) (b : Bool) → b ≡ has_option custody message.options
    → b ≡ true → saying_with signals.PONG message.token (custody, []) ≡ pong_by manner.Full message
pong_with message b is one =
    let e : has_option custody message.options ≡ true = sym is ∙ one in
    rw e refl

pub pong_without : (message : Shown) (b : Bool) → b ≡ has_option custody message.options
    → b ≡ false → saying signals.PONG message.token [] ≡ pong_by manner.Full message
pong_without message b is none =
    let e : has_option custody message.options ≡ false = sym is ∙ none in
    rw e refl

-- ---- the cause of an Abort

pub cause_none : (octets : List ℕ) (o : Option Frame)
    → option_map frame_shown o ≡ shown_in octets → o ≡ None → None ≡ bad_option_in octets
cause_none octets o shown none =
    ap (option_and_then bad_option_of) (sym (ap (option_map frame_shown) none) ∙ shown)

pub cause_some : (octets : List ℕ) (o : Option Frame) (f : Frame) (bad : Option ℕ)
    → option_map frame_shown o ≡ shown_in octets → o ≡ Some f
    → bad ≡ bad_option_of (frame_shown f) → bad ≡ bad_option_in octets
cause_some octets o f bad shown some is =
    is ∙ ap (option_and_then bad_option_of) (sym (ap (option_map frame_shown) some) ∙ shown)

-- ---- a request that asks for blocks

pub sized_none : (by : Manner) (most : ℕ) (m heard : Message) (o : Option ℕ)
    → m ≡ heard → o ≡ block_wanted by most m → o ≡ None
    → heard ≡ sized_by by most heard
sized_none by most m heard o same is none =
    let e : block_wanted by most heard ≡ None =
    sym (ap (block_wanted by most) same) ∙ sym is ∙ none in
    rw e refl

pub sized_some : (by : Manner) (most : ℕ) (m heard : Message) (o : Option ℕ) (exponent : ℕ)
    → m ≡ heard → o ≡ block_wanted by most m → o ≡ Some exponent
    → with_block (Some exponent) heard ≡ sized_by by most heard
sized_some by most m heard o exponent same is some =
    let e : block_wanted by most heard ≡ Some exponent =
    sym (ap (block_wanted by most) same) ∙ sym is ∙ some in
    rw e refl

none_wanted : (exponent : ℕ) → None ≡ Some exponent → ⊥
none_wanted exponent e = cc

-- Blocks are wanted only where no option is in the way.
pub unblocked : (by : Manner) (most : ℕ) (m heard : Message) (o : Option ℕ) (exponent : ℕ)
    → m ≡ heard → o ≡ block_wanted by most m → o ≡ Some exponent
    → list_any is_from_block2 heard.options ≡ false
unblocked by most m heard o exponent same is some =
    cases by (sym (ap (block_wanted by most) same) ∙ sym is ∙ some)
  where
    other : (p q : Bool) → (if p && not q then block_for most else None) ≡ Some exponent
        → q ≡ false
    other true false e = refl
    other true true e = absurd (none_wanted exponent e)
    other false q e = absurd (none_wanted exponent e)

    cases : (x : Manner) → block_wanted x most heard ≡ Some exponent
        → list_any is_from_block2 heard.options ≡ false
    cases manner.Plain e = absurd (none_wanted exponent e)
    cases manner.Full e =
        other (heard.code == code_named.get) (list_any is_from_block2 heard.options) e
