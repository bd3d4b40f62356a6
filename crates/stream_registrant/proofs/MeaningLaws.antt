-- What a message of the directory means for a request.
use Rattle.std.proofs.Common.{
  ◌≡◌,
  ℕ,
  ◌<◌,
  ◌/◌,
  ◌%◌,
  ◌==◌,
  Bool,
  true,
  false,
  cond,
  List,
  [],
  ◌∷◌,
  length,
  take,
  drop,
  Option,
  Some,
  None,
  refl,
  sym,
  ap,
  ◌∙◌,
  arith,
}
use Rattle.std.specs.Option.{option_map}
use Rattle.std.proofs.lemmas.List.{length-take}
use Rattle.rd_base.proofs.lemmas.Options.{some_same}
use Rattle.message_model.specs.declared.messages.Kind4.{Kind4}
use Rattle.message_model.specs.declared.messages.Kind4.TheVariants.{Non}
use Rattle.message_model.specs.declared.messages.Role.{Role}
use Rattle.message_model.specs.declared.messages.Role.TheVariants as role
use Rattle.message_model.specs.Codes as codes_of
use Rattle.message_model.specs.Message.{Message, role_of}
use Rattle.message_model.specs.Reading.{Tail, tail_at}
use Rattle.stream_model.specs.declared.messages.Judged.{Judged}
use Rattle.stream_model.specs.declared.messages.Judged.TheVariants as judged
use Rattle.stream_model.specs.Judging.{extension_size}
use Rattle.stream_reader.specs.declared.frames.Frame.{Frame}
use Rattle.stream_reader.specs.Reading.{Held, held_as}
use Rattle.stream_reader.specs.Shown.{
  Shown,
  frame_shown,
  message_by,
  message_of,
  shown_body,
  shown_by,
  shown_in,
}
use Rattle.client_model.specs.Requests.{Request}
use Rattle.client_model.specs.Verdicts.{decided_by, decided_in}

-- ---- a message that is no response

not_reset : (code : ℕ) → role_of Non code ≡ role.Reset → ⊥
not_reset code e =
    by (code == codes_of.empty) (codes_of.is_request_code code) (codes_of.is_response_code code) e
  where
    by : (p q s : Bool)
        → cond p role.Ignored (cond q role.Request (cond s role.Response role.Ignored))
        ≡ role.Reset
        → ⊥
    by true q s e = cc
    by false true s e = cc
    by false false true e = cc
    by false false false e = cc

-- A non-confirmable message decides nothing unless it is a response.
pub no_response : (r : Request) (m : Message)
    → m.kind ≡ Non
    → (role_of m.kind m.code ≡ role.Response → ⊥)
    → decided_in r (Some m) ≡ None
no_response r m non other = by (role_of m.kind m.code) refl
  where
    by : (x : Role) → role_of m.kind m.code ≡ x → decided_by x r m ≡ None
    by role.Response e = absurd (other e)
    by role.Reset e =
        absurd (not_reset m.code (ap (λ (k : Kind4). role_of k m.code) (sym non) ∙ e))
    by role.Acknowledgement e = refl
    by role.Ping e = refl
    by role.Request e = refl
    by role.Ignored e = refl

-- ---- the token of a message

below_16 : (b : ℕ) → b % 16 < 16
below_16 b = omega arith

token_at : (n : ℕ) (bytes : List ℕ) (code : ℕ) (o : Option Tail) (s : Shown)
    → n < 16
    → option_map (shown_by code (take n bytes)) o ≡ Some s
    → length s.token < 16
token_at n bytes code None s few e = absurd cc
token_at n bytes code (Some t) s few e =
    let size = length-take n bytes in
    let same : length (take n bytes) ≡ length s.token =
    ap (λ (x : Shown). length x.token) (some_same e) in
    omega (arith, few, size, same)

token_in_body : (n : ℕ) (octets : List ℕ) (s : Shown)
    → n < 16
    → shown_body n octets ≡ Some s
    → length s.token < 16
token_in_body n [] s few e = absurd cc
token_in_body n (code ∷ bytes) s few e =
    token_at n bytes code (tail_at 0 (drop n bytes)) s few e

token_in : (octets : List ℕ) (s : Shown) → shown_in octets ≡ Some s → length s.token < 16
unfolding shown_in
token_in [] s e = absurd cc
token_in (b ∷ octets) s e =
    token_in_body (b % 16) (drop (extension_size (b / 16)) octets) s (below_16 b) e

-- The token of a message that is complete has fewer than 16 octets.
pub token_few : (h : Held) (o : Option Frame) (f : Frame)
    → option_map frame_shown o ≡ message_of h
    → o ≡ Some f
    → length f.token.now < 16
token_few h o f is some =
    by (held_as h) (sym is ∙ ap (λ (x : Option Frame). option_map frame_shown x) some)
  where
    by : (j : Judged) → message_by j h.pending ≡ Some (frame_shown f) → length f.token.now < 16
    by judged.Whole e = token_in h.pending (frame_shown f) e
    by judged.More e = absurd cc
    by (judged.Bad why) e = absurd cc
