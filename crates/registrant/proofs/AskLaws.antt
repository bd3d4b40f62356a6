-- The message of an ask, option by option.
use Rattle.std.proofs.Common.{
  ◌≡◌,
  ℕ,
  ◌+◌,
  ◌<◌,
  ◌≤◌,
  ◌⊎◌,
  inl,
  inr,
  true,
  false,
  nat_le,
  Result,
  Ok,
  Err,
  OnErr,
  List,
  [],
  ◌∷◌,
  ◌++◌,
  length,
  refl,
  sym,
  ap,
  subst,
  ◌∙◌,
  append_assoc,
  append-nil,
  arith,
}
use Rattle.std.proofs.lemmas.Bool.{lt-leb, le-leb}
use Rattle.std.proofs.lemmas.List.{length-append}
use Rattle.message_model.specs.Codes as codes_of
use Rattle.message_model.specs.Message.{Message, Opt, end_number, last_number, longest_value}
use Rattle.message_model.specs.Spelling.{
  header_spelling,
  option_spelling,
  options_spelling,
  payload_spelling,
  spelling,
}
use Rattle.message_model.proofs.OrderLemmas.{end_number-push}
use Rattle.message_model.specs.declared.messages.TheConstants.{MAX_MESSAGE_SIZE}
use Rattle.coap_message.specs.PartialMessages.{longest_datagram, with_last_option, with_payload}
use Rattle.client_model.specs.declared.asks.TheConstants.{TOKEN_SIZE}
use Rattle.client_model.specs.declared.asks.Ask.{Ask}
use Rattle.client_model.specs.Requests.{CanFollow, CanBeSent, message_of, ask_size}
use Rattle.client_model.proofs.RequestLaws.{size_of_message}
use Rattle.registrant.specs.Asking.{with_options, opened}

-- ---- how long a message is

size_of : (m : Message)
    → length (spelling m)
    ≡ 4
    + (length m.token + (length (options_spelling 0 m.options) + length
    (payload_spelling m.payload)))
unfolding spelling header_spelling
size_of m =
    let options = options_spelling 0 m.options in
    let payload = payload_spelling m.payload in
    let whole = length-append m.token (options ++ payload) in
    let rest = length-append options payload in
    omega (arith, whole, rest)

options_grow : (before : ℕ) (options more : List Opt)
    → length (options_spelling before options)
    ≤ length (options_spelling before (options ++ more))
unfolding options_spelling
options_grow before [] more = omega arith
options_grow before (o ∷ options) more =
    let one = length-append (option_spelling before o) (options_spelling o.0 options) in
    let all = length-append (option_spelling before o) (options_spelling o.0 (options ++ more)) in
    omega (arith, one, all, options_grow o.0 options more)

-- a message is no longer than with more options
pub message_grows : (m : Message) (more : List Opt)
    → length (spelling m) ≤ length (spelling (with_options m more))
message_grows m more =
    let one = size_of m in
    let all = size_of (with_options m more) in
    omega (arith, one, all, options_grow 0 m.options more)

-- a message without a payload is no longer than with one
pub payload_grows : (m : Message)
    → length (spelling (record m { payload = [] })) ≤ length (spelling m)
unfolding payload_spelling
payload_grows m =
    let none = size_of (record m { payload = [] }) in
    let all = size_of m in
    omega (arith, none, all)

-- ---- options one after the other

-- what is written of a message that began as the first, where these options are left
pub record IsPutting (first m : Message) (options left : List Opt) : Type 0 where
  pub code : m.code ≡ first.code
  pub bare : m.payload ≡ []
  pub follow : CanFollow (end_number 0 m.options) left
  pub whole : with_options m left ≡ with_options first options

-- the message with one option more, and then the others
one_more : (m : Message) (o : Opt) (more : List Opt)
    → with_options (with_last_option m o) more ≡ with_options m (o ∷ more)
one_more m o more =
    ap (λ (options : List Opt). record m { options = options })
    (append_assoc m.options (o ∷ []) more)

pub putting_step : (first m : Message) (options left more : List Opt) (o : Opt)
    → left ≡ o ∷ more
    → IsPutting first m options left
    → IsPutting first (with_last_option m o) options more
putting_step first m options left more o steps putting =
    let follow = subst (λ (l : List Opt). CanFollow (end_number 0 m.options) l) steps
    putting.follow in
    record {
      code = putting.code;
      bare = putting.bare;
      follow = subst (λ (n : ℕ). CanFollow n more)
          (sym (end_number-push 0 m.options o)) follow.3;
      whole =
          one_more m o more
          ∙ (sym (ap (λ (l : List Opt). with_options m l) steps) ∙ putting.whole);
    }

-- what the next option must meet
pub putting_next : (first m : Message) (options left more : List Opt) (o : Opt)
    → left ≡ o ∷ more
    → IsPutting first m options left
    → (end_number 0 m.options ≤ o.0) × (o.0 ≤ last_number) × (length o.1 ≤ longest_value)
putting_next first m options left more o steps putting =
    let follow = subst (λ (l : List Opt). CanFollow (end_number 0 m.options) l) steps
    putting.follow in
    (follow.0, follow.1, follow.2)

pub putting_end : (first m : Message) (options left : List Opt)
    → left ≡ []
    → IsPutting first m options left
    → m ≡ with_options first options
putting_end first m options left none putting =
    sym (ap (λ (options : List Opt). record m { options = options }) (append-nil m.options))
    ∙ (sym (ap (λ (l : List Opt). with_options m l) none) ∙ putting.whole)

-- where there is no room for the next option there is none for all of them
pub putting_long : (first m : Message) (options left more : List Opt) (o : Opt) (limit : ℕ)
    → left ≡ o ∷ more
    → IsPutting first m options left
    → limit < length (spelling (with_last_option m o))
    → limit < length (spelling (with_options first options))
putting_long first m options left more o limit steps putting long =
    let grows = message_grows (with_last_option m o) more in
    let same =
    ap
    (λ (m : Message). length (spelling m))
    (one_more m o more
    ∙ (sym (ap (λ (l : List Opt). with_options m l) steps) ∙ putting.whole)) in
    omega (arith, grows, same, long)

-- ---- the code of an ask

pub is_filled : (code : ℕ)
    → (code ≡ codes_of.post) ⊎ (code ≡ codes_of.delete)
    → codes_of.empty < code
is_filled code (inl e) = omega (arith, e)
is_filled code (inr e) = omega (arith, e)

pub is_classed : (code : ℕ)
    → (code ≡ codes_of.post) ⊎ (code ≡ codes_of.delete)
    → codes_of.is_reserved code ≡ false
is_classed code (inl e) = rw e refl
is_classed code (inr e) = rw e refl

-- ---- the datagram of an ask

-- without its payload it is no longer
opened_short : (ask : Ask) (mid : ℕ) (token : List ℕ)
    → length token ≡ TOKEN_SIZE
    → length (spelling (opened ask mid token)) ≤ ask_size ask
opened_short ask mid token eight =
    let grows = payload_grows (message_of ask mid token) in
    let size = size_of_message ask mid token eight in
    omega (arith, grows, size)

-- an ask whose datagram is too long before its payload
pub opened_long : (ask : Ask) (mid : ℕ) (token : List ℕ)
    → length token ≡ TOKEN_SIZE
    → longest_datagram < length (spelling (opened ask mid token))
    → false ≡ nat_le (ask_size ask) MAX_MESSAGE_SIZE
opened_long ask mid token eight long =
    let short = opened_short ask mid token eight in
    let more : MAX_MESSAGE_SIZE < ask_size ask = omega (arith, short, long) in
    sym (lt-leb (ask_size ask) MAX_MESSAGE_SIZE more)

-- one that can be sent is not
pub never_long : (ask : Ask) (mid : ℕ) (token : List ℕ)
    → length token ≡ TOKEN_SIZE
    → CanBeSent ask
    → longest_datagram < length (spelling (opened ask mid token))
    → ⊥
never_long ask mid token eight sent long =
    let short = opened_short ask mid token eight in
    let fits : ask_size ask ≤ MAX_MESSAGE_SIZE = sent.size in
    omega (arith, short, long, fits)

-- its message with its payload
finished : (ask : Ask) (mid : ℕ) (token : List ℕ) (m : Message) (payload : List ℕ)
    → length token ≡ TOKEN_SIZE
    → m ≡ opened ask mid token
    → payload ≡ ask.payload
    → length (spelling (with_payload m payload)) ≡ ask_size ask
finished ask mid token m payload eight begun whole =
    ap (λ (m : Message). length (spelling (with_payload m payload))) begun
    ∙ (ap (λ (p : List ℕ). length (spelling (with_payload (opened ask mid token) p))) whole
    ∙ size_of_message ask mid token eight)

pub finished_long : (ask : Ask) (mid : ℕ) (token : List ℕ) (m : Message) (payload : List ℕ)
    → length token ≡ TOKEN_SIZE
    → m ≡ opened ask mid token
    → payload ≡ ask.payload
    → longest_datagram < length (spelling (with_payload m payload))
    → false ≡ nat_le (ask_size ask) MAX_MESSAGE_SIZE
finished_long ask mid token m payload eight begun whole long =
    let size = finished ask mid token m payload eight begun whole in
    let more : MAX_MESSAGE_SIZE < ask_size ask = omega (arith, size, long) in
    sym (lt-leb (ask_size ask) MAX_MESSAGE_SIZE more)

pub finished_short : (ask : Ask) (mid : ℕ) (token : List ℕ) (m : Message)
    (payload octets : List ℕ)
    → length token ≡ TOKEN_SIZE
    → m ≡ opened ask mid token
    → payload ≡ ask.payload
    → octets ≡ spelling (with_payload m payload)
    → length octets ≤ longest_datagram
    → true ≡ nat_le (ask_size ask) MAX_MESSAGE_SIZE
finished_short ask mid token m payload octets eight begun whole spelled short =
    let size = ap length spelled ∙ finished ask mid token m payload eight begun whole in
    let less : ask_size ask ≤ MAX_MESSAGE_SIZE = omega (arith, size, short) in
    sym (le-leb (ask_size ask) MAX_MESSAGE_SIZE less)

pub finished_never_long : (ask : Ask) (mid : ℕ) (token : List ℕ) (m : Message)
    (payload : List ℕ)
    → length token ≡ TOKEN_SIZE
    → CanBeSent ask
    → m ≡ opened ask mid token
    → payload ≡ ask.payload
    → longest_datagram < length (spelling (with_payload m payload))
    → ⊥
finished_never_long ask mid token m payload eight sent begun whole long =
    let size = finished ask mid token m payload eight begun whole in
    let fits : ask_size ask ≤ MAX_MESSAGE_SIZE = sent.size in
    omega (arith, size, long, fits)

pub on_err : {A E : Type 0} (r : Result A E) (P : Type 0) → P → OnErr r P
on_err (Ok x) P p = tt
on_err (Err e) P p = p
