-- What is written of a message, step by step.
use Rattle.std.proofs.Common.{
  ◌≡◌,
  ℕ,
  ◌+◌,
  ◌^◌,
  ◌<◌,
  ◌≤◌,
  false,
  List,
  [],
  ◌∷◌,
  ◌++◌,
  length,
  take,
  Ok,
  refl,
  sym,
  ap,
  subst,
  ◌∙◌,
  append_assoc,
  arith,
}
use Rattle.std.proofs.lemmas.List.{append-nil, length-append, length-take}
use Rattle.message_model.specs.declared.messages.Kind4.{Kind4}
use Rattle.message_model.specs.Numbers.{AreBytes}
use Rattle.message_model.specs.Codes.{is_reserved, empty}
use Rattle.message_model.specs.Message.{
  Message,
  Opt,
  longest_token,
  last_number,
  longest_value,
  end_number,
}
use Rattle.message_model.specs.Spelling.{
  header_spelling,
  option_spelling,
  options_spelling,
  payload_spelling,
  spelling,
}
use Rattle.message_model.specs.Reading.{reading}
use Rattle.message_model.proofs.OptionLemmas.{IsOptionAfter}
use Rattle.message_model.proofs.MessageLaws.{reading_again}
use Rattle.message_model.proofs.OrderLemmas.{
  end_number-push,
  AreOptionsAfter-push,
  options_spelling-push,
}
use Rattle.coap_message.specs.PartialMessages.{bare_message, with_last_option, with_payload}
use Rattle.coap_message.specs.SpelledMessages.{or_empty, message_of_bytes, IsWritten}

-- ---- what is written shows its message

pub IsWritten-shows : (bytes : List ℕ) (last : ℕ) (m : Message)
    → IsWritten bytes last m
    → message_of_bytes bytes ≡ m
unfolding message_of_bytes
IsWritten-shows bytes last m w =
    ap (λ (t : List ℕ). or_empty (reading t)) (sym w.spelled)
    ∙ ap or_empty (reading_again m w.message)

pub IsWritten-again : (bytes : List ℕ) (last : ℕ) (m : Message)
    → IsWritten bytes last m
    → IsWritten bytes last (message_of_bytes bytes)
IsWritten-again bytes last m w =
    subst (λ (n : Message). IsWritten bytes last n) (sym (IsWritten-shows bytes last m w)) w

pub IsWritten-reads : (bytes : List ℕ) (last : ℕ) (m : Message)
    → IsWritten bytes last m
    → reading bytes ≡ Ok m
IsWritten-reads bytes last m w = ap reading (sym w.spelled) ∙ reading_again m w.message

-- ---- the first octets

spelled_bare : (kind : Kind4) (code mid : ℕ) (token : List ℕ)
    → spelling (bare_message kind code mid token)
    ≡ header_spelling (bare_message kind code mid token) ++ token
unfolding spelling options_spelling payload_spelling
spelled_bare kind code mid token =
    ap (λ (t : List ℕ). header_spelling (bare_message kind code mid token) ++ t) (append-nil token)

pub IsWritten-bare : (kind : Kind4) (code mid : ℕ) (token : List ℕ)
    → code < 256
    → mid < 2 ^ 16
    → AreBytes token
    → length token ≤ longest_token
    → is_reserved code ≡ false
    → (code ≡ empty → token ≡ [])
    → IsWritten (header_spelling (bare_message kind code mid token) ++ token) 0
    (bare_message kind code mid token)
IsWritten-bare kind code mid token small in_range fits short class none = record {
  message = record {
    code = small;
    class = class;
    mid = in_range;
    token_length = short;
    token = fits;
    options = tt;
    payload = tt;
    empty = λ e. record { token = none e; options = refl; payload = refl };
  };
  spelled = spelled_bare kind code mid token;
  last_is = refl;
}

-- ---- one more option

no_payload : (payload : List ℕ) → payload ≡ [] → payload_spelling payload ≡ []
unfolding payload_spelling
no_payload payload none = rw none refl

same_header : (m : Message) (options : List Opt) (payload : List ℕ)
    → header_spelling (record m { options = options; payload = payload }) ≡ header_spelling m
unfolding header_spelling
same_header m options payload = refl

regroup_option : (header token options option payload : List ℕ)
    → payload ≡ []
    → header ++ (token ++ ((options ++ option) ++ payload))
    ≡ (header ++ (token ++ (options ++ payload))) ++ option
regroup_option header token options option payload none = rw none (simp (append_assoc, append-nil))

pub spelled_option : (m : Message) (option : Opt)
    → m.payload ≡ []
    → spelling (with_last_option m option)
    ≡ spelling m ++ option_spelling (end_number 0 m.options) option
unfolding spelling
spelled_option m option none =
    ap (λ (header : List ℕ).
    header
    ++ (m.token
    ++ (options_spelling 0 (m.options ++ option ∷ [])
    ++ payload_spelling m.payload)))
    (same_header m (m.options ++ option ∷ []) m.payload)
    ∙ ap (λ (options : List ℕ).
    header_spelling m ++ (m.token ++ (options ++ payload_spelling m.payload)))
    (options_spelling-push 0 m.options option)
    ∙ regroup_option (header_spelling m) m.token (options_spelling 0 m.options)
    (option_spelling (end_number 0 m.options) option) (payload_spelling m.payload)
    (no_payload m.payload none)

pub IsWritten-option : (bytes : List ℕ) (last : ℕ) (m : Message) (option : Opt)
    → IsWritten bytes last m
    → m.payload ≡ []
    → empty < m.code
    → IsOptionAfter last option
    → IsWritten (bytes ++ option_spelling last option) option.0 (with_last_option m option)
IsWritten-option bytes last m option w none filled fits =
    let after : IsOptionAfter (end_number 0 m.options) option =
    subst (λ (k : ℕ). IsOptionAfter k option) (sym w.last_is) fits in
    record {
      message = record {
        code = w.message.code;
        class = w.message.class;
        mid = w.message.mid;
        token_length = w.message.token_length;
        token = w.message.token;
        options = AreOptionsAfter-push 0 m.options option w.message.options after;
        payload = w.message.payload;
        empty = λ e. absurd (omega (arith, filled, e));
      };
      spelled =
          spelled_option m option none
          ∙ ap (λ (t : List ℕ). t ++ option_spelling (end_number 0 m.options) option) w.spelled
          ∙ ap (λ (k : ℕ). bytes ++ option_spelling k option) w.last_is;
      last_is = end_number-push 0 m.options option;
    }

-- ---- the payload

regroup_payload : (header token options nothing payload : List ℕ)
    → nothing ≡ []
    → header ++ (token ++ (options ++ payload))
    ≡ (header ++ (token ++ (options ++ nothing))) ++ payload
regroup_payload header token options nothing payload none =
    rw none (simp (append_assoc, append-nil))

pub spelled_payload : (m : Message) (payload : List ℕ)
    → m.payload ≡ []
    → spelling (with_payload m payload) ≡ spelling m ++ payload_spelling payload
unfolding spelling
spelled_payload m payload none =
    ap (λ (header : List ℕ).
    header ++ (m.token ++ (options_spelling 0 m.options ++ payload_spelling payload)))
    (same_header m m.options payload)
    ∙ regroup_payload (header_spelling m) m.token (options_spelling 0 m.options)
    (payload_spelling m.payload) (payload_spelling payload) (no_payload m.payload none)

pub IsWritten-payload : (bytes : List ℕ) (last : ℕ) (m : Message) (payload : List ℕ)
    → IsWritten bytes last m
    → m.payload ≡ []
    → (m.code ≡ empty → payload ≡ [])
    → AreBytes payload
    → IsWritten (bytes ++ payload_spelling payload) last (with_payload m payload)
IsWritten-payload bytes last m payload w none bare fits = record {
  message = record {
    code = w.message.code;
    class = w.message.class;
    mid = w.message.mid;
    token_length = w.message.token_length;
    token = w.message.token;
    options = w.message.options;
    payload = fits;
    empty = λ e. record {
      token = (w.message.empty e).token;
      options = (w.message.empty e).options;
      payload = bare e;
    };
  };
  spelled =
      spelled_payload m payload none ∙ ap (λ (t : List ℕ). t ++ payload_spelling payload) w.spelled;
  last_is = w.last_is;
}

-- ---- lengths

pub written_size : (octets : List ℕ) (n last : ℕ) (m : Message)
    → n ≤ length octets
    → IsWritten (take n octets) last m
    → length (spelling m) ≡ n
written_size octets n last m short w = omega (arith, ap length w.spelled, length-take n octets)

pub option_size_is : (octets : List ℕ) (n last : ℕ) (m : Message) (option : Opt)
    → n ≤ length octets
    → m.payload ≡ []
    → IsWritten (take n octets) last m
    → length (spelling (with_last_option m option)) ≡ n + length (option_spelling last option)
option_size_is octets n last m option short none w =
    let spelled =
    ap length
    (spelled_option m option none ∙ ap (λ (k : ℕ). spelling m ++ option_spelling k option)
    w.last_is) in
    omega (
      arith,
      spelled,
      length-append (spelling m) (option_spelling last option),
      written_size
          octets n last m short w,
    )

pub payload_size_is : (octets : List ℕ) (n last : ℕ) (m : Message) (payload : List ℕ)
    → n ≤ length octets
    → m.payload ≡ []
    → IsWritten (take n octets) last m
    → length (spelling (with_payload m payload)) ≡ n + length (payload_spelling payload)
payload_size_is octets n last m payload short none w =
    omega (
      arith,
      ap length (spelled_payload m payload none),
      length-append (spelling m)
          (payload_spelling payload),
      written_size octets n last m short w,
    )

-- ---- what a writer holds

-- Octets that a writer holds, and the message that it shows.
pub record Holds (octets : List ℕ) (n last : ℕ) (m : Message) : Type 0 where
  pub shows : message_of_bytes (take n octets) ≡ m
  pub written : IsWritten (take n octets) last (message_of_bytes (take n octets))

pub Holds-from : (octets bytes : List ℕ) (n last : ℕ) (m : Message)
    → take n octets ≡ bytes
    → IsWritten bytes last m
    → Holds octets n last m
Holds-from octets bytes n last m e w =
    let there : IsWritten (take n octets) last m =
    subst (λ (t : List ℕ). IsWritten t last m) (sym e) w in
    record {
      shows = IsWritten-shows (take n octets) last m there;
      written = IsWritten-again (take n octets) last m there;
    }

pub writes_bare : (octets : List ℕ) (n : ℕ) (kind : Kind4) (code mid : ℕ) (token : List ℕ)
    → take n octets ≡ header_spelling (bare_message kind code mid token) ++ token
    → code < 256
    → mid < 2 ^ 16
    → AreBytes token
    → length token ≤ longest_token
    → is_reserved code ≡ false
    → (code ≡ empty → token ≡ [])
    → Holds octets n 0 (bare_message kind code mid token)
writes_bare octets n kind code mid token e small in_range fits short class none =
    Holds-from octets (header_spelling (bare_message kind code mid token) ++ token) n 0
    (bare_message kind code mid token) e
    (IsWritten-bare kind code mid token small in_range fits short class none)

pub writes_option : (octets more : List ℕ) (n k last : ℕ) (m : Message) (option : Opt)
    → take k more ≡ take n octets ++ option_spelling last option
    → message_of_bytes (take n octets) ≡ m
    → IsWritten (take n octets) last (message_of_bytes (take n octets))
    → m.payload ≡ []
    → empty < m.code
    → end_number 0 m.options ≤ option.0
    → option.0 ≤ last_number
    → length option.1 ≤ longest_value
    → AreBytes option.1
    → Holds more k option.0 (with_last_option m option)
writes_option octets more n k last m option e shows w none filled ascends number size value =
    let written : IsWritten (take n octets) last m =
    subst (λ (x : Message). IsWritten (take n octets) last x) shows w in
    Holds-from more (take n octets ++ option_spelling last option) k option.0
    (with_last_option m option) e
    (IsWritten-option (take n octets) last m option written none filled
    (record {
      ascends = omega (arith, written.last_is, ascends);
      number = number;
      size = size;
      value = value;
    }))

pub writes_payload : (octets more : List ℕ) (n k last : ℕ) (m : Message) (payload : List ℕ)
    → take k more ≡ take n octets ++ payload_spelling payload
    → message_of_bytes (take n octets) ≡ m
    → IsWritten (take n octets) last (message_of_bytes (take n octets))
    → m.payload ≡ []
    → (m.code ≡ empty → payload ≡ [])
    → AreBytes payload
    → Holds more k last (with_payload m payload)
writes_payload octets more n k last m payload e shows w none bare fits =
    let written : IsWritten (take n octets) last m =
    subst (λ (x : Message). IsWritten (take n octets) last x) shows w in
    Holds-from more (take n octets ++ payload_spelling payload) k last (with_payload m payload) e
    (IsWritten-payload (take n octets) last m payload written none bare fits)
