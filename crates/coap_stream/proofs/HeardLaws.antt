-- Options without Observe stand in order too, and take no more octets (RFC 7252 section 3.1).
use Rattle.std.proofs.Common.{
  ◌≡◌,
  ℕ,
  ◌+◌,
  ◌-◌,
  ◌/◌,
  ◌%◌,
  ◌<◌,
  ◌≤◌,
  Bool,
  true,
  false,
  cond,
  nat_lt,
  List,
  [],
  ◌∷◌,
  ◌++◌,
  length,
  filter,
  refl,
  sym,
  ap,
  subst,
  ◌∙◌,
  append_assoc,
  append-nil,
  arith,
}
use Rattle.std.specs.List.{list_any}
use Rattle.std.specs.Prelude.{◌||◌}
use Rattle.std.proofs.lemmas.Bool.{ltb-true, ltb-false, le-ltb, ne_eqb}
use Rattle.std.proofs.lemmas.List.{length-append}
use Rattle.std.proofs.lemmas.Bool.Decides.{nat_tests}
use Rattle.message_model.specs.Message.{Message, Opt, AreOptionsAfter, end_number}
use Rattle.message_model.specs.Spelling.{
  extension_of,
  option_spelling,
  options_spelling,
  payload_spelling,
  header_spelling,
  spelling,
}
use Rattle.message_model.specs.Codes.{empty, is_request_code, is_reserved}
use Rattle.message_model.proofs.OptionLemmas.{extension_short, extension_middle}
use Rattle.message_model.proofs.OrderLemmas.{end_number-push}
use Rattle.coap_message.proofs.MessageSizes as sizes
use Rattle.coap_message.proofs.WriterLemmas.{spelled_option}
use Rattle.coap_message.specs.PartialMessages.{with_last_option, with_payload, bare_message}
use Rattle.coap_stream.specs.Manners.{is_from_block2}
use Rattle.message_model.specs.declared.messages.Kind4.{Kind4}
use Rattle.stream_reader.specs.Shown.{Shown}
use Rattle.coap_stream.specs.Requests.{is_not_observe, with_options, heard_as, IsRequest}

-- ---- order

order_lower : (low high : ℕ) (options : List Opt)
    → low ≤ high
    → AreOptionsAfter high options
    → AreOptionsAfter low options
order_lower low high [] le fits = tt
order_lower low high (option ∷ options) le fits =
    let first : high ≤ option.0 = fits.0 in
    (omega (arith, le, first), fits.1, fits.2, fits.3, fits.4)

pub order_filtered : (before : ℕ) (options : List Opt)
    → AreOptionsAfter before options
    → AreOptionsAfter before (filter is_not_observe options)
order_filtered before [] fits = tt
order_filtered before (option ∷ options) fits =
    by (is_not_observe option) (order_filtered option.0 options fits.4)
  where
    by : (b : Bool)
        → AreOptionsAfter option.0 (filter is_not_observe options)
        → AreOptionsAfter before
        (cond b (option ∷ filter is_not_observe options) (filter is_not_observe options))
    by true others = (fits.0, fits.1, fits.2, fits.3, others)
    by false others =
        order_lower before option.0 (filter is_not_observe options) fits.0 others

-- ---- sizes

some_extended : (n : ℕ) → 13 ≤ n → 1 ≤ length (extension_of n)
unfolding extension_of
some_extended n le = rw (le-ltb n 13 le) (by (nat_lt n 269))
  where
    by : (b : Bool)
        → 1 ≤ length (cond b ((n - 13) ∷ []) (((n - 269) / 256) ∷ ((n - 269) % 256) ∷ []))
    by true = omega arith
    by false = omega arith

-- A delta that is greater by at most six takes at most one octet more.
extension_more : (n m : ℕ)
    → n ≤ m
    → m ≤ n + 6
    → length (extension_of m) ≤ length (extension_of n) + 1
extension_more n m le few = by (nat_lt m 13) (nat_lt n 13) refl refl
  where
    by : (p q : Bool)
        → nat_lt m 13 ≡ p
        → nat_lt n 13 ≡ q
        → length (extension_of m) ≤ length (extension_of n) + 1
    by true q ep eq =
        let none = ap (λ (l : List ℕ). length l) (extension_short m (ltb-true _ _ ep)) in
        omega (arith, none)
    by false true ep eq =
        let below : n < 13 = ltb-true _ _ eq in
        let least : 13 ≤ m = ltb-false _ _ ep in
        let one = ap (λ (l : List ℕ). length l)
        (extension_middle m least (omega (arith, below, few))) in
        omega (arith, one)
    by false false ep eq =
        let some = some_extended n (ltb-false _ _ eq) in
        let most = sizes.extension_short m in
        omega (arith, some, most)

option_size : (before : ℕ) (option : Opt)
    → length (option_spelling before option)
    ≡ 1 + length (extension_of (option.0 - before))
    + length (extension_of (length option.1)) + length option.1
unfolding option_spelling
option_size before option =
    let whole =
    length-append (extension_of (option.0 - before))
    (extension_of (length option.1) ++ option.1) in
    let rest = length-append (extension_of (length option.1)) option.1 in
    omega (arith, whole, rest)

options_size : (before : ℕ) (option : Opt) (options : List Opt)
    → length (options_spelling before (option ∷ options))
    ≡ length (option_spelling before option) + length (options_spelling option.0 options)
unfolding options_spelling
options_size before option options =
    length-append (option_spelling before option) (options_spelling option.0 options)

no_options : (before : ℕ) → length (options_spelling before []) ≡ 0
unfolding options_spelling
no_options before = refl

lower_size : (low high : ℕ) (options : List Opt)
    → low ≤ high
    → high ≤ low + 6
    → AreOptionsAfter high options
    → length (options_spelling low options) ≤ length (options_spelling high options) + 1
unfolding options_spelling
lower_size low high [] le few fits = omega arith
lower_size low high (option ∷ options) le few fits =
    let first : high ≤ option.0 = fits.0 in
    let more =
    extension_more (option.0 - high) (option.0 - low) (omega (arith, le))
    (omega (arith, few, first)) in
    let lower = options_size low option options in
    let higher = options_size high option options in
    let lower_one = option_size low option in
    let higher_one = option_size high option in
    omega (arith, more, lower, higher, lower_one, higher_one)

observed : (o : Opt) → is_not_observe o ≡ false → o.0 ≡ 6
observed o is = grind (arith, nat_tests)

pub filtered_size : (before : ℕ) (options : List Opt)
    → AreOptionsAfter before options
    → length (options_spelling before (filter is_not_observe options))
    ≤ length (options_spelling before options)
filtered_size before [] fits = omega arith
filtered_size before (option ∷ options) fits =
    by (is_not_observe option) refl (filtered_size option.0 options fits.4)
  where
    others : List Opt
    others = filter is_not_observe options

    by : (b : Bool)
        → is_not_observe option ≡ b
        → length (options_spelling option.0 others) ≤ length (options_spelling option.0 options)
        → length (options_spelling before (cond b (option ∷ others) others))
        ≤ length (options_spelling before (option ∷ options))
    by true is rest =
        let kept = options_size before option others in
        let whole = options_size before option options in
        omega (arith, kept, whole, rest)
    by false is rest =
        let six : option.0 ≡ 6 = observed option is in
        let first : before ≤ option.0 = fits.0 in
        let more =
        lower_size before option.0 others first (omega (arith, six))
        (order_filtered option.0 options fits.4) in
        let whole = options_size before option options in
        let one = option_size before option in
        omega (arith, more, whole, one, rest)

-- ---- one option more is put

-- What is left to be put makes the whole of what was put, and has room.
pub record IsLeft (m target : Message) (most : ℕ) (options : List Opt) : Type 0 where
  pub all : with_options m options ≡ target
  pub filled : empty < m.code
  pub open_end : m.payload ≡ []
  pub order : AreOptionsAfter (end_number 0 m.options) options
  pub room : length (spelling m) + length (options_spelling (end_number 0 m.options) options)
      ≤ most

same_options : (m : Message) → with_options m [] ≡ m
same_options m = ap (λ (l : List Opt). record m { options = l }) (append-nil m.options)

pub left_end : (m target : Message) → with_options m [] ≡ target → m ≡ target
left_end m target all = sym (same_options m) ∙ all

-- The next option, or none of it.
pub left_more : (b : Bool) (m target : Message) (most : ℕ) (option : Opt) (options : List Opt)
    → IsLeft m target most (cond b (option ∷ options) options)
    → IsLeft (with_options m (cond b (option ∷ []) [])) target most options
left_more true m target most option options left = record {
  all =
      ap (λ (l : List Opt). record m { options = l })
      (append_assoc m.options (option ∷ []) options) ∙ left.all;
  filled = left.filled;
  open_end = left.open_end;
  order =
      subst (λ (n : ℕ). AreOptionsAfter n options) (sym (end_number-push 0 m.options option))
      left.order.4;
  room =
      let put =
      ap (λ (l : List ℕ). length l) (spelled_option m option left.open_end)
      ∙ length-append (spelling m) (option_spelling (end_number 0 m.options) option) in
      let whole = options_size (end_number 0 m.options) option options in
      let last : length (options_spelling (end_number 0 (m.options ++ option ∷ [])) options)
      ≡ length (options_spelling option.0 options) =
      ap (λ (n : ℕ). length (options_spelling n options)) (end_number-push 0 m.options option) in
      omega (arith, put, whole, last, left.room);
}
left_more false m target most option options left =
    subst (λ (x : Message). IsLeft x target most options) (sym (same_options m)) left

pub order_first : (b : Bool) (before : ℕ) (option : Opt) (options : List Opt)
    → AreOptionsAfter before (cond b (option ∷ options) options)
    → AreOptionsAfter before (cond b (option ∷ []) [])
order_first true before option options fits = (fits.0, fits.1, fits.2, fits.3, tt)
order_first false before option options fits = tt

pub room_first : (b : Bool) (size before most : ℕ) (option : Opt) (options : List Opt)
    → size + length (options_spelling before (cond b (option ∷ options) options)) ≤ most
    → size + length (options_spelling before (cond b (option ∷ []) [])) ≤ most
room_first true size before most option options room =
    let whole = options_size before option options in
    let first = options_size before option [] in
    let none : length (options_spelling option.0 []) ≡ 0 = no_options option.0 in
    omega (arith, whole, first, none, room)
room_first false size before most option options room =
    let none : length (options_spelling before []) ≡ 0 = no_options before in
    omega (arith, none, room)

-- An option that is put where there is room for it is not too long.
pub put_room : (m : Message) (option : Opt) (most : ℕ)
    → m.payload ≡ []
    → (option.0 ≡ 6 → ⊥)
    → length (spelling m) + length (options_spelling (end_number 0 m.options)
    (filter is_not_observe (option ∷ []))) ≤ most
    → most < length (spelling (with_last_option m option))
    → ⊥
put_room m option most none other room long =
    let before = end_number 0 m.options in
    let kept : is_not_observe option ≡ true = rw (ne_eqb option.0 6 other) refl in
    let fits : length (spelling m) + length (options_spelling before (option ∷ [])) ≤ most =
    subst (λ (b : Bool).
    length (spelling m) + length (options_spelling before (cond b (option ∷ []) [])) ≤ most)
    kept room in
    let put =
    ap (λ (l : List ℕ). length l) (spelled_option m option none)
    ∙ length-append (spelling m) (option_spelling before option) in
    let one = options_size before option [] in
    absurd (omega (arith, put, one, fits, long))

-- ---- a request

pub begun_order : (m : Message) (options others : List Opt)
    → m.options ≡ []
    → others ≡ options
    → AreOptionsAfter 0 options
    → AreOptionsAfter (end_number 0 m.options) (filter is_not_observe others)
begun_order m options others none same fits =
    subst (λ (l : List Opt). AreOptionsAfter (end_number 0 l) (filter is_not_observe others))
    (sym none)
    (subst (λ (l : List Opt). AreOptionsAfter 0 (filter is_not_observe l)) (sym same)
    (order_filtered 0 options fits))

pub begun_room : (m : Message) (kind : Kind4) (mid : ℕ) (s : Shown) (others : List Opt)
    → m ≡ bare_message kind s.code mid s.token
    → others ≡ s.options
    → IsRequest s
    → length (spelling m) + length (options_spelling (end_number 0 m.options)
    (filter is_not_observe others)) ≤ 1280
begun_room m kind mid s others begun same fits =
    let size =
    ap (λ (x : Message). length (spelling x)) begun ∙ sizes.begun_size kind s.code mid s.token in
    let few = filtered_size 0 s.options fits.options in
    let put : length (options_spelling (end_number 0 m.options) (filter is_not_observe others))
    ≡ length (options_spelling 0 (filter is_not_observe s.options)) =
    ap (λ (x : Message). length (options_spelling (end_number 0 x.options)
    (filter is_not_observe others))) begun
    ∙ ap (λ (l : List Opt). length (options_spelling 0 (filter is_not_observe l))) same in
    omega (arith, size, few, put, fits.token, fits.fits)

pub request_code : (c : ℕ) → is_request_code c ≡ true → (0 < c) × (c < 32)
request_code c is = (grind (arith, nat_tests), grind (arith, nat_tests))

pub unreserved : (c : ℕ) → is_request_code c ≡ true → is_reserved c ≡ false
unreserved c is = grind (arith, nat_tests)

pub heard_size : (mid : ℕ) (s : Shown)
    → IsRequest s
    → length (spelling (heard_as mid s)) ≤ 1280
unfolding spelling header_spelling
heard_size mid s fits =
    let options = filter is_not_observe s.options in
    let few = filtered_size 0 s.options fits.options in
    let parts = length-append (options_spelling 0 options) (payload_spelling s.payload) in
    let whole =
    length-append s.token (options_spelling 0 options ++ payload_spelling s.payload) in
    omega (arith, few, parts, whole, fits.token, fits.fits)

-- ---- a request that asks for blocks

below_all : (o : Opt) (b : Bool) → (is_from_block2 o || b) ≡ false
    → (o.0 ≤ 23) × (b ≡ false)
below_all o b none = by (is_from_block2 o) refl none
  where
    low : is_from_block2 o ≡ false → o.0 ≤ 23
    low is = grind (arith, nat_tests)

    by : (x : Bool) → is_from_block2 o ≡ x → (x || b) ≡ false → (o.0 ≤ 23) × (b ≡ false)
    by true is e = absurd cc
    by false is e = (low is, e)

-- The last option comes before Block2.
pub end_below : (before : ℕ) (options : List Opt) → before ≤ 23
    → list_any is_from_block2 options ≡ false → end_number before options ≤ 23
end_below before [] few none = few
end_below before (o ∷ options) few none =
    let first = below_all o (list_any is_from_block2 options) none in
    end_below o.0 options first.0 first.1

-- One option more takes no more than its value and five octets.
push_size : (before : ℕ) (options : List Opt) (o : Opt)
    → length (options_spelling before (options ++ o ∷ []))
    ≤ length (options_spelling before options) + (5 + length o.1)
push_size before [] o =
    let whole = options_size before o [] in
    let one = option_size before o in
    let none : length (options_spelling o.0 []) ≡ 0 = no_options o.0 in
    let nothing : length (options_spelling before []) ≡ 0 = no_options before in
    let delta = sizes.extension_short (o.0 - before) in
    let size = sizes.extension_short (length o.1) in
    omega (arith, whole, one, none, nothing, delta, size)
push_size before (p ∷ options) o =
    let more = push_size p.0 options o in
    let whole = options_size before p (options ++ o ∷ []) in
    let others = options_size before p options in
    omega (arith, more, whole, others)

pub sized_size : (mid : ℕ) (s : Shown) (o : Opt)
    → IsRequest s
    → length o.1 ≤ 1
    → length (spelling (with_options (heard_as mid s) (o ∷ []))) ≤ 1280
unfolding spelling header_spelling
sized_size mid s o fits few =
    let options = filter is_not_observe s.options in
    let kept = filtered_size 0 s.options fits.options in
    let more = push_size 0 options o in
    let parts =
    length-append (options_spelling 0 (options ++ o ∷ [])) (payload_spelling s.payload) in
    let whole =
    length-append s.token (options_spelling 0 (options ++ o ∷ []) ++ payload_spelling s.payload) in
    omega (arith, kept, more, parts, whole, few, fits.token, fits.fits)

-- The same without the payload.
pub opened_size : (m : Message) (o : Opt) (payload : List ℕ)
    → m.payload ≡ []
    → length (spelling (with_options (with_payload m payload) (o ∷ []))) ≤ 1280
    → length (spelling (with_last_option m o)) ≤ 1280
unfolding spelling header_spelling payload_spelling
opened_size m o payload none few =
    let options = options_spelling 0 (m.options ++ o ∷ []) in
    let parts = length-append options (payload_spelling payload) in
    let whole = length-append m.token (options ++ payload_spelling payload) in
    let bare : length (payload_spelling m.payload) ≡ 0 =
    ap (λ (l : List ℕ). length (payload_spelling l)) none in
    let part = length-append options (payload_spelling m.payload) in
    let all = length-append m.token (options ++ payload_spelling m.payload) in
    omega (arith, parts, whole, bare, part, all, few)
