-- An answer with a body, as it is read: its payload is a block of the body, and its entity tag the
-- one that it was built with.
use Rattle.std.proofs.Common.{
  ◌≡◌,
  ℕ,
  ◌/◌,
  ◌%◌,
  ◌<◌,
  ◌≤◌,
  ◌==◌,
  Bool,
  true,
  false,
  cond,
  ltb,
  eqb,
  List,
  [],
  ◌∷◌,
  ◌++◌,
  length,
  Option,
  Some,
  None,
  option_and_then,
  nat_le,
  Result,
  Ok,
  refl,
  sym,
  ap,
  subst,
  ◌∙◌,
  arith,
}
use Rattle.std.proofs.lemmas.Bool.{false≢true, ltb-false, le-leb}
use Rattle.std.specs.List.{AllByRecursion}
use Rattle.std.specs.Prelude.{map, filter}
use Rattle.rd_base.proofs.lemmas.Each.{each_map}
use Rattle.message_model.specs.declared.messages.Kind4.{Kind4}
use Rattle.message_model.specs.declared.messages.Kind4.TheVariants.{Con}
use Rattle.message_model.specs.declared.messages.Unread.{Unread}
use Rattle.message_model.specs.declared.blocks.Block.{Block}
use Rattle.message_model.specs.Numbers.{uint_bytes}
use Rattle.message_model.specs.Codes as codes_of
use Rattle.message_model.specs.Message.{Message, Opt, longest_token}
use Rattle.message_model.specs.OptionTable as table
use Rattle.message_model.specs.OptionTable.{
  definition_of,
  Preceded,
  is_recognized,
  is_recognized_there,
  preceded_options,
  recognized_options,
  stands_in,
  first_of,
  values,
}
use Rattle.message_model.specs.Blocks.{reserved_szx, block_size, block_read, block_value, block_of}
use Rattle.message_model.specs.Refusals.{link_format}
use Rattle.message_model.specs.Request.{block2_in, etags_in}
use Rattle.message_model.specs.Spelling.{header_spelling, spelling}
use Rattle.message_model.specs.Reading.{reading}
use Rattle.message_model.proofs.TailLemmas.{AreInOrder}
use Rattle.message_model.proofs.BlockLaws.{
  block_read_again,
  block_read-szx,
  block_size-most,
  block_of_piece,
  block_of_whole,
  block_of_short,
}
use Rattle.message_model.proofs.TableLemmas.{values-push}
use Rattle.event_model.specs.declared.notes.Observer.{Observer}
use Rattle.journal_model.specs.Bodies.{is_long}
use Rattle.journal_model.specs.Ticks.{first_block, block_shown}
use Rattle.message_model.proofs.MessageLaws.{reading_in_order}
use Rattle.message_model.proofs.ReadingLaws.{header_read}
use Rattle.history_model.specs.declared.entries.Entry.{Entry}
use Rattle.history_model.specs.Listing.{tag, tag_from}
use Rattle.journal_model.specs.Effects.{Reply}
use Rattle.journal_model.specs.Requests.{asked_block, number_of, szx_of}
use Rattle.journal_model.specs.Bodies.{
  tag_option,
  observe_option,
  block2_option,
  answered_block,
  part_reply,
  body_reply,
}
use Rattle.journal_model.specs.PlacedRows.{code_at}
use Rattle.journal_model.specs.CarriedBlocks.{
  is_content,
  is_tagged,
  longest_payload,
  IsBlockOf,
  IsAsked,
  CarriesBlock,
  Carries,
}
use Rattle.journal_model.specs.Sought.{Sought}
use Rattle.journal_model.specs.Sought as seeking
use Rattle.journal_model.specs.AskedListings.{Asked}

-- a message with the code, options and payload of a reply
abbrev pub with_reply : Kind4 → ℕ → List ℕ → Reply → Message
with_reply kind mid token reply = record {
  kind = kind;
  code = reply.code;
  mid = mid;
  token = token;
  options = reply.options;
  payload = reply.payload;
}

-- ---- its options

-- a number is written in at most three octets
pub uint_bytes-length : (n : ℕ) → length (uint_bytes n) ≤ 3
unfolding uint_bytes
uint_bytes-length n = by (eqb n 0) (ltb n 256) (ltb n 65536)
  where
    by : (a b c : Bool)
        → length (cond a [] (cond b (n ∷ []) (cond c ((n / 256) ∷ (n % 256) ∷ [])
        ((n / 65536) ∷ (n / 256 % 256) ∷ (n % 256) ∷ []))))
        ≤ 3
    by true b c = omega arith
    by false true c = omega arith
    by false false true = omega arith
    by false false false = omega arith

-- and so is a block
pub block_value-length : (b : Block) → length (block_value b) ≤ 3
unfolding block_value
block_value-length b = uint_bytes-length _

-- the options of an answer with a body
abbrev pub options_of : Option (List ℕ) → Option ℕ → Option Block → List Opt
options_of tag observe block =
    tag_option tag
    ++ (observe_option observe
    ++ ((table.content_format, uint_bytes link_format) ∷ block2_option block))

-- a tag that the answer may have
abbrev pub IsShortTag : Option (List ℕ) → Type 0
IsShortTag None = Unit {0}
IsShortTag (Some tag) = length tag ≡ 8

-- they are in order
pub options_in_order : (tag : Option (List ℕ)) (observe : Option ℕ) (block : Option Block)
    → IsShortTag tag
    → AreInOrder 0 (options_of tag observe block)
options_in_order tag observe block short = by tag observe block short
  where
    last : (before : ℕ) (b : Option Block)
        → before ≤ 12
        → AreInOrder before ((table.content_format, uint_bytes link_format) ∷ block2_option b)
    last before None low =
        (low, omega arith, let h = uint_bytes-length link_format in omega (arith, h), tt)
    last before (Some b) low = (
      low,
      omega arith,
      (let h = uint_bytes-length link_format in omega (arith, h)),
      (omega arith, omega arith, (let h = block_value-length b in omega (arith, h)), tt),
    )

    middle : (before : ℕ) (o : Option ℕ) (b : Option Block)
        → before ≤ 6
        → AreInOrder before
        (observe_option o ++ ((table.content_format, uint_bytes link_format) ∷ block2_option b))
    middle before None b low = last before b (omega (arith, low))
    middle before (Some n) b low = (
      low,
      omega arith,
      (let h = uint_bytes-length n in omega (arith, h)),
      last 6 b
          (omega arith),
    )

    by : (t : Option (List ℕ)) (o : Option ℕ) (b : Option Block)
        → IsShortTag t
        → AreInOrder 0 (options_of t o b)
    by None o b s = middle 0 o b (omega arith)
    by (Some t) o b s = (omega arith, omega arith, (omega (arith, s)), middle 4 o b (omega arith))

-- none of these options has a number
abbrev NoneOf : ℕ → List Opt → Type 0
NoneOf number options = AllByRecursion (λ (o : Opt). (o.0 == number) ≡ false) options

-- nor has one where it stands
placed_none : (number : ℕ) (options : List Opt)
    → NoneOf number options
    → AllByRecursion (λ (p : Preceded). (p.1.0 == number) ≡ false) (preceded_options options)
unfolding preceded_options
placed_none number [] none = tt
placed_none number (o ∷ options) none = (
  none.0,
  each_map (λ (p : Preceded). (p.1.0 == number) ≡ false)
      (λ (p : Preceded). (o ∷ p.0, p.1)) (preceded_options options)
      (placed_none number options none.1),
)

-- so they have no value of it, whichever stand before them
none_picked : (number : ℕ) (placed : List Preceded)
    → AllByRecursion (λ (p : Preceded). (p.1.0 == number) ≡ false) placed
    → map (λ (o : Opt). o.1) (filter (λ (o : Opt). o.0 == number)
    (map (λ (p : Preceded). p.1) (filter is_recognized_there placed)))
    ≡ []
none_picked number [] none = refl
none_picked number (p ∷ placed) none = by (is_recognized_there p) (none_picked number placed none.1)
  where
    by : (b : Bool)
        → map (λ (o : Opt). o.1) (filter (λ (o : Opt). o.0 == number)
        (map (λ (q : Preceded). q.1) (filter is_recognized_there placed)))
        ≡ []
        → map (λ (o : Opt). o.1) (filter (λ (o : Opt). o.0 == number)
        (map (λ (q : Preceded). q.1) (cond b (p ∷ filter is_recognized_there placed)
        (filter is_recognized_there placed))))
        ≡ []
    by true rest = rw none.0 rest
    by false rest = rest

-- so there is no value of the number
values_none : (number : ℕ) (options : List Opt) → NoneOf number options → values number options ≡ []
unfolding values recognized_options
values_none number options none =
    none_picked number (preceded_options options) (placed_none number options none)

-- a tag before other options is the one
values_tag : (tag : List ℕ) (others : List Opt)
    → length tag ≡ 8
    → NoneOf table.etag others
    → values table.etag ((table.etag, tag) ∷ others) ≡ tag ∷ []
unfolding values recognized_options preceded_options definition_of
values_tag tag others short none =
    let rest =
    none_picked table.etag
    (map (λ (p : Preceded). ((table.etag, tag) ∷ p.0, p.1)) (preceded_options others))
    (each_map (λ (p : Preceded). (p.1.0 == table.etag) ≡ false) (λ (p : Preceded). (
      (
        table.etag,
        tag,
      ) ∷ p.0,
      p.1,
    )) (preceded_options others) (placed_none table.etag others none)) in
    rw short (ap (λ (vs : List (List ℕ)). tag ∷ vs) rest)

-- the other options are no tags
others_none : (observe : Option ℕ) (block : Option Block)
    → NoneOf table.etag (observe_option observe
    ++ ((table.content_format, uint_bytes link_format) ∷ block2_option block))
others_none None None = (refl, tt)
others_none None (Some b) = (refl, (refl, tt))
others_none (Some n) None = (refl, (refl, tt))
others_none (Some n) (Some b) = (refl, (refl, (refl, tt)))

-- ---- how it is read

-- an answer with a part of a body
abbrev pub part_of : Option (List ℕ) → Option ℕ → Option Block → List ℕ × Bool → Reply
part_of tag observe asked part = part_reply tag observe asked (Some part)

-- an answer with a part of a body is read as it was written
pub part_again : (kind : Kind4) (mid : ℕ) (token : List ℕ) (tag : Option (List ℕ))
    (observe : Option ℕ) (asked : Option Block) (part : List ℕ × Bool)
    → length token ≤ longest_token
    → IsShortTag tag
    → reading (spelling (with_reply kind mid token (part_of tag observe asked part)))
    ≡ Ok (with_reply kind mid token (part_of tag observe asked part))
part_again kind mid token tag observe asked part small short =
    reading_in_order (with_reply kind mid token (part_of tag observe asked part))
    (record {
      class = refl;
      token = small;
      options = options_in_order tag observe
          (answered_block asked part.1) short;
      empty = λ none. absurd (omega arith);
    })

-- the tag of what was read
tagged : (kind : Kind4) (mid : ℕ) (token tag : List ℕ) (observe : Option ℕ) (asked : Option Block)
    (part : List ℕ × Bool)
    → length tag ≡ 8
    → etags_in (with_reply kind mid token (part_of (Some tag) observe asked part)) ≡ tag ∷ []
tagged kind mid token tag observe asked part short =
    values_tag tag _ short (others_none observe (answered_block asked part.1))

-- it has none where it was built with none
untagged : (kind : Kind4) (mid : ℕ) (token : List ℕ) (observe : Option ℕ) (asked : Option Block)
    (part : List ℕ × Bool)
    → etags_in (with_reply kind mid token (part_of None observe asked part)) ≡ []
untagged kind mid token observe asked part =
    values_none table.etag _ (others_none observe (answered_block asked part.1))

-- ---- which body it bears

-- what is wanted: a block by its number and the exponent of its size, to a token
pub record Wanted : Type 0 where
  pub token : List ℕ
  pub number : ℕ
  pub szx : ℕ

-- what a request wants
abbrev pub wanted_by : Message → Wanted
wanted_by m = record {
  token = m.token;
  number = number_of (asked_block m);
  szx = szx_of (asked_block m);
}

-- what an observer wants: the first block
abbrev pub wanted_by_observer : Observer → Wanted
wanted_by_observer o = record { token = o.token; number = 0; szx = o.szx }

-- what is wanted, of what is sought
abbrev pub asking : Wanted → Sought → Asked
asking wanted sought = record { sought = sought; number = wanted.number; szx = wanted.szx }

-- a message with the block of a body that is wanted, under a tag
pub record Bears (wanted : Wanted) (body tag : List ℕ) (m : Message) : Type 0 where
  pub token_is : m.token ≡ wanted.token
  pub block : CarriesBlock m wanted.number wanted.szx body
  pub tagged : etags_in m ≡ tag ∷ []

-- a datagram that is read to be 2.05 is of this body under this tag
abbrev pub IsBodyOf : Wanted → List ℕ → List ℕ → List ℕ → Type 0
IsBodyOf wanted body tag octets =
    (m : Message) → reading octets ≡ Ok m → is_content m ≡ true → Bears wanted body tag m

-- a datagram is not read to be 2.05
abbrev pub HasNone : List ℕ → Type 0
HasNone octets = (m : Message) → reading octets ≡ Ok m → is_content m ≡ false

-- the code of what is read is the second octet
pub code_read : (octets : List ℕ) (m : Message) → reading octets ≡ Ok m → m.code ≡ code_at octets
code_read octets m e = let h = header_read octets m e in sym (ap code_at h.octets_are)

-- a datagram with another code than 2.05
pub other_code : (octets : List ℕ) → (code_at octets == codes_of.content) ≡ false → HasNone octets
other_code octets other m e = rw (code_read octets m e) (rw other refl)

-- then it is of any body
pub none_of_any : (wanted : Wanted) (body tag octets : List ℕ)
    → HasNone octets
    → IsBodyOf wanted body tag octets
none_of_any wanted body tag octets none m e listed = absurd (false≢true (sym (none m e) ∙ listed))

-- an entity tag has eight octets
pub tag-length : (history : List Entry) (moment : ℕ) → length (tag history moment) ≡ 8
unfolding tag_from
tag-length history moment = refl

-- what is spelled and read again is the message
pub same_message : (m n : Message) (octets : List ℕ)
    → reading octets ≡ Ok m
    → reading octets ≡ Ok n
    → m ≡ n
same_message m n octets e f =
    let both : ◌≡◌ {A = Result Message Unread} (Ok m) (Ok n) = sym e ∙ f in cc

-- a block that is asked for can be had
abbrev pub IsUsable : Option Block → Type 0
IsUsable None = Unit {0}
IsUsable (Some b) = b.szx < reserved_szx

-- the exponent of its size is not the reserved one
pub szx-usable : (asked : Option Block) → IsUsable asked → szx_of asked < reserved_szx
szx-usable None usable = omega arith
szx-usable (Some b) usable = usable

-- so it is of each request
pub request-usable : (m : Message) → IsUsable (asked_block m)
request-usable m = by (block2_in m)
  where
    read : (value : List ℕ) (o : Option Block) → block_read value ≡ o → IsUsable o
    read value None e = tt
    read value (Some b) e = block_read-szx value b e

    by : (o : Option (List ℕ)) → IsUsable (option_and_then block_read o)
    by None = tt
    by (Some value) = read value (block_read value) refl

-- the options before Block2
abbrev front_options : Option (List ℕ) → Option ℕ → List Opt
front_options tag observe =
    tag_option tag
    ++ (observe_option observe ++ ((table.content_format, uint_bytes link_format) ∷ []))

-- with Block2 after them
front_then : (tag : Option (List ℕ)) (observe : Option ℕ) (b : Block)
    → options_of tag observe (Some b)
    ≡ front_options tag observe ++ (table.block2, block_value b) ∷ []
front_then None None b = refl
front_then None (Some n) b = refl
front_then (Some t) None b = refl
front_then (Some t) (Some n) b = refl

-- none of them is Block2
front_none : (tag : Option (List ℕ)) (observe : Option ℕ)
    → NoneOf table.block2 (front_options tag observe)
front_none None None = (refl, tt)
front_none None (Some n) = (refl, (refl, tt))
front_none (Some t) None = (refl, (refl, tt))
front_none (Some t) (Some n) = (refl, (refl, (refl, tt)))

-- the block that an answer names is read as it was written
named_block : (tag : Option (List ℕ)) (observe : Option ℕ) (shown : Option Block) → IsUsable shown
    → option_and_then block_read (first_of (values table.block2 (options_of tag observe shown)))
    ≡ shown
unfolding definition_of
named_block tag observe None usable =
    ap (λ (vs : List (List ℕ)). option_and_then block_read (first_of vs))
    (values_none table.block2 (options_of tag observe None) (none tag observe))
  where
    none : (t : Option (List ℕ)) (o : Option ℕ) → NoneOf table.block2 (options_of t o None)
    none None None = (refl, tt)
    none None (Some n) = (refl, (refl, tt))
    none (Some x) None = (refl, (refl, tt))
    none (Some x) (Some n) = (refl, (refl, (refl, tt)))
named_block tag observe (Some b) usable =
    ap (λ (options : List Opt). option_and_then block_read (first_of (values table.block2 options)))
    (front_then tag observe b)
    ∙ (ap (λ (vs : List (List ℕ)). option_and_then block_read (first_of vs)) found
    ∙ block_read_again b usable)
  where
    alone : (t : Option (List ℕ)) (o : Option ℕ)
        → stands_in table.block2 (front_options t o) ≡ false
    alone None None = refl
    alone None (Some n) = refl
    alone (Some x) None = refl
    alone (Some x) (Some n) = refl

    least : nat_le 0 (length (block_value b)) ≡ true
    least = le-leb 0 (length (block_value b)) (omega arith)

    short : nat_le (length (block_value b)) 3 ≡ true
    short = le-leb (length (block_value b)) 3 (block_value-length b)

    found :
        values table.block2 (front_options tag observe ++ (table.block2, block_value b) ∷ [])
        ≡ block_value b ∷ []
    found =
        values-push table.block2 (front_options tag observe) (table.block2, block_value b)
        ∙ rw (
          values_none table.block2 (front_options tag observe) (front_none tag observe),
          alone
              tag observe,
          least,
          short,
        ) refl

-- an answer with a part of a body, which is the block that is wanted, bears it
bears_part : (kind : Kind4) (mid : ℕ) (tag : List ℕ) (observe : Option ℕ) (asked : Option Block)
    (wanted : Wanted) (body : List ℕ) (part : List ℕ × Bool)
    → length wanted.token ≤ longest_token
    → length tag ≡ 8
    → IsUsable (answered_block asked part.1)
    → length part.0 ≤ longest_payload
    → IsBlockOf (answered_block asked part.1) body part.0
    → IsAsked wanted.number wanted.szx (answered_block asked part.1) body
    → IsBodyOf wanted body tag
    (spelling (with_reply kind mid wanted.token (part_of (Some tag) observe asked part)))
bears_part kind mid tag observe asked wanted body part small short usable fits block is_wanted m e
    listed =
    let same : with_reply kind mid wanted.token (part_of (Some tag) observe asked part) ≡ m =
    same_message _ m _
    (part_again kind mid wanted.token (Some tag) observe asked part small short) e in
    let named = named_block (Some tag) observe (answered_block asked part.1) usable in
    subst (λ (n : Message). Bears wanted body tag n) same (record {
      token_is = refl;
      block = record {
        block = subst (λ (b : Option Block). IsBlockOf b body part.0) (sym named) block;
        asked =
            subst (λ (b : Option Block). IsAsked wanted.number wanted.szx b body) (sym named)
            is_wanted;
        fits = fits;
      };
      tagged = tagged kind mid wanted.token tag observe asked part short;
    })

-- a part has at most 1,024 octets
part-fits : (body : List ℕ) (asked : Option Block) (part : List ℕ × Bool)
    → IsUsable asked
    → block_of body (number_of asked) (szx_of asked) ≡ Some part
    → length part.0 ≤ longest_payload
part-fits body asked part usable cut =
    let most = (block_of_piece body (number_of asked) (szx_of asked) part cut).most in
    let size = block_size-most (szx_of asked) (szx-usable asked usable) in
    omega (arith, most, size)

-- an answer with the block that is asked for bears it
pub part_bears : (kind : Kind4) (mid : ℕ) (tag : List ℕ) (observe : Option ℕ) (asked : Option Block)
    (token body : List ℕ) (part : Option (List ℕ × Bool))
    → length token ≤ longest_token
    → length tag ≡ 8
    → IsUsable asked
    → block_of body (number_of asked) (szx_of asked) ≡ part
    → IsBodyOf (record { token = token; number = number_of asked; szx = szx_of asked }) body tag
    (spelling (with_reply kind mid token (part_reply (Some tag) observe asked part)))
unfolding spelling header_spelling
part_bears kind mid tag observe asked token body None small short usable cut m e listed =
    absurd (false≢true (sym (other_code _ refl m e) ∙ listed))
part_bears kind mid tag observe asked token body (Some part) small short usable cut m e listed =
    bears_part kind mid tag observe asked
    (record { token = token; number = number_of asked; szx = szx_of asked }) body part small
    short
    (parts.0) (part-fits body asked part usable cut) (parts.1) (parts.2) m e listed
  where
    Fitting : Option Block → List ℕ × Bool → Type 0
    Fitting a p =
        IsUsable (answered_block a p.1)
        × IsBlockOf (answered_block a p.1) body p.0
        × IsAsked (number_of a) (szx_of a) (answered_block a p.1) body

    whole : (b : Bool) (piece : List ℕ)
        → block_of body 0 6 ≡ Some (piece, b)
        → Fitting None (piece, b)
    whole true piece h = (omega arith, h, (refl, refl))
    whole false piece h = let all = block_of_whole body 6 piece h in (tt, all.0, (refl, all.1))

    by : (a : Option Block)
        → IsUsable a
        → block_of body (number_of a) (szx_of a) ≡ Some part
        → Fitting a part
    by None u h = whole part.1 part.0 h
    by (Some b) u h = (u, h, (refl, refl))

    parts : Fitting asked part
    parts = by asked usable cut

-- so does an answer with the block that is asked for, or with none
pub body_bears : (kind : Kind4) (mid : ℕ) (token tag : List ℕ) (observe : Option ℕ)
    (asked : Option Block) (body : List ℕ)
    → length token ≤ longest_token
    → length tag ≡ 8
    → IsUsable asked
    → IsBodyOf (record { token = token; number = number_of asked; szx = szx_of asked }) body tag
    (spelling (with_reply kind mid token (body_reply (Some tag) observe asked body)))
unfolding body_reply
body_bears kind mid token tag observe asked body small short usable =
    part_bears kind mid tag observe asked token body
    (block_of body (number_of asked) (szx_of asked)) small short usable refl

-- a notification bears the first block that its observer wants
pub notification_bears : (mid : ℕ) (tag : List ℕ) (observe : Option ℕ) (o : Observer)
    (body : List ℕ)
    → length o.token ≤ longest_token
    → length tag ≡ 8
    → o.szx < reserved_szx
    → IsBodyOf (wanted_by_observer o) body tag (spelling
    (with_reply Con mid o.token (body_reply (Some tag) observe (block_shown o body) body)))
unfolding body_reply spelling header_spelling
notification_bears mid tag observe o body small short usable
    = by (is_long (first_block o) body) refl
  where
    by : (b : Bool)
        → is_long (first_block o) body ≡ b
        → IsBodyOf (wanted_by_observer o) body tag (spelling (with_reply Con mid o.token
        (body_reply (Some tag) observe (cond b (first_block o) None) body)))
    by true long = body_bears Con mid o.token tag observe (first_block o) body small short usable
    by false fits = part (block_of body 0 6) refl
      where
        low : length body ≤ block_size o.szx
        low = ltb-false (block_size o.szx) (length body) fits

        most : length body ≤ block_size 6
        most = let size = block_size-most o.szx usable in omega (arith, low, size)

        whole : (b : Bool) (piece : List ℕ) → block_of body 0 6 ≡ Some (piece, b) → b ≡ false
            → IsUsable (answered_block None b)
            × IsBlockOf (answered_block None b) body piece
            × IsAsked 0 o.szx (answered_block None b) body
        whole true piece cut none = absurd (false≢true (sym none))
        whole false piece cut none = (tt, (block_of_whole body 6 piece cut).0, (refl, low))

        part : (p : Option (List ℕ × Bool))
            → block_of body 0 6 ≡ p
            → IsBodyOf (wanted_by_observer o) body tag
            (spelling (with_reply Con mid o.token (part_reply (Some tag) observe None p)))
        part None cut = λ m e listed. absurd (false≢true (sym (other_code _ refl m e) ∙ listed))
        part (Some p) cut =
            let parts = whole p.1 p.0 cut (block_of_short body 6 most p cut) in
            bears_part Con mid tag observe None (wanted_by_observer o) body p small short parts.0
            (part-fits body None p tt cut) parts.1 parts.2

-- whatever body a datagram is read to have, it has no tag
abbrev pub IsUntagged : List ℕ → Type 0
IsUntagged octets =
    (m : Message) → reading octets ≡ Ok m → is_content m ≡ true → is_tagged m ≡ false

-- an answer with a body and no tag
pub body_untagged : (kind : Kind4) (mid : ℕ) (token : List ℕ) (observe : Option ℕ)
    (asked : Option Block) (body : List ℕ)
    → length token ≤ longest_token
    → IsUntagged (spelling (with_reply kind mid token (body_reply None observe asked body)))
unfolding body_reply spelling header_spelling
body_untagged kind mid token observe asked body small =
    by (block_of body (number_of asked) (szx_of asked))
  where
    by : (part : Option (List ℕ × Bool))
        → IsUntagged (spelling (with_reply kind mid token (part_reply None observe asked part)))
    by None m e content = absurd (false≢true (sym (other_code _ refl m e) ∙ content))
    by (Some part) m e content =
        subst (λ (n : Message). is_tagged n ≡ false)
        (same_message _ m _ (part_again kind mid token None observe asked part small tt) e)
        (rw (untagged kind mid token observe asked part) refl)

-- a body that is found, under its tag, as the headline has it
pub bears_carries : (wanted : Wanted) (sought : Sought) (history : List Entry) (moment : ℕ)
    (whole : List ℕ) (m : Message)
    → seeking.body sought history moment ≡ Some whole
    → Bears wanted whole (tag history moment) m
    → Carries m (asking wanted sought) history moment
bears_carries wanted sought history moment whole m found b =
    record { whole = whole; found = found; block = b.block; tag = b.tagged }
