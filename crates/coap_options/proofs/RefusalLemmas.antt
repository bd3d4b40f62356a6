-- The refusal of a request by the parts of its meaning.
use Rattle.std.proofs.Common.{
  ◌≡◌,
  ℕ,
  Bool,
  true,
  false,
  not,
  ◌||◌,
  List,
  length,
  Option,
  Some,
  None,
  Bor,
  refl,
  sym,
  ap,
  ◌∙◌,
}
use Rattle.std.specs.Prelude.{option_map, IsSome, is_some, is_none, if◌then◌else◌}
use Rattle.std.specs.Option.{ForSome}
use Rattle.message_model.specs.declared.blocks.Block.{Block}
use Rattle.message_model.specs.Blocks.{block_read}
use Rattle.message_model.specs.declared.requests.Path.{Path}
use Rattle.message_model.specs.declared.requests.Refusal.{Refusal}
use Rattle.message_model.specs.declared.requests.Refusal.TheVariants as refusal
use Rattle.message_model.specs.Message.{Message}
use Rattle.message_model.specs.OptionTable.{first_bad_option}
use Rattle.message_model.specs.Request.{
  path_in,
  accept_in,
  format_in,
  block1_in,
  block2_in,
  has_proxy,
  allowed,
}
use Rattle.message_model.specs.Refusals.{
  is_nowhere,
  says_no_block,
  refusal_after_options,
  option_refusal_or,
  refusal_of,
}
use Rattle.coap_options.specs.declared.meanings.Meaning.{Meaning}
use Rattle.coap_options.specs.Meanings.{IsMeaning, HasReadableBlocks}
use Rattle.coap_options.specs.PartRefusals.{brings_links, has_bad_block, refusal_of_parts}

parts_of_message : (m : Message)
    → refusal_of_parts m.code (path_in m) (has_proxy m) (block1_in m) (block2_in m) (accept_in m)
    (format_in m) (length m.payload)
    ≡ refusal_after_options m
unfolding refusal_of_parts refusal_after_options
parts_of_message m = refl

same_parts : (code code' : ℕ) (path path' : Path) (proxy proxy' : Bool)
    (block1 block1' block2 block2' : Option (List ℕ)) (accept accept' format format' : Option ℕ)
    (size size' : ℕ)
    → code ≡ code'
    → path ≡ path'
    → proxy ≡ proxy'
    → block1 ≡ block1'
    → block2 ≡ block2'
    → accept ≡ accept'
    → format ≡ format'
    → size ≡ size'
    → refusal_of_parts code path proxy block1 block2 accept format size
    ≡ refusal_of_parts code' path' proxy' block1' block2' accept' format' size'
same_parts code code' path path' proxy proxy' block1 block1' block2 block2' accept accept' format
    format' size size' e f g h i j k l =
    rw (e, f, g, h, i, j, k, l) refl

-- The first refusal but that of an option, by the parts of the meaning.
pub refusal_of_meaning : (m : Message) (meaning : Meaning)
    → IsMeaning m meaning
    → refusal_of_parts meaning.view.code meaning.path meaning.proxy
    (option_map (λ v. v.now) meaning.block1) (option_map (λ v. v.now) meaning.block2)
    meaning.accept meaning.format (length meaning.view.payload.now)
    ≡ refusal_after_options m
refusal_of_meaning m meaning is =
    same_parts _ _ _ _ _ _ _ _ _ _ _ _ _ _ _ _ (ap (λ (n : Message). n.code) is.view) is.path
    is.proxy is.block1 is.block2 is.accept is.format
    (ap (λ (n : Message). length n.payload) is.view)
    ∙ parts_of_message m

-- The refusal where each critical option is recognized, and where one is not.
pub refused_later : (m : Message) (meaning : Meaning) (later : Option Refusal)
    → first_bad_option m.options ≡ None
    → IsMeaning m meaning
    → later
    ≡ refusal_of_parts meaning.view.code meaning.path meaning.proxy
    (option_map (λ v. v.now) meaning.block1) (option_map (λ v. v.now) meaning.block2)
    meaning.accept meaning.format (length meaning.view.payload.now)
    → refusal_of m ≡ later
unfolding refusal_of
refused_later m meaning later good is e =
    ap (λ (o : Option ℕ). option_refusal_or o (refusal_after_options m)) good
    ∙ sym (e ∙ refusal_of_meaning m meaning is)

pub refused_option : (m : Message) (number : ℕ)
    → first_bad_option m.options ≡ Some number
    → refusal_of m ≡ Some (refusal.BadOption number)
unfolding refusal_of
refused_option m number bad =
    ap (λ (o : Option ℕ). option_refusal_or o (refusal_after_options m)) bad

-- ---- blocks that are not refused

block_good : (proxy nowhere method block : Bool) (later : Option Refusal)
    → (if proxy then Some refusal.Proxy else if nowhere then Some refusal.Path else if method then
    Some refusal.Method else if block then Some refusal.Block else later)
    ≡ None
    → block ≡ false
block_good true nowhere method block later h = cc
block_good false true method block later h = cc
block_good false false true block later h = cc
block_good false false false true later h = cc
block_good false false false false later h = refl

first_two : (a b c : Bool) → (a || b || c) ≡ false → (a ≡ false) × (b ≡ false)
first_two true b c h = cc
first_two false true c h = cc
first_two false false c h = (refl, refl)

is_readable : (value : Option (Bor (List ℕ)))
    → says_no_block (option_map (λ v. v.now) value) ≡ false
    → ForSome value (λ v. IsSome (block_read v.now))
is_readable None h x e = cc
is_readable (Some v) h x e = by_read (block_read v.now) refl h
  where
    by_read : (o : Option Block)
        → block_read v.now ≡ o
        → is_none o ≡ false
        → is_some (block_read x.now) ≡ true
    by_read None e' h = cc
    by_read (Some b) e' h = let same : v ≡ x = cc in rw (← same, e') refl

-- The blocks of a request that is not refused say blocks.
pub readable_blocks : (meaning : Meaning) (later : Option Refusal)
    → later
    ≡ refusal_of_parts meaning.view.code meaning.path meaning.proxy
    (option_map (λ v. v.now) meaning.block1) (option_map (λ v. v.now) meaning.block2)
    meaning.accept meaning.format (length meaning.view.payload.now)
    → later ≡ None → HasReadableBlocks meaning
unfolding refusal_of_parts
readable_blocks meaning later e none =
    let good =
    block_good meaning.proxy (is_nowhere meaning.path)
    (not (allowed meaning.path meaning.view.code))
    (has_bad_block (brings_links meaning.view.code meaning.path)
    (option_map (λ v. v.now) meaning.block1) (option_map (λ v. v.now) meaning.block2)
    (length meaning.view.payload.now)) _ (sym e ∙ none) in
    let both =
    first_two (says_no_block (option_map (λ v. v.now) meaning.block1))
    (says_no_block (option_map (λ v. v.now) meaning.block2)) _ good in
    record {
      block1 = is_readable meaning.block1 both.0;
      block2 = is_readable meaning.block2 both.1;
    }
