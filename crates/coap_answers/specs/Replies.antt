-- What a reply of the code says (RFC 7252 section 5.2).
use Rattle.std.specs.Prelude.{
  ◌≡◌,
  ℕ,
  ◌≤◌,
  ◌<◌,
  ◌^◌,
  Bool,
  true,
  false,
  List,
  [],
  ◌∷◌,
  ◌++◌,
  length,
  Option,
  Some,
  None,
}
use Rattle.std.specs.Option.{ForSome}
use Rattle.message_model.specs.Codes.{empty, is_reserved}
use Rattle.message_model.specs.declared.blocks.Block.{Block}
use Rattle.message_model.specs.Message.{Opt}
use Rattle.message_model.specs.Numbers.{uint_bytes}
use Rattle.message_model.specs.OptionTable as table
use Rattle.message_model.specs.Blocks.{IsBlock}
use Rattle.message_model.specs.Refusals.{link_format}
use Rattle.rd_base.specs.declared.tags.Tag.{Tag}
use Rattle.journal_model.specs.Effects as effects
use Rattle.journal_model.specs.Bodies.{tag_option, observe_option, block2_option}
use Rattle.journal_model.specs.Changes.{location_options}
use Rattle.journal_model.specs.Registrations.{block1_option}
use Rattle.coap_answers.specs.declared.replies.Reply.{Reply}

-- Returns the octets of an entity tag, if there is one.
abbrev pub tag_octets : Option Tag → Option (List ℕ)
tag_octets None = None
tag_octets (Some tag) = Some tag.0

-- Returns the options with the location of a registration, if there is one.
abbrev pub location_option : Option ℕ → List Opt
location_option None = []
location_option (Some number) = location_options number

-- Returns the option that names the format of link documents, if the reply names it.
abbrev pub format_option : Bool → List Opt
format_option true = (table.content_format, uint_bytes link_format) ∷ []
format_option false = []

-- Returns the option with the block of the answered request, if there is one.
abbrev pub block1_options : Option Block → List Opt
block1_options None = []
block1_options (Some b) = block1_option b

-- Returns the options of a reply, in ascending order of their numbers.
abbrev pub options_of : Reply → List Opt
options_of r =
    tag_option (tag_octets r.tag) ++ (observe_option r.observe ++ (location_option r.location
    ++ (format_option r.format ++ (block2_option r.block2 ++ block1_options r.block1))))

-- Returns what the reply says.
abbrev pub reply_said : Reply → effects.Reply
reply_said r = record { code = r.code; options = options_of r; payload = r.payload.now }

-- A reply of a directory. Its Observe value and its blocks have encodings, and its payload is at
-- most one block (RFC 7641 section 3.4, RFC 7959 section 2.2).
pub record IsReply (r : Reply) : Type 0 where
  pub class : is_reserved r.code ≡ false
  pub filled : empty < r.code
  pub observe : ForSome r.observe (λ value. value < 2 ^ 24)
  pub block2 : ForSome r.block2 IsBlock
  pub block1 : ForSome r.block1 IsBlock
  pub payload : length r.payload.now ≤ 1_024
