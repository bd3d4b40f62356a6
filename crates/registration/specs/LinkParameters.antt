-- The result of reading some of the parameters of a link (RFC 6690 sections 2 and 3).
use Rattle.std.specs.Prelude.{
  ◌≡◌,
  ℕ,
  ◌+◌,
  List,
  [],
  ◌∷◌,
  ◌++◌,
  length,
  map,
  filter,
  not,
  Option,
  Some,
  None,
}
use Rattle.rd_base.specs.Drafted.{Drafted}
use Rattle.rd_base.specs.declared.records.Item.{Item}
use Rattle.record_model.specs.BodyFaults.{TextAtOffset, shifted, anchor_offset}
use Rattle.link_model.specs.Documents.{Parameter, parameters_text}
use Rattle.link_model.specs.Quoting.{is_anchor, pair_of}
use Rattle.registration.specs.declared.link_parameters.Anchor.{Anchor}
use Rattle.registration.specs.declared.link_parameters.Gathered.{Gathered}

-- Returns the parameters that are no anchors.
abbrev pub without_anchors : List Parameter → List Parameter
without_anchors parameters = filter (λ p. not (is_anchor p)) parameters

-- Returns an anchor with its offset, if there is one.
abbrev pub anchor_at_offset : Option Anchor → List TextAtOffset
anchor_at_offset None = []
anchor_at_offset (Some anchor) = (anchor.offset, anchor.text) ∷ []

-- Returns the known anchor, or else the first of the parameters that are left, which begin at this
-- octet.
abbrev pub anchor_from : Option Anchor → ℕ → List Parameter → List TextAtOffset
anchor_from (Some anchor) start rest = anchor_at_offset (Some anchor)
anchor_from None start rest = shifted start (anchor_offset rest)

-- States that the next link has no attribute yet.
abbrev pub WaitsForNone : Drafted → Type 0
WaitsForNone d = (d.raw ≡ []) × (d.pairs ≡ [])

-- States that `g` is the result of reading all parameters except those that are left. `before` is
-- the links before, and `start` is the offset in octets at which the first of all parameters
-- begins.
pub record IsGathered (before : List Item) (start : ℕ) (all rest : List Parameter) (g : Gathered) :
    Type 0 where
  pub links : g.builder.links ≡ before
  pub anchor : anchor_from g.anchor g.end rest ≡ shifted start (anchor_offset all)
  pub raw :
      g.builder.raw ++ parameters_text (without_anchors rest)
      ≡ parameters_text (without_anchors all)
  pub pairs :
      g.builder.pairs ++ map pair_of (without_anchors rest) ≡ map pair_of (without_anchors all)
  pub end : g.end + length (parameters_text rest) ≡ start + length (parameters_text all)
