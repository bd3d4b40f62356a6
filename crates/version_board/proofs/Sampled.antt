-- The registration that the tests make: its parameters are allowed, its body without octets has no
-- links, and its entry is one of its draft.
use Rattle.std.proofs.Common.{◌≡◌, [], Some, Option, refl, ap, sym, ◌∙◌, arith}
use Rattle.std.specs.Prelude.{option_map}
use Rattle.rd_base.specs.declared.moments.Moment.{Moment}
use Rattle.record_model.specs.AllowedParameters.{AreAllowed}
use Rattle.record_model.specs.Bodies.{linked_references}
use Rattle.record_model.proofs.RecordLiterals.{record_on_literals}
use Rattle.registration.specs.declared.drafts.Draft.{Draft}
use Rattle.registration.specs.Drafts.{drafted}
use Rattle.directory_core.specs.Changes.{IsRegistrationOf}
use Rattle.version_board.specs.Samples.{sample_peer, sample_params, sample_entry}

-- its parameters are allowed
pub sample_allowed : AreAllowed sample_params
unfolding record_on_literals
sample_allowed = record {
  ep = record { filled = omega arith; short = omega arith; printable = refl };
  sector = tt;
  lt = record { lasting = omega arith; small = omega arith };
  base = tt;
  global = tt;
  attrs = tt;
}

-- its body has no links
pub no_links : linked_references [] ≡ Some []
unfolding record_on_literals
no_links = refl

-- what two equal options hold is equal
some_same : {A : Type 0} (x y : A) → Some x ≡ Some y → x ≡ y
some_same x y e = cc

-- what its body is built into is its draft
pub sample_made : (draft : Draft)
    → option_map (drafted sample_peer sample_params) (linked_references []) ≡ Some draft
    → draft ≡ drafted sample_peer sample_params []
sample_made draft e =
    let made : Option Draft = Some (drafted sample_peer sample_params []) in
    let found : made ≡ Some draft =
    sym (ap (option_map (drafted sample_peer sample_params)) no_links) ∙ e in
    sym (some_same (drafted sample_peer sample_params []) draft found)

-- its draft becomes its entry
pub sample_registers : (now : Moment) (draft : Draft)
    → draft ≡ drafted sample_peer sample_params []
    → IsRegistrationOf now draft (sample_entry now.0)
sample_registers now draft made = record {
  params = sample_params;
  links = [];
  moment = refl;
  change = refl;
  made = made;
}
