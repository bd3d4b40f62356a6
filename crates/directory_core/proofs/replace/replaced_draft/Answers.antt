use Rattle.std.proofs.Common.{ℕ, List, sym, ap, ◌∙◌, subst}
use Rattle.record_model.specs.Parameters.{is_base}
use Rattle.directory_core.specs.LinksAgainst.{AreAgainst}
use Rattle.directory_core.proofs.AgainstLaws.{against_made}
use Rattle.directory_core.proofs.replace.replaced_draft.Goals as goal

pub returns-clause-sound : goal.returns-clause-sound
returns-clause-sound c =
    let old = c.args.old.now in
    record {
      lasting = c.requires.lasting;
      references = c.in_ok-items.ensures.references;
      against =
          subst (λ (base : List ℕ). AreAgainst base c.in_ok-items.items)
          (sym c.in_ok-base.ensures.cases)
          (subst (AreAgainst old.base) (sym c.in_ok-items.ensures.items)
          (against_made old.base c.args.links.now));
      of_body = c.in_ok-items.ensures.of_body;
      base = ap (λ (base : List ℕ). is_base base) c.in_ok-base.ensures.cases ∙ c.requires.base;
    }
