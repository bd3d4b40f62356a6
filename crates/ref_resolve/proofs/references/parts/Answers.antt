-- What is read of a text, and where its fault is.
use Rattle.std.proofs.Common.{sym, ap, ◌∙◌}
use Rattle.reference_model.proofs.ReferenceFaultLaws.{reference_fault_at-IsReferenceFault}
use Rattle.ref_resolve.specs.ComponentsOfParts.{components_of}
use Rattle.ref_resolve.proofs.AllowedComponents.{
  read_reference,
  read_alone,
  not_read,
  offset_of_fault,
  size_taken_apart,
}
use Rattle.ref_resolve.specs.ComponentFaults.{have_no_fault}
use Rattle.ref_resolve.proofs.PlainPaths.{path_alone}
use Rattle.ref_resolve.proofs.references.parts.Goals as goal

pub returns-then-is_path_alone-clause-found : goal.returns-then-is_path_alone-clause-found
returns-then-is_path_alone-clause-found c =
    let alone =
    path_alone c.args.text.now (sym c.is_path_alone.ensures ∙ c.if-is_path_alone.true) in
    read_reference c.args.text.now (components_of c.with_path_alone.result)
    (c.with_path_alone.ensures ∙ alone.0) (ap have_no_fault c.with_path_alone.ensures ∙ alone.1)

pub returns-then-is_path_alone-clause-only : goal.returns-then-is_path_alone-clause-only
returns-then-is_path_alone-clause-only c =
    let alone =
    path_alone c.args.text.now (sym c.is_path_alone.ensures ∙ c.if-is_path_alone.true) in
    λ d r.
    read_alone c.args.text.now (components_of c.with_path_alone.result) d
    (c.with_path_alone.ensures ∙ alone.0) r

pub fault_of-requires : goal.fault_of-requires
fault_of-requires c =
    size_taken_apart c.args.text.now (components_of c.apart-parts.result) c.apart-parts.ensures

pub returns-in-None-clause-found : goal.returns-in-None-clause-found
returns-in-None-clause-found c =
    read_reference c.args.text.now (components_of c.apart-parts.result) c.apart-parts.ensures
    c.in-None.ensures

pub returns-in-None-clause-only : goal.returns-in-None-clause-only
returns-in-None-clause-only c =
    λ d r. read_alone c.args.text.now (components_of c.apart-parts.result) d c.apart-parts.ensures r

pub returns-in-Some-clause-only : goal.returns-in-Some-clause-only
returns-in-Some-clause-only c =
    λ d r.
    not_read c.args.text.now (components_of c.apart-parts.result) d c.apart-parts.ensures
    (c.in-Some.ensures.0) r

pub returns-in-Some-clause-exact : goal.returns-in-Some-clause-exact
returns-in-Some-clause-exact c =
    offset_of_fault c.args.text.now (components_of c.apart-parts.result) c.in-Some.at
    c.apart-parts.ensures (c.in-Some.ensures.0) (c.in-Some.ensures.1)

pub returns-in-Some-clause-offset : goal.returns-in-Some-clause-offset
returns-in-Some-clause-offset c =
    reference_fault_at-IsReferenceFault c.args.text.now c.in-Some.at
    (returns-in-Some-clause-exact c)
