use Rattle.std.proofs.Common.{◌≡◌, true, Some, sym, ap, ◌∙◌, subst}
use Rattle.std.specs.Prelude.{find}
use Rattle.std.specs.Option.{option_copied}
use Rattle.history_model.specs.Leases.{is_live_at}
use Rattle.history_model.specs.Replay.{is_live_named, numbered}
use Rattle.history_model.specs.Versions.{Version}
use Rattle.directory_core.specs.NameSlots.{hash_of, numbers_of_hash, first_live_named}
use Rattle.directory_core.specs.Shown.{IsStored, IsKept}
use Rattle.directory_core.proofs.ChangeLaws.{known_of}
use Rattle.directory_core.proofs.SlotLaws.{first-slots}
use Rattle.directory_core.proofs.FitLaws.{named_found, some_so}
use Rattle.directory_core.proofs.directory.Directory.live_named.Goals as goal

pub returns-clause-value : goal.returns-clause-value
returns-clause-value c =
    let v = c.args.self.now in
    let i = c.self.inside in
    let name = c.args.name.now in
    let now = c.args.now.0 in
    let kept : IsKept v i.names i.leases i.live i.text =
    subst (λ w. IsKept w i.names i.leases i.live i.text) c.self.view_is c.self.invariant.0 in
    c.first_of_name.ensures
    ∙ ap (λ rs. first_live_named rs name now c.under.result)
    (ap (λ (w : Version). w.records) c.self.view_is)
    ∙ ap (first_live_named v.records name now)
    (c.under.ensures ∙ ap (numbers_of_hash (hash_of name)) kept.named)
    ∙ first-slots v.records name now kept.rising

pub returns-clause-stored : goal.returns-clause-stored
returns-clause-stored c =
    let v = c.args.self.now in
    let i = c.self.inside in
    let kept : IsKept v i.names i.leases i.live i.text =
    subst (λ w. IsKept w i.names i.leases i.live i.text) c.self.view_is c.self.invariant.0 in
    let value :
    option_copied c.first_of_name.result
    ≡ find (is_live_named c.args.name.now c.args.now.0) v.records =
    returns-clause-value c in
    some_so c.first_of_name.result (λ r. numbered r.number v.records ≡ Some r)
    (λ r found.
    (named_found c.args.name.now c.args.now.0 r v.records kept.rising
    (sym value ∙ found)).0)

pub returns-clause-live : goal.returns-clause-live
returns-clause-live c =
    let v = c.args.self.now in
    let i = c.self.inside in
    let kept : IsKept v i.names i.leases i.live i.text =
    subst (λ w. IsKept w i.names i.leases i.live i.text) c.self.view_is c.self.invariant.0 in
    let value :
    option_copied c.first_of_name.result
    ≡ find (is_live_named c.args.name.now c.args.now.0) v.records =
    returns-clause-value c in
    some_so c.first_of_name.result (λ r. is_live_at c.args.now.0 r ≡ true)
    (λ r found.
    (named_found c.args.name.now c.args.now.0 r v.records kept.rising
    (sym value ∙ found)).1)

pub returns-clause-named : goal.returns-clause-named
returns-clause-named c =
    let v = c.args.self.now in
    let i = c.self.inside in
    let kept : IsKept v i.names i.leases i.live i.text =
    subst (λ w. IsKept w i.names i.leases i.live i.text) c.self.view_is c.self.invariant.0 in
    let value :
    option_copied c.first_of_name.result
    ≡ find (is_live_named c.args.name.now c.args.now.0) v.records =
    returns-clause-value c in
    some_so c.first_of_name.result (λ r. r.name ≡ c.args.name.now)
    (λ r found.
    (named_found c.args.name.now c.args.now.0 r v.records kept.rising
    (sym value ∙ found)).2)

pub returns-clause-sound : goal.returns-clause-sound
returns-clause-sound c =
    let v = c.args.self.now in
    let i = c.self.inside in
    let kept : IsKept v i.names i.leases i.live i.text =
    subst (λ w. IsKept w i.names i.leases i.live i.text) c.self.view_is c.self.invariant.0 in
    let value :
    option_copied c.first_of_name.result
    ≡ find (is_live_named c.args.name.now c.args.now.0) v.records =
    returns-clause-value c in
    some_so c.first_of_name.result (λ r. IsStored v r)
    (λ r found.
    known_of (IsStored v) r.number r v.records kept.stored
    (named_found c.args.name.now c.args.now.0 r v.records kept.rising
    (sym value ∙ found)).0)
