-- What requests are about, by their path.
use Rattle.std.proofs.Common.{
  ◌≡◌,
  ℕ,
  Bool,
  true,
  false,
  ◌==◌,
  Option,
  Some,
  None,
  refl,
  ap,
  sym,
  subst,
  ◌∙◌,
  arith,
}
use Rattle.std.specs.Prelude.{if◌then◌else◌}
use Rattle.std.proofs.lemmas.Bool.Decides.{nat_tests}
use Rattle.rd_base.specs.declared.queries.Kind.{Kind}
use Rattle.rd_base.specs.declared.queries.Kind.TheVariants as kind
use Rattle.message_model.specs.declared.requests.Path.{Path}
use Rattle.message_model.specs.declared.requests.Path.TheVariants as path
use Rattle.message_model.specs.declared.requests.Refusal.{Refusal}
use Rattle.message_model.specs.declared.requests.Refusal.TheVariants as refusal
use Rattle.message_model.specs.Message.{Message}
use Rattle.message_model.specs.OptionTable.{first_bad_option}
use Rattle.message_model.specs.Refusals.{
  is_nowhere,
  refusal_of,
  refusal_after_options,
  option_refusal_or,
}
use Rattle.message_model.specs.Request.{path_in, has_proxy}
use Rattle.journal_model.specs.Requests.{refusal_of_request, refusal_or_next, is_lookup, kind_of}
use Rattle.rd_request.specs.declared.accepted.Request.{Request}
use Rattle.rd_request.specs.declared.resources.Resource.{Resource}
use Rattle.rd_request.specs.declared.resources.Resource.TheVariants as resource
use Rattle.rd_request.specs.Accepted.{message_of}
use Rattle.rd_request.specs.Resources.{resource_at, is_at, kind_at}

-- a path that names nothing is refused
names_none : (p : Path) → resource_at p ≡ None → is_nowhere p ≡ true
names_none path.Core e = cc
names_none path.SimpleRd e = cc
names_none path.Rd e = cc
names_none (path.Location number) e = cc
names_none path.Res e = cc
names_none path.Ep e = cc
names_none path.Other e = refl

pub named : (m : Message) → resource_at (path_in m) ≡ None → refusal_of_request m ≡ None → ⊥
unfolding refusal_of_request refusal_of refusal_after_options
named m none fine =
    by (first_bad_option m.options) (has_proxy m) (is_nowhere (path_in m)) _
    (names_none (path_in m) none) fine
  where
    by : (bad : Option ℕ) (proxy nowhere : Bool) (later : Option Refusal) → nowhere ≡ true
        → refusal_or_next (option_refusal_or bad
        (if proxy then Some refusal.Proxy else if nowhere then Some refusal.Path else
        later)) m
        ≡ None
        → ⊥
    by (Some number) proxy nowhere later e h = cc
    by None true nowhere later e h = cc
    by None false true later e h = cc
    by None false false later e h = cc

-- the paths of each resource

pub core_at : (p : Path) → is_at resource.Core p ≡ true → p ≡ path.Core
core_at path.Core h = refl
core_at _ h = cc

pub simple_at : (p : Path) → is_at resource.SimpleRegistration p ≡ true → p ≡ path.SimpleRd
simple_at path.SimpleRd h = refl
simple_at _ h = cc

pub registration_at : (p : Path) → is_at resource.Registration p ≡ true → p ≡ path.Rd
registration_at path.Rd h = refl
registration_at _ h = cc

pub location_at : (number : ℕ) (p : Path)
    → is_at (resource.Location number) p ≡ true
    → p ≡ path.Location number
location_at number (path.Location other) h =
    ap (λ (n : ℕ). path.Location n) (sym (same number other h))
  where
    same : (a b : ℕ) → (a == b) ≡ true → a ≡ b
    same a b h = grind (arith, nat_tests)
location_at number _ h = cc

pub links_at : (p : Path) → is_at (resource.Lookup kind.Resource) p ≡ true → p ≡ path.Res
links_at path.Res h = refl
links_at _ h = cc

pub endpoints_at : (p : Path) → is_at (resource.Lookup kind.Endpoint) p ≡ true → p ≡ path.Ep
endpoints_at path.Ep h = refl
endpoints_at _ h = cc

nothing_at : (p : Path) → is_at (resource.Lookup kind.Discovery) p ≡ true → ⊥
nothing_at p h = cc

-- the kind of what is looked up
pub kind_there : (r : Resource) (p : Path) → is_at r p ≡ true → kind_at r ≡ kind_of p
kind_there resource.Core p h = ap kind_of (sym (core_at p h))
kind_there resource.SimpleRegistration p h = ap kind_of (sym (simple_at p h))
kind_there resource.Registration p h = ap kind_of (sym (registration_at p h))
kind_there (resource.Location number) p h = ap kind_of (sym (location_at number p h))
kind_there (resource.Lookup kind.Resource) p h = ap kind_of (sym (links_at p h))
kind_there (resource.Lookup kind.Endpoint) p h = ap kind_of (sym (endpoints_at p h))
kind_there (resource.Lookup kind.Discovery) p h = absurd (nothing_at p h)

-- ---- the path of a request, by what it is about

there : (request : Request) (r : Resource)
    → request.resource ≡ r
    → is_at r request.meaning.path ≡ true
there request r is = subst (λ (x : Resource). is_at x request.meaning.path ≡ true) is request.here

pub registration_path : (request : Request)
    → request.resource ≡ resource.Registration
    → path_in (message_of request) ≡ path.Rd
registration_path request is =
    sym request.meaning.path_said
    ∙ registration_at request.meaning.path (there request resource.Registration is)

pub simple_path : (request : Request)
    → request.resource ≡ resource.SimpleRegistration
    → path_in (message_of request) ≡ path.SimpleRd
simple_path request is =
    sym request.meaning.path_said
    ∙ simple_at request.meaning.path (there request resource.SimpleRegistration is)

pub location_path : (request : Request) (number : ℕ)
    → request.resource ≡ resource.Location number
    → path_in (message_of request) ≡ path.Location number
location_path request number is =
    sym request.meaning.path_said
    ∙ location_at number request.meaning.path (there request (resource.Location number) is)

pub core_path : (request : Request)
    → request.resource ≡ resource.Core
    → path_in (message_of request) ≡ path.Core
core_path request is =
    sym request.meaning.path_said
    ∙ core_at request.meaning.path (there request resource.Core is)

-- a path at which something is looked up
looked_up_at : (k : Kind) (p : Path) → is_at (resource.Lookup k) p ≡ true → is_lookup p ≡ true
looked_up_at kind.Resource p h = ap is_lookup (links_at p h)
looked_up_at kind.Endpoint p h = ap is_lookup (endpoints_at p h)
looked_up_at kind.Discovery p h = absurd (nothing_at p h)

pub lookup_path : (request : Request) (k : Kind)
    → request.resource ≡ resource.Lookup k
    → is_lookup (path_in (message_of request)) ≡ true
lookup_path request k is =
    ap is_lookup (sym request.meaning.path_said)
    ∙ looked_up_at k request.meaning.path (there request (resource.Lookup k) is)
