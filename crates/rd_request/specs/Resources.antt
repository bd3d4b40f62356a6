-- The resources that requests are about.
use Rattle.std.specs.Prelude.{Bool, true, false, ◌==◌, Option, Some, None}
use Rattle.rd_base.specs.declared.queries.Kind.{Kind}
use Rattle.rd_base.specs.declared.queries.Kind.TheVariants as kind
use Rattle.message_model.specs.declared.requests.Path.{Path}
use Rattle.message_model.specs.declared.requests.Path.TheVariants as path
use Rattle.rd_request.specs.declared.resources.Resource.{Resource}
use Rattle.rd_request.specs.declared.resources.Resource.TheVariants as resource

-- Returns the resource that a path names, if it names one (RFC 9176 sections 4.3, 5 and 6).
abbrev pub resource_at : Path → Option Resource
resource_at path.Core = Some resource.Core
resource_at path.SimpleRd = Some resource.SimpleRegistration
resource_at path.Rd = Some resource.Registration
resource_at (path.Location number) = Some (resource.Location number)
resource_at path.Res = Some (resource.Lookup kind.Resource)
resource_at path.Ep = Some (resource.Lookup kind.Endpoint)
resource_at path.Other = None

-- Returns whether the path names this resource.
abbrev pub is_at : Resource → Path → Bool
is_at resource.Core path.Core = true
is_at resource.SimpleRegistration path.SimpleRd = true
is_at resource.Registration path.Rd = true
is_at (resource.Location number) (path.Location other) = number == other
is_at (resource.Lookup kind.Resource) path.Res = true
is_at (resource.Lookup kind.Endpoint) path.Ep = true
is_at _ _ = false

-- Returns the kind of what a lookup at a resource seeks. A resource without lookups has that of a
-- discovery.
abbrev pub kind_at : Resource → Kind
kind_at resource.Core = kind.Discovery
kind_at resource.SimpleRegistration = kind.Discovery
kind_at resource.Registration = kind.Discovery
kind_at (resource.Location number) = kind.Discovery
kind_at (resource.Lookup what) = what
