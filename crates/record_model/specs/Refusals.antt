-- The reasons why the body of a registration is refused (RFC 6690 section 2, RFC 9176 appendix C).
use Rattle.std.specs.Prelude.{
  ℕ,
  Bool,
  false,
  not,
  List,
  Option,
  Some,
  None,
  is_some,
  is_none,
  position,
}
use Rattle.rd_base.specs.declared.submitted_links.SubmittedLink.{SubmittedLink}
use Rattle.record_model.specs.Bodies.{linked_references, is_limited}

-- Returns the index of the first link that is not in the Limited Link Format, counted from 0.
unfoldable pub first_unlimited : List SubmittedLink → Option ℕ
first_unlimited links = position (λ link. not (is_limited link)) links

-- Returns whether the body is no document, or a target or an anchor in it is no URI-reference.
unfoldable pub is_refused_as_links : List ℕ → Bool
is_refused_as_links body = is_none (linked_references body)

-- Returns whether there are links, one of which is not in the Limited Link Format.
abbrev pub is_unlimited : Option (List SubmittedLink) → Bool
is_unlimited None = false
is_unlimited (Some links) = is_some (first_unlimited links)

-- Returns whether the links of the body are URI-references, and one of them is not in the Limited
-- Link Format.
unfoldable pub is_refused_as_limited : List ℕ → Bool
is_refused_as_limited body = is_unlimited (linked_references body)
