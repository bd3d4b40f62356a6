-- The bodies that a registration may have: documents of references in the Limited Link Format (RFC
-- 9176 appendix C).
use Rattle.std.specs.Prelude.{
  ℕ,
  Bool,
  false,
  not,
  ◌&&◌,
  ◌||◌,
  List,
  Option,
  Some,
  None,
  is_some,
  option_and_then,
  if◌then◌else◌,
}
use Rattle.std.specs.List.{list_all}
use Rattle.rd_base.specs.declared.submitted_links.SubmittedLink.{SubmittedLink}
use Rattle.reference_model.specs.References.{Components, reference, where_present, has_scheme}
use Rattle.link_model.specs.Quoting.{submitted_links}

-- Returns whether a text is a URI-reference.
abbrev pub is_reference : List ℕ → Bool
is_reference text = is_some (reference text)

-- Returns whether a text is a URI-reference with a scheme.
unfoldable pub is_uri : List ℕ → Bool
is_uri text = is_uri_where (reference text)
  where
    is_uri_where : Option Components → Bool
    is_uri_where None = false
    is_uri_where (Some c) = has_scheme c

-- Returns whether a link's target is a URI-reference, and its anchor too, if it has one.
abbrev pub has_references : SubmittedLink → Bool
has_references l = is_reference l.target_ref && where_present is_reference l.anchor_ref

-- Returns the links of a body whose targets and anchors are URI-references, or `None` if the body
-- is no document or has another target or anchor.
unfoldable pub linked_references : List ℕ → Option (List SubmittedLink)
linked_references body =
    option_and_then (λ links. if list_all has_references links then Some links else None)
    (submitted_links body)

-- Returns whether a link is limited: if its target has no scheme, its anchor has none either. This
-- is the only rule of the Limited Link Format that is checked.
abbrev pub is_limited : SubmittedLink → Bool
is_limited l = is_uri l.target_ref || where_present (λ anchor. not (is_uri anchor)) l.anchor_ref
