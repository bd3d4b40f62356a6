-- The text may be cut at the beginning of the path, and at a slash of it.
use Rattle.std.specs.String.{string_bytes}
use Rattle.std.proofs.lemmas.Str.{IsCharBoundary-from_take, IsUtf8-string_bytes}
use Rattle.ref_resolve.proofs.LastSlash.{cut_at_offset}
use Rattle.ref_resolve.proofs.dot_segments.drop_last_segment.Goals as goal

pub truncate-requires-in-None : goal.truncate-requires-in-None
truncate-requires-in-None c =
    let boundary =
    IsCharBoundary-from_take (string_bytes c.args.text.now) c.args.start
    (IsUtf8-string_bytes c.args.text.now) c.requires.within c.requires.utf8 in
    λ _. (c.requires.within, λ _. boundary.1)

pub returns-in-Some-clause-path : goal.returns-in-Some-clause-path
returns-in-Some-clause-path c =
    cut_at_offset (string_bytes c.args.text.now) c.as_bytes.result.now
    (string_bytes c.truncate.new.self) c.args.start c.in-Some.offset c.as_bytes.ensures.value
    c.in-Some.ensures.before c.truncate.ensures.bytes
