-- What an example unfolds, so that link documents compute on octets that are written out.
use Rattle.std.specs.Prelude.{⊤}
use Rattle.std.specs.Char.{encode_utf8}
use Rattle.std.specs.Str.{chars, is_utf8}
use Rattle.link_model.specs.Utf8Prefix.{tails_of, utf8_prefix_after}
use Rattle.link_model.specs.Documents.{document_text}
use Rattle.link_model.specs.DocumentReading.{
  point_after,
  with_octet,
  links_at_end,
  links_from,
  document,
  prefix_from,
  good_prefix,
}
use Rattle.link_model.specs.Quoting.{unquoted, quoted, submitted_link, submitted_links}

-- the definitions of documents and quoted text
unfoldable pub document_on_literals : ⊤
unfolding chars encode_utf8 is_utf8 tails_of utf8_prefix_after document_text point_after with_octet
    links_at_end links_from document prefix_from good_prefix unquoted quoted submitted_link
    submitted_links
document_on_literals = tt
