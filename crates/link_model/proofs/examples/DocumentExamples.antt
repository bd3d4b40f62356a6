-- Link documents that are read, and where others fail, computed.
use Rattle.std.proofs.Common.{◌≡◌, ℕ, List, [], ◌∷◌, ◌++◌, Some, None, option_map, map, refl, codes}
use Rattle.link_model.specs.Documents.{Link, Parameter}
use Rattle.link_model.specs.DocumentReading.{document, good_prefix}
use Rattle.link_model.specs.Quoting.{value_of, quoted, anchor}
use Rattle.link_model.proofs.OnLiterals.{document_on_literals}

-- a parameter with a value, and one without
abbrev with_value : List ℕ → List ℕ → Parameter
with_value name value = record { name = name; value = Some value }

abbrev without_value : List ℕ → Parameter
without_value name = record { name = name; value = None }

-- a link of these parts
abbrev a_link : List ℕ → List Parameter → Link
a_link target parameters = record { target = target; parameters = parameters }

-- the text is refused, and its first n octets are the longest prefix that begins a document
abbrev DocumentFailsAt : List ℕ → ℕ → Type 0
DocumentFailsAt text n = (document text ≡ None) × (good_prefix text ≡ n)

empty : document [] ≡ Some []
unfolding document_on_literals
empty = refl

two_links :
    document (codes "</temp>;rt=\"temperature\";ct=0,</light>;rt=\"light-lux\";if=\"sensor\"")
    ≡ Some (
    a_link (codes "/temp") (with_value (codes "rt") (codes "\"temperature\"")
    ∷ with_value (codes "ct") (codes "0")
    ∷ [])
    ∷
    a_link (codes "/light") (with_value (codes "rt") (codes "\"light-lux\"")
    ∷ with_value (codes "if") (codes "\"sensor\"")
    ∷ [])
    ∷ [])
unfolding document_on_literals
two_links = refl

commas_inside : document (codes "<a,;b>;t=\"x,<y>;z\",<>;obs") ≡ Some (
    a_link (codes "a,;b") (with_value (codes "t") (codes "\"x,<y>;z\"") ∷ []) ∷
    a_link [] (without_value (codes "obs") ∷ []) ∷ [])
unfolding document_on_literals
commas_inside = refl

asterisk_and_token : document (codes "<a>;title*=UTF-8''x;a=b=<c>") ≡ Some (
    a_link (codes "a") (with_value (codes "title*") (codes "UTF-8''x")
    ∷ with_value (codes "a") (codes "b=<c>")
    ∷ [])
    ∷ [])
unfolding document_on_literals
asterisk_and_token = refl

escapes :
    option_map (map (λ (l : Link). map value_of l.parameters)) (document (codes "<a>;t=\"x\\\"y\""))
    ≡ Some ((codes "x\"y" ∷ []) ∷ [])
unfolding document_on_literals
escapes = refl

quotes_again : quoted (codes "x\"y\\") ≡ codes "\"x\\\"y\\\\\""
unfolding document_on_literals
quotes_again = refl

past_ascii :
    option_map (map (λ (l : Link). map value_of l.parameters))
    (document (codes "<a>;t=\"" ++ (0xC2 ∷ 0xB0 ∷ codes "\\" ++ (0xC3 ∷ 0xA9 ∷ codes "\""))))
    ≡ Some (((0xC2 ∷ 0xB0 ∷ 0xC3 ∷ 0xA9 ∷ []) ∷ []) ∷ [])
unfolding document_on_literals
past_ascii = refl

anchors :
    option_map (map anchor) (document (codes "<x>;anchor=\"\",<y>;anchor;anchor=z,<z>;anchor*=x"))
    ≡ Some (Some [] ∷ Some [] ∷ None ∷ [])
unfolding document_on_literals
anchors = refl

comma_alone : DocumentFailsAt (codes ",") 0
unfolding document_on_literals
comma_alone = (refl, refl)

comma_at_end : DocumentFailsAt (codes "<a>,") 4
unfolding document_on_literals
comma_at_end = (refl, refl)

space_before_comma : DocumentFailsAt (codes "<a> ,<b>") 3
unfolding document_on_literals
space_before_comma = (refl, refl)

space_after_comma : DocumentFailsAt (codes "<a>, <b>") 4
unfolding document_on_literals
space_after_comma = (refl, refl)

space_after_semicolon : DocumentFailsAt (codes "<a>; t=b") 4
unfolding document_on_literals
space_after_semicolon = (refl, refl)

space_at_equals_sign : DocumentFailsAt (codes "<a>;t =b") 5
unfolding document_on_literals
space_at_equals_sign = (refl, refl)

semicolon_at_end : DocumentFailsAt (codes "<t>;") 4
unfolding document_on_literals
semicolon_at_end = (refl, refl)

no_name : DocumentFailsAt (codes "<a>;=x") 4
unfolding document_on_literals
no_name = (refl, refl)

no_value : DocumentFailsAt (codes "<a>;t=") 6
unfolding document_on_literals
no_value = (refl, refl)

asterisk_alone : DocumentFailsAt (codes "<a>;*") 4
unfolding document_on_literals
asterisk_alone = (refl, refl)

asterisk_inside : DocumentFailsAt (codes "<a>;t*u=x") 6
unfolding document_on_literals
asterisk_inside = (refl, refl)

unclosed_quotes : DocumentFailsAt (codes "<a>;t=\"") 7
unfolding document_on_literals
unclosed_quotes = (refl, refl)

backslash_before_quote : DocumentFailsAt (codes "<a>;t=\"x\\\"") 10
unfolding document_on_literals
backslash_before_quote = (refl, refl)

text_after_quotes : DocumentFailsAt (codes "<a>;t=\"x\"y") 9
unfolding document_on_literals
text_after_quotes = (refl, refl)

control_in_quotes : DocumentFailsAt (codes "<a>;t=\"" ++ (9 ∷ codes "\"")) 7
unfolding document_on_literals
control_in_quotes = (refl, refl)

escaped_control : DocumentFailsAt (codes "<a>;t=\"\\" ++ (0x7F ∷ codes "\"")) 8
unfolding document_on_literals
escaped_control = (refl, refl)

past_ascii_in_target : DocumentFailsAt (codes "<" ++ (0xC3 ∷ 0xA9 ∷ codes ">")) 1
unfolding document_on_literals
past_ascii_in_target = (refl, refl)

past_ascii_in_token : DocumentFailsAt (codes "<a>;t=" ++ (0xC3 ∷ 0xA9 ∷ [])) 6
unfolding document_on_literals
past_ascii_in_token = (refl, refl)

cut_character : DocumentFailsAt (codes "<a>;t=\"" ++ (0xE2 ∷ 0x82 ∷ [])) 9
unfolding document_on_literals
cut_character = (refl, refl)

broken_character : DocumentFailsAt (codes "<a>;t=\"" ++ (0xE2 ∷ 0x82 ∷ codes "\"")) 9
unfolding document_on_literals
broken_character = (refl, refl)

no_character : DocumentFailsAt (codes "<a>;t=\"" ++ (0x80 ∷ codes "\"")) 7
unfolding document_on_literals
no_character = (refl, refl)

surrogate : DocumentFailsAt (codes "<a>;t=\"" ++ (0xED ∷ 0xA0 ∷ 0x80 ∷ codes "\"")) 8
unfolding document_on_literals
surrogate = (refl, refl)

unclosed_target : DocumentFailsAt (codes "<<<<<<<<<<<<<<<<") 16
unfolding document_on_literals
unclosed_target = (refl, refl)
