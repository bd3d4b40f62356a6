-- References that are taken apart, where others fail, and links that are resolved, computed.
use Rattle.std.proofs.Common.{◌≡◌, ℕ, List, [], ◌∷◌, ◌++◌, Some, None, option_map, refl, codes}
use Rattle.reference_model.specs.References.{reference, host}
use Rattle.reference_model.specs.ReferenceFaults.{reference_fault_at}
use Rattle.reference_model.specs.Resolution.{remove_dot_segments, resolved}
use Rattle.reference_model.proofs.OnLiterals.{reference_on_literals}

-- the text is refused, and this is the offset of its first fault
abbrev ReferenceFailsAt : List ℕ → ℕ → Type 0
ReferenceFailsAt text n = (reference text ≡ None) × (reference_fault_at text ≡ Some n)

-- the text is a reference
abbrev IsRead : List ℕ → Type 0
IsRead text = reference_fault_at text ≡ None

all_parts : reference (codes "coap://u:p@[2001:db8::1]:61616/a/b;c?d=e/?#f?") ≡ Some (record {
  scheme = Some (codes "coap");
  authority = Some (codes "u:p@[2001:db8::1]:61616");
  path = codes "/a/b;c";
  query = Some (codes "d=e/?");
  fragment = Some (codes "f?");
})
unfolding reference_on_literals
all_parts = refl

no_octets :
    reference []
    ≡ Some
    (record { scheme = None; authority = None; path = []; query = None; fragment = None })
unfolding reference_on_literals
no_octets = refl

empty_parts :
    reference (codes "s://?#")
    ≡ Some (record {
      scheme = Some (codes "s");
      authority = Some [];
      path = [];
      query = Some [];
      fragment = Some [];
    })
unfolding reference_on_literals
empty_parts = refl

a_host : option_map host (reference (codes "//u@[fe80::1]:1/x")) ≡ Some (Some (codes "[fe80::1]"))
unfolding reference_on_literals
a_host = refl

named_host :
    option_map host (reference (codes "//u:p@h.example:")) ≡ Some (Some (codes "h.example"))
unfolding reference_on_literals
named_host = refl

empty_host : option_map host (reference (codes "s:///x")) ≡ Some (Some [])
unfolding reference_on_literals
empty_host = refl

no_host : option_map host (reference (codes "s:x")) ≡ Some None
unfolding reference_on_literals
no_host = refl

colon_after_slash : IsRead (codes "./1a:b")
unfolding reference_on_literals
colon_after_slash = refl

colon_in_query : IsRead (codes "?a:b")
unfolding reference_on_literals
colon_in_query = refl

colon_in_user : IsRead (codes "//a:b:c@d")
unfolding reference_on_literals
colon_in_user = refl

no_scheme_before_colon : ReferenceFailsAt (codes "1a:b") 2
unfolding reference_on_literals
no_scheme_before_colon = (refl, refl)

nothing_before_colon : ReferenceFailsAt (codes ":b") 0
unfolding reference_on_literals
nothing_before_colon = (refl, refl)

percent_in_scheme : ReferenceFailsAt (codes "a%41:b") 4
unfolding reference_on_literals
percent_in_scheme = (refl, refl)

space_before_colon : ReferenceFailsAt (codes "a b:c") 1
unfolding reference_on_literals
space_before_colon = (refl, refl)

one_digit : ReferenceFailsAt (codes "a%4") 3
unfolding reference_on_literals
one_digit = (refl, refl)

one_digit_more_after : ReferenceFailsAt (codes "a%4/b") 3
unfolding reference_on_literals
one_digit_more_after = (refl, refl)

one_digit_in_query : ReferenceFailsAt (codes "a?%4g") 4
unfolding reference_on_literals
one_digit_in_query = (refl, refl)

percent_at_end : ReferenceFailsAt (codes "s://h%") 6
unfolding reference_on_literals
percent_at_end = (refl, refl)

unclosed_bracket : ReferenceFailsAt (codes "//[::1") 6
unfolding reference_on_literals
unclosed_bracket = (refl, refl)

unclosed_bracket_more_after : ReferenceFailsAt (codes "//[::1/x") 6
unfolding reference_on_literals
unclosed_bracket_more_after = (refl, refl)

nothing_in_brackets : ReferenceFailsAt (codes "//[]") 3
unfolding reference_on_literals
nothing_in_brackets = (refl, refl)

letter_in_brackets : ReferenceFailsAt (codes "//[v1.x]") 3
unfolding reference_on_literals
letter_in_brackets = (refl, refl)

zone_in_brackets : ReferenceFailsAt (codes "//[fe80::1%25en0]") 10
unfolding reference_on_literals
zone_in_brackets = (refl, refl)

bracket_after_host : ReferenceFailsAt (codes "//h[1]") 3
unfolding reference_on_literals
bracket_after_host = (refl, refl)

bracket_in_path : ReferenceFailsAt (codes "a[1]") 1
unfolding reference_on_literals
bracket_in_path = (refl, refl)

name_after_brackets : ReferenceFailsAt (codes "//[::1]x") 7
unfolding reference_on_literals
name_after_brackets = (refl, refl)

at_after_brackets : ReferenceFailsAt (codes "//[::1]@h") 7
unfolding reference_on_literals
at_after_brackets = (refl, refl)

two_at_signs : ReferenceFailsAt (codes "//a@b@c") 5
unfolding reference_on_literals
two_at_signs = (refl, refl)

letter_in_port : ReferenceFailsAt (codes "//h:8a") 6
unfolding reference_on_literals
letter_in_port = (refl, refl)

letter_in_port_more_after : ReferenceFailsAt (codes "//h:8a/") 6
unfolding reference_on_literals
letter_in_port_more_after = (refl, refl)

letter_in_port_after_user : ReferenceFailsAt (codes "//u@h:8a") 7
unfolding reference_on_literals
letter_in_port_after_user = (refl, refl)

past_ascii : ReferenceFailsAt (codes "/" ++ (0xC3 ∷ 0xA9 ∷ [])) 1
unfolding reference_on_literals
past_ascii = (refl, refl)

two_fragments : ReferenceFailsAt (codes "#a#b") 2
unfolding reference_on_literals
two_fragments = (refl, refl)

-- ---- links of a registration, against its base

dots_in_target : resolved (codes "coap://h/c/d") (codes "/a/../b") ≡ codes "coap://h/b"
unfolding reference_on_literals
dots_in_target = refl

name_beside_base : resolved (codes "coap://h/c/d") (codes "x") ≡ codes "coap://h/c/x"
unfolding reference_on_literals
name_beside_base = refl

empty_reference : resolved (codes "coap://h/c/d") [] ≡ codes "coap://h/c/d"
unfolding reference_on_literals
empty_reference = refl

other_host : resolved (codes "coap://h/c/d") (codes "//k/y") ≡ codes "coap://k/y"
unfolding reference_on_literals
other_host = refl

dots_after_scheme :
    resolved (codes "coap://h/c/d") (codes "http://e.org/./z") ≡ codes "http://e.org/z"
unfolding reference_on_literals
dots_after_scheme = refl

dots_of_base : resolved (codes "coap://h/c/../d") [] ≡ codes "coap://h/c/../d"
unfolding reference_on_literals
dots_of_base = refl

base_without_path : resolved (codes "coap://192.0.2.10") (codes "x") ≡ codes "coap://192.0.2.10/x"
unfolding reference_on_literals
base_without_path = refl

query_of_base : resolved (codes "coap://h/c?q") (codes "#f") ≡ codes "coap://h/c?q#f"
unfolding reference_on_literals
query_of_base = refl

-- ---- paths that begin without a slash

name_before_dots : remove_dot_segments (codes "b/../c") ≡ codes "/c"
unfolding reference_on_literals
name_before_dots = refl

dots_at_beginning : remove_dot_segments (codes "../.././c/.") ≡ codes "c/"
unfolding reference_on_literals
dots_at_beginning = refl

dots_alone : remove_dot_segments (codes "./..") ≡ []
unfolding reference_on_literals
dots_alone = refl

example_of_algorithm : remove_dot_segments (codes "/a/b/c/./../../g") ≡ codes "/a/g"
unfolding reference_on_literals
example_of_algorithm = refl

second_example_of_algorithm : remove_dot_segments (codes "mid/content=5/../6") ≡ codes "mid/6"
unfolding reference_on_literals
second_example_of_algorithm = refl
