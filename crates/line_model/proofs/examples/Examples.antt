-- Lines of traces at their edges, computed.
use Rattle.std.proofs.Common.{◌≡◌, [], ◌∷◌, codes, replicate, Some, None, Ok, Err, refl}
use Rattle.rd_base.specs.declared.peers.Host.TheVariants as host
use Rattle.rd_base.specs.declared.peers.Peer.{Peer}
use Rattle.line_model.specs.declared.lines.Line.TheVariants as line
use Rattle.line_model.specs.declared.lines.Reason.TheVariants as reason
use Rattle.rd_base.specs.Peers.{peer_of, peer_text}
use Rattle.line_model.specs.Lines.{line_of, line_text, out_text}
use Rattle.line_model.specs.Texts.{lines_of}
use Rattle.line_model.proofs.OnLiterals.{trace_on_literals}

-- a device of IPv4, and one of IPv6
abbrev device : Peer
device = record { host = host.V4 (192 ∷ 0 ∷ 2 ∷ 10 ∷ []); port = 5683 }

abbrev far : Peer
far = record { host = host.V6 (0x2001 ∷ 0xdb8 ∷ 0 ∷ 0 ∷ 0 ∷ 0 ∷ 0 ∷ 1 ∷ []); port = 61616 }

abbrev mapped : Peer
mapped = record { host = host.V6 (0 ∷ 0 ∷ 0 ∷ 0 ∷ 0 ∷ 0xffff ∷ 0x102 ∷ 0x304 ∷ []); port = 1 }

-- the greatest worker
worker_255 : line_of (codes "go 255 0") ≡ Ok (line.Go 255 (record { 0 = 0 }))
unfolding trace_on_literals
worker_255 = refl

-- one worker more
worker_256 : line_of (codes "go 256 0") ≡ Err reason.Form
unfolding trace_on_literals
worker_256 = refl

-- leading zeros
worker_007 : line_of (codes "go 007 0") ≡ Err reason.Form
unfolding trace_on_literals
worker_007 = refl

-- the greatest moment
moment_of_15_digits :
    line_of (codes "go 0 999999999999999") ≡ Ok (line.Go 0 (record { 0 = 999_999_999_999_999 }))
unfolding trace_on_literals
moment_of_15_digits = refl

-- one digit more
moment_of_16_digits : line_of (codes "go 0 1000000000000000") ≡ Err reason.Form
unfolding trace_on_literals
moment_of_16_digits = refl

-- no digit
moment_empty : line_of (codes "go 0 ") ≡ Err reason.Form
unfolding trace_on_literals
moment_empty = refl

-- a sign
moment_signed : line_of (codes "go 0 +5") ≡ Err reason.Form
unfolding trace_on_literals
moment_signed = refl

-- a tick without a word has the word 0
tick_without_word : line_of (codes "tick 1 5") ≡ Ok (line.Tick 1 (record { 0 = 5 }) 0)
unfolding trace_on_literals
tick_without_word = refl

-- the greatest word
tick_with_word :
    line_of (codes "tick 1 5 4294967295") ≡ Ok (line.Tick 1 (record { 0 = 5 }) 4_294_967_295)
unfolding trace_on_literals
tick_with_word = refl

-- a word of 0 may be written
tick_with_word_0 : line_of (codes "tick 1 5 0") ≡ Ok (line.Tick 1 (record { 0 = 5 }) 0)
unfolding trace_on_literals
tick_with_word_0 = refl

-- one more
tick_word_too_great : line_of (codes "tick 1 5 4294967296") ≡ Err reason.Form
unfolding trace_on_literals
tick_word_too_great = refl

-- a run begins above 0, and above the greatest number
begin_at_0 : line_of (codes "begin 0 0 0") ≡ Ok (line.Begin 0 (record { 0 = 0 }) 0)
unfolding trace_on_literals
begin_at_0 = refl

begin_greatest :
    line_of (codes "begin 255 7 281474976710655")
    ≡ Ok (line.Begin 255 (record { 0 = 7 }) 281_474_976_710_655)
unfolding trace_on_literals
begin_greatest = refl

-- one more
begin_too_great : line_of (codes "begin 0 0 281474976710656") ≡ Err reason.Form
unfolding trace_on_literals
begin_too_great = refl

-- a leading zero, a number is missing, and one too many
begin_with_leading_zero : line_of (codes "begin 0 0 01") ≡ Err reason.Form
unfolding trace_on_literals
begin_with_leading_zero = refl

begin_without_number : line_of (codes "begin 0 0") ≡ Err reason.Form
unfolding trace_on_literals
begin_without_number = refl

begin_with_two_numbers : line_of (codes "begin 0 0 1 2") ≡ Err reason.Form
unfolding trace_on_literals
begin_with_two_numbers = refl

-- a dash is the empty datagram
come_empty :
    line_of (codes "in 0 10 192.0.2.10:5683 -")
    ≡ Ok (line.Come 0 (record { 0 = 10 }) device [] 0)
unfolding trace_on_literals
come_empty = refl

-- digits of either case
come_upper :
    line_of (codes "in 0 10 192.0.2.10:5683 aBFf")
    ≡ Ok (line.Come 0 (record { 0 = 10 }) device (0xab ∷ 0xff ∷ []) 0)
unfolding trace_on_literals
come_upper = refl

-- a word, the greatest, and one that is too great
come_with_word :
    line_of (codes "in 0 10 192.0.2.10:5683 ab 7")
    ≡ Ok (line.Come 0 (record { 0 = 10 }) device (0xab ∷ []) 7)
unfolding trace_on_literals
come_with_word = refl

come_with_greatest_word :
    line_of (codes "in 0 10 192.0.2.10:5683 - 4294967295")
    ≡ Ok (line.Come 0 (record { 0 = 10 }) device [] 4_294_967_295)
unfolding trace_on_literals
come_with_greatest_word = refl

come_word_too_great : line_of (codes "in 0 10 192.0.2.10:5683 - 4294967296") ≡ Err reason.Form
unfolding trace_on_literals
come_word_too_great = refl

-- a word of 0 may be written, one with a leading zero may not
come_with_word_0 :
    line_of (codes "in 0 10 192.0.2.10:5683 - 0")
    ≡ Ok (line.Come 0 (record { 0 = 10 }) device [] 0)
unfolding trace_on_literals
come_with_word_0 = refl

come_with_leading_zero : line_of (codes "in 0 10 192.0.2.10:5683 - 07") ≡ Err reason.Form
unfolding trace_on_literals
come_with_leading_zero = refl

-- an empty word, and two
come_with_empty_word : line_of (codes "in 0 10 192.0.2.10:5683 - ") ≡ Err reason.Form
unfolding trace_on_literals
come_with_empty_word = refl

come_with_two_words : line_of (codes "in 0 10 192.0.2.10:5683 - 7 7") ≡ Err reason.Form
unfolding trace_on_literals
come_with_two_words = refl

-- a go has none
go_with_word : line_of (codes "go 0 10 7") ≡ Err reason.Form
unfolding trace_on_literals
go_with_word = refl

-- an odd number of digits
come_odd : line_of (codes "in 0 10 192.0.2.10:5683 abc") ≡ Err reason.Form
unfolding trace_on_literals
come_odd = refl

-- a letter that is no digit
come_no_digit : line_of (codes "in 0 10 192.0.2.10:5683 0g") ≡ Err reason.Form
unfolding trace_on_literals
come_no_digit = refl

-- two dashes
come_two_dashes : line_of (codes "in 0 10 192.0.2.10:5683 --") ≡ Err reason.Form
unfolding trace_on_literals
come_two_dashes = refl

-- a field is missing
come_without_octets : line_of (codes "in 0 10 192.0.2.10:5683") ≡ Err reason.Form
unfolding trace_on_literals
come_without_octets = refl

-- an empty field
come_empty_octets : line_of (codes "in 0 10 192.0.2.10:5683 ") ≡ Err reason.Form
unfolding trace_on_literals
come_empty_octets = refl

-- two spaces
two_spaces : line_of (codes "go  0 10") ≡ Err reason.Form
unfolding trace_on_literals
two_spaces = refl

-- a space at the beginning
space_first : line_of (codes " go 0 10") ≡ Err reason.Form
unfolding trace_on_literals
space_first = refl

-- a carriage return
carriage_return : line_of (codes "go 0 10\r") ≡ Err reason.Form
unfolding trace_on_literals
carriage_return = refl

-- the empty line
empty_line : line_of (codes "") ≡ Err reason.Form
unfolding trace_on_literals
empty_line = refl

-- another word
upper_verb : line_of (codes "GO 0 10") ≡ Err reason.Form
unfolding trace_on_literals
upper_verb = refl

-- an IPv4 peer
ipv4 : peer_of (codes "192.0.2.10:5683") ≡ Some device
unfolding trace_on_literals
ipv4 = refl

-- an IPv6 peer
ipv6 : peer_of (codes "[2001:db8::1]:61616") ≡ Some far
unfolding trace_on_literals
ipv6 = refl

-- an IPv4-mapped address is dotted
ipv6_mapped : peer_of (codes "[::ffff:1.2.3.4]:1") ≡ Some mapped
unfolding trace_on_literals
ipv6_mapped = refl

-- and is not printed in groups
ipv6_mapped_groups : peer_of (codes "[::ffff:102:304]:1") ≡ None
unfolding trace_on_literals
ipv6_mapped_groups = refl

-- upper case is not printed
ipv6_upper : peer_of (codes "[2001:DB8::1]:5") ≡ None
unfolding trace_on_literals
ipv6_upper = refl

-- no other address is dotted
ipv6_compatible : peer_of (codes "[::1.2.3.4]:1") ≡ None
unfolding trace_on_literals
ipv6_compatible = refl

-- zeros that are not printed
ipv6_long : peer_of (codes "[2001:db8:0::1]:5") ≡ None
unfolding trace_on_literals
ipv6_long = refl

-- brackets are missing
ipv6_bare : peer_of (codes "2001:db8::1:5") ≡ None
unfolding trace_on_literals
ipv6_bare = refl

-- a zone
ipv6_zone : peer_of (codes "[fe80::1%1]:5") ≡ None
unfolding trace_on_literals
ipv6_zone = refl

-- the port 0
port_0 : peer_of (codes "192.0.2.10:0") ≡ None
unfolding trace_on_literals
port_0 = refl

-- the port past the last
port_65536 : peer_of (codes "192.0.2.10:65536") ≡ None
unfolding trace_on_literals
port_65536 = refl

-- leading zeros of the port
port_080 : peer_of (codes "192.0.2.10:080") ≡ None
unfolding trace_on_literals
port_080 = refl

-- an octet too great
octet_256 : peer_of (codes "192.0.2.256:5") ≡ None
unfolding trace_on_literals
octet_256 = refl

-- no port
no_port : peer_of (codes "192.0.2.10") ≡ None
unfolding trace_on_literals
no_port = refl

-- how an IPv6 peer is printed
printed_far : peer_text far ≡ codes "[2001:db8::1]:61616"
unfolding trace_on_literals
printed_far = refl

-- a line that is printed
printed_come :
    line_text (line.Come 0 (record { 0 = 10 }) device (0xAB ∷ 1 ∷ []) 0)
    ≡ codes "in 0 10 192.0.2.10:5683 ab01"
unfolding trace_on_literals
printed_come = refl

-- an empty datagram is a dash
printed_empty :
    line_text (line.Come 0 (record { 0 = 10 }) far [] 0) ≡ codes "in 0 10 [2001:db8::1]:61616 -"
unfolding trace_on_literals
printed_empty = refl

-- a word that is not 0 stands behind the octets
printed_come_with_word :
    line_text (line.Come 0 (record { 0 = 10 }) device (0xAB ∷ 1 ∷ []) 7)
    ≡ codes "in 0 10 192.0.2.10:5683 ab01 7"
unfolding trace_on_literals
printed_come_with_word = refl

-- a word of 0 is left out
printed_tick : line_text (line.Tick 3 (record { 0 = 10 }) 0) ≡ codes "tick 3 10"
unfolding trace_on_literals
printed_tick = refl

-- any other word is not
printed_word : line_text (line.Tick 3 (record { 0 = 10 }) 7) ≡ codes "tick 3 10 7"
unfolding trace_on_literals
printed_word = refl

-- the number above which a run begins is printed, 0 too
printed_begin : line_text (line.Begin 3 (record { 0 = 10 }) 0) ≡ codes "begin 3 10 0"
unfolding trace_on_literals
printed_begin = refl

-- what is sent
printed_out : out_text 0 device (0x61 ∷ 0x41 ∷ []) ≡ codes "out 0 192.0.2.10:5683 6141"
unfolding trace_on_literals
printed_out = refl

-- the empty text has no line
no_lines : lines_of [] ≡ []
unfolding trace_on_literals
no_lines = refl

-- a last line feed begins no other line
one_line : lines_of (codes "a\n") ≡ codes "a" ∷ []
unfolding trace_on_literals
one_line = refl

-- and may be missing
one_line_cut : lines_of (codes "a\nbc") ≡ codes "a" ∷ codes "bc" ∷ []
unfolding trace_on_literals
one_line_cut = refl

-- empty lines
empty_lines : lines_of (codes "\n\n") ≡ [] ∷ [] ∷ []
unfolding trace_on_literals
empty_lines = refl

-- 8,600 bytes are not too long
line_8600 : line_of (replicate 8600 97) ≡ Err reason.Form
unfolding trace_on_literals
line_8600 = refl

-- one more is
line_8601 : line_of (replicate 8601 97) ≡ Err reason.Long
unfolding trace_on_literals
line_8601 = refl
