-- Lines of output at their edges, computed: codes, paths, the line of an outcome, the lines up to
-- the first ask that is not decided, and what is said of a bad line.
use Rattle.std.proofs.Common.{◌≡◌, ◌∷◌, ◌++◌, [], codes, Some, None, refl}
use Rattle.std.specs.Fmt.{digits}
use Rattle.rd_base.specs.declared.peers.Host.TheVariants as host
use Rattle.client_model.specs.declared.outcomes.Outcome.{Outcome}
use Rattle.client_model.specs.declared.outcomes.Outcome.TheVariants as outcome
use Rattle.commission_list.specs.declared.judging.AskLine.TheVariants as bad
use Rattle.commission_list.specs.declared.statuses.CommissionStatus.TheVariants as status
use Rattle.commission_list.specs.Endings.{status_text}
use Rattle.commission_list.specs.Printing.{code_text, path_text, line_text, front_text}

-- ---- codes

code_4_00 : code_text 0x80 ≡ codes "4.00"
unfolding code_text
code_4_00 = refl

code_5_03 : code_text 0xa3 ≡ codes "5.03"
unfolding code_text
code_5_03 = refl

code_2_05 : code_text 0x45 ≡ codes "2.05"
unfolding code_text
code_2_05 = refl

-- a detail of two digits, and the greatest
code_4_12 : code_text 0x8c ≡ codes "4.12"
unfolding code_text
code_4_12 = refl

greatest_code : code_text 255 ≡ codes "7.31"
unfolding code_text
greatest_code = refl

-- ---- paths

-- an empty path, and one empty segment
empty_path : path_text [] ≡ []
empty_path = refl

empty_segment : path_text ([] ∷ []) ≡ codes "/"
empty_segment = refl

two_segments : path_text (codes "rd" ∷ codes "4521" ∷ []) ≡ codes "/rd/4521"
two_segments = refl

-- a slash and a percent sign within a segment, a space, and an octet 0
escaped_segment :
    path_text ((codes "a/b%c d" ++ 0 ∷ []) ∷ codes "x" ∷ []) ≡ codes "/a%2Fb%25c%20d%00/x"
escaped_segment = refl

-- octets of no ASCII character
not_ascii : path_text ((0xc3 ∷ 0xa4 ∷ 0x7f ∷ 0xff ∷ []) ∷ []) ≡ codes "/%C3%A4%7F%FF"
not_ascii = refl

-- the first and the last of each range stand for themselves, and their neighbours do not
plain : path_text (codes "09AZaz-._~" ∷ []) ≡ codes "/09AZaz-._~"
plain = refl

neighbours : path_text (codes "/:@[`{" ∷ []) ≡ codes "/%2F%3A%40%5B%60%7B"
neighbours = refl

-- ---- lines

abbrev located : Outcome
located = outcome.Located (record {
  to = record { host = host.V4 (192 ∷ 0 ∷ 2 ∷ 1 ∷ []); port = 5683 };
  path = codes "rd" ∷ codes "5" ∷ [];
})

created_line : line_text 1 located ≡ codes "1 created /rd/5\n"
unfolding digits
created_line = refl

refused_line : line_text 1_024 (outcome.Refused 0x80) ≡ codes "1024 refused 4.00\n"
unfolding digits code_text
refused_line = refl

reset_line : line_text 10 outcome.Reset ≡ codes "10 reset\n"
unfolding digits
reset_line = refl

given_up_line : line_text 9 outcome.GaveUp ≡ codes "9 gave up\n"
unfolding digits
given_up_line = refl

silent_line : line_text 2 outcome.Silent ≡ codes "2 silent\n"
unfolding digits
silent_line = refl

-- ---- the lines of outcomes

no_ask : front_text 1 [] ≡ []
no_ask = refl

all_there :
    front_text 1 (Some outcome.Reset ∷ Some located ∷ []) ≡ codes "1 reset\n2 created /rd/5\n"
unfolding digits
all_there = refl

-- they stop at the first that is not there, though others behind it are
first_missing : front_text 1 (None ∷ Some outcome.Reset ∷ []) ≡ []
first_missing = refl

second_missing :
    front_text 1 (Some outcome.Reset ∷ None ∷ Some outcome.Silent ∷ []) ≡ codes "1 reset\n"
unfolding digits
second_missing = refl

-- ---- what is said of a bad line

many_said : status_text (status.Line 1_025 bad.Many) ≡ codes "line 1025: many\n"
unfolding digits
many_said = refl

base_said : status_text (status.Line 2 bad.Base) ≡ codes "line 2: base\n"
unfolding digits
base_said = refl
