-- The outcome of a request, as a line of output.
use Rattle.std.specs.Prelude.{
  ◌≡◌,
  ℕ,
  ◌+◌,
  ◌-◌,
  ◌/◌,
  ◌%◌,
  ◌==◌,
  Bool,
  true,
  false,
  not,
  ◌||◌,
  ◌&&◌,
  nat_le,
  nat_lt,
  List,
  [],
  ◌∷◌,
  ◌++◌,
  map,
  flat_map,
  codes,
  decimal,
  Option,
  if◌then◌else◌,
}
use Rattle.std.specs.List.{list_any}
use Rattle.std.specs.Io.KnownBytes.{Appends}
use Rattle.rd_base.specs.declared.peers.Peer.{Peer}
use Rattle.rd_base.specs.Bases.{base_of}
use Rattle.install_list.specs.declared.ends.End.{End}
use Rattle.install_list.specs.declared.ends.End.TheVariants as end
use Rattle.install_list.specs.declared.making.Outcome.{Outcome}
use Rattle.install_list.specs.declared.words.Verb.{Verb}
use Rattle.install_list.specs.declared.words.Verb.TheVariants as verb

-- Returns a hexadecimal digit in upper case.
abbrev pub digit : ℕ → ℕ
digit n = if nat_lt n 10 then 48 + n else 65 + (n - 10)

-- Returns whether an octet is written in a path as it is: a letter, a digit, or one of -._~ (RFC
-- 3986 section 2.3).
abbrev pub is_plain : ℕ → Bool
is_plain c =
    nat_le 97 c && nat_le c 122
    || nat_le 65 c && nat_le c 90
    || nat_le 48 c && nat_le c 57
    || c == 45
    || c == 46
    || c == 95
    || c == 126

-- Returns the text of an octet in a path. If it is not plain, it is percent-encoded (RFC 3986
-- section 2.1).
abbrev pub escaped : ℕ → List ℕ
escaped c = if is_plain c then c ∷ [] else 37 ∷ digit (c / 16) ∷ digit (c % 16) ∷ []

-- Returns a segment with the slash before it.
abbrev pub segment_text : List ℕ → List ℕ
segment_text segment = 47 ∷ flat_map escaped segment

-- Returns the text of a path.
abbrev pub path_text : List (List ℕ) → List ℕ
path_text path = flat_map segment_text path

-- Returns the URI of a registration at a directory.
abbrev pub location_text : Peer → List (List ℕ) → List ℕ
location_text to path = base_of to ++ path_text path

-- Returns the text of a code: its class, a point, and its detail in two digits (RFC 7252 section
-- 3).
unfoldable pub code_text : ℕ → List ℕ
code_text code =
    (48 + code / 32) ∷ 46 ∷ (48 + code % 32 / 10) ∷ (48 + code % 32 % 10) ∷ []

-- Returns the text for a request that succeeded without a location.
abbrev pub done_text : Verb → List ℕ
done_text verb.Register = codes "registered"
done_text verb.Refresh = codes "refreshed"
done_text verb.Remove = codes "removed"
done_text verb.Keep = codes "refreshed"

-- Returns a reason with a space before it, or nothing if it is empty.
abbrev pub reason_behind : List ℕ → List ℕ
reason_behind [] = []
reason_behind (c ∷ cs) = 32 ∷ c ∷ cs

-- Returns the text of a refusal with its reason.
abbrev pub refusal_text : ℕ → List ℕ → List ℕ
refusal_text code reason = codes "refused " ++ (code_text code ++ reason_behind reason)

-- Returns the text of an outcome.
abbrev pub end_text : Verb → Peer → End → List ℕ
end_text v to (end.Created path) = codes "created " ++ location_text to path
end_text v to end.Done = done_text v
end_text v to (end.Refused code reason) = refusal_text code reason
end_text v to end.Reset = codes "reset"
end_text v to end.GaveUp = codes "gave up"
end_text v to end.Silent = codes "silent"
end_text v to end.Unreached = codes "unreached"

-- Returns the line of an outcome, which begins with the number of its line in the list.
abbrev pub line_text : Verb → ℕ → Peer → End → List ℕ
line_text v n to e = decimal n ++ (32 ∷ (end_text v to e ++ 10 ∷ []))

-- ---- lines

-- An outcome with the number of its line.
abbrev pub Report : Type 0
Report = ℕ × Outcome

-- Returns the line of an outcome with its directory.
abbrev pub outcome_text : Verb → ℕ → Outcome → List ℕ
outcome_text v n outcome = line_text v n outcome.to outcome.end

-- Returns the line of a report.
abbrev pub report_text : Verb → Report → List ℕ
report_text v report = outcome_text v report.0 report.1

-- Returns the lines of reports.
abbrev pub reports_text : Verb → List Report → List ℕ
reports_text v reports = flat_map (report_text v) reports

-- Returns the numbers of the lines of reports.
abbrev pub numbers_of : List Report → List ℕ
numbers_of reports = map (λ report. report.0) reports

-- Returns whether a request succeeded.
abbrev pub is_done : End → Bool
is_done (end.Created path) = true
is_done end.Done = true
is_done (end.Refused code reason) = false
is_done end.Reset = false
is_done end.GaveUp = false
is_done end.Silent = false
is_done end.Unreached = false

-- Returns whether the request of a report did not succeed.
abbrev pub is_failed : Report → Bool
is_failed report = not (is_done report.1.end)

-- Returns whether one of these requests did not succeed.
abbrev pub is_undone : List Report → Bool
is_undone reports = list_any is_failed reports

-- ---- what was written

-- States that a text is a prefix of another.
abbrev pub IsFrontOf : List ℕ → List ℕ → Type 0
IsFrontOf front whole = (rest : List ℕ) × (whole ≡ front ++ rest)

-- States that the lines of reports were written one after the other. Their numbers are the first of
-- the numbers in `left`, and `more` has the others. `was` and `is` say whether a request did not
-- succeed, before and after them.
abbrev pub Puts : Verb
    → List ℕ
    → List ℕ
    → Bool
    → Bool
    → Option (List ℕ)
    → Option (List ℕ)
    → Type 0
Puts v left more was is holds now =
    (reports : List Report)
    × (left ≡ numbers_of reports ++ more)
    × (is ≡ (was || is_undone reports))
    × Appends holds now (reports_text v reports)

-- States that a prefix of such lines was written.
abbrev pub Cuts : Verb → List ℕ → Option (List ℕ) → Option (List ℕ) → Type 0
Cuts v left holds now =
    (reports : List Report)
    × (rest : List ℕ)
    × (text : List ℕ)
    × (left ≡ numbers_of reports ++ rest)
    × IsFrontOf text (reports_text v reports)
    × Appends holds now text
