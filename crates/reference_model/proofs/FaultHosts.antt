-- The longest prefixes of hosts with their ports, and of authorities.
use Rattle.std.proofs.Common.{
  ◌≡◌,
  ℕ,
  zero,
  suc,
  ◌+◌,
  ◌<◌,
  ◌≤◌,
  max,
  Bool,
  true,
  false,
  not,
  ◌&&◌,
  ◌||◌,
  List,
  [],
  ◌∷◌,
  ◌++◌,
  take,
  length,
  Option,
  Some,
  None,
  unwrap_or,
  refl,
  sym,
  ap,
  ◌∙◌,
  subst,
  ◌⊎◌,
  inl,
  inr,
  append_assoc,
  append-nil,
  arith,
}
use Rattle.std.specs.Prelude.{◌==◌, if◌then◌else◌}
use Rattle.std.specs.List.{list_all, prefix_len}
use Rattle.std.specs.Char.{is_ascii_digit}
use Rattle.std.proofs.lemmas.Bool.{and_parts, eqb-true, cases_lt, and_left}
use Rattle.link_model.specs.Characters.{
  colon,
  at_sign,
  left_bracket,
  right_bracket,
  is_empty,
  is_run_of,
  is_name_character,
  is_literal_character,
  is_userinfo_character,
}
use Rattle.reference_model.specs.References.{
  before,
  after,
  from_first,
  has_octet,
  marked,
  is_text_of,
  is_port_text,
  is_literal_and_port,
  is_name_and_port,
  is_host_and_port,
  is_authority,
}
use Rattle.reference_model.specs.ReferenceFaults.{
  text_prefix,
  port_prefix,
  literal_prefix,
  name_prefix,
  host_prefix,
  authority_prefix,
}
use Rattle.reference_model.proofs.ReferenceCuts.{
  cut,
  after_some,
  after_none,
  has_octet-before,
  before-marked,
  after-marked,
  before_alone,
}
use Rattle.rd_base.proofs.lemmas.Options.{some_same, none_some}
use Rattle.reference_model.proofs.ReferenceMarks.{no_mark_in_text, no_mark_in_run, no_mark_in_host}
use Rattle.reference_model.proofs.LongestPrefixes.{
  IsLongest,
  cut_passes,
  both_pass,
  second_fails,
  front_longest,
  front_longest_where_ended,
  after_longest,
  all_longest,
  whole_longest,
  same_longest,
  cons_longest,
  longest_at,
  from_first-after,
  length-cut,
  take_front,
  take_within,
  EndsBeforeMark,
  PastMark,
  mark_cases,
}
use Rattle.reference_model.proofs.FaultTexts.{
  text_longest,
  run_begins,
  run_within,
  run_ends,
  port_longest,
}

-- ---- registered names

port_after : Option (List ℕ) → Bool
port_after o = is_port_text (marked colon o)

no_colon_in_name : (text : List ℕ)
    → is_text_of is_name_character text ≡ true
    → has_octet colon text ≡ false
no_colon_in_name text h = no_mark_in_text is_name_character colon refl refl refl 0 text h

digits_longest : (text : List ℕ)
    → IsLongest (list_all is_ascii_digit) text (prefix_len is_ascii_digit text)
digits_longest text = record {
  within = run_within is_ascii_digit text;
  begins = (
    [],
    ap (list_all is_ascii_digit) (append-nil (take (prefix_len is_ascii_digit text) text))
        ∙ run_begins is_ascii_digit text,
  );
  longest = λ m h k more. run_ends is_ascii_digit text m more h k;
}

name_cut_longest : (text : List ℕ)
    → IsLongest (cut_passes (is_text_of is_name_character) port_after colon) text (name_prefix text)
unfolding port_after
name_cut_longest text = by_name (is_text_of is_name_character (before colon text)) refl
  where
    front : List ℕ
    front = before colon text

    by_name : (b : Bool)
        → is_text_of is_name_character front ≡ b
        → IsLongest (cut_passes (is_text_of is_name_character) port_after colon) text
        (if b
        then length front + port_prefix (from_first colon text)
        else text_prefix is_name_character front)
    by_name false e =
        front_longest (is_text_of is_name_character) port_after colon no_colon_in_name refl text
        (text_prefix is_name_character front) e (text_longest is_name_character front)
    by_name true e = by_port (after colon text) refl
      where
        by_port : (o : Option (List ℕ))
            → after colon text ≡ o
            → IsLongest (cut_passes (is_text_of is_name_character) port_after colon) text
            (length front + port_prefix (from_first colon text))
        by_port None f =
            let a = length-cut colon text in
            let b : length (marked colon (after colon text)) ≡ 0 = rw f refl in
            let p : port_prefix (from_first colon text) ≡ 0 =
            ap port_prefix (from_first-after colon text) ∙ rw f refl in
            longest_at (cut_passes (is_text_of is_name_character) port_after colon) text
            (length text) (length front + port_prefix (from_first colon text)) (omega arith)
            (whole_longest (cut_passes (is_text_of is_name_character) port_after colon) text
            (both_pass (is_text_of is_name_character front) (port_after (after colon text)) e
            (ap port_after f)))
        by_port (Some rest) f =
            let p : port_prefix (from_first colon text) ≡ suc (prefix_len is_ascii_digit rest) =
            ap port_prefix (from_first-after colon text) ∙ rw f refl in
            longest_at (cut_passes (is_text_of is_name_character) port_after colon) text
            (suc (length front) + prefix_len is_ascii_digit rest)
            (length front + port_prefix (from_first colon text)) (omega arith)
            (after_longest (is_text_of is_name_character) port_after colon text rest
            (prefix_len is_ascii_digit rest) e f (digits_longest rest))

name_longest : (text : List ℕ) → IsLongest is_name_and_port text (name_prefix text)
unfolding port_after
name_longest text =
    same_longest (cut_passes (is_text_of is_name_character) port_after colon) is_name_and_port
    (λ t.
    ap (λ (x : List ℕ). is_text_of is_name_character (before colon t) && is_port_text x)
    (from_first-after colon t)) text (name_prefix text) (name_cut_longest text)

-- ---- IP literals

closes_literal : Option (List ℕ) → Bool
closes_literal None = false
closes_literal (Some rest) = is_port_text rest

is_empty-push : (text : List ℕ) (c : ℕ) → is_empty (text ++ c ∷ []) ≡ false
is_empty-push [] c = refl
is_empty-push (d ∷ text) c = refl

list_all-push : (test : ℕ → Bool) (text : List ℕ) (c : ℕ)
    → list_all test text ≡ true
    → test c ≡ true
    → list_all test (text ++ c ∷ []) ≡ true
list_all-push test [] c h e = rw e refl
list_all-push test (d ∷ text) c h e =
    let parts = and_parts (test d) (list_all test text) h in
    rw (parts.0) (list_all-push test text c (parts.1) e)

literal_run_longest : (text : List ℕ)
    → IsLongest (is_run_of is_literal_character) text (prefix_len is_literal_character text)
literal_run_longest text = record {
  within = run_within is_literal_character text;
  begins = (
    48
        ∷ [],
    both_pass (not (is_empty (front ++ 48 ∷ [])))
        (list_all is_literal_character (front ++ 48 ∷ [])) (ap not (is_empty-push front 48))
        (list_all-push is_literal_character front 48 (run_begins is_literal_character text)
        refl),
  );
  longest =
      λ m h k more. no_run (take m text ++ more) (run_ends is_literal_character text m more h k);
}
  where
    front : List ℕ
    front = take (prefix_len is_literal_character text) text

    no_run : (t : List ℕ)
        → list_all is_literal_character t ≡ false
        → is_run_of is_literal_character t ≡ false
    no_run t e = by_empty (not (is_empty t))
      where
        by_empty : (b : Bool) → (b && list_all is_literal_character t) ≡ false
        by_empty true = e
        by_empty false = refl

no_bracket_in_run : (text : List ℕ)
    → is_run_of is_literal_character text ≡ true
    → has_octet right_bracket text ≡ false
no_bracket_in_run text h =
    no_mark_in_run is_literal_character right_bracket refl text
    ((and_parts (not (is_empty text)) (list_all is_literal_character text) h).1)

literal_ends : (text : List ℕ)
    → is_run_of is_literal_character text ≡ true
    → (more : List ℕ)
    × (cut_passes (is_run_of is_literal_character) closes_literal right_bracket (text ++ more)
    ≡ true)
unfolding closes_literal
literal_ends text h =
    let no_mark = no_bracket_in_run text h in (
      right_bracket ∷ [],
      both_pass (is_run_of is_literal_character (before right_bracket (text ++ right_bracket ∷ [])))
          (closes_literal (after right_bracket (text ++ right_bracket ∷ [])))
          (ap (is_run_of is_literal_character) (before-marked right_bracket text (Some []) no_mark)
          ∙ h) (ap closes_literal (after-marked right_bracket text (Some []) no_mark)),
    )

-- of what stands after an opening bracket
inside_prefix : List ℕ → ℕ
inside_prefix cs =
    if is_run_of is_literal_character (before right_bracket cs) && has_octet right_bracket cs
    then suc (length (before right_bracket cs))
    + port_prefix (unwrap_or (after right_bracket cs) [])
    else prefix_len is_literal_character (before right_bracket cs)

all_run : (text : List ℕ)
    → list_all is_literal_character text ≡ true
    → prefix_len is_literal_character text ≡ length text
all_run [] h = refl
all_run (c ∷ cs) h =
    let parts = and_parts (is_literal_character c) (list_all is_literal_character cs) h in
    rw (parts.0) (let e = all_run cs (parts.1) in omega arith)

inside_longest : (cs : List ℕ)
    → IsLongest (cut_passes (is_run_of is_literal_character) closes_literal right_bracket) cs
    (inside_prefix cs)
unfolding inside_prefix closes_literal
inside_longest cs =
    by_run (is_run_of is_literal_character front) refl (has_octet right_bracket cs) refl
  where
    front : List ℕ
    front = before right_bracket cs

    by_run : (b : Bool)
        → is_run_of is_literal_character front ≡ b
        → (d : Bool)
        → has_octet right_bracket cs ≡ d
        → IsLongest (cut_passes (is_run_of is_literal_character) closes_literal right_bracket) cs
        (if b && d
        then suc (length front) + port_prefix (unwrap_or (after right_bracket cs) [])
        else prefix_len is_literal_character front)
    by_run false e d f =
        front_longest_where_ended (is_run_of is_literal_character) closes_literal right_bracket
        literal_ends cs (prefix_len is_literal_character front) e (literal_run_longest front)
    by_run true e true f =
        after_longest (is_run_of is_literal_character) closes_literal right_bracket cs
        (unwrap_or (after right_bracket cs) [])
        (port_prefix (unwrap_or (after right_bracket cs) [])) e (after_some right_bracket cs f)
        (port_longest (unwrap_or (after right_bracket cs) []))
    by_run true e false f =
        let alone : front ≡ cs = before_alone right_bracket cs f in
        let run : is_run_of is_literal_character cs ≡ true =
        ap (is_run_of is_literal_character) (sym alone) ∙ e in
        let count : length cs ≡ prefix_len is_literal_character front =
        sym (ap (prefix_len is_literal_character) alone ∙ all_run cs ((and_parts (not (is_empty
        cs)) (list_all is_literal_character cs) run).1)) in
        longest_at (cut_passes (is_run_of is_literal_character) closes_literal right_bracket) cs
        (length cs) (prefix_len is_literal_character front) count
        (all_longest (cut_passes (is_run_of is_literal_character) closes_literal right_bracket) cs
        (literal_ends cs run))

-- ---- hosts

literal_inside : (cs : List ℕ)
    → is_host_and_port (left_bracket ∷ cs)
    ≡ cut_passes (is_run_of is_literal_character) closes_literal right_bracket cs
unfolding closes_literal before
literal_inside cs = by_mark (has_octet right_bracket cs) refl
  where
    run : Bool
    run = is_run_of is_literal_character (before right_bracket cs)

    or_false : (a : Bool) → (a || false) ≡ a
    or_false true = refl
    or_false false = refl

    and_true : (a : Bool) → (a && true) ≡ a
    and_true true = refl
    and_true false = refl

    and_false : (a : Bool) → (a && false) ≡ false
    and_false true = refl
    and_false false = refl

    by_mark : (b : Bool)
        → has_octet right_bracket cs ≡ b
        → is_host_and_port (left_bracket ∷ cs)
        ≡ cut_passes (is_run_of is_literal_character) closes_literal right_bracket cs
    by_mark true e =
        let f = after_some right_bracket cs e in
        or_false (is_literal_and_port (left_bracket ∷ cs))
        ∙ rw (e, f) (and_true (run && is_port_text (unwrap_or (after right_bracket cs) [])))
    by_mark false e =
        let f = after_none right_bracket cs e in
        or_false (is_literal_and_port (left_bracket ∷ cs))
        ∙ rw (e, f) (and_false (run && true) ∙ sym (and_false run))

literal_count : (cs : List ℕ) → suc (inside_prefix cs) ≡ literal_prefix (left_bracket ∷ cs)
unfolding inside_prefix
literal_count cs =
    by_test (is_run_of is_literal_character (before right_bracket cs) && has_octet right_bracket cs)
  where
    by_test : (b : Bool)
        → suc (if b
        then suc (length (before right_bracket cs))
        + port_prefix (unwrap_or (after right_bracket cs) [])
        else prefix_len is_literal_character (before right_bracket cs))
        ≡ (if b then 2
        + length (before right_bracket cs)
        + port_prefix (unwrap_or (after right_bracket cs) []) else suc
        (prefix_len is_literal_character (before right_bracket cs)))
    by_test true = omega arith
    by_test false = refl

no_literal : (c : ℕ) (cs : List ℕ)
    → (c == left_bracket) ≡ false
    → is_literal_and_port (c ∷ cs) ≡ false
no_literal c cs e = rw e refl

other_host_longest : (c : ℕ) (cs : List ℕ) (n : ℕ)
    → (c == left_bracket) ≡ false
    → IsLongest is_name_and_port (c ∷ cs) n
    → IsLongest is_host_and_port (c ∷ cs) n
other_host_longest c cs n e l = record {
  within = l.within;
  begins = (
    l.begins.0,
    or_true (is_literal_and_port (take n (c ∷ cs) ++ l.begins.0))
        (is_name_and_port (take n (c ∷ cs) ++ l.begins.0)) (l.begins.1),
  );
  longest = λ m. at_count m;
}
  where
    or_true : (a b : Bool) → b ≡ true → (a || b) ≡ true
    or_true true b h = refl
    or_true false b h = h

    at_count : (m : ℕ)
        → n < m
        → m ≤ suc (length cs)
        → (more : List ℕ)
        → is_host_and_port (take m (c ∷ cs) ++ more) ≡ false
    at_count zero h k more = absurd (omega arith)
    at_count (suc m) h k more = rw (no_literal c (take m cs ++ more) e) (l.longest (suc m) h k more)

host_longest : (text : List ℕ) → IsLongest is_host_and_port text (host_prefix text)
unfolding before from_first
host_longest [] = record {
  within = omega arith;
  begins = ([], refl);
  longest = λ m h k more. absurd (omega arith);
}
host_longest (c ∷ cs) = by_bracket (c == left_bracket) refl
  where
    by_bracket : (b : Bool)
        → (c == left_bracket) ≡ b
        → IsLongest is_host_and_port (c ∷ cs)
        (if b then literal_prefix (c ∷ cs) else name_prefix (c ∷ cs))
    by_bracket true e =
        let same : c ≡ left_bracket = eqb-true c left_bracket e in
        subst (λ (d : ℕ). IsLongest is_host_and_port (d ∷ cs) (literal_prefix (c ∷ cs))) (sym same)
        (longest_at is_host_and_port (left_bracket ∷ cs) (suc (inside_prefix cs))
        (literal_prefix (c ∷ cs)) (literal_count cs)
        (cons_longest (cut_passes (is_run_of is_literal_character) closes_literal right_bracket)
        is_host_and_port left_bracket literal_inside cs (inside_prefix cs) (inside_longest cs)))
    by_bracket false e = other_host_longest c cs (name_prefix (c ∷ cs)) e (name_longest (c ∷ cs))

-- ---- authorities

empty_host : is_host_and_port [] ≡ true
unfolding before from_first
empty_host = refl

-- a host has no at sign
pub no_at_in_host : (text : List ℕ) → is_host_and_port text ≡ true → has_octet at_sign text ≡ false
no_at_in_host text h =
    no_mark_in_host at_sign
    (record {
      name = refl;
      literal = refl;
      digit = refl;
      hexdigit = refl;
      percent = refl;
      colon_octet = refl;
      left = refl;
      right = refl;
    }) text h

no_at_in_userinfo : (text : List ℕ)
    → is_text_of is_userinfo_character text ≡ true
    → has_octet at_sign text ≡ false
no_at_in_userinfo text h = no_mark_in_text is_userinfo_character at_sign refl refl refl 0 text h

pub has_after : (mark : ℕ) (text rest : List ℕ)
    → after mark text ≡ Some rest
    → has_octet mark text ≡ true
has_after mark text rest e = by_mark (has_octet mark text) refl
  where
    by_mark : (b : Bool) → has_octet mark text ≡ b → b ≡ true
    by_mark true f = refl
    by_mark false f = absurd (none_some (sym (after_none mark text f) ∙ e))

authority_alone : (text : List ℕ)
    → has_octet at_sign text ≡ false
    → is_authority text ≡ is_host_and_port text
authority_alone text e = let f = after_none at_sign text e in rw (e, f) refl

authority_with_user : (text rest : List ℕ)
    → after at_sign text ≡ Some rest
    → is_authority text
    ≡ (is_text_of is_userinfo_character (before at_sign text) && is_host_and_port rest)
authority_with_user text rest e = let f = has_after at_sign text rest e in rw (f, e) refl

user_longest : (text rest : List ℕ)
    → is_text_of is_userinfo_character (before at_sign text) ≡ true
    → after at_sign text ≡ Some rest
    → IsLongest is_authority text (length (before at_sign text) + 1 + host_prefix rest)
user_longest text rest u e = record {
  within =
      let a = length-cut at_sign text in
      let b : length (marked at_sign (after at_sign text)) ≡ suc (length rest) = rw e refl in
      let c = l.within in omega arith;
  begins = (
    l.begins.0,
    ap (λ (t : List ℕ). is_authority (t ++ l.begins.0)) taken
        ∙ ap is_authority (append_assoc front (at_sign ∷ take n rest) (l.begins.0))
        ∙ authority_with_user begun ended (after-marked at_sign front (Some ended) no_mark)
        ∙ both_pass (is_text_of is_userinfo_character (before at_sign begun))
        (is_host_and_port ended)
        (ap (is_text_of is_userinfo_character) (before-marked at_sign front (Some ended) no_mark)
        ∙ u) (l.begins.1),
  );
  longest = λ m h k more. at_mark m h more (mark_cases at_sign text m more k);
}
  where
    front : List ℕ
    front = before at_sign text

    n : ℕ
    n = host_prefix rest

    l : IsLongest is_host_and_port rest n
    l = host_longest rest

    no_mark : has_octet at_sign front ≡ false
    no_mark = has_octet-before at_sign text

    ended : List ℕ
    ended = take n rest ++ l.begins.0

    begun : List ℕ
    begun = front ++ at_sign ∷ ended

    taken : take (length front + 1 + n) text ≡ front ++ at_sign ∷ take n rest
    taken =
        let count : length front + 1 + n ≡ length front + suc n = omega arith in
        ap (λ (i : ℕ). take i text) count
        ∙ ap (take (length front + suc n))
        (cut at_sign text ∙ ap (λ (o : Option (List ℕ)). front ++ marked at_sign o) e)
        ∙ take_front front (at_sign ∷ rest) (suc n)

    at_mark : (m : ℕ)
        → length front + 1 + n < m
        → (more : List ℕ)
        → EndsBeforeMark at_sign text m more ⊎ PastMark at_sign text m more
        → is_authority (take m text ++ more) ≡ false
    at_mark m h more (inl x) = let y = x.0 in absurd (omega arith)
    at_mark m h more (inr p) =
        let same : rest ≡ p.rest = some_same (sym e ∙ p.is_after) in
        let w = p.whole in
        let fails : is_host_and_port (take p.count rest ++ more) ≡ false =
        l.longest p.count (omega arith)
        (subst (λ (r : List ℕ). p.count ≤ length r) (sym same) p.short) more in
        authority_with_user (take m text ++ more) (take p.count p.rest ++ more) p.same_after
        ∙ second_fails (is_text_of is_userinfo_character (before at_sign (take m text ++ more)))
        (is_host_and_port (take p.count p.rest ++ more))
        (ap (is_text_of is_userinfo_character) p.same_front ∙ u)
        (ap (λ (r : List ℕ). is_host_and_port (take p.count r ++ more)) (sym same) ∙ fails)

-- user information or a host, where no user information stands before an `@`
either_longest : (text : List ℕ)
    → ((rest : List ℕ)
    → after at_sign text ≡ Some rest
    → is_text_of is_userinfo_character (before at_sign text) ≡ false)
    → IsLongest is_authority text (max (text_prefix is_userinfo_character (before at_sign text))
    (host_prefix (before at_sign text)))
either_longest text no_user = record {
  within =
      let a = length-cut at_sign text in let b = user.within in let c = host.within in omega arith;
  begins = by_order (cases_lt p q);
  longest = λ m h k more. at_mark m h more (mark_cases at_sign text m more k);
}
  where
    front : List ℕ
    front = before at_sign text

    p : ℕ
    p = text_prefix is_userinfo_character front

    q : ℕ
    q = host_prefix front

    user : IsLongest (is_text_of is_userinfo_character) front p
    user = text_longest is_userinfo_character front

    host : IsLongest is_host_and_port front q
    host = host_longest front

    taken : (n : ℕ) → n ≤ length front → take n text ≡ take n front
    taken n h =
        ap (take n) (cut at_sign text) ∙ take_within front (marked at_sign (after at_sign text)) n h

    by_order : (p < q) ⊎ (q ≤ p)
        → (more : List ℕ) × (is_authority (take (max p q) text ++ more) ≡ true)
    by_order (inl h) =
        let count : max p q ≡ q = omega arith in
        let y : List ℕ = take q front ++ host.begins.0 in (
          host.begins.0,
          ap (λ (i : ℕ). is_authority (take i text ++ host.begins.0)) count
              ∙ ap (λ (t : List ℕ). is_authority (t ++ host.begins.0)) (taken q host.within)
              ∙ authority_alone y (no_at_in_host y (host.begins.1))
              ∙ host.begins.1,
        )
    by_order (inr h) =
        let count : max p q ≡ p = omega arith in
        let y : List ℕ = take p front ++ user.begins.0 in
        let no_at = no_at_in_userinfo y (user.begins.1) in (
          user.begins.0 ++ at_sign ∷ [],
          ap (λ (i : ℕ). is_authority (take i text ++ (user.begins.0 ++ at_sign ∷ []))) count
              ∙ ap (λ (t : List ℕ). is_authority (t ++ (user.begins.0 ++ at_sign ∷ [])))
              (taken p user.within)
              ∙ ap is_authority (sym (append_assoc (take p front) (user.begins.0) (at_sign ∷ [])))
              ∙ authority_with_user (y ++ at_sign ∷ []) [] (after-marked at_sign y (Some []) no_at)
              ∙ both_pass (is_text_of is_userinfo_character (before at_sign (y ++ at_sign ∷ [])))
              (is_host_and_port [])
              (ap (is_text_of is_userinfo_character) (before-marked at_sign y (Some []) no_at)
              ∙ user.begins.1) empty_host,
        )

    at_mark : (m : ℕ)
        → max p q < m
        → (more : List ℕ)
        → EndsBeforeMark at_sign text m more ⊎ PastMark at_sign text m more
        → is_authority (take m text ++ more) ≡ false
    at_mark m h more (inl x) = by_at (has_octet at_sign (take m text ++ more)) refl
      where
        by_at : (b : Bool)
            → has_octet at_sign (take m text ++ more) ≡ b
            → is_authority (take m text ++ more) ≡ false
        by_at false e =
            authority_alone (take m text ++ more) e
            ∙ ap (λ (t : List ℕ). is_host_and_port (t ++ more)) (x.1)
            ∙ host.longest m (omega arith) (x.0) more
        by_at true e =
            let rest = unwrap_or (after at_sign (take m text ++ more)) [] in
            authority_with_user (take m text ++ more) rest
            (after_some at_sign (take m text ++ more) e)
            ∙ and_left (is_text_of is_userinfo_character (before at_sign (take m text ++ more)))
            (is_host_and_port rest) (ap (is_text_of is_userinfo_character) (x.2)
            ∙ user.longest m (omega arith) (x.0) (before at_sign more))
    at_mark m h more (inr r) =
        authority_with_user (take m text ++ more) (take r.count r.rest ++ more) r.same_after
        ∙ and_left (is_text_of is_userinfo_character (before at_sign (take m text ++ more)))
        (is_host_and_port (take r.count r.rest ++ more))
        (ap (is_text_of is_userinfo_character) r.same_front ∙ no_user r.rest r.is_after)

pub authority_longest : (text : List ℕ) → IsLongest is_authority text (authority_prefix text)
unfolding authority_prefix
authority_longest text =
    by_user (is_text_of is_userinfo_character (before at_sign text)) refl (has_octet at_sign text)
    refl
  where
    front : List ℕ
    front = before at_sign text

    by_user : (b : Bool)
        → is_text_of is_userinfo_character front ≡ b
        → (d : Bool)
        → has_octet at_sign text ≡ d
        → IsLongest is_authority text (if b && d
        then length front + 1 + host_prefix (unwrap_or (after at_sign text) [])
        else max (text_prefix is_userinfo_character front) (host_prefix front))
    by_user true e true f =
        user_longest text (unwrap_or (after at_sign text) []) e (after_some at_sign text f)
    by_user true e false f =
        either_longest text (λ rest x. absurd (none_some (sym (after_none at_sign text f) ∙ x)))
    by_user false e d f = either_longest text (λ rest x. e)
