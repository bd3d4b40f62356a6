-- Lines of reports that were written one after the other.
use Rattle.std.proofs.Common.{
  ◌≡◌,
  ◌||◌,
  not,
  ℕ,
  Bool,
  true,
  false,
  List,
  [],
  ◌∷◌,
  ◌++◌,
  Option,
  Some,
  None,
  refl,
  sym,
  ap,
  subst,
  ◌∙◌,
  append_assoc,
  append-nil,
  add-one,
  drop-cons,
  suc,
  ◌+◌,
  Bor,
  drop,
}
use Rattle.std.specs.Prelude.{map}
use Rattle.std.specs.List.{list_any}
use Rattle.std.specs.Slice.{IsItemAt}
use Rattle.std.specs.Io.KnownBytes.{Appends}
use Rattle.std.proofs.KnownBytes.{Appends-nil, Appends-trans}
use Rattle.std.proofs.lemmas.Grind.{flat_map-append}
use Rattle.install_list.specs.declared.making.Outcome.{Outcome}
use Rattle.install_list.specs.declared.statuses.InstallStatus.{InstallStatus}
use Rattle.install_list.specs.declared.statuses.InstallStatus.TheVariants as status
use Rattle.install_list.specs.declared.words.Verb.{Verb}
use Rattle.install_list.specs.Printing.{
  Report,
  report_text,
  outcome_text,
  reports_text,
  numbers_of,
  is_done,
  is_failed,
  is_undone,
  IsFrontOf,
  Puts,
  Cuts,
}
use Rattle.install_list.specs.Endings.{IsRest, IsTurned, Ends}
use Rattle.install_list.proofs.TextFronts.{front_self, front_behind}

-- ---- lists

map_both : {A B : Type 0} (f : A → B) (xs ys : List A) → map f (xs ++ ys) ≡ map f xs ++ map f ys
map_both f [] ys = refl
map_both f (x ∷ xs) ys = ap (λ l. f x ∷ l) (map_both f xs ys)

or_both : (a b c : Bool) → (a || (b || c)) ≡ ((a || b) || c)
or_both true b c = refl
or_both false b c = refl

or_false : (a : Bool) → (a || false) ≡ a
or_false true = refl
or_false false = refl

any_both : {A : Type 0} (p : A → Bool) (xs ys : List A)
    → list_any p (xs ++ ys) ≡ (list_any p xs || list_any p ys)
any_both p [] ys = refl
any_both p (x ∷ xs) ys =
    ap (λ (b : Bool). p x || b) (any_both p xs ys) ∙ or_both (p x) (list_any p xs) (list_any p ys)

-- ---- lines that were written

pub puts_one : (v : Verb) (left more : List ℕ) (was is : Bool) (holds now : Option (List ℕ))
    (n : ℕ) (o : Outcome)
    → left ≡ n ∷ more
    → is ≡ (was || not (is_done o.end))
    → Appends holds now (outcome_text v n o)
    → Puts v left more was is holds now
puts_one v left more was is holds now n o cut same wrote = (
  (n, o) ∷ [],
  cut,
  same ∙ ap (λ (b : Bool). was || b) (sym (or_false (not (is_done o.end)))),
  subst (Appends holds now) (sym (append-nil (outcome_text v n o))) wrote,
)

pub puts_then : (v : Verb) (left mid more : List ℕ) (was half is : Bool)
    (holds between now : Option (List ℕ))
    → Puts v left mid was half holds between
    → Puts v mid more half is between now
    → Puts v left more was is holds now
puts_then v left mid more was half is holds between now first second = (
  first.0 ++ second.0,
  first.1
      ∙ ap (λ (l : List ℕ). numbers_of first.0 ++ l) second.1
      ∙ sym (append_assoc (numbers_of first.0) (numbers_of second.0) more)
      ∙ ap (λ (l : List ℕ). l ++ more) (sym (map_both (λ (r : Report). r.0) first.0 second.0)),
  second.2
      ∙ ap (λ (b : Bool). b || is_undone second.0) first.2
      ∙ sym (or_both was (is_undone first.0) (is_undone second.0))
      ∙ ap (λ (b : Bool). was || b) (sym (any_both is_failed first.0 second.0)),
  subst (Appends holds now) (sym (flat_map-append (report_text v) first.0 second.0))
      (Appends-trans holds between now _ _ first.3 second.3),
)

-- ---- a prefix of them

pub puts_front : (v : Verb) (left more : List ℕ) (was is : Bool) (holds now : Option (List ℕ))
    → Puts v left more was is holds now
    → Cuts v left holds now
puts_front v left more was is holds now p =
    (p.0, more, reports_text v p.0, p.1, front_self (reports_text v p.0), p.3)

pub cuts_none : (v : Verb) (left : List ℕ) (holds : Option (List ℕ)) → Cuts v left holds holds
cuts_none v left holds = ([], left, [], refl, front_self [], Appends-nil holds)

pub cuts_one : (v : Verb) (left more : List ℕ) (holds now : Option (List ℕ)) (n : ℕ) (o : Outcome)
    → left ≡ n ∷ more
    → (text : List ℕ) × IsFrontOf text (outcome_text v n o) × Appends holds now text
    → Cuts v left holds now
cuts_one v left more holds now n o cut wrote = (
  (n, o) ∷ [],
  more,
  wrote.0,
  cut,
  subst (IsFrontOf wrote.0) (sym (append-nil (outcome_text v n o))) wrote.1,
  wrote.2,
)

pub puts_cut : (v : Verb) (left mid : List ℕ) (was half : Bool)
    (holds between now : Option (List ℕ))
    → Puts v left mid was half holds between
    → Cuts v mid between now
    → Cuts v left holds now
puts_cut v left mid was half holds between now first second = (
  first.0 ++ second.0,
  second.1,
  reports_text v first.0 ++ second.2,
  first.1
      ∙ ap (λ (l : List ℕ). numbers_of first.0 ++ l) second.3
      ∙ sym (append_assoc (numbers_of first.0) (numbers_of second.0) second.1)
      ∙ ap (λ (l : List ℕ). l ++ second.1)
      (sym (map_both (λ (r : Report). r.0) first.0 second.0)),
  subst (IsFrontOf (reports_text v first.0 ++ second.2))
      (sym (flat_map-append (report_text v) first.0 second.0))
      (front_behind (reports_text v first.0) second.2 (reports_text v second.0) second.4),
  Appends-trans holds between now _ _ first.3 second.5,
)

-- ---- an iteration

-- after lines that were written
pub then_ends : (v : Verb) (left mid : List ℕ) (was half : Bool)
    (holds between now : Option (List ℕ)) (s : InstallStatus)
    → Puts v left mid was half holds between
    → Ends v s mid half between now
    → Ends v s left was holds now
then_ends v left mid was half holds between now status.Done first h =
    puts_then v left mid [] was half false holds between now first h
then_ends v left mid was half holds between now status.Undone first h =
    puts_then v left mid [] was half true holds between now first h
then_ends v left mid was half holds between now status.Link first h =
    puts_cut v left mid was half holds between now first h
then_ends v left mid was half holds between now status.Write first h =
    puts_cut v left mid was half holds between now first h
then_ends v left mid was half holds between now status.Memory first h =
    puts_cut v left mid was half holds between now first h
then_ends v left mid was half holds between now status.Usage first h = absurd h
then_ends v left mid was half holds between now status.Unread first h = absurd h
then_ends v left mid was half holds between now (status.Line n why) first h = absurd h

-- no line was to be written
ends_whole : (v : Verb) (left more : List ℕ) (was is last : Bool) (holds now : Option (List ℕ))
    → Puts v left more was is holds now
    → more ≡ []
    → is ≡ last
    → Puts v left [] was last holds now
ends_whole v left more was is last holds now first none same =
    subst (λ (b : Bool). Puts v left [] was b holds now) same
    (subst (λ (l : List ℕ). Puts v left l was is holds now) none first)

pub rest_turned : (v : Verb) (r : Option InstallStatus) (left more : List ℕ) (was is : Bool)
    (holds now : Option (List ℕ))
    → Puts v left more was is holds now
    → IsRest r more is
    → IsTurned v r left more was is holds now
rest_turned v None left more was is holds now first h = first
rest_turned v (Some status.Done) left more was is holds now first h =
    ends_whole v left more was is false holds now first h.0 h.1
rest_turned v (Some status.Undone) left more was is holds now first h =
    ends_whole v left more was is true holds now first h.0 h.1
rest_turned v (Some status.Link) left more was is holds now first h =
    puts_front v left more was is holds now first
rest_turned v (Some status.Memory) left more was is holds now first h =
    puts_front v left more was is holds now first
rest_turned v (Some status.Write) left more was is holds now first h = absurd h
rest_turned v (Some status.Usage) left more was is holds now first h = absurd h
rest_turned v (Some status.Unread) left more was is holds now first h = absurd h
rest_turned v (Some (status.Line n why)) left more was is holds now first h = absurd h

-- ---- the next number

-- the number at an index is the first of those that are left
pub at_cons : (xs : List ℕ) (k : ℕ) (r : Option (Bor ℕ)) (x : Bor ℕ)
    → IsItemAt xs k r
    → r ≡ Some x
    → drop k xs ≡ x.now ∷ drop (k + 1) xs
at_cons xs k r x item e =
    let own = subst (λ (o : Option (Bor ℕ)). IsItemAt xs k o) e item in
    rw (add-one k)
    (drop-cons xs k x.now own.3.0 ∙ ap (λ (y : ℕ). y ∷ drop (suc k) xs) (sym own.1))

-- the same after one number
pub left_next : (xs ys zs : List ℕ) (k j n : ℕ)
    → drop k xs ≡ n ∷ drop (k + 1) xs
    → xs ≡ ys
    → zs ≡ ys
    → j ≡ k + 1
    → drop k ys ≡ n ∷ drop j zs
left_next xs ys zs k j n cut e f g =
    let here : drop k ys ≡ n ∷ drop (k + 1) ys =
    subst (λ (l : List ℕ). drop k l ≡ n ∷ drop (k + 1) l) e cut in
    here
    ∙ ap (λ (l : List ℕ). n ∷ drop (k + 1) l) (sym f)
    ∙ ap (λ (m : ℕ). n ∷ drop m zs) (sym g)
