-- Which requests are answered without a seat, and the name of a query option.
use Rattle.std.proofs.Common.{
  ◌≡◌,
  ℕ,
  ◌+◌,
  ◌<◌,
  false,
  Option,
  Some,
  None,
  List,
  [],
  ◌∷◌,
  ◌++◌,
  take,
  drop,
  length,
  refl,
  sym,
  ap,
  ◌∙◌,
  append_assoc,
  append-nil,
  arith,
  if◌then◌else◌,
}
use Rattle.std.proofs.Math.ListN.{get_or}
use Rattle.std.proofs.Math.Seq.{take-add, drop-length}
use Rattle.std.proofs.lemmas.List.{drop_more, take_all}
use Rattle.std.proofs.lemmas.Bool.{ne_eqb}
use Rattle.reference_model.specs.References.{before}
use Rattle.record_model.specs.Options.{option_name}
use Rattle.message_model.specs.Message.{Message}
use Rattle.message_model.specs.OptionTable.{first_bad_option}
use Rattle.message_model.specs.Refusals.{refusal_of, refusal_after_options, option_refusal_or}
use Rattle.message_model.specs.declared.requests.Refusal.{Refusal}
use Rattle.message_model.specs.declared.requests.Refusal.TheVariants as refusal
use Rattle.coap_stream.specs.declared.refusing.Unasked.TheVariants as unasked_for
use Rattle.coap_stream.specs.Requests.{is_before_method, is_simple, unasked_of}

-- ---- names

pub name_here : (query : List ℕ) (i d : ℕ)
    → i < length query
    → get_or query i d ≡ 61
    → option_name query ≡ take i query ++ option_name (drop i query)
    → take i query ≡ option_name query
unfolding before
name_here query i d lt is so_far =
    let none : option_name (drop i query) ≡ [] =
    ap option_name (drop_more query i d lt) ∙ rw is refl in
    sym (so_far ∙ ap (λ (l : List ℕ). take i query ++ l) none ∙ append-nil (take i query))

take_more : (query : List ℕ) (i d : ℕ)
    → i < length query
    → take (i + 1) query ≡ take i query ++ get_or query i d ∷ []
take_more query i d lt =
    take-add i 1 query ∙ ap (λ (l : List ℕ). take i query ++ take 1 l) (drop_more query i d lt)

pub name_further : (query : List ℕ) (i d : ℕ)
    → i < length query
    → (get_or query i d ≡ 61 → ⊥)
    → option_name query ≡ take i query ++ option_name (drop i query)
    → option_name query ≡ take (i + 1) query ++ option_name (drop (i + 1) query)
unfolding before
name_further query i d lt other so_far =
    let x = get_or query i d in
    let next : option_name (drop i query) ≡ x ∷ option_name (drop (i + 1) query) =
    ap option_name (drop_more query i d lt) ∙ rw (ne_eqb x 61 other) refl in
    so_far
    ∙ ap (λ (l : List ℕ). take i query ++ l) next
    ∙ sym (append_assoc (take i query) (x ∷ []) (option_name (drop (i + 1) query)))
    ∙ ap (λ (l : List ℕ). l ++ option_name (drop (i + 1) query)) (sym (take_more query i d lt))

pub name_ends : (query : List ℕ) (i : ℕ)
    → i ≡ length query
    → option_name query ≡ take i query ++ option_name (drop i query)
    → query ≡ option_name query
unfolding before
name_ends query i ends so_far =
    let all : take i query ≡ query = take_all i query (omega (arith, ends)) in
    let none : option_name (drop i query) ≡ [] =
    ap option_name (ap (λ (n : ℕ). drop n query) ends ∙ drop-length query) in
    sym (so_far ∙ ap (λ (l : List ℕ). take i query ++ l) none ∙ append-nil (take i query)
    ∙ all)

-- ---- refusals

pub late_refusal : (m : Message) (why : Refusal) (number : ℕ)
    → refusal_of m ≡ Some why
    → is_before_method why ≡ false
    → first_bad_option m.options ≡ Some number
    → ⊥
unfolding refusal_of
late_refusal m why number e late bad =
    let same : Some (refusal.BadOption number) ≡ Some why =
    sym (ap (λ (o : Option ℕ). option_refusal_or o (refusal_after_options m)) bad) ∙ e in
    not_late why number same late
  where
    not_late : (r : Refusal) (n : ℕ)
        → Some (refusal.BadOption n) ≡ Some r
        → is_before_method r ≡ false
        → ⊥
    not_late (refusal.BadOption k) n same late = cc
    not_late refusal.Proxy n same late = cc
    not_late refusal.Path n same late = cc
    not_late refusal.Method n same late = cc
    not_late refusal.Block n same late = cc
    not_late refusal.Accept n same late = cc
    not_late refusal.Format n same late = cc

pub unasked_late : (m : Message) (why : Refusal)
    → refusal_of m ≡ Some why
    → is_before_method why ≡ false
    → unasked_of m ≡ (if is_simple m then Some unasked_for.Simple else None)
unasked_late m why e late = rw (e, late) refl
