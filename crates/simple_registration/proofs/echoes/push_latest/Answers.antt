use Rattle.std.proofs.Common.{◌≡◌, ◌-◌, ◌∷◌, take, sym, ap, ◌∙◌, arith}
use Rattle.std.proofs.lemmas.List.{take_all}
use Rattle.simple_registration.proofs.echoes.push_latest.Goals.{
  then-len-eq-MAX_CHALLENGES,
  else-len-eq-MAX_CHALLENGES,
}
use Rattle.simple_registration.proofs.echoes.push_latest.Goals as goal

pub returns-clause-items : goal.returns-clause-items
returns-clause-items c =
    let before = c.args.rows.now.items in
    let ok = c.args.rows.now.ok.0 in
    let few = c.requires.few in
    let many = c.len.ensures in
    let left : c.if-len-eq-MAX_CHALLENGES.rows.items ≡ take 1_023 before =
    elim c.if-len-eq-MAX_CHALLENGES.branch [
      | then-len-eq-MAX_CHALLENGES w ↦ ap (λ r. r.items) w.rows-is ∙ (w.pop_back.ensures.rest
          ∙ ap (λ n. take (n - 1) before) (sym many ∙ w.if-len-eq-MAX_CHALLENGES.true))
      | else-len-eq-MAX_CHALLENGES w ↦ ap (λ r. r.items) w.rows-is
          ∙ sym (take_all 1_023 before
          (let other = w.if-len-eq-MAX_CHALLENGES.false in omega (arith, ok, few, many, other)))
    ] in
    c.push_front_reserved.ensures.items ∙ ap (λ xs. c.args.challenge ∷ xs) left
