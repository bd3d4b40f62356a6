-- Effects one after the other, and the Message IDs that they draw.
use Rattle.std.proofs.Common.{
  ◌≡◌,
  ℕ,
  zero,
  suc,
  ◌+◌,
  ◌%◌,
  ◌^◌,
  List,
  refl,
  ap,
  ◌∙◌,
  append_assoc,
  append-nil,
  arith,
}
use Rattle.std.proofs.Math.Nat.{mod-add-mod}
use Rattle.rd_base.specs.declared.peers.Peer.{Peer}
use Rattle.event_model.specs.declared.notes.Note.{Note}
use Rattle.journal_model.specs.Effects.{Effects, nothing, joined}
use Rattle.journal_model.specs.UnfinishedRow.{drawing}

-- effects with equal parts
pub effects_same : (e f : Effects) → e.sent ≡ f.sent → e.notes ≡ f.notes → e.drew ≡ f.drew → e ≡ f
effects_same e f sent notes drew =
    let made =
    λ (xs : List (Peer × List ℕ)) (ns : List Note) (n : ℕ). let x : Effects = record
    { sent = xs; notes = ns; drew = n } in x in
    ap (λ (xs : List (Peer × List ℕ)). made xs e.notes e.drew) sent
    ∙ (ap (λ (ns : List Note). made f.sent ns e.drew) notes
    ∙ ap (λ (n : ℕ). made f.sent f.notes n) drew)

-- nothing before others, and nothing after them
pub joined-nothing_first : (e : Effects) → joined nothing e ≡ e
joined-nothing_first e =
    let n : 0 + e.drew ≡ e.drew = omega arith in effects_same (joined nothing e) e refl refl n

pub joined-nothing : (e : Effects) → joined e nothing ≡ e
joined-nothing e =
    let n : e.drew + 0 ≡ e.drew = omega arith in
    effects_same (joined e nothing) e (append-nil e.sent) (append-nil e.notes) n

pub joined-assoc : (a b c : Effects) → joined (joined a b) c ≡ joined a (joined b c)
joined-assoc a b c =
    let n : (a.drew + b.drew) + c.drew ≡ a.drew + (b.drew + c.drew) = omega arith in
    effects_same (joined (joined a b) c) (joined a (joined b c)) (append_assoc a.sent b.sent c.sent)
    (append_assoc a.notes b.notes c.notes) n

-- Message IDs that are drawn one after the other
pub drawing-more : (a b d : ℕ) → drawing b (drawing a d) ≡ drawing (a + b) d
drawing-more zero b d = let e : b ≡ 0 + b = omega arith in ap (λ n. drawing n d) e
drawing-more (suc k) zero d = let e : suc k ≡ suc k + 0 = omega arith in ap (λ n. drawing n d) e
drawing-more (suc k) (suc n) d =
    let e : suc (k + suc n) ≡ suc k + suc n = omega arith in
    let f : (d + suc k) + suc n ≡ d + suc (k + suc n) = omega arith in
    mod-add-mod (d + suc k) (2 ^ 64) (suc n) ∙ (ap (λ x. x % 2 ^ 64) f ∙ ap (λ x. drawing x d) e)
