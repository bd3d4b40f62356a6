-- What is known of the lists of a link across calls.
use Rattle.std.proofs.Common.{◌≡◌, ℕ, List, [], ◌∷◌, ◌++◌, Option, Some, None, subst, inl, inr}
use Rattle.std.proofs.Common.{◌⊎◌}
use Rattle.udp_link.specs.declared.links.Went.{Went}
use Rattle.udp_link.specs.declared.links.Went.TheVariants as went
use Rattle.udp_link.specs.Links.{AddsLast, Datagram}
use Rattle.udp_link.specs.Told.{Stays, WhereTold}
use Rattle.rd_base.specs.declared.peers.Host.TheVariants as host
use Rattle.rd_base.specs.declared.peers.Peer.{Peer}
use Rattle.hosting.specs.Refusals.{AnswersAtMost, AnswersOne}

module _ {A : Type 0} where
  -- a list that stays, and then changes so
  pub told_after : (R : List A → List A → Type 0) (before middle now : Option (List A))
      → Stays before middle → WhereTold R middle now → WhereTold R before now
  told_after R None middle now s h = tt
  told_after R (Some b) None now s h = absurd s
  told_after R (Some b) (Some m) None s h = h
  told_after R (Some b) (Some m) (Some n) s h = subst (λ (x : List A). R x n) s h

  -- what follows of a change
  pub told_so : (R S : List A → List A → Type 0) (before now : Option (List A))
      → ((b n : List A) → R b n → S b n) → WhereTold R before now → WhereTold S before now
  told_so R S None now f h = tt
  told_so R S (Some b) None f h = h
  told_so R S (Some b) (Some n) f h = f b n h

  -- a list that nothing was done to
  pub told_still : (R : List A → List A → Type 0) (told : Option (List A))
      → ((b : List A) → R b b) → WhereTold R told told
  told_still R None f = tt
  told_still R (Some b) f = f b

-- a send adds the datagram, or nothing
pub adds : (w : Went) (d : Datagram) (b n : List Datagram) → AddsLast w d b n
    → (n ≡ b) ⊎ (n ≡ b ++ d ∷ [])
adds went.Sent d b n h = inr h
adds went.Failed d b n h = inl h

nobody : Peer
nobody = record { host = host.V4 []; port = 0 }

-- nothing is sent
pub told_stays : (most : ℕ) (before now : Option (List Datagram)) → Stays before now
    → WhereTold (AnswersOne most) before now
told_stays most before now s =
    told_so (λ old new. new ≡ old) (AnswersOne most) before now
    (λ b n e. ((nobody, []), inl e)) s

-- a list that stays, and then changes by an answer to a datagram
pub told_one : (d : Datagram) (most : ℕ) (before middle now : Option (List Datagram))
    → Stays before middle → WhereTold (AnswersAtMost d most) middle now
    → WhereTold (AnswersOne most) before now
told_one d most before middle now s h =
    told_so (AnswersAtMost d most) (AnswersOne most) before now (λ b n a. (d, a))
    (told_after (AnswersAtMost d most) before middle now s h)
