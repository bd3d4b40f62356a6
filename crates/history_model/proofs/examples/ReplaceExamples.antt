-- Other links for a registration, computed (RFC 9176 section 5.3).
use Rattle.std.proofs.Common.{◌≡◌, ◌-◌, ◌^◌, List, [], ◌∷◌, map, codes, refl, Some, None, arith}
use Rattle.rd_base.specs.declared.records.Record.{Record}
use Rattle.history_model.specs.declared.entries.Entry.{Entry}
use Rattle.history_model.specs.declared.refusals.Refusal.TheVariants as refusal
use Rattle.history_model.specs.Leases.{lapse}
use Rattle.history_model.specs.Replay.{replay}
use Rattle.history_model.specs.Listing.{tag}
use Rattle.history_model.specs.Refusals.{change_refusal}
use Rattle.history_model.specs.Legal.{IsLegal}
use Rattle.history_model.proofs.LegalLaws.{IsLegalFrom-nil, IsLegalFrom_push}
use Rattle.history_model.proofs.HistoryLiterals.{history_on_literals}
use Rattle.history_model.proofs.Samples.{
  device,
  moved,
  registers,
  updates,
  replaces,
  removes,
  two_links,
  registers_two,
  resources,
  live_numbers,
}

-- a tool at another port gives a registration one other link
abbrev mended : List Entry
mended = registers_two 1000 ∷ replaces 2000 moved 1 (codes "</t>") ∷ []

-- it stands against the base of the registration, and not against that of the tool
other_link : resources (codes "ep=node1" ∷ []) mended 2000 ≡ codes "<coap://192.0.2.10/t>"
unfolding history_on_literals
other_link = refl

-- the lease is the one that the registration began
same_lapse : map lapse (replay mended).records ≡ 601_000 ∷ []
unfolding history_on_literals
same_lapse = refl

at_lapse : live_numbers mended 601_000 ≡ []
unfolding history_on_literals
at_lapse = refl

-- and all else is as it was, the attributes of the endpoint too
abbrev without_links : Record → Record
without_links r = record r { items = [] }

abbrev on_floor : Entry
on_floor = registers 1000 device (codes "ep=n" ∷ codes "base=coap://h/c/d" ∷ codes "floor=3" ∷ [])
    two_links

all_else :
    map without_links (replay (on_floor ∷ replaces 2000 moved 1 (codes "<x>;rt=a") ∷ [])).records
    ≡ map without_links (replay (on_floor ∷ [])).records
unfolding history_on_literals
all_else = refl

given_base :
    resources [] (on_floor ∷ replaces 2000 moved 1 (codes "<x>;rt=a") ∷ []) 2000
    ≡ codes "<coap://h/c/x>;rt=a"
unfolding history_on_literals
given_base = refl

-- the base is the one of that moment, and an update after it resolves the new links
base_of_that_moment :
    resources []
    (registers_two 1000 ∷ updates 2000 moved 1 [] ∷ replaces 3000 device 1 (codes "</t>") ∷ []) 3000
    ≡ codes "<coap://192.0.2.10:61616/t>"
unfolding history_on_literals
base_of_that_moment = refl

updated_after :
    resources []
    (registers_two 1000 ∷ replaces 2000 device 1 (codes "</t>") ∷ updates 3000 moved 1 [] ∷ []) 3000
    ≡ codes "<coap://192.0.2.10:61616/t>"
unfolding history_on_literals
updated_after = refl

-- no links may take the place of some
no_links : resources [] (registers_two 1000 ∷ replaces 2000 device 1 [] ∷ []) 2000 ≡ []
unfolding history_on_literals
no_links = refl

-- it is an entry
tag_of_mended : tag mended 2000 ≡ 0 ∷ 0 ∷ 0 ∷ 0 ∷ 0 ∷ 2 ∷ 0 ∷ 0 ∷ []
unfolding history_on_literals
tag_of_mended = refl

-- refused at the lapse and not a millisecond before
at_the_lapse :
    change_refusal 0 (registers_two 1000 ∷ []) (replaces 601_000 device 1 (codes "</t>"))
    ≡ Some refusal.Registration
unfolding history_on_literals
at_the_lapse = refl

before_the_lapse :
    change_refusal 0 (registers_two 1000 ∷ []) (replaces 600_999 device 1 (codes "</t>")) ≡ None
unfolding history_on_literals
before_the_lapse = refl

-- of a number that nobody has, or that was removed
of_next_number :
    change_refusal 0 (registers_two 1000 ∷ []) (replaces 2000 device 2 (codes "</t>"))
    ≡ Some refusal.Registration
unfolding history_on_literals
of_next_number = refl

of_removed :
    change_refusal 0 (registers_two 1000 ∷ removes 2000 1 ∷ [])
    (replaces 3000 device 1 (codes "</t>"))
    ≡ Some refusal.Registration
unfolding history_on_literals
of_removed = refl

-- what is not there is refused before, and then that no entry more is counted
gone_first :
    change_refusal (2 ^ 48 - 2) (registers_two 1000 ∷ []) (replaces 2000 device 2 (codes "</t>"))
    ≡ Some refusal.Registration
unfolding history_on_literals
gone_first = refl

no_more_entries :
    change_refusal (2 ^ 48 - 2) (registers_two 1000 ∷ []) (replaces 2000 device 1 (codes "</t>"))
    ≡ Some refusal.Entries
unfolding history_on_literals
no_more_entries = refl

-- a registration, other links for it and a removal are a legal history
legal : IsLegal
    (registers_two 1000 ∷ replaces 2000 moved 1 (codes "</t>") ∷ removes 600_999 1 ∷ [])
unfolding history_on_literals
legal =
    IsLegalFrom_push 0 (registers_two 1000 ∷ replaces 2000 moved 1 (codes "</t>") ∷ [])
    (removes 600_999 1)
    (IsLegalFrom_push 0 (registers_two 1000 ∷ []) (replaces 2000 moved 1 (codes "</t>"))
    (IsLegalFrom_push 0 [] (registers_two 1000) (IsLegalFrom-nil 0)
    (record { in_time = omega arith; body = (two_links, refl, refl); accepted = refl }))
    (record { in_time = omega arith; body = (codes "</t>", refl, refl); accepted = refl }))
    (record { in_time = omega arith; body = tt; accepted = refl })
