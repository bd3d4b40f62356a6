-- Leases, numbers and updates, computed.
use Rattle.std.proofs.Common.{◌≡◌, List, [], ◌∷◌, ◌++◌, map, codes, refl, Some, None, arith}
use Rattle.record_model.specs.ListingLines.{weight}
use Rattle.history_model.specs.declared.entries.Entry.{Entry}
use Rattle.history_model.specs.declared.refusals.Refusal.TheVariants as refusal
use Rattle.history_model.specs.Leases.{lapse}
use Rattle.history_model.specs.Replay.{replay}
use Rattle.history_model.specs.Live.{live}
use Rattle.history_model.specs.Listing.{tag}
use Rattle.history_model.specs.Refusals.{change_refusal}
use Rattle.history_model.specs.Legal.{IsLegal}
use Rattle.history_model.proofs.LegalLaws.{IsLegalFrom-nil, IsLegalFrom_push}
use Rattle.history_model.proofs.HistoryLiterals.{history_on_literals}
use Rattle.history_model.proofs.Samples.{
  device,
  moved,
  registers,
  updates,
  removes,
  for_ten_minutes,
  two_links,
  registers_two,
  resources,
  by_lux,
  lux,
  live_numbers,
}

-- a device registers: it is live under the first number, and weighs so much
first_number : live_numbers (registers_two 1005 ∷ []) 1005 ≡ 1 ∷ []
unfolding history_on_literals
first_number = refl

first_weight : map weight (live (registers_two 1005 ∷ []) 1005) ≡ 160 ∷ []
unfolding history_on_literals
first_weight = refl

-- nothing refuses it
first_accepted : change_refusal 0 [] (registers_two 1005) ≡ None
unfolding history_on_literals
first_accepted = refl

-- it is listed until the last millisecond of its lease
before_lapse : resources by_lux (registers_two 1000 ∷ []) 600_999 ≡ lux
unfolding history_on_literals
before_lapse = refl

tag_before_lapse : tag (registers_two 1000 ∷ []) 600_999 ≡ 0 ∷ 0 ∷ 0 ∷ 0 ∷ 0 ∷ 1 ∷ 0 ∷ 0 ∷ []
unfolding history_on_literals
tag_before_lapse = refl

-- at the moment of its lapse it has lapsed
at_lapse : resources by_lux (registers_two 1000 ∷ []) 601_000 ≡ []
unfolding history_on_literals
at_lapse = refl

tag_at_lapse : tag (registers_two 1000 ∷ []) 601_000 ≡ 0 ∷ 0 ∷ 0 ∷ 0 ∷ 0 ∷ 1 ∷ 0 ∷ 1 ∷ []
unfolding history_on_literals
tag_at_lapse = refl

-- an update is then refused, and a millisecond before it is not
update_at_lapse :
    change_refusal 0 (registers_two 1000 ∷ []) (updates 601_000 device 1 [])
    ≡ Some refusal.Registration
unfolding history_on_literals
update_at_lapse = refl

update_before_lapse :
    change_refusal 0 (registers_two 1000 ∷ []) (updates 600_999 device 1 []) ≡ None
unfolding history_on_literals
update_before_lapse = refl

-- no number is 0, and none above the last number is live
update_of_zero :
    change_refusal 0 (registers_two 1000 ∷ []) (updates 1100 device 0 [])
    ≡ Some refusal.Registration
unfolding history_on_literals
update_of_zero = refl

update_of_next :
    change_refusal 0 (registers_two 1000 ∷ []) (updates 1100 device 2 [])
    ≡ Some refusal.Registration
unfolding history_on_literals
update_of_next = refl

-- registered again after its lapse, it has the next number
again_after_lapse : live_numbers (registers_two 1000 ∷ registers_two 601_000 ∷ []) 601_000 ≡ 2 ∷ []
unfolding history_on_literals
again_after_lapse = refl

tag_after_lapse :
    tag (registers_two 1000 ∷ registers_two 601_000 ∷ []) 601_000
    ≡ 0 ∷ 0 ∷ 0 ∷ 0 ∷ 0 ∷ 2 ∷ 0 ∷ 0 ∷ []
unfolding history_on_literals
tag_after_lapse = refl

-- the first number is not live then
removal_after_lapse :
    change_refusal 0 (registers_two 1000 ∷ registers_two 601_000 ∷ []) (removes 601_000 1)
    ≡ Some refusal.Registration
unfolding history_on_literals
removal_after_lapse = refl

-- registered again while it is live, it keeps its number, and all else is replaced
again_while_live :
    live_numbers (registers_two 1000
    ∷ registers 2000 device for_ten_minutes
    (codes "</light>;rt=\"light-lux\";if=\"sensor\"")
    ∷ []) 2000
    ≡ 1 ∷ []
unfolding history_on_literals
again_while_live = refl

replaced :
    resources (codes "ep=node1" ∷ []) (registers_two 1000
    ∷ registers 2000 device for_ten_minutes
    (codes "</light>;rt=\"light-lux\";if=\"sensor\"")
    ∷ []) 2000
    ≡ lux
unfolding history_on_literals
replaced = refl

-- a sector makes another name, and so another number
with_sector :
    live_numbers (registers_two 1000
    ∷ registers 2000 device (codes "ep=node1" ∷ codes "d=floor" ∷ []) two_links
    ∷ registers_two 3000
    ∷ []) 3000
    ≡ 1 ∷ 2 ∷ []
unfolding history_on_literals
with_sector = refl

-- a number that was removed is not used again
after_removal :
    live_numbers (registers_two 1000 ∷ removes 2000 1 ∷ registers_two 3000 ∷ []) 3000 ≡ 2 ∷ []
unfolding history_on_literals
after_removal = refl

-- an update from another port: a base that was never given becomes that of the peer
moved_base :
    resources by_lux (registers_two 1005 ∷ updates 2000 moved 1 [] ∷ []) 2000
    ≡ codes "<coap://192.0.2.10:61616/light>;rt=\"light-lux\";if=\"sensor\""
unfolding history_on_literals
moved_base = refl

tag_of_moved :
    tag (registers_two 1005 ∷ updates 2000 moved 1 [] ∷ []) 2000
    ≡ 0 ∷ 0 ∷ 0 ∷ 0 ∷ 0 ∷ 2 ∷ 0 ∷ 0 ∷ []
unfolding history_on_literals
tag_of_moved = refl

-- a registration with a base of its own
abbrev with_base : Entry
with_base =
    registers 1005 device (for_ten_minutes ++ codes "base=coap://sensor.example" ∷ []) two_links

-- it has that base before and after
given_base_before :
    resources by_lux (with_base ∷ []) 1005
    ≡ codes "<coap://sensor.example/light>;rt=\"light-lux\";if=\"sensor\""
unfolding history_on_literals
given_base_before = refl

given_base_after :
    resources by_lux (with_base ∷ updates 2000 moved 1 [] ∷ []) 2000
    ≡ codes "<coap://sensor.example/light>;rt=\"light-lux\";if=\"sensor\""
unfolding history_on_literals
given_base_after = refl

-- an update replaces the attributes that it names, and begins a lease of its own lifetime
abbrev refloored : List Entry
refloored =
    registers 1000 device (for_ten_minutes ++ codes "floor=3" ∷ []) two_links
    ∷ updates 2000 device 1 (codes "floor=4" ∷ codes "lt=60" ∷ [])
    ∷ []

updated_attribute :
    map (λ r. r.attrs) (replay refloored).records
    ≡ (record { name = codes "floor"; value = codes "4" } ∷ []) ∷ []
unfolding history_on_literals
updated_attribute = refl

updated_lapse : map lapse (replay refloored).records ≡ 62_000 ∷ []
unfolding history_on_literals
updated_lapse = refl

-- an update without a lifetime begins a lease as long as before
renewed_lapse :
    map lapse (replay (registers_two 1000 ∷ updates 2000 device 1 [] ∷ [])).records ≡ 602_000 ∷ []
unfolding history_on_literals
renewed_lapse = refl

-- a registration, an update and a removal are a legal history
legal : IsLegal
    (registers_two 1000 ∷ updates 2000 moved 1 (codes "lt=60" ∷ []) ∷ removes 61_999 1 ∷ [])
unfolding history_on_literals
legal =
    IsLegalFrom_push 0 (registers_two 1000 ∷ updates 2000 moved 1 (codes "lt=60" ∷ []) ∷ [])
    (removes 61_999 1)
    (IsLegalFrom_push 0 (registers_two 1000 ∷ []) (updates 2000 moved 1 (codes "lt=60" ∷ []))
    (IsLegalFrom_push 0 [] (registers_two 1000) (IsLegalFrom-nil 0)
    (record { in_time = omega arith; body = (two_links, refl, refl); accepted = refl }))
    (record { in_time = omega arith; body = tt; accepted = refl }))
    (record { in_time = omega arith; body = tt; accepted = refl })
