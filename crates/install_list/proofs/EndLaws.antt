-- What was written if memory ran out before all else, or if a list was not read.
use Rattle.std.proofs.Common.{
  ◌≡◌,
  ℕ,
  List,
  [],
  ◌∷◌,
  Option,
  Some,
  None,
  Result,
  Ok,
  Err,
  refl,
  sym,
  subst,
}
use Rattle.std.specs.Prelude.{IfSome}
use Rattle.install_list.specs.declared.entries.Entry.{Entry}
use Rattle.install_list.specs.declared.listing.ListFault.{ListFault}
use Rattle.install_list.specs.declared.listing.ListFault.TheVariants as stop
use Rattle.install_list.specs.declared.statuses.InstallStatus.{InstallStatus}
use Rattle.install_list.specs.declared.statuses.InstallStatus.TheVariants as status
use Rattle.install_list.specs.declared.words.Order.{Order}
use Rattle.install_list.specs.declared.words.Verb.{Verb}
use Rattle.install_list.specs.declared.words.Verb.TheVariants as verb
use Rattle.install_list.specs.Lists.{FirstBad, IsRead, listed}
use Rattle.install_list.specs.Endings.{Writes, IsWritten, numbered, list_status}
use Rattle.install_list.proofs.PutLaws.{cuts_none}

pub writes_starved : (v : Verb) (numbers : List ℕ) (holds : Option (List ℕ))
    → Writes v numbers status.Memory holds holds
writes_starved verb.Register numbers holds = cuts_none verb.Register numbers holds
writes_starved verb.Refresh numbers holds = cuts_none verb.Refresh numbers holds
writes_starved verb.Remove numbers holds = cuts_none verb.Remove numbers holds
writes_starved verb.Keep [] holds = cuts_none verb.Keep [] holds
writes_starved verb.Keep (n ∷ numbers) holds = tt

unread_written : (v : Verb) (f : ListFault) (r : Result (List Entry) FirstBad)
    (holds : Option (List ℕ))
    → IsRead (Err f) r
    → IsWritten v r (list_status f) holds holds
unread_written v stop.Unread (Ok entries) holds h = refl
unread_written v stop.Unread (Err first) holds h = refl
unread_written v stop.Starved (Ok entries) holds h = writes_starved v (numbered entries) holds
unread_written v stop.Starved (Err first) holds h = refl
unread_written v (stop.Bad n why) r holds h =
    subst (λ (x : Result (List Entry) FirstBad). IsWritten v x (status.Line n why) holds holds)
    (sym h) refl

-- by what the source exposes
pub unread_some : (left : Option (List ℕ)) (order : Order) (f : ListFault) (s : InstallStatus)
    (holds : Option (List ℕ))
    → s ≡ list_status f
    → IfSome left (λ bytes. IsRead (Err f) (listed order bytes))
    → IfSome left (λ bytes. IsWritten order.verb (listed order bytes) s holds holds)
unread_some None order f s holds e h = tt
unread_some (Some bytes) order f s holds e h =
    subst (λ (t : InstallStatus). IsWritten order.verb (listed order bytes) t holds holds) (sym e)
    (unread_written order.verb f (listed order bytes) holds h)
