-- The datagram of a write that nothing refuses, and what is read of it.
use Rattle.std.proofs.Common.{
  ◌≡◌,
  ℕ,
  true,
  ◌&&◌,
  List,
  Option,
  Some,
  None,
  is_none,
  Result,
  Ok,
  refl,
  subst,
  sym,
}
use Rattle.std.proofs.lemmas.Bool.{and_parts, false≢true}
use Rattle.message_model.specs.declared.messages.Role.{Role}
use Rattle.message_model.specs.declared.messages.Role.TheVariants as role
use Rattle.message_model.specs.declared.messages.Unread.{Unread}
use Rattle.message_model.specs.Message.{Message, role_of}
use Rattle.message_model.specs.Reading.{reading}
use Rattle.journal_model.specs.Effects.{Reply}
use Rattle.journal_model.specs.Requests.{refusal_of_request}
use Rattle.rd_request.specs.WriteRequests.{
  is_write_message,
  is_write_reading,
  is_write_datagram,
  writes_to_registrations,
}

-- a request that is such a write is one by its datagram
pub write_datagram : (datagram : List ℕ) (m : Message)
    → reading datagram ≡ Ok m
    → role_of m.kind m.code ≡ role.Request
    → refusal_of_request m ≡ None
    → writes_to_registrations m ≡ true
    → is_write_datagram datagram ≡ true
unfolding is_write_datagram
write_datagram datagram m read request none writes =
    subst (λ (r : Result Message Unread). is_write_reading r ≡ true) (sym read)
    (subst (λ (r : Role). is_write_message r m ≡ true) (sym request)
    (subst (λ (o : Option Reply). (is_none o && writes_to_registrations m) ≡ true) (sym none)
    writes))

none_there : {A : Type 0} (o : Option A) → is_none o ≡ true → o ≡ None
none_there None e = refl
none_there (Some x) e = absurd (false≢true e)

write_message : (r : Role) (m : Message)
    → is_write_message r m ≡ true
    → (refusal_of_request m ≡ None) × (writes_to_registrations m ≡ true)
write_message role.Request m h =
    let both = and_parts (is_none (refusal_of_request m)) (writes_to_registrations m) h in
    (none_there (refusal_of_request m) both.0, both.1)
write_message role.Ping m h = absurd (false≢true h)
write_message role.Acknowledgement m h = absurd (false≢true h)
write_message role.Reset m h = absurd (false≢true h)
write_message role.Response m h = absurd (false≢true h)
write_message role.Ignored m h = absurd (false≢true h)

-- nothing refuses it, and its path is that of a write
pub write_in : (datagram : List ℕ) (m : Message)
    → reading datagram ≡ Ok m
    → is_write_datagram datagram ≡ true
    → (refusal_of_request m ≡ None) × (writes_to_registrations m ≡ true)
unfolding is_write_datagram
write_in datagram m is h =
    write_message (role_of m.kind m.code) m
    (subst (λ (r : Result Message Unread). is_write_reading r ≡ true) is h)
