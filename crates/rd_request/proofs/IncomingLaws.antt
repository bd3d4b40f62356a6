-- What a datagram is, and what is heard, looked at and written by it.
use Rattle.std.proofs.Common.{
  ◌≡◌,
  ℕ,
  Bool,
  true,
  false,
  not,
  ◌&&◌,
  ◌||◌,
  List,
  Option,
  Some,
  is_none,
  Err,
  None,
  ◌==◌,
  refl,
  sym,
  ap,
  ap₂,
  eqb-true,
  ◌∙◌,
}
use Rattle.std.specs.Prelude.{if◌then◌else◌}
use Rattle.std.proofs.lemmas.Bool.{false≢true}
use Rattle.message_model.specs.declared.messages.Role.{Role}
use Rattle.message_model.specs.declared.messages.Role.TheVariants as role
use Rattle.message_model.specs.declared.messages.Unread.{Unread}
use Rattle.message_model.specs.declared.requests.Path.{Path}
use Rattle.message_model.specs.declared.requests.Path.TheVariants as path
use Rattle.message_model.specs.declared.requests.Refusal.{Refusal}
use Rattle.message_model.specs.declared.requests.Refusal.TheVariants as refusal
use Rattle.message_model.specs.Message.{Message}
use Rattle.message_model.specs.Reading.{reading}
use Rattle.message_model.specs.Codes as codes_of
use Rattle.message_model.specs.OptionTable.{first_bad_option}
use Rattle.message_model.specs.Refusals.{
  is_nowhere,
  refusal_of,
  refusal_after_options,
  option_refusal_or,
}
use Rattle.message_model.specs.Request.{path_in, observe_in, has_proxy, allowed}
use Rattle.coap_message.specs.Views.{message_in}
use Rattle.journal_model.specs.Effects.{Reply}
use Rattle.journal_model.specs.Machine.{is_look_message, is_look_reading, is_look_datagram}
use Rattle.journal_model.specs.Requests.{
  Method,
  get,
  post,
  put,
  delete,
  other_method,
  method_of,
  refusal_of_request,
  is_discovery,
  is_lookup,
  is_location,
  is_get,
  is_later_block,
  is_heeded,
  is_write,
  is_changing,
  reads_registration,
  refusal_or_next,
  only_looks,
  is_look_request,
}
use Rattle.rd_request.specs.declared.accepted.Request.{Request}
use Rattle.rd_request.specs.declared.incoming.Incoming.{Incoming}
use Rattle.rd_request.specs.declared.incoming.Incoming.TheVariants as incoming
use Rattle.rd_request.specs.Accepted.{message_of}
use Rattle.rd_request.specs.Incoming.{IsFor, IsIncoming, looks}
use Rattle.rd_request.specs.WriteRequests.{writes_to_registrations}

-- ---- what only looks

look_for : (r : Role) (datagram : List ℕ) (m : Message)
    → IsFor r datagram m
    → is_look_datagram datagram ≡ is_look_message r m
unfolding is_look_datagram
look_for r datagram m is =
    ap is_look_reading is.read ∙ ap (λ (x : Role). is_look_message x m) is.role_is

look_unread : (datagram : List ℕ) (fault : Unread)
    → reading datagram ≡ Err fault
    → is_look_datagram datagram ≡ false
unfolding is_look_datagram
look_unread datagram fault unread = ap is_look_reading unread

refused_looks : (m : Message) (reply : Reply)
    → refusal_of_request m ≡ Some reply
    → is_look_request m ≡ false
unfolding is_look_request
refused_looks m reply refused = ap (λ (o : Option Reply). is_none o && only_looks m) refused

accepted_looks : (m : Message)
    → is_none (refusal_of_request m) ≡ true
    → is_look_request m ≡ only_looks m
unfolding is_look_request
accepted_looks m accepted = ap (λ (b : Bool). b && only_looks m) accepted

-- what writes does not only look
writes_looks_not : (m : Message) → writes_to_registrations m ≡ true → only_looks m ≡ false
writes_looks_not m writes =
    at (path_in m) (method_of m.code) (not (is_later_block m)) (not (is_heeded (observe_in m)))
    writes
  where
    on_location : (method : Method) (number : ℕ) (first plain : Bool)
        → is_write (path.Location number) method ≡ true
        → (is_discovery (path.Location number)
        || (is_lookup (path.Location number) && first && plain)
        || ((is_location (path.Location number) && is_get method) && first))
        ≡ false
    on_location get number first plain h = cc
    on_location post number first plain h = refl
    on_location put number first plain h = refl
    on_location delete number first plain h = refl
    on_location other_method number first plain h = cc

    at : (p : Path) (method : Method) (first plain : Bool)
        → is_write p method ≡ true
        → (is_discovery p || (is_lookup p && first && plain)
        || ((is_location p && is_get method) && first))
        ≡ false
    at path.Core method first plain h = cc
    at path.SimpleRd method first plain h = refl
    at path.Rd method first plain h = refl
    at (path.Location number) method first plain h = on_location method number first plain h
    at path.Res method first plain h = cc
    at path.Ep method first plain h = cc
    at path.Other method first plain h = cc

pub looks_is : (datagram : List ℕ) (x : Incoming)
    → IsIncoming datagram x
    → is_look_datagram datagram ≡ looks x
looks_is datagram (incoming.Unread fault) is = look_unread datagram fault is
looks_is datagram incoming.Nothing is = look_for role.Ignored datagram is.0 is.1
looks_is datagram (incoming.Ping view) is = look_for role.Ping datagram (message_in view) is
looks_is datagram (incoming.Acknowledgement view) is =
    look_for role.Acknowledgement datagram (message_in view) is
looks_is datagram (incoming.Reset view) is = look_for role.Reset datagram (message_in view) is
looks_is datagram (incoming.Response view) is = look_for role.Response datagram (message_in view) is
looks_is datagram (incoming.Refused view refused) is =
    look_for role.Request datagram (message_in view) is.request
    ∙ refused_looks (message_in view) _ is.answer
looks_is datagram (incoming.Look request) is =
    look_for role.Request datagram (message_of request) is.0
    ∙ (accepted_looks (message_of request) request.accepted ∙ is.1)
looks_is datagram (incoming.Lookup request) is =
    look_for role.Request datagram (message_of request) is.0
    ∙ (accepted_looks (message_of request) request.accepted ∙ is.1)
looks_is datagram (incoming.Read request) is =
    look_for role.Request datagram (message_of request) is.0
    ∙ (accepted_looks (message_of request) request.accepted ∙ is.1)
looks_is datagram (incoming.Write request) is =
    look_for role.Request datagram (message_of request) is.0
    ∙ (accepted_looks (message_of request) request.accepted
    ∙ writes_looks_not (message_of request) is.1)

-- ---- requests on a registration

-- a GET reads it
pub reads_location : (m : Message)
    → is_location (path_in m) ≡ true
    → m.code ≡ codes_of.get
    → reads_registration m ≡ true
reads_location m at gets =
    ap₂ (λ (a b : Bool). a && b) at (ap (λ (code : ℕ). is_get (method_of code)) gets)

-- a read of a further block does not only look, and one of a first block does
pub further_looks_not : (m : Message)
    → reads_registration m ≡ true
    → is_later_block m ≡ true
    → only_looks m ≡ false
further_looks_not m reads later =
    at (path_in m) (method_of m.code) (is_later_block m) (not (is_heeded (observe_in m))) reads
    later
  where
    at : (p : Path) (method : Method) (further plain : Bool)
        → (is_location p && is_get method) ≡ true
        → further ≡ true
        → (is_discovery p || (is_lookup p && not further && plain)
        || ((is_location p && is_get method) && not further))
        ≡ false
    at (path.Location number) get true plain h k = refl
    at (path.Location number) get false plain h k = cc
    at (path.Location number) post further plain h k = cc
    at (path.Location number) put further plain h k = cc
    at (path.Location number) delete further plain h k = cc
    at (path.Location number) other_method further plain h k = cc
    at path.Core method further plain h k = cc
    at path.SimpleRd method further plain h k = cc
    at path.Rd method further plain h k = cc
    at path.Res method further plain h k = cc
    at path.Ep method further plain h k = cc
    at path.Other method further plain h k = cc

pub first_looks : (m : Message)
    → reads_registration m ≡ true
    → is_later_block m ≡ false
    → only_looks m ≡ true
first_looks m reads first =
    at (path_in m) (method_of m.code) (is_later_block m) (not (is_heeded (observe_in m))) reads
    first
  where
    at : (p : Path) (method : Method) (further plain : Bool)
        → (is_location p && is_get method) ≡ true
        → further ≡ false
        → (is_discovery p || (is_lookup p && not further && plain)
        || ((is_location p && is_get method) && not further))
        ≡ true
    at (path.Location number) get false plain h k = refl
    at (path.Location number) get true plain h k = cc
    at (path.Location number) post further plain h k = cc
    at (path.Location number) put further plain h k = cc
    at (path.Location number) delete further plain h k = cc
    at (path.Location number) other_method further plain h k = cc
    at path.Core method further plain h k = cc
    at path.SimpleRd method further plain h k = cc
    at path.Rd method further plain h k = cc
    at path.Res method further plain h k = cc
    at path.Ep method further plain h k = cc
    at path.Other method further plain h k = cc

-- a request that is not refused has a method of its path
allowed_there : (m : Message)
    → refusal_of_request m ≡ None
    → allowed (path_in m) m.code ≡ true
unfolding refusal_of_request refusal_of refusal_after_options
allowed_there m fine =
    by (first_bad_option m.options) (has_proxy m) (is_nowhere (path_in m))
    (allowed (path_in m) m.code) _ fine
  where
    by : (bad : Option ℕ) (proxy nowhere has : Bool) (later : Option Refusal)
        → refusal_or_next (option_refusal_or bad
        (if proxy then Some refusal.Proxy else if nowhere then Some refusal.Path else if not has
        then Some refusal.Method else later)) m
        ≡ None
        → has ≡ true
    by (Some number) proxy nowhere has later h = cc
    by None true nowhere has later h = cc
    by None false true has later h = cc
    by None false false true later h = refl
    by None false false false later h = cc

-- so one that is no GET writes to it
pub changes_location : (m : Message)
    → refusal_of_request m ≡ None
    → is_location (path_in m) ≡ true
    → (m.code ≡ codes_of.get → ⊥)
    → writes_to_registrations m ≡ true
changes_location m fine location other = at (path_in m) location (allowed_there m fine)
  where
    by : (gets posts puts deletes : Bool)
        → (gets ≡ true → ⊥)
        → (gets || posts || puts || deletes) ≡ true
        → is_changing (if gets then get else if posts then post else if puts then put else if
        deletes then delete else other_method)
        ≡ true
    by true posts puts deletes e h = absurd (e refl)
    by false true puts deletes e h = refl
    by false false true deletes e h = refl
    by false false false true e h = refl
    by false false false false e h = cc

    at : (p : Path)
        → is_location p ≡ true
        → allowed p m.code ≡ true
        → is_write p (method_of m.code) ≡ true
    at path.Core h k = cc
    at path.SimpleRd h k = cc
    at path.Rd h k = cc
    at (path.Location number) h k =
        by (m.code == codes_of.get) (m.code == codes_of.post) (m.code == codes_of.put)
        (m.code == codes_of.delete) (λ e. other (eqb-true m.code codes_of.get e)) k
    at path.Res h k = cc
    at path.Ep h k = cc
    at path.Other h k = cc

-- where it does, nothing else is left
pub only_looks_left : (x : Incoming)
    → looks x ≡ true
    → ((request : Request) → x ≡ incoming.Look request → ⊥)
    → ⊥
only_looks_left (incoming.Look request) h none = none request refl
only_looks_left _ h none = cc

-- what is nothing that only looks is no look
pub looks_not_as : (datagram : List ℕ) (x : Incoming)
    → IsIncoming datagram x
    → ((request : Request) → x ≡ incoming.Look request → ⊥)
    → is_look_datagram datagram ≡ false
looks_not_as datagram x is none = looks_is datagram x is ∙ other x none where
  other : (y : Incoming) → ((request : Request) → y ≡ incoming.Look request → ⊥)
      → looks y ≡ false
  other (incoming.Unread fault) none = refl
  other incoming.Nothing none = refl
  other (incoming.Ping view) none = refl
  other (incoming.Acknowledgement view) none = refl
  other (incoming.Reset view) none = refl
  other (incoming.Response view) none = refl
  other (incoming.Refused view refused) none = refl
  other (incoming.Look request) none = absurd (none request refl)
  other (incoming.Lookup request) none = refl
  other (incoming.Read request) none = refl
  other (incoming.Write request) none = refl

-- what does not only look is no look
pub look_left : (datagram : List ℕ) (request : Request)
    → IsIncoming datagram (incoming.Look request)
    → is_look_datagram datagram ≡ false
    → ⊥
look_left datagram request is other =
    false≢true (sym other ∙ looks_is datagram (incoming.Look request) is)
