-- What a look gives, by what is found, and what it does that gives this.
use Rattle.std.proofs.Common.{
  ◌≡◌,
  ℕ,
  Bool,
  true,
  false,
  not,
  ◌&&◌,
  ◌||◌,
  List,
  Option,
  Some,
  None,
  option_map,
  Result,
  Ok,
  refl,
  sym,
  ap,
  subst,
  ◌∙◌,
  is_none,
}
use Rattle.message_model.specs.declared.blocks.Block.{Block}
use Rattle.message_model.specs.declared.messages.Unread.{Unread}
use Rattle.message_model.specs.declared.requests.Path.{Path}
use Rattle.message_model.specs.declared.requests.Path.TheVariants as path
use Rattle.message_model.specs.Message.{Message, role_of}
use Rattle.message_model.specs.Request.{path_in, observe_in}
use Rattle.record_model.specs.Discovery.{discovery}
use Rattle.history_model.specs.declared.entries.Entry.{Entry}
use Rattle.history_model.specs.Listing.{listing, tag}
use Rattle.history_model.specs.Sources.{source}
use Rattle.journal_model.specs.declared.steps.Step.{Step}
use Rattle.journal_model.specs.Effects.{without_memory}
use Rattle.journal_model.specs.Requests.{
  Method,
  get,
  post,
  put,
  delete,
  other_method,
  method_of,
  is_location,
  is_get,
  is_lookup,
  is_discovery,
  is_later_block,
  is_heeded,
  only_looks,
  query_of,
  asked_block,
  refusal_of_request,
  is_look_request,
}
use Rattle.journal_model.specs.Bodies.{body_reply, is_long}
use Rattle.journal_model.specs.Sought.{source_of, sought_at, sought_of, sought_in, has_tag}
use Rattle.journal_model.specs.Looks.{
  Look,
  answered,
  held,
  names_tag,
  still_valid,
  unless_long,
  unless_valid,
  found_under,
  found_or_not,
  look_for,
  look,
  look_sent,
  look_effects,
  looked,
}
use Rattle.rd_look.specs.Looking.{look_done}
use Rattle.std.proofs.lemmas.Bool.{and_parts, false≢true}
use Rattle.message_model.specs.declared.messages.Role.{Role}
use Rattle.message_model.specs.declared.messages.Role.TheVariants as role
use Rattle.message_model.specs.Reading.{reading}
use Rattle.journal_model.specs.Machine.{is_look_message, is_look_reading, is_look_datagram}
use Rattle.rd_request.specs.Asking.{seeks_links}
use Rattle.rd_request.proofs.AskedLaws.{none_there}

-- discovery finds the links of the directory itself
pub discovered : (history : List Entry) (moment : ℕ) (m : Message) (octets : List ℕ)
    → path_in m ≡ path.Core
    → octets ≡ discovery (query_of m)
    → look history moment m ≡ Some (answered (body_reply None None (asked_block m) octets))
unfolding look
discovered history moment m octets is same =
    ap (λ (p : Path). option_map (look_for history moment m)
    (sought_at p (method_of m.code) (query_of m))) is
    ∙ ap (λ (what : List ℕ). Some (answered (body_reply None None (asked_block m) what)))
    (sym same)

-- a lookup finds a listing
pub looked_up : (history : List Entry) (moment : ℕ) (m : Message)
    → is_lookup (path_in m) ≡ true
    → look history moment m
    ≡ Some (found_under (Some (tag history moment)) m (listing (query_of m) history moment))
unfolding look
looked_up history moment m lookup = at (path_in m) lookup where
  at : (p : Path)
      → is_lookup p ≡ true
      → option_map (look_for history moment m) (sought_at p (method_of m.code) (query_of m))
      ≡ Some (found_under (Some (tag history moment)) m (listing (query_of m) history moment))
  at path.Core h = cc
  at path.SimpleRd h = cc
  at path.Rd h = cc
  at (path.Location number) h = cc
  at path.Res h = refl
  at path.Ep h = refl
  at path.Other h = cc

-- what only looks at a location is a GET
get_at : (m : Message) (number : ℕ)
    → only_looks m ≡ true
    → path_in m ≡ path.Location number
    → method_of m.code ≡ get
get_at m number looks is =
    by (method_of m.code) (not (is_later_block m)) (not (is_heeded (observe_in m)))
    (subst (λ (p : Path).
    (is_discovery p || (is_lookup p && not (is_later_block m) && not (is_heeded (observe_in m)))
    || ((is_location p && is_get (method_of m.code)) && not (is_later_block m)))
    ≡ true) is looks)
  where
    by : (method : Method) (first plain : Bool)
        → (is_discovery (path.Location number)
        || (is_lookup (path.Location number) && first && plain)
        || ((is_location (path.Location number) && is_get method) && first))
        ≡ true
        → method ≡ get
    by get first plain h = refl
    by post first plain h = cc
    by put first plain h = cc
    by delete first plain h = cc
    by other_method first plain h = cc

-- a read of a registration finds its source, where it is live
pub read_at : (history : List Entry) (moment : ℕ) (m : Message) (number : ℕ)
    → only_looks m ≡ true
    → path_in m ≡ path.Location number
    → look history moment m
    ≡ Some (found_or_not (Some (tag history moment)) m (source number history moment))
unfolding look
read_at history moment m number looks is =
    ap (λ (p : Path). option_map (look_for history moment m)
    (sought_at p (method_of m.code) (query_of m))) is
    ∙ ap (λ (method : Method). option_map (look_for history moment m) (sought_of number method))
    (get_at m number looks is)

-- what is sought at a path by a message stands under a tag
abbrev tagged_by : Path → Message → Bool
tagged_by p m = has_tag (sought_at p (method_of m.code) (query_of m))

-- what stands under a tag and is sought at the location of a registration is its source
pub seeks_source : (m : Message) (number : ℕ)
    → path_in m ≡ path.Location number
    → has_tag (sought_in m) ≡ true
    → sought_in m ≡ Some (source_of number)
seeks_source m number is tagged =
    ap (λ (p : Path). sought_at p (method_of m.code) (query_of m)) is
    ∙ by (method_of m.code)
    (subst (λ (p : Path). tagged_by p m ≡ true) is tagged)
  where
    by : (method : Method)
        → has_tag (sought_of number method) ≡ true
        → sought_of number method ≡ Some (source_of number)
    by get h = refl
    by post h = cc
    by put h = cc
    by delete h = cc
    by other_method h = cc

-- a message at a path only looks
abbrev looks_by : Path → Message → Bool
looks_by p m =
    is_discovery p
    || (is_lookup p && not (is_later_block m) && not (is_heeded (observe_in m)))
    || ((is_location p && is_get (method_of m.code)) && not (is_later_block m))

-- a registration that is made, and a simple one, is no look
pub no_look_at_rd : (m : Message) → only_looks m ≡ true → path_in m ≡ path.Rd → ⊥
no_look_at_rd m looks is =
    false≢true (ap (λ (p : Path). looks_by p m) (sym is) ∙ looks)

pub no_look_at_simple : (m : Message)
    → only_looks m ≡ true
    → path_in m ≡ path.SimpleRd
    → ⊥
no_look_at_simple m looks is =
    false≢true (ap (λ (p : Path). looks_by p m) (sym is) ∙ looks)

-- the directory's own links stand under none, and where registrations are made nothing is sought
pub no_tag_at_core : (m : Message)
    → has_tag (sought_in m) ≡ true
    → path_in m ≡ path.Core
    → ⊥
no_tag_at_core m tagged is =
    false≢true (ap (λ (p : Path). tagged_by p m) (sym is) ∙ tagged)

pub no_tag_at_rd : (m : Message)
    → has_tag (sought_in m) ≡ true
    → path_in m ≡ path.Rd
    → ⊥
no_tag_at_rd m tagged is =
    false≢true (ap (λ (p : Path). tagged_by p m) (sym is) ∙ tagged)

pub no_tag_at_simple : (m : Message)
    → has_tag (sought_in m) ≡ true
    → path_in m ≡ path.SimpleRd
    → ⊥
no_tag_at_simple m tagged is =
    false≢true (ap (λ (p : Path). tagged_by p m) (sym is) ∙ tagged)

-- links are sought by a lookup
pub lookup_seeks_links : (p : Path) → is_lookup p ≡ true → seeks_links p ≡ true
lookup_seeks_links p lookup = by (is_discovery p) (is_lookup p) lookup where
  by : (d l : Bool) → l ≡ true → (d || l) ≡ true
  by true l h = refl
  by false l h = h

-- the client has it, where it names the tag
pub found_valid : (m : Message) (given current what : List ℕ)
    → given ≡ current
    → names_tag given m ≡ true
    → found_under (Some current) m what ≡ answered (still_valid given)
found_valid m given current what same named =
    subst (λ (t : List ℕ). found_under (Some t) m what ≡ answered (still_valid given)) same
    (ap (λ b. unless_valid b m (record { body = what; tag = given })) named)

-- and else it gets it, or it is held
pub found_whole : (m : Message) (given current octets what : List ℕ)
    → given ≡ current
    → octets ≡ what
    → names_tag given m ≡ false
    → found_under (Some current) m what
    ≡ unless_long (is_long (asked_block m) octets) m (record { body = octets; tag = given })
found_whole m given current octets what same whole unnamed =
    subst (λ (t : List ℕ).
    found_under (Some t) m what
    ≡ unless_long (is_long (asked_block m) octets) m
    (record { body = octets; tag = given })) same
    (subst (λ (w : List ℕ).
    found_under (Some given) m w
    ≡ unless_long (is_long (asked_block m) octets) m
    (record { body = octets; tag = given })) whole
    (ap (λ b. unless_valid b m (record { body = octets; tag = given })) unnamed))

-- ---- what is given

-- it was told whether the listing is long
is_measured : (m : Message) (octets shown : List ℕ) (asked : Option Block) (long : Bool)
    → asked ≡ asked_block m
    → shown ≡ octets
    → long ≡ is_long asked shown
    → long ≡ is_long (asked_block m) octets
is_measured m octets shown asked long same all measured =
    measured
    ∙ (ap (λ (b : Option Block). is_long b shown) same
    ∙ ap (λ (body : List ℕ). is_long (asked_block m) body) all)

-- a listing that is not long
pub given_whole : (m : Message) (octets current shown body : List ℕ) (asked : Option Block)
    (long : Bool)
    → asked ≡ asked_block m
    → shown ≡ octets
    → long ≡ is_long asked shown
    → long ≡ false
    → body ≡ octets
    → answered (body_reply (Some current) None (asked_block m) body)
    ≡ unless_long (is_long (asked_block m) octets) m (record { body = octets; tag = current })
given_whole m octets current shown body asked long same all measured short whole =
    ap (λ (b : List ℕ). answered (body_reply (Some current) None (asked_block m) b)) whole
    ∙ ap (λ (b : Bool). unless_long b m (record { body = octets; tag = current }))
    (sym short ∙ is_measured m octets shown asked long same all measured)

-- one that is
pub given_held : (m : Message) (octets current shown : List ℕ) (asked : Option Block) (long : Bool)
    → asked ≡ asked_block m
    → shown ≡ octets
    → long ≡ is_long asked shown
    → long ≡ true
    → held (record { body = octets; tag = current })
    ≡ unless_long (is_long (asked_block m) octets) m (record { body = octets; tag = current })
given_held m octets current shown asked long same all measured yes_long =
    ap (λ (b : Bool). unless_long b m (record { body = octets; tag = current }))
    (sym yes_long ∙ is_measured m octets shown asked long same all measured)

-- nothing refuses the request of a look, and it only looks
look_request : (m : Message)
    → is_look_request m ≡ true
    → (refusal_of_request m ≡ None) × (only_looks m ≡ true)
unfolding is_look_request
look_request m h =
    let both = and_parts (is_none (refusal_of_request m)) (only_looks m) h in
    (none_there (refusal_of_request m) both.0, both.1)

look_message : (r : Role) (m : Message)
    → is_look_message r m ≡ true
    → (refusal_of_request m ≡ None) × (only_looks m ≡ true)
look_message role.Ping m h = cc
look_message role.Acknowledgement m h = cc
look_message role.Reset m h = cc
look_message role.Request m h = look_request m h
look_message role.Response m h = cc
look_message role.Ignored m h = cc

pub look_in : (datagram : List ℕ) (m : Message)
    → reading datagram ≡ Ok m
    → is_look_datagram datagram ≡ true
    → (refusal_of_request m ≡ None) × (only_looks m ≡ true)
unfolding is_look_datagram
look_in datagram m is h =
    look_message (role_of m.kind m.code) m
    (subst (λ (r : Result Message Unread). is_look_reading r ≡ true) is h)

-- what a look does that gives this is what is done after looking so
pub looked_by : (starved : Bool) (history : List Entry) (moment : ℕ) (s : Step)
    (read : Result Message Unread) (m : Message) (given : Look)
    → read ≡ Ok m
    → look history moment m ≡ Some given
    → look_done starved s m given ≡ looked starved history moment s read
unfolding look_effects
looked_by starved history moment s read m given is gives =
    subst (λ (r : Result Message Unread).
    look_done starved s m given ≡ looked starved history moment s r) (sym is) (by starved)
  where
    by : (b : Bool) → look_done b s m given ≡ looked b history moment s (Ok m)
    by true = refl
    by false = ap (look_sent s m) (sym gives)

-- out of memory it is answered 5.00
pub looked_starved : (history : List Entry) (moment : ℕ) (s : Step) (read : Result Message Unread)
    (m : Message)
    → read ≡ Ok m
    → without_memory s m ≡ looked true history moment s read
looked_starved history moment s read m is =
    subst (λ (r : Result Message Unread). without_memory s m ≡ looked true history moment s r)
    (sym is) refl
