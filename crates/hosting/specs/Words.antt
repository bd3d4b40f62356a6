-- The arguments of `rd_host`: the addresses, the number of workers of each address, the number of
-- connections, the number of receives of each worker, the number above which the run begins, and
-- the options of the guard.
use Rattle.std.specs.Prelude.{◌≡◌, ◌≤◌, ℕ, ◌+◌, ◌-◌, ◌/◌, List, [], ◌∷◌}
use Rattle.std.specs.Prelude.{◌++◌, length, codes}
use Rattle.std.specs.Prelude.{Option, Some, None, Result, Ok, Err, option_and_then, option_map}
use Rattle.std.specs.Prelude.{IfSome, bytes_eq, drop, is_some, min, nat_le, position, take}
use Rattle.std.specs.Prelude.{unwrap_or}
use Rattle.std.specs.Prelude.{◌&&◌, ◌||◌, ◌==◌, ⊤, true, false, if◌then◌else◌}
use Rattle.rd_base.specs.declared.peers.Host.TheVariants as host
use Rattle.rd_base.specs.declared.peers.Peer.{Peer}
use Rattle.line_model.specs.Numbers.{number_of}
use Rattle.hosting.specs.Addresses.{address_of}
use Rattle.hosting.specs.Networks.{network_of}
use Rattle.hosting.specs.declared.options.OptionName.{OptionName}
use Rattle.hosting.specs.declared.options.OptionName.TheVariants as option_name
use Rattle.hosting.specs.declared.options.HostOption.{HostOption}
use Rattle.hosting.specs.declared.options.HostOption.TheVariants as host_option
use Rattle.hosting.specs.declared.plans.HostAsked.{HostAsked}
use Rattle.hosting.specs.declared.plans.HostPlan.{HostPlan}
use Rattle.hosting.specs.declared.wanted.Wanted.{Wanted}
use Rattle.hosting.specs.declared.wanted.Wanted.TheVariants as wanted
use Rattle.hosting.specs.declared.wanted.HostFault.{HostFault}
use Rattle.hosting.specs.declared.wanted.HostFault.TheVariants as fault

-- Returns the most ends of a server, over all its addresses.
abbrev pub max_ends : ℕ
max_ends = 16

-- Returns the most receives of a worker.
abbrev pub max_turns : ℕ
max_turns = 1_000_000_000_000

-- Returns the greatest number above which a run can be made to begin.
abbrev pub max_begin : ℕ
max_begin = 100_000_000_000_000

-- Return the greatest share of a source, in writes, and the default.
abbrev pub max_share : ℕ
max_share = 4096

abbrev pub default_share : ℕ
default_share = 1024

-- Returns the greatest share of a source, in lookups. By default there is none.
abbrev pub max_lookups : ℕ
max_lookups = 65_535

-- Return the greatest limit of query options of a lookup, and the default.
abbrev pub max_criteria : ℕ
max_criteria = 768

abbrev pub default_criteria : ℕ
default_criteria = 16

-- ---- options

-- Returns the number, if it is at least 1.
abbrev pub from_one : ℕ → Option ℕ
from_one n = if nat_le 1 n then Some n else None

-- Returns the number from 1 to a limit that a text prints in decimal, without a leading zero.
abbrev pub count_of : ℕ → List ℕ → Option ℕ
count_of limit text = option_and_then from_one (number_of limit text)

-- Returns the option of the guard with this name.
abbrev pub guard_name_of : List ℕ → Option OptionName
guard_name_of word =
    if bytes_eq word (codes "--allow") then Some option_name.Allow
    else (if bytes_eq word (codes "--trust") then Some option_name.Trust
    else (if bytes_eq word (codes "--share") then Some option_name.Share
    else (if bytes_eq word (codes "--criteria") then Some option_name.Criteria
    else (if bytes_eq word (codes "--lookups") then Some option_name.Lookups else None))))

-- Returns the option of connections with this name.
abbrev pub tcp_name_of : List ℕ → Option OptionName
tcp_name_of word =
    if bytes_eq word (codes "--tcp") then Some option_name.Tcp
    else (if bytes_eq word (codes "--connections") then Some option_name.Connections
    else guard_name_of word)

-- Returns the option with this name.
abbrev pub name_of : List ℕ → Option OptionName
name_of word =
    if bytes_eq word (codes "--listen") then Some option_name.Listen
    else (if bytes_eq word (codes "--workers") then Some option_name.Workers
    else (if bytes_eq word (codes "--turns") then Some option_name.Turns
    else (if bytes_eq word (codes "--begin") then Some option_name.Begin
    else tcp_name_of word)))

-- Returns an option with its value: an address with a port from 1 on, a network, or a number from 1
-- to its limit. Numbers of the guard may be 0.
abbrev pub option_of : OptionName → List ℕ → Option HostOption
option_of option_name.Listen value = option_map (λ p. host_option.Listen p) (address_of value)
option_of option_name.Workers value =
    option_map (λ n. host_option.Workers n) (count_of max_ends value)
option_of option_name.Tcp value = option_map (λ p. host_option.Tcp p) (address_of value)
option_of option_name.Connections value =
    option_map (λ n. host_option.Connections n) (count_of max_ends value)
option_of option_name.Turns value =
    option_map (λ n. host_option.Turns n) (count_of max_turns value)
option_of option_name.Begin value =
    option_map (λ n. host_option.Begin n) (count_of max_begin value)
option_of option_name.Allow value = option_map (λ n. host_option.Allow n) (network_of value)
option_of option_name.Trust value = option_map (λ n. host_option.Trust n) (network_of value)
option_of option_name.Share value =
    option_map (λ n. host_option.Share n) (number_of max_share value)
option_of option_name.Criteria value =
    option_map (λ n. host_option.Criteria n) (number_of max_criteria value)
option_of option_name.Lookups value =
    option_map (λ n. host_option.Lookups n) (number_of max_lookups value)
option_of option_name.Quiet value = None

-- Returns the parts of a text before and after its first `=`.
abbrev pub cut : List ℕ → Option (List ℕ × List ℕ)
cut text = option_map (λ at. (take at text, drop (at + 1) text))
    (position (λ octet. octet == 61) text)

abbrev pub named : Option OptionName → List ℕ → Option HostOption
named None value = None
named (Some name) value = option_of name value

-- Returns the option of a single argument: one without a value, or a name joined to its value.
abbrev pub of_parts : Option (List ℕ × List ℕ) → Option HostOption
of_parts None = None
of_parts (Some parts) = named (name_of parts.0) parts.1

abbrev pub joined : List ℕ → Option HostOption
joined word =
    if bytes_eq word (codes "--quiet") then Some host_option.Quiet else of_parts (cut word)

-- Returns an option before others, if each is an option.
abbrev pub before : Option HostOption → Option (List HostOption) → Option (List HostOption)
before None options = None
before (Some option) options = option_map (λ behind. option ∷ behind) options

-- Returns the options that arguments give, in order. The value of each is the argument after its
-- name, or is joined to the name.
unfoldable pub options_of : List (List ℕ) → Option (List HostOption)
options_of [] = Some []
options_of (word ∷ []) = before (if is_some (name_of word) then None else joined word) (Some [])
options_of (word ∷ value ∷ words) =
    if is_some (name_of word) then before (named (name_of word) value) (options_of words)
    else before (joined word) (options_of (value ∷ words))

-- States which option is at the start of the arguments, and which arguments are after it.
abbrev pub Begins : List (List ℕ) → Option (HostOption × List (List ℕ)) → Type 0
Begins words None = options_of words ≡ None
Begins words (Some next) = options_of words ≡ before (Some next.0) (options_of next.1)

-- ---- what they ask for

-- Returns what arguments ask for if there are none.
abbrev pub nothing_asked : HostAsked
nothing_asked = record {
  listen = [];
  workers = None;
  tcp = [];
  connections = None;
  turns = None;
  begin = None;
  allow = [];
  trust = [];
  share = None;
  criteria = None;
  lookups = None;
  quiet = false;
}

-- Returns a number that is given at most once.
abbrev pub once : Option ℕ → ℕ → Option ℕ
once None n = Some n
once (Some earlier) n = None

-- Adds an option: any number of addresses and networks, and each number once.
abbrev pub asked_with : HostAsked → HostOption → Option HostAsked
asked_with asked (host_option.Listen address) =
    Some (record asked { listen = asked.listen ++ address ∷ [] })
asked_with asked (host_option.Workers n) =
    option_map (λ said. record asked { workers = Some said }) (once asked.workers n)
asked_with asked (host_option.Tcp address) =
    Some (record asked { tcp = asked.tcp ++ address ∷ [] })
asked_with asked (host_option.Connections n) =
    option_map (λ said. record asked { connections = Some said }) (once asked.connections n)
asked_with asked (host_option.Turns n) =
    option_map (λ said. record asked { turns = Some said }) (once asked.turns n)
asked_with asked (host_option.Begin n) =
    option_map (λ said. record asked { begin = Some said }) (once asked.begin n)
asked_with asked (host_option.Allow network) =
    Some (record asked { allow = asked.allow ++ network ∷ [] })
asked_with asked (host_option.Trust network) =
    Some (record asked { trust = asked.trust ++ network ∷ [] })
asked_with asked (host_option.Share n) =
    option_map (λ said. record asked { share = Some said }) (once asked.share n)
asked_with asked (host_option.Criteria n) =
    option_map (λ said. record asked { criteria = Some said }) (once asked.criteria n)
asked_with asked (host_option.Lookups n) =
    option_map (λ said. record asked { lookups = Some said }) (once asked.lookups n)
asked_with asked host_option.Quiet =
    if asked.quiet then None else Some (record asked { quiet = true })

-- Adds all options, in order.
unfoldable pub asked_from : Option HostAsked → List HostOption → Option HostAsked
asked_from None options = None
asked_from (Some asked) [] = Some asked
asked_from (Some asked) (option ∷ options) = asked_from (asked_with asked option) options

-- Returns the same, if the arguments give options.
abbrev pub asked_by : HostAsked → List (List ℕ) → Option HostAsked
asked_by asked words = option_and_then (asked_from (Some asked)) (options_of words)

-- Returns the number of connections served at a time. If an address for connections is given, the
-- default is four. Otherwise there are none, and the number must not be given.
abbrev pub connections_of : HostAsked → Option ℕ
connections_of asked =
    if nat_le 1 (length asked.tcp) then Some (unwrap_or asked.connections 4)
    else (if is_some asked.connections then None else Some 0)

-- Return the most workers that each address may have, given the numbers of connections and of
-- addresses, and the default number: four, or as many as it may have.
abbrev pub most_each : ℕ → ℕ → ℕ
most_each connections addresses = (max_ends - connections) / addresses

abbrev pub default_each : ℕ → ℕ → ℕ
default_each connections addresses = min 4 (most_each connections addresses)

-- Returns the plan with these numbers of connections and of workers for each address, if there is
-- an address and there are not too many ends.
abbrev pub plan_with : HostAsked → ℕ → ℕ → Option HostPlan
plan_with asked connections workers =
    if nat_le 1 (length asked.listen)
    && (nat_le 1 workers && nat_le workers (most_each connections (length asked.listen)))
    then Some (record {
      listen = asked.listen;
      workers = workers;
      tcp = asked.tcp;
      connections = connections;
      turns = unwrap_or asked.turns max_turns;
      begin = asked.begin;
      allow = asked.allow;
      trust = asked.trust;
      share = unwrap_or asked.share default_share;
      criteria = unwrap_or asked.criteria default_criteria;
      lookups = unwrap_or asked.lookups 0;
      quiet = asked.quiet;
    }) else None

-- Returns the addresses at which the program listens by default: those of loopback, at the port of
-- RFC 7252 section 12.6.
abbrev pub default_listen : List Peer
default_listen =
    record { host = host.V6 (0 ∷ 0 ∷ 0 ∷ 0 ∷ 0 ∷ 0 ∷ 0 ∷ 1 ∷ []); port = 5683 }
    ∷ record { host = host.V4 (127 ∷ 0 ∷ 0 ∷ 1 ∷ []); port = 5683 } ∷ []

abbrev pub settled : HostAsked → HostAsked
settled asked =
    if nat_le 1 (length asked.listen) then asked else record asked { listen = default_listen }

abbrev pub plan_of : HostAsked → Option HostPlan
plan_of asked = option_and_then
    (λ connections. plan_with asked connections
    (unwrap_or asked.workers (default_each connections (length asked.listen))))
    (connections_of asked)

-- Returns the plan that the arguments make, if the program accepts them.
abbrev pub plan_said : List (List ℕ) → Option HostPlan
plan_said words =
    option_and_then (λ asked. plan_of (settled asked)) (asked_by nothing_asked words)

-- Returns the question about the program that a single argument asks.
abbrev pub question_in : List ℕ → Option Wanted
question_in word =
    if bytes_eq word (codes "--help") || bytes_eq word (codes "-h") then Some wanted.Help
    else (if bytes_eq word (codes "--version") || bytes_eq word (codes "-V")
    then Some wanted.Version else None)

abbrev pub question_of : List (List ℕ) → Option Wanted
question_of [] = None
question_of (word ∷ []) = question_in word
question_of (word ∷ value ∷ words) = None

abbrev pub unless_asked : Option Wanted → Option HostPlan → Option Wanted
unless_asked (Some question) plan = Some question
unless_asked None plan = option_map (λ p. wanted.Serve p) plan

-- Returns what the arguments want, if the program accepts them.
abbrev pub wanted_of : List (List ℕ) → Option Wanted
wanted_of words = unless_asked (question_of words) (plan_said words)

-- States that this is the result of reading the arguments, unless memory ran out.
abbrev pub IsRead : {A : Type 0} → Option A → Result A HostFault → Type 0
IsRead said (Ok read) = said ≡ Some read
IsRead said (Err fault.Usage) = said ≡ None
IsRead said (Err fault.Starved) = ⊤

-- ---- within their limits

abbrev pub IsCount : ℕ → ℕ → Type 0
IsCount limit n = (1 ≤ n) × (n ≤ limit)

abbrev pub IsOption : HostOption → Type 0
IsOption (host_option.Listen address) = ⊤
IsOption (host_option.Workers n) = IsCount max_ends n
IsOption (host_option.Tcp address) = ⊤
IsOption (host_option.Connections n) = IsCount max_ends n
IsOption (host_option.Turns n) = IsCount max_turns n
IsOption (host_option.Begin n) = IsCount max_begin n
IsOption (host_option.Allow network) = ⊤
IsOption (host_option.Trust network) = ⊤
IsOption (host_option.Share n) = n ≤ max_share
IsOption (host_option.Criteria n) = n ≤ max_criteria
IsOption (host_option.Lookups n) = n ≤ max_lookups
IsOption host_option.Quiet = ⊤

pub record IsAsked (asked : HostAsked) : Type 0 where
  pub workers : IfSome asked.workers (IsCount max_ends)
  pub connections : IfSome asked.connections (IsCount max_ends)
  pub turns : IfSome asked.turns (IsCount max_turns)
  pub begin : IfSome asked.begin (IsCount max_begin)
  pub share : IfSome asked.share (λ n. n ≤ max_share)
  pub criteria : IfSome asked.criteria (λ n. n ≤ max_criteria)
  pub lookups : IfSome asked.lookups (λ n. n ≤ max_lookups)

-- States that the numbers of a plan are within their limits.
pub record IsPlan (plan : HostPlan) : Type 0 where
  pub some_addresses : 1 ≤ length plan.listen
  pub some_workers : 1 ≤ plan.workers
  pub most_workers : plan.workers ≤ most_each plan.connections (length plan.listen)
  pub most_connections : plan.connections ≤ max_ends
  pub some_turns : 1 ≤ plan.turns
  pub most_turns : plan.turns ≤ max_turns
  pub begin : IfSome plan.begin (IsCount max_begin)
  pub share : plan.share ≤ max_share
  pub criteria : plan.criteria ≤ max_criteria
  pub lookups : plan.lookups ≤ max_lookups

abbrev pub IsWanted : Wanted → Type 0
IsWanted wanted.Help = ⊤
IsWanted wanted.Version = ⊤
IsWanted (wanted.Serve plan) = IsPlan plan
