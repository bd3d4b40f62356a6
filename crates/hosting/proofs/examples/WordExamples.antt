-- What words of `rd_host` want, computed.
use Rattle.std.proofs.Common.{◌≡◌, ℕ, [], ◌∷◌, codes, replicate, Some, None, false, true, refl}
use Rattle.std.specs.Prelude.{⊤, Option}
use Rattle.std.specs.Fmt.{digits}
use Rattle.rd_base.specs.declared.peers.Host.TheVariants as host
use Rattle.rd_base.specs.declared.peers.Peer.{Peer}
use Rattle.line_model.proofs.OnLiterals.{trace_on_literals}
use Rattle.line_model.specs.Numbers.{number_of}
use Rattle.hosting.specs.declared.plans.HostPlan.{HostPlan}
use Rattle.hosting.specs.declared.wanted.Wanted.TheVariants as wanted
use Rattle.hosting.specs.Networks.{host_of}
use Rattle.hosting.specs.Words.{asked_from, default_listen, options_of, plan_of, wanted_of}

unfoldable on_literals : ⊤
unfolding options_of asked_from number_of digits trace_on_literals host_of
on_literals = tt

abbrev inner : Peer
inner = record { host = host.V4 (192 ∷ 0 ∷ 2 ∷ 1 ∷ []); port = 5683 }

abbrev outer : Peer
outer = record {
  host = host.V6 (0x2001 ∷ 0xdb8 ∷ 0 ∷ 0 ∷ 0 ∷ 0 ∷ 0 ∷ 1 ∷ []);
  port = 61616;
}

-- one address, with what is said by default
one : wanted_of (codes "--listen" ∷ codes "192.0.2.1:5683" ∷ [])
    ≡ Some (wanted.Serve (record {
      listen = inner ∷ [];
      workers = 4;
      tcp = [];
      connections = 0;
      turns = 1_000_000_000_000;
      begin = None;
      allow = [];
      trust = [];
      share = 1024;
      criteria = 16;
      lookups = 0;
      quiet = false;
    }))
unfolding on_literals
one = refl

-- two, both spellings, and as many workers as they may have
two : wanted_of (codes "--workers=8" ∷ codes "--listen=[2001:db8::1]:61616" ∷ codes "--turns"
    ∷ codes "1" ∷ codes "--listen" ∷ codes "192.0.2.1:5683" ∷ [])
    ≡ Some (wanted.Serve (record {
      listen = outer ∷ inner ∷ [];
      workers = 8;
      tcp = [];
      connections = 0;
      turns = 1;
      begin = None;
      allow = [];
      trust = [];
      share = 1024;
      criteria = 16;
      lookups = 0;
      quiet = false;
    }))
unfolding on_literals
two = refl

-- one worker more than they may have
many : wanted_of (codes "--workers=9" ∷ codes "--listen=[2001:db8::1]:61616"
    ∷ codes "--listen" ∷ codes "192.0.2.1:5683" ∷ []) ≡ None
unfolding on_literals
many = refl

-- no address: that of loopback, in both families
abbrev loopback : ℕ → HostPlan
loopback workers = record {
  listen = default_listen;
  workers = workers;
  tcp = [];
  connections = 0;
  turns = 1_000_000_000_000;
  begin = None;
  allow = [];
  trust = [];
  share = 1024;
  criteria = 16;
  lookups = 0;
  quiet = false;
}

nowhere : wanted_of (codes "--workers=1" ∷ []) ≡ Some (wanted.Serve (loopback 1))
unfolding on_literals
nowhere = refl

-- no words
nothing : wanted_of [] ≡ Some (wanted.Serve (loopback 4))
unfolding on_literals
nothing = refl

-- another spelling, and no lines while it serves
other_spelling : wanted_of (codes "--quiet" ∷ codes "--listen=[2001:DB8:0:0::1]:61616" ∷ [])
    ≡ Some (wanted.Serve (record {
      listen = outer ∷ [];
      workers = 4;
      tcp = [];
      connections = 0;
      turns = 1_000_000_000_000;
      begin = None;
      allow = [];
      trust = [];
      share = 1024;
      criteria = 16;
      lookups = 0;
      quiet = true;
    }))
unfolding on_literals
other_spelling = refl

-- an IPv4 address takes no brackets, an IPv6 address needs them, and there is no zone
bracketed : wanted_of (codes "--listen=[192.0.2.1]:5683" ∷ []) ≡ None
unfolding on_literals
bracketed = refl

bare : wanted_of (codes "--listen=::1:5683" ∷ []) ≡ None
unfolding on_literals
bare = refl

with_zone : wanted_of (codes "--listen=[fe80::1%1]:5683" ∷ []) ≡ None
unfolding on_literals
with_zone = refl

-- no port, and no number from 1 on
no_port : wanted_of (codes "--listen=192.0.2.1" ∷ []) ≡ None
unfolding on_literals
no_port = refl

no_turns : wanted_of (codes "--listen=192.0.2.1:5683" ∷ codes "--turns=0" ∷ []) ≡ None
unfolding on_literals
no_turns = refl

-- a number that comes again, and a name where its value is to stand
again : wanted_of (codes "--turns=1" ∷ codes "--listen=192.0.2.1:5683"
    ∷ codes "--turns=1" ∷ []) ≡ None
unfolding on_literals
again = refl

name_for_value : wanted_of (codes "--listen" ∷ codes "--listen=192.0.2.1:5683" ∷ []) ≡ None
unfolding on_literals
name_for_value = refl

-- questions stand alone
help : wanted_of (codes "--help" ∷ []) ≡ Some wanted.Help
unfolding on_literals
help = refl

version : wanted_of (codes "-V" ∷ []) ≡ Some wanted.Version
unfolding on_literals
version = refl

beside : wanted_of (codes "--listen=192.0.2.1:5683" ∷ codes "--help" ∷ []) ≡ None
unfolding on_literals
beside = refl

-- sixteen addresses have a worker each, five three, and seventeen are too many
abbrev plan_at : ℕ → Option HostPlan
plan_at addresses =
    plan_of (record {
      listen = replicate addresses inner;
      workers = None;
      tcp = [];
      connections = None;
      turns = Some 7;
      begin = Some 9;
      allow = [];
      trust = [];
      share = Some 0;
      criteria = Some 7;
      lookups = None;
      quiet = false;
    })

abbrev planned : ℕ → ℕ → HostPlan
planned addresses workers = record {
  listen = replicate addresses inner;
  workers = workers;
  tcp = [];
  connections = 0;
  turns = 7;
  begin = Some 9;
  allow = [];
  trust = [];
  share = 0;
  criteria = 7;
  lookups = 0;
  quiet = false;
}

sixteen : plan_at 16 ≡ Some (planned 16 1)
sixteen = refl

five : plan_at 5 ≡ Some (planned 5 3)
five = refl

seventeen : plan_at 17 ≡ None
seventeen = refl

-- each connection takes the place of a worker, and connections need an address
abbrev served_both : ℕ → ℕ → HostPlan
served_both workers connections = record {
  listen = inner ∷ [];
  workers = workers;
  tcp = inner ∷ [];
  connections = connections;
  turns = 1_000_000_000_000;
  begin = None;
  allow = [];
  trust = [];
  share = 1024;
  criteria = 16;
  lookups = 0;
  quiet = false;
}

both : wanted_of (codes "--listen=192.0.2.1:5683" ∷ codes "--tcp=192.0.2.1:5683" ∷ [])
    ≡ Some (wanted.Serve (served_both 4 4))
unfolding on_literals
both = refl

many_connections : wanted_of (codes "--listen=192.0.2.1:5683" ∷ codes "--tcp=192.0.2.1:5683"
    ∷ codes "--connections=15" ∷ []) ≡ Some (wanted.Serve (served_both 1 15))
unfolding on_literals
many_connections = refl

too_many_connections : wanted_of (codes "--listen=192.0.2.1:5683"
    ∷ codes "--tcp=192.0.2.1:5683" ∷ codes "--connections=16" ∷ []) ≡ None
unfolding on_literals
too_many_connections = refl

no_address : wanted_of (codes "--connections=2" ∷ []) ≡ None
unfolding on_literals
no_address = refl
