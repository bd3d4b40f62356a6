-- A write that is handed to a table of exchanges: a repeat, one that finds the table full, and one
-- that is admitted.
use Rattle.std.proofs.Common.{◌≡◌, ◌≢◌, ℕ, ◌≤◌, ◌<◌, ◌∷◌, length, Some, None, refl, arith}
use Rattle.rd_base.specs.declared.peers.Peer.{Peer}
use Rattle.exchange_core.specs.declared.writes.Keyed.{Keyed}
use Rattle.exchange_core.specs.declared.writes.Keyed.TheVariants as keyed
use Rattle.exchange_core.specs.Table.{Table, admitted_now, young, InOrder, repeat_among}
use Rattle.exchange_core.specs.ExchangeEvents.{IsFoundAt, IsKeyedAt, MayBeAdmitted}
use Rattle.exchange_core.proofs.TableLaws.{
  ExchangesStandFor-aged,
  ExchangesStandFor-admitted,
  repeat_answers,
  full_answers,
  fresh_answers,
  repeat-not_fresh,
}

-- it repeats one of the exchanges
pub repeat-IsKeyedAt : (now : ℕ) (peer : Peer) (mid : ℕ) (t : Table) (answer : Keyed)
    → InOrder t.moment t.exchanges
    → t.moment ≤ now
    → Some answer ≡ repeat_among now peer mid t.exchanges
    → IsKeyedAt now peer mid t t answer
repeat-IsKeyedAt now peer mid t answer order before found = record {
  answered =
      λ events orderly in_time stands.
      repeat_answers now now peer mid t.moment events t answer (omega arith) order orderly
      in_time stands found;
  admitted =
      λ events e fresh is at new stands.
      absurd (repeat-not_fresh now peer mid t.exchanges answer found fresh);
  aside = λ events other stands. stands;
  repeated = λ other more. refl;
  moment = before;
}

-- it repeats none, and as many are young as there is room for
pub full-IsKeyedAt : (now : ℕ) (peer : Peer) (mid : ℕ) (t aged : Table)
    → InOrder t.moment t.exchanges
    → None ≡ repeat_among now peer mid t.exchanges
    → aged.exchanges ≡ young now t.exchanges
    → aged.moment ≤ now
    → 4_096 ≤ length aged.exchanges → IsKeyedAt now peer mid t aged keyed.FullExchanges
full-IsKeyedAt now peer mid t aged order none left moment full = record {
  answered =
      λ events orderly in_time stands.
      full_answers now now peer mid t.moment events t aged.exchanges (omega arith) order orderly
      in_time stands none left full;
  admitted = λ events e fresh is at new stands. absurd cc;
  aside =
      λ events other stands. ExchangesStandFor-aged now now events t aged (omega arith) left stands;
  repeated = λ other more. absurd (more refl);
  moment = moment;
}

-- it repeats none, and there is room
pub fresh-IsKeyedAt : (now : ℕ) (peer : Peer) (mid : ℕ) (t aged more : Table)
    → InOrder t.moment t.exchanges
    → None ≡ repeat_among now peer mid t.exchanges
    → aged.exchanges ≡ young now t.exchanges
    → length aged.exchanges < 4_096
    → more.exchanges ≡ admitted_now peer mid now ∷ aged.exchanges
    → more.moment ≤ now
    → IsKeyedAt now peer mid t more keyed.Fresh
fresh-IsKeyedAt now peer mid t aged more order none left room added moment = record {
  answered =
      λ events orderly in_time stands.
      fresh_answers now now peer mid t.moment events t aged.exchanges (omega arith) order
      orderly in_time stands none left room;
  admitted =
      λ events e fresh is at new stands.
      ExchangesStandFor-admitted now peer mid e events aged more is at new added
      (ExchangesStandFor-aged now now events t aged (omega arith) left stands);
  aside = λ events other stands. absurd (other refl);
  repeated = λ other full. absurd (other refl);
  moment = moment;
}

-- what is not admitted is answered as it is found
pub keyed-IsFoundAt : (now : ℕ) (peer : Peer) (mid : ℕ) (before after : Table) (answer : Keyed)
    → IsKeyedAt now peer mid before after answer
    → answer ≢ keyed.Fresh
    → IsFoundAt now peer mid before after answer
keyed-IsFoundAt now peer mid before after answer keyed other = record {
  answered = keyed.answered;
  aside = λ events stands. keyed.aside events other stands;
  repeated = keyed.repeated;
  moment = keyed.moment;
}

-- it repeats none, and there is room: it may be admitted
pub fresh-MayBeAdmitted : (now : ℕ) (peer : Peer) (mid : ℕ) (t aged : Table)
    → InOrder t.moment t.exchanges
    → None ≡ repeat_among now peer mid t.exchanges
    → aged.exchanges ≡ young now t.exchanges
    → length aged.exchanges < 4_096
    → aged.moment ≡ now
    → MayBeAdmitted now peer mid t aged
fresh-MayBeAdmitted now peer mid t aged order none left room moment = record {
  found = record {
    answered =
        λ events orderly in_time stands.
        fresh_answers now now peer mid t.moment events t aged.exchanges (omega arith) order
        orderly in_time stands none left room;
    aside =
        λ events stands. ExchangesStandFor-aged now now events t aged (omega arith) left stands;
    repeated = λ other full. absurd (other refl);
    moment = omega (arith, moment);
  };
  room = room;
  moment = moment;
  admitted =
      λ more added same.
      fresh-IsKeyedAt now peer mid t aged more order none left room added
      (omega (arith, same, moment));
}
