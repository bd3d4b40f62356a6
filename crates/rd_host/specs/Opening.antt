-- The plan to serve, with the sockets at its addresses.
use Rattle.std.specs.Prelude.{◌≡◌, ◌≤◌, length, vec_len}
use Rattle.hosting.specs.Words.{IsPlan}
use Rattle.rd_host.specs.declared.Opened.{Opened}

-- A plan that names only addresses with a socket, one for each. It has connections only if there is
-- a socket that accepts them.
pub record IsOpened (opened : Opened) : Type 0 where
  pub plan : IsPlan opened.plan
  pub some_listeners : 1 ≤ vec_len opened.listeners
  pub listeners : length opened.plan.listen ≡ vec_len opened.listeners
  pub doorways : length opened.plan.tcp ≡ vec_len opened.doorways
  pub connections : vec_len opened.doorways ≡ 0 → opened.plan.connections ≡ 0
