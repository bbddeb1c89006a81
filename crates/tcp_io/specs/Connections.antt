-- How contracts see a link over TCP, and what its calls do. No clause can say what a server sends.
use Rattle.std.specs.Prelude.{ℕ, Bool, true, false, List}
use Rattle.mail_io.specs.Memory.{next_count}

-- the server's address as `host:port`, whether there is a connection, and the faults so far
pub record ConnectionState : Type 0 where
  pub address : List ℕ
  pub is_open : Bool
  pub faults : ℕ

abbrev pub opened : ConnectionState → ConnectionState
opened link = record { address = link.address; is_open = true; faults = link.faults }

-- a fault is counted, and there is no connection
abbrev pub broken : ConnectionState → ConnectionState
broken link = record { address = link.address; is_open = false; faults = next_count link.faults }
