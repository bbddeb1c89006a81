-- What the attributes of a message are washed with.
use Rattle.std.specs.Prelude.{ℕ, Bool, List}

-- What an address in a message refers to: a part of the message, by the part's address on the site; a remote address; the address
-- of another link; or nothing.
pub data Target : Type 0 where
  Part Remote Link : List ℕ → Target
  Nothing : Target

-- `refer` is the target of an address, `stylewash` the washed style, and `images` tells whether remote pictures were requested.
pub record Given : Type 0 where
  pub refer : List ℕ → Target
  pub stylewash : List ℕ → List ℕ
  pub images : Bool
