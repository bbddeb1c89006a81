-- Whether an account is logged in after an ending.
use Rattle.std.specs.Prelude.{Bool, false, ◌&&◌}
use Rattle.account_turns.specs.declared.endings.Ending.{Ending}
use Rattle.account_turns.specs.declared.endings.Ending.TheVariants.{Done, Stopped, Failed}
use Rattle.account_turns.specs.Causes.{keeps_up}

-- as its steps left it, but not after damage, a lack, or a fault of the link
abbrev pub up_after : Ending → Bool → Bool
up_after Done up = up
up_after (Stopped cause) up = up && keeps_up cause
up_after Failed up = false
