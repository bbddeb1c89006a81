-- What holds after an ending.
use Rattle.std.proofs.Common.{◌≡◌, Option, Some, None, refl}
use Rattle.mail_talk.specs.declared.phase.Phase.{Phase}
use Rattle.mail_talk.specs.declared.phase.Phase.TheVariants as phase
use Rattle.mail_talk.specs.Units.{TalkState}
use Rattle.account_script.specs.declared.cause.Cause.{Cause}
use Rattle.account_turns.specs.declared.endings.Last.{Last}
use Rattle.account_turns.specs.Causes.{cause_of, cause_or, damage_in}
use Rattle.account_turns.specs.Exchanges.{IsIdleAfter, ending_by, ending_of}

idle_any : (o : Option Cause) (s : TalkState) → s.told.phase ≡ phase.Idle → IsIdleAfter (ending_by o) s
idle_any None s idle = idle
idle_any (Some cause) s idle = λ keeps. idle

idle_by : (q : Phase) (s : TalkState) (later : Option Cause) → s.told.phase ≡ q → IsIdleAfter (ending_by (cause_or (damage_in q s) later)) s
idle_by phase.NotDialled s later is = λ keeps. cc
idle_by phase.Greeting s later is = λ keeps. cc
idle_by phase.Idle s later is = idle_any (cause_or (damage_in phase.Idle s) later) s is
idle_by phase.Request s later is = λ keeps. cc
idle_by phase.Piece s later is = λ keeps. cc
idle_by phase.Answer s later is = λ keeps. cc
idle_by phase.Damaged s later is = λ keeps. cc

-- an ending that leaves the account up leaves nothing awaited
pub idle_end : (last : Last) (s : TalkState) → IsIdleAfter (ending_of last s) s
unfolding cause_of
idle_end last s = idle_by s.told.phase s _ refl
