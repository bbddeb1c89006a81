-- The faults of heads and of routes as faults of asks.
use Rattle.std.specs.Prelude.{◌≡◌, codes, ⊤}
use Rattle.http_heads.specs.declared.framing.HeadFault.{HeadFault}
use Rattle.http_heads.specs.declared.framing.HeadFault.TheVariants as head
use Rattle.http_routes.specs.declared.RouteFault.{RouteFault}
use Rattle.http_routes.specs.declared.RouteFault.TheVariants as route
use Rattle.http_front.specs.declared.faults.AskFault.{AskFault}
use Rattle.http_front.specs.declared.faults.AskFault.TheVariants as fault

abbrev pub head_fault : HeadFault → AskFault
head_fault head.TooLarge = fault.Head
head_fault head.Coding = fault.Coding
head_fault head.Length = fault.Field (codes "Content-Length")
head_fault (head.Body bytes) = fault.Body bytes

abbrev pub route_fault : RouteFault → AskFault
route_fault route.NoRoute = fault.NoRoute
route_fault (route.Field name) = fault.Field name
route_fault route.Memory = fault.Memory

-- the fault of a head, unless memory ran out
abbrev pub IsHeadFault : HeadFault → AskFault → Type 0
IsHeadFault refused fault.Cut = ⊥
IsHeadFault refused fault.NotHttp = ⊥
IsHeadFault refused fault.Head = head_fault refused ≡ fault.Head
IsHeadFault refused fault.Coding = head_fault refused ≡ fault.Coding
IsHeadFault refused (fault.Field name) = head_fault refused ≡ fault.Field name
IsHeadFault refused (fault.Body bytes) = head_fault refused ≡ fault.Body bytes
IsHeadFault refused fault.NoRoute = ⊥
IsHeadFault refused fault.Memory = ⊤
