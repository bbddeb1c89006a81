-- What a reader of fields returns.
use Rattle.std.specs.Prelude.{◌≡◌, ℕ, List, Option, Some, None, Result, Ok, Err}
use Rattle.http_routes.specs.declared.RouteFault.{RouteFault}
use Rattle.http_routes.specs.declared.RouteFault.TheVariants.{NoRoute, Field, Memory}

-- a value, and what is read with it
infixl 10 ◌>>=◌
abbrev pub ◌>>=◌ : {A B : Type 0} → Result A RouteFault → (A → Result B RouteFault) → Result B RouteFault
(Ok x) >>= f = f x
(Err fault) >>= f = Err fault

-- a fault is that of the definition, unless memory ran out
abbrev pub FailsAs : {X : Type 0} → RouteFault → Result X RouteFault → Type 0
FailsAs NoRoute read = read ≡ Err NoRoute
FailsAs (Field name) read = read ≡ Err (Field name)
FailsAs Memory read = Unit {0}

-- a function's result is the definition's
abbrev pub ReadsAs : {X : Type 0} → Result X RouteFault → Result X RouteFault → Type 0
ReadsAs (Ok x) read = read ≡ Ok x
ReadsAs (Err fault) read = FailsAs fault read

-- a value that a field must have
abbrev pub or_wrong : {X : Type 0} → List ℕ → Option X → Result X RouteFault
or_wrong name None = Err (Field name)
or_wrong name (Some x) = Ok x

-- the fault of a field, unless memory ran out
abbrev pub IsWrong : List ℕ → RouteFault → Type 0
IsWrong name NoRoute = ⊥
IsWrong name (Field wrong) = wrong ≡ name
IsWrong name Memory = Unit {0}
