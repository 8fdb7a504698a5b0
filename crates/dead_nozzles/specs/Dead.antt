-- Lists of dead nozzles, and what is wrong with one.
use Rattle.base_definitions.specs.Counting.{count_from}
use Rattle.dead_nozzles.specs.declared.checking.DeadFault.{DeadFault}
use Rattle.dead_nozzles.specs.declared.checking.DeadFault.TheVariants.{AllDead, NoSuchNozzle}
use Rattle.std.specs.Prelude.{ℕ, ◌==◌, ◌<◌, Bool, nat_lt, if◌then◌else◌, List, [], ◌∷◌}
use Rattle.std.specs.Prelude.{Option, Some, None, Result, Ok, Err}
use Rattle.std.specs.List.{AllByRecursion, list_any}

-- whether a number is in a list
abbrev pub has : List ℕ → ℕ → Bool
has numbers number = list_any (λ other. other == number) numbers

-- Each number is below all after it.
abbrev pub IsRising : List ℕ → Type 0
IsRising [] = Unit {0}
IsRising (number ∷ others) = AllByRecursion (λ other. number < other) others × IsRising others

-- the first number of a list that is none of so many nozzles
abbrev pub first_outside : ℕ → List ℕ → Option ℕ
first_outside nozzles [] = None
first_outside nozzles (number ∷ others) = if nat_lt number nozzles then first_outside nozzles others else Some number

-- the first nozzle of a list that is not dead
abbrev pub first_live : List ℕ → List ℕ → Option ℕ
first_live dead [] = None
first_live dead (nozzle ∷ others) = if has dead nozzle then first_live dead others else Some nozzle

-- the least live nozzle of so many
abbrev pub least_live : ℕ → List ℕ → Option ℕ
least_live nozzles dead = first_live dead (count_from 0 nozzles)

-- what is wrong: the first number that is no nozzle, or else that no nozzle is live
abbrev pub answer : ℕ → Option ℕ → Option ℕ → Result (Unit {0}) DeadFault
answer nozzles (Some nozzle) live = Err (NoSuchNozzle nozzle)
answer nozzles None None = Err (AllDead nozzles)
answer nozzles None (Some nozzle) = Ok tt

-- the answer on a list of dead nozzles
abbrev pub checked : ℕ → List ℕ → Result (Unit {0}) DeadFault
checked nozzles dead = answer nozzles (first_outside nozzles dead) (least_live nozzles dead)
