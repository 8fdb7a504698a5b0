-- The bytes of a command in hand.
use Rattle.std.specs.Prelude.{ℕ, List}
use Rattle.job_finisher.specs.declared.holding.HeldCommand.{HeldCommand}

abbrev pub held_in : HeldCommand → List ℕ
held_in hand = hand.bytes.items
