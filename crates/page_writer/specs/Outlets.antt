-- The outlet of a page, and the bytes that wait for it.
use Rattle.std.specs.Prelude.{◌≡◌, ℕ, List, ◌++◌, Option}
use Rattle.std.specs.Io.KnownBytes.{Appends}
use Rattle.weave_base.specs.Parts.{AppendsPart}

-- The bytes that an outlet took, `None` where it does not say, and those that wait for it.
pub record Outlet : Type 0 where
  pub held : Option (List ℕ)
  pub waiting : List ℕ

abbrev pub outlet_of : Option (List ℕ) → List ℕ → Outlet
outlet_of held waiting = record { held = held; waiting = waiting }

-- Bytes were sent behind those that waited: the outlet took the first of all these, and the rest waits.
pub record Gathers (old new : Outlet) (bytes : List ℕ) : Type 0 where
  pub taken : List ℕ
  pub appends : Appends old.held new.held taken
  pub is : old.waiting ++ bytes ≡ taken ++ new.waiting

-- A write failed: of the bytes that waited and these behind them the outlet took a proper prefix.
abbrev pub GathersPart : Outlet → Option (List ℕ) → List ℕ → Type 0
GathersPart old held bytes = AppendsPart old.held held (old.waiting ++ bytes)
