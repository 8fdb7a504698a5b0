-- The caps of meters, as words set them.
use Rattle.std.specs.Prelude.{ℕ, List, map, Option, None, Some}
use Rattle.ink_meter.specs.Accounts.{Account, capped}

-- the cap that a word sets on each meter
abbrev pub with_cap : Option ℕ → List Account → List Account
with_cap None accounts = accounts
with_cap (Some cap) accounts = map (capped cap) accounts
