-- What meters count, and where they have no room for a page.
use Rattle.std.specs.Prelude.{◌≡◌, ℕ, ◌+◌, ◌^◌, ◌<◌, ◌≤◌, List, [], ◌∷◌, take, Some, slice_get, All}
use Rattle.printer_definitions.specs.declared.inks.InkCounts.{InkCounts}
use Rattle.ink_meter.specs.declared.meters.OverCap.{OverCap}

-- A meter: the dots of each ink that it has counted, and the most that it may count of all inks together.
pub record Account : Type 0 where
  pub totals : InkCounts
  pub cap : ℕ

-- the dots of all inks
abbrev pub all_inks : InkCounts → ℕ
all_inks n = n.k + n.c + n.m + n.y

-- the sums of two counts, ink by ink
abbrev pub together : InkCounts → InkCounts → InkCounts
together a b = record { k = a.k + b.k; c = a.c + b.c; m = a.m + b.m; y = a.y + b.y }

abbrev pub HasRoom : InkCounts → Account → Type 0
HasRoom n a = all_inks a.totals + all_inks n ≤ a.cap

-- the meter after counting these dots
abbrev pub added : InkCounts → Account → Account
added n a = record { totals = together a.totals n; cap = a.cap }

abbrev pub capped : ℕ → Account → Account
capped cap a = record { totals = a.totals; cap = cap }

-- what several meters counted
abbrev pub settled : List Account → InkCounts
settled [] = record { k = 0; c = 0; m = 0; y = 0 }
settled (a ∷ accounts) = together a.totals (settled accounts)

-- each of the four numbers fits 64 bits
pub record Fits (n : InkCounts) : Type 0 where
  pub k : n.k < 2 ^ 64
  pub c : n.c < 2 ^ 64
  pub m : n.m < 2 ^ 64
  pub y : n.y < 2 ^ 64

-- The first meter without room for these dots: its place, what it has counted, and its cap.
pub record IsFirstOver (accounts : List Account) (n : InkCounts) (over : OverCap) : Type 0 where
  pub account : Account
  pub stands : slice_get accounts over.index ≡ Some account
  pub full : account.cap < all_inks account.totals + all_inks n
  pub others : All (HasRoom n) (take over.index accounts)
  pub total_is : over.total ≡ all_inks account.totals
  pub cap_is : over.cap ≡ account.cap
