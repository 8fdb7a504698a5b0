-- The invariant of black generation.
use Rattle.std.specs.Prelude.{◌≡◌, ℕ, ◌+◌, ◌-◌, ◌*◌, ◌/◌, ◌%◌, ◌^◌, ◌<◌}
use Rattle.ink_separation.specs.declared.black.BlackScale.TheInside.{Inside}

abbrev pub least_in : Inside → ℕ
least_in b = b.least

-- what black takes over for each step above the least darkness: the whole part
abbrev pub whole_above : ℕ → ℕ
whole_above least = 255 / (255 - least)

-- and the rest, in parts of 2^16, with one part more
abbrev pub rest_above : ℕ → ℕ
rest_above least = 255 % (255 - least) * 2 ^ 16 / (255 - least) + 1

pub record IsMade (b : Inside) : Type 0 where
  pub some : b.least < 255
  pub whole : b.whole ≡ whole_above b.least
  pub rest : b.rest ≡ rest_above b.least
