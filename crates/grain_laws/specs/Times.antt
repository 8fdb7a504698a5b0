-- How often an amount comes.
use Rattle.std.specs.Prelude.{ℕ, count_by, nat_eq}
use Rattle.base_definitions.specs.Counting.{count_from}
use Rattle.printer_definitions.specs.declared.inks.Ink.{Ink}
use Rattle.separation_definitions.specs.Grain.{grain_place, grained}

-- how many of 65,536 columns of row y, from column x on, have this amount of an ink with grain, if all have the amount
-- `a` without grain
unfoldable pub times_along : Ink → ℕ → ℕ → ℕ → ℕ → ℕ → ℕ → ℕ
times_along ink x y grain limit a amount =
    count_by (λ column. nat_eq (grained grain limit (grain_place ink column y) a) amount) (count_from x 65536)
