-- Amounts of sixteen rows, put by steps.
use Rattle.std.specs.Prelude.{Bool, ℕ, true, false, ◌≡◌, ◌≢◌, ◌+◌, ◌*◌, ◌/◌, ◌%◌, ◌<◌, ◌≤◌, ◌⊎◌, List, slice_index}

-- The amounts of sixteen rows of a tile from row `first` on, where each row is as many steps behind as its number says.
-- A row has those offsets that are before `end` less the remainder of its number divided by 4.
pub record AreBehind (tile : List ℕ) (first end : ℕ) (amounts : List ℕ) : Type 0 where
  pub at : (m o : ℕ) → m < 16 → o < 64 → o + m % 4 < end
      → slice_index amounts (32 * (first + o + m) + (first + m)) ≡ slice_index tile (32 * o + (first + m))

-- The same of all 32 rows.
pub record AreAllBehind (tile : List ℕ) (end : ℕ) (amounts : List ℕ) : Type 0 where
  pub upper : AreBehind tile 0 end amounts
  pub lower : AreBehind tile 16 end amounts

-- All other rows are as they were.
pub record KeepsOthers (first : ℕ) (old new : List ℕ) : Type 0 where
  pub others : (t r : ℕ) → r < 32 → (r < first) ⊎ (first + 16 ≤ r)
      → slice_index new (32 * t + r) ≡ slice_index old (32 * t + r)

-- Four amounts stand from a place on, and all others are as they were.
pub record IsPut (four : List ℕ) (at : ℕ) (old new : List ℕ) : Type 0 where
  pub there : (i : ℕ) → i < 4 → slice_index new (at + i) ≡ slice_index four i
  pub kept : (n : ℕ) → (n < at) ⊎ (at + 4 ≤ n) → slice_index new n ≡ slice_index old n

-- where lane m of sixteen rows stands, if lane 0 stands at `at` and each four lanes stand four steps after those before
abbrev pub spread : ℕ → ℕ → ℕ
spread at m = at + 132 * (m / 4) + m % 4

-- Sixteen amounts stand so, and all others are as they were.
pub record AreSpread (part : List ℕ) (at : ℕ) (old new : List ℕ) : Type 0 where
  pub there : (m : ℕ) → m < 16 → slice_index new (spread at m) ≡ slice_index part m
  pub kept : (n : ℕ) → ((m : ℕ) → m < 16 → n ≢ spread at m) → slice_index new n ≡ slice_index old n

-- 1 for the odd lanes of each two or, if they are blended in pairs, of each four; 0 for all others
abbrev pub odd_of : Bool → ℕ → ℕ
odd_of false m = m % 2
odd_of true m = m / 2 % 2

-- The odd lanes are those of one vector, all others those of another.
pub record IsBlend (pairs : Bool) (before here out : List ℕ) : Type 0 where
  pub odd : (m : ℕ) → m < 16 → odd_of pairs m ≡ 1 → slice_index out m ≡ slice_index before m
  pub even : (m : ℕ) → m < 16 → odd_of pairs m ≡ 0 → slice_index out m ≡ slice_index here m

-- The offset that lanes read which are n steps behind: it is within the tile, and right at each step of those lanes.
pub record IsRead (step n offset : ℕ) : Type 0 where
  pub within : offset < 64
  pub right : n ≤ step → step < 64 + n → offset + n ≡ step
