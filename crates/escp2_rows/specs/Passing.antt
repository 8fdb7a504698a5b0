-- How far a literal at the front of a row goes, told by the bytes that follow.
use Rattle.std.specs.Prelude.{◌≡◌, ◌==◌, ◌&&◌, ℕ, ◌+◌, ◌≤◌, if◌then◌else◌, Bool, List, length, drop, slice_index}
use Rattle.std.specs.Int.{trailing_zeros, w64}
use Rattle.std.specs.List.{take_while}
use Rattle.escp2_definitions.specs.Least.{costs}
use Rattle.escp2_rows.specs.declared.literals.Behind.{Behind}
use Rattle.escp2_rows.specs.declared.literals.Behind.TheVariants.{Ends, Goes, Unknown}

-- ---- bytes

-- the lowest bit that is set of a mask of sixteen, or 16
abbrev pub first_of_sixteen : ℕ → ℕ
first_of_sixteen mask = if mask == 0 then 16 else trailing_zeros w64 mask

-- three equal bytes begin at a place
abbrev pub are_three : List ℕ → ℕ → Bool
are_three row i = (slice_index row i == slice_index row (i + 1)) && (slice_index row (i + 1) == slice_index row (i + 2))

-- how many bytes from the front on are equal
abbrev pub run_of : List ℕ → ℕ
run_of row = length (take_while (λ byte. byte == slice_index row 0) row)

-- ---- costs

-- what a row costs
abbrev pub cost : List ℕ → ℕ
cost row = slice_index (costs row) 0

-- the bytes of a literal up to this place, and what the row costs behind it
abbrev pub upto : List ℕ → ℕ → ℕ
upto row j = j + cost (drop j row)

-- A literal that comes to a place costs at least this much more where it ends at one of the 128 places behind it: with
-- 0 a literal may end at the place, with 1 it has to.
pub record EndsAt (more : ℕ) (row : List ℕ) (place : ℕ) : Type 0 where
  pub less : (k : ℕ) → place + more ≤ k → k ≤ place + 128 → k ≤ length row → upto row place + more ≤ upto row k

-- A literal costs the same where it ends at either of two places, and no less where it ends at one between them.
pub record IsLevel (row : List ℕ) (from to : ℕ) : Type 0 where
  pub on : from ≤ to
  pub within : to ≤ length row
  pub same : upto row from ≡ upto row to
  pub least : (n : ℕ) → from ≤ n → n ≤ to → upto row to ≤ upto row n

-- A literal from the front of the row goes on up to a place: wherever from there on it may end best, it costs no less
-- where it ends before the place.
pub record GoesOn (row : List ℕ) (at : ℕ) : Type 0 where
  pub within : at ≤ length row
  pub later : (end : ℕ) → at ≤ end → end ≤ length row → EndsAt 0 row end
      → ((k : ℕ) → at ≤ k → k ≤ end → upto row end ≤ upto row k) → (n : ℕ) → n ≤ at → upto row end ≤ upto row n

-- ---- what is told of a run of three or more

-- a fact where the literal ends before the run
abbrev pub OnEnds : Behind → Type 0 → Type 0
OnEnds Ends P = P
OnEnds (Goes at) P = Unit {0}
OnEnds Unknown P = Unit {0}

-- a fact where the literal goes on, of the place up to which it does
abbrev pub OnGoes : Behind → (ℕ → Type 0) → Type 0
OnGoes Ends P = Unit {0}
OnGoes (Goes at) P = P at
OnGoes Unknown P = Unit {0}
