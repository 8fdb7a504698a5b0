-- Shares of work, before and after.
use Rattle.std.specs.Prelude.{◌≡◌, ℕ, ◌<◌, List, length, slice_index_or}

-- each share is ready
abbrev pub AllReady : {W : Type 0} → (W → Type 0) → List W → Type 0
AllReady {W} ready team = (k : ℕ) (d : W) → k < length team → ready (slice_index_or team k d)

-- As many shares as before, each of which was worked.
pub record AllWorked {W : Type 0} (does : W → W → Type 0) (before after : List W) : Type 0 where
  pub same : length after ≡ length before
  pub each : (k : ℕ) (d : W) → k < length before → does (slice_index_or before k d) (slice_index_or after k d)
