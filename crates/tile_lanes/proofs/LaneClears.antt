-- Pixels of a step that do not exist.
use Rattle.std.proofs.Common.{ℕ, true, false, ◌%◌, ◌≡◌, ◌+◌, ◌-◌, ◌*◌, ◌<◌, ◌≤◌, arith}
use Rattle.std.proofs.Common.{List, get_or, min, set, length, get_or-set_same, get_or-set_other}
use Rattle.std.proofs.lemmas.Bool.{both_ways, cases_eq, cases_lt}
use Rattle.diffusion_definitions.specs.Diffusion.{Plane}
use Rattle.tile_lanes.specs.Lanes.{AreCleared, IsCleared, IsWhole}
use Rattle.tile_lanes.specs.Paces.{delay_of}
use Rattle.tile_lanes.specs.Rows.{is_place}
use Rattle.tile_lanes.specs.declared.lanes.pace.Pace.{Pace}

pub none_cleared : (step first : ℕ) (xs dots : List ℕ) → AreCleared step first first xs dots xs dots
none_cleared step first xs dots = omega arith

pub cleared_more : (step first n at d : ℕ) (old old_dots xs dots : List ℕ)
    → at ≡ 34 * step + 2 + n → first ≤ n → at < length xs → n < length dots → d ≡ get_or dots n 0 - get_or dots n 0 % 2
    → AreCleared step first n old old_dots xs dots
    → AreCleared step first (n + 1) old old_dots (set xs at 2040) (set dots n d)
cleared_more step first n at d old old_dots xs dots is_at started room more is_d s = grind (arith, cases_eq, get_or-set_other, get_or-set_same)

-- Rows from the top and rows to the last in the tile are cleared, which have no pixel; those between them have one.
pub both_cleared : (pace : Pace) {p : Plane} (c j step first end : ℕ) {last up low : ℕ} {f0 d0 f1 d1 f2 d2 : List ℕ}
    → first ≤ end → last ≤ 32 → ((r : ℕ) → r < 32 → delay_of pace r + 8 ≤ step → r < last)
    → ((r : ℕ) → r < 32 → step < delay_of pace r + 8 → last ≤ r)
    → up ≡ min first last → low ≡ min end last
    → ((r o : ℕ) → first ≤ r → r < end → o + delay_of pace r + 8 ≡ step → is_place p j r (64 * c + o) ≡ true)
    → ((r o : ℕ) → r < first → o + delay_of pace r + 8 ≡ step → is_place p j r (64 * c + o) ≡ false)
    → ((r o : ℕ) → end ≤ r → r < 32 → o + delay_of pace r + 8 ≡ step → is_place p j r (64 * c + o) ≡ false)
    → AreCleared step 0 up f0 d0 f1 d1 → AreCleared step low last f1 d1 f2 d2 → IsCleared pace p c j step f0 d0 f2 d2
both_cleared pace c j step first end {last} order most entered outside is_up is_low inside above below
    a b = grind (arith, both_ways, cases_lt)

-- Where each place has a pixel, nothing is to be cleared.
pub none_missing : (pace : Pace) (p : Plane) (c j step : ℕ) (xs dots : List ℕ) → IsWhole p c j → IsCleared pace p c j step xs dots xs dots
none_missing pace p c j step xs dots whole = grind (arith, both_ways)
