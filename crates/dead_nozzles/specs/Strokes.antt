-- The strokes of a head with dead nozzles: which live nozzle fires which row of a window in which stroke.
use Rattle.base_definitions.specs.Counting.{count_from}
use Rattle.dead_nozzles.specs.Dead.{has, least_live}
use Rattle.std.specs.Int.{IsGcd}
use Rattle.std.specs.Prelude.{◌≡◌, ℕ, zero, suc, ◌+◌, ◌-◌, ◌*◌, ◌==◌, ◌<◌, ◌≤◌, nat_lt, nat_le, Bool, true, false, cond, not, ◌&&◌, if◌then◌else◌}
use Rattle.std.specs.Prelude.{List, [], ◌∷◌, length, map, count_by, Option, Some, None}
use Rattle.std.specs.List.{AllByRecursion, filter, flat_map, list_any}
use Rattle.weave_definitions.specs.Weave.{pass_count}

-- A head of nozzles that are `pitch` rows apart, over a window of `height` rows, and the numbers of its dead nozzles.
pub record Head : Type 0 where
  pub nozzles : ℕ
  pub pitch : ℕ
  pub height : ℕ
  pub dead : List ℕ

-- The head can print: its nozzles and their pitch are coprime, and a nozzle is live.
pub record IsHead (h : Head) : Type 0 where
  pub some_nozzles : 1 ≤ h.nozzles
  pub some_pitch : 1 ≤ h.pitch
  pub coprime : IsGcd h.nozzles h.pitch 1
  pub live : ℕ
  pub is_live : least_live h.nozzles h.dead ≡ Some live

-- how many rows the last nozzle is below the first
abbrev pub head_span : Head → ℕ
head_span h = (h.nozzles - 1) * h.pitch

-- a nozzle fires a row of the window
pub record Shot : Type 0 where
  pub nozzle : ℕ
  pub row : ℕ

-- A stroke of the head. Its start is the row of nozzle 0, counted from as far above the window as the head is long.
pub record HeadStroke : Type 0 where
  pub start : ℕ
  pub shots : List Shot

-- the row of the window under a nozzle of a stroke
abbrev pub row_under : Head → ℕ → ℕ → Option ℕ
row_under h start nozzle =
    let place : ℕ = start + nozzle * h.pitch in
    let first : ℕ = head_span h in
    if nat_le first place && nat_lt (place - first) h.height then Some (place - first) else None

-- a live nozzle fires the row under it, where that row is wanted
abbrev pub shot : Head → (ℕ → Bool) → ℕ → Option ℕ → List Shot
shot h wanted nozzle None = []
shot h wanted nozzle (Some row) = cond (not (has h.dead nozzle) && wanted row) (record { nozzle = nozzle; row = row } ∷ []) []

-- the stroke that starts at a row and fires those rows that are wanted
abbrev pub stroke_at : Head → (ℕ → Bool) → ℕ → HeadStroke
stroke_at h wanted start = record {
  start = start;
  shots = flat_map (λ nozzle. shot h wanted nozzle (row_under h start nozzle)) (count_from 0 h.nozzles);
}

-- all that strokes fire
abbrev pub firings_of : List HeadStroke → List Shot
firings_of strokes = flat_map (λ (s : HeadStroke). s.shots) strokes

-- whether a row is fired
abbrev pub is_fired : List Shot → ℕ → Bool
is_fired shots row = list_any (λ (s : Shot). s.row == row) shots

-- The regular strokes are the passes of the weave. Each live nozzle fires the row under it.
abbrev pub regular_strokes : Head → List HeadStroke
regular_strokes h =
    map (λ pass. stroke_at h (λ row. true) (pass * h.nozzles)) (count_from 0 (pass_count h.nozzles h.pitch h.height))

-- the rows that are not fired, of these
abbrev pub left_by : List Shot → List ℕ → List ℕ
left_by shots rows = filter (λ row. not (is_fired shots row)) rows

-- The rows that the regular strokes leave, in rising order.
abbrev pub missing : Head → List ℕ
missing h = left_by (firings_of (regular_strokes h)) (count_from 0 h.height)

-- the stroke in which a nozzle fires a row, and each live nozzle the row under it where that is one of `rows`
abbrev pub make_up_stroke : Head → ℕ → ℕ → List ℕ → HeadStroke
make_up_stroke h nozzle row rows = stroke_at h (has rows) (row + head_span h - nozzle * h.pitch)

-- At most so many strokes for rows in rising order: the nozzle fires the least of them, and then the least of those
-- that are left.
abbrev pub made_up : Head → ℕ → ℕ → List ℕ → List HeadStroke
made_up h nozzle zero rows = []
made_up h nozzle (suc most) [] = []
made_up h nozzle (suc most) (row ∷ rows) =
    make_up_stroke h nozzle row (row ∷ rows)
    ∷ made_up h nozzle most (left_by (make_up_stroke h nozzle row (row ∷ rows)).shots (row ∷ rows))

-- the make-up strokes of a nozzle, if there is one
abbrev pub made_up_by : Head → Option ℕ → List HeadStroke
made_up_by h None = []
made_up_by h (Some nozzle) = made_up h nozzle (length (missing h)) (missing h)

-- The make-up strokes fire the missing rows, by the least live nozzle and those below it.
abbrev pub make_up_strokes : Head → List HeadStroke
make_up_strokes h = made_up_by h (least_live h.nozzles h.dead)

-- a stroke among strokes in rising order of their starts
abbrev pub insert : HeadStroke → List HeadStroke → List HeadStroke
insert stroke [] = stroke ∷ []
insert stroke (next ∷ others) = cond (nat_le stroke.start next.start) (stroke ∷ next ∷ others) (next ∷ insert stroke others)

-- several strokes among others
abbrev pub inserted : List HeadStroke → List HeadStroke → List HeadStroke
inserted [] others = others
inserted (stroke ∷ strokes) others = insert stroke (inserted strokes others)

-- Regular and make-up strokes, in rising order of their starts.
abbrev pub all_strokes : Head → List HeadStroke
all_strokes h = inserted (make_up_strokes h) (regular_strokes h)

-- ---- what the laws say

-- Each row that is wanted is fired exactly once, and no other row is.
abbrev pub FiresEachOnce : (ℕ → Bool) → List HeadStroke → Type 0
FiresEachOnce wanted strokes = (row : ℕ) → count_by (λ (s : Shot). s.row == row) (firings_of strokes) ≡ cond (wanted row) 1 0

-- A live nozzle of the head fires, and the row is under it.
pub record IsLiveShot (h : Head) (start : ℕ) (s : Shot) : Type 0 where
  pub nozzle : s.nozzle < h.nozzles
  pub live : has h.dead s.nozzle ≡ false
  pub place : start + s.nozzle * h.pitch ≡ head_span h + s.row

-- Only live nozzles fire, and only rows that are under them.
abbrev pub AreLive : Head → List HeadStroke → Type 0
AreLive h strokes = AllByRecursion (λ (stroke : HeadStroke). AllByRecursion (IsLiveShot h stroke.start) stroke.shots) strokes

-- Each stroke starts above all after it.
abbrev pub StartsRise : List HeadStroke → Type 0
StartsRise [] = Unit {0}
StartsRise (stroke ∷ others) = AllByRecursion (λ (other : HeadStroke). stroke.start < other.start) others × StartsRise others
