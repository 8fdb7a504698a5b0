-- What a plan of strokes keeps: the start of the stroke that fires each row of the window.
use Rattle.base_definitions.specs.Counting.{count_from}
use Rattle.base_definitions.specs.Limits.{most_rows}
use Rattle.dead_nozzles.specs.Dead.{has}
use Rattle.dead_nozzles.specs.Strokes.{Head, IsHead, Shot, HeadStroke, all_strokes, is_fired, row_under, stroke_at}
use Rattle.std.specs.Prelude.{◌≡◌, ◌≢◌, ℕ, ◌*◌, ◌==◌, ◌<◌, ◌≤◌, Bool, true, false, cond, if◌then◌else◌}
use Rattle.std.specs.Prelude.{List, [], ◌∷◌, length, map, slice_index_or, Option, Some, None}
use Rattle.std.specs.List.{AllByRecursion, filter}
use Rattle.weave_definitions.specs.Weave.{nozzle_row}

-- ---- a stroke of a list, and the row of a nozzle

-- the stroke at a place of a list; past its end, one that fires nothing
abbrev pub stroke_in : List HeadStroke → ℕ → HeadStroke
stroke_in strokes place = slice_index_or strokes place (record { start = 0; shots = [] })

-- the row that a nozzle fires, if it fires one
abbrev pub shot_row : List Shot → ℕ → Option ℕ
shot_row [] nozzle = None
shot_row (s ∷ shots) nozzle = if s.nozzle == nozzle then Some s.row else shot_row shots nozzle

-- ---- who fires a row

-- the start of the stroke that fires a row; none where no stroke does so yet
abbrev pub owner : List (Option ℕ) → ℕ → Option ℕ
owner owners row = slice_index_or owners row None

-- no stroke fires the row yet
abbrev pub is_free : Option ℕ → Bool
is_free None = true
is_free (Some start) = false

-- whether the stroke that starts here fires the row
abbrev pub is_of : ℕ → Option ℕ → Bool
is_of start None = false
is_of start (Some other) = other == start

-- what owns a row after a stroke that starts here took it
abbrev pub taken : ℕ → Option ℕ → Option ℕ
taken start None = Some start
taken start (Some other) = Some other

-- the row under a nozzle, where the stroke that starts here fires it
abbrev pub owned_row : List (Option ℕ) → ℕ → Option ℕ → Option ℕ
owned_row owners start None = None
owned_row owners start (Some row) = cond (is_of start (owner owners row)) (Some row) None

-- Each nozzle fires in a stroke the row under it, where the stroke is the row's owner, and no other.
abbrev pub Owns : Head → List (Option ℕ) → HeadStroke → Type 0
Owns h owners stroke =
    (nozzle : ℕ) → nozzle < h.nozzles → shot_row stroke.shots nozzle ≡ owned_row owners stroke.start (row_under h stroke.start nozzle)

-- ---- a head, and a plan of its strokes

-- the nozzles that a table has as dead
abbrev pub listed : List Bool → ℕ → List ℕ
listed table nozzles = filter (λ nozzle. slice_index_or table nozzle false) (count_from 0 nozzles)

-- The head has a nozzle or more, at most 255 rows apart, over a window of no more rows than a page.
pub record IsWorn (nozzles pitch height : ℕ) : Type 0 where
  pub some_nozzles : 1 ≤ nozzles
  pub most_nozzles : nozzles ≤ 255
  pub some_pitch : 1 ≤ pitch
  pub most_pitch : pitch ≤ 255
  pub most_rows : height ≤ most_rows

-- The starts are those of all strokes, and each row has the start of the stroke that fires it.
pub record IsStrokePlan (h : Head) (starts : List ℕ) (owners : List (Option ℕ)) : Type 0 where
  pub head : IsHead h
  pub worn : IsWorn h.nozzles h.pitch h.height
  pub starts_are : starts ≡ map (λ (s : HeadStroke). s.start) (all_strokes h)
  pub rows : length owners ≡ h.height
  pub own : AllByRecursion (Owns h owners) (all_strokes h)

-- ---- how owners are found

-- The owner of a row before any is made up: the pass in which a live nozzle is over it; none where that nozzle is dead.
pub record IsPassOwner (h : Head) (row : ℕ) (found : Option ℕ) : Type 0 where
  pub pass : ℕ
  pub nozzle : ℕ
  pub few : nozzle < h.nozzles
  pub over : nozzle_row h.nozzles h.pitch h.height pass nozzle ≡ Some row
  pub found_is : found ≡ cond (has h.dead nozzle) None (Some (pass * h.nozzles))

-- The same of each row.
pub record ArePassOwners (h : Head) (owners : List (Option ℕ)) : Type 0 where
  pub rows : length owners ≡ h.height
  pub each : (row : ℕ) → row < h.height → IsPassOwner h row (owner owners row)

-- The stroke that starts here has taken the free rows that it fires.
pub record Takes (h : Head) (start : ℕ) (old new : List (Option ℕ)) : Type 0 where
  pub rows : length new ≡ length old
  pub each : (row : ℕ) → row < h.height
      → owner new row ≡ cond (is_fired (stroke_at h (λ y. is_free (owner old y)) start).shots row) (Some start) (owner old row)

-- What begins where the head is: a pass, a make-up stroke whose maker is over a free row, or nothing.
pub data Begins (h : Head) (maker start : ℕ) (old new : List (Option ℕ)) : Bool → Type 0 where
  a_pass : (t : ℕ) → start ≡ t * h.nozzles → new ≡ old → Begins h maker start old new true
  a_make_up : (row : ℕ) → row_under h start maker ≡ Some row → owner old row ≡ None → Takes h start old new → Begins h maker start old new true
  nothing : ((t : ℕ) → start ≢ t * h.nozzles) → ((row : ℕ) → row_under h start maker ≡ Some row → is_free (owner old row) ≡ false) → new ≡ old
      → Begins h maker start old new false
