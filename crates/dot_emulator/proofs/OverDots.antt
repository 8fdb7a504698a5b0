-- A row of a raster over the dots of a sheet.
use Rattle.std.proofs.Common.{◌≡◌, ◌≢◌, ℕ, ◌+◌, ◌-◌, ◌*◌, ◌==◌, ◌<◌, ◌≤◌, ◌⊎◌, Bool, true, false, ◌&&◌, ◌||◌, nat_le, nat_lt, List, [], ◌∷◌, ◌++◌}
use Rattle.std.proofs.Common.{Option, Some, None, length, take, refl, ◌∙◌, sym, ap, arith, inl, inr, subst, append_assoc, append-nil}
use Rattle.std.specs.List.{list_any}
use Rattle.std.proofs.lemmas.Bool.{cases_Bool, cases_eq, cases_lt, eq-eqb, and_right, le-leb, le-ltb, lt-ltb, ne_eqb}
use Rattle.std.proofs.lemmas.List.Folds.{list_any-append}
use Rattle.printer_definitions.specs.declared.inks.Ink.{Ink}
use Rattle.printer_definitions.specs.Inks.{ink_place, same_ink}
use Rattle.base_definitions.specs.Packed.{bits}
use Rattle.escp2_definitions.specs.Machine.{Dot, is_at, overprints, row_dots}
use Rattle.base_definitions.specs.Counting.{count_from}
use Rattle.dot_planes.specs.Laying.{Lays, has_dot, meets}
use Rattle.dot_planes.specs.Tables.{DotTable, dot, row_dot}
use Rattle.dot_planes.proofs.LaidRows.{any-no, any-some}
use Rattle.dot_emulator.specs.declared.firing.Raster.{Raster}
use Rattle.dot_emulator.specs.Current.{meets_in, rows_or}
use Rattle.dot_emulator.specs.Firing.{Grid, HasRows, PlanesHave, Stands, fired}
use Rattle.dot_emulator.specs.Sheets.{HasPlaces, dot_at}
use Rattle.dot_emulator.proofs.RasterDots.{IsAboveFrom, below-none, packed_row, rest, rest-first, rest-next}
use Rattle.dot_emulator.proofs.RasterDots.{rest-none, row-long, row-none, row_fired, sheet_row}
use Rattle.dot_emulator.proofs.RowDots.{any-same, eqb-times, row-any}

-- a row of dots that begins at column x
abbrev pub dots_of : Grid → Ink → ℕ → ℕ → ℕ → List ℕ → List Dot
dots_of g ink y x n row = row_dots ink (x * g.column) g.column (y * g.row) (take n (bits row))

-- a dot of the row is on the sheet already exactly where the row meets the planes
pub row-meets : (g : Grid) (dots : List Dot) (t : DotTable) (ink : Ink) (y x n : ℕ) (row : List ℕ) → n ≤ 8 * length row → y < t.rows
    → HasPlaces g.column g.row dots t
    → list_any (λ d. list_any (is_at d) dots) (dots_of g ink y x n row) ≡ meets t (ink_place ink) y x row n
row-meets g dots t ink y x n row long inside has =
    row-any (λ d. list_any (is_at d) dots) ink x g.column (y * g.row) n row long
    ∙ any-same _ _ 0 n (λ k low. ap (λ b. row_dot row (0 + k) && b) (sym (has ink y (x + (0 + k)) inside)))

-- nothing is overprinted on a sheet without dots
no-over : (new : List Dot) → overprints [] new ≡ false
no-over [] = refl
no-over (d ∷ new) = no-over new

none-over : (dots new : List Dot) → length dots ≡ 0 → overprints dots new ≡ false
none-over [] new none = no-over new
none-over (d ∷ dots) new none = absurd (omega arith)

-- ---- the row laid over

-- whether a dot of the row is at a place
abbrev at_place : Ink → ℕ → ℕ → Ink → ℕ → ℕ → Bool
at_place ink y x ink' y' x' = same_ink ink ink' && (x == x') && (y == y')

row-at : (g : Grid) (ink : Ink) (y x n : ℕ) (row : List ℕ) (ink' : Ink) (y' x' : ℕ) → 1 ≤ g.column → 1 ≤ g.row → n ≤ 8 * length row
    → list_any (is_at (dot_at g.column g.row ink' y' x')) (dots_of g ink y x n row)
    ≡ list_any (λ k. row_dot row k && at_place ink' y' x' ink y (x + k)) (count_from 0 n)
row-at g ink y x n row ink' y' x' some some' long =
    row-any (is_at (dot_at g.column g.row ink' y' x')) ink x g.column (y * g.row) n row long
    ∙ any-same _ _ 0 n (λ k low.
    ap (λ b. row_dot row (0 + k) && (same_ink ink' ink && b && (y' * g.row == y * g.row))) (eqb-times x' (x + (0 + k)) g.column some)
    ∙ ap (λ b. row_dot row (0 + k) && (same_ink ink' ink && (x' == x + (0 + k)) && b)) (eqb-times y' y g.row some'))

three-second : (a b d : Bool) → b ≡ false → (a && b && d) ≡ false
three-second true b d none = ap (λ e. e && d) none
three-second false b d none = refl

three-third : (a b d : Bool) → d ≡ false → (a && b && d) ≡ false
three-third true true d none = none
three-third true false d none = refl
three-third false b d none = refl

-- no dot of the row is at a place of another ink, another row or another column
other-place : (row : List ℕ) (n : ℕ) (f : ℕ → Bool)
    → ((k : ℕ) → k < n → f k ≡ false) → list_any (λ k. row_dot row k && f k) (count_from 0 n) ≡ false
other-place row n f none = any-no _ n (λ k low. and_right (row_dot row k) (f k) (none k low))

-- the dot of the row at a place of its own
own-place : (ink : Ink) (y x n : ℕ) (row : List ℕ) (ink' : Ink) (y' k : ℕ) → same_ink ink' ink ≡ true → y' ≡ y → k < n
    → list_any (λ j. row_dot row j && at_place ink' y' (x + k) ink y (x + j)) (count_from 0 n) ≡ row_dot row k
own-place ink y x n row ink' y' k same down low = by_dot (cases_Bool (row_dot row k))
  where
    here : at_place ink' y' (x + k) ink y (x + k) ≡ true
    here =
        ap (λ b. b && (x + k == x + k) && (y' == y)) same
        ∙ ap (λ b. b && (y' == y)) (eq-eqb (x + k) (x + k) refl)
        ∙ eq-eqb y' y down

    no_other : row_dot row k ≡ false → (j : ℕ) → j < n → (row_dot row j && at_place ink' y' (x + k) ink y (x + j)) ≡ false
    no_other none j in_row = elim (cases_eq j k) [
      | inl this ↦ ap (λ m. row_dot row m && at_place ink' y' (x + k) ink y (x + m)) this
          ∙ ap (λ b. b && at_place ink' y' (x + k) ink y (x + k)) none
      | inr other ↦ and_right (row_dot row j) _ (three-second
          (same_ink ink' ink) (x + k == x + j) (y' == y) (ne_eqb (x + k) (x + j) (λ e. other (omega arith))))
    ]

    by_dot : (row_dot row k ≡ true) ⊎ (row_dot row k ≡ false)
        → list_any (λ j. row_dot row j && at_place ink' y' (x + k) ink y (x + j)) (count_from 0 n) ≡ row_dot row k
    by_dot (inl on) = any-some _ n k low (ap (λ b. b && at_place ink' y' (x + k) ink y (x + k)) on ∙ here) ∙ sym on
    by_dot (inr none) = any-no _ n (no_other none) ∙ sym none

or-no : (a b : Bool) → b ≡ false → a ≡ (a || b)
or-no true b none = refl
or-no false b none = sym none

-- the planes after a row was laid over them, at a place
abbrev IsPlaced : DotTable → DotTable → Ink → ℕ → ℕ → ℕ → List ℕ → Ink → ℕ → ℕ → Type 0
IsPlaced old new ink y x n row ink' y' x' =
    dot new (ink_place ink') y' x' ≡ (dot old (ink_place ink') y' x'
    || list_any (λ k. row_dot row k && at_place ink' y' x' ink y (x + k)) (count_from 0 n))

place-of-row : (old new : DotTable) (ink : Ink) (y x n : ℕ) (row : List ℕ) (ink' : Ink) (y' x' : ℕ) → Lays old new (ink_place ink) y x row n
    → same_ink ink' ink ≡ true → ink_place ink' ≡ ink_place ink → y' ≡ y → IsPlaced old new ink y x n row ink' y' x'
place-of-row old new ink y x n row ink' y' x' lays same ink_is down = by_column (cases_lt x' x) (cases_lt x' (x + n))
  where
    moved : (t : DotTable) → dot t (ink_place ink') y' x' ≡ dot t (ink_place ink) y x'
    moved t = ap (λ i. dot t i y' x') ink_is ∙ ap (λ r. dot t (ink_place ink) r x') down

    beside : (x' < x) ⊎ (x + n ≤ x') → ((k : ℕ) → k < n → x' ≢ x + k) → IsPlaced old new ink y x n row ink' y' x'
    beside where_is other =
        moved new ∙ lays.beside x' where_is ∙ sym (moved old)
        ∙ or-no _ _ (other-place row n _
        (λ k low. three-second (same_ink ink' ink) (x' == x + k) (y' == y) (ne_eqb x' (x + k) (other k low))))

    by_column : (x' < x) ⊎ (x ≤ x') → (x' < x + n) ⊎ (x + n ≤ x') → IsPlaced old new ink y x n row ink' y' x'
    by_column (inl left) end = beside (inl left) (λ k low. λ e. omega arith)
    by_column (inr right) (inr past) = beside (inr past) (λ k low. λ e. omega arith)
    by_column (inr right) (inl inside) =
        let place : x + (x' - x) ≡ x' = omega arith in
        moved new
        ∙ ap (dot new (ink_place ink) y) (sym place)
        ∙ lays.part (x' - x) (omega arith)
        ∙ ap (λ c. dot old (ink_place ink) y c || row_dot row (x' - x)) place
        ∙ ap (λ b. b || row_dot row (x' - x)) (sym (moved old))
        ∙ ap (λ b. dot old (ink_place ink') y' x' || b) (sym (own-place ink y x n row ink' y' (x' - x) same down (omega arith)))
        ∙ ap (λ c. dot old (ink_place ink') y' x'
        || list_any (λ k. row_dot row k && at_place ink' y' c ink y (x + k)) (count_from 0 n)) place

place-laid : (old new : DotTable) (ink : Ink) (y x n : ℕ) (row : List ℕ) (ink' : Ink) (y' x' : ℕ) → Lays old new (ink_place ink) y x row n
    → y' < old.rows → IsPlaced old new ink y x n row ink' y' x'
place-laid old new ink y x n row ink' y' x' lays inside = elim (cases_eq (ink_place ink') (ink_place ink)) [
  | inl ink_is ↦ elim (cases_eq y' y) [
    | inl down ↦ place-of-row old new ink y x n row ink' y' x' lays (eq-eqb _ _ ink_is) ink_is down
    | inr other ↦
        lays.others (ink_place ink') y' (inr other) inside x'
        ∙ or-no _ _ (other-place row n _ (λ k low. three-third (same_ink ink' ink) (x' == x + k) (y' == y) (ne_eqb y' y other)))
  ]
  | inr other ↦
      lays.others (ink_place ink') y' (inl other) inside x'
      ∙ or-no _ _ (other-place row n _ (λ k low. ap (λ b. b && (x' == x + k) && (y' == y)) (ne_eqb _ _ other)))
]

pub lay-row : (g : Grid) (dots : List Dot) (old new : DotTable) (ink : Ink) (y x n : ℕ) (row : List ℕ)
    → 1 ≤ g.column → 1 ≤ g.row → n ≤ 8 * length row
    → HasPlaces g.column g.row dots old
    → Lays old new (ink_place ink) y x row n → HasPlaces g.column g.row (dots ++ dots_of g ink y x n row) new
lay-row g dots old new ink y x n row some some' long has lays = λ ink' y' x' inside.
    let inside' : y' < old.rows = omega (arith, lays.size.rows) in
    place-laid old new ink y x n row ink' y' x' lays inside'
    ∙ ap (λ b. b || list_any (λ k. row_dot row k && at_place ink' y' x' ink y (x + k)) (count_from 0 n)) (has ink' y' x' inside')
    ∙ ap (λ b. list_any (is_at (dot_at g.column g.row ink' y' x')) dots || b) (sym (row-at g ink y x n row ink' y' x' some some' long))
    ∙ sym (list_any-append (is_at (dot_at g.column g.row ink' y' x')) dots (dots_of g ink y x n row))

-- ---- rows as the code takes them

-- the numbers and bytes of row i
pub record IsRow (r : Raster) (rows : List ℕ) (i plane y n : ℕ) (bytes : List ℕ) : Type 0 where
  pub plane_is : plane ≡ ink_place r.ink
  pub down : y ≡ sheet_row r i
  pub wide : n ≡ r.header.n
  pub bytes_are : bytes ≡ packed_row r rows i

-- whether a dot of row i, which has none below the bottom margin, is on the sheet already
pub row-over : (g : Grid) (dots : List Dot) (planes : Option DotTable) (r : Raster) (rows bytes : List ℕ) (i y : ℕ)
    → HasRows r rows → i < r.header.m → r.end ≤ rows_or r.end planes → PlanesHave g dots planes
    → y ≡ sheet_row r i → bytes ≡ packed_row r rows i → (nat_le r.end y && has_dot bytes r.header.n) ≡ false
    → list_any (λ d. list_any (is_at d) dots) (row_fired g r rows i)
    ≡ (nat_lt y r.end && meets_in planes (ink_place r.ink) y r.x bytes r.header.n)
row-over g dots planes r rows bytes i y fits low high have down is above = elim (cases_lt y r.end) [
  | inl inside ↦ met planes high have inside
      ∙ sym (ap (λ b. b && meets_in planes (ink_place r.ink) y r.x bytes r.header.n) (lt-ltb y r.end inside))
  | inr below ↦
      let none : has_dot bytes r.header.n ≡ false =
      sym (ap (λ b. b && has_dot bytes r.header.n) (le-leb r.end y below)) ∙ above in
      ap (list_any (λ d. list_any (is_at d) dots)) (row-none g r rows bytes i fits low is none)
      ∙ sym (ap (λ b. b && meets_in planes (ink_place r.ink) y r.x bytes r.header.n) (le-ltb y r.end below))
]
  where
    met : (o : Option DotTable) → r.end ≤ rows_or r.end o → PlanesHave g dots o → y < r.end
        → list_any (λ d. list_any (is_at d) dots) (row_fired g r rows i) ≡ meets_in o (ink_place r.ink) y r.x bytes r.header.n
    met None high none inside = none-over dots (row_fired g r rows i) none
    met (Some t) high has inside =
        row-meets g dots t r.ink (sheet_row r i) r.x r.header.n (packed_row r rows i) (row-long r rows i fits low)
        (omega (arith, down)) has
        ∙ sym (ap (λ k. meets t (ink_place r.ink) k r.x bytes r.header.n) down
        ∙ ap (λ (bs : List ℕ). meets t (ink_place r.ink) (sheet_row r i) r.x bs r.header.n) is)

-- The planes have the dots of the rows before row i too.
pub record LaidSoFar (g : Grid) (r : Raster) (rows : List ℕ) (i : ℕ) (dots : List Dot) (t : DotTable) : Type 0 where
  pub done : List Dot
  pub is : fired g r rows ≡ done ++ rest g r rows i
  pub has : HasPlaces g.column g.row (dots ++ done) t

places-same : (g : Grid) (t : DotTable) (xs ys : List Dot) → xs ≡ ys → HasPlaces g.column g.row xs t → HasPlaces g.column g.row ys t
places-same g t xs ys same has = λ ink y x inside. has ink y x inside ∙ ap (list_any (is_at (dot_at g.column g.row ink y x))) same

pub laid-first : (g : Grid) (r : Raster) (rows : List ℕ) (dots : List Dot) (t : DotTable)
    → HasPlaces g.column g.row dots t → LaidSoFar g r rows 0 dots t
laid-first g r rows dots t has = record {
  done = [];
  is = rest-first g r rows;
  has = places-same g t dots (dots ++ []) (sym (append-nil dots)) has;
}

pub laid-next : (g : Grid) (r : Raster) (rows : List ℕ) (i : ℕ) (dots : List Dot)
    (old new : DotTable) (plane y n : ℕ) (bytes : List ℕ) → Stands g r → HasRows r rows → i < r.header.m
    → LaidSoFar g r rows i dots old
    → IsRow r rows i plane y n bytes → Lays old new plane y r.x bytes n → LaidSoFar g r rows (i + 1) dots new
laid-next g r rows i dots old new plane y n bytes stands fits low so_far is lays =
    let row : List Dot = row_fired g r rows i in
    let L1 : ℕ → Type 0 = λ p. Lays old new p y r.x bytes n in
    let L2 : ℕ → Type 0 = λ d. Lays old new (ink_place r.ink) d r.x bytes n in
    let L3 : List ℕ → Type 0 = λ bs. Lays old new (ink_place r.ink) (sheet_row r i) r.x bs n in
    let L4 : ℕ → Type 0 = λ m. Lays old new (ink_place r.ink) (sheet_row r i) r.x (packed_row r rows i) m in
    let laid = subst L4 is.wide (subst L3 is.bytes_are (subst L2 is.down (subst L1 is.plane_is lays))) in
    record {
      done = so_far.done ++ row;
      is = so_far.is ∙ ap (λ ds. so_far.done ++ ds) (rest-next g r rows i stands low)
          ∙ sym (append_assoc so_far.done row (rest g r rows (i + 1)));
      has = places-same g new ((dots ++ so_far.done) ++ row) (dots ++ (so_far.done ++ row)) (append_assoc dots so_far.done row)
          (lay-row g (dots ++ so_far.done) old new r.ink (sheet_row r i) r.x r.header.n
          (packed_row r rows i) stands.some_column stands.some_row (row-long r rows i fits low) so_far.has laid);
    }

-- a row that has no dots
pub laid-none : (g : Grid) (r : Raster) (rows : List ℕ) (i : ℕ) (dots : List Dot) (t : DotTable)
    → Stands g r → HasRows r rows → i < r.header.m → IsAboveFrom g r rows i → r.end ≤ sheet_row r i
    → LaidSoFar g r rows i dots t → LaidSoFar g r rows (i + 1) dots t
laid-none g r rows i dots t stands fits low above below so_far = record {
  done = so_far.done;
  is = so_far.is ∙ ap (λ ds. so_far.done ++ ds) (rest-next g r rows i stands low
      ∙ ap (λ ds. ds ++ rest g r rows (i + 1)) (below-none g r rows i stands fits low above below));
  has = so_far.has;
}

pub laid-all : (g : Grid) (r : Raster) (rows : List ℕ) (i : ℕ) (dots : List Dot) (t : DotTable)
    → r.header.m ≤ i → LaidSoFar g r rows i dots t
    → HasPlaces g.column g.row (dots ++ fired g r rows) t
laid-all g r rows i dots t all so_far =
    places-same g t (dots ++ so_far.done) (dots ++ fired g r rows)
    (ap (λ ds. dots ++ ds) (sym (so_far.is ∙ ap (λ ds. so_far.done ++ ds) (rest-none g r rows i all) ∙ append-nil so_far.done))) so_far.has

-- a row that is laid leaves the dots past its end unchanged
pub lays-past : (old new : DotTable) (i y x : ℕ) (row : List ℕ) (n : ℕ) (ink r c : ℕ) → Lays old new i y x row n → r < old.rows → x + n ≤ c
    → dot new ink r c ≡ dot old ink r c
lays-past old new i y x row n ink r c lays low past = elim (cases_eq ink i) [
  | inl same ↦ elim (cases_eq r y) [
    | inl down ↦
        ap (λ k. dot new k r c) same ∙ ap (λ k. dot new i k c) down ∙ lays.beside c (inr past)
        ∙ ap (λ k. dot old i k c) (sym down) ∙ ap (λ k. dot old k r c) (sym same)
    | inr other ↦ lays.others ink r (inr other) low c
  ]
  | inr other ↦ lays.others ink r (inl other) low c
]
