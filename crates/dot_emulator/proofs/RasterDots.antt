-- The dots of a raster, row by row.
use Rattle.std.proofs.Common.{◌≡◌, ℕ, suc, ◌+◌, ◌-◌, ◌*◌, ◌<◌, ◌≤◌, Bool, true, false, ◌&&◌, ◌||◌, nat_le, nat_lt, List, [], ◌∷◌, ◌++◌}
use Rattle.std.proofs.Common.{length, take, drop, refl, ◌∙◌, sym, ap, arith, length-take, length-drop}
use Rattle.std.specs.List.{list_any}
use Rattle.std.proofs.lemmas.Bool.{false≢true, le-leb, lt-ltb, or_parts}
use Rattle.std.proofs.lemmas.List.{drop-drop}
use Rattle.std.proofs.lemmas.List.Folds.{list_any-append}
use Rattle.escp2_definitions.specs.Commands.{row_bytes}
use Rattle.base_definitions.specs.Packed.{bits}
use Rattle.escp2_definitions.specs.Machine.{Dot, row_dots, rows_dots}
use Rattle.dot_planes.specs.Laying.{has_dot}
use Rattle.dot_emulator.specs.declared.firing.Raster.{Raster}
use Rattle.dot_emulator.specs.Firing.{Grid, HasRows, IsAbove, Stands, fired}
use Rattle.dot_emulator.proofs.RowDots.{row-below, row-has}

-- the bytes of row i
abbrev pub packed_row : Raster → List ℕ → ℕ → List ℕ
packed_row r rows i = take (row_bytes r.header) (drop (i * row_bytes r.header) rows)

-- the row of the sheet where row i is
abbrev pub sheet_row : Raster → ℕ → ℕ
sheet_row r i = r.y + i * r.pitch

-- the dots of row i
abbrev pub row_fired : Grid → Raster → List ℕ → ℕ → List Dot
row_fired g r rows i = row_dots r.ink (r.x * g.column) g.column (sheet_row r i * g.row) (take r.header.n (bits (packed_row r rows i)))

-- the dots of the rows from row i on
abbrev pub rest : Grid → Raster → List ℕ → ℕ → List Dot
rest g r rows i = rows_dots (r.header.m - i) r.header r.ink (r.x * g.column) (sheet_row r i * g.row) (drop (i * row_bytes r.header) rows)

pub rest-first : (g : Grid) (r : Raster) (rows : List ℕ) → fired g r rows ≡ rest g r rows 0
rest-first g r rows =
    let all : r.header.m ≡ r.header.m - 0 = omega arith in
    let place : r.y * g.row ≡ (r.y + 0 * r.pitch) * g.row = grind arith in
    let none : drop (0 * row_bytes r.header) rows ≡ rows = ap (λ n. drop n rows) {y = 0} (omega arith) in
    ap (λ n. rows_dots n r.header r.ink (r.x * g.column) (r.y * g.row) rows) all
    ∙ ap (λ n. rows_dots (r.header.m - 0) r.header r.ink (r.x * g.column) n rows) place
    ∙ ap (λ (bytes : List ℕ). rows_dots (r.header.m - 0) r.header r.ink (r.x * g.column) (sheet_row r 0 * g.row) bytes) (sym none)

pub rest-none : (g : Grid) (r : Raster) (rows : List ℕ) (i : ℕ) → r.header.m ≤ i → rest g r rows i ≡ []
unfolding rows_dots
rest-none g r rows i all =
    let none : r.header.m - i ≡ 0 = omega arith in
    ap (λ n. rows_dots n r.header r.ink (r.x * g.column) (sheet_row r i * g.row) (drop (i * row_bytes r.header) rows)) none

pub rest-next : (g : Grid) (r : Raster) (rows : List ℕ) (i : ℕ)
    → Stands g r → i < r.header.m → rest g r rows i ≡ row_fired g r rows i ++ rest g r rows (i + 1)
unfolding rows_dots
rest-next g r rows i stands low =
    let len : ℕ = row_bytes r.header in
    let more : r.header.m - i ≡ suc (r.header.m - (i + 1)) = omega arith in
    let below : sheet_row r i * g.row + r.header.v ≡ sheet_row r (i + 1) * g.row = grind (arith, stands.down) in
    let place : i * len + len ≡ (i + 1) * len = grind arith in
    ap (λ n. rows_dots n r.header r.ink (r.x * g.column) (sheet_row r i * g.row) (drop (i * len) rows)) more
    ∙ ap (λ h. row_dots r.ink (r.x * g.column) h (sheet_row r i * g.row) (take r.header.n (bits (packed_row r rows i)))
    ++ rows_dots (r.header.m - (i + 1)) r.header r.ink
    (r.x * g.column) (sheet_row r i * g.row + r.header.v) (drop len (drop (i * len) rows))) stands.across
    ∙ ap (λ y. row_fired g r rows i
    ++ rows_dots (r.header.m - (i + 1)) r.header r.ink (r.x * g.column) y (drop len (drop (i * len) rows))) below
    ∙ ap (λ (bytes : List ℕ). row_fired g r rows i
    ++ rows_dots (r.header.m - (i + 1)) r.header r.ink (r.x * g.column) (sheet_row r (i + 1) * g.row) bytes)
    (drop-drop len (i * len) rows ∙ ap (λ n. drop n rows) place)

-- ---- a test of the dots

-- What was seen of a test before row i: `b` is whether a dot before it passes.
abbrev pub SeenSoFar : (Dot → Bool) → Grid → Raster → List ℕ → ℕ → Bool → Type 0
SeenSoFar f g r rows i b = list_any f (fired g r rows) ≡ (b || list_any f (rest g r rows i))

pub seen-first : (f : Dot → Bool) (g : Grid) (r : Raster) (rows : List ℕ) → SeenSoFar f g r rows 0 false
seen-first f g r rows = ap (list_any f) (rest-first g r rows)

any-next : (f : Dot → Bool) (g : Grid) (r : Raster) (rows : List ℕ) (i : ℕ) → Stands g r → i < r.header.m
    → list_any f (rest g r rows i) ≡ (list_any f (row_fired g r rows i) || list_any f (rest g r rows (i + 1)))
any-next f g r rows i stands low = ap (list_any f) (rest-next g r rows i stands low)
    ∙ list_any-append f (row_fired g r rows i) (rest g r rows (i + 1))

or_assoc : (a b d : Bool) → (a || (b || d)) ≡ ((a || b) || d)
or_assoc true b d = refl
or_assoc false b d = refl

or_false : (b : Bool) → (b || false) ≡ b
or_false true = refl
or_false false = refl

-- one row more, of which `row` is whether a dot passes
pub seen-next : (f : Dot → Bool) (g : Grid) (r : Raster) (rows : List ℕ) (i : ℕ) (before row now : Bool)
    → Stands g r → i < r.header.m → SeenSoFar f g r rows i before
    → list_any f (row_fired g r rows i) ≡ row → now ≡ (before || row) → SeenSoFar f g r rows (i + 1) now
seen-next f g r rows i before row now stands low so_far row_is now_is =
    let left : Bool = list_any f (rest g r rows (i + 1)) in
    so_far
    ∙ ap (λ b. before || b) (any-next f g r rows i stands low)
    ∙ ap (λ b. before || (b || left)) row_is
    ∙ or_assoc before row left
    ∙ ap (λ b. b || left) (sym now_is)

pub seen-all : (f : Dot → Bool) (g : Grid) (r : Raster) (rows : List ℕ) (i : ℕ) (b : Bool)
    → r.header.m ≤ i → SeenSoFar f g r rows i b → list_any f (fired g r rows) ≡ b
seen-all f g r rows i b all so_far = so_far ∙ ap (λ ds. b || list_any f ds) (rest-none g r rows i all) ∙ or_false b

-- whether there is a dot
pub some-dot : (dots : List Dot) → list_any (λ d. true) dots ≡ nat_lt 0 (length dots)
some-dot [] = refl
some-dot (d ∷ dots) = sym (lt-ltb 0 (suc (length dots)) (omega arith))

-- ---- a row

pub row-long : (r : Raster) (rows : List ℕ) (i : ℕ) → HasRows r rows → i < r.header.m → r.header.n ≤ 8 * length (packed_row r rows i)
row-long r rows i fits low =
    let len : ℕ = row_bytes r.header in
    let inside : i * len + len ≤ r.header.m * len = grind (arith, low) in
    omega (arith, length-take len (drop (i * len) rows), length-drop (i * len) rows, fits, inside)

pub row-has-dot : (g : Grid) (r : Raster) (rows : List ℕ) (i : ℕ) → HasRows r rows → i < r.header.m
    → list_any (λ d. true) (row_fired g r rows i) ≡ has_dot (packed_row r rows i) r.header.n
row-has-dot g r rows i fits low =
    row-has r.ink r.x g.column (sheet_row r i * g.row) r.header.n (packed_row r rows i) (row-long r rows i fits low)

pub row-is-below : (g : Grid) (r : Raster) (rows : List ℕ) (i : ℕ) → Stands g r → HasRows r rows → i < r.header.m
    → list_any (λ d. nat_le g.bottom d.y) (row_fired g r rows i)
    ≡ (nat_le r.end (sheet_row r i) && has_dot (packed_row r rows i) r.header.n)
row-is-below g r rows i stands fits low =
    row-below g.bottom r.ink r.x g.column (sheet_row r i * g.row) r.header.n (packed_row r rows i) (row-long r rows i fits low)
    ∙ ap (λ b. b && has_dot (packed_row r rows i) r.header.n) (stands.ends (sheet_row r i))

-- the same with the numbers and the bytes that the code takes
pub row-some : (g : Grid) (r : Raster) (rows bytes : List ℕ) (i : ℕ) → HasRows r rows → i < r.header.m
    → bytes ≡ packed_row r rows i → list_any (λ d. true) (row_fired g r rows i) ≡ has_dot bytes r.header.n
row-some g r rows bytes i fits low is = row-has-dot g r rows i fits low ∙ ap (λ (bs : List ℕ). has_dot bs r.header.n) (sym is)

pub row-under : (g : Grid) (r : Raster) (rows bytes : List ℕ) (i y : ℕ) → Stands g r → HasRows r rows → i < r.header.m
    → y ≡ sheet_row r i → bytes ≡ packed_row r rows i
    → list_any (λ d. nat_le g.bottom d.y) (row_fired g r rows i) ≡ (nat_le r.end y && has_dot bytes r.header.n)
row-under g r rows bytes i y stands fits low down is =
    row-is-below g r rows i stands fits low
    ∙ ap (λ k. nat_le r.end k && has_dot (packed_row r rows i) r.header.n) (sym down)
    ∙ ap (λ (bs : List ℕ). nat_le r.end y && has_dot bs r.header.n) (sym is)

-- ---- rows that have no dots

-- no dot of the rows from row i on is at or below the bottom margin
abbrev pub IsAboveFrom : Grid → Raster → List ℕ → ℕ → Type 0
IsAboveFrom g r rows i = list_any (λ d. nat_le g.bottom d.y) (rest g r rows i) ≡ false

pub above-first : (g : Grid) (r : Raster) (rows : List ℕ) → IsAbove g r rows → IsAboveFrom g r rows 0
above-first g r rows above = sym (seen-first (λ d. nat_le g.bottom d.y) g r rows) ∙ above

-- the same for row i, and for those after it
pub record AreAbove (g : Grid) (r : Raster) (rows : List ℕ) (i : ℕ) : Type 0 where
  pub this : list_any (λ d. nat_le g.bottom d.y) (row_fired g r rows i) ≡ false
  pub later : IsAboveFrom g r rows (i + 1)

pub above-next : (g : Grid) (r : Raster) (rows : List ℕ) (i : ℕ)
    → Stands g r → i < r.header.m → IsAboveFrom g r rows i → AreAbove g r rows i
above-next g r rows i stands low above =
    let parts = or_parts _ _ (sym (any-next (λ d. nat_le g.bottom d.y) g r rows i stands low) ∙ above) in
    record { this = parts.0; later = parts.1 }

-- a list in which no dot passes the test that all pass is empty
none-in : (dots : List Dot) → list_any (λ d. true) dots ≡ false → dots ≡ []
none-in [] none = refl
none-in (d ∷ dots) none = absurd (false≢true (sym none))

-- a row without a dot has none
pub row-none : (g : Grid) (r : Raster) (rows bytes : List ℕ) (i : ℕ) → HasRows r rows → i < r.header.m
    → bytes ≡ packed_row r rows i → has_dot bytes r.header.n ≡ false → row_fired g r rows i ≡ []
row-none g r rows bytes i fits low is none = none-in (row_fired g r rows i) (row-some g r rows bytes i fits low is ∙ none)

-- a row below the bottom margin has no dots
pub below-none : (g : Grid) (r : Raster) (rows : List ℕ) (i : ℕ)
    → Stands g r → HasRows r rows → i < r.header.m → IsAboveFrom g r rows i → r.end ≤ sheet_row r i
    → row_fired g r rows i ≡ []
below-none g r rows i stands fits low above below =
    let this = (above-next g r rows i stands low above).this in
    none-in (row_fired g r rows i) (
    row-has-dot g r rows i fits low
    ∙ sym (row-is-below g r rows i stands fits low
    ∙ ap (λ t. t && has_dot (packed_row r rows i) r.header.n) (le-leb r.end (sheet_row r i) below))
    ∙ this)
