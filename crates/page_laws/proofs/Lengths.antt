-- How long the bytes of strokes are.
use Rattle.std.proofs.Common.{◌≡◌, ℕ, zero, suc, ◌+◌, ◌-◌, ◌*◌, ◌/◌, ◌≤◌, Bool, true, false, ◌==◌, if◌then◌else◌, List, [], ◌∷◌, ◌++◌}
use Rattle.std.proofs.Common.{length, take, drop, ◌∙◌, ap, arith, length-append, length-drop, filter, flat_map}
use Rattle.std.specs.List.{AllByRecursion}
use Rattle.std.proofs.lemmas.List.{length-map, length-take-le}
use Rattle.std.proofs.lemmas.List.Sums.{count_by-le-length, length-filter}
use Rattle.std.proofs.Math.Nat.{mul-le-mul_right}
use Rattle.printer_definitions.specs.declared.inks.Ink.{Ink}
use Rattle.printer_definitions.specs.Inks.{inks_of}
use Rattle.printer_definitions.specs.Printer.{Printer}
use Rattle.escp2_definitions.specs.declared.command.Command.TheVariants as c
use Rattle.escp2_definitions.specs.Written.{Coding, rows_apart}
use Rattle.escp2_laws.proofs.Least.{least-short}
use Rattle.page_definitions.specs.Dots.{Halftone}
use Rattle.page_definitions.specs.PageBytes.{halftone_bytes, page_coding, pass_stroke, weave}
use Rattle.page_definitions.specs.Strokes.{IsWhole, Spoken, Stroke, Strokes, bytes_of, down_by, ink_commands}
use Rattle.page_definitions.specs.Strokes.{strokes_bytes, strokes_commands}
use Rattle.base_definitions.specs.Counting.{count_from}
use Rattle.weave_definitions.specs.Weave.{pass_count}
use Rattle.page_laws.proofs.Spelled.{rows-len}
use Rattle.page_laws.proofs.Printed.{bytes-append}
use Rattle.page_laws.proofs.Passes.{count_from-len, pass-whole}
use Rattle.page_laws.proofs.Weaving.{each-pass}

-- a code gives at most twice the bytes of its row
abbrev pub IsShortCode : (List ℕ → List ℕ) → Type 0
IsShortCode code = (row : List ℕ) → length (code row) ≤ 2 * length row

-- rows that are coded one by one
apart-short : (code : List ℕ → List ℕ) (m width : ℕ) (rows : List ℕ) → IsShortCode code → length rows ≡ m * width
    → length (flat_map code (rows_apart m width rows)) ≤ 2 * (m * width)
apart-short code zero width rows short fits = omega arith
apart-short code (suc m) width rows short fits =
    let split : suc m * width ≡ width + m * width = omega arith in
    let front : length (take width rows) ≡ width = length-take-le width rows (omega (arith, split)) in
    let behind : length (drop width rows) ≡ m * width = omega (arith, length-drop width rows, split) in
    omega (
      arith,
      split,
      short (take width rows),
      front,
      length-append (code (take width rows)) (flat_map code (rows_apart m width (drop width rows))),
      apart-short code m width (drop width rows) short behind,
    )

-- the rows of a raster as they are written
rows-short : (code : List ℕ → List ℕ) (plain : Bool) (m width : ℕ) (rows : List ℕ) → IsShortCode code → length rows ≡ m * width
    → length (if plain then rows else flat_map code (rows_apart m width rows)) ≤ 2 * (m * width)
rows-short code true m width rows short fits = omega arith
rows-short code false m width rows short fits = apart-short code m width rows short fits

-- ---- the commands of strokes

-- the most bytes of one ink of a stroke, and of a stroke
abbrev pub most_ink : Printer → ℕ → ℕ
most_ink p width = 12 + 2 * (p.nozzles * ((width + 7) / 8))

abbrev pub most_stroke : Printer → ℕ → ℕ
most_stroke p width = 7 + length (inks_of p.inks) * most_ink p width

-- the bytes of an ink of a stroke
ink-short : (code : List ℕ → List ℕ) (p : Printer) (width coded : ℕ) (stroke : Stroke) (ink : Ink)
    → IsShortCode code → IsWhole p.nozzles width (stroke.rows ink)
    → length (bytes_of code (ink_commands p width coded stroke ink)) ≤ most_ink p width
ink-short code p width coded stroke ink short whole = grind (arith, length-append, most_ink, rows-len, rows-short)

-- the bytes of the inks of a stroke
inks-short : (code : List ℕ → List ℕ) (p : Printer) (width coded : ℕ) (stroke : Stroke) (inks : List Ink) → IsShortCode code
    → ((ink : Ink) → IsWhole p.nozzles width (stroke.rows ink))
    → length (bytes_of code (flat_map (ink_commands p width coded stroke) inks)) ≤ length inks * most_ink p width
inks-short code p width coded stroke [] short whole = omega arith
inks-short code p width coded stroke (ink ∷ inks) short whole =
    let first : List Spoken = ink_commands p width coded stroke ink in
    let others : List Spoken = flat_map (ink_commands p width coded stroke) inks in
    let split : suc (length inks) * most_ink p width ≡ most_ink p width + length inks * most_ink p width = omega arith in
    omega (
      arith,
      split,
      ap length (bytes-append code first others),
      length-append (bytes_of code first) (bytes_of code others),
      ink-short code p width coded stroke ink short (whole ink),
      inks-short code p width coded stroke inks short whole,
    )

-- the bytes of a step down
down-short : (code : List ℕ → List ℕ) (n : ℕ) → length (bytes_of code (down_by n)) ≤ 7
down-short code zero = omega arith
down-short code (suc n) = omega arith

-- the bytes of strokes
strokes-short : (code : List ℕ → List ℕ) (p : Printer) (width coded last : ℕ) (strokes : List Stroke) → IsShortCode code
    → AllByRecursion (λ stroke. (ink : Ink) → IsWhole p.nozzles width (stroke.rows ink)) strokes
    → length (bytes_of code (strokes_commands p width coded last strokes)) ≤ length strokes * most_stroke p width
strokes-short code p width coded last [] short whole = omega arith
strokes-short code p width coded last (stroke ∷ strokes) short whole =
    grind (arith, bytes-append, down-short, inks-short, length-append, most_stroke, strokes-short code p width coded stroke.start strokes short whole.1)

-- strokes that are left out make the job no longer
filter-whole : {X : Type 0} (P : X → Type 0) (test : X → Bool) (xs : List X) → AllByRecursion P xs → AllByRecursion P (filter test xs)
filter-whole P test [] all = tt
filter-whole {X = X} P test (x ∷ xs) all = grind (arith, filter-whole P test xs all.1)

-- Strokes of whole rows, by a code that gives at most twice the bytes of its row, make a job of at most this many
-- bytes.
pub bytes-short : (coding : Coding) (p : Printer) (width height len : ℕ) (strokes : Strokes) → IsShortCode coding.code
    → AllByRecursion (λ stroke. (ink : Ink) → IsWhole p.nozzles width (stroke.rows ink)) strokes.list
    → length (strokes_bytes coding p width height len strokes) ≤ 49 + length strokes.list * most_stroke p width
bytes-short coding p width height len strokes short whole =
    grind (arith, bytes-append, count_by-le-length, filter-whole, length-append, length-filter, most_stroke, mul-le-mul_right, strokes-short)

-- The bytes of a halftone's passes.
pub halftone-short : (p : Printer) (h : Halftone) (len : ℕ)
    → length (halftone_bytes p h len)
    ≤ 49 + pass_count p.nozzles p.pitch h.height * (7 + length (inks_of p.inks) * (12 + 2 * p.nozzles * ((h.width + 7) / 8)))
unfolding halftone_bytes
halftone-short p h len =
    let passes : ℕ = pass_count p.nozzles p.pitch h.height in
    let many : length (weave p h).list ≡ passes = length-map (count_from 0 passes) (pass_stroke p h) ∙ count_from-len 0 passes in
    let whole = each-pass p h (λ stroke. (ink : Ink)
    → IsWhole p.nozzles h.width (stroke.rows ink)) (count_from 0 passes) (pass-whole p h) in
    let all : length (halftone_bytes p h len) ≤ 49 + length (weave p h).list * most_stroke p h.width =
    bytes-short page_coding p h.width h.height len (weave p h) least-short whole in
    let grouped : 2 * (p.nozzles * ((h.width + 7) / 8)) ≡ 2 * p.nozzles * ((h.width + 7) / 8) = omega arith in
    omega (arith, all, ap (λ n. n * most_stroke p h.width) many, ap (λ n. passes * (7 + length (inks_of p.inks) * (12 + n))) grouped)
