-- The commands of a page are in the command table, so that their bytes spell them.
use Rattle.std.proofs.Common.{◌≡◌, ℕ, zero, suc, ◌+◌, ◌-◌, ◌*◌, ◌/◌, ◌≤◌, inl, inr, Bool, true, ◌&&◌, nat_le, if◌then◌else◌, List}
use Rattle.std.proofs.Common.{[], ◌∷◌, ◌++◌, length, refl, ◌∙◌, arith, length-append, filter, flat_map}
use Rattle.std.specs.List.{AllByRecursion}
use Rattle.std.proofs.lemmas.Bool.{and_from, le-leb}
use Rattle.printer_definitions.specs.declared.inks.Ink.{Ink}
use Rattle.printer_definitions.specs.Inks.{inks_of}
use Rattle.printer_definitions.specs.Printer.{row_units}
use Rattle.escp2_definitions.specs.declared.command.Command.TheVariants as c
use Rattle.escp2_definitions.specs.Commands.{Spells, in_table, is_between, rows_len}
use Rattle.base_definitions.specs.Packed.{packed}
use Rattle.escp2_definitions.specs.Written.{Coding, IsCoding, written}
use Rattle.escp2_laws.specs.Coded.{HasCoding}
use Rattle.escp2_laws.proofs.Written.{written-spells}
use Rattle.page_definitions.specs.Strokes.{Spoken, Stroke, down_by, fires}
use Rattle.page_laws.proofs.Numbers.{column_step-some, length-fits, margins-fit, nozzle_step-some, step-fits}
use Rattle.page_laws.proofs.Fired.{AllWide, packed-len}
use Rattle.page_laws.proofs.Running.{IsLayout, Layout, begins, first_of, last_of, len_of}
use Rattle.page_laws.proofs.Firing.{Lies, fires_ink, header_of}
use Rattle.page_laws.proofs.Pages.{fires_strokes, page_says}

-- ---- commands of the table

-- A command of the table, with the rows that go with it.
pub record IsSayable (coding : Coding) (s : Spoken) : Type 0 where
  pub in_range : in_table s.command ≡ true
  pub rows_fit : length s.rows ≡ rows_len s.command
  pub coded : HasCoding coding s.command

-- a job of such commands
abbrev pub AllSayable : Coding → List Spoken → Type 0
AllSayable coding job = AllByRecursion (IsSayable coding) job

-- two jobs, one after the other
pub sayable-append : (coding : Coding) (xs ys : List Spoken) → AllSayable coding xs → AllSayable coding ys → AllSayable coding (xs ++ ys)
sayable-append coding [] ys p q = q
sayable-append coding (x ∷ xs) ys p q = (p.0, sayable-append coding xs ys p.1 q)

-- ---- the commands of a page

-- a number in a range
between : (low high n : ℕ) → low ≤ n → n ≤ high → is_between low high n ≡ true
between low high n p q = and_from _ _ (le-leb low n p) (le-leb n high q)

-- a step down
down-sayable : (coding : Coding) (n : ℕ) → n ≤ 32767 → AllSayable coding (down_by n)
down-sayable coding zero low = tt
down-sayable coding (suc n) low = (record { in_range = le-leb (suc n) 32767 low; rows_fit = refl; coded = tt }, tt)

-- the prologue
prologue-sayable : (w : Layout) → IsLayout w → AllSayable w.coding (begins w)
prologue-sayable w is = grind (arith, and_from, between, first_of, last_of, le-leb, len_of, length-fits, margins-fit)

-- the bytes of packed rows
pub rows-len : (width : ℕ) (rows : List (List Bool)) → AllWide width rows → length (flat_map packed rows) ≡ length rows * ((width + 7) / 8)
rows-len width [] wide = let none : 0 ≡ 0 * ((width + 7) / 8) = omega arith in none
rows-len width (row ∷ rows) wide = grind (arith, length-append, packed-len, rows-len width rows wide.1)

-- a coding says 0 or 1
coding-says : (coding : Coding) → IsCoding coding → nat_le coding.c 1 ≡ true
coding-says coding (inl e) = le-leb coding.c 1 (omega (arith, e))
coding-says coding (inr e) = le-leb coding.c 1 (omega (arith, e.0))

-- an ink of a stroke
ink-sayable : (w : Layout) (stroke : Stroke) (ink : Ink) → IsLayout w → Lies w stroke → AllSayable w.coding (fires_ink w stroke ink)
ink-sayable w stroke ink is lies =
    grind (arith, AllSayable, and_from, between, coding-says, column_step-some, header_of, le-leb, nozzle_step-some, rows-len)

-- the inks of a stroke
inks-sayable : (w : Layout) (stroke : Stroke) (inks : List Ink)
    → IsLayout w → Lies w stroke → AllSayable w.coding (flat_map (fires_ink w stroke) inks)
inks-sayable w stroke [] is lies = tt
inks-sayable w stroke (ink ∷ inks) is lies =
    sayable-append w.coding (fires_ink w stroke ink) _ (ink-sayable w stroke ink is lies) (inks-sayable w stroke inks is lies)

-- strokes
strokes-sayable : (w : Layout) (strokes : List Stroke) (last : ℕ)
    → IsLayout w → AllByRecursion (Lies w) strokes → AllSayable w.coding (fires_strokes w last strokes)
strokes-sayable w [] last is lie = tt
strokes-sayable w (stroke ∷ strokes) last is lie =
    let short = step-fits w.printer w.halftone w.above w.tall last stroke.start is.size is.room lie.0.low in
    sayable-append w.coding (down_by ((stroke.start - last) * row_units w.printer)) _ (down-sayable w.coding _ (omega (arith, short)))
    (sayable-append w.coding (flat_map (fires_ink w stroke) (inks_of w.printer.inks)) _
    (inks-sayable w stroke (inks_of w.printer.inks) is lie.0)
    (strokes-sayable w strokes stroke.start is lie.1))

-- Each command of a page is in the table.
pub page-sayable : (w : Layout) (strokes : List Stroke) → IsLayout w
    → AllByRecursion (Lies w) (filter (fires w.printer) strokes) → AllSayable w.coding (page_says w strokes)
page-sayable w strokes is lie = grind (arith, begins, fires_strokes, prologue-sayable, sayable-append, strokes-sayable)

-- ---- they are spelled

-- each command of a job is spelled by its bytes
abbrev pub AllSpoken : Coding → List Spoken → Type 0
AllSpoken coding job = AllByRecursion (λ s. Spells s.command s.rows (written coding.code s.command s.rows)) job

-- two jobs, one after the other
pub spoken-append : (coding : Coding) (xs ys : List Spoken) → AllSpoken coding xs → AllSpoken coding ys → AllSpoken coding (xs ++ ys)
spoken-append coding [] ys p q = q
spoken-append coding (x ∷ xs) ys p q = (p.0, spoken-append coding xs ys p.1 q)

-- what is written of commands of the table spells them
pub sayable-spoken : (coding : Coding) (job : List Spoken) → IsCoding coding → AllSayable coding job → AllSpoken coding job
sayable-spoken coding [] codes all = tt
sayable-spoken coding (s ∷ job) codes all =
    (written-spells coding s.command s.rows codes all.0.coded all.0.in_range all.0.rows_fit, sayable-spoken coding job codes all.1)
