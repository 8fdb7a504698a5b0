-- How many rasters of an ink the strokes of a page take.
use Rattle.std.proofs.lemmas.Grind.{common_steps}
use Rattle.std.proofs.Common.{◌≡◌, ℕ, zero, suc, ◌+◌, ◌-◌, ◌*◌, ◌≤◌, Bool, true, false, cond, if◌then◌else◌, List, [], ◌∷◌, ◌++◌}
use Rattle.std.proofs.Common.{length, refl, ap, arith, append_assoc, filter, flat_map}
use Rattle.std.specs.List.{count_by, sum_by}
use Rattle.std.proofs.lemmas.List.Sums.{count_by-le-length, sum_by-cons}
use Rattle.printer_definitions.specs.declared.inks.Ink.{Ink}
use Rattle.printer_definitions.specs.declared.inks.Ink.TheVariants.{Black, Cyan, Magenta, Yellow}
use Rattle.printer_definitions.specs.declared.inks.InkSet.{InkSet}
use Rattle.printer_definitions.specs.declared.inks.InkSet.TheVariants.{K, Cmy, Cmyk}
use Rattle.printer_definitions.specs.Inks.{inks_of, same_ink}
use Rattle.printer_definitions.specs.Printer.{Printer, row_units}
use Rattle.escp2_definitions.specs.declared.command.Command.TheVariants as c
use Rattle.escp2_definitions.specs.Commands.{CommandList, Entry, commands}
use Rattle.escp2_definitions.specs.Rasters.{colour_after, ink_rasters, ink_rasters_from, raster_count}
use Rattle.escp2_definitions.specs.Written.{Coding, IsCoding, written}
use Rattle.separation_definitions.specs.CanPrint.{CanPrint}
use Rattle.page_definitions.specs.Dots.{Halftone}
use Rattle.page_definitions.specs.PageBytes.{page_coding}
use Rattle.page_definitions.specs.Strokes.{Fires, Spoken, Stroke, Strokes, down_by, fires, has_dot, page_commands, say, strokes_bytes}
use Rattle.page_laws.specs.Sized.{Sized}
use Rattle.page_laws.proofs.Counts.{count-cons}
use Rattle.page_laws.proofs.Running.{Layout, entries}
use Rattle.page_laws.proofs.Firing.{fires_ink, header_of}
use Rattle.page_laws.proofs.Pages.{fires_strokes, page_says}
use Rattle.page_laws.proofs.Printed.{commands-spoken, layout_of, read}
use Rattle.page_laws.proofs.Headline.{page-coded}

-- ---- the rasters of commands

-- the rasters of an ink among commands that are to be written
abbrev pub job_rasters : Ink → Ink → List Spoken → ℕ
job_rasters ink colour [] = 0
job_rasters ink colour (s ∷ job) =
    (if same_ink ink colour then raster_count s.command else 0) + job_rasters ink (colour_after colour s.command) job

-- they are those of the job
entries-rasters : (ink colour : Ink) (code : List ℕ → List ℕ) (at : ℕ) (job : List Spoken)
    → ink_rasters_from ink colour (entries code at job) ≡ job_rasters ink colour job
entries-rasters ink colour code at [] = refl
entries-rasters ink colour code at (s ∷ job) =
    cc (entries-rasters ink (colour_after colour s.command) code (at + length (written code s.command s.rows)) job)

-- no raster, whatever the colour
none : (b : Bool) → record { is : (if b then 0 else 0) ≡ 0 + 0 }
none true = record { is = omega arith }
none false = record { is = omega arith }

-- commands after which no colour gives more rasters of an ink than these
abbrev pub HasMost : Ink → List Spoken → ℕ → Type 0
HasMost ink job most = (colour : Ink) → job_rasters ink colour job ≤ most

-- a step down fires no raster
down-rasters : (ink : Ink) (n : ℕ) (job : List Spoken) (most : ℕ) → HasMost ink job most → HasMost ink (down_by n ++ job) most
down-rasters ink zero job most rest colour = rest colour
down-rasters ink (suc n) job most rest colour = omega (arith, (none (same_ink ink colour)).is, rest colour)

-- an ink of a stroke fires at most one raster of its own
ink-rasters : (w : Layout) (stroke : Stroke) (ink other : Ink) (job : List Spoken) (most : ℕ) → HasMost ink job most
    → HasMost ink (fires_ink w stroke other ++ job) (cond (same_ink ink other) (cond (has_dot (stroke.rows other)) 1 0) 0 + most)
ink-rasters w stroke ink other job most rest colour = grind (arith, header_of, job_rasters, none)

-- the inks of a stroke
inks-rasters : (w : Layout) (stroke : Stroke) (ink : Ink) (inks : List Ink) (job : List Spoken) (most : ℕ) → HasMost ink job most
    → HasMost ink (flat_map (fires_ink w stroke) inks ++ job)
    (sum_by (λ other. cond (same_ink ink other) (cond (has_dot (stroke.rows other)) 1 0) 0) inks + most)
inks-rasters w stroke ink [] job most rest colour = omega (arith, rest colour)
inks-rasters w stroke ink (other ∷ inks) job most rest colour =
    grind (arith, common_steps, append_assoc, fires_ink, ink-rasters, job_rasters, sum_by-cons, inks-rasters w stroke ink inks job most rest)

-- a set has an ink once
set-once : (set : InkSet) (ink : Ink) (f : Ink → ℕ) → sum_by (λ other. cond (same_ink ink other) (f other) 0) (inks_of set) ≤ f ink
set-once K Black f = omega arith
set-once K Cyan f = omega arith
set-once K Magenta f = omega arith
set-once K Yellow f = omega arith
set-once Cmy Black f = omega arith
set-once Cmy Cyan f = omega arith
set-once Cmy Magenta f = omega arith
set-once Cmy Yellow f = omega arith
set-once Cmyk Black f = omega arith
set-once Cmyk Cyan f = omega arith
set-once Cmyk Magenta f = omega arith
set-once Cmyk Yellow f = omega arith

-- whether a stroke fires an ink
abbrev pub fires_with : Ink → Stroke → Bool
fires_with ink stroke = has_dot (stroke.rows ink)

-- strokes fire at most one raster of an ink each, and none where they have no dot of it
strokes-rasters : (w : Layout) (strokes : List Stroke) (ink : Ink) (last : ℕ) (job : List Spoken) (most : ℕ) → HasMost ink job most
    → HasMost ink (fires_strokes w last strokes ++ job) (count_by (fires_with ink) strokes + most)
strokes-rasters w [] ink last job most rest colour = omega (arith, rest colour)
strokes-rasters w (stroke ∷ strokes) ink last job most rest colour =
    let set : InkSet = w.printer.inks in
    let n : ℕ = (stroke.start - last) * row_units w.printer in
    let term : Ink → ℕ = λ other. cond (same_ink ink other) (cond (has_dot (stroke.rows other)) 1 0) 0 in
    let fire : List Spoken = flat_map (fires_ink w stroke) (inks_of set) in
    let later : List Spoken = fires_strokes w stroke.start strokes in
    let few : ℕ = count_by (fires_with ink) strokes in
    let inks : HasMost ink (fire ++ (later ++ job)) (sum_by term (inks_of set) + (few + most)) =
    inks-rasters w stroke ink (inks_of set) (later ++ job) (few + most) (strokes-rasters w strokes ink stroke.start job most rest) in
    let down : job_rasters ink colour (down_by n ++ (fire ++ (later ++ job))) ≤ sum_by term (inks_of set) + (few + most) =
    down-rasters ink n (fire ++ (later ++ job)) (sum_by term (inks_of set) + (few + most)) inks colour in
    let regrouped : (down_by n ++ (fire ++ later)) ++ job ≡ down_by n ++ (fire ++ (later ++ job)) = simp append_assoc in
    omega (
      arith,
      ap (job_rasters ink colour) regrouped,
      down,
      set-once set ink
          (λ other. cond (has_dot (stroke.rows other)) 1 0),
      count-cons (fires_with ink) stroke strokes,
    )

-- some of a list are no more than all of it
count-some : {X : Type 0} (test some : X → Bool) (xs : List X) → count_by test (filter some xs) ≤ count_by test xs
count-some test some [] = omega arith
count-some {X = X} test some (x ∷ xs) = grind (arith, count-cons, count-some test some xs)

-- the whole job of a page
page-rasters : (w : Layout) (strokes : List Stroke) (ink : Ink)
    → job_rasters ink Black (page_says w strokes) ≤ count_by (fires_with ink) strokes
page-rasters w strokes ink =
    let tail : HasMost ink (say c.Eject ∷ say c.Init ∷ []) 0 = λ colour. omega (arith, (none (same_ink ink colour)).is) in
    let fire : job_rasters ink Black (fires_strokes w 0 (filter (fires w.printer) strokes)
    ++ (say c.Eject ∷ say c.Init ∷ [])) ≤ count_by (fires_with ink) (filter (fires w.printer) strokes) + 0 =
    strokes-rasters w (filter (fires w.printer) strokes) ink 0 (say c.Eject ∷ say c.Init ∷ []) 0 tail Black in
    omega (arith, (none (same_ink ink Black)).is, fire, count-some (fires_with ink) (fires w.printer) strokes)

-- ---- the rasters of bytes

-- Strokes that print a halftone take no more rasters of an ink than strokes fire it.
pub strokes-have : (p : Printer) (h : Halftone) (coding : Coding) (strokes : Strokes) (tall : ℕ)
    → CanPrint p → IsCoding coding → Sized p h tall → Fires p h strokes
    → (ink : Ink)
    → ink_rasters ink (commands (strokes_bytes coding p h.width h.height (tall * row_units p) strokes)).entries
    ≤ count_by (fires_with ink) strokes.list
strokes-have p h coding strokes tall can is_coding size fire ink =
    let job : List Spoken = page_commands p h.width h.height coding.c (tall * row_units p) strokes in
    let reads = ap (λ (j : CommandList). ink_rasters ink j.entries)
    (read coding job (commands-spoken p h coding tall strokes can is_coding size fire)) in
    omega (
      arith,
      reads,
      entries-rasters ink Black coding.code 0 job,
      page-rasters (layout_of p h coding strokes.above tall) strokes.list ink,
    )

-- all rasters among commands that are to be written
entries-all : (code : List ℕ → List ℕ) (at : ℕ) (job : List Spoken)
    → sum_by (λ (e : Entry). raster_count e.command) (entries code at job) ≡ sum_by (λ (s : Spoken). raster_count s.command) job
entries-all code at [] = refl
entries-all code at (s ∷ job) = grind (arith, common_steps, entries, sum_by-cons, entries-all code (at + length (written code s.command s.rows)) job)

-- The bytes of strokes have as many rasters as their commands.
pub all-rasters : (p : Printer) (h : Halftone) (coding : Coding) (strokes : Strokes) (tall : ℕ)
    → CanPrint p → IsCoding coding → Sized p h tall → Fires p h strokes
    → sum_by (λ (e : Entry). raster_count e.command)
    (commands (strokes_bytes coding p h.width h.height (tall * row_units p) strokes)).entries
    ≡ sum_by (λ (s : Spoken). raster_count s.command) (page_commands p h.width h.height coding.c (tall * row_units p) strokes)
all-rasters p h coding strokes tall can is_coding size fire = simp (commands-spoken, entries-all, read)

-- The job of strokes has no more rasters of an ink than strokes.
pub few-rasters : (p : Printer) (h : Halftone) (strokes : Strokes) (tall : ℕ) → CanPrint p → Sized p h tall → Fires p h strokes
    → (ink : Ink) → ink_rasters ink (commands (strokes_bytes page_coding p h.width h.height (tall * row_units p) strokes)).entries
    ≤ length strokes.list
few-rasters p h strokes tall can size fire ink =
    omega (arith, strokes-have p h page_coding strokes tall can page-coded size fire ink, count_by-le-length (fires_with ink) strokes.list)
