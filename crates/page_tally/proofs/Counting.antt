-- The dots of a raster, counted by ink.
use Rattle.std.proofs.Common.{◌≡◌, ℕ, zero, suc, ◌+◌, Bool, true, false, cond, List, [], ◌∷◌, ◌++◌, length, count_by, take, drop}
use Rattle.std.proofs.Common.{refl, sym, ◌∙◌, ap, arith, length-append}
use Rattle.std.proofs.lemmas.List.Sums.{sum_by-append, sum_by-cons}
use Rattle.base_definitions.specs.Packed.{bits}
use Rattle.printer_definitions.specs.declared.inks.Ink.{Ink}
use Rattle.printer_definitions.specs.declared.inks.Ink.TheVariants.{Black, Cyan, Magenta, Yellow}
use Rattle.printer_definitions.specs.Inks.{same_ink}
use Rattle.escp2_definitions.specs.declared.command.RasterHead.{RasterHead}
use Rattle.escp2_definitions.specs.Commands.{row_bytes}
use Rattle.escp2_definitions.specs.Machine.{Dot, row_dots, rows_dots}
use Rattle.job_lister.specs.Listing.{dot_count}
use Rattle.page_tally.specs.Sheets.{dot_counts, ink_count}
use Rattle.page_tally.specs.Tallies.{count_up_to, counts_after, number_up_to}
use Rattle.printer_definitions.specs.declared.inks.InkCounts.{InkCounts}

-- ---- numbers that stop

count-stops : (a more : ℕ) → count_up_to (count_up_to a + more) ≡ count_up_to (a + more)
count-stops a more = omega arith

pub number-stops : (n : ℕ) → number_up_to (number_up_to n + 1) ≡ number_up_to (n + 1)
number-stops n = omega arith

-- ---- all dots of a raster have one ink

-- whether a dot is of an ink
abbrev is_of : Ink → Dot → Bool
is_of ink d = same_ink ink d.ink

-- all of a number, or nothing
abbrev share : Bool → ℕ → ℕ
share b n = cond b n 0

no-share : (b : Bool) → 0 ≡ share b 0
no-share true = omega arith
no-share false = omega arith

more-share : (b : Bool) (m n : ℕ) → share b m + share b n ≡ share b (m + n)
more-share true m n = omega arith
more-share false m n = omega arith

-- The dots of a row are of its ink, and their number does not depend on the ink and the place.
row-share : (ink other : Ink) (x step y u v : ℕ) (row : List Bool)
    → count_by (is_of other) (row_dots ink x step y row) ≡ share (same_ink other ink) (length (row_dots Black u step v row))
row-share ink other x step y u v [] = no-share (same_ink other ink)
row-share ink other x step y u v (true ∷ row) =
    let dots : List Dot = row_dots ink (x + step) step y row in
    let count : ℕ = length (row_dots Black (u + step) step v row) in
    let one : 1 + count ≡ suc count = omega arith in
    sum_by-cons (λ d. cond (is_of other d) 1 0) (record { ink = ink; x = x; y = y }) dots
    ∙ ap (λ n. share (same_ink other ink) 1 + n) (row-share ink other (x + step) step y (u + step) v row)
    ∙ more-share (same_ink other ink) 1 count
    ∙ ap (share (same_ink other ink)) one
row-share ink other x step y u v (false ∷ row) = row-share ink other (x + step) step y (u + step) v row

-- The same of rows.
rows-share : (m : ℕ) (header : RasterHead) (ink other : Ink) (x y u v : ℕ) (bytes : List ℕ)
    → count_by (is_of other) (rows_dots m header ink x y bytes) ≡ share (same_ink other ink) (length (rows_dots m header Black u v bytes))
unfolding rows_dots
rows-share zero header ink other x y u v bytes = no-share (same_ink other ink)
rows-share (suc m) header ink other x y u v bytes =
    let row : List Bool = take header.n (bits (take (row_bytes header) bytes)) in
    let rest : List ℕ = drop (row_bytes header) bytes in
    let b : Bool = same_ink other ink in
    let first : List Dot = row_dots Black u header.h v row in
    let behind : List Dot = rows_dots m header Black u (v + header.v) rest in
    sum_by-append (λ d. cond (is_of other d) 1 0) (row_dots ink x header.h y row) (rows_dots m header ink x (y + header.v) rest)
    ∙ ap (λ n. n + count_by (is_of other) (rows_dots m header ink x (y + header.v) rest)) (row-share ink other x header.h y u v row)
    ∙ ap (λ n. share b (length first) + n) (rows-share m header ink other x (y + header.v) u (v + header.v) rest)
    ∙ more-share b (length first) (length behind)
    ∙ ap (share b) (sym (length-append first behind))

raster-share : (header : RasterHead) (ink other : Ink) (x y : ℕ) (bytes : List ℕ)
    → count_by (is_of other) (rows_dots header.m header ink x y bytes) ≡ share (same_ink other ink) (dot_count header bytes)
unfolding dot_count
raster-share header ink other x y bytes = rows-share header.m header ink other x y 0 0 bytes

-- ---- the counts of more dots

-- the count of an ink after more dots, all or none of which are of this ink
ink-counts : (b : Bool) (other : Ink) (dots new : List Dot) (more : ℕ) → count_by (is_of other) new ≡ share b more
    → cond b (count_up_to (ink_count other dots + more)) (ink_count other dots) ≡ ink_count other (dots ++ new)
ink-counts true other dots new more is =
    count-stops (count_by (is_of other) dots) more
    ∙ ap (λ n. count_up_to (count_by (is_of other) dots + n)) (sym is)
    ∙ ap count_up_to (sym (sum_by-append (λ d. cond (is_of other d) 1 0) dots new))
ink-counts false other dots new more is =
    let none : count_by (is_of other) dots ≡ count_by (is_of other) dots + count_by (is_of other) new = omega (arith, is) in
    ap count_up_to (none ∙ sym (sum_by-append (λ d. cond (is_of other d) 1 0) dots new))

-- counts are equal if they are equal for each ink
equal-counts : (a b : InkCounts) → a.k ≡ b.k → a.c ≡ b.c → a.m ≡ b.m → a.y ≡ b.y → a ≡ b
equal-counts a b black cyan magenta yellow =
    let P : ℕ → InkCounts = λ n. record a { k = n } in
    let Q : ℕ → InkCounts = λ n. record a { k = b.k; c = n } in
    let R : ℕ → InkCounts = λ n. record b { m = n; y = a.y } in
    let S : ℕ → InkCounts = λ n. record b { y = n } in
    ap P black ∙ ap Q cyan ∙ ap R magenta ∙ ap S yellow

-- the counts with more dots of an ink, written ink by ink
abbrev by_inks : InkCounts → Ink → ℕ → InkCounts
by_inks counts ink more = record {
  k = cond (same_ink Black ink) (count_up_to (counts.k + more)) counts.k;
  c = cond (same_ink Cyan ink) (count_up_to (counts.c + more)) counts.c;
  m = cond (same_ink Magenta ink) (count_up_to (counts.m + more)) counts.m;
  y = cond (same_ink Yellow ink) (count_up_to (counts.y + more)) counts.y;
}

each-ink : (counts : InkCounts) (ink : Ink) (more : ℕ) → counts_after counts ink more ≡ by_inks counts ink more
each-ink counts Black more = refl
each-ink counts Cyan more = refl
each-ink counts Magenta more = refl
each-ink counts Yellow more = refl

-- The counts after a raster are those of its dots too.
pub raster-counts : (header : RasterHead) (ink : Ink) (x y : ℕ) (rows : List ℕ) (dots : List Dot)
    → counts_after (dot_counts dots) ink (dot_count header rows) ≡ dot_counts (dots ++ rows_dots header.m header ink x y rows)
raster-counts header ink x y rows dots =
    let more : ℕ = dot_count header rows in
    let new : List Dot = rows_dots header.m header ink x y rows in
    let count = λ (other : Ink). ink-counts (same_ink other ink) other dots new more (raster-share header ink other x y rows) in
    each-ink (dot_counts dots) ink more
    ∙ equal-counts (by_inks (dot_counts dots) ink more) (dot_counts (dots ++ new)) (count Black) (count Cyan) (count Magenta) (count Yellow)
