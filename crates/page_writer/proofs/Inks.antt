-- What the inks fire in a stroke, one after another.
use Rattle.std.proofs.Common.{◌≡◌, ℕ, zero, suc, ◌+◌, ◌*◌, ◌/◌, ◌^◌, ◌<◌, ◌≤◌, ◌||◌, nat_lt, Bool, List, [], ◌∷◌, ◌++◌, length}
use Rattle.std.proofs.Common.{drop, Some, refl, sym, ◌∙◌, ap, arith, append_assoc, append-nil}
use Rattle.std.specs.Prelude.{slice_get}
use Rattle.std.specs.List.{flat_map, list_any}
use Rattle.std.proofs.lemmas.Bool.{lt-ltb}
use Rattle.std.proofs.Math.Bool.{or-false}
use Rattle.escp2_definitions.specs.declared.command.RasterHead.{RasterHead}
use Rattle.page_definitions.specs.PageBytes.{page_coding}
use Rattle.page_definitions.specs.Strokes.{Spoken, Stroke, bytes_of, fires, has_dot, ink_commands, inks_commands, raster_header}
use Rattle.page_laws.proofs.Printed.{bytes-append}
use Rattle.std.proofs.Math.Nat.{mul-le-mul}
use Rattle.printer_definitions.specs.declared.inks.Ink.{Ink}
use Rattle.printer_definitions.specs.declared.inks.Ink.TheVariants.{Black, Cyan, Magenta, Yellow}
use Rattle.printer_definitions.specs.declared.inks.InkSet.{InkSet}
use Rattle.printer_definitions.specs.declared.inks.InkSet.TheVariants.{K, Cmy, Cmyk}
use Rattle.printer_definitions.specs.Inks.{inks_of}
use Rattle.printer_definitions.specs.Printer.{Printer}
use Rattle.separation_definitions.specs.CanPrint.{CanPrint}
use Rattle.base_definitions.specs.Limits.{most_columns, most_row_bytes}
use Rattle.page_writer.specs.Heads.{place_in}
use Rattle.page_writer.specs.StrokeBytes.{IsStroke}
use Rattle.page_writer.specs.Rows.{rows_commands}
use Rattle.page_writer.specs.Sums.{most_ink, most_of_pass, most_pass, rasters_in}
use Rattle.page_writer.proofs.Fires.{rasters_tell}

-- ---- lists of commands

-- the rasters of commands and of those after them
pub rasters-append : (xs ys : List Spoken) → rasters_in (xs ++ ys) ≡ rasters_in xs + rasters_in ys
rasters-append [] ys = omega arith
rasters-append (x ∷ xs) ys = omega (arith, rasters-append xs ys)

-- the inks from a place on
drop-ink : (inks : List Ink) (place : ℕ) (ink : Ink) → slice_get inks place ≡ Some ink → drop place inks ≡ ink ∷ drop (suc place) inks
drop-ink [] place ink is = absurd (let no : ⊥ = cc in no)
drop-ink (i ∷ inks) zero ink is = let same : i ≡ ink = cc in ap (λ k. k ∷ inks) same
drop-ink (i ∷ inks) (suc place) ink is = drop-ink inks place ink is

-- ---- an ink's place

-- the ink at a place is at that place
pub place_is : (set : InkSet) (place : ℕ) (ink : Ink) → slice_get (inks_of set) place ≡ Some ink → place_in (inks_of set) ink ≡ place
unfolding place_in
place_is K zero ink is = let same : Black ≡ ink = cc in ap (λ k. place_in (inks_of K) k) (sym same)
place_is K (suc place) ink is = absurd (let no : ⊥ = cc in no)
place_is Cmy zero ink is = let same : Cyan ≡ ink = cc in ap (λ k. place_in (inks_of Cmy) k) (sym same)
place_is Cmy (suc zero) ink is = let same : Magenta ≡ ink = cc in ap (λ k. place_in (inks_of Cmy) k) (sym same)
place_is Cmy (suc (suc zero)) ink is = let same : Yellow ≡ ink = cc in ap (λ k. place_in (inks_of Cmy) k) (sym same)
place_is Cmy (suc (suc (suc place))) ink is = absurd (let no : ⊥ = cc in no)
place_is Cmyk zero ink is = let same : Black ≡ ink = cc in ap (λ k. place_in (inks_of Cmyk) k) (sym same)
place_is Cmyk (suc zero) ink is = let same : Cyan ≡ ink = cc in ap (λ k. place_in (inks_of Cmyk) k) (sym same)
place_is Cmyk (suc (suc zero)) ink is = let same : Magenta ≡ ink = cc in ap (λ k. place_in (inks_of Cmyk) k) (sym same)
place_is Cmyk (suc (suc (suc zero))) ink is = let same : Yellow ≡ ink = cc in ap (λ k. place_in (inks_of Cmyk) k) (sym same)
place_is Cmyk (suc (suc (suc (suc place)))) ink is = absurd (let no : ⊥ = cc in no)

-- ---- the inks, one after another

-- The inks from a place on are left to append.
pub record InksSoFar (p : Printer) (width : ℕ) (stroke : Stroke) (old out : List ℕ) (rasters place : ℕ) : Type 0 where
  pub items : old ++ bytes_of page_coding.code (inks_commands p width page_coding.c stroke)
      ≡ out ++ bytes_of page_coding.code (flat_map (ink_commands p width page_coding.c stroke) (drop place (inks_of p.inks)))
  pub rasters_are : rasters_in (inks_commands p width page_coding.c stroke)
      ≡ rasters + rasters_in (flat_map (ink_commands p width page_coding.c stroke) (drop place (inks_of p.inks)))
  pub fire : fires p stroke
      ≡ (nat_lt 0 rasters || list_any (λ ink. has_dot (stroke.rows ink)) (drop place (inks_of p.inks)))

-- no ink is appended
pub inks_begin : (p : Printer) (width : ℕ) (stroke : Stroke) (old : List ℕ) → InksSoFar p width stroke old old 0 0
inks_begin p width stroke old = record { items = refl; rasters_are = omega arith; fire = refl }

-- a sum is above 0 where one of its parts is
lt-add : (m n : ℕ) (rest : Bool) → (nat_lt 0 m || (nat_lt 0 n || rest)) ≡ (nat_lt 0 (m + n) || rest)
lt-add zero n rest = ap (λ k. nat_lt 0 k || rest) (let e : n ≡ 0 + n = omega arith in e)
lt-add (suc m) n rest =
    ap (λ b. b || (nat_lt 0 n || rest)) (lt-ltb 0 (suc m) (omega arith)) ∙ sym (ap (λ b. b || rest) (lt-ltb 0 (suc m + n) (omega arith)))

-- one more ink is appended
pub inks_step : {p : Printer} {width : ℕ} {stroke : Stroke} {old out out' : List ℕ}
    (header : RasterHead) (ink : Ink) (rows : List (List Bool)) {rasters place one : ℕ}
    → InksSoFar p width stroke old out rasters place
    → slice_get (inks_of p.inks) place ≡ Some ink → header ≡ raster_header p width page_coding.c → stroke.rows ink ≡ rows
    → out' ≡ out ++ bytes_of page_coding.code (rows_commands header ink rows)
    → one ≡ rasters_in (rows_commands header ink rows)
    → InksSoFar p width stroke old out' (rasters + one) (place + 1)
inks_step {p} {width} {stroke} {out} header ink rows {rasters} {place} {one} so_far is header_is rows_are appended counted =
    let job : Ink → List Spoken = ink_commands p width page_coding.c stroke in
    let first : job ink ≡ rows_commands header ink rows =
    ap (rows_commands (raster_header p width page_coding.c) ink) rows_are ∙ ap (λ x. rows_commands x ink rows) (sym header_is) in
    let left : List Ink = drop (place + 1) (inks_of p.inks) in
    let next : drop place (inks_of p.inks) ≡ ink ∷ left =
    drop-ink (inks_of p.inks) place ink is ∙ ap (λ n. ink ∷ drop n (inks_of p.inks)) (let e : suc place ≡ place + 1 = omega arith in e) in
    let has : Bool = list_any (λ ink. has_dot (stroke.rows ink)) left in
    record {
      items = so_far.items
          ∙ ap (λ inks. out ++ bytes_of page_coding.code (flat_map job inks)) next
          ∙ ap (λ bs. out ++ bs) (bytes-append page_coding.code (job ink) (flat_map job left))
          ∙ sym (append_assoc out (bytes_of page_coding.code (job ink)) (bytes_of page_coding.code (flat_map job left)))
          ∙ ap (λ j. (out ++ bytes_of page_coding.code j) ++ bytes_of page_coding.code (flat_map job left)) first
          ∙ ap (λ bs. bs ++ bytes_of page_coding.code (flat_map job left)) (sym appended);
      rasters_are = so_far.rasters_are
          ∙ ap (λ inks. rasters + rasters_in (flat_map job inks)) next
          ∙ ap (λ n. rasters + n) (rasters-append (job ink) (flat_map job left)
          ∙ ap (λ n. n + rasters_in (flat_map job left)) (ap rasters_in first ∙ sym counted))
          ∙ (let sum : rasters + (one + rasters_in (flat_map job left))
          ≡ rasters + one + rasters_in (flat_map job left) = omega arith in sum);
      fire = so_far.fire
          ∙ ap (λ inks. nat_lt 0 rasters || list_any (λ ink. has_dot (stroke.rows ink)) inks) next
          ∙ ap (λ b. nat_lt 0 rasters || (b || has)) (ap has_dot rows_are
          ∙ sym (rasters_tell header ink rows) ∙ ap (nat_lt 0) (sym counted))
          ∙ lt-add rasters one has;
    }

-- no ink is left
drop-all : (inks : List Ink) (place : ℕ) → length inks ≤ place → drop place inks ≡ []
drop-all [] zero all = refl
drop-all [] (suc place) all = refl
drop-all (i ∷ inks) zero all = absurd (omega arith)
drop-all (i ∷ inks) (suc place) all = drop-all inks place (omega arith)

-- all inks are appended
pub inks_end : {p : Printer} {width : ℕ} {stroke : Stroke} {old out : List ℕ} {rasters place : ℕ}
    → InksSoFar p width stroke old out rasters place → length (inks_of p.inks) ≤ place
    → IsStroke p width stroke old out rasters
inks_end {p} {width} {stroke} {out} {rasters} {place} so_far all =
    let job : Ink → List Spoken = ink_commands p width page_coding.c stroke in
    let none : drop place (inks_of p.inks) ≡ [] = drop-all (inks_of p.inks) place all in
    record {
      items = sym (so_far.items ∙ ap (λ inks. out ++ bytes_of page_coding.code (flat_map job inks)) none ∙ append-nil out);
      rasters_are = sym (so_far.rasters_are ∙ ap (λ inks. rasters + rasters_in (flat_map job inks)) none ∙ omega arith);
      fire = sym (so_far.fire ∙ ap (λ inks. nat_lt 0 rasters
          || list_any (λ ink. has_dot (stroke.rows ink)) inks) none ∙ or-false (nat_lt 0 rasters));
    }

-- ---- room for inks

-- room for some inks is room for one
pub inks_room_one : (len cap left next most : ℕ) → left ≡ suc next → len + left * most ≤ cap → len + most ≤ cap
inks_room_one len cap left next most more room =
    let split : suc next * most ≡ most + next * most = omega arith in omega (arith, room, split, ap (λ n. n * most) more)

-- and for those after it
pub inks_room_more : (len len' cap : ℕ) {left next : ℕ} (most : ℕ)
    → left ≡ suc next → len + left * most ≤ cap → len' ≤ len + most → len' + next * most ≤ cap
inks_room_more len len' cap {next} most more room taken =
    let split : suc next * most ≡ most + next * most = omega arith in omega (arith, room, taken, split, ap (λ n. n * most) more)

-- the bound for the bytes of an ink, from the numbers of its raster
pub ink_most : (p : Printer) (header : RasterHead) (width columns : ℕ) → header ≡ raster_header p width page_coding.c → width ≡ columns
    → 12 + 2 * header.m * ((header.n + 7) / 8) ≡ 12 + 2 * p.nozzles * ((columns + 7) / 8)
ink_most p header width columns is same =
    ap (λ (h : RasterHead). 12 + 2 * h.m * ((h.n + 7) / 8)) is ∙ ap (λ n. 12 + 2 * p.nozzles * ((n + 7) / 8)) same

-- ---- the most bytes

-- a set has four inks at most
inks_few : (set : InkSet) → length (inks_of set) ≤ 4
inks_few K = omega arith
inks_few Cmy = omega arith
inks_few Cmyk = omega arith

-- a stroke of the widest rows, with the most nozzles and inks
pub pass_short : (p : Printer) (width : ℕ) → CanPrint p → width ≤ most_columns → most_of_pass p width ≤ most_pass
pass_short p width can narrow =
    let bytes : (width + 7) / 8 ≤ most_row_bytes = omega arith in
    let heads : 2 * p.nozzles ≤ 510 = omega (arith, can.most_nozzles) in
    let rows : 2 * p.nozzles * ((width + 7) / 8) ≤ 510 * most_row_bytes = mul-le-mul heads bytes in
    let one : 12 + 2 * p.nozzles * ((width + 7) / 8) ≤ most_ink = omega (arith, rows) in
    let inks : length (inks_of p.inks) * (12 + 2 * p.nozzles * ((width + 7) / 8)) ≤ 4 * most_ink = mul-le-mul (inks_few p.inks) one in
    omega (arith, inks)

-- all that the strokes of a head may take fits a number of 64 bits
pub strokes_fit : (bytes count most : ℕ) → bytes ≤ count * most → count < 2 ^ 30 → most ≤ most_pass → bytes < 2 ^ 52
strokes_fit bytes count most so_far few short =
    let all : count * most ≤ 1073741824 * most_pass = mul-le-mul (let low : count ≤ 1073741824 = omega arith in low) short in omega arith
