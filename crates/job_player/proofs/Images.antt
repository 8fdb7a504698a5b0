-- The images of a sheet of the machine are those of its planes.
use Rattle.std.proofs.Common.{◌≡◌, ℕ, zero, suc, ◌+◌, ◌-◌, ◌<◌, ◌≤◌, Bool, List, [], ◌∷◌, ◌++◌, map, Option, refl}
use Rattle.std.proofs.Common.{sym, ◌∙◌, ap, subst, arith, append_assoc}
use Rattle.std.specs.List.{flat_map}
use Rattle.std.specs.Io.KnownBytes.{Appends}
use Rattle.std.proofs.KnownBytes.{Appends-nil, Appends-trans}
use Rattle.dot_emulator.specs.declared.sheet.Sheet.{Sheet}
use Rattle.dot_emulator.specs.Runs.{IsSheet}
use Rattle.dot_planes.specs.Tables.{DotTable, dot}
use Rattle.escp2_definitions.specs.Machine.{Sheet as PrintedSheet}
use Rattle.base_definitions.specs.Packed.{packed}
use Rattle.job_player.specs.Images.{image, image_header, image_row}
use Rattle.printer_definitions.specs.declared.inks.Ink.{Ink}
use Rattle.printer_definitions.specs.declared.inks.Ink.TheVariants.{Black, Cyan, Magenta, Yellow}
use Rattle.printer_definitions.specs.Inks.{ink_place}
use Rattle.printer_definitions.specs.Printer.{Printer}
use Rattle.base_definitions.specs.Counting.{count_from}
use Rattle.weave_base.specs.Parts.{AppendsPart}
use Rattle.weave_base.proofs.Parting.{part_behind, part_of_front}
use Rattle.job_player.specs.Pictures.{has_dot, sheet_image, sheet_images, sheet_row, table_images}

-- ---- one sheet

same_map : (f g : ℕ → Bool) (xs : List ℕ) → ((x : ℕ) → f x ≡ g x) → map f xs ≡ map g xs
same_map f g [] same = refl
same_map f g (x ∷ xs) same = ap (λ b. b ∷ map f xs) (same x) ∙ ap (λ bs. g x ∷ bs) (same_map f g xs same)

same_rows : (f g : ℕ → List ℕ) (y many end : ℕ) → y + many ≤ end
    → ((y : ℕ) → y < end → f y ≡ g y) → flat_map f (count_from y many) ≡ flat_map g (count_from y many)
same_rows f g y zero end within same = refl
same_rows f g y (suc many) end within same =
    ap (λ bs. bs ++ flat_map f (count_from (y + 1) many)) (same y (omega arith))
    ∙ ap (λ bs. g y ++ bs) (same_rows f g (y + 1) many end (omega arith) same)

image-is : (p : Printer) (s : PrintedSheet) (sheet : Sheet) (ink : Ink)
    → IsSheet p s sheet → image sheet.columns sheet.rows sheet.planes (ink_place ink) ≡ sheet_image p s ink
image-is p s sheet ink is =
    let t : DotTable = sheet.planes in
    let rows : (y : ℕ) → y < sheet.rows → image_row sheet.columns t (ink_place ink) y ≡ sheet_row p s ink y =
    λ y below. ap packed (same_map (dot t (ink_place ink) y) (has_dot p s ink y)
    (count_from 0 sheet.columns) (λ x. is.dots.places ink y x (omega (arith, below, sheet.height)))
    ∙ ap (λ n. map (has_dot p s ink y) (count_from 0 n)) is.columns) in
    ap (λ bs. image_header sheet.columns sheet.rows ++ bs) (same_rows
    (image_row sheet.columns t (ink_place ink)) (sheet_row p s ink) 0 sheet.rows sheet.rows (omega arith) rows)
    ∙ ap (λ n. image_header n sheet.rows ++ flat_map (sheet_row p s ink) (count_from 0 sheet.rows)) is.columns
    ∙ ap (λ n. image_header s.columns n ++ flat_map (sheet_row p s ink) (count_from 0 n)) is.rows

pub images_are : (p : Printer) (s : PrintedSheet) (sheet : Sheet)
    → IsSheet p s sheet → table_images sheet.columns sheet.rows sheet.planes ≡ sheet_images p s
images_are p s sheet is =
    let t : DotTable = sheet.planes in
    let of : ℕ → List ℕ = image sheet.columns sheet.rows t in
    ap (λ bs. bs ++ (of 1 ++ (of 2 ++ (of 3 ++ [])))) (image-is p s sheet Black is)
    ∙ ap (λ bs. sheet_image p s Black ++ (bs ++ (of 2 ++ (of 3 ++ [])))) (image-is p s sheet Cyan is)
    ∙ ap (λ bs. sheet_image p s Black ++ (sheet_image p s Cyan ++ (bs ++ (of 3 ++ [])))) (image-is p s sheet Magenta is)
    ∙ ap (λ bs. sheet_image p s Black ++ (sheet_image p s Cyan ++ (sheet_image p s Magenta ++ (bs ++ [])))) (image-is p s sheet Yellow is)

-- ---- written one by one

-- The images of the inks before one were written.
pub record ImagesSoFar (old now : Option (List ℕ)) (of : ℕ → List ℕ) (ink : ℕ) : Type 0 where
  pub sent : List ℕ
  pub appends : Appends old now sent
  pub is : flat_map of (count_from 0 4) ≡ sent ++ flat_map of (count_from ink (4 - ink))

pub images_none : (held : Option (List ℕ)) (of : ℕ → List ℕ) → ImagesSoFar held held of 0
images_none held of = record { sent = []; appends = Appends-nil held; is = refl }

next : (of : ℕ → List ℕ) (ink : ℕ)
    → ink < 4 → flat_map of (count_from ink (4 - ink)) ≡ of ink ++ flat_map of (count_from (ink + 1) (4 - (ink + 1)))
next of ink below =
    let more : 4 - ink ≡ suc (4 - (ink + 1)) = omega arith in
    ap (λ n. flat_map of (count_from ink n)) more

pub images_more : (old now now' : Option (List ℕ)) (of : ℕ → List ℕ) (ink : ℕ)
    → ImagesSoFar old now of ink → ink < 4 → Appends now now' (of ink) → ImagesSoFar old now' of (ink + 1)
images_more old now now' of ink so_far below written = record {
  sent = so_far.sent ++ of ink;
  appends = Appends-trans old now now' so_far.sent (of ink) so_far.appends written;
  is = so_far.is ∙ ap (λ bs. so_far.sent ++ bs) (next of ink below)
      ∙ sym (append_assoc so_far.sent (of ink) (flat_map of (count_from (ink + 1) (4 - (ink + 1)))));
}

pub images_part : (old now now' : Option (List ℕ)) (of : ℕ → List ℕ) (ink : ℕ)
    → ImagesSoFar old now of ink → ink < 4 → AppendsPart now now' (of ink)
    → AppendsPart old now' (flat_map of (count_from 0 4))
images_part old now now' of ink so_far below part =
    let P : List ℕ → Type 0 = AppendsPart old now' in
    let left : List ℕ = flat_map of (count_from (ink + 1) (4 - (ink + 1))) in
    subst P (sym (so_far.is ∙ ap (λ bs. so_far.sent ++ bs) (next of ink below)))
    (part_behind old now now' so_far.sent (of ink ++ left) so_far.appends (part_of_front now now' (of ink) left part))
