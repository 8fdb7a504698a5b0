-- Pixels of lines that have the same bytes.
use Rattle.std.proofs.Common.{ℕ, ◌≡◌, ◌+◌, ◌*◌, ◌/◌, ◌%◌, ◌<◌, List, [], ◌∷◌, ap, arith, get_or, ◌∙◌}
use Rattle.base_definitions.specs.Packed.{bit_at, worth}
use Rattle.pwg_definitions.specs.Header.{line_bytes, row_of}
use Rattle.pwg_definitions.specs.declared.pages.Kind.{Kind}
use Rattle.pwg_definitions.specs.declared.pages.Kind.TheVariants.{Gray8, Black8, Rgb8, Black1, Cmyk8}
use Rattle.separation_definitions.specs.Amounts.{pixel_at}

-- lines that have the same bytes of the first pixels have the same pixels there
pub same_pixel : (kind : Kind) (xs ys : List ℕ) (pixels x : ℕ) → x < pixels
    → ((k : ℕ) → k < line_bytes pixels (row_of kind).bits_per_pixel → get_or xs k 0 ≡ get_or ys k 0)
    → pixel_at kind xs x ≡ pixel_at kind ys x
same_pixel Gray8 xs ys pixels x low same = ap (λ b. b ∷ []) (same x (omega arith))
same_pixel Black8 xs ys pixels x low same = ap (λ b. b ∷ []) (same x (omega arith))
same_pixel Rgb8 xs ys pixels x low same =
    ap (λ b. b ∷ get_or xs (3 * x + 1) 0 ∷ get_or xs (3 * x + 2) 0 ∷ []) (same (3 * x) (omega arith))
    ∙ ap (λ b. get_or ys (3 * x) 0 ∷ b ∷ get_or xs (3 * x + 2) 0 ∷ []) (same (3 * x + 1) (omega arith))
    ∙ ap (λ b. get_or ys (3 * x) 0 ∷ get_or ys (3 * x + 1) 0 ∷ b ∷ []) (same (3 * x + 2) (omega arith))
same_pixel Black1 xs ys pixels x low same = ap (λ b. worth (bit_at b (x % 8)) 1 ∷ []) (same (x / 8) (omega arith))
same_pixel Cmyk8 xs ys pixels x low same =
    ap (λ b. b ∷ get_or xs (4 * x + 1) 0 ∷ get_or xs (4 * x + 2) 0 ∷ get_or xs (4 * x + 3) 0 ∷ []) (same (4 * x) (omega arith))
    ∙ ap (λ b. get_or ys (4 * x) 0 ∷ b ∷ get_or xs (4 * x + 2) 0 ∷ get_or xs (4 * x + 3) 0 ∷ []) (same (4 * x + 1) (omega arith))
    ∙ ap (λ b. get_or ys (4 * x) 0 ∷ get_or ys (4 * x + 1) 0 ∷ b ∷ get_or xs (4 * x + 3) 0 ∷ []) (same (4 * x + 2) (omega arith))
    ∙ ap (λ b. get_or ys (4 * x) 0 ∷ get_or ys (4 * x + 1) 0 ∷ get_or ys (4 * x + 2) 0 ∷ b ∷ []) (same (4 * x + 3) (omega arith))
