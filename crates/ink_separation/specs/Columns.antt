-- The pixels of a tile whose bytes stand by columns.
use Rattle.std.specs.Prelude.{Bool, true, false, ℕ, ◌+◌, ◌-◌, ◌*◌, min, List, [], ◌∷◌, slice_index}
use Rattle.pwg_definitions.specs.declared.pages.Kind.{Kind}
use Rattle.pwg_definitions.specs.declared.pages.Kind.TheVariants.{Gray8, Black8, Rgb8, Black1, Cmyk8}

-- The numbers of the pixel at offset o of row r of a tile. `columns` has the tile's bytes by columns: 32 of each, one
-- of each row. A pixel has as many columns as bytes. A pixel of one bit has one: its byte is 0 for white, and any other
-- byte is black.
abbrev pub pixel_in : Kind → List ℕ → ℕ → ℕ → List ℕ
pixel_in Gray8 columns o r = slice_index columns (32 * o + r) ∷ []
pixel_in Black8 columns o r = slice_index columns (32 * o + r) ∷ []
pixel_in Rgb8 columns o r =
    slice_index columns (32 * (3 * o) + r) ∷ slice_index columns (32 * (3 * o + 1) + r)
    ∷ slice_index columns (32 * (3 * o + 2) + r) ∷ []
pixel_in Black1 columns o r = min 1 (slice_index columns (32 * o + r)) ∷ []
pixel_in Cmyk8 columns o r =
    slice_index columns (32 * (4 * o) + r) ∷ slice_index columns (32 * (4 * o + 1) + r)
    ∷ slice_index columns (32 * (4 * o + 2) + r) ∷ slice_index columns (32 * (4 * o + 3) + r) ∷ []

-- the numbers of a white pixel
abbrev pub white_pixel : Kind → List ℕ
white_pixel Gray8 = 255 ∷ []
white_pixel Black8 = 0 ∷ []
white_pixel Rgb8 = 255 ∷ 255 ∷ 255 ∷ []
white_pixel Black1 = 0 ∷ []
white_pixel Cmyk8 = 0 ∷ 0 ∷ 0 ∷ 0 ∷ []

-- the darkness of a byte of grey, which is 255 for white if bytes are light, else 0
abbrev pub grey_in : Bool → ℕ → ℕ
grey_in true byte = 255 - byte
grey_in false byte = byte
