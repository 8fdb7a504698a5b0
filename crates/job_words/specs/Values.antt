-- The values that keys take.
use Rattle.std.specs.Prelude.{ℕ, Bool, true, false, nat_eq, if◌then◌else◌, List, [], ◌∷◌, codes, find, Option, Some, None}
use Rattle.std.specs.Cmp.Lexicographic.{pointwise}
use Rattle.std.specs.Option.{option_map}
use Rattle.base_definitions.specs.Limits.{most_columns, most_rows}
use Rattle.key_values.specs.Numbers.{number_within}
use Rattle.diffusion_kernel.specs.declared.tables.Kernel.{Kernel}
use Rattle.diffusion_kernel.specs.declared.tables.Kernel.TheVariants.{Floyd, Jarvis, Stucki}
use Rattle.pwg_definitions.specs.declared.pages.Kind.{Kind}
use Rattle.pwg_definitions.specs.declared.pages.Kind.TheVariants.{Gray8, Black8, Rgb8, Black1, Cmyk8}
use Rattle.separation_definitions.specs.Grain.{most_grain}

-- whether two texts are the same
abbrev pub is_text : List ℕ → List ℕ → Bool
is_text word text = pointwise nat_eq word text

-- the kernel of a name
abbrev pub kernel_named : List ℕ → Option Kernel
kernel_named text =
    if is_text text (codes "fs") then Some Floyd
    else if is_text text (codes "jjn") then Some Jarvis
    else if is_text text (codes "stucki") then Some Stucki
    else None

-- how much grain is put on amounts
abbrev pub grain_value : List ℕ → Option ℕ
grain_value text = number_within 0 most_grain text

-- the most dots that the meters may count: any number of 64 bits
abbrev pub cap_value : List ℕ → Option ℕ
cap_value text = number_within 0 18446744073709551615 text

-- the most bytes of a job that are read: 16 GiB, which is also the default
abbrev pub greatest_most : ℕ
greatest_most = 17179869184

abbrev pub most_value : List ℕ → Option ℕ
most_value text = number_within 0 greatest_most text

-- how many workers
abbrev pub worker_count : List ℕ → Option ℕ
worker_count text = number_within 1 64 text

-- whether passes are shingled
abbrev pub shingle_value : List ℕ → Option Bool
shingle_value text =
    if is_text text (codes "0") then Some false else if is_text text (codes "1") then Some true else None

-- the seed of the pages that are made: any number of 32 bits
abbrev pub seed_value : List ℕ → Option ℕ
seed_value text = number_within 0 4294967295 text

-- how many pages are made
abbrev pub page_count : List ℕ → Option ℕ
page_count text = number_within 1 16 text

-- the size of a made page, in pixels
abbrev pub width_value : List ℕ → Option ℕ
width_value text = number_within 1 most_columns text

abbrev pub height_value : List ℕ → Option ℕ
height_value text = number_within 1 most_rows text

-- the kinds of made pages, and their names
pub record KindName : Type 0 where
  pub kind : Kind
  pub name : List ℕ

abbrev pub kind_names : List KindName
kind_names =
    record { kind = Gray8; name = codes "gray" } ∷ record { kind = Black8; name = codes "black" }
    ∷ record { kind = Rgb8; name = codes "rgb" } ∷ record { kind = Black1; name = codes "black1" }
    ∷ record { kind = Cmyk8; name = codes "cmyk" } ∷ []

-- the kind of a name
abbrev pub kind_named : List ℕ → Option Kind
kind_named text = option_map (λ row. row.kind) (find (λ row. is_text text row.name) kind_names)
