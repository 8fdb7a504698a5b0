-- What greys and colours give to each ink.
use Rattle.std.proofs.Common.{◌≡◌, ℕ, ◌+◌, inl, inr, min, ◌-◌, ◌*◌, ◌<◌, ◌≤◌, List, get_or, sym, ◌∙◌, ap, arith}
use Rattle.std.proofs.lemmas.Bool.{cases_lt}
use Rattle.printer_definitions.specs.declared.inks.Ink.{Ink}
use Rattle.printer_definitions.specs.declared.inks.Ink.TheVariants.{Black, Cyan, Magenta, Yellow}
use Rattle.printer_definitions.specs.declared.inks.InkSet.{InkSet}
use Rattle.printer_definitions.specs.declared.inks.InkSet.TheVariants.{Cmyk}
use Rattle.separation_definitions.specs.Amounts.{Colour, colour_ink, common_darkness, complement, four_inks, grey_ink, moved_to_black}
use Rattle.ink_separation.specs.Given.{colour_at, given_to}
use Rattle.ink_separation.specs.declared.given.Given.{Given}

-- a grey in a set with black gives nothing to the colours
pub grey_beside_black : (inks : InkSet) (dark none : List ℕ) → inks ≡ Cmyk → ((x : ℕ) → x < 64 → get_or none x 0 ≡ 0)
    → (ink : Ink) (x : ℕ) → x < 64
    → get_or (given_to (record { black = dark; cyan = none; magenta = none; yellow = none }) ink) x 0
    ≡ grey_ink inks ink (get_or dark x 0)
grey_beside_black inks dark none is zeros Black x low = ap (λ set. grey_ink set Black (get_or dark x 0)) (sym is)
grey_beside_black inks dark none is zeros Cyan x low = zeros x low ∙ ap (λ set. grey_ink set Cyan (get_or dark x 0)) (sym is)
grey_beside_black inks dark none is zeros Magenta x low = zeros x low ∙ ap (λ set. grey_ink set Magenta (get_or dark x 0)) (sym is)
grey_beside_black inks dark none is zeros Yellow x low = zeros x low ∙ ap (λ set. grey_ink set Yellow (get_or dark x 0)) (sym is)

-- the complements, for each ink
pub complements_are : (pixels none cyan magenta yellow : List ℕ) (many : ℕ) → many ≤ 64 → ((x : ℕ) → x < 64 → get_or none x 0 ≡ 0)
    → ((x : ℕ) → x < many → get_or cyan x 0 ≡ 255 - get_or pixels (3 * x + 0) 0)
    → ((x : ℕ) → x < many → get_or magenta x 0 ≡ 255 - get_or pixels (3 * x + 1) 0)
    → ((x : ℕ) → x < many → get_or yellow x 0 ≡ 255 - get_or pixels (3 * x + 2) 0)
    → (ink : Ink) (x : ℕ) → x < many
    → get_or (given_to (record { black = none; cyan = cyan; magenta = magenta; yellow = yellow }) ink) x 0
    ≡ complement (colour_at pixels x) ink
complements_are pixels none cyan magenta yellow many few zeros c m y Black x inside = zeros x (omega arith)
complements_are pixels none cyan magenta yellow many few zeros c m y Cyan x inside = grind arith
complements_are pixels none cyan magenta yellow many few zeros c m y Magenta x inside = m x inside
complements_are pixels none cyan magenta yellow many few zeros c m y Yellow x inside = y x inside

-- the complement of a colour, from the two halves of the pixels
pub complement_is : (pixels first others values : List ℕ) (many colour : ℕ)
    → ((x : ℕ) → x < 32 → x < many → get_or first (32 * colour + x) 0 ≡ get_or pixels (3 * x + colour) 0)
    → ((x : ℕ) → 32 + x < many → get_or others (32 * colour + x) 0 ≡ get_or pixels (3 * (32 + x) + colour) 0)
    → ((x : ℕ) → x < 32 → get_or values x 0 ≡ 255 - get_or first (32 * colour + x) 0)
    → ((x : ℕ) → x < 32 → get_or values (32 + x) 0 ≡ 255 - get_or others (32 * colour + x) 0)
    → many ≤ 64 → (x : ℕ) → x < many → get_or values x 0 ≡ 255 - get_or pixels (3 * x + colour) 0
complement_is pixels first others values many colour left right low high few x inside = elim (cases_lt x 32) [
  | inl below ↦ low x below ∙ ap (λ n. 255 - n) (left x below inside)
  | inr above ↦
      let k : ℕ = x - 32 in
      let place : 32 + k ≡ x = omega arith in
      ap (λ n. get_or values n 0) (sym place) ∙ high k (omega arith)
      ∙ ap (λ n. 255 - n) (right k (omega arith)) ∙ ap (λ n. 255 - get_or pixels (3 * n + colour) 0) place
]

-- black generation
pub black_is_moved : (inks : InkSet) (least many : ℕ) (pixels common : List ℕ) (wanted given : Given)
    → inks ≡ Cmyk → many ≤ 64
    → ((ink : Ink) (x : ℕ) → x < many → get_or (given_to wanted ink) x 0 ≡ complement (colour_at pixels x) ink)
    → ((x : ℕ) → x < 64 → get_or common x 0 ≡ min (min (get_or wanted.cyan x 0) (get_or wanted.magenta x 0)) (get_or wanted.yellow x 0))
    → ((x : ℕ) → x < 64 → get_or given.black x 0 ≡ moved_to_black least (get_or common x 0))
    → ((x : ℕ) → x < 64 → get_or given.cyan x 0 ≡ get_or wanted.cyan x 0 - get_or given.black x 0)
    → ((x : ℕ) → x < 64 → get_or given.magenta x 0 ≡ get_or wanted.magenta x 0 - get_or given.black x 0)
    → ((x : ℕ) → x < 64 → get_or given.yellow x 0 ≡ get_or wanted.yellow x 0 - get_or given.black x 0)
    → (ink : Ink) (x : ℕ) → x < many → get_or (given_to given ink) x 0 ≡ colour_ink inks least (colour_at pixels x) ink
black_is_moved inks least many pixels common wanted given is few wants commons black cyan magenta yellow ink x inside =
    let colour : Colour = colour_at pixels x in
    let low : x < 64 = omega arith in
    let lacks : (i : Ink) → get_or (given_to wanted i) x 0 ≡ complement colour i = λ i. wants i x inside in
    let q : get_or common x 0 ≡ common_darkness colour =
    commons x low ∙ ap (λ n. min (min n (get_or wanted.magenta x 0)) (get_or wanted.yellow x 0)) (lacks Cyan)
    ∙ ap (λ n. min (min (complement colour Cyan) n) (get_or wanted.yellow x 0)) (lacks Magenta)
    ∙ ap (λ n. min (min (complement colour Cyan) (complement colour Magenta)) n) (lacks Yellow) in
    let k : get_or given.black x 0 ≡ moved_to_black least (common_darkness colour) =
    black x low ∙ ap (moved_to_black least) q in
    let rest : (value : ℕ) (i : Ink) → value ≡ get_or (given_to wanted i) x 0 - get_or given.black x 0
    → value ≡ complement colour i - moved_to_black least (common_darkness colour) =
    λ value i e. e ∙ ap (λ n. n - get_or given.black x 0) (lacks i) ∙ ap (λ n. complement colour i - n) k in
    let four : get_or (given_to given ink) x 0 ≡ four_inks least colour ink =
    elim ink as (λ i. get_or (given_to given i) x 0 ≡ four_inks least colour i) [
      | Black ↦ k
      | Cyan ↦ rest _ Cyan (cyan x low)
      | Magenta ↦ rest _ Magenta (magenta x low)
      | Yellow ↦ rest _ Yellow (yellow x low)
    ] in
    four ∙ ap (λ set. colour_ink set least colour ink) (sym is)
