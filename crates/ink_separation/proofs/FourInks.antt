-- What pixels of cyan, magenta, yellow and black give to each ink.
use Rattle.std.proofs.Common.{◌≡◌, ℕ, ◌+◌, ◌-◌, ◌*◌, ◌/◌, ◌<◌, ◌≤◌, List, get_or, min, ◌∙◌, ap, arith}
use Rattle.printer_definitions.specs.declared.inks.Ink.{Ink}
use Rattle.printer_definitions.specs.declared.inks.Ink.TheVariants.{Black, Cyan, Magenta, Yellow}
use Rattle.separation_definitions.specs.Amounts.{colour_left, darkness, own_ink, with_black}
use Rattle.ink_separation.specs.Given.{four_at, given_to}
use Rattle.ink_separation.specs.declared.given.Given.{Given}

-- the same with black added
pub more_are : (pixels : List ℕ) (own sums : Given) (many : ℕ) → many ≤ 64
    → ((ink : Ink) (x : ℕ) → x < many → get_or (given_to own ink) x 0 ≡ own_ink (four_at pixels x) ink)
    → ((ink : Ink) (x : ℕ) → x < 64 → get_or (given_to sums ink) x 0 ≡ min 255 (get_or (given_to own ink) x 0 + get_or own.black x 0))
    → (ink : Ink) (x : ℕ) → x < many → get_or (given_to sums ink) x 0 ≡ with_black (four_at pixels x) ink
more_are pixels own sums many few owns adds ink x inside =
    adds ink x (omega arith)
    ∙ ap (λ n. min 255 (n + get_or own.black x 0)) (owns ink x inside)
    ∙ ap (λ n. min 255 (own_ink (four_at pixels x) ink + n)) (owns Black x inside)

-- the darkness that is left
pub darkness_is : (pixels dark : List ℕ) (sums : Given) (many : ℕ) → many ≤ 64
    → ((ink : Ink) (x : ℕ) → x < many → get_or (given_to sums ink) x 0 ≡ with_black (four_at pixels x) ink)
    → ((x : ℕ) → x < 64 → get_or dark x 0 ≡ 255 - (77 * (255 - get_or sums.cyan x 0)
    + 150 * (255 - get_or sums.magenta x 0) + 29 * (255 - get_or sums.yellow x 0)) / 256)
    → (x : ℕ) → x < many → get_or dark x 0 ≡ darkness (colour_left (four_at pixels x))
darkness_is pixels dark sums many few has is x inside =
    let grey : ℕ → ℕ → ℕ → ℕ = λ c m y. 255 - (77 * (255 - c) + 150 * (255 - m) + 29 * (255 - y)) / 256 in
    let cyan : ℕ = with_black (four_at pixels x) Cyan in
    let magenta : ℕ = with_black (four_at pixels x) Magenta in
    is x (omega arith)
    ∙ ap (λ n. grey n (get_or sums.magenta x 0) (get_or sums.yellow x 0)) (has Cyan x inside)
    ∙ ap (λ n. grey cyan n (get_or sums.yellow x 0)) (has Magenta x inside)
    ∙ ap (λ n. grey cyan magenta n) (has Yellow x inside)
