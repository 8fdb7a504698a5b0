use Rattle.std.proofs.Common.{◌≡◌, ℕ, List, ◌-◌, ◌∙◌, ap, arith, length-set}
use Rattle.printer_definitions.specs.declared.inks.Ink.TheVariants.{Cyan, Magenta, Yellow}
use Rattle.pwg_definitions.specs.declared.pages.Kind.TheVariants.{Cmyk8}
use Rattle.separation_definitions.specs.Amounts.{colour_left, darkness, with_black}
use Rattle.ink_separation.specs.Columns.{pixel_in}
use Rattle.ink_separation.proofs.Filled.{filled_more}
use Rattle.ink_separation.proofs.planes.rest_at.Goals as goal

pub loop-r-preserved : goal.loop-r-preserved
loop-r-preserved c =
    let pixel : List ℕ = pixel_in Cmyk8 c.args.columns.now c.args.o c.loop-r.r in
    let left : ℕ → ℕ → ℕ → ℕ = λ a b d. darkness (record { red = 255 - a; green = 255 - b; blue = 255 - d }) in
    let cyan : c.saturating_add.result ≡ with_black pixel Cyan = omega (arith, c.saturating_add.ensures) in
    let magenta : c.saturating_add-in-loop-r.result ≡ with_black pixel Magenta = omega (arith, c.saturating_add-in-loop-r.ensures) in
    let yellow : c.saturating_add-in-loop-r-2.result ≡ with_black pixel Yellow = omega (arith, c.saturating_add-in-loop-r-2.ensures) in
    let value : c.grey_of.result ≡ darkness (colour_left pixel) = c.grey_of.ensures
    ∙ ap (λ n. left n c.saturating_add-in-loop-r.result c.saturating_add-in-loop-r-2.result) cyan
    ∙ ap (λ n. left (with_black pixel Cyan) n c.saturating_add-in-loop-r-2.result) magenta
    ∙ ap (left (with_black pixel Cyan) (with_black pixel Magenta)) yellow in
    record {
      len = length-set c.loop-r.values _ _ ∙ c.loop-r.invariant.len;
      filled = filled_more c.loop-r.values c.loop-r.r _ (λ k. darkness (colour_left (pixel_in Cmyk8 c.args.columns.now c.args.o k))) (omega (arith, c.loop-r.invariant.len)) value
          c.loop-r.invariant.filled;
    }
