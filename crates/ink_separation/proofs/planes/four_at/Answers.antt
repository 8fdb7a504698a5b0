use Rattle.std.proofs.Common.{◌≡◌, ℕ, List, ◌-◌, ◌∙◌, ap, arith, length-set, min}
use Rattle.printer_definitions.specs.declared.inks.Ink.{Ink}
use Rattle.printer_definitions.specs.declared.inks.Ink.TheVariants.{Black, Cyan, Magenta, Yellow}
use Rattle.pwg_definitions.specs.declared.pages.Kind.TheVariants.{Rgb8}
use Rattle.separation_definitions.specs.Amounts.{Colour, colour_of, common_darkness, complement, four_inks, moved_to_black}
use Rattle.ink_separation.specs.Columns.{pixel_in}
use Rattle.ink_separation.proofs.Filled.{filled_more}
use Rattle.ink_separation.proofs.planes.four_at.Goals as goal

pub loop-r-preserved : goal.loop-r-preserved
loop-r-preserved c =
    let columns : List ℕ = c.args.columns.now in
    let least : ℕ = c.args.scale.now in
    let colour : Colour = colour_of (pixel_in Rgb8 columns c.args.o c.loop-r.r) in
    let common : c.min-in-loop-r.result ≡ common_darkness colour =
    c.min-in-loop-r.ensures ∙ ap (λ n. min n (complement colour Yellow)) c.min.ensures in
    let taken : c.black_at-black.result ≡ four_inks least colour Black =
    c.black_at-black.ensures ∙ ap (moved_to_black least) common in
    let rest : (ink : Ink) (v : ℕ) → v ≡ complement colour ink - c.black_at-black.result
    → v ≡ complement colour ink - moved_to_black least (common_darkness colour) =
    λ ink v is. is ∙ ap (λ n. complement colour ink - n) taken in
    record {
      black_len = length-set c.loop-r.four.black _ _ ∙ c.loop-r.invariant.black_len;
      cyan_len = length-set c.loop-r.four.cyan _ _ ∙ c.loop-r.invariant.cyan_len;
      magenta_len = length-set c.loop-r.four.magenta _ _ ∙ c.loop-r.invariant.magenta_len;
      yellow_len = length-set c.loop-r.four.yellow _ _ ∙ c.loop-r.invariant.yellow_len;
      black = filled_more c.loop-r.four.black c.loop-r.r _ (λ k. four_inks least (colour_of (pixel_in Rgb8 columns c.args.o k)) Black)
          (omega (arith, c.loop-r.invariant.black_len)) taken c.loop-r.invariant.black;
      cyan = filled_more c.loop-r.four.cyan c.loop-r.r _ (λ k. four_inks least (colour_of (pixel_in Rgb8 columns c.args.o k)) Cyan)
          (omega (arith, c.loop-r.invariant.cyan_len)) (rest Cyan _ c.saturating_sub.ensures) c.loop-r.invariant.cyan;
      magenta = filled_more c.loop-r.four.magenta c.loop-r.r _ (λ k. four_inks least (colour_of (pixel_in Rgb8 columns c.args.o k)) Magenta)
          (omega (arith, c.loop-r.invariant.magenta_len)) (rest Magenta _ c.saturating_sub-in-loop-r.ensures) c.loop-r.invariant.magenta;
      yellow = filled_more c.loop-r.four.yellow c.loop-r.r _ (λ k. four_inks least (colour_of (pixel_in Rgb8 columns c.args.o k)) Yellow)
          (omega (arith, c.loop-r.invariant.yellow_len)) (rest Yellow _ c.saturating_sub-in-loop-r-2.ensures) c.loop-r.invariant.yellow;
    }
