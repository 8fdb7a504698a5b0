use Rattle.std.proofs.Common.{◌≡◌, ℕ, ◌*◌, ◌/◌, [], ap, sym, ◌∙◌, slice_index, slice_index_or}
use Rattle.printer_definitions.specs.Printer.{Printer, straight_curve, tone_on}
use Rattle.ink_separation.proofs.Straight.{straight_tone}
use Rattle.ink_separation.proofs.scales.Scale.of.Goals as goal

pub returns-then-is_straight : goal.returns-then-is_straight
returns-then-is_straight c = λ a low.
    let limit : ℕ = slice_index_or c.args.p.now.limits c.args.ink 0 in
    let straight : slice_index_or c.args.p.now.curves c.args.ink [] ≡ straight_curve =
    ap (λ (p : Printer). slice_index_or p.curves c.args.ink []) (sym c.p.view_is)
    ∙ (rw c.from-2.ensures at c.is_straight.ensures c.if-is_straight.true) in
    let limit-is : slice_index_or c.p.inside.limits c.from.result 0 ≡ limit =
    ap (slice_index c.p.inside.limits) c.from.ensures ∙ ap (λ (p : Printer). slice_index_or p.limits c.args.ink 0) c.p.view_is in
    c.of_limit.ensures a ∙ (ap (λ n. a * n / 255) limit-is ∙ (ap (λ n. n * limit / 255) (sym (straight_tone a low))
    ∙ ap (λ curve. tone_on curve a * limit / 255) (sym straight)))
