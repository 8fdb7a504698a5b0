-- The formula of a separator is that of each printer that it is of.
use Rattle.std.proofs.Common.{◌≡◌, ℕ, ◌-◌, ◌*◌, ◌/◌, List, [], Some, get_or, slice_get, slice_index_or, ap, subst, sym, ◌∙◌}
use Rattle.dot_planes.specs.Tables.{AmountTable}
use Rattle.printer_definitions.specs.Inks.{ink_place, inks_of}
use Rattle.printer_definitions.specs.Printer.{Printer, limit_of, tone_of, tone_on}
use Rattle.printer_definitions.specs.declared.inks.Ink.{Ink}
use Rattle.printer_definitions.specs.declared.inks.InkSet.{InkSet}
use Rattle.pwg_definitions.specs.declared.pages.Kind.{Kind}
use Rattle.pwg_definitions.specs.declared.pages.Kind.TheVariants.{Gray8, Black8, Rgb8, Black1, Cmyk8}
use Rattle.separation_definitions.specs.Amounts.{amount as amount_of, cmyk_ink, colour_ink, colour_of, grey_ink, pixel_ink}
use Rattle.separation_definitions.specs.declared.window.Window.{Window}
use Rattle.ink_separation.specs.Separated.{Separates}
use Rattle.ink_separation.specs.Separators.{IsSeparatorOf, printer_in}
use Rattle.ink_separation.specs.declared.separator.Separator.{Separator}

-- what a pixel gives to an ink
gives_the_same : (p q : Printer) → p.inks ≡ q.inks → p.black_start ≡ q.black_start
    → (kind : Kind) (pixel : List ℕ) (ink : Ink) → pixel_ink p kind pixel ink ≡ pixel_ink q kind pixel ink
gives_the_same p q inks black Gray8 pixel ink = ap (λ set. grey_ink set ink (255 - get_or pixel 0 0)) inks
gives_the_same p q inks black Black8 pixel ink = ap (λ set. grey_ink set ink (get_or pixel 0 0)) inks
gives_the_same p q inks black Rgb8 pixel ink =
    ap (λ set. colour_ink set p.black_start (colour_of pixel) ink) inks ∙ ap (λ least. colour_ink q.inks least (colour_of pixel) ink) black
gives_the_same p q inks black Black1 pixel ink = ap (λ set. grey_ink set ink (255 * get_or pixel 0 0)) inks
gives_the_same p q inks black Cmyk8 pixel ink = ap (λ set. cmyk_ink set pixel ink) inks

-- the amount of an ink
pub same_amount : (p : Printer) (kind : Kind) (w : Window) (s : Separator) → IsSeparatorOf p kind w s
    → (pixel : List ℕ) (ink : Ink) → amount_of (printer_in s) kind pixel ink ≡ amount_of p kind pixel ink
same_amount p kind w s is pixel ink =
    let given : ℕ = pixel_ink p kind pixel ink in
    ap (λ n. tone_of (printer_in s) ink n * limit_of (printer_in s) ink / 255)
    (gives_the_same (printer_in s) p is.inks is.black kind pixel ink)
    ∙ ap (λ curves. tone_on (slice_index_or curves (ink_place ink) []) given * limit_of (printer_in s) ink / 255) is.curves
    ∙ ap (λ limits. tone_of p ink given * get_or limits (ink_place ink) 0 / 255) is.limits

pub separates_for : (p : Printer) (kind : Kind) (w : Window) (s : Separator) (line : List ℕ) (at : ℕ) (old new : AmountTable)
    → IsSeparatorOf p kind w s → Separates (printer_in s) s.kind line s.window at old new → Separates p kind line w at old new
separates_for p kind w s line at old new is puts =
    let K : Kind → Type 0 = λ k. Separates (printer_in s) k line s.window at old new in
    let W : Window → Type 0 = λ win. Separates (printer_in s) kind line win at old new in
    let all : Separates (printer_in s) kind line w at old new = subst W is.window_is (subst K is.kind_is puts) in
    record {
      size = all.size;
      row = record {
        are = λ i ink has x low.
            let I : InkSet → Type 0 = λ set. slice_get (inks_of set) i ≡ Some ink in
            all.row.are i ink (subst I (sym is.inks) has) x low ∙ same_amount p kind w s is _ ink;
      };
      others = all.others;
    }
