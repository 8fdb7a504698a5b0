-- What is written of a page by the strokes of its way.
use Rattle.std.proofs.Common.{◌≡◌, ℕ, ◌+◌, ◌*◌, ◌≤◌, List, Option, Result, Err, length, subst, sym, ◌∙◌, ap, arith}
use Rattle.std.specs.Io.KnownBytes.{Appends}
use Rattle.std.proofs.KnownBytes.{Keeps-refl}
use Rattle.std.specs.Prelude.{IsErrOf, IsOk, OnOk}
use Rattle.std.proofs.Math.Nat.{mul-le-mul_right}
use Rattle.std.proofs.lemmas.Result.{IfOk-weaker}
use Rattle.buffered_bytes.specs.Outside.{Outside}
use Rattle.dot_planes.specs.Tables.{DotTable}
use Rattle.page_definitions.specs.Dots.{Halftone}
use Rattle.page_definitions.specs.PageBytes.{page_coding}
use Rattle.page_definitions.specs.Strokes.{bytes_of, page_commands}
use Rattle.page_definitions.specs.Ways.{CanGo, KeepsWay, halftone_bytes_by, way_strokes}
use Rattle.page_definitions.specs.declared.way.Way.{Way}
use Rattle.page_laws.specs.Sized.{Sized}
use Rattle.page_laws.proofs.Numbers.{form-sized}
use Rattle.page_laws.proofs.WaysKept.{way-bytes, way-gives, way-keeps}
use Rattle.printer_definitions.specs.Inks.{inks_of}
use Rattle.printer_definitions.specs.Printer.{Printer, row_units}
use Rattle.printer_profile.specs.Validity.{check}
use Rattle.pwg_definitions.specs.declared.pages.PageForm.{PageForm}
use Rattle.pwg_definitions.specs.Header.{IsWanted}
use Rattle.separation_definitions.specs.CanPrint.{CanPrint}
use Rattle.separation_definitions.specs.Windows.{wanted_by, window_of}
use Rattle.weave_base.specs.Parts.{AppendsPart}
use Rattle.page_writer.specs.Heads.{HeadStrokes, Suits, strokes_over}
use Rattle.page_writer.specs.Shows.{Shows}
use Rattle.page_writer.specs.StrokeBytes.{head_bytes}
use Rattle.page_writer.specs.Sums.{SumsHalftone, SumsStrokes, most_of_page, most_of_pass, rasters_in}
use Rattle.page_writer.specs.Writes.{WritesPage, WritesStrokes}
use Rattle.page_writer.specs.declared.strokes.WriteStop.{WriteStop}
use Rattle.page_writer.specs.declared.strokes.WriteStop.TheVariants as stop
use Rattle.page_writer.specs.declared.sums.PageSum.{PageSum}
use Rattle.page_writer.proofs.AtMost.{appends_at_most}
use Rattle.page_writer.proofs.WayHeads.{IsOfPage, way-few, way-same, way-suits, way_head}

-- ---- the printer and its plan

-- a printer that passes its checks can print
can_print : {q p : Printer} → q ≡ p → (IsOk (check q) → CanPrint q) → IsOk (check p) → CanPrint p
can_print {q} {p} same can checked =
    let P : Printer → Type 0 = λ p. IsOk (check p) in
    subst CanPrint same (can (subst P (sym same) checked))

-- the plan that is made is that of the printer over the planes' rows
pub made_is : {W : Type 0} (plan_for : Printer → ℕ → W) {q p : Printer} {made : W} {n rows : ℕ}
    → q ≡ p → made ≡ plan_for q n → n ≡ rows → made ≡ plan_for p rows
made_is plan_for {q} {p} {made} {n} {rows} same is rows_are = is ∙ ap (λ (p : Printer). plan_for p n) same ∙ ap (plan_for p) rows_are

-- A page that a printer can print this way, by what is known of the printer, its form and its planes.
pub page_of : {q : Printer} (way : Way) (p : Printer) (t : DotTable) (f : PageForm) → q ≡ p → (IsOk (check q) → CanPrint q) → IsOk (check p)
    → CanGo way p → IsWanted (wanted_by p) f → t.width ≡ (window_of f p).width → t.rows ≡ (window_of f p).height
    → t.inks ≡ length (inks_of p.inks) → IsOfPage way p t f
page_of way p t f same can checked go wanted width rows inks = record {
  can = can_print same can checked;
  go = go;
  wanted = wanted;
  width = width;
  rows = rows;
  inks = inks;
}

-- The strokes of the page's way suit its printer and planes.
pub strokes_suit : {way arm : Way} {p : Printer} {t : DotTable} {f : PageForm} {head : HeadStrokes}
    → IsOfPage way p t f → way ≡ arm → head ≡ way_head arm p t.rows → Suits p head t
strokes_suit {way} {arm} {p} {t} {f} {head} is arm_is made =
    let P : HeadStrokes → Type 0 = λ head. Suits p head t in
    subst P (sym (made ∙ ap (λ way. way_head way p t.rows) (sym arm_is))) (way-suits way p t f is)

-- ---- a page

-- The strokes of a way were written, and with them the page.
pub page_written : (way : Way) (p : Printer) (t : DotTable) (f : PageForm) (sink : Outside) (result : Result PageSum WriteStop)
    → IsOfPage way p t f → WritesStrokes p (way_head way p t.rows) t (f.height * row_units p) sink result → WritesPage way p f t sink result
page_written way p t f sink result is strokes = record {
  ok = ok;
  sum = λ h shows. IfOk-weaker result
      (SumsStrokes p t.width t.rows len (strokes_over p (way_head way p t.rows) t)) (SumsHalftone way p h len) (λ sum sums.
      record { bytes_are = sums.bytes_are ∙ ap length (same_bytes h shows); rasters_are = sums.rasters_are ∙ ap rasters_in (same h shows) }) strokes.sum;
  part = part;
  prints = λ h shows. way-gives way p h f.height is.can is.go (sized h shows);
  keeps = keeps;
  few = λ h shows. appends_at_most _ _ _ _ result (ok h shows) (part h shows) strokes.memory (keeps h shows).rasters;
  short = IfOk-weaker result
      (λ sum. sum.bytes ≤ 49 + (way_head way p t.rows).count * most_of_pass p t.width) (λ sum. sum.bytes ≤ most_of_page way p t.width t.rows) (λ sum short.
      omega (arith, short, mul-le-mul_right (most_of_pass p t.width) (way-few way p t.rows is.can is.go))) strokes.short;
  write = strokes.write;
  memory = strokes.memory;
  later = strokes.later;
}
  where
    len : ℕ
    len = f.height * row_units p

    same : (h : Halftone) → Shows p t h → page_commands p t.width t.rows page_coding.c len (strokes_over p (way_head way p t.rows) t)
        ≡ page_commands p h.width h.height page_coding.c len (way_strokes way p h)
    same h shows = way-same way p t h len is.can is.go shows

    same_bytes : (h : Halftone) → Shows p t h → head_bytes p (way_head way p t.rows) t len ≡ halftone_bytes_by way p h len
    same_bytes h shows = ap (bytes_of page_coding.code) (same h shows) ∙ sym (way-bytes way p h len)

    sized : (h : Halftone) → Shows p t h → Sized p h f.height
    sized h shows = form-sized p h f is.can is.wanted (sym shows.width_is ∙ is.width) (sym shows.rows_is ∙ is.rows)

    ok : (h : Halftone) → Shows p t h → OnOk result (Appends sink.before sink.now (halftone_bytes_by way p h len))
    ok h shows = let P : List ℕ → Type 0 = λ bytes. OnOk result (Appends sink.before sink.now bytes) in subst P (same_bytes h shows) strokes.ok

    part : (h : Halftone) → Shows p t h → IsErrOf result stop.Write → AppendsPart sink.before sink.now (halftone_bytes_by way p h len)
    part h shows failed =
        let P : List ℕ → Type 0 = λ bytes. AppendsPart sink.before sink.now bytes in subst P (same_bytes h shows) (strokes.part failed)

    keeps : (h : Halftone) → Shows p t h → KeepsWay way p t.rows (halftone_bytes_by way p h len)
    keeps h shows =
        let P : ℕ → Type 0 = λ rows. KeepsWay way p rows (halftone_bytes_by way p h len) in
        subst P (sym shows.rows_is) (way-keeps way p h f.height is.can is.go (sized h shows))

-- The same, by the variant of the way.
pub strokes_written : {way arm : Way} {p : Printer} {t : DotTable} {f : PageForm} {head : HeadStrokes} {sink : Outside}
    {result : Result PageSum WriteStop} → IsOfPage way p t f → way ≡ arm → head ≡ way_head arm p t.rows
    → WritesStrokes p head t (f.height * row_units p) sink result → WritesPage way p f t sink result
strokes_written {way} {arm} {p} {t} {f} {head} {sink} {result} is arm_is made strokes =
    let P : HeadStrokes → Type 0 = λ head. WritesStrokes p head t (f.height * row_units p) sink result in
    page_written way p t f sink result is (subst P (made ∙ ap (λ way. way_head way p t.rows) (sym arm_is)) strokes)

-- ---- no plan

-- no byte was written, for want of memory
pub none_written : (p : Printer) (head : HeadStrokes) (t : DotTable) (len : ℕ) (held : Option (List ℕ)) (faults : ℕ)
    → WritesStrokes p head t len (record { before = held; now = held; faults_before = faults; faults_now = faults }) (Err stop.Memory)
none_written p head t len held faults = record {
  ok = tt;
  sum = tt;
  part = λ failed. absurd (cc);
  short = tt;
  write = λ failed. absurd (cc);
  memory = λ same. Keeps-refl held;
  later = omega arith;
}
