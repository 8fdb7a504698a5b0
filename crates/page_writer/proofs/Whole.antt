-- A page, from its prologue to its end.
use Rattle.std.proofs.Common.{◌≡◌, ℕ, ◌+◌, ◌-◌, ◌*◌, List, [], ◌∷◌, ◌++◌, length, Option}
use Rattle.std.proofs.Common.{sym, ◌∙◌, ap, subst, arith, length-append}
use Rattle.std.specs.Io.KnownBytes.{Appends}
use Rattle.escp2_definitions.specs.declared.command.Command.TheVariants as c
use Rattle.page_definitions.specs.PageBytes.{page_coding}
use Rattle.page_definitions.specs.Strokes.{Spoken, Strokes, bytes_of, page_commands, prologue, say, strokes_bytes}
use Rattle.page_laws.proofs.Printed.{bytes-append}
use Rattle.printer_definitions.specs.Printer.{Printer, row_units}
use Rattle.weave_base.specs.Parts.{AppendsPart}
use Rattle.dot_planes.specs.Tables.{DotTable}
use Rattle.page_writer.specs.Heads.{HeadStrokes, strokes_over}
use Rattle.page_writer.specs.Outlets.{Gathers, GathersPart, outlet_of}
use Rattle.page_writer.specs.StrokeBytes.{end_bytes, fired_strokes, head_bytes}
use Rattle.page_writer.specs.Sums.{SumsStrokes, rasters_in}
use Rattle.page_writer.specs.declared.sums.PageSum.{PageSum}
use Rattle.page_writer.proofs.Inks.{rasters-append}
use Rattle.page_writer.proofs.Outlets.{fails_before, fails_behind, gathers_all}

-- ---- three parts

-- the bytes before the strokes, on a sheet of this length, of which the part from top to bottom is printed
abbrev pub begin_bytes : ℕ → ℕ → ℕ → List ℕ
begin_bytes len top bottom = bytes_of page_coding.code (
    say c.Init ∷ say c.Graphics ∷ say (c.Unit 5) ∷ say (c.MicroWeave 0) ∷ say (c.OneWay 1)
    ∷ say (c.Length len) ∷ say (c.Margins top bottom) ∷ say (c.DownTo 0) ∷ [])

-- the commands after the strokes
abbrev end_commands : List Spoken
end_commands = say c.Eject ∷ say c.Init ∷ []

-- the bytes of the strokes
abbrev pub fired_bytes : Printer → ℕ → Strokes → List ℕ
fired_bytes p width strokes = bytes_of page_coding.code (fired_strokes p width strokes)

-- the bytes of a page are those of its parts, where the sheet's numbers are these
pub page_is : (p : Printer) (head : HeadStrokes) (t : DotTable) {len length top bottom above height : ℕ}
    → length ≡ len → top ≡ (p.top - above) * row_units p → above ≡ head.above
    → bottom ≡ (p.top + height) * row_units p → t.rows ≡ height
    → head_bytes p head t len ≡ begin_bytes length top bottom ++ (fired_bytes p t.width (strokes_over p head t) ++ end_bytes)
page_is p head t {len} {length} {top} {bottom} length_is top_is above_is bottom_is height_is =
    let fired : List Spoken = fired_strokes p t.width (strokes_over p head t) in
    let first : List Spoken = prologue p head.above t.rows len in
    let rest : List ℕ = bytes_of page_coding.code fired ++ end_bytes in
    bytes-append page_coding.code first (fired ++ end_commands)
    ∙ ap (λ bs. bytes_of page_coding.code first ++ bs) (bytes-append page_coding.code fired end_commands)
    ∙ sym (ap (λ n. begin_bytes n top bottom ++ rest) length_is
    ∙ ap (λ n. begin_bytes len n bottom ++ rest) (top_is ∙ ap (λ n. (p.top - n) * row_units p) above_is)
    ∙ ap (λ n. begin_bytes len ((p.top - head.above) * row_units p) n ++ rest)
    (bottom_is ∙ ap (λ n. (p.top + n) * row_units p) (sym height_is)))

-- ---- what a page leaves in a sink

-- the bytes before the strokes wait, where nothing waited before them
begun : {empty waiting : List ℕ} (xs : List ℕ) → empty ≡ [] → waiting ≡ empty ++ xs → waiting ≡ xs
begun xs none is = is ∙ ap (λ bs. bs ++ xs) none

-- all was sent and written
pub all_written : {a b : Option (List ℕ)} (d : Option (List ℕ)) {whole empty waiting rest : List ℕ} (xs : List ℕ) {ys : List ℕ} (zs : List ℕ)
    → whole ≡ xs ++ (ys ++ zs) → empty ≡ [] → waiting ≡ empty ++ xs
    → Gathers (outlet_of a waiting) (outlet_of b rest) ys → Appends b d (rest ++ zs) → Appends a d whole
all_written {a} d xs {ys} zs is none begins sent written =
    let P : List ℕ → Type 0 = Appends a d in
    subst P (ap (λ bs. bs ++ (ys ++ zs)) (begun xs none begins) ∙ sym is) (gathers_all d ys zs sent written)

-- the strokes were sent in part
pub strokes_part : {a d : Option (List ℕ)} {whole empty waiting : List ℕ} (xs ys zs : List ℕ)
    → whole ≡ xs ++ (ys ++ zs) → empty ≡ [] → waiting ≡ empty ++ xs
    → GathersPart (outlet_of a waiting) d ys → AppendsPart a d whole
strokes_part {a} {d} {whole} {empty} {waiting} xs ys zs is none begins part =
    let P : List ℕ → Type 0 = AppendsPart a d in
    subst P (ap (λ bs. bs ++ (ys ++ zs)) (begun xs none begins) ∙ sym is) (fails_before (outlet_of a waiting) ys zs part)

-- all was sent, and what waited was written in part
pub end_part : {a b d : Option (List ℕ)} {whole empty waiting rest : List ℕ} (xs : List ℕ) {ys : List ℕ} (zs : List ℕ)
    → whole ≡ xs ++ (ys ++ zs) → empty ≡ [] → waiting ≡ empty ++ xs
    → Gathers (outlet_of a waiting) (outlet_of b rest) ys → AppendsPart b d (rest ++ zs) → AppendsPart a d whole
end_part {a} {b} {d} xs {ys} zs is none begins sent part =
    let P : List ℕ → Type 0 = AppendsPart a d in
    subst P (ap (λ bs. bs ++ (ys ++ zs)) (begun xs none begins) ∙ sym is) (fails_behind ys zs sent part)

-- ---- what a page takes

-- the sums of a page are those of its parts
pub page_sums : (p : Printer) (width height len : ℕ) (strokes : Strokes) (length' top bottom : ℕ) (sum : PageSum) (bytes : ℕ)
    → strokes_bytes page_coding p width height len strokes
    ≡ begin_bytes length' top bottom ++ (fired_bytes p width strokes ++ end_bytes)
    → bytes ≡ length (fired_bytes p width strokes) → sum.bytes ≡ 49 + bytes
    → sum.rasters ≡ rasters_in (fired_strokes p width strokes) → SumsStrokes p width height len strokes sum
page_sums p width height len strokes length' top bottom sum bytes is fired all rasters = record {
  bytes_are = omega (
    arith,
    all,
    fired,
    ap length is,
    length-append (begin_bytes length' top bottom) (fired_bytes p width strokes ++ end_bytes),
    length-append (fired_bytes p width strokes) end_bytes,
  );
  rasters_are = rasters ∙ (let none : rasters_in (fired_strokes p width strokes)
      ≡ rasters_in (page_commands p width height page_coding.c len strokes) =
      omega (
        arith,
        rasters-append (prologue p strokes.above height len) (fired_strokes p width strokes ++ end_commands),
        rasters-append (fired_strokes p width strokes) end_commands,
      ) in none);
}
