-- The strokes of a way over planes are those of the halftone that the planes show.
use Rattle.std.proofs.Common.{◌≡◌, ℕ, ◌+◌, ◌-◌, ◌*◌, ◌/◌, ◌<◌, ◌≤◌, Bool, List, length, map, Option, Some, refl, sym, ◌∙◌, ap, arith}
use Rattle.std.specs.List.{AllByRecursion}
use Rattle.std.proofs.Math.Nat.{div-le_self, div-mul-le_self, mul-le-mul_right}
use Rattle.base_definitions.specs.Counting.{count_from}
use Rattle.base_definitions.specs.Limits.{most_rows}
use Rattle.dead_nozzles.specs.Plans.{shot_row, stroke_in}
use Rattle.dead_nozzles.specs.Strokes.{Head, HeadStroke, IsHead, all_strokes}
use Rattle.dead_nozzles.proofs.Starts.{all-rise}
use Rattle.dead_nozzles.proofs.Strokes.{all-few, in-low, in-over, in-rises, map-places, missing-few}
use Rattle.dot_planes.specs.Tables.{DotTable}
use Rattle.page_definitions.specs.Dots.{Halftone}
use Rattle.page_definitions.specs.Healed.{healed_stroke, worn_head}
use Rattle.page_definitions.specs.PageBytes.{fired_row, page_coding, pass_stroke}
use Rattle.page_definitions.specs.Shingled.{every_other, shingled_stroke}
use Rattle.page_definitions.specs.Strokes.{page_commands}
use Rattle.page_definitions.specs.Ways.{CanGo, most_rasters, way_strokes}
use Rattle.page_definitions.specs.declared.way.Way.{Way}
use Rattle.page_definitions.specs.declared.way.Way.TheVariants.{Healed, Shingled, Woven}
use Rattle.page_laws.proofs.Halves.{other-len}
use Rattle.page_laws.proofs.Healing.{worn-is}
use Rattle.page_laws.proofs.Numbers.{pass-low}
use Rattle.page_laws.proofs.Shingling.{above-room}
use Rattle.printer_definitions.specs.Inks.{inks_of}
use Rattle.printer_definitions.specs.Printer.{Printer, head_rows, row_units}
use Rattle.pwg_definitions.specs.declared.pages.PageForm.{PageForm}
use Rattle.pwg_definitions.specs.Header.{IsWanted}
use Rattle.separation_definitions.specs.CanPrint.{CanPrint}
use Rattle.separation_definitions.specs.Windows.{wanted_by, window_of}
use Rattle.shingle_plan.specs.Shingles.{fires_even, half, rows_above, shingle_count, shingle_row}
use Rattle.shingle_plan.proofs.Rows.{lands}
use Rattle.weave_definitions.specs.Weave.{nozzle_row, pass_count}
use Rattle.weave_definitions.proofs.Rows.{stands_on}
use Rattle.page_writer.specs.Heads.{HeadStrokes, Suits, stroke_over, stroke_rows, strokes_over}
use Rattle.page_writer.specs.Healed.{healed_strokes}
use Rattle.page_writer.specs.Passes.{pass_strokes, plane_row}
use Rattle.page_writer.specs.Shingles.{shingle_strokes}
use Rattle.page_writer.specs.Shows.{Shows}
use Rattle.page_writer.proofs.OverPlanes.{IsOnSheet, map-counted, on_sheet, page-same, plane_row-is, plane_row-len, same-places}

-- the strokes of a way over so many rows of planes
abbrev pub way_head : Way → Printer → ℕ → HeadStrokes
way_head Woven p rows = pass_strokes (record { nozzles = p.nozzles; pitch = p.pitch; height = rows })
way_head Shingled p rows = shingle_strokes (record { nozzles = p.nozzles; pitch = p.pitch; height = rows })
way_head (Healed dead) p rows = healed_strokes (worn_head dead.items p rows)

-- A page of this form, planes over its window, and a printer that can print it this way.
pub record IsOfPage (way : Way) (p : Printer) (t : DotTable) (f : PageForm) : Type 0 where
  pub can : CanPrint p
  pub go : CanGo way p
  pub wanted : IsWanted (wanted_by p) f
  pub width : t.width ≡ (window_of f p).width
  pub rows : t.rows ≡ (window_of f p).height
  pub inks : t.inks ≡ length (inks_of p.inks)

-- ---- a head of the printer

-- a window on a sheet takes few strokes
pub few-strokes : (way : Way) (p : Printer) (rows : ℕ) → CanPrint p → CanGo way p → p.top + rows ≤ most_rows
    → most_rasters way p rows ≤ 40000
few-strokes Woven p rows can go low =
    let all : ℕ = rows + (p.nozzles - 1) * p.pitch + (p.nozzles - 1) in
    omega (arith, div-le_self all p.nozzles, low, can.head_room, can.most_nozzles)
few-strokes Shingled p rows can go low =
    let all : ℕ = rows + rows_above p.nozzles p.pitch + (half p.nozzles - 1) in
    omega (arith, div-le_self all (half p.nozzles), div-le_self p.nozzles 2, low, above-room p can go, can.most_nozzles)
few-strokes (Healed dead) p rows can go low =
    let all : ℕ = rows + (p.nozzles - 1) * p.pitch + (p.nozzles - 1) in
    omega (arith, div-le_self all p.nozzles, missing-few (worn_head dead.items p rows), low, can.head_room, can.most_nozzles)

-- Strokes of a head of a printer over so many rows, at most so many.
record IsHeadOf (p : Printer) (rows most : ℕ) (head : HeadStrokes) : Type 0 where
  pub rows_are : head.rows ≡ rows
  pub nozzles : head.nozzles ≡ p.nozzles
  pub room : head.above ≤ p.top
  pub few : head.count ≤ most
  pub rising : (i j : ℕ) → i ≤ j → j < head.count → head.start i ≤ head.start j
  pub low : (stroke : ℕ) → stroke < head.count → head.start stroke < head.above + rows
  pub wide : (t : DotTable) (stroke place nozzle : ℕ) → length (head.row t stroke place nozzle) ≡ t.width

-- the first nozzle is above the window's end in each shingled pass
begins-above : (a above height t : ℕ) → 1 ≤ a → t < (height + above + (a - 1)) / a → t * a < above + height
begins-above a above height t some less =
    let all : ℕ = height + above + (a - 1) in
    let product : (t + 1) * a ≤ all / a * a = mul-le-mul_right a (omega arith) in
    let expanded : (t + 1) * a ≡ t * a + a = omega arith in
    omega (arith, product, div-mul-le_self all a, expanded)

-- those of a way are
head-is : (way : Way) (p : Printer) (rows : ℕ) → CanPrint p → CanGo way p → IsHeadOf p rows (most_rasters way p rows) (way_head way p rows)
head-is Woven p rows can go = record {
  rows_are = refl;
  nozzles = refl;
  room = can.head_room;
  few = omega arith;
  rising = λ i j le low. mul-le-mul_right p.nozzles le;
  low = λ pass low. pass-low p.nozzles p.pitch rows pass can.some_nozzles low;
  wide = λ t pass place nozzle. plane_row-len t place (nozzle_row p.nozzles p.pitch rows pass nozzle);
}
head-is Shingled p rows can go = record {
  rows_are = refl;
  nozzles = refl;
  room = above-room p can go;
  few = omega arith;
  rising = λ i j le low. mul-le-mul_right (half p.nozzles) le;
  low = λ pass low. begins-above (half p.nozzles) (rows_above p.nozzles p.pitch) rows pass go.0 low;
  wide = λ t pass place nozzle.
      let row : Option ℕ = shingle_row p.nozzles p.pitch rows pass nozzle in
      other-len (fires_even p.nozzles nozzle) (plane_row t place row) ∙ plane_row-len t place row;
}
head-is (Healed dead) p rows can go =
    let head : Head = worn_head dead.items p rows in
    let is : IsHead head = worn-is dead.items p rows can go.1 in
    record {
      rows_are = refl;
      nozzles = refl;
      room = can.head_room;
      few = all-few head is;
      rising = λ i j le low. in-rises (all_strokes head) i j (all-rise head is) le low;
      low = λ stroke low. in-low head stroke is low;
      wide = λ t stroke place nozzle. plane_row-len t place (shot_row (stroke_in (all_strokes head) stroke).shots nozzle);
    }

-- There are no more strokes than the way takes.
pub way-few : (way : Way) (p : Printer) (rows : ℕ) → CanPrint p → CanGo way p → (way_head way p rows).count ≤ most_rasters way p rows
way-few way p rows can go = (head-is way p rows can go).few

-- The strokes over planes of a page's window suit the printer and the planes.
pub way-suits : (way : Way) (p : Printer) (t : DotTable) (f : PageForm) → IsOfPage way p t f → Suits p (way_head way p t.rows) t
way-suits way p t f is =
    let on : IsOnSheet p t = on_sheet p t f is.can is.wanted is.width is.rows in
    let head = head-is way p t.rows is.can is.go in
    record {
      can = is.can;
      over = record { rows = sym head.rows_are; columns = on.columns; wide = head.wide t };
      inks = is.inks;
      nozzles = head.nozzles;
      room = head.room;
      few = omega (arith, head.few, few-strokes way p t.rows is.can is.go on.low);
      rising = head.rising;
      low = λ stroke low.
          let above : (way_head way p t.rows).start stroke ≤ p.top + t.rows = omega (arith, head.low stroke low, head.room) in
          let less : (way_head way p t.rows).start stroke * row_units p ≤ (p.top + t.rows) * row_units p = mul-le-mul_right (row_units p) above in
          omega (arith, less, on.sheet);
    }

-- ---- the commands of the strokes

-- a stroke whose nozzles fire rows of the window, each with part of its dots
same-rows : (p : Printer) (t : DotTable) (h : Halftone) (head : HeadStrokes) (stroke : ℕ) (part : ℕ → List Bool → List Bool) (row : ℕ → Option ℕ)
    → Shows p t h → ((i y : ℕ) → i < p.nozzles → row i ≡ Some y → y < h.height)
    → ((place : ℕ) → map (λ i. part i (plane_row t place (row i))) (count_from 0 p.nozzles) ≡ stroke_rows head t stroke place)
    → AllByRecursion (λ ink. (stroke_over p head t stroke).rows ink ≡ map (λ i. part i (fired_row h ink (row i))) (count_from 0 p.nozzles))
    (inks_of p.inks)
same-rows p t h head stroke part row shows on rows =
    same-places p t head stroke (λ ink. map (λ i. part i (fired_row h ink (row i))) (count_from 0 p.nozzles))
    (λ place ink is.
    map-counted (λ i. part i (fired_row h ink (row i))) (λ i. part i (plane_row t place (row i))) 0 p.nozzles
    (λ i low. ap (part i) (plane_row-is p t h place ink shows is (row i) (λ y e. on i y (omega (arith, low)) e)))
    ∙ rows place)

-- the strokes over the rows of a halftone
same-at : (way : Way) (p : Printer) (t : DotTable) (h : Halftone) (len : ℕ) → CanPrint p → CanGo way p → Shows p t h
    → page_commands p t.width t.rows page_coding.c len (strokes_over p (way_head way p h.height) t)
    ≡ page_commands p h.width h.height page_coding.c len (way_strokes way p h)
same-at Woven p t h len can go shows =
    let head : HeadStrokes = way_head Woven p h.height in
    page-same p t h len head (pass_count p.nozzles p.pitch h.height) (pass_stroke p h) shows refl
    (λ pass. record {
      start = refl;
      rows = same-rows p t h head pass (λ i row. row) (nozzle_row p.nozzles p.pitch h.height pass) shows
          (λ i y low e. (stands_on p.nozzles p.pitch h.height pass i y e).low) (λ place. refl);
    })
same-at Shingled p t h len can go shows =
    let head : HeadStrokes = way_head Shingled p h.height in
    page-same p t h len head (shingle_count p.nozzles p.pitch h.height) (shingled_stroke p h) shows refl
    (λ pass. record {
      start = refl;
      rows = same-rows p t h head pass (λ i. every_other (fires_even p.nozzles i)) (shingle_row p.nozzles p.pitch h.height pass) shows
          (λ i y low e. (lands p.nozzles p.pitch h.height pass i y e).low) (λ place. refl);
    })
same-at (Healed dead) p t h len can go shows =
    let head : HeadStrokes = way_head (Healed dead) p h.height in
    let worn : Head = worn_head dead.items p h.height in
    let strokes : List HeadStroke = all_strokes worn in
    page-same p t h len head (length strokes) (λ k. healed_stroke p h (stroke_in strokes k)) shows refl
    (λ k. record {
      start = refl;
      rows = same-rows p t h head k (λ i row. row) (shot_row (stroke_in strokes k).shots) shows
          (λ i y low e. (in-over worn k i y (worn-is dead.items p h.height can go.1) low e).low) (λ place. refl);
    })
    ∙ ap (λ list. page_commands p h.width h.height page_coding.c len (record { above = head_rows p; list = list }))
    (sym (map-places (healed_stroke p h) strokes (stroke_in strokes) 0
    (λ k low. ap (stroke_in strokes) (let same : 0 + k ≡ k = omega arith in same))))

-- The strokes over planes have the commands of the halftone that the planes show.
pub way-same : (way : Way) (p : Printer) (t : DotTable) (h : Halftone) (len : ℕ) → CanPrint p → CanGo way p → Shows p t h
    → page_commands p t.width t.rows page_coding.c len (strokes_over p (way_head way p t.rows) t)
    ≡ page_commands p h.width h.height page_coding.c len (way_strokes way p h)
way-same way p t h len can go shows =
    ap (λ rows. page_commands p t.width t.rows page_coding.c len (strokes_over p (way_head way p rows) t)) shows.rows_is
    ∙ same-at way p t h len can go shows
