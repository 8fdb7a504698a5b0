-- The strokes of a page that are coded in pieces, and what is sent of them.
use Rattle.std.specs.Prelude.{◌≡◌, ℕ, ◌+◌, ◌-◌, ◌*◌, ◌<◌, ◌≤◌, if◌then◌else◌, List, [], ◌∷◌, length, map, filter, min}
use Rattle.std.specs.Prelude.{slice_index_or, vec_capacity, vec_len}
use Rattle.base_definitions.specs.Counting.{count_from}
use Rattle.page_definitions.specs.PageBytes.{page_coding}
use Rattle.page_definitions.specs.Strokes.{Spoken, Stroke, bytes_of, fires, strokes_commands}
use Rattle.page_writer.specs.Heads.{HeadPage, IsPage, stroke_over}
use Rattle.page_writer.specs.Outlets.{Gathers, Outlet}
use Rattle.page_writer.specs.StrokeBytes.{IsStroke}
use Rattle.page_writer.specs.Sums.{most_of_pass, rasters_in}
use Rattle.page_writer.specs.declared.coded.Coded.{Coded}
use Rattle.page_writer.specs.declared.coded.Piece.{Piece}
use Rattle.page_writer.specs.declared.coded.Run.{Run}
use Rattle.page_writer.specs.declared.coded.Sent.{Sent}
use Rattle.page_writer.specs.declared.cut.BatchCut.{BatchCut}
use Rattle.page_writer.specs.declared.room.Batches.{Batches}
use Rattle.printer_definitions.specs.Printer.{Printer}

-- each of a list, by its place
pub record Each {W : Type 0} (P : ℕ → W → Type 0) (list : List W) : Type 0 where
  pub at : (k : ℕ) (d : W) → k < length list → P k (slice_index_or list k d)

-- ---- what strokes send

-- so many strokes of a page from one on
abbrev pub strokes_in : HeadPage → ℕ → ℕ → List Stroke
strokes_in page at count = map (stroke_over page.p page.head page.t) (count_from at count)

-- the row where strokes leave a head that was on row `last`: where the last one with a dot begins
abbrev pub left_at : Printer → ℕ → List Stroke → ℕ
left_at p last [] = last
left_at p last (stroke ∷ strokes) = left_at p (if fires p stroke then stroke.start else last) strokes

-- the commands of so many strokes from one on, where the head is on row `last`. Strokes without a dot have none.
abbrev pub sent_commands : HeadPage → ℕ → ℕ → ℕ → List Spoken
sent_commands page last at count =
    strokes_commands page.p page.t.width page_coding.c last (filter (fires page.p) (strokes_in page at count))

abbrev pub sent_bytes : HeadPage → ℕ → ℕ → ℕ → List ℕ
sent_bytes page last at count = bytes_of page_coding.code (sent_commands page last at count)

-- So many strokes from one on are sent, where the head was on row `last`.
pub record SendsStrokes (page : HeadPage) (last at count : ℕ) (old new : Outlet) (sent : Sent) : Type 0 where
  pub gathers : Gathers old new (sent_bytes page last at count)
  pub bytes_are : sent.bytes ≡ length (sent_bytes page last at count)
  pub rasters_are : sent.rasters ≡ rasters_in (sent_commands page last at count)
  pub left : sent.last ≡ left_at page.p last (strokes_in page at count)
  pub short : sent.bytes ≤ count * most_of_pass page.p page.t.width
  pub few : sent.rasters ≤ count * 4

-- what is sent first, and what then
abbrev pub sent_both : Sent → Sent → Sent
sent_both one two = record { bytes = one.bytes + two.bytes; rasters = one.rasters + two.rasters; last = two.last }

-- ---- strokes that are coded

-- A stroke is coded behind seven bytes of room for its step.
pub record IsCoded (page : HeadPage) (stroke : ℕ) (coded : Coded) : Type 0 where
  pub front : List ℕ
  pub step : length front ≡ 7
  pub inks : IsStroke page.p page.t.width (stroke_over page.p page.head page.t stroke) front coded.code.items coded.rasters
  pub few : coded.rasters ≤ 4
  pub short : vec_len coded.code ≤ most_of_pass page.p page.t.width

-- there is room for the code of any stroke
abbrev pub HasRoom : HeadPage → Coded → Type 0
HasRoom page coded = most_of_pass page.p page.t.width ≤ vec_capacity coded.code

-- each has such room
abbrev pub AllRoomy : HeadPage → List Coded → Type 0
AllRoomy page strokes = Each (λ k coded. HasRoom page coded) strokes

-- the strokes from `first` to before `end` are coded
pub record AreCoded (page : HeadPage) (first end : ℕ) (strokes : List Coded) : Type 0 where
  pub at : (k : ℕ) (d : Coded) → first + k < end → IsCoded page (first + k) (slice_index_or strokes k d)

-- A piece can be coded.
pub record IsReady (page : HeadPage) (piece : Piece) : Type 0 where
  pub page_is : IsPage page
  pub low : piece.end ≤ page.head.count
  pub within : piece.end ≤ piece.first + length piece.strokes.items
  pub room : AllRoomy page piece.strokes.items

-- It was coded.
pub record CodesPiece (page : HeadPage) (before after : Piece) : Type 0 where
  pub first : after.first ≡ before.first
  pub end : after.end ≡ before.end
  pub many : length after.strokes.items ≡ length before.strokes.items
  pub room : AllRoomy page after.strokes.items
  pub coded : AreCoded page before.first before.end after.strokes.items

-- ---- batches of pieces

-- where the strokes of piece k of a batch begin, and those of the piece before it end
abbrev pub bound_of : Run → ℕ → ℕ
bound_of run k = min (run.first + k * run.each) run.count

-- what the strokes of so many pieces of a batch send, where the head is on row `last`
abbrev pub batch_bytes : HeadPage → ℕ → Run → ℕ → List ℕ
batch_bytes page last run pieces = sent_bytes page last run.first (bound_of run pieces - run.first)

-- They are sent.
abbrev pub SendsBatch : HeadPage → ℕ → Run → ℕ → Outlet → Outlet → Sent → Type 0
SendsBatch page last run pieces old new = SendsStrokes page last run.first (bound_of run pieces - run.first) old new

-- A piece of this page has room for so many strokes.
pub record IsRoomy (page : HeadPage) (each : ℕ) (own : HeadPage) (piece : Piece) : Type 0 where
  pub own_is : own ≡ page
  pub many : length piece.strokes.items ≡ each
  pub room : AllRoomy page piece.strokes.items

-- Piece k of a batch has its strokes to code.
pub record IsAssigned (page : HeadPage) (run : Run) (k : ℕ) (own : HeadPage) (piece : Piece) : Type 0 where
  pub roomy : IsRoomy page run.each own piece
  pub first_is : piece.first ≡ bound_of run k
  pub end_is : piece.end ≡ bound_of run (k + 1)

-- Piece k of a batch is coded.
pub record IsFilled (page : HeadPage) (run : Run) (k : ℕ) (own : HeadPage) (piece : Piece) : Type 0 where
  pub roomy : IsRoomy page run.each own piece
  pub coded : AreCoded page (bound_of run k) (bound_of run (k + 1)) piece.strokes.items

-- Batches are cut into two pieces or more, of a stroke or more each, and the code of two batches of strokes of `most`
-- bytes takes 8 MB at most.
pub record IsCut (most : ℕ) (cut : BatchCut) : Type 0 where
  pub some : 2 ≤ cut.pieces
  pub few : cut.pieces ≤ 64
  pub each : 1 ≤ cut.each
  pub room : 2 * (cut.pieces * cut.each * most) ≤ 8388608

-- Two batches of pieces of a page have room for their code.
pub record HaveRoom {S : Type 0} (page_of : S → HeadPage) (page : HeadPage) (batches : Batches S) : Type 0 where
  pub each_some : 1 ≤ batches.each
  pub ahead_some : 1 ≤ length batches.ahead.items
  pub ahead_few : length batches.ahead.items ≤ 64
  pub behind_some : 1 ≤ length batches.behind.items
  pub behind_few : length batches.behind.items ≤ 64
  pub ahead : Each (λ k coder. IsRoomy page batches.each (page_of coder.page.now) coder.piece) batches.ahead.items
  pub behind : Each (λ k coder. IsRoomy page batches.each (page_of coder.page.now) coder.piece) batches.behind.items
