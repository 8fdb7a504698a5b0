-- What `trial` writes.
use Rattle.std.specs.Prelude.{ℕ, ◌+◌, List, [], ◌∷◌, ◌++◌, codes, decimal, length}
use Rattle.std.specs.List.{sum_by}
use Rattle.page_definitions.specs.Dots.{Screening}
use Rattle.driver_core.specs.Printing.Pages.{job_bytes}
use Rattle.escp2_definitions.specs.Commands.{Entry, commands}
use Rattle.escp2_definitions.specs.Machine.{Sheet}
use Rattle.escp2_definitions.specs.Rasters.{raster_count}
use Rattle.job_words.specs.declared.reading.Job.{Job}
use Rattle.ink_meter.specs.Accounts.{together}
use Rattle.ink_meter.specs.Counts.{ink_dots, page_dots}
use Rattle.page_definitions.specs.Ways.{page_bytes_by}
use Rattle.page_definitions.specs.declared.way.Way.{Way}
use Rattle.driver_core.specs.declared.trial.summary.Totals.{Totals}
use Rattle.page_maker.specs.Made.{made_form, made_stream}
use Rattle.printer_definitions.specs.declared.inks.InkCounts.{InkCounts}
use Rattle.printer_definitions.specs.Printer.{Printer}
use Rattle.pwg_definitions.specs.Stream.{Page}

-- the stream that a job has made for a printer, at its resolution
abbrev pub stream_made : Job → Printer → List ℕ
stream_made job p = made_stream job.seed job.pages (made_form job.width job.height job.kind) p.hdpi p.vdpi

-- how many rasters a job of these bytes has
abbrev pub rasters_of : List ℕ → ℕ
rasters_of bytes = sum_by (λ (entry : Entry). raster_count entry.command) (commands bytes).entries

-- how many rasters the jobs of pages have that are printed this way
abbrev pub rasters_of_pages : Way → Printer → Screening → List Page → ℕ
rasters_of_pages way p s [] = 0
rasters_of_pages way p s (page ∷ pages) = rasters_of (page_bytes_by way page p s) + rasters_of_pages way p s pages

-- the line of a summary
abbrev pub totals_line : Totals → List ℕ
totals_line t =
    codes "pages=" ++ decimal t.pages ++ codes " sheets=" ++ decimal t.sheets ++ codes " bytes=" ++ decimal t.bytes
    ++ codes " rasters=" ++ decimal t.rasters ++ codes " k=" ++ decimal t.dots.k ++ codes " c=" ++ decimal t.dots.c
    ++ codes " m=" ++ decimal t.dots.m ++ codes " y=" ++ decimal t.dots.y ++ codes "\n"

-- the dots of each ink that pages ask for
abbrev pub dots_of_pages : Printer → Screening → List Page → InkCounts
dots_of_pages p s [] = record { k = 0; c = 0; m = 0; y = 0 }
dots_of_pages p s (page ∷ pages) = together (page_dots page p s) (dots_of_pages p s pages)

-- the dots of each ink on sheets
abbrev pub dots_of_sheets : List Sheet → InkCounts
dots_of_sheets [] = record { k = 0; c = 0; m = 0; y = 0 }
dots_of_sheets (sheet ∷ sheets) = together (ink_dots sheet.dots) (dots_of_sheets sheets)

-- what pages come to that are printed this way: how many they are, as many sheets, the bytes and rasters of their job,
-- and the dots of each ink on all sheets
abbrev pub totals_of : Way → Printer → Screening → List Page → Totals
totals_of way p s pages = record {
  pages = length pages;
  sheets = length pages;
  bytes = length (job_bytes way p s pages);
  rasters = rasters_of_pages way p s pages;
  dots = dots_of_pages p s pages;
}

-- The summary of pages that are printed this way.
abbrev pub summary : Way → Printer → Screening → List Page → List ℕ
summary way p s pages = totals_line (totals_of way p s pages)
