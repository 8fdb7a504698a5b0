-- The outcome of playing a job.
use Rattle.std.specs.Prelude.{◌≡◌, ℕ, ◌+◌, ◌-◌, ◌^◌, min, List, [], ◌∷◌, ◌++◌, length, take, Option, Some, None, IfSome, Result, Ok, Err}
use Rattle.std.specs.Io.KnownBytes.{Appends, Consumes, IsAtEnd}
use Rattle.escp2_definitions.specs.declared.stops.JobStop.{JobStop}
use Rattle.escp2_definitions.specs.Commands.{commands}
use Rattle.escp2_definitions.specs.JobEnds.{job_end, stopped}
use Rattle.escp2_definitions.specs.Machine.{Sheet, execute}
use Rattle.escp2_reader.specs.Jobs.{JobMayGoOn}
use Rattle.job_player.specs.declared.player.PlayStop.{PlayStop}
use Rattle.job_player.specs.declared.player.PlayStop.TheVariants as stop
use Rattle.job_player.specs.Pictures.{images, sheet_images}
use Rattle.buffered_bytes.specs.Outside.{HasRisen, Outside}
use Rattle.printer_definitions.specs.Printer.{Printer}
use Rattle.weave_base.specs.Parts.{AppendsPart}

-- the sheets that a job of these bytes ejects, of which at most `most` are read
abbrev pub sheets_of : Printer → ℕ → List ℕ → List Sheet
sheets_of p most bytes = (execute p (commands (take most bytes)).entries).sheets

-- The whole job was read, nothing stops it, and the images of its sheets were written.
pub record PlaysAll (p : Printer) (most : ℕ) (input out : Outside) : Type 0 where
  pub bytes : List ℕ
  pub taken : Consumes input.before input.now bytes
  pub end : IsAtEnd input.now
  pub whole : job_end bytes most (Some p) ≡ None
  pub writes : Appends out.before out.now (images p (sheets_of p most bytes))

-- The job, if the source reports its bytes, stops at this offset; the images of the sheets before that were written.
pub record PlaysToStop (p : Printer) (most : ℕ) (input out : Outside) (offset : ℕ) (cause : JobStop) : Type 0 where
  pub sheets : List Sheet
  pub told : IfSome input.before (λ bytes. (sheets_of p most bytes ≡ sheets) × (job_end bytes most (Some p) ≡ stopped offset cause))
  pub writes : Appends out.before out.now (images p sheets)

-- These are the first sheets of what was read of a job.
pub record TakesSheets (p : Printer) (most : ℕ) (before now : Option (List ℕ)) (sheets : List Sheet) : Type 0 where
  pub bytes : List ℕ
  pub taken : Consumes before now bytes
  pub others : List Sheet
  pub are : sheets_of p most bytes ≡ sheets ++ others

-- The images of some first sheets of what was read were written.
pub record PlaysSome (p : Printer) (most : ℕ) (input out : Outside) : Type 0 where
  pub sheets : List Sheet
  pub takes : TakesSheets p most input.before input.now sheets
  pub writes : Appends out.before out.now (images p sheets)

-- The images of all sheets that what was taken ejects were written, and more bytes could mend where it stops.
pub record PlaysTaken (p : Printer) (most : ℕ) (input out : Outside) : Type 0 where
  pub bytes : List ℕ
  pub taken : Consumes input.before input.now bytes
  pub end : JobMayGoOn (job_end bytes most (Some p))
  pub writes : Appends out.before out.now (images p (sheets_of p most bytes))

-- the number of a sheet, up to the last value of 32 bits
abbrev pub sheet_number : ℕ → ℕ
sheet_number n = min n (2 ^ 32 - 1)

-- The images of the sheets before this one were written, and a proper prefix of its own.
pub record StopsInSheet (p : Printer) (most : ℕ) (input out : Outside) (number : ℕ) : Type 0 where
  pub sheets : List Sheet
  pub sheet : Sheet
  pub takes : TakesSheets p most input.before input.now (sheets ++ sheet ∷ [])
  pub number_is : number ≡ sheet_number (length sheets + 1)
  pub between : Option (List ℕ)
  pub whole : Appends out.before between (images p sheets)
  pub part : AppendsPart between out.now (sheet_images p sheet)

-- The outcome of playing a job of at most `most` bytes on a printer.
abbrev pub PlayResult : Printer → ℕ → Outside → Outside → Result (Unit {0}) PlayStop → Type 0
PlayResult p most input out (Ok u) = PlaysAll p most input out
PlayResult p most input out (Err (stop.Job offset cause)) = PlaysToStop p most input out offset cause
PlayResult p most input out (Err stop.Read) = HasRisen input × PlaysTaken p most input out
PlayResult p most input out (Err (stop.Write number)) = HasRisen out × StopsInSheet p most input out number
PlayResult p most input out (Err stop.Memory) = PlaysSome p most input out
