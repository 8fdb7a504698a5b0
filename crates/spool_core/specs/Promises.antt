-- What a run of the spool promises, by its words, the outside, the error sink and its report.
use Rattle.std.specs.Prelude.{◌≡◌, ◌≢◌, ℕ, ◌+◌, ◌≤◌, ◌⊎◌, List, [], ◌∷◌, All, Some, Ok}
use Rattle.page_definitions.specs.Dots.{Screening}
use Rattle.page_halftoner.specs.Screenings.{screening_of}
use Rattle.driver_core.specs.Outside.{HasFailed, IsCalm, Outside}
use Rattle.driver_core.specs.Trying.Summary.{dots_of_pages}
use Rattle.ink_meter.specs.Accounts.{Account, all_inks}
use Rattle.job_profile.specs.Named.{IsJobProfile}
use Rattle.printer_definitions.specs.Printer.{Printer}
use Rattle.pwg_definitions.specs.Stream.{Page, stream}
use Rattle.pwg_definitions.specs.Stream.StreamEnd.{Done}
use Rattle.separation_definitions.specs.Windows.{wanted_by}
use Rattle.spool_core.specs.Answers.{IsReported, spool_status, spool_text}
use Rattle.spool_core.specs.Files.{AreFiles, joined}
use Rattle.spool_core.specs.Outcome.{SpoolOutcome, SpoolOutside}
use Rattle.spool_core.specs.declared.answer.SpoolAnswer.{SpoolAnswer}
use Rattle.spool_core.specs.declared.report.Ran.{Ran}
use Rattle.spool_queue.specs.Jobs.{Stream}
use Rattle.spool_words.specs.Meaning.{names_of, profile_named, spool_meaning}
use Rattle.spool_words.specs.declared.reading.SpoolRequest.{SpoolRequest}
use Rattle.weave_base.specs.Shelf.{NamedText}

-- the stream's pages are whole, and nothing stands behind them
abbrev pub IsValidStream : Printer → Stream → Type 0
IsValidStream p bytes = (pages : List Page) × (stream (wanted_by p) bytes ≡ record { pages = pages; end = Done })

-- Words that are accepted, a profile, and files with valid streams, by what the shelf says that it holds.
pub record IsValidSpool (words : List (List ℕ)) (o : SpoolOutside) : Type 0 where
  pub request : SpoolRequest
  pub means : spool_meaning words ≡ Ok request
  pub p : Printer
  pub profile : IsJobProfile o.shelf.told (profile_named words) (Ok p)
  pub sent : List (List Stream)
  pub files : AreFiles o.shelf.told (names_of words) sent
  pub streams : All (All (IsValidStream p)) sent

-- the dots of all inks that the pages of a stream ask for
abbrev pub stream_dots : Printer → Screening → Stream → ℕ
stream_dots p k bytes = all_inks (dots_of_pages p k (stream (wanted_by p) bytes).pages)

-- those of all streams
abbrev pub dots_of_streams : Printer → Screening → List Stream → ℕ
dots_of_streams p k [] = 0
dots_of_streams p k (bytes ∷ streams) = stream_dots p k bytes + dots_of_streams p k streams

-- the meter has room for so many dots
abbrev pub HasRoomFor : ℕ → Account → Type 0
HasRoomFor dots a = all_inks a.totals + dots ≤ a.cap

pub record SpoolPromises (words : List (List ℕ)) (o : SpoolOutside) (err : Outside) (status : ℕ) (answer : SpoolAnswer) (done : List Ran)
    : Type 0 where
  -- what the answer means
  pub outcome : SpoolOutcome words o done answer
  pub status_is : status ≡ spool_status answer
  -- the error sink got all lines, or a proper prefix of them, and its count of faults rose
  pub told : IsReported err (spool_text done answer)
  -- a valid run prints every job, unless something outside fails, a page goes past a cap, or memory runs out
  pub valid : IsValidSpool words o → ((files : List NamedText) × (o.shelf.told ≡ Some files)) → (HasFailed o.shelf → ⊥) → IsCalm o.out
      → All (λ ran. ran.status ≢ 6) done → (status ≡ 0) ⊎ (status ≡ 7)
  -- the same where each meter has room for all pages of all streams, in whatever order the jobs come
  pub roomy : (v : IsValidSpool words o) → ((files : List NamedText) × (o.shelf.told ≡ Some files)) → (HasFailed o.shelf → ⊥) → IsCalm o.out
      → All (HasRoomFor (dots_of_streams v.p (screening_of v.request.kernel v.request.grain) (joined v.sent))) o.meters.before → (status ≡ 0) ⊎ (status ≡ 7)
