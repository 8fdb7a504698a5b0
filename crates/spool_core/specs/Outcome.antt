-- The outcome of a run of the spool, by its answer.
use Rattle.std.specs.Prelude.{◌≡◌, ◌≢◌, ℕ, ◌+◌, ◌≤◌, ◌==◌, ◌||◌, ◌⊎◌, Bool, List, [], ◌∷◌, ◌++◌, All, count_by, None, Result, Ok, Err}
use Rattle.std.specs.Io.KnownBytes.{Keeps}
use Rattle.page_definitions.specs.Dots.{Screening}
use Rattle.page_halftoner.specs.Screenings.{screening_of}
use Rattle.driver_core.specs.Outside.{HasFailed, HasRisen, Meters, Outside, Texts}
use Rattle.job_profile.specs.Named.{IsJobProfile, refused_at}
use Rattle.printer_definitions.specs.Printer.{Printer}
use Rattle.printer_profile.specs.Profiles.{built_in}
use Rattle.spool_core.specs.Files.{AreFiles, FilesOutcome}
use Rattle.spool_core.specs.Printed.{Between, PrintsEvery, PrintsFirst}
use Rattle.spool_core.specs.declared.answer.SpoolAnswer.{SpoolAnswer}
use Rattle.spool_core.specs.declared.answer.SpoolAnswer.TheVariants as answer
use Rattle.spool_core.specs.declared.report.Ran.{Ran}
use Rattle.spool_queue.specs.Jobs.{Stream}
use Rattle.spool_words.specs.Meaning.{names_of, profile_named, spool_meaning}
use Rattle.spool_words.specs.declared.faults.SpoolFault.{SpoolFault}
use Rattle.spool_words.specs.declared.reading.SpoolRequest.{SpoolRequest}

-- What a run of the spool reads, writes and counts on, except the error sink.
pub record SpoolOutside : Type 0 where
  pub shelf : Texts
  pub out : Outside
  pub meters : Meters

-- the output and the meters, as they were at the call and are at the return
abbrev pub at_call : Outside → Meters → Between
at_call out meters = record { held = out.before; faults = out.faults_before; accounts = meters.before }

abbrev pub at_return : Outside → Meters → Between
at_return out meters = record { held = out.now; faults = out.faults_now; accounts = meters.now }

-- No job was printed, nothing was written, and no meter counted.
pub record PrintsNone (out : Outside) (meters : Meters) (done : List Ran) : Type 0 where
  pub none : done ≡ []
  pub unwritten : Keeps out.before out.now
  pub uncounted : meters.now ≡ meters.before

-- whether a job's status says that its input was refused, or that a page went past a cap
abbrev pub is_refused : Ran → Bool
is_refused ran = (ran.status == 3) || (ran.status == 6)

-- A write failed in this page of this job, which is the last that was printed.
pub record StopsAtWrite (done : List Ran) (sender job page : ℕ) : Type 0 where
  pub earlier : List Ran
  pub last : Ran
  pub are : done ≡ earlier ++ last ∷ []
  pub fine : All (λ ran. ran.status ≢ 5) earlier
  pub status_is : last.status ≡ 5
  pub sender_is : last.sender ≡ sender
  pub number_is : last.number ≡ job
  pub page_is : page ≡ last.pages + 1

-- the same, where this is the answer
abbrev pub WriteStopped : List Ran → SpoolAnswer → Type 0
WriteStopped done (answer.Write sender job page) = StopsAtWrite done sender job page
WriteStopped done other = ⊥

-- the job was printed, its input refused, one of its pages went past a cap, or memory ran out
pub record HasPlainStatus (ran : Ran) : Type 0 where
  pub is : (ran.status ≡ 0) ⊎ ((ran.status ≡ 3) ⊎ ((ran.status ≡ 6) ⊎ (ran.status ≡ 7)))

-- the answer to jobs of which none failed in a write
abbrev pub AnswersJobs : List Ran → SpoolAnswer → Type 0
AnswersJobs done answer.Done = All (λ ran. ran.status ≡ 0) done
AnswersJobs done (answer.Failed count) =
    All (λ ran. (ran.status ≢ 5) × (ran.status ≢ 7)) done × (1 ≤ count) × (count ≡ count_by is_refused done)
AnswersJobs done answer.Memory = 1 ≤ count_by (λ (ran : Ran). ran.status == 7) done
AnswersJobs done other = ⊥

-- The answer after all files were read: what was printed of them.
abbrev pub PrintingOutcome : Printer → Screening → List (List Stream) → Outside → Meters → List Ran → SpoolAnswer → Type 0
PrintingOutcome p k sent out meters done answer.Done =
    PrintsEvery p k sent done (at_call out meters) (at_return out meters) × AnswersJobs done answer.Done
PrintingOutcome p k sent out meters done (answer.Failed count) =
    PrintsEvery p k sent done (at_call out meters) (at_return out meters) × AnswersJobs done (answer.Failed count)
PrintingOutcome p k sent out meters done (answer.Write sender job page) =
    HasRisen out × PrintsFirst p k sent done (at_call out meters) (at_return out meters)
    × StopsAtWrite done sender job page
PrintingOutcome p k sent out meters done answer.Memory =
    PrintsNone out meters done
    ⊎ (PrintsEvery p k sent done (at_call out meters) (at_return out meters) × All (λ ran. ran.status ≢ 5) done
    × AnswersJobs done answer.Memory)
PrintingOutcome p k sent out meters done other = ⊥

-- why there is no profile of this name, and the answer
abbrev pub ProfileOutcome : List ℕ → Texts → SpoolAnswer → Type 0
ProfileOutcome name shelf (answer.Profile line cause) = IsJobProfile shelf.told name (Err (refused_at line cause))
ProfileOutcome name shelf answer.Read = HasFailed shelf × (built_in name ≡ None)
ProfileOutcome name shelf answer.Memory = built_in name ≡ None
ProfileOutcome name shelf other = ⊥

-- There is a profile, but not all files were read.
pub record WithoutFiles (words : List (List ℕ)) (o : SpoolOutside) (done : List Ran) (a : SpoolAnswer) : Type 0 where
  pub p : Printer
  pub profile : IsJobProfile o.shelf.told (profile_named words) (Ok p)
  pub stopped : FilesOutcome (names_of words) o.shelf a
  pub none : PrintsNone o.out o.meters done

-- There are a profile and all files, and they were printed.
pub record WithFiles (words : List (List ℕ)) (request : SpoolRequest) (o : SpoolOutside) (done : List Ran) (a : SpoolAnswer) : Type 0 where
  pub p : Printer
  pub profile : IsJobProfile o.shelf.told (profile_named words) (Ok p)
  pub sent : List (List Stream)
  pub files : AreFiles o.shelf.told (names_of words) sent
  pub printed : PrintingOutcome p (screening_of request.kernel request.grain) sent o.out o.meters done a

-- The outcome of the words: refused ones, no profile, a file that is not read, or what was printed.
abbrev pub RequestOutcome : Result SpoolRequest SpoolFault → List (List ℕ) → SpoolOutside → List Ran → SpoolAnswer → Type 0
RequestOutcome (Err fault) words o done a = (a ≡ answer.Usage fault) × PrintsNone o.out o.meters done
RequestOutcome (Ok request) words o done a =
    (ProfileOutcome (profile_named words) o.shelf a × PrintsNone o.out o.meters done)
    ⊎ (WithoutFiles words o done a ⊎ WithFiles words request o done a)

abbrev pub SpoolOutcome : List (List ℕ) → SpoolOutside → List Ran → SpoolAnswer → Type 0
SpoolOutcome words o done a = RequestOutcome (spool_meaning words) words o done a
