-- The files of a spool's senders, read one by one in order of sender and number.
use Rattle.std.specs.Prelude.{◌≡◌, ℕ, ◌+◌, ◌-◌, ◌<◌, ◌≤◌, List, [], ◌∷◌, ◌++◌, length, map, min, Option, Some, None, IfSome}
use Rattle.std.specs.List.{flat_map}
use Rattle.driver_core.specs.Outside.{HasFailed, Texts}
use Rattle.spool_core.specs.declared.files.FileCause.{FileCause}
use Rattle.spool_core.specs.declared.files.FileCause.TheVariants as cause
use Rattle.spool_core.specs.declared.answer.SpoolAnswer.{SpoolAnswer}
use Rattle.spool_core.specs.declared.answer.SpoolAnswer.TheVariants as answer
use Rattle.weave_base.specs.Shelf.{NamedText, text_named}

-- the most bytes of a file, and of all files together, where a name that stands twice counts twice
abbrev pub most_file : ℕ
most_file = 268435456

abbrev pub most_files : ℕ
most_files = 2147483648

-- the lists one after another
abbrev pub joined : {A : Type 0} → List (List A) → List A
joined lists = flat_map (λ list. list) lists

-- how many bytes the streams have in all
abbrev pub bytes_in : List (List ℕ) → ℕ
bytes_in [] = 0
bytes_in (stream ∷ streams) = length stream + bytes_in streams

-- the most bytes that the next file may have, after files of so many bytes
abbrev pub most_next : ℕ → ℕ
most_next taken = min most_file (most_files - taken)

-- The shelf, where it says what it holds, has this stream under the name, and it is as long as the next file may be
-- after files of so many bytes.
pub record IsFile (told : Option (List NamedText)) (taken : ℕ) (name stream : List ℕ) : Type 0 where
  pub text : IfSome told (λ files. text_named name files ≡ Some stream)
  pub within : length stream ≤ most_next taken

-- These are the streams of the files of these names, read one after another; files of so many bytes were read before.
abbrev pub HasStreams : Option (List NamedText) → ℕ → List (List ℕ) → List (List ℕ) → Type 0
HasStreams told taken [] [] = Unit {0}
HasStreams told taken (name ∷ names) (stream ∷ streams) =
    IsFile told taken name stream × HasStreams told (taken + length stream) names streams
HasStreams told taken names streams = ⊥

-- These are the streams of all senders, by the names of their files.
pub record AreFiles (told : Option (List NamedText)) (names sent : List (List (List ℕ))) : Type 0 where
  pub senders : map length sent ≡ map length names
  pub streams : HasStreams told 0 (joined names) (joined sent)

-- why a file is refused after files of so many bytes: the shelf has none of its name, or one that is too long
abbrev pub RefusesFile : Option (List NamedText) → ℕ → List ℕ → FileCause → Type 0
RefusesFile told taken name cause.Absent = IfSome told (λ files. text_named name files ≡ None)
RefusesFile told taken name cause.TooLong =
    IfSome told (λ files. (stream : List ℕ) × (text_named name files ≡ Some stream) × (most_next taken < length stream))

-- The files of all jobs before job `job` of sender `sender` were read, one after another, and have these streams; the
-- next is the file of this name.
pub record IsNextFile (told : Option (List NamedText)) (names : List (List (List ℕ))) (sender job : ℕ) : Type 0 where
  pub before : List (List (List ℕ))
  pub first : List (List ℕ)
  pub name : List ℕ
  pub later : List (List ℕ)
  pub after : List (List (List ℕ))
  pub names_are : names ≡ before ++ (first ++ name ∷ later) ∷ after
  pub sender_is : sender ≡ length before + 1
  pub job_is : job ≡ length first + 1
  pub streams : List (List ℕ)
  pub earlier : HasStreams told 0 (joined before ++ first) streams

-- Job `job` of sender `sender` is the first whose file is refused.
pub record IsRefusedFile (told : Option (List NamedText)) (names : List (List (List ℕ))) (sender job : ℕ) (cause : FileCause) : Type 0 where
  pub place : IsNextFile told names sender job
  pub refused : RefusesFile told (bytes_in place.streams) place.name cause

-- why the file of this job is not read, and the answer
abbrev pub StopsAtFile : Texts → ℕ → List ℕ → ℕ → ℕ → SpoolAnswer → Type 0
StopsAtFile shelf taken name sender job (answer.File s n cause) =
    (s ≡ sender) × (n ≡ job) × RefusesFile shelf.told taken name cause
StopsAtFile shelf taken name sender job (answer.ReadFile s n) = (s ≡ sender) × (n ≡ job) × HasFailed shelf
StopsAtFile shelf taken name sender job answer.Memory = Unit {0}
StopsAtFile shelf taken name sender job other = ⊥

-- The same of job `job` of a sender with these names; files of so many bytes were read before those of the sender.
pub record IsNextName (told : Option (List NamedText)) (taken : ℕ) (names : List (List ℕ)) (job : ℕ) : Type 0 where
  pub first : List (List ℕ)
  pub name : List ℕ
  pub later : List (List ℕ)
  pub names_are : names ≡ first ++ name ∷ later
  pub job_is : job ≡ length first + 1
  pub streams : List (List ℕ)
  pub earlier : HasStreams told taken first streams

-- Job `job` of a sender with these names is the first of its files that is refused.
pub record IsRefusedName (told : Option (List NamedText)) (taken : ℕ) (names : List (List ℕ)) (job : ℕ) (cause : FileCause) : Type 0 where
  pub place : IsNextName told taken names job
  pub refused : RefusesFile told (taken + bytes_in place.streams) place.name cause

-- why not all files of a sender are read, and the answer
abbrev pub StopsAtName : Texts → ℕ → List (List ℕ) → ℕ → SpoolAnswer → Type 0
StopsAtName shelf taken names sender (answer.File s job cause) = (s ≡ sender) × IsRefusedName shelf.told taken names job cause
StopsAtName shelf taken names sender (answer.ReadFile s job) =
    (s ≡ sender) × IsNextName shelf.told taken names job × HasFailed shelf
StopsAtName shelf taken names sender answer.Memory = Unit {0}
StopsAtName shelf taken names sender other = ⊥

-- why not all files of all senders are read, and the answer
abbrev pub FilesOutcome : List (List (List ℕ)) → Texts → SpoolAnswer → Type 0
FilesOutcome names shelf (answer.File sender job cause) = IsRefusedFile shelf.told names sender job cause
FilesOutcome names shelf (answer.ReadFile sender job) = IsNextFile shelf.told names sender job × HasFailed shelf
FilesOutcome names shelf answer.Memory = Unit {0}
FilesOutcome names shelf other = ⊥
