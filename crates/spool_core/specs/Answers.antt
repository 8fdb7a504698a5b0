-- The exit status and the lines of a run of the spool.
use Rattle.std.specs.Prelude.{ℕ, List, [], ◌++◌, ◌⊎◌, codes}
use Rattle.std.specs.Fmt.{decimal}
use Rattle.std.specs.List.{flat_map}
use Rattle.std.specs.Io.KnownBytes.{Appends}
use Rattle.buffered_bytes.specs.Outside.{HasRisen, Outside}
use Rattle.driver_answer.specs.Answers.{line_of, usage_line}
use Rattle.driver_answer.specs.declared.answer.Answer.TheVariants as print
use Rattle.spool_core.specs.declared.answer.SpoolAnswer.{SpoolAnswer}
use Rattle.spool_core.specs.declared.answer.SpoolAnswer.TheVariants as answer
use Rattle.spool_core.specs.declared.files.FileCause.{FileCause}
use Rattle.spool_core.specs.declared.files.FileCause.TheVariants as file
use Rattle.spool_core.specs.declared.report.Ran.{Ran}
use Rattle.spool_words.specs.declared.faults.SpoolCause.{SpoolCause}
use Rattle.spool_words.specs.declared.faults.SpoolCause.TheVariants as usage
use Rattle.weave_base.specs.Parts.{AppendsPart}

abbrev pub spool_status : SpoolAnswer → ℕ
spool_status answer.Done = 0
spool_status (answer.Usage fault) = 1
spool_status (answer.Profile line cause) = 2
spool_status (answer.File sender job cause) = 3
spool_status answer.Read = 4
spool_status (answer.ReadFile sender job) = 4
spool_status (answer.Write sender job page) = 5
spool_status answer.Memory = 7
spool_status (answer.Failed count) = 9

-- a cause is printed by its name
abbrev pub usage_name : SpoolCause → List ℕ
usage_name usage.NotKeyValue = codes "NotKeyValue"
usage_name usage.UnknownKey = codes "UnknownKey"
usage_name usage.RepeatedKey = codes "RepeatedKey"
usage_name usage.BadValue = codes "BadValue"
usage_name usage.NoSend = codes "NoSend"

abbrev pub file_name : FileCause → List ℕ
file_name file.Absent = codes "Absent"
file_name file.TooLong = codes "TooLong"

-- the line of an answer, that of `print` where it has the same answer; none where every job was printed
abbrev pub spool_line : SpoolAnswer → List ℕ
spool_line answer.Done = []
spool_line (answer.Usage fault) = usage_line fault.word (usage_name fault.cause)
spool_line (answer.Profile line cause) = line_of (print.Profile line cause)
spool_line (answer.File sender job cause) =
    codes "file: sender " ++ decimal sender ++ codes " job " ++ decimal job ++ codes ": " ++ file_name cause ++ codes "\n"
spool_line answer.Read = line_of print.Read
spool_line (answer.ReadFile sender job) = line_of print.Read
spool_line (answer.Write sender job page) =
    codes "write failed: sender " ++ decimal sender ++ codes " job " ++ decimal job ++ codes " page " ++ decimal page ++ codes "\n"
spool_line answer.Memory = line_of print.Memory
spool_line (answer.Failed count) = codes "jobs failed: " ++ decimal count ++ codes "\n"

-- the line of a job that ran
abbrev pub report_line : Ran → List ℕ
report_line ran =
    codes "job " ++ decimal ran.sender ++ codes "." ++ decimal ran.number ++ codes ": status " ++ decimal ran.status ++ codes ", pages "
    ++ decimal ran.pages ++ codes "\n"

-- the lines of the jobs that ran, in their order
abbrev pub report_lines : List Ran → List ℕ
report_lines done = flat_map report_line done

-- all that is told: a line for each job that ran, in order, and then that of the answer
abbrev pub spool_text : List Ran → SpoolAnswer → List ℕ
spool_text done a = report_lines done ++ spool_line a

-- the error sink got all these bytes, or a proper prefix of them, and its count of faults rose
abbrev pub IsReported : Outside → List ℕ → Type 0
IsReported err bytes = Appends err.before err.now bytes ⊎ (HasRisen err × AppendsPart err.before err.now bytes)
