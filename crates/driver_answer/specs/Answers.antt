-- The exit status and the error line of each answer.
use Rattle.std.specs.Prelude.{ℕ, List, [], ◌++◌, codes}
use Rattle.std.specs.Fmt.{decimal}
use Rattle.job_words.specs.declared.usage.UsageCause.{UsageCause}
use Rattle.job_words.specs.declared.usage.UsageCause.TheVariants as usage
use Rattle.dead_nozzles.specs.declared.checking.DeadFault.{DeadFault}
use Rattle.dead_nozzles.specs.declared.checking.DeadFault.TheVariants as dead
use Rattle.driver_answer.specs.declared.answer.Answer.{Answer}
use Rattle.driver_answer.specs.declared.answer.Answer.TheVariants as answer
use Rattle.escp2_definitions.specs.declared.stops.EmulatorFault.{EmulatorFault}
use Rattle.escp2_definitions.specs.declared.stops.EmulatorFault.TheVariants as machine
use Rattle.escp2_definitions.specs.declared.stops.JobCause.{JobCause}
use Rattle.escp2_definitions.specs.declared.stops.JobCause.TheVariants as reader
use Rattle.escp2_definitions.specs.declared.stops.JobStop.{JobStop}
use Rattle.escp2_definitions.specs.declared.stops.JobStop.TheVariants as job
use Rattle.job_profile.specs.declared.stops.ProfileCause.{ProfileCause}
use Rattle.job_profile.specs.declared.stops.ProfileCause.TheVariants as profile
use Rattle.printer_profile.specs.declared.reading.TextCause.{TextCause}
use Rattle.printer_profile.specs.declared.reading.TextCause.TheVariants as text
use Rattle.printer_profile.specs.declared.validity.ProfileFault.{ProfileFault}
use Rattle.printer_profile.specs.declared.validity.ProfileFault.TheVariants as check
use Rattle.printer_profile.specs.Keys.{name_at}
use Rattle.pwg_definitions.specs.declared.faults.HeaderFault.{HeaderFault}
use Rattle.pwg_definitions.specs.declared.faults.HeaderFault.TheVariants as header
use Rattle.pwg_definitions.specs.declared.faults.LineFault.{LineFault}
use Rattle.pwg_definitions.specs.declared.faults.LineFault.TheVariants as line
use Rattle.pwg_definitions.specs.declared.faults.InputCause.{InputCause}
use Rattle.pwg_definitions.specs.declared.faults.InputCause.TheVariants as input

-- the exit status of an answer
abbrev pub status_of : Answer → ℕ
status_of answer.Done = 0
status_of (answer.Usage fault) = 1
status_of (answer.Profile line cause) = 2
status_of (answer.Input page line cause) = 3
status_of answer.Read = 4
status_of (answer.Write page) = 5
status_of (answer.OverCap page total dots cap) = 6
status_of answer.Memory = 7
status_of (answer.Job offset cause) = 8

-- a cause is printed by its name
abbrev pub usage_name : UsageCause → List ℕ
usage_name usage.NoCommand = codes "NoCommand"
usage_name usage.UnknownCommand = codes "UnknownCommand"
usage_name usage.NotKeyValue = codes "NotKeyValue"
usage_name usage.UnknownKey = codes "UnknownKey"
usage_name usage.RepeatedKey = codes "RepeatedKey"
usage_name usage.BadValue = codes "BadValue"
usage_name usage.Together = codes "Together"

abbrev pub header_name : HeaderFault → List ℕ
header_name header.NotPwg = codes "NotPwg"
header_name header.Resolution = codes "Resolution"
header_name header.Width = codes "Width"
header_name header.Height = codes "Height"
header_name header.Kind = codes "Kind"
header_name header.BytesPerLine = codes "BytesPerLine"
header_name header.Order = codes "Order"
header_name header.Transform = codes "Transform"

abbrev pub line_name : LineFault → List ℕ
line_name line.RunPastLine = codes "RunPastLine"
line_name line.GroupPastPage = codes "GroupPastPage"

abbrev pub input_name : InputCause → List ℕ
input_name input.BadSync = codes "BadSync"
input_name input.Truncated = codes "Truncated"
input_name input.TooManyPages = codes "TooManyPages"
input_name (input.Header fault) = header_name fault
input_name (input.Line fault) = line_name fault

abbrev pub text_name : TextCause → List ℕ
text_name text.BadHead = codes "BadHead"
text_name text.NotAscii = codes "NotAscii"
text_name text.NoEquals = codes "NoEquals"
text_name text.UnknownKey = codes "UnknownKey"
text_name text.RepeatedKey = codes "RepeatedKey"
text_name text.BadValue = codes "BadValue"
text_name (text.Missing key) = codes "Missing"

abbrev pub check_name : ProfileFault → List ℕ
check_name check.Resolution = codes "Resolution"
check_name check.Nozzles = codes "Nozzles"
check_name check.Pitch = codes "Pitch"
check_name (check.NotCoprime gcd) = codes "NotCoprime"
check_name check.RowStep = codes "RowStep"
check_name (check.TopMargin needs) = codes "TopMargin"
check_name check.BlackStart = codes "BlackStart"
check_name (check.Curve ink) = codes "Curve"

-- what a cause carries follows its name after a blank: a key by its name, a number in decimal
abbrev pub text_words : TextCause → List ℕ
text_words (text.Missing key) = codes "Missing" ++ (codes " " ++ name_at key)
text_words other = text_name other

abbrev pub check_words : ProfileFault → List ℕ
check_words (check.NotCoprime gcd) = codes "NotCoprime" ++ (codes " " ++ decimal gcd)
check_words (check.TopMargin needs) = codes "TopMargin" ++ (codes " " ++ decimal needs)
check_words (check.Curve ink) = codes "Curve" ++ (codes " " ++ decimal ink)
check_words other = check_name other

abbrev pub dead_words : DeadFault → List ℕ
dead_words (dead.NoSuchNozzle nozzle) = codes "NoSuchNozzle" ++ (codes " " ++ decimal nozzle)
dead_words (dead.AllDead nozzles) = codes "AllDead" ++ (codes " " ++ decimal nozzles)

abbrev pub shingle_words : ℕ → ℕ → List ℕ
shingle_words half gcd = codes "NoShingle" ++ (codes " " ++ decimal half) ++ (codes " " ++ decimal gcd)

abbrev pub profile_words : ProfileCause → List ℕ
profile_words profile.Absent = codes "Absent"
profile_words profile.TooLong = codes "TooLong"
profile_words (profile.Text cause) = text_words cause
profile_words (profile.Check fault) = check_words fault
profile_words (profile.Dead fault) = dead_words fault
profile_words (profile.NoShingle half gcd) = shingle_words half gcd

abbrev pub reader_name : JobCause → List ℕ
reader_name reader.Unknown = codes "Unknown"
reader_name reader.BadLength = codes "BadLength"
reader_name reader.BadValue = codes "BadValue"
reader_name reader.RunCode = codes "RunCode"

abbrev pub machine_name : EmulatorFault → List ℕ
machine_name machine.NotGraphics = codes "NotGraphics"
machine_name machine.NoUnit = codes "NoUnit"
machine_name machine.NoMargins = codes "NoMargins"
machine_name machine.Density = codes "Density"
machine_name machine.Rows = codes "Rows"
machine_name machine.Backward = codes "Backward"
machine_name machine.OffGrid = codes "OffGrid"
machine_name machine.OffSheet = codes "OffSheet"
machine_name machine.Overprint = codes "Overprint"

abbrev pub job_name : JobStop → List ℕ
job_name (job.Reader cause) = reader_name cause
job_name job.Cut = codes "Cut"
job_name (job.Machine fault) = machine_name fault
job_name job.TooLong = codes "TooLong"

-- the line of a refused word, by its number and the name of the cause
abbrev pub usage_line : ℕ → List ℕ → List ℕ
usage_line word name = codes "usage: word " ++ decimal word ++ codes ": " ++ name ++ codes "\n"

-- The error line of an answer; a run that did all its work has none.
abbrev pub line_of : Answer → List ℕ
line_of answer.Done = []
line_of (answer.Usage fault) = usage_line fault.word (usage_name fault.cause)
line_of (answer.Profile line cause) = codes "profile: line " ++ decimal line ++ codes ": " ++ profile_words cause ++ codes "\n"
line_of (answer.Input page line cause) =
    codes "input: page " ++ decimal page ++ codes " line " ++ decimal line ++ codes ": " ++ input_name cause ++ codes "\n"
line_of answer.Read = codes "read failed\n"
line_of (answer.Write page) = codes "write failed: page " ++ decimal page ++ codes "\n"
line_of (answer.OverCap page total dots cap) =
    codes "over cap: page " ++ decimal page ++ codes ": total " ++ decimal total ++ codes ", page " ++ decimal dots
    ++ codes ", cap " ++ decimal cap ++ codes "\n"
line_of answer.Memory = codes "out of memory\n"
line_of (answer.Job offset cause) = codes "job: offset " ++ decimal offset ++ codes ": " ++ job_name cause ++ codes "\n"
