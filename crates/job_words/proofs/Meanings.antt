-- What a command line means, from what was read of it.
use Rattle.std.proofs.Common.{◌≡◌, ℕ, List, [], ◌∷◌, drop, Some, None, Ok, Err, slice_get, refl, ap, sym}
use Rattle.job_words.specs.declared.usage.UsageCause.TheVariants.{NoCommand, UnknownCommand}
use Rattle.job_words.specs.declared.usage.UsageFault.{UsageFault}
use Rattle.job_words.specs.Table.{CommandRow, command_named}
use Rattle.job_words.specs.Rows.{command_row}
use Rattle.job_words.specs.Meaning.{faults_on, refused, fault_at, job_of, job_unless, job_meaning}
use Rattle.job_words.specs.declared.reading.Job.{Job}
use Rattle.job_words.specs.declared.table.Verb.{Verb}

pub no_words : (words : List (List ℕ)) → words ≡ [] → Err (fault_at 1 NoCommand) ≡ job_meaning words
unfolding job_meaning
no_words words none = rw none refl

pub no_command : (words : List (List ℕ)) (name : List ℕ)
    → slice_get words 0 ≡ Some name → None ≡ command_named name → Err (fault_at 1 UnknownCommand) ≡ job_meaning words
unfolding job_meaning
no_command [] name here none = cc
no_command (first ∷ words) name here none = let same : first ≡ name = cc in rw (same, ← none) refl

first_is : (faults : List UsageFault) (fault : UsageFault) (job : Job)
    → slice_get faults 0 ≡ Some fault → Err fault ≡ job_unless faults job
first_is [] fault job here = cc
first_is (first ∷ faults) fault job here = let same : first ≡ fault = cc in ap Err (sym same)

pub refused_words : (words : List (List ℕ)) (name : List ℕ) (command : CommandRow) (fault : UsageFault)
    → slice_get words 0 ≡ Some name → Some command ≡ command_named name
    → slice_get (refused (faults_on command.keys) (drop 1 words) []) 0 ≡ Some fault → Err fault ≡ job_meaning words
unfolding job_meaning
refused_words [] name command fault here found is = cc
refused_words (first ∷ words) name command fault here found is =
    let same : first ≡ name = cc in rw (same, ← found) (first_is _ fault (job_of command words) is)

pub accepted_words : (words : List (List ℕ)) (name : List ℕ) (verb : Verb) (job : Job)
    → slice_get words 0 ≡ Some name → Some (command_row verb) ≡ command_named name
    → refused (faults_on (command_row verb).keys) (drop 1 words) [] ≡ [] → job ≡ job_of (command_row verb) (drop 1 words)
    → Ok job ≡ job_meaning words
unfolding job_meaning
accepted_words [] name verb job here found none is = cc
accepted_words (first ∷ words) name verb job here found none is =
    let same : first ≡ name = cc in rw (same, ← found, none) (ap Ok is)
