-- What words ask for, with its profile and its files.
use Rattle.std.specs.Prelude.{◌≡◌, List, map, ℕ, ◌≤◌, All, length, Ok, Option}
use Rattle.driver_core.specs.Printing.Setup.{CanBePrinted}
use Rattle.driver_core.specs.declared.print.setup.PrintSetup.{PrintSetup}
use Rattle.job_profile.specs.Named.{IsJobProfile}
use Rattle.page_definitions.specs.declared.way.Way.TheVariants.{Woven}
use Rattle.page_halftoner.specs.Screenings.{screening_of}
use Rattle.spool_queue.specs.Jobs.{Stream}
use Rattle.spool_words.specs.Meaning.{names_of, profile_named, spool_meaning}
use Rattle.spool_words.specs.declared.reading.SpoolRequest.{SpoolRequest}
use Rattle.weave_base.specs.Shelf.{NamedText}
use Rattle.spool_core.specs.Files.{AreFiles}
use Rattle.spool_core.specs.declared.preparing.PreparedSpool.{PreparedSpool}

-- Pages of jobs can be printed so, and in interleaved passes.
pub record CanPrintWoven (how : PrintSetup) : Type 0 where
  pub can : CanBePrinted how
  pub way_is : how.way ≡ Woven

-- one to eight senders have one to 64 jobs each
pub record AreFew (sent : List (List Stream)) : Type 0 where
  pub some_senders : 1 ≤ length sent
  pub most_senders : length sent ≤ 8
  pub some_jobs : All (λ list. 1 ≤ length list) sent
  pub most_jobs : All (λ list. length list ≤ 64) sent

-- the streams that the senders are to send
abbrev pub sent_in : PreparedSpool → List (List Stream)
sent_in prepared = map (λ list. list.items) prepared.lists.items

-- This is what the words ask for, by the texts that the shelf tells of.
pub record IsPrepared (words : List (List ℕ)) (told : Option (List NamedText)) (prepared : PreparedSpool) : Type 0 where
  pub request : SpoolRequest
  pub means : spool_meaning words ≡ Ok request
  pub screening_is : screening_of prepared.how.kernel prepared.how.grain ≡ screening_of request.kernel request.grain
  pub workers_is : prepared.how.workers ≡ request.workers
  pub profile_is : IsJobProfile told (profile_named words) (Ok prepared.how.profile)
  pub files : AreFiles told (names_of words) (sent_in prepared)
  pub can : CanPrintWoven prepared.how
  pub few : AreFew (sent_in prepared)
