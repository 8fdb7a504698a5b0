-- How the pages of a stream are printed, and whether they can be.
use Rattle.std.specs.Prelude.{◌≤◌, IsOk}
use Rattle.driver_core.specs.declared.print.setup.PrintSetup.{PrintSetup}
use Rattle.driver_core.specs.Runs.Fitting.{way_of}
use Rattle.job_words.specs.declared.reading.Job.{Job}
use Rattle.page_definitions.specs.Ways.{CanGo}
use Rattle.printer_definitions.specs.Printer.{Printer}
use Rattle.printer_profile.specs.Validity.{check}

-- how a job prints by a profile
abbrev pub setup_of : Job → Printer → PrintSetup
setup_of job p = record {
  profile = p;
  kernel = job.kernel;
  grain = job.grain;
  way = way_of job;
  workers = job.workers;
}

-- Pages can be printed so: by a profile that passes its checks, by 1 to 64 workers, and by a head that can go its way.
pub record CanBePrinted (how : PrintSetup) : Type 0 where
  pub checked : IsOk (check how.profile)
  pub some_workers : 1 ≤ how.workers
  pub most_workers : how.workers ≤ 64
  pub way : CanGo how.way how.profile
