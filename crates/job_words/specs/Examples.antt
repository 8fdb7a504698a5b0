-- Jobs of command lines that give few keys.
use Rattle.std.specs.Prelude.{None, false, []}
use Rattle.diffusion_kernel.specs.declared.tables.Kernel.TheVariants.{Floyd}
use Rattle.pwg_definitions.specs.declared.pages.Kind.TheVariants.{Gray8}
use Rattle.job_words.specs.declared.reading.Job.{Job}
use Rattle.job_words.specs.declared.table.Verb.{Verb}

-- the job of a command without keys
abbrev pub plain_job : Verb → Job
plain_job verb = record {
  verb = verb;
  profile_word = 0;
  kernel = Floyd;
  grain = 0;
  workers = 1;
  cap = None;
  most = 17179869184;
  shingle = false;
  dead = record { items = [] };
  seed = 1;
  pages = 1;
  width = 256;
  height = 300;
  kind = Gray8;
}
