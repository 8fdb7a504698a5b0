use Rattle.finish_laws.proofs.PrintedJobs.{printed-front}
use Rattle.finish_laws.proofs.fronts.a_cut_print_ends_its_page.Goals as goal

pub returns : goal.returns
returns c = printed-front
