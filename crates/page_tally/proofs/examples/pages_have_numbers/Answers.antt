use Rattle.std.proofs.Common.{refl}
use Rattle.std.specs.Fmt.{digits}
use Rattle.escp2_definitions.specs.Commands.{command_at, commands_from}
use Rattle.escp2_definitions.specs.Machine.{rows_dots}
use Rattle.escp2_definitions.specs.RowCode.{row_at, rows_at}
use Rattle.job_lister.specs.Listing.{dot_count}
use Rattle.page_tally.proofs.examples.pages_have_numbers.Goals as goal

pub returns-clause-jobs : goal.returns-clause-jobs
unfolding digits command_at commands_from rows_dots row_at rows_at dot_count
returns-clause-jobs c = refl

pub returns-clause-inks : goal.returns-clause-inks
unfolding digits command_at commands_from rows_dots row_at rows_at dot_count
returns-clause-inks c = refl
