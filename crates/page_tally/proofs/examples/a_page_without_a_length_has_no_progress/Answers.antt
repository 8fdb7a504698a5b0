use Rattle.std.proofs.Common.{refl}
use Rattle.std.specs.Fmt.{digits}
use Rattle.escp2_definitions.specs.Commands.{command_at, commands_from}
use Rattle.escp2_definitions.specs.Machine.{rows_dots}
use Rattle.escp2_definitions.specs.RowCode.{row_at, rows_at}
use Rattle.job_lister.specs.Listing.{dot_count}
use Rattle.page_tally.proofs.examples.a_page_without_a_length_has_no_progress.Goals as goal

pub returns : goal.returns
unfolding digits command_at commands_from rows_dots row_at rows_at dot_count
returns c = refl
