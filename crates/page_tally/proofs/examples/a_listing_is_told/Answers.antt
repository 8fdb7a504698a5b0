use Rattle.std.proofs.Common.{refl}
use Rattle.std.specs.Fmt.{digits}
use Rattle.escp2_definitions.specs.Commands.{command_at, commands_from}
use Rattle.escp2_definitions.specs.Machine.{rows_dots}
use Rattle.escp2_definitions.specs.RowCode.{row_at, rows_at}
use Rattle.job_lister.specs.Listing.{dot_count}
use Rattle.page_tally.proofs.examples.a_listing_is_told.Goals as goal

pub returns-clause-pages : goal.returns-clause-pages
unfolding digits command_at commands_from rows_dots row_at rows_at dot_count
returns-clause-pages c = refl

pub returns-clause-progress : goal.returns-clause-progress
unfolding digits command_at commands_from rows_dots row_at rows_at dot_count
returns-clause-progress c = refl

pub returns-clause-both : goal.returns-clause-both
unfolding digits command_at commands_from rows_dots row_at rows_at dot_count
returns-clause-both c = refl
