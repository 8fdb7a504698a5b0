use Rattle.std.proofs.Common.{refl}
use Rattle.std.specs.Fmt.{digits}
use Rattle.escp2_definitions.specs.Commands.{command_at, commands_from}
use Rattle.escp2_definitions.specs.Machine.{rows_dots}
use Rattle.escp2_definitions.specs.RowCode.{row_at, rows_at}
use Rattle.job_lister.specs.Listing.{dot_count}
use Rattle.page_tally.proofs.examples.a_cut_page_is_told.Goals as goal

pub returns-clause-whole : goal.returns-clause-whole
unfolding digits command_at commands_from rows_dots row_at rows_at dot_count
returns-clause-whole c = refl

pub returns-clause-cut : goal.returns-clause-cut
unfolding digits command_at commands_from rows_dots row_at rows_at dot_count
returns-clause-cut c = refl

pub returns-clause-untold : goal.returns-clause-untold
unfolding digits command_at commands_from rows_dots row_at rows_at dot_count
returns-clause-untold c = refl

pub returns-clause-begun : goal.returns-clause-begun
unfolding digits command_at commands_from rows_dots row_at rows_at dot_count
returns-clause-begun c = refl

pub returns-clause-ejected : goal.returns-clause-ejected
unfolding digits command_at commands_from rows_dots row_at rows_at dot_count
returns-clause-ejected c = refl

pub returns-clause-all : goal.returns-clause-all
unfolding digits command_at commands_from rows_dots row_at rows_at dot_count
returns-clause-all c = refl
