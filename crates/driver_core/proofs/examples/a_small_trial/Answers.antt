use Rattle.std.proofs.Common.{refl}
use Rattle.std.specs.Fmt.{digits}
use Rattle.diffusion_definitions.specs.Diffusion.{errors, row_errors, value}
use Rattle.escp2_definitions.specs.Commands.{command_at, commands_from}
use Rattle.escp2_definitions.specs.Least.{cost_from, costs, equal_at, least, least_packet, least_row, literals, packets_at, packets_from, runs}
use Rattle.escp2_definitions.specs.RowCode.{row_at, rows_at}
use Rattle.ink_meter.specs.Counts.{page_dots}
use Rattle.page_definitions.specs.PageBytes.{halftone_bytes}
use Rattle.page_definitions.specs.Ways.{page_bytes_by}
use Rattle.page_maker.specs.Made.{draw, drawn, groups_of_pages, line_repeats, made_groups, made_line, made_pages, next_state, run_length, state_after}
use Rattle.driver_core.proofs.examples.a_small_trial.Goals as goal

pub returns-clause-line : goal.returns-clause-line
unfolding digits errors row_errors value command_at commands_from cost_from costs equal_at least least_packet least_row literals packets_at packets_from runs
    row_at rows_at page_dots halftone_bytes page_bytes_by
    draw drawn groups_of_pages line_repeats made_groups made_line made_pages next_state run_length state_after
returns-clause-line c = refl
