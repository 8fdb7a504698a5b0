-- How a kernel and a grain make dots of amounts.
use Rattle.std.specs.Prelude.{ℕ}
use Rattle.diffusion_kernel.specs.Tables.{table_of}
use Rattle.diffusion_kernel.specs.declared.tables.Kernel.{Kernel}
use Rattle.page_definitions.specs.Dots.{Screening}

-- the screening by the table of a kernel with this grain
abbrev pub screening_of : Kernel → ℕ → Screening
screening_of kernel grain = record { table = table_of kernel; grain = grain }
