-- The kernels' tables have as many shares as printed ones.
use Rattle.std.proofs.Common.{◌≡◌, ◌<◌, length, lit<, refl}
use Rattle.diffusion_definitions.specs.Diffusion.{Table, divisor}
use Rattle.diffusion_kernel.specs.Tables.{table_of}
use Rattle.diffusion_kernel.specs.declared.tables.Kernel.{Kernel}
use Rattle.diffusion_kernel.specs.declared.tables.Kernel.TheVariants.{Floyd, Jarvis, Stucki}

pub record IsPrinted (k : Table) : Type 0 where
  pub right : length k.right ≡ 2
  pub below : length k.below ≡ 5
  pub below2 : length k.below2 ≡ 5
  pub some : 0 < divisor k

pub printed : (k : Kernel) → IsPrinted (table_of k)
printed Floyd = record { right = refl; below = refl; below2 = refl; some = lit< tt }
printed Jarvis = record { right = refl; below = refl; below2 = refl; some = lit< tt }
printed Stucki = record { right = refl; below = refl; below2 = refl; some = lit< tt }
