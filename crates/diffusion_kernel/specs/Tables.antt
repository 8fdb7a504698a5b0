-- The kernels' tables, and their entries as a list.
use Rattle.std.specs.Prelude.{ℕ, ℤ, pos, negsuc, ◌+ℤ◌, ◌==◌, List, [], ◌∷◌, ◌++◌, if◌then◌else◌}
use Rattle.diffusion_definitions.specs.Diffusion.{Table, floyd, jarvis, stucki}
use Rattle.diffusion_kernel.specs.declared.tables.Kernel.{Kernel}
use Rattle.diffusion_kernel.specs.declared.tables.Kernel.TheVariants.{Floyd, Jarvis, Stucki}
use Rattle.diffusion_kernel.specs.declared.tables.Shares.{Shares}
use Rattle.diffusion_kernel.specs.declared.tables.Weight.{Weight}

-- the published table of a kernel
abbrev pub table_of : Kernel → Table
table_of Floyd = floyd
table_of Jarvis = jarvis
table_of Stucki = stucki

-- the table that these shares are
abbrev pub table_from : Shares → Table
table_from s = record { right = s.right; below = s.below; below2 = s.below2 }

-- the shares of one row from place dx on, without those that are 0
abbrev pub row_weights : ℤ → ℤ → List ℕ → List Weight
row_weights dx dy [] = []
row_weights dx dy (share ∷ shares) =
    let more : List Weight = row_weights (dx +ℤ pos 1) dy shares in
    if share == 0 then more else (record { dx = dx; dy = dy; share = share } ∷ more)

-- the shares of a table: those of the pixel's own row, then those of the rows below, each from dx = -2 on
abbrev pub weights_of : Table → List Weight
weights_of k = row_weights (pos 1) (pos 0) k.right ++ (row_weights (negsuc 1) (pos 1) k.below ++ row_weights (negsuc 1) (pos 2) k.below2)
