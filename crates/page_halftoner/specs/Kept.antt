-- The invariants of a halftoner and of its parts.
use Rattle.std.specs.Prelude.{◌≡◌, ℤ, ◌≤◌, Bool, true, false, IsOk, List, [], length, Option, Some, None}
use Rattle.printer_definitions.specs.Inks.{inks_of}
use Rattle.printer_profile.specs.Validity.{check}
use Rattle.pwg_definitions.specs.Header.{IsWanted}
use Rattle.separation_definitions.specs.Windows.{wanted_by, window_of}
use Rattle.separation_definitions.specs.declared.window.Window.{Window}
use Rattle.tile_border.specs.Tops.{IsTopOf}
use Rattle.wavefront_team.specs.SoFar.{dots_in}
use Rattle.ink_separation.specs.Separators.{IsSeparatorOf}
use Rattle.raw_rows.specs.Raw.{table_of as amounts_of}
use Rattle.page_halftoner.specs.Halftones.{Diffusing, Filling, Halftoning, HasRoom, HoldsRows, IsFull, joined}
use Rattle.page_halftoner.specs.declared.diffuser.Diffuser.TheInside.{Inside as DiffuserInside}
use Rattle.page_halftoner.specs.declared.filler.Filler.TheInside.{Inside}
use Rattle.page_halftoner.specs.declared.halftoner.Halftoner.TheInside.{Inside as HalftonerInside}

-- the edges of a top, where there is one
abbrev pub edges_in : Option (List (List (List ℤ))) → List (List (List ℤ))
edges_in None = []
edges_in (Some top) = top

-- there is no top
abbrev pub is_missing : Option (List (List (List ℤ))) → Bool
is_missing None = true
is_missing (Some top) = false

abbrev pub diffusing : DiffuserInside → Diffusing
diffusing d = record {
  kernel = d.kernel;
  grain = d.grain;
  dots = d.dots;
  top = edges_in d.top;
  failed = is_missing d.top;
}

-- The planes have the inks of the grain, and the top, where there is one, is as wide as the planes, and has their inks.
pub record IsDiffusing (d : DiffuserInside) : Type 0 where
  pub inks : d.dots.planes.inks ≡ length (inks_of d.grain.inks)
  pub top_is : (top : List (List (List ℤ))) → d.top ≡ Some top → IsTopOf d.dots.planes.width d.dots.planes.inks top

abbrev pub filling : Inside → Filling
filling h = record { profile = h.profile; form = h.form; count = h.count; first = h.first; slab = amounts_of h.slab }

abbrev pub window_in : Inside → Window
window_in h = window_of h.form h.profile

-- The profile passes its checks, the printer takes the page, and the slab's separator is of both.
pub record IsFilling (h : Inside) : Type 0 where
  pub checked : IsOk (check h.profile)
  pub wanted : IsWanted (wanted_by h.profile) h.form
  pub window_is : h.window ≡ window_in h
  pub separator : IsSeparatorOf h.profile h.form.kind (window_in h) h.slab.separator
  pub few : h.count ≤ h.form.height
  pub rows : HoldsRows (filling h)

abbrev pub halftoning : HalftonerInside → Halftoning
halftoning h = joined h.filler h.diffuser

-- The planes are those of the window, and the slab is not full unless memory ran out.
pub record IsReady (h : HalftonerInside) : Type 0 where
  pub planes : HasRoom h.filler.form h.filler.profile (dots_in h.diffuser.dots)
  pub rows : HoldsRows h.filler
  pub room : h.diffuser.failed ≡ false → IsFull h.filler → ⊥
