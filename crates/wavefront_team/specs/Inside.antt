-- The invariant of the dots so far.
use Rattle.std.specs.Prelude.{◌≡◌, Some}
use Rattle.wavefront_team.specs.SoFar.{CanBeLaid, SoFar}
use Rattle.wavefront_team.specs.declared.so_far.DotsSoFar.TheInside.{Inside}
use Rattle.wavefront_team.specs.declared.waiting.Waiting.{Waiting}

abbrev pub so_far : Inside → SoFar
so_far d = record { planes = d.planes; waiting = d.waiting }

-- a slab that waits fits the planes
abbrev pub AllFit : Inside → Type 0
AllFit d = (w : Waiting) → d.waiting ≡ Some w → CanBeLaid d.planes w
