-- The invariant of a definition.
use Rattle.std.specs.Prelude.{◌≡◌, ◌*◌, ◌≤◌, length}
use Rattle.plain_diffusion.specs.Known.{AreDots, AreErrors}
use Rattle.plain_diffusion.specs.declared.definition.Definition.TheInside.{Inside}
use Rattle.plain_diffusion.specs.declared.fills.InkWindow.{InkWindow}

abbrev pub window_of : Inside → InkWindow
window_of d = d.window

-- All errors and dots are known.
pub record IsWhole (d : Inside) : Type 0 where
  pub width : d.window.width ≤ 65535
  pub height : d.window.height ≤ 65535
  pub errors : AreErrors d.window d.errors.items
  pub dots : AreDots d.window d.dots.items
  pub errors_len : length d.errors.items ≡ d.window.height * d.window.width
  pub dots_len : length d.dots.items ≡ d.window.height * d.window.width
