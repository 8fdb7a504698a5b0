-- The margins of a page.
use Rattle.std.specs.Prelude.{ℕ, Option, Some, None}
use Rattle.escp2_definitions.specs.Machine.{PageMargins}
use Rattle.dot_emulator.specs.declared.state.Margins.{Margins}

abbrev pub margins_of : Option Margins → Option PageMargins
margins_of None = None
margins_of (Some margins) = Some (record { top = margins.top; bottom = margins.bottom })

-- the top margin; 0 where it is not set
abbrev pub top_of : Option Margins → ℕ
top_of None = 0
top_of (Some margins) = margins.top

-- the bottom margin, or `n` where it is not set
abbrev pub bottom_or : ℕ → Option Margins → ℕ
bottom_or n None = n
bottom_or n (Some margins) = margins.bottom
