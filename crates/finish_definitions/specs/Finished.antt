-- A print job that was cut: its whole commands, and the commands that end its page.
use Rattle.std.specs.Prelude.{ℕ, zero, suc, Bool, true, false, if◌then◌else◌, List, [], ◌∷◌, ◌++◌, length, take, drop}
use Rattle.std.specs.List.{flat_map}
use Rattle.escp2_definitions.specs.declared.command.Command.{Command}
use Rattle.escp2_definitions.specs.declared.command.Command.TheVariants as c
use Rattle.escp2_definitions.specs.Commands.{Entry, command_at, command_bytes, commands}
use Rattle.escp2_definitions.specs.Commands.Heard.{One, Part, Wrong}
use Rattle.finish_definitions.specs.declared.state.PageState.{PageState}
use Rattle.finish_definitions.specs.declared.state.PageState.TheVariants.{Between, Begun, Open, Ejected}

-- ---- the whole commands at the beginning of bytes

-- The bytes of the whole commands that bytes begin with: up to a command that is cut, or that the table does not have.
-- Each takes a byte at least, so there are at most `most`.
unfoldable pub whole_from : ℕ → List ℕ → List ℕ
whole_from most [] = []
whole_from zero (b ∷ bytes) = []
whole_from (suc most) (b ∷ bytes) = elim (command_at (b ∷ bytes)) [
  | One command rows len ↦ take len (b ∷ bytes) ++ whole_from most (drop len (b ∷ bytes))
  | Part ↦ []
  | Wrong place cause ↦ []
]

-- the whole commands that bytes begin with, as bytes
abbrev pub whole_commands : List ℕ → List ℕ
whole_commands bytes = whole_from (length bytes) bytes

-- ---- where a job stands in its page

-- whether a command moves the paper or fires dots on it
abbrev pub uses_paper : Command → Bool
uses_paper (c.DownTo n) = true
uses_paper (c.DownBy n) = true
uses_paper (c.Raster header) = true
uses_paper other = false

-- after a command that neither begins nor ends a page
abbrev pub goes_on : PageState → Bool → PageState
goes_on Between paper = Begun
goes_on Begun paper = Begun
goes_on Open paper = Open
goes_on Ejected paper = if paper then Open else Ejected

-- After a command: a reset ends a page, a form feed ejects a sheet, a length begins a page anew, and margins open it.
abbrev pub page_after : PageState → Command → PageState
page_after state c.Init = Between
page_after state c.Eject = Ejected
page_after state (c.Margins top bottom) = Open
page_after state (c.Length n) = Begun
page_after state other = goes_on state (uses_paper other)

-- after commands
abbrev pub page_from : PageState → List Entry → PageState
page_from state [] = state
page_from state (entry ∷ entries) = page_from (page_after state entry.command) entries

-- where the whole commands of bytes leave the page
abbrev pub page_state : List ℕ → PageState
page_state bytes = page_from Between (commands bytes).entries

-- ---- the end of a page

-- The commands that end a page: a form feed and a reset for an open page, a reset for one that was begun or ejected.
abbrev pub ending : PageState → List Command
ending Between = []
ending Begun = c.Init ∷ []
ending Open = c.Eject ∷ c.Init ∷ []
ending Ejected = c.Init ∷ []

-- the bytes of these commands
abbrev pub ending_bytes : PageState → List ℕ
ending_bytes state = flat_map command_bytes (ending state)

-- The whole commands of bytes, and then what ends their last page.
abbrev pub finished : List ℕ → List ℕ
finished bytes = whole_commands bytes ++ ending_bytes (page_state bytes)
