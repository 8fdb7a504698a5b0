-- What finishing does to the commands of a job.
use Rattle.std.proofs.Common.{◌≡◌, ℕ, ◌+◌, List, [], ◌∷◌, ◌++◌, length, refl, sym, ◌∙◌, ap, arith, append-nil}
use Rattle.escp2_definitions.specs.declared.command.Command.{Command}
use Rattle.escp2_definitions.specs.declared.command.Command.TheVariants as c
use Rattle.escp2_definitions.specs.Commands.{CommandList, Entry, command_at, commands, commands_from}
use Rattle.escp2_definitions.specs.Commands.ListEnd.{Whole}
use Rattle.finish_definitions.specs.Finished.{ending_bytes, finished, page_after, page_from, page_state, whole_commands}
use Rattle.finish_definitions.specs.declared.state.PageState.{PageState}
use Rattle.finish_definitions.specs.declared.state.PageState.TheVariants.{Between, Begun, Open, Ejected}
use Rattle.finish_definitions.proofs.WholeCommands.{behind, read_from, whole-before}
use Rattle.finish_laws.proofs.WholeCommands.{whole-all}

-- ---- the commands that end a page

-- a command without rows at a place
abbrev pub entry_at : ℕ → Command → Entry
entry_at at command = record { at = at; command = command; rows = [] }

-- the commands that end a page, from a place on
abbrev pub ending_entries : PageState → ℕ → List Entry
ending_entries Between at = []
ending_entries Begun at = entry_at at c.Init ∷ []
ending_entries Open at = entry_at at c.Eject ∷ entry_at (at + 1) c.Init ∷ []
ending_entries Ejected at = entry_at at c.Init ∷ []

-- Their bytes are read as these commands.
ending-read : (state : PageState) (at : ℕ) → read_from at (ending_bytes state) ≡ record { entries = ending_entries state at; end = Whole }
unfolding commands_from command_at
ending-read Between at = refl
ending-read Begun at = refl
ending-read Open at = refl
ending-read Ejected at = refl

-- They end between pages.
ending-ends : (state : PageState) (at : ℕ) → page_from state (ending_entries state at) ≡ Between
ending-ends Between at = refl
ending-ends Begun at = refl
ending-ends Open at = refl
ending-ends Ejected at = refl

-- ---- a finished job

-- the commands that end the last page of bytes
abbrev pub added : List ℕ → List Entry
added bytes = ending_entries (page_state bytes) (length (whole_commands bytes))

-- A finished job has the whole commands of the bytes, and then those that end the page.
pub finished-read : (bytes : List ℕ) → commands (finished bytes) ≡ record { entries = (commands bytes).entries ++ added bytes; end = Whole }
finished-read bytes =
    whole-before bytes (ending_bytes (page_state bytes))
    ∙ ap (behind (commands bytes).entries) (ending-read (page_state bytes) (length (whole_commands bytes)))

-- the state of a page after some commands and then others
page_from-append : (state : PageState) (some others : List Entry)
    → page_from state (some ++ others) ≡ page_from (page_from state some) others
page_from-append state [] others = refl
page_from-append state (entry ∷ some) others = page_from-append (page_after state entry.command) some others

-- It ends with its last byte.
pub finished-whole : (bytes : List ℕ) → (commands (finished bytes)).end ≡ Whole
finished-whole bytes = ap (λ (l : CommandList). l.end) (finished-read bytes)

-- It ends between pages.
pub finished-between : (bytes : List ℕ) → page_state (finished bytes) ≡ Between
finished-between bytes =
    ap (λ (l : CommandList). page_from Between l.entries) (finished-read bytes)
    ∙ page_from-append Between (commands bytes).entries (added bytes)
    ∙ ending-ends (page_state bytes) (length (whole_commands bytes))

-- ---- what stays

-- A job of whole commands that ends between pages stays as it is.
pub whole-stays : (bytes : List ℕ) → (commands bytes).end ≡ Whole → page_state bytes ≡ Between → finished bytes ≡ bytes
whole-stays bytes whole between =
    ap (λ state. whole_commands bytes ++ ending_bytes state) between
    ∙ append-nil (whole_commands bytes)
    ∙ whole-all (length bytes) 0 bytes (omega arith) whole

-- So does a finished job.
pub finished-stays : (bytes : List ℕ) → finished (finished bytes) ≡ finished bytes
finished-stays bytes = whole-stays (finished bytes) (finished-whole bytes) (finished-between bytes)

-- The whole commands of bytes are read as the commands of the bytes.
pub whole-same : (bytes : List ℕ) → (commands (whole_commands bytes)).entries ≡ (commands bytes).entries
unfolding commands_from
whole-same bytes =
    ap (λ bs. (commands bs).entries) (sym (append-nil (whole_commands bytes)))
    ∙ ap (λ (l : CommandList). l.entries) (whole-before bytes [])
    ∙ append-nil (commands bytes).entries
