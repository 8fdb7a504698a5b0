-- Spelled commands, one after another, are a job of these commands.
use Rattle.std.proofs.Common.{◌≡◌, ℕ, zero, suc, ◌+◌, ◌≤◌, List, [], ◌∷◌, ◌++◌, length, drop, refl, ◌∙◌, ap, arith, length-append}
use Rattle.std.proofs.lemmas.List.{drop_at}
use Rattle.escp2_definitions.specs.declared.command.Command.{Command}
use Rattle.escp2_definitions.specs.declared.command.Command.TheVariants as c
use Rattle.escp2_definitions.specs.Commands.{Entry, Spells, command_at, command_bytes, commands, commands_from, with_entry}
use Rattle.escp2_definitions.specs.Commands.Heard.{One}
use Rattle.escp2_definitions.specs.Commands.ListEnd.{Whole}
use Rattle.escp2_laws.specs.Said.{AllSaid, Said, entries_of, said_bytes}
use Rattle.escp2_laws.proofs.Reading.{command_at-spelled}

-- a command has a byte at least
command_len : (command : Command) → 1 ≤ length (command_bytes command)
command_len c.Init = omega arith
command_len c.Graphics = omega arith
command_len (c.Unit m) = omega arith
command_len (c.MicroWeave n) = omega arith
command_len (c.OneWay n) = omega arith
command_len (c.Length n) = omega arith
command_len (c.Margins top bottom) = omega arith
command_len (c.DownTo n) = omega arith
command_len (c.DownBy n) = omega arith
command_len (c.Across n) = omega arith
command_len c.Return = omega arith
command_len c.Eject = omega arith
command_len (c.Colour ink) = omega arith
command_len (c.Raster header) = omega arith

-- so has its spelling
spelled_len : (command : Command) (rows bytes : List ℕ) → Spells command rows bytes → 1 ≤ length bytes
spelled_len command rows bytes s = omega (arith, ap length s.spelled, length-append (command_bytes command) s.text, command_len command)

-- a job begins with its first command
pub step : (most at : ℕ) (bytes : List ℕ) (command : Command) (rows : List ℕ) (len : ℕ) → command_at bytes ≡ One command rows len
    → commands_from (suc most) at bytes ≡ with_entry (record { at = at; command = command; rows = rows })
    (commands_from most (at + len) (drop len bytes))
unfolding commands_from command_at
step most at [] command rows len e = cc
step most at (b ∷ bytes) command rows len e = cc

-- spelled commands are read one after another
pub commands_from-said : (job : List Said) (most at : ℕ) → AllSaid job → length (said_bytes job) ≤ most
    → commands_from most at (said_bytes job) ≡ record { entries = entries_of at job; end = Whole }
unfolding commands_from
commands_from-said [] most at all fits = refl
commands_from-said (s ∷ job) zero at all fits =
    absurd (omega (arith, spelled_len s.command s.rows s.bytes all.0, length-append s.bytes (said_bytes job)))
commands_from-said (s ∷ job) (suc most) at all fits =
    let bound : length (said_bytes job)
    ≤ most = omega (arith, spelled_len s.command s.rows s.bytes all.0, length-append s.bytes (said_bytes job)) in
    let entry : Entry = record { at = at; command = s.command; rows = s.rows } in
    step most at (s.bytes ++ said_bytes job) s.command s.rows (length s.bytes)
    (command_at-spelled s.command s.rows s.bytes (said_bytes job) all.0)
    ∙ ap (λ bs. with_entry entry (commands_from most (at + length s.bytes) bs)) (drop_at s.bytes (said_bytes job) (length s.bytes) refl)
    ∙ ap (with_entry entry) (commands_from-said job most (at + length s.bytes) all.1 bound)

-- from the beginning of the job
pub commands-said : (job : List Said) → AllSaid job → commands (said_bytes job) ≡ record { entries = entries_of 0 job; end = Whole }
commands-said job all = commands_from-said job (length (said_bytes job)) 0 all (omega arith)
