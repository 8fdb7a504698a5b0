-- The whole commands at the beginning of bytes, as bytes. They stay whole, whatever follows, and are read as their
-- commands.
use Rattle.std.proofs.Common.{◌≡◌, ℕ, zero, suc, ◌+◌, ◌≤◌, List, [], ◌∷◌, ◌++◌, length, take, drop, refl, sym, ◌∙◌, ap, arith}
use Rattle.std.proofs.Common.{append_assoc, length-append, length-drop}
use Rattle.std.proofs.lemmas.List.{drop_at, length-take-le, take_at}
use Rattle.escp2_definitions.specs.declared.command.Command.{Command}
use Rattle.escp2_definitions.specs.declared.stops.JobCause.{JobCause}
use Rattle.escp2_definitions.specs.Commands.{CommandList, Entry, Heard, command_at, commands, commands_from, with_entry}
use Rattle.escp2_definitions.specs.Commands.Heard.{One, Part, Wrong}
use Rattle.escp2_laws.proofs.Jobs.{step}
use Rattle.escp2_laws.proofs.Stands.{after, first-of, one-len, one-stands}
use Rattle.finish_definitions.specs.Finished.{whole_commands, whole_from}

-- ---- one command

-- what the first command of bytes and those after it are, as bytes
abbrev pub kept : Heard → ℕ → List ℕ → List ℕ
kept (One command rows len) most bytes = take len bytes ++ whole_from most (drop len bytes)
kept Part most bytes = []
kept (Wrong place cause) most bytes = []

-- the whole commands are the first one and those after it
pub kept-of : (most b : ℕ) (bytes : List ℕ) → whole_from (suc most) (b ∷ bytes) ≡ kept (command_at (b ∷ bytes)) most (b ∷ bytes)
unfolding whole_from
kept-of most b bytes = grind (arith, kept)

-- ---- how they are read

-- as many steps as there are bytes are enough
enough : (most more at : ℕ) (bytes : List ℕ) → length bytes ≤ most → length bytes ≤ more
    → commands_from more at bytes ≡ commands_from most at bytes
unfolding commands_from
enough most more at [] few fits = refl
enough zero more at (b ∷ bytes) few fits = absurd (omega arith)
enough (suc most) zero at (b ∷ bytes) few fits = absurd (omega arith)
enough (suc most) (suc more) at (b ∷ bytes) few fits =
    first-of more at b bytes ∙ by_heard (λ more at bytes few fits. enough most more at bytes few fits) (command_at (b ∷ bytes)) refl
    ∙ sym (first-of most at b bytes)
  where
    by_heard : ((more at : ℕ) (bytes : List ℕ) → length bytes ≤ most → length bytes ≤ more
        → commands_from more at bytes ≡ commands_from most at bytes)
        → (h : Heard) → command_at (b ∷ bytes) ≡ h
        → after (command_at (b ∷ bytes)) more at (b ∷ bytes) ≡ after (command_at (b ∷ bytes)) most at (b ∷ bytes)
    by_heard behind (One command rows len) is =
        let sized : (1 ≤ len) × (len ≤ length (b ∷ bytes)) = one-len (b ∷ bytes) command rows len is in
        ap (λ h. after h more at (b ∷ bytes)) is
        ∙ ap (with_entry (record { at = at; command = command; rows = rows }))
        (behind more (at + len) (drop len (b ∷ bytes)) (omega (arith, sized.0, length-drop len (b ∷ bytes)))
        (omega (arith, sized.0, length-drop len (b ∷ bytes))))
        ∙ sym (ap (λ h. after h most at (b ∷ bytes)) is)
    by_heard behind Part is = ap (λ h. after h more at (b ∷ bytes)) is ∙ sym (ap (λ h. after h most at (b ∷ bytes)) is)
    by_heard behind (Wrong k cause) is = ap (λ h. after h more at (b ∷ bytes)) is ∙ sym (ap (λ h. after h most at (b ∷ bytes)) is)

-- these commands, and then those of a list
abbrev pub behind : List Entry → CommandList → CommandList
behind entries list = record { entries = entries ++ list.entries; end = list.end }

-- the commands of bytes from a place on
abbrev pub read_from : ℕ → List ℕ → CommandList
read_from at bytes = commands_from (length bytes) at bytes

-- The whole commands of bytes with others after them are read as the commands of the bytes and then the others.
pub whole-read : (most more at : ℕ) (bytes rest : List ℕ) → length bytes ≤ most → length (whole_from most bytes ++ rest) ≤ more
    → commands_from more at (whole_from most bytes ++ rest)
    ≡ behind (commands_from most at bytes).entries (read_from (at + length (whole_from most bytes)) rest)
unfolding commands_from whole_from
whole-read most more at [] rest few fits =
    let here : at ≡ at + 0 = omega arith in
    enough (length rest) more at rest (omega arith) fits ∙ ap (λ n. read_from n rest) here
whole-read zero more at (b ∷ bytes) rest few fits = absurd (omega arith)
whole-read (suc most) more at (b ∷ bytes) rest few fits =
    let kept_is : whole_from (suc most) (b ∷ bytes) ≡ kept (command_at (b ∷ bytes)) most (b ∷ bytes) = kept-of most b bytes in
    let room : length (kept (command_at (b ∷ bytes)) most (b ∷ bytes) ++ rest)
    ≤ more = omega (arith, fits, ap (λ bs. length (bs ++ rest)) kept_is) in
    ap (λ bs. commands_from more at (bs ++ rest)) kept_is
    ∙ by_heard (λ more at bytes few fits. whole-read most more at bytes rest few fits) (command_at (b ∷ bytes)) more refl room
    ∙ ap (λ (l : CommandList). behind l.entries (read_from (at + length (kept (command_at (b ∷ bytes)) most (b ∷ bytes))) rest))
    (sym (first-of most at b bytes))
    ∙ ap (λ bs. behind (commands_from (suc most) at (b ∷ bytes)).entries (read_from (at + length bs) rest)) (sym kept_is)
  where
    by_heard : ((more at : ℕ) (bytes : List ℕ) → length bytes ≤ most → length (whole_from most bytes ++ rest) ≤ more
        → commands_from more at (whole_from most bytes ++ rest)
        ≡ behind (commands_from most at bytes).entries (read_from (at + length (whole_from most bytes)) rest))
        → (h : Heard) (more : ℕ) → command_at (b ∷ bytes) ≡ h → length (kept h most (b ∷ bytes) ++ rest) ≤ more
        → commands_from more at (kept h most (b ∷ bytes) ++ rest)
        ≡ behind (after h most at (b ∷ bytes)).entries (read_from (at + length (kept h most (b ∷ bytes))) rest)
    by_heard again (One command rows len) zero is room =
        let sized : (1 ≤ len) × (len ≤ length (b ∷ bytes)) = one-len (b ∷ bytes) command rows len is in
        let front : List ℕ = take len (b ∷ bytes) in
        let later : List ℕ = whole_from most (drop len (b ∷ bytes)) in
        let size : length front ≡ len = length-take-le len (b ∷ bytes) sized.1 in
        absurd (omega (arith, sized.0, room, size, length-append (front ++ later) rest, length-append front later))
    by_heard again (One command rows len) (suc more) is room =
        let sized : (1 ≤ len) × (len ≤ length (b ∷ bytes)) = one-len (b ∷ bytes) command rows len is in
        let front : List ℕ = take len (b ∷ bytes) in
        let later : List ℕ = whole_from most (drop len (b ∷ bytes)) in
        let size : length front ≡ len = length-take-le len (b ∷ bytes) sized.1 in
        let entry : Entry = record { at = at; command = command; rows = rows } in
        let others : List Entry = (commands_from most (at + len) (drop len (b ∷ bytes))).entries in
        let place : at + len + length later ≡ at + length (front ++ later) = omega (arith, size, length-append front later) in
        ap (commands_from (suc more) at) (append_assoc front later rest)
        ∙ step more at (front ++ (later ++ rest)) command rows len (one-stands (b ∷ bytes) (later ++ rest) command rows len is)
        ∙ ap (λ bs. with_entry entry (commands_from more (at + len) bs)) (drop_at front (later ++ rest) len size)
        ∙ ap (with_entry entry) (again more (at + len) (drop len (b ∷ bytes))
        (omega (arith, sized.0, few, length-drop len (b ∷ bytes)))
        (omega (arith, sized.0, room, size, length-append (front ++ later) rest, length-append front later, length-append later rest)))
        ∙ ap (λ n. behind (entry ∷ others) (read_from n rest)) place
    by_heard again Part more is room =
        let here : at ≡ at + 0 = omega arith in
        enough (length rest) more at rest (omega arith) room ∙ ap (λ n. read_from n rest) here
    by_heard again (Wrong place cause) more is room =
        let here : at ≡ at + 0 = omega arith in
        enough (length rest) more at rest (omega arith) room ∙ ap (λ n. read_from n rest) here

-- ---- a job

-- The whole commands of a job with bytes after them.
pub whole-before : (bytes rest : List ℕ)
    → commands (whole_commands bytes ++ rest) ≡ behind (commands bytes).entries (read_from (length (whole_commands bytes)) rest)
whole-before bytes rest =
    let place : 0 + length (whole_commands bytes) ≡ length (whole_commands bytes) = omega arith in
    whole-read (length bytes) (length (whole_commands bytes ++ rest)) 0 bytes rest (omega arith) (omega arith)
    ∙ ap (λ n. behind (commands bytes).entries (read_from n rest)) place

-- ---- how they are kept

-- as many steps as there are bytes are enough
whole-enough : (most more : ℕ) (bytes : List ℕ) → length bytes ≤ most → length bytes ≤ more → whole_from more bytes ≡ whole_from most bytes
unfolding whole_from
whole-enough most more [] few fits = refl
whole-enough zero more (b ∷ bytes) few fits = absurd (omega arith)
whole-enough (suc most) zero (b ∷ bytes) few fits = absurd (omega arith)
whole-enough (suc most) (suc more) (b ∷ bytes) few fits =
    kept-of more b bytes ∙ by_heard (λ more bytes few fits. whole-enough most more bytes few fits) (command_at (b ∷ bytes)) refl
    ∙ sym (kept-of most b bytes)
  where
    by_heard : ((more : ℕ) (bytes : List ℕ) → length bytes ≤ most → length bytes ≤ more → whole_from more bytes ≡ whole_from most bytes)
        → (h : Heard) → command_at (b ∷ bytes) ≡ h → kept h more (b ∷ bytes) ≡ kept h most (b ∷ bytes)
    by_heard behind (One command rows len) is =
        let sized : (1 ≤ len) × (len ≤ length (b ∷ bytes)) = one-len (b ∷ bytes) command rows len is in
        ap (λ bs. take len (b ∷ bytes) ++ bs)
        (behind more (drop len (b ∷ bytes)) (omega (arith, sized.0, length-drop len (b ∷ bytes)))
        (omega (arith, sized.0, length-drop len (b ∷ bytes))))
    by_heard behind Part is = refl
    by_heard behind (Wrong k cause) is = refl

-- the whole commands are the first one and those after it
whole-step : (most : ℕ) (bytes : List ℕ) (command : Command) (rows : List ℕ) (len : ℕ) → command_at bytes ≡ One command rows len
    → whole_from (suc most) bytes ≡ take len bytes ++ whole_from most (drop len bytes)
unfolding command_at
whole-step most [] command rows len one = absurd (let no : Part ≡ One command rows len = one in cc)
whole-step most (b ∷ bytes) command rows len one = kept-of most b bytes ∙ ap (λ h. kept h most (b ∷ bytes)) one

-- A command is kept, and what is kept of the bytes after it.
pub whole-first : (bytes rest : List ℕ) (command : Command) (rows : List ℕ)
    → ((more : List ℕ) → command_at (bytes ++ more) ≡ One command rows (length bytes))
    → whole_commands (bytes ++ rest) ≡ bytes ++ whole_commands rest
unfolding command_at
whole-first [] rest command rows whole = absurd (let no : Part ≡ One command rows 0 = whole [] in cc)
whole-first (b ∷ bytes) rest command rows whole =
    let len : ℕ = length (b ∷ bytes) in
    let most : ℕ = length (bytes ++ rest) in
    whole-step most (b ∷ (bytes ++ rest)) command rows len (whole rest)
    ∙ ap (λ bs. bs ++ whole_from most (drop len (b ∷ (bytes ++ rest)))) (take_at (b ∷ bytes) rest len refl)
    ∙ ap (λ bs. (b ∷ bytes) ++ whole_from most bs) (drop_at (b ∷ bytes) rest len refl)
    ∙ ap (λ bs. (b ∷ bytes) ++ bs) (whole-enough (length rest) most rest (omega arith) (omega (arith, length-append bytes rest)))

-- Nothing is kept of a part of a command.
pub whole-part : (bytes : List ℕ) → command_at bytes ≡ Part → whole_commands bytes ≡ []
unfolding whole_from
whole-part [] part = refl
whole-part (b ∷ bytes) part = kept-of (length bytes) b bytes ∙ ap (λ h. kept h (length bytes) (b ∷ bytes)) part

-- Nothing is kept of a fault.
pub whole-wrong : (bytes : List ℕ) (place : ℕ) (cause : JobCause) → command_at bytes ≡ Wrong place cause → whole_commands bytes ≡ []
unfolding whole_from
whole-wrong [] place cause wrong = refl
whole-wrong (b ∷ bytes) place cause wrong = kept-of (length bytes) b bytes ∙ ap (λ h. kept h (length bytes) (b ∷ bytes)) wrong

-- with as many steps as there are bytes
again : (most more : ℕ) (bytes rest : List ℕ) → length bytes ≤ most → length (whole_from most bytes ++ rest) ≤ more
    → whole_from more (whole_from most bytes ++ rest) ≡ whole_from most bytes ++ whole_commands rest
unfolding whole_from
again most more [] rest few fits = whole-enough (length rest) more rest (omega arith) fits
again zero more (b ∷ bytes) rest few fits = absurd (omega arith)
again (suc most) more (b ∷ bytes) rest few fits =
    let kept_is : whole_from (suc most) (b ∷ bytes) ≡ kept (command_at (b ∷ bytes)) most (b ∷ bytes) = kept-of most b bytes in
    let room : length (kept (command_at (b ∷ bytes)) most (b ∷ bytes) ++ rest)
    ≤ more = omega (arith, fits, ap (λ bs. length (bs ++ rest)) kept_is) in
    ap (λ bs. whole_from more (bs ++ rest)) kept_is
    ∙ by_heard (λ more bytes few fits. again most more bytes rest few fits) (command_at (b ∷ bytes)) more refl room
    ∙ ap (λ bs. bs ++ whole_commands rest) (sym kept_is)
  where
    by_heard : ((more : ℕ) (bytes : List ℕ) → length bytes ≤ most → length (whole_from most bytes ++ rest) ≤ more
        → whole_from more (whole_from most bytes ++ rest) ≡ whole_from most bytes ++ whole_commands rest)
        → (h : Heard) (more : ℕ) → command_at (b ∷ bytes) ≡ h → length (kept h most (b ∷ bytes) ++ rest) ≤ more
        → whole_from more (kept h most (b ∷ bytes) ++ rest) ≡ kept h most (b ∷ bytes) ++ whole_commands rest
    by_heard next (One command rows len) zero is room =
        let sized : (1 ≤ len) × (len ≤ length (b ∷ bytes)) = one-len (b ∷ bytes) command rows len is in
        let front : List ℕ = take len (b ∷ bytes) in
        let later : List ℕ = whole_from most (drop len (b ∷ bytes)) in
        let size : length front ≡ len = length-take-le len (b ∷ bytes) sized.1 in
        absurd (omega (arith, sized.0, room, size, length-append (front ++ later) rest, length-append front later))
    by_heard next (One command rows len) (suc more) is room =
        let sized : (1 ≤ len) × (len ≤ length (b ∷ bytes)) = one-len (b ∷ bytes) command rows len is in
        let front : List ℕ = take len (b ∷ bytes) in
        let later : List ℕ = whole_from most (drop len (b ∷ bytes)) in
        let size : length front ≡ len = length-take-le len (b ∷ bytes) sized.1 in
        ap (whole_from (suc more)) (append_assoc front later rest)
        ∙ whole-step more (front ++ (later ++ rest)) command rows len (one-stands (b ∷ bytes) (later ++ rest) command rows len is)
        ∙ ap (λ bs. bs ++ whole_from more (drop len (front ++ (later ++ rest)))) (take_at front (later ++ rest) len size)
        ∙ ap (λ bs. front ++ whole_from more bs) (drop_at front (later ++ rest) len size)
        ∙ ap (λ bs. front ++ bs) (next more (drop len (b ∷ bytes))
        (omega (arith, sized.0, few, length-drop len (b ∷ bytes)))
        (omega (arith, sized.0, room, size, length-append (front ++ later) rest, length-append front later, length-append later rest)))
        ∙ sym (append_assoc front later (whole_commands rest))
    by_heard next Part more is room = whole-enough (length rest) more rest (omega arith) room
    by_heard next (Wrong place cause) more is room = whole-enough (length rest) more rest (omega arith) room

-- The whole commands of bytes are kept, and what is kept of the bytes after them.
pub whole-stays : (bytes rest : List ℕ) → whole_commands (whole_commands bytes ++ rest) ≡ whole_commands bytes ++ whole_commands rest
whole-stays bytes rest = again (length bytes) (length (whole_commands bytes ++ rest)) bytes rest (omega arith) (omega arith)
