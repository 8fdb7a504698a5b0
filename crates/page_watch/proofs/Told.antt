-- The lines of commands one after another.
use Rattle.std.proofs.Common.{◌≡◌, ℕ, ◌+◌, ◌-◌, ◌*◌, ◌/◌, ◌≤◌, ◌==◌, min, Bool, true, false, if◌then◌else◌, List, [], ◌∷◌, ◌++◌}
use Rattle.std.proofs.Common.{refl, sym, ◌∙◌, ap, arith, append_assoc, append-nil}
use Rattle.std.proofs.lemmas.List.Elements.{All-head, All-tail}
use Rattle.std.proofs.Math.Nat.{zero-div}
use Rattle.std.specs.List.{flat_map}
use Rattle.base_definitions.specs.Counting.{count_from}
use Rattle.escp2_definitions.specs.declared.command.Command.{Command}
use Rattle.escp2_definitions.specs.declared.command.Command.TheVariants as c
use Rattle.escp2_definitions.specs.Commands.{Entry, commands}
use Rattle.page_tally.specs.Lines.{lines_from, lines_of, page_lines, progress_line, tenths}
use Rattle.page_tally.specs.Tallies.{no_tally, tally_after, tally_from}
use Rattle.page_tally.specs.declared.lines.Telling.{Telling}
use Rattle.page_tally.specs.declared.tally.Tally.{Tally}
use Rattle.page_watch.specs.declared.watch.Event.{Event}
use Rattle.page_watch.specs.Watching.{AllQuiet, EndsWith, GrowsQuietly, event_lines, is_due, tally_behind, told}

-- ---- lists of commands

-- the tally after one more command
pub tally_more : (t : Tally) (entries : List Entry) (entry : Entry)
    → tally_from t (entries ++ entry ∷ []) ≡ tally_after (tally_from t entries) entry.command entry.rows
tally_more t [] entry = refl
tally_more t (first ∷ entries) entry = tally_more (tally_after t first.command first.rows) entries entry

-- the lines of commands and others behind them
lines_behind : (telling : Telling) (t : Tally) (entries others : List Entry)
    → lines_from telling t (entries ++ others) ≡ lines_from telling t entries ++ lines_from telling (tally_from t entries) others
lines_behind telling t [] others = refl
lines_behind telling t (entry ∷ entries) others =
    let first : List ℕ = lines_of telling t entry.command entry.rows in
    let next : Tally = tally_after t entry.command entry.rows in
    ap (λ bs. first ++ bs) (lines_behind telling next entries others)
    ∙ sym (append_assoc first (lines_from telling next entries) (lines_from telling (tally_from next entries) others))

-- ---- commands without lines

-- no tenth is passed
none_passed : (t after : Tally) → tenths after ≤ tenths t
    → flat_map (progress_line t) (count_from (tenths t + 1) (tenths after - tenths t)) ≡ []
none_passed t after less =
    let none : tenths after - tenths t ≡ 0 = omega (arith, less) in
    ap (λ n. flat_map (progress_line t) (count_from (tenths t + 1) n)) none

-- a choice between two empty texts
either_none : (b : Bool) (lines : List ℕ) → lines ≡ [] → (if b then lines else []) ≡ []
either_none true lines none = none
either_none false lines none = refl

-- lines that are not asked for
not_asked : (b : Bool) (lines : List ℕ) → b ≡ false → (if b then lines else []) ≡ []
not_asked true lines off = cc
not_asked false lines off = refl

-- a command that is no form feed, and passes no tenth
no_lines : (telling : Telling) (t : Tally) (command : Command) (rows : List ℕ) → tenths (tally_after t command rows) ≤ tenths t
    → page_lines t command ≡ [] → lines_of telling t command rows ≡ []
no_lines telling t command rows less none =
    ap (λ bs. bs ++ (if telling.pages then page_lines t command else [])) (either_none telling.progress _ (none_passed t (tally_after t command rows) less))
    ∙ either_none telling.pages (page_lines t command) none

-- a command that is no form feed, where progress is not told
no_progress : (telling : Telling) (t : Tally) (command : Command) (rows : List ℕ) → telling.progress ≡ false
    → page_lines t command ≡ [] → lines_of telling t command rows ≡ []
no_progress telling t command rows off none =
    ap (λ bs. bs ++ (if telling.pages then page_lines t command else [])) (not_asked telling.progress _ off)
    ∙ either_none telling.pages (page_lines t command) none

-- the head is at the top of a page
at_top : (len : ℕ) → (if len == 0 then 0 else min 10 (10 * (0 + 0) / len)) ≡ 0
at_top len = by_test (len == 0)
  where
    by_test : (b : Bool) → (if b then 0 else min 10 (10 * (0 + 0) / len)) ≡ 0
    by_test true = refl
    by_test false = ap (λ n. min 10 n) (zero-div len)

-- a command that is not of interest
quiet_one : (telling : Telling) (t : Tally) (command : Command) (rows : List ℕ) → is_due telling command ≡ false
    → lines_of telling t command rows ≡ []
quiet_one telling t c.Init rows quiet = cc
quiet_one telling t c.Eject rows quiet = cc
quiet_one telling t (c.Margins top bottom) rows quiet = no_progress telling t (c.Margins top bottom) rows quiet refl
quiet_one telling t (c.DownTo n) rows quiet = no_progress telling t (c.DownTo n) rows quiet refl
quiet_one telling t (c.DownBy n) rows quiet = no_progress telling t (c.DownBy n) rows quiet refl
quiet_one telling t (c.Length n) rows quiet =
    no_lines telling t (c.Length n) rows (omega (arith, at_top (n * t.unit))) refl
quiet_one telling t c.Graphics rows quiet = no_lines telling t c.Graphics rows (omega arith) refl
quiet_one telling t (c.Unit m) rows quiet = no_lines telling t (c.Unit m) rows (omega arith) refl
quiet_one telling t (c.MicroWeave n) rows quiet = no_lines telling t (c.MicroWeave n) rows (omega arith) refl
quiet_one telling t (c.OneWay n) rows quiet = no_lines telling t (c.OneWay n) rows (omega arith) refl
quiet_one telling t (c.Across n) rows quiet = no_lines telling t (c.Across n) rows (omega arith) refl
quiet_one telling t c.Return rows quiet = no_lines telling t c.Return rows (omega arith) refl
quiet_one telling t (c.Colour ink) rows quiet = no_lines telling t (c.Colour ink) rows (omega arith) refl
quiet_one telling t (c.Raster header) rows quiet = no_lines telling t (c.Raster header) rows (omega arith) refl

-- commands none of which is of interest
quiet_all : (telling : Telling) (t : Tally) (entries : List Entry) → AllQuiet telling entries → lines_from telling t entries ≡ []
quiet_all telling t [] quiet = refl
quiet_all telling t (entry ∷ entries) quiet =
    let P : Entry → Type 0 = λ (e : Entry). is_due telling e.command ≡ false in
    ap (λ bs. bs ++ lines_from telling (tally_after t entry.command entry.rows) entries)
    (quiet_one telling t entry.command entry.rows (All-head P entry entries quiet))
    ∙ quiet_all telling (tally_after t entry.command entry.rows) entries (All-tail P entry entries quiet)

-- ---- what is told

-- nothing is told of commands that are not of interest
pub told_quietly : (telling : Telling) (before after : List ℕ) → GrowsQuietly telling before after → told telling after ≡ told telling before
told_quietly telling before after grows =
    let entries : List Entry = (commands before).entries in
    ap (lines_from telling no_tally) grows.grow
    ∙ lines_behind telling no_tally entries grows.between
    ∙ ap (λ bs. lines_from telling no_tally entries ++ bs) (quiet_all telling (tally_from no_tally entries) grows.between grows.quiet)
    ∙ append-nil (lines_from telling no_tally entries)

-- the same, with nothing behind
pub told_none : (telling : Telling) (before after : List ℕ) → GrowsQuietly telling before after
    → told telling after ≡ told telling before ++ []
told_none telling before after grows = told_quietly telling before after grows ∙ sym (append-nil (told telling before))

-- the lines of an event are told
pub told_event : (telling : Telling) (event : Event) (now : Tally) (before after : List ℕ) → now ≡ tally_behind after
    → EndsWith event telling before after
    → told telling after ≡ told telling before ++ event_lines telling event.before now event.command
told_event telling event now before after now_is ends =
    let others : List Entry = (commands before).entries ++ ends.between in
    let t : Tally = tally_from no_tally others in
    let last : Entry = ends.last in
    let next : Tally = tally_after t last.command last.rows in
    let next_is : next ≡ now = sym (now_is ∙ ap (tally_from no_tally) ends.grow ∙ tally_more no_tally others last) in
    let first : List ℕ = told telling before in
    let quiet : lines_from telling no_tally others ≡ first =
    lines_behind telling no_tally (commands before).entries ends.between
    ∙ ap (λ bs. first ++ bs) (quiet_all telling (tally_behind before) ends.between ends.quiet)
    ∙ append-nil first in
    ap (lines_from telling no_tally) ends.grow
    ∙ lines_behind telling no_tally others (last ∷ [])
    ∙ ap (λ bs. bs ++ lines_from telling t (last ∷ [])) quiet
    ∙ ap (λ bs. first ++ bs) (append-nil (lines_of telling t last.command last.rows))
    ∙ ap (λ u. first ++ event_lines telling t u last.command) next_is
    ∙ ap (λ u. first ++ event_lines telling u now last.command) (sym ends.before_is)
    ∙ ap (λ command. first ++ event_lines telling event.before now command) (sym ends.command_is)
