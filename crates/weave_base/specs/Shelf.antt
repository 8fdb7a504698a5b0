-- Texts by their names, and what a read of one answers.
use Rattle.std.specs.Prelude.{◌≡◌, ℕ, ◌<◌, ◌≤◌, ◌==◌, Bool, true, false, not, ◌&&◌, List, [], ◌∷◌, length, find, Option, Some, None, Result, Ok, Err, vec_len}
use Rattle.std.specs.List.{list_any}
use Rattle.std.specs.Option.{option_map, IsSomeAnd}
use Rattle.std.specs.Str.{bytes_eq}
use Rattle.weave_base.specs.Causes.{Rose}
use Rattle.weave_base.specs.declared.shelf.Found.{Found}
use Rattle.weave_base.specs.declared.shelf.Found.TheVariants as found
use Rattle.weave_base.specs.declared.shelf.ShelfStop.{ShelfStop}
use Rattle.weave_base.specs.declared.shelf.ShelfStop.TheVariants as stop

-- A text of a shelf: its name, and its bytes.
pub record NamedText : Type 0 where
  pub name : List ℕ
  pub bytes : List ℕ

-- the bytes of the first text of this name
unfoldable pub text_named : List ℕ → List NamedText → Option (List ℕ)
text_named name files = option_map (λ f. f.bytes) (find (λ f. bytes_eq f.name name) files)

-- what a read of at most `most` bytes answers where these are the bytes of the name, or there is none
abbrev pub AnswersRead : Option (List ℕ) → ℕ → Found → Type 0
AnswersRead held most (found.Text text) = held ≡ Some text.items
AnswersRead held most found.Absent = held ≡ None
AnswersRead held most found.TooLong = IsSomeAnd held (λ bytes. most < length bytes)

-- the same of the text of this name, where the shelf says what it holds
abbrev pub Finds : Option (List NamedText) → List ℕ → ℕ → Found → Type 0
Finds None name most answer = Unit {0}
Finds (Some files) name most answer = AnswersRead (text_named name files) most answer

-- a text that is given has at most `most` bytes
abbrev pub IsWithin : ℕ → Found → Type 0
IsWithin most (found.Text text) = vec_len text ≤ most
IsWithin most found.Absent = Unit {0}
IsWithin most found.TooLong = Unit {0}

-- a full stop
abbrev pub dot : ℕ
dot = 46

-- a slash
abbrev pub slash : ℕ
slash = 47

-- whether a name may be that of a file of a folder: it is not empty, neither `.` nor `..`, and has no `/`
abbrev pub is_file_name : List ℕ → Bool
is_file_name name =
    not (length name == 0) && (not (bytes_eq name (dot ∷ []))
    && (not (bytes_eq name (dot ∷ dot ∷ [])) && not (list_any (λ b. b == slash) name)))

-- whether the shelf failed
abbrev pub is_failed : {T : Type 0} → Result T ShelfStop → Bool
is_failed (Ok answer) = false
is_failed (Err stop.Failed) = true
is_failed (Err stop.Memory) = false

-- The count of faults never falls, and `Failed` comes only where it rose. `Memory` is no fault.
pub record StopHasCause {T : Type 0} (before now : ℕ) (result : Result T ShelfStop) : Type 0 where
  pub later : before ≤ now
  pub failed : result ≡ Err stop.Failed → Rose before now
