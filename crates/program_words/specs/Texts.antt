-- The texts that a program has about itself, and the words that ask for them.
use Rattle.std.specs.Prelude.{ℕ, Bool, ◌||◌, if◌then◌else◌, List, [], ◌∷◌, codes, find, Option, Some, None}
use Rattle.std.specs.Option.{option_map}
use Rattle.std.specs.Str.{bytes_eq}
use Rattle.program_words.specs.declared.causes.CauseText.{CauseText}
use Rattle.program_words.specs.declared.texts.ProgramTexts.{ProgramTexts}

-- whether a word asks for help
abbrev pub asks_for_help : List ℕ → Bool
asks_for_help word = bytes_eq word (codes "--help") || (bytes_eq word (codes "-h") || bytes_eq word (codes "help"))

-- the text of the first cause of a name
abbrev pub text_of_cause : List ℕ → List CauseText → Option (List ℕ)
text_of_cause name causes = option_map (λ cause. cause.text.now) (find (λ cause. bytes_eq cause.name.now name) causes)

abbrev pub text_or : List ℕ → Option (List ℕ) → List ℕ
text_or other None = other
text_or other (Some text) = text

-- the help that the words after a word for help ask for: the text of the cause that the first of them names; the whole
-- help if there is none, or it names no cause
abbrev pub help_on : ProgramTexts → List (List ℕ) → List ℕ
help_on texts [] = texts.help.now
help_on texts (name ∷ words) = text_or texts.help.now (text_of_cause name texts.causes.now)

-- the text that the words of a command line ask for
abbrev pub asked_text : ProgramTexts → List (List ℕ) → Option (List ℕ)
asked_text texts [] = None
asked_text texts (word ∷ words) =
    if asks_for_help word then Some (help_on texts words)
    else if bytes_eq word (codes "--version") then Some texts.version.now
    else None
