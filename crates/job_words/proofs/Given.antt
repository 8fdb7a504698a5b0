-- What is read of the value that the words give a key.
use Rattle.std.proofs.Common.{◌≡◌, ℕ, List, Option, Some, None, MatchOption, refl, ap, ◌∙◌}
use Rattle.std.specs.Option.{option_and_then, option_map}
use Rattle.arrayvec.specs.ArrayVec.{ArrayVec}
use denote.Ref.{Bor}
use Rattle.job_words.specs.Rows.{command_row}
use Rattle.job_words.specs.declared.table.Verb.{Verb}
use Rattle.job_words.specs.declared.table.Verb.TheVariants as verb

pub read_of : {T : Type 0} (read : List ℕ → Option T) (value : Option (List ℕ)) (o : Option (Bor (List ℕ))) (result : Option T)
    → option_map (λ text. text.now) o ≡ value → MatchOption o (result ≡ None) (λ text. result ≡ read text.now)
    → result ≡ option_and_then read value
read_of read value None result same is = is ∙ ap (option_and_then read) same
read_of read value (Some text) result same is = is ∙ ap (option_and_then read) same

-- a vector is the list of its elements
pub same_items : (v : ArrayVec ℕ) (items : List ℕ) → v.items ≡ items → v ≡ record { items = items }
same_items v items same = ap (λ xs. record { items = xs }) same

-- the row of a command has its verb
pub verb_of : (verb : Verb) → (command_row verb).verb ≡ verb
verb_of verb.Print = refl
verb_of verb.Dots = refl
verb_of verb.List = refl
verb_of verb.Profile = refl
verb_of verb.Trial = refl
