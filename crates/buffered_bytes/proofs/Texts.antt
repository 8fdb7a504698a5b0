-- The text that a reader has before it, as bytes are read and used.
use Rattle.std.proofs.Common.{◌≡◌, ℕ, List, ◌++◌, take, drop, Option, None, Some, sym, ap, ◌∙◌, append_assoc, take-append-drop}
use Rattle.std.specs.Io.KnownBytes.{Consumes, Keeps}
use Rattle.buffered_bytes.specs.Text.{text_behind}

-- a read keeps the text
pub text_grown : (before now : Option (List ℕ)) (unread chunk : List ℕ) → Consumes before now chunk
    → Keeps (text_behind unread before) (text_behind (unread ++ chunk) now)
text_grown None now unread chunk read = tt
text_grown (Some xs) None unread chunk read = absurd read
text_grown (Some xs) (Some ys) unread chunk read = append_assoc unread chunk ys ∙ ap (λ bs. unread ++ bs) (sym read)

-- bytes that are used are a prefix of it
pub text_used : (left : Option (List ℕ)) (unread front rest : List ℕ) → unread ≡ front ++ rest
    → Consumes (text_behind unread left) (text_behind rest left) front
text_used None unread front rest is = tt
text_used (Some xs) unread front rest is = ap (λ bs. bs ++ xs) is ∙ append_assoc front rest xs

-- the bytes that were fed are a prefix of the text
pub text_fed : (left : Option (List ℕ)) (unread rest : List ℕ) (used : ℕ) → rest ≡ drop used unread
    → Consumes (text_behind unread left) (text_behind rest left) (take used unread)
text_fed left unread rest used is =
    text_used left unread (take used unread) rest (sym (take-append-drop used unread) ∙ ap (λ bs. take used unread ++ bs) (sym is))
