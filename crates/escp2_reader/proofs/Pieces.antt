-- Pieces of unread bytes.
use Rattle.std.proofs.Common.{◌≡◌, ℕ, ◌<◌, ◌≤◌, List, [], ◌∷◌, ◌++◌, length, refl, take, drop, sym, ap, ◌∙◌, arith, take-append-drop, length-take}
use lib.Seq.{take-take}

-- what was used of a piece is a prefix of the bytes
pub piece_used : (unread piece rest : List ℕ) (room used : ℕ) → piece ≡ take room unread → rest ≡ drop used unread → used ≤ length piece
    → unread ≡ take used piece ++ rest
piece_used unread piece rest room used is left within =
    let most : used ≤ room = omega (arith, ap length is, length-take room unread) in
    sym (take-append-drop used unread)
    ∙ ap (λ xs. xs ++ drop used unread) (sym (take-take used room unread most) ∙ ap (take used) (sym is))
    ∙ ap (λ xs. take used piece ++ xs) (sym left)

-- fewer bytes than one
pub none_of : (bytes : List ℕ) → length bytes < 1 → bytes ≡ []
none_of [] few = refl
none_of (b ∷ bytes) few = absurd (omega arith)
