-- What a read of a made stream gives.
use Rattle.std.proofs.Common.{◌≡◌, ℕ, ◌+◌, ◌-◌, ◌<◌, ◌≤◌, min, List, [], ◌++◌, length, take, drop, sym, ◌∙◌, ap, arith, append_assoc}
use Rattle.std.proofs.Common.{length-append, length-drop}
use Rattle.std.proofs.lemmas.List.{drop_all}
use Rattle.weave_base.proofs.Copying.{read_copies}

-- the bytes of the piece that were copied, and then the rest of the piece and what is to come
pub piece_read : (old piece left buf copied : List ℕ) (given n : ℕ) → drop given piece ++ left ≡ old
    → copied ≡ take (given + n - given) (drop given piece) → given + n ≤ length piece
    → old ≡ take n (copied ++ drop n buf) ++ (drop (given + n) piece ++ left)
piece_read old piece left buf copied given n is copy within =
    sym is
    ∙ ap (λ bytes. bytes ++ left) (read_copies piece buf copied given n copy within)
    ∙ append_assoc (take n (copied ++ drop n buf)) (drop (given + n) piece) left

none_in_piece : (room left n : ℕ) → n ≡ min room left → n ≡ 0 → 0 < room → left ≡ 0
none_in_piece room left n count none some = grind arith

-- where a buffer that is not empty gets no byte, none is left
pub piece_ends : (piece left buf copied : List ℕ) (given n : ℕ) → n ≡ min (length buf) (length piece - given) → given ≤ length piece
    → length copied ≡ n → (length piece ≤ given → left ≡ []) → n ≡ 0 → 0 < length (copied ++ drop n buf)
    → drop (given + n) piece ++ left ≡ []
piece_ends piece left buf copied given n count within copy end none some =
    let room : 0 < length buf = omega (arith, length-append copied (drop n buf), length-drop n buf) in
    let all : length piece - given ≡ 0 = none_in_piece (length buf) (length piece - given) n count none room in
    ap (λ bytes. bytes ++ left) (drop_all (given + n) piece (omega arith)) ∙ end (omega arith)
