-- What a read from memory gives, and what one write after another appends.
use Rattle.std.proofs.Common.{◌≡◌, ℕ, ◌+◌, ◌-◌, ◌<◌, ◌≤◌, min, List, [], ◌++◌, length, take, drop, sym, ◌∙◌, ap, arith, length-take}
use Rattle.std.proofs.Common.{length-drop, length-append, subst, Option}
use Rattle.std.proofs.lemmas.List.{take_all, length-take-le, take_at, drop-drop, drop_all, take-append-drop}
use Rattle.std.proofs.Math.Seq.{take-add}
use Rattle.std.proofs.KnownBytes.{Appends-trans}
use Rattle.std.specs.Io.KnownBytes.{Appends}

pub read_copies : (bytes buf copied : List ℕ) (at n : ℕ)
    → copied ≡ take (at + n - at) (drop at bytes) → at + n ≤ length bytes
    → drop at bytes ≡ take n (copied ++ drop n buf) ++ drop (at + n) bytes
read_copies bytes buf copied at n e within =
    let left : List ℕ = drop at bytes in
    let is : copied ≡ take n left = e ∙ ap (λ k. take k left) (omega arith) in
    let fits : n ≤ length left = omega (arith, length-drop at bytes) in
    let len : length copied ≡ n = ap length is ∙ length-take-le n left fits in
    sym (take-append-drop n left)
    ∙ ap (λ xs. xs ++ drop n left) (sym is)
    ∙ ap (λ xs. xs ++ drop n left) (sym (take_at copied (drop n buf) n len))
    ∙ ap (λ xs. take n (copied ++ drop n buf) ++ xs) (drop-drop n at bytes)

no_room : (buf left at n m : ℕ) → (1 ≤ m → 1 ≤ n) → m ≡ min buf (left - at) → n ≡ 0 → 0 < buf → left ≤ at + n
no_room buf left at n m some is none room = grind arith

pub read_ends : (bytes buf copied : List ℕ) (at : ℕ) {n m : ℕ}
    → (1 ≤ m → 1 ≤ n) → m ≡ min (length buf) (length bytes - at) → length copied ≡ length (take n buf)
    → n ≡ 0 → 0 < length (copied ++ drop n buf) → drop (at + n) bytes ≡ []
read_ends bytes buf copied at {n} {m} some is len none room =
    let full : 0 < length buf = omega (arith, length-append copied (drop n buf), length-take n buf, length-drop n buf) in
    drop_all (at + n) bytes (no_room (length buf) (length bytes) at n m some is none full)

-- a write of n bytes after those that were written
pub write_more : (a b d : Option (List ℕ)) (piece : List ℕ) (at n : ℕ) → at ≤ length piece
    → Appends a b (take at piece) → Appends b d (take n (take (length piece - at) (drop at piece)))
    → Appends a d (take (at + n) piece)
write_more a b d piece at n within first second =
    let rest : List ℕ = drop at piece in
    let whole : take (length piece - at) rest ≡ rest = take_all (length piece - at) rest (omega (arith, length-drop at piece)) in
    let P : List ℕ → Type 0 = λ xs. Appends a d xs in
    let Q : List ℕ → Type 0 = λ xs. Appends b d (take n xs) in
    subst P (sym (take-add at n piece)) (Appends-trans a b d (take at piece) (take n rest) first (subst Q whole second))
