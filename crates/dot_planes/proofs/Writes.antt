-- What a write to a part of bytes leaves, byte by byte.
use Rattle.std.proofs.Common.{◌≡◌, ◌⊎◌, ℕ, ◌+◌, ◌<◌, ◌≤◌, List, ◌++◌, length, take, drop, get_or, ◌∙◌, arith}
use Rattle.std.proofs.Common.{inl, inr, length-append, length-drop, length-take}
use Rattle.std.proofs.lemmas.List.{get_or-append_right, get_or-drop, get_or-take, get_or_append_left, take_at}
use borrow.Rule.Slice.PartMut.{put_mid}

front_len : (a : ℕ) (xs : List ℕ) → a ≤ length xs → length (take a xs) ≡ a
front_len a xs room = omega (arith, length-take a xs)

-- the bytes before the part
pub put_below : (a k i : ℕ) (xs ys : List ℕ) → a ≤ length xs → i < a → get_or (put_mid a k xs ys) i 0 ≡ get_or xs i 0
put_below a k i xs ys room below =
    get_or_append_left (take a xs) _ 0 i (omega (arith, front_len a xs room)) ∙ get_or-take a xs i 0 below

-- those of the part
pub put_inside : (a k i : ℕ) (xs ys : List ℕ) → a ≤ length xs → i < length ys → get_or (put_mid a k xs ys) (a + i) 0 ≡ get_or ys i 0
put_inside a k i xs ys room inside = grind (arith, front_len, get_or-append_right, get_or_append_left)

-- and those after it
pub put_above : (a k i : ℕ) (xs ys : List ℕ) → a ≤ length xs → length ys ≡ k → a + k ≤ i → get_or (put_mid a k xs ys) i 0 ≡ get_or xs i 0
put_above a k i xs ys room len above = grind (arith, front_len, get_or-append_right, get_or-drop)

-- bytes outside of the part
pub put_outside : (a k from end : ℕ) (xs ys : List ℕ)
    → a ≤ length xs → length ys ≡ k → from ≤ a → a + k ≤ end → (i : ℕ) → (i < from) ⊎ (end ≤ i)
    → get_or (put_mid a k xs ys) i 0 ≡ get_or xs i 0
put_outside a k from end xs ys room len low high i (inl below) = put_below a k i xs ys room (omega arith)
put_outside a k from end xs ys room len low high i (inr above) = put_above a k i xs ys room len (omega arith)

pub put_len : (a k : ℕ) (xs ys : List ℕ) → a + k ≤ length xs → length ys ≡ k → length (put_mid a k xs ys) ≡ length xs
put_len a k xs ys room len = grind (arith, length-append, length-drop, length-take)

-- a vector after a write to a part of it
pub put_items : (a k len : ℕ) (xs ys items part : List ℕ) → xs ≡ items → ys ≡ part → length items ≡ len → a + k ≤ len → length part ≡ k
    → take len (put_mid a k xs ys ++ drop (length (put_mid a k xs ys)) items) ≡ put_mid a k items part
put_items a k len xs ys items part same written len_is room many = grind (arith, put_len, take_at)
