-- The dots of bytes, counted part by part.
use Rattle.std.proofs.Common.{◌≡◌, ℕ, suc, ◌+◌, ◌-◌, ◌*◌, ◌≤◌, List, [], ◌∷◌, ◌++◌, length, take, drop, get_or, count_ones, sum_by, replicate}
use Rattle.std.proofs.Common.{refl, ◌∙◌, ap, arith}
use Rattle.std.proofs.Math.Seq.{take-add}
use Rattle.std.proofs.lemmas.List.{drop-replicate}
use Rattle.std.proofs.lemmas.List.Folds.{sum_by-replicate}
use Rattle.std.proofs.lemmas.List.Sums.{sum_by-append, sum_by-cons}
use lib.Count.{ones, ones_in, ones-le}
use Rattle.escp2_laws.proofs.Grammar.{AreBytes}

abbrev pub ones_of : List ℕ → ℕ
ones_of bytes = sum_by count_ones bytes

-- a byte has at most eight dots
pub few-ones : (bytes : List ℕ) → AreBytes bytes → ones_of bytes ≤ 8 * length bytes
few-ones [] are = omega arith
few-ones (b ∷ bytes) are =
    let one : count_ones b ≤ 8 = ones-le 8 b (are 0) in
    let first : ones_of (b ∷ bytes) ≡ count_ones b + ones_of bytes = sum_by-cons count_ones b bytes in
    let rest : ones_of bytes ≤ 8 * length bytes = few-ones bytes (λ k. are (suc k)) in
    omega (arith, one, first, rest)

-- zeros have none
pub no-ones : (bytes : List ℕ) → ((k : ℕ) → get_or bytes k 0 ≡ 0) → ones_of bytes ≡ 0
unfolding ones ones_in
no-ones [] none = refl
no-ones (b ∷ bytes) none =
    let this : count_ones b ≡ 0 = ap count_ones (none 0) in
    let first : ones_of (b ∷ bytes) ≡ count_ones b + ones_of bytes = sum_by-cons count_ones b bytes in
    let rest : ones_of bytes ≡ 0 = no-ones bytes (λ k. none (suc k)) in
    omega (arith, this, first, rest)

-- bytes that are filled up with zeros
pub filled-up : (bytes : List ℕ) (n m : ℕ) → ones_of (bytes ++ drop n (replicate {A = ℕ} m 0)) ≡ ones_of bytes
unfolding ones ones_in
filled-up bytes n m =
    let zeros : ones_of (drop n (replicate {A = ℕ} m 0)) ≡ (m - n) * 0 =
    ap ones_of (drop-replicate n m 0) ∙ sum_by-replicate count_ones (m - n) 0 in
    let parts : ones_of (bytes ++ drop n (replicate {A = ℕ} m 0)) ≡ ones_of bytes + ones_of (drop n (replicate {A = ℕ} m 0)) =
    sum_by-append count_ones bytes (drop n (replicate {A = ℕ} m 0)) in
    omega (arith, zeros, parts)

-- one more part of this length
pub ones-more : (len i sum part : ℕ) (bytes : List ℕ) → sum ≡ ones_of (take (len * i) bytes)
    → part ≡ ones_of (take (len * i + len - len * i) (drop (len * i) bytes)) → sum + part ≡ ones_of (take (len * (i + 1)) bytes)
ones-more len i sum part bytes so_far is =
    let more : len * i + len ≡ len * (i + 1) = omega arith in
    let one : len * i + len - len * i ≡ len = omega arith in
    let parts : ones_of (take (len * i + len) bytes) ≡ ones_of (take (len * i) bytes) + ones_of (take len (drop (len * i) bytes)) =
    ap ones_of (take-add (len * i) len bytes) ∙ sum_by-append count_ones (take (len * i) bytes) (take len (drop (len * i) bytes)) in
    let this : part ≡ ones_of (take len (drop (len * i) bytes)) = is ∙ ap (λ n. ones_of (take n (drop (len * i) bytes))) one in
    let all : ones_of (take (len * i + len) bytes) ≡ ones_of (take (len * (i + 1)) bytes) = ap (λ n. ones_of (take n bytes)) more in
    omega (arith, so_far, this, parts, all)
