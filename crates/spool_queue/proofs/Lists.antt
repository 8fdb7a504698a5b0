-- Lists of jobs, and functions that change at one number.
use Rattle.std.proofs.Common.{◌≡◌, ◌≢◌, ℕ, zero, suc, ◌+◌, ◌⊎◌, inl, inr, ⊎_elim, List, [], ◌∷◌, ◌++◌, length, sym, refl, ap, eq-eqb, ne_eqb, arith}
use Rattle.std.specs.Prelude.{Bool, true, false, if◌then◌else◌, ◌==◌}
use mathlib.Core.Option.{some, some-injective, some-ne-none}
use lib.ListN.{get_elem?}
use Rattle.spool_queue.specs.declared.job.SpoolJob.{SpoolJob}
use Rattle.spool_queue.specs.Jobs.{Stream, job, jobs_of, numbered}

pub same : (s t : ℕ) → s ≡ t → (s == t) ≡ true
same s t e = eq-eqb s t e

pub differs : (s t : ℕ) → s ≢ t → (s == t) ≡ false
differs s t ne = ne_eqb s t ne

if_append : (b : Bool) (x : SpoolJob) (r m t : List SpoolJob) → t ≡ r ++ m → (if b then x ∷ t else t) ≡ (if b then x ∷ r else r) ++ m
if_append true x r m t e = ap (λ l. x ∷ l) e
if_append false x r m t e = e

pub jobs_of-append : (s : ℕ) (xs ys : List SpoolJob) → jobs_of s (xs ++ ys) ≡ jobs_of s xs ++ jobs_of s ys
jobs_of-append s [] ys = refl
jobs_of-append s (x ∷ xs) ys = if_append (x.sender == s) x (jobs_of s xs) (jobs_of s ys) (jobs_of s (xs ++ ys)) (jobs_of-append s xs ys)

pub jobs_of_here : (s : ℕ) (x : SpoolJob) (xs : List SpoolJob) → x.sender ≡ s → jobs_of s (x ∷ xs) ≡ x ∷ jobs_of s xs
jobs_of_here s x xs e = ap (λ (b : Bool). if b then x ∷ jobs_of s xs else jobs_of s xs) (same x.sender s e)

pub jobs_of_else : (s : ℕ) (x : SpoolJob) (xs : List SpoolJob) → x.sender ≢ s → jobs_of s (x ∷ xs) ≡ jobs_of s xs
jobs_of_else s x xs ne = ap (λ (b : Bool). if b then x ∷ jobs_of s xs else jobs_of s xs) (differs x.sender s ne)

pub numbered_snoc : (s n : ℕ) (bs : List Stream) (b : Stream) (k : ℕ) → k ≡ n + length bs → numbered s n (bs ++ b ∷ []) ≡ numbered s n bs ++ job s k b ∷ []
numbered_snoc s n [] b k e = ap (λ m. job s m b ∷ []) (omega arith)
numbered_snoc s n (c ∷ bs) b k e = ap (λ l. job s n c ∷ l) (numbered_snoc s (suc n) bs b k (omega arith))

pub numbered_length : (s n : ℕ) (bs : List Stream) → length (numbered s n bs) ≡ length bs
numbered_length s n [] = refl
numbered_length s n (b ∷ bs) = ap suc (numbered_length s (suc n) bs)

abbrev pub first_or : SpoolJob → List SpoolJob → SpoolJob
first_or d [] = d
first_or d (x ∷ xs) = x

abbrev pub rest_of : List SpoolJob → List SpoolJob
rest_of [] = []
rest_of (x ∷ xs) = xs

pub not_empty : (xs ys : List SpoolJob) (x : SpoolJob) → xs ++ x ∷ ys ≢ []
not_empty [] ys x e = let l : suc (length ys) ≡ 0 = ap length e in omega arith
not_empty (y ∷ xs) ys x e = let l : suc (length (xs ++ x ∷ ys)) ≡ 0 = ap length e in omega arith

-- the job behind xs has the next number
pub next_number : (s n : ℕ) (bs : List Stream) (xs ys : List SpoolJob) (x : SpoolJob) → xs ++ x ∷ ys ≡ numbered s n bs → x.number ≡ n + length xs
next_number s n [] xs ys x e = absurd (not_empty xs ys x e)
next_number s n (b ∷ bs) [] ys x e = let h : x.number ≡ n = ap (λ l. (first_or x l).number) e in omega arith
next_number s n (b ∷ bs) (y ∷ xs) ys x e = let h : x.number ≡ suc n + length xs = next_number s (suc n) bs xs ys x (ap rest_of e) in omega arith

-- ---- a function that is changed at one number
abbrev pub put : {A : Type 0} → (ℕ → A) → ℕ → A → ℕ → A
put f s a t = if t == s then a else f t

module _ {A : Type 0} where
  pub put_here : (f : ℕ → A) (s : ℕ) (a : A) (t : ℕ) → t ≡ s → put f s a t ≡ a
  put_here f s a t e = ap (λ (b : Bool). if b then a else f t) (same t s e)

  pub put_else : (f : ℕ → A) (s : ℕ) (a : A) (t : ℕ) → t ≢ s → put f s a t ≡ f t
  put_else f s a t ne = ap (λ (b : Bool). if b then a else f t) (differs t s ne)

  pub at_last_or : (l : List A) (a b : A) (j : ℕ) → get_elem? (l ++ a ∷ []) j ≡ some b → (get_elem? l j ≡ some b) ⊎ ((j ≡ length l) × (a ≡ b))
  at_last_or [] a b zero e = inr (refl, some-injective a b e)
  at_last_or [] a b (suc j) e = absurd (some-ne-none b (sym e))
  at_last_or (x ∷ xs) a b zero e = inl e
  at_last_or (x ∷ xs) a b (suc j) e = ⊎_elim (λ t. inl t) (λ t. inr (ap suc t.0, t.1)) (at_last_or xs a b j e)
