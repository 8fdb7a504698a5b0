-- Sums over all views.
use Rattle.std.proofs.Common.{◌≡◌, ℕ, zero, suc, ◌+◌, ◌≤◌, Bool, true, false, List, [], ◌∷◌, ◌++◌, set, refl, sym, ap, arith, Option}
use mathlib.Core.Option.{some, some-injective, some-ne-none}
use lib.ListN.{get_elem?}
use Rattle.board_steps.specs.declared.rule.View.{View}
use Rattle.board_steps.specs.Rule.{has, is_held, is_sent, posts, sends, lists, total}

pub total_set : (f : View → ℕ) (views : List View) (id : ℕ) (v w : View) → get_elem? views id ≡ some v
    → total f (set views id w) + f v ≡ total f views + f w
unfolding total
total_set f [] id v w e = absurd (some-ne-none v (sym e))
total_set f (x ∷ xs) zero v w e = let same : f x ≡ f v = ap f (some-injective x v e) in omega arith
total_set f (x ∷ xs) (suc id) v w e = let r = total_set f xs id v w e in omega arith

pub total_at : (f : View → ℕ) (views : List View) (id : ℕ) (v : View) → get_elem? views id ≡ some v → f v ≤ total f views
unfolding total
total_at f [] id v e = absurd (some-ne-none v (sym e))
total_at f (x ∷ xs) zero v e = let same : f x ≡ f v = ap f (some-injective x v e) in omega arith
total_at f (x ∷ xs) (suc id) v e = let r = total_at f xs id v e in omega arith

pub total_snoc : (f : View → ℕ) (views : List View) (w : View) → total f (views ++ w ∷ []) ≡ total f views + f w
unfolding total
total_snoc f [] w = omega arith
total_snoc f (x ∷ xs) w = let r = total_snoc f xs w in omega arith

pub total_le : (f g : View → ℕ) → ((v : View) → f v ≤ g v) → (views : List View) → total f views ≤ total g views
unfolding total
total_le f g h [] = omega arith
total_le f g h (x ∷ xs) = let r = total_le f g h xs in let m = h x in omega arith

pub total_same : (f : View → ℕ) (views : List View) (id : ℕ) (v w : View) → get_elem? views id ≡ some v → f w ≡ f v
    → total f (set views id w) ≡ total f views
total_same f views id v w at e = let r = total_set f views id v w at in omega arith

sent_held : (p : ℕ) (q : Option ℕ) (b : Bool) → is_sent p q b ≤ is_held p q
sent_held p q false = omega arith
sent_held p q true = omega arith

pub sends_lists : (p d : ℕ) (v : View) → sends p d v ≤ lists p v
unfolding sends lists
sends_lists p d v = omega (arith, sent_held p v.held (has d v.sent))

pub posts_sends : (p d : ℕ) (v : View) → posts p v ≤ sends p d v
unfolding sends posts
posts_sends p d v = omega arith

pub all_sends_lists : (p d : ℕ) (views : List View) → total (sends p d) views ≤ total (lists p) views
all_sends_lists p d views = total_le (sends p d) (lists p) (sends_lists p d) views

pub all_posts_sends : (p d : ℕ) (views : List View) → total (posts p) views ≤ total (sends p d) views
all_posts_sends p d views = total_le (posts p) (sends p d) (posts_sends p d) views

abbrev pub NoneWithout : (View → ℕ) → (View → ℕ) → List View → Type 0
NoneWithout f g views = (k : ℕ) (u : View) → get_elem? views k ≡ some u → g u ≡ 0 → f u ≡ 0

total_none : (f g : View → ℕ) (views : List View) → NoneWithout f g views → total g views ≡ 0 → total f views ≡ 0
unfolding total
total_none f g [] h e = refl
total_none f g (x ∷ xs) h e = let a : g x ≡ 0 = omega arith in let b : total g xs ≡ 0 = omega arith in let c = h 0 x refl a in
    let d = total_none f g xs (λ k u at z. h (suc k) u at z) b in omega arith

-- where one view has the whole sum of g, and f is 0 wherever g is, it has the whole sum of f
pub total_alone : (f g : View → ℕ) (views : List View) (id : ℕ) (v : View) → NoneWithout f g views → get_elem? views id ≡ some v
    → total g views ≡ g v → total f views ≡ f v
unfolding total
total_alone f g [] id v h at e = absurd (some-ne-none v (sym at))
total_alone f g (x ∷ xs) zero v h at e = let y : x ≡ v = some-injective x v at in let gx : g x ≡ g v = ap g y in
    let fx : f x ≡ f v = ap f y in
    let b : total g xs ≡ 0 = omega arith in let d = total_none f g xs (λ k u at' z. h (suc k) u at' z) b in omega arith
total_alone f g (x ∷ xs) (suc id) v h at e = let m = total_at g xs id v at in let a : g x ≡ 0 = omega arith in let c = h 0 x refl a in
    let d = total_alone f g xs id v (λ k u at' z. h (suc k) u at' z) at (omega arith) in omega arith

pub total_more : (f : View → ℕ) (views : List View) (id : ℕ) (v w : View) → get_elem? views id ≡ some v → f w ≡ f v + 1
    → total f (set views id w) ≡ total f views + 1
total_more f views id v w at e = let r = total_set f views id v w at in omega arith

-- where f is at most g, the other views have no more of f than of g
pub total_gap : (f g : View → ℕ) → ((v : View) → f v ≤ g v) → (views : List View) (id : ℕ) (v : View) → get_elem? views id ≡ some v
    → total f views + g v ≤ total g views + f v
unfolding total
total_gap f g h [] id v e = absurd (some-ne-none v (sym e))
total_gap f g h (x ∷ xs) zero v e = let y : x ≡ v = some-injective x v e in let a : f x ≡ f v = ap f y in let b : g x ≡ g v = ap g y in
    let r = total_le f g h xs in omega arith
total_gap f g h (x ∷ xs) (suc id) v e = let r = total_gap f g h xs id v e in let m = h x in omega arith
