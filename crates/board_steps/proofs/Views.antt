-- What each step does to the counts of one view.
use Rattle.std.proofs.Common.{◌||◌, ◌≡◌, ◌≢◌, ℕ, ◌+◌, eqb, eq-eqb, ne_eqb, Bool, true, false, List, [], ◌∷◌, ◌++◌, refl, sym, ap, ◌∙◌}
use Rattle.std.proofs.Common.{arith, Option, Some, None}
use Rattle.board_steps.specs.declared.rule.View.{View}
use Rattle.board_steps.specs.Rule.{one_if, times, has, is_held, is_sent, posts, sends, lists, spent}
use Rattle.board_steps.specs.Steps.{looked, taken, sent_view, posted_view, kept_view, new_view, joined_view}

pub one_same : (p : ℕ) → one_if (eqb p p) ≡ 1
one_same p = ap one_if (eq-eqb p p refl)

pub one_other : (p q : ℕ) → q ≢ p → one_if (eqb p q) ≡ 0
one_other p q n = ap one_if (ne_eqb p q (λ e. n (sym e)))

pub looked_lists : (v : View) (i x p : ℕ) → lists p (looked v i x) ≡ lists p v
unfolding lists
looked_lists v i x p = refl

pub looked_sends : (v : View) (i x p d : ℕ) → sends p d (looked v i x) ≡ sends p d v
unfolding sends
looked_sends v i x p d = refl

pub looked_posts : (v : View) (i x p : ℕ) → posts p (looked v i x) ≡ posts p v
unfolding posts
looked_posts v i x p = refl

unsent : (q : ℕ) (b : Bool) → is_sent q None b ≡ 0
unsent q true = refl
unsent q false = refl

pub idle_lists : (v : View) → v.held ≡ None → (q : ℕ) → lists q v ≡ times q v.mine
unfolding lists
idle_lists v idle q = let e : is_held q v.held ≡ 0 = ap (is_held q) idle in omega arith

idle_sends : (v : View) → v.held ≡ None → (q d : ℕ) → sends q d v ≡ times q v.mine
unfolding sends
idle_sends v idle q d = let e : is_sent q v.held (has d v.sent) ≡ 0 = ap (λ (o : Option ℕ). is_sent q o (has d v.sent)) idle
    ∙ unsent q (has d v.sent) in omega arith

taken_lists : (v : View) (p q : ℕ) → lists q (taken v p) ≡ one_if (eqb p q) + times q v.mine
unfolding lists
taken_lists v p q = refl

taken_sends : (v : View) (p q d : ℕ) → sends q d (taken v p) ≡ 0 + times q v.mine
unfolding sends
taken_sends v p q d = refl

pub takes_here : (v : View) (p : ℕ) → v.held ≡ None → lists p (taken v p) ≡ lists p v + 1
takes_here v p idle = let a = idle_lists v idle p in let b = taken_lists v p p in let c = one_same p in omega arith

pub takes_else : (v : View) (p q : ℕ) → v.held ≡ None → q ≢ p → lists q (taken v p) ≡ lists q v
takes_else v p q idle n = let a = idle_lists v idle q in let b = taken_lists v p q in let c = one_other p q n in omega arith

pub takes_sends : (v : View) (p q d : ℕ) → v.held ≡ None → sends q d (taken v p) ≡ sends q d v
takes_sends v p q d idle = let a = idle_sends v idle q d in let b = taken_sends v p q d in omega arith

pub takes_posts : (v : View) (p q : ℕ) → posts q (taken v p) ≡ posts q v
unfolding posts
takes_posts v p q = refl

pub spent_lists : (p : ℕ) → lists p spent ≡ 0
unfolding lists
spent_lists p = refl

pub held_lists : (v : View) (p : ℕ) → v.held ≡ Some p → (q : ℕ) → lists q v ≡ one_if (eqb p q) + times q v.mine
unfolding lists
held_lists v p held q = let e : is_held q v.held ≡ one_if (eqb p q) = ap (is_held q) held in omega arith

pub unsent_sends : (v : View) (d : ℕ) → has d v.sent ≡ false → (q : ℕ) → sends q d v ≡ times q v.mine
unfolding sends
unsent_sends v d still q = let e : is_sent q v.held (has d v.sent) ≡ 0 = ap (is_sent q v.held) still in omega arith

pub sent_sends : (v : View) (p d : ℕ) → v.held ≡ Some p → has d v.sent ≡ true → (q : ℕ) → sends q d v ≡ one_if (eqb p q) + times q v.mine
unfolding sends
sent_sends v p d held is_so q = let e : is_sent q v.held (has d v.sent) ≡ one_if (eqb p q) = ap (is_sent q v.held) is_so
    ∙ ap (is_held q) held in omega arith

pub plain_posts : (p : ℕ) (v : View) → posts p v ≡ times p v.mine
unfolding posts
plain_posts p v = refl

-- the view after a send
has_first : (d : ℕ) (l : List ℕ) → has d (d ∷ l) ≡ true
has_first d l = ap (λ (b : Bool). b || has d l) (eq-eqb d d refl)

has_other : (d e : ℕ) (l : List ℕ) → e ≢ d → has e (d ∷ l) ≡ has e l
has_other d e l n = ap (λ (b : Bool). b || has e l) (ne_eqb d e (λ z. n (sym z)))

pub send_here : (v : View) (p d : ℕ) → v.held ≡ Some p → has d v.sent ≡ false → sends p d (sent_view v d) ≡ sends p d v + 1
send_here v p d held still = let a = unsent_sends v d still p in let b = sent_sends (sent_view v d) p d held (has_first d v.sent) p in
    let c = one_same p in omega arith

pub send_else : (v : View) (p d : ℕ) → v.held ≡ Some p → has d v.sent ≡ false → (q : ℕ) → q ≢ p → sends q d (sent_view v d) ≡ sends q d v
send_else v p d held still q n = let a = unsent_sends v d still q in let b = sent_sends (sent_view v d) p d held (has_first d v.sent) q in
    let c = one_other p q n in omega arith

pub send_other : (v : View) (d e q : ℕ) → e ≢ d → sends q e (sent_view v d) ≡ sends q e v
unfolding sends
send_other v d e q n = ap (λ (b : Bool). is_sent q v.held b + times q v.mine) (has_other d e v.sent n)

pub send_lists : (v : View) (d q : ℕ) → lists q (sent_view v d) ≡ lists q v
unfolding lists
send_lists v d q = refl

pub send_posts : (v : View) (d q : ℕ) → posts q (sent_view v d) ≡ posts q v
unfolding posts
send_posts v d q = refl

-- the view after a post
pub post_lists : (v : View) (p : ℕ) → v.held ≡ Some p → (q : ℕ) → lists q (posted_view v p) ≡ lists q v
post_lists v p held q = let a = idle_lists (posted_view v p) refl q in
    let b : times q (posted_view v p).mine ≡ one_if (eqb p q) + times q v.mine = refl in let c = held_lists v p held q in omega arith

pub post_sends : (v : View) (p q d : ℕ) → sends q d (posted_view v p) ≡ one_if (eqb p q) + times q v.mine
post_sends v p q d = let a = idle_sends (posted_view v p) refl q d in
    let b : times q (posted_view v p).mine ≡ one_if (eqb p q) + times q v.mine = refl in omega arith

pub post_sends_else : (v : View) (p q d : ℕ) → v.held ≡ Some p → q ≢ p → sends q d (posted_view v p) ≡ sends q d v
post_sends_else v p q d held n = grind (arith, one_other, post_sends, sent_sends, unsent_sends)

pub post_sends_sent : (v : View) (p d : ℕ) → v.held ≡ Some p → has d v.sent ≡ true → sends p d (posted_view v p) ≡ sends p d v
post_sends_sent v p d held e = let x = sent_sends v p d held e p in let a = post_sends v p p d in omega arith

pub post_posts_here : (v : View) (p : ℕ) → posts p (posted_view v p) ≡ posts p v + 1
post_posts_here v p = grind (arith, one_same, plain_posts)

pub post_posts_else : (v : View) (p q : ℕ) → q ≢ p → posts q (posted_view v p) ≡ posts q v
post_posts_else v p q n = grind (arith, one_other, plain_posts)

pub cut_lists : (v : View) (p : ℕ) → lists p (kept_view v) + lists p (new_view v) ≡ lists p v
unfolding lists
cut_lists v p = omega arith

pub cut_sends : (v : View) (p d : ℕ) → sends p d (kept_view v) + sends p d (new_view v) ≡ sends p d v
unfolding sends
cut_sends v p d = omega arith

pub cut_posts : (v : View) (p : ℕ) → posts p (kept_view v) + posts p (new_view v) ≡ posts p v
unfolding posts
cut_posts v p = omega arith

pub spent_posts : (p : ℕ) → posts p spent ≡ 0
unfolding posts
spent_posts p = refl

pub spent_sends : (p d : ℕ) → sends p d spent ≡ 0
unfolding sends
spent_sends p d = refl

-- the view after a join
times-append : (p : ℕ) (l m : List (ℕ × ℕ)) → times p (l ++ m) ≡ times p l + times p m
times-append p [] m = omega arith
times-append p (x ∷ xs) m = let r = times-append p xs m in omega arith

pub joined_lists : (v u : View) → u.held ≡ None → (p : ℕ) → lists p (joined_view v u) ≡ lists p v + lists p u
unfolding lists
joined_lists v u idle p = let a = times-append p v.mine u.mine in let e : is_held p u.held ≡ 0 = ap (is_held p) idle in omega arith

pub joined_sends : (v u : View) → u.held ≡ None → (p d : ℕ) → sends p d (joined_view v u) ≡ sends p d v + sends p d u
unfolding sends
joined_sends v u idle p d = grind (arith, times-append, unsent)

pub joined_posts : (v u : View) (p : ℕ) → posts p (joined_view v u) ≡ posts p v + posts p u
unfolding posts
joined_posts v u p = times-append p v.mine u.mine
