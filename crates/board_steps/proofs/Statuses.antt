-- What the views say of a tile's status.
use Rattle.std.proofs.Common.{◌≡◌, ◌≢◌, ℕ, zero, suc, ◌≤◌, eqb, eq-eqb, ne_eqb, cond, Bool, false, List, [], ◌∷◌, ◌++◌, length, set}
use Rattle.std.proofs.Common.{refl, sym, ap, ◌∙◌, arith, length-set, Option, Some, None}
use mathlib.Core.Option.{some, some-injective, some-ne-none}
use mathlib.Core.Logic.{dite}
use native.Mathlib.Decide.{ℕ_discrete}
use lib.ListN.{get_elem?}
use Rattle.atomic_table.proofs.Lists.{set_here, set_else}
use Rattle.board_core.specs.declared.tiles.Status.{Status}
use Rattle.board_core.specs.declared.tiles.Status.TheVariants.{Waiting, Taken, Posted}
use Rattle.board_steps.specs.declared.rule.View.{View}
use Rattle.board_steps.specs.Rule.{times, is_held, spent, lists, total}
use Rattle.board_steps.specs.Shown.{holds, posted_status, own_status, status}
use Rattle.board_steps.specs.Steps.{looked, taken, sent_view, posted_view, kept_view, new_view, joined_view}
use Rattle.board_steps.proofs.Totals.{total_at}
use Rattle.board_steps.proofs.Views.{spent_lists, joined_lists}
use Rattle.board_steps.proofs.Moves.{at_below}
use Rattle.board_steps.proofs.Passes.{total_join}
use Rattle.board_steps.proofs.Wording.{total_two}

-- a view that does not list the tile says nothing of it
posted_none : (t : ℕ) (l : List (ℕ × ℕ)) (z : Status) → times t l ≡ 0 → posted_status t l z ≡ z
posted_none t [] z e = refl
posted_none t (x ∷ xs) z e = grind (arith, posted_none t xs z)

held_none : (t : ℕ) (o : Option ℕ) → is_held t o ≡ 0 → holds t o ≡ false
held_none t None e = refl
held_none t (Some q) e = grind arith

own_none : (t : ℕ) (v : View) (z : Status) → lists t v ≡ 0 → own_status t v z ≡ z
unfolding own_status lists
own_none t v z e = ap (λ (b : Bool). cond b (Taken v.number) (posted_status t v.mine z)) (held_none t v.held (omega arith))
    ∙ posted_none t v.mine z (omega arith)

pub status_none : (t : ℕ) (vs : List View) → total (lists t) vs ≡ 0 → status t vs ≡ Waiting
unfolding status total
status_none t [] e = refl
status_none t (v ∷ vs) e = own_none t v (status t vs) (omega arith) ∙ status_none t vs (omega arith)

-- a view that says the same of the tile
pub status_same : (t : ℕ) (vs : List View) (id : ℕ) (v w : View) → get_elem? vs id ≡ some v
    → ((z : Status) → own_status t w z ≡ own_status t v z) → status t (set vs id w) ≡ status t vs
unfolding status
status_same t [] id v w at e = refl
status_same t (x ∷ xs) zero v w at e = e (status t xs) ∙ ap (λ (u : View). own_status t u (status t xs)) (sym (some-injective x v at))
status_same t (x ∷ xs) (suc id) v w at e = ap (own_status t x) (status_same t xs id v w at e)

-- a view after the others that says nothing of the tile
pub status_snoc : (t : ℕ) (vs : List View) (k : View) → ((z : Status) → own_status t k z ≡ z) → status t (vs ++ k ∷ []) ≡ status t vs
unfolding status
status_snoc t [] k e = e Waiting
status_snoc t (x ∷ xs) k e = ap (own_status t x) (status_snoc t xs k e)

-- no view lists the tile, and then one of them becomes w, which does
pub status_new : (t : ℕ) (vs : List View) (id : ℕ) (v w : View) (y : Status) → get_elem? vs id ≡ some v → total (lists t) vs ≡ 0
    → ((z : Status) → own_status t w z ≡ y) → status t (set vs id w) ≡ y
unfolding status total
status_new t [] id v w y at e f = absurd (some-ne-none v (sym at))
status_new t (x ∷ xs) zero v w y at e f = f (status t xs)
status_new t (x ∷ xs) (suc id) v w y at e f = own_none t x (status t (set xs id w)) (omega arith)
    ∙ status_new t xs id v w y at (omega arith) f

-- only this view lists the tile
pub status_only : (t : ℕ) (vs : List View) (id : ℕ) (v : View) → get_elem? vs id ≡ some v → total (lists t) vs ≤ 1 → 1 ≤ lists t v
    → status t vs ≡ own_status t v Waiting
unfolding status total
status_only t [] id v at few one = absurd (some-ne-none v (sym at))
status_only t (x ∷ xs) zero v at few one = grind (arith, status_none)
status_only t (x ∷ xs) (suc id) v at few one =
    let m = total_at (lists t) xs id v at in own_none t x (status t xs) (omega arith) ∙ status_only t xs id v at (omega arith) one

-- ---- what a view says after a step

pub taken_own : (v : View) (t : ℕ) (z : Status) → own_status t (taken v t) z ≡ Taken v.number
unfolding own_status
taken_own v t z = ap (λ (b : Bool). cond b (Taken v.number) (posted_status t v.mine z)) (eq-eqb t t refl)

pub taken_else : (v : View) (t q : ℕ) → v.held ≡ None → q ≢ t → (z : Status) → own_status q (taken v t) z ≡ own_status q v z
unfolding own_status
taken_else v t q idle ne z =
    ap (λ (b : Bool). cond b (Taken v.number) (posted_status q v.mine z)) (ne_eqb t q (λ e. ne (sym e)) ∙ sym (ap (holds q) idle))

pub looked_own : (v : View) (t word q : ℕ) (z : Status) → own_status q (looked v t word) z ≡ own_status q v z
unfolding own_status
looked_own v t word q z = refl

pub sent_own : (v : View) (d q : ℕ) (z : Status) → own_status q (sent_view v d) z ≡ own_status q v z
unfolding own_status
sent_own v d q z = refl

pub held_own : (v : View) (t : ℕ) (z : Status) → v.held ≡ Some t → own_status t v z ≡ Taken v.number
unfolding own_status
held_own v t z held = ap (λ (b : Bool). cond b (Taken v.number) (posted_status t v.mine z)) (ap (holds t) held ∙ eq-eqb t t refl)

pub posted_own : (v : View) (t : ℕ) (z : Status) → own_status t (posted_view v t) z ≡ Posted v.number
unfolding own_status
posted_own v t z = ap (λ (b : Bool). cond b (Posted v.number) (posted_status t v.mine z)) (eq-eqb t t refl)

pub posted_else : (v : View) (t q : ℕ) → v.held ≡ Some t → q ≢ t → (z : Status) → own_status q (posted_view v t) z ≡ own_status q v z
unfolding own_status
posted_else v t q held ne z = grind arith

pub kept_own : (v : View) (q : ℕ) (z : Status) → own_status q (kept_view v) z ≡ own_status q v z
unfolding own_status
kept_own v q z = refl

pub new_own : (v : View) (q : ℕ) (z : Status) → own_status q (new_view v) z ≡ z
unfolding own_status
new_own v q z = refl

-- ---- a join

posted-append : (q : ℕ) (l m : List (ℕ × ℕ)) (z : Status) → posted_status q (l ++ m) z ≡ posted_status q l (posted_status q m z)
posted-append q [] m z = refl
posted-append q (x ∷ xs) m z = ap (cond (eqb x.0 q) (Posted x.1)) (posted-append q xs m z)

joined_own : (v u : View) (q : ℕ) → u.held ≡ None → (z : Status) → own_status q (joined_view v u) z ≡ own_status q v (own_status q u z)
unfolding own_status
joined_own v u q idle z = ap (cond (holds q v.held) (Taken v.number)) (posted-append q v.mine u.mine z
    ∙ ap (posted_status q v.mine) (sym (ap (λ (b : Bool). cond b (Taken u.number) (posted_status q u.mine z)) (ap (holds q) idle))))

-- a join: a tile that neither view lists, or one of them does
pub joined_status : (vs : List View) (id other : ℕ) (v u : View) (q : ℕ) → get_elem? vs id ≡ some v → get_elem? vs other ≡ some u
    → other ≢ id
    → u.held ≡ None → total (lists q) vs ≤ 1 → status q (set (set vs id (joined_view v u)) other spent) ≡ status q vs
joined_status vs id other v u q at there ne idle few =
    let w : View = joined_view v u in let v₁ : List View = set vs id w in let v₂ : List View = set v₁ other spent in
    let long : length v₁ ≡ length vs = length-set vs id w in let b = at_below vs id v at in let c = at_below vs other u there in
    let at' : get_elem? v₁ other ≡ some u = set_else vs id other w ne ∙ there in
    let here : get_elem? v₂ id ≡ some w = set_else v₁ other id spent (λ e. ne (sym e)) ∙ set_here vs id w b in
    let same : total (lists q) v₂ ≡ total (lists q) vs =
    total_join (lists q) vs id other v u w at at' (joined_lists v u idle q) (spent_lists q) in
    let lw = joined_lists v u idle q in
    dite (ℕ_discrete (lists q u) 0)
    (λ (z : lists q u ≡ 0). status_same q v₁ other u spent at' (λ y. own_none q spent y (spent_lists q) ∙ sym (own_none q u y z))
    ∙ status_same q vs id v w at (λ y. joined_own v u q idle y ∙ ap (own_status q v) (own_none q u y z)))
    (λ (n : ¬ (lists q u ≡ 0)). let two = total_two (lists q) vs id other v u at there (λ e. ne (sym e)) in
    let none_v : lists q v ≡ 0 = omega arith in
    status_only q v₂ id w here (omega arith) (omega arith) ∙ joined_own v u q idle Waiting ∙ own_none q v (own_status q u Waiting) none_v
    ∙ sym (status_only q vs other u there few (omega arith)))
