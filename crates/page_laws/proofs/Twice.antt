-- No dot is fired twice.
use Rattle.std.proofs.lemmas.Grind.{common_steps}
use Rattle.std.proofs.Common.{◌≡◌, ◌+◌, ◌≤◌, true, false, List, [], ◌∷◌, ◌++◌, refl, ◌∙◌, ap, arith, cond}
use Rattle.std.specs.List.{count_by, list_any}
use Rattle.std.proofs.lemmas.Bool.{and_from, eq-eqb}
use Rattle.printer_definitions.specs.Inks.{ink_place}
use Rattle.escp2_definitions.specs.Machine.{Dot, is_at, overprints}
use Rattle.page_laws.proofs.Counts.{count-append, count-cons}
use Rattle.page_laws.proofs.Once.{Once}
use Rattle.page_laws.proofs.Fired.{none-of}

-- a dot is at its own place
is_at-itself : (d : Dot) → is_at d d ≡ true
is_at-itself d = and_from _ _ (and_from _ _ (eq-eqb (ink_place d.ink) (ink_place d.ink) refl) (eq-eqb d.x d.x refl)) (eq-eqb d.y d.y refl)

-- where a place has no dot, none is found
free : (d : Dot) (old : List Dot) → count_by (is_at d) old ≡ 0 → list_any (is_at d) old ≡ false
free d [] e = refl
free d (o ∷ old) e = grind (arith, common_steps, count-cons, none-of, free d old)

-- dots with each place at most once in both lists together overprint nothing
none-over : (old new : List Dot) → ((d : Dot) → count_by (is_at d) old + count_by (is_at d) new ≤ 1) → overprints old new ≡ false
none-over old [] few = refl
none-over old (d ∷ new) few =
    let here : count_by (is_at d) (d ∷ new) ≡ 1 + count_by (is_at d) new =
    count-cons (is_at d) d new ∙ ap (λ b. cond b 1 0 + count_by (is_at d) new) (is_at-itself d) in
    none-of (λ d. list_any (is_at d) old) d new (free d old (omega (arith, few d)))
    (none-over old new (λ e. omega (arith, few e, count-cons (is_at e) d new)))

-- new dots that occur once among all dots overprint none of the old
pub not_twice : (old new : List Dot) → Once (old ++ new) → overprints old new ≡ false
not_twice old new once = none-over old new (λ d. omega (arith, once d, count-append (is_at d) old new))
