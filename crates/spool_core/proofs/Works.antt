-- The work of senders.
use Rattle.std.proofs.Common.{◌≡◌, ◌≤◌, List, [], ◌∷◌, length, map, All, refl, ap, arith}
use Rattle.std.proofs.lemmas.List.Elements.{All-cons, All-head, All-nil, All-tail}
use Rattle.spool_queue.specs.Jobs.{Stream}
use Rattle.spool_queue.specs.Passes.{IsSenderOf, sent_of}
use Rattle.spool_queue.specs.declared.kinds.SendPass.{SendPass}
use Rattle.spool_queue.specs.declared.kinds.Spool.{Spool}
use Rattle.spool_core.specs.Senders.{CanSend, lists_in}
use Rattle.spool_core.specs.declared.senders.Work.{Work}

module _ {A B C : Type 0} where
  pub map_map : (f : A → B) (g : B → C) (xs : List A) → map g (map f xs) ≡ map (λ x. g (f x)) xs
  map_map f g [] = refl
  map_map f g (x ∷ xs) = ap (λ l. g (f x) ∷ l) (map_map f g xs)

module _ {A B : Type 0} where
  -- what holds of all values holds of the value of each
  pub All-of_map : (P : B → Type 0) (f : A → B) (xs : List A) → All P (map f xs) → All (λ x. P (f x)) xs
  All-of_map P f [] all = All-nil (λ x. P (f x))
  All-of_map P f (x ∷ xs) all =
      All-cons (λ y. P (f y)) x xs (All-head P (f x) (map f xs) all) (All-of_map P f xs (All-tail P (f x) (map f xs) all))

-- fresh passes can send few streams
pub can_send : (spool : Spool) (works : List Work) → All (IsSenderOf spool) (map (λ (w : Work). w.pass) works)
    → All (λ (p : SendPass). sent_of p ≡ []) (map (λ (w : Work). w.pass) works) → All (λ (l : List Stream). length l ≤ 64) (lists_in works)
    → All (λ (w : Work). CanSend spool w.pass w.streams.items) works
can_send spool [] are fresh few = All-nil (λ (w : Work). CanSend spool w.pass w.streams.items)
can_send spool (w ∷ works) are fresh few =
    let S : SendPass → Type 0 = IsSenderOf spool in
    let F : SendPass → Type 0 = λ p. sent_of p ≡ [] in
    let L : List Stream → Type 0 = λ l. length l ≤ 64 in
    let passes : List SendPass = map (λ (v : Work). v.pass) works in
    let short : length w.streams.items ≤ 64 = All-head L w.streams.items (lists_in works) few in
    All-cons (λ (v : Work). CanSend spool v.pass v.streams.items) w works
    (All-head S w.pass passes are, All-head F w.pass passes fresh, omega arith)
    (can_send spool works (All-tail S w.pass passes are) (All-tail F w.pass passes fresh) (All-tail L w.streams.items (lists_in works) few))
