-- Passes in the order of their senders, as a printer takes them in.
use Rattle.std.proofs.Common.{◌≡◌, ℕ, zero, suc, ◌+◌, ◌<◌, ◌≤◌, List, [], ◌∷◌, ◌++◌, length, map, sym, refl, ap, ◌∙◌, subst, append_assoc, append-nil, arith, length-append, add-one}
use Rattle.std.specs.Prelude.{All}
use Rattle.std.proofs.lemmas.List.{map-append, length-map}
use Rattle.std.proofs.lemmas.List.Elements.{All-append, All-cons, All-nil}
use Rattle.spool_queue.specs.declared.job.SpoolJob.{SpoolJob}
use Rattle.spool_queue.specs.declared.kinds.SendPass.{SendPass}
use Rattle.spool_queue.specs.declared.rule.QueueView.{QueueView}
use Rattle.base_definitions.specs.Counting.{count_from}
use Rattle.spool_queue.specs.Jobs.{Stream, jobs_of, numbered, sent_by, count_sent, AreSent}
use Rattle.spool_queue.specs.Rule.{printer_view, IsSettled}
use Rattle.spool_queue.specs.Passes.{sent_of, sender_of, sent_lists}

abbrev head_or : ℕ → List ℕ → ℕ
head_or d [] = d
head_or d (x ∷ xs) = x

abbrev tail_of : List ℕ → List ℕ
tail_of [] = []
tail_of (x ∷ xs) = xs

first_counted : (x : SendPass) (r : List SendPass) (k m : ℕ) → map sender_of (x ∷ r) ≡ count_from k m
    → (x.sender ≡ k) × ((j : ℕ) × (m ≡ suc j) × (map sender_of r ≡ count_from (suc k) j))
first_counted x r k zero e = let l : suc (length (map sender_of r)) ≡ 0 = ap length e in absurd (omega arith)
first_counted x r k (suc j) e = (ap (head_or x.sender) e, (j, refl, ap tail_of e ∙ ap (λ n. count_from n j) (add-one k)))

-- the view v has taken in all passes but those that are left
pub record Gathering (F : SendPass → Type 0) (start : QueueView) (all : List SendPass) (v : QueueView) (left : List SendPass) : Type 0 where
  pub role : v ≡ printer_view start.senders start.taken v.ended
  pub senders : All F left
  pub known : v.ended ++ map sent_of left ≡ sent_lists all
  pub order : (m : ℕ) × (start.senders ≡ length v.ended + m) × (map sender_of left ≡ count_from (suc (length v.ended)) m)

pub gather_start : {F : SendPass → Type 0} {v : QueueView} {all : List SendPass} → v ≡ printer_view v.senders v.taken [] → All F all → map sender_of all ≡ count_from 1 v.senders → Gathering F v all v all
gather_start {v = v} {all = all} role senders order =
    let none_known : v.ended ≡ [] = ap (λ (y : QueueView). y.ended) role in
    let none : length v.ended ≡ 0 = ap length none_known in
    record {
      role = role ∙ ap (printer_view v.senders v.taken) (sym none_known);
      senders = senders;
      known = ap (λ l. l ++ map sent_of all) none_known;
      order = (v.senders, omega arith, order ∙ ap (λ n. count_from (suc n) v.senders) (sym none));
    }

pub gather_next : {F : SendPass → Type 0} {start : QueueView} {all : List SendPass} {v : QueueView} {x : SendPass} {left : List SendPass} → Gathering F start all v (x ∷ left) → x.sender ≡ suc (length v.ended)
gather_next {v = v} {x = x} {left = left} g = (first_counted x left (suc (length v.ended)) g.order.0 g.order.2).0

pub gather_here : {F : SendPass → Type 0} {start : QueueView} {all : List SendPass} {v : QueueView} {x : SendPass} {left : List SendPass} → Gathering F start all v (x ∷ left) → F x
gather_here {x = x} g = g.senders 0 x (omega arith)

pub gather_step : {F : SendPass → Type 0} {start : QueueView} {all : List SendPass} {v w : QueueView} {x : SendPass} {left : List SendPass} → Gathering F start all v (x ∷ left) → w ≡ printer_view v.senders v.taken (v.ended ++ sent_of x ∷ []) → Gathering F start all w left
gather_step {v = v} {w = w} {x = x} {left = left} g e =
    let is_known : w.ended ≡ v.ended ++ sent_of x ∷ [] = ap (λ (y : QueueView). y.ended) e in
    let count : length w.ended ≡ suc (length v.ended) = ap length is_known ∙ (let a = length-append v.ended (sent_of x ∷ []) in let b : length (sent_of x ∷ []) ≡ 1 = refl in omega arith) in
    let o = first_counted x left (suc (length v.ended)) g.order.0 g.order.2 in
    let m = g.order.1 in
    let j = o.1.1 in
    record {
      role = e ∙ (λ i. printer_view (g.role i).senders (g.role i).taken (sym is_known i));
      senders = λ k d lt. g.senders (suc k) d (omega arith);
      known = ap (λ l. l ++ map sent_of left) is_known ∙ append_assoc v.ended (sent_of x ∷ []) (map sent_of left) ∙ g.known;
      order = (o.1.0, omega arith, o.1.2 ∙ ap (λ n. count_from (suc n) o.1.0) (sym count));
    }

-- a printer that finds nothing has taken all
pub drained : {v : QueueView} {lists : List (List Stream)} (before after items : List SpoolJob) → v.taken ≡ before ++ after → v.ended ≡ lists → length items ≡ 0 → IsSettled v items → AreSent (sent_by lists) (before ++ after)
drained {v = v} before after [] t k e all s = ap (jobs_of s) (sym t ∙ sym (append-nil v.taken)) ∙ all.each s ∙ ap (λ l. numbered s 1 (sent_by l s)) k
drained before after (x ∷ items) t k e all s = absurd (omega arith)

-- what the printer knows once it has all passes
pub are_sent : {v : QueueView} {n : ℕ} {taken : List SpoolJob} {lists : List (List Stream)} (items : List SpoolJob) → AreSent (sent_by v.ended) (v.taken ++ items) → v ≡ printer_view n taken lists → AreSent (sent_by lists) (taken ++ items)
are_sent items each e s = ap (λ (y : QueueView). jobs_of s (y.taken ++ items)) (sym e) ∙ each s ∙ ap (λ (y : QueueView). numbered s 1 (sent_by y.ended s)) e

pub counts_sent : {v : QueueView} {n : ℕ} {taken : List SpoolJob} {lists : List (List Stream)} (items : List SpoolJob) → length (v.taken ++ items) ≡ count_sent v.ended → v ≡ printer_view n taken lists → length (taken ++ items) ≡ count_sent lists
counts_sent items count e = ap (λ (y : QueueView). length (y.taken ++ items)) (sym e) ∙ count ∙ ap (λ (y : QueueView). count_sent y.ended) e

-- where the printer has taken as many jobs as were sent, the queue is empty
pub taken_all : (lists : List (List Stream)) (taken rest : List SpoolJob) → AreSent (sent_by lists) (taken ++ rest) → length (taken ++ rest) ≡ count_sent lists → length taken ≡ count_sent lists → AreSent (sent_by lists) taken
taken_all lists taken [] each count all s = ap (jobs_of s) (sym (append-nil taken)) ∙ each s
taken_all lists taken (x ∷ rest) each count all s = let a = length-append taken (x ∷ rest) in absurd (omega arith)

-- as many are left as the queue held
pub has_room : {v : QueueView} {before items : List SpoolJob} {n : ℕ} (w : QueueView) (x : SpoolJob) (after : List SpoolJob) → IsSettled v items → length items ≡ n → v.taken ≡ before → w.taken ≡ before ++ after → w.ended ≡ v.ended → length (w.taken ++ x ∷ []) ≤ count_sent w.ended → length after < n
has_room {v = v} {before = before} {items = items} w x after all e t t' k few =
    let a = length-append v.taken items in
    let b = length-append w.taken (x ∷ []) in
    let c : length (x ∷ []) ≡ 1 = refl in
    let d : length w.taken ≡ length before + length after = ap length t' ∙ length-append before after in
    let f : length v.taken ≡ length before = ap length t in
    let g : count_sent w.ended ≡ count_sent v.ended = ap count_sent k in
    let h = all.count in
    omega arith

-- the passes of the first n senders, which have sent nothing
pub record Enrolled (F : SendPass → Type 0) (n : ℕ) (passes : List SendPass) : Type 0 where
  pub fresh : All (λ p. F p × (sent_of p ≡ [])) passes
  pub order : map sender_of passes ≡ count_from 1 n
  pub count : length passes ≡ n

counted_snoc : (k n m : ℕ) → m ≡ k + n → count_from k n ++ m ∷ [] ≡ count_from k (suc n)
counted_snoc k zero m e = ap (λ j. j ∷ []) (omega arith)
counted_snoc k (suc n) m e = ap (λ l. k ∷ l) (counted_snoc (k + 1) n m (omega arith))

one_more : (F : SendPass → Type 0) (n : ℕ) (passes : List SendPass) (p : SendPass) → Enrolled F n passes → F p → sent_of p ≡ [] → p.sender ≡ suc n → Enrolled F (suc n) (passes ++ p ∷ [])
one_more F n passes p e f none who = record {
  fresh = All-append (λ p. F p × (sent_of p ≡ [])) passes (p ∷ []) e.fresh (All-cons (λ p. F p × (sent_of p ≡ [])) p [] (f, none) (All-nil (λ p. F p × (sent_of p ≡ []))));
  order = map-append sender_of passes (p ∷ []) ∙ ap (λ l. l ++ p.sender ∷ []) e.order ∙ counted_snoc 1 n p.sender (omega arith);
  count = let c = e.count in let a = length-append passes (p ∷ []) in let b : length (p ∷ []) ≡ 1 = refl in omega arith;
}

pub enrolled_more : {F : SendPass → Type 0} {n : ℕ} {passes after : List SendPass} {p : SendPass} {m : ℕ} → Enrolled F n passes → after ≡ passes ++ p ∷ [] → m ≡ suc n → F p → sent_of p ≡ [] → p.sender ≡ m → Enrolled F m after
enrolled_more {F = F} {n = n} {passes = passes} {p = p} e is next f none who = subst (λ (y : ℕ × List SendPass). Enrolled F y.0 y.1) (λ i. (sym next i, sym is i)) (one_more F n passes p e f none (who ∙ next))

length_counted : (k n : ℕ) → length (count_from k n) ≡ n
length_counted k zero = refl
length_counted k (suc n) = ap suc (length_counted (k + 1) n)

-- the passes of all senders
pub all_counted : {n : ℕ} (passes : List SendPass) → map sender_of passes ≡ count_from 1 n → length (map sent_of passes) ≡ n
all_counted {n = n} passes e = length-map passes sent_of ∙ sym (length-map passes sender_of) ∙ ap length e ∙ length_counted 1 n
