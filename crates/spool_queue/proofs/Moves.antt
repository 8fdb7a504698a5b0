-- Each move keeps the rule of the spool.
use Rattle.std.proofs.Common.{◌≡◌, ◌≢◌, ℕ, zero, suc, ◌+◌, ◌≤◌, ⊎_elim, List, [], ◌∷◌, ◌++◌, length, set, sym, refl, ap, ◌∙◌, subst, append_assoc, append-nil, arith, length-append}
use Rattle.std.specs.Prelude.{true, slice_index_or}
use mathlib.Core.Option.{Option, none, some, some-injective, some-ne-none}
use mathlib.Core.Logic.{dite}
use native.Mathlib.Decide.{ℕ_discrete, dec_le}
use lib.ListN.{get_elem?}
use Rattle.std.proofs.lemmas.Bool.{true≢false}
use Rattle.std.proofs.Math.ListN.{get_or-append, get_or-eq_default}
use Rattle.std.proofs.Math.Seq.{get_or-append_seam}
use Rattle.crossbeam_queue.specs.Fifo.{Pushes, Pops, Forks, Merges, Learns}
use Rattle.crossbeam_queue.proofs.Lists.{at_set}
use Rattle.spool_queue.specs.declared.job.SpoolJob.{SpoolJob}
use Rattle.spool_queue.specs.declared.rule.QueueView.{QueueView}
use Rattle.spool_queue.specs.Jobs.{AreSent, Stream, jobs_of, numbered, sent_by, count_sent}
use Rattle.spool_queue.specs.Rule.{printer_view, sender_view, spent_view, FitsSender, FitsPrinter, HasEnded, FollowsRule, IsAsSent, IsNext, IsSettled}
use Rattle.spool_queue.proofs.Lists.{jobs_of-append, jobs_of_here, jobs_of_else, numbered_snoc, not_empty, next_number, put, put_here, put_else, at_last_or}
use Rattle.spool_queue.proofs.Sums.{length_sent}

-- all seats after one has changed: the changed one, and another
after_set : (F : ℕ → QueueView → Type 0) (views : List QueueView) (i : ℕ) (w : QueueView) → F i w → ((j : ℕ) (u : QueueView) → j ≢ i → get_elem? views j ≡ some u → F j u)
    → (j : ℕ) (u : QueueView) → get_elem? (set views i w) j ≡ some u → F j u
after_set F views i w mine others j u e = ⊎_elim (λ (t : (j ≡ i) × (w ≡ u)). subst (λ (y : ℕ × QueueView). F y.0 y.1) (λ k. (sym t.0 k, t.1 k)) mine)
    (λ (t : (j ≢ i) × (get_elem? views j ≡ some u)). others j u t.0 t.1) (at_set views i j w u e)

abbrev Printers : (ℕ → Option ℕ) → (ℕ → List Stream) → List SpoolJob → ℕ → ℕ → QueueView → Type 0
Printers seat sent taken reader j u = u.prints ≡ true → FitsPrinter seat sent taken reader j u

pub begins : FollowsRule [] (printer_view 0 [] [] ∷ [])
begins = record {
  seat = λ s. none;
  sent = λ s. [];
  taken = [];
  reader = 0;
  each = λ s. refl;
  senders = after_set (FitsSender (λ s. none) (λ s. [])) (printer_view 0 [] [] ∷ []) 0 (printer_view 0 [] []) (λ p. absurd (true≢false (sym p))) (λ j u other e. absurd (alone j u other e));
  printers = after_set (Printers (λ s. none) (λ s. []) [] 0) (printer_view 0 [] [] ∷ []) 0 (printer_view 0 [] [])
      (λ p. record { here = refl; taken_is = refl; nobody = (refl, refl); later = λ s h. (refl, refl); ended = λ k h. absurd (omega arith); within = omega arith })
      (λ j u other e. absurd (alone j u other e));
} where
  alone : (j : ℕ) (u : QueueView) → j ≢ 0 → get_elem? (printer_view 0 [] [] ∷ []) j ≡ some u → ⊥
  alone zero u other e = other refl
  alone (suc j) u other e = some-ne-none u (sym e)

-- ---- a push
pushed_else : (s : ℕ) (xs items : List SpoolJob) (x : SpoolJob) → x.sender ≢ s → jobs_of s (xs ++ (items ++ x ∷ [])) ≡ jobs_of s (xs ++ items)
pushed_else s xs items x ne = ap (jobs_of s) (sym (append_assoc xs items (x ∷ []))) ∙ jobs_of-append s (xs ++ items) (x ∷ []) ∙ ap (λ l. jobs_of s (xs ++ items) ++ l) (jobs_of_else s x [] ne) ∙ append-nil (jobs_of s (xs ++ items))

pushed_here : (s : ℕ) (xs items : List SpoolJob) (x : SpoolJob) → x.sender ≡ s → jobs_of s (xs ++ (items ++ x ∷ [])) ≡ jobs_of s (xs ++ items) ++ x ∷ []
pushed_here s xs items x e = ap (jobs_of s) (sym (append_assoc xs items (x ∷ []))) ∙ jobs_of-append s (xs ++ items) (x ∷ []) ∙ ap (λ l. jobs_of s (xs ++ items) ++ l) (jobs_of_here s x [] e)

-- a sender that has ended isn't one that has a pass
ended_still : (seat : ℕ → Option ℕ) (sent : ℕ → List Stream) (s : ℕ) (l : List Stream) (pass t : ℕ) (bs : List Stream) → seat s ≡ some pass → HasEnded seat sent t bs → HasEnded seat (put sent s l) t bs
ended_still seat sent s l pass t bs at e = (e.0, put_else sent s l t (λ is. some-ne-none pass (sym at ∙ ap seat (sym is) ∙ e.0)) ∙ e.1)

pub sends : (n pass : ℕ) (v : QueueView) (x : SpoolJob) → v.sends ≡ true → x.sender ≡ v.sender → x.number ≡ suc (length v.sent) → Pushes FollowsRule n pass v x (λ w. w ≡ sender_view v.sender (v.sent ++ x.stream ∷ []))
sends n pass v x is who number items views room h at =
    let s : ℕ = v.sender in
    let w : QueueView = sender_view v.sender (v.sent ++ x.stream ∷ []) in
    let mine = h.senders pass v at is in
    let l : List Stream = v.sent ++ x.stream ∷ [] in
    let sent : ℕ → List Stream = put h.sent v.sender l in (
      w,
      record {
        seat = h.seat;
        sent = sent;
        taken = h.taken;
        reader = h.reader;
        each = λ t. dite (ℕ_discrete t v.sender)
            (λ e. pushed_here t h.taken items x (who ∙ sym e) ∙ ap (λ m. m ++ x ∷ []) (h.each t ∙ ap (numbered t 1) (ap h.sent e ∙ sym mine.1)) ∙ ap (λ (y : SpoolJob). numbered t 1 v.sent ++ y ∷ []) (λ i. record { sender = (who ∙ sym e) i; number = number i; stream = x.stream })
            ∙ sym (numbered_snoc t 1 v.sent x.stream (suc (length v.sent)) (omega arith)) ∙ ap (numbered t 1) (sym (put_here h.sent v.sender l t e)))
            (λ ne. pushed_else t h.taken items x (λ e. ne (sym e ∙ who)) ∙ h.each t ∙ ap (numbered t 1) (sym (put_else h.sent v.sender l t ne)));
        senders = after_set (FitsSender h.seat sent) views pass w (λ p. (mine.0, sym (put_here h.sent v.sender l v.sender refl)))
            (λ j u other e p. let theirs = h.senders j u e p in
            (theirs.0, theirs.1 ∙ sym (put_else h.sent v.sender l u.sender (λ is_it. other (some-injective j pass (sym theirs.0 ∙ ap h.seat is_it ∙ mine.0))))));
        printers = after_set (Printers h.seat sent h.taken h.reader) views pass w (λ p. absurd (true≢false (sym p)))
            (λ j u other e p. let f = h.printers j u e p in record {
              here = f.here;
              taken_is = f.taken_is;
              nobody = ended_still h.seat h.sent v.sender l pass 0 [] mine.0 f.nobody;
              later = λ t lt. ended_still h.seat h.sent v.sender l pass t [] mine.0 (f.later t lt);
              ended = λ k lt. ended_still h.seat h.sent v.sender l pass (suc k) (slice_index_or u.ended k []) mine.0 (f.ended k lt);
              within = f.within;
            });
      },
      refl,
    )

-- ---- a pop
is_next : (x : SpoolJob) (items : List SpoolJob) (views : List QueueView) (h : FollowsRule (x ∷ items) views) (pass : ℕ) (v : QueueView) → FitsPrinter h.seat h.sent h.taken h.reader pass v → IsNext v x
is_next x items views h pass v f =
    let s : ℕ = x.sender in
    let each : jobs_of s h.taken ++ x ∷ jobs_of s items ≡ numbered s 1 (h.sent s) = ap (λ l. jobs_of s h.taken ++ l) (sym (jobs_of_here s x items refl)) ∙ sym (jobs_of-append s h.taken (x ∷ items)) ∙ h.each s in
    let sends_some : h.sent s ≢ [] = λ e. not_empty (jobs_of s h.taken) (jobs_of s items) x (each ∙ ap (numbered s 1) e) in
    let count : length (jobs_of s v.taken) ≡ length (jobs_of s h.taken) = ap (λ l. length (jobs_of s l)) f.taken_is in
    let number : x.number ≡ 1 + length (jobs_of s h.taken) = next_number s 1 (h.sent s) (jobs_of s h.taken) (jobs_of s items) x each in (
      omega arith,
      dite (dec_le 1 s) (λ le. le) (λ less. absurd (sends_some (ap h.sent (omega arith) ∙ f.nobody.1))),
      dite (dec_le s v.senders) (λ le. le) (λ less. absurd (sends_some (f.later s (omega arith)).1)),
    )

pub takes : (pass : ℕ) (v : QueueView) → v.prints ≡ true → Pops FollowsRule pass v (λ x w. (w ≡ printer_view v.senders (v.taken ++ x ∷ []) v.ended) × IsNext v x)
takes pass v may x items views h at =
    let w : QueueView = printer_view v.senders (v.taken ++ x ∷ []) v.ended in
    let f = h.printers pass v at may in
    let taken : List SpoolJob = h.taken ++ x ∷ [] in (
      w,
      record {
        seat = h.seat;
        sent = h.sent;
        taken = taken;
        reader = h.reader;
        each = λ s. ap (jobs_of s) (append_assoc h.taken (x ∷ []) items) ∙ h.each s;
        senders = after_set (FitsSender h.seat h.sent) views pass w (λ p. absurd (true≢false (sym p))) (λ j u other e. h.senders j u e);
        printers = after_set (Printers h.seat h.sent taken h.reader) views pass w
            (λ p. record { here = f.here; taken_is = ap (λ l. l ++ x ∷ []) f.taken_is; nobody = f.nobody; later = f.later; ended = f.ended; within = f.within })
            (λ j u other e p. absurd (other ((h.printers j u e p).here ∙ sym f.here)));
      },
      (refl, is_next x items views h pass v f),
    )

-- ---- all senders have ended
settled_sent : (items : List SpoolJob) (views : List QueueView) (h : FollowsRule items views) (pass : ℕ) (v : QueueView) → length v.ended ≡ v.senders → FitsPrinter h.seat h.sent h.taken h.reader pass v → (s : ℕ) → h.sent s ≡ sent_by v.ended s
settled_sent items views h pass v all f zero = f.nobody.1
settled_sent items views h pass v all f (suc k) = dite (dec_le (suc k) (length v.ended)) (λ lt. (f.ended k lt).1)
    (λ not_less. (f.later (suc k) (omega arith)).1 ∙ sym (get_or-eq_default v.ended [] (omega arith)))

pub settles : (pass : ℕ) (v : QueueView) → v.prints ≡ true → length v.ended ≡ v.senders → Learns FollowsRule pass v (IsSettled v)
settles pass v may all items views h at =
    let f = h.printers pass v at may in
    let sent = settled_sent items views h pass v all f in
    let each : (s : ℕ) → jobs_of s (v.taken ++ items) ≡ numbered s 1 (sent_by v.ended s) = λ s. ap (λ l. jobs_of s (l ++ items)) f.taken_is ∙ h.each s ∙ ap (numbered s 1) (sent s) in
    record { each = each; count = length_sent v.ended (v.taken ++ items) each }

pub drains : (pass : ℕ) (v : QueueView) → v.prints ≡ true → length v.ended ≡ v.senders → Pops FollowsRule pass v (λ x w. (w ≡ printer_view v.senders (v.taken ++ x ∷ []) v.ended) × (length (v.taken ++ x ∷ []) ≤ count_sent v.ended))
drains pass v may all x items views h at =
    let t = takes pass v may x items views h at in
    let s : length (v.taken ++ x ∷ items) ≡ count_sent v.ended = (settles pass v may all (x ∷ items) views h at).count in
    (t.0, t.1, (t.2.0, let a = length-append v.taken (x ∷ items) in let b = length-append v.taken (x ∷ []) in let c : length (x ∷ items) ≡ suc (length items) = refl in let d : length (x ∷ []) ≡ 1 = refl in omega arith))

-- ---- a new sender
pub enrols : (pass : ℕ) (v : QueueView) → v.prints ≡ true → Forks FollowsRule pass v (printer_view (suc v.senders) v.taken v.ended) (sender_view (suc v.senders) [])
enrols pass v may items views h at =
    let l : QueueView = printer_view (suc v.senders) v.taken v.ended in
    let r : QueueView = sender_view (suc v.senders) [] in
    let vs : List QueueView = set views pass l in
    let f = h.printers pass v at may in
    let none_yet = f.later (suc v.senders) (omega arith) in
    let seat : ℕ → Option ℕ = put h.seat (suc v.senders) (some (length vs)) in
    let still : (s : ℕ) (bs : List Stream) → s ≢ suc v.senders → HasEnded h.seat h.sent s bs → HasEnded seat h.sent s bs = λ s bs ne e. (put_else h.seat (suc v.senders) (some (length vs)) s ne ∙ e.0, e.1) in
    let old_senders = after_set (FitsSender seat h.sent) views pass l (λ p. absurd (true≢false (sym p)))
    (λ j u other e p. let theirs = h.senders j u e p in (put_else h.seat (suc v.senders) (some (length vs)) u.sender (λ is. some-ne-none j (sym theirs.0 ∙ ap h.seat is ∙ none_yet.0)) ∙ theirs.0, theirs.1)) in
    let old_printers = after_set (Printers seat h.sent h.taken h.reader) views pass l
    (λ p. record {
      here = f.here;
      taken_is = f.taken_is;
      nobody = still 0 [] (λ e. omega arith) f.nobody;
      later = λ s lt. still s [] (λ e. omega arith) (f.later s (omega arith));
      ended = λ k lt. let within = f.within in still (suc k) (slice_index_or v.ended k []) (λ e. omega arith) (f.ended k lt);
      within = let within = f.within in omega arith;
    })
    (λ j u other e p. absurd (other ((h.printers j u e p).here ∙ sym f.here))) in
    record {
      seat = seat;
      sent = h.sent;
      taken = h.taken;
      reader = h.reader;
      each = h.each;
      senders = λ j u e. ⊎_elim (λ o. old_senders j u o)
          (λ (t : (j ≡ length vs) × (r ≡ u)). subst (λ (y : ℕ × QueueView). FitsSender seat h.sent y.0 y.1) (λ i. (sym t.0 i, t.1 i)) (λ p. (put_here h.seat (suc v.senders) (some (length vs)) (suc v.senders) refl, sym none_yet.1))) (at_last_or vs r u j e);
      printers = λ j u e. ⊎_elim (λ o. old_printers j u o)
          (λ (t : (j ≡ length vs) × (r ≡ u)) p. absurd (true≢false (sym (ap (λ (y : QueueView). y.prints) t.1 ∙ p)))) (at_last_or vs r u j e);
    }

-- ---- a sender ends
pub ends : (pass : ℕ) (v : QueueView) (other : ℕ) (u : QueueView) → v.prints ≡ true → u ≡ sender_view (suc (length v.ended)) u.sent → Merges FollowsRule pass v other u (printer_view v.senders v.taken (v.ended ++ u.sent ∷ [])) spent_view
ends pass v other u may is items views h at apart at' =
    let both : QueueView = printer_view v.senders v.taken (v.ended ++ u.sent ∷ []) in
    let vs : List QueueView = set views pass both in
    let was : get_elem? views other ≡ some u = ⊎_elim (λ x. absurd (apart x.0)) (λ x. x.1) (at_set views pass other both u at') in
    let f = h.printers pass v at may in
    let who : u.sender ≡ suc (length v.ended) = ap (λ (y : QueueView). y.sender) is in
    let theirs = h.senders other u was (ap (λ (y : QueueView). y.sends) is) in
    let their_seat : h.seat (suc (length v.ended)) ≡ some other = ap h.seat (sym who) ∙ theirs.0 in
    let known_one : suc (length v.ended) ≤ v.senders = dite (dec_le (suc (length v.ended)) v.senders) (λ le. le) (λ less. absurd (some-ne-none other (sym their_seat ∙ (f.later (suc (length v.ended)) (omega arith)).0))) in
    let seat : ℕ → Option ℕ = put h.seat (suc (length v.ended)) none in
    let gone : seat (suc (length v.ended)) ≡ none = put_here h.seat (suc (length v.ended)) none (suc (length v.ended)) refl in
    let longer : length (v.ended ++ u.sent ∷ []) ≡ suc (length v.ended) = let a = length-append v.ended (u.sent ∷ []) in let b : length (u.sent ∷ []) ≡ 1 = refl in omega arith in
    let none_stays : (s : ℕ) → h.seat s ≡ none → seat s ≡ none = λ s e. dite (ℕ_discrete s (suc (length v.ended))) (λ same. put_here h.seat (suc (length v.ended)) none s same) (λ ne. put_else h.seat (suc (length v.ended)) none s ne ∙ e) in
    let first_senders = after_set (λ j y. j ≢ other → FitsSender seat h.sent j y) views pass both (λ _ p. absurd (true≢false (sym p)))
    (λ j y not_pass e not_other p. let m = h.senders j y e p in (put_else h.seat (suc (length v.ended)) none y.sender (λ same. not_other (some-injective j other (sym m.0 ∙ ap h.seat same ∙ their_seat))) ∙ m.0, m.1)) in
    let first_printers = after_set (λ j y. j ≢ other → Printers seat h.sent h.taken h.reader j y) views pass both
    (λ _ p. record {
      here = f.here;
      taken_is = f.taken_is;
      nobody = (none_stays 0 f.nobody.0, f.nobody.1);
      later = λ s lt. (none_stays s (f.later s lt).0, (f.later s lt).1);
      ended = λ k lt. dite (dec_le (suc k) (length v.ended))
          (λ less. (none_stays (suc k) (f.ended k less).0, (f.ended k less).1 ∙ sym (get_or-append v.ended (u.sent ∷ []) [] k less)))
          (λ more. let at_end : k ≡ length v.ended = omega arith in
          (ap (λ m. seat (suc m)) at_end ∙ gone, ap (λ m. h.sent (suc m)) at_end ∙ ap h.sent (sym who) ∙ sym theirs.1 ∙ sym (get_or-append_seam v.ended u.sent [] []) ∙ ap (λ m. slice_index_or (v.ended ++ u.sent ∷ []) m []) (sym at_end)));
      within = omega arith;
    })
    (λ j y not_pass e _ p. absurd (not_pass ((h.printers j y e p).here ∙ sym f.here))) in
    record {
      seat = seat;
      sent = h.sent;
      taken = h.taken;
      reader = h.reader;
      each = h.each;
      senders = after_set (FitsSender seat h.sent) vs other spent_view (λ p. absurd (true≢false (sym p))) (λ j y not_other e. first_senders j y e not_other);
      printers = after_set (Printers seat h.sent h.taken h.reader) vs other spent_view (λ p. absurd (true≢false (sym p))) (λ j y not_other e. first_printers j y e not_other);
    }

-- ---- between any two moves
pub as_sent : (items : List SpoolJob) (views : List QueueView) (pass : ℕ) (printer : QueueView) → FollowsRule items views
    → get_elem? views pass ≡ some printer → printer.prints ≡ true → IsAsSent items views printer
as_sent items views pass printer h at may =
    let f = h.printers pass printer at may in record {
      sent = h.sent;
      each = subst (λ taken. AreSent h.sent (taken ++ items)) (sym f.taken_is) h.each;
      senders = λ p v e sends. sym (h.senders p v e sends).1;
      ended = λ k lt. (f.ended k lt).1;
      nobody = f.nobody.1;
      later = λ s lt. (f.later s lt).1;
    }
