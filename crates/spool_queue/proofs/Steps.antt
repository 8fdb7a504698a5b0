-- What a pass knows after a step, by what it knew before.
use Rattle.std.proofs.Common.{◌≡◌, ℕ, suc, List, [], ◌∷◌, ◌++◌, sym, ap, ◌∙◌, append_assoc, append-nil}
use Rattle.spool_queue.specs.declared.job.SpoolJob.{SpoolJob}
use Rattle.spool_queue.specs.declared.rule.QueueView.{QueueView}
use Rattle.spool_queue.specs.Rule.{printer_view, sender_view}

-- a sender has pushed its job
pub one_sent : {u v w : QueueView} {x y : SpoolJob} → v ≡ u → u ≡ sender_view y.sender u.sent → x ≡ y
    → w ≡ sender_view v.sender (v.sent ++ x.stream ∷ []) → w ≡ sender_view y.sender (u.sent ++ y.stream ∷ [])
one_sent {u = u} {y = y} same role job pushed =
    pushed ∙ (λ i. sender_view (same i).sender ((same i).sent ++ (job i).stream ∷ []))
    ∙ ap (λ (v : QueueView). sender_view v.sender (u.sent ++ y.stream ∷ [])) role

-- the printer has popped a job
pub one_taken : (u : QueueView) (x : SpoolJob) {v w : QueueView} → v ≡ u → u ≡ printer_view u.senders u.taken []
    → w ≡ printer_view v.senders (v.taken ++ x ∷ []) v.ended → w ≡ printer_view u.senders (u.taken ++ x ∷ []) []
one_taken u x same role popped =
    popped ∙ (λ i. printer_view (same i).senders ((same i).taken ++ x ∷ []) (same i).ended)
    ∙ ap (λ (v : QueueView). printer_view u.senders (u.taken ++ x ∷ []) v.ended) role

-- one more sender has its pass
pub one_enrolled : {v w : QueueView} {n m : ℕ} → v ≡ printer_view n [] [] → w ≡ printer_view (suc v.senders) v.taken v.ended
    → m ≡ suc n → w ≡ printer_view m [] []
one_enrolled role enrolled next =
    enrolled ∙ (λ i. printer_view (suc (role i).senders) (role i).taken (role i).ended) ∙ ap (λ n. printer_view n [] []) (sym next)

-- a printer that takes what is left has taken none of it, and one job more
pub none_drained : {v w : QueueView} {rest : List SpoolJob} → w ≡ v → v ≡ printer_view v.senders v.taken v.ended → rest ≡ []
    → w ≡ printer_view v.senders (v.taken ++ rest) v.ended
none_drained {v = v} same role none =
    same ∙ role ∙ ap (λ l. printer_view v.senders l v.ended) (sym (append-nil v.taken) ∙ ap (λ l. v.taken ++ l) (sym none))

pub one_drained : (u : QueueView) (x : SpoolJob) (rest : List SpoolJob) {v w : QueueView} {after : List SpoolJob} → v ≡ printer_view u.senders (u.taken ++ rest) u.ended
    → w ≡ printer_view v.senders (v.taken ++ x ∷ []) v.ended → after ≡ rest ++ x ∷ []
    → w ≡ printer_view u.senders (u.taken ++ after) u.ended
one_drained u x rest role popped items =
    popped ∙ (λ i. printer_view (role i).senders ((role i).taken ++ x ∷ []) (role i).ended)
    ∙ ap (λ l. printer_view u.senders l u.ended) (append_assoc u.taken rest (x ∷ []) ∙ ap (λ l. u.taken ++ l) (sym items))
