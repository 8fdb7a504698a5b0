-- A look, a split and a join leave what is shown unchanged.
use Rattle.std.proofs.Common.{◌≡◌, ℕ, set, ap, ◌∙◌, None}
use Rattle.atomic_table.specs.Table.{State}
use Rattle.atomic_table.proofs.Lists.{set_else}
use Rattle.board_steps.specs.declared.rule.View.{View}
use Rattle.board_steps.specs.declared.rule.Slab.{Slab}
use Rattle.board_steps.specs.declared.rule.Cell.{Cell}
use Rattle.board_steps.specs.Rule.{sends, spent, total}
use Rattle.board_steps.specs.Shown.{Joins, Moves, Splits, shown, status}
use Rattle.board_steps.specs.Steps.{joined_view, kept_view, looked, new_view}
use Rattle.board_steps.proofs.Views.{looked_sends, cut_sends, joined_sends, spent_sends}
use Rattle.board_steps.proofs.Passes.{total_cut, total_join}
use Rattle.board_steps.proofs.Statuses.{status_same, status_snoc, looked_own, kept_own, new_own, joined_status}
use Rattle.board_steps.proofs.Showing.{shown_same}
use Rattle.board_steps.proofs.Events.{sum_same}

pub look_shows_nothing : (b : Slab) (s s' : State Cell View) (id : ℕ) (v : View) (t word : ℕ) → Moves b s s' id v (looked v t word)
    → shown b s' ≡ shown b s
look_shows_nothing b s s' id v t word m = shown_same b s s' m.before m.after
    (λ n _. ap (status n) m.views ∙ status_same n s.views id v (looked v t word) m.at (looked_own v t word n))
    (λ n d _ _. sum_same b s s' id v (looked v t word) m (sends n d) (looked_sends v t word n d))

pub split_shows_nothing : (b : Slab) (s s' : State Cell View) (id : ℕ) (v : View) → Splits b s s' id v (kept_view v) (new_view v)
    → shown b s' ≡ shown b s
split_shows_nothing b s s' id v m = shown_same b s s' m.before m.after
    (λ n _. ap (status n) m.views ∙ status_snoc n (set s.views id (kept_view v)) (new_view v) (new_own v n)
    ∙ status_same n s.views id v (kept_view v) m.at (kept_own v n))
    (λ n d _ _. ap (total (sends n d)) m.views ∙ total_cut (sends n d) s.views id v (kept_view v) (new_view v) m.at (cut_sends v n d))

pub join_shows_nothing : (b : Slab) (s s' : State Cell View) (id other : ℕ) (v u : View) → u.held ≡ None
    → Joins b s s' id other v u (joined_view v u) spent
    → shown b s' ≡ shown b s
join_shows_nothing b s s' id other v u idle m = shown_same b s s' m.before m.after
    (λ n near. ap (status n) m.views ∙ joined_status s.views id other v u n m.at m.there m.apart idle (m.before.tiles n near).once)
    (λ n d _ _. ap (total (sends n d)) m.views
    ∙ total_join (sends n d) s.views id other v u (joined_view v u) m.at (set_else s.views id other (joined_view v u) m.apart ∙ m.there)
    (joined_sends v u idle n d) (spent_sends n d))
