-- A change of one tile that keeps a legal state legal.
use Rattle.std.proofs.Common.{◌≡◌, ℕ, ◌<◌, Bool, true, false, ap, arith, inl, inr, refl, sym, ◌∙◌, subst, length-set}
use Rattle.std.proofs.lemmas.Bool.{cases_lt}
use Rattle.tile_shape.specs.Geometry.{IsTile}
use Rattle.tile_shape.specs.declared.tiles.Dir.{Dir}
use Rattle.tile_shape.specs.declared.tiles.Dir.TheVariants.{Right, Bottom, Corner}
use Rattle.tile_shape.specs.declared.tiles.Place.{Place}
use Rattle.tile_shape.specs.declared.tiles.Shape.{Shape}
use Rattle.board_core.specs.declared.events.Event.{Event}
use Rattle.board_core.specs.declared.events.Event.TheVariants.{Take, Send, Post}
use Rattle.board_core.specs.declared.events.CoreFault.TheVariants as fault
use Rattle.board_core.specs.declared.tiles.Status.{Status}
use Rattle.board_core.specs.declared.tiles.Status.TheVariants.{Waiting, Taken, Posted}
use Rattle.board_core.specs.declared.tiles.TileState.{TileState}
use Rattle.board_core.specs.Legal.{Legal}
use Rattle.board_core.specs.States.{CoreState, IsCore, has_sent, sent, tile_at}
use Rattle.board_core.specs.Steps.{Gives, IsAccepted, after, with_sent, with_tile}
use Rattle.board_core.proofs.Numbers.{changed}
use Rattle.board_core.proofs.Once.{sent_once}

pub taken_waits : (seat : ℕ) → ¬ (Status.Taken seat ≡ Status.Waiting)
taken_waits seat e = cc

pub posted_waits : (seat : ℕ) → ¬ (Status.Posted seat ≡ Status.Waiting)
posted_waits seat e = cc

pub taken_posted : (seat other : ℕ) → ¬ (Status.Taken seat ≡ Status.Posted other)
taken_posted seat other e = cc

pub not_false : (b : Bool) → ¬ (b ≡ false) → b ≡ true
not_false true h = refl
not_false false h = absurd (h refl)

-- What a tile is changed to.
pub record IsChange (core : CoreState) (p : Place) (t : TileState) : Type 0 where
  pub tile : IsTile core.shape p
  pub begun : ¬ (t.status ≡ Waiting)
  pub keeps : (d : Dir) → sent core p d ≡ true → has_sent t d ≡ true
  pub needs : (from : Place) (d : Dir) → Gives core.shape from d p → sent core from d ≡ true
  pub given : (seat : ℕ) → t.status ≡ Posted seat → (to : Place) (d : Dir) → Gives core.shape p d to → has_sent t d ≡ true

pub whole_after : (core : CoreState) (p : Place) (t : TileState) → IsCore core → IsCore (with_tile core p t)
whole_after core p t whole = record { shape = whole.shape; count = length-set core.tiles _ t ∙ whole.count }

pub legal_after : (core : CoreState) (p : Place) (t : TileState) → IsCore core → Legal core → IsChange core p t → Legal (with_tile core p t)
legal_after core p t whole h x =
    let new = with_tile core p t in
    let more = λ (q : Place) (d : Dir) (tile : IsTile core.shape q) (was : sent core q d ≡ true). elim
    (changed core p q t whole x.tile tile) as (λ _. sent new q d ≡ true) [
      | inl here ↦ ap (λ (s : TileState). has_sent s d) here.1 ∙ x.keeps d (ap (λ o. sent core o d) (sym here.0) ∙ was)
      | inr same ↦ ap (λ (s : TileState). has_sent s d) same ∙ was
    ] in
    record {
      source = λ from d tile is. elim (changed core p from t whole x.tile tile) [
        | inl here ↦ λ waits. x.begun (ap (λ (s : TileState). s.status) (sym here.1) ∙ waits)
        | inr same ↦ λ waits. h.source from d tile (ap (λ (s : TileState). has_sent s d) (sym same) ∙ is)
            (ap (λ (s : TileState). s.status) (sym same) ∙ waits)
      ];
      needs = λ from to d g begun. more from d g.source (elim (changed core p to t whole x.tile g.receiver) [
        | inl here ↦ let Q : Place → Type 0 = λ o. Gives core.shape from d o in x.needs from d (subst Q here.0 g)
        | inr same ↦ h.needs from to d g (λ waits. begun (ap (λ (s : TileState). s.status) same ∙ waits))
      ]);
      given = λ from to d g posted. elim (changed core p from t whole x.tile g.source) [
        | inl here ↦
            let Q : Place → Type 0 = λ o. Gives core.shape o d to in
            ap (λ (s : TileState). has_sent s d) here.1
            ∙ x.given posted.0 (ap (λ (s : TileState). s.status) (sym here.1) ∙ posted.1) to d (subst Q here.0 g)
        | inr same ↦ more from d g.source (h.given from to d g (posted.0, ap (λ (s : TileState). s.status) (sym same) ∙ posted.1))
      ];
      once = sent_once new;
    }

-- ---- each event

below : (a b : ℕ) → ¬ ¬ (a < b) → a < b
below a b h = elim (cases_lt a b) [
  | inl less ↦ less
  | inr not_less ↦ absurd (h (λ less. let wrong : ⊥ = omega arith in wrong))
]

known_tile : (s : Shape) (p : Place) → ¬ ¬ IsTile s p → IsTile s p
known_tile s p h = record {
  column = below _ _ (λ outside. h (λ tile. outside tile.column));
  band = below _ _ (λ outside. h (λ tile. outside tile.band));
}

keeps_sent : (t : TileState) (d e : Dir) → has_sent t e ≡ true → has_sent (with_sent t d) e ≡ true
keeps_sent t Right Right was = refl
keeps_sent t Right Bottom was = was
keeps_sent t Right Corner was = was
keeps_sent t Bottom Right was = was
keeps_sent t Bottom Bottom was = refl
keeps_sent t Bottom Corner was = was
keeps_sent t Corner Right was = was
keeps_sent t Corner Bottom was = was
keeps_sent t Corner Corner was = refl

status_kept : (t : TileState) (d : Dir) → (with_sent t d).status ≡ t.status
status_kept t Right = refl
status_kept t Bottom = refl
status_kept t Corner = refl

same_sent : (t : TileState) (s : Status) (d : Dir) → has_sent t d ≡ true
    → has_sent (record { status = s; right = t.right; bottom = t.bottom; corner = t.corner }) d ≡ true
same_sent t s Right was = was
same_sent t s Bottom was = was
same_sent t s Corner was = was

pub whole_event : (core : CoreState) (e : Event) → IsCore core → IsCore (after core e)
whole_event core (Take p seat) whole = whole_after core p _ whole
whole_event core (Send p d seat) whole = whole_after core p _ whole
whole_event core (Post p seat) whole = whole_after core p _ whole

pub shape_kept : (core : CoreState) (e : Event) → (after core e).shape ≡ core.shape
shape_kept core (Take p seat) = refl
shape_kept core (Send p d seat) = refl
shape_kept core (Post p seat) = refl

pub legal_event : (core : CoreState) (e : Event) → IsCore core → Legal core → IsAccepted core e → Legal (after core e)
legal_event core (Take p seat) whole h may = legal_after core p _ whole h (record {
  tile = known_tile core.shape p (may fault.NoSuchTile);
  begun = taken_waits seat;
  keeps = same_sent (tile_at core p) (Taken seat);
  needs = λ from d g. not_false _
      (λ unsent. may fault.Taken (λ waits. may fault.NotReady (waits, (d, record { from = from; gives = g; unsent = unsent }))));
  given = λ other posted. absurd (taken_posted seat other posted);
})
legal_event core (Send p d seat) whole h may = legal_after core p _ whole h (record {
  tile = known_tile core.shape p (λ h. may fault.NoSuchTile (λ known. h known.0));
  begun = λ waits. may fault.NotYours (λ yours. taken_waits seat (sym yours ∙ sym (status_kept (tile_at core p) d) ∙ waits));
  keeps = λ e was. keeps_sent (tile_at core p) d e was;
  needs = λ from way g. h.needs from p way g (λ waits. may fault.NotYours (λ yours. taken_waits seat (sym yours ∙ waits)));
  given = λ other posted. absurd
      (may fault.NotYours (λ yours. taken_posted seat other (sym yours ∙ sym (status_kept (tile_at core p) d) ∙ posted)));
})
legal_event core (Post p seat) whole h may = legal_after core p _ whole h (record {
  tile = known_tile core.shape p (may fault.NoSuchTile);
  begun = posted_waits seat;
  keeps = same_sent (tile_at core p) (Posted seat);
  needs = λ from way g. h.needs from p way g (λ waits. may fault.NotYours (λ yours. taken_waits seat (sym yours ∙ waits)));
  given = λ other posted to d g. same_sent (tile_at core p) (Posted seat) d
      (not_false _ (λ unsent. may fault.Unsent (d, record { to = to; gives = g; unsent = unsent })));
})
