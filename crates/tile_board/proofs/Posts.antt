-- What a tile gives goes into its slots, and these go back to the table.
use Rattle.std.proofs.Common.{◌≡◌, ℕ, zero, suc, ◌+◌, ◌*◌, ◌<◌, ◌||◌, ◌==◌, Bool, true, false, [], ◌∷◌, ◌++◌, Option, Some, None, refl, sym}
use Rattle.std.proofs.Common.{◌∙◌, ap, subst, append_assoc, append-nil, eq-eqb}
use Rattle.atomic_table.specs.Table.{Me, rest, turned}
use Rattle.tile_shape.specs.Geometry.{IsTile, bands_of, columns_of}
use Rattle.tile_shape.specs.declared.tiles.Place.{Place}
use Rattle.tile_border.specs.declared.task.Done.{Done}
use Rattle.tile_border.specs.Works.{IsWhole}
use Rattle.tile_border.proofs.Given.{given-is}
use Rattle.board_steps.specs.Content.{cell_of}
use Rattle.board_steps.specs.Rule.{has, setting_of}
use Rattle.board_steps.specs.Steps.{AllSent, MayPost, emptied_hand, own_slot, sent_view, SentTo}
use Rattle.board_steps.specs.declared.rule.Cell.{Cell}
use Rattle.board_steps.specs.declared.rule.Cell.TheVariants.{Empty}
use Rattle.board_steps.specs.declared.rule.Slab.{Slab}
use Rattle.board_steps.specs.declared.rule.View.{View}
use Rattle.tile_board.specs.Hand.{hand_at, hand_of, held_number}
use Rattle.tile_board.specs.Room.{GivesEdge, comes, emptied, gave_view}
use Rattle.tile_board.specs.Slabs.{amounts_of, number_in, shape_of, top_edges}
use Rattle.tile_border.specs.Given.{gave}
use Rattle.tile_board.specs.Tasks.{IsDoneOf}
use Rattle.tile_board.proofs.Handed.{content-is, gives}
use Rattle.tile_board.proofs.Hands.{Hand}
use Rattle.board_core.proofs.Numbers.{number_below}

-- a tile that comes back right is what its content says
pub gave-is : (b : Slab) (done : Done) → IsDoneOf b done → IsWhole (gave done) → gave done ≡ gives b done.place
gave-is b done is whole = given-is b.kernel (amounts_of b) (top_edges b) done.place (gave done) is.inks whole is.done

pub gave-cell : (b : Slab) (done : Done) (d : ℕ) → IsTile (shape_of b) done.place → IsDoneOf b done → IsWhole (gave done)
    → cell_of (gave done) d ≡ (setting_of b).content (number_in b done.place) d
gave-cell b done d tile is whole = ap (λ g. cell_of g d) (gave-is b done is whole) ∙ sym (content-is b d done.place tile)

-- ---- the edges that were sent

-- the view after three edges are given
abbrev pub gave_all : Slab → ℕ → View → View
gave_all b t v =
    gave_view (gave_view (gave_view v 0 ((setting_of b).graph.next t 0)) 1 ((setting_of b).graph.next t 1)) 2
    ((setting_of b).graph.next t 2)

has-gave : (v : View) (d e p : ℕ) (o : Option ℕ) → o ≡ Some p → d ≡ e → has e (gave_view v d o).sent ≡ true
has-gave v d e p o at same = ap (λ q. has e (gave_view v d q).sent) at ∙ ap (λ b. b || has e v.sent) (eq-eqb d e same)

has-keeps : (v : View) (d e : ℕ) (o : Option ℕ) → has e v.sent ≡ true → has e (gave_view v d o).sent ≡ true
has-keeps v d e None h = h
has-keeps v d e (Some p) h = ap (λ b. (d == e) || b) h ∙ or-true (d == e)
  where
    or-true : (b : Bool) → (b || true) ≡ true
    or-true true = refl
    or-true false = refl

pub all-sent : (b : Slab) (t : ℕ) (v : View) → AllSent (setting_of b).graph t (gave_all b t v)
all-sent b t v zero p to =
    let n : ℕ → Option ℕ = (setting_of b).graph.next t in
    let v0 : View = gave_view v 0 (n 0) in
    let v1 : View = gave_view v0 1 (n 1) in
    has-keeps v1 2 0 (n 2) (has-keeps v0 1 0 (n 1) (has-gave v 0 0 p (n 0) to refl))
all-sent b t v (suc zero) p to =
    let n : ℕ → Option ℕ = (setting_of b).graph.next t in
    let v0 : View = gave_view v 0 (n 0) in
    let v1 : View = gave_view v0 1 (n 1) in
    has-keeps v1 2 1 (n 2) (has-gave v0 1 1 p (n 1) to refl)
all-sent b t v (suc (suc zero)) p to =
    let n : ℕ → Option ℕ = (setting_of b).graph.next t in
    let v0 : View = gave_view v 0 (n 0) in
    let v1 : View = gave_view v0 1 (n 1) in
    has-gave v1 2 2 p (n 2) to refl
all-sent b t v (suc (suc (suc d))) p to = absurd (cc)

-- the other fields are unchanged
pub gave-held : (v : View) (d : ℕ) (o : Option ℕ) → (gave_view v d o).held ≡ v.held
gave-held v d None = refl
gave-held v d (Some p) = refl

-- ---- the hand

-- the slots that are left when the dots are put in
abbrev pub left_slots : Slab → ℕ → Hand
left_slots b t = comes b emptied 0 t ++ (comes b emptied 1 t ++ (comes b emptied 2 t ++ []))

abbrev pub own : Slab → ℕ → ℕ → Hand
own b d t = own_slot (setting_of b).content t d ((setting_of b).graph.next t d)

pub order : (a0 a1 a2 o0 o1 o2 : Hand) → (((a0 ++ (a1 ++ (a2 ++ []))) ++ o0) ++ o1) ++ o2 ≡ a0 ++ (a1 ++ (a2 ++ (o0 ++ (o1 ++ (o2 ++ [])))))
order a0 a1 a2 o0 o1 o2 = simp (append_assoc, append-nil) refl

-- ---- one edge

-- the edge is put into the first slot
pub put-front : (b : Slab) (t d slot : ℕ) (x : Cell) (m e : Me Cell View) → slot ≡ 4 * t + d → x ≡ (setting_of b).content t d
    → e ≡ (m.0, (slot, x) ∷ rest m.1) → e.1 ≡ (4 * t + d, (setting_of b).content t d) ∷ rest e.1
put-front b t d slot x m e at is put = ap (λ (z : Me Cell View). z.1) put ∙ (λ i. (at i, is i) ∷ rest ((sym put i).1))

pub sent-gives : (b : Slab) (t d p slot : ℕ) (x : Cell) (m e n : Me Cell View) → (setting_of b).graph.next t d ≡ Some p
    → e ≡ (m.0, (slot, x) ∷ rest m.1) → SentTo d e n → GivesEdge b d t m n
sent-gives b t d p slot x m e n to put sent = record {
  view = ap (λ (z : Me Cell View). z.0) sent ∙ ap (λ (z : Me Cell View). sent_view z.0 d) put ∙ ap (λ o. gave_view m.0 d o) (sym to);
  hand = ap (λ (z : Me Cell View). z.1) sent ∙ ap (λ (z : Me Cell View). rest z.1) put ∙ sym (append-nil (rest m.1))
      ∙ ap (λ o. rest m.1 ++ own_slot (setting_of b).content t d o) (sym to);
}

pub kept-gives : (b : Slab) (t d slot : ℕ) (x : Cell) (m e n : Me Cell View) → (setting_of b).graph.next t d ≡ None → slot ≡ 4 * t + d
    → x ≡ (setting_of b).content t d → e ≡ (m.0, (slot, x) ∷ rest m.1) → n ≡ (e.0, turned e.1) → GivesEdge b d t m n
kept-gives b t d slot x m e n to at is put turn = record {
  view = ap (λ (z : Me Cell View). z.0) turn ∙ ap (λ (z : Me Cell View). z.0) put ∙ ap (λ o. gave_view m.0 d o) (sym to);
  hand = ap (λ (z : Me Cell View). z.1) turn ∙ ap (λ (z : Me Cell View). turned z.1) put ∙ (λ i. rest m.1 ++ (at i, is i) ∷ [])
      ∙ ap (λ o. rest m.1 ++ own_slot (setting_of b).content t d o) (sym to);
}

-- the slot of a tile's direction
pub slot-at : (slot number way t d : ℕ) → slot ≡ 4 * number + way → number ≡ t → way ≡ d → slot ≡ 4 * t + d
slot-at slot number way t d is tile dir = is ∙ (λ i. 4 * tile i + dir i)

-- ---- the post

-- the tile that a pass holds is one of the slab
pub held-tile : (b : Slab) (held : Option Place) (p : Place) (v : View) → v.board ≡ b → held ≡ Some p
    → ((q : Place) → held ≡ Some q → (q.c < columns_of (shape_of v.board)) × (q.j < bands_of (shape_of v.board))) → IsTile (shape_of b) p
held-tile b held p v board is inside =
    let Q : Slab → Type 0 = λ s. (p.c < columns_of (shape_of s)) × (p.j < bands_of (shape_of s)) in
    let h = subst Q board (inside p is) in record { column = h.0; band = h.1 }

-- the slots of a pass before it gives the first edge
held-hand : (b : Slab) (held : Option Place) (p : Place) (m : Me Cell View) → m.0.board ≡ b → held ≡ Some p
    → held_number m.0.board held ≡ m.0.held
    → m.1 ≡ hand_of m.0 → m.1 ≡ emptied_hand b (number_in b p)
held-hand b held p m board is shown hand =
    hand ∙ ap (λ o. hand_at m.0.board o) (sym shown) ∙ ap (λ o. hand_at m.0.board (held_number m.0.board o)) is
    ∙ ap (λ (s : Slab). hand_at s (held_number s (Some p))) board

pub may-post : (b : Slab) (p : Place) (at slot : ℕ) (x : Cell) (held : Option Place) (m0 m1 m2 m3 m4 : Me Cell View) → m0.0.board ≡ b
    → held ≡ Some p
    → IsTile (shape_of b) p → held_number m0.0.board held ≡ m0.0.held → m0.1 ≡ hand_of m0.0 → at ≡ number_in b p → slot ≡ 4 * at + 3
    → GivesEdge b 0 (number_in b p) m0 m1 → GivesEdge b 1 (number_in b p) m1 m2 → GivesEdge b 2 (number_in b p) m2 m3
    → m4 ≡ (m3.0, (slot, x) ∷ rest m3.1) → x ≡ (setting_of b).content (number_in b p) 3 → MayPost (setting_of b) m4 at
may-post b p at slot x held m0 m1 m2 m3 m4 board is tile shown hand number place g0 g1 g2 put content =
    let t : ℕ = number_in b p in
    let Q : ℕ → Type 0 = λ k. MayPost (setting_of b) m4 k in
    let h0 : m0.1 ≡ emptied_hand b t = held-hand b held p m0 board is shown hand in
    let h1 : m1.1 ≡ (4 * t + 1, Empty) ∷ (4 * t + 2, Empty) ∷ (4 * t + 3, Empty) ∷ left_slots b t ++ own b 0 t =
    g0.hand ∙ ap (λ (l : Hand). rest l ++ own b 0 t) h0 in
    let h2 : m2.1 ≡ (4 * t + 2, Empty) ∷ (4 * t + 3, Empty) ∷ (left_slots b t ++ own b 0 t) ++ own b 1 t =
    g1.hand ∙ ap (λ (l : Hand). rest l ++ own b 1 t) h1 in
    let h3 : m3.1 ≡ (4 * t + 3, Empty) ∷ ((left_slots b t ++ own b 0 t) ++ own b 1 t) ++ own b 2 t =
    g2.hand ∙ ap (λ (l : Hand). rest l ++ own b 2 t) h2 in
    let view : m4.0 ≡ gave_all b t m0.0 =
    ap (λ (z : Me Cell View). z.0) put ∙ g2.view ∙ ap (λ (v : View). gave_view v 2 ((setting_of b).graph.next t 2)) (g1.view
    ∙ ap (λ (v : View). gave_view v 1 ((setting_of b).graph.next t 1)) g0.view) in
    let Sent : View → Type 0 = λ v. AllSent (setting_of b).graph t v in
    subst Q (sym number) (record {
      inside = number_below (shape_of b) p tile;
      holds = ap (λ (v : View). v.held) view
          ∙ gave-held _ 2 ((setting_of b).graph.next t 2) ∙ gave-held _ 1 ((setting_of b).graph.next t 1)
          ∙ gave-held m0.0 0 ((setting_of b).graph.next t 0)
          ∙ sym shown ∙ ap (λ o. held_number m0.0.board o) is ∙ ap (λ (s : Slab). held_number s (Some p)) board;
      sent = subst Sent (sym view) (all-sent b t m0.0);
      left = emptied;
      hand = ap (λ (z : Me Cell View). z.1) put ∙ ap (λ (l : Hand). (slot, x) ∷ rest l) h3
          ∙ (λ i. ((place ∙ ap (λ k. 4 * k + 3) number) i, content i) ∷ ((left_slots b t ++ own b 0 t) ++ own b 1 t) ++ own b 2 t)
          ∙ ap (λ (l : Hand). (4 * t + 3, (setting_of b).content t 3) ∷ l)
          (order (comes b emptied 0 t) (comes b emptied 1 t) (comes b emptied 2 t) (own b 0 t) (own b 1 t) (own b 2 t));
    })
