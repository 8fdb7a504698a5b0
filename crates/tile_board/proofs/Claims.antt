-- The answers of a claim.
use Rattle.std.proofs.Common.{◌≡◌, ℕ, ◌+◌, ◌/◌, ◌%◌, ◌<◌, ◌≤◌, ◌↔◌, ◌==◌, true, [], refl, sym, ap, ◌∙◌, subst, arith, Option, Some, None}
use Rattle.std.proofs.Common.{inl, inr}
use Rattle.std.proofs.lemmas.Bool.{cases_lt}
use Rattle.atomic_table.specs.Table.{Me}
use Rattle.tile_shape.specs.Geometry.{IsNeeded, IsTile, bands_of, columns_of}
use Rattle.tile_shape.specs.declared.tiles.Dir.{Dir}
use Rattle.tile_shape.specs.declared.tiles.Dir.TheVariants.{Right, Bottom, Corner}
use Rattle.tile_shape.specs.declared.tiles.Needs.{Needs}
use Rattle.tile_shape.specs.declared.tiles.Place.{Place}
use Rattle.tile_shape.specs.declared.tiles.Shape.{Shape}
use Rattle.board_steps.specs.Graph.{Graph, graph_of}
use Rattle.board_core.specs.Numbers.{number_of}
use Rattle.board_steps.specs.Rule.{Within, arrived, lists, one_if, posts, sends, setting_of, times}
use Rattle.board_steps.specs.Steps.{HasNeeds, IsReadyFor, index_of, KnewIn, LookedIn, Looked, Took, TookIn, looked, taken}
use Rattle.board_steps.specs.declared.rule.Cell.{Cell}
use Rattle.board_steps.specs.declared.rule.Slab.{Slab}
use Rattle.board_steps.specs.declared.rule.View.{View}
use Rattle.tile_board.specs.Board.{Gets, Kept, Lacks, LacksEdge, Refused, arrival}
use Rattle.tile_board.specs.Hand.{hand_of, held_number}
use Rattle.tile_board.specs.Slabs.{number_in, shape_of}
use Rattle.tile_board.proofs.Numbers.{IsSource, above-source, corner-source, left-source, no-above, no-corner, no-left}

-- ---- views

times-lists : (p : ℕ) (v : View) → times p v.mine ≤ lists p v
unfolding lists
times-lists p v = omega arith

times-sends : (p d : ℕ) (v : View) → times p v.mine ≤ sends p d v
unfolding sends
times-sends p d v = omega arith

idle-lists : (v : View) (p : ℕ) → v.held ≡ None → lists p v ≡ times p v.mine
unfolding lists
idle-lists v p idle = ap (λ o. held o + times p v.mine) idle ∙ omega arith
  where
    held : Option ℕ → ℕ
    held None = 0
    held (Some q) = one_if (q == p)

kept-once : (v : View) (at x : ℕ) → Kept v (looked v at x)
kept-once v at x = record {
  number = refl;
  made = refl;
  mine = refl;
  parts = refl;
  board = refl;
  looks = let e : (looked v at x).looks ≡ v.looks + 1 = refl in omega arith;
}

kept-twice : (v : View) (at x y : ℕ) → Kept v (looked (looked v at x) at y)
kept-twice v at x y = record {
  number = refl;
  made = refl;
  mine = refl;
  parts = refl;
  board = refl;
  looks = let e : (looked (looked v at x) at y).looks ≡ v.looks + 1 + 1 = refl in omega arith;
}

within-trans : (w x y : ℕ) → Within w x → Within x y → Within w y
within-trans w x y h k = record {
  right = let a = h.right in let b = k.right in omega arith;
  bottom = let a = h.bottom in let b = k.bottom in omega arith;
  corner = let a = h.corner in let b = k.corner in omega arith;
  taken = let a = h.taken in let b = k.taken in omega arith;
  posted = let a = h.posted in let b = k.posted in omega arith;
}

-- what the pass knew before a look it knows after it
knew-before : (G : Graph) (v : View) (at x y : ℕ) → KnewIn G v at x → KnewIn G (looked v at x) at y → KnewIn G v at y
unfolding sends lists posts
knew-before G v at x y h k = record {
  right = k.right;
  bottom = k.bottom;
  corner = k.corner;
  taken = k.taken;
  posted = k.posted;
  seen = λ w e. within-trans w x y (h.seen w e) (k.seen x refl);
}

looked-lists : (v : View) (at x p : ℕ) → lists p (looked v at x) ≡ lists p v
unfolding lists
looked-lists v at x p = refl

-- ---- what a look and a take tell, of the board's slab and the tile's number

pub told-at : {b : Slab} (t : Place) {at word : ℕ} {m n : Me Cell View} → at ≡ number_in b t → m.0.board ≡ b → Looked m.0.board at m word n
    → LookedIn (setting_of b) (number_in b t) m word n
told-at {b} t {at} {word} {m} {n} is board told =
    let Of : Slab → Type 0 = λ s. Looked s at m word n in
    let At : ℕ → Type 0 = λ k. LookedIn (setting_of b) k m word n in
    subst At is (subst Of board told)

pub took-at : {b : Slab} (t : Place) {at word : ℕ} {m n : Me Cell View} → at ≡ number_in b t → m.0.board ≡ b → Took m.0.board at m word n
    → TookIn (setting_of b) (number_in b t) m word n
took-at {b} t {at} {word} {m} {n} is board told =
    let Of : Slab → Type 0 = λ s. Took s at m word n in
    let At : ℕ → Type 0 = λ k. TookIn (setting_of b) k m word n in
    subst At is (subst Of board told)

-- ---- the tile is gone

abbrev pub GoneIs : Slab → View → Place → ℕ → View → Type 0
GoneIs b v t word w = Refused b v t word w × (word / 8 % 2 ≡ 1) × (v.parts ≡ 256 → times (number_in b t) v.mine ≡ 1)

pub gone-first : (b : Slab) (t : Place) (word : ℕ) (m n : Me Cell View) → m.0.held ≡ None → LookedIn (setting_of b) (number_in b t) m word n
    → word / 8 % 2 ≡ 1 → GoneIs b m.0 t word n.0
gone-first b t word m n idle told gone =
    let Q : View → Type 0 = λ w. GoneIs b m.0 t word w in
    subst Q (sym (ap (λ (x : Me Cell View). x.0) told.0)) (
      record { kept = kept-once m.0 (number_in b t) word; held = idle; sent = refl; seen = refl; knew = told.1.knew },
      gone,
      λ all. let a = told.1.alone all in let l = idle-lists m.0 (number_in b t) idle in omega arith,
    )

pub gone-second : (b : Slab) (t : Place) (x y : ℕ) (m n o : Me Cell View) → m.0.held ≡ None → LookedIn (setting_of b) (number_in b t) m x n
    → TookIn (setting_of b) (number_in b t) n y o → y / 8 % 2 ≡ 1 → GoneIs b m.0 t y o.0
gone-second b t x y m n o idle told took gone =
    let at : ℕ = number_in b t in
    let e : n.0 ≡ looked m.0 at x = ap (λ (z : Me Cell View). z.0) told.0 in
    let Knows : View → Type 0 = λ u. KnewIn (graph_of (shape_of b)) u at y in
    let k : KnewIn (graph_of (shape_of b)) (looked m.0 at x) at y = subst Knows e took.found.knew in
    let f : o.0 ≡ looked (looked m.0 at x) at y = ap (λ (z : Me Cell View). z.0) (took.gone gone) ∙ ap (λ (u : View). looked u at y) e in
    let Q : View → Type 0 = λ w. GoneIs b m.0 t y w in
    subst Q (sym f) (
      record {
        kept = kept-twice m.0 at x y;
        held = idle;
        sent = refl;
        seen = refl;
        knew = knew-before (graph_of (shape_of b)) m.0 at x y told.1.knew k;
      },
      gone,
      λ all.
          let a = took.found.alone (ap (λ (u : View). u.parts) e ∙ all) in
          let l = idle-lists m.0 at idle in
          let c = ap (λ (u : View). lists at u) e in
          let d = looked-lists m.0 at x at in omega arith,
    )

-- ---- an edge is lacking

-- Which edges a tile needs, as the code tests it.
pub record NeedsOf (s : Shape) (p : Place) (needs : Needs) : Type 0 where
  pub left : (needs.left ≡ true) ↔ IsNeeded s Right p
  pub above : (needs.above ≡ true) ↔ IsNeeded s Bottom p
  pub corner : (needs.corner ≡ true) ↔ IsNeeded s Corner p

-- an edge that has not come was not posted by the pass
not-mine : (s : Shape) (v : View) (d : Dir) (p from : Place) (bit : ℕ) → IsSource s d p from
    → arrived (λ q. sends q (index_of d) v) ((graph_of s).from (number_of s p) (index_of d)) ≤ bit → bit ≡ 0
    → times (number_of s from) v.mine ≡ 0
not-mine s v d p from bit source knew clear =
    let a = ap (λ o. arrived (λ q. sends q (index_of d) v) o) source.number in
    let c = times-sends (number_of s from) (index_of d) v in
    let n : ℕ = sends (number_of s from) (index_of d) v in
    let k : n ≤ bit = omega arith in
    omega arith

-- a tile lacks the edge of a source that has not come
lacks-from : (b : Slab) (v : View) (d : Dir) (t from : Place) (word : ℕ) → IsSource (shape_of b) d t from
    → arrived (λ q. sends q (index_of d) v) ((graph_of (shape_of b)).from (number_in b t) (index_of d)) ≤ arrival d word
    → arrival d word ≡ 0 → LacksEdge b v t word
lacks-from b v d t from word source knew clear = record {
  dir = d;
  from = from;
  tile = source.tile;
  receiver = source.receiver;
  clear = clear;
  not_mine = not-mine (shape_of b) v d t from (arrival d word) source knew clear;
}

pub lacks-edge : (b : Slab) (v : View) (t : Place) (needs : Needs) (word : ℕ) → IsTile (shape_of b) t → NeedsOf (shape_of b) t needs
    → KnewIn (graph_of (shape_of b)) v (number_in b t) word → Lacks needs word → LacksEdge b v t word
lacks-edge b v t needs word tile of knew (inl h) =
    lacks-from b v Right t _ word (left-source (shape_of b) t tile (of.left.0 h.0)) knew.right h.1
lacks-edge b v t needs word tile of knew (inr (inl h)) =
    let needed = of.above.0 h.0 in
    lacks-from b v Bottom t _ word (above-source (shape_of b) t tile needed.0 needed.1) knew.bottom h.1
lacks-edge b v t needs word tile of knew (inr (inr h)) =
    lacks-from b v Corner t _ word (corner-source (shape_of b) t tile (of.corner.0 h.0)) knew.corner h.1

abbrev pub NotReadyIs : Slab → View → Place → ℕ → View → Type 0
NotReadyIs b v t word w = Refused b v t word w × (word / 8 % 2 ≡ 0) × LacksEdge b v t word

pub not-ready : (b : Slab) (t : Place) (needs : Needs) (word : ℕ) (m n : Me Cell View) → IsTile (shape_of b) t
    → NeedsOf (shape_of b) t needs → m.0.held ≡ None
    → LookedIn (setting_of b) (number_in b t) m word n → (word / 8 % 2 ≡ 1 → ⊥) → Lacks needs word → NotReadyIs b m.0 t word n.0
not-ready b t needs word m n tile of idle told free lacks =
    let Q : View → Type 0 = λ w. NotReadyIs b m.0 t word w in
    subst Q (sym (ap (λ (x : Me Cell View). x.0) told.0)) (
      record { kept = kept-once m.0 (number_in b t) word; held = idle; sent = refl; seen = refl; knew = told.1.knew },
      omega arith,
      lacks-edge b m.0 t needs word tile of told.1.knew lacks,
    )

some-none : (p : ℕ) → Some p ≡ None → ⊥
some-none p e = cc

-- where no needed bit is clear, each edge has come
pub has-needs : (s : Shape) (p : Place) (needs : Needs) (word : ℕ) → IsTile s p → NeedsOf s p needs → (Lacks needs word → ⊥)
    → HasNeeds (graph_of s) (number_of s p) word
has-needs s p needs word tile of none = (
  λ q e. elim (cases_lt 0 p.c) [
    | inl some ↦ elim (cases_lt 0 (word % 2)) [ inl set ↦ omega arith | inr clear ↦ absurd (none (inl (of.left.1 some, omega arith))) ]
    | inr first ↦ absurd (some-none q (sym e ∙ no-left s p tile (omega arith)))
  ],
  λ q e. elim (cases_lt 0 p.j) [
    | inl later ↦ elim (cases_lt (p.c + 1) (columns_of s)) [
      | inl there ↦
          elim (cases_lt 0 (word / 2 % 2))
          [ inl set ↦ omega arith | inr clear ↦ absurd (none (inr (inl (of.above.1 (later, there), omega arith)))) ]
      | inr last ↦ absurd (some-none q (sym e ∙ no-above s p tile (inr last)))
    ]
    | inr first ↦ absurd (some-none q (sym e ∙ no-above s p tile (inl (omega arith))))
  ],
  λ q e. elim (cases_lt 0 p.j) [
    | inl later ↦
        elim (cases_lt 0 (word / 4 % 2)) [ inl set ↦ omega arith | inr clear ↦ absurd (none (inr (inr (of.corner.1 later, omega arith)))) ]
    | inr first ↦ absurd (some-none q (sym e ∙ no-corner s p tile (omega arith)))
  ],
)

pub ready-for : (b : Slab) (t : Place) (needs : Needs) (at word : ℕ) (m n : Me Cell View) → at ≡ number_in b t → IsTile (shape_of b) t
    → NeedsOf (shape_of b) t needs
    → LookedIn (setting_of b) (number_in b t) m word n → (Lacks needs word → ⊥) → IsReadyFor (graph_of (shape_of b)) at n.0
ready-for b t needs at word m n is tile of told none =
    let Q : ℕ → Type 0 = λ k. IsReadyFor (graph_of (shape_of b)) k n.0 in
    subst Q (sym is)
    (record {
      word = word;
      seen = ap (λ (z : Me Cell View). z.0.seen) told.0;
      needs = has-needs (shape_of b) t needs word tile of none;
    })

-- ---- the tile is had

pub gets : (b : Slab) (t : Place) (x y : ℕ) (m n o : Me Cell View) → LookedIn (setting_of b) (number_in b t) m x n
    → TookIn (setting_of b) (number_in b t) n y o → (y / 8 % 2 ≡ 1 → ⊥) → Gets b m.0 t o.0
gets b t x y m n o told took free =
    let at : ℕ = number_in b t in
    let clear : y / 8 % 2 ≡ 0 = omega arith in
    let e : n.0 ≡ looked m.0 at x = ap (λ (z : Me Cell View). z.0) told.0 in
    let f : o.0 ≡ taken (looked m.0 at x) at = ap (λ (z : Me Cell View). z.0) (took.got clear) ∙ ap (λ (u : View). taken u at) e in
    let Q : View → Type 0 = λ w. Gets b m.0 t w in
    subst Q (sym f) (record {
      kept = record {
        number = refl;
        made = refl;
        mine = refl;
        parts = refl;
        board = refl;
        looks = let h : (looked m.0 at x).looks ≡ m.0.looks + 1 = refl in omega arith;
      };
      held = refl;
      sent = refl;
      word = x;
      seen = refl;
      not_mine =
          let k = took.found.knew.taken in
          let l = times-lists at m.0 in
          let c = ap (λ (u : View). lists at u) e in
          let d = looked-lists m.0 at x at in omega arith;
    })

-- ---- a pass whose view has looked

-- what holds of the view of a pass and of its slots between calls
pub record PassOk (parts : ℕ) (held : Option Place) (m : Me Cell View) : Type 0 where
  pub counted : (parts ≡ m.0.parts) × (1 ≤ parts) × (parts ≤ 256)
  pub shown : held_number m.0.board held ≡ m.0.held
  pub inside : (p : Place) → held ≡ Some p → (p.c < columns_of (shape_of m.0.board)) × (p.j < bands_of (shape_of m.0.board))
  pub hand : m.1 ≡ hand_of m.0
  pub unsent : m.0.sent ≡ []

pub looked-ok : (parts : ℕ) (held : Option Place) (at x y : ℕ) (m n o : Me Cell View) → n ≡ (looked m.0 at x, m.1)
    → o ≡ (looked n.0 at y, n.1)
    → PassOk parts held m → PassOk parts held o
looked-ok parts held at x y m n o first second ok =
    let Q : Me Cell View → Type 0 = λ z. PassOk parts held z in
    let n-ok : PassOk parts held n =
    subst Q (sym first) (record { counted = ok.counted; shown = ok.shown; inside = ok.inside; hand = ok.hand; unsent = ok.unsent }) in
    subst Q (sym second)
    (record { counted = n-ok.counted; shown = n-ok.shown; inside = n-ok.inside; hand = n-ok.hand; unsent = n-ok.unsent })
