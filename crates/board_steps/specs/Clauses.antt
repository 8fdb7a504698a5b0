-- The rule of the board in plain words, clause by clause.
use Rattle.std.specs.Prelude.{◌≡◌, ◌≢◌, ℕ, ◌+◌, ◌*◌, ◌/◌, ◌%◌, ◌<◌, ◌≤◌, ◌⊎◌, true, length, Some, None, slice_index}
use mathlib.Core.Option.{some, none}
use lib.ListN.{get_elem?}
use Rattle.atomic_table.specs.Table.{State}
use Rattle.board_steps.specs.declared.rule.View.{View}
use Rattle.board_steps.specs.declared.rule.Cell.{Cell}
use Rattle.board_steps.specs.Rule.{Setting, Home, Numbered, has, spent, times, total}
use Rattle.board_steps.specs.Steps.{KnewIn, bit_of}

-- the view holds the tile, or has posted it
abbrev pub Lists : View → ℕ → Type 0
Lists v t = (v.held ≡ Some t) ⊎ (1 ≤ times t v.mine)

-- the view has sent the tile's edge in the direction: it holds the tile and has sent the edge, or has posted the tile
abbrev pub HasSent : View → ℕ → ℕ → Type 0
HasSent v t d = ((v.held ≡ Some t) × (has d v.sent ≡ true)) ⊎ (1 ≤ times t v.mine)

module _ (B : Setting) (s : State Cell View) where
  -- bit n of the word of tile t
  abbrev pub bit : ℕ → ℕ → ℕ
  bit n t = slice_index s.words t / n % 2

  -- f holds of one of the views
  abbrev pub SomeView : (View → Type 0) → Type 0
  SomeView f = (k : ℕ) × (v : View) × (get_elem? s.views k ≡ some v) × f v

  -- the slot of tile t and direction d: its value, or none while a seat has the slot
  abbrev pub home : ℕ → ℕ → Home
  home t d = get_elem? s.homes (4 * t + d)

  -- Of the word of tile t.
  pub record WordClauses (t : ℕ) : Type 0 where
    -- it has no bits but the five, and an arrival bit only where a tile sends that edge
    pub few : slice_index s.words t < 32
    pub arrivals : (d : ℕ) → d < 3 → B.graph.from t d ≡ None → bit (bit_of d) t ≡ 0
    -- Bit 8 is set exactly where a view lists the tile; then only one view does, and only once. Bit 16 is set exactly
    -- where a view has posted the tile.
    pub taken : bit 8 t ≡ 1 → SomeView (λ v. Lists v t)
    pub listed : SomeView (λ v. Lists v t) → bit 8 t ≡ 1
    pub posted : bit 16 t ≡ 1 → SomeView (λ v. times t v.mine ≡ 1)
    pub mine : SomeView (λ v. 1 ≤ times t v.mine) → bit 16 t ≡ 1
    pub one : (k l : ℕ) (v u : View) → get_elem? s.views k ≡ some v → get_elem? s.views l ≡ some u
        → Lists v t → Lists u t → k ≡ l
    pub once : (k : ℕ) (v : View) → get_elem? s.views k ≡ some v → times t v.mine ≤ 1
    pub apart : (k : ℕ) (v : View) → get_elem? s.views k ≡ some v → v.held ≡ Some t → times t v.mine ≡ 0
    -- an arrival bit is set exactly where a view has sent the edge
    pub arrived : (d q : ℕ) → B.graph.from t d ≡ Some q → bit (bit_of d) t ≡ 1 → SomeView (λ v. HasSent v q d)
    pub sent : (d q : ℕ) → B.graph.from t d ≡ Some q → SomeView (λ v. HasSent v q d) → bit (bit_of d) t ≡ 1
    -- where bit 8 is set, so are the arrival bits of all edges that come to the tile
    pub needs : (d q : ℕ) → bit 8 t ≡ 1 → B.graph.from t d ≡ Some q → bit (bit_of d) t ≡ 1

  -- Of a slot that no tile receives: fresh until its tile is taken, out of the table until the tile is posted, and then
  -- back with what the tile gives.
  pub record OwnClauses (t d : ℕ) : Type 0 where
    pub blank : bit 8 t ≡ 0 → home t d ≡ some (some (B.fresh t d))
    pub out : bit 8 t ≡ 1 → bit 16 t ≡ 0 → home t d ≡ some none
    pub gives : bit 16 t ≡ 1 → home t d ≡ some (some (B.content t d))

  -- Of the slot of an edge that tile p receives: fresh until its own tile is taken, out of the table until the edge is
  -- sent, in it with the edge until p is taken, out of it until p is posted, and then back with any value.
  pub record EdgeClauses (t d p : ℕ) : Type 0 where
    pub blank : bit 8 t ≡ 0 → home t d ≡ some (some (B.fresh t d))
    pub out : bit 8 t ≡ 1 → bit (bit_of d) p ≡ 0 → home t d ≡ some none
    pub gives : bit (bit_of d) p ≡ 1 → bit 8 p ≡ 0 → home t d ≡ some (some (B.content t d))
    pub read : bit 8 p ≡ 1 → bit 16 p ≡ 0 → home t d ≡ some none
    pub left : bit 16 p ≡ 1 → (y : Cell) × (home t d ≡ some (some y))

  -- Of a view that is not spent, at its place of the list of views.
  pub record ViewClauses (k : ℕ) (v : View) : Type 0 where
    -- each bit that it knows of is set
    pub knows : (t : ℕ) → t < B.graph.tiles → KnewIn B.graph v t (slice_index s.words t)
    -- its number is its place, and the first pass counts the views
    pub number : v.number ≡ k
    pub made : k ≡ 0 → v.made ≡ length s.views
    pub numbers : Numbered (length s.views) v.mine
    -- it has a part, and a pass that has all is alone
    pub some_part : 1 ≤ v.parts
    pub alone : v.parts ≡ 256 → (l : ℕ) (u : View) → get_elem? s.views l ≡ some u → l ≢ k → u ≡ spent
    -- its board is what the board was made for
    pub board : v.board ≡ B.slab

  -- The whole rule.
  pub record Clauses : Type 0 where
    pub words : (t : ℕ) → t < B.graph.tiles → WordClauses t
    pub own : (t d : ℕ) → t < B.graph.tiles → d < 4 → B.graph.next t d ≡ None → OwnClauses t d
    pub edges : (t d p : ℕ) → t < B.graph.tiles → B.graph.next t d ≡ Some p → EdgeClauses t d p
    pub views : (k : ℕ) (v : View) → get_elem? s.views k ≡ some v → (v ≡ spent) ⊎ ViewClauses k v
    pub parts : total (λ v. v.parts) s.views ≡ 256
