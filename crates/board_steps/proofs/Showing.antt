-- What a state shows, tile by tile.
use Rattle.std.proofs.Common.{◌≡◌, ◌≢◌, ℕ, zero, suc, ◌+◌, ◌<◌, ◌≤◌, eqb, Bool, false, List, ◌∷◌, get_or, set, refl, sym, ap, ap₂, ◌∙◌}
use Rattle.std.proofs.Common.{arith, Option, Some, None}
use Rattle.atomic_table.specs.Table.{State}
use Rattle.board_core.specs.States.{fresh, sent, tile_at}
use Rattle.board_core.specs.Steps.{with_tile}
use Rattle.board_core.specs.declared.tiles.TileState.{TileState}
use Rattle.tile_lanes.specs.Done.{window_of}
use Rattle.tile_shape.specs.Geometry.{IsTile}
use Rattle.tile_shape.specs.declared.tiles.Dir.{Dir}
use Rattle.tile_shape.specs.declared.tiles.Dir.TheVariants.{Right, Bottom, Corner}
use Rattle.tile_shape.specs.declared.tiles.Place.{Place}
use Rattle.board_steps.specs.declared.rule.View.{View}
use Rattle.board_steps.specs.declared.rule.Slab.{Slab}
use Rattle.board_steps.specs.declared.rule.Cell.{Cell}
use Rattle.board_steps.specs.Graph.{Graph, IsGraph}
use Rattle.board_core.specs.Numbers.{number_of}
use Rattle.board_steps.specs.Rule.{setting_of, Ruled, sends, total}
use Rattle.board_steps.specs.Shown.{each, has_come, shown, shown_tile, status}
use Rattle.board_steps.specs.Steps.{index_of}
use Rattle.board_steps.proofs.Places.{window_graph}
use Rattle.board_core.proofs.Numbers.{number_below}
use Rattle.board_steps.proofs.Wording.{edge_bit}

-- ---- a value for each tile

module _ {X : Type 0} where
  each_at : (f : ℕ → X) (k n t : ℕ) (d : X) → t < n → get_or (each f k n) t d ≡ f (k + t)
  each_at f k zero t d h = absurd (omega arith)
  each_at f k (suc n) zero d h = ap f (let g : k ≡ k + 0 = omega arith in g)
  each_at f k (suc n) (suc t) d h = each_at f (suc k) n t d (omega arith) ∙ ap f (let g : suc k + t ≡ k + suc t = omega arith in g)

  each_same : (f g : ℕ → X) (k n : ℕ) → ((q : ℕ) → q < k + n → g q ≡ f q) → each g k n ≡ each f k n
  each_same f g k zero e = refl
  each_same f g k (suc n) e = ap₂ (λ (x : X) (l : List X). x ∷ l) (e k (omega arith)) (each_same f g (suc k) n (λ q h. e q (omega arith)))

  -- one value changes
  each_set : (f g : ℕ → X) (k n t : ℕ) → t < n → ((q : ℕ) → q < k + n → q ≢ k + t → g q ≡ f q) → each g k n ≡ set (each f k n) t (g (k + t))
  each_set f g k zero t h e = absurd (omega arith)
  each_set f g k (suc n) zero h e = ap₂ (λ (x : X) (l : List X). x ∷ l) (ap g (let z : k ≡ k + 0 = omega arith in z))
      (each_from f g (suc k) n (λ q lo hi. e q (omega arith) (λ z. omega arith)))
    where
      each_from : (f g : ℕ → X) (k n : ℕ) → ((q : ℕ) → k ≤ q → q < k + n → g q ≡ f q) → each g k n ≡ each f k n
      each_from f g k zero e = refl
      each_from f g k (suc n) e = ap₂ (λ (x : X) (l : List X). x ∷ l) (e k (omega arith) (omega arith))
          (each_from f g (suc k) n (λ q lo hi. e q (omega arith) (omega arith)))
  each_set f g k (suc n) (suc t) h e =
      let z : k + suc t ≡ suc k + t = omega arith in
      ap₂ (λ (x : X) (l : List X). x ∷ l) (e k (omega arith) (λ y. omega arith)) (each_set f g (suc k) n t (omega arith)
      (λ q hi ne. e q (omega arith) (λ y. ne (y ∙ z))))
      ∙ ap (λ (x : ℕ). f k ∷ set (each f (suc k) n) t (g x)) (sym z)

-- ---- flags

-- whether an edge is sent, by how often it was and the tile that receives it
abbrev pub given : Option ℕ → ℕ → Bool
given None n = false
given (Some p) n = eqb n 1

module _ (b : Slab) (s : State Cell View) (r : Ruled (setting_of b) s) where
  abbrev pub G : Graph
  G = (setting_of b).graph

  abbrev pub S : ℕ → ℕ → ℕ
  S t d = total (sends t d) s.views

  W : IsGraph G
  W = window_graph (window_of b.rows.value)

  pub flag : (t d : ℕ) → t < G.tiles → has_come s.words d (G.next t d) ≡ given (G.next t d) (S t d)
  flag t d near = at (G.next t d) refl
    where
      at : (o : Option ℕ) → G.next t d ≡ o → has_come s.words d o ≡ given o (S t d)
      at None e = refl
      at (Some p) e = let th = W.there t d p near e in ap (λ (x : ℕ). eqb x 1) (edge_bit (setting_of b) W s r p d t th.0 th.3)

  pub tile_is : (p : Place) → IsTile (window_of b.rows.value) p
      → tile_at (shown b s) p ≡ shown_tile G s (number_of (window_of b.rows.value) p)
  unfolding tile_at
  tile_is p tile =
      let t : ℕ = number_of (window_of b.rows.value) p in
      each_at (shown_tile G s) 0 G.tiles t fresh (number_below (window_of b.rows.value) p tile)
      ∙ ap (shown_tile G s) (let z : 0 + t ≡ t = omega arith in z)

  pub sent_is : (p : Place) (d : Dir) → IsTile (window_of b.rows.value) p
      → sent (shown b s) p d ≡ given (G.next (number_of (window_of b.rows.value) p) (index_of d)) (S (number_of (window_of b.rows.value) p)
      (index_of d))
  sent_is p Right tile = ap (λ (t : TileState). t.right) (tile_is p tile) ∙ flag _ 0 (number_below (window_of b.rows.value) p tile)
  sent_is p Bottom tile = ap (λ (t : TileState). t.bottom) (tile_is p tile) ∙ flag _ 1 (number_below (window_of b.rows.value) p tile)
  sent_is p Corner tile = ap (λ (t : TileState). t.corner) (tile_is p tile) ∙ flag _ 2 (number_below (window_of b.rows.value) p tile)

given_same : (o : Option ℕ) (m n : ℕ) → ((p : ℕ) → o ≡ Some p → n ≡ m) → given o n ≡ given o m
given_same None m n e = refl
given_same (Some p) m n e = ap (λ (x : ℕ). eqb x 1) (e p refl)

-- ---- two states

module _ (b : Slab) (s s' : State Cell View) (r : Ruled (setting_of b) s) (r' : Ruled (setting_of b) s') where
  abbrev Tile : ℕ → TileState
  Tile = shown_tile (setting_of b).graph s

  abbrev Tile' : ℕ → TileState
  Tile' = shown_tile (setting_of b).graph s'

  -- the sends of a tile that a tile receives stay
  abbrev pub KeepsSends : ℕ → ℕ → Type 0
  KeepsSends t d = (p : ℕ) → (setting_of b).graph.next t d ≡ Some p → total (sends t d) s'.views ≡ total (sends t d) s.views

  pub flag_same : (t d : ℕ) → t < (setting_of b).graph.tiles → KeepsSends t d
      → has_come s'.words d ((setting_of b).graph.next t d) ≡ has_come s.words d ((setting_of b).graph.next t d)
  flag_same t d near e = flag b s' r' t d near ∙ given_same ((setting_of b).graph.next t d) _ _ e ∙ sym (flag b s r t d near)

  pub tile_same : (t : ℕ) → t < (setting_of b).graph.tiles → status t s'.views ≡ status t s.views → ((d : ℕ) → KeepsSends t d)
      → Tile' t ≡ Tile t
  tile_same t near e f = λ i. record {
    status = e i;
    right = flag_same t 0 near (f 0) i;
    bottom = flag_same t 1 near (f 1) i;
    corner = flag_same t 2 near (f 2) i;
  }

  -- nothing of what is shown changes
  pub shown_same : ((t : ℕ) → t < (setting_of b).graph.tiles → status t s'.views ≡ status t s.views)
      → ((t d : ℕ) → KeepsSends t d) → shown b s' ≡ shown b s
  shown_same e f = ap (λ (l : List TileState). record { shape = window_of b.rows.value; tiles = l })
      (each_same Tile Tile' 0 (setting_of b).graph.tiles (λ t h. tile_same t (omega arith) (e t (omega arith)) (f t)))

  -- one tile changes
  pub shown_set : (p : Place) (x : TileState) → IsTile (window_of b.rows.value) p → Tile' (number_of (window_of b.rows.value) p) ≡ x
      → ((t : ℕ) → t < (setting_of b).graph.tiles → t ≢ number_of (window_of b.rows.value) p → status t s'.views ≡ status t s.views)
      → ((t d : ℕ) → t ≢ number_of (window_of b.rows.value) p → KeepsSends t d) → shown b s' ≡ with_tile (shown b s) p x
  shown_set p x tile is e f =
      let n : ℕ = number_of (window_of b.rows.value) p in
      ap (λ (l : List TileState). record { shape = window_of b.rows.value; tiles = l })
      (each_set Tile Tile' 0 (setting_of b).graph.tiles n (number_below (window_of b.rows.value) p tile)
      (λ t h ne. let other : t ≢ n = λ z. ne (omega arith) in tile_same t (omega arith) (e t (omega arith) other) (λ d. f t d other))
      ∙ ap (set (each Tile 0 (setting_of b).graph.tiles) n) (ap Tile' (let z : 0 + n ≡ n = omega arith in z) ∙ is))
