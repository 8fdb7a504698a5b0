-- The rule of a board, over its words, its slots and the views of all passes; `Clauses` says the same in plain words.
-- A word has bits 1, 2 and 4 where the edges of directions 0 to 2 have arrived, 8 where the tile is taken, and 16
-- where it is posted. Slot 4 t + d is for what tile t gives in the direction d, or for its dots where d is 3.
use Rattle.std.specs.Prelude.{◌≡◌, ℕ, ◌+◌, ◌*◌, ◌/◌, ◌%◌, ◌<◌, ◌≤◌, ◌⊎◌, ◌==◌, ◌||◌, Bool, true, false, List, [], ◌∷◌, length, Option, Some}
use Rattle.std.specs.Prelude.{None, slice_index}
use mathlib.Core.Option.{some, none}
use mathlib.Core.Option as maybe
use lib.ListN.{get_elem?}
use Rattle.atomic_table.specs.Table.{State}
use Rattle.diffusion_kernel.specs.declared.tables.Kernel.TheVariants.{Floyd}
use Rattle.tile_lanes.specs.Done.{window_of}
use Rattle.tile_shape.specs.declared.tiles.Shape.{Shape}
use Rattle.board_steps.specs.declared.rule.View.{View}
use Rattle.board_steps.specs.declared.rule.Slab.{Slab}
use Rattle.board_steps.specs.declared.rule.Cell.{Cell}
use Rattle.board_steps.specs.Graph.{Graph, graph_of}
use Rattle.board_steps.specs.Content.{content_of, fresh_of}

-- What a board is made for: its tiles, what each gives in each direction, the value of a slot until its tile is taken,
-- and what the tiles are diffused from.
pub record Setting : Type 0 where
  pub graph : Graph
  pub content : ℕ → ℕ → Cell
  pub fresh : ℕ → ℕ → Cell
  pub slab : Slab

-- the slot of a waiting tile t of a window for direction d, in this many inks
abbrev pub fresh_in : Shape → ℕ → ℕ → ℕ → Cell
fresh_in s inks t d = fresh_of inks d ((graph_of s).from t d)

-- the setting of a slab
abbrev pub setting_of : Slab → Setting
setting_of b = record {
  graph = graph_of (window_of b.rows.value);
  content = content_of b.rows.value b.kernel b.top.value;
  fresh = fresh_in (window_of b.rows.value) b.rows.value.inks;
  slab = b;
}

-- 1 where the test holds, and else 0
abbrev pub one_if : Bool → ℕ
one_if true = 1
one_if false = 0

-- an empty slab, for spent views
abbrev pub no_slab : Slab
no_slab = record {
  rows = record { marker = record {}; value = record { width = 0; rows = 0; inks = 0; bytes = [] } };
  kernel = Floyd;
  top = record { marker = record {}; value = [] };
}

-- the view that a join leaves to the other pass
abbrev pub spent : View
spent = record { number = 0; made = 0; seen = None; looks = 0; held = None; sent = []; mine = []; parts = 0; board = no_slab }

-- the view of the first pass when a board is made
abbrev pub first_view : Slab → View
first_view b = record { number = 0; made = 1; seen = None; looks = 0; held = None; sent = []; mine = []; parts = 256; board = b }

-- how often a list of tiles and pass numbers has tile p
abbrev pub times : ℕ → List (ℕ × ℕ) → ℕ
times p [] = 0
times p (x ∷ xs) = one_if (x.0 == p) + times p xs

-- whether a list has d
abbrev pub has : ℕ → List ℕ → Bool
has d [] = false
has d (x ∷ xs) = (x == d) || has d xs

-- 1 where the tile that is held is p
abbrev pub is_held : ℕ → Option ℕ → ℕ
is_held p None = 0
is_held p (Some q) = one_if (q == p)

-- 1 where it is p and its edge is sent
abbrev pub is_sent : ℕ → Option ℕ → Bool → ℕ
is_sent p q false = 0
is_sent p q true = is_held p q

-- how often a view has posted tile p
unfoldable pub posts : ℕ → View → ℕ
posts p v = times p v.mine

-- how often it has sent the edge of tile p in the direction d
unfoldable pub sends : ℕ → ℕ → View → ℕ
sends p d v = is_sent p v.held (has d v.sent) + times p v.mine

-- how often it lists tile p, as held or posted
unfoldable pub lists : ℕ → View → ℕ
lists p v = is_held p v.held + times p v.mine

-- the sum of f over the views
unfoldable pub total : (View → ℕ) → List View → ℕ
total f [] = 0
total f (v ∷ vs) = f v + total f vs

-- how often the edge that comes from a tile has been sent, and 0 where no tile sends it
abbrev pub arrived : (ℕ → ℕ) → Option ℕ → ℕ
arrived sent None = 0
arrived sent (Some q) = sent q

-- a slot of the table: its value, or none while a seat has the slot
abbrev pub Home : Type 0
Home = maybe.Option (maybe.Option Cell)

-- A slot that no tile receives, by how often its tile is listed (l) and posted (p).
pub record Outer (blank x : Cell) (h : Home) (l p : ℕ) : Type 0 where
  pub fresh : l ≡ 0 → h ≡ some (some blank)
  pub out : l ≡ 1 → p ≡ 0 → h ≡ some none
  pub done : p ≡ 1 → h ≡ some (some x)

-- The slot of an edge that a tile receives, by how often its own tile is listed (l) and the edge sent (s), and how
-- often the receiver is listed (m) and posted (q).
pub record Inner (blank x : Cell) (h : Home) (l s m q : ℕ) : Type 0 where
  pub fresh : l ≡ 0 → h ≡ some (some blank)
  pub out : l ≡ 1 → s ≡ 0 → h ≡ some none
  pub sent : s ≡ 1 → m ≡ 0 → h ≡ some (some x)
  pub read : m ≡ 1 → q ≡ 0 → h ≡ some none
  pub done : q ≡ 1 → (y : Cell) × (h ≡ some (some y))

module _ (L P : ℕ → ℕ) (s : ℕ) (blank x : Cell) (h : Home) (t : ℕ) where
  -- one of the two, by the tile that receives the edge of tile t
  abbrev pub EdgeIs : Option ℕ → Type 0
  EdgeIs None = Outer blank x h (L t) (P t)
  EdgeIs (Some p) = Inner blank x h (L t) s (L p) (P p)

-- What holds of each tile, by how often all views together list it (L), have posted it (P) and have sent its edges (S).
module _ (B : Setting) (words : List ℕ) (homes : List (maybe.Option Cell)) (L P : ℕ → ℕ) (S : ℕ → ℕ → ℕ) where
  pub record TileOk (t : ℕ) : Type 0 where
    pub word : slice_index words t ≡ arrived (λ q. S q 0) (B.graph.from t 0) + 2 * arrived (λ q. S q 1) (B.graph.from t 1)
        + 4 * arrived (λ q. S q 2) (B.graph.from t 2) + 8 * L t + 16 * P t
    pub once : L t ≤ 1
    pub needs : (d q : ℕ) → B.graph.from t d ≡ Some q → L t ≤ S q d
    pub edges : (d : ℕ) → d < 4 → EdgeIs L P (S t d) (B.fresh t d) (B.content t d) (get_elem? homes (4 * t + d)) t (B.graph.next t d)

-- each of the five bits that is set in one word is set in another
pub record Within (w x : ℕ) : Type 0 where
  pub right : w % 2 ≤ x % 2
  pub bottom : w / 2 % 2 ≤ x / 2 % 2
  pub corner : w / 4 % 2 ≤ x / 4 % 2
  pub taken : w / 8 % 2 ≤ x / 8 % 2
  pub posted : w / 16 % 2 ≤ x / 16 % 2

-- the word that a view last found has no bit that the tile's word now lacks
abbrev pub Sees : (ℕ → ℕ) → Option (ℕ × ℕ) → Type 0
Sees words None = Unit {0}
Sees words (Some x) = Within x.1 (words x.0)

-- each pass number in a list is below the count
abbrev pub Numbered : ℕ → List (ℕ × ℕ) → Type 0
Numbered count [] = Unit {0}
Numbered count (x ∷ xs) = (x.1 < count) × Numbered count xs

-- What holds of the view at a place of the list of views, unless it is spent.
pub record ViewOk (slab : Slab) (words : List ℕ) (count place : ℕ) (v : View) : Type 0 where
  pub number : v.number ≡ place
  pub made : place ≡ 0 → v.made ≡ count
  pub board : v.board ≡ slab
  pub some_part : 1 ≤ v.parts
  pub numbers : Numbered count v.mine
  pub sees : Sees (slice_index words) v.seen

-- The rule.
pub record Ruled (B : Setting) (s : State Cell View) : Type 0 where
  pub wide : length s.words ≡ B.graph.tiles
  pub roomy : length s.homes ≡ 4 * B.graph.tiles
  pub inside : (p : ℕ) → B.graph.tiles ≤ p → total (lists p) s.views ≡ 0
  pub tiles : (t : ℕ) → t < B.graph.tiles
      → TileOk B s.words s.homes (λ q. total (lists q) s.views) (λ q. total (posts q) s.views) (λ q d. total (sends q d) s.views) t
  pub parts : total (λ v. v.parts) s.views ≡ 256
  pub views : (k : ℕ) (v : View) → get_elem? s.views k ≡ some v → (v ≡ spent) ⊎ ViewOk B.slab s.words (length s.views) k v
