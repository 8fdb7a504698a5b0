-- What a pass knows, and which slots it has, after each step.
use Rattle.std.specs.Prelude.{◌≡◌, ℕ, zero, suc, ◌+◌, ◌-◌, ◌*◌, ◌/◌, ◌%◌, ◌<◌, ◌≤◌, true, false, List, [], ◌∷◌, ◌++◌, Option, Some}
use Rattle.std.specs.Prelude.{None, ◌==◌, filter}
use Rattle.atomic_table.specs.Table.{Me, rest}
use Rattle.tile_shape.specs.declared.tiles.Dir.{Dir}
use Rattle.tile_shape.specs.declared.tiles.Dir.TheVariants as dir
use Rattle.board_steps.specs.declared.rule.View.{View}
use Rattle.board_steps.specs.declared.rule.Slab.{Slab}
use Rattle.board_steps.specs.declared.rule.Cell.{Cell}
use Rattle.board_steps.specs.declared.rule.Cell.TheVariants.{Empty}
use Rattle.board_steps.specs.Graph.{Graph}
use Rattle.board_steps.specs.Rule.{Setting, setting_of, arrived, has, lists, posts, sends, Within}

-- ---- the start

-- the slots of n waiting tiles, tile by tile
abbrev pub fresh_slots : (ℕ → ℕ → Cell) → ℕ → List Cell
fresh_slots fresh zero = []
fresh_slots fresh (suc n) = fresh_slots fresh n ++ fresh n 0 ∷ fresh n 1 ∷ fresh n 2 ∷ fresh n 3 ∷ []

-- ---- directions

-- the number of a direction
abbrev pub index_of : Dir → ℕ
index_of dir.Right = 0
index_of dir.Bottom = 1
index_of dir.Corner = 2

-- the arrival bit of a direction
abbrev pub bit_of : ℕ → ℕ
bit_of zero = 1
bit_of (suc zero) = 2
bit_of (suc (suc d)) = 4

-- ---- look

-- the view after a look at tile p that found `word`
abbrev pub looked : View → ℕ → ℕ → View
looked v p word = record v { seen = Some (p, word); looks = v.looks + 1 }

-- The word of tile p has every bit that the pass knew to be set.
pub record KnewIn (G : Graph) (v : View) (p word : ℕ) : Type 0 where
  pub right : arrived (λ q. sends q 0 v) (G.from p 0) ≤ word % 2
  pub bottom : arrived (λ q. sends q 1 v) (G.from p 1) ≤ word / 2 % 2
  pub corner : arrived (λ q. sends q 2 v) (G.from p 2) ≤ word / 4 % 2
  pub taken : lists p v ≤ word / 8 % 2
  pub posted : posts p v ≤ word / 16 % 2
  pub seen : (w : ℕ) → v.seen ≡ Some (p, w) → Within w word

-- What the pass learns of tile p by its word. A pass that has all parts finds bit 8 exactly where it lists the tile
-- itself.
pub record FoundIn (G : Graph) (v : View) (p word : ℕ) : Type 0 where
  pub knew : KnewIn G v p word
  pub alone : v.parts ≡ 256 → word / 8 % 2 ≡ lists p v
  pub few : word < 32

-- a look at tile t found r
abbrev pub LookedIn : Setting → ℕ → Me Cell View → ℕ → Me Cell View → Type 0
LookedIn B t m r n = (n ≡ (looked m.0 t r, m.1)) × FoundIn B.graph m.0 t r

-- the same on the board of a slab
abbrev pub Looked : Slab → ℕ → Me Cell View → ℕ → Me Cell View → Type 0
Looked b = LookedIn (setting_of b)

-- ---- take

-- the word has the bits of all edges that come to the tile
abbrev pub HasNeeds : Graph → ℕ → ℕ → Type 0
HasNeeds G t word = ((q : ℕ) → G.from t 0 ≡ Some q → word % 2 ≡ 1) × ((q : ℕ) → G.from t 1 ≡ Some q → word / 2 % 2 ≡ 1)
    × ((q : ℕ) → G.from t 2 ≡ Some q → word / 4 % 2 ≡ 1)

-- the pass last looked at tile t, and the word that it found has the bits of all edges that come to the tile
pub record IsReadyFor (G : Graph) (t : ℕ) (v : View) : Type 0 where
  pub word : ℕ
  pub seen : v.seen ≡ Some (t, word)
  pub needs : HasNeeds G t word

-- the view once it has taken the tile
abbrev pub taken : View → ℕ → View
taken v p = record v { held = Some p; sent = [] }

-- the slot of the edge that comes to a tile in the direction d, if one does
abbrev pub incoming : (ℕ → ℕ → Cell) → ℕ → Option ℕ → List (ℕ × Cell)
incoming content d None = []
incoming content d (Some q) = (4 * q + d, content q d) ∷ []

-- A tile's own four slots, and then those of the edges that come to it.
abbrev pub hand : Graph → (ℕ → Cell) → (ℕ → ℕ → Cell) → ℕ → List (ℕ × Cell)
hand G own content t =
    (4 * t + 0, own 0) ∷ (4 * t + 1, own 1) ∷ (4 * t + 2, own 2) ∷ (4 * t + 3, own 3)
    ∷ incoming content 0 (G.from t 0) ++ (incoming content 1 (G.from t 1) ++ (incoming content 2 (G.from t 2) ++ []))

-- the slots that a pass has once it has taken tile t: fresh ones, and the edges that come to it
abbrev pub hand_in : Setting → ℕ → List (ℕ × Cell)
hand_in B t = hand B.graph (B.fresh t) B.content t

-- the same on the board of a slab
abbrev pub in_hand : Slab → ℕ → List (ℕ × Cell)
in_hand b = hand_in (setting_of b)

-- the same slots, all empty
abbrev pub emptied_hand : Slab → ℕ → List (ℕ × Cell)
emptied_hand b t = hand (setting_of b).graph (λ d. Empty) (λ q d. Empty) t

-- The take of tile t found r. Where bit 8 of r is clear the pass holds the tile and has its slots, and else the take is
-- but a look.
pub record TookIn (B : Setting) (t : ℕ) (m : Me Cell View) (r : ℕ) (n : Me Cell View) : Type 0 where
  pub got : r / 8 % 2 ≡ 0 → n ≡ (taken m.0 t, hand_in B t)
  pub gone : r / 8 % 2 ≡ 1 → n ≡ (looked m.0 t r, m.1)
  pub found : FoundIn B.graph m.0 t r

-- the same on the board of a slab
abbrev pub Took : Slab → ℕ → Me Cell View → ℕ → Me Cell View → Type 0
Took b = TookIn (setting_of b)

-- ---- send

-- The pass holds a tile whose edge in the direction d goes to tile `to`. It has not sent it, and the first slot that it
-- has is that of the edge, with the edge.
pub record MaySend (B : Setting) (m : Me Cell View) (d to : ℕ) : Type 0 where
  pub from : ℕ
  pub inside : from < B.graph.tiles
  pub holds : m.0.held ≡ Some from
  pub unsent : has d m.0.sent ≡ false
  pub goes : B.graph.next from d ≡ Some to
  pub edge : m.1 ≡ (4 * from + d, B.content from d) ∷ rest m.1

-- the view once the edge in the direction d is sent
abbrev pub sent_view : View → ℕ → View
sent_view v d = record v { sent = d ∷ v.sent }

-- The edge in the direction d is sent, and the first slot that the pass had is back in the table.
abbrev pub SentTo : ℕ → Me Cell View → Me Cell View → Type 0
SentTo d m n = n ≡ (sent_view m.0 d, rest m.1)

-- the same, where the step names the arrival bit of the direction
abbrev pub Sent : ℕ → Me Cell View → Me Cell View → Type 0
Sent bit m n = (d : ℕ) → d < 3 → bit ≡ bit_of d → SentTo d m n

-- ---- post

-- each edge of tile t that another tile receives is sent
abbrev pub AllSent : Graph → ℕ → View → Type 0
AllSent G t v = (d p : ℕ) → G.next t d ≡ Some p → has d v.sent ≡ true

-- the slot of the edge in the direction d, if no tile receives it
abbrev pub own_slot : (ℕ → ℕ → Cell) → ℕ → ℕ → Option ℕ → List (ℕ × Cell)
own_slot content t d None = (4 * t + d, content t d) ∷ []
own_slot content t d (Some p) = []

-- The slots that go back to the table when tile t is posted: that of its dots, those of the edges that came to it, with
-- any values, and those of its edges that no tile receives.
abbrev pub to_post_in : Setting → (ℕ → ℕ → Cell) → ℕ → List (ℕ × Cell)
to_post_in B left t =
    (4 * t + 3, B.content t 3)
    ∷ incoming left 0 (B.graph.from t 0) ++ (incoming left 1 (B.graph.from t 1) ++ (incoming left 2 (B.graph.from t 2)
    ++ (own_slot B.content t 0 (B.graph.next t 0) ++ (own_slot B.content t 1 (B.graph.next t 1)
    ++ (own_slot B.content t 2 (B.graph.next t 2) ++ [])))))

-- The pass holds tile t, has sent its edges, and has exactly these slots.
pub record MayPost (B : Setting) (m : Me Cell View) (t : ℕ) : Type 0 where
  pub inside : t < B.graph.tiles
  pub holds : m.0.held ≡ Some t
  pub sent : AllSent B.graph t m.0
  pub left : ℕ → ℕ → Cell
  pub hand : m.1 ≡ to_post_in B left t

-- the view once the tile is posted
abbrev pub posted_view : View → ℕ → View
posted_view v t = record v { held = None; sent = []; mine = (t, v.number) ∷ v.mine }

-- the posts of tile t in the list of what the pass has posted
abbrev pub posts_of : ℕ → View → List (ℕ × ℕ)
posts_of t v = filter (λ x. x.0 == t) v.mine

-- the pass has posted tile t once, by its own number
abbrev pub HasPostedOnce : ℕ → View → Type 0
HasPostedOnce t v = posts_of t v ≡ (t, v.number) ∷ []

-- tile t is posted, for the first time, and the pass has no slots
pub record Posted (t : ℕ) (m n : Me Cell View) : Type 0 where
  pub after : n ≡ (posted_view m.0 t, [])
  pub once : HasPostedOnce t n.0

-- ---- split and join

-- the view of the first pass after a cut, and that of the new one
abbrev pub kept_view : View → View
kept_view v = record v { parts = v.parts - 1; made = v.made + 1 }

abbrev pub new_view : View → View
new_view v = record { number = v.made; made = 0; seen = None; looks = 0; held = None; sent = []; mine = []; parts = 1; board = v.board }

-- the view after a join with a pass of view u
abbrev pub joined_view : View → View → View
joined_view v u = record v { mine = v.mine ++ u.mine; parts = v.parts + u.parts }

-- the pass is unchanged, and has no more parts than the board
abbrev pub Counted : Me Cell View → Me Cell View → Type 0
Counted m n = (n ≡ m) × (n.0.parts ≤ 256)
