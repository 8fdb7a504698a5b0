-- The first ready tile, looked for by numbers.
use Rattle.std.proofs.Common.{◌≡◌, ◌≢◌, slice_index_or, ℕ, ◌+◌, ◌*◌, ◌/◌, ◌%◌, ◌<◌, arith, inl, inr, sym, ◌∙◌, subst}
use Rattle.std.proofs.lemmas.Bool.{cases_eq}
use Rattle.tile_shape.specs.Geometry.{bands_of, columns_of}
use Rattle.tile_shape.specs.declared.tiles.Place.{Place}
use Rattle.board_core.specs.Inside.{state_of}
use Rattle.board_core.specs.Numbers.{number_of, place_of}
use Rattle.board_core.specs.States.{CoreState, fresh, tile_at}
use Rattle.board_core.specs.declared.scheduler.Core.TheInside.{Inside}
use Rattle.board_core.specs.declared.tiles.Status.TheVariants.{Waiting}
use Rattle.board_core.specs.Steps.{IsFirstReady, IsReadyTile}
use Rattle.board_core.proofs.Numbers.{before_less, number_inside, place_number, place_tile, same_place}

-- no tile with a number below n is ready
abbrev pub NoneBelow : CoreState → ℕ → Type 0
NoneBelow core n = (q : Place) → number_of core.shape q < n → ¬ IsReadyTile core q

-- the tile of a number, where a band has this many columns
abbrev pub place_in : ℕ → ℕ → Place
place_in columns n = record { c = n % columns; j = n / columns }

pub first_ready : (core : CoreState) (columns n : ℕ) → columns ≡ columns_of core.shape → NoneBelow core n
    → IsReadyTile core (place_in columns n) → IsFirstReady core (place_in columns n)
first_ready core columns n is none ready =
    let Q : ℕ → Type 0 = λ m. IsReadyTile core (place_in m n) in
    let R : ℕ → Type 0 = λ m. IsFirstReady core (place_in m n) in
    subst R (sym is) (record {
      ready = subst Q is ready;
      first = λ q before r. none q
          (omega (arith, before_less core.shape q (place_of core.shape n) r.tile before, place_number core.shape n)) r;
    })

pub none_more : (core : CoreState) (columns n : ℕ) → columns ≡ columns_of core.shape → NoneBelow core n
    → ¬ IsReadyTile core (place_in columns n) → NoneBelow core (n + 1)
none_more core columns n is none unready q low r = elim (cases_eq (number_of core.shape q) n) [
  | inl here ↦
      let inside : n < bands_of core.shape * columns_of core.shape = omega (arith, number_inside core.shape q r.tile) in
      let same : q ≡ place_of core.shape n = same_place core.shape q (place_of core.shape n) r.tile (place_tile core.shape n inside) (here
      ∙ sym (place_number core.shape n)) in
      let Q : Place → Type 0 = λ p. IsReadyTile core p in
      let R : ℕ → Type 0 = λ m. IsReadyTile core (place_in m n) in
      unready (subst R (sym is) (subst Q same r))
  | inr earlier ↦ none q (omega arith) r
]

-- where none of the first tiles waits, none of them is ready
pub none_waiting : (core : Inside) (q : Place) → ((n : ℕ) → n < core.begun → (slice_index_or core.tiles.items n fresh).status ≢ Waiting)
    → number_of core.shape q < core.begun → ¬ IsReadyTile (state_of core) q
unfolding tile_at
none_waiting core q none low r = none (number_of core.shape q) low r.waiting
