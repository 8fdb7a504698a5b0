-- Where no tile is taken, the first that is not posted is ready.
use Rattle.std.proofs.Common.{◌≡◌, ◌⊎◌, ℕ, zero, suc, ◌*◌, ◌<◌, ◌≤◌, Bool, true, false, arith, inl, inr, refl, sym, ◌∙◌}
use Rattle.std.proofs.Common.{subst}
use Rattle.std.proofs.lemmas.Bool.{cases_eq}
use Rattle.tile_shape.specs.Geometry.{IsTile, bands_of, columns_of}
use Rattle.tile_shape.specs.declared.tiles.Place.{Place}
use Rattle.board_core.specs.declared.tiles.Status.{Status}
use Rattle.board_core.specs.declared.tiles.Status.TheVariants.{Waiting, Taken, Posted}
use Rattle.board_core.specs.Legal.{IsIdle, Legal}
use Rattle.board_core.specs.Numbers.{number_of, place_of}
use Rattle.board_core.specs.States.{CoreState, IsCore, IsPosted, tile_at}
use Rattle.board_core.specs.Steps.{IsReadyTile}
use Rattle.board_core.proofs.Numbers.{goes_on, number_inside, place_number, place_tile, same_place}

status_cases : (s : Status) → (s ≡ Waiting) ⊎ (((seat : ℕ) × (s ≡ Taken seat)) ⊎ ((seat : ℕ) × (s ≡ Posted seat)))
status_cases Waiting = inl refl
status_cases (Taken seat) = inr (inl (seat, refl))
status_cases (Posted seat) = inr (inr (seat, refl))

true_false : (b : Bool) → b ≡ true → ¬ (b ≡ false)
true_false true is e = cc
true_false false is e = cc

search_ready : (core : CoreState) → IsCore core → Legal core → IsIdle core → (n : ℕ) → n ≤ columns_of core.shape * bands_of core.shape
    → ((p : Place) → IsTile core.shape p → number_of core.shape p < n → IsPosted core p) ⊎ ((p : Place) × IsReadyTile core p)
search_ready core whole h idle zero room = inl (λ p tile low. let no : ⊥ = omega arith in absurd no)
search_ready core whole h idle (suc n) room = elim (search_ready core whole h idle n (omega arith)) [
  | inr found ↦ inr found
  | inl posted ↦
      let p : Place = place_of core.shape n in
      let tile : IsTile core.shape p = place_tile core.shape n (omega arith) in
      elim (status_cases (tile_at core p).status) [
        | inl waits ↦ inr (
          p,
          record {
            tile = tile;
            waiting = waits;
            whole = λ lacks.
                let edge = lacks.1 in
                let earlier : number_of core.shape edge.from
                < n = omega (arith, goes_on core.shape lacks.0 edge.from p edge.gives.source edge.gives.goes, place_number core.shape n) in
                true_false _ (h.given edge.from p lacks.0 edge.gives (posted edge.from edge.gives.source earlier)) edge.unsent;
          },
        )
        | inr begun ↦ elim begun [
          | inl taken ↦ absurd (idle.none_taken p taken.0 tile taken.1)
          | inr done ↦ inl (λ q other low. elim (cases_eq (number_of core.shape q) n) [
            | inl last ↦
                let is : p ≡ q = same_place core.shape p q tile other (place_number core.shape n ∙ sym last) in
                let Q : Place → Type 0 = λ o. IsPosted core o in
                subst Q is done
            | inr earlier ↦ posted q other (omega arith)
          ])
        ]
      ]
]

pub ready_tile : (core : CoreState) → IsCore core → Legal core → IsIdle core → (p : Place) × IsReadyTile core p
ready_tile core whole h idle = elim (search_ready core whole h idle (columns_of core.shape * bands_of core.shape) (omega arith)) [
  | inr found ↦ found
  | inl posted ↦ absurd (idle.not_done (λ p tile. posted p tile (number_inside core.shape p tile)))
]
