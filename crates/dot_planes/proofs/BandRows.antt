-- A row of all tiles of a band is laid over a packed row.
use Rattle.std.proofs.Common.{◌≡◌, ℕ, ◌+◌, ◌*◌, ◌/◌, ◌<◌, List, length, get_or, take, drop, sym, ◌∙◌, ap, arith, inl, inr}
use Rattle.std.proofs.lemmas.Bool.{cases_eq}
use Rattle.std.proofs.lemmas.List.{get_or-drop, get_or-take, get_or_default}
use Rattle.dot_planes.specs.Bands.{HasTileRow, HasTileRows}
use Rattle.dot_planes.specs.Tables.{row_dot}
use Rattle.dot_planes.specs.Tiles.{tile_dot}
use Rattle.dot_planes.specs.declared.tiles.TileDots.{TileDots}

-- ---- tiles side by side

-- one tile more
pub beside_more : (wide new bytes : List ℕ) (tiles : List TileDots) (tile : TileDots) (i r n : ℕ)
    → n < length tiles → tile ≡ get_or tiles n tile → HasTileRow bytes tile i r
    → ((offset : ℕ) → offset < 64 → row_dot new (64 * n + offset) ≡ row_dot bytes offset)
    → ((x : ℕ) → x < 64 * n → row_dot new x ≡ row_dot wide x)
    → HasTileRows wide tiles i r n → HasTileRows new tiles i r (n + 1)
beside_more wide new bytes tiles tile i r n inside is has here left before = record {
  dots = λ c offset d upto low. elim (cases_eq c n) [
    | inl same ↦
        let mine : get_or tiles c d ≡ tile =
        ap (λ m. get_or tiles m d) same ∙ get_or_default tiles n d tile inside ∙ sym is in
        ap (λ m. row_dot new (64 * m + offset)) same ∙ here offset low ∙ has offset low
        ∙ ap (λ (t : TileDots). tile_dot t.bits i r offset) (sym mine)
    | inr differs ↦ left (64 * c + offset) (omega arith) ∙ before.dots c offset d (omega arith) low
  ];
}

-- ---- parts of a row

-- a dot of a part of a row
pub part_dot : (s m y : ℕ) (bytes : List ℕ) → y / 8 < m → row_dot (take m (drop s bytes)) y ≡ row_dot bytes (8 * s + y)
part_dot s m y bytes inside = grind (arith, get_or-drop, get_or-take)
