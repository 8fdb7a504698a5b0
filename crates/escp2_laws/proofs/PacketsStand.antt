-- The packets that are tried are those that may stand.
use Rattle.std.proofs.Common.{◌≡◌, ℕ, zero, suc, ◌<◌, ◌≤◌, ◌⊎◌, inl, inr, List, [], ◌∷◌, length, take, drop, min, get_or, refl, sym, ◌∙◌, ap, subst, arith, length-append}
use Rattle.std.specs.List.{Contains}
use Rattle.std.proofs.lemmas.List.{length-take-le, take-append-drop, take_at}
use Rattle.escp2_definitions.specs.RowCode.{RowPacket}
use Rattle.escp2_definitions.specs.RowCode.RowPacket.{Bytes, Repeat}
use Rattle.escp2_definitions.specs.Least.{equal_at, packets_at}
use Rattle.escp2_laws.specs.PacketStands.{MayStand}
use Rattle.escp2_laws.proofs.Fewest.{Has, IsLiteral, IsRun, equal_is, equal_within, has_literal_at, has_run_at, same, same_front, same_replicate, shape_at}

contains_has : (p : RowPacket) (ps : List RowPacket) → (k : ℕ) → k < length ps → get_or ps k p ≡ p → Has p ps
contains_has p [] k within is = absurd (omega arith)
contains_has p (q ∷ qs) zero within is = inl is
contains_has p (q ∷ qs) (suc k) within is = inr (contains_has p qs k (omega arith) is)

has_contains : (p : RowPacket) (ps : List RowPacket) → Has p ps → Contains ps p
has_contains p [] h = absurd h
has_contains p (q ∷ qs) (inl e) = (0, omega arith, e)
has_contains p (q ∷ qs) (inr h) =
    let rest : Contains qs p = has_contains p qs h in
    (suc rest.0, omega (arith, rest.1), rest.2)

stands : (p : RowPacket) (row : List ℕ) → Has p (packets_at row) → MayStand p row
stands p row h = by_shape (shape_at row p h)
  where
    P : RowPacket → Type 0
    P q = MayStand q row

    by_shape : IsRun (equal_at row) (get_or row 0 0) p ⊎ IsLiteral (min 128 (length row)) row p → MayStand p row
    by_shape (inl run) = subst P (sym run.is) (record {
      allowed = (run.some, omega (arith, run.few, (equal_within row).0));
      rest = drop run.count row;
      is = same_front (get_or row 0 0) run.count row (omega (arith, run.few, equal_is row));
    })
    by_shape (inr lit) =
        let len : length (take lit.count row) ≡ lit.count = length-take-le lit.count row (omega (arith, lit.few)) in
        subst P (sym lit.is) (record {
          allowed = (omega (arith, len, lit.some), omega (arith, len, lit.few));
          rest = drop lit.count row;
          is = sym (take-append-drop lit.count row);
        })

tried : (p : RowPacket) (row : List ℕ) → MayStand p row → Has p (packets_at row)
tried (Bytes bytes) row is =
    let front : take (length bytes) row ≡ bytes = ap (take (length bytes)) is.is ∙ take_at bytes is.rest (length bytes) refl in
    let P : List ℕ → Type 0 = λ bs. Has (Bytes bs) (packets_at row) in
    subst P front (has_literal_at row (length bytes) is.allowed.0 is.allowed.1 (omega (arith, ap length is.is, length-append bytes is.rest)))
tried (Repeat zero byte) row is = absurd (omega (arith, is.allowed.0))
tried (Repeat (suc n) byte) row is =
    let first : get_or row 0 0 ≡ byte = ap (λ bs. get_or bs 0 0) is.is in
    let P : ℕ → Type 0 = λ b. Has (Repeat (suc n) b) (packets_at row) in
    let many : suc n ≤ same byte row = omega (arith, same_replicate (suc n) byte is.rest, ap (same byte) is.is) in
    subst P first (has_run_at row (suc n) is.allowed.0 (omega (arith, is.allowed.1, equal_is row, many, ap (λ b. same b row) first)))

pub tried_stand : (p : RowPacket) (row : List ℕ) → (Contains (packets_at row) p → MayStand p row) × (MayStand p row → Contains (packets_at row) p)
tried_stand p row = (λ c. stands p row (contains_has p (packets_at row) c.0 c.1 c.2), λ is. has_contains p (packets_at row) (tried p row is))
