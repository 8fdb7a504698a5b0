-- The least code of a row: its packets, and what it costs.
use Rattle.std.proofs.Common.{◌≡◌, ℕ, zero, suc, ◌+◌, ◌*◌, ◌≤◌, ◌==◌, ◌⊎◌, inl, inr, Bool, true, false, cond, List, [], ◌∷◌, ◌++◌, length, take, drop, min, replicate, get_or, refl, sym, ◌∙◌, ap, subst, arith, length-append, length-drop, eq-eqb}
use Rattle.std.specs.List.{flat_map, filter, AllByRecursion}
use Rattle.std.proofs.lemmas.Bool.{eqb-true}
use Rattle.std.proofs.lemmas.List.{length-replicate, length-take-le, take-append-drop}
use Rattle.escp2_definitions.specs.RowCode.{IsRowPacket, RowCode, RowPacket, packet_code, packet_row}
use Rattle.escp2_definitions.specs.RowCode.RowPacket.{Bytes, Repeat}
use Rattle.escp2_definitions.specs.Least.{cost_from, costs, equal_at, least_packet, least_row, packets_at, packets_from}
use Rattle.escp2_laws.proofs.Fewest.{Has, IsRun, IsLiteral, code_costs, cost_is, costs_drop, fewest_most, equal_is, equal_within, fewest, reached_at, same, same_front, shape_at}

record Found (test : RowPacket → Bool) (ps : List RowPacket) (p : RowPacket) : Type 0 where
  has : Has p ps
  is : test p ≡ true

-- the first packet that passes
first_found : (test : RowPacket → Bool) (ps : List RowPacket) (d q : RowPacket) → Has q ps → test q ≡ true → Found test ps (get_or (filter test ps) 0 d)
first_found test [] d q h passes = absurd h
first_found test (p ∷ ps) d q h passes = by_test (test p) refl h (λ h. first_found test ps d q h passes)
  where
    by_has : test p ≡ false → Has q (p ∷ ps) → (Has q ps → Found test ps (get_or (filter test ps) 0 d)) → Found test (p ∷ ps) (get_or (filter test ps) 0 d)
    by_has e (inl same) rest = absurd (let no : false ≡ true = sym e ∙ ap test same ∙ passes in cc)
    by_has e (inr h) rest = record { has = inr (rest h).has; is = (rest h).is }

    by_test : (t : Bool) → test p ≡ t → Has q (p ∷ ps) → (Has q ps → Found test ps (get_or (filter test ps) 0 d))
        → Found test (p ∷ ps) (get_or (cond t (p ∷ filter test ps) (filter test ps)) 0 d)
    by_test true e h rest = record { has = inl refl; is = e }
    by_test false e h rest = by_has e h rest

-- A packet at the front of a row: it may stand there, gives the bytes up to the rest, and costs as little as it can.
pub record IsFirst (row : List ℕ) (packet : RowPacket) : Type 0 where
  pub allowed : IsRowPacket packet
  pub some : 1 ≤ length (packet_row packet)
  pub within : length (packet_row packet) ≤ length row
  pub gives : row ≡ packet_row packet ++ drop (length (packet_row packet)) row
  pub is : fewest row ≡ length (packet_code packet) + fewest (drop (length (packet_row packet)) row)

first_run : (b : ℕ) (row : List ℕ) (n : ℕ) → 2 ≤ n → n ≤ equal_at (b ∷ row) → cost_from (costs row) (Repeat n b) ≡ fewest (b ∷ row)
    → IsFirst (b ∷ row) (Repeat n b)
first_run b row zero some few reached = absurd (omega arith)
first_run b row (suc n) some few reached =
    let len : length (replicate (suc n) b) ≡ suc n = length-replicate {A = ℕ} (suc n) b in
    let within : suc n ≤ length (b ∷ row) = omega (arith, (equal_within (b ∷ row)).1) in
    let front : b ∷ row ≡ replicate (suc n) b ++ drop (suc n) (b ∷ row) = same_front b (suc n) (b ∷ row) (omega (arith, equal_is (b ∷ row))) in
    record {
      allowed = (some, omega (arith, (equal_within (b ∷ row)).0));
      some = omega (arith, len);
      within = omega (arith, len, within);
      gives = front ∙ ap (λ k. replicate (suc n) b ++ drop k (b ∷ row)) (sym len);
      is = omega (arith, reached, cost_is b row (Repeat (suc n) b) n len (omega arith), ap (λ k. fewest (drop k (b ∷ row))) len);
    }

first_literal : (b : ℕ) (row : List ℕ) (n : ℕ) → 1 ≤ n → n ≤ 128 → n ≤ length (b ∷ row) → cost_from (costs row) (Bytes (take n (b ∷ row))) ≡ fewest (b ∷ row)
    → IsFirst (b ∷ row) (Bytes (take n (b ∷ row)))
first_literal b row zero some few within reached = absurd (omega arith)
first_literal b row (suc n) some few within reached =
    let len : length (take (suc n) (b ∷ row)) ≡ suc n = length-take-le (suc n) (b ∷ row) within in
    record {
      allowed = (omega (arith, len), omega (arith, len));
      some = omega (arith, len);
      within = omega (arith, len);
      gives = sym (take-append-drop (suc n) (b ∷ row)) ∙ ap (λ k. take (suc n) (b ∷ row) ++ drop k (b ∷ row)) (sym len);
      is = omega (arith, reached, len, cost_is b row (Bytes (take (suc n) (b ∷ row))) n len (omega arith), ap (λ k. fewest (drop k (b ∷ row))) len);
    }

pub first_of_row : (b : ℕ) (row : List ℕ) → IsFirst (b ∷ row) (least_packet (b ∷ row))
unfolding least_packet costs
first_of_row b row = by_shape (least_packet (b ∷ row)) (eqb-true _ _ found.is) (shape_at (b ∷ row) _ found.has)
  where
    test : RowPacket → Bool
    test p = cost_from (costs row) p == fewest (b ∷ row)

    found : Found test (packets_at (b ∷ row)) (least_packet (b ∷ row))
    found = first_found test (packets_at (b ∷ row)) (Bytes []) (reached_at b row).packet (reached_at b row).has (eq-eqb _ _ (reached_at b row).is)

    by_shape : (p : RowPacket) → cost_from (costs row) p ≡ fewest (b ∷ row)
        → IsRun (equal_at (b ∷ row)) b p ⊎ IsLiteral (min 128 (length (b ∷ row))) (b ∷ row) p → IsFirst (b ∷ row) p
    by_shape p reached (inl run) =
        let P : RowPacket → Type 0 = IsFirst (b ∷ row) in
        subst P (sym run.is) (first_run b row run.count run.some run.few (sym (ap (cost_from (costs row)) run.is) ∙ reached))
    by_shape p reached (inr lit) =
        let P : RowPacket → Type 0 = IsFirst (b ∷ row) in
        subst P (sym lit.is) (first_literal b row lit.count lit.some (omega (arith, lit.few)) (omega (arith, lit.few)) (sym (ap (cost_from (costs row)) lit.is) ∙ reached))

-- Packets that are a row, in as few bytes as it costs.
record IsRow (row : List ℕ) (packets : List RowPacket) : Type 0 where
  allowed : AllByRecursion IsRowPacket packets
  gives : row ≡ flat_map packet_row packets
  least : length (flat_map packet_code packets) ≡ fewest row

packets_from-row : (most : ℕ) (row : List ℕ) → length row ≤ most → IsRow row (packets_from most row)
unfolding packets_from costs
packets_from-row most [] enough = record { allowed = tt; gives = refl; least = refl }
packets_from-row zero (b ∷ row) enough = absurd (omega arith)
packets_from-row (suc most) (b ∷ row) enough =
    let packet : RowPacket = least_packet (b ∷ row) in
    let front : IsFirst (b ∷ row) packet = first_of_row b row in
    let n : ℕ = length (packet_row packet) in
    let rest : List ℕ = drop n (b ∷ row) in
    let after : IsRow rest (packets_from most rest) = packets_from-row most rest (omega (arith, length-drop n (b ∷ row), front.some)) in
    record {
      allowed = (front.allowed, after.allowed);
      gives = front.gives ∙ ap (λ bs. packet_row packet ++ bs) after.gives;
      least = omega (arith, length-append (packet_code packet) (flat_map packet_code (packets_from most rest)), front.is, after.least);
    }

pub least-codes : (row : List ℕ) → RowCode (least_row row) row
unfolding least_row
least-codes row = grind (arith, packets_from-row)

pub least-costs : (row : List ℕ) → length (least_row row) ≡ get_or (costs row) 0 0
unfolding least_row
least-costs row = (packets_from-row (length row) row (omega arith)).least

pub least-shortest : (code row : List ℕ) → RowCode code row → length (least_row row) ≤ length code
least-shortest code row is = omega (arith, least-costs row, code_costs code row is)

-- the entries of the table are lengths of least codes
pub lengths : (row : List ℕ) (at : ℕ) → at ≤ length row → length (least_row (drop at row)) ≡ get_or (costs row) at 0
lengths row at within = least-costs (drop at row) ∙ sym (costs_drop at row within)

-- the least code has at most twice as many bytes as its row
pub least-short : (row : List ℕ) → length (least_row row) ≤ 2 * length row
least-short row = omega (arith, least-costs row, fewest_most row)
