-- What a row costs, by its first packet.
use Rattle.std.proofs.lemmas.Grind.{common_steps}
use Rattle.std.proofs.Common.{◌≡◌, ℕ, zero, suc, ◌+◌, ◌-◌, ◌*◌, ◌<◌, ◌≤◌, ◌==◌, ◌⊎◌, inl, inr, if◌then◌else◌, List, [], ◌∷◌, ◌++◌, length, take, drop, map, min, replicate, get_or, refl, sym, ◌∙◌, ap, arith, length-append, eq-eqb}
use Rattle.std.specs.List.{flat_map, take_while, AllByRecursion}
use Rattle.std.proofs.lemmas.Bool.{eqb-true, cases_lt}
use Rattle.std.proofs.lemmas.List.{length-replicate, length-take-le, drop_at}
use Rattle.std.proofs.lemmas.List.Sums.{take_while-cons}
use Rattle.escp2_definitions.specs.RowCode.{IsRowPacket, RowCode, RowPacket, packet_code, packet_row}
use Rattle.escp2_definitions.specs.RowCode.RowPacket.{Bytes, Repeat}
use Rattle.escp2_definitions.specs.Least.{cost_from, costs, equal_at, least, literals, packets_at, runs}

-- the fewest bytes that code a row
abbrev pub fewest : List ℕ → ℕ
fewest row = get_or (costs row) 0 0

pub costs_drop : (j : ℕ) (row : List ℕ) → j ≤ length row → get_or (costs row) j 0 ≡ fewest (drop j row)
unfolding costs
costs_drop zero row within = refl
costs_drop (suc j) [] within = absurd (omega arith)
costs_drop (suc j) (b ∷ row) within = costs_drop j row (omega arith)

pub length_costs : (row : List ℕ) → length (costs row) ≡ length row + 1
unfolding costs
length_costs [] = omega arith
length_costs (b ∷ row) = omega (arith, length_costs row)

-- ---- the packets that may stand

abbrev pub Has : RowPacket → List RowPacket → Type 0
Has p [] = ⊥
Has p (q ∷ qs) = (q ≡ p) ⊎ Has p qs

has_left : (p : RowPacket) (ps qs : List RowPacket) → Has p ps → Has p (ps ++ qs)
has_left p [] qs h = absurd h
has_left p (q ∷ ps) qs (inl e) = inl e
has_left p (q ∷ ps) qs (inr h) = inr (has_left p ps qs h)

has_right : (p : RowPacket) (ps qs : List RowPacket) → Has p qs → Has p (ps ++ qs)
has_right p [] qs h = h
has_right p (q ∷ ps) qs h = inr (has_right p ps qs h)

has_either : (p : RowPacket) (ps qs : List RowPacket) → Has p (ps ++ qs) → Has p ps ⊎ Has p qs
has_either p [] qs h = inr h
has_either p (q ∷ ps) qs (inl e) = inl (inl e)
has_either p (q ∷ ps) qs (inr h) = grind (arith, Has, has_either p ps qs h)

has_run : (n k byte : ℕ) → 2 ≤ k → k ≤ n → Has (Repeat k byte) (runs n byte)
unfolding runs
has_run zero k byte some few = absurd (omega arith)
has_run (suc zero) k byte some few = absurd (omega arith)
has_run (suc (suc n)) k byte some few = by_test (cases_lt k (suc (suc n))) (λ less. has_run (suc n) k byte some less)
  where
    by_test : (k < suc (suc n)) ⊎ (suc (suc n) ≤ k) → (k ≤ suc n → Has (Repeat k byte) (runs (suc n) byte)) → Has (Repeat k byte) (runs (suc (suc n)) byte)
    by_test (inl less) rest = inr (rest (omega arith))
    by_test (inr all) rest = let same : suc (suc n) ≡ k = omega arith in inl (ap (λ m. Repeat m byte) same)

has_literal : (n k : ℕ) (row : List ℕ) → 1 ≤ k → k ≤ n → Has (Bytes (take k row)) (literals n row)
unfolding literals
has_literal zero k row some few = absurd (omega arith)
has_literal (suc n) k row some few = by_test (cases_lt k (suc n)) (λ less. has_literal n k row some less)
  where
    by_test : (k < suc n) ⊎ (suc n ≤ k) → (k ≤ n → Has (Bytes (take k row)) (literals n row)) → Has (Bytes (take k row)) (literals (suc n) row)
    by_test (inl less) rest = inr (rest (omega arith))
    by_test (inr all) rest = let same : suc n ≡ k = omega arith in inl (ap (λ m. Bytes (take m row)) same)

-- A run of so many bytes, of at most n.
pub record IsRun (n byte : ℕ) (p : RowPacket) : Type 0 where
  pub count : ℕ
  pub some : 2 ≤ count
  pub few : count ≤ n
  pub is : p ≡ Repeat count byte

run_of : (n byte : ℕ) (p : RowPacket) → Has p (runs n byte) → IsRun n byte p
unfolding runs
run_of zero byte p h = absurd h
run_of (suc zero) byte p h = absurd h
run_of (suc (suc n)) byte p (inl e) = record { count = suc (suc n); some = omega arith; few = omega arith; is = sym e }
run_of (suc (suc n)) byte p (inr h) = grind (arith, run_of (suc n) byte p h)

-- A literal of so many bytes, of at most n.
pub record IsLiteral (n : ℕ) (row : List ℕ) (p : RowPacket) : Type 0 where
  pub count : ℕ
  pub some : 1 ≤ count
  pub few : count ≤ n
  pub is : p ≡ Bytes (take count row)

literal_of : (n : ℕ) (row : List ℕ) (p : RowPacket) → Has p (literals n row) → IsLiteral n row p
unfolding literals
literal_of zero row p h = absurd h
literal_of (suc n) row p (inl e) = record { count = suc n; some = omega arith; few = omega arith; is = sym e }
literal_of (suc n) row p (inr h) = grind (arith, literal_of n row p h)

-- ---- the least

pub least_le : (f : RowPacket → ℕ) (ps : List RowPacket) (p : RowPacket) → Has p ps → least (map f ps) ≤ f p
unfolding least
least_le f [] p h = absurd h
least_le f (q ∷ []) p (inl e) = omega (arith, ap f e)
least_le f (q ∷ []) p (inr h) = absurd h
least_le f (q ∷ r ∷ qs) p (inl e) = omega (arith, ap f e)
least_le f (q ∷ r ∷ qs) p (inr h) = omega (arith, least_le f (r ∷ qs) p h)

pub record Reached (f : RowPacket → ℕ) (ps : List RowPacket) : Type 0 where
  pub packet : RowPacket
  pub has : Has packet ps
  pub is : f packet ≡ least (map f ps)

pub least_reached : (f : RowPacket → ℕ) (p : RowPacket) (ps : List RowPacket) → Reached f (p ∷ ps)
unfolding least
least_reached f p [] = record { packet = p; has = inl refl; is = refl }
least_reached f p (q ∷ qs) = by_test (cases_lt (least (map f (q ∷ qs))) (f p)) (least_reached f q qs)
  where
    by_test : (least (map f (q ∷ qs)) < f p) ⊎ (f p ≤ least (map f (q ∷ qs))) → Reached f (q ∷ qs) → Reached f (p ∷ q ∷ qs)
    by_test (inl less) rest = record { packet = rest.packet; has = inr rest.has; is = omega (arith, rest.is) }
    by_test (inr le) rest = record { packet = p; has = inl refl; is = omega arith }

-- ---- equal bytes

-- how many bytes from the front on are this one
abbrev pub same : ℕ → List ℕ → ℕ
same byte row = length (take_while (λ other. other == byte) row)

pub same_cons : (byte b : ℕ) (row : List ℕ) → same byte (b ∷ row) ≡ (if b == byte then 1 + same byte row else 0)
same_cons byte b row = grind (arith, same, take_while-cons)

pub same_more : (byte b : ℕ) (row : List ℕ) → b ≡ byte → same byte (b ∷ row) ≡ 1 + same byte row
same_more byte b row e = same_cons byte b row ∙ ap (λ t. if t then 1 + same byte row else 0) (eq-eqb b byte e)

-- the first of equal bytes
pub same_first : (byte b : ℕ) (row : List ℕ) → 1 ≤ same byte (b ∷ row) → b ≡ byte
same_first byte b row some = grind (arith, eqb-true, same, same_cons)

pub same_within : (byte : ℕ) (row : List ℕ) → same byte row ≤ length row
same_within byte [] = omega arith
same_within byte (b ∷ row) = grind (arith, same, same_cons, same_within byte row)

pub same_front : (byte n : ℕ) (row : List ℕ) → n ≤ same byte row → row ≡ replicate n byte ++ drop n row
same_front byte zero row few = refl
same_front byte (suc n) [] few = absurd (omega arith)
same_front byte (suc n) (b ∷ row) few =
    let first : b ≡ byte = same_first byte b row (omega arith) in
    let rest : row ≡ replicate n byte ++ drop n row = same_front byte n row (omega (arith, same_more byte b row first)) in
    ap (λ bs. b ∷ bs) rest ∙ ap (λ k. k ∷ replicate n byte ++ drop n row) first

pub same_replicate : (n byte : ℕ) (rest : List ℕ) → n ≤ same byte (replicate n byte ++ rest)
same_replicate zero byte rest = omega arith
same_replicate (suc n) byte rest = omega (arith, same_replicate n byte rest, same_more byte byte (replicate n byte ++ rest) refl)

pub equal_is : (row : List ℕ) → equal_at row ≡ min 128 (same (get_or row 0 0) row)
unfolding equal_at
equal_is row = refl

pub equal_within : (row : List ℕ) → (equal_at row ≤ 128) × (equal_at row ≤ length row)
equal_within row = (omega (arith, equal_is row), omega (arith, equal_is row, same_within (get_or row 0 0) row))

-- the equal bytes behind the first byte
pub equal_behind : (b : ℕ) (row : List ℕ) (n : ℕ) → 1 ≤ n → suc n ≤ equal_at (b ∷ row) → n ≤ equal_at row
equal_behind b [] n some few = absurd (omega (arith, (equal_within (b ∷ [])).1))
equal_behind b (c ∷ row) n some few = grind (arith, common_steps, equal_is, same, same_first, same_more)

-- ---- what a row costs

pub has_literal_at : (row : List ℕ) (n : ℕ) → 1 ≤ n → n ≤ 128 → n ≤ length row → Has (Bytes (take n row)) (packets_at row)
unfolding packets_at
has_literal_at row n some few within =
    has_right _ (runs (equal_at row) (get_or row 0 0)) (literals (min 128 (length row)) row) (has_literal (min 128 (length row)) n row some (omega arith))

pub has_run_at : (row : List ℕ) (n : ℕ) → 2 ≤ n → n ≤ equal_at row → Has (Repeat n (get_or row 0 0)) (packets_at row)
unfolding packets_at
has_run_at row n some few =
    has_left _ (runs (equal_at row) (get_or row 0 0)) (literals (min 128 (length row)) row) (has_run (equal_at row) n (get_or row 0 0) some few)

pub cost_is : (b : ℕ) (row : List ℕ) (p : RowPacket) (n : ℕ) → length (packet_row p) ≡ suc n → n ≤ length row
    → cost_from (costs row) p ≡ length (packet_code p) + fewest (drop n row)
unfolding cost_from
cost_is b row p n len within = grind (arith, costs_drop)

fewest_le : (b : ℕ) (row : List ℕ) (p : RowPacket) → Has p (packets_at (b ∷ row)) → fewest (b ∷ row) ≤ cost_from (costs row) p
unfolding costs
fewest_le b row p h = least_le (cost_from (costs row)) (packets_at (b ∷ row)) p h

pub literal_costs : (row : List ℕ) (n : ℕ) → 1 ≤ n → n ≤ 128 → n ≤ length row → fewest row ≤ 1 + n + fewest (drop n row)
literal_costs [] n some few within = absurd (omega arith)
literal_costs (b ∷ row) zero some few within = absurd (omega arith)
literal_costs (b ∷ row) (suc n) some few within =
    let len : length (take (suc n) (b ∷ row)) ≡ suc n = length-take-le (suc n) (b ∷ row) within in
    omega (
      arith,
      len,
      fewest_le b row (Bytes (take (suc n) (b ∷ row))) (has_literal_at (b ∷ row) (suc n) some few within),
      cost_is b row (Bytes (take (suc n) (b ∷ row))) n len (omega arith),
    )

pub run_costs : (row : List ℕ) (n : ℕ) → 2 ≤ n → n ≤ equal_at row → fewest row ≤ 2 + fewest (drop n row)
run_costs [] n some few = absurd (omega (arith, (equal_within []).1))
run_costs (b ∷ row) zero some few = absurd (omega arith)
run_costs (b ∷ row) (suc n) some few =
    let len : length (replicate (suc n) b) ≡ suc n = length-replicate {A = ℕ} (suc n) b in
    omega (
      arith,
      fewest_le b row (Repeat (suc n) b) (has_run_at (b ∷ row) (suc n) some few),
      cost_is b row (Repeat (suc n) b) n len (omega (arith, (equal_within (b ∷ row)).1)),
    )

-- A row costs a literal and the rest behind it.
pub record ByLiteral (row : List ℕ) : Type 0 where
  pub count : ℕ
  pub some : 1 ≤ count
  pub few : count ≤ 128
  pub within : count ≤ length row
  pub is : fewest row ≡ 1 + count + fewest (drop count row)

-- A row costs a run and the rest behind it.
pub record ByRun (row : List ℕ) : Type 0 where
  pub count : ℕ
  pub some : 2 ≤ count
  pub few : count ≤ equal_at row
  pub is : fewest row ≡ 2 + fewest (drop count row)

literal_by : (b : ℕ) (row : List ℕ) (p : RowPacket) (n : ℕ) → 1 ≤ n → n ≤ 128 → n ≤ length (b ∷ row) → p ≡ Bytes (take n (b ∷ row))
    → fewest (b ∷ row) ≡ cost_from (costs row) p → ByLiteral (b ∷ row)
literal_by b row p zero some few within is reached = absurd (omega arith)
literal_by b row p (suc n) some few within is reached =
    let len : length (take (suc n) (b ∷ row)) ≡ suc n = length-take-le (suc n) (b ∷ row) within in
    record {
      count = suc n;
      some = some;
      few = few;
      within = within;
      is = omega (arith, len, reached, ap (cost_from (costs row)) is, cost_is b row (Bytes (take (suc n) (b ∷ row))) n len (omega arith));
    }

run_by : (b : ℕ) (row : List ℕ) (p : RowPacket) (n : ℕ) → 2 ≤ n → n ≤ equal_at (b ∷ row) → p ≡ Repeat n b
    → fewest (b ∷ row) ≡ cost_from (costs row) p → ByRun (b ∷ row)
run_by b row p zero some few is reached = absurd (omega arith)
run_by b row p (suc n) some few is reached =
    let len : length (replicate (suc n) b) ≡ suc n = length-replicate {A = ℕ} (suc n) b in
    record {
      count = suc n;
      some = some;
      few = few;
      is = omega (arith, reached, ap (cost_from (costs row)) is, cost_is b row (Repeat (suc n) b) n len (omega (arith, (equal_within (b ∷ row)).1)));
    }

reached_of : (f : RowPacket → ℕ) (ps : List RowPacket) (p : RowPacket) → Has p ps → Reached f ps
reached_of f [] p h = absurd h
reached_of f (q ∷ qs) p h = least_reached f q qs

pub reached_at : (b : ℕ) (row : List ℕ) → Reached (cost_from (costs row)) (packets_at (b ∷ row))
reached_at b row = reached_of _ _ (Bytes (take 1 (b ∷ row))) (has_literal_at (b ∷ row) 1 (omega arith) (omega arith) (omega arith))

pub shape_at : (row : List ℕ) (p : RowPacket) → Has p (packets_at row) → IsRun (equal_at row) (get_or row 0 0) p ⊎ IsLiteral (min 128 (length row)) row p
unfolding packets_at
shape_at row p h = grind (arith, Has, has_either, literal_of, run_of)

pub first_step : (b : ℕ) (row : List ℕ) → ByLiteral (b ∷ row) ⊎ ByRun (b ∷ row)
unfolding costs
first_step b row = by_shape (shape_at (b ∷ row) (reached_at b row).packet (reached_at b row).has)
  where
    by_shape : IsRun (equal_at (b ∷ row)) b (reached_at b row).packet ⊎ IsLiteral (min 128 (length (b ∷ row))) (b ∷ row) (reached_at b row).packet
        → ByLiteral (b ∷ row) ⊎ ByRun (b ∷ row)
    by_shape (inl run) = inr (run_by b row (reached_at b row).packet run.count run.some run.few run.is (sym (reached_at b row).is))
    by_shape (inr lit) = inl (literal_by b row (reached_at b row).packet lit.count lit.some (omega (arith, lit.few)) (omega (arith, lit.few)) lit.is (sym (reached_at b row).is))

-- ---- costs never rise

pub falls : (b : ℕ) (row : List ℕ) → fewest row ≤ fewest (b ∷ row)
falls b row = by_step (first_step b row)
  where
    by_literal : (n : ℕ) → n ≤ 127 → n ≤ length row → fewest (b ∷ row) ≡ 1 + suc n + fewest (drop n row) → fewest row ≤ fewest (b ∷ row)
    by_literal zero few within is = omega (arith, is)
    by_literal (suc n) few within is = omega (arith, is, literal_costs row (suc n) (omega arith) (omega arith) within)

    by_run : (n : ℕ) → 1 ≤ n → suc n ≤ equal_at (b ∷ row) → fewest (b ∷ row) ≡ 2 + fewest (drop n row) → fewest row ≤ fewest (b ∷ row)
    by_run zero some few is = absurd (omega arith)
    by_run (suc zero) some few is = omega (arith, is, literal_costs row 1 (omega arith) (omega arith) (omega (arith, (equal_within (b ∷ row)).1)))
    by_run (suc (suc n)) some few is = omega (arith, is, run_costs row (suc (suc n)) (omega arith) (equal_behind b row (suc (suc n)) (omega arith) few))

    literal_count : (n : ℕ) → 1 ≤ n → n ≤ 128 → n ≤ length (b ∷ row) → fewest (b ∷ row) ≡ 1 + n + fewest (drop n (b ∷ row)) → fewest row ≤ fewest (b ∷ row)
    literal_count zero some few within is = absurd (omega arith)
    literal_count (suc n) some few within is = by_literal n (omega arith) (omega arith) is

    run_count : (n : ℕ) → 2 ≤ n → n ≤ equal_at (b ∷ row) → fewest (b ∷ row) ≡ 2 + fewest (drop n (b ∷ row)) → fewest row ≤ fewest (b ∷ row)
    run_count zero some few is = absurd (omega arith)
    run_count (suc n) some few is = by_run n (omega arith) few is

    by_step : ByLiteral (b ∷ row) ⊎ ByRun (b ∷ row) → fewest row ≤ fewest (b ∷ row)
    by_step (inl lit) = literal_count lit.count lit.some lit.few lit.within lit.is
    by_step (inr run) = run_count run.count run.some run.few run.is

pub falls_by : (j : ℕ) (row : List ℕ) → fewest (drop j row) ≤ fewest row
falls_by zero row = omega arith
falls_by (suc j) [] = omega arith
falls_by (suc j) (b ∷ row) = omega (arith, falls_by j row, falls b row)

-- no row costs more than twice its length
pub fewest_most : (row : List ℕ) → fewest row ≤ 2 * length row
unfolding costs
fewest_most [] = omega arith
fewest_most (b ∷ row) = omega (arith, literal_costs (b ∷ row) 1 (omega arith) (omega arith) (omega arith), fewest_most row)

-- ---- no code is shorter

pub packets_cost : (ps : List RowPacket) → AllByRecursion IsRowPacket ps → fewest (flat_map packet_row ps) ≤ length (flat_map packet_code ps)
unfolding costs
packets_cost [] allowed = omega arith
packets_cost (Bytes bytes ∷ ps) allowed =
    let rest : List ℕ = flat_map packet_row ps in
    let behind : drop (length bytes) (bytes ++ rest) ≡ rest = drop_at bytes rest (length bytes) refl in
    omega (
      arith,
      literal_costs (bytes ++ rest) (length bytes) allowed.0.0 allowed.0.1 (omega (arith, length-append bytes rest)),
      ap fewest behind,
      packets_cost ps allowed.1,
      length-append (packet_code (Bytes bytes)) (flat_map packet_code ps),
    )
packets_cost (Repeat n byte ∷ ps) allowed =
    let rest : List ℕ = flat_map packet_row ps in
    let len : length (replicate n byte) ≡ n = length-replicate {A = ℕ} n byte in
    let behind : drop n (replicate n byte ++ rest) ≡ rest = drop_at (replicate n byte) rest n len in
    omega (
      arith,
      run_costs (replicate n byte ++ rest) n allowed.0.0 (run_at n byte rest allowed.0.0 allowed.0.1),
      ap fewest behind,
      packets_cost ps allowed.1,
      length-append (packet_code (Repeat n byte)) (flat_map packet_code ps),
    )
  where
    run_at : (n byte : ℕ) (rest : List ℕ) → 2 ≤ n → n ≤ 128 → n ≤ equal_at (replicate n byte ++ rest)
    run_at zero byte rest some few = absurd (omega arith)
    run_at (suc n) byte rest some few = omega (arith, equal_is (replicate (suc n) byte ++ rest), same_replicate (suc n) byte rest)

pub code_costs : (code row : List ℕ) → RowCode code row → fewest row ≤ length code
code_costs code row is = omega (arith, packets_cost is.packets is.allowed, ap length is.coded, ap fewest is.gives)
