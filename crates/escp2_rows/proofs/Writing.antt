-- The least code, step by step.
use Rattle.std.proofs.Common.{◌≡◌, ℕ, zero, suc, ◌+◌, ◌-◌, ◌*◌, ◌<◌, ◌≤◌, ◌==◌, ◌≢◌, ◌⊎◌, inl, inr, Bool, true, false, cond, if◌then◌else◌}
use Rattle.std.proofs.Common.{List, [], ◌∷◌, ◌++◌, length, take, drop, min, get_or, set, refl, sym, ◌∙◌, ap, subst, arith, append_assoc}
use Rattle.std.proofs.Common.{append-nil, length-append, length-drop, eq-eqb}
use Rattle.std.specs.List.{flat_map, filter}
use Rattle.std.proofs.lemmas.Bool.{cases_lt, eqb-true}
use Rattle.std.proofs.lemmas.List.{drop_all, get_or-drop, length-replicate, length-take-le}
use Rattle.std.proofs.lemmas.Slice.{take-put_mid}
use Rattle.std.proofs.Math.Seq.{take-append-add, take-append_seam}
use borrow.Rule.Slice.PartMut.{put_mid}
use Rattle.escp2_definitions.specs.RowCode.{RowPacket, packet_code, packet_row}
use Rattle.escp2_definitions.specs.RowCode.RowPacket.{Bytes, Repeat}
use Rattle.escp2_definitions.specs.Least.{cost_from, costs, equal_at, least_packet, least_row, literals, packets_at, packets_from, runs}
use Rattle.escp2_rows.specs.Literals.{IsLongest, LongestSoFar, WritesFirst}
use Rattle.escp2_laws.proofs.Fewest.{ByLiteral, cost_is, costs_drop, equal_within, equal_is, fewest, length_costs, literal_costs}
use Rattle.escp2_laws.proofs.Fewest.{same, same_cons, same_within}
use Rattle.escp2_laws.proofs.Least.{IsFirst, first_of_row}
use Rattle.escp2_rows.proofs.Ends.{run_longest}
use Rattle.escp2_rows.proofs.Passing.{literal_is_least, run_is_least}

-- ---- which packet is the first one that passes

not_equal : (a b : ℕ) → a ≢ b → (a == b) ≡ false
not_equal a b apart = by_test (a == b) refl
  where
    by_test : (t : Bool) → (a == b) ≡ t → (a == b) ≡ false
    by_test true e = absurd (apart (eqb-true a b e))
    by_test false e = e

passes : (test : RowPacket → Bool) (p : RowPacket) (ps : List RowPacket) (d : RowPacket) → test p ≡ true → get_or (filter test (p ∷ ps)) 0 d ≡ p
passes test p ps d e = ap (λ t. get_or (cond t (p ∷ filter test ps) (filter test ps)) 0 d) e

fails : (test : RowPacket → Bool) (p : RowPacket) (ps : List RowPacket) → test p ≡ false → filter test (p ∷ ps) ≡ filter test ps
fails test p ps e = ap (λ t. cond t (p ∷ filter test ps) (filter test ps)) e

longest_first : (test : RowPacket → Bool) (n m : ℕ) (row : List ℕ) (d : RowPacket) → 1 ≤ n → n ≤ m → test (Bytes (take n row)) ≡ true
    → ((k : ℕ) → n < k → k ≤ m → test (Bytes (take k row)) ≡ false) → get_or (filter test (literals m row)) 0 d ≡ Bytes (take n row)
unfolding literals
longest_first test n zero row d some few is none = absurd (omega arith)
longest_first test n (suc m) row d some few is none =
    by_test (cases_lt n (suc m)) (λ less. longest_first test n m row d some less is (λ k more few. none k more (omega arith)))
  where
    by_test : (n < suc m) ⊎ (suc m ≤ n) → (n ≤ m → get_or (filter test (literals m row)) 0 d ≡ Bytes (take n row))
        → get_or (filter test (Bytes (take (suc m) row) ∷ literals m row)) 0 d ≡ Bytes (take n row)
    by_test (inl less) rest =
        ap (λ ps. get_or ps 0 d) (fails test (Bytes (take (suc m) row)) (literals m row) (none (suc m) less (omega arith))) ∙ rest (omega arith)
    by_test (inr all) rest =
        let same : n ≡ suc m = omega arith in
        passes test (Bytes (take (suc m) row)) (literals m row) d (sym (ap (λ k. test (Bytes (take k row))) same) ∙ is) ∙ sym (ap (λ k. Bytes (take k row)) same)

-- ---- the packet of a row

run_cost : (b : ℕ) (row : List ℕ) (n : ℕ) → 1 ≤ n → n ≤ length (b ∷ row) → cost_from (costs row) (Repeat n b) ≡ 2 + fewest (drop n (b ∷ row))
run_cost b row zero some within = absurd (omega arith)
run_cost b row (suc n) some within = cost_is b row (Repeat (suc n) b) n (length-replicate {A = ℕ} (suc n) b) (omega arith)

literal_cost : (b : ℕ) (row : List ℕ) (n : ℕ) → 1 ≤ n → n ≤ length (b ∷ row) → cost_from (costs row) (Bytes (take n (b ∷ row))) ≡ 1 + n + fewest (drop n (b ∷ row))
literal_cost b row zero some within = absurd (omega arith)
literal_cost b row (suc n) some within =
    let len : length (take (suc n) (b ∷ row)) ≡ suc n = length-take-le (suc n) (b ∷ row) within in
    omega (arith, len, cost_is b row (Bytes (take (suc n) (b ∷ row))) n len (omega arith))

run_found : (b : ℕ) (row : List ℕ) (n : ℕ) (ps : List RowPacket) (test : RowPacket → Bool) (d : RowPacket) → 2 ≤ n → test (Repeat n b) ≡ true
    → get_or (filter test (runs n b ++ ps)) 0 d ≡ Repeat n b
unfolding runs
run_found b row zero ps test d some e = absurd (omega arith)
run_found b row (suc zero) ps test d some e = absurd (omega arith)
run_found b row (suc (suc n)) ps test d some e = passes test (Repeat (suc (suc n)) b) (runs (suc n) b ++ ps) d e

pub least_run : (row : List ℕ) → 2 ≤ equal_at row → least_packet row ≡ Repeat (equal_at row) (get_or row 0 0)
unfolding least_packet packets_at costs
least_run [] many = absurd (omega (arith, many, (equal_within []).1))
least_run (b ∷ row) many =
    run_found b row (equal_at (b ∷ row)) _ (λ p. cost_from (costs row) p == fewest (b ∷ row)) (Bytes []) many
    (eq-eqb _ _ (run_cost b row (equal_at (b ∷ row)) (omega arith) (equal_within (b ∷ row)).1 ∙ sym (run_is_least (b ∷ row) many)))

pub least_literal : (row : List ℕ) (n : ℕ) → equal_at row ≡ 1 → IsLongest row n → least_packet row ≡ Bytes (take n row)
unfolding least_packet packets_at costs runs
least_literal [] n alone is = absurd (omega (arith, is.some, is.within))
least_literal (b ∷ row) n alone is =
    ap (λ k. get_or (filter test (runs k b ++ literals most (b ∷ row))) 0 (Bytes [])) alone
    ∙ longest_first test n most (b ∷ row) (Bytes []) is.some (omega (arith, is.few, is.within))
    (eq-eqb _ _ (literal_cost b row n is.some is.within ∙ sym is.is))
    (λ k more few. not_equal _ _ (longer k more few))
  where
    most : ℕ
    most = min 128 (length (b ∷ row))

    test : RowPacket → Bool
    test p = cost_from (costs row) p == fewest (b ∷ row)

    longer : (k : ℕ) → n < k → k ≤ most → cost_from (costs row) (Bytes (take k (b ∷ row))) ≢ fewest (b ∷ row)
    longer k more few = λ e. absurd (omega (arith, e, literal_cost b row k (omega arith) (omega arith), is.longest k more (omega arith) (omega arith)))

-- ---- the longest literal

-- one with no more bytes costs least
least_within : (row : List ℕ) (count : ℕ) → equal_at row ≡ 1 → LongestSoFar row count → (lit : ByLiteral row) × (lit.count ≤ count)
least_within row count alone so_far =
    let lit : ByLiteral row = literal_is_least row (omega (arith, alone, (equal_within row).1)) alone in (
      lit,
      elim (cases_lt count lit.count) [
        | inl more ↦ absurd (omega (arith, lit.is, so_far.longer lit.count more lit.few lit.within))
        | inr le ↦ le
      ],
    )

longest_step : (row : List ℕ) (count passed : ℕ) → equal_at row ≡ 1 → LongestSoFar row count → fewest row + passed ≡ 1 + count + fewest (drop count row)
    → 0 < passed → (passed < count) × LongestSoFar row (count - passed)
longest_step row count passed alone so_far is some =
    let least : (lit : ByLiteral row) × (lit.count ≤ count) = least_within row count alone so_far in (
      omega (arith, is, least.0.is, least.0.some, least.1, run_longest row least.0.count count least.1),
      record {
        few = omega (arith, so_far.few);
        within = omega (arith, so_far.within);
        longer = λ k more few within. elim (cases_lt count k) [
          | inl far ↦ so_far.longer k far few within
          | inr near ↦ omega (arith, is, more, run_longest row k count near)
        ];
      },
    )

-- the first packet of a row may stand there
pub first_is : (row : List ℕ) → 0 < length row → IsFirst row (least_packet row)
first_is [] some = absurd (omega arith)
first_is (b ∷ row) some = first_of_row b row

-- ---- equal bytes, counted from the front

same_take : (byte m : ℕ) (row : List ℕ) → same byte (take m row) ≡ min m (same byte row)
same_take byte zero row = omega arith
same_take byte (suc m) [] = omega arith
same_take byte (suc m) (b ∷ row) = by_test (b == byte) (same_cons byte b (take m row)) (same_cons byte b row) (same_take byte m row)
  where
    by_test : (t : Bool) → same byte (b ∷ take m row) ≡ (if t then 1 + same byte (take m row) else 0) → same byte (b ∷ row) ≡ (if t then 1 + same byte row else 0)
        → same byte (take m row) ≡ min m (same byte row) → same byte (b ∷ take m row) ≡ min (suc m) (same byte (b ∷ row))
    by_test true one two rest = omega (arith, one, two, rest)
    by_test false one two rest = omega (arith, one, two)

-- so many bytes in front of others
pub same_front : (byte n : ℕ) (row : List ℕ) → n ≤ length row → ((i : ℕ) → i < n → get_or row i 0 ≡ byte) → n + same byte (drop n row) ≡ same byte row
same_front byte zero row within are = omega arith
same_front byte (suc n) [] within are = absurd (omega arith)
same_front byte (suc n) (b ∷ row) within are =
    let rest : n + same byte (drop n row) ≡ same byte row = same_front byte n row (omega arith) (λ i less. are (suc i) (omega arith)) in
    let more : same byte (b ∷ row) ≡ 1 + same byte row =
    same_cons byte b row ∙ ap (λ t. if t then 1 + same byte row else 0) (eq-eqb b byte (are 0 (omega arith))) in
    omega (arith, rest, more)

-- as many, where the next one is another
pub same_none : (byte n : ℕ) (row : List ℕ) → n < length row → ((i : ℕ) → i < n → get_or row i 0 ≡ byte) → get_or row n 0 ≢ byte → n ≡ same byte row
same_none byte n row less are other =
    omega (arith, same_front byte n row (omega arith) are, none (drop n row) (omega (arith, length-drop n row)) first)
  where
    first : get_or (drop n row) 0 0 ≢ byte
    first e = other (ap (λ k. get_or row k 0) (let e : n ≡ n + 0 = omega arith in e) ∙ sym (get_or-drop n row 0 0) ∙ e)

    none : (rest : List ℕ) → 0 < length rest → get_or rest 0 0 ≢ byte → same byte rest ≡ 0
    none [] some other = absurd (omega arith)
    none (b ∷ rest) some other = same_cons byte b rest ∙ ap (λ t. if t then 1 + same byte rest else 0) (not_equal b byte other)

pub equal_counted : (row : List ℕ) (first count : ℕ) → first ≡ min (length row) 128 → count ≡ same (get_or row 0 0) (take first row) → count ≡ equal_at row
equal_counted row first count first_is counted =
    omega (arith, counted, first_is, same_take (get_or row 0 0) first row, same_within (get_or row 0 0) row, equal_is row)

-- ---- what is read from the table

pub entry_is : (row table : List ℕ) (j : ℕ) → table ≡ costs row → j ≤ length row → get_or table j 0 ≡ fewest (drop j row)
entry_is row table j is within = ap (λ cs. get_or cs j 0) is ∙ costs_drop j row within

pub table_sized : (row table : List ℕ) → table ≡ costs row → length table ≡ length row + 1
table_sized row table is = ap length is ∙ length_costs row

pub literal_shrinks : (row table : List ℕ) (count least cost : ℕ) → table ≡ costs row → equal_at row ≡ 1 → LongestSoFar row count → least ≡ get_or table 0 0
    → cost ≡ get_or table count 0 → least < count + 1 + cost
    → (count + 1 + cost - least ≤ count) × LongestSoFar row (count - (count + 1 + cost - least))
literal_shrinks row table count least cost is alone so_far first there more =
    let step : (count + 1 + cost - least < count) × LongestSoFar row (count - (count + 1 + cost - least)) =
    longest_step row count (count + 1 + cost - least) alone so_far
    (omega (arith, first, there, entry_is row table 0 is (omega arith), entry_is row table count is so_far.within)) (omega arith) in
    (omega (arith, step.0), step.1)

pub literal_stays : (row table : List ℕ) (count least cost : ℕ) → table ≡ costs row → equal_at row ≡ 1 → LongestSoFar row count → least ≡ get_or table 0 0
    → cost ≡ get_or table count 0 → count + 1 + cost ≤ least → IsLongest row count
literal_stays row table count least cost is alone so_far first there le =
    let reached : (lit : ByLiteral row) × (lit.count ≤ count) = least_within row count alone so_far in
    let some : 1 ≤ count = omega (arith, reached.1, reached.0.some) in
    let cheap : 1 + count + fewest (drop count row) ≤ fewest row =
    omega (arith, first, there, le, entry_is row table 0 is (omega arith), entry_is row table count is so_far.within) in
    record {
      some = some;
      few = so_far.few;
      within = so_far.within;
      is = omega (arith, cheap, literal_costs row count some so_far.few so_far.within);
      longest = so_far.longer;
    }

-- ---- the packet that is written

pub run_first : (row out : List ℕ) (n : ℕ) → n ≡ equal_at row → 2 ≤ n → 2 * length row ≤ length out
    → WritesFirst row n 2 (set (set out 0 (257 - n)) 1 (get_or row 0 0))
run_first row out n equal many room =
    let is : least_packet row ≡ Repeat n (get_or row 0 0) = least_run row (omega (arith, equal)) ∙ ap (λ k. Repeat k (get_or row 0 0)) (sym equal) in
    record {
      code_is = coded out (omega (arith, equal, many, room, (equal_within row).1)) ∙ ap packet_code (sym is);
      bytes_are = sym (length-replicate {A = ℕ} n (get_or row 0 0)) ∙ ap (λ p. length (packet_row p)) (sym is);
      some = omega arith;
      within = omega (arith, equal, (equal_within row).1);
      short = omega arith;
    }
  where
    coded : (out : List ℕ) → 2 ≤ length out → take 2 (set (set out 0 (257 - n)) 1 (get_or row 0 0)) ≡ (257 - n) ∷ get_or row 0 0 ∷ []
    coded [] room = absurd (omega arith)
    coded (a ∷ []) room = absurd (omega arith)
    coded (a ∷ b ∷ out) room = refl

pub literal_first : (row out bytes : List ℕ) (n k : ℕ) → equal_at row ≡ 1 → IsLongest row n → 2 * length row ≤ length out → bytes ≡ take n row
    → WritesFirst row n (1 + n) (put_mid 1 k (set out 0 (n - 1)) bytes)
literal_first row out bytes n k alone longest room are =
    let is : least_packet row ≡ Bytes (take n row) = least_literal row n alone longest in
    let len : length (take n row) ≡ n = length-take-le n row longest.within in
    record {
      code_is = coded out (omega (arith, longest.some, longest.within, room)) ∙ ap packet_code (sym is);
      bytes_are = sym len ∙ ap (λ p. length (packet_row p)) (sym is);
      some = longest.some;
      within = longest.within;
      short = omega (arith, longest.some);
    }
  where
    coded : (out : List ℕ) → n < length out → take (1 + n) (put_mid 1 k (set out 0 (n - 1)) bytes) ≡ packet_code (Bytes (take n row))
    coded [] room = absurd (omega arith)
    coded (a ∷ out) room =
        let len : length (take n row) ≡ n = length-take-le n row longest.within in
        take-put_mid 1 k (set (a ∷ out) 0 (n - 1)) bytes (1 + n) (omega (arith, len, ap length are)) (omega arith)
        ∙ ap (λ bs. (n - 1) ∷ bs) are
        ∙ ap (λ k. (k - 1) ∷ take n row) (sym len)

-- the same, of a row that is told in another way
pub first_on : {row row' : List ℕ} {n code : ℕ} {out : List ℕ} → row ≡ row' → WritesFirst row n code out → WritesFirst row' n code out
first_on {row} {row'} {n} {code} {out} e written = let P : List ℕ → Type 0 = λ bs. WritesFirst bs n code out in subst P e written

pub costs_behind : (row : List ℕ) (at : ℕ) → at ≤ length row → drop at (costs row) ≡ costs (drop at row)
unfolding costs
costs_behind row zero within = refl
costs_behind [] (suc at) within = absurd (omega arith)
costs_behind (b ∷ row) (suc at) within = costs_behind row at (omega arith)

-- ---- the row

-- This much of a row is coded, in a prefix of the bytes that are written to.
pub record RowSoFar (row out : List ℕ) (len : ℕ) (rest : List ℕ) : Type 0 where
  pub room : len + 2 * length rest ≤ length out
  pub short : len + 2 * length rest ≤ 2 * length row
  pub most : ℕ
  pub enough : length rest ≤ most
  pub is : least_row row ≡ take len out ++ flat_map packet_code (packets_from most rest)

-- nothing is coded
pub row_begin : (row out : List ℕ) → 2 * length row ≤ length out → RowSoFar row out 0 row
unfolding least_row
row_begin row out room = record {
  room = omega arith;
  short = omega arith;
  most = length row;
  enough = omega arith;
  is = refl;
}

-- the packets begin with the next one
packets-more : (most : ℕ) (rest : List ℕ) → 0 < length rest
    → packets_from (suc most) rest ≡ least_packet rest ∷ packets_from most (drop (length (packet_row (least_packet rest))) rest)
unfolding packets_from
packets-more most [] some = absurd (omega arith)
packets-more most (b ∷ rest) some = refl

-- bytes up to the last one are written
put_mid-end : (out part : List ℕ) (len k : ℕ) → k ≡ length out - len → put_mid len k out part ≡ take len out ++ part
put_mid-end out part len k all =
    ap (λ bs. take len out ++ (part ++ bs)) (drop_all k (drop len out) (omega (arith, length-drop len out)))
    ∙ ap (λ bs. take len out ++ bs) (append-nil part)

-- one more packet is coded
row-more : (row out part' out' rest : List ℕ) (len count code : ℕ) → RowSoFar row out len rest → 0 < length rest
    → WritesFirst rest count code part' → length part' ≡ length out - len → out' ≡ take len out ++ part'
    → RowSoFar row out' (len + code) (drop count rest)
row-more row out part' out' rest len count code so_far some written part_len put =
    let n : ℕ = length (packet_row (least_packet rest)) in
    let more : so_far.most ≡ suc (so_far.most - 1) = omega (arith, so_far.enough) in
    let front_len : length (take len out) ≡ len = length-take-le len out (omega (arith, so_far.room)) in
    let front : take (len + code) out' ≡ take len out ++ packet_code (least_packet rest) =
    ap (take (len + code)) put
    ∙ ap (λ k. take (k + code) (take len out ++ part')) (sym front_len)
    ∙ take-append-add (take len out) part' code
    ∙ ap (λ bs. take len out ++ bs) written.code_is in
    let codes : List ℕ = flat_map packet_code (packets_from (so_far.most - 1) (drop count rest)) in
    record {
      room = omega (
        arith,
        so_far.room,
        written.short,
        written.within,
        length-drop count rest,
        part_len,
        ap length put,
        length-append (take len out) part',
        front_len,
      );
      short = omega (arith, so_far.short, written.short, written.within, length-drop count rest);
      most = so_far.most - 1;
      enough = omega (arith, so_far.enough, written.some, length-drop count rest);
      is = so_far.is
          ∙ ap (λ k. take len out ++ flat_map packet_code (packets_from k rest)) more
          ∙ ap (λ ps. take len out ++ flat_map packet_code ps) (packets-more (so_far.most - 1) rest some)
          ∙ ap (λ k. take len out ++ (packet_code (least_packet rest)
          ++ flat_map packet_code (packets_from (so_far.most - 1) (drop k rest)))) (sym written.bytes_are)
          ∙ sym (append_assoc (take len out) (packet_code (least_packet rest)) codes)
          ∙ ap (λ bs. bs ++ codes) (sym front);
    }

-- the same, as it is written
pub row_step : {row out part' rest rest' : List ℕ} {len count code : ℕ} → RowSoFar row out len rest → 0 < length rest
    → WritesFirst rest count code part' → length part' ≡ length out - len → rest' ≡ drop count rest
    → RowSoFar row (put_mid len (length out - len) out part') (len + code) rest'
row_step {row} {out} {part'} {rest} {rest'} {len} {count} {code} so_far some written part_len behind =
    let out' : List ℕ = put_mid len (length out - len) out part' in
    let put : out' ≡ take len out ++ part' = put_mid-end out part' len (length out - len) refl in
    let P : List ℕ → Type 0 = RowSoFar row out' (len + code) in
    subst P (sym behind) (row-more row out part' out' rest len count code so_far some written part_len put)

-- as many packets as a row has bytes are enough
packets_enough : (m n : ℕ) (row : List ℕ) → length row ≤ m → length row ≤ n → packets_from m row ≡ packets_from n row
unfolding packets_from
packets_enough zero zero [] a b = refl
packets_enough zero (suc n) [] a b = refl
packets_enough (suc m) zero [] a b = refl
packets_enough (suc m) (suc n) [] a b = refl
packets_enough zero n (b ∷ row) few few' = absurd (omega arith)
packets_enough (suc m) zero (b ∷ row) few few' = absurd (omega arith)
packets_enough (suc m) (suc n) (b ∷ row) few few' =
    let count : ℕ = length (packet_row (least_packet (b ∷ row))) in
    let some : 1 ≤ count = (first_is (b ∷ row) (omega arith)).some in
    let left : length (drop count (b ∷ row)) ≡ length (b ∷ row) - count = length-drop count (b ∷ row) in
    ap (λ ps. least_packet (b ∷ row) ∷ ps) (packets_enough m n (drop count (b ∷ row)) (omega (arith, some, left)) (omega (arith, some, left)))

-- the rest is coded at once
pub row_rest : (row out part part' rest : List ℕ) (len code : ℕ) → RowSoFar row out len rest → 0 < length rest
    → take code part' ≡ least_row rest
    → take (len + code) (put_mid len (length (put_mid len (length out - len) out part) - len) (put_mid len (length out - len) out part) part') ≡ least_row row
unfolding least_row
row_rest row out part part' rest len code so_far some coded =
    let middle : List ℕ = put_mid len (length out - len) out part in
    let front : middle ≡ take len out ++ part = put_mid-end out part len (length out - len) refl in
    let len_is : length (take len out) ≡ len = length-take-le len out (omega (arith, so_far.room)) in
    let kept : take len middle ≡ take len out =
    ap (take len) front ∙ ap (λ k. take k (take len out ++ part)) (sym len_is) ∙ take-append_seam (take len out) part in
    ap (take (len + code)) (put_mid-end middle part' len (length middle - len) refl ∙ ap (λ bs. bs ++ part') kept)
    ∙ ap (λ k. take (k + code) (take len out ++ part')) (sym len_is)
    ∙ take-append-add (take len out) part' code
    ∙ ap (λ bs. take len out ++ bs) (coded ∙ ap (flat_map packet_code) (packets_enough (length rest) so_far.most rest (omega arith) so_far.enough))
    ∙ sym so_far.is

-- the row is coded
pub row_end : (row out rest : List ℕ) (len : ℕ) → RowSoFar row out len rest → length rest ≡ 0 → take len out ≡ least_row row
unfolding packets_from
row_end row out [] len so_far none = sym (so_far.is ∙ append-nil (take len out))
row_end row out (b ∷ rest) len so_far none = absurd (omega arith)
