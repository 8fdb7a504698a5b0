-- The canonical spelling, step by step.
use Rattle.std.proofs.Common.{◌≡◌, ℕ, zero, suc, ◌+◌, ◌-◌, ◌*◌, ◌/◌, ◌%◌, ◌<◌, ◌≤◌, nat_eq, Bool, true, false, if◌then◌else◌, List, [], ◌∷◌}
use Rattle.std.proofs.Common.{◌++◌, length, take, drop, refl, sym, ◌∙◌, ap, subst, arith, append_assoc, length-append, length-drop}
use Rattle.std.specs.List.{flat_map, starts_with}
use Rattle.std.proofs.lemmas.List.{append-nil, drop-drop, length-take-le, take-append-drop}
use Rattle.std.proofs.lemmas.Bool.Decides.{Decides-eqb}
use Rattle.std.proofs.lemmas.Slice.Eq.{starts_is}
use Rattle.std.proofs.Math.Nat.{le-mul_of_pos_right, le_of_mul-le-mul_right, mul-le-mul_right, mul-mod_left, mul-sub}
use Rattle.pwg_definitions.specs.Groups.{copies, packet_spelling, packet_units}
use Rattle.pwg_laws.proofs.Packets.{length-copies}
use Rattle.pwg_lines.specs.Canonical.{canonical, copies_at, next_packet, packets_from, unequal_at}

-- ---- counting units

-- This many copies of the unit are is_counted.
pub record CopiesSoFar (most : ℕ) (unit line : List ℕ) (count : ℕ) (rest : List ℕ) : Type 0 where
  pub within : count ≤ most
  pub is : copies_at most unit line ≡ count + copies_at (most - count) unit rest

copies-more : (left : ℕ) (unit rest : List ℕ) → 0 < left → starts_with nat_eq rest unit ≡ true
    → copies_at left unit rest ≡ 1 + copies_at (left - 1) unit (drop (length unit) rest)
unfolding copies_at
copies-more zero unit rest some e = absurd (omega arith)
copies-more (suc left) unit rest some e = grind arith

copies-other : (left : ℕ) (unit rest : List ℕ) → starts_with nat_eq rest unit ≡ false → copies_at left unit rest ≡ 0
unfolding copies_at
copies-other zero unit rest e = refl
copies-other (suc left) unit rest e = ap (λ b. if b then 1 + copies_at left unit (drop (length unit) rest) else 0) e

copies-none : (left : ℕ) (unit rest : List ℕ) → left ≡ 0 → copies_at left unit rest ≡ 0
unfolding copies_at
copies-none left unit rest none = ap (λ k. copies_at k unit rest) none

pub copies_step : (most : ℕ) (unit line : List ℕ) (count : ℕ) (rest : List ℕ) → CopiesSoFar most unit line count rest → count < most
    → starts_with nat_eq rest unit ≡ true → CopiesSoFar most unit line (count + 1) (drop (length unit) rest)
copies_step most unit line count rest so_far less e = grind (arith, copies-more)

pub copies_stop : (most : ℕ) (unit line : List ℕ) (count : ℕ) (rest : List ℕ) → CopiesSoFar most unit line count rest
    → starts_with nat_eq rest unit ≡ false → count ≡ copies_at most unit line
copies_stop most unit line count rest so_far e = omega (arith, so_far.is, copies-other (most - count) unit rest e)

pub copies_end : (most : ℕ) (unit line : List ℕ) (count : ℕ) (rest : List ℕ) → CopiesSoFar most unit line count rest
    → most ≤ count → count ≡ copies_at most unit line
copies_end most unit line count rest so_far all = omega (arith, so_far.is, copies-none (most - count) unit rest (omega arith))

-- This many unequal units are is_counted, and the rest is whole units.
pub record UnequalSoFar (most unit : ℕ) (line : List ℕ) (count : ℕ) (rest : List ℕ) : Type 0 where
  pub within : count ≤ most
  pub units : ℕ
  pub whole : length rest ≡ units * unit
  pub is : unequal_at most unit line ≡ count + unequal_at (most - count) unit rest

-- this many units are in it
pub units_in : (unit len : ℕ) → 1 ≤ unit → len % unit ≡ 0 → len ≡ len / unit * unit
units_in unit len some whole = omega arith

pub unequal_begin : (most unit : ℕ) (line : List ℕ) → 1 ≤ unit → length line % unit ≡ 0 → UnequalSoFar most unit line 0 line
unequal_begin most unit line some whole = record {
  within = omega arith;
  units = length line / unit;
  whole = units_in unit (length line) some whole;
  is = ap (λ k. unequal_at k unit line) (let e : most ≡ most - 0 = omega arith in e)
      ∙ (let e : unequal_at (most - 0) unit line ≡ 0 + unequal_at (most - 0) unit line = omega arith in e);
}

-- where there is a byte, there is a unit
pub one_unit : (units unit len : ℕ) → len ≡ units * unit → 0 < len → unit ≤ len
one_unit zero unit len e some = omega arith
one_unit (suc units) unit len e some = omega (arith, e)

unequal-more : (left unit : ℕ) (rest : List ℕ) → 0 < left → 0 < length rest → starts_with nat_eq (drop unit rest) (take unit rest) ≡ false
    → unequal_at left unit rest ≡ 1 + unequal_at (left - 1) unit (drop unit rest)
unfolding unequal_at
unequal-more zero unit rest some one e = absurd (omega arith)
unequal-more (suc left) unit [] some one e = absurd (omega arith)
unequal-more (suc left) unit (b ∷ rest) some one e = grind arith

unequal-equal : (left unit : ℕ) (rest : List ℕ) → starts_with nat_eq (drop unit rest) (take unit rest) ≡ true
    → unequal_at left unit rest ≡ 0
unfolding unequal_at
unequal-equal zero unit rest e = refl
unequal-equal (suc left) unit [] e = refl
unequal-equal (suc left) unit (b ∷ rest) e = ap (λ t. if t then 0 else 1 + unequal_at left unit (drop unit (b ∷ rest))) e

unequal-none : (left unit : ℕ) (rest : List ℕ) → left ≡ 0 → unequal_at left unit rest ≡ 0
unfolding unequal_at
unequal-none left unit rest none = ap (λ k. unequal_at k unit rest) none

unequal-nothing : (left unit : ℕ) (rest : List ℕ) → length rest ≡ 0 → unequal_at left unit rest ≡ 0
unfolding unequal_at
unequal-nothing zero unit rest none = refl
unequal-nothing (suc left) unit [] none = refl
unequal-nothing (suc left) unit (b ∷ rest) none = absurd (omega arith)

pub unequal_step : (most unit : ℕ) (line : List ℕ) (count : ℕ) (rest : List ℕ) → UnequalSoFar most unit line count rest → count < most
    → 0 < length rest
    → starts_with nat_eq (drop unit rest) (take unit rest) ≡ false → UnequalSoFar most unit line (count + 1) (drop unit rest)
unequal_step most unit line count rest so_far less some e = record {
  within = omega arith;
  units = so_far.units - 1;
  whole = fewer_units so_far.units so_far.whole;
  is =
      let fewer : most - count - 1 ≡ most - (count + 1) = omega arith in
      let same : unequal_at (most - count - 1) unit (drop unit rest) ≡ unequal_at (most - (count + 1)) unit (drop unit rest) =
      ap (λ k. unequal_at k unit (drop unit rest)) fewer in
      omega (arith, so_far.is, unequal-more (most - count) unit rest (omega arith) some e, same);
}
  where
    fewer_units : (units : ℕ) → length rest ≡ units * unit → length (drop unit rest) ≡ (units - 1) * unit
    fewer_units zero whole = absurd (omega (arith, whole))
    fewer_units (suc units) whole =
        let less : suc units - 1 ≡ units = omega arith in
        length-drop unit rest ∙ (let e : length rest - unit ≡ units * unit = omega (arith, whole) in e) ∙ ap (λ k. k * unit) (sym less)

pub unequal_stop : (most unit : ℕ) (line : List ℕ) (count : ℕ) (rest : List ℕ) → UnequalSoFar most unit line count rest
    → starts_with nat_eq (drop unit rest) (take unit rest) ≡ true → count ≡ unequal_at most unit line
unequal_stop most unit line count rest so_far e = omega (arith, so_far.is, unequal-equal (most - count) unit rest e)

pub unequal_full : (most unit : ℕ) (line : List ℕ) (count : ℕ) (rest : List ℕ) → UnequalSoFar most unit line count rest
    → most ≤ count → count ≡ unequal_at most unit line
unequal_full most unit line count rest so_far all = omega (arith, so_far.is, unequal-none (most - count) unit rest (omega arith))

pub unequal_end : (most unit : ℕ) (line : List ℕ) (count : ℕ) (rest : List ℕ) → UnequalSoFar most unit line count rest
    → length rest ≡ 0 → count ≡ unequal_at most unit line
unequal_end most unit line count rest so_far none = omega (arith, so_far.is, unequal-nothing (most - count) unit rest none)

-- a test of the first units, made on their parts
pub parts_tested : (rest : List ℕ) {front behind : List ℕ} (unit : ℕ) {result b : Bool} → front ≡ take unit rest → behind ≡ drop unit rest
    → result ≡ starts_with nat_eq behind front → result ≡ b → starts_with nat_eq (drop unit rest) (take unit rest) ≡ b
parts_tested rest {front} unit front_is behind_is tested is =
    ap (starts_with nat_eq (drop unit rest)) (sym front_is) ∙ ap (λ bs. starts_with nat_eq bs front) (sym behind_is) ∙ sym tested ∙ is

-- ---- the first units of a line

-- what begins with some bytes is these and the rest
begins-is : (bytes unit : List ℕ) → starts_with nat_eq bytes unit ≡ true → bytes ≡ unit ++ drop (length unit) bytes
begins-is bytes unit e = (starts_is Decides-eqb bytes unit true (sym e)).0 refl

begins-front : (unit : ℕ) (bytes : List ℕ) → starts_with nat_eq bytes (take unit bytes) ≡ true
begins-front unit bytes =
    (starts_is Decides-eqb bytes (take unit bytes) (starts_with nat_eq bytes (take unit bytes)) refl).1 (drop unit bytes)
    (sym (take-append-drop unit bytes))

pub copies_at-most : (most : ℕ) (unit bytes : List ℕ) → copies_at most unit bytes ≤ most
unfolding copies_at
copies_at-most zero unit bytes = omega arith
copies_at-most (suc most) unit bytes = grind (arith, copies_at-most most unit (drop (length unit) bytes))

pub copies_at-front : (most : ℕ) (unit bytes : List ℕ)
    → bytes ≡ copies (copies_at most unit bytes) unit ++ drop (copies_at most unit bytes * length unit) bytes
unfolding copies_at
copies_at-front zero unit bytes = ap (λ k. drop k bytes) (let none : 0 ≡ 0 * length unit = omega arith in none)
copies_at-front (suc most) unit bytes = by_test (copies_at-front most unit (drop (length unit) bytes)) (starts_with nat_eq bytes unit) refl
  where
    behind : List ℕ
    behind = drop (length unit) bytes

    by_test : behind ≡ copies (copies_at most unit behind) unit ++ drop (copies_at most unit behind * length unit) behind
        → (b : Bool) → starts_with nat_eq bytes unit ≡ b
        → bytes ≡ copies (if b then 1 + copies_at most unit behind else 0) unit
        ++ drop ((if b then 1 + copies_at most unit behind else 0) * length unit) bytes
    by_test after true e =
        let n : ℕ = copies_at most unit behind in
        let more : suc n ≡ 1 + n = omega arith in
        let longer : length unit + n * length unit ≡ suc n * length unit = omega arith in
        begins-is bytes unit e
        ∙ ap (λ bs. unit ++ bs) after
        ∙ ap (λ bs. unit ++ (copies n unit ++ bs)) (drop-drop (n * length unit) (length unit) bytes ∙ ap (λ k. drop k bytes) longer)
        ∙ sym (append_assoc unit (copies n unit) (drop (suc n * length unit) bytes))
        ∙ ap (λ k. copies k unit ++ drop (k * length unit) bytes) more
    by_test after false e = ap (λ k. drop k bytes) (let none : 0 ≡ 0 * length unit = omega arith in none)

pub copies_at-within : (most : ℕ) (unit bytes : List ℕ) → copies_at most unit bytes * length unit ≤ length bytes
copies_at-within most unit bytes =
    let n : ℕ = copies_at most unit bytes in
    let sized : length bytes ≡ length (copies n unit) + length (drop (n * length unit) bytes) =
    ap length (copies_at-front most unit bytes) ∙ length-append (copies n unit) (drop (n * length unit) bytes) in
    omega (arith, sized, length-copies n unit)

pub unequal_at-most : (most unit : ℕ) (bytes : List ℕ) → unequal_at most unit bytes ≤ most
unfolding unequal_at
unequal_at-most zero unit bytes = omega arith
unequal_at-most (suc most) unit [] = omega arith
unequal_at-most (suc most) unit (b ∷ bytes) = grind (arith, unequal_at-most most unit (drop unit (b ∷ bytes)))

pub unequal_at-within : (most unit : ℕ) (bytes : List ℕ) (units : ℕ) → length bytes ≡ units * unit → unequal_at most unit bytes ≤ units
unfolding unequal_at
unequal_at-within zero unit bytes units whole = omega arith
unequal_at-within (suc most) unit [] units whole = omega arith
unequal_at-within (suc most) unit (b ∷ bytes) zero whole =
    absurd (let none : length (b ∷ bytes) ≡ 0 = whole ∙ omega arith in omega (arith, none))
unequal_at-within (suc most) unit (b ∷ bytes) (suc units) whole =
    grind (arith, length-drop, unequal_at-within most unit (drop unit (b ∷ bytes)) units (length-drop unit (b ∷ bytes) ∙ omega (arith, whole)))

-- The counts of the first units of a line, which has one unit or more.
pub record IsCounted (unit : ℕ) (line : List ℕ) (units : ℕ) : Type 0 where
  pub few_equal : copies_at 128 (take unit line) line ≤ 128
  pub equal_within : copies_at 128 (take unit line) line ≤ units
  pub few_unequal : unequal_at 128 unit line ≤ 128
  pub unequal_within : unequal_at 128 unit line ≤ units
  pub unequal_some : copies_at 128 (take unit line) line ≤ 1 → 1 ≤ unequal_at 128 unit line

-- where none is unequal, two are equal
two_equal : (most unit : ℕ) (line : List ℕ) → 1 ≤ most → 0 < length line → length (take unit line) ≡ unit → unequal_at most unit line ≡ 0
    → starts_with nat_eq (drop unit line) (take unit line) ≡ true
unfolding unequal_at
two_equal zero unit line some one sized none = absurd (omega arith)
two_equal (suc most) unit [] some one sized none = absurd (omega arith)
two_equal (suc most) unit (b ∷ line) some one sized none = grind arith

pub is_counted : (unit : ℕ) (line : List ℕ) (units : ℕ) → 1 ≤ unit → length line ≡ units * unit → 0 < length line → IsCounted unit line units
is_counted unit line units some whole one = record {
  few_equal = copies_at-most 128 (take unit line) line;
  equal_within =
      let within : copies_at 128 (take unit line) line * unit ≤ units * unit =
      (let P : ℕ → Type 0 = λ k. copies_at 128 (take unit line) line * k ≤ units * unit in
      subst P sized (let h : copies_at 128 (take unit line) line * length (take unit line) ≤ length line =
      copies_at-within 128 (take unit line) line in omega (arith, h, whole))) in
      le_of_mul-le-mul_right within some;
  few_unequal = unequal_at-most 128 unit line;
  unequal_within = unequal_at-within 128 unit line units whole;
  unequal_some = λ few. by_count few (unequal_at 128 unit line) refl;
}
  where
    sized : length (take unit line) ≡ unit
    sized = length-take-le unit line (one_unit units unit (length line) whole one)

    by_count : copies_at 128 (take unit line) line ≤ 1 → (n : ℕ) → unequal_at 128 unit line ≡ n → 1 ≤ n
    by_count few (suc n) e = omega arith
    by_count few zero e =
        let first : copies_at 128 (take unit line) line ≡ 1 + copies_at 127 (take unit line) (drop (length (take unit line)) line) =
        copies-more 128 (take unit line) line (omega arith) (begins-front unit line) in
        let second : starts_with nat_eq (drop (length (take unit line)) line) (take unit line) ≡ true =
        ap (λ k. starts_with nat_eq (drop k line) (take unit line)) sized ∙ two_equal 128 unit line (omega arith) one sized e in
        let third : copies_at 127 (take unit line) (drop (length (take unit line)) line)
        ≡ 1 + copies_at 126 (take unit line) (drop (length (take unit line)) (drop (length (take unit line)) line)) =
        copies-more 127 (take unit line) (drop (length (take unit line)) line) (omega arith) second in
        absurd (omega (arith, few, first, third))

-- The counts of the first units of a line that is not empty, in units and in bytes.
pub record IsCountedLine (unit : ℕ) (line : List ℕ) : Type 0 where
  pub few_equal : copies_at 128 (take unit line) line ≤ 128
  pub equal_bytes : copies_at 128 (take unit line) line * unit ≤ length line
  pub few_unequal : unequal_at 128 unit line ≤ 128
  pub unequal_bytes : unequal_at 128 unit line * unit ≤ length line
  pub unequal_some : copies_at 128 (take unit line) line ≤ 1 → 1 ≤ unequal_at 128 unit line

pub counted_line : (unit : ℕ) (line : List ℕ) → 1 ≤ unit → length line % unit ≡ 0 → 0 < length line → IsCountedLine unit line
counted_line unit line some whole one =
    let units_are : length line ≡ length line / unit * unit = units_in unit (length line) some whole in
    let counts : IsCounted unit line (length line / unit) = is_counted unit line (length line / unit) some units_are one in
    record {
      few_equal = counts.few_equal;
      equal_bytes = omega (arith, units_are, mul-le-mul_right unit counts.equal_within);
      few_unequal = counts.few_unequal;
      unequal_bytes = omega (arith, units_are, mul-le-mul_right unit counts.unequal_within);
      unequal_some = counts.unequal_some;
    }

-- a number of units in bytes
pub scaled : (n m unit len : ℕ) → n ≡ m → m * unit ≤ len → n * unit ≤ len
scaled n m unit len same within = let P : ℕ → Type 0 = λ k. k * unit ≤ len in subst P (sym same) within

-- ---- a group

packets_spelled : (most unit : ℕ) (rest : List ℕ) → 0 < length rest → length rest ≤ most
    → flat_map packet_spelling (packets_from most unit rest)
    ≡ packet_spelling (next_packet unit rest)
    ++ flat_map packet_spelling (packets_from (most - 1) unit (drop (packet_units 0 (next_packet unit rest) * unit) rest))
unfolding packets_from
packets_spelled most unit [] one enough = absurd (omega arith)
packets_spelled zero unit (b ∷ rest) one enough = absurd (omega arith)
packets_spelled (suc most) unit (b ∷ rest) one enough = grind arith

packets-nothing : (most unit : ℕ) (rest : List ℕ) → length rest ≡ 0 → packets_from most unit rest ≡ []
unfolding packets_from
packets-nothing most unit [] none = refl
packets-nothing most unit (b ∷ rest) none = absurd (omega arith)

-- Packets are appended for a prefix of the line, and whole units are left.
pub record GroupSoFar (unit more : ℕ) (line old now rest : List ℕ) : Type 0 where
  pub units : ℕ
  pub whole : length rest ≡ units * unit
  pub shorter : length rest ≤ length line
  pub most : ℕ
  pub enough : length rest ≤ most
  pub is : now ++ flat_map packet_spelling (packets_from most unit rest) ≡ old ++ canonical unit (more + 1) line
  pub part : (part : List ℕ) × (now ≡ old ++ part)

pub group_begin : (unit more : ℕ) (line old now : List ℕ) → 1 ≤ unit → length line % unit ≡ 0 → now ≡ old ++ more ∷ []
    → GroupSoFar unit more line old now line
group_begin unit more line old now some whole begun = record {
  units = length line / unit;
  whole = units_in unit (length line) some whole;
  shorter = omega arith;
  most = length line;
  enough = omega arith;
  is =
      let body : List ℕ = flat_map packet_spelling (packets_from (length line) unit line) in
      ap (λ bs. bs ++ body) begun ∙ append_assoc old (more ∷ []) body
      ∙ ap (λ k. old ++ k ∷ body) (let same : more ≡ more + 1 - 1 = omega arith in same);
  part = (more ∷ [], begun);
}

pub whole_units : (units unit len : ℕ) → len ≡ units * unit → len % unit ≡ 0
whole_units units unit len whole = ap (λ k. k % unit) whole ∙ mul-mod_left units unit

-- one packet more
pub group_step : (unit more : ℕ) (line old now rest now' rest' : List ℕ) (n : ℕ) → 1 ≤ unit → GroupSoFar unit more line old now rest
    → 0 < length rest
    → now' ≡ now ++ packet_spelling (next_packet unit rest) → n ≡ packet_units 0 (next_packet unit rest) → 1 ≤ n → n * unit ≤ length rest
    → rest' ≡ drop (n * unit) rest → GroupSoFar unit more line old now' rest'
group_step unit more line old now rest now' rest' n some so_far one grown count one_more within behind = record {
  units = so_far.units - n;
  whole = ap length behind ∙ length-drop (n * unit) rest ∙ ap (λ k. k - n * unit) so_far.whole ∙ units_less;
  shorter = omega (arith, ap length behind, length-drop (n * unit) rest, so_far.shorter);
  most = so_far.most - 1;
  enough = omega (arith, ap length behind, length-drop (n * unit) rest, so_far.enough, le-mul_of_pos_right {m = unit} n some);
  is = ap (λ bs. now' ++ flat_map packet_spelling (packets_from (so_far.most - 1) unit bs)) (behind ∙ ap (λ k. drop (k * unit) rest) count)
      ∙ ap (λ bs. bs ++ behind_spelled) grown
      ∙ append_assoc now (packet_spelling (next_packet unit rest)) behind_spelled
      ∙ ap (λ bs. now ++ bs) (sym (packets_spelled so_far.most unit rest one so_far.enough))
      ∙ so_far.is;
  part = (
    so_far.part.0 ++ packet_spelling (next_packet unit rest),
    grown ∙ ap (λ bs. bs ++ packet_spelling (next_packet unit rest)) so_far.part.1
        ∙ append_assoc old so_far.part.0 (packet_spelling (next_packet unit rest)),
  );
}
  where
    units_less : so_far.units * unit - n * unit ≡ (so_far.units - n) * unit
    units_less = omega (arith, mul-sub unit so_far.units n)

    behind_spelled : List ℕ
    behind_spelled =
        flat_map packet_spelling (packets_from (so_far.most - 1) unit (drop (packet_units 0 (next_packet unit rest) * unit) rest))

pub group_end : (unit more : ℕ) (line old now rest : List ℕ) → GroupSoFar unit more line old now rest → length rest ≡ 0
    → now ≡ old ++ canonical unit (more + 1) line
group_end unit more line old now rest so_far none =
    sym (ap (λ bs. now ++ flat_map packet_spelling bs) (packets-nothing so_far.most unit rest none) ∙ append-nil now) ∙ so_far.is
