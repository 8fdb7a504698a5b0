-- A packet that is spelled is read, and a packet that is read was spelled.
use Rattle.std.proofs.Common.{◌≡◌, ℕ, zero, suc, ◌+◌, ◌-◌, ◌*◌, ◌<◌, ◌≤◌, ◌==◌, nat_lt, Bool, true, false, if◌then◌else◌, List, [], ◌∷◌}
use Rattle.std.proofs.Common.{◌++◌, length, take, drop, refl, sym, ◌∙◌, ap, subst, arith, length-append}
use Rattle.std.proofs.lemmas.Bool.{ltb-true, ltb-false, lt-ltb, le-ltb, eqb-true, eqb-false, ne_eqb}
use Rattle.std.proofs.lemmas.List.{take_at, drop_at, take-append-drop, length-take-le}
use Rattle.pwg_definitions.specs.Header.{KindRow}
use Rattle.pwg_definitions.specs.Groups.{IsBytes, IsPacket, Packet, PacketRead, copies, packet_at, packet_from, packet_gives, packet_of}
use Rattle.pwg_definitions.specs.Groups.{packet_spelling, packet_units, units_of}
use Rattle.pwg_definitions.specs.Groups.Packet.{Run, Clear, Literal}
use Rattle.pwg_definitions.specs.Groups.PacketRead.{One, Short, Long}

-- ---- what is spelled is read

packet_from-append : (make : List ℕ → Packet) (count : ℕ) (bytes rest : List ℕ) → length bytes ≡ count
    → packet_from make count (bytes ++ rest) ≡ One (make bytes) rest
packet_from-append make count bytes rest sized =
    let enough : nat_lt (length (bytes ++ rest)) count ≡ false = le-ltb _ _ (omega (arith, length-append bytes rest)) in
    ap (λ b. if b then Short else One (make (take count (bytes ++ rest))) (drop count (bytes ++ rest))) enough
    ∙ ap (λ bs. One (make bs) (drop count (bytes ++ rest))) (take_at bytes rest count sized)
    ∙ ap (One (make bytes)) (drop_at bytes rest count sized)

-- a first byte below 128
packet_at-run : (row : KindRow) (left n : ℕ) (unit rest : List ℕ) → nat_lt n 128 ≡ true → n + 1 ≤ left → length unit ≡ row.unit
    → packet_at row left (n ∷ unit ++ rest) ≡ One (Run (n + 1) unit) rest
packet_at-run row left n unit rest small fits sized =
    let within : nat_lt left (n + 1) ≡ false = le-ltb _ _ fits in
    rw (small, within) (packet_from-append (Run (n + 1)) row.unit unit rest sized)

-- a first byte above 128
packet_at-literal : (row : KindRow) (left n : ℕ) (bytes rest : List ℕ) → nat_lt n 128 ≡ false → (n == 128) ≡ false → 257 - n ≤ left
    → length bytes ≡ (257 - n) * row.unit → packet_at row left (n ∷ bytes ++ rest) ≡ One (Literal (257 - n) bytes) rest
packet_at-literal row left n bytes rest large other fits sized =
    let within : nat_lt left (257 - n) ≡ false = le-ltb _ _ fits in
    rw (large, other, within) (packet_from-append (Literal (257 - n)) ((257 - n) * row.unit) bytes rest sized)

pub packet_at-spelling : (row : KindRow) (left : ℕ) (p : Packet) (rest : List ℕ) → IsPacket row left p
    → packet_at row left (packet_spelling p ++ rest) ≡ One p rest
packet_at-spelling row left (Run n unit) rest is =
    let again : (n - 1) + 1 ≡ n = omega (arith, is.0) in
    packet_at-run row left (n - 1) unit rest (lt-ltb _ _ (omega (arith, is.0, is.1))) (omega (arith, is.0, is.2)) is.3
    ∙ ap (λ k. One (Run k unit) rest) again
packet_at-spelling row left Clear rest is = ap (λ b. if b then Long else One Clear rest) (le-ltb left left (omega arith))
packet_at-spelling row left (Literal n bytes) rest is =
    let again : 257 - (257 - n) ≡ n = omega (arith, is.1) in
    packet_at-literal row left (257 - n) bytes rest (le-ltb _ _ (omega (arith, is.1))) (ne_eqb _ _ (λ e. omega (arith, is.0, is.1, e)))
    (omega (arith, is.1, is.2)) (is.3 ∙ ap (λ k. k * row.unit) (sym again))
    ∙ ap (λ k. One (Literal k bytes) rest) again

-- a packet has a unit, and no more than are left
pub IsPacket-sizes : (row : KindRow) (left : ℕ) (p : Packet) → IsPacket row left p → (1 ≤ packet_units left p)
    × (packet_units left p ≤ left)
IsPacket-sizes row left (Run n unit) is = (is.0, is.2)
IsPacket-sizes row left Clear is = (is, omega arith)
IsPacket-sizes row left (Literal n bytes) is = (omega (arith, is.0), is.2)

-- ---- what is read was spelled

pub length-copies : (n : ℕ) (unit : List ℕ) → length (copies n unit) ≡ n * length unit
length-copies zero unit = omega arith
length-copies (suc n) unit = length-append unit (copies n unit) ∙ ap (λ k. length unit + k) (length-copies n unit) ∙ omega arith

-- A packet that was read: the bytes that it took, and what they are.
pub record IsRead (row : KindRow) (left : ℕ) (bytes : List ℕ) (p : Packet) (rest : List ℕ) : Type 0 where
  pub front : List ℕ
  pub split : bytes ≡ front ++ rest
  pub sized : length front ≡ length (packet_spelling p)
  pub again : (more : List ℕ) → packet_at row left (front ++ more) ≡ One p more
  pub within : packet_units left p ≤ left
  pub gives : length row.white ≡ row.unit → length (packet_gives row left p) ≡ packet_units left p * row.unit
  pub spelled : IsBytes bytes → 1 ≤ left → (front ≡ packet_spelling p) × IsPacket row left p

-- what is known of what the bytes begin with
abbrev pub ReadFacts : KindRow → ℕ → List ℕ → PacketRead → Type 0
ReadFacts row left bytes (One p rest) = IsRead row left bytes p rest
ReadFacts row left bytes Short = Unit {0}
ReadFacts row left bytes Long = (more : List ℕ) → packet_at row left (take 1 bytes ++ more) ≡ Long

run_facts : (row : KindRow) (left n : ℕ) (bytes : List ℕ) → nat_lt n 128 ≡ true → n + 1 ≤ left
    → ReadFacts row left (n ∷ bytes) (packet_from (Run (n + 1)) row.unit bytes)
run_facts row left n bytes small fits = by_length (nat_lt (length bytes) row.unit) refl
  where
    by_length : (b : Bool) → nat_lt (length bytes) row.unit ≡ b
        → ReadFacts row left (n ∷ bytes) (if b then Short else One (Run (n + 1) (take row.unit bytes)) (drop row.unit bytes))
    by_length true e = tt
    by_length false e =
        let enough : length (take row.unit bytes) ≡ row.unit = length-take-le row.unit bytes (ltb-false _ _ e) in
        record {
          front = n ∷ take row.unit bytes;
          split = ap (λ bs. n ∷ bs) (sym (take-append-drop row.unit bytes));
          sized = refl;
          again = λ more. packet_at-run row left n (take row.unit bytes) more small fits enough;
          within = fits;
          gives = λ _. length-copies (n + 1) (take row.unit bytes) ∙ ap (λ k. (n + 1) * k) enough;
          spelled =
              λ _ _. (ap (λ k. k ∷ take row.unit bytes) (omega arith), (omega arith, omega (arith, ltb-true n 128 small), fits, enough));
        }

clear_facts : (row : KindRow) (left n : ℕ) (bytes : List ℕ) → (n == 128) ≡ true → ReadFacts row left (n ∷ bytes) (One Clear bytes)
clear_facts row left n bytes is =
    let n_is : n ≡ 128 = eqb-true n 128 is in
    record {
      front = n ∷ [];
      split = refl;
      sized = refl;
      again = λ more. ap (λ k. packet_at row left (k ∷ more)) n_is ∙ packet_at-clear more;
      within = omega arith;
      gives = λ white. length-copies left row.white ∙ ap (λ k. left * k) white;
      spelled = λ _ some. (ap (λ k. k ∷ []) n_is, some);
    }
  where
    packet_at-clear : (more : List ℕ) → packet_at row left (128 ∷ more) ≡ One Clear more
    packet_at-clear more = ap (λ b. if b then Long else One Clear more) (le-ltb left left (omega arith))

literal_facts : (row : KindRow) (left n : ℕ) (bytes : List ℕ) → nat_lt n 128 ≡ false → (n == 128) ≡ false → 257 - n ≤ left
    → ReadFacts row left (n ∷ bytes) (packet_from (Literal (257 - n)) ((257 - n) * row.unit) bytes)
literal_facts row left n bytes large other fits = by_length (nat_lt (length bytes) ((257 - n) * row.unit)) refl
  where
    by_length : (b : Bool) → nat_lt (length bytes) ((257 - n) * row.unit) ≡ b
        → ReadFacts row left (n ∷ bytes)
        (if b then Short else One (Literal (257 - n) (take ((257 - n) * row.unit) bytes)) (drop ((257 - n) * row.unit) bytes))
    by_length true e = tt
    by_length false e =
        let count : ℕ = (257 - n) * row.unit in
        let enough : length (take count bytes) ≡ count = length-take-le count bytes (ltb-false _ _ e) in
        let above : 128 ≤ n = ltb-false n 128 large in
        record {
          front = n ∷ take count bytes;
          split = ap (λ bs. n ∷ bs) (sym (take-append-drop count bytes));
          sized = refl;
          again = λ more. packet_at-literal row left n (take count bytes) more large other fits enough;
          within = fits;
          gives = λ _. enough;
          spelled = λ are_bytes some.
              let below : n < 256 = are_bytes 0 in
              (ap (λ k. k ∷ take count bytes) (omega arith), (omega arith, omega (arith, eqb-false n 128 other), fits, enough));
        }

pub packet_at-facts : (row : KindRow) (left : ℕ) (bytes : List ℕ) → ReadFacts row left bytes (packet_at row left bytes)
packet_at-facts row left [] = tt
packet_at-facts row left (n ∷ bytes) = by_fit (nat_lt left (units_of left n)) refl
  where
    by_high : (b : Bool) → nat_lt n 128 ≡ false → (n == 128) ≡ b → nat_lt left (if b then left else 257 - n) ≡ false
        → ReadFacts row left (n ∷ bytes) (if b then One Clear bytes else packet_from (Literal (257 - n)) ((257 - n) * row.unit) bytes)
    by_high true large e fits = clear_facts row left n bytes e
    by_high false large e fits = literal_facts row left n bytes large e (ltb-false _ _ fits)

    by_low : (b : Bool) → nat_lt n 128 ≡ b → nat_lt left (if b then n + 1 else (if n == 128 then left else 257 - n)) ≡ false
        → ReadFacts row left (n ∷ bytes) (if b then packet_from (Run (n + 1)) row.unit bytes
        else (if n == 128 then One Clear bytes else packet_from (Literal (257 - n)) ((257 - n) * row.unit) bytes))
    by_low true e fits = run_facts row left n bytes e (ltb-false _ _ fits)
    by_low false e fits = by_high (n == 128) e refl fits

    by_fit : (b : Bool) → nat_lt left (units_of left n) ≡ b → ReadFacts row left (n ∷ bytes) (if b then Long else packet_of row n bytes)
    by_fit true e = λ more. ap (λ b. if b then Long else packet_of row n more) e
    by_fit false e = by_low (nat_lt n 128) refl e

-- the packet that was read
pub packet_at-one : (row : KindRow) (left : ℕ) (bytes : List ℕ) (p : Packet) (rest : List ℕ) → packet_at row left bytes ≡ One p rest
    → IsRead row left bytes p rest
packet_at-one row left bytes p rest e = let P : PacketRead → Type 0 = ReadFacts row left bytes in subst P e (packet_at-facts row left bytes)

pub packet_at-long : (row : KindRow) (left : ℕ) (bytes more : List ℕ) → packet_at row left bytes ≡ Long
    → packet_at row left (take 1 bytes ++ more) ≡ Long
packet_at-long row left bytes more e =
    (let P : PacketRead → Type 0 = ReadFacts row left bytes in subst P e (packet_at-facts row left bytes)) more
