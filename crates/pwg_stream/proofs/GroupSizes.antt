-- A part of a group that is not the whole is no longer than a group may be.
use Rattle.std.proofs.Common.{◌≡◌, ℕ, zero, suc, ◌+◌, ◌-◌, ◌*◌, ◌<◌, ◌≤◌, ◌==◌, nat_lt, Bool, true, false, if◌then◌else◌, List, [], ◌∷◌}
use Rattle.std.proofs.Common.{length, take, drop, refl, sym, ◌∙◌, ap, subst, arith, length-drop}
use Rattle.std.proofs.lemmas.Bool.{ltb-true, ltb-false}
use Rattle.std.proofs.Math.Nat.{mul-le-mul_right}
use Rattle.pwg_definitions.specs.Header.{KindRow}
use Rattle.pwg_definitions.specs.Groups.{GroupFront, IsBytes, Packet, PacketRead, group_at, line_at, packet_at, packet_from, packet_units}
use Rattle.pwg_definitions.specs.Groups.{units_of, with_packet}
use Rattle.pwg_definitions.specs.Groups.Packet.{Run, Clear, Literal}
use Rattle.pwg_definitions.specs.Groups.PacketRead.{One, Short, Long}
use Rattle.pwg_definitions.specs.Groups.GroupRead.{Group, Part, Wrong}
use Rattle.pwg_definitions.specs.declared.faults.LineFault.TheVariants.{GroupPastPage, RunPastLine}
use Rattle.pwg_laws.proofs.GroupLaws.{IsBytes-behind, line_at-long, line_at-one}
use Rattle.pwg_laws.proofs.Packets.{packet_at-one}

-- what the bytes before a packet's end take at most
abbrev pub TakesFew : KindRow → ℕ → List ℕ → PacketRead → Type 0
TakesFew row left bytes (One p rest) = (1 ≤ packet_units left p) × (length bytes ≤ 2 * (packet_units left p * row.unit) + length rest)
TakesFew row left bytes Short = length bytes ≤ 2 * (left * row.unit)
TakesFew row left bytes Long = Unit {0}

few_from : (row : KindRow) (left n units count : ℕ) (make : List ℕ → Packet) (bytes : List ℕ)
    → ((front : List ℕ) → packet_units left (make front) ≡ units) → 1 ≤ row.unit → 1 ≤ units → units ≤ left → count ≤ units * row.unit
    → TakesFew row left (n ∷ bytes) (packet_from make count bytes)
few_from row left n units count make bytes gives some one within small = by_length (nat_lt (length bytes) count) refl
  where
    by_length : (b : Bool) → nat_lt (length bytes) count ≡ b
        → TakesFew row left (n ∷ bytes) (if b then Short else One (make (take count bytes)) (drop count bytes))
    by_length true e =
        let short : length bytes < count = ltb-true _ _ e in
        let room : units * row.unit ≤ left * row.unit = mul-le-mul_right row.unit within in
        omega arith
    by_length false e =
        let enough : count ≤ length bytes = ltb-false _ _ e in
        let units_are : packet_units left (make (take count bytes)) ≡ units = gives (take count bytes) in
        let room : 1 * row.unit ≤ units * row.unit = mul-le-mul_right row.unit one in
        let same : packet_units left (make (take count bytes)) * row.unit ≡ units * row.unit = ap (λ k. k * row.unit) units_are in
        (omega (arith, units_are), omega (arith, length-drop count bytes))

few : (row : KindRow) (left n : ℕ) (bytes : List ℕ) → 1 ≤ row.unit → 1 ≤ left → n < 256
    → TakesFew row left (n ∷ bytes) (packet_at row left (n ∷ bytes))
few row left n bytes some one byte = by_size (nat_lt left (units_of left n)) refl
  where
    by_clear : (b : Bool) → (n == 128) ≡ b → nat_lt n 128 ≡ false → (if b then left else 257 - n) ≤ left
        → TakesFew row left (n ∷ bytes) (if b then One Clear bytes else packet_from (Literal (257 - n)) ((257 - n) * row.unit) bytes)
    by_clear true e large within = let room : 1 * row.unit ≤ left * row.unit = mul-le-mul_right row.unit one in (one, omega arith)
    by_clear false e large within =
        few_from row left n (257 - n) ((257 - n) * row.unit) (Literal (257 - n)) bytes (λ front. refl) some (omega arith) within
        (omega arith)

    by_run : (b : Bool) → nat_lt n 128 ≡ b → (if b then n + 1 else (if n == 128 then left else 257 - n)) ≤ left
        → TakesFew row left (n ∷ bytes) (if b then packet_from (Run (n + 1)) row.unit bytes
        else (if n == 128 then One Clear bytes else packet_from (Literal (257 - n)) ((257 - n) * row.unit) bytes))
    by_run true e within =
        let room : 1 * row.unit ≤ (n + 1) * row.unit = mul-le-mul_right row.unit (omega arith) in
        few_from row left n (n + 1) row.unit (Run (n + 1)) bytes (λ front. refl) some (omega arith) within (omega arith)
    by_run false e within = by_clear (n == 128) refl e within

    by_size : (b : Bool) → nat_lt left (units_of left n) ≡ b → TakesFew row left (n ∷ bytes) (if b then Long
        else (if nat_lt n 128 then packet_from (Run (n + 1)) row.unit bytes
        else (if n == 128 then One Clear bytes else packet_from (Literal (257 - n)) ((257 - n) * row.unit) bytes)))
    by_size true e = tt
    by_size false e = by_run (nat_lt n 128) refl (ltb-false _ _ e)

sizes_joined : (front behind left unit size rest : ℕ) → front + behind ≡ left → size ≤ 2 * (front * unit) + rest
    → rest ≤ 2 * (behind * unit) → size ≤ 2 * (left * unit)
sizes_joined front behind left unit size rest split first second =
    let whole : (front + behind) * unit ≡ left * unit = ap (λ k. k * unit) split in
    omega arith

pub line_at-part : (row : KindRow) (most left : ℕ) (front : GroupFront) (bytes : List ℕ) → 1 ≤ row.unit → left ≤ most → IsBytes bytes
    → line_at row most left front bytes ≡ Part → length bytes ≤ 2 * (left * row.unit)
unfolding line_at
line_at-part row most zero front bytes some enough are e = absurd (let never : Group front.repeats front.line bytes ≡ Part = e in cc)
line_at-part row zero (suc left) front bytes some enough are e = absurd (omega arith)
line_at-part row (suc most) (suc left) front [] some enough are e = omega arith
line_at-part row (suc most) (suc left) front (n ∷ bytes) some enough are e =
    by_packet (line_at-part row most) (packet_at row (suc left) (n ∷ bytes)) refl (few row (suc left) n bytes some (omega arith) (are 0))
  where
    by_packet : ((left : ℕ) (front : GroupFront) (bytes : List ℕ) → 1 ≤ row.unit → left ≤ most → IsBytes bytes
        → line_at row most left front bytes ≡ Part → length bytes ≤ 2 * (left * row.unit))
        → (r : PacketRead) → packet_at row (suc left) (n ∷ bytes) ≡ r → TakesFew row (suc left) (n ∷ bytes) r
        → length (n ∷ bytes) ≤ 2 * (suc left * row.unit)
    by_packet after (One p rest) is fits =
        let read = packet_at-one row (suc left) (n ∷ bytes) p rest is in
        let units : ℕ = packet_units (suc left) p in
        let behind : IsBytes rest = IsBytes-behind read.front rest (let P : List ℕ → Type 0 = IsBytes in subst P read.split are) in
        let here : line_at row (suc most) (suc left) front (n ∷ bytes)
        ≡ line_at row most (suc left - units) (with_packet row (suc left) p front) rest =
        line_at-one row most left front (n ∷ bytes) p rest is in
        let small : length rest ≤ 2 * ((suc left - units) * row.unit) =
        after (suc left - units) (with_packet row (suc left) p front) rest some (omega (arith, fits.0)) behind (sym here ∙ e) in
        sizes_joined units (suc left - units) (suc left) row.unit (length (n ∷ bytes)) (length rest) (omega (arith, read.within))
        fits.1 small
    by_packet after Short is fits = fits
    by_packet after Long is fits =
        absurd (let never : Wrong front.place RunPastLine ≡ Part = sym (line_at-long row most left front (n ∷ bytes) is) ∙ e in cc)

-- a part of a group has at most a count, and a byte and a unit for each unit of its line
pub group_at-part : (row : KindRow) (units left : ℕ) (bytes : List ℕ) → 1 ≤ row.unit → IsBytes bytes
    → group_at row units left bytes ≡ Part → length bytes ≤ 2 * (units * row.unit) + 1
group_at-part row units left [] some are e = omega arith
group_at-part row units left (count ∷ bytes) some are e = by_count (nat_lt left (count + 1)) e
  where
    front : GroupFront
    front = record { repeats = count + 1; line = []; place = 1 }

    by_count : (b : Bool) → (if b then Wrong 0 GroupPastPage else line_at row units units front bytes) ≡ Part
        → suc (length bytes) ≤ 2 * (units * row.unit) + 1
    by_count true f = absurd (let never : Wrong 0 GroupPastPage ≡ Part = f in cc)
    by_count false f = omega (arith, line_at-part row units units front bytes some (omega arith) (λ k. are (suc k)) f)
