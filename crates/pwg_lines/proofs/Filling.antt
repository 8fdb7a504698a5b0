-- Copies of a unit in a line.
use Rattle.std.proofs.lemmas.Grind.{common_steps}
use Rattle.std.proofs.Common.{◌≡◌, ℕ, zero, suc, ◌+◌, ◌-◌, ◌*◌, ◌<◌, ◌≤◌, get_or, List, [], ◌∷◌, ◌++◌, length, take, drop, replicate, refl}
use Rattle.std.proofs.Common.{sym, ◌∙◌, ap, arith, append_assoc, length-append, length-drop}
use Rattle.std.proofs.lemmas.List.{drop_at, length-replicate, length-take-le, take-take, take_at}
use Rattle.std.proofs.lemmas.Slice.{drop-put_mid, take-put_mid}
use borrow.Rule.Slice.PartMut.{post_of, put_mid}
use Rattle.std.proofs.Math.Nat.{mul-le-mul_right}
use Rattle.std.proofs.Math.Seq.{take-add, take-append_seam}
use Rattle.pwg_definitions.specs.Groups.{copies}
use Rattle.pwg_laws.proofs.Packets.{length-copies}

pub copies-one_byte : (n b : ℕ) → copies n (b ∷ []) ≡ replicate n b
copies-one_byte zero b = refl
copies-one_byte (suc n) b = ap (λ bs. b ∷ bs) (copies-one_byte n b)

pub copies-add : (m n : ℕ) (unit : List ℕ) → copies (m + n) unit ≡ copies m unit ++ copies n unit
copies-add zero n unit = ap (λ k. copies k unit) (let e : 0 + n ≡ n = omega arith in e)
copies-add (suc m) n unit =
    ap (λ k. copies k unit) (let e : suc m + n ≡ suc (m + n) = omega arith in e)
    ∙ ap (λ bs. unit ++ bs) (copies-add m n unit) ∙ sym (append_assoc unit (copies m unit) (copies n unit))

-- a prefix of copies and more bytes
pub take-copies : (m len : ℕ) (unit rest : List ℕ) → length unit ≡ len → take (m * len) (copies m unit ++ rest) ≡ copies m unit
take-copies m len unit rest sized = grind (arith, common_steps, length-copies, take-append_seam)

-- a first unit is whole
pub first_unit : (count unit : ℕ) (bytes : List ℕ) → 1 ≤ count → length bytes ≡ count * unit → length (take unit bytes) ≡ unit
first_unit count unit bytes some whole = length-take-le unit bytes (omega (arith, whole, mul-le-mul_right unit some))

-- this many more units are within the bytes
pub more_within : (count unit times more len : ℕ) → len + times * unit ≡ count * unit → more + times ≤ count → more * unit ≤ len
more_within count unit times more len sized most = omega (arith, sized, mul-le-mul_right unit most)

-- fewer units are within the copies
pub fewer : (unit more times len : ℕ) → more ≤ times → len ≡ times * unit → more * unit ≤ len
fewer unit more times len few is = omega (arith, is, mul-le-mul_right unit few)

-- after the copies come as many of them again, or fewer
pub copies_more : (times more len : ℕ) (unit front copied rest : List ℕ) → length unit ≡ len → front ≡ copies times unit → more ≤ times
    → copied ≡ take (more * len) front → take ((times + more) * len) (front ++ (copied ++ rest)) ≡ copies (times + more) unit
copies_more times more len unit front copied rest sized is few again = grind (arith, append_assoc, copies-add, take-copies)

-- ---- bytes after the filled ones

-- more bytes of a unit after those that are read: the filled bytes stay, and the unit grows
pub unit_grows : (filled read : ℕ) (old new others : List ℕ) → filled + read ≤ length old → filled ≤ length new
    → take (filled + (read + length others)) new ≡ take (filled + read) old ++ others
    → (take filled new ≡ take filled old) × (take (read + length others) (drop filled new) ≡ take read (drop filled old) ++ others)
unit_grows filled read old new others within within' e = (
  sym (take_at _ _ filled new_sized) ∙ ap (take filled) parted ∙ take_at _ _ filled old_sized,
  sym (drop_at _ _ filled new_sized) ∙ ap (drop filled) parted ∙ drop_at _ _ filled old_sized,
)
  where
    new_sized : length (take filled new) ≡ filled
    new_sized = length-take-le filled new within'

    old_sized : length (take filled old) ≡ filled
    old_sized = length-take-le filled old (omega arith)

    parted : take filled new ++ take (read + length others) (drop filled new) ≡ take filled old ++ (take read (drop filled old) ++ others)
    parted = sym (take-add filled (read + length others) new) ∙ e ∙ ap (λ bs. bs ++ others) (take-add filled read old)
        ∙ append_assoc (take filled old) (take read (drop filled old)) others

-- the copies of a unit that ends in these bytes
units_sized : (filled read count : ℕ) (line others : List ℕ) → filled + read ≤ length line
    → length (copies count (take read (drop filled line) ++ others)) ≡ count * (read + length others)
units_sized filled read count line others within = grind (arith, length-append, length-copies, length-drop, length-take-le)

-- A unit whose last bytes are put after the first, and then all the copies of it.
record PutsUnits (filled read count : ℕ) (line others first copied : List ℕ) : Type 0 where
  within : filled ≤ length first
  read_within : filled + read ≤ length line
  filled_are : take filled first ≡ take filled line
  copied_is : copied ≡ copies count (take read (drop filled line) ++ others)
  sized : length copied ≡ count * (read + length others)

units_put : (filled read count total : ℕ) (line others new first copied : List ℕ) (k : ℕ)
    → 1 ≤ count → filled + count * (read + length others) ≤ length line → total ≡ count * (read + length others)
    → new ≡ others → first ≡ put_mid (filled + read) k line new
    → copied ≡ copies count (take (read + length others) (take total (drop filled first)))
    → PutsUnits filled read count line others first copied
units_put filled read count total line others new first copied k some fits total_is new_is first_is is = record {
  within = in_first;
  read_within = in_line;
  filled_are = grown.0;
  copied_is = are;
  sized = ap length are ∙ units_sized filled read count line others in_line;
}
  where
    unit : ℕ
    unit = read + length others

    one_fits : unit ≤ count * unit
    one_fits = omega (arith, mul-le-mul_right unit some)

    in_line : filled + read ≤ length line
    in_line = omega (arith, one_fits)

    put : put_mid (filled + read) k line others ≡ first
    put = ap (λ bs. put_mid (filled + read) k line bs) (sym new_is) ∙ sym first_is

    in_first : filled ≤ length first
    in_first =
        omega (
          arith,
          ap length put,
          length-take-le (filled + read) line in_line,
          length-append (take (filled + read) line) (others ++ post_of (filled + read) k line),
        )

    grown : (take filled first ≡ take filled line) × (take unit (drop filled first) ≡ take read (drop filled line) ++ others)
    grown = unit_grows filled read line first others in_line in_first
        (ap (take (filled + unit)) (sym put) ∙ take-put_mid (filled + read) k line others (filled + unit) (omega arith) in_line)

    are : copied ≡ copies count (take read (drop filled line) ++ others)
    are = is ∙ ap (copies count) (take-take unit total (drop filled first) (omega (arith, one_fits, total_is)) ∙ grown.1)

-- the copies stand after the filled bytes
pub units_filled : (filled read count total : ℕ) (line others new first copied : List ℕ) (k k' : ℕ)
    → 1 ≤ count → filled + count * (read + length others) ≤ length line → total ≡ count * (read + length others)
    → new ≡ others → first ≡ put_mid (filled + read) k line new
    → copied ≡ copies count (take (read + length others) (take total (drop filled first)))
    → take (filled + count * (read + length others)) (put_mid filled k' first copied)
    ≡ take filled line ++ copies count (take read (drop filled line) ++ others)
units_filled filled read count total line others new first copied k k' some fits total_is new_is first_is is = grind (arith, take-put_mid, units_put)

-- and the bytes behind them are unchanged
pub units_behind : (filled read count total : ℕ) (line others new first copied : List ℕ) (k k' : ℕ)
    → 1 ≤ count → filled + count * (read + length others) ≤ length line → total ≡ count * (read + length others)
    → new ≡ others → first ≡ put_mid (filled + read) k line new
    → copied ≡ copies count (take (read + length others) (take total (drop filled first)))
    → k ≡ length others → k' ≡ count * (read + length others)
    → drop (filled + count * (read + length others)) (put_mid filled k' first copied)
    ≡ drop (filled + count * (read + length others)) line
units_behind filled read count total line others new first copied k k' some fits total_is new_is first_is is k_is k'_is =
    let put : PutsUnits filled read count line others first copied =
    units_put filled read count total line others new first copied k some fits total_is new_is first_is is in
    let n : ℕ = filled + count * (read + length others) in
    let one_fits : read + length others ≤ count * (read + length others) =
    omega (arith, mul-le-mul_right (read + length others) some) in
    drop-put_mid filled k' first copied n (omega (arith, k'_is)) put.within (put.sized ∙ sym k'_is)
    ∙ ap (drop n) first_is
    ∙ drop-put_mid (filled + read) k line new n (omega (arith, one_fits, k_is)) put.read_within (ap length new_is ∙ sym k_is)

-- copies of a unit of one byte
pub byte_filled : (filled read count : ℕ) (line others new : List ℕ) (k : ℕ) → read ≡ 0 → 1 ≤ length others → length others < 2
    → filled + count * (read + length others) ≤ length line
    → new ≡ replicate (length (take (filled + count - filled) (drop filled line))) (get_or others 0 0)
    → take (filled + count * (read + length others)) (put_mid filled k line new)
    ≡ take filled line ++ copies count (take read (drop filled line) ++ others)
byte_filled filled read count line [] new k none some one fits is = absurd (omega arith)
byte_filled filled read count line (b ∷ []) new k none some one fits is =
    grind (arith, copies-one_byte, length-drop, length-replicate, length-take-le, take-put_mid)
byte_filled filled read count line (b ∷ b' ∷ others) new k none some one fits is = absurd (omega arith)

-- the bytes behind copies of a unit of one byte are unchanged, where the copies end there
pub byte_behind : (filled read count end : ℕ) (line others new : List ℕ) (k : ℕ) → read ≡ 0 → 1 ≤ length others → length others < 2
    → filled + count * (read + length others) ≤ length line
    → new ≡ replicate (length (take (end - filled) (drop filled line))) (get_or others 0 0) → end ≡ filled + count → k ≡ end - filled
    → drop (filled + count * (read + length others)) (put_mid filled k line new)
    ≡ drop (filled + count * (read + length others)) line
byte_behind filled read count end line others new k none some one fits is end_is k_is =
    grind (arith, drop-put_mid, length-drop, length-replicate, length-take-le)
