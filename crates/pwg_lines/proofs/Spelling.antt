-- The canonical bytes of a group spell it.
use Rattle.std.proofs.Common.{◌≡◌, ℕ, zero, suc, ◌-◌, ◌*◌, ◌<◌, ◌≤◌, ◌==◌, nat_lt, Bool, true, false, if◌then◌else◌, List, [], ◌∷◌, ◌++◌}
use Rattle.std.proofs.Common.{length, take, drop, refl, sym, ◌∙◌, ap, arith, length-drop}
use Rattle.std.proofs.lemmas.Bool.{eqb-false, eqb-true, ltb-true, ltb-false}
use Rattle.std.proofs.lemmas.List.{append-nil, length-take-le, take-append-drop}
use Rattle.std.proofs.Math.Nat.{le-mul_of_pos_right, mul-le-mul_right, mul-sub}
use Rattle.pwg_definitions.specs.Header.{KindRow}
use Rattle.pwg_definitions.specs.Groups.{IsPacket, Packet, SpellsGroup, SpellsLine, copies, line_gives, packet_gives, packet_units}
use Rattle.pwg_definitions.specs.Groups.Packet.{Run, Literal}
use Rattle.pwg_lines.specs.Canonical.{as_they_are, canonical, copies_at, next_packet, packets_from, unequal_at}
use Rattle.pwg_lines.proofs.Writing.{IsCounted, copies_at-front, is_counted, one_unit}

-- The first packet of a line of whole units: it fits the line, and gives the bytes up to the rest.
record IsFront (row : KindRow) (units : ℕ) (line : List ℕ) (p : Packet) : Type 0 where
  fits : IsPacket row units p
  some : 1 ≤ packet_units units p
  within : packet_units units p ≤ units
  same : packet_units units p ≡ packet_units 0 p
  gives : line ≡ packet_gives row units p ++ drop (packet_units 0 p * row.unit) line

front-run : (row : KindRow) (units : ℕ) (line : List ℕ) → length (take row.unit line) ≡ row.unit → IsCounted row.unit line units
    → 1 < copies_at 128 (take row.unit line) line
    → IsFront row units line (Run (copies_at 128 (take row.unit line) line) (take row.unit line))
front-run row units line sized counts two = record {
  fits = (omega arith, counts.few_equal, counts.equal_within, sized);
  some = omega arith;
  within = counts.equal_within;
  same = refl;
  gives = copies_at-front 128 (take row.unit line) line
      ∙ ap (λ k. copies (copies_at 128 (take row.unit line) line) (take row.unit line) ++ drop (copies_at 128 (take row.unit line) line * k)
      line) sized;
}

front-literal : (row : KindRow) (units : ℕ) (line : List ℕ) (n : ℕ) → length line ≡ units * row.unit → 1 ≤ n → n ≤ 128 → n ≤ units
    → IsFront row units line (as_they_are n (take (n * row.unit) line))
front-literal row units line n whole some few within = by_one (n == 1) refl
  where
    sized : length (take (n * row.unit) line) ≡ n * row.unit
    sized = length-take-le (n * row.unit) line (omega (arith, whole, mul-le-mul_right row.unit within))

    by_one : (b : Bool) → (n == 1) ≡ b
        → IsFront row units line (if b then Run 1 (take (n * row.unit) line) else Literal n (take (n * row.unit) line))
    by_one true e =
        let one : n ≡ 1 = eqb-true n 1 e in
        let unit : n * row.unit ≡ row.unit = ap (λ k. k * row.unit) one ∙ omega arith in
        record {
          fits = (omega arith, omega arith, omega arith, sized ∙ unit);
          some = omega arith;
          within = omega arith;
          same = refl;
          gives = sym (take-append-drop (n * row.unit) line)
              ∙ ap (λ k. take (n * row.unit) line ++ drop (k * row.unit) line) one
              ∙ ap (λ bs. bs ++ drop (1 * row.unit) line) (sym (append-nil (take (n * row.unit) line)));
        }
    by_one false e = record {
      fits = (omega (arith, eqb-false n 1 e), few, within, sized);
      some = some;
      within = within;
      same = refl;
      gives = sym (take-append-drop (n * row.unit) line);
    }

front-next : (row : KindRow) (units : ℕ) (line : List ℕ) → 1 ≤ row.unit → length line ≡ units * row.unit → 0 < length line
    → IsFront row units line (next_packet row.unit line)
front-next row units line unit whole one = by_run (nat_lt 1 (copies_at 128 (take row.unit line) line)) refl
  where
    counts : IsCounted row.unit line units
    counts = is_counted row.unit line units unit whole one

    by_run : (b : Bool) → nat_lt 1 (copies_at 128 (take row.unit line) line) ≡ b → IsFront row units line
        (if b then Run (copies_at 128 (take row.unit line) line) (take row.unit line)
        else as_they_are (unequal_at 128 row.unit line) (take (unequal_at 128 row.unit line * row.unit) line))
    by_run true e =
        front-run row units line (length-take-le row.unit line (one_unit units row.unit (length line) whole one)) counts (ltb-true _ _ e)
    by_run false e =
        front-literal row units line (unequal_at 128 row.unit line) whole (counts.unequal_some (ltb-false _ _ e)) counts.few_unequal
        counts.unequal_within

-- The packets of a line of whole units are a line, and give its bytes.
record SpellsWhole (row : KindRow) (units : ℕ) (line : List ℕ) (packets : List Packet) : Type 0 where
  full : SpellsLine row units packets
  gives : line ≡ line_gives row units packets

packets_from-spells : (row : KindRow) (most units : ℕ) (line : List ℕ) → 1 ≤ row.unit → length line ≡ units * row.unit → length line ≤ most
    → SpellsWhole row units line (packets_from most row.unit line)
unfolding packets_from
packets_from-spells row most zero [] unit whole enough = record { full = refl; gives = refl }
packets_from-spells row most (suc units) [] unit whole enough = absurd (omega (arith, whole))
packets_from-spells row zero units (b ∷ line) unit whole enough = absurd (omega arith)
packets_from-spells row (suc most) units (b ∷ line) unit whole enough =
    let packet : Packet = next_packet row.unit (b ∷ line) in
    let front : IsFront row units (b ∷ line) packet = front-next row units (b ∷ line) unit whole (omega arith) in
    let n : ℕ = packet_units 0 packet in
    let rest : List ℕ = drop (n * row.unit) (b ∷ line) in
    let less : units * row.unit - n * row.unit ≡ (units - n) * row.unit = omega (arith, mul-sub row.unit units n) in
    let rest_whole : length rest ≡ (units - packet_units units packet) * row.unit =
    length-drop (n * row.unit) (b ∷ line) ∙ ap (λ k. k - n * row.unit) whole ∙ less ∙ ap (λ k. (units - k) * row.unit) (sym front.same) in
    let step : n ≤ n * row.unit = le-mul_of_pos_right n unit in
    let after : SpellsWhole row (units - packet_units units packet) rest (packets_from most row.unit rest) =
    packets_from-spells row most (units - packet_units units packet) rest unit rest_whole
    (omega (arith, length-drop (n * row.unit) (b ∷ line), step, front.some, front.same)) in
    record {
      full = (front.fits, after.full);
      gives = front.gives ∙ ap (λ bs. packet_gives row units packet ++ bs) after.gives;
    }

pub canonical-spells : (row : KindRow) (units left repeats : ℕ) (line : List ℕ) → 1 ≤ row.unit → length line ≡ units * row.unit
    → 1 ≤ repeats → repeats ≤ 256 → repeats ≤ left → SpellsGroup row units left (canonical row.unit repeats line) repeats line
canonical-spells row units left repeats line unit whole some most within =
    let spelled : SpellsWhole row units line (packets_from (length line) row.unit line) =
    packets_from-spells row (length line) units line unit whole (omega arith) in
    record {
      packets = packets_from (length line) row.unit line;
      spelling = refl;
      some = some;
      most = most;
      within = within;
      full = spelled.full;
      gives = spelled.gives;
    }
