-- A group that is spelled is read, and a group that is read was spelled.
use Rattle.std.proofs.Common.{◌≡◌, ℕ, zero, suc, ◌+◌, ◌-◌, ◌<◌, ◌≤◌, nat_lt, Bool, true, false, if◌then◌else◌, List, [], ◌∷◌, ◌++◌, refl}
use Rattle.std.proofs.Common.{sym, ◌∙◌, ap, arith, subst, append_assoc}
use Rattle.std.specs.List.{flat_map}
use Rattle.std.proofs.lemmas.Bool.{ltb-false, le-ltb}
use Rattle.std.proofs.lemmas.List.{append-nil}
use Rattle.pwg_definitions.specs.declared.faults.LineFault.TheVariants.{RunPastLine, GroupPastPage}
use Rattle.pwg_definitions.specs.Header.{KindRow}
use Rattle.pwg_definitions.specs.Groups.{GroupFront, IsBytes, Packet, PacketRead, SpellsGroup, SpellsLine, group_at, line_at, line_gives}
use Rattle.pwg_definitions.specs.Groups.{packet_at, packet_gives, packet_spelling, packet_units, with_packet}
use Rattle.pwg_definitions.specs.Groups.GroupRead.{Group, Part, Wrong}
use Rattle.pwg_definitions.specs.Groups.PacketRead.{One, Short, Long}
use Rattle.pwg_laws.proofs.Packets.{IsPacket-sizes, IsRead, packet_at-one, packet_at-spelling}

-- ---- a step

-- a packet, and then the rest of the line
pub line_at-one : (row : KindRow) (most left : ℕ) (front : GroupFront) (bytes : List ℕ) (p : Packet) (rest : List ℕ)
    → packet_at row (suc left) bytes ≡ One p rest
    → line_at row (suc most) (suc left) front bytes ≡ line_at row most (suc left - packet_units (suc left) p)
    (with_packet row (suc left) p front) rest
unfolding line_at
line_at-one row most left front bytes p rest e = ap (λ (r : PacketRead). elim r [
  | One p rest ↦ line_at row most (suc left - packet_units (suc left) p) (with_packet row (suc left) p front) rest
  | Short ↦ Part
  | Long ↦ Wrong front.place RunPastLine
]) e

pub line_at-short : (row : KindRow) (most left : ℕ) (front : GroupFront) (bytes : List ℕ)
    → packet_at row (suc left) bytes ≡ Short → line_at row (suc most) (suc left) front bytes ≡ Part
unfolding line_at
line_at-short row most left front bytes e = ap (λ (r : PacketRead). elim r [
  | One p rest ↦ line_at row most (suc left - packet_units (suc left) p) (with_packet row (suc left) p front) rest
  | Short ↦ Part
  | Long ↦ Wrong front.place RunPastLine
]) e

pub line_at-long : (row : KindRow) (most left : ℕ) (front : GroupFront) (bytes : List ℕ)
    → packet_at row (suc left) bytes ≡ Long → line_at row (suc most) (suc left) front bytes ≡ Wrong front.place RunPastLine
unfolding line_at
line_at-long row most left front bytes e = ap (λ (r : PacketRead). elim r [
  | One p rest ↦ line_at row most (suc left - packet_units (suc left) p) (with_packet row (suc left) p front) rest
  | Short ↦ Part
  | Long ↦ Wrong front.place RunPastLine
]) e

-- ---- what is spelled is read

line_at-spelling : (row : KindRow) (packets : List Packet) (most left : ℕ) (front : GroupFront) (rest : List ℕ)
    → SpellsLine row left packets → left ≤ most
    → line_at row most left front (flat_map packet_spelling packets ++ rest)
    ≡ Group front.repeats (front.line ++ line_gives row left packets) rest
unfolding line_at
line_at-spelling row [] most zero front rest full enough = ap (λ line. Group front.repeats line rest) (sym (append-nil front.line))
line_at-spelling row [] most (suc left) front rest full enough = absurd (omega arith)
line_at-spelling row (p ∷ packets) most zero front rest full enough =
    absurd (omega (arith, (IsPacket-sizes row 0 p full.0).0, (IsPacket-sizes row 0 p full.0).1))
line_at-spelling row (p ∷ packets) zero (suc left) front rest full enough = absurd (omega arith)
line_at-spelling row (p ∷ packets) (suc most) (suc left) front rest full enough =
    let behind : List ℕ = flat_map packet_spelling packets ++ rest in
    let next : ℕ = suc left - packet_units (suc left) p in
    let now : GroupFront = with_packet row (suc left) p front in
    let smaller : next ≤ most = omega (arith, (IsPacket-sizes row (suc left) p full.0).0) in
    ap (line_at row (suc most) (suc left) front) (append_assoc (packet_spelling p) (flat_map packet_spelling packets) rest)
    ∙ line_at-one row most left front (packet_spelling p ++ behind) p behind (packet_at-spelling row (suc left) p behind full.0)
    ∙ line_at-spelling row packets most next now rest full.1 smaller
    ∙ ap (λ line. Group front.repeats line rest) (append_assoc front.line (packet_gives row (suc left) p) (line_gives row next packets))

pub group_at-spelling : (row : KindRow) (units left : ℕ) (bytes : List ℕ) (repeats : ℕ) (line rest : List ℕ)
    → SpellsGroup row units left bytes repeats line → group_at row units left (bytes ++ rest) ≡ Group repeats line rest
group_at-spelling row units left bytes repeats line rest spelled =
    let again : (repeats - 1) + 1 ≡ repeats = omega (arith, spelled.some) in
    let body : List ℕ = flat_map packet_spelling spelled.packets in
    let from : ℕ → GroupFront = λ n. record { repeats = n; line = []; place = 1 } in
    ap (λ bs. group_at row units left (bs ++ rest)) spelled.spelling
    ∙ ap (λ n. if nat_lt left n then Wrong 0 GroupPastPage else line_at row units units (from n) (body ++ rest)) again
    ∙ ap (λ b. if b then Wrong 0 GroupPastPage else line_at row units units (from repeats) (body ++ rest)) (le-ltb _ _ spelled.within)
    ∙ line_at-spelling row spelled.packets units units (from repeats) rest spelled.full (omega arith)
    ∙ ap (λ line. Group repeats line rest) (sym spelled.gives)

-- No spelling of a group is a proper prefix of another.
pub group-spelled_once : (row : KindRow) (units left : ℕ) (bytes more : List ℕ) (repeats repeats' : ℕ) (line line' : List ℕ)
    → SpellsGroup row units left bytes repeats line → SpellsGroup row units left (bytes ++ more) repeats' line'
    → (more ≡ []) × (repeats ≡ repeats') × (line ≡ line')
group-spelled_once row units left bytes more repeats repeats' line line' short long =
    let same : Group repeats line more ≡ Group repeats' line' [] =
    sym (group_at-spelling row units left bytes repeats line more short)
    ∙ ap (group_at row units left) (sym (append-nil (bytes ++ more)))
    ∙ group_at-spelling row units left (bytes ++ more) repeats' line' [] long in
    (cc, cc, cc)

-- ---- what is read was spelled

-- A line that was read: the packets of its bytes, and what they give.
pub record IsLineRead (row : KindRow) (left : ℕ) (front : GroupFront) (bytes : List ℕ) (repeats : ℕ) (line rest : List ℕ) : Type 0 where
  pub packets : List Packet
  pub split : bytes ≡ flat_map packet_spelling packets ++ rest
  pub full : SpellsLine row left packets
  pub same : repeats ≡ front.repeats
  pub gives : line ≡ front.line ++ line_gives row left packets

-- the bytes after some of them are bytes too
pub IsBytes-behind : (front rest : List ℕ) → IsBytes (front ++ rest) → IsBytes rest
IsBytes-behind [] rest are_bytes = are_bytes
IsBytes-behind (n ∷ front) rest are_bytes = IsBytes-behind front rest (λ k. are_bytes (suc k))

IsLineRead-more : (row : KindRow) (left : ℕ) (front : GroupFront) (bytes : List ℕ) (p : Packet) (behind : List ℕ) (repeats : ℕ)
    (line rest : List ℕ)
    → IsBytes bytes → 1 ≤ left → IsRead row left bytes p behind
    → IsLineRead row (left - packet_units left p) (with_packet row left p front) behind repeats line rest
    → IsLineRead row left front bytes repeats line rest
IsLineRead-more row left front bytes p behind repeats line rest are_bytes some read after =
    let is : (read.front ≡ packet_spelling p) × _ = read.spelled are_bytes some in
    record {
      packets = p ∷ after.packets;
      split = read.split ∙ ap (λ bs. bs ++ behind) is.0 ∙ ap (λ bs. packet_spelling p ++ bs) after.split
          ∙ sym (append_assoc (packet_spelling p) (flat_map packet_spelling after.packets) rest);
      full = (is.1, after.full);
      same = after.same;
      gives = after.gives ∙ append_assoc front.line (packet_gives row left p) (line_gives row (left - packet_units left p) after.packets);
    }

line_at-read : (row : KindRow) (most left : ℕ) (front : GroupFront) (bytes : List ℕ) (repeats : ℕ) (line rest : List ℕ)
    → IsBytes bytes → line_at row most left front bytes ≡ Group repeats line rest → IsLineRead row left front bytes repeats line rest
unfolding line_at
line_at-read row most zero front bytes repeats line rest are_bytes e =
    record {
      packets = [];
      split = cc;
      full = refl;
      same = cc;
      gives = (let is : line ≡ front.line = cc in is ∙ sym (append-nil front.line));
    }
line_at-read row zero (suc left) front bytes repeats line rest are_bytes e = absurd (let never : Part ≡ Group repeats line rest = e in cc)
line_at-read row (suc most) (suc left) front bytes repeats line rest are_bytes e =
    by_packet (λ next now behind. line_at-read row most next now behind repeats line rest) (packet_at row (suc left) bytes) refl
  where
    by_packet : ((next : ℕ) (now : GroupFront) (behind : List ℕ) → IsBytes behind
        → line_at row most next now behind ≡ Group repeats line rest
        → IsLineRead row next now behind repeats line rest)
        → (r : PacketRead) → packet_at row (suc left) bytes ≡ r → IsLineRead row (suc left) front bytes repeats line rest
    by_packet after (One p behind) is =
        let read : IsRead row (suc left) bytes p behind = packet_at-one row (suc left) bytes p behind is in
        IsLineRead-more row (suc left) front bytes p behind repeats line rest are_bytes (omega arith) read
        (after (suc left - packet_units (suc left) p) (with_packet row (suc left) p front) behind
        (IsBytes-behind read.front behind (let P : List ℕ → Type 0 = IsBytes in subst P read.split are_bytes))
        (sym (line_at-one row most left front bytes p behind is) ∙ e))
    by_packet after Short is =
        absurd (let never : Part ≡ Group repeats line rest = sym (line_at-short row most left front bytes is) ∙ e in cc)
    by_packet after Long is =
        absurd (let never : Wrong front.place RunPastLine ≡ Group repeats line rest =
        sym (line_at-long row most left front bytes is) ∙ e in cc)

pub group_at-read : (row : KindRow) (units left : ℕ) (bytes : List ℕ) (repeats : ℕ) (line rest : List ℕ)
    → IsBytes bytes → group_at row units left bytes ≡ Group repeats line rest
    → (front : List ℕ) × (bytes ≡ front ++ rest) × SpellsGroup row units left front repeats line
group_at-read row units left [] repeats line rest are_bytes e = absurd (let never : Part ≡ Group repeats line rest = e in cc)
group_at-read row units left (c ∷ bytes) repeats line rest are_bytes e = by_fit (nat_lt left (c + 1)) refl e
  where
    from : GroupFront
    from = record { repeats = c + 1; line = []; place = 1 }

    by_fit : (b : Bool) → nat_lt left (c + 1) ≡ b
        → (if b then Wrong 0 GroupPastPage else line_at row units units from bytes) ≡ Group repeats line rest
        → (front : List ℕ) × (c ∷ bytes ≡ front ++ rest) × SpellsGroup row units left front repeats line
    by_fit true is e = absurd (let never : Wrong 0 GroupPastPage ≡ Group repeats line rest = e in cc)
    by_fit false is e =
        let read : IsLineRead row units from bytes repeats line rest = line_at-read row units units from bytes repeats line rest
        (λ k. are_bytes (suc k)) e in
        let count : repeats ≡ c + 1 = read.same in
        let byte : c < 256 = are_bytes 0 in
        let fits : c + 1 ≤ left = ltb-false _ _ is in (
          c ∷ flat_map packet_spelling read.packets,
          ap (λ bs. c ∷ bs) read.split,
          record {
            packets = read.packets;
            spelling = ap (λ n. n ∷ flat_map packet_spelling read.packets) (omega arith);
            some = omega arith;
            most = omega arith;
            within = omega arith;
            full = read.full;
            gives = read.gives;
          },
        )
