-- A fault of a group is decided by the bytes up to it.
use Rattle.std.proofs.Common.{◌≡◌, ℕ, zero, suc, ◌+◌, ◌-◌, ◌≤◌, nat_lt, Bool, true, false, if◌then◌else◌, List, [], ◌∷◌, ◌++◌, length, take}
use Rattle.std.proofs.Common.{refl, sym, ◌∙◌, ap, arith, append_assoc}
use Rattle.std.proofs.Math.Seq.{take-append-add}
use Rattle.pwg_definitions.specs.declared.faults.LineFault.{LineFault}
use Rattle.pwg_definitions.specs.declared.faults.LineFault.TheVariants.{RunPastLine, GroupPastPage}
use Rattle.pwg_definitions.specs.Header.{KindRow}
use Rattle.pwg_definitions.specs.Groups.{GroupFront, Packet, PacketRead, group_at, line_at, packet_at, packet_spelling, packet_units}
use Rattle.pwg_definitions.specs.Groups.{with_packet}
use Rattle.pwg_definitions.specs.Groups.GroupRead.{Group, Part, Wrong}
use Rattle.pwg_definitions.specs.Groups.PacketRead.{One, Short, Long}
use Rattle.pwg_laws.proofs.Packets.{IsRead, packet_at-long, packet_at-one}
use Rattle.pwg_laws.proofs.GroupLaws.{line_at-long, line_at-one, line_at-short}

-- A fault of a line that is begun: it is after the part that was read, and is decided by its byte.
record IsFaultRead (row : KindRow) (most left : ℕ) (front : GroupFront) (bytes : List ℕ) (place : ℕ) (fault : LineFault) : Type 0 where
  behind : front.place ≤ place
  stands : (more : List ℕ) → line_at row most left front (take (place - front.place + 1) bytes ++ more) ≡ Wrong place fault

-- the bytes of a packet, and then some of those after it
take-packet : (front rest : List ℕ) (n k : ℕ) → n ≡ length front + k → take n (front ++ rest) ≡ front ++ take k rest
take-packet front rest n k e = ap (λ m. take m (front ++ rest)) e ∙ take-append-add front rest k

IsFaultRead-more : (row : KindRow) (most left : ℕ) (front : GroupFront) (bytes : List ℕ) (p : Packet) (behind : List ℕ) (place : ℕ)
    (fault : LineFault)
    → IsRead row (suc left) bytes p behind
    → IsFaultRead row most (suc left - packet_units (suc left) p) (with_packet row (suc left) p front) behind place fault
    → IsFaultRead row (suc most) (suc left) front bytes place fault
IsFaultRead-more row most left front bytes p behind place fault read after = record {
  behind = omega (arith, after.behind);
  stands = λ more.
      let kept : ℕ = place - (front.place + length (packet_spelling p)) + 1 in
      let rest : List ℕ = take kept behind ++ more in
      ap (λ bs. line_at row (suc most) (suc left) front (take (place - front.place + 1) bs ++ more)) read.split
      ∙ ap (λ bs. line_at row (suc most) (suc left) front (bs ++ more))
      (take-packet read.front behind (place - front.place + 1) kept (omega (arith, after.behind, read.sized)))
      ∙ ap (line_at row (suc most) (suc left) front) (append_assoc read.front (take kept behind) more)
      ∙ line_at-one row most left front (read.front ++ rest) p rest (read.again rest)
      ∙ after.stands more;
}

line_at-fault : (row : KindRow) (most left : ℕ) (front : GroupFront) (bytes : List ℕ) (place : ℕ) (fault : LineFault)
    → line_at row most left front bytes ≡ Wrong place fault → IsFaultRead row most left front bytes place fault
unfolding line_at
line_at-fault row most zero front bytes place fault e =
    absurd (let never : Group front.repeats front.line bytes ≡ Wrong place fault = e in cc)
line_at-fault row zero (suc left) front bytes place fault e = absurd (let never : Part ≡ Wrong place fault = e in cc)
line_at-fault row (suc most) (suc left) front bytes place fault e =
    by_packet (λ next now behind. line_at-fault row most next now behind place fault) (packet_at row (suc left) bytes) refl
  where
    by_packet : ((next : ℕ) (now : GroupFront) (behind : List ℕ) → line_at row most next now behind ≡ Wrong place fault
        → IsFaultRead row most next now behind place fault)
        → (r : PacketRead) → packet_at row (suc left) bytes ≡ r → IsFaultRead row (suc most) (suc left) front bytes place fault
    by_packet after (One p behind) is =
        IsFaultRead-more row most left front bytes p behind place fault (packet_at-one row (suc left) bytes p behind is)
        (after (suc left - packet_units (suc left) p) (with_packet row (suc left) p front) behind
        (sym (line_at-one row most left front bytes p behind is) ∙ e))
    by_packet after Short is = absurd (let never : Part ≡ Wrong place fault = sym (line_at-short row most left front bytes is) ∙ e in cc)
    by_packet after Long is =
        let same : Wrong front.place RunPastLine ≡ Wrong place fault = sym (line_at-long row most left front bytes is) ∙ e in
        let at : front.place ≡ place = cc in
        record {
          behind = omega arith;
          stands = λ more.
              let one : place - front.place + 1 ≡ 1 = omega arith in
              ap (λ k. line_at row (suc most) (suc left) front (take k bytes ++ more)) one
              ∙ line_at-long row most left front (take 1 bytes ++ more) (packet_at-long row (suc left) bytes more is)
              ∙ same;
        }

-- A fault is decided by the bytes up to and with its own.
pub group_at-fault : (row : KindRow) (units left : ℕ) (bytes more : List ℕ) (place : ℕ) (fault : LineFault)
    → group_at row units left bytes ≡ Wrong place fault → group_at row units left (take (place + 1) bytes ++ more) ≡ Wrong place fault
group_at-fault row units left [] more place fault e = absurd (let never : Part ≡ Wrong place fault = e in cc)
group_at-fault row units left (c ∷ bytes) more place fault e = by_fit (nat_lt left (c + 1)) refl e
  where
    from : GroupFront
    from = record { repeats = c + 1; line = []; place = 1 }

    by_fit : (b : Bool) → nat_lt left (c + 1) ≡ b
        → (if b then Wrong 0 GroupPastPage else line_at row units units from bytes) ≡ Wrong place fault
        → group_at row units left (take (place + 1) (c ∷ bytes) ++ more) ≡ Wrong place fault
    by_fit true is e =
        let same : Wrong 0 GroupPastPage ≡ Wrong place fault = e in
        let at : place ≡ 0 = cc in
        ap (λ k. group_at row units left (take (k + 1) (c ∷ bytes) ++ more)) at
        ∙ ap (λ b. if b then Wrong 0 GroupPastPage else line_at row units units from more) is ∙ same
    by_fit false is e =
        let read : IsFaultRead row units units from bytes place fault = line_at-fault row units units from bytes place fault e in
        let kept : place + 1 ≡ suc (place - 1 + 1) = omega (arith, read.behind) in
        ap (λ k. group_at row units left (take k (c ∷ bytes) ++ more)) kept
        ∙ ap (λ b. if b then Wrong 0 GroupPastPage else line_at row units units from (take (place - 1 + 1) bytes ++ more)) is
        ∙ read.stands more
