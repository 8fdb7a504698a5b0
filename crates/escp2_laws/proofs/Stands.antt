-- What is read of a command stays read, whatever follows.
use Rattle.std.proofs.Common.{◌≡◌, ℕ, zero, suc, ◌+◌, ◌-◌, ◌<◌, ◌≤◌, List, [], ◌∷◌, ◌++◌, length, take, drop, refl, sym, ◌∙◌, ap, subst}
use Rattle.std.proofs.Common.{arith, append_assoc, length-append, length-drop}
use Rattle.std.proofs.lemmas.List.{drop-append-le, length-take, take_at, take-append-drop}
use Rattle.std.proofs.Math.Seq.{take-append-add}
use Rattle.printer_definitions.specs.declared.inks.Ink.{Ink}
use Rattle.printer_definitions.specs.declared.inks.Ink.TheVariants.{Black}
use Rattle.escp2_definitions.specs.Rasters.{colour_after, ink_rasters, ink_rasters_from}
use Rattle.escp2_definitions.specs.declared.command.Command.{Command}
use Rattle.escp2_definitions.specs.declared.stops.JobCause.{JobCause}
use Rattle.escp2_definitions.specs.Commands.{CommandList, Entry, Heard, Spells, command_at, commands, commands_from, with_entry}
use Rattle.escp2_definitions.specs.Commands.Heard.{One, Part, Wrong}
use Rattle.escp2_definitions.specs.Commands.ListEnd.{Whole, Cut, Fault}
use Rattle.escp2_laws.proofs.Grammar.{AreBytes}
use Rattle.escp2_laws.proofs.Heard.{command-told}
use Rattle.escp2_laws.proofs.Told.{TellsOne, TellsWrong, Told}

-- a prefix of bytes is bytes
bytes-front : (front rest : List ℕ) → AreBytes (front ++ rest) → AreBytes front
bytes-front [] rest are k = omega arith
bytes-front (b ∷ front) rest are zero = are 0
bytes-front (b ∷ front) rest are (suc k) = bytes-front front rest (λ k. are (suc k)) k

-- a whole command, as its first bytes decide it
pub one-told : (bytes : List ℕ) (command : Command) (rows : List ℕ) (len : ℕ) → command_at bytes ≡ One command rows len
    → TellsOne command_at [] bytes command rows len
one-told bytes command rows len e = let P : Heard → Type 0 = Told command_at [] bytes in subst P e (command-told bytes)

-- a fault, as the first bytes decide it
wrong-told : (bytes : List ℕ) (at : ℕ) (cause : JobCause) → command_at bytes ≡ Wrong at cause → TellsWrong command_at [] bytes at cause
wrong-told bytes at cause e = let P : Heard → Type 0 = Told command_at [] bytes in subst P e (command-told bytes)

-- ---- a whole command

-- a whole command is spelled by its bytes
pub heard-spelled : (bytes : List ℕ) (command : Command) (rows : List ℕ) (len : ℕ) → AreBytes bytes
    → command_at bytes ≡ One command rows len
    → Spells command rows (take len bytes)
heard-spelled bytes command rows len are e =
    let t : TellsOne command_at [] bytes command rows len = one-told bytes command rows len e in
    let P : List ℕ → Type 0 = Spells command rows in
    let front_are : AreBytes t.front = let Q : List ℕ → Type 0 = AreBytes in bytes-front t.front t.rest (subst Q t.is are) in
    subst P (sym (take_at t.front t.rest len (omega (arith, t.there))) ∙ ap (take len) (sym t.is)) (t.spells front_are)

-- it is read from them, whatever follows
pub one-stands : (bytes rest : List ℕ) (command : Command) (rows : List ℕ) (len : ℕ) → command_at bytes ≡ One command rows len
    → command_at (take len bytes ++ rest) ≡ One command rows len
one-stands bytes rest command rows len e =
    let t : TellsOne command_at [] bytes command rows len = one-told bytes command rows len e in
    let front : take len bytes ≡ t.front = ap (take len) t.is ∙ take_at t.front t.rest len (omega (arith, t.there)) in
    ap (λ bs. command_at (bs ++ rest)) front ∙ t.told rest

-- with all of the bytes before
pub one-stands_behind : (bytes rest : List ℕ) (command : Command) (rows : List ℕ) (len : ℕ) → command_at bytes ≡ One command rows len
    → command_at (bytes ++ rest) ≡ One command rows len
one-stands_behind bytes rest command rows len e =
    let t : TellsOne command_at [] bytes command rows len = one-told bytes command rows len e in
    ap (λ bs. command_at (bs ++ rest)) t.is ∙ ap command_at (append_assoc t.front t.rest rest) ∙ t.told (t.rest ++ rest)

-- ---- a fault

-- a fault stays read with all of the bytes before
pub wrong-stands_behind : (bytes rest : List ℕ) (at : ℕ) (cause : JobCause) → command_at bytes ≡ Wrong at cause
    → command_at (bytes ++ rest) ≡ Wrong at cause
wrong-stands_behind bytes rest at cause e =
    let t : TellsWrong command_at [] bytes at cause = wrong-told bytes at cause e in
    ap (λ bs. command_at (bs ++ rest)) t.is ∙ ap command_at (append_assoc t.front t.rest rest) ∙ t.told (t.rest ++ rest)

-- What decides a fault at a place of the bytes.
pub record FaultStands (bytes : List ℕ) (at : ℕ) (cause : JobCause) : Type 0 where
  pub within : at < length bytes
  pub before : command_at (take at bytes) ≡ Part
  pub stands : (rest : List ℕ) → command_at (take (at + 2) bytes ++ rest) ≡ Wrong at cause

-- what is read of the bytes before a fault
before-fault : (front rest : List ℕ) (at : ℕ) (cause : JobCause) → length front ≤ at → command_at (front ++ rest) ≡ Wrong at cause
    → (h : Heard) → command_at front ≡ h → h ≡ Part
before-fault front rest at cause short e Part is = refl
before-fault front rest at cause short e (One command rows len) is =
    absurd (let no : One command rows len ≡ Wrong at cause = sym (one-stands_behind front rest command rows len is) ∙ e in cc)
before-fault front rest at cause short e (Wrong place other) is =
    let t : TellsWrong command_at [] front place other = wrong-told front place other is in
    let same : Wrong place other ≡ Wrong at cause = sym (wrong-stands_behind front rest place other is) ∙ e in
    absurd (omega (arith, places _ _ _ _ same, t.least, ap length t.is, length-append t.front t.rest))
  where
    places : (j k : ℕ) (a b : JobCause) → Wrong j a ≡ Wrong k b → j ≡ k
    places j k a b e = cc

-- a fault is decided by the bytes up to it
pub fault-stands : (bytes : List ℕ) (at : ℕ) (cause : JobCause) → command_at bytes ≡ Wrong at cause → FaultStands bytes at cause
fault-stands bytes at cause e =
    let t : TellsWrong command_at [] bytes at cause = wrong-told bytes at cause e in
    let more : ℕ = at + 2 - length t.front in
    let front : take (at + 2) bytes ≡ t.front ++ take more t.rest =
    ap (take (at + 2)) t.is
    ∙ ap (λ k. take k (t.front ++ t.rest)) (let p : at + 2 ≡ length t.front + more = omega (arith, t.most) in p)
    ∙ take-append-add t.front t.rest more in
    record {
      within = omega (arith, t.least, ap length t.is, length-append t.front t.rest);
      before =
          before-fault (take at bytes) (drop at bytes) at cause (omega (arith, length-take at bytes))
          (ap command_at (take-append-drop at bytes) ∙ e) (command_at (take at bytes)) refl;
      stands = λ rest. ap (λ bs. command_at (bs ++ rest)) front ∙ ap command_at (append_assoc t.front (take more t.rest) rest)
          ∙ t.told (take more t.rest ++ rest);
    }

-- ---- less than a whole command

-- a prefix of a part is a part
pub part-of_part : (bytes rest : List ℕ) → command_at (bytes ++ rest) ≡ Part → command_at bytes ≡ Part
part-of_part bytes rest e = grind (arith, one-stands_behind, wrong-stands_behind)

-- ---- jobs

-- a command has a byte at least, and no more than there are
pub one-len : (bytes : List ℕ) (command : Command) (rows : List ℕ) (len : ℕ) → command_at bytes ≡ One command rows len → (1 ≤ len)
    × (len ≤ length bytes)
unfolding command_at
one-len bytes command rows len e =
    let t : TellsOne command_at [] bytes command rows len = one-told bytes command rows len e in
    (some t.front t.told t.there, omega (arith, t.there, ap length t.is, length-append t.front t.rest))
  where
    some : (front : List ℕ) → ((more : List ℕ) → command_at (front ++ more) ≡ One command rows len) → len ≡ 0 + length front → 1 ≤ len
    some [] told there = absurd (let no : Part ≡ One command rows len = told [] in cc)
    some (b ∷ front) told there = omega (arith, there)

-- what the first command leaves of a job
abbrev pub after : Heard → ℕ → ℕ → List ℕ → CommandList
after (One command rows len) most at bytes =
    with_entry (record { at = at; command = command; rows = rows }) (commands_from most (at + len) (drop len bytes))
after Part most at bytes = record { entries = []; end = Cut at }
after (Wrong place cause) most at bytes = record { entries = []; end = Fault (at + place) cause }

-- a job is its first command and what that leaves
pub first-of : (most at b : ℕ) (bytes : List ℕ)
    → commands_from (suc most) at (b ∷ bytes) ≡ after (command_at (b ∷ bytes)) most at (b ∷ bytes)
unfolding commands_from
first-of most at b bytes = grind (arith, after)

-- a fault ends the commands from a place on
fault-from : (most more at : ℕ) (bytes rest : List ℕ) (place : ℕ) (cause : JobCause) → length bytes ≤ most → length (bytes ++ rest) ≤ more
    → (commands_from most at bytes).end ≡ Fault place cause → commands_from more at (bytes ++ rest) ≡ commands_from most at bytes
unfolding commands_from
fault-from most more at [] rest place cause few fits e = absurd (let no : Whole ≡ Fault place cause = e in cc)
fault-from zero more at (b ∷ bytes) rest place cause few fits e = absurd (omega arith)
fault-from (suc most) zero at (b ∷ bytes) rest place cause few fits e = absurd (omega (arith, length-append (b ∷ bytes) rest))
fault-from (suc most) (suc more) at (b ∷ bytes) rest place cause few fits e =
    first-of more at b (bytes ++ rest)
    ∙ by_heard (λ more at bytes few fits e. fault-from most more at bytes rest place cause few fits e) (command_at (b ∷ bytes)) refl
    ∙ sym (first-of most at b bytes)
  where
    by_heard : ((more at : ℕ) (bytes : List ℕ) → length bytes ≤ most → length (bytes ++ rest) ≤ more
        → (commands_from most at bytes).end ≡ Fault place cause
        → commands_from more at (bytes ++ rest) ≡ commands_from most at bytes)
        → (h : Heard) → command_at (b ∷ bytes) ≡ h
        → after (command_at (b ∷ (bytes ++ rest))) more at (b ∷ (bytes ++ rest)) ≡ after (command_at (b ∷ bytes)) most at (b ∷ bytes)
    by_heard behind (One command rows len) is =
        let whole : command_at (b ∷ (bytes ++ rest)) ≡ One command rows len = one-stands_behind (b ∷ bytes) rest command rows len is in
        let sized : (1 ≤ len) × (len ≤ length (b ∷ bytes)) = one-len (b ∷ bytes) command rows len is in
        let left : drop len (b ∷ (bytes ++ rest)) ≡ drop len (b ∷ bytes) ++ rest = drop-append-le len (b ∷ bytes) rest sized.1 in
        let ends : (commands_from most (at + len) (drop len (b ∷ bytes))).end ≡ Fault place cause =
        sym (ap (λ h. (after h most at (b ∷ bytes)).end) is) ∙ sym (ap (λ (l : CommandList). l.end) (first-of most at b bytes)) ∙ e in
        ap (λ h. after h more at (b ∷ (bytes ++ rest))) whole
        ∙ ap (λ bs. with_entry (record { at = at; command = command; rows = rows }) (commands_from more (at + len) bs)) left
        ∙ ap (with_entry (record { at = at; command = command; rows = rows }))
        (behind more (at + len) (drop len (b ∷ bytes)) (omega (arith, sized.0, length-drop len (b ∷ bytes)))
        (omega (arith, sized.0, ap length left, length-drop len (b ∷ (bytes ++ rest)))) ends)
        ∙ sym (ap (λ h. after h most at (b ∷ bytes)) is)
    by_heard behind Part is =
        absurd (let no : Cut at ≡ Fault place cause = sym (ap (λ h. (after h most at (b ∷ bytes)).end) is)
        ∙ sym (ap (λ (l : CommandList). l.end) (first-of most at b bytes)) ∙ e in cc)
    by_heard behind (Wrong k other) is =
        ap (λ h. after h more at (b ∷ (bytes ++ rest))) (wrong-stands_behind (b ∷ bytes) rest k other is)
        ∙ sym (ap (λ h. after h most at (b ∷ bytes)) is)

-- and those of a job
pub fault-stays : (bytes rest : List ℕ) (at : ℕ) (cause : JobCause) → (commands bytes).end ≡ Fault at cause
    → commands (bytes ++ rest) ≡ commands bytes
fault-stays bytes rest at cause e =
    fault-from (length bytes) (length (bytes ++ rest)) 0 bytes rest at cause (omega arith) (omega arith) e

-- the commands of a prefix come first
record FirstOf (all some : List Entry) : Type 0 where
  later : List Entry
  is : all ≡ some ++ later

-- from a place on
first-from : (most more at : ℕ) (bytes rest : List ℕ) → length bytes ≤ most → length (bytes ++ rest) ≤ more
    → FirstOf (commands_from more at (bytes ++ rest)).entries (commands_from most at bytes).entries
unfolding commands_from
first-from most more at [] rest few fits = record { later = (commands_from more at rest).entries; is = refl }
first-from zero more at (b ∷ bytes) rest few fits = absurd (omega arith)
first-from (suc most) zero at (b ∷ bytes) rest few fits = absurd (omega (arith, length-append (b ∷ bytes) rest))
first-from (suc most) (suc more) at (b ∷ bytes) rest few fits =
    let inner = by_heard (λ more at bytes few fits. first-from most more at bytes rest few fits) (command_at (b ∷ bytes)) refl in
    record {
      later = inner.later;
      is = ap (λ (l : CommandList). l.entries) (first-of more at b (bytes ++ rest)) ∙ inner.is
          ∙ ap (λ (l : CommandList). l.entries ++ inner.later) (sym (first-of most at b bytes));
    }
  where
    by_heard : ((more at : ℕ) (bytes : List ℕ) → length bytes ≤ most → length (bytes ++ rest) ≤ more
        → FirstOf (commands_from more at (bytes ++ rest)).entries (commands_from most at bytes).entries)
        → (h : Heard) → command_at (b ∷ bytes) ≡ h
        → FirstOf (after (command_at (b ∷ (bytes ++ rest))) more at (b ∷ (bytes ++ rest))).entries
        (after (command_at (b ∷ bytes)) most at (b ∷ bytes)).entries
    by_heard behind (One command rows len) is =
        let whole : command_at (b ∷ (bytes ++ rest)) ≡ One command rows len = one-stands_behind (b ∷ bytes) rest command rows len is in
        let sized : (1 ≤ len) × (len ≤ length (b ∷ bytes)) = one-len (b ∷ bytes) command rows len is in
        let left : drop len (b ∷ (bytes ++ rest)) ≡ drop len (b ∷ bytes) ++ rest = drop-append-le len (b ∷ bytes) rest sized.1 in
        let entry : Entry = record { at = at; command = command; rows = rows } in
        let next : FirstOf (commands_from more (at + len) (drop len (b ∷ bytes) ++ rest)).entries
        (commands_from most (at + len) (drop len (b ∷ bytes))).entries =
        behind more (at + len) (drop len (b ∷ bytes)) (omega (arith, sized.0, length-drop len (b ∷ bytes)))
        (omega (arith, sized.0, ap length left, length-drop len (b ∷ (bytes ++ rest)))) in
        record {
          later = next.later;
          is = ap (λ h. (after h more at (b ∷ (bytes ++ rest))).entries) whole
              ∙ ap (λ bs. entry ∷ (commands_from more (at + len) bs).entries) left
              ∙ ap (λ es. entry ∷ es) next.is
              ∙ sym (ap (λ h. (after h most at (b ∷ bytes)).entries ++ next.later) is);
        }
    by_heard behind Part is = record {
      later = (after (command_at (b ∷ (bytes ++ rest))) more at (b ∷ (bytes ++ rest))).entries;
      is = sym (ap (λ h. (after h most at (b ∷ bytes)).entries
          ++ (after (command_at (b ∷ (bytes ++ rest))) more at (b ∷ (bytes ++ rest))).entries) is);
    }
    by_heard behind (Wrong k other) is = record {
      later = (after (command_at (b ∷ (bytes ++ rest))) more at (b ∷ (bytes ++ rest))).entries;
      is = sym (ap (λ h. (after h most at (b ∷ bytes)).entries
          ++ (after (command_at (b ∷ (bytes ++ rest))) more at (b ∷ (bytes ++ rest))).entries) is);
    }

-- more commands have no fewer rasters of an ink
rasters_more : (ink colour : Ink) (some later : List Entry) → ink_rasters_from ink colour some ≤ ink_rasters_from ink colour (some ++ later)
rasters_more ink colour [] later = omega arith
rasters_more ink colour (entry ∷ some) later = omega (arith, rasters_more ink (colour_after colour entry.command) some later)

-- the bytes of a job have no fewer rasters of an ink than a prefix of them
pub prefix-rasters : (ink : Ink) (bytes rest : List ℕ) → ink_rasters ink (commands bytes).entries ≤ ink_rasters ink (commands (bytes ++ rest)).entries
prefix-rasters ink bytes rest =
    let first = first-from (length bytes) (length (bytes ++ rest)) 0 bytes rest (omega arith) (omega arith) in
    omega (arith, rasters_more ink Black (commands bytes).entries first.later, ap (ink_rasters ink) first.is)
