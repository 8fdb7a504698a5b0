-- The whole commands at the beginning of bytes are the first of the bytes, and all of a job that is whole.
use Rattle.std.proofs.Common.{◌≡◌, ℕ, zero, suc, ◌+◌, ◌≤◌, List, [], ◌∷◌, ◌++◌, length, take, drop, refl, sym, ◌∙◌, ap, arith}
use Rattle.std.proofs.Common.{append_assoc, length-drop}
use Rattle.std.proofs.lemmas.List.{take_at, take-append-drop}
use Rattle.escp2_definitions.specs.Commands.{CommandList, Heard, command_at, commands, commands_from}
use Rattle.escp2_definitions.specs.Commands.Heard.{One, Part, Wrong}
use Rattle.escp2_definitions.specs.Commands.ListEnd.{Cut, Fault, Whole}
use Rattle.escp2_laws.proofs.Stands.{after, first-of, one-len}
use Rattle.finish_definitions.specs.Finished.{whole_commands, whole_from}
use Rattle.finish_definitions.proofs.WholeCommands.{kept, kept-of, read_from, whole-before}

-- ---- the first of the bytes

-- A list begins with these elements.
pub record Begins {A : Type 0} (front all : List A) : Type 0 where
  pub tail : List A
  pub is : all ≡ front ++ tail

-- Bytes begin with their whole commands.
pub whole-begins : (most : ℕ) (bytes : List ℕ) → Begins (whole_from most bytes) bytes
unfolding whole_from
whole-begins most [] = record { tail = []; is = refl }
whole-begins zero (b ∷ bytes) = record { tail = b ∷ bytes; is = refl }
whole-begins (suc most) (b ∷ bytes) =
    let inner = by_heard (λ bytes. whole-begins most bytes) (command_at (b ∷ bytes)) in
    record { tail = inner.tail; is = inner.is ∙ ap (λ bs. bs ++ inner.tail) (sym (kept-of most b bytes)) }
  where
    by_heard : ((bytes : List ℕ) → Begins (whole_from most bytes) bytes) → (h : Heard) → Begins (kept h most (b ∷ bytes)) (b ∷ bytes)
    by_heard behind (One command rows len) =
        let next : Begins (whole_from most (drop len (b ∷ bytes))) (drop len (b ∷ bytes)) = behind (drop len (b ∷ bytes)) in
        record {
          tail = next.tail;
          is = sym (take-append-drop len (b ∷ bytes)) ∙ ap (λ bs. take len (b ∷ bytes) ++ bs) next.is
              ∙ sym (append_assoc (take len (b ∷ bytes)) (whole_from most (drop len (b ∷ bytes))) next.tail);
        }
    by_heard behind Part = record { tail = b ∷ bytes; is = refl }
    by_heard behind (Wrong place cause) = record { tail = b ∷ bytes; is = refl }

-- The whole commands are as many of the first bytes as they have.
pub whole-taken : (bytes : List ℕ) → whole_commands bytes ≡ take (length (whole_commands bytes)) bytes
whole-taken bytes =
    let first : Begins (whole_commands bytes) bytes = whole-begins (length bytes) bytes in
    sym (ap (take (length (whole_commands bytes))) first.is
    ∙ take_at (whole_commands bytes) first.tail (length (whole_commands bytes)) refl)

-- ---- how they are read

-- The whole commands of bytes that end whole are the bytes.
pub whole-all : (most at : ℕ) (bytes : List ℕ) → length bytes ≤ most → (commands_from most at bytes).end ≡ Whole
    → whole_from most bytes ≡ bytes
unfolding commands_from whole_from
whole-all most at [] few whole = refl
whole-all zero at (b ∷ bytes) few whole = absurd (omega arith)
whole-all (suc most) at (b ∷ bytes) few whole =
    kept-of most b bytes
    ∙ by_heard (λ at bytes few whole. whole-all most at bytes few whole) (command_at (b ∷ bytes)) refl
    (sym (ap (λ (l : CommandList). l.end) (first-of most at b bytes)) ∙ whole)
  where
    by_heard : ((at : ℕ) (bytes : List ℕ) → length bytes ≤ most → (commands_from most at bytes).end ≡ Whole → whole_from most bytes ≡ bytes)
        → (h : Heard) → command_at (b ∷ bytes) ≡ h → (after h most at (b ∷ bytes)).end ≡ Whole → kept h most (b ∷ bytes) ≡ b ∷ bytes
    by_heard again (One command rows len) is whole =
        let sized : (1 ≤ len) × (len ≤ length (b ∷ bytes)) = one-len (b ∷ bytes) command rows len is in
        ap (λ bs. take len (b ∷ bytes) ++ bs)
        (again (at + len) (drop len (b ∷ bytes)) (omega (arith, sized.0, few, length-drop len (b ∷ bytes))) whole)
        ∙ take-append-drop len (b ∷ bytes)
    by_heard again Part is whole = absurd (let no : Cut at ≡ Whole = whole in cc)
    by_heard again (Wrong place cause) is whole = absurd (let no : Fault (at + place) cause ≡ Whole = whole in cc)

-- ---- a job

-- The commands of a front are the first of the job's commands.
pub front-read : (front rest : List ℕ) → Begins (commands front).entries (commands (front ++ rest)).entries
front-read front rest =
    let first : Begins (whole_commands front) front = whole-begins (length front) front in
    let later : CommandList = read_from (length (whole_commands front)) (first.tail ++ rest) in
    record {
      tail = later.entries;
      is = ap (λ bs. (commands (bs ++ rest)).entries) first.is
          ∙ ap (λ bs. (commands bs).entries) (append_assoc (whole_commands front) first.tail rest)
          ∙ ap (λ (l : CommandList). l.entries) (whole-before front (first.tail ++ rest));
    }
