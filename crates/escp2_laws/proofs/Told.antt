-- What is read of a command is decided by its first bytes, whatever follows, and what is whole is spelled: the parts
-- of a command, one after another.
use Rattle.std.proofs.Common.{◌≡◌, ℕ, suc, ◌+◌, ◌*◌, ◌/◌, ◌%◌, ◌<◌, ◌≤◌, ◌==◌, Bool, true, false, if◌then◌else◌, List, [], ◌∷◌, ◌++◌}
use Rattle.std.proofs.Common.{length, refl, sym, ◌∙◌, ap, subst, arith, append_assoc, length-append}
use Rattle.std.proofs.lemmas.Bool.{eqb-true}
use Rattle.escp2_definitions.specs.declared.command.Command.{Command}
use Rattle.escp2_definitions.specs.declared.stops.JobCause.{JobCause}
use Rattle.escp2_definitions.specs.declared.stops.JobCause.TheVariants.{BadLength, BadValue}
use Rattle.escp2_definitions.specs.Commands.{Heard, IsRowsText, Spells, command_bytes, in_table, number, rows_len, sized, two_bytes, whole}
use Rattle.escp2_definitions.specs.Commands.{wide_number}
use Rattle.escp2_definitions.specs.Commands.Heard.{One, Part, Wrong}
use Rattle.escp2_laws.proofs.Grammar.{AreBytes}

-- The rest of a command, after the bytes before: its first bytes decide that it is whole, and with those before they
-- spell it.
pub record TellsOne (read : List ℕ → Heard) (before bytes : List ℕ) (command : Command) (rows : List ℕ) (len : ℕ) : Type 0 where
  pub front : List ℕ
  pub rest : List ℕ
  pub is : bytes ≡ front ++ rest
  pub there : len ≡ length before + length front
  pub told : (more : List ℕ) → read (front ++ more) ≡ One command rows len
  pub spells : AreBytes front → Spells command rows (before ++ front)

-- Its first bytes decide a fault, the last of them at the fault's place or one after it.
pub record TellsWrong (read : List ℕ → Heard) (before bytes : List ℕ) (place : ℕ) (cause : JobCause) : Type 0 where
  pub front : List ℕ
  pub rest : List ℕ
  pub is : bytes ≡ front ++ rest
  pub least : place < length before + length front
  pub most : length before + length front ≤ place + 2
  pub told : (more : List ℕ) → read (front ++ more) ≡ Wrong place cause

-- the first bytes decide what is read, a whole command or a fault
abbrev pub Told : (List ℕ → Heard) → List ℕ → List ℕ → Heard → Type 0
Told read before bytes (One command rows len) = TellsOne read before bytes command rows len
Told read before bytes Part = Unit {0}
Told read before bytes (Wrong place cause) = TellsWrong read before bytes place cause

-- a part, read as it is spelled, and what follows it
pub told-behind : (read next : List ℕ → Heard) (before code spelled rest : List ℕ) → ((more : List ℕ) → read (code ++ more) ≡ next more)
    → length code ≡ length spelled → ((front : List ℕ) → AreBytes (code ++ front) → (code ≡ spelled) × AreBytes front)
    → (h : Heard) → Told next (before ++ spelled) rest h → Told read before (code ++ rest) h
told-behind read next before code spelled rest step same split (One command rows len) t = record {
  front = code ++ t.front;
  rest = t.rest;
  is = ap (λ bs. code ++ bs) t.is ∙ sym (append_assoc code t.front t.rest);
  there = omega (arith, t.there, length-append before spelled, length-append code t.front);
  told = λ more. ap read (append_assoc code t.front more) ∙ step (t.front ++ more) ∙ t.told more;
  spells = λ are.
      let P : List ℕ → Type 0 = Spells command rows in
      subst P (append_assoc before spelled t.front ∙ ap (λ bs. before ++ (bs ++ t.front)) (sym (split t.front are).0))
      (t.spells (split t.front are).1);
}
told-behind read next before code spelled rest step same split Part t = tt
told-behind read next before code spelled rest step same split (Wrong place cause) t = record {
  front = code ++ t.front;
  rest = t.rest;
  is = ap (λ bs. code ++ bs) t.is ∙ sym (append_assoc code t.front t.rest);
  least = omega (arith, t.least, length-append before spelled, length-append code t.front);
  most = omega (arith, t.most, length-append before spelled, length-append code t.front);
  told = λ more. ap read (append_assoc code t.front more) ∙ step (t.front ++ more) ∙ t.told more;
}

-- a byte
pub told-byte : (read next : List ℕ → Heard) (before : List ℕ) (n : ℕ) (rest : List ℕ) → ((more : List ℕ) → read (n ∷ more) ≡ next more)
    → Told next (before ++ n ∷ []) rest (next rest) → Told read before (n ∷ rest) (read (n ∷ rest))
told-byte read next before n rest step t =
    let P : Heard → Type 0 = Told read before (n ∷ rest) in
    subst P (sym (step rest))
    (told-behind read next before (n ∷ []) (n ∷ []) rest step refl (λ front are. (refl, λ k. are (suc k))) (next rest) t)

-- a byte of the table
pub told-branch : (read next : List ℕ → Heard) (before : List ℕ) (b n : ℕ) (rest : List ℕ) → b ≡ n
    → ((more : List ℕ) → read (n ∷ more) ≡ next more)
    → Told next (before ++ n ∷ []) rest (next rest) → Told read before (b ∷ rest) (read (b ∷ rest))
told-branch read next before b n rest same step t =
    let P : ℕ → Type 0 = λ b. Told read before (b ∷ rest) (read (b ∷ rest)) in
    subst P (sym same) (told-byte read next before n rest step t)

-- a whole command without rows
pub told-whole : (command : Command) (len : ℕ) (before bytes : List ℕ) → len ≡ length before → in_table command ≡ true
    → 0 ≡ rows_len command → IsRowsText command [] [] → before ++ [] ≡ command_bytes command ++ []
    → Told (whole command len) before bytes (One command [] len)
told-whole command len before bytes there ok none no_text spelled = grind arith

-- ---- numbers

-- a fault at a byte
pub wrong-byte : (read : List ℕ → Heard) (before : List ℕ) (n : ℕ) (rest : List ℕ) (place : ℕ) (cause : JobCause) → place ≡ length before
    → ((more : List ℕ) → read (n ∷ more) ≡ Wrong place cause) → Told read before (n ∷ rest) (Wrong place cause)
wrong-byte read before n rest place cause there wrong =
    record { front = n ∷ []; rest = rest; is = refl; least = omega (arith, there); most = omega (arith, there); told = wrong }

-- a fault that the second of two bytes shows
wrong-two : (read : List ℕ → Heard) (before : List ℕ) (low high : ℕ) (rest : List ℕ) (place : ℕ) (cause : JobCause)
    → place < length before + 2 → length before ≤ place → ((more : List ℕ) → read (low ∷ high ∷ more) ≡ Wrong place cause)
    → Told read before (low ∷ high ∷ rest) (read (low ∷ high ∷ rest))
wrong-two read before low high rest place cause least most wrong =
    let P : Heard → Type 0 = Told read before (low ∷ high ∷ rest) in
    subst P (sym (wrong rest))
    (record { front = low ∷ high ∷ []; rest = rest; is = refl; least = least; most = omega arith; told = wrong })

-- a number of one byte
pub told-number : (in_range : ℕ → Bool) (at : ℕ) (next : ℕ → List ℕ → Heard) (before bytes : List ℕ) → at ≡ length before
    → ((n : ℕ) → in_range n ≡ true → (rest : List ℕ) → Told (next n) (before ++ n ∷ []) rest (next n rest))
    → Told (number in_range at next) before bytes (number in_range at next bytes)
told-number in_range at next before [] there after = tt
told-number in_range at next before (n ∷ rest) there after = by_test (in_range n) refl
  where
    by_test : (b : Bool) → in_range n ≡ b → Told (number in_range at next) before (n ∷ rest) (number in_range at next (n ∷ rest))
    by_test true e =
        told-byte (number in_range at next) (next n) before n rest (λ more. ap (λ b. if b then next n more else Wrong at BadValue) e)
        (after n e rest)
    by_test false e =
        let wrong : (more : List ℕ) → number in_range at next (n ∷ more) ≡ Wrong at BadValue =
        λ more. ap (λ b. if b then next n more else Wrong at BadValue) e in
        let P : Heard → Type 0 = Told (number in_range at next) before (n ∷ rest) in
        subst P (sym (wrong rest)) (wrong-byte (number in_range at next) before n rest at BadValue there wrong)

-- two bytes are those of their number
two-same : (low high : ℕ) → low < 256 → low ∷ high ∷ [] ≡ two_bytes (low + 256 * high)
two-same low high byte = grind arith

-- a number of two bytes
pub told-wide : (in_range : ℕ → Bool) (at : ℕ) (next : ℕ → List ℕ → Heard) (before bytes : List ℕ) → at ≡ length before
    → ((n : ℕ) → in_range n ≡ true → (rest : List ℕ) → Told (next n) (before ++ two_bytes n) rest (next n rest))
    → Told (wide_number in_range at next) before bytes (wide_number in_range at next bytes)
told-wide in_range at next before [] there after = tt
told-wide in_range at next before (low ∷ []) there after = tt
told-wide in_range at next before (low ∷ high ∷ rest) there after = by_test (in_range n) refl
  where
    n : ℕ
    n = low + 256 * high

    by_test : (b : Bool) → in_range n ≡ b
        → Told (wide_number in_range at next) before (low ∷ high ∷ rest) (wide_number in_range at next (low ∷ high ∷ rest))
    by_test true e =
        let step : (more : List ℕ) → wide_number in_range at next (low ∷ high ∷ more) ≡ next n more =
        λ more. ap (λ b. if b then next n more else Wrong at BadValue) e in
        let P : Heard → Type 0 = Told (wide_number in_range at next) before (low ∷ high ∷ rest) in
        subst P (sym (step rest))
        (told-behind (wide_number in_range at next) (next n) before (low ∷ high ∷ []) (two_bytes n) rest step refl
        (λ front are. (two-same low high (are 0), λ k. are (suc (suc k)))) (next n rest) (after n e rest))
    by_test false e =
        let wrong : (more : List ℕ) → wide_number in_range at next (low ∷ high ∷ more) ≡ Wrong at BadValue =
        λ more. ap (λ b. if b then next n more else Wrong at BadValue) e in
        wrong-two (wide_number in_range at next) before low high rest at BadValue (omega (arith, there)) (omega (arith, there)) wrong

-- ---- lengths

-- the two bytes of a length
pub told-sized : (len : ℕ) (next : List ℕ → Heard) (before bytes : List ℕ) → 3 ≡ length before
    → ((rest : List ℕ) → Told next (before ++ len ∷ 0 ∷ []) rest (next rest)) → Told (sized len next) before bytes (sized len next bytes)
told-sized len next before [] there after = tt
told-sized len next before (low ∷ bytes) there after = by_low (low == len) refl bytes
  where
    wrong_low : (low == len) ≡ false → (more : List ℕ) → sized len next (low ∷ more) ≡ Wrong 3 BadLength
    wrong_low e [] = ap (λ b. if b then Part else Wrong 3 BadLength) e
    wrong_low e (high ∷ more) = ap (λ b. if b then (if high == 0 then next more else Wrong 4 BadLength) else Wrong 3 BadLength) e

    by_high : (low == len) ≡ true → (high : ℕ) (rest : List ℕ) (b : Bool) → (high == 0) ≡ b
        → Told (sized len next) before (low ∷ high ∷ rest) (sized len next (low ∷ high ∷ rest))
    by_high e high rest true zero_is =
        let step : (more : List ℕ) → sized len next (low ∷ high ∷ more) ≡ next more =
        λ more. ap (λ b. if b then (if high == 0 then next more else Wrong 4 BadLength) else Wrong 3 BadLength) e
        ∙ ap (λ b. if b then next more else Wrong 4 BadLength) zero_is in
        let P : Heard → Type 0 = Told (sized len next) before (low ∷ high ∷ rest) in
        let same : low ∷ high ∷ [] ≡ len ∷ 0 ∷ [] = ap (λ n. n ∷ high ∷ []) (eqb-true low len e)
        ∙ ap (λ n. len ∷ n ∷ []) (eqb-true high 0 zero_is) in
        subst P (sym (step rest))
        (told-behind (sized len next) next before (low ∷ high ∷ []) (len ∷ 0 ∷ []) rest step refl
        (λ front are. (same, λ k. are (suc (suc k)))) (next rest) (after rest))
    by_high e high rest false not_zero =
        let wrong : (more : List ℕ) → sized len next (low ∷ high ∷ more) ≡ Wrong 4 BadLength =
        λ more. ap (λ b. if b then (if high == 0 then next more else Wrong 4 BadLength) else Wrong 3 BadLength) e
        ∙ ap (λ b. if b then next more else Wrong 4 BadLength) not_zero in
        wrong-two (sized len next) before low high rest 4 BadLength (omega (arith, there)) (omega (arith, there)) wrong

    by_low : (b : Bool) → (low == len) ≡ b → (bytes : List ℕ) → Told (sized len next) before (low ∷ bytes) (sized len next (low ∷ bytes))
    by_low true e [] =
        let P : Heard → Type 0 = Told (sized len next) before (low ∷ []) in
        subst P (sym (ap (λ b. if b then Part else Wrong 3 BadLength) e)) tt
    by_low true e (high ∷ rest) = by_high e high rest (high == 0) refl
    by_low false e bytes =
        let P : Heard → Type 0 = Told (sized len next) before (low ∷ bytes) in
        subst P (sym (wrong_low e bytes)) (wrong-byte (sized len next) before low bytes 3 BadLength there (wrong_low e))
