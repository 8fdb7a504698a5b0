-- A line that is filled with runs.
use Rattle.std.proofs.Common.{◌≡◌, ℕ, zero, suc, ◌+◌, ◌-◌, ◌*◌, ◌/◌, ◌%◌, ◌<◌, ◌≤◌, min, List, [], ◌++◌, length, take, refl, sym, ◌∙◌, ap}
use Rattle.std.proofs.Common.{arith, append_assoc, append-nil}
use Rattle.std.proofs.lemmas.List.{take_all}
use Rattle.std.proofs.Math.Nat.{mul-div_cancel, mul-le-mul_right}
use Rattle.pwg_definitions.specs.Groups.{copies}
use Rattle.page_maker.specs.Made.{MadeLine, draw, drawn, made_line, next_state, run_length, state_after}
use Rattle.page_maker.proofs.Making.{IsRun, behind_run, made_line-none, made_line-run, run_length-is, run_and_rest}

-- A prefix of the line is filled, and the rest is whole units, which are filled with the rest of what is made.
pub record FilledSoFar (unit seed : ℕ) (first : List ℕ) (line : List ℕ) (filled now : ℕ) : Type 0 where
  pub left : ℕ
  pub same : length line ≡ length first
  pub whole : length line ≡ filled + left * unit
  pub bytes : take filled line ++ (made_line unit left left now).bytes
      ≡ (made_line unit (length first / unit) (length first / unit) seed).bytes
  pub state : (made_line unit left left now).state ≡ (made_line unit (length first / unit) (length first / unit) seed).state

-- as many units are left as the bytes that are left have
pub units_left : (unit left filled len : ℕ) → 1 ≤ unit → len ≡ filled + left * unit → (len - filled) / unit ≡ left
units_left unit left filled len some whole =
    ap (λ n. n / unit) (let e : len - filled ≡ left * unit = omega arith in e) ∙ mul-div_cancel left some

-- where bytes are left, a unit is
pub some_left : (unit left filled len : ℕ) → len ≡ filled + left * unit → filled < len → 1 ≤ left
some_left unit zero filled len whole less = absurd (omega arith)
some_left unit (suc left) filled len whole less = omega arith

-- The next run, as the code counts it.
pub record IsNextRun (unit left filled len state times : ℕ) : Type 0 where
  pub is : times ≡ run_length left state
  pub some : 1 ≤ times
  pub within : times ≤ left
  pub fits : filled + times * unit ≤ len

pub next_run : (unit left filled len state byte times : ℕ) → 1 ≤ unit → len ≡ filled + left * unit → filled < len → byte ≡ draw state
    → times ≡ min (1 + byte % 8) ((len - filled) / unit) → IsNextRun unit left filled len state times
unfolding run_length
next_run unit left filled len state byte times some whole less byte_is times_is =
    let is : times ≡ run_length left state =
    times_is ∙ ap (λ n. min (1 + byte % 8) n) (units_left unit left filled len some whole) ∙ ap (λ b. min (1 + b % 8) left) byte_is in
    let run : IsRun left (run_length left state) = run_length-is left state (some_left unit left filled len whole less) in
    let within : times ≤ left = omega (arith, run.within, is) in
    record {
      is = is;
      some = omega (arith, run.some, is);
      within = within;
      fits = omega (arith, whole, mul-le-mul_right unit within);
    }

-- one run more
pub filled_step : (unit seed : ℕ) (first line new : List ℕ) (filled state state' state'' times : ℕ) → 1 ≤ unit
    → (so_far : FilledSoFar unit seed first line filled state) → filled < length line
    → IsNextRun unit so_far.left filled (length line) state times → state' ≡ next_state state → state'' ≡ state_after unit state'
    → length new ≡ length line → take (filled + times * unit) new ≡ take filled line ++ copies times (drawn unit state')
    → FilledSoFar unit seed first new (filled + times * unit) state''
filled_step unit seed first line new filled state state' state'' times some so_far less run next_is after_is long put = record {
  left = so_far.left - times;
  same = long ∙ so_far.same;
  whole = omega (arith, long, so_far.whole, run_and_rest times so_far.left unit run.within);
  bytes =
      ap (λ front. front ++ rest.bytes) put
      ∙ append_assoc (take filled line) (copies times (drawn unit state')) rest.bytes
      ∙ ap (λ (made : MadeLine). take filled line ++ made.bytes) (sym made)
      ∙ so_far.bytes;
  state = ap (λ (made : MadeLine). made.state) (sym made) ∙ so_far.state;
}
  where
    rest : MadeLine
    rest = made_line unit (so_far.left - times) (so_far.left - times) state''

    made : made_line unit so_far.left so_far.left state ≡ behind_run unit times state' rest
    made = made_line-run unit so_far.left state (some_left unit so_far.left filled (length line) so_far.whole less)
        ∙ ap (λ n. behind_run unit n (next_state state) (made_line unit (so_far.left - n) (so_far.left - n) (state_after unit (next_state state))))
        (sym run.is)
        ∙ ap (λ s. behind_run unit times s (made_line unit (so_far.left - times) (so_far.left - times) (state_after unit s))) (sym next_is)
        ∙ ap (λ s. behind_run unit times state' (made_line unit (so_far.left - times) (so_far.left - times) s)) (sym after_is)

-- the whole line is filled
none_left : (unit left filled len : ℕ) → 1 ≤ unit → len ≡ filled + left * unit → len ≤ filled → left ≡ 0
none_left unit zero filled len some whole all = refl
none_left unit (suc left) filled len some whole all = absurd (omega arith)

pub filled_end : (unit seed : ℕ) (first line : List ℕ) (filled state : ℕ) → 1 ≤ unit → FilledSoFar unit seed first line filled state
    → length line ≤ filled
    → (line ≡ (made_line unit (length first / unit) (length first / unit) seed).bytes)
    × (state ≡ (made_line unit (length first / unit) (length first / unit) seed).state)
filled_end unit seed first line filled state some so_far all =
    let none : so_far.left ≡ 0 = none_left unit so_far.left filled (length line) some so_far.whole all in
    let made : made_line unit so_far.left so_far.left state ≡ record { bytes = []; state = state } =
    ap (λ n. made_line unit n n state) none ∙ made_line-none unit state in (
      sym (take_all filled line all) ∙ sym (append-nil (take filled line))
          ∙ ap (λ (m : MadeLine). take filled line ++ m.bytes) (sym made) ∙ so_far.bytes,
      ap (λ (m : MadeLine). m.state) (sym made) ∙ so_far.state,
    )
