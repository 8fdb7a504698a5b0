-- The calls of a reader: what is read of a piece so far.
use Rattle.std.proofs.Common.{◌≡◌, ℕ, zero, suc, ◌+◌, ◌-◌, ◌≤◌, if◌then◌else◌, List, [], ◌++◌, length, take, drop, Some, refl}
use Rattle.std.proofs.Common.{◌∙◌, ap, arith, append_assoc, length-append, length-drop}
use Rattle.std.proofs.lemmas.Bool.{lt-ltb}
use Rattle.std.proofs.lemmas.List.{append-nil, length-take-le, take_all}
use Rattle.std.proofs.Math.Seq.{take-add}
use Rattle.pwg_definitions.specs.declared.faults.LineFault.{LineFault}
use Rattle.pwg_definitions.specs.Header.{KindRow}
use Rattle.pwg_definitions.specs.Groups.{GroupFront, copies, group_at, line_at}
use Rattle.pwg_definitions.specs.Groups.GroupRead.{Part, Wrong}
use Rattle.pwg_lines.specs.declared.reader.LineReader.{LineReader}
use Rattle.pwg_lines.specs.declared.states.State.{State}
use Rattle.pwg_lines.specs.declared.states.State.TheVariants as state
use Rattle.pwg_lines.specs.declared.answers.Fill.{Fill}
use Rattle.pwg_lines.specs.States.{IsAt, IsOpen, Stands, longer, read_behind, read_on}
use Rattle.pwg_lines.specs.Reading.{Ends, IsAnew, IsFault, IsLine, IsMore, StandsFor, Takes, fault_in, fault_of}
use Rattle.pwg_lines.specs.Reading.{next_group}
use Rattle.pwg_lines.proofs.Steps.{front_of, in_state}

-- a reader before a group stands for no bytes
pub anew_stands : (reader : LineReader) → IsAnew reader → StandsFor reader []
anew_stands reader fresh = grind (arith, in_state)

-- This many bytes of the piece are read.
pub record FedSoFar (old now : LineReader) (piece : List ℕ) (used : ℕ) : Type 0 where
  pub within : used ≤ length piece
  pub takes : Takes old now (take used piece)
  pub again : (fault : LineFault) → fault_of old ≡ Some fault → (used ≡ 0) × (now ≡ old)

open-no_fault : (s : State) (fault : LineFault) → IsOpen s → fault_in s ≡ Some fault → ⊥
open-no_fault state.Start fault is e = cc
open-no_fault state.Packet fault is e = cc
open-no_fault (state.Run units read) fault is e = cc
open-no_fault (state.Literal bytes) fault is e = cc
open-no_fault state.Full fault is e = is
open-no_fault (state.Failed other) fault is e = is

pub still_open : (s : State) → (s ≡ state.Full → ⊥) → ((fault : LineFault) → s ≡ state.Failed fault → ⊥) → IsOpen s
still_open state.Start full failed = tt
still_open state.Packet full failed = tt
still_open (state.Run units read) full failed = tt
still_open (state.Literal bytes) full failed = tt
still_open state.Full full failed = full refl
still_open (state.Failed fault) full failed = failed fault refl

-- and this many more
pub feed_step : {old now new : LineReader} {piece : List ℕ} (rest : List ℕ) {used more : ℕ} → FedSoFar old now piece used → IsOpen now.state
    → rest ≡ drop used piece → more ≤ length rest → Takes now new (take more rest) → FedSoFar old new piece (used + more)
feed_step {now} {new} {piece} rest {used} {more} so_far is_open behind fits takes = grind (arith, append_assoc, length-drop, open-no_fault, take-add)

nothing_behind : (row : KindRow) (most left : ℕ) (front : GroupFront) (makes : List ℕ → List ℕ) (count : ℕ) → 1 ≤ count
    → read_behind row most left front makes count [] ≡ Part
nothing_behind row most left front makes count some =
    ap (λ b. if b then Part else line_at row most left (longer front (makes (take count [])) count) (drop count [])) (lt-ltb 0 count some)

-- nothing is known from no bytes
read_on-nothing : (s : State) (row : KindRow) (units lines most left repeats : ℕ) (line : List ℕ) (place : ℕ) (part sofar : List ℕ)
    → IsOpen s → IsAt s row left sofar → read_on s row units lines most left (front_of repeats line place) part [] ≡ Part
unfolding line_at
read_on-nothing state.Start row units lines most left repeats line place part sofar is at = refl
read_on-nothing state.Packet row units lines most zero repeats line place part sofar is at = absurd (omega arith)
read_on-nothing state.Packet row units lines zero (suc left) repeats line place part sofar is at = refl
read_on-nothing state.Packet row units lines (suc most) (suc left) repeats line place part sofar is at = refl
read_on-nothing (state.Run n read) row units lines most left repeats line place part sofar is at =
    nothing_behind row most left (front_of repeats line place) (λ bytes. copies n (part ++ bytes)) (row.unit - read) (omega arith)
read_on-nothing (state.Literal n) row units lines most left repeats line place part sofar is at =
    nothing_behind row most left (front_of repeats line place) (λ bytes. bytes) n at
read_on-nothing state.Full row units lines most left repeats line place part sofar is at = absurd is
read_on-nothing (state.Failed fault) row units lines most left repeats line place part sofar is at = absurd is

-- nothing is known where a reader stands
nothing_known : {row : KindRow} {units lines repeats left : ℕ} {s : State} {line part sofar : List ℕ}
    → Stands row units lines s repeats line part left sofar → IsOpen s → group_at row units lines (sofar ++ []) ≡ Part
nothing_known {row} {units} {lines} {repeats} {left} {s} {line} {part} {sofar} here is_open =
    here.is [] ∙ read_on-nothing s row units lines here.most left repeats line (length sofar) part sofar is_open here.at

-- the group is read as its reader reads it, in a page of the same form
same_group : (old now : LineReader) (bytes : List ℕ) → now.form ≡ old.form → now.lines_left ≡ old.lines_left
    → next_group old bytes ≡ next_group now bytes
same_group old now bytes form lines = cc

pub feed_more : (old now : LineReader) (piece : List ℕ) (used : ℕ) → FedSoFar old now piece used → IsOpen now.state → used ≡ length piece
    → IsMore old now piece used
feed_more old now piece used so_far is_open all = grind (arith, append-nil, nothing_known, same_group, take_all)

pub feed_fault : (old now : LineReader) (piece : List ℕ) (used : ℕ) (fault : LineFault) → FedSoFar old now piece used
    → now.state ≡ state.Failed fault
    → IsFault old now piece used fault
feed_fault old now piece used fault so_far failed = record {
  failed = ap fault_in failed;
  lines_left = so_far.takes.lines_left;
  wrong = wrong;
  stands = so_far.takes.stands;
}
  where
    wrong : (sofar rest : List ℕ) → StandsFor old sofar → (place : ℕ) × (length sofar + used ≡ place + 1)
        × (next_group old (sofar ++ take used piece ++ rest) ≡ Wrong place fault)
    wrong sofar rest stood =
        let read : List ℕ = sofar ++ take used piece in
        let here : Stands _ _ _ (state.Failed fault) _ _ _ _ read = in_state _ _ _ failed (so_far.takes.stands sofar stood) in
        let sized : length read ≡ length sofar + used = length-append sofar (take used piece)
        ∙ ap (λ k. length sofar + k) (length-take-le used piece so_far.within) in (
          length read - 1,
          omega (arith, here.at),
          same_group old now (read ++ rest) so_far.takes.form so_far.takes.lines_left
              ∙ here.is rest,
        )

-- where no unit is left, the line is filled
full_line : (now : LineReader) → now.state ≡ state.Full → now.left ≡ 0 → length now.line.items ≤ now.filled
full_line now full none = grind arith

pub feed_line : {old now new : LineReader} {answer : Fill} {piece : List ℕ} {used : ℕ} → FedSoFar old now piece used
    → now.state ≡ state.Full → Ends now new answer
    → IsLine old new piece used now.repeats
feed_line {old} {now} {new} {piece} {used} so_far full ends = grind (arith, anew_stands, full_line, in_state, same_group, take_all)

pub again-open : (old now : LineReader) (piece : List ℕ) (used : ℕ) (fault : LineFault) → FedSoFar old now piece used → IsOpen now.state
    → fault_of old ≡ Some fault → ⊥
again-open old now piece used fault so_far is_open e = open-no_fault now.state fault is_open (ap fault_of (so_far.again fault e).1 ∙ e)
