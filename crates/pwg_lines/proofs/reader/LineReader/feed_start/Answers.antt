use Rattle.std.proofs.Common.{◌≡◌, ℕ, ◌+◌, ◌-◌, ◌<◌, if◌then◌else◌, List, [], ◌∷◌, ◌++◌, length, refl, sym, ◌∙◌, ap, arith}
use Rattle.std.proofs.lemmas.Bool.{lt-ltb}
use Rattle.pwg_definitions.specs.declared.faults.LineFault.TheVariants.{GroupPastPage}
use Rattle.pwg_definitions.specs.Header.{KindRow}
use Rattle.pwg_definitions.specs.Groups.{group_at, line_at}
use Rattle.pwg_definitions.specs.Groups.GroupRead.{Wrong}
use Rattle.pwg_lines.specs.declared.states.State.TheVariants as state
use Rattle.pwg_lines.specs.States.{Stands}
use Rattle.pwg_lines.proofs.Steps.{front_of, in_state, snoc}
use Rattle.pwg_lines.proofs.reader.LineReader.feed_start.Goals as goal

-- more repeats than the page has lines left
count_past : {row : KindRow} {units lines repeats : ℕ} {line part : List ℕ} {left : ℕ} (sofar : List ℕ) (n : ℕ) {repeats' : ℕ}
    {line' part' : List ℕ} {left' : ℕ}
    → Stands row units lines state.Start repeats line part left sofar → lines < n + 1
    → Stands row units lines (state.Failed GroupPastPage) repeats' line' part' left' (snoc sofar n)
count_past {row} {units} {lines} sofar n {left'} so_far past =
    let first : snoc sofar n ≡ n ∷ [] = ap (λ bs. bs ++ n ∷ []) so_far.at in
    record {
      at = omega (arith, ap length first);
      most = left';
      enough = omega arith;
      is = λ rest. ap (λ bs. group_at row units lines (bs ++ rest)) first
          ∙ ap (λ b. if b then Wrong 0 GroupPastPage else line_at row units units (front_of (n + 1) [] 1) rest) (lt-ltb lines (n + 1) past)
          ∙ ap (λ bs. Wrong (length bs - 1) GroupPastPage) (sym first);
    }

pub returns-then-self-repeats : goal.returns-then-self-repeats
returns-then-self-repeats c = record {
  form = refl;
  lines_left = refl;
  stands = λ sofar so_far. count_past sofar c.args.count
      (in_state c.args.self.now.line.items c.args.self.now.filled sofar c.requires so_far) (omega arith);
}
