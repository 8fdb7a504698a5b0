use Rattle.std.proofs.lemmas.Grind.{common_steps}
use Rattle.std.proofs.Common.{◌≡◌, ℕ, List, ◌∙◌, ap, arith, get_or}
use Rattle.std.proofs.Math.Pow.{pow-lt}
use Rattle.std.proofs.lemmas.Nat.{pow_pos}
use Rattle.std.specs.Int.{w64, from_be_bytes, to_be_bytes}
use Rattle.base_definitions.specs.Packed.{bit_at}
use Rattle.dot_planes.proofs.Words.{moved_dot, moved_rest, moved_word}
use Rattle.dot_planes.proofs.tile_rows.moved_row.Goals as goal

bytes_are : (c : goal.After-to_be_bytes) → c.to_be_bytes.result
    ≡ to_be_bytes w64 (moved_word (from_be_bytes w64 c.args.dots.now) c.args.shift c.args.last)
bytes_are c = grind (arith, pow-lt)

pub returns-clause-pixels : goal.returns-clause-pixels
returns-clause-pixels c = λ n k offset few low inside here.
    ap (λ (bytes : List ℕ). bit_at (get_or bytes n 0) k) (bytes_are c)
    ∙ moved_dot c.args.dots.now c.args.shift c.args.last n k offset c.requires.dots (λ i. (c.type_inv.dots i).fits)
    (pow_pos c.args.shift) few low inside here

pub returns-clause-rest : goal.returns-clause-rest
returns-clause-rest c = grind (arith, common_steps, moved_rest)
