use Rattle.std.proofs.Common.{◌≡◌, ◌*◌, ◌+◌, false, ℕ, ap, arith, inl, inr, length, ◌∙◌}
use Rattle.std.proofs.lemmas.Bool.{cases_lt}
use Rattle.dot_planes.specs.Planes.{all_bytes, table_of}
use Rattle.dot_planes.specs.Tables.{row_at, row_dot, row_len}
use Rattle.dot_planes.specs.declared.planes.Planes.TheInside.{Inside}
use Rattle.dot_planes.proofs.PackedRows.{no_bit}
use Rattle.dot_planes.proofs.PutDots.{dot-in, dot-out}
use Rattle.dot_planes.proofs.RowBytes.{blank_row}
use Rattle.dot_planes.proofs.planes.Planes.make.Goals as goal

abbrev made : goal.In_ok-bytes → Inside
made c = record { width = c.args.width; rows = c.args.rows; inks = c.args.inks; bytes = c.in_ok-bytes.bytes }

turned : (a b d : ℕ) → a * b * d ≡ d * b * a
turned a b d = grind arith

-- no row has a dot
no_dot : (c : goal.In_ok-bytes) (n x : ℕ) → row_dot (row_at (row_len c.args.width) (all_bytes (made c)) n) x ≡ false
no_dot c n x = grind (arith, blank_row, no_bit)

pub returns-clause-blank : goal.returns-clause-blank
returns-clause-blank c = λ i y x. elim (cases_lt i c.args.inks) [
  | inl inside ↦ dot-in (table_of (made c)) i y x inside ∙ no_dot c (y * c.args.inks + i) x
  | inr past ↦ dot-out (table_of (made c)) i y x past
]

pub invariant_of-result : goal.invariant_of-result
invariant_of-result c = record {
  size = c.requires;
  there = 0;
  some = omega arith;
  len = let none : length c.in_ok-bytes.bytes.items ≡ 0 = ap length c.in_ok-bytes.ensures.items in omega (arith, none);
  room = let many : c.row_len.result * c.args.rows * c.from.result ≡ c.args.inks * c.args.rows * row_len c.args.width =
      ap (λ l. l * c.args.rows * c.from.result) c.row_len.ensures.is
      ∙ ap (λ n. row_len c.args.width * c.args.rows * n) c.from.ensures
      ∙ turned (row_len c.args.width) c.args.rows c.args.inks in
      omega (arith, many, c.in_ok-bytes.ensures.capacity);
  spare = λ n x low past. no_dot c n x;
}
