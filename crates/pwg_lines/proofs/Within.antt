-- What fits into the line of a reader.
use Rattle.std.proofs.Common.{◌≡◌, ℕ, ◌+◌, ◌*◌, ◌<◌, ◌≤◌, length, arith}
use Rattle.std.proofs.Math.Nat.{mul-le-mul_right}
use Rattle.pwg_definitions.specs.Header.{row_of}
use Rattle.pwg_lines.specs.declared.reader.LineReader.{LineReader}
use Rattle.pwg_lines.specs.declared.states.State.TheVariants as state

-- Within the unit of a run of `units` units, of which `read` bytes are read: the whole run fits the line.
pub record RunFits (reader : LineReader) (units read : ℕ) : Type 0 where
  pub some : 1 ≤ units
  pub part : read < (row_of reader.form.kind).unit
  pub one : reader.filled + (row_of reader.form.kind).unit ≤ length reader.line.items
  pub all : reader.filled + units * (row_of reader.form.kind).unit + reader.left * (row_of reader.form.kind).unit ≡ length reader.line.items

pub run_fits : (reader : LineReader) (units read : ℕ) → reader.state ≡ state.Run units read → RunFits reader units read
run_fits reader units read is = grind (arith, mul-le-mul_right)
