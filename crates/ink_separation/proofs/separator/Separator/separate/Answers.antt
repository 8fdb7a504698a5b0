use Rattle.std.proofs.Common.{◌≡◌, ℕ, ◌+◌, ◌-◌, ◌*◌, ◌/◌, arith, subst}
use Rattle.separation_definitions.specs.declared.window.Window.{Window}
use Rattle.ink_separation.specs.Separated.{Separates}
use Rattle.ink_separation.specs.Separators.{printer_in}
use Rattle.ink_separation.specs.declared.separator.Separator.{Separator}
use Rattle.ink_separation.proofs.Chunks.{fewer_bytes}
use Rattle.ink_separation.proofs.Columns.{HasColumns, columns_more}
use Rattle.ink_separation.proofs.Formulas.{separates_for}
use Rattle.ink_separation.proofs.separator.Separator.separate.Goals as goal

pub separate_part-requires-clause-pixels : goal.separate_part-requires-clause-pixels
separate_part-requires-clause-pixels c = grind (arith, fewer_bytes)

pub loop-n-preserved : goal.loop-n-preserved
loop-n-preserved c =
    let s : Separator = c.args.self.now in
    let w : Window = s.window in
    let e = c.separate_part.ensures in
    let next : 64 * c.loop-n.n + 64 ≡ 64 * (c.loop-n.n + 1) = omega arith in
    let Q : ℕ → Type 0 = λ n. HasColumns (printer_in s) s.kind c.args.line.now w.left c.args.at n c.args.out.now c.separate_part.new.out in
    subst Q next (columns_more (printer_in s) s.kind c.args.line.now w.left c.args.at (64 * c.loop-n.n) 64
    c.args.out.now c.loop-n.out c.separate_part.new.out c.loop-n.invariant e.size e.put e.beside e.others)

pub returns : goal.returns
returns c =
    let s : Separator = c.args.self.now in
    let w : Window = s.window in
    let e = c.separate_part-2.ensures in
    let x : ℕ = 64 * (w.width / 64) in
    let many : ℕ = w.width - x in
    let end : x + many ≡ w.width = omega arith in
    let whole : c.loop-n.n ≡ w.width / 64 = omega (arith, c.loop-n.auto.n-end, c.loop-n-test.false) in
    let Q : ℕ → Type 0 = λ n. HasColumns (printer_in s) s.kind c.args.line.now w.left c.args.at (64 * n) c.args.out.now c.loop-n.out in
    let all = columns_more (printer_in s) s.kind c.args.line.now w.left c.args.at x many
    c.args.out.now c.loop-n.out c.separate_part-2.new.out (subst Q whole c.loop-n.invariant) e.size
    e.put e.beside e.others in
    let part : Separates (printer_in s) s.kind c.args.line.now w c.args.at c.args.out.now c.separate_part-2.new.out = record {
      size = all.size;
      row = record { are = λ i ink at n low. all.row.are i ink at n (omega (arith, end)) };
      others = all.others;
    } in
    record {
      size = all.size;
      separated = λ p kind window is.
          separates_for p kind window s c.args.line.now c.args.at c.args.out.now c.separate_part-2.new.out is part;
    }
