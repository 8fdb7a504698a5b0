use Rattle.std.proofs.Common.{ℕ, ◌≡◌, ◌-◌, ◌*◌, ◌/◌, List, arith, drop, length, length-drop, length-take, rules, true}
use Rattle.raw_rows.proofs.WhiteLines.{more}
use Rattle.raw_rows.proofs.white.is_empty.Goals as goal

pub loop-n-preserved : goal.loop-n-preserved
loop-n-preserved c = λ k low.
    let white : c.are_empty.result ≡ true = search rules in
    more c.args.bytes.now 0 (64 * c.loop-n.n) 64 (omega arith) c.loop-n.invariant (c.are_empty.ensures.0 white) k (omega arith)

pub returns : goal.returns
returns c = λ white k low.
    let bytes : List ℕ = c.args.bytes.now in
    let n : ℕ = 64 * (length bytes / 64) in
    more bytes 0 n (length bytes - n) (omega arith) (λ q few. c.loop-n.invariant q (omega arith))
    (λ q few. c.are_empty-2.ensures.0 white q (omega (arith, length-take (length bytes - n) (drop n bytes), length-drop n bytes)))
    k (omega arith)
