use Rattle.std.proofs.Common.{◌≡◌, ◌*◌, ◌/◌, ◌≤◌, ℕ, arith, refl}
use Rattle.std.proofs.Math.Nat.{le-div_iff_mul-le, mul-div-le, mul-le-mul_left, mul-le-mul_right}
use Rattle.page_writer.proofs.room.cut.Goals as goal

-- there is a stroke for each piece
some-each : (room pieces : ℕ) → 2 ≤ pieces → pieces ≤ room → 1 ≤ room / pieces
some-each room pieces some low = (le-div_iff_mul-le (omega arith)).1 (omega arith)

-- what so many strokes take
room-fits : (most room pieces each : ℕ) → room ≡ 4194304 / most → each ≤ room / pieces
    → 2 * (pieces * each * most) ≤ 8388608
room-fits most room pieces each is low =
    let strokes : pieces * each ≤ pieces * (room / pieces) = mul-le-mul_left pieces low in
    let all : pieces * each ≤ room = omega (arith, strokes, mul-div-le room pieces) in
    let bytes : pieces * each * most ≤ room * most = mul-le-mul_right most all in
    let within : most * (4194304 / most) ≤ 4194304 = mul-div-le 4194304 most in
    let whole : room * most ≤ 4194304 = rw is (omega (arith, within)) in
    omega (arith, bytes, whole)

pub returns : goal.returns
returns c =
    let room : ℕ = 4194304 / c.args.most in
    let low : c.min-pieces.result ≤ room = omega arith in
    let one : 1 ≤ room / c.min-pieces.result = some-each room c.min-pieces.result c.if-pieces-lt2.false low in
    let most : c.min-each.result ≤ room / c.min-pieces.result = omega arith in
    record {
      some = c.if-pieces-lt2.false;
      few = omega arith;
      each = omega (arith, one);
      room = room-fits c.args.most room c.min-pieces.result c.min-each.result refl most;
    }
