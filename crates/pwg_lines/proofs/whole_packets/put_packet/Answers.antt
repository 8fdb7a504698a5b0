use Rattle.std.proofs.Common.{◌≡◌, ℕ, ◌+◌, ◌-◌, ◌*◌, ◌≤◌, ◌∷◌, ◌++◌, List, drop, length, take, refl, sym, ◌∙◌, ap, arith, subst}
use Rattle.std.proofs.Common.{length-drop}
use Rattle.std.proofs.Math.Nat.{mul-le-mul_right}
use Rattle.std.proofs.lemmas.List.{length-take-le, take-take}
use Rattle.pwg_definitions.specs.Groups.{copies}
use Rattle.pwg_definitions.specs.Header.{row_of}
use Rattle.pwg_lines.specs.States.{Reads, block_units}
use Rattle.pwg_lines.proofs.WholePackets.{copies_front, first_and, literal_reads, put_front, run_reads, fewer_within, units_fewer}
use Rattle.pwg_lines.proofs.whole_packets.put_packet.Goals as goal

pub returns-then-first-lt128-clause-reads : goal.returns-then-first-lt128-clause-reads
returns-then-first-lt128-clause-reads c =
    let unit : ℕ = (row_of c.args.kind).unit in
    let many : ℕ = block_units c.args.kind in
    let n : ℕ = c.from-units.result in
    let after : List ℕ = drop 1 c.args.piece.now in
    let bytes : List ℕ = take c.unit-unit.result after in
    let few : n + 1 ≤ many = omega (arith, c.block_units.ensures) in
    let sized : length bytes ≡ unit =
    length-take-le c.unit-unit.result after (omega (arith, length-drop 1 c.args.piece.now, c.unit-unit.ensures.few))
    ∙ c.unit-unit.ensures.value in
    let one : take unit (take (length c.args.piece.now - 1) after) ≡ bytes =
    take-take unit (length c.args.piece.now - 1) after (omega (arith, c.unit-unit.ensures.value, c.unit-unit.ensures.few))
    ∙ ap (λ k. take k after) (sym c.unit-unit.ensures.value) in
    let spelled : take (1 + c.unit-unit.result) c.args.piece.now ≡ n ∷ bytes =
    first_and c.args.piece.now c.unit-unit.result (omega arith) ∙ ap (λ b. b ∷ bytes) (sym c.from-units.ensures) in
    let put : take (c.args.filled + (n + 1) * unit) c.put_copies.new.line ≡ take c.args.filled c.args.line.now ++ copies (n + 1) bytes =
    put_front c.args.filled (many * unit) ((n + 1) * unit) c.args.line.now c.put_copies.new.line _ (omega arith) c.put_copies.ensures
    (mul-le-mul_right unit few)
    ∙ ap (λ bs. take c.args.filled c.args.line.now ++ take ((n + 1) * unit) (copies many bs)) one
    ∙ ap (λ bs. take c.args.filled c.args.line.now ++ bs) (copies_front (n + 1) many unit bytes few sized) in
    let P : List ℕ → Type 0 = Reads unit c.args.left (c.args.left - (n + 1)) (take c.args.filled c.args.line.now)
    (take (c.args.filled + (n + 1) * unit) c.put_copies.new.line) in
    subst P (sym spelled)
    (run_reads n bytes (omega arith)
    (units_fewer (n + 1) c.args.left unit 64 (fewer_within (n + 1) c.args.kind few) (omega arith))
    refl (omega (arith, c.unit-unit.ensures.value, c.unit-unit.ensures.some)) sized put)

pub returns-clause-reads : goal.returns-clause-reads
returns-clause-reads c =
    let unit : ℕ = (row_of c.args.kind).unit in
    let n : ℕ = c.from-units-2.result in
    let units : ℕ = 257 - n in
    let count : ℕ = units * c.unit-unit.result in
    let after : List ℕ = drop 1 c.args.piece.now in
    let bytes : List ℕ = take count after in
    let count_is : count ≡ units * unit = ap (λ k. units * k) c.unit-unit.ensures.value in
    let sized : length bytes ≡ units * unit =
    length-take-le count after (omega (arith, length-drop 1 c.args.piece.now)) ∙ count_is in
    let spelled : take (1 + count) c.args.piece.now ≡ n ∷ bytes =
    first_and c.args.piece.now count (omega arith) ∙ ap (λ b. b ∷ bytes) (sym c.from-units-2.ensures) in
    let put : take (c.args.filled + units * unit) c.put_bytes.new.line ≡ take c.args.filled c.args.line.now ++ bytes =
    ap (λ k. take (c.args.filled + k) c.put_bytes.new.line) (sym count_is) ∙ c.put_bytes.ensures
    ∙ ap (λ bs. take c.args.filled c.args.line.now ++ bs)
    (take-take count (length c.args.piece.now - 1) after (omega arith)) in
    let P : List ℕ → Type 0 = Reads unit c.args.left (c.args.left - units) (take c.args.filled c.args.line.now)
    (take (c.args.filled + units * unit) c.put_bytes.new.line) in
    subst P (sym spelled)
    (literal_reads n bytes (omega arith)
    (omega (arith, c.from-units-2.ensures, (c.type_inv.piece 0).fits))
    (units_fewer units c.args.left unit count (omega (arith, count_is)) (omega arith))
    refl (omega (arith, c.unit-unit.ensures.value, c.unit-unit.ensures.some)) sized put)
