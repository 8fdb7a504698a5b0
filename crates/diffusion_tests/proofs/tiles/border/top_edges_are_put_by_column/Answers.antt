use Rattle.std.proofs.Common.{rules, ℤ, ◌<◌, List, arith, length, length-set, pos, negsuc, replicate, set}
use Rattle.std.proofs.lemmas.Int.{ints}
use Rattle.std.proofs.lemmas.List.{length-replicate}
use Rattle.diffusion_definitions.specs.Diffusion.{InRange}
use Rattle.tile_border.proofs.Zeros.{even_fits, set_fits, zero_fits}
use Rattle.diffusion_tests.proofs.tiles.border.top_edges_are_put_by_column.Goals as goal

five : InRange (pos 5)
five = record { low = omega (arith, ints); high = omega (arith, ints) }

less_seven : InRange (negsuc 6)
less_seven = record { low = omega (arith, ints); high = omega (arith, ints) }

pub put-requires : goal.put-requires
put-requires g c =
    let blank : List ℤ = replicate 128 (pos 0) in
    let first : List ℤ = set blank 58 (pos 5) in
    let room : 58 < length blank = omega (arith, length-replicate 128 (pos 0)) in
    let room2 : 127 < length first = omega (arith, length-set blank 58 (pos 5), length-replicate 128 (pos 0)) in
    let fits = set_fits first 127 (negsuc 6) room2 less_seven (set_fits blank 58 (pos 5) room five (even_fits 128 (pos 0) zero_fits)) in
    search rules
