use Rattle.std.proofs.Common.{ℕ, replicate, ap, ◌∙◌}
use Rattle.std.specs.List.{each_same}
use Rattle.dot_planes.proofs.PutTiles.{blank_bits}
use Rattle.dot_planes.proofs.tiles.TileBits.make.Goals as goal

pub returns-clause-bytes : goal.returns-clause-bytes
returns-clause-bytes c =
    c.in_ok-inks.ensures.items_if_clones_equal (λ _ e. each_same _ _ e.whole) ∙ ap (λ n. replicate n (replicate {A = ℕ} 256 0)) c.from.ensures

pub returns-clause-blank : goal.returns-clause-blank
returns-clause-blank c = record {
  at = λ ink row offset.
      blank_bits _ _ ink row offset (c.in_ok-inks.ensures.items_if_clones_equal (λ _ e. each_same _ _ e.whole));
}
