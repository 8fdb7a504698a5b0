use Rattle.std.proofs.Common.{ℕ, List, ap, length, replicate, ◌∙◌, ◌≡◌, arith}
use Rattle.std.specs.Vec.{vec_len}
use Rattle.std.specs.List.{each_same}
use Rattle.dot_planes.proofs.tiles.TileBits.clear.Goals as goal

pub returns : goal.returns
returns c =
    let len : vec_len c.self.inside.inks ≡ length c.self.inside.inks.items = omega (arith, c.self.ranges) in
    c.fill.ensures.items (λ _ e. each_same _ _ e.whole)
    ∙ ap (λ n. replicate n (replicate {A = ℕ} 256 0)) len
    ∙ ap (λ (b : List (List ℕ)). replicate (length b) (replicate {A = ℕ} 256 0)) c.self.view_is
