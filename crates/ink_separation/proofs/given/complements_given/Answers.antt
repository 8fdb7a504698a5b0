use Rattle.std.proofs.Common.{ℕ, arith}
use Rattle.std.proofs.lemmas.List.{get_or-replicate}
use Rattle.ink_separation.proofs.Inks.{complement_is, complements_are}
use Rattle.ink_separation.proofs.given.complements_given.Goals as goal

pub returns : goal.returns
returns c = complements_are c.args.pixels.now _ _ _ _ c.args.many c.requires.many (λ x low. get_or-replicate {A = ℕ} 64 x 0 0 low)
    (complement_is c.args.pixels.now _ _ _ c.args.many 0 (λ x. c.colours_of.ensures.first 0 x (omega arith))
    (λ x. c.colours_of.ensures.others 0 x (omega arith)) c.complement.ensures.first c.complement.ensures.others c.requires.many)
    (complement_is c.args.pixels.now _ _ _ c.args.many 1 (λ x. c.colours_of.ensures.first 1 x (omega arith))
    (λ x. c.colours_of.ensures.others 1 x (omega arith)) c.complement-2.ensures.first c.complement-2.ensures.others c.requires.many)
    (complement_is c.args.pixels.now _ _ _ c.args.many 2 (λ x. c.colours_of.ensures.first 2 x (omega arith))
    (λ x. c.colours_of.ensures.others 2 x (omega arith)) c.complement-3.ensures.first c.complement-3.ensures.others c.requires.many)
