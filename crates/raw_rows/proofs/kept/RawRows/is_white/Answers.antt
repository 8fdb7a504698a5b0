use Rattle.std.proofs.Common.{◌≡◌, arith, below_more, false, refl, rules, sym, true, ◌∙◌}
use Rattle.std.proofs.lemmas.Bool.{false≢true}
use Rattle.raw_rows.specs.Gathering.{IsWhiteRow}
use Rattle.raw_rows.proofs.kept.RawRows.is_white.Goals as goal

pub loop-r-preserved : goal.loop-r-preserved
loop-r-preserved c =
    let white : c.is_white_row.result ≡ true = search rules in
    below_more (λ r. IsWhiteRow c.args.self.now c.args.place r) c.loop-r.r c.loop-r.invariant (c.is_white_row.ensures.0 white)

pub returns-then-not-is_white_row : goal.returns-then-not-is_white_row
returns-then-not-is_white_row c =
    let ink : c.is_white_row.result ≡ false = search rules in
    (λ never. absurd (false≢true never), λ all. sym ink ∙ c.is_white_row.ensures.1 (all c.loop-r.r (omega arith)))

pub returns : goal.returns
returns c = (λ yes r low. c.loop-r.invariant r (omega arith), λ all. refl)
