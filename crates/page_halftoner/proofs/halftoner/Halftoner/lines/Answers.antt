use Rattle.std.proofs.Common.{◌≡◌, ◌∙◌, ◌++◌, ◌+◌, ◌-◌, List, ℕ, ap, append_assoc, arith, replicate, subst}
use Rattle.std.proofs.lemmas.List.{replicate-append-replicate}
use Rattle.page_halftoner.specs.Halftones.{StandsFor}
use Rattle.page_halftoner.proofs.halftoner.Halftoner.lines.Goals as goal

pub loop-left-preserved : goal.loop-left-preserved
loop-left-preserved g c =
    let v = c.loop-left.invariant in
    let next = c.in_ok-left.ensures in
    let line : List ℕ = c.args.line.now in
    let before : ℕ = c.args.repeats - c.loop-left.left in
    let taken : ℕ = c.in_ok-left.field-0 in
    record {
      page = record {
        profile = next.page.profile ∙ v.page.profile;
        form = next.page.form ∙ v.page.form;
        kernel = next.page.kernel ∙ v.page.kernel;
        grain = next.page.grain ∙ v.page.grain;
      };
      few = omega (arith, v.few);
      count = omega (arith, next.count, v.count, next.most);
      working = next.working;
      stands = λ lines stands.
          let Q : List (List ℕ) → Type 0 = λ ls. StandsFor c.put.new.self ls in
          let more : before + taken ≡ c.args.repeats - (c.loop-left.left - taken) = omega (arith, v.few, next.most) in
          subst Q (append_assoc lines (replicate before line) (replicate taken line)
          ∙ ap (λ (ls : List (List ℕ)). lines ++ ls) (replicate-append-replicate before taken line ∙ ap (λ n. replicate n line) more))
          (next.stands (lines ++ replicate before line) (v.stands lines stands));
    }
