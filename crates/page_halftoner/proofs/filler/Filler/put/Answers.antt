use Rattle.std.proofs.Common.{◌≡◌, ◌∙◌, ◌++◌, List, ℕ, append-nil, arith, refl, replicate, subst, sym}
use Rattle.page_halftoner.specs.Halftones.{PutsLines, StandsFor, joined}
use Rattle.page_halftoner.proofs.Lines.{repeats_more}
use Rattle.page_halftoner.proofs.filler.Filler.put.Goals as goal

pub loop-repeat-init : goal.loop-repeat-init
loop-repeat-init c = record {
  page = record { profile = refl; form = refl; first = refl; size = record { width = refl; rows = refl; inks = refl } };
  few = omega arith;
  count = omega arith;
  last = λ some. absurd (omega arith);
  lines = λ d lines stands.
      let Q : List (List ℕ) → Type 0 = λ ls. StandsFor (joined c.args.self.now d) ls in
      subst Q (sym (append-nil lines)) stands;
}

pub loop-repeat-preserved : goal.loop-repeat-preserved
loop-repeat-preserved c =
    let v = c.loop-repeat.invariant in
    let next = c.put_once.ensures in
    record {
      page = record {
        profile = next.page.profile ∙ v.page.profile;
        form = next.page.form ∙ v.page.form;
        first = next.page.first ∙ v.page.first;
        size = record {
          width = next.page.size.width ∙ v.page.size.width;
          rows = next.page.size.rows ∙ v.page.size.rows;
          inks = next.page.size.inks ∙ v.page.size.inks;
        };
      };
      few = omega arith;
      count = omega (arith, next.count, v.count);
      last = λ some. next.last;
      lines = λ d lines stands.
          let Q : List (List ℕ) → Type 0 = λ ls. StandsFor (joined c.put_once.new.self d) ls in
          subst Q (repeats_more lines c.loop-repeat.repeat c.args.line.now)
          (next.lines d (lines ++ replicate c.loop-repeat.repeat c.args.line.now) (v.lines d lines stands));
    }

pub returns-clause-lines : goal.returns-clause-lines
returns-clause-lines c =
    let all : c.loop-repeat.repeat ≡ c.args.repeats = omega arith in
    let Q : ℕ → Type 0 = λ n. PutsLines c.args.self.now c.loop-repeat.self (replicate n c.args.line.now) in
    subst Q all c.loop-repeat.invariant.lines
