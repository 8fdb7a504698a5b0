use Rattle.std.proofs.Common.{◌+◌, ◌∷◌, ◌++◌, [], ℕ, List, cond, Vec, Global, sym, subst, ap, ◌∙◌, arith}
use Rattle.dead_nozzles.proofs.MakeUp.{Maker, maker-of}
use Rattle.dead_nozzles.proofs.Scanning.{Scan}
use Rattle.dead_nozzles.proofs.Strokes.{scan-begin, scan-end, scan-step}
use Rattle.dead_nozzles.proofs.finding.find_starts.Goals.{then-begins+in-Ok, else-begins}
use Rattle.dead_nozzles.proofs.finding.find_starts.Goals as goal

-- the items of a vector
abbrev vec_items : Vec ℕ Global → List ℕ
vec_items v = v.items

pub begins-requires-clause-maker : goal.begins-requires-clause-maker
begins-requires-clause-maker c = (maker-of c.args.head.now c.least_live-maker.result c.requires.head (sym c.least_live-maker.ensures)).low

pub starts-init : goal.starts-init
starts-init c = grind (arith, Scan, maker-of, scan-begin)

pub starts-preserved : goal.starts-preserved
starts-preserved c =
    let m : Maker c.args.head.now c.least_live-maker.result =
    maker-of c.args.head.now c.least_live-maker.result c.requires.head (sym c.least_live-maker.ensures) in
    let S : List ℕ → Type 0 = Scan c.args.head.now c.least_live-maker.result (c.starts.start + 1) c.begins.new.owners in
    let step = scan-step c.args.head.now c.least_live-maker.result c.starts.start c.starts.owners c.begins.new.owners c.starts.starts.items
    c.begins.result m c.requires.head.some_nozzles (omega (arith, c.starts-test.true, c.head_rows.ensures.is, c.height.ensures.is))
    c.begins.ensures c.starts.invariant in
    elim c.if-begins.branch [
      | then-begins+in-Ok w ↦ subst S (sym (ap vec_items w.starts-is ∙ w.in-Ok.ensures.items))
          (subst (λ b. S (cond b (c.starts.starts.items ++ c.starts.start ∷ []) c.starts.starts.items)) w.if-begins.true step)
      | else-begins w ↦ subst S (sym (ap vec_items w.starts-is))
          (subst (λ b. S (cond b (c.starts.starts.items ++ c.starts.start ∷ []) c.starts.starts.items)) w.if-begins.false step)
    ]

pub returns : goal.returns
returns c =
    scan-end c.args.head.now c.least_live-maker.result c.starts.start c.starts.owners c.starts.starts.items c.requires.head
    c.head_rows.ensures.worn (omega (arith, c.starts-test.false, c.head_rows.ensures.is, c.height.ensures.is)) c.starts.invariant
