use Rattle.std.proofs.Common.{◌≡◌, ◌∙◌, ◌<◌, List, arith, length, subst, sym}
use Rattle.std.proofs.lemmas.List.{take_at}
use Rattle.page_writer.specs.Heads.{HeadPage}
use Rattle.page_writer.specs.Pieces.{Each, IsAssigned, IsFilled}
use Rattle.page_writer.specs.declared.coder.Coder.{Coder}
use Rattle.page_writer.proofs.Pieces.{filled_of, ready_of}
use Rattle.page_writer.proofs.batches.code_beside.Goals as goal

pub run_beside-requires-clause-shares : goal.run_beside-requires-clause-shares
run_beside-requires-clause-shares g c κs within =
    let page : HeadPage = g.S.Strokes.page c.args.page.now in
    let P : List (Coder g.row.S.Denot) → Type 0 = λ coders.
    Each (λ k coder. IsAssigned page c.args.ahead.now.run k (g.S.Strokes.page coder.page.now) coder.piece) coders in
    let all = subst P (sym c.as_mut_slice.ensures.value) (c.assign.ensures.assigned page c.requires.ahead_room) in
    λ k d low. ready_of c.requires.page c.requires.ahead_low (all.at k d low)

pub returns-clause-ahead_filled : goal.returns-clause-ahead_filled
returns-clause-ahead_filled g c =
    let page : HeadPage = g.S.Strokes.page c.args.page.now in
    let P : List (Coder g.row.S.Denot) → Type 0 = λ coders.
    Each (λ k coder. IsAssigned page c.args.ahead.now.run k (g.S.Strokes.page coder.page.now) coder.piece) coders in
    let Q : List (Coder g.row.S.Denot) → Type 0 = λ coders.
    Each (λ k coder. IsFilled page c.args.ahead.now.run k (g.S.Strokes.page coder.page.now) coder.piece) coders in
    let all = subst P (sym c.as_mut_slice.ensures.value) (c.assign.ensures.assigned page c.requires.ahead_room) in
    let same : length c.run_beside.new.shares ≡ length c.as_mut_slice.result.now = c.run_beside.ensures.shares.same in
    let each = c.run_beside.ensures.shares.each in
    subst Q (sym (take_at c.run_beside.new.shares _ c.assign.new.coders.len (same ∙ c.as_mut_slice.ensures.len)))
    (record {
      at = λ k d low. let before : k < length c.as_mut_slice.result.now = omega (arith, low, same) in
          filled_of (all.at k d before) (each k d before).0 (each k d before).1;
    })
