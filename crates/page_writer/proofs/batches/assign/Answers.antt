use Rattle.std.proofs.Common.{◌∙◌, arith, length-set}
use Rattle.page_writer.proofs.Pieces.{each_at, each_step}
use Rattle.page_writer.proofs.batches.assign.Goals as goal

pub pieces-preserved : goal.pieces-preserved
pieces-preserved g c = record {
  many = length-set _ _ _ ∙ c.pieces.invariant.many;
  assigned = λ page roomy.
      let here = (each_at _ c.pieces.i c.index_mut.result.now (c.pieces.invariant.assigned page roomy) (omega arith) c.index_mut.ensures.value).0 in
      each_step _ _ _ _ _ (c.pieces.invariant.assigned page roomy)
      (λ k w other both. (both.0, λ low. both.1 (omega arith))) (
        record { own_is = here.own_is; many = here.many; room = here.room },
        λ low. record {
          roomy = record { own_is = here.own_is; many = here.many; room = here.room };
          first_is = c.bound-piece.ensures;
          end_is = c.bound-piece-in-pieces.ensures;
        },
      );
}

pub returns-clause-assigned : goal.returns-clause-assigned
returns-clause-assigned g c = λ page roomy. record {
  at = λ k d low. ((c.pieces.invariant.assigned page roomy).at k d low).1
      (omega (arith, low, c.pieces-test.false, c.len-i-end.ensures, c.pieces.invariant.many));
}
