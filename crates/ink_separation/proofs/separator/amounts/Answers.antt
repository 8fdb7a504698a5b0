use Rattle.ink_separation.proofs.separator.amounts.Goals as goal

pub returns : goal.returns
returns c = c.separate.ensures.separated c.args.p.now c.args.kind c.args.w c.make.ensures
