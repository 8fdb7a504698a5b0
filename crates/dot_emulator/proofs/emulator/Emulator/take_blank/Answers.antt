use Rattle.std.proofs.Common.{sym, ◌∙◌}
use Rattle.dot_emulator.proofs.Running.{spare-taken}
use Rattle.dot_emulator.proofs.emulator.Emulator.take_blank.Goals as goal

pub returns-in-Some-clause-taken : goal.returns-in-Some-clause-taken
returns-in-Some-clause-taken c =
    spare-taken _ _ c.args.self.now.spare c.in-Some.spare (sym c.take.ensures.value ∙ c.in-Some.is)
    (c.has_rows.ensures c.if-has_rows.true) c.rows-rows.ensures
    c.args.self.now.spare_inks c.args.self.now.spare_width c.args.self.now.spare_blank
