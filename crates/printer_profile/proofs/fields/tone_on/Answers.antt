use Rattle.std.proofs.Common.{arith}
use Rattle.printer_profile.proofs.Curves.{good_rises}
use Rattle.printer_profile.proofs.fields.tone_on.Goals as goal

pub overflow_sub-tone : goal.overflow_sub-tone
overflow_sub-tone c =
    let rises = good_rises c.args.curve.now c.from-place.result c.requires (omega arith) in omega (arith, rises)
