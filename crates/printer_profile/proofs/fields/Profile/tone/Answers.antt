use Rattle.std.proofs.Common.{get_or, [], ap, ◌∙◌}
use Rattle.printer_profile.specs.Validity.{is_curve}
use Rattle.printer_profile.proofs.CheckedProfiles.{curve_good}
use Rattle.printer_profile.proofs.fields.Profile.tone.Goals as goal

pub tone_on-requires : goal.tone_on-requires
tone_on-requires c =
    let good = curve_good c.args.self.now c.args.ink c.requires.checked c.requires.ink in
    ap (λ p. is_curve (get_or p.curves c.from.result [])) c.self.view_is ∙ ap (λ ink. is_curve (get_or c.args.self.now.curves ink [])) c.from.ensures ∙ good
