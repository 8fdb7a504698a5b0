use Rattle.grain_laws.proofs.Means.{mean_kept}
use Rattle.grain_laws.proofs.laws.mean_is_kept.Goals as goal

pub returns : goal.returns
returns c = λ grain limit a x y ink step few. mean_kept grain limit a x y ink step few
