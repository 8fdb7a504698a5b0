use Rattle.std.proofs.Common.{ℕ, List, ◌++◌, drop, replicate, ◌∙◌, ap}
use Rattle.pwg_definitions.specs.Header.{pwg_raster}
use Rattle.pwg_header.proofs.writing.begin.Goals as goal

pub returns : goal.returns
returns c =
    ap (λ (text : List ℕ). text ++ drop 10 c.fill.new.self) c.copy_from_slice.ensures.after
    ∙ ap (λ (zeros : List ℕ). pwg_raster ++ drop 10 zeros) (c.fill.ensures.after (λ y e. e) ∙ ap (λ (n : ℕ). replicate n 0) c.told-out)
