-- Whole commands with more bytes behind them.
use Rattle.std.proofs.Common.{◌≡◌, ℕ, List, ◌++◌, ◌∙◌, ap, append_assoc}
use Rattle.finish_definitions.proofs.WholeCommands.{whole-stays}
use Rattle.finish_definitions.specs.Finished.{whole_commands}

-- The whole commands of bytes stay, whatever follows.
pub whole_more : (bytes part rest : List ℕ) → bytes ≡ whole_commands bytes ++ part
    → whole_commands (bytes ++ rest) ≡ whole_commands bytes ++ whole_commands (part ++ rest)
whole_more bytes part rest is =
    ap (λ bs. whole_commands (bs ++ rest)) is ∙ ap whole_commands (append_assoc (whole_commands bytes) part rest)
    ∙ whole-stays bytes (part ++ rest)
