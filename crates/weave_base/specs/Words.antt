-- The words of a command line.
use Rattle.std.specs.Prelude.{ℕ}

-- the most words that a command line may have: 2^31 - 1
abbrev pub most_words : ℕ
most_words = 2147483647
