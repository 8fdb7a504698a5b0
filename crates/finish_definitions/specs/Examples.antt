-- Worked jobs that were cut.
use Rattle.std.specs.Prelude.{ℕ, List, [], ◌∷◌, map, take}
use Rattle.escp2_laws.specs.Examples.{listing}
use Rattle.finish_definitions.specs.Finished.{page_state}
use Rattle.finish_definitions.specs.declared.state.PageState.{PageState}

-- the states of a job of 92 bytes and one page, cut behind these numbers of bytes
abbrev pub states_at : List ℕ → List PageState
states_at places = map (λ n. page_state (take n listing)) places

-- a form feed
abbrev pub form_feed : List ℕ
form_feed = 0x0C ∷ []

-- a reset
abbrev pub reset : List ℕ
reset = 0x1B ∷ 0x40 ∷ []
