-- The passes of an example.
use Rattle.std.specs.Prelude.{[], ◌∷◌, Some}
use Rattle.board_steps.specs.declared.rule.View.{View}
use Rattle.board_steps.specs.declared.rule.Slab.{Slab}
use Rattle.board_steps.specs.Rule.{first_view}

-- pass 0, which has posted tiles 0 and 1, and holds tile 4
abbrev pub holder : Slab → View
holder b = record (first_view b) { held = Some 4; mine = (1, 0) ∷ (0, 0) ∷ []; parts = 255 }

-- pass 2, which has posted tiles 2 and 3
abbrev pub poster : Slab → View
poster b = record (first_view b) { number = 2; made = 0; mine = (3, 2) ∷ (2, 2) ∷ []; parts = 1 }
