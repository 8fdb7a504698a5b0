use Rattle.std.proofs.Common.{◌≡◌, ◌⊎◌, ◌+◌, ◌-◌, ◌<◌, ◌≤◌, ℕ, Bool, List, [], ◌∷◌, true, ap, arith, sym, subst, ◌∙◌}
use Rattle.dot_planes.specs.Tables.{AmountTable}
use Rattle.ink_separation.specs.Separated.{HasLine}
use Rattle.page_halftoner.specs.Slabs.{TakesLine}
use Rattle.raw_rows.specs.Raw.{table_of as amounts_of}
use Rattle.ink_separation.specs.Separators.{IsSeparatorOf}
use Rattle.printer_definitions.specs.Printer.{Printer}
use Rattle.pwg_definitions.specs.declared.pages.Kind.{Kind}
use Rattle.separation_definitions.specs.declared.window.Window.{Window}
use Rattle.page_halftoner.specs.Halftones.{EndsWith, Filling, IsFull, PutsLines, filled}
use Rattle.page_halftoner.specs.Kept.{IsFilling, filling, window_in}
use Rattle.page_halftoner.specs.declared.filler.Filler.TheInside.{Inside}
use Rattle.page_halftoner.proofs.Lines.{IsNextRow, after, ends_with, in_margin, in_slab}
use Rattle.page_halftoner.proofs.filler.Filler.put_once.Goals as goal

-- The line is the next row.
next_row : (inside : Inside) (w : Window) (line : List ℕ) (again : Bool) (y : ℕ) (slab : AmountTable) → IsFilling inside
    → w ≡ window_in inside → w.top + y ≡ inside.count → y < w.height → (again ≡ true → EndsWith (filling inside) line)
    → (IsFull (filling inside) → ⊥)
    → ((p : Printer) (kind : Kind) (win : Window) → IsSeparatorOf p kind win inside.slab.separator
    → (again ≡ true → (n : ℕ) → y - inside.first ≡ n + 1 → HasLine p kind line win n (amounts_of inside.slab))
    → TakesLine p kind line win (y - inside.first) (amounts_of inside.slab) slab)
    → IsNextRow (filling inside) line y slab
next_row inside w line again y slab v same place low last room takes =
    let here : (window_in inside).top + y ≡ inside.count = ap (λ (win : Window). win.top + y) (sym same) ∙ place in
    let in_window : y < (window_in inside).height = omega (arith, low, ap (λ (win : Window). win.height) same) in
    let before : filled (filling inside) ≡ y - inside.first = omega (arith, here, in_window) in
    record {
      place = here;
      inside = in_window;
      takes = takes inside.profile inside.form.kind (window_in inside) v.separator
          (λ repeated n is. (last repeated).last n (before ∙ is));
      from = omega (arith, here, in_window, v.rows.from);
      room = omega (arith, here, in_window, v.rows.room, room);
      rows = v.rows;
    }

pub returns-in_default-clause-lines : goal.returns-in_default-clause-lines
returns-in_default-clause-lines c =
    let f : Filling = filling c.self.inside in
    let line : List ℕ = c.args.line.now in
    let P : Filling → Type 0 = λ g. PutsLines g (after f f.slab) (line ∷ []) in
    let R : Window → Type 0 = λ w. (f.count < w.top) ⊎ (w.top + w.height ≤ f.count) in
    subst P c.self.view_is (in_margin f line
    (subst R c.self.invariant.window_is c.in_default.ensures.margin))

pub returns-clause-last : goal.returns-clause-last
returns-clause-last c =
    let f : Filling = filling c.self.inside in
    let line : List ℕ = c.args.line.now in
    let L : Filling → Type 0 = λ g. EndsWith g line in
    let F : Filling → Type 0 = λ g. IsFull g → ⊥ in
    ends_with f line c.in-Some.y (amounts_of c.put_line.new.slab)
    (next_row c.self.inside c.self.inside.window line c.args.again c.in-Some.y (amounts_of c.put_line.new.slab) c.self.invariant
    c.self.invariant.window_is c.in-Some.ensures.row.0 c.in-Some.ensures.row.1
    (λ again. subst L (sym c.self.view_is) (c.requires.again again)) (subst F (sym c.self.view_is) c.requires.room)
    c.put_line.ensures.takes)

pub returns-clause-lines : goal.returns-clause-lines
returns-clause-lines c =
    let f : Filling = filling c.self.inside in
    let line : List ℕ = c.args.line.now in
    let L : Filling → Type 0 = λ g. EndsWith g line in
    let F : Filling → Type 0 = λ g. IsFull g → ⊥ in
    let P : Filling → Type 0 = λ g. PutsLines g (after f (amounts_of c.put_line.new.slab)) (line ∷ []) in
    subst P c.self.view_is (in_slab f line c.in-Some.y (amounts_of c.put_line.new.slab)
    (next_row c.self.inside c.self.inside.window line c.args.again c.in-Some.y (amounts_of c.put_line.new.slab) c.self.invariant
    c.self.invariant.window_is c.in-Some.ensures.row.0 c.in-Some.ensures.row.1
    (λ again. subst L (sym c.self.view_is) (c.requires.again again)) (subst F (sym c.self.view_is) c.requires.room)
    c.put_line.ensures.takes))
