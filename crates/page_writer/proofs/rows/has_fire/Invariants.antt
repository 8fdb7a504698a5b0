use Rattle.std.proofs.Common.{◌≡◌, ◌-◌, map}
use Rattle.std.specs.List.{list_any}
use Rattle.base_definitions.specs.Counting.{count_from}
use Rattle.page_writer.specs.Heads.{HeadStrokes}
use Rattle.page_writer.proofs.rows.has_fire.Given as goal

abbrev pub invariant-loop-nozzle : goal.invariant-loop-nozzle
invariant-loop-nozzle g l =
    let head : HeadStrokes = g.H.Head.strokes l.head in
    list_any (list_any (λ on. on)) (map (head.row l.planes l.stroke l.place) (count_from 0 head.nozzles))
    ≡ list_any (list_any (λ on. on))
    (map (head.row l.planes l.stroke l.place) (count_from l.nozzle (head.nozzles - l.nozzle)))
