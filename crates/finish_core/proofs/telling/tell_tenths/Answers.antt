use Rattle.std.proofs.Common.{◌≡◌, ◌+◌, ◌-◌, ◌++◌, ◌∙◌, List, ℕ, [], ap, arith, refl, sym}
use Rattle.std.specs.List.{flat_map}
use Rattle.base_definitions.specs.Counting.{count_from}
use Rattle.buffered_bytes.specs.Outside.{outside_of}
use Rattle.finish_core.proofs.Going.{tells_as, tells_both, tells_none}
use Rattle.finish_core.proofs.Lines.{lines_all, lines_none, lines_snoc}
use Rattle.page_tally.specs.Lines.{progress_line, tenths}
use Rattle.finish_core.proofs.telling.tell_tenths.Goals as goal

pub tenths-init : goal.tenths-init
tenths-init g c =
    let first = c.tenths-first.result in
    record {
      none = λ within. refl;
      tells = tells_as (outside_of g.E.Sink.held g.E.Sink.faults c.args.err.now c.args.err.now) [] _
          (sym (lines_none c.args.before.now first first refl))
          (tells_none (g.E.Sink.held c.args.err.now) (g.E.Sink.faults c.args.err.now) (g.E.Sink.faults c.args.err.now));
      later = omega arith;
    }

pub tenths-preserved : goal.tenths-preserved
tenths-preserved g c =
    let t = c.args.before.now in
    let first = c.tenths-first.result in
    let tenth = c.tenths.tenth in
    let so_far : List ℕ = flat_map (progress_line t) (count_from (first + 1) (tenth - first)) in
    let line : c.as_bytes.result.now ≡ progress_line t (tenth + 1) = c.as_bytes.ensures.value ∙ c.deref.ensures.0 ∙ c.progress_line.ensures in
    record {
      none = λ within. absurd (omega (arith, c.tenths-test.true, c.tenths.auto.tenth, within));
      tells = tells_as (outside_of g.E.Sink.held g.E.Sink.faults c.args.err.now c.tell_line.new.err) (so_far ++ c.as_bytes.result.now) _
          (ap (λ bs. so_far ++ bs) line ∙ lines_snoc t first tenth c.tenths.auto.tenth)
          (tells_both (g.E.Sink.held c.args.err.now) (g.E.Sink.held c.tenths.err) (g.E.Sink.held c.tell_line.new.err)
          (g.E.Sink.faults c.args.err.now) (g.E.Sink.faults c.tenths.err) (g.E.Sink.faults c.tell_line.new.err) so_far c.as_bytes.result.now
          c.tenths.invariant.later c.tell_line.ensures.later c.tenths.invariant.tells c.tell_line.ensures.tells);
      later = omega (arith, c.tenths.invariant.later, c.tell_line.ensures.later);
    }

pub returns-clause-tells : goal.returns-clause-tells
returns-clause-tells g c =
    let t = c.args.before.now in
    let first = c.tenths-first.result in
    let last = c.tenths-tenth-end.result in
    let tenth = c.tenths.tenth in
    let many : tenth - first ≡ last - first =
    lines_all first last tenth c.tenths.invariant.none c.tenths.auto.tenth-end c.tenths-test.false in
    tells_as (outside_of g.E.Sink.held g.E.Sink.faults c.args.err.now c.tenths.err)
    (flat_map (progress_line t) (count_from (first + 1) (tenth - first))) _
    (ap (λ n. flat_map (progress_line t) (count_from (first + 1) n)) many
    ∙ ap (λ n. flat_map (progress_line t) (count_from (n + 1) (last - n))) c.tenths-first.ensures.is
    ∙ ap (λ n. flat_map (progress_line t) (count_from (tenths t + 1) (n - tenths t))) c.tenths-tenth-end.ensures.is)
    c.tenths.invariant.tells
