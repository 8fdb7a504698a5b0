use Rattle.std.proofs.Common.{◌≡◌, ◌⊎◌, ◌∙◌, ◌+◌, ◌-◌, ℕ, List, Some, true, false, ap, arith, inl, inr, replicate, subst, sym}
use Rattle.std.proofs.lemmas.Bool.{cases_lt}
use Rattle.std.proofs.lemmas.Result.{err_from_is_err_and}
use Rattle.page_halftoner.specs.Halftones.{Filling, IsFull, PutsLines}
use Rattle.pwg_definitions.specs.declared.pages.PageForm.{PageForm}
use Rattle.pwg_stream.specs.Reading.{lines_left_of}
use Rattle.halftone_reader.proofs.HalftoneSteps.{so_far_group, so_far_placed}
use Rattle.halftone_reader.proofs.SlabReads.{fills_err, fills_ok}
use Rattle.halftone_reader.proofs.slabs.fill.Goals as goal

pub groups-init : goal.groups-init
groups-init g c =
    let f : Filling = c.args.filler.now in
    let h : Filling = c.put.new.self in
    let told = c.put.ensures in
    let height : h.form.height ≡ f.form.height = ap (λ (form : PageForm). form.height) told.page.form in
    let L : List ℕ → Type 0 = λ line. PutsLines f h (replicate c.put.result line) in
    record {
      same = told.page;
      form = c.requires.form_is ∙ ap Some (sym told.page.form);
      going = c.requires.going;
      given = omega (arith, c.lines_left.ensures, c.lines_left-2.ensures, told.most, told.count, height, c.requires.given);
      placed = elim (cases_lt c.put.result (c.lines_left.result - c.lines_left-2.result)) [
        | inl less ↦ inl (told.full less)
        | inr all ↦
            inr (omega (arith, c.lines_left.ensures, c.lines_left-2.ensures, told.most, told.count, height, c.requires.given))
      ];
      later = omega arith;
      more = λ b d so_far.
          let same : f.form.height ≡ b.form.height = ap (λ (form : PageForm). form.height) so_far.form_is in
          so_far_placed b c.args.reader.now (g.S.Source.left c.args.source.now) f h d c.put.result so_far
          (omega (arith, told.most, c.lines_left.ensures, c.lines_left-2.ensures, so_far.count, same))
          told.page told.count (subst L c.line.ensures.line told.lines);
    }

pub returns-in_err-repeats-clause-fills : goal.returns-in_err-repeats-clause-fills
returns-in_err-repeats-clause-fills g c =
    let error = err_from_is_err_and c.from_residual.result c.from_residual.ensures.1 in
    let v = c.groups.invariant in
    rw (error.1, error.2) (fills_err _ ℕ c.args.reader.now c.groups.reader c.next_line.new.self _ _ _ c.args.filler.now c.groups.filler
    c.in_err-repeats.field-0.0 v.same v.more (omega (arith, c.if-lines_left-gt0.true, c.lines_left-in-groups.ensures)) v.going
    c.in_err-repeats.ensures.input c.in_err-repeats.ensures.taken c.next_line.ensures.used)

pub groups-preserved : goal.groups-preserved
groups-preserved g c =
    let f : Filling = c.groups.filler in
    let h : Filling = c.put-in-groups.new.self in
    let v = c.groups.invariant in
    let told = c.put-in-groups.ensures in
    let gives = c.in_ok-repeats.ensures.lines in
    let height : h.form.height ≡ f.form.height = ap (λ (form : PageForm). form.height) told.page.form in
    let all : f.count + lines_left_of c.groups.reader ≡ f.form.height = elim v.placed [
      | inl full ↦ absurd (let never : true ≡ false = sym (c.is_full.ensures.full.1 full) ∙ c.groups-test.true in cc)
      | inr given ↦ given
    ] in
    let L : List ℕ → Type 0 = λ line. PutsLines f h (replicate c.put-in-groups.result line) in
    record {
      same = record {
        profile = told.page.profile ∙ v.same.profile;
        form = told.page.form ∙ v.same.form;
        first = told.page.first ∙ v.same.first;
        size = record {
          width = told.page.size.width ∙ v.same.size.width;
          rows = told.page.size.rows ∙ v.same.size.rows;
          inks = told.page.size.inks ∙ v.same.size.inks;
        };
      };
      form = gives.form_is ∙ v.form ∙ ap Some (sym told.page.form);
      going = c.in_ok-repeats.ensures.going;
      given = omega (arith, told.most, told.count, height, all, gives.fall);
      placed = elim (cases_lt c.put-in-groups.result c.in_ok-repeats.repeats) [
        | inl less ↦ inl (told.full less)
        | inr whole ↦ inr (omega (arith, told.most, told.count, height, all, gives.fall))
      ];
      later = omega (arith, v.later, c.next_line.ensures.later);
      more = λ b d so_far.
          let here = v.more b d so_far in
          let same : f.form.height ≡ b.form.height = ap (λ (form : PageForm). form.height) here.form_is in
          let next = so_far_group b c.groups.reader c.next_line.new.self _ _ f d c.in_ok-repeats.repeats here
          (omega (arith, here.count, same, all)) (omega (arith, c.if-lines_left-gt0.true, c.lines_left-in-groups.ensures))
          gives c.in_ok-repeats.ensures.going in
          so_far_placed b c.next_line.new.self (g.S.Source.left c.next_line.new.source) f h d c.put-in-groups.result next.0
          (omega (arith, told.most, next.1)) told.page told.count (subst L c.line-in-groups.ensures.line told.lines);
    }

pub returns-else-lines_left-gt0-clause-fills : goal.returns-else-lines_left-gt0-clause-fills
returns-else-lines_left-gt0-clause-fills g c =
    let v = c.groups.invariant in
    let none : lines_left_of c.groups.reader ≡ 0 = omega (arith, c.if-lines_left-gt0.false, c.lines_left-in-groups.ensures) in
    let done : (IsFull c.groups.filler) ⊎ (c.groups.filler.count ≡ c.groups.filler.form.height) = elim v.placed [
      | inl full ↦ inl full
      | inr given ↦ inr (omega arith)
    ] in
    fills_ok _ tt c.args.reader.now c.groups.reader _ _ c.args.filler.now c.groups.filler v.same v.more done

pub returns-after-groups-clause-fills : goal.returns-after-groups-clause-fills
returns-after-groups-clause-fills g c =
    let v = c.groups.invariant in
    fills_ok _ tt c.args.reader.now c.groups.reader _ _ c.args.filler.now c.groups.filler v.same v.more
    (inl (c.is_full.ensures.full.0 c.groups-test.false))
