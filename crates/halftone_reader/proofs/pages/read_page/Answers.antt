use Rattle.std.proofs.Common.{◌≡◌, ap, arith, false, inl, inr, sym, true, ◌∙◌, Err, Option}
use Rattle.std.proofs.lemmas.Result.{err_from_is_err_and}
use Rattle.wavefront_team.specs.SoFar.{dots_in}
use Rattle.grained_rows.specs.declared.grain.InkGrain.{InkGrain}
use Rattle.page_halftoner.proofs.Lines.{at_top, own_grain}
use Rattle.page_halftoner.specs.Halftones.{IsFull, joined}
use Rattle.pwg_definitions.specs.declared.pages.PageForm.{PageForm}
use Rattle.separation_definitions.specs.Windows.{wanted_by}
use Rattle.halftone_reader.specs.SoFar.{HalftonedSoFar, begun}
use Rattle.halftone_reader.specs.declared.pages.HalftonedPage.{HalftonedPage}
use Rattle.halftone_reader.proofs.PageSteps.{same_input}
use Rattle.pwg_stream.proofs.Taken.{same_error}
use Rattle.pwg_stream.specs.declared.stops.StreamStop.TheVariants as stop
use Rattle.halftone_reader.proofs.HalftoneSteps.{begun-wanted, so_far_begin, so_far_end}
use Rattle.halftone_reader.proofs.SlabReads.{room_still, spare_still}
use Rattle.halftone_reader.proofs.pages.read_page.Goals as goal
use Rattle.halftone_reader.proofs.pages.read_page.Goals.{After-fill}

pub begin-requires-clause-wanted : goal.begin-requires-clause-wanted
begin-requires-clause-wanted g c =
    let begins = rw (c.in-Some.is, c.wanted.ensures) at c.in_ok-form.ensures.page in
    begun-wanted (wanted_by c.args.profile.now) c.args.reader.now c.next_page.new.self _ _ c.in-Some.form begins

pub begin-requires-2-clause-wanted : goal.begin-requires-2-clause-wanted
begin-requires-2-clause-wanted g c =
    let begins = rw (c.in-Some.is, c.wanted.ensures) at c.in_ok-form.ensures.page in
    begun-wanted (wanted_by c.args.profile.now) c.args.reader.now c.next_page.new.self _ _ c.in-Some.form begins

pub returns-in_err-form-clause-taken : goal.returns-in_err-form-clause-taken
returns-in_err-form-clause-taken g c = λ is.
    let error = err_from_is_err_and c.from_residual.result c.from_residual.ensures.1 in
    rw c.wanted.ensures at
    (c.in_err-form.ensures.taken c.requires.between.going (ap Err (sym error.2 ∙ same_error (sym error.1 ∙ is))))

pub returns-in_err-spare-clause-taken : goal.returns-in_err-spare-clause-taken
returns-in_err-spare-clause-taken g c = λ is.
    let error = err_from_is_err_and c.from_residual-in_err-spare.result c.from_residual-in_err-spare.ensures.1 in
    absurd (let never : stop.Memory ≡ stop.Read = sym error.2 ∙ same_error (sym error.1 ∙ is) in cc)

-- no line of the page has come
started : (g : _) (c : After-fill g)
    → HalftonedSoFar (begun c.args.profile.now c.args.kernel c.args.grain c.in-Some.form c.args.reader.now
    (g.S.Source.left c.args.source.now))
    c.next_page.new.self (g.S.Source.left c.next_page.new.source) c.in_ok-filler.filler c.in_ok-diffuser.diffuser
started g c =
    let begins = rw (c.in-Some.is, c.wanted.ensures) at c.in_ok-form.ensures.page in
    so_far_begin _ c.next_page.new.self (g.S.Source.left c.next_page.new.source) c.in_ok-filler.filler c.in_ok-diffuser.diffuser begins
    c.requires.unended c.in_ok-form.ensures.going c.in_ok-filler.ensures.page c.in_ok-diffuser.ensures.kernel
    (ap (λ (gr : InkGrain). gr.grain) c.in_ok-diffuser.ensures.grain) c.in_ok-filler.ensures.none.0
    (at_top (joined c.in_ok-filler.filler c.in_ok-diffuser.diffuser) c.in_ok-filler.ensures.none.0 c.in_ok-filler.ensures.none.1
    (own_grain _ _ _ _ c.in_ok-filler.ensures.page.0 c.in_ok-diffuser.ensures.grain) c.in_ok-diffuser.ensures.top c.in_ok-diffuser.ensures.blank)

pub returns-in_err-fill-clause-input : goal.returns-in_err-fill-clause-input
returns-in_err-fill-clause-input g c =
    let start = started g (goal.at.returns-in_err-fill-clause-input g c).After-fill in
    let error = err_from_is_err_and c.from_residual-in_err-fill.result c.from_residual-in_err-fill.ensures.1 in
    rw (error.1, error.2)
    (same_input (Option HalftonedPage) (Unit {0}) c.in_err-fill.field-0.0 _ ((c.in_err-fill.ensures.fills.reads _).input _ start))

pub returns-in_err-fill-clause-place : goal.returns-in_err-fill-clause-place
returns-in_err-fill-clause-place g c =
    let start = started g (goal.at.returns-in_err-fill-clause-place g c).After-fill in
    let error = err_from_is_err_and c.from_residual-in_err-fill.result c.from_residual-in_err-fill.ensures.1 in
    rw (error.1, error.2)
    (same_input (Option HalftonedPage) (Unit {0}) c.in_err-fill.field-0.0 _ ((c.in_err-fill.ensures.fills.reads _).place _ start))

pub returns-in_err-fill-clause-read : goal.returns-in_err-fill-clause-read
returns-in_err-fill-clause-read g c = λ is.
    let error = err_from_is_err_and c.from_residual-in_err-fill.result c.from_residual-in_err-fill.ensures.1 in
    let rose = c.in_err-fill.ensures.read (ap Err (sym error.2 ∙ same_error (sym error.1 ∙ is))) in
    omega (arith, rose, c.next_page.ensures.later)

pub returns-in_err-fill-clause-taken : goal.returns-in_err-fill-clause-taken
returns-in_err-fill-clause-taken g c = λ is.
    let start = started g (goal.at.returns-in_err-fill-clause-taken g c).After-fill in
    let error = err_from_is_err_and c.from_residual-in_err-fill.result c.from_residual-in_err-fill.ensures.1 in
    (c.in_err-fill.ensures.fills.reads _).taken _ start (ap Err (sym error.2 ∙ same_error (sym error.1 ∙ is)))

pub returns-in_err-fill-clause-used : goal.returns-in_err-fill-clause-used
returns-in_err-fill-clause-used g c =
    (c.in_err-fill.ensures.fills.reads _).used _ (started g (goal.at.returns-in_err-fill-clause-used g c).After-fill)

pub slabs-init : goal.slabs-init
slabs-init g c =
    let fills = c.in_ok-fill.ensures.fills in
    record {
      page = (fills.reads _).more _ (started g (goal.at.slabs-init g c).After-fill);
      done = fills.done;
      room = c.in_ok-diffuser.ensures.room;
      spare = spare_still c.in_ok-filler.filler c.fill.new.filler fills.same c.in_ok-spare.spare c.in_ok-spare.ensures.spare;
      later = omega (arith, c.next_page.ensures.later, c.fill.ensures.later);
    }

pub returns-in_err-next_slab-clause-input : goal.returns-in_err-next_slab-clause-input
returns-in_err-next_slab-clause-input g c =
    let error = err_from_is_err_and c.from_residual-in_err-next_slab.result c.from_residual-in_err-next_slab.ensures.1 in
    rw (error.1, error.2)
    (same_input (Option HalftonedPage) (Unit {0}) c.in_err-next_slab.field-0.0 _ (c.in_err-next_slab.ensures.reads.input _ c.slabs.invariant.page))

pub returns-in_err-next_slab-clause-place : goal.returns-in_err-next_slab-clause-place
returns-in_err-next_slab-clause-place g c =
    let error = err_from_is_err_and c.from_residual-in_err-next_slab.result c.from_residual-in_err-next_slab.ensures.1 in
    rw (error.1, error.2)
    (same_input (Option HalftonedPage) (Unit {0}) c.in_err-next_slab.field-0.0 _ (c.in_err-next_slab.ensures.reads.place _ c.slabs.invariant.page))

pub returns-in_err-next_slab-clause-read : goal.returns-in_err-next_slab-clause-read
returns-in_err-next_slab-clause-read g c = λ is.
    let error = err_from_is_err_and c.from_residual-in_err-next_slab.result c.from_residual-in_err-next_slab.ensures.1 in
    let rose = c.in_err-next_slab.ensures.read (ap Err (sym error.2 ∙ same_error (sym error.1 ∙ is))) in
    omega (arith, rose, c.slabs.invariant.later)

pub returns-in_err-next_slab-clause-taken : goal.returns-in_err-next_slab-clause-taken
returns-in_err-next_slab-clause-taken g c = λ is.
    let error = err_from_is_err_and c.from_residual-in_err-next_slab.result c.from_residual-in_err-next_slab.ensures.1 in
    c.in_err-next_slab.ensures.reads.taken _ c.slabs.invariant.page (ap Err (sym error.2 ∙ same_error (sym error.1 ∙ is)))

pub returns-in_err-next_slab-clause-used : goal.returns-in_err-next_slab-clause-used
returns-in_err-next_slab-clause-used g c =
    c.in_err-next_slab.ensures.reads.used _ c.slabs.invariant.page

pub slabs-preserved : goal.slabs-preserved
slabs-preserved g c =
    let v = c.slabs.invariant in
    let next = c.in_ok-next_slab.ensures in
    record {
      page = next.reads.more _ v.page;
      done = next.done;
      room = room_still c.in-Some.form c.args.profile.now (dots_in c.slabs.diffuser.dots) (dots_in c.next_slab.new.diffuser.dots) next.size v.room;
      spare = next.spare;
      later = omega (arith, v.later, c.next_slab.ensures.later);
    }

pub returns-clause-page : goal.returns-clause-page
returns-clause-page g c =
    let v = c.slabs.invariant in
    let whole : IsFull c.slabs.filler → ⊥ = λ full.
    let never : true ≡ false = sym (c.is_full.ensures.full.1 full) ∙ c.slabs-test.false in cc in
    let all : c.slabs.filler.count ≡ c.slabs.filler.form.height = elim v.done [
      | inl full ↦ absurd (whole full)
      | inr is ↦ is
    ] in
    so_far_end _ c.slabs.reader (g.S.Source.left c.slabs.source) c.slabs.filler c.slabs.diffuser c.finish-planes.result
    v.page c.is_full.ensures.rows whole all v.room c.finish-planes.ensures.size c.finish-planes.ensures.dots

pub returns-clause-between : goal.returns-clause-between
returns-clause-between g c =
    let v = c.slabs.invariant in
    let whole : IsFull c.slabs.filler → ⊥ = λ full.
    let never : true ≡ false = sym (c.is_full.ensures.full.1 full) ∙ c.slabs-test.false in cc in
    let all : c.slabs.filler.count ≡ c.slabs.filler.form.height = elim v.done [
      | inl full ↦ absurd (whole full)
      | inr is ↦ is
    ] in
    let height : c.slabs.filler.form.height ≡ c.in-Some.form.height = ap (λ (f : PageForm). f.height) v.page.form_is in
    record { whole = omega (arith, v.page.count, all, height); going = v.page.page.going }
