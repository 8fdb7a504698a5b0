-- A page that is read and halftoned, group by group and slab by slab.
use Rattle.std.proofs.Common.{◌≡◌, ℕ, ◌+◌, ◌-◌, ◌<◌, ◌≤◌, List, [], ◌++◌, replicate, Option, None, false, refl, ◌∙◌, ap}
use Rattle.std.proofs.Common.{append-nil, append_assoc, arith, subst, sym}
use Rattle.std.proofs.lemmas.List.{replicate-append-replicate}
use Rattle.grained_rows.specs.declared.grain.InkGrain.{InkGrain}
use Rattle.page_halftoner.specs.Screenings.{screening_of}
use Rattle.diffusion_kernel.specs.declared.tables.Kernel.{Kernel}
use Rattle.dot_planes.specs.Tables.{DotTable, HasSizeOf, dot}
use Rattle.wavefront_team.specs.SoFar.{dots_in}
use Rattle.page_definitions.specs.Dots.{HasDots, halftone}
use Rattle.page_halftoner.proofs.Lines.{IsDone, all_diffused, slab_full, whole_page}
use Rattle.page_halftoner.specs.Halftones.{Diffusing, Filling, HasRoom, HoldsRows, IsFull, IsSameRows, PutsLines, StandsFor, joined}
use Rattle.printer_definitions.specs.Printer.{Printer}
use Rattle.pwg_definitions.specs.Header.{IsWanted, header_of}
use Rattle.pwg_definitions.specs.declared.pages.PageForm.{PageForm}
use Rattle.pwg_definitions.specs.declared.pages.Wanted.{Wanted}
use Rattle.pwg_laws.proofs.HeaderLaws.{check-wanted}
use Rattle.pwg_stream.specs.declared.reader.PageReader.{PageReader}
use Rattle.pwg_stream.specs.Reading.{BeginsPage, GivesLines, has_ended, line_of, lines_left_of, stop_of}
use Rattle.separation_definitions.specs.Windows.{wanted_by}
use Rattle.halftone_reader.specs.Reading.{ReadsHalftone}
use Rattle.halftone_reader.specs.SoFar.{Begun, HalftonedSoFar, PageSoFar}
use Rattle.halftone_reader.proofs.PageSteps.{page_begin, page_end, page_step}

-- a page that begins is one that the printer takes
pub begun-wanted : (want : Wanted) (old now : PageReader) (before left : Option (List ℕ)) (form : PageForm)
    → BeginsPage want old now before left form → IsWanted want form
begun-wanted want old now before left form begins = check-wanted want (header_of begins.header.header) form begins.header.accepted

pub so_far_begin : (b : Begun) (now : PageReader) (left : Option (List ℕ)) (f : Filling) (d : Diffusing)
    → BeginsPage (wanted_by b.profile) b.reader now b.before left b.form → has_ended b.reader ≡ false → stop_of now ≡ None
    → (f.profile ≡ b.profile) × (f.form ≡ b.form) → d.kernel ≡ b.kernel → d.grain.grain ≡ b.grain
    → f.count ≡ 0 → StandsFor (joined f d) [] → HalftonedSoFar b now left f d
so_far_begin b now left f d begins unended going same kernel grain none stands = record {
  lines = [];
  pending = 0;
  page = page_begin (wanted_by b.profile) b.reader now b.before left b.form begins unended going;
  stands = stands;
  count = omega (arith, none, begins.lines);
  profile_is = same.0;
  form_is = same.1;
  kernel_is = kernel;
  grain_is = grain;
}

-- Some of the pending repeats are placed.
pub so_far_placed : (b : Begun) (now : PageReader) (left : Option (List ℕ)) (f g : Filling) (d : Diffusing) (placed : ℕ)
    → (so_far : HalftonedSoFar b now left f d) → placed ≤ so_far.pending → IsSameRows f g → g.count ≡ f.count + placed
    → PutsLines f g (replicate placed (line_of now)) → HalftonedSoFar b now left g d
so_far_placed b now left f g d placed so_far most same count puts =
    let line : List ℕ = line_of now in
    let rest : ℕ = so_far.pending - placed in
    let all : placed + rest ≡ so_far.pending = omega arith in
    let P : List (List ℕ) → Type 0 = λ lines.
    PageSoFar (wanted_by b.profile) b.reader now b.before left (record { form = b.form; lines = lines }) in
    record {
      lines = so_far.lines ++ replicate placed line;
      pending = rest;
      page = subst P (sym (append_assoc so_far.lines (replicate placed line) (replicate rest line)
          ∙ ap (λ (ls : List (List ℕ)). so_far.lines ++ ls)
          (replicate-append-replicate placed rest line ∙ ap (λ n. replicate n line) all))) so_far.page;
      stands = puts d so_far.lines so_far.stands;
      count = omega (arith, so_far.count, count, all);
      profile_is = same.profile ∙ so_far.profile_is;
      form_is = same.form ∙ so_far.form_is;
      kernel_is = so_far.kernel_is;
      grain_is = so_far.grain_is;
    }

-- One more group is read, once all repeats of the one before are placed.
pub so_far_group : (b : Begun) (now next : PageReader) (left left' : Option (List ℕ)) (f : Filling) (d : Diffusing) (repeats : ℕ)
    → (so_far : HalftonedSoFar b now left f d) → so_far.pending ≡ 0 → 0 < lines_left_of now
    → GivesLines now next left left' repeats → stop_of next ≡ None
    → (after : HalftonedSoFar b next left' f d) × (after.pending ≡ repeats)
so_far_group b now next left left' f d repeats so_far none some gives going =
    let P : List (List ℕ) → Type 0 = λ lines.
    PageSoFar (wanted_by b.profile) b.reader now b.before left (record { form = b.form; lines = lines }) in
    let placed : so_far.lines ++ replicate so_far.pending (line_of now) ≡ so_far.lines =
    ap (λ n. so_far.lines ++ replicate n (line_of now)) none ∙ append-nil so_far.lines in (
      record {
        lines = so_far.lines;
        pending = repeats;
        page = page_step (wanted_by b.profile) b.reader now next b.before left left'
            (record { form = b.form; lines = so_far.lines }) repeats (subst P placed so_far.page) some gives going;
        stands = so_far.stands;
        count = omega (arith, so_far.count, none, gives.fall);
        profile_is = so_far.profile_is;
        form_is = so_far.form_is;
        kernel_is = so_far.kernel_is;
        grain_is = so_far.grain_is;
      },
      refl,
    )

-- A full slab is diffused.
pub so_far_diffused : (b : Begun) (now : PageReader) (left : Option (List ℕ)) (f next : Filling) (d done : Diffusing)
    → IsDone f next d done → HalftonedSoFar b now left f d → HalftonedSoFar b now left next done
so_far_diffused b now left f next d done all so_far = record {
  lines = so_far.lines;
  pending = so_far.pending;
  page = so_far.page;
  stands = slab_full f next d done all so_far.lines so_far.stands;
  count = omega (arith, so_far.count, all.goes_on.count);
  profile_is = all.goes_on.profile ∙ so_far.profile_is;
  form_is = all.goes_on.form ∙ so_far.form_is;
  kernel_is = all.kernel ∙ so_far.kernel_is;
  grain_is = ap (λ (g : InkGrain). g.grain) all.grain ∙ so_far.grain_is;
}

-- The last line was read, and all rows are diffused.
pub so_far_end : (b : Begun) (now : PageReader) (left : Option (List ℕ)) (f : Filling) (d : Diffusing) (t : DotTable)
    → HalftonedSoFar b now left f d → HoldsRows f → (IsFull f → ⊥) → f.count ≡ f.form.height
    → HasRoom b.form b.profile (dots_in d.dots) → HasSizeOf d.dots.planes t
    → ((i y x : ℕ) → i < t.inks → y < t.rows → x < t.width → dot t i y x ≡ (dots_in d.dots).dot i y x)
    → ReadsHalftone b.profile (screening_of b.kernel b.grain) b.reader now b.before left b.form t
so_far_end b now left f d t so_far rows full all room size same =
    let form : PageForm = b.form in
    let height : f.form.height ≡ form.height = ap (λ (g : PageForm). g.height) so_far.form_is in
    let none : so_far.pending ≡ 0 = omega (arith, so_far.count, all, height) in
    let last : lines_left_of now ≤ 0 = omega (arith, so_far.count, all, height) in
    let P : List (List ℕ) → Type 0 = λ lines.
    PageSoFar (wanted_by b.profile) b.reader now b.before left (record { form = b.form; lines = lines }) in
    let placed : so_far.lines ++ replicate so_far.pending (line_of now) ≡ so_far.lines =
    ap (λ n. so_far.lines ++ replicate n (line_of now)) none ∙ append-nil so_far.lines in
    let Room : Printer → PageForm → Type 0 = λ q g. HasRoom g q (dots_in d.dots) in
    let here : Room f.profile f.form = subst (λ q. Room q f.form) (sym so_far.profile_is)
    (subst (λ g. Room b.profile g) (sym so_far.form_is) room) in
    let dots = whole_page (joined f d) so_far.lines t so_far.stands (all_diffused f rows full all) here size same in
    let Has : Printer → PageForm → Kernel → ℕ → Type 0 = λ q g k grain.
    HasDots q (halftone (record { form = g; lines = so_far.lines }) q (screening_of k grain)) t.width t.rows t.inks (dot t) in
    record {
      page = record { form = form; lines = so_far.lines };
      reads = page_end (wanted_by b.profile) b.reader now b.before left (record { form = form; lines = so_far.lines })
          (subst P placed so_far.page) last;
      form_is = refl;
      dots = subst (λ q. Has q b.form b.kernel b.grain) so_far.profile_is
          (subst (λ g. Has f.profile g b.kernel b.grain) so_far.form_is
          (subst (λ k. Has f.profile f.form k b.grain) so_far.kernel_is
          (subst (λ grain. Has f.profile f.form d.kernel grain) so_far.grain_is dots)));
    }
