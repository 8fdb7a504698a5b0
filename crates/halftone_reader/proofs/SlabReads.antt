-- Lines that are read into slabs.
use Rattle.std.proofs.Common.{◌≡◌, ◌⊎◌, ℕ, ◌<◌, arith, subst, List, ◌++◌, replicate, Option, None, Some, IfSome, Result, Ok, Err, IsErrOf, ap, sym, ◌∙◌}
use Rattle.buffered_bytes.specs.Text.{UsesSome}
use Rattle.diffusion_kernel.specs.Tables.{table_of}
use Rattle.dot_planes.specs.Tables.{AmountTable}
use Rattle.wavefront_team.specs.Dots.{Dots, IsSameSize}
use Rattle.wavefront_team.specs.Slabs.{DiffusesSlab}
use Rattle.wavefront_team.specs.SoFar.{dots_in}
use Rattle.ink_separation.specs.Separators.{IsSeparatorOf}
use Rattle.raw_rows.specs.declared.kept.RawRows.{RawRows}
use Rattle.grained_rows.specs.Grained.{grained_table}
use Rattle.page_halftoner.specs.Halftones.{Diffusing, Filling, GoesOn, HasRoom, HoldsRows, IsFull, IsSameRows, IsSpare}
use Rattle.printer_definitions.specs.Printer.{Printer}
use Rattle.pwg_definitions.specs.declared.pages.PageForm.{PageForm}
use Rattle.page_halftoner.proofs.Lines.{IsDone}
use Rattle.pwg_definitions.specs.Stream.{Page}
use Rattle.pwg_stream.specs.declared.reader.PageReader.{PageReader}
use Rattle.pwg_stream.specs.declared.stops.StreamStop.{StreamStop}
use Rattle.pwg_stream.specs.declared.stops.StreamStop.TheVariants as stop
use Rattle.pwg_stream.proofs.Taken.{same_error}
use Rattle.pwg_stream.specs.Reading.{HasLineFault, line_of, lines_left_of, stop_of, text_of}
use Rattle.pwg_stream.specs.Stops.{OnInput}
use Rattle.pwg_stream.specs.Taken.{TakesNoGroup}
use Rattle.separation_definitions.specs.Windows.{wanted_by, window_of}
use Rattle.halftone_reader.specs.SoFar.{Begun, FillsSlab, HalftonedSoFar, ReadsOn}
use Rattle.halftone_reader.proofs.HalftoneSteps.{so_far_diffused}
use Rattle.halftone_reader.proofs.PageSteps.{fault_in_page, page_cut, place_in_page, uses_more}

-- what leads from one place in a page to another, whatever page it is
abbrev pub GoesFrom : PageReader → PageReader → Option (List ℕ) → Option (List ℕ) → Filling → Filling → Type 0
GoesFrom r k left mid f g = (b : Begun) (d : Diffusing) → HalftonedSoFar b r left f d → HalftonedSoFar b k mid g d

-- the lines that were read so far
abbrev pub page_in : (b : Begun) (k : PageReader) (mid : Option (List ℕ)) (g : Filling) (d : Diffusing) → HalftonedSoFar b k mid g d → Page
page_in b k mid g d so_far = record { form = b.form; lines = so_far.lines ++ replicate so_far.pending (line_of k) }

-- The slab was filled, or the page has no more lines.
pub fills_ok : (T : Type 0) (x : T) (r r' : PageReader) (left left' : Option (List ℕ)) (f f' : Filling)
    → IsSameRows f f' → GoesFrom r r' left left' f f' → (IsFull f') ⊎ (f'.count ≡ f'.form.height)
    → FillsSlab r r' left left' f f' {T = T} (Ok x)
fills_ok T x r r' left left' f f' same more done = record {
  reads = λ d. record {
    more = λ b so_far. more b d so_far;
    input = λ b so_far. tt;
    place = λ b so_far. tt;
    taken = λ b so_far is. absurd (cc);
    used = λ b so_far. let all = (more b d so_far).page in record { bytes = all.bytes; is = all.used };
  };
  same = same;
  done = done;
}

-- A line was not read.
pub fills_err : (T U : Type 0) (r k r' : PageReader) (left mid left' : Option (List ℕ)) (f g : Filling) (e : StreamStop)
    → IsSameRows f g → GoesFrom r k left mid f g → 0 < lines_left_of k → stop_of k ≡ None
    → (stop_of k ≡ None → OnInput {T = U} (Err e) (HasLineFault k mid))
    → (stop_of k ≡ None → IsErrOf {T = U} (Err e) stop.Read → TakesNoGroup k mid left')
    → UsesSome (text_of k mid) (text_of r' left')
    → FillsSlab r r' left left' f g {T = T} (Err e)
fills_err T U r k r' left mid left' f g e same more some going input taken used = record {
  reads = λ d. record {
    more = λ b so_far. tt;
    input = λ b so_far.
        let here = more b d so_far in
        fault_in_page T U (wanted_by b.profile) b.reader k b.before mid (page_in b k mid g d here) e here.page (input going);
    place = λ b so_far.
        let here = more b d so_far in
        place_in_page T U (wanted_by b.profile) b.reader k b.before mid (page_in b k mid g d here) e here.page (input going);
    taken = λ b so_far is.
        let here = more b d so_far in
        page_cut (wanted_by b.profile) b.reader k b.before mid left' (page_in b k mid g d here) here.page some
        (taken going (ap Err (same_error is)));
    used = λ b so_far. let here = more b d so_far in uses_more _ _ _ _ here.page.used used;
  };
  same = same;
  done = tt;
}

-- A full slab was diffused by its amounts from its first row on, and the rows below it begun.
pub slab_done : (f f' : Filling) (d d' : Diffusing) (slab : AmountTable) (first : ℕ)
    → IsFull f → HoldsRows f → HasRoom f.form f.profile (dots_in d.dots) → GoesOn f f' → d'.kernel ≡ d.kernel → d'.grain ≡ d.grain
    → slab ≡ f.slab → first ≡ f.first
    → DiffusesSlab (table_of d.kernel) (grained_table d.grain first slab) d.top d'.top first (dots_in d.dots) (dots_in d'.dots)
    → IsDone f f' d d'
slab_done f f' d d' slab first full rows room goes_on kernel grain slab_is first_is diffused =
    let Done : ℕ → AmountTable → Type 0 = λ n s.
    DiffusesSlab (table_of d.kernel) (grained_table d.grain n s) d.top d'.top n (dots_in d.dots) (dots_in d'.dots) in
    let S : AmountTable → Type 0 = λ s. Done f.first s in
    let F : ℕ → Type 0 = λ n. Done n slab in
    record {
      full = full;
      rows = rows;
      tall = room.rows;
      goes_on = goes_on;
      kernel = kernel;
      grain = grain;
      diffused = subst S slab_is (subst F first_is diffused);
    }

-- A full slab was diffused, and the next one filled.
pub reads_diffused : (T : Type 0) (result : Result T StreamStop) (r r' : PageReader) (left left' : Option (List ℕ)) (f f' g : Filling) (d d' : Diffusing)
    → IsDone f f' d d' → FillsSlab r r' left left' f' g {T = T} result → ReadsOn r r' left left' f g d d' {T = T} result
reads_diffused T result r r' left left' f f' g d d' done fills =
    let reads = fills.reads d' in
    record {
      more = λ b so_far. reads.more b (so_far_diffused b r left f f' d d' done so_far);
      input = λ b so_far. reads.input b (so_far_diffused b r left f f' d d' done so_far);
      place = λ b so_far. reads.place b (so_far_diffused b r left f f' d d' done so_far);
      taken = λ b so_far. reads.taken b (so_far_diffused b r left f f' d d' done so_far);
      used = λ b so_far. reads.used b (so_far_diffused b r left f f' d d' done so_far);
    }

-- dots of the same size have the same room
pub room_still : (form : PageForm) (p : Printer) (t u : Dots) → IsSameSize t u → HasRoom form p t → HasRoom form p u
room_still form p t u size room = record {
  width = size.width ∙ room.width;
  rows = size.rows ∙ room.rows;
  inks = size.inks ∙ room.inks;
}

-- A spare slab is spare still where lines were put.
pub spare_still : (f g : Filling) → IsSameRows f g → (o : Option RawRows) → IfSome o (IsSpare f) → IfSome o (IsSpare g)
spare_still f g same None is = tt
spare_still f g same (Some t) is = record {
  separator =
      let P : Printer → Type 0 = λ p. IsSeparatorOf p f.form.kind (window_of f.form p) t.separator in
      let F : PageForm → Type 0 = λ form. IsSeparatorOf g.profile form.kind (window_of form g.profile) t.separator in
      subst F (sym same.form) (subst P (sym same.profile) is.separator);
  rows = λ more.
      let form = ap (λ (m : PageForm). (window_of m g.profile).height) same.form in
      let profile = ap (λ (p : Printer). (window_of f.form p).height) same.profile in
      is.rows (omega (arith, more, same.first, same.size.rows, form, profile)) ∙ sym same.size.rows;
}
