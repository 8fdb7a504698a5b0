-- What an accepted header says, and that a written header is accepted.
use Rattle.std.proofs.Common.{◌≡◌, ℕ, ◌<◌, ◌^◌, ◌==◌, not, nat_lt, Bool, true, false, if◌then◌else◌, cond, List, [], ◌∷◌, Option, Some}
use Rattle.std.proofs.Common.{None, Result, Ok, Err, replicate, is_some, refl, sym, ◌∙◌, ap, subst}
use Rattle.std.specs.List.{AllByRecursion, find}
use Rattle.std.specs.Int.{w32, from_be_bytes, to_be_bytes}
use Rattle.std.proofs.lemmas.Bool.{and_parts, eqb-true, eq-eqb, le-ltb, ltb-false, not-false, or_from, or_parts}
use Rattle.std.proofs.lemmas.Nat.{from_be_bytes-to_be_bytes_4}
use Rattle.pwg_definitions.specs.declared.pages.Kind.{Kind}
use Rattle.pwg_definitions.specs.declared.pages.PageForm.{PageForm}
use Rattle.pwg_definitions.specs.declared.pages.Header.{Header}
use Rattle.pwg_definitions.specs.declared.pages.Wanted.{Wanted}
use Rattle.pwg_definitions.specs.declared.faults.HeaderFault.{HeaderFault}
use Rattle.pwg_definitions.specs.Limits.{header_length}
use Rattle.pwg_definitions.specs.Header.{IsWanted, KindRow, check, first_header_fault, has_kind, header_bytes, header_form, header_numbers, header_of}
use Rattle.pwg_definitions.specs.Header.{header_tests, kind_of, kinds, line_bytes, pwg_raster, row_of, with_bytes, with_numbers}
use Rattle.pwg_laws.proofs.KindRows.{IsKindRow, kind_row, named_by}

-- ---- what an accepted header says

first_fault-none : (tests : List (Bool × HeaderFault)) → first_header_fault tests ≡ None
    → AllByRecursion (λ (t : Bool × HeaderFault). t.0 ≡ false) tests
first_fault-none [] e = tt
first_fault-none (test ∷ tests) e = by_test (first_fault-none tests) test.0 refl e
  where
    by_test : (first_header_fault tests ≡ None → AllByRecursion (λ (t : Bool × HeaderFault). t.0 ≡ false) tests) → (b : Bool) → test.0 ≡ b
        → (if b then Some test.1 else first_header_fault tests) ≡ None → AllByRecursion (λ (t : Bool × HeaderFault). t.0 ≡ false) (test ∷ tests)
    by_test after true is none = absurd (let never : Some test.1 ≡ None = none in cc)
    by_test after false is none = (is, after none)

-- what is found passes the test, and is one of the elements
find-passes : (test : KindRow → Bool) (rows : List KindRow) (row : KindRow) → find test rows ≡ Some row → test row ≡ true
find-passes test [] row e = absurd (let never : None ≡ Some row = e in cc)
find-passes test (first ∷ rows) row e = by_test (find-passes test rows row) (test first) refl e
  where
    by_test : (find test rows ≡ Some row → test row ≡ true) → (b : Bool) → test first ≡ b → cond b (Some first) (find test rows) ≡ Some row
        → test row ≡ true
    by_test after true is found = let same : Some first ≡ Some row = found in ap test (let it : row ≡ first = cc in it) ∙ is
    by_test after false is found = after found

find-among : (P : KindRow → Type 0) (test : KindRow → Bool) (rows : List KindRow) (row : KindRow) → AllByRecursion P rows
    → find test rows ≡ Some row → P row
find-among P test [] row all e = absurd (let never : None ≡ Some row = e in cc)
find-among P test (first ∷ rows) row all e = by_test (find-among P test rows row all.1) (test first) refl e
  where
    by_test : (find test rows ≡ Some row → P row) → (b : Bool) → test first ≡ b → cond b (Some first) (find test rows) ≡ Some row → P row
    by_test after true is found = let same : Some first ≡ Some row = found in (let it : first ≡ row = cc in subst P it all.0)
    by_test after false is found = after found

-- the form of an accepted header is a wanted one
pub check-wanted : (want : Wanted) (h : Header) (form : PageForm) → check want h ≡ Ok form → IsWanted want form
check-wanted want h form accepted = by_fault (first_header_fault (header_tests want h)) refl accepted
  where
    by_kind : AllByRecursion (λ (t : Bool × HeaderFault). t.0 ≡ false) (header_tests want h) → (o : Option KindRow) → kind_of h ≡ o
        → header_form h o ≡ Ok form → IsWanted want form
    by_kind passes None is e = absurd (let never : header_form h None ≡ Ok form = e in cc)
    by_kind passes (Some row) is e =
        let made : PageForm = record { width = h.width; height = h.height; kind = row.kind; bytes_per_line = h.bytes_per_line } in
        let same : Ok made ≡ Ok form = e in
        let is_form : made ≡ form = cc in
        let known : row_of row.kind ≡ row = find-among (λ r. row_of r.kind ≡ r) (has_kind h) kinds row (refl, (refl, (refl, (refl, (refl, tt))))) is in
        let named : has_kind h row ≡ true = find-passes (has_kind h) kinds row is in
        let bits : h.bits_per_pixel ≡ row.bits_per_pixel = eqb-true _ _ (and_parts _ _ named).1 in
        let width : _ × _ = or_parts (nat_lt h.width want.least_width) (nat_lt want.most_width h.width) passes.1.1.0 in
        let height : _ × _ = or_parts (nat_lt h.height want.least_height) (nat_lt want.most_height h.height) passes.1.1.1.0 in
        let bytes : h.bytes_per_line ≡ line_bytes h.width h.bits_per_pixel = eqb-true _ _ (not-false _ passes.1.1.1.1.1.0) in
        let wanted : IsWanted want made = record {
          least_width = ltb-false _ _ width.0;
          most_width = ltb-false _ _ width.1;
          least_height = ltb-false _ _ height.0;
          most_height = ltb-false _ _ height.1;
          bytes_per_line = bytes ∙ ap (line_bytes h.width) bits ∙ ap (λ (r : KindRow). line_bytes h.width r.bits_per_pixel) (sym known);
        } in
        subst (IsWanted want) is_form wanted

    by_fault : (o : Option HeaderFault) → first_header_fault (header_tests want h) ≡ o
        → (elim o as (λ _. Result PageForm HeaderFault) [ None ↦ header_form h (kind_of h) | Some f ↦ Err f ]) ≡ Ok form → IsWanted want form
    by_fault None is e = by_kind (first_fault-none (header_tests want h) is) (kind_of h) refl e
    by_fault (Some f) is e = absurd (let never : Err f ≡ Ok form = e in cc)

-- ---- a written header is accepted

-- the fields of a written header, except the numbers of its kind
abbrev written_fields : PageForm → ℕ → ℕ → Header
written_fields form hdpi vdpi = record {
  is_pwg = true;
  hres = hdpi;
  vres = vdpi;
  width = form.width;
  height = form.height;
  bits_per_color = 0;
  bits_per_pixel = 0;
  bytes_per_line = form.bytes_per_line;
  color_order = 0;
  color_space = 0;
  cross_transform = 1;
  feed_transform = 1;
}

-- The numbers of a form and of a resolution fit four bytes each.
record IsFitting (form : PageForm) (hdpi vdpi : ℕ) : Type 0 where
  width : form.width < 2 ^ 32
  height : form.height < 2 ^ 32
  bytes_per_line : form.bytes_per_line < 2 ^ 32
  across : hdpi < 2 ^ 32
  down : vdpi < 2 ^ 32

-- four bytes give the number that they were written for
four : (n : ℕ) → n < 2 ^ 32 → from_be_bytes w32 (to_be_bytes w32 n) ≡ n
four n fits = from_be_bytes-to_be_bytes_4 n fits

-- the fields of a header that was written with numbers that fit
header_of-numbers : (form : PageForm) (row : KindRow) (hdpi vdpi : ℕ) → IsFitting form hdpi vdpi
    → row.color_space < 2 ^ 32 → row.bits_per_color < 2 ^ 32 → row.bits_per_pixel < 2 ^ 32
    → header_of (with_numbers (header_numbers form row hdpi vdpi) (with_bytes 0 pwg_raster (replicate header_length 0)))
    ≡ named_by row (written_fields form hdpi vdpi)
header_of-numbers form row hdpi vdpi fitting space_fits bits_fit pixel_fits =
    let fields : ℕ → ℕ → ℕ → ℕ → ℕ → ℕ → ℕ → ℕ → Header = λ h v w l c p b s. record {
      is_pwg = true;
      hres = h;
      vres = v;
      width = w;
      height = l;
      bits_per_color = c;
      bits_per_pixel = p;
      bytes_per_line = b;
      color_order = 0;
      color_space = s;
      cross_transform = 1;
      feed_transform = 1;
    } in
    let number : ℕ → ℕ = λ n. from_be_bytes w32 (to_be_bytes w32 n) in
    let space : ℕ = number row.color_space in
    let bits : ℕ = number row.bits_per_color in
    let pixel : ℕ = number row.bits_per_pixel in
    ap (λ h. fields h (number vdpi) (number form.width) (number form.height) bits pixel (number form.bytes_per_line) space)
    (four hdpi fitting.across)
    ∙ ap (λ v. fields hdpi v (number form.width) (number form.height) bits pixel (number form.bytes_per_line) space)
    (four vdpi fitting.down)
    ∙ ap (λ w. fields hdpi vdpi w (number form.height) bits pixel (number form.bytes_per_line) space) (four form.width fitting.width)
    ∙ ap (λ l. fields hdpi vdpi form.width l bits pixel (number form.bytes_per_line) space) (four form.height fitting.height)
    ∙ ap (λ c. fields hdpi vdpi form.width form.height c pixel (number form.bytes_per_line) space) (four row.bits_per_color bits_fit)
    ∙ ap (λ p. fields hdpi vdpi form.width form.height row.bits_per_color p (number form.bytes_per_line) space)
    (four row.bits_per_pixel pixel_fits)
    ∙ ap (λ b. fields hdpi vdpi form.width form.height row.bits_per_color row.bits_per_pixel b space)
    (four form.bytes_per_line fitting.bytes_per_line)
    ∙ ap (fields hdpi vdpi form.width form.height row.bits_per_color row.bits_per_pixel form.bytes_per_line)
    (four row.color_space space_fits)

header_of-header_bytes : (form : PageForm) (hdpi vdpi : ℕ) → IsFitting form hdpi vdpi
    → header_of (header_bytes form hdpi vdpi) ≡ named_by (row_of form.kind) (written_fields form hdpi vdpi)
unfolding header_bytes
header_of-header_bytes form hdpi vdpi fitting =
    let is : IsKindRow form.kind (row_of form.kind) = kind_row form.kind in
    header_of-numbers form (row_of form.kind) hdpi vdpi fitting is.space_fits is.bits_fit is.pixel_fits

first_fault-passes : (tests : List (Bool × HeaderFault)) → AllByRecursion (λ (t : Bool × HeaderFault). t.0 ≡ false) tests
    → first_header_fault tests ≡ None
first_fault-passes [] all = refl
first_fault-passes (test ∷ tests) all = ap (λ b. if b then Some test.1 else first_header_fault tests) all.0 ∙ first_fault-passes tests all.1

check-written : (want : Wanted) (form : PageForm) → IsWanted want form
    → check want (named_by (row_of form.kind) (written_fields form want.hdpi want.vdpi)) ≡ Ok form
check-written want form wanted =
    let row : KindRow = row_of form.kind in
    let h : Header = named_by row (written_fields form want.hdpi want.vdpi) in
    let named : kind_of h ≡ Some row = (kind_row form.kind).named (written_fields form want.hdpi want.vdpi) in
    let same : (n : ℕ) → not (n == n) ≡ false = λ n. ap not (eq-eqb n n refl) in
    let passes : AllByRecursion (λ (t : Bool × HeaderFault). t.0 ≡ false) (header_tests want h) = (
      refl,
      (
        or_from _ _ (same want.hdpi) (same want.vdpi),
        (
          or_from _ _ (le-ltb _ _ wanted.least_width) (le-ltb _ _ wanted.most_width),
          (
            or_from _ _ (le-ltb _ _ wanted.least_height) (le-ltb _ _ wanted.most_height),
            (
              ap (λ (o : Option KindRow). not (is_some o)) named,
              (ap not (eq-eqb _ _ wanted.bytes_per_line), (refl, (refl, tt))),
            ),
          ),
        ),
      ),
    ) in
    ap (λ (o : Option HeaderFault). elim o as (λ _. Result PageForm HeaderFault) [ None ↦ header_form h (kind_of h) | Some f ↦ Err f ])
    (first_fault-passes (header_tests want h) passes)
    ∙ ap (header_form h) named
    ∙ ap (λ (kind : Kind). let made : Result PageForm HeaderFault = Ok (record form { kind = kind }) in made) (kind_row form.kind).kind_is

-- A written header is accepted, and its form is the one that was written.
pub check-header_bytes : (want : Wanted) (form : PageForm) → IsWanted want form
    → form.width < 2 ^ 32 → form.height < 2 ^ 32 → form.bytes_per_line < 2 ^ 32 → want.hdpi < 2 ^ 32 → want.vdpi < 2 ^ 32
    → check want (header_of (header_bytes form want.hdpi want.vdpi)) ≡ Ok form
check-header_bytes want form wanted width_fits height_fits bytes_fit hdpi_fits vdpi_fits =
    let fitting : IsFitting form want.hdpi want.vdpi =
    record { width = width_fits; height = height_fits; bytes_per_line = bytes_fit; across = hdpi_fits; down = vdpi_fits } in
    ap (check want) (header_of-header_bytes form want.hdpi want.vdpi fitting) ∙ check-written want form wanted
