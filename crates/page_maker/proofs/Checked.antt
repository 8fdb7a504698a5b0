-- What the check of a made header says: its page is too narrow or too wide, too short or too tall, or accepted.
use Rattle.std.proofs.Common.{◌≡◌, ◌<◌, ◌^◌, ◌==◌, not, nat_lt, ◌||◌, Bool, true, false, if◌then◌else◌, List, [], ◌∷◌, Option, Some, None}
use Rattle.std.proofs.Common.{Result, Ok, Err, is_some, refl, sym, ◌∙◌, ap, arith}
use Rattle.std.specs.List.{AllByRecursion}
use Rattle.pwg_definitions.specs.declared.pages.PageForm.{PageForm}
use Rattle.pwg_definitions.specs.declared.pages.Header.{Header}
use Rattle.pwg_definitions.specs.declared.pages.Wanted.{Wanted}
use Rattle.pwg_definitions.specs.declared.faults.HeaderFault.{HeaderFault}
use Rattle.pwg_definitions.specs.declared.faults.HeaderFault.TheVariants as fault
use Rattle.pwg_definitions.specs.Header.{IsWanted, KindRow, check, first_header_fault, header_bytes, header_form, header_of, header_tests, is_outside}
use Rattle.pwg_definitions.specs.Header.{kind_of, line_bytes, row_of}
use Rattle.pwg_laws.proofs.HeaderLaws.{check-header_bytes}

-- where there is no first fault, no test holds
no_test_holds : (tests : List (Bool × HeaderFault)) → first_header_fault tests ≡ None
    → AllByRecursion (λ (t : Bool × HeaderFault). t.0 ≡ false) tests
no_test_holds [] e = tt
no_test_holds (test ∷ tests) e = by_test (no_test_holds tests) test.0 refl e
  where
    by_test : (first_header_fault tests ≡ None → AllByRecursion (λ (t : Bool × HeaderFault). t.0 ≡ false) tests) → (b : Bool) → test.0 ≡ b
        → (if b then Some test.1 else first_header_fault tests) ≡ None → AllByRecursion (λ (t : Bool × HeaderFault). t.0 ≡ false) (test ∷ tests)
    by_test after true is none = absurd (let never : Some test.1 ≡ None = none in cc)
    by_test after false is none = (is, after none)

-- What is known of a header that is accepted: no test holds, and its kind gives the form.
record IsAccepted (want : Wanted) (h : Header) (form : PageForm) : Type 0 where
  tests : AllByRecursion (λ (t : Bool × HeaderFault). t.0 ≡ false) (header_tests want h)
  gives : header_form h (kind_of h) ≡ Ok form

accepted_is : (want : Wanted) (h : Header) (form : PageForm) → check want h ≡ Ok form → IsAccepted want h form
accepted_is want h form accepted = by_fault (first_header_fault (header_tests want h)) refl accepted
  where
    by_fault : (o : Option HeaderFault) → first_header_fault (header_tests want h) ≡ o
        → (elim o as (λ _. Result PageForm HeaderFault) [ None ↦ header_form h (kind_of h) | Some f ↦ Err f ]) ≡ Ok form
        → IsAccepted want h form
    by_fault None is e = record { tests = no_test_holds (header_tests want h) is; gives = e }
    by_fault (Some f) is e = absurd (let never : Err f ≡ Ok form = e in cc)

-- the size of a header is that of its form
size_is : (h : Header) (form : PageForm) (o : Option KindRow) → header_form h o ≡ Ok form → (h.width ≡ form.width) × (h.height ≡ form.height)
size_is h form None e = absurd (let never : header_form h None ≡ Ok form = e in cc)
size_is h form (Some row) e =
    let made : PageForm = record { width = h.width; height = h.height; kind = row.kind; bytes_per_line = h.bytes_per_line } in
    let same : Ok made ≡ Ok form = e in
    let is : made ≡ form = cc in
    (ap (λ (f : PageForm). f.width) is, ap (λ (f : PageForm). f.height) is)

-- what the check says, by its tests
verdict : Header → Bool → Bool → Bool → Bool → Bool → Bool → Bool → Bool → Result PageForm HeaderFault
verdict h text resolution width height kind bytes order transform = elim (first_header_fault (
    (text, fault.NotPwg) ∷ (resolution, fault.Resolution) ∷ (width, fault.Width) ∷ (height, fault.Height) ∷ (kind, fault.Kind)
    ∷ (bytes, fault.BytesPerLine) ∷ (order, fault.Order) ∷ (transform, fault.Transform) ∷ [])) as (λ _. Result PageForm HeaderFault) [
      | None ↦ header_form h (kind_of h)
      | Some f ↦ Err f
    ]

-- where only the tests of the size may hold
verdict-by_size : (h : Header) (form : PageForm) (wide tall : Bool) → header_form h (kind_of h) ≡ Ok form
    → verdict h false false wide tall false false false false
    ≡ (if wide then Err fault.Width else if tall then Err fault.Height else Ok form)
unfolding verdict
verdict-by_size h form true tall is = refl
verdict-by_size h form false true is = refl
verdict-by_size h form false false is = is

check-by_size : (want like : Wanted) (h : Header) (form : PageForm) → like.hdpi ≡ want.hdpi → like.vdpi ≡ want.vdpi
    → IsAccepted like h form
    → check want h ≡ (if is_outside want.least_width want.most_width h.width then Err fault.Width
    else if is_outside want.least_height want.most_height h.height then Err fault.Height
    else Ok form)
unfolding verdict
check-by_size want like h form across down is =
    let text : Bool = not h.is_pwg in
    let resolution : Bool = not (h.hres == want.hdpi) || not (h.vres == want.vdpi) in
    let wide : Bool = is_outside want.least_width want.most_width h.width in
    let tall : Bool = is_outside want.least_height want.most_height h.height in
    let kind : Bool = not (is_some (kind_of h)) in
    let bytes : Bool = not (h.bytes_per_line == line_bytes h.width h.bits_per_pixel) in
    let order : Bool = not (h.color_order == 0) in
    let transform : Bool = nat_lt 1 h.cross_transform || nat_lt 1 h.feed_transform in
    let same : resolution ≡ false = ap (λ n. not (h.hres == n) || not (h.vres == want.vdpi)) (sym across)
    ∙ ap (λ n. not (h.hres == like.hdpi) || not (h.vres == n)) (sym down) ∙ is.tests.1.0 in
    ap (λ b. verdict h b resolution wide tall kind bytes order transform) is.tests.0
    ∙ ap (λ b. verdict h false b wide tall kind bytes order transform) same
    ∙ ap (λ b. verdict h false false wide tall b bytes order transform) is.tests.1.1.1.1.0
    ∙ ap (λ b. verdict h false false wide tall false b order transform) is.tests.1.1.1.1.1.0
    ∙ ap (λ b. verdict h false false wide tall false false b transform) is.tests.1.1.1.1.1.1.0
    ∙ ap (λ b. verdict h false false wide tall false false false b) is.tests.1.1.1.1.1.1.1.0
    ∙ verdict-by_size h form wide tall is.gives

-- A made header is checked by its size alone.
pub check-made : (want : Wanted) (form : PageForm) → form.width < 2 ^ 32 → form.height < 2 ^ 32 → form.bytes_per_line < 2 ^ 32
    → want.hdpi < 2 ^ 32 → want.vdpi < 2 ^ 32
    → form.bytes_per_line ≡ line_bytes form.width (row_of form.kind).bits_per_pixel
    → check want (header_of (header_bytes form want.hdpi want.vdpi))
    ≡ (if is_outside want.least_width want.most_width form.width then Err fault.Width
    else if is_outside want.least_height want.most_height form.height then Err fault.Height
    else Ok form)
check-made want form width_fits height_fits bytes_fit hdpi_fits vdpi_fits whole =
    let like : Wanted = record {
      hdpi = want.hdpi;
      vdpi = want.vdpi;
      least_width = 0;
      most_width = form.width;
      least_height = 0;
      most_height = form.height;
    } in
    let wanted : IsWanted like form = record {
      least_width = omega arith;
      most_width = omega arith;
      least_height = omega arith;
      most_height = omega arith;
      bytes_per_line = whole;
    } in
    let h : Header = header_of (header_bytes form want.hdpi want.vdpi) in
    let is : IsAccepted like h form =
    accepted_is like h form (check-header_bytes like form wanted width_fits height_fits bytes_fit hdpi_fits vdpi_fits) in
    let size : (h.width ≡ form.width) × (h.height ≡ form.height) = size_is h form (kind_of h) is.gives in
    check-by_size want like h form refl refl is
    ∙ ap (λ width. if is_outside want.least_width want.most_width width then Err fault.Width
    else if is_outside want.least_height want.most_height h.height then Err fault.Height
    else Ok form) size.0
    ∙ ap (λ height. if is_outside want.least_width want.most_width form.width then Err fault.Width
    else if is_outside want.least_height want.most_height height then Err fault.Height
    else Ok form) size.1
