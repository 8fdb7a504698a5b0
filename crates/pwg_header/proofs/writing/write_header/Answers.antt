use Rattle.std.proofs.Common.{ℕ, ◌<◌, ◌^◌, List, sym, ◌∙◌, ap, arith}
use Rattle.std.specs.Int.{to_be_bytes, w32}
use Rattle.pwg_definitions.specs.Header.{check, header_bytes, header_of, with_bytes}
use Rattle.pwg_laws.proofs.HeaderLaws.{check-header_bytes}
use Rattle.pwg_header.proofs.writing.write_header.Goals as goal

pub returns-clause-bytes : goal.returns-clause-bytes
unfolding header_bytes
returns-clause-bytes c =
    let put : ℕ → List ℕ → ℕ → List ℕ = λ offset bytes n. with_bytes offset (to_be_bytes w32 n) bytes in
    let number : ℕ → ℕ → List ℕ → List ℕ = λ offset n bytes. put offset bytes n in
    let kind = c.numbers_of-kind.ensures in
    let e0 = c.begin.ensures in
    let e1 = c.put_number.ensures ∙ ap (number 276 c.args.hdpi) e0 in
    let e2 = c.put_number-2.ensures ∙ ap (number 280 c.args.vdpi) e1 in
    let e3 = c.put_number-3.ensures ∙ ap (number 340 1) e2 in
    let e4 = c.put_number-4.ensures ∙ ap (number 372 c.args.f.now.width) e3 in
    let e5 = c.put_number-5.ensures ∙ ap (number 376 c.args.f.now.height) e4 in
    let e6 = c.put_number-6.ensures ∙ ap (put 384 c.put_number-5.new.out) kind.bits_per_color ∙ ap (number 384 _) e5 in
    let e7 = c.put_number-7.ensures ∙ ap (put 388 c.put_number-6.new.out) kind.bits_per_pixel ∙ ap (number 388 _) e6 in
    let e8 = c.put_number-8.ensures ∙ ap (number 392 c.args.f.now.bytes_per_line) e7 in
    let e9 = c.put_number-9.ensures ∙ ap (put 400 c.put_number-8.new.out) kind.color_space ∙ ap (number 400 _) e8 in
    let e10 = c.put_number-10.ensures ∙ ap (put 420 c.put_number-9.new.out) kind.colors ∙ ap (number 420 _) e9 in
    let e11 = c.put_number-11.ensures ∙ ap (number 456 1) e10 in
    c.put_number-12.ensures ∙ ap (number 460 1) e11

pub returns-clause-accepted : goal.returns-clause-accepted
returns-clause-accepted c = λ want across down wanted.
    let form = c.args.f.now in
    let width_fits : form.width < 2 ^ 32 = omega arith in
    let height_fits : form.height < 2 ^ 32 = omega arith in
    let bytes_fit : form.bytes_per_line < 2 ^ 32 = omega arith in
    let hdpi_fits : want.hdpi < 2 ^ 32 = omega arith in
    let vdpi_fits : want.vdpi < 2 ^ 32 = omega arith in
    ap (λ (bs : List ℕ). check want (header_of bs))
    (returns-clause-bytes c ∙ ap (λ (n : ℕ). header_bytes form n c.args.vdpi) (sym across) ∙ ap (header_bytes form want.hdpi) (sym down))
    ∙ check-header_bytes want form wanted width_fits height_fits bytes_fit hdpi_fits vdpi_fits
