use Rattle.std.proofs.Common.{arith, refl, ◌∙◌}
use Rattle.pwg_definitions.specs.Header.{header_of}
use Rattle.pwg_laws.proofs.HeaderLaws.{check-wanted}
use Rattle.pwg_stream.proofs.reader.PageReader.begin_page.Goals as goal

pub begin_lines-requires : goal.begin_lines-requires
begin_lines-requires g c =
    let header = rw c.in-Some.is at c.in_ok-read_page_header.ensures.form in
    let wanted = check-wanted c.args.want (header_of header.header) c.in-Some.form header.accepted in record {
      going = c.requires.going;
      narrowest = omega (arith, wanted.least_width);
      widest = omega (arith, wanted.most_width);
      lowest = omega (arith, wanted.least_height);
      tallest = omega (arith, wanted.most_height);
      bytes = wanted.bytes_per_line;
    }

pub invariant_of-self-in-Some-clause-last : goal.invariant_of-self-in-Some-clause-last
invariant_of-self-in-Some-clause-last g c =
    let some = rw c.in-Some.is at c.in_ok-read_page_header.ensures.number in
    omega (arith, c.begin_lines.ensures.page, some refl)

pub returns-in_ok-begin_lines-in-Some-clause-page : goal.returns-in_ok-begin_lines-in-Some-clause-page
returns-in_ok-begin_lines-in-Some-clause-page g c =
    let header = rw c.in-Some.is at c.in_ok-read_page_header.ensures.form in
    let some = rw c.in-Some.is at c.in_ok-read_page_header.ensures.number in record {
      header = rw c.begin_lines.ensures.unread header;
      page = omega (arith, c.begin_lines.ensures.page);
      last = omega (arith, c.begin_lines.ensures.page, some refl);
      form_is = c.in_ok-begin_lines-in-Some.ensures.form;
      lines = c.in_ok-begin_lines-in-Some.ensures.lines;
      unended = c.begin_lines.ensures.unended ∙ c.requires.unended;
    }
