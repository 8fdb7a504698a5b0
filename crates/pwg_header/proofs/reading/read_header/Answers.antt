use Rattle.pwg_header.proofs.reading.read_header.Goals as goal

pub returns : goal.returns
returns c =
    rw (
      c.starts_with.ensures.value,
      c.number.ensures,
      c.number-2.ensures,
      c.number-3.ensures,
      c.number-4.ensures,
      c.number-5.ensures,
      c.number-6.ensures,
      c.number-7.ensures,
      c.number-8.ensures,
      c.number-9.ensures,
      c.number-10.ensures,
      c.number-11.ensures,
    )
