use Rattle.std.proofs.lemmas.List.{take-replicate}
use Rattle.base_definitions.specs.Limits.{most_row_bytes}
use Rattle.page_writer.proofs.blank.blank_row.Goals as goal

pub returns : goal.returns
returns c = take-replicate c.args.len most_row_bytes 0 c.requires
