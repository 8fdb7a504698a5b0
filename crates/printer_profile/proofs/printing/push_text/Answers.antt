use Rattle.std.proofs.Common.{◌++◌, codes, arith}
use Rattle.printer_profile.specs.declared.keys.Key.TheVariants.{Hdpi}
use Rattle.printer_profile.specs.declared.keys.Version.TheVariants.{Two}
use Rattle.printer_profile.specs.Keys.{all_keys}
use Rattle.printer_profile.specs.Text.{head_of, key_line, profile_text_of}
use Rattle.printer_profile.proofs.Printed.{pieces_all, pieces_more}
use Rattle.printer_profile.proofs.printing.push_text.Goals as goal

pub keys-preserved : goal.keys-preserved
keys-preserved c = record {
  bytes = pieces_more (key_line c.args.p.now) (head_of Two ++ codes "\n") all_keys c.keys.key-index
      Hdpi c.keys.out.bytes c.push_line.new.out.bytes (omega arith) c.keys.invariant.bytes c.push_line.ensures.bytes;
  len = omega arith;
}

pub returns : goal.returns
unfolding profile_text_of
returns c = pieces_all (key_line c.args.p.now)
    (head_of Two ++ codes "\n") all_keys c.keys.key-index c.keys.out.bytes c.keys-test.false c.keys.invariant.bytes
