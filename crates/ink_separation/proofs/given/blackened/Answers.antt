use Rattle.printer_definitions.specs.declared.inks.Ink.TheVariants.{Black, Cyan, Magenta, Yellow}
use Rattle.ink_separation.proofs.given.blackened.Goals as goal

pub returns : goal.returns
returns c Black x low = c.more.ensures x low
returns c Cyan x low = c.more-2.ensures x low
returns c Magenta x low = c.more-3.ensures x low
returns c Yellow x low = c.more-4.ensures x low
