use Rattle.job_profile.proofs.Shelved.{long_finds, ok_says, refused_says}
use Rattle.job_profile.proofs.finding.shelf_profile.Goals as goal

pub returns-in-Text-clause-ok : goal.returns-in-Text-clause-ok
returns-in-Text-clause-ok g c =
    ok_says _ _ _ _ c.in_ok-text.field-0 c.in-Text.text c.in-Text.is
    c.in_ok-text.ensures.found c.in_ok-text.ensures.within c.deref.ensures.value c.read_profile.ensures.ok

pub returns-in-Text-clause-refused : goal.returns-in-Text-clause-refused
returns-in-Text-clause-refused g c =
    refused_says _ _ _ _ c.in_ok-text.field-0 c.in-Text.text c.in-Text.is
    c.in_ok-text.ensures.found c.in_ok-text.ensures.within c.deref.ensures.value c.read_profile.ensures.refused

pub returns-in-TooLong-clause-refused : goal.returns-in-TooLong-clause-refused
returns-in-TooLong-clause-refused g c =
    rw c.into-in-TooLong.ensures (long_finds _ _ c.in_ok-text.field-0 c.in-TooLong.is c.in_ok-text.ensures.found)
