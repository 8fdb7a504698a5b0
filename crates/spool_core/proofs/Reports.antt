-- The lines of a report, written one after another.
use Rattle.std.proofs.Common.{◌≡◌, ℕ, ◌+◌, ◌<◌, ◌≤◌, List, [], ◌∷◌, ◌++◌, length, get_or, take, drop, sym, ◌∙◌, ap, subst, inl, inr, append_assoc, append-nil, Option, Result, Ok, Err, OnOk, OnErr, Bool, false, is_err}
use Rattle.std.proofs.lemmas.List.{get_or_default}
use Rattle.std.proofs.KnownBytes.{Appends-trans}
use Rattle.std.specs.Io.KnownBytes.{Appends}
use Rattle.buffered_bytes.specs.Outside.{Outside}
use Rattle.weave_base.proofs.Parting.{part_behind, part_of_front}
use Rattle.weave_base.specs.Causes.{HasCause}
use Rattle.weave_base.specs.Parts.{AppendsPart}
use Rattle.spool_core.specs.Answers.{IsReported, report_line, report_lines}
use Rattle.spool_core.specs.declared.report.Ran.{Ran}
use Rattle.spool_core.proofs.Lists.{cut_at, flat_map-append, more_taken, rose_later}

pub lines_more : (done : List Ran) (i : ℕ) (ran : Ran) → i < length done → ran ≡ get_or done i ran
    → report_lines (take (i + 1) done) ≡ report_lines (take i done) ++ report_line ran
lines_more done i ran lt is =
    ap report_lines (more_taken done i ran lt is) ∙ flat_map-append report_line (take i done) (ran ∷ [])
    ∙ ap (λ l. report_lines (take i done) ++ l) (append-nil (report_line ran))

-- the lines of the jobs before one, and its own
pub lines_so_far : (a b c : Option (List ℕ)) (done : List Ran) (i : ℕ) (d : Ran) (line : List ℕ) → i < length done → line ≡ report_line (get_or done i d)
    → Appends a b (report_lines (take i done)) → Appends b c line → Appends a c (report_lines (take (i + 1) done))
lines_so_far a b c done i d line lt is first next =
    let ran : Ran = get_or done i d in
    subst (λ bs. Appends a c bs) (sym (lines_more done i ran lt (get_or_default done i d ran lt)))
    (Appends-trans a b c (report_lines (take i done)) (report_line ran) first (subst (λ bs. Appends b c bs) is next))

-- the lines of the jobs before one, and a part of its own
pub part_of_lines : (a b c : Option (List ℕ)) (done : List Ran) (i : ℕ) (d : Ran) (line : List ℕ) → i < length done → line ≡ report_line (get_or done i d)
    → Appends a b (report_lines (take i done)) → AppendsPart b c line → AppendsPart a c (report_lines done)
part_of_lines a b c done i d line lt is first part =
    let ran : Ran = get_or done i d in
    let before : List ℕ = report_lines (take i done) in
    let after : List ℕ = report_lines (drop (i + 1) done) in
    let whole : report_lines done ≡ (before ++ report_line ran) ++ after =
    ap report_lines (cut_at done i ran lt (get_or_default done i d ran lt)) ∙ flat_map-append report_line (take i done) (ran ∷ drop (i + 1) done)
    ∙ sym (append_assoc before (report_line ran) after) in
    subst (λ bs. AppendsPart a c bs) (sym whole)
    (part_of_front a c (before ++ report_line ran) after
    (part_behind a b c before (report_line ran) first (subst (λ bs. AppendsPart b c bs) is part)))

-- a call that did not fail
pub all_told : {T E P : Type 0} {b : Bool} (r : Result T E) → b ≡ is_err r → OnOk r P → b ≡ false → P
all_told (Ok x) is ok fine = ok
all_told (Err e) is ok fine = absurd cc

-- all lines were written, and then the last one, or a part of it
pub tells_both : {T E : Type 0} (r : Result T E) (err : Outside) (mid : Option (List ℕ)) (faults : ℕ) (lines line bytes : List ℕ) → bytes ≡ line
    → Appends err.before mid lines → err.faults_before ≤ faults → OnOk r (Appends mid err.now bytes)
    → OnErr r (AppendsPart mid err.now bytes) → HasCause faults err.faults_now r → IsReported err (lines ++ line)
tells_both (Ok x) err mid faults lines line bytes is first later ok part cause =
    inl (Appends-trans err.before mid err.now lines line first (subst (λ bs. Appends mid err.now bs) is ok))
tells_both (Err e) err mid faults lines line bytes is first later ok part cause =
    inr (rose_later later cause.failed, part_behind err.before mid err.now lines line first (subst (λ bs. AppendsPart mid err.now bs) is part))
