-- A fault in the lines of a page, as the rest of the page is read.
use Rattle.std.proofs.Common.{◌≡◌, ℕ, zero, suc, ◌+◌, ◌-◌, ◌<◌, ◌≤◌, List, Option, None, Some, IfSome, Err, refl, sym, ◌∙◌, ap}
use Rattle.std.proofs.Common.{arith, ◌⊎◌, inl, inr}
use Rattle.pwg_definitions.specs.declared.faults.InputCause.{InputCause}
use Rattle.pwg_definitions.specs.declared.faults.InputCause.TheVariants as cause
use Rattle.pwg_definitions.specs.declared.pages.PageForm.{PageForm}
use Rattle.pwg_definitions.specs.Header.{line_units, row_of}
use Rattle.pwg_definitions.specs.Groups.GroupRead.{Part, Wrong}
use Rattle.pwg_definitions.specs.Stream.LinesRead.{Stop}
use Rattle.pwg_laws.proofs.PageSpelling.{lines_at-read}
use Rattle.pwg_lines.specs.declared.reader.LineReader.{LineReader}
use Rattle.pwg_lines.specs.Reading as lines
use Rattle.pwg_stream.specs.declared.groups.GroupStop.{GroupStop}
use Rattle.pwg_stream.specs.declared.groups.GroupStop.TheVariants as fault
use Rattle.pwg_stream.specs.declared.reader.PageReader.{PageReader}
use Rattle.pwg_stream.specs.Groups.{IsBadGroup, IsNoGroup, OnNoGroup}
use Rattle.pwg_stream.specs.Reading.{HasLineFault, current_form, form_in, group_of, lines_left_in, lines_left_of, lines_of, text_of}
use Rattle.pwg_stream.specs.Stops.{OnInput, line_stop}

stop_here : (form : PageForm) (left line : ℕ) (text : List ℕ) (why : InputCause) → 0 < left → line + left ≡ form.height + 1
    → left ≤ form.height
    → IsNoGroup (group_of form left text) why ⊎ IsBadGroup (group_of form left text) why → lines_of form left text ≡ Stop line why
stop_here form zero line text why some place within found = absurd (omega arith)
stop_here form (suc left) line text why some place within (inl none) =
    let at : form.height - suc left + 1 ≡ line = omega arith in
    lines_at-read (row_of form.kind) (line_units (row_of form.kind) form.width) form.height left left text Part none.0
    ∙ ap (λ k. Stop k cause.Truncated) at ∙ ap (Stop line) (sym none.1)
stop_here form (suc left) line text why some place within (inr bad) =
    let at : form.height - suc left + 1 ≡ line = omega arith in
    lines_at-read (row_of form.kind) (line_units (row_of form.kind) form.width) form.height left left text
    (Wrong bad.place bad.fault) bad.wrong
    ∙ ap (λ k. Stop k (cause.Line bad.fault)) at ∙ ap (Stop line) (sym bad.why_is)

if_some : {T : Type 0} (P Q : T → Type 0) (o : Option T) → ((x : T) → P x → Q x) → IfSome o P → IfSome o Q
if_some P Q None f h = tt
if_some P Q (Some x) f h = f x h

pub same_form : (reader : LineReader) (form : PageForm) → Some (lines.form_of reader) ≡ Some form → lines.form_of reader ≡ form
same_form reader form e = cc

-- the stop of a group is a fault at this line of the current page
pub line_fault : (reader : PageReader) (now : LineReader) (before : Option (List ℕ)) (line : ℕ) (why : GroupStop) → reader.lines ≡ Some now
    → 0 < lines.lines_left_of now
    → line + lines.lines_left_of now ≡ (lines.form_of now).height + 1
    → OnNoGroup {T =
    ℕ} (Err why) (λ w. IfSome (text_of reader before) (λ text. IsNoGroup (lines.next_group now text) w
    ⊎ IsBadGroup (lines.next_group now text) w))
    → OnInput {T = ℕ} (Err (line_stop reader.page line why)) (HasLineFault reader before)
line_fault reader now before line fault.Read is some place found = tt
line_fault reader now before line (fault.Input why) is some place found =
    let left_is : lines_left_of reader ≡ lines.lines_left_of now = ap lines_left_in is in
    let form_is : current_form reader ≡ Some (lines.form_of now) = ap form_in is in
    record {
      page_is = refl;
      line_is = λ form e.
          let same : lines.form_of now ≡ form = same_form now form (sym form_is ∙ e) in
          ap (λ k. line + k) left_is ∙ place ∙ ap (λ (f : PageForm). f.height + 1) same;
      fault = λ form e.
          let same : lines.form_of now ≡ form = same_form now form (sym form_is ∙ e) in
          if_some (λ text. IsNoGroup (lines.next_group now text) why ⊎ IsBadGroup (lines.next_group now text) why)
          (λ text. lines_of form (lines_left_of reader) text ≡ Stop line why)
          (text_of reader before)
          (λ text h.
          ap (λ k. lines_of form k text) left_is
          ∙ ap (λ f. lines_of f (lines.lines_left_of now) text) (sym same)
          ∙ stop_here (lines.form_of now) (lines.lines_left_of now) line text why some place (omega arith) h)
          found;
    }
