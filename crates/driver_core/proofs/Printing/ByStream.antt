-- What the stream decides about the answer.
use Rattle.std.proofs.Common.{◌≡◌, ℕ, List, [], ◌∷◌, ◌++◌, Option, Some, inl, inr, refl, sym, ◌∙◌, ap, subst}
use Rattle.std.proofs.Common.{arith, append_assoc, All}
use Rattle.std.proofs.lemmas.List.Elements.{All-get_or}
use Rattle.std.proofs.lemmas.Option.{get_or_from_slice_get, slice_get_within}
use Rattle.page_definitions.specs.Dots.{Screening}
use Rattle.driver_answer.specs.Answers.{status_of}
use Rattle.driver_answer.specs.declared.answer.Answer.TheVariants as answer
use Rattle.driver_answer.specs.declared.answer.Answer.{Answer}
use Rattle.ink_meter.specs.Accounts.{Account, HasRoom, IsFirstOver}
use Rattle.ink_meter.specs.declared.meters.OverCap.{OverCap}
use Rattle.ink_meter.proofs.Pages.{admitted-next}
use Rattle.ink_meter.specs.Counts.{Admitted, page_dots}
use Rattle.printer_definitions.specs.declared.inks.InkCounts.{InkCounts}
use Rattle.page_definitions.specs.declared.way.Way.{Way}
use Rattle.printer_definitions.specs.Printer.{Printer}
use Rattle.pwg_definitions.specs.Stream.StreamEnd.{Done, Fault}
use Rattle.pwg_definitions.specs.Stream.{Page, Stream, StreamEnd, stream}
use Rattle.separation_definitions.specs.Windows.{wanted_by}
use Rattle.driver_core.specs.Outside.{Meters, Outside}
use Rattle.driver_core.specs.Printing.One.{AnswersBy, IsCapped, IsFaulty, IsValid}
use Rattle.driver_core.specs.Printing.Outcome.{CountsPages, GoesOver, PrintOutcome}
use Rattle.driver_core.specs.Printing.Pages.{BeginsStream, IsStream}

-- one input is one stream
same_stream : (p : Printer) {before : Option (List ℕ)} {bytes : List ℕ} {s : Stream} (pages : List Page) (end : StreamEnd)
    → before ≡ Some bytes → stream (wanted_by p) bytes ≡ s → IsStream p before pages end → record { pages = pages; end = end } ≡ s
same_stream p pages end told is other =
    let S : Option (List ℕ) → Type 0 = λ b. IsStream p b pages end in
    sym (subst S told other) ∙ is

-- a meter without room is one of the meters
has_no_room : (accounts : List Account) (n : InkCounts) (over : OverCap) → IsFirstOver accounts n over → All (HasRoom n) accounts → ⊥
has_no_room accounts n over first room =
    let here = slice_get_within accounts over.index first.account first.stands in
    let has : HasRoom n first.account =
    subst (HasRoom n) (get_or_from_slice_get accounts over.index first.account first.account first.stands)
    (All-get_or (HasRoom n) accounts over.index first.account here room) in
    omega (arith, has, first.full)

-- a page that goes past a cap is not among pages that are admitted
pub never_over : {way : Way} {p : Printer} {k : Screening} {input out : Outside} {meters : Meters} {number total dots cap : ℕ} {bytes : List ℕ}
    {pages : List Page} {end : StreamEnd} → GoesOver way p k input out meters number total dots cap
    → input.before ≡ Some bytes → stream (wanted_by p) bytes ≡ record { pages = pages; end = end } → Admitted p k pages meters.before → ⊥
never_over {p = p} {k = k} {meters = meters} {pages = pages} over told is admitted =
    let B : Option (List ℕ) → Type 0 = λ b. BeginsStream p b (over.pages ++ over.page ∷ []) in
    let begins = subst B told over.told in
    let all : pages ≡ over.pages ++ over.page ∷ begins.0 =
    sym (ap (λ (s : Stream). s.pages) is) ∙ begins.1 ∙ append_assoc over.pages (over.page ∷ []) begins.0 in
    let P : List Page → Type 0 = λ pages. Admitted p k pages meters.before in
    let room = admitted-next p k over.pages over.page begins.0 meters.before (subst P all admitted) in
    has_no_room meters.now (page_dots over.page p k) _ over.first
    (subst (All (HasRoom (page_dots over.page p k))) (sym over.pages_counted.counts) room)

-- where a page has no room, not all pages were counted
never_counted : {p : Printer} {k : Screening} {input : Outside} {meters : Meters} (pages : List Page) (end : StreamEnd)
    → IsCapped p k input meters → IsStream p input.before pages end → CountsPages p k meters pages → ⊥
never_counted {p} {k} {meters = meters} pages end is told counts =
    let P : List Page → Type 0 = λ pages. Admitted p k pages meters.before in
    let same = ap (λ (s : Stream). s.pages) (same_stream p pages end is.told is.is told) in
    is.full (admitted-next p k is.pages is.page is.later meters.before (subst P same counts.admitted))

module _ (way : Way) (p : Printer) (k : Screening) (input out : Outside) (meters : Meters) where
  pub valid_ends : (a : Answer) → PrintOutcome way p k input out meters a → AnswersBy IsValid 0 p k input out meters (status_of a)
  valid_ends answer.Done does is calm_in calm_out = inl refl
  valid_ends (answer.Input page line cause) does is calm_in calm_out =
      let same = ap (λ (s : Stream). s.end) (same_stream p does.0.pages (Fault page line cause) is.told is.is does.0.told) in absurd (cc)
  valid_ends answer.Read does is calm_in calm_out = absurd (calm_in does.0)
  valid_ends (answer.Write number) does is calm_in calm_out = absurd (calm_out does.0)
  valid_ends (answer.OverCap page total dots cap) does is calm_in calm_out = absurd (never_over does is.told is.is is.room)
  valid_ends answer.Memory does is calm_in calm_out = inr refl
  valid_ends other does is calm_in calm_out = absurd does

  pub faulty_ends : (a : Answer) → PrintOutcome way p k input out meters a → AnswersBy IsFaulty 3 p k input out meters (status_of a)
  faulty_ends answer.Done does is calm_in calm_out =
      let same = ap (λ (s : Stream). s.end) (same_stream p does.0.pages Done is.told is.is does.0.told) in absurd (cc)
  faulty_ends (answer.Input page line cause) does is calm_in calm_out = inl refl
  faulty_ends answer.Read does is calm_in calm_out = absurd (calm_in does.0)
  faulty_ends (answer.Write number) does is calm_in calm_out = absurd (calm_out does.0)
  faulty_ends (answer.OverCap page total dots cap) does is calm_in calm_out = absurd (never_over does is.told is.is is.room)
  faulty_ends answer.Memory does is calm_in calm_out = inr refl
  faulty_ends other does is calm_in calm_out = absurd does

  pub capped_ends : (a : Answer) → PrintOutcome way p k input out meters a → AnswersBy IsCapped 6 p k input out meters (status_of a)
  capped_ends answer.Done does is calm_in calm_out = absurd (never_counted does.0.pages Done is does.0.told does.1)
  capped_ends (answer.Input page line cause) does is calm_in calm_out =
      absurd (never_counted does.0.pages (Fault page line cause) is does.0.told does.1)
  capped_ends answer.Read does is calm_in calm_out = absurd (calm_in does.0)
  capped_ends (answer.Write number) does is calm_in calm_out = absurd (calm_out does.0)
  capped_ends (answer.OverCap page total dots cap) does is calm_in calm_out = inl refl
  capped_ends answer.Memory does is calm_in calm_out = inr refl
  capped_ends other does is calm_in calm_out = absurd does
