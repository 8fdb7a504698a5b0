-- Whatever the answer, what was appended has no more rasters than the whole page.
use Rattle.std.proofs.Common.{ℕ, ◌≤◌, List, [], take, drop, refl, sym, ◌∙◌, ap, arith, append-nil, take-append-drop}
use Rattle.std.proofs.Common.{Option, None, Some, Result, Ok, Err}
use Rattle.std.specs.Prelude.{IsErrOf, OnOk}
use Rattle.std.specs.Io.KnownBytes.{Appends, Keeps}
use Rattle.escp2_definitions.specs.Commands.{commands, commands_from}
use Rattle.escp2_definitions.specs.Rasters.{ink_rasters}
use Rattle.escp2_laws.proofs.Stands.{prefix-rasters}
use Rattle.printer_definitions.specs.declared.inks.Ink.{Ink}
use Rattle.weave_base.specs.Parts.{AppendsPart}
use Rattle.page_writer.specs.AtMost.{AppendsAtMost}
use Rattle.page_writer.specs.declared.strokes.WriteStop.{WriteStop}
use Rattle.page_writer.specs.declared.strokes.WriteStop.TheVariants as stop
use Rattle.page_writer.specs.declared.sums.PageSum.{PageSum}

-- no bytes have no rasters
no_rasters : (ink : Ink) (most : ℕ) → ink_rasters ink (commands []).entries ≤ most
unfolding commands_from
no_rasters ink most = omega arith

-- Whatever the answer, what was appended has as few rasters as the whole page.
pub appends_at_most : (most : ℕ) (old new : Option (List ℕ)) (whole : List ℕ) (result : Result PageSum WriteStop)
    → OnOk result (Appends old new whole) → (IsErrOf result stop.Write → AppendsPart old new whole)
    → (IsErrOf result stop.Memory → Keeps old new)
    → ((ink : Ink) → ink_rasters ink (commands whole).entries ≤ most) → AppendsAtMost most old new
appends_at_most most old new whole (Ok sum) ok part kept few = record { bytes = whole; is = ok; few = few }
appends_at_most most old new whole (Err stop.Write) ok part kept few =
    let piece : AppendsPart old new whole = part refl in
    let front : List ℕ = take piece.len whole in
    record {
      bytes = front;
      is = piece.is;
      few = λ ink. omega (
        arith,
        few ink,
        prefix-rasters ink front (drop piece.len whole),
        ap (λ bs. ink_rasters ink (commands bs).entries) (take-append-drop piece.len whole),
      );
    }
appends_at_most most old new whole (Err stop.Memory) ok part kept few = record {
  bytes = [];
  is = kept_nothing old new (kept refl);
  few = λ ink. no_rasters ink most;
}
  where
    kept_nothing : (old new : Option (List ℕ)) → Keeps old new → Appends old new []
    kept_nothing None new is = tt
    kept_nothing (Some x) None is = absurd is
    kept_nothing (Some x) (Some y) is = is ∙ sym (append-nil x)
