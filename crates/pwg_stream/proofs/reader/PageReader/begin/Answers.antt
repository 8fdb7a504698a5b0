use Rattle.std.proofs.Common.{◌≡◌, List, ℕ, [], Option, None, Some, Err, ap, subst, sym, ◌++◌, append_assoc, ◌∙◌}
use Rattle.std.proofs.lemmas.Result.{err_from_is_err_and}
use Rattle.weave_base.proofs.Parting.{on_err_anyway}
use Rattle.buffered_bytes.specs.Text.{UsesSome, text_behind}
use Rattle.pwg_stream.proofs.Taken.{same_error, takes_fewer_from_left, takes_from_left}
use Rattle.pwg_stream.proofs.reader.PageReader.begin.Goals as goal

uses_left : (before now : Option (List ℕ)) (unread unread' : List ℕ) → unread ≡ []
    → UsesSome (text_behind unread before) (text_behind unread' now) → UsesSome before now
uses_left before now unread unread' none uses =
    by_texts before now (let P : List ℕ → Type 0 =
    λ bytes. UsesSome (text_behind bytes before) (text_behind unread' now) in subst P none uses)
  where
    by_texts : (a b : Option (List ℕ)) → UsesSome (text_behind [] a) (text_behind unread' b) → UsesSome a b
    by_texts None b u = record { bytes = []; is = tt }
    by_texts (Some xs) None u = absurd u.is
    by_texts (Some xs) (Some ys) u = record { bytes = u.bytes ++ unread'; is = u.is ∙ sym (append_assoc u.bytes unread' ys) }

pub returns-in_err-read_sync-clause-used : goal.returns-in_err-read_sync-clause-used
returns-in_err-read_sync-clause-used g c = on_err_anyway _ (uses_left _ _ _ _ c.in_ok-unread.ensures c.read_sync.ensures.used)

pub returns-in_err-read_sync-clause-taken : goal.returns-in_err-read_sync-clause-taken
returns-in_err-read_sync-clause-taken g c = λ is.
    let error = err_from_is_err_and c.from_residual-in_err-read_sync.result c.from_residual-in_err-read_sync.ensures.1 in
    takes_from_left _ _ _ c.in_ok-unread.ensures (c.in_err-read_sync.ensures.taken (ap Err (sym error.2 ∙ same_error (sym error.1 ∙ is))))

pub returns-in_err-read_sync-clause-short : goal.returns-in_err-read_sync-clause-short
returns-in_err-read_sync-clause-short g c = λ is.
    let error = err_from_is_err_and c.from_residual-in_err-read_sync.result c.from_residual-in_err-read_sync.ensures.1 in
    takes_fewer_from_left _ _ _ _ c.in_ok-unread.ensures (c.in_err-read_sync.ensures.short (ap Err (sym error.2 ∙ same_error (sym error.1 ∙ is))))
