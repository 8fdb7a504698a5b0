-- The outside of a run, at the call and at the return.
use Rattle.std.specs.Prelude.{ℕ, List, Option, map}
use Rattle.std.specs.Io.KnownBytes.{Keeps}
use Rattle.ink_meter.specs.Accounts.{Account}
use Rattle.weave_base.specs.Causes.{Rose}
use Rattle.weave_base.specs.Shelf.{NamedText}
pub use Rattle.buffered_bytes.specs.Outside.{HasRisen, IsCalm, Outside, outside_of}

-- A shelf: its texts, where it reports them, and its count of faults at the call and at the return.
pub record Texts : Type 0 where
  pub told : Option (List NamedText)
  pub faults_before : ℕ
  pub faults_now : ℕ

-- the texts of a shelf, by what it is at the call and at the return
abbrev pub texts_of : {A : Type 0} → (A → Option (List NamedText)) → (A → ℕ) → A → A → Texts
texts_of files faults old new = record { told = files old; faults_before = faults old; faults_now = faults new }

abbrev pub HasFailed : Texts → Type 0
HasFailed shelf = Rose shelf.faults_before shelf.faults_now

-- What meters have counted and may count, at the call and at the return.
pub record Meters : Type 0 where
  pub before : List Account
  pub now : List Account

-- the accounts of meters, by what they are at the call and at the return
abbrev pub meters_of : {A : Type 0} → (A → Account) → List A → List A → Meters
meters_of account old new = record { before = map account old; now = map account new }

-- What a run reads, writes and counts on, except the error sink.
pub record Outsides : Type 0 where
  pub shelf : Texts
  pub input : Outside
  pub out : Outside
  pub meters : Meters

-- nothing of the input was used, and nothing was written
abbrev pub Untouched : Outsides → Type 0
Untouched o = Keeps o.input.before o.input.now × Keeps o.out.before o.out.now
