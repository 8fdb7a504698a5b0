-- What a run reads, writes and asks, at the call and at the return, and at moments between them.
use Rattle.std.specs.Prelude.{◌≡◌, ℕ, ◌≤◌, List, Option, Some, None, IsSome}
use Rattle.std.specs.Io.KnownBytes.{Appends}
use Rattle.buffered_bytes.specs.Outside.{IsCalm, Outside}
use Rattle.weave_base.specs.Shelf.{NamedText, text_named}

-- ---- sinks and shelves

-- A shelf: its texts, if it shows them, and its count of faults at the call and at the return. The texts stay.
pub record Texts : Type 0 where
  pub files : Option (List NamedText)
  pub faults_before : ℕ
  pub faults_now : ℕ

-- the texts of a shelf, by what it is at the call and at the return
abbrev pub texts_of : {A : Type 0} → (A → Option (List NamedText)) → (A → ℕ) → A → A → Texts
texts_of files faults old new = record { files = files old; faults_before = faults old; faults_now = faults new }

-- What a run reads, writes and asks.
pub record Sides : Type 0 where
  pub input : Outside
  pub out : Outside
  pub err : Outside
  pub shelf : Texts

-- if the sink did not fail, it grew by exactly these bytes
abbrev pub Tells : Outside → List ℕ → Type 0
Tells s bytes = IsCalm s → Appends s.before s.now bytes

-- the shelf has the text that stops a run, if it shows what it holds
abbrev pub ShelfHas : Option (List ℕ) → Option (List NamedText) → Type 0
ShelfHas None files = ⊥
ShelfHas (Some name) None = Unit {0}
ShelfHas (Some name) (Some files) = IsSome (text_named name files)

-- no text stops the run, or the shelf lacks it, if it shows what it holds
abbrev pub ShelfLacks : Option (List ℕ) → Option (List NamedText) → Type 0
ShelfLacks None files = Unit {0}
ShelfLacks (Some name) None = Unit {0}
ShelfLacks (Some name) (Some files) = text_named name files ≡ None

-- ---- moments

-- The sinks and the shelf at a moment of a run: what the sinks hold, if they show it, and the counts of faults.
pub record Moment : Type 0 where
  pub out : Option (List ℕ)
  pub out_faults : ℕ
  pub err : Option (List ℕ)
  pub err_faults : ℕ
  pub shelf_faults : ℕ

-- the moment of an output, an error sink and a shelf
abbrev pub moment_of : {K E L : Type 0} → (K → Option (List ℕ)) → (K → ℕ) → (E → Option (List ℕ)) → (E → ℕ) → (L → ℕ)
    → K → E → L → Moment
moment_of held faults err_held err_faults shelf_faults out err shelf = record {
  out = held out;
  out_faults = faults out;
  err = err_held err;
  err_faults = err_faults err;
  shelf_faults = shelf_faults shelf;
}

-- the output from one moment to another
abbrev pub out_from : Moment → Moment → Outside
out_from from to = record { before = from.out; now = to.out; faults_before = from.out_faults; faults_now = to.out_faults }

-- the error sink from one moment to another
abbrev pub err_from : Moment → Moment → Outside
err_from from to = record { before = from.err; now = to.err; faults_before = from.err_faults; faults_now = to.err_faults }

-- No count of faults fell.
pub record IsLater (from to : Moment) : Type 0 where
  pub out : from.out_faults ≤ to.out_faults
  pub err : from.err_faults ≤ to.err_faults
  pub shelf : from.shelf_faults ≤ to.shelf_faults
