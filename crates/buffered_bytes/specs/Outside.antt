-- A source or a sink, at a call and at its return.
use Rattle.std.specs.Prelude.{ℕ, List, Option}
use Rattle.weave_base.specs.Causes.{Rose}

-- A source or a sink at the call and at the return: its bytes, `None` where it does not say, and its count of faults.
pub record Outside : Type 0 where
  pub before : Option (List ℕ)
  pub now : Option (List ℕ)
  pub faults_before : ℕ
  pub faults_now : ℕ

-- the outside of a source or a sink, by its bytes and its count of faults, and by what it is at the call and at the
-- return
abbrev pub outside_of : {A : Type 0} → (A → Option (List ℕ)) → (A → ℕ) → A → A → Outside
outside_of bytes faults old new = record {
  before = bytes old;
  now = bytes new;
  faults_before = faults old;
  faults_now = faults new;
}

-- its count of faults rose
abbrev pub HasRisen : Outside → Type 0
HasRisen s = Rose s.faults_before s.faults_now

-- its count of faults did not rise
abbrev pub IsCalm : Outside → Type 0
IsCalm s = HasRisen s → ⊥
