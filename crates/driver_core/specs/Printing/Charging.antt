-- A page that meters refuse.
use Rattle.std.specs.Prelude.{◌≡◌, ℕ, List}
use Rattle.driver_answer.specs.declared.answer.Answer.{Answer}
use Rattle.driver_answer.specs.declared.answer.Answer.TheVariants as answer
use Rattle.ink_meter.specs.Accounts.{Account, IsFirstOver, all_inks}
use Rattle.printer_definitions.specs.declared.inks.InkCounts.{InkCounts}

-- The answer is that this page is refused: the first meter without room for its dots has this total and this cap.
pub record RefusesPage (number : ℕ) (n : InkCounts) (accounts : List Account) (a : Answer) : Type 0 where
  pub index : ℕ
  pub total : ℕ
  pub cap : ℕ
  pub first : IsFirstOver accounts n (record { index = index; total = total; cap = cap })
  pub is : a ≡ answer.OverCap number total (all_inks n) cap
