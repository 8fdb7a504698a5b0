-- The parts of a setup that is the same as another.
use Rattle.std.proofs.Common.{◌≡◌, ap}
use Rattle.driver_core.specs.declared.print.setup.PrintSetup.{PrintSetup}

pub same-profile : {a b : PrintSetup} → a ≡ b → a.profile ≡ b.profile
same-profile same = ap (λ (how : PrintSetup). how.profile) same

pub same-kernel : {a b : PrintSetup} → a ≡ b → a.kernel ≡ b.kernel
same-kernel same = ap (λ (how : PrintSetup). how.kernel) same

pub same-grain : {a b : PrintSetup} → a ≡ b → a.grain ≡ b.grain
same-grain same = ap (λ (how : PrintSetup). how.grain) same

pub same-way : {a b : PrintSetup} → a ≡ b → a.way ≡ b.way
same-way same = ap (λ (how : PrintSetup). how.way) same
