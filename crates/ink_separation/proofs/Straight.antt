-- The curve that leaves each amount as it is.
use Rattle.std.proofs.Common.{◌≡◌, ℕ, zero, suc, ◌*◌, ◌<◌, ◌≤◌, get_or, refl, arith}
use Rattle.printer_definitions.specs.Printer.{straight_curve, tone_on}

-- its points are 16 apart
point_is : (i : ℕ) → i ≤ 16 → get_or straight_curve i 0 ≡ 16 * i
point_is zero low = refl
point_is (suc zero) low = refl
point_is (suc (suc zero)) low = refl
point_is (suc (suc (suc zero))) low = refl
point_is (suc (suc (suc (suc zero)))) low = refl
point_is (suc (suc (suc (suc (suc zero))))) low = refl
point_is (suc (suc (suc (suc (suc (suc zero)))))) low = refl
point_is (suc (suc (suc (suc (suc (suc (suc zero))))))) low = refl
point_is (suc (suc (suc (suc (suc (suc (suc (suc zero)))))))) low = refl
point_is (suc (suc (suc (suc (suc (suc (suc (suc (suc zero))))))))) low = refl
point_is (suc (suc (suc (suc (suc (suc (suc (suc (suc (suc zero)))))))))) low = refl
point_is (suc (suc (suc (suc (suc (suc (suc (suc (suc (suc (suc zero))))))))))) low = refl
point_is (suc (suc (suc (suc (suc (suc (suc (suc (suc (suc (suc (suc zero)))))))))))) low = refl
point_is (suc (suc (suc (suc (suc (suc (suc (suc (suc (suc (suc (suc (suc zero))))))))))))) low = refl
point_is (suc (suc (suc (suc (suc (suc (suc (suc (suc (suc (suc (suc (suc (suc zero)))))))))))))) low = refl
point_is (suc (suc (suc (suc (suc (suc (suc (suc (suc (suc (suc (suc (suc (suc (suc zero))))))))))))))) low = refl
point_is (suc (suc (suc (suc (suc (suc (suc (suc (suc (suc (suc (suc (suc (suc (suc (suc zero)))))))))))))))) low = refl
point_is (suc (suc (suc (suc (suc (suc (suc (suc (suc (suc (suc (suc (suc (suc (suc (suc (suc i))))))))))))))))) low =
    absurd (omega (arith, low))

-- the tone of an amount is the amount
pub straight_tone : (a : ℕ) → a < 256 → tone_on straight_curve a ≡ a
straight_tone a low = grind (arith, point_is)
