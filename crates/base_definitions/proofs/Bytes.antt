-- Tests of all bytes, by their eight dots, that one computation settles.
use Rattle.std.proofs.Common.{◌≡◌, ℕ, ◌+◌, Bool, true, false, ◌&&◌}
use Rattle.std.proofs.lemmas.Bool.{and_parts}
use Rattle.base_definitions.specs.Packed.{worth}

-- the byte of eight dots, the first in its highest bit
abbrev pub byte_of : Bool → Bool → Bool → Bool → Bool → Bool → Bool → Bool → ℕ
byte_of a b d e f g h i = worth a 128 + worth b 64 + worth d 32 + worth e 16 + worth f 8 + worth g 4 + worth h 2 + worth i 1

-- a test of both truth values
abbrev pub both : (Bool → Bool) → Bool
both test = test true && test false

-- each value passes it
pub both-at : (test : Bool → Bool) → both test ≡ true → (b : Bool) → test b ≡ true
both-at test e true = (and_parts (test true) (test false) e).0
both-at test e false = (and_parts (test true) (test false) e).1

-- a test of all values of eight dots
abbrev pub each_byte : (Bool → Bool → Bool → Bool → Bool → Bool → Bool → Bool → Bool) → Bool
each_byte test = both (λ a. both (λ b. both (λ d. both (λ e. both (λ f. both (λ g. both (λ h. both (λ i. test a b d e f g h i))))))))

-- each eight dots pass it
pub each_byte-at : (test : Bool → Bool → Bool → Bool → Bool → Bool → Bool → Bool → Bool) → each_byte test ≡ true
    → (a b d e f g h i : Bool) → test a b d e f g h i ≡ true
each_byte-at test all a b d e f g h i =
    let from_h : Bool → Bool = λ x. both (λ z. test a b d e f g x z) in
    let from_g : Bool → Bool = λ x. both (λ y. both (λ z. test a b d e f x y z)) in
    let from_f : Bool → Bool = λ x. both (λ w. both (λ y. both (λ z. test a b d e x w y z))) in
    let from_e : Bool → Bool = λ x. both (λ v. both (λ w. both (λ y. both (λ z. test a b d x v w y z)))) in
    let from_d : Bool → Bool = λ x. both (λ u. both (λ v. both (λ w. both (λ y. both (λ z. test a b x u v w y z))))) in
    let from_b : Bool → Bool = λ x. both (λ t. both (λ u. both (λ v. both (λ w. both (λ y. both (λ z. test a x t u v w y z)))))) in
    let from_a : Bool → Bool = λ x. both (λ s. both (λ t. both (λ u. both (λ v. both (λ w. both (λ y. both (λ z. test x s t u v w y z))))))) in
    both-at (test a b d e f g h) (both-at from_h (both-at from_g (both-at from_f
    (both-at from_e (both-at from_d (both-at from_b (both-at from_a all a) b) d) e) f) g) h) i
