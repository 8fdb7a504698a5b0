-- What is read of a command is decided by its first bytes, whatever follows, and what is whole is spelled.
use Rattle.std.proofs.Common.{◌≡◌, ℕ, ◌==◌, Bool, true, false, if◌then◌else◌, List, [], ◌∷◌, ◌++◌, refl, sym, ap, subst, arith}
use Rattle.std.proofs.lemmas.Bool.{eqb-true}
use Rattle.std.proofs.lemmas.Bool.Decides.{nat_tests}
use Rattle.escp2_definitions.specs.declared.command.Command.TheVariants as c
use Rattle.escp2_definitions.specs.declared.stops.JobCause.TheVariants.{Unknown}
use Rattle.escp2_definitions.specs.Commands.{Heard, colour_code, command_at, escape, ink_of, is_bottom, is_colour, is_length, is_off}
use Rattle.escp2_definitions.specs.Commands.{is_position, is_some, is_switch, number, paren, raster_at, sized, two_bytes, whole}
use Rattle.escp2_definitions.specs.Commands.{wide_number}
use Rattle.escp2_definitions.specs.Commands.Heard.{Wrong}
use Rattle.escp2_laws.proofs.RasterTold.{both, raster_at-told}
use Rattle.escp2_laws.proofs.Told.{Told, told-branch, told-number, told-sized, told-whole, told-wide, wrong-byte}

-- ---- colours

-- the ink of a colour code has that code
colour-is : (n : ℕ) → is_colour n ≡ true → colour_code (ink_of n) ≡ n
colour-is n ok = grind (arith, eqb-true, nat_tests)

-- ---- what follows `ESC (`

-- each byte of the table after `ESC (`
paren-told : (bytes : List ℕ) → Told paren (0x1B ∷ 0x28 ∷ []) bytes (paren bytes)
paren-told [] = tt
paren-told (b ∷ rest) = by_graphics (b == 0x47) refl
  where
    before : List ℕ
    before = 0x1B ∷ 0x28 ∷ []

    by_down_by : (b == 0x47) ≡ false → (b == 0x55) ≡ false → (b == 0x69) ≡ false → (b == 0x43) ≡ false → (b == 0x63) ≡ false
        → (b == 0x56) ≡ false
        → (t : Bool) → (b == 0x76) ≡ t → Told paren before (b ∷ rest) (paren (b ∷ rest))
    by_down_by e1 e2 e3 e4 e5 e6 true e =
        told-branch paren (sized 2 (wide_number is_position 5 (λ n. whole (c.DownBy n) 7))) before b 0x76 rest (eqb-true _ _ e)
        (λ more. refl)
        (told-sized 2 (wide_number is_position 5 (λ n. whole (c.DownBy n) 7)) (0x1B ∷ 0x28 ∷ 0x76 ∷ []) rest refl
        (λ rest. told-wide is_position 5 (λ n. whole (c.DownBy n) 7) (0x1B ∷ 0x28 ∷ 0x76 ∷ 2 ∷ 0 ∷ []) rest refl
        (λ n ok rest. told-whole (c.DownBy n) 7 (0x1B ∷ 0x28 ∷ 0x76 ∷ 2 ∷ 0 ∷ two_bytes n) rest refl ok refl refl refl)))
    by_down_by e1 e2 e3 e4 e5 e6 false e =
        let wrong : (more : List ℕ) → paren (b ∷ more) ≡ Wrong 2 Unknown = λ more. rw (e1, e2, e3, e4, e5, e6, e) refl in
        let P : Heard → Type 0 = Told paren before (b ∷ rest) in
        subst P (sym (wrong rest)) (wrong-byte paren before b rest 2 Unknown refl wrong)

    by_down_to : (b == 0x47) ≡ false → (b == 0x55) ≡ false → (b == 0x69) ≡ false → (b == 0x43) ≡ false → (b == 0x63) ≡ false
        → (t : Bool) → (b == 0x56) ≡ t → Told paren before (b ∷ rest) (paren (b ∷ rest))
    by_down_to e1 e2 e3 e4 e5 true e =
        told-branch paren (sized 2 (wide_number is_position 5 (λ n. whole (c.DownTo n) 7))) before b 0x56 rest (eqb-true _ _ e)
        (λ more. refl)
        (told-sized 2 (wide_number is_position 5 (λ n. whole (c.DownTo n) 7)) (0x1B ∷ 0x28 ∷ 0x56 ∷ []) rest refl
        (λ rest. told-wide is_position 5 (λ n. whole (c.DownTo n) 7) (0x1B ∷ 0x28 ∷ 0x56 ∷ 2 ∷ 0 ∷ []) rest refl
        (λ n ok rest. told-whole (c.DownTo n) 7 (0x1B ∷ 0x28 ∷ 0x56 ∷ 2 ∷ 0 ∷ two_bytes n) rest refl ok refl refl refl)))
    by_down_to e1 e2 e3 e4 e5 false e = by_down_by e1 e2 e3 e4 e5 e (b == 0x76) refl

    by_margins : (b == 0x47) ≡ false → (b == 0x55) ≡ false → (b == 0x69) ≡ false → (b == 0x43) ≡ false
        → (t : Bool) → (b == 0x63) ≡ t → Told paren before (b ∷ rest) (paren (b ∷ rest))
    by_margins e1 e2 e3 e4 true e =
        told-branch paren (sized 4
        (wide_number is_position 5 (λ top. wide_number (is_bottom top) 7 (λ bottom. whole (c.Margins top bottom) 9)))) before b 0x63
        rest (eqb-true _ _ e) (λ more. refl)
        (told-sized 4 (wide_number is_position 5 (λ top. wide_number (is_bottom top) 7 (λ bottom. whole (c.Margins top bottom) 9)))
        (0x1B ∷ 0x28 ∷ 0x63 ∷ []) rest refl
        (λ rest. told-wide is_position 5 (λ top. wide_number (is_bottom top) 7 (λ bottom. whole (c.Margins top bottom) 9))
        (0x1B ∷ 0x28 ∷ 0x63 ∷ 4 ∷ 0 ∷ []) rest refl
        (λ top top_ok rest. told-wide (is_bottom top) 7 (λ bottom. whole (c.Margins top bottom) 9)
        (0x1B ∷ 0x28 ∷ 0x63 ∷ 4 ∷ 0 ∷ two_bytes top) rest refl
        (λ bottom ok rest. told-whole (c.Margins top bottom) 9 (0x1B ∷ 0x28 ∷ 0x63 ∷ 4 ∷ 0 ∷ (two_bytes top ++ two_bytes bottom)) rest refl
        (both _ _ top_ok ok) refl refl refl))))
    by_margins e1 e2 e3 e4 false e = by_down_to e1 e2 e3 e4 e (b == 0x56) refl

    by_length : (b == 0x47) ≡ false → (b == 0x55) ≡ false → (b == 0x69) ≡ false
        → (t : Bool) → (b == 0x43) ≡ t → Told paren before (b ∷ rest) (paren (b ∷ rest))
    by_length e1 e2 e3 true e =
        told-branch paren (sized 2 (wide_number is_length 5 (λ n. whole (c.Length n) 7))) before b 0x43 rest (eqb-true _ _ e) (λ more. refl)
        (told-sized 2 (wide_number is_length 5 (λ n. whole (c.Length n) 7)) (0x1B ∷ 0x28 ∷ 0x43 ∷ []) rest refl
        (λ rest. told-wide is_length 5 (λ n. whole (c.Length n) 7) (0x1B ∷ 0x28 ∷ 0x43 ∷ 2 ∷ 0 ∷ []) rest refl
        (λ n ok rest. told-whole (c.Length n) 7 (0x1B ∷ 0x28 ∷ 0x43 ∷ 2 ∷ 0 ∷ two_bytes n) rest refl ok refl refl refl)))
    by_length e1 e2 e3 false e = by_margins e1 e2 e3 e (b == 0x63) refl

    by_micro_weave : (b == 0x47) ≡ false → (b == 0x55) ≡ false → (t : Bool) → (b == 0x69) ≡ t
        → Told paren before (b ∷ rest) (paren (b ∷ rest))
    by_micro_weave e1 e2 true e =
        told-branch paren (sized 1 (number is_off 5 (λ n. whole (c.MicroWeave n) 6))) before b 0x69 rest (eqb-true _ _ e) (λ more. refl)
        (told-sized 1 (number is_off 5 (λ n. whole (c.MicroWeave n) 6)) (0x1B ∷ 0x28 ∷ 0x69 ∷ []) rest refl
        (λ rest. told-number is_off 5 (λ n. whole (c.MicroWeave n) 6) (0x1B ∷ 0x28 ∷ 0x69 ∷ 1 ∷ 0 ∷ []) rest refl
        (λ n ok rest. told-whole (c.MicroWeave n) 6 (0x1B ∷ 0x28 ∷ 0x69 ∷ 1 ∷ 0 ∷ n ∷ []) rest refl ok refl refl refl)))
    by_micro_weave e1 e2 false e = by_length e1 e2 e (b == 0x43) refl

    by_unit : (b == 0x47) ≡ false → (t : Bool) → (b == 0x55) ≡ t → Told paren before (b ∷ rest) (paren (b ∷ rest))
    by_unit e1 true e =
        told-branch paren (sized 1 (number is_some 5 (λ m. whole (c.Unit m) 6))) before b 0x55 rest (eqb-true _ _ e) (λ more. refl)
        (told-sized 1 (number is_some 5 (λ m. whole (c.Unit m) 6)) (0x1B ∷ 0x28 ∷ 0x55 ∷ []) rest refl
        (λ rest. told-number is_some 5 (λ m. whole (c.Unit m) 6) (0x1B ∷ 0x28 ∷ 0x55 ∷ 1 ∷ 0 ∷ []) rest refl
        (λ m ok rest. told-whole (c.Unit m) 6 (0x1B ∷ 0x28 ∷ 0x55 ∷ 1 ∷ 0 ∷ m ∷ []) rest refl ok refl refl refl)))
    by_unit e1 false e = by_micro_weave e1 e (b == 0x69) refl

    by_graphics : (t : Bool) → (b == 0x47) ≡ t → Told paren before (b ∷ rest) (paren (b ∷ rest))
    by_graphics true e =
        told-branch paren (sized 1 (number (λ n. n == 1) 5 (λ n. whole c.Graphics 6))) before b 0x47 rest (eqb-true _ _ e) (λ more. refl)
        (told-sized 1 (number (λ n. n == 1) 5 (λ n. whole c.Graphics 6)) (0x1B ∷ 0x28 ∷ 0x47 ∷ []) rest refl
        (λ rest. told-number (λ n. n == 1) 5 (λ n. whole c.Graphics 6) (0x1B ∷ 0x28 ∷ 0x47 ∷ 1 ∷ 0 ∷ []) rest refl
        (λ n ok rest. told-whole c.Graphics 6 (0x1B ∷ 0x28 ∷ 0x47 ∷ 1 ∷ 0 ∷ n ∷ []) rest refl refl refl refl
        (ap (λ n. 0x1B ∷ 0x28 ∷ 0x47 ∷ 1 ∷ 0 ∷ n ∷ []) (eqb-true n 1 ok)))))
    by_graphics false e = by_unit e (b == 0x55) refl

-- ---- what follows `ESC`

-- each byte of the table after `ESC`
escape-told : (bytes : List ℕ) → Told escape (0x1B ∷ []) bytes (escape bytes)
escape-told [] = tt
escape-told (b ∷ rest) = by_init (b == 0x40) refl
  where
    before : List ℕ
    before = 0x1B ∷ []

    by_paren : (b == 0x40) ≡ false → (b == 0x55) ≡ false → (b == 0x24) ≡ false → (b == 0x72) ≡ false → (b == 0x2E) ≡ false
        → (t : Bool) → (b == 0x28) ≡ t → Told escape before (b ∷ rest) (escape (b ∷ rest))
    by_paren e1 e2 e3 e4 e5 true e = told-branch escape paren before b 0x28 rest (eqb-true _ _ e) (λ more. refl) (paren-told rest)
    by_paren e1 e2 e3 e4 e5 false e =
        let wrong : (more : List ℕ) → escape (b ∷ more) ≡ Wrong 1 Unknown = λ more. rw (e1, e2, e3, e4, e5, e) refl in
        let P : Heard → Type 0 = Told escape before (b ∷ rest) in
        subst P (sym (wrong rest)) (wrong-byte escape before b rest 1 Unknown refl wrong)

    by_raster : (b == 0x40) ≡ false → (b == 0x55) ≡ false → (b == 0x24) ≡ false → (b == 0x72) ≡ false
        → (t : Bool) → (b == 0x2E) ≡ t → Told escape before (b ∷ rest) (escape (b ∷ rest))
    by_raster e1 e2 e3 e4 true e = told-branch escape raster_at before b 0x2E rest (eqb-true _ _ e) (λ more. refl) (raster_at-told rest)
    by_raster e1 e2 e3 e4 false e = by_paren e1 e2 e3 e4 e (b == 0x28) refl

    by_colour : (b == 0x40) ≡ false → (b == 0x55) ≡ false → (b == 0x24) ≡ false
        → (t : Bool) → (b == 0x72) ≡ t → Told escape before (b ∷ rest) (escape (b ∷ rest))
    by_colour e1 e2 e3 true e =
        told-branch escape (number is_colour 2 (λ n. whole (c.Colour (ink_of n)) 3)) before b 0x72 rest (eqb-true _ _ e) (λ more. refl)
        (told-number is_colour 2 (λ n. whole (c.Colour (ink_of n)) 3) (0x1B ∷ 0x72 ∷ []) rest refl
        (λ n ok rest. told-whole (c.Colour (ink_of n)) 3 (0x1B ∷ 0x72 ∷ n ∷ []) rest refl refl refl refl
        (ap (λ n. 0x1B ∷ 0x72 ∷ n ∷ []) (sym (colour-is n ok)))))
    by_colour e1 e2 e3 false e = by_raster e1 e2 e3 e (b == 0x2E) refl

    by_across : (b == 0x40) ≡ false → (b == 0x55) ≡ false → (t : Bool) → (b == 0x24) ≡ t → Told escape before (b ∷ rest) (escape (b ∷ rest))
    by_across e1 e2 true e =
        told-branch escape (wide_number is_position 2 (λ n. whole (c.Across n) 4)) before b 0x24 rest (eqb-true _ _ e) (λ more. refl)
        (told-wide is_position 2 (λ n. whole (c.Across n) 4) (0x1B ∷ 0x24 ∷ []) rest refl
        (λ n ok rest. told-whole (c.Across n) 4 (0x1B ∷ 0x24 ∷ two_bytes n) rest refl ok refl refl refl))
    by_across e1 e2 false e = by_colour e1 e2 e (b == 0x72) refl

    by_one_way : (b == 0x40) ≡ false → (t : Bool) → (b == 0x55) ≡ t → Told escape before (b ∷ rest) (escape (b ∷ rest))
    by_one_way e1 true e =
        told-branch escape (number is_switch 2 (λ n. whole (c.OneWay n) 3)) before b 0x55 rest (eqb-true _ _ e) (λ more. refl)
        (told-number is_switch 2 (λ n. whole (c.OneWay n) 3) (0x1B ∷ 0x55 ∷ []) rest refl
        (λ n ok rest. told-whole (c.OneWay n) 3 (0x1B ∷ 0x55 ∷ n ∷ []) rest refl ok refl refl refl))
    by_one_way e1 false e = by_across e1 e (b == 0x24) refl

    by_init : (t : Bool) → (b == 0x40) ≡ t → Told escape before (b ∷ rest) (escape (b ∷ rest))
    by_init true e =
        told-branch escape (whole c.Init 2) before b 0x40 rest (eqb-true _ _ e) (λ more. refl)
        (told-whole c.Init 2 (0x1B ∷ 0x40 ∷ []) rest refl refl refl refl refl)
    by_init false e = by_one_way e (b == 0x55) refl

-- ---- commands

-- each first byte of the table
pub command-told : (bytes : List ℕ) → Told command_at [] bytes (command_at bytes)
unfolding command_at
command-told [] = tt
command-told (b ∷ rest) = by_escape (b == 0x1B) refl
  where
    by_eject : (b == 0x1B) ≡ false → (b == 0x0D) ≡ false → (t : Bool) → (b == 0x0C) ≡ t
        → Told command_at [] (b ∷ rest) (command_at (b ∷ rest))
    by_eject e1 e2 true e =
        told-branch command_at (whole c.Eject 1) [] b 0x0C rest (eqb-true _ _ e) (λ more. refl)
        (told-whole c.Eject 1 (0x0C ∷ []) rest refl refl refl refl refl)
    by_eject e1 e2 false e =
        let wrong : (more : List ℕ) → command_at (b ∷ more) ≡ Wrong 0 Unknown = λ more. rw (e1, e2, e) refl in
        let P : Heard → Type 0 = Told command_at [] (b ∷ rest) in
        subst P (sym (wrong rest)) (wrong-byte command_at [] b rest 0 Unknown refl wrong)

    by_return : (b == 0x1B) ≡ false → (t : Bool) → (b == 0x0D) ≡ t → Told command_at [] (b ∷ rest) (command_at (b ∷ rest))
    by_return e1 true e =
        told-branch command_at (whole c.Return 1) [] b 0x0D rest (eqb-true _ _ e) (λ more. refl)
        (told-whole c.Return 1 (0x0D ∷ []) rest refl refl refl refl refl)
    by_return e1 false e = by_eject e1 e (b == 0x0C) refl

    by_escape : (t : Bool) → (b == 0x1B) ≡ t → Told command_at [] (b ∷ rest) (command_at (b ∷ rest))
    by_escape true e = told-branch command_at escape [] b 0x1B rest (eqb-true _ _ e) (λ more. refl) (escape-told rest)
    by_escape false e = by_return e (b == 0x0D) refl
