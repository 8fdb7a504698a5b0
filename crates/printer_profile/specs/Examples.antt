-- Texts of a small profile.
use Rattle.std.specs.Prelude.{ℕ, List, [], ◌∷◌, ◌++◌, codes}

-- the lines of the built-in profile `tiny` that say more than the defaults
abbrev pub tiny_lines : List ℕ
tiny_lines = codes "hdpi=360\nvdpi=360\nnozzles=3\npitch=2\ninks=k\ntop=4\n"

-- the same lines behind the first line of a version
abbrev pub tiny_one : List ℕ
tiny_one = codes "escp2-profile 1\n" ++ tiny_lines

abbrev pub tiny_two : List ℕ
tiny_two = codes "escp2-profile 2\n" ++ tiny_lines

-- a curve of black that prints light tones lighter, and its line
abbrev pub light_curve : List ℕ
light_curve = 0 ∷ 8 ∷ 16 ∷ 24 ∷ 32 ∷ 48 ∷ 64 ∷ 80 ∷ 96 ∷ 112 ∷ 128 ∷ 144 ∷ 160 ∷ 184 ∷ 208 ∷ 232 ∷ 256 ∷ []

abbrev pub light_line : List ℕ
light_line = codes "curve_k=0,8,16,24,32,48,64,80,96,112,128,144,160,184,208,232,256\n"
