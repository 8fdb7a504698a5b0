-- Writers that write several pieces one after the other, and stop at the first write that fails. `whole` is all that
-- they are to write, in pieces `xs` and `ys`.
use Rattle.std.proofs.Common.{◌≡◌, ℕ, ◌+◌, List, ◌++◌, length, take, Option, sym, arith, subst, length-append, Result, Ok, Err, OnErr, OnOk}
use Rattle.std.proofs.lemmas.List.{take-append-le}
use Rattle.std.proofs.Math.Seq.{take-append-add}
use Rattle.std.proofs.KnownBytes.{Appends-trans}
use Rattle.std.specs.Io.KnownBytes.{Appends}
use Rattle.weave_base.specs.Parts.{AppendsPart}

-- ---- a prefix of one piece, before or after more of the whole

-- a part of the first piece is a part of the whole
pub part_of_front : (a b : Option (List ℕ)) (xs ys : List ℕ) → AppendsPart a b xs → AppendsPart a b (xs ++ ys)
part_of_front a b xs ys p =
    let P : List ℕ → Type 0 = λ bs. Appends a b bs in
    record {
      len = p.len;
      proper = omega (arith, length-append xs ys, p.proper);
      is = subst P (sym (take-append-le p.len xs ys (omega (arith, p.proper)))) p.is;
    }

-- the first piece and a part of the second are a part of the whole
pub part_behind : (a b d : Option (List ℕ)) (xs ys : List ℕ) → Appends a b xs → AppendsPart b d ys → AppendsPart a d (xs ++ ys)
part_behind a b d xs ys first p =
    let P : List ℕ → Type 0 = λ bs. Appends a d bs in
    record {
      len = length xs + p.len;
      proper = omega (arith, length-append xs ys, p.proper);
      is = subst P (sym (take-append-add xs ys p.len)) (Appends-trans a b d xs (take p.len ys) first p.is);
    }

-- ---- the same, where a write's answer says which holds

-- a fact that always holds is one that holds at an error
pub on_err_anyway : {T E P : Type 0} (r : Result T E) → P → OnErr r P
on_err_anyway (Ok x) p = tt
on_err_anyway (Err e) p = p

-- the second write failed
pub on_err_behind : {T E : Type 0} (r : Result T E) (a b d : Option (List ℕ)) (xs ys : List ℕ) → Appends a b xs
    → OnErr r (AppendsPart b d ys) → OnErr r (AppendsPart a d (xs ++ ys))
on_err_behind (Ok x) a b d xs ys first p = tt
on_err_behind (Err e) a b d xs ys first p = part_behind a b d xs ys first p

-- the second write succeeded
pub on_ok_behind : {T E : Type 0} (r : Result T E) (a b d : Option (List ℕ)) (xs ys : List ℕ) → Appends a b xs → OnOk r (Appends b d ys)
    → OnOk r (Appends a d (xs ++ ys))
on_ok_behind (Ok x) a b d xs ys first p = Appends-trans a b d xs ys first p
on_ok_behind (Err e) a b d xs ys first p = tt

-- ---- two pieces

-- both pieces were written
pub two_ok : {T E : Type 0} (r : Result T E) (a b d : Option (List ℕ)) (whole xs ys : List ℕ) → whole ≡ xs ++ ys
    → Appends a b xs → OnOk r (Appends b d ys) → OnOk r (Appends a d whole)
two_ok r a b d whole xs ys is p q =
    let P : List ℕ → Type 0 = λ bs. OnOk r (Appends a d bs) in
    subst P (sym is) (on_ok_behind r a b d xs ys p q)

-- the second write failed
pub two_part : {T E : Type 0} (r : Result T E) (a b d : Option (List ℕ)) (whole xs ys : List ℕ) → whole ≡ xs ++ ys
    → Appends a b xs → OnErr r (AppendsPart b d ys) → OnErr r (AppendsPart a d whole)
two_part r a b d whole xs ys is p q =
    let P : List ℕ → Type 0 = λ bs. OnErr r (AppendsPart a d bs) in
    subst P (sym is) (on_err_behind r a b d xs ys p q)
