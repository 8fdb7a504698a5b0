-- What is sent to an outlet, one part after another.
use Rattle.std.proofs.Common.{◌≡◌, List, [], ◌++◌, ℕ, Option, Result, Ok, Err, OnErr, OnOk, sym, ◌∙◌, ap, subst, append_assoc, append-nil}
use Rattle.std.specs.Io.KnownBytes.{Appends}
use Rattle.std.proofs.KnownBytes.{Appends-nil, Appends-trans}
use Rattle.weave_base.specs.Parts.{AppendsPart}
use Rattle.weave_base.proofs.Parting.{part_behind, part_of_front}
use Rattle.page_writer.specs.Outlets.{Gathers, GathersPart, Outlet, outlet_of}

-- nothing was sent
pub gathers_nothing : (a : Outlet) → Gathers a a []
gathers_nothing a = record { taken = []; appends = Appends-nil a.held; is = append-nil a.waiting }

-- bytes wait behind those that already do
pub gathers_behind : {a : Outlet} {held : Option (List ℕ)} {waiting : List ℕ} (xs ys : List ℕ)
    → Gathers a (outlet_of held waiting) xs → Gathers a (outlet_of held (waiting ++ ys)) (xs ++ ys)
gathers_behind {a} {held} {waiting} xs ys p = record {
  taken = p.taken;
  appends = p.appends;
  is = sym (append_assoc a.waiting xs ys) ∙ ap (λ bs. bs ++ ys) p.is ∙ append_assoc p.taken waiting ys;
}

-- all that waited was written, and bytes are written after it
pub written_behind : {T E : Type 0} (r : Result T E) (a b d : Option (List ℕ)) (waiting : List ℕ) {rest : List ℕ} (bytes : List ℕ)
    → Appends a b waiting → rest ≡ [] → OnOk r (Appends b d bytes)
    → OnOk r (Gathers (outlet_of a waiting) (outlet_of d rest) bytes)
written_behind (Ok x) a b d waiting {rest} bytes p none q = record {
  taken = waiting ++ bytes;
  appends = Appends-trans a b d waiting bytes p q;
  is = sym (append-nil (waiting ++ bytes)) ∙ ap (λ bs. (waiting ++ bytes) ++ bs) (sym none);
}
written_behind (Err e) a b d waiting bytes p none q = tt

-- one part after another
pub gathers_both : {a b d : Outlet} (xs ys : List ℕ) → Gathers a b xs → Gathers b d ys → Gathers a d (xs ++ ys)
gathers_both {a} {b} {d} xs ys p q = record {
  taken = p.taken ++ q.taken;
  appends = Appends-trans a.held b.held d.held p.taken q.taken p.appends q.appends;
  is = sym (append_assoc a.waiting xs ys)
      ∙ ap (λ bs. bs ++ ys) p.is
      ∙ append_assoc p.taken b.waiting ys
      ∙ ap (λ bs. p.taken ++ bs) q.is
      ∙ sym (append_assoc p.taken q.taken d.waiting);
}

-- the first part was sent, and the second fails
pub fails_behind : {a b : Outlet} {held : Option (List ℕ)} (xs ys : List ℕ)
    → Gathers a b xs → GathersPart b held ys → GathersPart a held (xs ++ ys)
fails_behind {a} {b} {held} xs ys p part =
    let P : List ℕ → Type 0 = AppendsPart a.held held in
    let is : a.waiting ++ (xs ++ ys) ≡ p.taken ++ (b.waiting ++ ys) =
    sym (append_assoc a.waiting xs ys) ∙ ap (λ bs. bs ++ ys) p.is ∙ append_assoc p.taken b.waiting ys in
    subst P (sym is) (part_behind a.held b.held held p.taken (b.waiting ++ ys) p.appends part)

-- the same of a last part that waits with all that does, where a write of these may fail
pub last_behind : {T E : Type 0} (r : Result T E) {a b : Outlet} (held : Option (List ℕ)) {waiting : List ℕ} (ys : List ℕ)
    → Gathers a b [] → waiting ≡ b.waiting ++ ys → OnErr r (AppendsPart b.held held waiting)
    → OnErr r (AppendsPart a.held held (a.waiting ++ ys))
last_behind (Ok x) held ys p is part = tt
last_behind (Err e) {a} {b} held ys p is part =
    let P : List ℕ → Type 0 = AppendsPart b.held held in fails_behind [] ys p (subst P is part)

-- the first part fails
pub fails_before : (a : Outlet) {held : Option (List ℕ)} (xs ys : List ℕ) → GathersPart a held xs → GathersPart a held (xs ++ ys)
fails_before a {held} xs ys part =
    let P : List ℕ → Type 0 = AppendsPart a.held held in
    subst P (append_assoc a.waiting xs ys) (part_of_front a.held held (a.waiting ++ xs) ys part)

-- bytes were sent, and then all that waits was written, and more
pub gathers_all : {a b : Outlet} (held : Option (List ℕ)) (xs ys : List ℕ)
    → Gathers a b xs → Appends b.held held (b.waiting ++ ys) → Appends a.held held (a.waiting ++ (xs ++ ys))
gathers_all {a} {b} held xs ys p rest =
    let P : List ℕ → Type 0 = Appends a.held held in
    let is : a.waiting ++ (xs ++ ys) ≡ p.taken ++ (b.waiting ++ ys) =
    sym (append_assoc a.waiting xs ys) ∙ ap (λ bs. bs ++ ys) p.is ∙ append_assoc p.taken b.waiting ys in
    subst P (sym is) (Appends-trans a.held b.held held p.taken (b.waiting ++ ys) p.appends rest)
