-- The lines of a page, group by group.
use Rattle.std.proofs.Common.{◌≡◌, ℕ, zero, suc, ◌-◌, ◌≤◌, List, [], ◌++◌, length, replicate, refl, sym, ◌∙◌, ap, arith, append_assoc}
use Rattle.pwg_definitions.specs.declared.pages.Kind.{Kind}
use Rattle.pwg_definitions.specs.declared.pages.Kind.TheVariants.{Gray8, Black8, Rgb8, Black1, Cmyk8}
use Rattle.pwg_definitions.specs.Header.{KindRow, row_of}
use Rattle.pwg_definitions.specs.Groups.{GroupRead, group_at}
use Rattle.pwg_definitions.specs.Groups.GroupRead.{Group, Part, Wrong}
use Rattle.pwg_definitions.specs.Stream.{LinesRead, lines_at, with_lines}
use Rattle.pwg_definitions.specs.Stream.LinesRead.{Lines, Stop}
use Rattle.pwg_laws.proofs.PageLaws.{group_at-sized}
use Rattle.pwg_laws.proofs.PageSpelling.{lines_at-read}

pub with-none : (r : LinesRead) → with_lines [] r ≡ r
with-none (Lines lines rest) = refl
with-none (Stop line why) = refl

pub with-both : (xs ys : List (List ℕ)) (r : LinesRead) → with_lines xs (with_lines ys r) ≡ with_lines (xs ++ ys) r
with-both xs ys (Lines lines rest) = ap (λ ls. Lines ls rest) (sym (append_assoc xs ys lines))
with-both xs ys (Stop line why) = refl

pub lines_at-none : (row : KindRow) (units height most : ℕ) (bytes : List ℕ) → lines_at row units height most zero bytes ≡ Lines [] bytes
unfolding lines_at
lines_at-none row units height most bytes = refl

-- as many groups as lines are enough
pub lines_at-enough : (row : KindRow) (units height most most' left : ℕ) (bytes : List ℕ)
    → length row.white ≡ row.unit → left ≤ most → left ≤ most'
    → lines_at row units height most left bytes ≡ lines_at row units height most' left bytes
lines_at-enough row units height most most' zero bytes white enough enough' =
    lines_at-none row units height most bytes ∙ sym (lines_at-none row units height most' bytes)
lines_at-enough row units height zero most' (suc left) bytes white enough enough' = absurd (omega arith)
lines_at-enough row units height (suc most) zero (suc left) bytes white enough enough' = absurd (omega arith)
lines_at-enough row units height (suc most) (suc most') (suc left) bytes white enough enough' = by_group
    (λ l bs. lines_at-enough row units height most most' l bs white) (group_at row units (suc left) bytes) refl
  where
    by_group : ((left : ℕ) (bytes : List ℕ) → left ≤ most
        → left ≤ most' → lines_at row units height most left bytes ≡ lines_at row units height most' left bytes)
        → (r : GroupRead) → group_at row units (suc left) bytes ≡ r
        → lines_at row units height (suc most) (suc left) bytes ≡ lines_at row units height (suc most') (suc left) bytes
    by_group same Part is = lines_at-read row units height most left bytes Part is
        ∙ sym (lines_at-read row units height most' left bytes Part is)
    by_group same (Wrong place fault) is = lines_at-read row units height most left bytes (Wrong place fault) is
        ∙ sym (lines_at-read row units height most' left bytes (Wrong place fault) is)
    by_group same (Group repeats line rest) is =
        let sized = group_at-sized row units (suc left) bytes repeats line rest white is in
        lines_at-read row units height most left bytes (Group repeats line rest) is
        ∙ ap (with_lines (replicate repeats line)) (same (suc left - repeats) rest (omega (arith, sized.some)) (omega (arith, sized.some)))
        ∙ sym (lines_at-read row units height most' left bytes (Group repeats line rest) is)

-- a white unit of a kind is a unit
pub white-unit : (kind : Kind) → length (row_of kind).white ≡ (row_of kind).unit
white-unit Gray8 = refl
white-unit Black8 = refl
white-unit Rgb8 = refl
white-unit Black1 = refl
white-unit Cmyk8 = refl
