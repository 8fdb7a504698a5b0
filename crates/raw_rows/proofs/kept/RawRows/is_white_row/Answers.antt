use Rattle.std.proofs.Common.{ℕ, ◌≡◌, ◌-◌, List, ap, arith, get_or, inl, inr, length, sym, ◌∙◌}
use Rattle.std.proofs.lemmas.Bool.{cases_lt, eq-eqb, eqb-true, false≢true}
use Rattle.pwg_definitions.specs.declared.pages.Kind.TheVariants.{Gray8, Black8, Rgb8, Black1, Cmyk8}
use Rattle.raw_rows.proofs.WhiteTiles.{part_long, row_test}
use Rattle.raw_rows.proofs.kept.RawRows.is_white_row.Goals as goal

pub are_full-requires : goal.are_full-requires
are_full-requires c =
    let kind : Gray8 ≡ c.args.self.now.separator.kind = cc in
    omega (arith, part_long c.args.self.now c.args.place c.args.r Gray8 c.row_bytes-part.result.now kind c.row_bytes-part.ensures.many)

pub are_empty-requires : goal.are_empty-requires
are_empty-requires c =
    let kind : Black8 ≡ c.args.self.now.separator.kind = cc in
    omega (arith, part_long c.args.self.now c.args.place c.args.r Black8 c.row_bytes-part.result.now kind c.row_bytes-part.ensures.many)

pub are_full-requires-in-Rgb8 : goal.are_full-requires-in-Rgb8
are_full-requires-in-Rgb8 c =
    let kind : Rgb8 ≡ c.args.self.now.separator.kind = cc in
    omega (arith, part_long c.args.self.now c.args.place c.args.r Rgb8 c.row_bytes-part.result.now kind c.row_bytes-part.ensures.many)

pub are_empty-requires-in-Black1 : goal.are_empty-requires-in-Black1
are_empty-requires-in-Black1 c =
    let kind : Black1 ≡ c.args.self.now.separator.kind = cc in
    omega (arith, part_long c.args.self.now c.args.place c.args.r Black1 c.row_bytes-part.result.now kind c.row_bytes-part.ensures.many)

pub are_empty-requires-in-Cmyk8 : goal.are_empty-requires-in-Cmyk8
are_empty-requires-in-Cmyk8 c =
    let kind : Cmyk8 ≡ c.args.self.now.separator.kind = cc in
    omega (arith, part_long c.args.self.now c.args.place c.args.r Cmyk8 c.row_bytes-part.result.now kind c.row_bytes-part.ensures.many)

pub returns-in-Gray8 : goal.returns-in-Gray8
returns-in-Gray8 c =
    let kind : Gray8 ≡ c.args.self.now.separator.kind = cc in
    row_test c.args.self.now c.args.place c.args.r Gray8 c.row_bytes-part.result.now c.are_full.result kind c.row_bytes-part.ensures.are
    c.are_full.ensures

pub returns-in-Black8 : goal.returns-in-Black8
returns-in-Black8 c =
    let kind : Black8 ≡ c.args.self.now.separator.kind = cc in
    row_test c.args.self.now c.args.place c.args.r Black8 c.row_bytes-part.result.now c.are_empty.result kind c.row_bytes-part.ensures.are
    c.are_empty.ensures

pub returns-in-Rgb8 : goal.returns-in-Rgb8
returns-in-Rgb8 c =
    let kind : Rgb8 ≡ c.args.self.now.separator.kind = cc in
    row_test c.args.self.now c.args.place c.args.r Rgb8 c.row_bytes-part.result.now c.are_full-in-Rgb8.result kind c.row_bytes-part.ensures.are
    c.are_full-in-Rgb8.ensures

pub returns-then-are_empty : goal.returns-then-are_empty
returns-then-are_empty c =
    let kind : Black1 ≡ c.args.self.now.separator.kind = cc in
    let part : List ℕ = c.row_bytes-part.result.now in
    let last : ℕ = length part - 1 in
    let long = part_long c.args.self.now c.args.place c.args.r Black1 part kind c.row_bytes-part.ensures.many in
    row_test c.args.self.now c.args.place c.args.r Black1 part _ kind c.row_bytes-part.ensures.are (
      λ empty k low. elim (cases_lt k 8) [
        | inl first ↦ c.are_empty-in-Black1.ensures.0 c.if-are_empty.true k first
        | inr behind ↦
            let place : k ≡ last = omega (arith, long, low, behind) in
            ap (λ n. get_or part n 0) place ∙ eqb-true (get_or part last 0) 0 empty
      ],
      λ white. eq-eqb (get_or part last 0) 0 (white last (omega (arith, long))),
    )

pub returns-else-are_empty : goal.returns-else-are_empty
returns-else-are_empty c =
    let kind : Black1 ≡ c.args.self.now.separator.kind = cc in
    row_test c.args.self.now c.args.place c.args.r Black1 c.row_bytes-part.result.now _ kind c.row_bytes-part.ensures.are (
      λ yes. absurd (false≢true (sym c.if-are_empty.false ∙ yes)),
      λ white. c.are_empty-in-Black1.ensures.1 (λ k low. white k (omega (arith, low))),
    )

pub returns-in-Cmyk8 : goal.returns-in-Cmyk8
returns-in-Cmyk8 c =
    let kind : Cmyk8 ≡ c.args.self.now.separator.kind = cc in
    row_test c.args.self.now c.args.place c.args.r Cmyk8 c.row_bytes-part.result.now c.are_empty-in-Cmyk8.result kind c.row_bytes-part.ensures.are
    c.are_empty-in-Cmyk8.ensures
