use Rattle.std.proofs.Common.{ℕ, ◌≡◌, ◌+◌, ◌-◌, ◌*◌, ◌/◌, ◌%◌, ◌<◌, List, ap, arith, drop, get_or, inl, inr, length, min, take, ◌∙◌}
use Rattle.std.proofs.lemmas.List.{get_or-drop, get_or-take}
use Rattle.base_definitions.specs.Packed.{bit_at, worth}
use Rattle.pwg_definitions.specs.Header.{line_bytes, row_of}
use Rattle.raw_rows.specs.Raw.{line_in}
use Rattle.raw_rows.proofs.TileRows.{no_part, part_of_bits}
use Rattle.raw_rows.proofs.kept.RawRows.put_bit_row.Goals as goal

pub returns-then-self-y : goal.returns-then-self-y
returns-then-self-y c =
    no_part _ _ _ _ _ (λ offset x in_row. elim c.then-self-y.either [
      | inl past ↦ omega (arith, past, in_row.down)
      | inr none ↦ omega (arith, none, c.span-span.ensures.from offset x in_row, c.span-span.ensures.to offset x in_row)
    ])

pub returns : goal.returns
returns c =
    let raw = c.args.self.now in
    let s = raw.separator in
    let span = c.span-span.result in
    let line : List ℕ = c.line-line.result.now in
    let from : ℕ = span.first / 8 in
    let rest : List ℕ = take (length line - from) (drop from line) in
    let inside = c.span-span.ensures.inside (omega arith) in
    let long : length line ≡ line_bytes (s.window.left + s.window.width) 1 =
    c.line-line.ensures.long ∙ ap (λ k. line_bytes (s.window.left + s.window.width) (row_of k).bits_per_pixel) c.requires.kind in
    record {
      part = part_of_bits raw c.args.place c.args.r (64 * c.args.r) span c.put_bytes.new.rows c.requires.kind c.span-span.ensures (λ k low.
          let n : ℕ = (span.first % 8 + k) / 8 in
          let place : from + n ≡ (span.first + k) / 8 = omega arith in
          let bit : (span.first % 8 + k) % 8 ≡ (span.first + k) % 8 = omega arith in
          let within : n < length line - from = omega (arith, inside, long, low) in
          ap (λ b. min 1 b) (c.put_bytes.ensures.there k low) ∙ c.bits_of-bits.ensures k low
          ∙ ap (λ b. worth (bit_at b ((span.first % 8 + k) % 8)) 1)
          (get_or-take (length line - from) (drop from line) n 0 within ∙ get_or-drop from line n 0
          ∙ ap (λ m. get_or line m 0) place ∙ ap (λ (xs : List ℕ). get_or xs ((span.first + k) / 8) 0) c.line-line.ensures.is)
          ∙ ap (λ m. worth (bit_at (get_or (line_in raw (32 * c.args.place.j + c.args.r)) ((span.first + k) / 8) 0) m) 1) bit);
      above = λ n low. c.put_bytes.ensures.before n (omega arith);
    }
