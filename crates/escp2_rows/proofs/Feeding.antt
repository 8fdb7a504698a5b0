-- The calls of a reader: what is read of a piece so far.
use Rattle.std.proofs.Common.{◌≡◌, ℕ, zero, suc, ◌+◌, ◌-◌, ◌*◌, ◌<◌, ◌≤◌, ◌==◌, ◌||◌, Bool, true, false, if◌then◌else◌, List, [], ◌++◌}
use Rattle.std.proofs.Common.{length, take, drop, refl, sym, ◌∙◌, ap, subst, arith, append_assoc, append-nil, length-append, length-drop}
use Rattle.std.proofs.lemmas.Bool.{eqb-false, eqb-true, lt-ltb}
use Rattle.std.proofs.lemmas.List.{drop_at, length-take-le, take_all}
use Rattle.std.proofs.Math.Seq.{take-add}
use Rattle.escp2_definitions.specs.RowCode.{with_front}
use Rattle.escp2_definitions.specs.RowCode.RowsRead.{RowsAre, RowsPart, RowsWrong}
use Rattle.escp2_rows.specs.declared.reader.RowReader.{RowReader}
use Rattle.escp2_rows.specs.declared.reader.Place.{Place}
use Rattle.escp2_rows.specs.declared.reader.Place.TheVariants.{Packet, Literal, Repeated, Failed}
use Rattle.escp2_rows.specs.Places.{Stands, is_failed, least_pending, pending, read_on, rest_at, rows_read}
use Rattle.escp2_rows.specs.Reading.{IsFault, IsMore, IsWhole, StandsFor, Takes, bytes_left_of, is_done_of}
use Rattle.escp2_rows.proofs.Steps.{rest-none, rest-part}

-- This many bytes of the piece are read.
pub record FedSoFar (old now : RowReader) (piece : List ℕ) (used : ℕ) (before after : List ℕ) (len capacity : ℕ) : Type 0 where
  pub within : used ≤ length piece
  pub begun : is_failed now.place ≡ true → 1 ≤ used
  pub takes : Takes old now (take used piece) before after
  pub room : len + bytes_left_of now ≤ capacity

-- a test of two, where neither holds
neither : (a b : Bool) → a || b ≡ false → (a ≡ false) × (b ≡ false)
neither true b e = absurd (let no : true ≡ false = e in cc)
neither false b e = (refl, e)

-- a test of two that holds, where the first does not
either : (a b : Bool) → a || b ≡ true → a ≡ false → b ≡ true
either true b e first = absurd (let both : true ≡ false = first in cc)
either false b e first = e

-- nothing is read
pub fed_begin : (reader : RowReader) (piece bytes : List ℕ) (len capacity : ℕ) → is_done_of reader ≡ false
    → len + bytes_left_of reader ≤ capacity
    → FedSoFar reader reader piece 0 bytes bytes len capacity
fed_begin reader piece bytes len capacity is_open room = record {
  within = omega arith;
  begun = λ failed. absurd (let no : true ≡ false = sym failed ∙ (neither _ _ is_open).0 in cc);
  takes = record {
    gave = [];
    appended = sym (append-nil bytes);
    gives = record {
      left = omega arith;
      stands = λ form sofar given stood.
          let P : List ℕ → Type 0 = λ bs. StandsFor form reader bs (given ++ []) in
          let Q : List ℕ → Type 0 = λ bs. StandsFor form reader sofar bs in
          subst P (sym (append-nil sofar)) (subst Q (sym (append-nil given)) stood);
    };
  };
  room = room;
}

-- one more part is read
pub fed_step : {old now new : RowReader} {piece rest : List ℕ} {used more : ℕ} {before middle after : List ℕ}
    {len capacity len' capacity' : ℕ}
    → FedSoFar old now piece used before middle len capacity → rest ≡ drop used piece → 0 < more → more ≤ length rest
    → Takes now new (take more rest) middle after → len' + bytes_left_of new ≤ capacity'
    → FedSoFar old new piece (used + more) before after len' capacity'
fed_step {new} {piece} {rest} {used} {more} {before} so_far behind some fits takes room = record {
  within = omega (arith, so_far.within, length-drop used piece, ap length behind);
  begun = λ failed. omega arith;
  takes = record {
    gave = first ++ second;
    appended = takes.appended ∙ ap (λ bs. bs ++ second) so_far.takes.appended ∙ append_assoc before first second;
    gives = record {
      left = omega (arith, takes.gives.left, so_far.takes.gives.left, length-append first second);
      stands = λ form sofar given stood.
          let joined : (sofar ++ take used piece) ++ take more rest ≡ sofar ++ take (used + more) piece =
          append_assoc sofar (take used piece) (take more rest) ∙ ap (λ bs. sofar ++ (take used piece ++ take more bs)) behind
          ∙ ap (λ bs. sofar ++ bs) (sym (take-add used more piece)) in
          let P : List ℕ → Type 0 = λ bs. StandsFor form new bs (given ++ (first ++ second)) in
          let Q : List ℕ → Type 0 = λ bs. StandsFor form new ((sofar ++ take used piece) ++ take more rest) bs in
          subst P joined (subst Q (append_assoc given first second)
          (takes.gives.stands form (sofar ++ take used piece) (given ++ first) (so_far.takes.gives.stands form sofar given stood)));
    };
  };
  room = room;
}
  where
    first : List ℕ
    first = so_far.takes.gave

    second : List ℕ
    second = takes.gave

-- ---- the answers

-- nothing is known from no bytes
read_on-nothing : (place : Place) (most left m width at : ℕ) → is_failed place ≡ false → 0 < left → least_pending place ≤ pending place
    → (is_failed place ≡ false → left - pending place ≤ most) → read_on place most left m width at [] ≡ RowsPart
read_on-nothing Packet most left m width at still some begun enough =
    let fits : left - 0 ≤ most = enough refl in
    let one_most : most ≡ suc (most - 1) = omega arith in
    let one_left : left ≡ suc (left - 1) = omega arith in
    ap (λ k. rest_at k left m width at []) one_most
    ∙ ap (λ k. rest_at (suc (most - 1)) k m width at []) one_left
    ∙ rest-part (most - 1) (left - 1) m width at [] refl
read_on-nothing (Literal n) most left m width at still some begun enough =
    ap (λ b. if b then RowsPart else with_front (take n []) (rest_at most (left - n) m width (at + n) (drop n []))) (lt-ltb 0 n begun)
read_on-nothing (Repeated n) most left m width at still some begun enough = refl
read_on-nothing Failed most left m width at still some begun enough = absurd (let no : true ≡ false = still in cc)

-- the piece ends
pub fed_more : {old now : RowReader} {piece : List ℕ} {used : ℕ} {before after : List ℕ} {len capacity : ℕ}
    → FedSoFar old now piece used before after len capacity → is_done_of now ≡ false → used ≡ length piece → IsMore old now piece used
fed_more {now} {piece} {used} so_far is_open all = record {
  all = all;
  is_open = is_open;
  part = λ form sofar given stood.
      let stands : Stands form now.place now.row_left now.rows_left now.row_bytes (sofar ++ take used piece) (given ++ so_far.takes.gave) =
      so_far.takes.gives.stands form sofar given stood in
      let whole : sofar ++ piece ≡ (sofar ++ take used piece) ++ [] =
      ap (λ bs. sofar ++ bs) (sym (take_all used piece (omega arith))) ∙ sym (append-nil (sofar ++ take used piece)) in
      ap (rows_read form) whole
      ∙ stands.is []
      ∙ ap (with_front (given ++ so_far.takes.gave))
      (read_on-nothing now.place stands.most now.row_left now.rows_left now.row_bytes (form.at + length (sofar ++ take used piece))
      tests.0 some_left now.begun stands.enough);
}
  where
    tests : (is_failed now.place ≡ false) × ((bytes_left_of now == 0) ≡ false)
    tests = neither _ _ is_open

    some_left : 0 < now.row_left
    some_left = by_left now.row_left now.rows_left now.ended (eqb-false _ _ tests.1)
      where
        by_left : (left rows : ℕ) → (left ≡ 0 → rows ≡ 0) → (left + rows * now.row_bytes ≡ 0 → ⊥) → 0 < left
        by_left zero rows ended some = absurd (some (ap (λ k. 0 + k * now.row_bytes) (ended refl) ∙ omega arith))
        by_left (suc left) rows ended some = omega arith

-- the place where nothing is left
read_on-end : (place : Place) (most left m width at : ℕ) (rest : List ℕ) → is_failed place ≡ false → left ≡ 0 → m ≡ 0 → pending place ≤ left
    → least_pending place ≤ pending place → read_on place most left m width at rest ≡ RowsAre [] at
read_on-end Packet most left m width at rest still none no_rows fits begun =
    ap (λ k. rest_at most k m width at rest) none ∙ ap (λ k. rest_at most 0 k width at rest) no_rows ∙ rest-none most width at rest
read_on-end (Literal n) most left m width at rest still none no_rows fits begun = absurd (omega arith)
read_on-end (Repeated n) most left m width at rest still none no_rows fits begun = absurd (omega arith)
read_on-end Failed most left m width at rest still none no_rows fits begun = absurd (let no : true ≡ false = still in cc)

-- a place that is not that of a fault
not-failed : (place : Place) → (place ≡ Failed → ⊥) → is_failed place ≡ false
not-failed Packet not = refl
not-failed (Literal n) not = refl
not-failed (Repeated n) not = refl
not-failed Failed not = absurd (not refl)

-- the rows end
pub fed_whole : {old now : RowReader} {piece : List ℕ} {used : ℕ} {before after : List ℕ} {len capacity : ℕ}
    → FedSoFar old now piece used before after len capacity → is_done_of now ≡ true → (now.place ≡ Failed → ⊥)
    → IsWhole old now piece used before after
fed_whole {now} {piece} {used} {before} {after} so_far done not = record {
  none_left = none;
  whole = λ form sofar given rest stood.
      let gave : List ℕ = so_far.takes.gave in
      let stands : Stands form now.place now.row_left now.rows_left now.row_bytes (sofar ++ take used piece) (given ++ gave) =
      so_far.takes.gives.stands form sofar given stood in
      let there : form.at + length (sofar ++ take used piece) ≡ form.at + length sofar + used =
      omega (arith, length-append sofar (take used piece), length-take-le used piece so_far.within) in
      let new : gave ≡ drop (length before) after = sym (ap (λ bs. drop (length before) bs) so_far.takes.appended
      ∙ drop_at before gave (length before) refl) in
      stands.is rest
      ∙ ap (with_front (given ++ gave))
      (read_on-end now.place stands.most now.row_left now.rows_left now.row_bytes (form.at + length (sofar ++ take used piece)) rest
      still none_in_row (now.ended none_in_row) now.fits now.begun)
      ∙ ap (λ bs. RowsAre bs (form.at + length (sofar ++ take used piece))) (append-nil (given ++ gave))
      ∙ ap (λ bs. RowsAre (given ++ bs) (form.at + length (sofar ++ take used piece))) new
      ∙ ap (RowsAre (given ++ drop (length before) after)) there;
}
  where
    still : is_failed now.place ≡ false
    still = not-failed now.place not

    none : bytes_left_of now ≡ 0
    none = eqb-true _ _ (either _ _ done still)

    none_in_row : now.row_left ≡ 0
    none_in_row = omega (arith, none)

-- the place of a fault
failed-is : (place : Place) → place ≡ Failed → is_failed place ≡ true
failed-is place is = ap is_failed is

-- a test of two holds where the first does
or-left : (a b : Bool) → a ≡ true → a || b ≡ true
or-left true b e = refl
or-left false b e = absurd (let no : false ≡ true = e in cc)

-- a fault is found
pub fed_fault : {old now : RowReader} {piece : List ℕ} {used : ℕ} {before after : List ℕ} {len capacity : ℕ}
    → FedSoFar old now piece used before after len capacity → now.place ≡ Failed → IsFault old now piece used (used - 1)
fed_fault {now} {piece} {used} so_far failed = record {
  last = omega (arith, some);
  done = or-left _ _ (failed-is now.place failed);
  wrong = λ form sofar given rest stood.
      let stands : Stands form now.place now.row_left now.rows_left now.row_bytes (sofar ++ take used piece) (given ++ so_far.takes.gave) =
      so_far.takes.gives.stands form sofar given stood in
      let there : form.at + length (sofar ++ take used piece) - 1 ≡ form.at + length sofar + (used - 1) =
      omega (arith, some, length-append sofar (take used piece), length-take-le used piece so_far.within) in
      stands.is rest
      ∙ ap (λ p. with_front (given ++ so_far.takes.gave)
      (read_on p stands.most now.row_left now.rows_left now.row_bytes (form.at + length (sofar ++ take used piece)) rest)) failed
      ∙ ap RowsWrong there;
}
  where
    some : 1 ≤ used
    some = so_far.begun (failed-is now.place failed)
