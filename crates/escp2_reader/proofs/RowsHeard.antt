-- What is read within the rows of a raster.
use Rattle.std.proofs.Common.{◌≡◌, ℕ, ◌+◌, ◌-◌, ◌≤◌, List, [], ◌++◌, length, take, drop, refl, sym, ◌∙◌, ap, subst, arith}
use Rattle.std.proofs.Common.{append_assoc, append-nil, length-append}
use Rattle.std.proofs.lemmas.List.{drop_at, length-take-le, take-take, take_all}
use Rattle.std.proofs.Math.Seq.{take-append-add}
use Rattle.escp2_definitions.specs.declared.command.RasterHead.{RasterHead}
use Rattle.escp2_definitions.specs.declared.command.Command.TheVariants as c
use Rattle.escp2_definitions.specs.declared.stops.JobCause.TheVariants.{RunCode}
use Rattle.escp2_definitions.specs.Commands.{command_at, raster_rows, with_rows}
use Rattle.escp2_definitions.specs.Commands.Heard.{One, Wrong}
use Rattle.escp2_laws.proofs.Grammar.{AreBytes}
use Rattle.escp2_laws.proofs.Stands.{fault-stands}
use Rattle.escp2_rows.specs.declared.reader.RowReader.{RowReader}
use Rattle.escp2_definitions.specs.RowCode.{RowsRead}
use Rattle.escp2_rows.specs.Places.{rows_read}
use Rattle.escp2_rows.specs.Reading.{IsFault, IsMore, IsWhole, StandsFor as RowsStandFor, Takes}
use Rattle.escp2_reader.specs.declared.reader.JobReader.{JobReader}
use Rattle.escp2_reader.specs.declared.reader.Stage.{Stage}
use Rattle.escp2_reader.specs.declared.reader.Stage.TheVariants.{Rows}
use Rattle.escp2_reader.specs.Stages.{AtStage, InRows, Stands, rows_at, rows_form}
use Rattle.escp2_reader.specs.Reading.{BeginsRows, HeardMore, ShowsLast}
use Rattle.escp2_reader.proofs.Hearing.{bytes-append, bytes-take, last-behind}

-- what is read of a raster goes on after its numbers
reads-on : (raster : RasterHead) (reader : RowReader) (rows sofar bytes rest : List ℕ) (in_rows : InRows raster reader rows sofar)
    → command_at ((sofar ++ bytes) ++ rest) ≡ command_at (in_rows.front ++ (in_rows.code ++ (bytes ++ rest)))
reads-on raster reader rows sofar bytes rest in_rows =
    ap command_at (ap (λ bs. (bs ++ bytes) ++ rest) in_rows.is
    ∙ append_assoc (in_rows.front ++ in_rows.code) bytes rest
    ∙ append_assoc in_rows.front in_rows.code (bytes ++ rest))

sofar-len : (raster : RasterHead) (reader : RowReader) (rows sofar : List ℕ) (in_rows : InRows raster reader rows sofar)
    → length sofar ≡ 8 + length in_rows.code
sofar-len raster reader rows sofar in_rows =
    omega (arith, ap length in_rows.is, length-append in_rows.front in_rows.code, in_rows.front_len)

-- more of the rows
pub rows-more : {raster : RasterHead} {old new : RowReader} {begin next : ℕ} (used : ℕ) {before after : List ℕ} (sofar piece : List ℕ) {job : JobReader}
    → Stands (Rows raster old) begin next before sofar → AreBytes piece → Takes old new (take used piece) before after
    → IsMore old new piece used
    → job.stage ≡ Rows raster new → job.begin ≡ begin → job.next ≡ next + used → job.rows.items ≡ after
    → HeardMore begin job (sofar ++ take used piece)
rows-more {raster} {old} {new} {begin} used {before} sofar piece {job} stood are takes more stage begins nexts rows_are = record {
  part =
      ap command_at (sym (append-nil (sofar ++ take used piece)))
      ∙ reads-on raster old before sofar (take used piece) [] in_rows
      ∙ in_rows.reads (in_rows.code ++ (take used piece ++ []))
      ∙ ap (λ bs. with_rows raster (if_rows (in_rows.code ++ bs))) (append-nil (take used piece) ∙ all)
      ∙ ap (with_rows raster) (more.part (rows_form raster) in_rows.code before in_rows.stands);
  stands = record {
    fed = omega (arith, stood.fed, nexts, begins, length-append sofar (take used piece), length-take-le used piece within);
    bytes = bytes-append sofar (take used piece) stood.bytes (bytes-take used piece are);
    heard = let P : Stage → Type 0 = λ s. AtStage s job.begin job.rows.items (sofar ++ take used piece) in
        subst P (sym stage) record {
          front = in_rows.front;
          code = in_rows.code ++ take used piece;
          is = ap (λ bs. bs ++ take used piece) in_rows.is ∙ append_assoc in_rows.front in_rows.code (take used piece);
          front_len = in_rows.front_len;
          reads = in_rows.reads;
          stands = let Q : List ℕ → Type 0 = RowsStandFor (rows_form raster) new (in_rows.code ++ take used piece) in
              subst Q (sym (rows_are ∙ takes.appended)) (takes.gives.stands (rows_form raster) in_rows.code before in_rows.stands);
        };
  };
  begins = begins;
  none = ap (λ s. rows_at s job.rows.items) stage;
}
  where
    in_rows : InRows raster old before sofar
    in_rows = stood.heard

    if_rows : List ℕ → RowsRead
    if_rows bytes = rows_read (rows_form raster) bytes

    within : used ≤ length piece
    within = omega (arith, more.all)

    all : take used piece ≡ piece
    all = take_all used piece (omega (arith, more.all))

-- the rows, as their reader reads them
read-rows : (raster : RasterHead) (bytes : List ℕ) → raster_rows raster bytes ≡ with_rows raster (rows_read (rows_form raster) bytes)
read-rows raster bytes = refl

-- the last of the rows
pub rows-whole : {raster : RasterHead} {old new : RowReader} {begin next : ℕ} (used : ℕ) {before after : List ℕ} (sofar piece rest : List ℕ)
    → Stands (Rows raster old) begin next before sofar → used ≤ length piece → Takes old new (take used piece) before after
    → IsWhole old new piece used before after
    → command_at ((sofar ++ take used piece) ++ rest) ≡ One (c.Raster raster) after (length (sofar ++ take used piece))
rows-whole {raster} {old} used {before} {after} sofar piece rest stood within takes whole =
    reads-on raster old before sofar (take used piece) rest in_rows
    ∙ in_rows.reads (in_rows.code ++ (take used piece ++ rest))
    ∙ read-rows raster (in_rows.code ++ (take used piece ++ rest))
    ∙ ap (λ bs. with_rows raster (rows_read (rows_form raster) bs)) (sym (append_assoc in_rows.code (take used piece) rest))
    ∙ ap (with_rows raster) (whole.whole (rows_form raster) in_rows.code before rest in_rows.stands)
    ∙ ap (λ bs. One (c.Raster raster) bs (8 + length in_rows.code + used)) given
    ∙ ap (One (c.Raster raster) after) there
  where
    in_rows : InRows raster old before sofar
    in_rows = stood.heard

    given : before ++ drop (length before) after ≡ after
    given = ap (λ bs. before ++ drop (length before) bs) takes.appended
        ∙ ap (λ bs. before ++ bs) (drop_at before takes.gave (length before) refl)
        ∙ sym takes.appended

    there : 8 + length in_rows.code + used ≡ length (sofar ++ take used piece)
    there = omega (
      arith,
      sofar-len raster old before sofar in_rows,
      length-append sofar (take used piece),
      length-take-le used piece within,
    )

-- a control byte that is refused
pub rows-wrong : {raster : RasterHead} {old new : RowReader} {begin next : ℕ} (used : ℕ) {at place : ℕ} {before : List ℕ} (sofar piece rest : List ℕ)
    → Stands (Rows raster old) begin next before sofar → IsFault old new piece used at → place ≡ next + at - begin
    → command_at ((sofar ++ take used piece) ++ rest) ≡ Wrong place RunCode
rows-wrong {raster} {old} used {at} {place} {before} sofar piece rest stood fault stands =
    reads-on raster old before sofar (take used piece) rest in_rows
    ∙ in_rows.reads (in_rows.code ++ (take used piece ++ rest))
    ∙ read-rows raster (in_rows.code ++ (take used piece ++ rest))
    ∙ ap (λ bs. with_rows raster (rows_read (rows_form raster) bs)) (sym (append_assoc in_rows.code (take used piece) rest))
    ∙ ap (with_rows raster) (fault.wrong (rows_form raster) in_rows.code before rest in_rows.stands)
    ∙ ap (λ k. Wrong k RunCode) there
  where
    in_rows : InRows raster old before sofar
    in_rows = stood.heard

    there : 8 + length in_rows.code + at ≡ place
    there = omega (arith, stands, stood.fed, sofar-len raster old before sofar in_rows)

-- it is the last byte that was used
rows-last : (raster : RasterHead) (old new : RowReader) (begin next used at : ℕ) (before sofar piece : List ℕ)
    → Stands (Rows raster old) begin next before sofar → IsFault old new piece used at → ShowsLast sofar piece used
rows-last raster old new begin next used at before sofar piece stood fault = record {
  some = omega (arith, fault.last);
  before = ap (λ k. command_at (sofar ++ take k piece)) (let p : used - 1 ≡ at = omega (arith, fault.last) in p)
      ∙ ap command_at (sym front)
      ∙ (fault-stands ((sofar ++ take used piece) ++ []) (next + at - begin) RunCode
      (rows-wrong used sofar piece [] stood fault refl)).before;
}
  where
    front : take (next + at - begin) ((sofar ++ take used piece) ++ []) ≡ sofar ++ take at piece
    front = ap (λ bs. take (next + at - begin) bs) (append-nil (sofar ++ take used piece))
        ∙ ap (λ k. take k (sofar ++ take used piece)) (let p : next + at - begin ≡ length sofar + at = omega (arith, stood.fed) in p)
        ∙ take-append-add sofar (take used piece) at
        ∙ ap (λ bs. sofar ++ bs) (take-take at used piece (omega (arith, fault.last)))

-- before the rows of a raster
pub rows-begin : {raster : RasterHead} {reader : RowReader} {begin next : ℕ} (used : ℕ) {rows : List ℕ} (sofar piece : List ℕ)
    → BeginsRows raster begin next sofar (take used piece)
    → used ≤ length piece → RowsStandFor (rows_form raster) reader [] [] → rows ≡ []
    → Stands (Rows raster reader) begin (next + used) rows (sofar ++ take used piece)
rows-begin {raster} {reader} used sofar piece begins within anew none = record {
  fed = omega (arith, begins.fed, length-append sofar (take used piece), length-take-le used piece within);
  bytes = begins.are;
  heard = record {
    front = sofar ++ take used piece;
    code = [];
    is = sym (append-nil (sofar ++ take used piece));
    front_len = begins.front_len;
    reads = begins.reads;
    stands = let P : List ℕ → Type 0 = RowsStandFor (rows_form raster) reader [] in subst P (sym none) anew;
  };
}

-- a fault in rows that begin within a piece shows with the last byte that was used
pub begin-last : {raster : RasterHead} (reader : RowReader) {begin next : ℕ} (used : ℕ) {more : ℕ} {rows : List ℕ} (piece : List ℕ)
    {rest : List ℕ}
    → rest ≡ drop used piece → used ≤ length piece → RowsStandFor (rows_form raster) reader [] [] → rows ≡ []
    → ((sofar : List ℕ) → Stands (Rows raster reader) begin (next + used) rows sofar → ShowsLast sofar rest more)
    → (sofar : List ℕ) → BeginsRows raster begin next sofar (take used piece) → ShowsLast sofar piece (used + more)
begin-last reader used {more} piece {rest} is within anew none shows sofar begins =
    last-behind used more sofar piece rest is (shows (sofar ++ take used piece) (rows-begin used sofar piece begins within anew none))

-- a fault in rows shows with the last byte that was used
pub fault-last : {raster : RasterHead} {old new : RowReader} {begin next used count at : ℕ} {before piece : List ℕ}
    → count ≡ used → IsFault old new piece used at
    → (sofar : List ℕ) → Stands (Rows raster old) begin next before sofar → ShowsLast sofar piece count
fault-last {raster} {old} {new} {begin} {next} {used} {at} {before} {piece} same fault sofar stood = let P : ℕ → Type 0 =
    ShowsLast sofar piece in subst P (sym same) (rows-last raster old new begin next used at before sofar piece stood fault)
