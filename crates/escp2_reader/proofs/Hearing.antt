-- What is read of the bytes since the last command, as a reader gathers them.
use Rattle.std.proofs.Common.{◌≡◌, ℕ, zero, suc, ◌+◌, ◌-◌, ◌<◌, ◌≤◌, true, false, List, [], ◌∷◌, ◌++◌, length, take, drop, get_or}
use Rattle.std.proofs.Common.{refl, sym, ◌∙◌, ap, subst, arith, append_assoc, append-nil, length-append}
use Rattle.std.proofs.lemmas.List.{length-take-le, take-append-drop, take_all, take_at, take-append-le, drop_at, take_more}
use Rattle.std.proofs.Math.Seq.{take-add}
use Rattle.escp2_definitions.specs.declared.command.Command.{Command}
use Rattle.escp2_definitions.specs.declared.command.RasterHead.{RasterHead}
use Rattle.escp2_definitions.specs.declared.stops.JobCause.{JobCause}
use Rattle.escp2_definitions.specs.Commands.{Heard, Spells, command_at, raster_rows}
use Rattle.escp2_definitions.specs.Commands.Heard.{One, Part, Wrong}
use Rattle.escp2_laws.proofs.Grammar.{AreBytes}
use Rattle.escp2_laws.proofs.Stands.{heard-spelled, one-stands_behind, one-told, wrong-stands_behind}
use Rattle.escp2_laws.proofs.Told.{TellsOne}
use Rattle.escp2_reader.specs.declared.reader.HeardState.{HeardState}
use Rattle.escp2_reader.specs.declared.reader.HeardState.TheVariants as heard
use Rattle.escp2_reader.specs.declared.reader.JobReader.{JobReader}
use Rattle.escp2_reader.specs.declared.reader.Stage.{Stage}
use Rattle.escp2_reader.specs.declared.reader.Stage.TheVariants.{Failed}
use Rattle.escp2_reader.specs.Headers.{IsRaster, IsShort}
use Rattle.escp2_reader.specs.Stages.{AtStage, Stands, is_failed_at, is_part, rows_at}
use Rattle.escp2_reader.specs.Reading.{BeginsRows, IsHeard, OnFault, ShowsLast, StandsFor, rows_of}

-- ---- bytes

pub bytes-append : (xs ys : List ℕ) → AreBytes xs → AreBytes ys → AreBytes (xs ++ ys)
bytes-append [] ys are more k = more k
bytes-append (x ∷ xs) ys are more zero = are 0
bytes-append (x ∷ xs) ys are more (suc k) = bytes-append xs ys (λ k. are (suc k)) more k

pub bytes-take : (n : ℕ) (xs : List ℕ) → AreBytes xs → AreBytes (take n xs)
bytes-take zero xs are k = omega arith
bytes-take (suc n) [] are k = omega arith
bytes-take (suc n) (x ∷ xs) are zero = are 0
bytes-take (suc n) (x ∷ xs) are (suc k) = bytes-take n xs (λ k. are (suc k)) k

-- ---- what is read stays read

part-of : (h : Heard) → is_part h ≡ true → h ≡ Part
part-of (One command rows len) e = let no : false ≡ true = e in cc
part-of Part e = refl
part-of (Wrong place cause) e = let no : false ≡ true = e in cc

pub is-part : (bytes : List ℕ) → is_part (command_at bytes) ≡ true → command_at bytes ≡ Part
is-part bytes e = part-of (command_at bytes) e

-- a command that is not whole without its last byte ends with it
one-len : (bytes : List ℕ) (last : ℕ) (command : Command) (rows : List ℕ) (len : ℕ) → command_at bytes ≡ Part
    → command_at (bytes ++ last ∷ []) ≡ One command rows len → len ≡ length (bytes ++ last ∷ [])
one-len bytes last command rows len part e = by_rest t.rest t.is
  where
    t : TellsOne command_at [] (bytes ++ last ∷ []) command rows len
    t = one-told (bytes ++ last ∷ []) command rows len e

    by_rest : (rest : List ℕ) → bytes ++ last ∷ [] ≡ t.front ++ rest → len ≡ length (bytes ++ last ∷ [])
    by_rest [] is = omega (arith, t.there, ap length is, append-nil t.front, ap length (append-nil t.front))
    by_rest (b ∷ rest) is =
        absurd (let no : One command rows len ≡ Part = sym (t.told (drop (length t.front) bytes)) ∙ ap command_at whole ∙ part in cc)
      where
        short : length t.front ≤ length bytes
        short = omega (arith, ap length is, length-append bytes (last ∷ []), length-append t.front (b ∷ rest))

        front : take (length t.front) bytes ≡ t.front
        front = sym (take-append-le (length t.front) bytes (last ∷ []) short) ∙ ap (take (length t.front)) is
            ∙ take_at t.front (b ∷ rest) (length t.front) refl

        whole : t.front ++ drop (length t.front) bytes ≡ bytes
        whole = ap (λ bs. bs ++ drop (length t.front) bytes) (sym front) ∙ take-append-drop (length t.front) bytes

-- ---- what was gathered

pub gathered-more : (first sofar piece header more : List ℕ) (i used byte : ℕ) → first ≡ sofar → header ≡ first ++ take i piece
    → more ≡ header ++ byte ∷ []
    → byte ≡ get_or piece i 0 → i < length piece → used ≡ i + 1 → sofar ++ take used piece ≡ more
gathered-more first sofar piece header more i used byte is gathered pushed read within count =
    ap (λ k. sofar ++ take k piece) count
    ∙ ap (λ bs. sofar ++ bs) (take_more piece i 0 within)
    ∙ ap (λ b. sofar ++ (take i piece ++ b ∷ [])) (sym read)
    ∙ sym (append_assoc sofar (take i piece) (byte ∷ []))
    ∙ ap (λ bs. (bs ++ take i piece) ++ byte ∷ []) (sym is)
    ∙ ap (λ bs. bs ++ byte ∷ []) (sym gathered)
    ∙ sym pushed

-- a whole command, of which the last byte was gathered
pub whole-more : (now header more rest : List ℕ) (last : ℕ) (command : Command) (len : ℕ) → now ≡ more → more ≡ header ++ last ∷ []
    → command_at header ≡ Part
    → command_at more ≡ One command [] len → command_at (now ++ rest) ≡ One command [] (length now)
whole-more now header more rest last command len is pushed part e =
    ap (λ bs. command_at (bs ++ rest)) is
    ∙ one-stands_behind more rest command [] len e
    ∙ ap (One command []) (one-len header last command [] len part (ap command_at (sym pushed) ∙ e) ∙ ap length (sym pushed)
    ∙ ap length (sym is))

-- the numbers of a raster, of which the last byte was gathered
pub raster-more : (raster : RasterHead) (begin next last : ℕ) (sofar bytes header more : List ℕ) → sofar ++ bytes ≡ more
    → more ≡ header ++ last ∷ []
    → IsShort 0 header → IsRaster raster 0 command_at more → next ≡ begin + length sofar → AreBytes sofar → AreBytes bytes
    → BeginsRows raster begin next sofar bytes
raster-more raster begin next last sofar bytes header more is pushed short reads fed are more_are = record {
  fed = fed;
  are = bytes-append sofar bytes are more_are;
  front_len = ap length is ∙ eight;
  reads = λ rest.
      ap (λ bs. command_at (bs ++ rest)) is
      ∙ reads.reads rest
      ∙ ap (λ bs. raster_rows raster (bs ++ rest)) none;
}
  where
    len : length more ≡ length header + 1
    len = ap length pushed ∙ length-append header (last ∷ [])

    second : (header : List ℕ) → 2 ≤ length header → get_or (header ++ last ∷ []) 1 0 ≡ get_or header 1 0
    second [] some = absurd (omega arith)
    second (a ∷ []) some = absurd (omega arith)
    second (a ∷ b ∷ header) some = refl

    escaped : get_or header 1 0 ≡ 0x2E
    escaped = sym (second header (omega (arith, reads.least, len))) ∙ ap (λ bs. get_or bs 1 0) (sym pushed) ∙ reads.escaped

    eight : length more ≡ 8
    eight = omega (arith, reads.least, len, short.raster escaped)

    none : drop 8 more ≡ []
    none = ap (λ bs. drop 8 bs) (sym (append-nil more)) ∙ drop_at more [] 8 eight

-- ---- answers

pub heard-one : (state : HeardState) (command : Command) (rows : List ℕ) (begin next used : ℕ) (new : JobReader) (sofar piece : List ℕ)
    → state ≡ heard.One command → used ≤ length piece → next ≡ begin + length sofar → AreBytes sofar → AreBytes piece
    → ((rest : List ℕ) → command_at ((sofar ++ take used piece) ++ rest) ≡ One command rows (length (sofar ++ take used piece)))
    → StandsFor new [] → new.begin ≡ next + used → rows_of new ≡ rows → IsHeard state begin new (sofar ++ take used piece)
heard-one state command rows begin next used new sofar piece is within fed are piece_are whole stands begins rows_are =
    let P : HeardState → Type 0 = λ s. IsHeard s begin new (sofar ++ take used piece) in
    subst P (sym is) record {
      whole = λ rest. whole rest ∙ ap (λ bs. One command bs (length (sofar ++ take used piece))) (sym rows_are);
      spelled = let Q : List ℕ → Type 0 = λ bs. Spells command bs (sofar ++ take used piece) in
          subst Q (sym rows_are) (let R : List ℕ → Type 0 = Spells command rows in
          subst R (take_all (length (sofar ++ take used piece)) (sofar ++ take used piece) (omega arith))
          (heard-spelled (sofar ++ take used piece) command rows (length (sofar ++ take used piece))
          (bytes-append sofar (take used piece) are (bytes-take used piece piece_are))
          (ap command_at (sym (append-nil (sofar ++ take used piece))) ∙ whole [])));
      stands = stands;
      begins = omega (arith, begins, fed, length-append sofar (take used piece), length-take-le used piece within);
    }

pub heard-fault : (state : HeardState) (cause : JobCause) (offset begin next used : ℕ) (new : JobReader) (sofar piece : List ℕ)
    → state ≡ heard.Fault offset cause → used ≤ length piece → next ≡ begin + length sofar → AreBytes sofar → AreBytes piece
    → begin ≤ offset
    → ((rest : List ℕ) → command_at ((sofar ++ take used piece) ++ rest) ≡ Wrong (offset - begin) cause)
    → new.stage ≡ Failed offset cause → new.begin ≡ begin → new.next ≡ next + used → IsHeard state begin new (sofar ++ take used piece)
heard-fault state cause offset begin next used new sofar piece is within fed are piece_are behind wrong stage begins nexts =
    let P : HeardState → Type 0 = λ s. IsHeard s begin new (sofar ++ take used piece) in
    subst P (sym is) record {
      behind = behind;
      wrong = wrong;
      stands = record {
        fed = omega (arith, fed, nexts, begins, length-append sofar (take used piece), length-take-le used piece within);
        bytes = bytes-append sofar (take used piece) are (bytes-take used piece piece_are);
        heard = let Q : Stage → Type 0 = λ s. AtStage s new.begin new.rows.items (sofar ++ take used piece) in
            subst Q (sym stage) record {
              behind = omega (arith, behind, begins);
              wrong = λ rest. wrong rest ∙ ap (λ b. Wrong (offset - b) cause) (sym begins);
            };
      };
      begins = begins;
      none = ap (λ s. rows_at s new.rows.items) stage;
    }

-- the same, by an equal number of bytes
pub heard-one_used : (state : HeardState) (command : Command) (rows : List ℕ) (begin next used count : ℕ) (new : JobReader)
    (sofar piece : List ℕ)
    → count ≡ used → state ≡ heard.One command → used ≤ length piece → next ≡ begin + length sofar → AreBytes sofar → AreBytes piece
    → ((rest : List ℕ) → command_at ((sofar ++ take used piece) ++ rest) ≡ One command rows (length (sofar ++ take used piece)))
    → StandsFor new [] → new.begin ≡ next + used → rows_of new ≡ rows → IsHeard state begin new (sofar ++ take count piece)
heard-one_used state command rows begin next used count new sofar piece same is within fed are piece_are whole stands begins rows_are =
    let P : ℕ → Type 0 = λ k. IsHeard state begin new (sofar ++ take k piece) in
    subst P (sym same) (heard-one state command rows begin next used new sofar piece is within fed are piece_are whole stands
    begins rows_are)

pub heard-fault_used : (state : HeardState) (cause : JobCause) (offset begin next used count : ℕ) (new : JobReader) (sofar piece : List ℕ)
    → count ≡ used → state ≡ heard.Fault offset cause → used ≤ length piece → next ≡ begin + length sofar → AreBytes sofar → AreBytes piece
    → begin ≤ offset
    → ((rest : List ℕ) → command_at ((sofar ++ take used piece) ++ rest) ≡ Wrong (offset - begin) cause)
    → new.stage ≡ Failed offset cause → new.begin ≡ begin → new.next ≡ next + used → IsHeard state begin new (sofar ++ take count piece)
heard-fault_used state cause offset begin next used count new sofar piece same is within fed are piece_are behind wrong stage begins nexts =
    let P : ℕ → Type 0 = λ k. IsHeard state begin new (sofar ++ take k piece) in
    subst P (sym same) (heard-fault state cause offset begin next used new sofar piece is within fed are piece_are behind wrong stage
    begins nexts)

pub at-begin : (state : HeardState) (begin begin' : ℕ) (new : JobReader) (bytes : List ℕ) → begin' ≡ begin → IsHeard state begin' new bytes
    → IsHeard state begin new bytes
at-begin state begin begin' new bytes same told = let P : ℕ → Type 0 = λ k. IsHeard state k new bytes in subst P same told

-- ---- a piece after another

pub pieces-join : (sofar piece : List ℕ) (used more : ℕ)
    → (sofar ++ take used piece) ++ take more (drop used piece) ≡ sofar ++ take (used + more) piece
pieces-join sofar piece used more = append_assoc sofar (take used piece) (take more (drop used piece))
    ∙ ap (λ bs. sofar ++ bs) (sym (take-add used more piece))

pub heard-behind : (state : HeardState) (begin used more : ℕ) (new : JobReader) (sofar piece rest : List ℕ) → rest ≡ drop used piece
    → IsHeard state begin new ((sofar ++ take used piece) ++ take more rest) → IsHeard state begin new (sofar ++ take (used + more) piece)
heard-behind state begin used more new sofar piece rest is told =
    let P : List ℕ → Type 0 = IsHeard state begin new in
    subst P (ap (λ bs. (sofar ++ take used piece) ++ take more bs) is ∙ pieces-join sofar piece used more) told

pub last-behind : (used more : ℕ) (sofar piece rest : List ℕ) → rest ≡ drop used piece → ShowsLast (sofar ++ take used piece) rest more
    → ShowsLast sofar piece (used + more)
last-behind used more sofar piece rest is shows = record {
  some = omega (arith, shows.some);
  before =
      let there : used + (more - 1) ≡ used + more - 1 = omega (arith, shows.some) in
      ap (λ k. command_at (sofar ++ take k piece)) (sym there)
      ∙ ap command_at (sym (ap (λ bs. (sofar ++ take used piece) ++ take (more - 1) bs) is ∙ pieces-join sofar piece used (more - 1)))
      ∙ shows.before;
}

-- from one fact of a fault another
pub on_fault : {P Q : Type 0} (state : HeardState) → OnFault state P → (P → Q) → OnFault state Q
on_fault heard.More holds shows = tt
on_fault (heard.One command) holds shows = tt
on_fault (heard.Fault offset cause) holds shows = shows holds

-- a fact that holds whatever is answered
pub on_fault_anyway : {P : Type 0} (state : HeardState) → P → OnFault state P
on_fault_anyway heard.More holds = tt
on_fault_anyway (heard.One command) holds = tt
on_fault_anyway (heard.Fault offset cause) holds = holds

-- the same for a call
pub feed-last : {stage header : Stage} {begin next used : ℕ} {rows piece : List ℕ} → header ≡ stage
    → ((sofar rows : List ℕ) → Stands header begin next rows sofar → ShowsLast sofar piece used)
    → is_failed_at stage ≡ false → (sofar : List ℕ) → Stands stage begin next rows sofar → ShowsLast sofar piece used
feed-last {begin} {next} {rows} is shows still sofar stood =
    shows sofar rows (let P : Stage → Type 0 = λ s. Stands s begin next rows sofar in subst P (sym is) stood)

-- a fault, shown by the last byte that was gathered
pub wrong-more : (now more rest : List ℕ) (place at : ℕ) (cause : JobCause) → now ≡ more → command_at more ≡ Wrong place cause → place ≡ at
    → command_at (now ++ rest) ≡ Wrong at cause
wrong-more now more rest place at cause is e there =
    ap (λ bs. command_at (bs ++ rest)) is ∙ wrong-stands_behind more rest place cause e ∙ ap (λ k. Wrong k cause) there
