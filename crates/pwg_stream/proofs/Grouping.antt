-- A group that is fed to a reader of lines, piece by piece.
use Rattle.std.proofs.Common.{◌≡◌, ℕ, zero, suc, ◌+◌, ◌*◌, ◌<◌, ◌≤◌, List, [], ◌∷◌, ◌++◌, length, take, slice_index, Option, None, Some}
use Rattle.std.proofs.Common.{IfSome, refl, sym, ◌∙◌, ap, subst, arith, length-append, ◌⊎◌, inr}
use Rattle.std.proofs.lemmas.List.{take_all}
use Rattle.std.specs.Io.KnownBytes.{Consumes, Keeps}
use Rattle.std.proofs.KnownBytes.{Consumes-kept, Consumes-nil, Consumes-trans}
use Rattle.pwg_definitions.specs.declared.faults.LineFault.{LineFault}
use Rattle.pwg_definitions.specs.declared.faults.InputCause.TheVariants as cause
use Rattle.pwg_definitions.specs.declared.pages.PageForm.{PageForm}
use Rattle.pwg_definitions.specs.Header.{line_units, row_of}
use Rattle.pwg_definitions.specs.Groups.{IsBytes, group_at}
use Rattle.pwg_definitions.specs.Groups.GroupRead.{Part}
use Rattle.pwg_lines.specs.declared.reader.LineReader.{LineReader}
use Rattle.pwg_lines.specs.Reading.{IsAnew, IsFault, IsLine, IsMore, StandsFor, form_of, lines_left_of, next_group}
use Rattle.pwg_lines.proofs.Feeding.{anew_stands}
use Rattle.pwg_stream.specs.Groups.{GivesLine, IsBadGroup, IsNoGroup}
use Rattle.buffered_bytes.specs.Text.{UsesSome}
use Rattle.pwg_stream.proofs.GroupSizes.{group_at-part}

-- The reader has read these bytes of a group that is not yet whole, and the text before them is used up to them.
pub record IsFed (old now : LineReader) (before text : Option (List ℕ)) : Type 0 where
  pub sofar : List ℕ
  pub are : IsBytes sofar
  pub used : Consumes before text sofar
  pub stands : StandsFor now sofar
  pub form : form_of now ≡ form_of old
  pub left : lines_left_of now ≡ lines_left_of old
  pub part : next_group old sofar ≡ Part

-- The same at the start of a turn: each turn but the first has a byte to feed.
pub record InGroup (old now : LineReader) (before text : Option (List ℕ)) (unread : List ℕ) (turn : ℕ) : Type 0 where
  pub fed : IsFed old now before text
  pub turns : turn ≤ length fed.sofar + 1
  pub some : 1 ≤ turn → 1 ≤ length unread

next-same : (old now : LineReader) (bytes : List ℕ) → form_of now ≡ form_of old → lines_left_of now ≡ lines_left_of old
    → next_group now bytes ≡ next_group old bytes
next-same old now bytes form left =
    ap (λ (f : PageForm). let row = row_of f.kind in group_at row (line_units row f.width) (lines_left_of now) bytes) form
    ∙ ap (λ k. let row = row_of (form_of old).kind in group_at row (line_units row (form_of old).width) k bytes) left

none-bytes : IsBytes []
none-bytes k = omega arith

bytes-append : (xs ys : List ℕ) → IsBytes xs → IsBytes ys → (k : ℕ) → slice_index (xs ++ ys) k < 256
bytes-append [] ys p q k = q k
bytes-append (x ∷ xs) ys p q zero = p 0
bytes-append (x ∷ xs) ys p q (suc k) = bytes-append xs ys (λ j. p (suc j)) q k

pub group_begin : (lines : LineReader) (text : Option (List ℕ)) (unread : List ℕ) → IsAnew lines → InGroup lines lines text text unread 0
group_begin lines text unread fresh = record {
  fed = record {
    sofar = [];
    are = none-bytes;
    used = Consumes-nil text;
    stands = anew_stands lines fresh;
    form = refl;
    left = refl;
    part = refl;
  };
  turns = omega arith;
  some = λ turned. absurd (omega arith);
}

-- a piece was fed, and the group is not yet whole
pub group_fed : {old now next : LineReader} {before text text' : Option (List ℕ)} {piece : List ℕ} {used turn : ℕ}
    → InGroup old now before text piece turn
    → IsMore now next piece used → form_of next ≡ form_of now → IsBytes piece → Consumes text text' (take used piece)
    → (fed : IsFed old next before text') × (turn + 1 ≤ length fed.sofar + 1)
group_fed {old} {now} {before} {text} {text'} {piece} {used} {turn} so_far more form are step =
    let sofar : List ℕ = so_far.fed.sofar in
    let all : take used piece ≡ piece = take_all used piece (omega (arith, more.all)) in
    let P : List ℕ → Type 0 = λ bytes. Consumes text text' bytes in
    let turned : turn + 1 ≤ length (sofar ++ piece) + 1 = by_turn turn so_far.turns so_far.some (length-append sofar piece) in (
      record {
        sofar = sofar ++ piece;
        are = bytes-append sofar piece so_far.fed.are are;
        used = Consumes-trans before text text' sofar piece so_far.fed.used (subst P all step);
        stands = more.stands sofar so_far.fed.stands;
        form = form ∙ so_far.fed.form;
        left = more.lines_left ∙ so_far.fed.left;
        part = sym (next-same old now (sofar ++ piece) so_far.fed.form so_far.fed.left) ∙ more.part sofar so_far.fed.stands;
      },
      turned,
    )
  where
    by_turn : (n : ℕ) → n ≤ length so_far.fed.sofar + 1 → (1 ≤ n → 1 ≤ length piece)
        → length (so_far.fed.sofar ++ piece) ≡ length so_far.fed.sofar + length piece
        → n + 1 ≤ length (so_far.fed.sofar ++ piece) + 1
    by_turn zero turns some long = omega arith
    by_turn (suc n) turns some long = omega (arith, some (omega arith))

-- another read gave a byte at least
pub group_turn : {old next : LineReader} {before text' text'' : Option (List ℕ)} {unread : List ℕ} (turn : ℕ)
    → (so_far : (fed : IsFed old next before text') × (turn + 1 ≤ length fed.sofar + 1)) → Keeps text' text'' → 1 ≤ length unread
    → InGroup old next before text'' unread (turn + 1)
group_turn {before} {text'} {text''} turn so_far kept some = record {
  fed = record {
    sofar = so_far.0.sofar;
    are = so_far.0.are;
    used = Consumes-kept before text' text'' so_far.0.sofar so_far.0.used kept;
    stands = so_far.0.stands;
    form = so_far.0.form;
    left = so_far.0.left;
    part = so_far.0.part;
  };
  turns = so_far.1;
  some = λ turned. some;
}

-- the group is whole
pub group_whole : {old now next : LineReader} {before text text' : Option (List ℕ)} {piece : List ℕ} {used turn repeats : ℕ}
    → InGroup old now before text piece turn
    → IsLine now next piece used repeats → Consumes text text' (take used piece) → GivesLine old next before text' repeats
group_whole {old} {now} {before} {text} {text'} {piece} {used} so_far line step =
    let sofar : List ℕ = so_far.fed.sofar in
    record {
      some = line.some;
      fall = line.fall ∙ so_far.fed.left;
      bytes = sofar ++ take used piece;
      used = Consumes-trans before text text' sofar (take used piece) so_far.fed.used step;
      group = λ rest.
          sym (next-same old now ((sofar ++ take used piece) ++ rest) so_far.fed.form so_far.fed.left)
          ∙ line.group sofar rest so_far.fed.stands;
    }

-- the group is refused
pub group_refused : {old now next : LineReader} {before text : Option (List ℕ)} (text' : Option (List ℕ)) {piece : List ℕ} {used turn : ℕ} {fault : LineFault}
    → InGroup old now before text piece turn
    → IsFault now next piece used fault → Consumes text text' (take used piece)
    → IfSome before (λ text. IsNoGroup (next_group old text) (cause.Line fault) ⊎ IsBadGroup (next_group old text) (cause.Line fault))
group_refused {old} {now} {before} {text} text' {piece} {used} {fault} so_far wrong step =
    told before text' (Consumes-trans before text text' sofar (take used piece) so_far.fed.used step)
  where
    sofar : List ℕ
    sofar = so_far.fed.sofar

    told : (a b : Option (List ℕ)) → Consumes a b (sofar ++ take used piece)
        → IfSome a (λ text. IsNoGroup (next_group old text) (cause.Line fault) ⊎ IsBadGroup (next_group old text) (cause.Line fault))
    told None b uses = tt
    told (Some xs) None uses = absurd uses
    told (Some xs) (Some ys) uses =
        let found = wrong.wrong sofar ys so_far.fed.stands in
        inr (record {
          place = found.0;
          fault = fault;
          wrong = ap (next_group old) uses
              ∙ sym (next-same old now ((sofar ++ take used piece) ++ ys) so_far.fed.form so_far.fed.left) ∙ found.2;
          why_is = refl;
        })

-- no group has this many bytes
pub group_ends : {old now : LineReader} {before text : Option (List ℕ)} {unread : List ℕ} {turn : ℕ} (long : ℕ)
    → InGroup old now before text unread turn
    → 1 ≤ (row_of (form_of old).kind).unit
    → line_units (row_of (form_of old).kind) (form_of old).width * (row_of (form_of old).kind).unit ≤ long
    → 2 * long + 1 + 2 ≤ turn → ⊥
group_ends {old} long so_far some fits many =
    let row = row_of (form_of old).kind in
    let few = group_at-part row (line_units row (form_of old).width) (lines_left_of old) so_far.fed.sofar some so_far.fed.are
    so_far.fed.part in
    omega (arith, so_far.turns)

-- ---- what of the text was used

pub uses_fed : {old now : LineReader} {before text text' : Option (List ℕ)} {piece : List ℕ} (used : ℕ) {turn : ℕ}
    → InGroup old now before text piece turn
    → Consumes text text' (take used piece) → UsesSome before text'
uses_fed {before} {text} {text'} {piece} used so_far step = record {
  bytes = so_far.fed.sofar ++ take used piece;
  is = Consumes-trans before text text' so_far.fed.sofar (take used piece) so_far.fed.used step;
}

pub uses_kept : {old now : LineReader} {before text : Option (List ℕ)} (text' : Option (List ℕ)) {text'' : Option (List ℕ)} {piece : List ℕ} (used : ℕ) {turn : ℕ}
    → InGroup old now before text piece turn
    → Consumes text text' (take used piece) → Keeps text' text'' → UsesSome before text''
uses_kept {old} {now} {before} {text} text' {text''} {piece} used {turn} so_far step kept =
    let uses = uses_fed used so_far step in
    record { bytes = uses.bytes; is = Consumes-kept before text' text'' uses.bytes uses.is kept }
