-- What strokes send, piece after piece.
use Rattle.std.proofs.Common.{◌≡◌, ℕ, zero, suc, ◌+◌, ◌-◌, ◌*◌, ◌<◌, ◌≤◌, Bool, true, false, cond, if◌then◌else◌}
use Rattle.std.proofs.Common.{List, [], ◌∷◌, ◌++◌, length, map, filter, Option, refl, sym, ◌∙◌, ap, subst, arith}
use Rattle.std.proofs.Common.{append_assoc, append-nil, length-append, length-set, drop, take, vec_len, nat_eq, slice_index_or, slice_set, ◌^◌}
use Rattle.std.proofs.lemmas.Bool.{eqb-false, eqb-true, lt-ltb}
use Rattle.std.proofs.lemmas.List.{get_or-set_other, get_or-set_same, length-drop, map-append, take_all}
use Rattle.std.proofs.Math.Seq.{drop-append_seam}
use Rattle.std.proofs.Math.Nat.{mul-le-mul_right}
use Rattle.base_definitions.specs.Counting.{count_from}
use Rattle.page_definitions.specs.PageBytes.{page_coding}
use Rattle.page_definitions.specs.Strokes.{Spoken, Stroke, bytes_of, down_by, fires, inks_commands, strokes_commands}
use Rattle.page_laws.proofs.Printed.{bytes-append}
use Rattle.printer_definitions.specs.Printer.{Printer, row_units}
use Rattle.page_writer.specs.Heads.{HeadPage, IsPage, stroke_over}
use Rattle.page_writer.specs.Outlets.{Gathers, GathersPart, Outlet}
use Rattle.page_writer.specs.Pieces.{AllRoomy, AreCoded, CodesPiece, Each, IsAssigned, IsCoded, IsFilled, IsReady, SendsStrokes, bound_of, left_at, sent_both, sent_bytes, sent_commands, strokes_in}
use Rattle.page_writer.specs.Sums.{most_of_pass, rasters_in}
use Rattle.page_writer.specs.declared.coded.Coded.{Coded}
use Rattle.page_writer.specs.declared.coded.Piece.{Piece}
use Rattle.page_writer.specs.declared.coded.Run.{Run}
use Rattle.page_writer.specs.declared.coded.Sent.{Sent}
use Rattle.page_writer.proofs.Outlets.{fails_before, fails_behind, gathers_both}
use Rattle.page_writer.proofs.Inks.{pass_short, rasters-append, strokes_fit}

-- ---- facts of each of a list

-- a fact of each that goes on as another one, where one of them changes
pub each_step : {W : Type 0} (P Q : ℕ → W → Type 0) (list : List W) (i : ℕ) (x : W)
    → Each P list → ((k : ℕ) (w : W) → (k ≡ i → ⊥) → P k w → Q k w) → Q i x → Each Q (slice_set list i x)
each_step {W} P Q list i x all others here =
    record { at = λ k d low. by_place k d (omega (arith, low, length-set list i x)) (nat_eq k i) refl }
  where
    by_place : (k : ℕ) (d : W) → k < length list → (b : Bool) → nat_eq k i ≡ b → Q k (slice_index_or (slice_set list i x) k d)
    by_place k d low true e =
        let same : k ≡ i = eqb-true k i e in
        let R : ℕ → Type 0 = λ n. Q n (slice_index_or (slice_set list i x) n d) in
        let S : W → Type 0 = Q i in
        subst R (sym same) (subst S (sym (get_or-set_same list i x d (omega (arith, same, low)))) here)
    by_place k d low false e =
        let R : W → Type 0 = Q k in
        subst R (sym (get_or-set_other list i k x d (eqb-false k i e))) (others k (slice_index_or list k d) (eqb-false k i e) (all.at k d low))

-- a fact of each, where one of them changes
pub each_set : {W : Type 0} (P : ℕ → W → Type 0) (list : List W) (i : ℕ) (x : W)
    → Each P list → P i x → Each P (slice_set list i x)
each_set P list i x all here = each_step P P list i x all (λ k w apart is. is) here

-- a fact of one of them
pub each_at : {W : Type 0} (P : ℕ → W → Type 0) {list : List W} (i : ℕ) (x : W)
    → Each P list → i < length list → x ≡ slice_index_or list i x → P i x
each_at {W} P {list} i x all low is = let R : W → Type 0 = P i in subst R (sym is) (all.at i x low)

-- ---- lists of strokes in two parts

counts-join : (at m n : ℕ) → count_from at (m + n) ≡ count_from at m ++ count_from (at + m) n
counts-join at zero n =
    let none : 0 + n ≡ n = omega arith in
    let here : at ≡ at + 0 = omega arith in
    ap (count_from at) none ∙ ap (λ k. count_from k n) here
counts-join at (suc m) n =
    let more : suc m + n ≡ suc (m + n) = omega arith in
    let there : at + 1 + m ≡ at + suc m = omega arith in
    ap (count_from at) more
    ∙ ap (λ ks. at ∷ ks) (counts-join (at + 1) m n ∙ ap (λ k. count_from (at + 1) m ++ count_from k n) there)

pub strokes-join : (page : HeadPage) (at m n : ℕ)
    → strokes_in page at (m + n) ≡ strokes_in page at m ++ strokes_in page (at + m) n
strokes-join page at m n =
    let stroke : ℕ → Stroke = stroke_over page.p page.head page.t in
    ap (map stroke) (counts-join at m n) ∙ map-append stroke (count_from at m) (count_from (at + m) n)

-- the head is left where the second part leaves it
left-join : (p : Printer) (last : ℕ) (xs ys : List Stroke) → left_at p last (xs ++ ys) ≡ left_at p (left_at p last xs) ys
left-join p last [] ys = refl
left-join p last (x ∷ xs) ys = left-join p (if fires p x then x.start else last) xs ys

-- the commands of both parts, where the second begins where the first leaves the head
commands-join : (p : Printer) (width last : ℕ) (xs ys : List Stroke)
    → strokes_commands p width page_coding.c last (filter (fires p) (xs ++ ys))
    ≡ strokes_commands p width page_coding.c last (filter (fires p) xs)
    ++ strokes_commands p width page_coding.c (left_at p last xs) (filter (fires p) ys)
commands-join p width last [] ys = refl
commands-join p width last (x ∷ xs) ys =
    by_fire (commands-join p width x.start xs ys) (commands-join p width last xs ys) (fires p x)
  where
    down : List Spoken
    down = down_by ((x.start - last) * row_units p)

    inks : List Spoken
    inks = inks_commands p width page_coding.c x

    job : ℕ → List Stroke → List Spoken
    job = strokes_commands p width page_coding.c

    by_fire : job x.start (filter (fires p) (xs ++ ys))
        ≡ job x.start (filter (fires p) xs) ++ job (left_at p x.start xs) (filter (fires p) ys)
        → job last (filter (fires p) (xs ++ ys)) ≡ job last (filter (fires p) xs) ++ job (left_at p last xs) (filter (fires p) ys)
        → (b : Bool)
        → job last (cond b (x ∷ filter (fires p) (xs ++ ys)) (filter (fires p) (xs ++ ys)))
        ≡ job last (cond b (x ∷ filter (fires p) xs) (filter (fires p) xs))
        ++ job (left_at p (if b then x.start else last) xs) (filter (fires p) ys)
    by_fire below beside true =
        let first : List Spoken = job x.start (filter (fires p) xs) in
        let second : List Spoken = job (left_at p x.start xs) (filter (fires p) ys) in
        ap (λ js. down ++ (inks ++ js)) below
        ∙ ap (λ js. down ++ js) (sym (append_assoc inks first second))
        ∙ sym (append_assoc down (inks ++ first) second)
    by_fire below beside false = beside

pub sent-join : (page : HeadPage) (last at m n : ℕ)
    → sent_commands page last at (m + n)
    ≡ sent_commands page last at m ++ sent_commands page (left_at page.p last (strokes_in page at m)) (at + m) n
sent-join page last at m n =
    ap (λ strokes. strokes_commands page.p page.t.width page_coding.c last (filter (fires page.p) strokes)) (strokes-join page at m n)
    ∙ commands-join page.p page.t.width last (strokes_in page at m) (strokes_in page (at + m) n)

-- the same of their bytes, where the first part leaves the head on this row
bytes-join : (page : HeadPage) (last at m n there : ℕ) → there ≡ left_at page.p last (strokes_in page at m)
    → sent_bytes page last at (m + n) ≡ sent_bytes page last at m ++ sent_bytes page there (at + m) n
bytes-join page last at m n there is =
    ap (bytes_of page_coding.code) (sent-join page last at m n)
    ∙ bytes-append page_coding.code (sent_commands page last at m)
    (sent_commands page (left_at page.p last (strokes_in page at m)) (at + m) n)
    ∙ ap (λ k. sent_bytes page last at m ++ sent_bytes page k (at + m) n) (sym is)

-- ---- what is sent

-- one part after another
sends_both : {page : HeadPage} {last at m n : ℕ} {a b d : Outlet} {one two : Sent}
    → SendsStrokes page last at m a b one → SendsStrokes page one.last (at + m) n b d two
    → SendsStrokes page last at (m + n) a d (sent_both one two)
sends_both {page} {last} {at} {m} {n} {a} {b} {d} {one} {two} first second =
    let whole : sent_bytes page last at (m + n) ≡ sent_bytes page last at m ++ sent_bytes page one.last (at + m) n =
    bytes-join page last at m n one.last first.left in
    let P : List ℕ → Type 0 = Gathers a d in
    let most : ℕ = most_of_pass page.p page.t.width in
    let split : (m + n) * most ≡ m * most + n * most = omega arith in
    record {
      gathers = subst P (sym whole)
          (gathers_both (sent_bytes page last at m) (sent_bytes page one.last (at + m) n) first.gathers second.gathers);
      bytes_are = omega (
        arith,
        first.bytes_are,
        second.bytes_are,
        ap length whole,
        length-append (sent_bytes page last at m) (sent_bytes page one.last (at + m) n),
      );
      rasters_are = ap (λ k. k + two.rasters) first.rasters_are
          ∙ ap (λ k. rasters_in (sent_commands page last at m) + k) second.rasters_are
          ∙ sym (ap rasters_in (sent-join page last at m n
          ∙ ap (λ k. sent_commands page last at m ++ sent_commands page k (at + m) n) (sym first.left))
          ∙ rasters-append (sent_commands page last at m) (sent_commands page one.last (at + m) n));
      left = second.left
          ∙ ap (λ k. left_at page.p k (strokes_in page (at + m) n)) first.left
          ∙ sym (ap (left_at page.p last) (strokes-join page at m n)
          ∙ left-join page.p last (strokes_in page at m) (strokes_in page (at + m) n));
      short = omega (arith, first.short, second.short, split);
      few = omega (arith, first.few, second.few);
    }

-- the same where the second part begins at this stroke, and this is how many strokes both have
pub sends_join : {page : HeadPage} {last at m next n both : ℕ} {a b d : Outlet} {one two : Sent}
    → next ≡ at + m → both ≡ m + n → SendsStrokes page last at m a b one → SendsStrokes page one.last next n b d two
    → SendsStrokes page last at both a d (sent_both one two)
sends_join {page} {last} {at} {m} {next} {n} {both} {a} {b} {d} {one} {two} there all first second =
    let P : ℕ → Type 0 = λ k. SendsStrokes page one.last k n b d two in
    let Q : ℕ → Type 0 = λ k. SendsStrokes page last at k a d (sent_both one two) in
    subst Q (sym all) (sends_both first (subst P there second))

-- the first part was sent whole, and the second was not: of both and any strokes after them
pub part_join : {page : HeadPage} {last at m : ℕ} {a b : Outlet} {held : Option (List ℕ)} {one : Sent} (next n whole : ℕ)
    → next ≡ at + m → m + n ≤ whole → SendsStrokes page last at m a b one → GathersPart b held (sent_bytes page one.last next n)
    → GathersPart a held (sent_bytes page last at whole)
part_join {page} {last} {at} {m} {a} {b} {held} {one} next n whole there within first part =
    let rest : ℕ = whole - (m + n) in
    let behind : List ℕ = sent_bytes page (left_at page.p one.last (strokes_in page (at + m) n)) (at + m + n) rest in
    let all : whole ≡ m + (n + rest) = omega arith in
    let is : sent_bytes page last at whole ≡ sent_bytes page last at m ++ (sent_bytes page one.last next n ++ behind) =
    ap (sent_bytes page last at) all
    ∙ bytes-join page last at m (n + rest) one.last first.left
    ∙ ap (λ bs. sent_bytes page last at m ++ bs) (bytes-join page one.last (at + m) n rest _ refl)
    ∙ ap (λ k. sent_bytes page last at m ++ (sent_bytes page one.last k n ++ behind)) (sym there) in
    let P : List ℕ → Type 0 = GathersPart a held in
    subst P (sym is) (fails_behind (sent_bytes page last at m) (sent_bytes page one.last next n ++ behind) first.gathers
    (fails_before b (sent_bytes page one.last next n) behind part))

-- ---- the bounds of a batch's pieces

pub bound_above : (run : Run) (k : ℕ) → run.first ≤ run.count → run.first ≤ bound_of run k
bound_above run k low = omega arith

pub bound_rises : (run : Run) (j k : ℕ) → j ≤ k → bound_of run j ≤ bound_of run k
bound_rises run j k low = let less : j * run.each ≤ k * run.each = mul-le-mul_right run.each low in omega (arith, less)

pub bound_short : (run : Run) (k : ℕ) → bound_of run (k + 1) ≤ bound_of run k + run.each
bound_short run k = let more : (k + 1) * run.each ≡ k * run.each + run.each = omega arith in omega (arith, more)

-- ---- pieces before and after they are coded

-- a piece with strokes of its page can be coded
pub ready_of : {page own : HeadPage} {run : Run} {k : ℕ} {piece : Piece}
    → IsPage page → run.count ≤ page.head.count → IsAssigned page run k own piece → IsReady own piece
ready_of {page} {own} {run} {k} {piece} is low has =
    let P : HeadPage → Type 0 = λ it. IsReady it piece in
    subst P (sym has.roomy.own_is) (record {
      page_is = is;
      low = omega (arith, low, has.end_is);
      within = omega (arith, bound_short run k, has.first_is, has.end_is, has.roomy.many);
      room = has.roomy.room;
    })

-- and once it is coded, those strokes are
pub filled_of : {page own own' : HeadPage} {run : Run} {k : ℕ} {before after : Piece}
    → IsAssigned page run k own before → own' ≡ own → CodesPiece own before after → IsFilled page run k own' after
filled_of {page} {own} {own'} {run} {k} {before} {after} has same codes =
    let P : HeadPage → Type 0 = λ it. AllRoomy it after.strokes.items in
    let Q : HeadPage → Type 0 = λ it. AreCoded it before.first before.end after.strokes.items in
    let R : ℕ → Type 0 = λ n. AreCoded page n before.end after.strokes.items in
    let S : ℕ → Type 0 = λ n. AreCoded page (bound_of run k) n after.strokes.items in
    record {
      roomy = record {
        own_is = same ∙ has.roomy.own_is;
        many = codes.many ∙ has.roomy.many;
        room = subst P has.roomy.own_is codes.room;
      };
      coded = subst S has.end_is (subst R has.first_is (subst Q has.roomy.own_is codes.coded));
    }

-- the bytes of some of the strokes fit a number
pub sent_fits : {page : HeadPage} {last at m there begin n : ℕ} {a b d e : Outlet} {one two : Sent}
    → IsPage page → SendsStrokes page last at m a b one → SendsStrokes page there begin n d e two
    → m + n ≤ page.head.count → one.bytes + two.bytes < 2 ^ 52
sent_fits {page} {last} {at} {m} {there} {begin} {n} {a} {b} {d} {e} {one} {two} is first_sent then_sent within =
    let most : ℕ = most_of_pass page.p page.t.width in
    let split : (m + n) * most ≡ m * most + n * most = omega arith in
    strokes_fit (one.bytes + two.bytes) (m + n) most (omega (arith, first_sent.short, then_sent.short, split))
    (omega (arith, is.few)) (pass_short page.p page.t.width is.can is.over.columns)

-- ---- one stroke

-- the bytes of one stroke
pub one-bytes : (page : HeadPage) (last at : ℕ) → sent_bytes page last at 1
    ≡ (if fires page.p (stroke_over page.p page.head page.t at)
    then bytes_of page_coding.code (down_by ((page.head.start at - last) * row_units page.p))
    ++ bytes_of page_coding.code (inks_commands page.p page.t.width page_coding.c (stroke_over page.p page.head page.t at))
    else [])
one-bytes page last at = by_fire (fires page.p this)
  where
    this : Stroke
    this = stroke_over page.p page.head page.t at

    down : List Spoken
    down = down_by ((page.head.start at - last) * row_units page.p)

    inks : List Spoken
    inks = inks_commands page.p page.t.width page_coding.c this

    by_fire : (b : Bool)
        → bytes_of page_coding.code (strokes_commands page.p page.t.width page_coding.c last (cond b (this ∷ []) []))
        ≡ (if b then bytes_of page_coding.code down ++ bytes_of page_coding.code inks else [])
    by_fire true = ap (λ js. bytes_of page_coding.code (down ++ js)) (append-nil inks) ∙ bytes-append page_coding.code down inks
    by_fire false = refl

-- the rasters of one stroke
pub one-rasters : (page : HeadPage) (last at : ℕ) → rasters_in (sent_commands page last at 1)
    ≡ (if fires page.p (stroke_over page.p page.head page.t at)
    then rasters_in (inks_commands page.p page.t.width page_coding.c (stroke_over page.p page.head page.t at)) else 0)
one-rasters page last at = by_fire (fires page.p this)
  where
    this : Stroke
    this = stroke_over page.p page.head page.t at

    units : ℕ
    units = (page.head.start at - last) * row_units page.p

    inks : List Spoken
    inks = inks_commands page.p page.t.width page_coding.c this

    none : (n : ℕ) → rasters_in (down_by n) ≡ 0
    none zero = refl
    none (suc n) = refl

    by_fire : (b : Bool)
        → rasters_in (strokes_commands page.p page.t.width page_coding.c last (cond b (this ∷ []) []))
        ≡ (if b then rasters_in inks else 0)
    by_fire true =
        ap (λ js. rasters_in (down_by units ++ js)) (append-nil inks)
        ∙ rasters-append (down_by units) inks
        ∙ ap (λ n. n + rasters_in inks) (none units)
        ∙ (let e : 0 + rasters_in inks ≡ rasters_in inks = omega arith in e)
    by_fire false = refl

-- What is written of a coded stroke with a dot, from its step on: what the stroke sends.
pub coded-bytes : {page : HeadPage} {stroke : ℕ} {coded : Coded} (last row begin : ℕ) (roomy code : List ℕ)
    → IsCoded page stroke coded → (coded.rasters ≡ 0 → ⊥) → row ≡ page.head.start stroke → roomy ≡ coded.code.items
    → drop begin code ≡ bytes_of page_coding.code (down_by ((row - last) * row_units page.p)) ++ drop 7 roomy
    → take (length code - begin) (drop begin code) ≡ sent_bytes page last stroke 1
coded-bytes {page} {stroke} {coded} last row begin roomy code is some there same written =
    let this : Stroke = stroke_over page.p page.head page.t stroke in
    let text : List ℕ = bytes_of page_coding.code (inks_commands page.p page.t.width page_coding.c this) in
    let down : ℕ → List ℕ = λ n. bytes_of page_coding.code (down_by ((n - last) * row_units page.p)) in
    let fire : fires page.p this ≡ true = sym is.inks.fire ∙ lt-ltb 0 coded.rasters (omega (arith, some)) in
    let P : ℕ → Type 0 = λ n. drop n coded.code.items ≡ text in
    let inked : drop (length is.front) coded.code.items ≡ text =
    ap (drop (length is.front)) is.inks.items ∙ drop-append_seam is.front text in
    take_all (length code - begin) (drop begin code) (omega (arith, length-drop begin code))
    ∙ written
    ∙ ap (λ bs. down row ++ drop 7 bs) same
    ∙ ap (λ bs. bs ++ drop 7 coded.code.items) (ap down there)
    ∙ ap (λ bs. down (page.head.start stroke) ++ bs) (subst P is.step inked)
    ∙ sym (one-bytes page last stroke ∙ ap (λ b. if b then down (page.head.start stroke) ++ text else []) fire)

-- such a stroke is sent
pub sends_coded : {page : HeadPage} {stroke : ℕ} {coded : Coded} (last row begin : ℕ) {a b : Outlet} (code : List ℕ)
    → IsCoded page stroke coded → (coded.rasters ≡ 0 → ⊥) → row ≡ page.head.start stroke
    → length code ≡ vec_len coded.code
    → take (length code - begin) (drop begin code) ≡ sent_bytes page last stroke 1
    → Gathers a b (take (length code - begin) (drop begin code))
    → SendsStrokes page last stroke 1 a b (record { bytes = length code - begin; rasters = coded.rasters; last = row })
sends_coded {page} {stroke} {coded} last row begin {a} {b} code is some there long whole sent =
    let this : Stroke = stroke_over page.p page.head page.t stroke in
    let fire : fires page.p this ≡ true = sym is.inks.fire ∙ lt-ltb 0 coded.rasters (omega (arith, some)) in
    let P : List ℕ → Type 0 = Gathers a b in
    let most : ℕ = most_of_pass page.p page.t.width in
    let once : 1 * most ≡ most = omega arith in
    let all : take (length code - begin) (drop begin code) ≡ drop begin code =
    take_all (length code - begin) (drop begin code) (omega (arith, length-drop begin code)) in
    record {
      gathers = subst P whole sent;
      bytes_are = sym (length-drop begin code) ∙ ap length (sym all ∙ whole);
      rasters_are = is.inks.rasters_are
          ∙ sym (one-rasters page last stroke
          ∙ ap (λ b. if b then rasters_in (inks_commands page.p page.t.width page_coding.c this) else 0) fire);
      left = there ∙ sym (ap (λ b. if b then page.head.start stroke else last) fire);
      short = omega (arith, is.short, long, once);
      few = omega (arith, is.few);
    }
