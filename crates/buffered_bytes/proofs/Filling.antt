-- A buffer of which some bytes are not used, and a read after them.
use Rattle.std.proofs.Common.{◌≡◌, ℕ, ◌+◌, ◌-◌, ◌≤◌, List, ◌++◌, length, take, drop, sym, ap, ◌∙◌, arith, length-drop, length-take-le}
use lib.Seq.{paste}
use borrow.Rule.Slice.PartMut.{post_of, put_mid}
use Rattle.std.proofs.lemmas.List.{drop-take, drop-drop, take-append-le}
use Rattle.std.proofs.lemmas.List.Edits.{take-paste}
use Rattle.std.proofs.Math.Seq.{take-append-add}

pub unread-long : (buffer : List ℕ) (start end : ℕ) → start ≤ end → end ≤ length buffer
    → length (take (end - start) (drop start buffer)) ≡ end - start
unread-long buffer start end ordered inside = length-take-le (end - start) (drop start buffer) (omega (arith, length-drop start buffer))

pub used_up : (buffer unread : List ℕ) (start end count : ℕ) → take (end - start) (drop start buffer) ≡ unread → start + count ≤ end
    → take (end - (start + count)) (drop (start + count) buffer) ≡ drop count unread
used_up buffer unread start end count is within =
    let n : ℕ = end - (start + count) in
    let whole : count + n ≡ end - start = omega arith in
    ap (take n) (sym (drop-drop count start buffer))
    ∙ sym (drop-take count n (drop start buffer))
    ∙ ap (λ k. drop count (take k (drop start buffer))) whole
    ∙ ap (drop count) is

pub moved_down : (buffer unread : List ℕ) (start end : ℕ) → take (end - start) (drop start buffer) ≡ unread → start ≤ end
    → end ≤ length buffer
    → take (end - start) (paste buffer 0 (drop start buffer) (end - start)) ≡ unread
moved_down buffer unread start end is ordered inside =
    let n : ℕ = end - start in
    let same : n ≡ 0 + n = omega arith in
    ap (λ k. take k (paste buffer 0 (drop start buffer) n)) same
    ∙ take-paste buffer 0 (drop start buffer) n (omega arith) (omega (arith, length-drop start buffer))
    ∙ is

pub filled_after : (front unread read rest : List ℕ) (kept count : ℕ) → front ≡ unread → length unread ≡ kept → count ≤ length read
    → take (kept + count) (front ++ (read ++ rest)) ≡ unread ++ take count read
filled_after front unread read rest kept count is long within =
    ap (λ k. take (k + count) (front ++ (read ++ rest))) (sym long)
    ∙ ap (λ xs. take (length unread + count) (xs ++ (read ++ rest))) is
    ∙ take-append-add unread (read ++ rest) count
    ∙ ap (λ xs. unread ++ xs) (take-append-le count read rest within)

-- the buffer after a read, whose unread bytes were moved to its beginning; `shown` is the buffer at the read
pub unread_after : (buffer moved shown unread read items : List ℕ) (start end count room : ℕ)
    → take (end - start) (drop start buffer) ≡ unread → start ≤ end → end ≤ length buffer
    → moved ≡ paste buffer 0 (drop start buffer) (end - start) → shown ≡ moved → count ≤ length read
    → items ≡ put_mid (end - start) room shown read
    → take (end - start + count - 0) (drop 0 items) ≡ unread ++ take count read
unread_after buffer moved shown unread read items start end count room is ordered inside moved_is shown_is within items_are =
    let kept : take (end - start) shown ≡ unread = ap (take (end - start)) (shown_is ∙ moved_is)
    ∙ moved_down buffer unread start end is ordered inside in
    let long : length unread ≡ end - start = ap length (sym is) ∙ unread-long buffer start end ordered inside in
    let same : end - start + count - 0 ≡ end - start + count = omega arith in
    ap (λ k. take k items) same
    ∙ ap (take (end - start + count)) items_are
    ∙ filled_after (take (end - start) shown) unread read (post_of (end - start) room shown) (end - start) count kept long within
