-- The prefix of a stream and of its pages that was taken and is not yet used.
use Rattle.std.proofs.Common.{◌≡◌, ℕ, suc, ◌+◌, ◌-◌, ◌<◌, ◌≤◌, nat_lt, Bool, true, false, if◌then◌else◌, List, [], ◌∷◌, ◌++◌, length, take}
use Rattle.std.proofs.Common.{drop, Option, None, Some, IfSome, Result, Ok, Err, refl, sym, ◌∙◌, ap, subst, arith, append-nil}
use Rattle.std.proofs.Common.{length-append, length-take-le}
use Rattle.std.specs.List.{starts_with}
use Rattle.std.specs.Cmp.Lexicographic.{pointwise}
use Rattle.std.specs.Prelude.{nat_eq}
use Rattle.std.specs.Io.KnownBytes.{Consumes, IsAtEnd, Keeps}
use Rattle.std.proofs.KnownBytes.{Consumes-nil}
use Rattle.std.proofs.lemmas.Bool.{le-ltb, lt-ltb, ltb-false, ltb-true}
use Rattle.std.proofs.lemmas.Bool.Decides.{Decides-eqb}
use Rattle.std.proofs.lemmas.List.{take-append-le}
use Rattle.std.proofs.lemmas.Slice.Eq.{starts_is}
use Rattle.pwg_definitions.specs.declared.pages.PageForm.{PageForm}
use Rattle.pwg_definitions.specs.declared.pages.Wanted.{Wanted}
use Rattle.pwg_definitions.specs.declared.faults.HeaderFault.{HeaderFault}
use Rattle.pwg_definitions.specs.declared.faults.InputCause.{InputCause}
use Rattle.pwg_definitions.specs.declared.faults.InputCause.TheVariants as cause
use Rattle.pwg_definitions.specs.Limits.{header_length, most_pages}
use Rattle.pwg_definitions.specs.Header.{check, header_of}
use Rattle.pwg_definitions.specs.Stream.{PageRead, page_at, page_behind, pages_from, stream, sync_word, with_page}
use Rattle.pwg_definitions.specs.Stream.PageRead.{Whole, Broken}
use Rattle.pwg_definitions.specs.Stream.StreamEnd.{Fault}
use Rattle.pwg_stream.specs.Pages.{GivesHeader}
use Rattle.buffered_bytes.specs.Text.{UsesSome, text_behind}
use Rattle.buffered_bytes.proofs.Texts.{text_fed}

-- ---- texts

pub kept-uses : (a b c : Option (List ℕ)) (bytes : List ℕ) → Keeps a b → Consumes b c bytes → Consumes a c bytes
kept-uses None b c bytes kept uses = tt
kept-uses (Some x) None c bytes kept uses = absurd kept
kept-uses (Some x) (Some y) None bytes kept uses = absurd uses
kept-uses (Some x) (Some y) (Some z) bytes kept uses = sym kept ∙ uses

-- what holds of the unused bytes and all that may follow holds of a known text
told_of : (P : List ℕ → Type 0) (before left : Option (List ℕ)) (unread : List ℕ) → Keeps before (text_behind unread left)
    → ((rest : List ℕ) → left ≡ Some rest → P (unread ++ rest)) → IfSome before P
told_of P None left unread kept holds = tt
told_of P (Some xs) None unread kept holds = absurd kept
told_of P (Some xs) (Some rest) unread kept holds = subst P kept (holds rest refl)

at_end : (left : Option (List ℕ)) (rest : List ℕ) → left ≡ Some rest → IsAtEnd left → rest ≡ []
at_end left rest is end = let P : Option (List ℕ) → Type 0 = IsAtEnd in subst P is end

-- ---- headers

broken : (want : Wanted) (most page : ℕ) (b : ℕ) (bytes : List ℕ) (line : ℕ) (why : InputCause) → page_at want (b ∷ bytes) ≡ Broken line why
    → pages_from want (suc most) page (b ∷ bytes) ≡ record { pages = []; end = Fault page line why }
unfolding pages_from
broken want most page b bytes line why e = ap (λ (r : PageRead). elim r [
  | Whole p rest ↦ with_page p (pages_from want most (page + 1) rest)
  | Broken line why ↦ record { pages = []; end = Fault page line why }
]) e

-- no page follows, for this cause
abbrev pub NoPage : Wanted → ℕ → List ℕ → InputCause → Type 0
NoPage want pages text why = pages_from want (most_pages - pages) (pages + 1) text ≡ record { pages = []; end = Fault (pages + 1) 0 why }

pub no_page : (want : Wanted) (pages : ℕ) (text : List ℕ) (why : InputCause) → pages < most_pages → 1 ≤ length text
    → page_at want text ≡ Broken 0 why → NoPage want pages text why
no_page want pages [] why few some e = absurd (omega arith)
no_page want pages (b ∷ bytes) why few some e =
    let fuel : most_pages - pages ≡ suc (9998 - pages) = omega arith in
    ap (λ k. pages_from want k (pages + 1) (b ∷ bytes)) fuel ∙ broken want (9998 - pages) (pages + 1) b bytes 0 why e

many : (want : Wanted) (page : ℕ) (text : List ℕ) → 1 ≤ length text
    → pages_from want 0 page text ≡ record { pages = []; end = Fault page 0 cause.TooManyPages }
unfolding pages_from
many want page [] some = absurd (omega arith)
many want page (b ∷ bytes) some = refl

-- a byte follows the last page
pub too_many : (want : Wanted) (pages : ℕ) (before left : Option (List ℕ)) (unread : List ℕ) → Keeps before (text_behind unread left)
    → 1 ≤ length unread → pages ≡ most_pages
    → IfSome before (λ text. NoPage want pages text cause.TooManyPages)
too_many want pages before left unread kept some last =
    told_of (λ text. NoPage want pages text cause.TooManyPages) before left unread kept
    (λ rest is.
    let fuel : most_pages - pages ≡ 0 = omega (arith, last) in
    ap (λ k. pages_from want k (pages + 1) (unread ++ rest)) fuel
    ∙ many want (pages + 1) (unread ++ rest) (omega (arith, length-append unread rest)))

-- the text ends inside a header; `first` are bytes that were there before
pub cut_header : (want : Wanted) (pages : ℕ) (before left0 left : Option (List ℕ)) (first unread : List ℕ)
    → Keeps before (text_behind first left0) → 1 ≤ length first
    → Keeps (text_behind first left0) (text_behind unread left) → pages < most_pages → length unread < header_length → IsAtEnd left
    → IfSome before (λ text. NoPage want pages text cause.Truncated)
cut_header want pages before left0 left first unread kept0 some kept few short end =
    told_of (λ text. NoPage want pages text cause.Truncated) before left0 first kept0 (λ rest is.
    let longer : 1 ≤ length (first ++ rest) = omega (arith, length-append first rest) in
    let P : List ℕ → Type 0 = λ text. 1 ≤ length text → NoPage want pages text cause.Truncated in
    (told_of P (Some (first ++ rest)) left unread (moved rest is)
    (λ rest' is' some'.
    let none : rest' ≡ [] = at_end left rest' is' end in
    let small : length (unread ++ rest') < header_length = omega (arith, length-append unread rest', ap length none) in
    no_page want pages (unread ++ rest') cause.Truncated few some'
    (ap (λ b. if b then Broken 0 cause.Truncated else page_behind (check want (header_of (take header_length (unread ++ rest'))))
    (drop header_length (unread ++ rest'))) (lt-ltb _ _ small))))
    longer)
  where
    moved : (rest : List ℕ) → left0 ≡ Some rest → Keeps (Some (first ++ rest)) (text_behind unread left)
    moved rest is = let P : Option (List ℕ) → Type 0 = λ o. Keeps (text_behind first o) (text_behind unread left) in subst P is kept

-- a header is refused
pub bad_header : (want : Wanted) (pages : ℕ) (before left : Option (List ℕ)) (unread : List ℕ) (fault : HeaderFault)
    → Keeps before (text_behind unread left)
    → pages < most_pages → header_length ≤ length unread → check want (header_of (take header_length unread)) ≡ Err fault
    → IfSome before (λ text. NoPage want pages text (cause.Header fault))
bad_header want pages before left unread fault kept few long refused =
    told_of (λ text. NoPage want pages text (cause.Header fault)) before left unread kept (λ rest is.
    let enough : nat_lt (length (unread ++ rest)) header_length ≡ false = le-ltb _ _ (omega (arith, length-append unread rest)) in
    no_page want pages (unread ++ rest) (cause.Header fault) few (omega (arith, length-append unread rest))
    (ap (λ b. if b then Broken 0 cause.Truncated else page_behind (check want (header_of (take header_length (unread ++ rest))))
    (drop header_length (unread ++ rest))) enough
    ∙ ap (λ bs. page_behind (check want (header_of bs)) (drop header_length (unread ++ rest)))
    (take-append-le header_length unread rest long)
    ∙ ap (λ (r : Result PageForm HeaderFault). page_behind r (drop header_length (unread ++ rest))) refused))

-- a header is accepted
pub good_header : (want : Wanted) (before left : Option (List ℕ)) (unread behind : List ℕ) (form : PageForm)
    → Keeps before (text_behind unread left)
    → header_length ≤ length unread → check want (header_of (take header_length unread)) ≡ Ok form → behind ≡ drop header_length unread
    → GivesHeader want before (text_behind behind left) form
good_header want before left unread behind form kept long accepted is = record {
  header = take header_length unread;
  long = length-take-le header_length unread long;
  accepted = accepted;
  used = kept-uses before (text_behind unread left) (text_behind behind left) (take header_length unread) kept
      (text_fed left unread behind header_length is);
}

-- ---- the sync word

pub bad_sync : (before left : Option (List ℕ)) (unread : List ℕ) → Keeps before (text_behind unread left)
    → (length unread < 4 → IsAtEnd left) → starts_with nat_eq unread sync_word ≡ false
    → IfSome before (λ text. (want : Wanted) → stream want text ≡ record { pages = []; end = Fault 0 0 cause.BadSync })
unfolding stream
bad_sync before left unread kept end other =
    told_of (λ text. (want : Wanted) → stream want text ≡ record { pages = []; end = Fault 0 0 cause.BadSync }) before left unread kept
    (λ rest is want.
    let front : take 4 (unread ++ rest) ≡ take 4 unread = by_size (nat_lt (length unread) 4) refl rest is in
    let none : starts_with nat_eq (unread ++ rest) sync_word ≡ false = ap (pointwise nat_eq sync_word) front ∙ other in
    ap (λ b. if b then pages_from want most_pages 1 (drop 4 (unread ++ rest)) else record {
      pages = [];
      end = Fault 0 0 cause.BadSync;
    }) none)
  where
    by_size : (b : Bool) → nat_lt (length unread) 4 ≡ b → (rest : List ℕ) → left ≡ Some rest → take 4 (unread ++ rest) ≡ take 4 unread
    by_size false long rest is = take-append-le 4 unread rest (ltb-false _ _ long)
    by_size true short rest is = ap (λ bs. take 4 (unread ++ bs)) (at_end left rest is (end (ltb-true _ _ short)))
        ∙ ap (take 4) (append-nil unread)

pub good_sync : (before left : Option (List ℕ)) (unread behind : List ℕ) → Keeps before (text_behind unread left)
    → starts_with nat_eq unread sync_word ≡ true → behind ≡ drop 4 unread
    → Consumes before (text_behind behind left) sync_word
good_sync before left unread behind kept starts is =
    let split = (starts_is Decides-eqb unread sync_word true (sym starts)).0 refl in
    let P : List ℕ → Type 0 = λ bytes. Consumes before (text_behind behind left) bytes in
    subst P (ap (take 4) split)
    (kept-uses before (text_behind unread left) (text_behind behind left) (take 4 unread) kept (text_fed left unread behind 4 is))

-- ---- what was used

-- none
pub uses-none : (before now : Option (List ℕ)) → Keeps before now → UsesSome before now
uses-none before now kept = record { bytes = []; is = kept-uses before now now [] kept (Consumes-nil now) }
