-- Each step of a reader: what it stands for after the bytes that it takes.
use Rattle.std.proofs.lemmas.Grind.{common_steps}
use Rattle.std.proofs.Common.{◌≡◌, ℕ, zero, suc, ◌+◌, ◌-◌, ◌*◌, ◌<◌, ◌≤◌, ◌==◌, nat_lt, Bool, true, false, if◌then◌else◌, List, [], ◌∷◌}
use Rattle.std.proofs.Common.{◌++◌, length, take, drop, refl, sym, ◌∙◌, ap, subst, arith, append_assoc, length-append}
use Rattle.std.proofs.lemmas.Bool.{ltb-true, ltb-false, lt-ltb, le-ltb, ne_eqb}
use Rattle.std.proofs.lemmas.List.{append-nil, length-take-le, take_at}
use Rattle.std.proofs.Math.Seq.{take-append-add, drop-append-add}
use Rattle.pwg_definitions.specs.declared.faults.LineFault.TheVariants.{RunPastLine}
use Rattle.pwg_definitions.specs.Header.{KindRow}
use Rattle.pwg_definitions.specs.Groups.{GroupFront, GroupRead, Packet, copies, group_at, line_at, packet_at, packet_from, packet_gives}
use Rattle.pwg_definitions.specs.Groups.{packet_of, packet_spelling, packet_units, units_of, with_packet}
use Rattle.pwg_definitions.specs.Groups.GroupRead.{Group, Part, Wrong}
use Rattle.pwg_definitions.specs.Groups.PacketRead.{One, Short, Long}
use Rattle.pwg_definitions.specs.Groups.Packet.{Run, Clear, Literal}
use Rattle.pwg_laws.proofs.GroupLaws.{line_at-long, line_at-one, line_at-short}
use Rattle.pwg_lines.specs.declared.states.State.{State}
use Rattle.pwg_lines.specs.declared.states.State.TheVariants as state
use Rattle.pwg_lines.specs.States.{Stands, behind_packet, read_behind, read_in, read_on}

abbrev pub front_of : ℕ → List ℕ → ℕ → GroupFront
front_of repeats line place = record { repeats = repeats; line = line; place = place }

-- one more byte
abbrev pub snoc : List ℕ → ℕ → List ℕ
snoc sofar b = sofar ++ b ∷ []

length-snoc : (sofar : List ℕ) (b : ℕ) → length (snoc sofar b) ≡ length sofar + 1
length-snoc sofar b = length-append sofar (b ∷ [])

-- A reader in this state, whose line has these bytes and a filled prefix.
abbrev pub StandsIn : KindRow → ℕ → ℕ → State → ℕ → List ℕ → ℕ → ℕ → List ℕ → Type 0
StandsIn row units lines s repeats items filled left sofar =
    Stands row units lines s repeats (take filled items) (take (read_in s) (drop filled items)) left sofar

-- the same reader, by an equal state
pub in_state : {row : KindRow} {units lines : ℕ} {s s' : State} {repeats : ℕ} (items : List ℕ) (filled : ℕ) {left : ℕ} (sofar : List ℕ)
    → s ≡ s' → StandsIn row units lines s repeats items filled left sofar → StandsIn row units lines s' repeats items filled left sofar
in_state {row} {units} {lines} {repeats} items filled {left} sofar same so_far =
    let P : State → Type 0 = λ k. StandsIn row units lines k repeats items filled left sofar in subst P same so_far

-- ---- the bytes of the line

-- the items of a vector whose slice was written to
abbrev pub written : ℕ → List ℕ → List ℕ → List ℕ
written len items new = take len (new ++ drop (length new) items)

pub written-is : (len : ℕ) (items new : List ℕ) → length new ≡ len → written len items new ≡ new
written-is len items new sized = take_at new (drop (length new) items) len sized

-- a prefix of a vector whose slice was written to
pub written-front : (len : ℕ) (items lent new : List ℕ) (end : ℕ) (makes : List ℕ → List ℕ) → length new ≡ len → lent ≡ items
    → take end new ≡ makes lent → take end (written len items new) ≡ makes items
written-front len items lent new end makes sized same grown =
    ap (λ bs. take end bs) (written-is len items new sized) ∙ grown ∙ ap makes same

-- ---- the units of a packet

pub units-past : (left n u : ℕ) → u ≡ units_of left n → left < u → left < units_of left n
units-past left n u is past = omega arith

pub units-run : (l n u : ℕ) → u ≡ units_of l n → n < 128 → u ≡ n + 1
units-run l n u is small = is ∙ ap (λ b. if b then n + 1 else (if n == 128 then l else 257 - n)) (lt-ltb n 128 small)

pub units-literal : (l n u : ℕ) → u ≡ units_of l n → 128 < n → u ≡ 257 - n
units-literal l n u is large = grind (arith, le-ltb, ne_eqb)

-- ---- a packet's first byte

-- the bytes after one more byte
with_byte : (row : KindRow) (units lines : ℕ) (s : State) (repeats : ℕ) (line part : List ℕ) (left : ℕ) (sofar : List ℕ)
    (so_far : Stands row units lines s repeats line part left sofar) (b : ℕ) (rest : List ℕ)
    → group_at row units lines (snoc sofar b ++ rest) ≡ read_on s row units lines so_far.most left (front_of repeats line (length sofar))
    part (b ∷ rest)
with_byte row units lines s repeats line part left sofar so_far b rest =
    ap (group_at row units lines) (append_assoc sofar (b ∷ []) rest) ∙ so_far.is (b ∷ rest)

-- a packet is read where a unit is left
with_first : (row : KindRow) (units lines repeats : ℕ) (line part : List ℕ) (left : ℕ) (sofar : List ℕ)
    (so_far : Stands row units lines state.Packet repeats line part left sofar) (n : ℕ) (rest : List ℕ)
    → group_at row units lines (snoc sofar n ++ rest)
    ≡ line_at row (suc (so_far.most - 1)) (suc (left - 1)) (front_of repeats line (length sofar)) (n ∷ rest)
with_first row units lines repeats line part left sofar so_far n rest = grind (arith, common_steps, front_of, with_byte)

packet_at-run : (row : KindRow) (left n : ℕ) (bytes : List ℕ) → n < 128 → n + 1 ≤ left
    → packet_at row left (n ∷ bytes) ≡ packet_from (Run (n + 1)) row.unit bytes
packet_at-run row left n bytes small fits = simp (le-ltb, lt-ltb)

packet_at-literal : (row : KindRow) (left n : ℕ) (bytes : List ℕ) → 128 < n → 257 - n ≤ left
    → packet_at row left (n ∷ bytes) ≡ packet_from (Literal (257 - n)) ((257 - n) * row.unit) bytes
packet_at-literal row left n bytes large fits = grind (arith, le-ltb, ne_eqb)

packet_at-white : (row : KindRow) (left : ℕ) (bytes : List ℕ) → packet_at row left (128 ∷ bytes) ≡ One Clear bytes
packet_at-white row left bytes = ap (λ b. if b then Long else One Clear bytes) (le-ltb left left (omega arith))

-- more units than are left
pub packet-past : {row : KindRow} {units lines repeats : ℕ} {line part : List ℕ} {left : ℕ} (sofar : List ℕ) (n : ℕ) {repeats' : ℕ}
    {line' part' : List ℕ} {left' : ℕ}
    → Stands row units lines state.Packet repeats line part left sofar → left < units_of left n
    → Stands row units lines (state.Failed RunPastLine) repeats' line' part' left' (snoc sofar n)
packet-past {row} {units} {lines} {repeats} {line} {part} {left} sofar n {left'} so_far past =
    let at_last : length sofar ≡ length (snoc sofar n) - 1 = omega (arith, length-snoc sofar n) in
    let one_left : left ≡ suc (left - 1) = omega (arith, so_far.at) in
    let is_past : (rest : List ℕ) → packet_at row (suc (left - 1)) (n ∷ rest) ≡ Long =
    λ rest. ap (λ k. packet_at row k (n ∷ rest)) (sym one_left)
    ∙ ap (λ b. if b then Long else packet_of row n rest) (lt-ltb left (units_of left n) past) in
    record {
      at = omega (arith, length-snoc sofar n);
      most = left';
      enough = omega arith;
      is = λ rest. with_first row units lines repeats line part left sofar so_far n rest
          ∙ line_at-long row (so_far.most - 1) (left - 1) (front_of repeats line (length sofar)) (n ∷ rest) (is_past rest)
          ∙ ap (λ k. Wrong k RunPastLine) at_last;
    }

-- A packet of `units` units whose first byte is n: where the line has `left` units left, `count` bytes follow, and
-- the packet makes this of them.
record IsBegun (row : KindRow) (left n units count : ℕ) (make : List ℕ → Packet) (makes : List ℕ → List ℕ) : Type 0 where
  read : (rest : List ℕ) → packet_at row left (n ∷ rest) ≡ packet_from make count rest
  gives : (bytes : List ℕ) → packet_gives row left (make bytes) ≡ makes bytes
  has : (bytes : List ℕ) → packet_units left (make bytes) ≡ units
  spelled : (bytes : List ℕ) → length (packet_spelling (make bytes)) ≡ suc (length bytes)

run_begun : (row : KindRow) (left n : ℕ) → n < 128 → n + 1 ≤ left → IsBegun row left n (n + 1) row.unit (Run (n + 1)) (copies (n + 1))
run_begun row left n small fits = grind (arith, packet_at-run)

literal_begun : (row : KindRow) (left n : ℕ) → 128 < n → 257 - n ≤ left
    → IsBegun row left n (257 - n) ((257 - n) * row.unit) (Literal (257 - n)) (λ bytes. bytes)
literal_begun row left n large fits = grind (arith, packet_at-literal)

-- the bytes after a packet's first byte
packet_on : (row : KindRow) (units lines repeats : ℕ) (line part : List ℕ) (left : ℕ) (sofar : List ℕ) (n u count : ℕ) (make : List ℕ
    → Packet) (makes : List ℕ → List ℕ) (left' : ℕ)
    (so_far : Stands row units lines state.Packet repeats line part left sofar) → IsBegun row left n u count make makes → left' ≡ left - u
    → (rest : List ℕ)
    → group_at row units lines (snoc sofar n ++ rest)
    ≡ read_behind row (so_far.most - 1) left' (front_of repeats line (length (snoc sofar n))) makes count rest
packet_on row units lines repeats line part left sofar n u count make makes left' so_far begun less rest =
    by_length (nat_lt (length rest) count) refl
  where
    front : GroupFront
    front = front_of repeats line (length sofar)

    one_left : left ≡ suc (left - 1)
    one_left = omega (arith, so_far.at)

    behind : GroupRead
    behind =
        line_at row (so_far.most - 1) left' (front_of repeats (line ++ makes (take count rest)) (length (snoc sofar n) + count))
        (drop count rest)

    read : packet_at row (suc (left - 1)) (n ∷ rest) ≡ packet_from make count rest
    read = ap (λ k. packet_at row k (n ∷ rest)) (sym one_left) ∙ begun.read rest

    by_length : (b : Bool) → nat_lt (length rest) count ≡ b
        → group_at row units lines (snoc sofar n ++ rest) ≡ (if nat_lt (length rest) count then Part else behind)
    by_length true e =
        with_first row units lines repeats line part left sofar so_far n rest
        ∙ line_at-short row (so_far.most - 1) (left - 1) front (n ∷ rest)
        (read ∙ ap (λ b. if b then Short else One (make (take count rest)) (drop count rest)) e)
        ∙ ap (λ b. if b then Part else behind) (sym e)
    by_length false e =
        let bytes : List ℕ = take count rest in
        let sized : length bytes ≡ count = length-take-le count rest (ltb-false _ _ e) in
        let place : length sofar + length (packet_spelling (make bytes)) ≡ length (snoc sofar n) + count =
        omega (arith, length-snoc sofar n, begun.spelled bytes, sized) in
        let fewer : suc (left - 1) - packet_units (suc (left - 1)) (make bytes) ≡ left' =
        ap (λ k. k - packet_units k (make bytes)) (sym one_left) ∙ ap (λ k. left - k) (begun.has bytes) ∙ sym less in
        let given : packet_gives row (suc (left - 1)) (make bytes) ≡ makes bytes =
        ap (λ k. packet_gives row k (make bytes)) (sym one_left) ∙ begun.gives bytes in
        with_first row units lines repeats line part left sofar so_far n rest
        ∙ line_at-one row (so_far.most - 1) (left - 1) front (n ∷ rest) (make bytes) (drop count rest)
        (read ∙ ap (λ b. if b then Short else One (make bytes) (drop count rest)) e)
        ∙ ap (λ k. line_at row (so_far.most - 1) k (with_packet row (suc (left - 1)) (make bytes) front) (drop count rest)) fewer
        ∙ ap (λ bs. line_at row (so_far.most - 1) left'
        (front_of repeats (line ++ bs) (length sofar + length (packet_spelling (make bytes)))) (drop count rest)) given
        ∙ ap (λ k. line_at row (so_far.most - 1) left' (front_of repeats (line ++ makes bytes) k) (drop count rest)) place
        ∙ ap (λ b. if b then Part else behind) (sym e)

pub packet-run : {row : KindRow} {units lines repeats : ℕ} {line part : List ℕ} {left : ℕ} (sofar : List ℕ) (n : ℕ) {left' : ℕ}
    → 1 ≤ row.unit → Stands row units lines state.Packet repeats line part left sofar → n < 128 → n + 1 ≤ left → left' ≡ left - (n + 1)
    → Stands row units lines (state.Run (n + 1) 0) repeats line [] left' (snoc sofar n)
packet-run {row} {units} {lines} {repeats} {line} {part} {left} sofar n {left'} unit so_far small fits less = record {
  at = omega arith;
  most = so_far.most - 1;
  enough = omega (arith, so_far.enough);
  is = λ rest. packet_on row units lines repeats line part left sofar n (n + 1) row.unit (Run (n + 1)) (copies (n + 1)) left' so_far
      (run_begun row left n small fits) less rest
      ∙ ap (λ k. read_behind row (so_far.most - 1) left' (front_of repeats line (length (snoc sofar n))) (copies (n + 1)) k rest)
      (let whole : row.unit ≡ row.unit - 0 = omega arith in whole);
}

pub packet-literal : {row : KindRow} {units lines repeats : ℕ} {line part : List ℕ} {left : ℕ} (sofar : List ℕ) (n : ℕ) {part' : List ℕ}
    {left' : ℕ}
    → 1 ≤ row.unit → Stands row units lines state.Packet repeats line part left sofar → 128 < n → n < 256 → 257 - n ≤ left
    → left' ≡ left - (257 - n)
    → Stands row units lines (state.Literal ((257 - n) * row.unit)) repeats line part' left' (snoc sofar n)
packet-literal {row} {units} {lines} {repeats} {line} {part} {left} sofar n {left'} unit so_far large byte fits less = record {
  at = some_bytes (257 - n) row.unit (omega arith) unit;
  most = so_far.most - 1;
  enough = omega (arith, so_far.enough);
  is = packet_on row units lines repeats line part left sofar n (257 - n) ((257 - n) * row.unit) (Literal (257 - n)) (λ bytes. bytes)
      left' so_far
      (literal_begun row left n large fits) less;
}
  where
    some_bytes : (k unit : ℕ) → 1 ≤ k → 1 ≤ unit → 1 ≤ k * unit
    some_bytes k unit one some = grind arith

line_at-full : (row : KindRow) (most left repeats : ℕ) (line : List ℕ) (place : ℕ) (rest : List ℕ) → left ≡ 0
    → line_at row most left (front_of repeats line place) rest ≡ Group repeats line rest
unfolding line_at
line_at-full row most left repeats line place rest none = ap (λ k. line_at row most k (front_of repeats line place) rest) none

pub packet-white : {row : KindRow} {units lines repeats : ℕ} {line part : List ℕ} {left : ℕ} (sofar : List ℕ) {line' part' : List ℕ}
    {left' : ℕ}
    → left' ≡ 0 → Stands row units lines state.Packet repeats line part left sofar → line' ≡ line ++ copies left row.white
    → Stands row units lines state.Full repeats line' part' left' (snoc sofar 128)
packet-white {row} {units} {lines} {repeats} {line} {part} {left} sofar {line'} {left'} none_left so_far grown =
    let one_left : left ≡ suc (left - 1) = omega (arith, so_far.at) in
    let none : suc (left - 1) - suc (left - 1) ≡ 0 = omega arith in
    let filled : line ++ copies (suc (left - 1)) row.white ≡ line' = ap (λ k. line ++ copies k row.white) (sym one_left) ∙ sym grown in
    record {
      at = none_left;
      most = left';
      enough = omega arith;
      is = λ rest. with_first row units lines repeats line part left sofar so_far 128 rest
          ∙ line_at-one row (so_far.most - 1) (left - 1) (front_of repeats line (length sofar)) (128 ∷ rest) Clear rest
          (packet_at-white row (suc (left - 1)) rest)
          ∙ line_at-full row (so_far.most - 1) (suc (left - 1) - suc (left - 1)) repeats (line ++ copies (suc (left - 1)) row.white)
          (length sofar + 1) rest none
          ∙ ap (λ bs. Group repeats bs rest) filled;
    }

-- ---- the bytes of a packet

-- after a packet
between : (row : KindRow) (units lines repeats : ℕ) (line part : List ℕ) (left most : ℕ) (sofar : List ℕ) → left ≤ most
    → ((rest : List ℕ) → group_at row units lines (sofar ++ rest) ≡ line_at row most left (front_of repeats line (length sofar)) rest)
    → Stands row units lines (behind_packet left) repeats line part left sofar
between row units lines repeats line part zero most sofar enough is = record {
  at = refl;
  most = most;
  enough = omega arith;
  is = λ rest. is rest ∙ line_at-full row most 0 repeats line (length sofar) rest refl;
}
between row units lines repeats line part (suc left) most sofar enough is =
    record { at = omega arith; most = most; enough = omega arith; is = is }

-- some of the bytes that a packet waits for
behind_some : (row : KindRow) (units lines repeats most left : ℕ) (line line' sofar bytes : List ℕ) (count more : ℕ)
    (makes makes' : List ℕ → List ℕ)
    → ((rest : List ℕ) → group_at row units lines (sofar ++ rest) ≡ read_behind row most left (front_of repeats line (length sofar)) makes
    count rest)
    → length bytes + more ≡ count → ((others : List ℕ) → line ++ makes (bytes ++ others) ≡ line' ++ makes' others)
    → (rest : List ℕ) → group_at row units lines ((sofar ++ bytes) ++ rest)
    ≡ read_behind row most left (front_of repeats line' (length (sofar ++ bytes))) makes' more rest
behind_some row units lines repeats most left line line' sofar bytes count more makes makes' is whole same rest =
    ap (group_at row units lines) (append_assoc sofar bytes rest)
    ∙ is (bytes ++ rest)
    ∙ ap (λ k. shown k (take k (bytes ++ rest)) (length sofar + k) (drop k (bytes ++ rest))) (sym whole)
    ∙ ap (λ bs. shown (length bytes + more) bs (length sofar + (length bytes + more)) (drop (length bytes + more) (bytes ++ rest)))
    (take-append-add bytes rest more)
    ∙ ap (λ bs. shown (length bytes + more) (bytes ++ take more rest) (length sofar + (length bytes + more)) bs)
    (drop-append-add bytes rest more)
    ∙ ap (λ b. if b then Part else line_at row most left
    (front_of repeats (line ++ makes (bytes ++ take more rest)) (length sofar + (length bytes + more))) (drop more rest)) same_test
    ∙ ap (λ bs. if nat_lt (length rest) more then Part else line_at row most left
    (front_of repeats bs (length sofar + (length bytes + more))) (drop more rest)) (same (take more rest))
    ∙ ap (λ k. if nat_lt (length rest) more then Part else line_at row most left (front_of repeats (line' ++ makes' (take more rest)) k)
    (drop more rest)) behind
  where
    shown : ℕ → List ℕ → ℕ → List ℕ → GroupRead
    shown k bs p after =
        if nat_lt (length (bytes ++ rest)) k then Part else line_at row most left (front_of repeats (line ++ makes bs) p) after

    same_test : nat_lt (length (bytes ++ rest)) (length bytes + more) ≡ nat_lt (length rest) more
    same_test = by_test (nat_lt (length rest) more) refl
      where
        by_test : (b : Bool) → nat_lt (length rest) more ≡ b → nat_lt (length (bytes ++ rest)) (length bytes + more) ≡ b
        by_test true e = lt-ltb _ _ (omega (arith, length-append bytes rest, ltb-true _ _ e))
        by_test false e = le-ltb _ _ (omega (arith, length-append bytes rest, ltb-false _ _ e))

    behind : length sofar + (length bytes + more) ≡ length (sofar ++ bytes) + more
    behind = omega (arith, length-append sofar bytes)

-- all the bytes that a packet waits for
behind_all : (row : KindRow) (units lines repeats most left : ℕ) (line line' part' sofar bytes : List ℕ) (count : ℕ)
    (makes : List ℕ → List ℕ)
    → ((rest : List ℕ) → group_at row units lines (sofar ++ rest) ≡ read_behind row most left (front_of repeats line (length sofar)) makes
    count rest)
    → length bytes ≡ count → line' ≡ line ++ makes bytes → left ≤ most
    → Stands row units lines (behind_packet left) repeats line' part' left (sofar ++ bytes)
behind_all row units lines repeats most left line line' part' sofar bytes count makes is whole grown enough =
    between row units lines repeats line' part' left most (sofar ++ bytes) enough
    (λ rest. behind_some row units lines repeats most left line [] sofar bytes count 0 makes (λ others. line ++ makes (bytes ++ others)) is
    (omega arith) (λ others. refl) rest
    ∙ ap (λ b. if b then Part else line_at row most left (front_of repeats (line ++ makes (bytes ++ [])) (length (sofar ++ bytes) + 0))
    rest) (le-ltb (length rest) 0 (omega arith))
    ∙ ap (λ bs. line_at row most left (front_of repeats (line ++ makes bs) (length (sofar ++ bytes) + 0)) rest) (append-nil bytes)
    ∙ ap (λ bs. line_at row most left (front_of repeats bs (length (sofar ++ bytes) + 0)) rest) (sym grown)
    ∙ ap (λ k. line_at row most left (front_of repeats line' k) rest) (let p : length (sofar ++ bytes) + 0 ≡ length (sofar ++ bytes) =
    omega arith in p))

-- a part of the unit of a run
pub run-part : {row : KindRow} {units lines repeats : ℕ} {line part : List ℕ} {left : ℕ} (sofar : List ℕ) (n read : ℕ)
    (bytes : List ℕ) {line' part' : List ℕ} {read' : ℕ}
    → Stands row units lines (state.Run n read) repeats line part left sofar → read' ≡ read + length bytes → read' < row.unit → line' ≡ line
    → part' ≡ part ++ bytes
    → Stands row units lines (state.Run n read') repeats line' part' left (sofar ++ bytes)
run-part {row} {units} {lines} {repeats} {line} {part} {left} sofar n read bytes {line'} {part'} {read'} so_far more within same grown = record {
  at = within;
  most = so_far.most;
  enough = so_far.enough;
  is = behind_some row units lines repeats so_far.most left line line' sofar bytes (row.unit - read) (row.unit - read')
      (λ bs. copies n (part ++ bs)) (λ bs. copies n (part' ++ bs)) so_far.is
      (omega arith)
      (λ others. ap (λ bs. bs ++ copies n (part ++ (bytes ++ others))) (sym same)
      ∙ ap (λ bs. line' ++ copies n bs) (sym (append_assoc part bytes others) ∙ ap (λ bs. bs ++ others) (sym grown)));
}

-- the rest of the unit of a run
pub run-end : {row : KindRow} {units lines repeats : ℕ} {line part : List ℕ} {left : ℕ} (sofar : List ℕ) (n read : ℕ)
    (bytes : List ℕ) {line' part' : List ℕ}
    → Stands row units lines (state.Run n read) repeats line part left sofar → length bytes ≡ row.unit - read
    → line' ≡ line ++ copies n (part ++ bytes)
    → Stands row units lines (behind_packet left) repeats line' part' left (sofar ++ bytes)
run-end {row} {units} {lines} {repeats} {line} {part} {left} sofar n read bytes {line'} {part'} so_far whole grown =
    behind_all row units lines repeats so_far.most left line line' part' sofar bytes (row.unit - read) (λ bs. copies n (part ++ bs))
    so_far.is whole grown so_far.enough

-- a part of a literal
pub literal-part : {row : KindRow} {units lines repeats : ℕ} {line part : List ℕ} {left : ℕ} (sofar : List ℕ) (n : ℕ)
    (bytes : List ℕ) {line' part' : List ℕ} {more : ℕ}
    → Stands row units lines (state.Literal n) repeats line part left sofar → length bytes + more ≡ n → line' ≡ line ++ bytes → 1 ≤ more
    → Stands row units lines (state.Literal more) repeats line' part' left (sofar ++ bytes)
literal-part {row} {units} {lines} {repeats} {line} {left} sofar n bytes {line'} {more} so_far whole grown some = record {
  at = some;
  most = so_far.most;
  enough = so_far.enough;
  is = behind_some row units lines repeats so_far.most left line line' sofar bytes n more (λ bs. bs) (λ bs. bs) so_far.is whole
      (λ others. sym (append_assoc line bytes others) ∙ ap (λ bs. bs ++ others) (sym grown));
}

-- the rest of a literal
pub literal-end : {row : KindRow} {units lines repeats : ℕ} {line part : List ℕ} {left : ℕ} (sofar : List ℕ) (n : ℕ)
    (bytes : List ℕ) {line' part' : List ℕ}
    → Stands row units lines (state.Literal n) repeats line part left sofar → length bytes ≡ n → line' ≡ line ++ bytes
    → Stands row units lines (behind_packet left) repeats line' part' left (sofar ++ bytes)
literal-end {row} {units} {lines} {repeats} {line} {left} sofar n bytes {line'} {part'} so_far whole grown =
    behind_all row units lines repeats so_far.most left line line' part' sofar bytes n (λ bs. bs) so_far.is whole grown so_far.enough
