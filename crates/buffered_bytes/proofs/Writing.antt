-- A text that is written in pieces.
use Rattle.std.proofs.Common.{◌≡◌, List, [], ◌++◌, ℕ, Option, sym, ◌∙◌, ap, subst, append_assoc, append-nil}
use Rattle.std.specs.Io.KnownBytes.{Appends}
use Rattle.std.proofs.KnownBytes.{Appends-nil, Appends-trans}
use Rattle.weave_base.specs.Parts.{AppendsPart}
use Rattle.weave_base.proofs.Parting.{part_behind, part_of_front}
use Rattle.buffered_bytes.specs.Gathering.{Writes}

-- Of this text the sink took the first part, and the rest is gathered.
pub record GathersSoFar (old now : Option (List ℕ)) (text pending : List ℕ) : Type 0 where
  pub sent : List ℕ
  pub appends : Appends old now sent
  pub is : text ≡ sent ++ pending

pub gathers_begin : (held : Option (List ℕ)) (text pending : List ℕ) → pending ≡ text → GathersSoFar held held text pending
gathers_begin held text pending begun = record { sent = []; appends = Appends-nil held; is = sym begun }

pub gathers_more : (old now after : Option (List ℕ)) (text pending left bytes : List ℕ) → GathersSoFar old now text pending
    → Writes now after pending left bytes
    → GathersSoFar old after (text ++ bytes) left
gathers_more old now after text pending left bytes so_far writes = record {
  sent = so_far.sent ++ writes.sent;
  appends = Appends-trans old now after so_far.sent writes.sent so_far.appends writes.appends;
  is = ap (λ xs. xs ++ bytes) so_far.is ∙ append_assoc so_far.sent pending bytes ∙ ap (λ xs. so_far.sent ++ xs) writes.is
      ∙ sym (append_assoc so_far.sent writes.sent left);
}

-- a failed write of what is gathered leaves a part of the text
pub gathers_part : (old now after : Option (List ℕ)) (text pending : List ℕ) → GathersSoFar old now text pending
    → AppendsPart now after pending → AppendsPart old after text
gathers_part old now after text pending so_far part =
    let P : List ℕ → Type 0 = AppendsPart old after in
    subst P (sym so_far.is) (part_behind old now after so_far.sent pending so_far.appends part)

-- a write of it the whole text
pub gathers_all : (old now after : Option (List ℕ)) (text pending : List ℕ) → GathersSoFar old now text pending → Appends now after pending
    → Appends old after text
gathers_all old now after text pending so_far all =
    let P : List ℕ → Type 0 = Appends old after in
    subst P (sym so_far.is) (Appends-trans old now after so_far.sent pending so_far.appends all)

-- ---- a whole that is known from the first byte on

-- Of the whole the sink took the first part, the next one is gathered, and `left` is left to write.
pub record PutsSoFar (old now : Option (List ℕ)) (whole pending left : List ℕ) : Type 0 where
  pub text : List ℕ
  pub gathers : GathersSoFar old now text pending
  pub is : whole ≡ text ++ left

pub puts_begin : (held : Option (List ℕ)) (whole front pending left : List ℕ) → pending ≡ front → whole ≡ front ++ left
    → PutsSoFar held held whole pending left
puts_begin held whole front pending left begun is = record {
  text = front;
  gathers = gathers_begin held front pending begun;
  is = is;
}

pub puts_more : {old now after : Option (List ℕ)} {whole pending kept bytes left left' : List ℕ} → PutsSoFar old now whole pending left
    → Writes now after pending kept bytes → left ≡ bytes ++ left' → PutsSoFar old after whole kept left'
puts_more {old} {now} {after} {pending} {kept} {bytes} {left'} so_far writes next = record {
  text = so_far.text ++ bytes;
  gathers = gathers_more old now after so_far.text pending kept bytes so_far.gathers writes;
  is = so_far.is ∙ ap (λ bs. so_far.text ++ bs) next ∙ sym (append_assoc so_far.text bytes left');
}

-- a failed write of what is gathered leaves a part of the whole
pub puts_part : {old now after : Option (List ℕ)} {whole pending left : List ℕ} → PutsSoFar old now whole pending left
    → AppendsPart now after pending → AppendsPart old after whole
puts_part {old} {now} {after} {pending} {left} so_far part =
    let P : List ℕ → Type 0 = AppendsPart old after in
    subst P (sym so_far.is)
    (part_of_front old after so_far.text left (gathers_part old now after so_far.text pending so_far.gathers part))

-- only what is gathered is left to write
pub puts_end : (old now : Option (List ℕ)) (whole pending left : List ℕ) (so_far : PutsSoFar old now whole pending left)
    → left ≡ [] → whole ≡ so_far.gathers.sent ++ pending
puts_end old now whole pending left so_far none =
    so_far.is ∙ ap (λ bs. so_far.text ++ bs) none ∙ append-nil so_far.text ∙ so_far.gathers.is
