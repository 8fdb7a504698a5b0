-- What the answer of a shelf says of the text that it has.
use Rattle.std.proofs.Common.{◌≡◌, ℕ, ◌<◌, ◌≤◌, if◌then◌else◌, List, length, replicate, Option, None, Some, IfSome}
use Rattle.std.proofs.Common.{Result, Ok, Err, refl, sym, ◌∙◌, ap, arith, subst, IfOk, Vec}
use Rattle.std.proofs.lemmas.List.{length-replicate}
use Rattle.std.specs.Option.{IsSomeAnd}
use Rattle.std.proofs.lemmas.Bool.{le-ltb, lt-ltb}
use Rattle.job_profile.specs.declared.stops.ProfileCause.TheVariants as cause
use Rattle.printer_definitions.specs.Printer.{Printer}
use Rattle.std.specs.declared.alloc.Global.{Global}
use Rattle.std.specs.Vec.{vec_len}
use Rattle.weave_base.specs.Shelf.{Finds, IsWithin, NamedText, text_named}
use Rattle.weave_base.specs.declared.shelf.Found.{Found}
use Rattle.job_profile.specs.declared.stops.ProfileStop.{ProfileStop}
use Rattle.job_profile.specs.declared.stops.ProfileStop.TheVariants as stop
use Rattle.job_profile.specs.Stops.{OnRefused}
use Rattle.weave_base.specs.declared.shelf.Found.TheVariants as found
use Rattle.job_profile.specs.Named.{Refusal, refused_at, shelf_result, text_result}

-- the text of a name, where the shelf reports its texts, and what it describes
abbrev pub Says : Option (List NamedText) → List ℕ → Result Printer Refusal → Type 0
Says told name r = (held : Option (List ℕ)) × IfSome told (λ files. held ≡ text_named name files) × (shelf_result held ≡ r)

-- some text or none; where the shelf reports its texts, that of the name
pub held_for : (told : Option (List NamedText)) (name : List ℕ)
    → (held : Option (List ℕ)) × IfSome told (λ files. held ≡ text_named name files)
held_for None name = (None, tt)
held_for (Some files) name = (text_named name files, refl)

pub text_says : (told : Option (List NamedText)) (name bytes : List ℕ) (r : Result Printer Refusal)
    → IfSome told (λ files. text_named name files ≡ Some bytes)
    → length bytes ≤ 65536 → text_result bytes ≡ r → Says told name r
text_says told name bytes r is within says = (Some bytes, same told is, short)
  where
    same : (o : Option (List NamedText)) → IfSome o (λ files. text_named name files ≡ Some bytes)
        → IfSome o (λ files. Some bytes ≡ text_named name files)
    same None h = tt
    same (Some files) h = sym h

    short : shelf_result (Some bytes) ≡ r
    short = ap (λ b. if b then Err (refused_at 0 cause.TooLong) else text_result bytes) (le-ltb 65536 (length bytes) within) ∙ says

long_is : (o : Option (List ℕ)) → IsSomeAnd o (λ bytes. 65536 < length bytes) → shelf_result o ≡ Err (refused_at 0 cause.TooLong)
long_is None h = absurd h
long_is (Some bytes) h = ap (λ b. if b then Err (refused_at 0 cause.TooLong) else text_result bytes) (lt-ltb 65536 (length bytes) h)

pub long_says : (told : Option (List NamedText)) (name : List ℕ)
    → IfSome told (λ files. IsSomeAnd (text_named name files) (λ bytes. 65536 < length bytes))
    → Says told name (Err (refused_at 0 cause.TooLong))
long_says None name h = (Some (replicate 65537 0), tt, long_is (Some (replicate 65537 0)) (omega (arith, length-replicate {A = ℕ} 65537 0)))
long_says (Some files) name h = (text_named name files, refl, long_is (text_named name files) h)

-- ---- the same, by the answer of a call

found_text : (told : Option (List NamedText)) (name : List ℕ) (answer : Found) (text : Vec ℕ Global) → answer
    ≡ found.Text text → Finds told name 65536 answer → IfSome told (λ files. text_named name files ≡ Some text.items)
found_text None name answer text is h = tt
found_text (Some files) name answer text is h = let P : Found → Type 0 = λ a. Finds (Some files) name 65536 a in subst P is h

within_text : (answer : Found) (text : Vec ℕ Global) → answer ≡ found.Text text → IsWithin 65536 answer → vec_len text ≤ 65536
within_text answer text is h = let P : Found → Type 0 = λ a. IsWithin 65536 a in subst P is h

pub ok_says : (r : Result Printer ProfileStop) (told : Option (List NamedText))
    (name bytes : List ℕ) (answer : Found) (text : Vec ℕ Global) → answer ≡ found.Text text
    → Finds told name 65536 answer → IsWithin 65536 answer → bytes ≡ text.items
    → IfOk r (λ p. text_result bytes ≡ Ok p) → IfOk r (λ p. Says told name (Ok p))
ok_says (Err e) told name bytes answer text is finds within same h = tt
ok_says (Ok p) told name bytes answer text is finds within same h =
    text_says told name text.items (Ok p) (found_text told name answer text is finds)
    (omega (arith, within_text answer text is within, text.ok)) (ap text_result (sym same) ∙ h)

pub refused_says : (r : Result Printer ProfileStop) (told : Option (List NamedText))
    (name bytes : List ℕ) (answer : Found) (text : Vec ℕ Global) → answer ≡ found.Text text
    → Finds told name 65536 answer → IsWithin 65536 answer → bytes ≡ text.items
    → OnRefused r (λ refusal. text_result bytes ≡ Err refusal) → OnRefused r (λ refusal. Says told name (Err refusal))
refused_says (Ok p) told name bytes answer text is finds within same h = tt
refused_says (Err stop.Failed) told name bytes answer text is finds within same h = tt
refused_says (Err stop.Memory) told name bytes answer text is finds within same h = tt
refused_says (Err (stop.Refused line cause)) told name bytes answer text is finds within same h =
    text_says told name text.items (Err (refused_at line cause)) (found_text told name answer text is finds)
    (omega (arith, within_text answer text is within, text.ok)) (ap text_result (sym same) ∙ h)

pub long_finds : (told : Option (List NamedText)) (name : List ℕ) (answer : Found) → answer ≡ found.TooLong → Finds told name 65536 answer
    → Says told name (Err (refused_at 0 cause.TooLong))
long_finds None name answer is h = long_says None name tt
long_finds (Some files) name answer is h =
    long_says (Some files) name (let P : Found → Type 0 = λ a. Finds (Some files) name 65536 a in subst P is h)
