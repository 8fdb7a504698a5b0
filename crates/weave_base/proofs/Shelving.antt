-- The first file of a name, and the text of that name.
use Rattle.std.proofs.Common.{◌≡◌, ◌<◌, ℕ, Bool, true, false, cond, List, [], ◌∷◌, map, length, find, Option, Some, None, refl, ◌∙◌, ap}
use Rattle.std.proofs.Common.{sym, subst, string_bytes}
use Rattle.std.specs.Option.{option_map, IsSomeAnd}
use Rattle.std.specs.Str.{bytes_eq}
use Rattle.weave_base.specs.Shelf.{NamedText, text_named}
use Rattle.weave_base.specs.Shelved.{named_text}
use Rattle.weave_base.specs.declared.memory_shelf.ShelfFile.{ShelfFile}

-- the file that is found has the text of the name
found_text : (name : List ℕ) (files : List ShelfFile)
    → option_map (λ f. f.bytes) (find (λ f. bytes_eq f.name name) (map named_text files))
    ≡ option_map (λ f. f.bytes.items) (find (λ f. bytes_eq (string_bytes f.name) name) files)
found_text name [] = refl
found_text name (f ∷ files) = by_test (found_text name files) (bytes_eq (string_bytes f.name) name)
  where
    by_test : option_map (λ t. t.bytes) (find (λ t. bytes_eq t.name name) (map named_text files))
        ≡ option_map (λ g. g.bytes.items) (find (λ g. bytes_eq (string_bytes g.name) name) files)
        → (b : Bool) → option_map (λ t. t.bytes) (cond b (Some (named_text f)) (find (λ t. bytes_eq t.name name) (map named_text files)))
        ≡ option_map (λ g. g.bytes.items) (cond b (Some f) (find (λ g. bytes_eq (string_bytes g.name) name) files))
    by_test others true = refl
    by_test others false = others

-- where no file is found there is no text of the name
pub no_text : (name : List ℕ) (files kept : List ShelfFile) (texts : List NamedText) → files ≡ kept → map named_text kept ≡ texts
    → None ≡ find (λ f. bytes_eq (string_bytes f.name) name) files → text_named name texts ≡ None
unfolding text_named
no_text name files kept texts are told none =
    ap (λ ts. option_map (λ f. f.bytes) (find (λ f. bytes_eq f.name name) ts)) (sym (ap (λ fs. map named_text fs) are ∙ told))
    ∙ found_text name files ∙ ap (option_map (λ (f : ShelfFile). f.bytes.items)) (sym none)

-- the text of the file that is found
pub text_of_first : (name : List ℕ) (files kept : List ShelfFile) (texts : List NamedText) (file : ShelfFile) → files ≡ kept
    → map named_text kept ≡ texts → Some file ≡ find (λ f. bytes_eq (string_bytes f.name) name) files
    → text_named name texts ≡ Some file.bytes.items
unfolding text_named
text_of_first name files kept texts file are told first =
    ap (λ ts. option_map (λ f. f.bytes) (find (λ f. bytes_eq f.name name) ts)) (sym (ap (λ fs. map named_text fs) are ∙ told))
    ∙ found_text name files ∙ ap (option_map (λ (f : ShelfFile). f.bytes.items)) (sym first)

-- a text of this length is longer than is wanted
pub longer_text : (held : Option (List ℕ)) (bytes : List ℕ) (most : ℕ) → held ≡ Some bytes → most < length bytes
    → IsSomeAnd held (λ bs. most < length bs)
longer_text held bytes most is longer =
    let P : Option (List ℕ) → Type 0 = λ h. IsSomeAnd h (λ bs. most < length bs) in subst P (sym is) longer
