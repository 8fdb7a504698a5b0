use Rattle.std.proofs.Common.{List, ℕ, Contains, Some, ap, arith, refl, subst, sym, ◌∙◌}
use Rattle.weave_base.proofs.Shelving.{longer_text, no_text, text_of_first}
use Rattle.weave_base.specs.Shelved.{MemoryTexts}
use Rattle.weave_base.proofs.memory_shelf.MemShelfShelf.read_text.Goals as goal

pub returns-then-is_listed-clause-fails : goal.returns-then-is_listed-clause-fails
returns-then-is_listed-clause-fails c =
    let P : List ℕ → Type 0 = λ fails. Contains fails c.saturating_add-self-inside.result in
    let listed : P c.args.self.now.fails =
    subst P (c.deref.ensures.value ∙ ap (λ (s : MemoryTexts). s.fails) c.self.view_is) (c.if-is_listed.ensures.0 refl) in
    (λ _. listed, λ _. refl)

pub returns-in_default-clause-found : goal.returns-in_default-clause-found
returns-in_default-clause-found c =
    no_text c.args.name.now _ _ _ c.deref-2.ensures.value (ap (λ (s : MemoryTexts). s.files) c.self.view_is) c.in_default.ensures

pub returns-then-most-len-clause-found : goal.returns-then-most-len-clause-found
returns-then-most-len-clause-found c =
    longer_text _ c.in-Some.file.now.bytes.items c.args.most
    (text_of_first c.args.name.now _ _ _ c.in-Some.file.now c.deref-2.ensures.value (ap (λ (s : MemoryTexts). s.files) c.self.view_is)
    c.in-Some.ensures)
    (omega (arith, c.len.ensures, c.in-Some.file.now.bytes.ok.0))

pub returns-clause-found : goal.returns-clause-found
returns-clause-found c =
    text_of_first c.args.name.now _ _ _ c.in-Some.file.now c.deref-2.ensures.value (ap (λ (s : MemoryTexts). s.files) c.self.view_is)
    c.in-Some.ensures
    ∙ ap (λ text. Some text) (sym (c.in-Ok.ensures.items ∙ c.deref-3.ensures.value))
