-- Top edges of no errors, column by column.
use Rattle.std.proofs.Common.{◌≡◌, ℕ, ℤ, pos, ◌+◌, ◌-◌, ◌<◌, List, [], ◌∷◌, ◌++◌, get_or, length, length-append, ap, arith, inl, inr, refl}
use Rattle.std.proofs.Common.{replicate, sym, ◌∙◌, subst}
use Rattle.std.proofs.lemmas.Bool.{cases_lt}
use Rattle.std.proofs.lemmas.List.{get_or-append_right, get_or_append_left, get_or_past, length-replicate}
use Rattle.tile_border.specs.Inks.{AreZeros}
use Rattle.tile_border.specs.Tops.{IsZeroTop}
use Rattle.tile_border.proofs.Zeros.{zeros}

no_errors : AreZeros []
no_errors = record { at = λ ink n. refl }

pub no_columns : (inks : ℕ) (top : List (List (List ℤ))) → top ≡ [] → IsZeroTop 0 inks top
no_columns inks top is =
    let Q : List (List (List ℤ)) → Type 0 = λ t. IsZeroTop 0 inks t in
    subst Q (sym is) (record { has = record { columns = refl; edge_inks = λ c low. absurd (omega arith) }; zeros = λ c. no_errors })

-- the last of columns
last_column : (columns : ℕ) (top : List (List (List ℤ))) (edge : List (List ℤ)) → length top ≡ columns
    → get_or (top ++ edge ∷ []) columns [] ≡ edge
last_column columns top edge long =
    let first : columns - columns ≡ 0 = omega arith in
    get_or-append_right top (edge ∷ []) columns columns [] long (omega arith) ∙ ap (λ n. get_or (edge ∷ []) n []) first

column_more : (P : List (List ℤ) → Type 0) (columns c : ℕ) (top : List (List (List ℤ))) (edge : List (List ℤ)) → length top ≡ columns
    → (c < columns → P (get_or top c [])) → (c ≡ columns → P edge) → (columns < c → P []) → P (get_or (top ++ edge ∷ []) c [])
column_more P columns c top edge long before here past = elim (cases_lt c columns) [
  | inl low ↦ subst P (sym (get_or_append_left top (edge ∷ []) [] c (omega arith))) (before low)
  | inr high ↦ elim (cases_lt columns c) [
    | inl beyond ↦ subst P (sym (get_or_past (top ++ edge ∷ []) c [] (omega (arith, length-append top (edge ∷ []))))) (past beyond)
    | inr not_beyond ↦
        let is : c ≡ columns = omega arith in
        subst P (sym (ap (λ n. get_or (top ++ edge ∷ []) n []) is ∙ last_column columns top edge long)) (here is)
  ]
]

pub columns_more : (columns inks : ℕ) (top new : List (List (List ℤ))) (edge : List (List ℤ)) → IsZeroTop columns inks top
    → edge ≡ replicate inks (replicate 128 (pos 0))
    → new ≡ top ++ edge ∷ [] → IsZeroTop (columns + 1) inks new
columns_more columns inks top new edge t blank is =
    let long : length edge ≡ inks = ap length blank ∙ length-replicate inks (replicate 128 (pos 0)) in
    let Q : List (List (List ℤ)) → Type 0 = λ es. IsZeroTop (columns + 1) inks es in
    let HasInks : List (List ℤ) → Type 0 = λ e. length e ≡ inks in
    let Zero : List (List ℤ) → Type 0 = λ e. AreZeros e in
    subst Q (sym is) (record {
      has = record {
        columns = length-append top (edge ∷ []) ∙ ap (λ n. n + 1) t.has.columns;
        edge_inks = λ c low.
            column_more HasInks columns c top edge t.has.columns (t.has.edge_inks c) (λ _. long) (λ past. absurd (omega arith));
      };
      zeros = λ c. column_more Zero columns c top edge t.has.columns (λ _. t.zeros c) (λ _. zeros inks 128 edge blank) (λ _. no_errors);
    })

pub same_columns : (n columns inks : ℕ) (top : List (List (List ℤ))) → n ≡ columns → IsZeroTop n inks top → IsZeroTop columns inks top
same_columns n columns inks top is t = let Q : ℕ → Type 0 = λ m. IsZeroTop m inks top in subst Q is t
