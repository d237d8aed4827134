-- The row of func.return.
use Rattle.std.proofs.Common.{◌≡◌, ℕ, suc, ◌+◌, List, [], ◌∷◌, ◌++◌, length, Some, true, false, refl, sym, ap, ap₂, subst, ◌∙◌, arith}
use Rattle.std.specs.Prelude.{nat_le, codes, map, pos, slice_get, if◌then◌else◌}
use Rattle.std.proofs.lemmas.List.{length-map}
use Rattle.number_model.specs.Answers.{Gives, with_answer}
use Rattle.operation_model.specs.Values.{Value, together}
use Rattle.operation_model.specs.Pures.{one, Known, PutsPart}
use Rattle.operation_model.specs.Calling.{Bare, Together, packed, packing_of}
use Rattle.operation_model.specs.Doings.{Doing, Returns}
use Rattle.operation_model.specs.Forms.{Computes, Return}
use Rattle.plain_tree.specs.Types.{PlainType, Struct, types_in, type_tree, type_trees}
use Rattle.plain_tree.specs.Attrs.{Entries}
use Rattle.conversion_model.specs.declared.templates.Source.{Source}
use Rattle.conversion_model.specs.declared.templates.Source.TheVariants.{Operand, Made}
use Rattle.conversion_model.specs.Types.{new_type, becomes}
use Rattle.conversion_model.specs.Rows.{Pattern, Straight}
use Rattle.form_model.specs.Types.{unset_of}
use Rattle.form_model.specs.Classes.{always, returns, unset}
use Rattle.pattern_model.specs.Drafts.{Draft, is_plain, draft}
use Rattle.pattern_model.specs.ArithRows.{all_types}
use Rattle.pattern_model.specs.MemrefRows.{position}
use Rattle.pattern_model.specs.FuncRows.{packed_in, returned, return_by, return_row}
use Rattle.sound_model.specs.Refinement.{Refines}
use Rattle.sound_model.specs.Runs.{operation_runs, item_of, and_item, form_at, root_form, template_runs}
use Rattle.sound_model.specs.Soundness.{IsReplaceable, is_root, all_changed, RowHolds, RowSound}
use Rattle.row_laws.proofs.Sources.{no_items, one_item}
use Rattle.row_laws.proofs.Values.{of_some, when_is, IsPlain, plain_is}
use Rattle.row_laws.proofs.Forms.{form_by}
use Rattle.row_laws.proofs.Lowered.{root_is}
use Rattle.memory_row_laws.proofs.MemoryForms.{insert_form}
use Rattle.memory_row_laws.proofs.DraftRuns.{goes, Has, Counts, counts_on, has_new, value_goes, effect_goes, one_longer, last_there}
use Rattle.memory_row_laws.proofs.DraftTypes.{append_on, Typed, value_typed, effect_typed}
use Rattle.memory_row_laws.proofs.Elements.{two_types, two_values}
use Rattle.call_row_laws.proofs.Structs.{unset_struct, part_put}

return_form : (bits : ℕ) (es : Entries) (ts us : List PlainType) → form_at bits (codes "llvm.return") es ts us ≡ Return Bare
return_form bits es ts us = form_by (codes "llvm.return") (always (Return Bare)) refl _

pub unset_form : (bits : ℕ) (es : Entries) (ts : List PlainType) (t : PlainType) → form_at bits (codes "llvm.mlir.undef") es ts (t ∷ []) ≡ Computes (Known (unset_of (type_tree t)))
unset_form bits es ts t = form_by (codes "llvm.mlir.undef") unset refl _

-- the parts of a struct that was never set
abbrev pub unset_parts : List PlainType → List Value
unset_parts ts = map unset_of (type_trees (types_in ts))

pub unset_is : (ts : List PlainType) → unset_of (type_tree (Struct (types_in ts))) ≡ together (unset_parts ts)
unset_is ts = unset_struct (type_trees (types_in ts))

pub as_many_unset : (ts : List PlainType) → length (unset_parts ts) ≡ length ts
as_many_unset [] = refl
as_many_unset (t ∷ ts) = omega (arith, as_many_unset ts)

module _ (bits : ℕ) (types : List PlainType) (args : List Value) (labels : List ℕ) (next : List Value → Doing) where
  -- operands from the j-th on
  abbrev pub Operands : ℕ → List PlainType → List Value → Type 0
  Operands j [] [] = Unit {0}
  Operands j (u ∷ us) (x ∷ xs) = (slice_get types j ≡ Some u) × (slice_get args j ≡ Some x) × Operands (j + 1) us xs
  Operands j _ _ = ⊥

  -- operands that are put into a struct
  pub packed_goes : (t : PlainType) (us : List PlainType) (xs rest : List Value) → length rest ≡ length us → (j : ℕ) (done : List Value) → length done ≡ j → Operands j us xs → (onward : Source → Draft) (n : ℕ) (made_types : List PlainType) (made : List Value) (m : Source)
      → Has bits types args labels next made_types made m t (together (done ++ rest)) → Counts bits types args labels next n made_types made → (P : Doing → Type 0)
      → ((n' : ℕ) (more_types : List PlainType) (more : List Value) (s : Source) → Has bits types args labels next more_types more s t (together (done ++ xs)) → Counts bits types args labels next n' more_types more → P (goes bits types args labels next (onward s) n' more_types more))
      → P (goes bits types args labels next (packed_in t j us m onward) n made_types made)
  packed_goes t [] [] [] same j done counted operands onward n made_types made m has counts P f = f n made_types made m has counts
  packed_goes t [] [] (r ∷ rest) same j done counted operands onward n made_types made m has counts P f = absurd (omega (arith, same))
  packed_goes t [] (x ∷ xs) rest same j done counted operands onward n made_types made m has counts P f = absurd operands
  packed_goes t (u ∷ us) [] rest same j done counted operands onward n made_types made m has counts P f = absurd operands
  packed_goes t (u ∷ us) (x ∷ xs) [] same j done counted operands onward n made_types made m has counts P f = absurd (omega (arith, same))
  packed_goes t (u ∷ us) (x ∷ xs) (r ∷ rest) same j done counted operands onward n made_types made m has counts P f =
      let v : Value = together (done ++ x ∷ rest) in
      let k : Source → Draft = λ s. packed_in t (j + 1) us s onward in
      let has_x : Has bits types args labels next made_types made (Operand j) u x = record { type = operands.0; value = operands.1 } in
      let has_v : Has bits types args labels next (made_types ++ t ∷ []) (made ++ v ∷ []) (Made n) t v = has_new bits types args labels next t v counts in
      subst P (sym (value_goes bits types args labels next (codes "llvm.insertvalue") (m ∷ Operand j ∷ []) (position (pos j ∷ [])) t k n made_types made (t ∷ u ∷ []) (together (done ++ r ∷ rest) ∷ x ∷ []) (PutsPart (j ∷ [])) v
      (two_types bits types args labels next has has_x) (two_values bits types args labels next has has_x) (insert_form bits (pos j ∷ []) (j ∷ []) refl (t ∷ u ∷ []) (t ∷ [])) (ap (with_answer one) (part_put done r x rest j counted))))
      (packed_goes t us xs rest (omega (arith, same)) (j + 1) (done ++ x ∷ []) (one_longer done x j counted) operands.2 onward (n + 1) (made_types ++ t ∷ []) (made ++ v ∷ []) (Made n)
      (subst (λ l. Has bits types args labels next (made_types ++ t ∷ []) (made ++ v ∷ []) (Made n) t (together l)) (sym (append_on done x rest)) has_v)
      (counts_on bits types args labels next t v counts) P
      λ n' more_types more s has_s counts_s. f n' more_types more s (subst (λ l. Has bits types args labels next more_types more s t (together l)) (append_on done x xs) has_s) counts_s)

  -- all operands
  pub operands_from : (us : List PlainType) (xs : List Value) (j : ℕ) → length xs ≡ length us → ((i : ℕ) → slice_get types (j + i) ≡ slice_get us i) → ((i : ℕ) → slice_get args (j + i) ≡ slice_get xs i) → Operands j us xs
  operands_from [] [] j same at of = tt
  operands_from [] (x ∷ xs) j same at of = absurd (omega (arith, same))
  operands_from (u ∷ us) [] j same at of = absurd (omega (arith, same))
  operands_from (u ∷ us) (x ∷ xs) j same at of = (
    ap (slice_get types) (omega arith) ∙ at 0,
    ap (slice_get args) (omega arith) ∙ of 0,
    operands_from us xs (j + 1) (omega (arith, same)) (λ i. ap (slice_get types) (omega arith) ∙ at (suc i)) (λ i. ap (slice_get args) (omega arith) ∙ of (suc i)),
  )

pub from_start : {A : Type 0} (xs : List A) (i : ℕ) → slice_get xs (0 + i) ≡ slice_get xs i
from_start xs i = let e : 0 + i ≡ i = omega arith in ap (slice_get xs) e

-- several results stand together
pub together_of : (n : ℕ) → packing_of (suc (suc n)) ≡ Together
together_of n = let e : nat_le (suc (suc n)) 1 ≡ false = grind arith in ap (λ b. if b then Bare else Together) e

many_returned : (bits : ℕ) (t u : PlainType) (ts : List PlainType) (args : List Value) (labels : List ℕ) (next : List Value → Doing) → length args ≡ length (t ∷ u ∷ ts)
    → goes bits (t ∷ u ∷ ts) args labels next (return_by (t ∷ u ∷ ts)) 0 [] [] ≡ Returns (together args ∷ [])
many_returned bits t u ts args labels next same =
    let types : List PlainType = t ∷ u ∷ ts in
    let s : PlainType = Struct (types_in types) in
    let v : Value = together (unset_parts types) in
    let k : Source → Draft = λ u. packed_in s 0 types u λ m. returned (m ∷ []) in
    subst (λ d. d ≡ Returns (together args ∷ []))
    (sym (value_goes bits types args labels next (codes "llvm.mlir.undef") [] [] s k 0 [] [] [] [] (Known (unset_of (type_tree s))) v refl refl (unset_form bits [] [] s) (ap (λ v. Gives (v ∷ [])) (unset_is types))))
    (packed_goes bits types args labels next s types args (unset_parts types) (as_many_unset types) 0 [] refl (operands_from bits types args labels next types args 0 same (from_start types) (from_start args)) (λ m. returned (m ∷ []))
    1 (s ∷ []) (v ∷ []) (Made 0) (record { type = refl; value = refl }) (record { types = refl; values = refl }) (λ d. d ≡ Returns (together args ∷ []))
    λ n ts vs m has counts.
    effect_goes bits types args labels next (codes "llvm.return") (m ∷ []) [] n ts vs (s ∷ []) (together args ∷ []) (Return Bare) (ap (λ x. and_item x (Some [])) has.type) (ap (λ x. and_item x (Some [])) has.value) (return_form bits [] (s ∷ []) []))

returned_at : (bits : ℕ) (types : List PlainType) (args : List Value) (labels : List ℕ) (next : List Value → Doing) → length args ≡ length types
    → goes bits types args labels next (return_by types) 0 [] [] ≡ Returns (packed (packing_of (length types)) args)
returned_at bits [] args labels next same =
    no_items (λ args. goes bits [] args labels next (return_by []) 0 [] [] ≡ Returns (packed (packing_of 0) args))
    (effect_goes bits [] [] labels next (codes "llvm.return") [] [] 0 [] [] [] [] (Return Bare) refl refl (return_form bits [] [] [])) args same
returned_at bits (t ∷ []) args labels next same =
    one_item (λ args. goes bits (t ∷ []) args labels next (return_by (t ∷ [])) 0 [] [] ≡ Returns (packed (packing_of 1) args))
    (λ x. effect_goes bits (t ∷ []) (x ∷ []) labels next (codes "llvm.return") (Operand 0 ∷ []) [] 0 [] [] (t ∷ []) (x ∷ []) (Return Bare) refl refl (return_form bits [] (t ∷ []) [])) args same
returned_at bits (t ∷ u ∷ ts) args labels next same = many_returned bits t u ts args labels next same ∙ ap (λ p. Returns (packed p args)) (sym (together_of (length ts)))

-- its operations
packed_typed : (table : List Pattern) (types : List PlainType) (no_insert : is_root table (codes "llvm.insertvalue") ≡ false) (t : PlainType) (us : List PlainType) (j : ℕ) → ((i : ℕ) → slice_get types (j + i) ≡ slice_get us i) → (onward : Source → Draft) (n : ℕ) (made_types : List PlainType) (m : Source)
    → item_of types made_types m ≡ Some t → length made_types ≡ n
    → ((n' : ℕ) (more_types : List PlainType) (s : Source) → item_of types more_types s ≡ Some t → length more_types ≡ n' → Typed table types [] (onward s) n' more_types)
    → Typed table types [] (packed_in t j us m onward) n made_types
packed_typed table types no_insert t [] j at onward n made_types m has counts f = f n made_types m has counts
packed_typed table types no_insert t (u ∷ us) j at onward n made_types m has counts f =
    value_typed table types [] (codes "llvm.insertvalue") (m ∷ Operand j ∷ []) (position (pos j ∷ [])) t (λ s. packed_in t (j + 1) us s onward) n made_types (t ∷ u ∷ [])
    (ap₂ (λ x y. and_item x (and_item y (Some []))) has (ap (slice_get types) (omega arith) ∙ at 0)) no_insert
    (packed_typed table types no_insert t us (j + 1) (λ i. ap (slice_get types) (omega arith) ∙ at (suc i)) onward (n + 1) (made_types ++ t ∷ []) (Made n) (last_there made_types t n counts) (one_longer made_types t n counts) f)

return_typed : (table : List Pattern) → is_root table (codes "llvm.mlir.undef") ≡ false → is_root table (codes "llvm.insertvalue") ≡ false → is_root table (codes "llvm.return") ≡ false → (types : List PlainType) → Typed table types [] (return_by types) 0 []
return_typed table no_undef no_insert no_return [] = effect_typed table [] [] (codes "llvm.return") [] [] 0 [] [] refl no_return refl
return_typed table no_undef no_insert no_return (t ∷ []) = effect_typed table (t ∷ []) [] (codes "llvm.return") (Operand 0 ∷ []) [] 0 [] (t ∷ []) refl no_return refl
return_typed table no_undef no_insert no_return (t ∷ u ∷ ts) =
    let types : List PlainType = t ∷ u ∷ ts in
    let s : PlainType = Struct (types_in types) in
    value_typed table types [] (codes "llvm.mlir.undef") [] [] s (λ u. packed_in s 0 types u λ m. returned (m ∷ [])) 0 [] [] refl no_undef
    (packed_typed table types no_insert s types 0 (from_start types) (λ m. returned (m ∷ [])) 1 (s ∷ []) (Made 0) refl refl
    λ n ts m has counts. effect_typed table types [] (codes "llvm.return") (m ∷ []) [] n ts (s ∷ []) (ap (λ x. and_item x (Some [])) has) no_return refl)

pub return_sound : (bits : ℕ) (table : List Pattern) → is_root table (codes "llvm.mlir.undef") ≡ false → is_root table (codes "llvm.insertvalue") ≡ false → is_root table (codes "llvm.return") ≡ false
    → RowSound bits table (codes "func.return") (new_type bits) (Straight (return_row bits))
return_sound bits table no_undef no_insert no_return o t named fit defined =
    let d : (is_plain (length o.operands) 0 o ≡ true) × (draft (return_by (all_types bits o.operands)) ≡ Some t) = when_is _ _ t defined in
    let p : IsPlain (length o.operands) 0 o = plain_is (length o.operands) 0 o d.0 in
    let types : List PlainType = all_types bits o.operands in
    let none : o.results ≡ [] = no_items (λ ts. ts ≡ []) refl o.results p.results in
    let many : length (map type_tree o.operands) ≡ length types = length-map o.operands type_tree ∙ sym (length-map o.operands (becomes bits)) in
    let form_is : root_form bits o ≡ Return (packing_of (length types)) = root_is bits o (codes "func.return") returns named refl ∙ ap (λ n. Return (packing_of n)) many in
    let typed : Typed table types [] (return_by types) 0 [] = return_typed table no_undef no_insert no_return types in
    subst (λ t. RowHolds bits table (new_type bits) o t) (of_some d.1) (record {
      replaceable = subst (λ f. IsReplaceable f o.results) (sym form_is) tt;
      steps = typed.steps;
      does = record {
        types = typed.gives ∙ sym (ap (λ ts. Some (all_changed (new_type bits) ts)) none);
        same = λ args labels next count same places.
            subst (λ f. Refines (operation_runs f o.results labels args next) (template_runs bits types args labels (return_by types 0) next)) (sym form_is) (returned_at bits types args labels next same);
      };
    })
