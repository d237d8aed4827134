-- The row of func.call.
use Rattle.std.proofs.Common.{◌≡◌, ℕ, suc, ◌+◌, List, [], ◌∷◌, ◌++◌, length, Some, Bool, true, false, refl, sym, ap, subst, ◌∙◌, arith}
use Rattle.std.specs.Prelude.{◌==◌, codes, map, pos, slice_get, if◌then◌else◌}
use Rattle.std.specs.Str.{bytes_eq}
use Rattle.number_model.specs.Answers.{Gives}
use Rattle.operation_model.specs.Values.{Value, Integer, Pointer, Unset, Aggregate, together, values_of}
use Rattle.operation_model.specs.Calling.{Shapes, Packing, Bare, Together, spread, unpacked, packing_of}
use Rattle.operation_model.specs.Doings.{Doing, Ends, on}
use Rattle.operation_model.specs.Doings.{Doing as doing}
use Rattle.operation_model.specs.Forms.{Call, Allocate, AllocateAligned, Free}
use Rattle.plain_tree.specs.Types.{PlainType, Struct, types_in, type_tree}
use Rattle.plain_tree.specs.Attrs.{Entries, Symbol, entry}
use Rattle.conversion_model.specs.declared.templates.Source.{Source}
use Rattle.conversion_model.specs.declared.templates.Source.TheVariants.{Made}
use Rattle.form_model.specs.Types.{shape_of}
use Rattle.pattern_model.specs.Drafts.{Draft}
use Rattle.pattern_model.specs.Drafts.{gives as gives_back}
use Rattle.pattern_model.specs.FuncRows.{called, unpacked as unpacked_draft}
use Rattle.sound_model.specs.Refinement.{Refines, settled_then}
use Rattle.sound_model.specs.Runs.{if_there, and_item, items_of, form_at, operation_runs, counted}
use Rattle.sound_model.proofs.Refining.{refines_refl}
use Rattle.row_laws.proofs.Sources.{no_items, one_item}
use Rattle.row_laws.proofs.Alone.{counted_too}
use Rattle.row_laws.proofs.Values.{equal_numbers}
use Rattle.memory_row_laws.proofs.MemoryForms.{call_form}
use Rattle.memory_row_laws.proofs.DraftRuns.{goes, Has, Counts, counts_on, has_new, op_goes, effect_goes, last_there}
use Rattle.memory_row_laws.proofs.Elements.{Stays}
use Rattle.call_row_laws.specs.Promises.{IsFree}
use Rattle.call_row_laws.proofs.Structs.{parts_back, part_taken}
use Rattle.call_row_laws.proofs.Returned.{together_of, from_start}
use Rattle.call_row_laws.proofs.Fields.{as_many, Each, each_ended, each_on, each_types, each_values, part_goes}
use Rattle.call_row_laws.proofs.Arguments.{Flat, spread_flat}

free_call : (bits : ℕ) (es : Entries) (name : List ℕ) → entry (codes "callee") es ≡ Some (Symbol name) → IsFree name → (us rs : List PlainType) → form_at bits (codes "llvm.call") es us rs ≡ Call name (map shape_of (map type_tree us)) Bare
free_call bits es name is free us rs =
    call_form bits es name is us rs
    ∙ ap (λ b. if b then Allocate else (if bytes_eq name (codes "aligned_alloc") then AllocateAligned else (if bytes_eq name (codes "free") then Free else Call name (map shape_of (map type_tree us)) Bare))) free.malloc
    ∙ ap (λ b. if b then AllocateAligned else (if bytes_eq name (codes "free") then Free else Call name (map shape_of (map type_tree us)) Bare)) free.aligned_alloc
    ∙ ap (λ b. if b then Free else Call name (map shape_of (map type_tree us)) Bare) free.free

-- a call, and one with its arguments handed over as they are
call_refines : (name : List ℕ) (shapes flat : Shapes) (packing : Packing) (results makes : List PlainType) (labels : List ℕ) (xs ys : List Value) (next rest : List Value → Doing)
    → spread shapes xs ≡ Gives ys → spread flat ys ≡ Gives ys
    → ((zs : List Value) → Refines (settled_then (on (unpacked packing zs) Ends) (λ rs. counted results rs (next rs))) (counted makes zs (rest zs)))
    → Refines (operation_runs (Call name shapes packing) results labels xs next) (operation_runs (Call name flat Bare) makes [] ys rest)
call_refines name shapes flat packing results makes labels xs ys next rest given same answers = rw (given, same) ((λ zs. counted makes zs (rest zs)), refl, answers)

module _ (bits : ℕ) (types : List PlainType) (args : List Value) (labels : List ℕ) (next : List Value → Doing) where
  -- the parts of a struct, from the j-th on
  unpacked_goes : (m : Source) (t : PlainType) (all : List Value) (ts : List PlainType) (vs : List Value) (j : ℕ) → ((i : ℕ) → slice_get all (j + i) ≡ slice_get vs i) → length vs ≡ length ts → (onward : List Source → Draft) (n : ℕ) (made_types : List PlainType) (made : List Value)
      → Has bits types args labels next made_types made m t (together all) → Counts bits types args labels next n made_types made → (P : Doing → Type 0)
      → ((n' : ℕ) (more_types : List PlainType) (more : List Value) (ss : List Source) → Each bits types args labels next more_types more ss ts vs → Stays bits types args labels next made_types made more_types more → P (goes bits types args labels next (onward ss) n' more_types more))
      → P (goes bits types args labels next (unpacked_draft m j ts onward) n made_types made)
  unpacked_goes m t all [] [] j at same onward n made_types made has counts P f = f n made_types made [] each_ended (λ s w x h. h)
  unpacked_goes m t all [] (v ∷ vs) j at same onward n made_types made has counts P f = absurd (omega (arith, same))
  unpacked_goes m t all (u ∷ ts) [] j at same onward n made_types made has counts P f = absurd (omega (arith, same))
  unpacked_goes m t all (u ∷ ts) (v ∷ vs) j at same onward n made_types made has counts P f =
      part_goes bits types args labels next m t (together all) (j ∷ []) u (λ r. unpacked_draft m (j + 1) ts λ rs. onward (r ∷ rs)) n made_types made v has counts (part_taken all j v (ap (slice_get all) (omega arith) ∙ at 0)) (pos j ∷ []) refl P λ has_v behind.
      unpacked_goes m t all ts vs (j + 1) (λ i. ap (slice_get all) (omega arith) ∙ at (suc i)) (omega (arith, same)) (λ rs. onward (Made n ∷ rs)) (n + 1) (made_types ++ u ∷ []) (made ++ v ∷ []) (behind.stays m t (together all) has) behind.counts P λ n' more_types more ss each stays.
      f n' more_types more (Made n ∷ ss) (each_on (stays (Made n) u v has_v) each) (λ s w x h. stays s w x (behind.stays s w x h))

  -- what follows a call of several results: the parts of its struct
  several_refined : (results : List PlainType) (s : PlainType) (ts : List PlainType) → length ts ≡ length results → (n : ℕ) (made_types : List PlainType) (made : List Value) → Counts bits types args labels next n made_types made → (zs : List Value)
      → Refines (settled_then (on (unpacked Together zs) Ends) (λ rs. counted results rs (next rs))) (counted (s ∷ []) zs (goes bits types args labels next (unpacked_draft (Made n) 0 ts λ rs. gives_back rs) (n + 1) (made_types ++ s ∷ []) (made ++ zs)))
  several_refined results s ts same n made_types made counts [] = tt
  several_refined results s ts same n made_types made counts (v ∷ w ∷ zs) = tt
  several_refined results s ts same n made_types made counts (Integer a ∷ []) = tt
  several_refined results s ts same n made_types made counts (Pointer b o ∷ []) = tt
  several_refined results s ts same n made_types made counts (Unset ∷ []) = tt
  several_refined results s ts same n made_types made counts (Aggregate ps ∷ []) = go (length (values_of ps) == length results) refl
    where
      all : List Value
      all = values_of ps

      go : (b : Bool) → (length (values_of ps) == length results) ≡ b
          → Refines (if b then next (values_of ps) else doing.Outside) (goes bits types args labels next (unpacked_draft (Made n) 0 ts λ rs. gives_back rs) (n + 1) (made_types ++ s ∷ []) (made ++ Aggregate ps ∷ []))
      go false e = tt
      go true e =
          unpacked_goes (Made n) s (values_of ps) ts (values_of ps) 0 (from_start (values_of ps)) (equal_numbers _ _ e ∙ sym same) (λ rs. gives_back rs) (n + 1) (made_types ++ s ∷ []) (made ++ Aggregate ps ∷ [])
          (subst (λ v. Has bits types args labels next (made_types ++ s ∷ []) (made ++ Aggregate ps ∷ []) (Made n) s v) (sym (ap Aggregate (parts_back ps))) (has_new bits types args labels next s (Aggregate ps) counts))
          (counts_on bits types args labels next s (Aggregate ps) counts) (λ d. Refines (next (values_of ps)) d) λ n' more_types more ss each stays.
          subst (λ o. Refines (next (values_of ps)) (if_there o next)) (sym (each_values bits types args labels next each)) (refines_refl (next (values_of ps)))

  -- the call itself
  pub called_goes : (name : List ℕ) (es : Entries) → entry (codes "callee") es ≡ Some (Symbol name) → IsFree name → (shapes : Shapes) (results ts : List PlainType) → length ts ≡ length results → (xs ys : List Value) → spread shapes xs ≡ Gives ys
      → (n : ℕ) (made_types : List PlainType) (made : List Value) → Counts bits types args labels next n made_types made → (ss : List Source) (us : List PlainType) → Flat us → Each bits types args labels next made_types made ss us ys
      → Refines (operation_runs (Call name shapes (packing_of (length ts))) results labels xs next) (goes bits types args labels next (called es ss ts) n made_types made)
  called_goes name es is free shapes results [] same xs ys given n made_types made counts ss us flat each =
      subst (λ d. Refines (operation_runs (Call name shapes Bare) results labels xs next) d)
      (sym (effect_goes bits types args labels next (codes "llvm.call") ss es n made_types made us ys (Call name (map shape_of (map type_tree us)) Bare) (each_types bits types args labels next each) (each_values bits types args labels next each) (free_call bits es name is free us [])))
      (call_refines name shapes (map shape_of (map type_tree us)) Bare results [] labels xs ys next (λ zs. next []) given (spread_flat us ys flat (as_many bits types args labels next each))
      λ zs. counted_too results [] zs (next zs) (next []) same λ none. no_items (λ zs. Refines (next zs) (next [])) (refines_refl (next [])) zs none)
  called_goes name es is free shapes results (t ∷ []) same xs ys given n made_types made counts ss us flat each =
      subst (λ d. Refines (operation_runs (Call name shapes Bare) results labels xs next) d)
      (sym (op_goes bits types args labels next (codes "llvm.call") ss es t (λ r. gives_back (r ∷ [])) n made_types made us ys (Call name (map shape_of (map type_tree us)) Bare) (each_types bits types args labels next each) (each_values bits types args labels next each) (free_call bits es name is free us (t ∷ []))))
      (call_refines name shapes (map shape_of (map type_tree us)) Bare results (t ∷ []) labels xs ys next (λ zs. if_there (items_of args (made ++ zs) (Made n ∷ [])) next) given (spread_flat us ys flat (as_many bits types args labels next each))
      λ zs. counted_too results (t ∷ []) zs (next zs) (if_there (items_of args (made ++ zs) (Made n ∷ [])) next) same λ one.
      one_item (λ zs. Refines (next zs) (if_there (items_of args (made ++ zs) (Made n ∷ [])) next))
      (λ z. subst (λ x. Refines (next (z ∷ [])) (if_there (and_item x (Some [])) next)) (sym (last_there made z n counts.values)) (refines_refl (next (z ∷ [])))) zs one)
  called_goes name es is free shapes results (t ∷ u ∷ ts) same xs ys given n made_types made counts ss us flat each =
      let s : PlainType = Struct (types_in (t ∷ u ∷ ts)) in
      let k : Source → Draft = λ m. unpacked_draft m 0 (t ∷ u ∷ ts) λ rs. gives_back rs in
      subst (λ p. Refines (operation_runs (Call name shapes p) results labels xs next) (goes bits types args labels next (called es ss (t ∷ u ∷ ts)) n made_types made)) (sym (together_of (length ts)))
      (subst (λ d. Refines (operation_runs (Call name shapes Together) results labels xs next) d)
      (sym (op_goes bits types args labels next (codes "llvm.call") ss es s k n made_types made us ys (Call name (map shape_of (map type_tree us)) Bare) (each_types bits types args labels next each) (each_values bits types args labels next each) (free_call bits es name is free us (s ∷ []))))
      (call_refines name shapes (map shape_of (map type_tree us)) Together results (s ∷ []) labels xs ys next (λ zs. goes bits types args labels next (k (Made n)) (n + 1) (made_types ++ s ∷ []) (made ++ zs)) given (spread_flat us ys flat (as_many bits types args labels next each))
      λ zs. several_refined results s (t ∷ u ∷ ts) same n made_types made counts zs))
