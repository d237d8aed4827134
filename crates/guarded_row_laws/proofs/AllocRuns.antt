-- What the row of memref.alloc does.
use Rattle.std.proofs.Common.{◌≡◌, inl, inr, ℕ, ◌+◌, ◌*◌, ◌%◌, ◌^◌, ◌<◌, ◌≤◌, List, [], ◌∷◌, ◌++◌, length, Some, true, false, refl, sym, ap, subst, ◌∙◌, arith}
use Rattle.std.specs.Prelude.{◌==◌, codes, map, pos, ◌*ℤ◌, if◌then◌else◌}
use Rattle.std.proofs.Math.Nat.{mod-mod, mod-eq_of_lt, mul_comm}
use Rattle.std.proofs.Math.Pow.{pow_mono}
use Rattle.tree_model.specs.declared.type_tree.Dim.{Dim}
use Rattle.tree_model.specs.declared.type_tree.TypeTree.TheVariants.{outs-Int}
use Rattle.number_model.specs.Numbers.{unsigned, wrapped}
use Rattle.number_model.specs.Answers.{Gives}
use Rattle.number_model.specs.Arithmetic.{Extend}
use Rattle.operation_model.specs.Values.{Value, Integer}
use Rattle.operation_model.specs.Values.{descriptor as described_value}
use Rattle.operation_model.specs.Pures.{Known, Resizes}
use Rattle.operation_model.specs.Doings.{Doing, Asks}
use Rattle.operation_model.specs.Doings.{Question as question}
use Rattle.operation_model.specs.Forms.{Allocate}
use Rattle.operation_model.specs.Straight.{Size, sizes_from, elements, strides, size_values, memref_at}
use Rattle.plain_tree.specs.Types.{PlainType, Int, Ptr}
use Rattle.conversion_model.specs.declared.templates.Source.{Source}
use Rattle.conversion_model.specs.declared.templates.Source.TheVariants.{Made}
use Rattle.conversion_model.specs.Types.{becomes}
use Rattle.form_model.specs.Types.{width, width_at, fixed_size}
use Rattle.pattern_model.specs.Drafts.{Draft, value, constant_value}
use Rattle.pattern_model.specs.MemrefRows.{constant, two, widened, callee, strides_of, elements_of, bytes_of, described, plain_call, allocated}
use Rattle.sound_model.specs.Refinement.{Refines, then_on}
use Rattle.sound_model.specs.Runs.{and_item, form_at, counted}
use Rattle.sound_model.proofs.Refining.{refines_refl}
use Rattle.row_laws.specs.Promises.{IsWidth}
use Rattle.row_laws.proofs.Extremes.{counts_one}
use Rattle.memory_row_laws.proofs.MemoryForms.{call_form, extension_form}
use Rattle.memory_row_laws.proofs.DraftRuns.{goes, Has, Counts, counts_on, has_new, has_on, value_goes, op_goes}
use Rattle.memory_row_laws.proofs.Elements.{Stays, Behind}
use Rattle.call_row_laws.proofs.Fields.{Each, each_stays}
use Rattle.guarded_row_laws.proofs.DimRow.{number_width, number_form}
use Rattle.guarded_row_laws.proofs.Allocated.{Sizes, sizes_stay, Numbers, sizes_goes, times_goes, strides_goes, elements_goes, product_is}
use Rattle.guarded_row_laws.proofs.Described.{described_goes}

malloc_form : (bits : ℕ) (ts us : List PlainType) → form_at bits (codes "llvm.call") (callee (codes "malloc")) ts us ≡ Allocate
malloc_form bits ts us = call_form bits (callee (codes "malloc")) (codes "malloc") refl ts us

module _ (bits : ℕ) (h : width bits ≡ Some bits) (above : 0 < bits) (is_width : IsWidth bits) (types : List PlainType) (args : List Value) (labels : List ℕ) (next : List Value → Doing) where
  -- a number below 2 to the width, as one of 64 bits
  extended_goes : (b : Source) (total : ℕ) → total < 2 ^ bits → (onward : Source → Draft) (n : ℕ) (made_types : List PlainType) (made : List Value) → Has bits types args labels next made_types made b (Int bits) (Integer total) → Counts bits types args labels next n made_types made → (P : Doing → Type 0)
      → ((n' : ℕ) (more_types : List PlainType) (more : List Value) (s : Source) (u : PlainType) → Has bits types args labels next more_types more s u (Integer total) → Behind bits types args labels next made_types made n' more_types more → P (goes bits types args labels next (onward s) n' more_types more))
      → P (goes bits types args labels next (widened (codes "llvm.zext") bits b onward) n made_types made)
  extended_goes b total less onward n made_types made has_b counts P f = go is_width
    where
      go : IsWidth bits → P (goes bits types args labels next (widened (codes "llvm.zext") bits b onward) n made_types made)
      go (inl is) =
          let other : (bits == 64) ≡ false = ap (λ n. n == 64) is in
          let kept : unsigned bits total ≡ total = mod-eq_of_lt less in
          subst P (sym (ap (λ c. goes bits types args labels next (if c then onward b else value (codes "llvm.zext") (b ∷ []) [] (Int 64) onward) n made_types made) other
          ∙ value_goes bits types args labels next (codes "llvm.zext") (b ∷ []) [] (Int 64) onward n made_types made (Int bits ∷ []) (Integer total ∷ []) (Resizes (Extend 64) bits) (Integer total)
          (ap (λ x. and_item x (Some [])) has_b.type) (ap (λ x. and_item x (Some [])) has_b.value)
          (extension_form bits bits 64 (codes "llvm.zext") Extend refl (Int bits ∷ []) (Int 64 ∷ []) (number_width bits h []) (ap (width_at bits) (outs-Int 64))) (ap (λ n. Gives (Integer n ∷ [])) kept)))
          (f (n + 1) (made_types ++ Int 64 ∷ []) (made ++ Integer total ∷ []) (Made n) (Int 64) (has_new bits types args labels next (Int 64) (Integer total) counts)
          (record { counts = counts_on bits types args labels next (Int 64) (Integer total) counts; stays = λ s w v h. has_on bits types args labels next (Int 64) (Integer total) h }))
      go (inr is) =
          let same : (bits == 64) ≡ true = ap (λ n. n == 64) is in
          subst P (sym (ap (λ c. goes bits types args labels next (if c then onward b else value (codes "llvm.zext") (b ∷ []) [] (Int 64) onward) n made_types made) same))
          (f n made_types made b (Int bits) has_b (record { counts = counts; stays = λ s w v h. h }))

  -- the same question of the memory, and what follows the pointer
  asked : (total : ℕ) (zs : List Size) (results : List PlainType) → length results ≡ 1 → total < 2 ^ bits → (rest : List Value → Doing) → ((p : Value) → rest (p ∷ []) ≡ next (described_value (length zs) p p (Integer 0) (size_values zs) (strides bits zs) ∷ []))
      → Refines (Asks (question.Allocate 1 total) (λ ys. then_on (memref_at bits zs ys) (λ rs. counted results rs (next rs)))) (Asks (question.Allocate 1 (unsigned 64 total)) (λ ys. counted (Ptr ∷ []) ys (rest ys)))
  asked total zs results one_result less rest is =
      ((λ ys. counted (Ptr ∷ []) ys (rest ys)), ap (λ n. Asks (question.Allocate 1 n) (λ ys. counted (Ptr ∷ []) ys (rest ys))) (mod-eq_of_lt (below_64 total less)), answers)
    where
      below_64 : (n : ℕ) → n < 2 ^ bits → n < 2 ^ 64
      below_64 n l = let le : 2 ^ bits ≤ 2 ^ 64 = pow_mono (at_most is_width) in omega (arith, l, le)
        where
          at_most : IsWidth bits → bits ≤ 64
          at_most (inl e) = omega (arith, e)
          at_most (inr e) = omega (arith, e)

      answers : (ys : List Value) → Refines (then_on (memref_at bits zs ys) (λ rs. counted results rs (next rs))) (counted (Ptr ∷ []) ys (rest ys))
      answers [] = tt
      answers (p ∷ q ∷ ys) = tt
      answers (p ∷ []) =
          let d : Value = described_value (length zs) p p (Integer 0) (size_values zs) (strides bits zs) in
          subst (λ g. Refines g (rest (p ∷ []))) (sym (counts_one results d (next (d ∷ [])) one_result)) (subst (λ g. Refines (next (d ∷ [])) g) (sym (is p)) (refines_refl (next (d ∷ []))))

  -- the whole row, where the bytes are a number of the width
  pub alloc_goes : (dims : List Dim) (element : PlainType) (size : ℕ) → bytes_of (becomes bits element) ≡ size → size < 2 ^ bits → (results : List PlainType) → length results ≡ 1 → Numbers bits h above types args labels next 0 args → (zs : List Size) → sizes_from bits (map fixed_size dims) args ≡ Gives zs → elements zs * size < 2 ^ bits
      → Refines (Asks (question.Allocate 1 (elements zs * size)) (λ ys. then_on (memref_at bits zs ys) (λ rs. counted results rs (next rs)))) (goes bits types args labels next (allocated bits (plain_call bits) dims element) 0 [] [])
  alloc_goes dims element size bytes small results one_result numbers zs given less =
      let total : ℕ = elements zs * size in
      let number : PlainType = Int bits in
      let P : Doing → Type 0 = λ d. Refines (Asks (question.Allocate 1 total) (λ ys. then_on (memref_at bits zs ys) (λ rs. counted results rs (next rs)))) d in
      sizes_goes bits h above types args labels next dims args 0 numbers zs given
      (λ sizes. constant (pos 1) number λ o. strides_of bits o sizes λ strides. elements_of bits o strides sizes λ e. constant (pos (bytes_of (becomes bits element))) number λ w. two (codes "llvm.mul") e w number λ b. plain_call bits b λ p. described bits sizes strides p)
      0 [] [] (record { types = refl; values = refl }) P λ n1 ts1 vs1 ss sizes behind1.
      let v1 : Value = Integer (unsigned bits 1) in
      let last : Source → List Source → Draft = λ e strides. constant (pos (bytes_of (becomes bits element))) number λ w. two (codes "llvm.mul") e w number λ b. plain_call bits b λ p. described bits ss strides p in
      subst P (sym (value_goes bits types args labels next (codes "llvm.mlir.constant") [] (constant_value number (pos 1)) number (λ o. strides_of bits o ss λ strides. elements_of bits o strides ss λ e. last e strides) n1 ts1 vs1 [] [] (Known v1) v1 refl refl (number_form bits h 1) refl))
      (let ts2 : List PlainType = ts1 ++ number ∷ [] in
      let vs2 : List Value = vs1 ++ v1 ∷ [] in
      let has_o : Has bits types args labels next ts2 vs2 (Made n1) number v1 = has_new bits types args labels next number v1 behind1.counts in
      let sizes2 : Sizes bits h above types args labels next ts2 vs2 ss zs = sizes_stay bits h above types args labels next (λ s w v h. has_on bits types args labels next number v1 h) sizes in
      strides_goes bits h above types args labels next (Made n1) (n1 + 1) ts2 vs2 zs ss (λ strides. elements_of bits (Made n1) strides ss λ e. last e strides) sizes2 has_o (counts_on bits types args labels next number v1 behind1.counts) P λ n3 ts3 vs3 rs each3 behind3.
      let sizes3 : Sizes bits h above types args labels next ts3 vs3 ss zs = sizes_stay bits h above types args labels next behind3.stays sizes2 in
      elements_goes bits h above types args labels next (Made n1) zs ss rs (λ e. last e rs) n3 ts3 vs3 sizes3 each3 (behind3.stays (Made n1) number v1 has_o) behind3.counts P λ n4 ts4 vs4 e has_e behind4.
      let bv : ℕ = wrapped bits (pos (bytes_of (becomes bits element))) in
      let wv : Value = Integer bv in
      let kept : unsigned bits bv ≡ size = mod-mod (bytes_of (becomes bits element)) (2 ^ bits) ∙ ap (λ n. n % 2 ^ bits) bytes ∙ mod-eq_of_lt small in
      let ts5 : List PlainType = ts4 ++ number ∷ [] in
      let vs5 : List Value = vs4 ++ wv ∷ [] in
      let calls : Source → Draft = λ b. plain_call bits b λ p. described bits ss rs p in
      let c5 : Counts bits types args labels next (n4 + 1) ts5 vs5 = counts_on bits types args labels next number wv behind4.counts in
      let has_w : Has bits types args labels next ts5 vs5 (Made n4) number wv = has_new bits types args labels next number wv behind4.counts in
      let pv : ℕ = wrapped bits (pos (unsigned bits (unsigned bits (elements zs))) *ℤ pos (unsigned bits bv)) in
      let pv_is : pv ≡ total = product_is bits (elements zs) bv size kept ∙ ap (unsigned bits) (mul_comm size (elements zs)) ∙ mod-eq_of_lt less in
      let ts6 : List PlainType = ts5 ++ number ∷ [] in
      let vs6 : List Value = vs5 ++ Integer pv ∷ [] in
      let c6 : Counts bits types args labels next (n4 + 1 + 1) ts6 vs6 = counts_on bits types args labels next number (Integer pv) c5 in
      let has_b : Has bits types args labels next ts6 vs6 (Made (n4 + 1)) number (Integer total) = subst (λ k. Has bits types args labels next ts6 vs6 (Made (n4 + 1)) number (Integer k)) pv_is (has_new bits types args labels next number (Integer pv) c5) in
      let on6 : Stays bits types args labels next ts4 vs4 ts6 vs6 = λ s w v h. has_on bits types args labels next number (Integer pv) (has_on bits types args labels next number wv h) in
      let sizes6 : Sizes bits h above types args labels next ts6 vs6 ss zs = sizes_stay bits h above types args labels next on6 (sizes_stay bits h above types args labels next behind4.stays sizes3) in
      let each6 : Each bits types args labels next ts6 vs6 rs (map (λ z. Int bits) zs) (strides bits zs) = each_stays bits types args labels next on6 (each_stays bits types args labels next behind4.stays each3) in
      subst P (sym (value_goes bits types args labels next (codes "llvm.mlir.constant") [] (constant_value number (pos (bytes_of (becomes bits element)))) number (λ w. two (codes "llvm.mul") e w number calls) n4 ts4 vs4 [] [] (Known wv) wv refl refl (number_form bits h (bytes_of (becomes bits element))) refl
      ∙ times_goes bits h above types args labels next e (Made n4) (unsigned bits (elements zs)) bv calls (n4 + 1) ts5 vs5 (has_on bits types args labels next number wv has_e) has_w))
      (extended_goes (Made (n4 + 1)) total less (λ z. value (codes "llvm.call") (z ∷ []) (callee (codes "malloc")) Ptr λ p. described bits ss rs p) (n4 + 1 + 1) ts6 vs6 has_b c6 P λ n7 ts7 vs7 z u has_z behind7.
      subst P (sym (op_goes bits types args labels next (codes "llvm.call") (z ∷ []) (callee (codes "malloc")) Ptr (λ p. described bits ss rs p) n7 ts7 vs7 (u ∷ []) (Integer total ∷ []) Allocate
      (ap (λ x. and_item x (Some [])) has_z.type) (ap (λ x. and_item x (Some [])) has_z.value) (malloc_form bits (u ∷ []) (Ptr ∷ []))))
      (asked total zs results one_result less
      (λ ys. goes bits types args labels next (described bits ss rs (Made n7)) (n7 + 1) (ts7 ++ Ptr ∷ []) (vs7 ++ ys))
      λ pv. described_goes bits h above types args labels next ss rs zs (Made n7) pv (n7 + 1) (ts7 ++ Ptr ∷ []) (vs7 ++ pv ∷ [])
      (sizes_stay bits h above types args labels next (λ s w v h. has_on bits types args labels next Ptr pv h) (sizes_stay bits h above types args labels next behind7.stays sizes6))
      (each_stays bits types args labels next (λ s w v h. has_on bits types args labels next Ptr pv h) (each_stays bits types args labels next behind7.stays each6))
      (has_new bits types args labels next Ptr pv behind7.counts) (counts_on bits types args labels next Ptr pv behind7.counts))))
