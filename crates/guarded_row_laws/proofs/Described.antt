-- The descriptor that is made field by field.
use Rattle.std.proofs.Common.{◌≡◌, ℕ, zero, suc, ◌+◌, ◌<◌, false, ◌^◌, List, [], ◌∷◌, ◌++◌, length, Some, refl, sym, ap, ap₂, subst, ◌∙◌, arith}
use Rattle.std.specs.Prelude.{◌==◌, codes, map, pos, replicate, slice_get, if◌then◌else◌}
use Rattle.std.proofs.Math.Nat.{zero-mod}
use Rattle.tree_model.specs.declared.type_tree.TypeTree.{TypeTree, fold_out-TypeTree}
use Rattle.tree_model.specs.declared.type_tree.TypeTree as type
use Rattle.tree_model.specs.declared.type_tree.TypeTree.TheVariants.{outs-Int, outs-Ptr, outs-Array}
use Rattle.number_model.specs.Numbers.{wrapped}
use Rattle.number_model.specs.Answers.{Gives, and_then, with_answer, present}
use Rattle.operation_model.specs.Values.{Value, Integer, Unset, together, replaced, with_part}
use Rattle.operation_model.specs.Values.{descriptor as described_value}
use Rattle.operation_model.specs.Pures.{one, Known, PutsPart}
use Rattle.operation_model.specs.Doings.{Doing}
use Rattle.operation_model.specs.Straight.{Size, size_values, strides}
use Rattle.plain_tree.specs.Types.{PlainType, Int, Ptr, Struct, Array, types_in, type_tree}
use Rattle.conversion_model.specs.declared.templates.Source.{Source}
use Rattle.conversion_model.specs.declared.templates.Source.TheVariants.{Made}
use Rattle.conversion_model.specs.Types.{descriptor}
use Rattle.form_model.specs.Types.{width, unset_of}
use Rattle.pattern_model.specs.Drafts.{Draft, constant_value}
use Rattle.pattern_model.specs.Drafts.{gives as gives_back}
use Rattle.pattern_model.specs.MemrefRows.{constant, undef, insert, inserted, described, position}
use Rattle.sound_model.specs.Runs.{if_there, and_item}
use Rattle.memory_row_laws.proofs.MemoryForms.{insert_form}
use Rattle.memory_row_laws.proofs.DraftRuns.{goes, Has, Counts, counts_on, has_new, has_on, value_goes, one_longer}
use Rattle.memory_row_laws.proofs.DraftTypes.{append_on}
use Rattle.memory_row_laws.proofs.Elements.{Stays, Behind, two_types, two_values}
use Rattle.call_row_laws.proofs.Structs.{values_back, middle_get, middle_replaced, part_put, unset_struct}
use Rattle.call_row_laws.proofs.Returned.{unset_form}
use Rattle.call_row_laws.proofs.Fields.{Each, each_ended, each_on, each_stays}
use Rattle.guarded_row_laws.proofs.DimRow.{number_form}
use Rattle.guarded_row_laws.proofs.Allocated.{Sizes, sizes_ended, sizes_on}

-- a part that is put into a part
nested_put : (front : List Value) (old new : Value) (back : List Value) (i : ℕ) (path : List ℕ) (x : Value) → length front ≡ i → with_part path x old ≡ Gives new → with_part (i ∷ path) x (together (front ++ old ∷ back)) ≡ Gives (together (front ++ new ∷ back))
nested_put front old new back i path x h put =
    ap (λ vs. and_then (present (slice_get vs i)) (λ o. with_answer (λ n. together (replaced vs i n)) (with_part path x o))) (values_back (front ++ old ∷ back))
    ∙ ap (λ o. and_then (present o) (λ p. with_answer (λ n. together (replaced (front ++ old ∷ back) i n)) (with_part path x p))) (middle_get front old back i h)
    ∙ ap (with_answer (λ n. together (replaced (front ++ old ∷ back) i n))) put
    ∙ ap (λ l. Gives (together l)) (middle_replaced front old new back i h)

-- what was never set
unset_ptr : unset_of type.Ptr ≡ Unset
unset_ptr = simp (fold_out-TypeTree, outs-Ptr) refl

unset_int : (w : ℕ) → unset_of (type.Int w) ≡ Unset
unset_int w = simp (fold_out-TypeTree, outs-Int) refl

unset_array : (n : ℕ) (t : TypeTree) → unset_of (type.Array n t) ≡ together (replicate n (unset_of t))
unset_array n t = simp (fold_out-TypeTree, outs-Array) refl

unset_flat : (bits : ℕ) → unset_of (type_tree (descriptor bits 0)) ≡ together (Unset ∷ Unset ∷ Unset ∷ [])
unset_flat bits = unset_struct (type.Ptr ∷ type.Ptr ∷ type.Int bits ∷ []) ∙ ap₂ (λ p n. together (p ∷ p ∷ n ∷ [])) unset_ptr (unset_int bits)

unset_deep : (bits rank : ℕ) → (suc rank == 0) ≡ false → unset_of (type_tree (descriptor bits (suc rank))) ≡ together (Unset ∷ Unset ∷ Unset ∷ together (replicate (suc rank) Unset) ∷ together (replicate (suc rank) Unset) ∷ [])
unset_deep bits rank e =
    ap (λ b. unset_of (type_tree (Struct (types_in (Ptr ∷ Ptr ∷ Int bits ∷ (if b then [] else Array (suc rank) (Int bits) ∷ Array (suc rank) (Int bits) ∷ [])))))) e
    ∙ unset_struct (type.Ptr ∷ type.Ptr ∷ type.Int bits ∷ type.Array (suc rank) (type.Int bits) ∷ type.Array (suc rank) (type.Int bits) ∷ [])
    ∙ ap₂ (λ p n. together (p ∷ p ∷ n ∷ unset_of (type.Array (suc rank) (type.Int bits)) ∷ unset_of (type.Array (suc rank) (type.Int bits)) ∷ [])) unset_ptr (unset_int bits)
    ∙ ap (λ a. together (Unset ∷ Unset ∷ Unset ∷ a ∷ a ∷ [])) (unset_array (suc rank) (type.Int bits) ∙ ap (λ v. together (replicate (suc rank) v)) (unset_int bits))

as_many_copies : (n : ℕ) (v : Value) → length (replicate n v) ≡ n
as_many_copies zero v = refl
as_many_copies (suc n) v = ap suc (as_many_copies n v)

as_many_sizes : (zs : List Size) → length (size_values zs) ≡ length zs
as_many_sizes [] = refl
as_many_sizes (z ∷ zs) = ap suc (as_many_sizes zs)

as_many_strides : (bits : ℕ) (zs : List Size) → length (strides bits zs) ≡ length zs
as_many_strides bits [] = refl
as_many_strides bits (z ∷ zs) = ap suc (as_many_strides bits zs)

not_none : (n : ℕ) → (suc n == 0) ≡ false
not_none n = grind arith

module _ (bits : ℕ) (h : width bits ≡ Some bits) (above : 0 < bits) (types : List PlainType) (args : List Value) (labels : List ℕ) (next : List Value → Doing) where
  sizes_each : {made_types : List PlainType} {made : List Value} {ss : List Source} {zs : List Size} → Sizes bits h above types args labels next made_types made ss zs → Each bits types args labels next made_types made ss (map (λ z. Int bits) zs) (size_values zs)
  sizes_each sizes_ended = each_ended
  sizes_each (sizes_on c has is same rest) = each_on has (sizes_each rest)

  -- the first of several
  record Cons (made_types : List PlainType) (made : List Value) (s : Source) (ss : List Source) (us : List PlainType) (vs : List Value) : Type 0 where
    type : PlainType
    types_behind : List PlainType
    part : Value
    parts : List Value
    has : Has bits types args labels next made_types made s type part
    each : Each bits types args labels next made_types made ss types_behind parts
    is : part ∷ parts ≡ vs

  abbrev Shown : List PlainType → List Value → List Source → List PlainType → List Value → Type 0
  Shown made_types made [] us vs = [] ≡ vs
  Shown made_types made (s ∷ ss) us vs = Cons made_types made s ss us vs

  shown : {made_types : List PlainType} {made : List Value} {ss : List Source} {us : List PlainType} {vs : List Value} → Each bits types args labels next made_types made ss us vs → Shown made_types made ss us vs
  shown each_ended = refl
  shown (each_on h rest) = record { type = _; types_behind = _; part = _; parts = _; has = h; each = rest; is = refl }

  module _ (t : PlainType) (k : ℕ) (front back : List Value) (at : length front ≡ k) where
    inserted_goes : (j n : ℕ) (made_types : List PlainType) (made : List Value) (m : Source) (done : List Value) → length done ≡ j → (ss : List Source) (us : List PlainType) (vs rest : List Value) → Each bits types args labels next made_types made ss us vs → length rest ≡ length vs
        → Has bits types args labels next made_types made m t (together (front ++ together (done ++ rest) ∷ back)) → Counts bits types args labels next n made_types made → (onward : Source → Draft) → (P : Doing → Type 0)
        → ((n' : ℕ) (more_types : List PlainType) (more : List Value) (s : Source) → Has bits types args labels next more_types more s t (together (front ++ together (done ++ vs) ∷ back)) → Behind bits types args labels next made_types made n' more_types more → P (goes bits types args labels next (onward s) n' more_types more))
        → P (goes bits types args labels next (inserted k t j ss m onward) n made_types made)
    inserted_goes j n made_types made m done counted [] us vs [] each same has counts onward P f =
        f n made_types made m (subst (λ vs. Has bits types args labels next made_types made m t (together (front ++ together (done ++ vs) ∷ back))) (shown each) has) (record { counts = counts; stays = λ s w v h. h })
    inserted_goes j n made_types made m done counted [] us vs (r ∷ rest) each same has counts onward P f = absurd (omega (arith, same, ap length (shown each)))
    inserted_goes j n made_types made m done counted (s ∷ ss) us vs [] each same has counts onward P f = let c : Cons made_types made s ss us vs = shown each in absurd (omega (arith, same, ap length c.is))
    inserted_goes j n made_types made m done counted (s ∷ ss) us vs (r ∷ rest) each same has counts onward P f =
        let c : Cons made_types made s ss us vs = shown each in
        let v : Value = together (front ++ together (done ++ c.part ∷ rest) ∷ back) in
        let many : length rest ≡ length c.parts = omega (arith, same, ap length c.is) in
        let put : with_part (k ∷ j ∷ []) c.part (together (front ++ together (done ++ r ∷ rest) ∷ back)) ≡ Gives v =
        nested_put front (together (done ++ r ∷ rest)) (together (done ++ c.part ∷ rest)) back k (j ∷ []) c.part at (part_put done r c.part rest j counted) in
        subst P (sym (value_goes bits types args labels next (codes "llvm.insertvalue") (m ∷ s ∷ []) (position (pos k ∷ pos j ∷ [])) t (λ u. inserted k t (j + 1) ss u onward) n made_types made (t ∷ c.type ∷ []) (together (front ++ together (done ++ r ∷ rest) ∷ back) ∷ c.part ∷ []) (PutsPart (k ∷ j ∷ [])) v
        (two_types bits types args labels next has c.has) (two_values bits types args labels next has c.has) (insert_form bits (pos k ∷ pos j ∷ []) (k ∷ j ∷ []) refl (t ∷ c.type ∷ []) (t ∷ [])) (ap (with_answer one) put)))
        (inserted_goes (j + 1) (n + 1) (made_types ++ t ∷ []) (made ++ v ∷ []) (Made n) (done ++ c.part ∷ []) (one_longer done c.part j counted) ss c.types_behind c.parts rest
        (each_stays bits types args labels next (λ r w x h. has_on bits types args labels next t v h) c.each) many
        (subst (λ l. Has bits types args labels next (made_types ++ t ∷ []) (made ++ v ∷ []) (Made n) t (together (front ++ together l ∷ back))) (sym (append_on done c.part rest)) (has_new bits types args labels next t v counts))
        (counts_on bits types args labels next t v counts) onward P λ n' more_types more q has_q behind.
        f n' more_types more q
        (subst (λ vs. Has bits types args labels next more_types more q t (together (front ++ together (done ++ vs) ∷ back))) c.is (subst (λ l. Has bits types args labels next more_types more q t (together (front ++ together l ∷ back))) (append_on done c.part c.parts) has_q))
        (record { counts = behind.counts; stays = λ r w x h. behind.stays r w x (has_on bits types args labels next t v h) }))

  -- the pointers and the offset of a descriptor whose parts behind them are these
  starts_goes : (t : PlainType) (behind : List Value) (p : Source) (pv : Value) (n : ℕ) (made_types : List PlainType) (made : List Value) → unset_of (type_tree t) ≡ together (Unset ∷ Unset ∷ Unset ∷ behind) → Has bits types args labels next made_types made p Ptr pv
      → Counts bits types args labels next n made_types made → (onward : Source → Draft) (P : Doing → Type 0)
      → ((n' : ℕ) (more_types : List PlainType) (more : List Value) (s : Source) → Has bits types args labels next more_types more s t (together (pv ∷ pv ∷ Integer 0 ∷ behind)) → Behind bits types args labels next made_types made n' more_types more → P (goes bits types args labels next (onward s) n' more_types more))
      → P (goes bits types args labels next (constant (pos 0) (Int bits) λ f. undef t λ u. insert u p (pos 0 ∷ []) t λ a. insert a p (pos 1 ∷ []) t λ b. insert b f (pos 2 ∷ []) t onward) n made_types made)
  starts_goes t behind p pv n made_types made unset has_p counts onward P f =
      let number : PlainType = Int bits in
      let zero_is : wrapped bits (pos 0) ≡ 0 = zero-mod (2 ^ bits) in
      let v2 : Value = together (Unset ∷ Unset ∷ Unset ∷ behind) in
      let v3 : Value = together (pv ∷ Unset ∷ Unset ∷ behind) in
      let v4 : Value = together (pv ∷ pv ∷ Unset ∷ behind) in
      let v5 : Value = together (pv ∷ pv ∷ Integer 0 ∷ behind) in
      let ts1 : List PlainType = made_types ++ number ∷ [] in
      let vs1 : List Value = made ++ Integer 0 ∷ [] in
      let ts2 : List PlainType = ts1 ++ t ∷ [] in
      let vs2 : List Value = vs1 ++ v2 ∷ [] in
      let ts3 : List PlainType = ts2 ++ t ∷ [] in
      let vs3 : List Value = vs2 ++ v3 ∷ [] in
      let ts4 : List PlainType = ts3 ++ t ∷ [] in
      let vs4 : List Value = vs3 ++ v4 ∷ [] in
      let third : Source → Source → Draft = λ f b. insert b f (pos 2 ∷ []) t onward in
      let second : Source → Source → Draft = λ f a. insert a p (pos 1 ∷ []) t (third f) in
      let first : Source → Source → Draft = λ f u. insert u p (pos 0 ∷ []) t (second f) in
      let c1 : Counts bits types args labels next (n + 1) ts1 vs1 = counts_on bits types args labels next number (Integer 0) counts in
      let c2 : Counts bits types args labels next (n + 1 + 1) ts2 vs2 = counts_on bits types args labels next t v2 c1 in
      let c3 : Counts bits types args labels next (n + 1 + 1 + 1) ts3 vs3 = counts_on bits types args labels next t v3 c2 in
      let c4 : Counts bits types args labels next (n + 1 + 1 + 1 + 1) ts4 vs4 = counts_on bits types args labels next t v4 c3 in
      let has_f : Has bits types args labels next ts1 vs1 (Made n) number (Integer 0) = has_new bits types args labels next number (Integer 0) counts in
      let stays2 : Stays bits types args labels next made_types made ts2 vs2 = λ r w x h. has_on bits types args labels next t v2 (has_on bits types args labels next number (Integer 0) h) in
      let stays3 : Stays bits types args labels next made_types made ts3 vs3 = λ r w x h. has_on bits types args labels next t v3 (stays2 r w x h) in
      let stays4 : Stays bits types args labels next made_types made ts4 vs4 = λ r w x h. has_on bits types args labels next t v4 (stays3 r w x h) in
      let has_2 : Has bits types args labels next ts2 vs2 (Made (n + 1)) t v2 = has_new bits types args labels next t v2 c1 in
      let has_3 : Has bits types args labels next ts3 vs3 (Made (n + 1 + 1)) t v3 = has_new bits types args labels next t v3 c2 in
      let has_4 : Has bits types args labels next ts4 vs4 (Made (n + 1 + 1 + 1)) t v4 = has_new bits types args labels next t v4 c3 in
      let has_f4 : Has bits types args labels next ts4 vs4 (Made n) number (Integer 0) = has_on bits types args labels next t v4 (has_on bits types args labels next t v3 (has_on bits types args labels next t v2 has_f)) in
      subst P (sym (value_goes bits types args labels next (codes "llvm.mlir.constant") [] (constant_value number (pos 0)) number (λ f. undef t (first f)) n made_types made [] [] (Known (Integer (wrapped bits (pos 0)))) (Integer 0) refl refl (number_form bits h 0) (ap (λ z. Gives (Integer z ∷ [])) zero_is)
      ∙ value_goes bits types args labels next (codes "llvm.mlir.undef") [] [] t (first (Made n)) (n + 1) ts1 vs1 [] [] (Known (unset_of (type_tree t))) v2 refl refl (unset_form bits [] [] t) (ap (λ v. Gives (v ∷ [])) unset)
      ∙ value_goes bits types args labels next (codes "llvm.insertvalue") (Made (n + 1) ∷ p ∷ []) (position (pos 0 ∷ [])) t (second (Made n)) (n + 1 + 1) ts2 vs2 (t ∷ Ptr ∷ []) (v2 ∷ pv ∷ []) (PutsPart (0 ∷ [])) v3
      (two_types bits types args labels next has_2 (stays2 p Ptr pv has_p)) (two_values bits types args labels next has_2 (stays2 p Ptr pv has_p)) (insert_form bits (pos 0 ∷ []) (0 ∷ []) refl (t ∷ Ptr ∷ []) (t ∷ [])) (ap (with_answer one) (part_put [] Unset pv (Unset ∷ Unset ∷ behind) 0 refl))
      ∙ value_goes bits types args labels next (codes "llvm.insertvalue") (Made (n + 1 + 1) ∷ p ∷ []) (position (pos 1 ∷ [])) t (third (Made n)) (n + 1 + 1 + 1) ts3 vs3 (t ∷ Ptr ∷ []) (v3 ∷ pv ∷ []) (PutsPart (1 ∷ [])) v4
      (two_types bits types args labels next has_3 (stays3 p Ptr pv has_p)) (two_values bits types args labels next has_3 (stays3 p Ptr pv has_p)) (insert_form bits (pos 1 ∷ []) (1 ∷ []) refl (t ∷ Ptr ∷ []) (t ∷ [])) (ap (with_answer one) (part_put (pv ∷ []) Unset pv (Unset ∷ behind) 1 refl))
      ∙ value_goes bits types args labels next (codes "llvm.insertvalue") (Made (n + 1 + 1 + 1) ∷ Made n ∷ []) (position (pos 2 ∷ [])) t onward (n + 1 + 1 + 1 + 1) ts4 vs4 (t ∷ number ∷ []) (v4 ∷ Integer 0 ∷ []) (PutsPart (2 ∷ [])) v5
      (two_types bits types args labels next has_4 has_f4) (two_values bits types args labels next has_4 has_f4) (insert_form bits (pos 2 ∷ []) (2 ∷ []) refl (t ∷ number ∷ []) (t ∷ [])) (ap (with_answer one) (part_put (pv ∷ pv ∷ []) Unset (Integer 0) behind 2 refl))))
      (f (n + 1 + 1 + 1 + 1 + 1) (ts4 ++ t ∷ []) (vs4 ++ v5 ∷ []) (Made (n + 1 + 1 + 1 + 1)) (has_new bits types args labels next t v5 c4)
      (record { counts = counts_on bits types args labels next t v5 c4; stays = λ r w x h. has_on bits types args labels next t v5 (stays4 r w x h) }))

  sizes_many : {made_types : List PlainType} {made : List Value} {ss : List Source} {zs : List Size} → Sizes bits h above types args labels next made_types made ss zs → length ss ≡ length zs
  sizes_many sizes_ended = refl
  sizes_many (sizes_on c has is same rest) = ap suc (sizes_many rest)

  abbrev NoneLeft : List Source → List Value → Type 0
  NoneLeft ss [] = ss ≡ []
  NoneLeft ss (v ∷ vs) = Unit {0}

  none_left : {made_types : List PlainType} {made : List Value} {ss : List Source} {us : List PlainType} {vs : List Value} → Each bits types args labels next made_types made ss us vs → NoneLeft ss vs
  none_left each_ended = refl
  none_left (each_on h rest) = tt

  ends : (t : PlainType) (m : Source) (v : Value) (n : ℕ) (made_types : List PlainType) (made : List Value) → Has bits types args labels next made_types made m t v → goes bits types args labels next (gives_back (m ∷ [])) n made_types made ≡ next (v ∷ [])
  ends t m v n made_types made has = ap (λ x. if_there (and_item x (Some [])) next) has.value

  -- the descriptor of these sizes and strides
  pub described_goes : (ss ts : List Source) (zs : List Size) (p : Source) (pv : Value) (n : ℕ) (made_types : List PlainType) (made : List Value) → Sizes bits h above types args labels next made_types made ss zs
      → Each bits types args labels next made_types made ts (map (λ z. Int bits) zs) (strides bits zs) → Has bits types args labels next made_types made p Ptr pv → Counts bits types args labels next n made_types made
      → goes bits types args labels next (described bits ss ts p) n made_types made ≡ next (described_value (length zs) pv pv (Integer 0) (size_values zs) (strides bits zs) ∷ [])
  described_goes _ ts _ p pv n made_types made sizes_ended each has_p counts =
      let t : PlainType = descriptor bits 0 in
      subst (λ ts. goes bits types args labels next (described bits [] ts p) n made_types made ≡ next (together (pv ∷ pv ∷ Integer 0 ∷ []) ∷ [])) (sym (none_left each))
      (starts_goes t [] p pv n made_types made (unset_flat bits) has_p counts (λ c. gives_back (c ∷ [])) (λ d. d ≡ next (together (pv ∷ pv ∷ Integer 0 ∷ []) ∷ []))
      λ n' more_types more m has behind. ends t m (together (pv ∷ pv ∷ Integer 0 ∷ [])) n' more_types more has)
  described_goes _ ts _ p pv n made_types made (sizes_on {s = s} {z = z} {ss = ss} {zs = zs} c has is same rest) each has_p counts =
      let all : Sizes bits h above types args labels next made_types made (s ∷ ss) (z ∷ zs) = sizes_on c has is same rest in
      let t : PlainType = descriptor bits (suc (length ss)) in
      let unset : List Value = replicate (suc (length ss)) Unset in
      let sizes : List Value = size_values (z ∷ zs) in
      let steps : List Value = strides bits (z ∷ zs) in
      let many_unset : length unset ≡ suc (length ss) = as_many_copies (suc (length ss)) Unset in
      let many : length ss ≡ length zs = sizes_many rest in
      let many_sizes : length unset ≡ length sizes = many_unset ∙ ap suc (many ∙ sym (as_many_sizes zs)) in
      let many_steps : length unset ≡ length steps = many_unset ∙ ap suc (many ∙ sym (as_many_strides bits zs)) in
      starts_goes t (together unset ∷ together unset ∷ []) p pv n made_types made (unset_deep bits (length ss) (not_none (length ss))) has_p counts
      (λ c. inserted 3 t 0 (s ∷ ss) c λ d. inserted 4 t 0 ts d λ m. gives_back (m ∷ [])) (λ d. d ≡ next (together (pv ∷ pv ∷ Integer 0 ∷ together sizes ∷ together steps ∷ []) ∷ []))
      λ n1 ts1 vs1 m1 has1 behind1.
      inserted_goes t 3 (pv ∷ pv ∷ Integer 0 ∷ []) (together unset ∷ []) refl 0 n1 ts1 vs1 m1 [] refl (s ∷ ss) (map (λ z. Int bits) (z ∷ zs)) sizes unset (each_stays bits types args labels next behind1.stays (sizes_each all)) many_sizes has1 behind1.counts
      (λ d. inserted 4 t 0 ts d λ m. gives_back (m ∷ [])) (λ d. d ≡ next (together (pv ∷ pv ∷ Integer 0 ∷ together sizes ∷ together steps ∷ []) ∷ [])) λ n2 ts2 vs2 m2 has2 behind2.
      inserted_goes t 4 (pv ∷ pv ∷ Integer 0 ∷ together sizes ∷ []) [] refl 0 n2 ts2 vs2 m2 [] refl ts (map (λ z. Int bits) (z ∷ zs)) steps unset
      (each_stays bits types args labels next behind2.stays (each_stays bits types args labels next behind1.stays each)) many_steps has2 behind2.counts (λ m. gives_back (m ∷ []))
      (λ d. d ≡ next (together (pv ∷ pv ∷ Integer 0 ∷ together sizes ∷ together steps ∷ []) ∷ [])) λ n3 ts3 vs3 m3 has3 behind3.
      ends t m3 (together (pv ∷ pv ∷ Integer 0 ∷ together sizes ∷ together steps ∷ [])) n3 ts3 vs3 has3
