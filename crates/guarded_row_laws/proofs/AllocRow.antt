-- The row of memref.alloc without alignment.
use Rattle.std.proofs.Common.{◌≡◌, inl, inr, ℕ, suc, ◌+◌, ◌*◌, ◌^◌, ◌<◌, ◌≤◌, List, [], ◌∷◌, length, Option, Some, None, Bool, true, false, refl, sym, ap, subst, ◌∙◌, arith}
use Rattle.std.specs.Prelude.{◌==◌, ◌&&◌, nat_le, codes, map, slice_get, if◌then◌else◌}
use Rattle.std.specs.List.{list_all}
use Rattle.std.specs.Option.{option_map, unwrap_or}
use Rattle.std.proofs.Math.Pow.{pow_mono}
use Rattle.tree_model.specs.declared.type_tree.Dim.{Dim}
use Rattle.tree_model.specs.declared.type_tree.Dim.TheVariants.{Fixed, Dynamic}
use Rattle.tree_model.specs.declared.type_tree.TypeTree.TheVariants.{outs-Int, outs-Index, outs-Memref, outs-Func, outs-Ptr, outs-Void, outs-Struct, outs-Array, outs-LlvmFunc}
use Rattle.tree_model.specs.declared.attr_tree.AttrTree.{out-AttrTree}
use Rattle.number_model.specs.Answers.{Answer, Gives}
use Rattle.number_model.specs.Answers.{Answer as answer}
use Rattle.operation_model.specs.Values.{Value}
use Rattle.operation_model.specs.Doings.{Doing, Asks, on}
use Rattle.operation_model.specs.Doings.{Question as question}
use Rattle.operation_model.specs.Forms.{Layout, NewMemref, Unknown}
use Rattle.operation_model.specs.Straight.{Size, sizes_from, elements, byte_size, memref_at}
use Rattle.plain_tree.specs.Types.{PlainType, Int, Index, Memref, Func, Ptr, Void, Struct, Array, LlvmFunc, type_tree}
use Rattle.plain_tree.specs.Attrs.{PlainAttr, attr_tree, entry, entries_tree}
use Rattle.conversion_model.specs.Types.{new_type, becomes, descriptor}
use Rattle.conversion_model.specs.Templates.{Template}
use Rattle.conversion_model.specs.Targets.{Shape}
use Rattle.conversion_model.specs.Rows.{Pattern}
use Rattle.form_model.specs.Types.{width, width_at, width_of, fixed_size}
use Rattle.form_model.specs.Properties.{if_some, alignment_of, alignment_at}
use Rattle.form_model.specs.Classes.{new_memref, memref_in}
use Rattle.pattern_model.specs.MemrefRows.{allocated, plain_call, allocated_as, without_alignment, dynamic_count, bytes_of, alloc_row, memref_set}
use Rattle.pattern_model.specs.Tables.{all_sets}
use Rattle.rule_model.specs.Forms.{is_index}
use Rattle.sound_model.specs.Refinement.{Refines, then_on}
use Rattle.sound_model.specs.Runs.{operation_runs, root_form, template_runs, counted}
use Rattle.sound_model.specs.Soundness.{IsReplaceable, all_changed}
use Rattle.row_laws.specs.Promises.{IsWidth}
use Rattle.row_laws.proofs.Sets.{is_width}
use Rattle.row_laws.proofs.Values.{none_is, of_some, when_is, first_holds, second_holds, equal_numbers}
use Rattle.row_laws.proofs.Forms.{level_of}
use Rattle.row_laws.proofs.Fits.{index_is}
use Rattle.row_laws.proofs.Lowered.{root_is}
use Rattle.memory_row_laws.proofs.MemrefRows.{memref_is}
use Rattle.memory_row_laws.proofs.DraftRuns.{goes}
use Rattle.memory_row_laws.proofs.DraftTypes.{Typed}
use Rattle.call_row_laws.proofs.Returned.{from_start}
use Rattle.guarded_row_laws.specs.Promises.{HoldsWhere, FitsWidth, AllocHoldsIn, AllocRowHolds}
use Rattle.guarded_row_laws.proofs.Allocated.{Numbers}
use Rattle.guarded_row_laws.proofs.AllocRuns.{alloc_goes}
use Rattle.guarded_row_laws.proofs.AllocTypes.{NoAllocRoots, DynamicTypes, alloc_typed}

-- the bytes of an element
width_same : (n w : ℕ) (b : Bool) → (if b then Some n else None) ≡ Some w → n ≡ w
width_same n w true e = of_some e
width_same n w false e = absurd (none_is e)

bytes_are : (bits : ℕ) (t : PlainType) (w : ℕ) → width_of bits (type_tree t) ≡ Some w → bytes_of (becomes bits t) ≡ byte_size w
bytes_are bits (Int n) w e = ap byte_size (width_same n w (nat_le 1 n && nat_le n 64) (sym (ap (width_at bits) (outs-Int n)) ∙ e))
bytes_are bits Index w e = ap byte_size (of_some (sym (ap (width_at bits) outs-Index) ∙ e))
bytes_are bits (Memref dims element) w e = absurd (none_is (sym (ap (width_at bits) (outs-Memref dims (type_tree element))) ∙ e))
bytes_are bits (Func x y) w e = absurd (none_is (sym (ap (width_at bits) (outs-Func _ _)) ∙ e))
bytes_are bits Ptr w e = absurd (none_is (sym (ap (width_at bits) outs-Ptr) ∙ e))
bytes_are bits Void w e = absurd (none_is (sym (ap (width_at bits) outs-Void) ∙ e))
bytes_are bits (Struct x) w e = absurd (none_is (sym (ap (width_at bits) (outs-Struct _)) ∙ e))
bytes_are bits (Array n t) w e = absurd (none_is (sym (ap (width_at bits) (outs-Array n (type_tree t))) ∙ e))
bytes_are bits (LlvmFunc t x) w e = absurd (none_is (sym (ap (width_at bits) (outs-LlvmFunc (type_tree t) _)) ∙ e))

few_bytes : (a b c : Bool) → (if a then 1 else (if b then 2 else (if c then 4 else 8))) ≤ 8
few_bytes true b c = omega arith
few_bytes false true c = omega arith
few_bytes false false true = omega arith
few_bytes false false false = omega arith

bytes_small : (bits w : ℕ) → IsWidth bits → byte_size w < 2 ^ bits
bytes_small bits w is =
    let few : byte_size w ≤ 8 = few_bytes (nat_le w 8) (nat_le w 16) (nat_le w 32) in
    let le : 2 ^ 4 ≤ 2 ^ bits = pow_mono (enough is) in
    omega (arith, few, le)
  where
    enough : IsWidth bits → 4 ≤ bits
    enough (inl e) = omega (arith, e)
    enough (inr e) = omega (arith, e)

above_none : (bits : ℕ) → IsWidth bits → 0 < bits
above_none bits (inl e) = omega (arith, e)
above_none bits (inr e) = omega (arith, e)

-- operands that are all indices
dynamic_types : (bits : ℕ) (types : List PlainType) (dims : List Dim) (ts : List PlainType) (k : ℕ) → ((i : ℕ) → slice_get types (k + i) ≡ slice_get (map (becomes bits) ts) i) → list_all is_index ts ≡ true → dynamic_count dims ≡ length ts → DynamicTypes bits types k dims
dynamic_types bits types [] ts k at all many = tt
dynamic_types bits types (Fixed n ∷ dims) ts k at all many = dynamic_types bits types dims ts k at all many
dynamic_types bits types (Dynamic ∷ dims) [] k at all many = absurd (omega (arith, many))
dynamic_types bits types (Dynamic ∷ dims) (t ∷ ts) k at all many = (
  ap (slice_get types) (omega arith) ∙ at 0 ∙ ap (λ t. Some (becomes bits t)) (index_is t (first_holds _ _ all)),
  dynamic_types bits types dims ts (k + 1) (λ i. ap (slice_get types) (omega arith) ∙ at (suc i)) (second_holds _ _ all) (omega (arith, many)),
)

numbers_are : (bits : ℕ) (h : width bits ≡ Some bits) (above : 0 < bits) (types : List PlainType) (args : List Value) (labels : List ℕ) (next : List Value → Doing) (ts : List PlainType) (xs : List Value) (k : ℕ) → ((i : ℕ) → slice_get types (k + i) ≡ slice_get (map (becomes bits) ts) i)
    → ((i : ℕ) → slice_get args (k + i) ≡ slice_get xs i) → list_all is_index ts ≡ true → length xs ≡ length ts → Numbers bits h above types args labels next k xs
numbers_are bits h above types args labels next ts [] k at of all many = tt
numbers_are bits h above types args labels next [] (x ∷ xs) k at of all many = absurd (omega (arith, many))
numbers_are bits h above types args labels next (t ∷ ts) (x ∷ xs) k at of all many = (
  ap (slice_get types) (omega arith) ∙ at 0 ∙ ap (λ t. Some (becomes bits t)) (index_is t (first_holds _ _ all)),
  ap (slice_get args) (omega arith) ∙ of 0,
  numbers_are bits h above types args labels next ts xs (k + 1) (λ i. ap (slice_get types) (omega arith) ∙ at (suc i)) (λ i. ap (slice_get args) (omega arith) ∙ of (suc i)) (second_holds _ _ all) (omega (arith, many)),
)

-- what an allocation is, where its row is defined
record AllocOf (bits : ℕ) (o : Shape) (t : Template) (dims : List Dim) (element : PlainType) : Type 0 where
  unaligned : entry (codes "alignment") o.props ≡ None
  many : dynamic_count dims ≡ length o.operands
  is : allocated bits (plain_call bits) dims element 0 ≡ t

alloc_is : (bits : ℕ) (o : Shape) (t : Template) (dims : List Dim) (element : PlainType) → o.results ≡ Memref dims element ∷ [] → alloc_row bits o ≡ Some t → AllocOf bits o t dims element
alloc_is bits o t dims element result e = go (entry (codes "alignment") o.props) refl (when_is _ _ t e).1
  where
    go : (a : Option PlainAttr) → entry (codes "alignment") o.props ≡ a → without_alignment bits a o ≡ Some t → AllocOf bits o t dims element
    go (Some a) is e = absurd (none_is e)
    go None is e =
        let d : ((dynamic_count dims == length o.operands) ≡ true) × (Some (allocated bits (plain_call bits) dims element 0) ≡ Some t) = when_is _ _ t (sym (ap (allocated_as bits (plain_call bits) (length o.operands)) result) ∙ e) in
        record { unaligned = is; many = equal_numbers _ _ d.0; is = of_some d.1 }

abbrev layout : ℕ → List Dim → ℕ → Layout
layout bits dims w = record { bits = bits; sizes = map fixed_size dims; element = w; alignment = 1 }

alloc_root : (bits : ℕ) (o : Shape) (dims : List Dim) (element : PlainType) (w : ℕ) → o.name ≡ codes "memref.alloc" → o.results ≡ Memref dims element ∷ [] → entry (codes "alignment") o.props ≡ None → width_of bits (type_tree element) ≡ Some w
    → root_form bits o ≡ NewMemref (layout bits dims w)
alloc_root bits o dims element w named result unaligned has =
    root_is bits o (codes "memref.alloc") new_memref named refl
    ∙ ap (λ ts. unwrap_or (if_some (memref_in 0 (map type_tree ts)) (λ m. if_some (alignment_of (entries_tree o.props)) (λ alignment. option_map (λ w. NewMemref (record { bits = bits; sizes = m.sizes; element = w; alignment = alignment })) (width_of bits m.element)))) Unknown) result
    ∙ ap (λ m. unwrap_or (if_some m (λ m. if_some (alignment_of (entries_tree o.props)) (λ alignment. option_map (λ w. NewMemref (record { bits = bits; sizes = m.sizes; element = w; alignment = alignment })) (width_of bits m.element)))) Unknown) (memref_is dims element)
    ∙ ap (λ l. unwrap_or (if_some (alignment_at l) (λ alignment. option_map (λ w. NewMemref (record { bits = bits; sizes = map fixed_size dims; element = w; alignment = alignment })) (width_of bits (type_tree element)))) Unknown)
    (level_of (codes "alignment") o.props ∙ ap (option_map (λ a. out-AttrTree (attr_tree a))) unaligned)
    ∙ ap (λ x. unwrap_or (option_map (λ w. NewMemref (layout bits dims w)) x) Unknown) has

alloc_runs : (bits : ℕ) (w : IsWidth bits) (dims : List Dim) (element : PlainType) (size : ℕ) → width_of bits (type_tree element) ≡ Some size → (types results : List PlainType) → length results ≡ 1 → (args : List Value) (labels : List ℕ) (next : List Value → Doing)
    → Numbers bits (is_width bits w) (above_none bits w) types args labels next 0 args → FitsWidth bits dims (byte_size size) args
    → Refines (operation_runs (NewMemref (layout bits dims size)) results labels args next) (goes bits types args labels next (allocated bits (plain_call bits) dims element) 0 [] [])
alloc_runs bits w dims element size has types results one args labels next numbers fits = go (sizes_from bits (map fixed_size dims) args) refl
  where
    go : (a : Answer (List Size)) → sizes_from bits (map fixed_size dims) args ≡ a
        → Refines (then_on (on a (λ sizes. Asks (question.Allocate 1 (elements sizes * byte_size size)) (memref_at bits sizes))) (λ rs. counted results rs (next rs))) (goes bits types args labels next (allocated bits (plain_call bits) dims element) 0 [] [])
    go (Gives zs) e =
        alloc_goes bits (is_width bits w) (above_none bits w) w types args labels next dims element (byte_size size) (bytes_are bits element size has) (bytes_small bits size w) results one numbers zs e (fits zs e)
    go answer.Undefined e = tt
    go answer.Outside e = tt

alloc_holds : (table : List Pattern) → NoAllocRoots table → AllocHoldsIn table
alloc_holds table free bits w o t dims element size named all result has defined =
    let a : AllocOf bits o t dims element = alloc_is bits o t dims element result defined in
    let types : List PlainType = all_changed (new_type bits) o.operands in
    let form_is : root_form bits o ≡ NewMemref (layout bits dims size) = alloc_root bits o dims element size named result a.unaligned has in
    let typed : Typed table types (descriptor bits (length dims) ∷ []) (allocated bits (plain_call bits) dims element) 0 [] =
    alloc_typed table bits types (descriptor bits (length dims) ∷ []) free dims element (dynamic_types bits types dims o.operands 0 (from_start types) all a.many) refl in
    subst (λ t. HoldsWhere (FitsWidth bits dims (byte_size size)) bits table o t) a.is (record {
      replaceable = subst (λ f. IsReplaceable f o.results) (sym form_is) tt;
      steps = typed.steps;
      types = typed.gives ∙ sym (ap (λ ts. Some (all_changed (new_type bits) ts)) result);
      same = λ args labels next count places fits.
          subst (λ f. Refines (operation_runs f o.results labels args next) (template_runs bits types args labels (allocated bits (plain_call bits) dims element 0) next)) (sym form_is)
          (alloc_runs bits w dims element size has types o.results (ap length result) args labels next
          (numbers_are bits (is_width bits w) (above_none bits w) types args labels next o.operands args 0 (from_start types) (from_start args) all count) fits);
    })

pub alloc_row_holds : AllocRowHolds
alloc_row_holds = record {
  alone = alloc_holds memref_set (record { constant = refl; mul = refl; zext = refl; call = refl; undef = refl; insert = refl });
  among_all = alloc_holds all_sets (record { constant = refl; mul = refl; zext = refl; call = refl; undef = refl; insert = refl });
}
