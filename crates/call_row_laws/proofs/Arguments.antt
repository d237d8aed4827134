-- The arguments of calls: memrefs by their fields.
use Rattle.std.proofs.Common.{◌≡◌, ℕ, suc, ◌+◌, List, [], ◌∷◌, ◌++◌, length, Option, Some, None, refl, sym, ap, subst, ◌∙◌, arith}
use Rattle.std.specs.Prelude.{map, slice_get}
use Rattle.std.proofs.lemmas.List.{length-map}
use Rattle.tree_model.specs.declared.type_tree.Dim.{Dim}
use Rattle.tree_model.specs.declared.type_tree.TypeTree.TheVariants.{outs-Int, outs-Index, outs-Memref, outs-Func, outs-Ptr, outs-Void, outs-Struct, outs-Array, outs-LlvmFunc}
use Rattle.number_model.specs.Answers.{Gives, with_answer}
use Rattle.operation_model.specs.Values.{Value, parts_at, field_paths}
use Rattle.operation_model.specs.Calling.{Shapes, spread}
use Rattle.operation_model.specs.Doings.{Doing}
use Rattle.plain_tree.specs.Types.{PlainType, PlainTypes, type_trees, Int, Index, Memref, Func, Ptr, Void, Struct, Array, LlvmFunc, type_tree}
use Rattle.conversion_model.specs.declared.templates.Source.{Source}
use Rattle.conversion_model.specs.declared.templates.Source.TheVariants.{Operand}
use Rattle.conversion_model.specs.Types.{becomes, descriptor}
use Rattle.form_model.specs.Types.{shape_of, rank_of, memref_at, fixed_size}
use Rattle.pattern_model.specs.Drafts.{Draft}
use Rattle.pattern_model.specs.FuncRows.{fields, fields_of, arguments}
use Rattle.row_laws.proofs.Steps.{of_gives, outside_gives}
use Rattle.memory_row_laws.proofs.DraftRuns.{goes, Has, Counts}
use Rattle.memory_row_laws.proofs.Elements.{Given, given_in_turn, Behind}
use Rattle.call_row_laws.proofs.Fields.{Through, through, Each, each_ended, each_on, each_append, each_stays, fields_goes}

-- how a type's values are handed over
pub int_flat : (w : ℕ) → shape_of (type_tree (Int w)) ≡ None
int_flat w = ap (λ l. rank_of (memref_at l)) (outs-Int w)

pub ptr_flat : shape_of (type_tree Ptr) ≡ None
ptr_flat = ap (λ l. rank_of (memref_at l)) outs-Ptr

pub memref_spread : (dims : List Dim) (element : PlainType) → shape_of (type_tree (Memref dims element)) ≡ Some (length dims)
memref_spread dims element = ap (λ l. rank_of (memref_at l)) (outs-Memref dims (type_tree element)) ∙ ap Some (length-map dims fixed_size)

index_flat : shape_of (type_tree Index) ≡ None
index_flat = ap (λ l. rank_of (memref_at l)) outs-Index

void_flat : shape_of (type_tree Void) ≡ None
void_flat = ap (λ l. rank_of (memref_at l)) outs-Void

func_flat : (ins outs : PlainTypes) → shape_of (type_tree (Func ins outs)) ≡ None
func_flat ins outs = ap (λ l. rank_of (memref_at l)) (outs-Func (type_trees ins) (type_trees outs))

pub struct_flat : (fields : PlainTypes) → shape_of (type_tree (Struct fields)) ≡ None
struct_flat fields = ap (λ l. rank_of (memref_at l)) (outs-Struct (type_trees fields))

array_flat : (size : ℕ) (t : PlainType) → shape_of (type_tree (Array size t)) ≡ None
array_flat size t = ap (λ l. rank_of (memref_at l)) (outs-Array size (type_tree t))

llvm_func_flat : (out : PlainType) (ins : PlainTypes) → shape_of (type_tree (LlvmFunc out ins)) ≡ None
llvm_func_flat out ins = ap (λ l. rank_of (memref_at l)) (outs-LlvmFunc (type_tree out) (type_trees ins))

nothing_spread : (s : Option ℕ) (shapes : Shapes) (ys : List Value) → spread (s ∷ shapes) [] ≡ Gives ys → ⊥
nothing_spread None shapes ys e = outside_gives e
nothing_spread (Some rank) shapes ys e = outside_gives e

-- types whose values are handed over as they are
abbrev pub Flat : List PlainType → Type 0
Flat [] = Unit {0}
Flat (t ∷ ts) = (shape_of (type_tree t) ≡ None) × Flat ts

pub flat_append : (ts us : List PlainType) → Flat ts → Flat us → Flat (ts ++ us)
flat_append [] us f g = g
flat_append (t ∷ ts) us f g = (f.0, flat_append ts us f.1 g)

numbers_flat : (bits : ℕ) (dims : List Dim) → Flat (map (λ d. Int bits) dims)
numbers_flat bits [] = tt
numbers_flat bits (d ∷ dims) = (int_flat bits, numbers_flat bits dims)

fields_flat : (bits : ℕ) (dims : List Dim) → Flat (fields_of bits dims)
fields_flat bits dims = (ptr_flat, (ptr_flat, (int_flat bits, flat_append (map (λ d. Int bits) dims) (map (λ d. Int bits) dims) (numbers_flat bits dims) (numbers_flat bits dims))))

pub spread_flat : (ts : List PlainType) (vs : List Value) → Flat ts → length vs ≡ length ts → spread (map shape_of (map type_tree ts)) vs ≡ Gives vs
spread_flat [] [] f same = refl
spread_flat [] (v ∷ vs) f same = absurd (omega (arith, same))
spread_flat (t ∷ ts) [] f same = absurd (omega (arith, same))
spread_flat (t ∷ ts) (v ∷ vs) f same =
    ap (λ s. spread (s ∷ map shape_of (map type_tree ts)) (v ∷ vs)) f.0 ∙ ap (with_answer (λ rest. v ∷ rest)) (spread_flat ts vs f.1 (omega (arith, same)))

module _ (bits : ℕ) (types : List PlainType) (args : List Value) (labels : List ℕ) (next : List Value → Doing) where
  -- what follows the arguments
  abbrev pub Onward : (P : Doing → Type 0) → (List Source → Draft) → List PlainType → List Value → List Value → Type 0
  Onward P onward made_types made ys =
      (n' : ℕ) (more_types : List PlainType) (more : List Value) (ss : List Source) (us : List PlainType) → Flat us → Each bits types args labels next more_types more ss us ys → Behind bits types args labels next made_types made n' more_types more
      → P (goes bits types args labels next (onward ss) n' more_types more)

  -- an argument that is handed over as it is
  flat_goes : (t : PlainType) → shape_of (type_tree t) ≡ None → shape_of (type_tree (becomes bits t)) ≡ None → (ts : List PlainType) (x : Value) (xs : List Value) (k : ℕ) → ((i : ℕ) → slice_get types (k + i) ≡ slice_get (map (becomes bits) (t ∷ ts)) i) → ((i : ℕ) → slice_get args (k + i) ≡ slice_get (x ∷ xs) i)
      → (ys : List Value) → spread (map shape_of (map type_tree (t ∷ ts))) (x ∷ xs) ≡ Gives ys
      → (onward : List Source → Draft) (n : ℕ) (made_types : List PlainType) (made : List Value) → (P : Doing → Type 0) → Onward P onward made_types made ys
      → ((zs : List Value) → spread (map shape_of (map type_tree ts)) xs ≡ Gives zs → Onward P (λ rest. onward (Operand k ∷ rest)) made_types made zs → P (goes bits types args labels next (arguments bits (k + 1) ts (λ rest. onward (Operand k ∷ rest))) n made_types made))
      → P (goes bits types args labels next (arguments bits (k + 1) ts (λ rest. onward (Operand k ∷ rest))) n made_types made)
  flat_goes t flat becomes_flat ts x xs k at of ys given onward n made_types made P f again =
      let g : Through (λ rest. x ∷ rest) (spread (map shape_of (map type_tree ts)) xs) ys =
      through (λ rest. x ∷ rest) (spread (map shape_of (map type_tree ts)) xs) ys (ap (λ s. spread (s ∷ map shape_of (map type_tree ts)) (x ∷ xs)) (sym flat) ∙ given) in
      let has : Has bits types args labels next made_types made (Operand k) (becomes bits t) x = record { type = ap (slice_get types) (omega arith) ∙ at 0; value = ap (slice_get args) (omega arith) ∙ of 0 } in
      again g.value g.given λ n' more_types more ss us flats each behind.
      f n' more_types more (Operand k ∷ ss) (becomes bits t ∷ us) (becomes_flat, flats)
      (subst (λ vs. Each bits types args labels next more_types more (Operand k ∷ ss) (becomes bits t ∷ us) vs) g.is (each_on (behind.stays (Operand k) (becomes bits t) x has) each)) behind

  -- all arguments
  pub arguments_goes : (ts : List PlainType) (xs : List Value) (k : ℕ) → ((i : ℕ) → slice_get types (k + i) ≡ slice_get (map (becomes bits) ts) i) → ((i : ℕ) → slice_get args (k + i) ≡ slice_get xs i) → (ys : List Value) → spread (map shape_of (map type_tree ts)) xs ≡ Gives ys
      → (onward : List Source → Draft) (n : ℕ) (made_types : List PlainType) (made : List Value) → Counts bits types args labels next n made_types made → (P : Doing → Type 0) → Onward P onward made_types made ys
      → P (goes bits types args labels next (arguments bits k ts onward) n made_types made)
  arguments_goes [] [] k at of ys given onward n made_types made counts P f =
      f n made_types made [] [] tt (subst (λ vs. Each bits types args labels next made_types made [] [] vs) (of_gives given) each_ended) (record { counts = counts; stays = λ s w v h. h })
  arguments_goes [] (x ∷ xs) k at of ys given onward n made_types made counts P f = absurd (outside_gives given)
  arguments_goes (t ∷ ts) [] k at of ys given onward n made_types made counts P f = absurd (nothing_spread (shape_of (type_tree t)) _ ys given)
  arguments_goes (Memref dims element ∷ ts) (x ∷ xs) k at of ys given onward n made_types made counts P f =
      let shapes : Shapes = map shape_of (map type_tree ts) in
      let g : Given (parts_at (field_paths (length dims)) x) (λ fields. with_answer (λ rest. fields ++ rest) (spread shapes xs)) ys =
      given_in_turn (parts_at (field_paths (length dims)) x) (λ fields. with_answer (λ rest. fields ++ rest) (spread shapes xs)) ys (ap (λ s. spread (s ∷ shapes) (x ∷ xs)) (sym (memref_spread dims element)) ∙ given) in
      let r : Through (λ rest. g.value ++ rest) (spread shapes xs) ys = through (λ rest. g.value ++ rest) (spread shapes xs) ys g.then_given in
      let t : PlainType = descriptor bits (length dims) in
      let has : Has bits types args labels next made_types made (Operand k) t x = record { type = ap (slice_get types) (omega arith) ∙ at 0; value = ap (slice_get args) (omega arith) ∙ of 0 } in
      fields_goes bits types args labels next (Operand k) t x dims g.value (λ ss. arguments bits (k + 1) ts λ rest. onward (ss ++ rest)) n made_types made has counts g.first P λ n1 ts1 vs1 ss each1 behind1.
      arguments_goes ts xs (k + 1) (λ i. ap (slice_get types) (omega arith) ∙ at (suc i)) (λ i. ap (slice_get args) (omega arith) ∙ of (suc i)) r.value r.given (λ rest. onward (ss ++ rest)) n1 ts1 vs1 behind1.counts P λ n2 ts2 vs2 rs us flats each2 behind2.
      f n2 ts2 vs2 (ss ++ rs) (fields_of bits dims ++ us) (flat_append (fields_of bits dims) us (fields_flat bits dims) flats)
      (subst (λ vs. Each bits types args labels next ts2 vs2 (ss ++ rs) (fields_of bits dims ++ us) vs) r.is (each_append bits types args labels next (each_stays bits types args labels next behind2.stays each1) each2))
      (record { counts = behind2.counts; stays = λ s w v h. behind2.stays s w v (behind1.stays s w v h) })
  arguments_goes (Int w ∷ ts) (x ∷ xs) k at of ys given onward n made_types made counts P f =
      flat_goes (Int w) (int_flat w) (int_flat w) ts x xs k at of ys given onward n made_types made P f
      λ zs g h. arguments_goes ts xs (k + 1) (λ i. ap (slice_get types) (omega arith) ∙ at (suc i)) (λ i. ap (slice_get args) (omega arith) ∙ of (suc i)) zs g (λ rest. onward (Operand k ∷ rest)) n made_types made counts P h
  arguments_goes (Index ∷ ts) (x ∷ xs) k at of ys given onward n made_types made counts P f =
      flat_goes (Index) index_flat (int_flat bits) ts x xs k at of ys given onward n made_types made P f
      λ zs g h. arguments_goes ts xs (k + 1) (λ i. ap (slice_get types) (omega arith) ∙ at (suc i)) (λ i. ap (slice_get args) (omega arith) ∙ of (suc i)) zs g (λ rest. onward (Operand k ∷ rest)) n made_types made counts P h
  arguments_goes (Func ins outs ∷ ts) (x ∷ xs) k at of ys given onward n made_types made counts P f =
      flat_goes (Func ins outs) (func_flat ins outs) (func_flat ins outs) ts x xs k at of ys given onward n made_types made P f
      λ zs g h. arguments_goes ts xs (k + 1) (λ i. ap (slice_get types) (omega arith) ∙ at (suc i)) (λ i. ap (slice_get args) (omega arith) ∙ of (suc i)) zs g (λ rest. onward (Operand k ∷ rest)) n made_types made counts P h
  arguments_goes (Ptr ∷ ts) (x ∷ xs) k at of ys given onward n made_types made counts P f =
      flat_goes (Ptr) ptr_flat ptr_flat ts x xs k at of ys given onward n made_types made P f
      λ zs g h. arguments_goes ts xs (k + 1) (λ i. ap (slice_get types) (omega arith) ∙ at (suc i)) (λ i. ap (slice_get args) (omega arith) ∙ of (suc i)) zs g (λ rest. onward (Operand k ∷ rest)) n made_types made counts P h
  arguments_goes (Void ∷ ts) (x ∷ xs) k at of ys given onward n made_types made counts P f =
      flat_goes (Void) void_flat void_flat ts x xs k at of ys given onward n made_types made P f
      λ zs g h. arguments_goes ts xs (k + 1) (λ i. ap (slice_get types) (omega arith) ∙ at (suc i)) (λ i. ap (slice_get args) (omega arith) ∙ of (suc i)) zs g (λ rest. onward (Operand k ∷ rest)) n made_types made counts P h
  arguments_goes (Struct fields ∷ ts) (x ∷ xs) k at of ys given onward n made_types made counts P f =
      flat_goes (Struct fields) (struct_flat fields) (struct_flat fields) ts x xs k at of ys given onward n made_types made P f
      λ zs g h. arguments_goes ts xs (k + 1) (λ i. ap (slice_get types) (omega arith) ∙ at (suc i)) (λ i. ap (slice_get args) (omega arith) ∙ of (suc i)) zs g (λ rest. onward (Operand k ∷ rest)) n made_types made counts P h
  arguments_goes (Array size t ∷ ts) (x ∷ xs) k at of ys given onward n made_types made counts P f =
      flat_goes (Array size t) (array_flat size t) (array_flat size t) ts x xs k at of ys given onward n made_types made P f
      λ zs g h. arguments_goes ts xs (k + 1) (λ i. ap (slice_get types) (omega arith) ∙ at (suc i)) (λ i. ap (slice_get args) (omega arith) ∙ of (suc i)) zs g (λ rest. onward (Operand k ∷ rest)) n made_types made counts P h
  arguments_goes (LlvmFunc out ins ∷ ts) (x ∷ xs) k at of ys given onward n made_types made counts P f =
      flat_goes (LlvmFunc out ins) (llvm_func_flat out ins) (llvm_func_flat out ins) ts x xs k at of ys given onward n made_types made P f
      λ zs g h. arguments_goes ts xs (k + 1) (λ i. ap (slice_get types) (omega arith) ∙ at (suc i)) (λ i. ap (slice_get args) (omega arith) ∙ of (suc i)) zs g (λ rest. onward (Operand k ∷ rest)) n made_types made counts P h
