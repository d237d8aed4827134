-- Rows of memref_lowering: loads and stores.
use Rattle.std.proofs.Common.{◌≡◌, ℕ, suc, ◌+◌, List, [], ◌∷◌, ◌++◌, length, Option, Some, None, true, false, refl, sym, ap, ap₂, subst, ◌∙◌, true≢false, arith}
use Rattle.std.specs.Prelude.{◌==◌, codes, map, slice_get}
use Rattle.std.specs.List.{list_all}
use Rattle.std.specs.Option.{option_map, unwrap_or}
use Rattle.tree_model.specs.declared.type_tree.Dim.{Dim}
use Rattle.tree_model.specs.declared.type_tree.TypeTree.TheVariants.{outs-Int}
use Rattle.number_model.specs.Answers.{Answer, Gives}
use Rattle.number_model.specs.Answers.{Answer as answer}
use Rattle.operation_model.specs.Values.{Value}
use Rattle.operation_model.specs.Pures.{element_place}
use Rattle.operation_model.specs.Doings.{Doing, on}
use Rattle.operation_model.specs.Forms.{Load, Store, LoadElement, StoreElement, Unknown}
use Rattle.operation_model.specs.Straight.{byte_size, load, store}
use Rattle.plain_tree.specs.Types.{PlainType, Int, Memref, Ptr, type_tree}
use Rattle.conversion_model.specs.declared.templates.Source.TheVariants.{Operand, Made}
use Rattle.conversion_model.specs.Types.{new_type, becomes, descriptor}
use Rattle.conversion_model.specs.Templates.{Template}
use Rattle.conversion_model.specs.Targets.{Shape}
use Rattle.conversion_model.specs.Rows.{Pattern, Straight}
use Rattle.form_model.specs.Types.{width, width_at, width_of}
use Rattle.form_model.specs.Properties.{if_some}
use Rattle.form_model.specs.Classes.{load_element, store_element, memref_in}
use Rattle.pattern_model.specs.Drafts.{Draft, value, effect, is_plain}
use Rattle.pattern_model.specs.Drafts.{gives as gives_back}
use Rattle.pattern_model.specs.MemrefRows.{place_of, load_row, load_by, store_row, store_by}
use Rattle.rule_model.specs.declared.shapes.Shape.TheVariants as shapes
use Rattle.rule_model.specs.Forms.{is_index}
use Rattle.rule_model.specs.Types.{memref_and_indices, element_and_place, element_of}
use Rattle.sound_model.specs.Refinement.{Refines, then_on}
use Rattle.sound_model.specs.Runs.{if_there, and_item, items_of, operation_runs, root_form, root_runs, template_runs, counted, types_made}
use Rattle.sound_model.specs.Soundness.{IsReplaceable, is_root, all_changed, StepsFit, RowHolds, RowSound}
use Rattle.row_laws.specs.Promises.{IsWidth}
use Rattle.row_laws.proofs.Sources.{no_items, one_item}
use Rattle.row_laws.proofs.Alone.{ends_form}
use Rattle.row_laws.proofs.Values.{none_is, of_some, when_is, IsPlain, plain_is, first_holds, second_holds, equal_numbers}
use Rattle.row_laws.proofs.Forms.{width_in, width_becomes}
use Rattle.row_laws.proofs.Fits.{fit_operands, fit_results, index_is}
use Rattle.row_laws.proofs.Steps.{root_unknown}
use Rattle.row_laws.proofs.Lowered.{root_is}
use Rattle.memory_row_laws.proofs.MemoryForms.{load_form, store_form}
use Rattle.memory_row_laws.proofs.MemrefRows.{memref_is}
use Rattle.memory_row_laws.proofs.SameTypes.{type_is}
use Rattle.memory_row_laws.proofs.DraftRuns.{goes, op_goes, effect_goes, last_there}
use Rattle.memory_row_laws.proofs.DraftTypes.{IndexTypes, Typed, value_typed, effect_typed, last_typed, place_typed}
use Rattle.memory_row_laws.proofs.Elements.{Indices, place_goes}

-- Indices of the root as operands

index_types : (bits : ℕ) (types ts : List PlainType) (dims : List Dim) (k : ℕ) → ((i : ℕ) → slice_get types (k + i) ≡ slice_get (map (becomes bits) ts) i) → list_all is_index ts ≡ true → length ts ≡ length dims → IndexTypes bits types k dims
index_types bits types ts [] k at all same = tt
index_types bits types [] (d ∷ dims) k at all same = absurd (omega (arith, same))
index_types bits types (t ∷ ts) (d ∷ dims) k at all same = (
  ap (slice_get types) (omega arith) ∙ at 0 ∙ ap (λ t. Some (becomes bits t)) (index_is t (first_holds _ _ all)),
  index_types bits types ts dims (k + 1) (λ i. ap (slice_get types) (omega arith) ∙ at (suc i)) (second_holds _ _ all) (omega (arith, same)),
)

indices_are : (bits : ℕ) (types : List PlainType) (args : List Value) (labels : List ℕ) (next : List Value → Doing) (dims : List Dim) (xs : List Value) (k : ℕ) → ((i : ℕ) → slice_get args (k + i) ≡ slice_get xs i) → IndexTypes bits types k dims → length xs ≡ length dims
    → Indices bits types args labels next k xs
indices_are bits types args labels next [] [] k at there same = tt
indices_are bits types args labels next [] (x ∷ xs) k at there same = absurd (omega (arith, same))
indices_are bits types args labels next (d ∷ dims) [] k at there same = absurd (omega (arith, same))
indices_are bits types args labels next (d ∷ dims) (x ∷ xs) k at there same =
    (there.0, ap (slice_get args) (omega arith) ∙ at 0, indices_are bits types args labels next dims xs (k + 1) (λ i. ap (slice_get args) (omega arith) ∙ at (suc i)) there.1 (omega (arith, same)))

one_behind : {A : Type 0} (x : A) (xs : List A) (i : ℕ) → slice_get (x ∷ xs) (1 + i) ≡ slice_get xs i
one_behind x xs i = let e : 1 + i ≡ suc i = omega arith in ap (slice_get (x ∷ xs)) e

two_behind : {A : Type 0} (x y : A) (xs : List A) (i : ℕ) → slice_get (x ∷ y ∷ xs) (2 + i) ≡ slice_get xs i
two_behind x y xs i = let e : 2 + i ≡ suc (suc i) = omega arith in ap (slice_get (x ∷ y ∷ xs)) e

-- the load
abbrev load_draft : ℕ → List Dim → PlainType → Draft
load_draft bits dims element = place_of bits (Operand 0) 1 dims element λ g. value (codes "llvm.load") (g ∷ []) [] (becomes bits element) λ r. gives_back (r ∷ [])

module _ (bits : ℕ) (h : width bits ≡ Some bits) (is_width : IsWidth bits) where
  bits_is : width_in bits 0 (Int bits ∷ []) ≡ Some bits
  bits_is = ap (width_at bits) (outs-Int bits) ∙ h

  -- one value, which is the last
  ends_with : (args made ys : List Value) (n : ℕ) (next : List Value → Doing) → length made ≡ n → length ys ≡ 1 → if_there (items_of args (made ++ ys) (Made n ∷ [])) next ≡ next ys
  ends_with args made ys n next counts = one_item (λ ys. if_there (items_of args (made ++ ys) (Made n ∷ [])) next ≡ next ys) (λ y. ap (λ x. if_there (and_item x (Some [])) next) (last_there made y n counts)) ys

  load_runs : (dims : List Dim) (element : PlainType) (w : ℕ) → width_of bits (type_tree element) ≡ Some w → (types results : List PlainType) (m : Value) (xs : List Value) (labels : List ℕ) (next : List Value → Doing) (t : PlainType)
      → slice_get types 0 ≡ Some t → IndexTypes bits types 1 dims → length xs ≡ length dims → length results ≡ 1
      → Refines (operation_runs (LoadElement bits w) results labels (m ∷ xs) next) (goes bits types (m ∷ xs) labels next (load_draft bits dims element) 0 [] [])
  load_runs dims element w has types results m xs labels next t first indices lengths one = go (element_place bits (byte_size w) m xs) refl
    where
      has_width : width_of bits (type_tree (becomes bits element)) ≡ Some w
      has_width = width_becomes bits h element ∙ has

      go : (a : Answer Value) → element_place bits (byte_size w) m xs ≡ a
          → Refines (then_on (on a (load w)) (λ ys. counted results ys (next ys))) (goes bits types (m ∷ xs) labels next (load_draft bits dims element) 0 [] [])
      go (Gives g) e =
          place_goes bits types (m ∷ xs) labels next bits_is is_width (Operand 0) t m 1 dims element w has_width xs lengths
          (indices_are bits types (m ∷ xs) labels next dims xs 1 (one_behind m xs) indices lengths)
          (λ g. value (codes "llvm.load") (g ∷ []) [] (becomes bits element) λ r. gives_back (r ∷ [])) 0 [] [] (record { type = first; value = refl }) (record { types = refl; values = refl }) g e
          (λ d. Refines (then_on (load w g) (λ ys. counted results ys (next ys))) d)
          λ n ts vs s has_s behind.
          subst (λ d. Refines (then_on (load w g) (λ ys. counted results ys (next ys))) d)
          (sym (op_goes bits types (m ∷ xs) labels next (codes "llvm.load") (s ∷ []) [] (becomes bits element) (λ r. gives_back (r ∷ [])) n ts vs (Ptr ∷ []) (g ∷ []) (Load w)
          (ap (λ x. and_item x (Some [])) has_s.type) (ap (λ x. and_item x (Some [])) has_s.value) (load_form bits w [] (Ptr ∷ []) (becomes bits element ∷ []) has_width)))
          (ends_form (Load w) (g ∷ []) [] results (becomes bits element ∷ []) next (λ ys. if_there (items_of (m ∷ xs) (vs ++ ys) (Made n ∷ [])) next) (sym one)
          (λ ys count. ends_with (m ∷ xs) vs ys n next behind.counts.values count))
      go answer.Undefined e = tt
      go answer.Outside e = tt

-- what a load is, where its row is defined
record LoadOf (bits : ℕ) (ts : List PlainType) (t : Template) : Type 0 where
  dims : List Dim
  element : PlainType
  indices : List PlainType
  from : ts ≡ Memref dims element ∷ indices
  many : length indices ≡ length dims
  is : load_draft bits dims element 0 ≡ t

load_is : (bits : ℕ) (ts : List PlainType) (t : Template) → load_by bits ts ≡ Some t → LoadOf bits ts t
load_is bits (Memref dims element ∷ indices) t e =
    let d : ((length indices == length dims) ≡ true) × (Some (load_draft bits dims element 0) ≡ Some t) = when_is _ _ t e in
    record { dims = dims; element = element; indices = indices; from = refl; many = equal_numbers _ _ d.0; is = of_some d.1 }
load_is bits _ t e = absurd (none_is e)

-- the one result is the element
element_result : (dims : List Dim) (element : PlainType) (indices results : List PlainType) → element_of (Memref dims element ∷ indices) results ≡ true → results ≡ element ∷ []
element_result dims element indices (t ∷ []) h = ap (λ t. t ∷ []) (type_is t element h)
element_result dims element indices _ h = absurd (true≢false (sym h))

all_indices : (dims : List Dim) (element : PlainType) (indices : List PlainType) → memref_and_indices (Memref dims element ∷ indices) ≡ true → list_all is_index indices ≡ true
all_indices dims element indices h = second_holds _ _ h

-- arguments of one and more
first_of : (args : List Value) (n : ℕ) → length args ≡ n + 1 → (P : List Value → Type 0) → ((m : Value) (xs : List Value) → length xs ≡ n → P (m ∷ xs)) → P args
first_of [] n is P f = absurd (omega (arith, is))
first_of (m ∷ xs) n is P f = f m xs (omega (arith, is))

if_loads : (bits : ℕ) (p : Option ℕ) (rs : List PlainType) → IsReplaceable (unwrap_or (option_map (LoadElement bits) p) Unknown) rs
if_loads bits None rs = tt
if_loads bits (Some w) rs = tt

-- none of the names that lead to an element is a root
pub record NoPlaceRoots (table : List Pattern) : Type 0 where
  pub extract : is_root table (codes "llvm.extractvalue") ≡ false
  pub mul : is_root table (codes "llvm.mul") ≡ false
  pub add : is_root table (codes "llvm.add") ≡ false
  pub sext : is_root table (codes "llvm.sext") ≡ false
  pub move : is_root table (codes "llvm.getelementptr") ≡ false
  pub load : is_root table (codes "llvm.load") ≡ false
  pub store : is_root table (codes "llvm.store") ≡ false

module _ (bits : ℕ) (h : width bits ≡ Some bits) (is_width : IsWidth bits) (table : List Pattern) (no : NoPlaceRoots table) where
  load_of : (o : Shape) (dims : List Dim) (element : PlainType) (types : List PlainType) (m : Value) (xs : List Value) (labels : List ℕ) (next : List Value → Doing) (t : PlainType) → slice_get types 0 ≡ Some t → IndexTypes bits types 1 dims
      → length xs ≡ length dims → length o.results ≡ 1 → (p : Option ℕ) → width_of bits (type_tree element) ≡ p → root_form bits o ≡ unwrap_or (option_map (LoadElement bits) p) Unknown
      → Refines (root_runs bits o (m ∷ xs) labels next) (template_runs bits types (m ∷ xs) labels (load_draft bits dims element 0) next)
  load_of o dims element types m xs labels next t first index many one None has form_is = root_unknown bits o (m ∷ xs) labels next _ form_is
  load_of o dims element types m xs labels next t first index many one (Some w) has form_is =
      subst (λ f. Refines (operation_runs f o.results labels (m ∷ xs) next) (template_runs bits types (m ∷ xs) labels (load_draft bits dims element 0) next)) (sym form_is)
      (load_runs bits h is_width dims element w has types o.results m xs labels next t first index many one)

  load_holds : (o : Shape) → o.name ≡ codes "memref.load" → (dims : List Dim) (element : PlainType) (indices : List PlainType) → o.operands ≡ Memref dims element ∷ indices → length indices ≡ length dims
      → list_all is_index indices ≡ true → o.results ≡ element ∷ [] → RowHolds bits table (new_type bits) o (load_draft bits dims element 0)
  load_holds o named dims element indices from many all result =
      let types : List PlainType = map (becomes bits) (Memref dims element ∷ indices) in
      let form_is : root_form bits o ≡ unwrap_or (option_map (LoadElement bits) (width_of bits (type_tree element))) Unknown =
      root_is bits o (codes "memref.load") load_element named refl
      ∙ ap (λ ts. unwrap_or (if_some (memref_in 0 (map type_tree ts)) (λ m. option_map (LoadElement bits) (width_of bits m.element))) Unknown) from
      ∙ ap (λ m. unwrap_or (if_some m (λ m. option_map (LoadElement bits) (width_of bits m.element))) Unknown) (memref_is dims element) in
      let index : IndexTypes bits types 1 dims = index_types bits types indices dims 1 (one_behind (descriptor bits (length dims)) (map (becomes bits) indices)) all many in
      let typed : Typed table types (becomes bits element ∷ []) (load_draft bits dims element) 0 [] =
      place_typed table types (becomes bits element ∷ []) bits (Operand 0) (descriptor bits (length dims)) no.extract no.mul no.add no.sext no.move 1 dims element index
      (λ g. value (codes "llvm.load") (g ∷ []) [] (becomes bits element) λ r. gives_back (r ∷ [])) 0 [] refl refl
      λ n ts s count has behind.
      value_typed table types (becomes bits element ∷ []) (codes "llvm.load") (s ∷ []) [] (becomes bits element) (λ r. gives_back (r ∷ [])) n ts (Ptr ∷ []) (ap (λ x. and_item x (Some [])) has) no.load
      (last_typed table types (becomes bits element ∷ []) n ts (becomes bits element) count refl) in
      let types_are : all_changed (new_type bits) o.operands ≡ types = ap (all_changed (new_type bits)) from in
      record {
        replaceable = subst (λ f. IsReplaceable f o.results) (sym form_is) (if_loads bits (width_of bits (type_tree element)) o.results);
        steps = subst (λ ts. StepsFit table ts (load_draft bits dims element 0).steps []) (sym types_are) typed.steps;
        does = record {
          types = ap (λ ts. items_of ts (types_made (load_draft bits dims element 0).steps) (load_draft bits dims element 0).results) types_are ∙ typed.gives ∙ sym (ap (λ ts. Some (all_changed (new_type bits) ts)) result);
          same = λ args labels next count same places.
              subst (λ ts. Refines (root_runs bits o args labels next) (template_runs bits ts args labels (load_draft bits dims element 0) next)) (sym types_are)
              (first_of args (length indices) (count ∙ ap length from ∙ omega arith) (λ args. Refines (root_runs bits o args labels next) (template_runs bits types args labels (load_draft bits dims element 0) next))
              λ m xs many_xs. load_of o dims element types m xs labels next (descriptor bits (length dims)) refl index (many_xs ∙ many) (ap length result) (width_of bits (type_tree element)) refl form_is);
        };
      }

  pub load_sound : RowSound bits table (codes "memref.load") (new_type bits) (Straight (load_row bits))
  load_sound o t named fit defined =
      let d : (is_plain (length o.operands) 1 o ≡ true) × (load_by bits o.operands ≡ Some t) = when_is _ _ t defined in
      let l : LoadOf bits o.operands t = load_is bits o.operands t d.1 in
      let operands : memref_and_indices (Memref l.dims l.element ∷ l.indices) ≡ true = ap memref_and_indices (sym l.from) ∙ fit_operands o (codes "memref.load") shapes.LoadElement named refl fit in
      let result : element_of (Memref l.dims l.element ∷ l.indices) o.results ≡ true = ap (λ ts. element_of ts o.results) (sym l.from) ∙ fit_results o (codes "memref.load") shapes.LoadElement named refl fit in
      subst (λ t. RowHolds bits table (new_type bits) o t) l.is
      (load_holds o named l.dims l.element l.indices l.from l.many (all_indices l.dims l.element l.indices operands) (element_result l.dims l.element l.indices o.results result))

-- the store
abbrev store_draft : ℕ → List Dim → PlainType → Draft
store_draft bits dims element = place_of bits (Operand 1) 2 dims element λ g. effect (codes "llvm.store") (Operand 0 ∷ g ∷ []) [] [] (gives_back [])

-- what a store is, where its row is defined
record StoreOf (bits : ℕ) (ts : List PlainType) (t : Template) : Type 0 where
  type : PlainType
  dims : List Dim
  element : PlainType
  indices : List PlainType
  from : ts ≡ type ∷ Memref dims element ∷ indices
  many : length indices ≡ length dims
  is : store_draft bits dims element 0 ≡ t

store_is : (bits : ℕ) (ts : List PlainType) (t : Template) → store_by bits ts ≡ Some t → StoreOf bits ts t
store_is bits (u ∷ Memref dims element ∷ indices) t e =
    let d : ((length indices == length dims) ≡ true) × (Some (store_draft bits dims element 0) ≡ Some t) = when_is _ _ t e in
    record { type = u; dims = dims; element = element; indices = indices; from = refl; many = equal_numbers _ _ d.0; is = of_some d.1 }
store_is bits _ t e = absurd (none_is e)

if_stores : (bits : ℕ) (p : Option ℕ) (rs : List PlainType) → IsReplaceable (unwrap_or (option_map (StoreElement bits) p) Unknown) rs
if_stores bits None rs = tt
if_stores bits (Some w) rs = tt

-- arguments of two and more
two_of_them : (args : List Value) (n : ℕ) → length args ≡ n + 2 → (P : List Value → Type 0) → ((x m : Value) (xs : List Value) → length xs ≡ n → P (x ∷ m ∷ xs)) → P args
two_of_them [] n is P f = absurd (omega (arith, is))
two_of_them (x ∷ []) n is P f = absurd (omega (arith, is))
two_of_them (x ∷ m ∷ xs) n is P f = f x m xs (omega (arith, is))

module _ (bits : ℕ) (h : width bits ≡ Some bits) (is_width : IsWidth bits) (table : List Pattern) (no : NoPlaceRoots table) where
  store_runs : (dims : List Dim) (element : PlainType) (w : ℕ) → width_of bits (type_tree element) ≡ Some w → (types results : List PlainType) (x m : Value) (xs : List Value) (labels : List ℕ) (next : List Value → Doing) (t : PlainType)
      → slice_get types 0 ≡ Some (becomes bits element) → slice_get types 1 ≡ Some t → IndexTypes bits types 2 dims → length xs ≡ length dims → results ≡ []
      → Refines (operation_runs (StoreElement bits w) results labels (x ∷ m ∷ xs) next) (goes bits types (x ∷ m ∷ xs) labels next (store_draft bits dims element) 0 [] [])
  store_runs dims element w has types results x m xs labels next t first second indices lengths none = go (element_place bits (byte_size w) m xs) refl
    where
      has_width : width_of bits (type_tree (becomes bits element)) ≡ Some w
      has_width = width_becomes bits h element ∙ has

      go : (a : Answer Value) → element_place bits (byte_size w) m xs ≡ a
          → Refines (then_on (on a (store w x)) (λ ys. counted results ys (next ys))) (goes bits types (x ∷ m ∷ xs) labels next (store_draft bits dims element) 0 [] [])
      go (Gives g) e =
          place_goes bits types (x ∷ m ∷ xs) labels next (bits_is bits h is_width) is_width (Operand 1) t m 2 dims element w has_width xs lengths
          (indices_are bits types (x ∷ m ∷ xs) labels next dims xs 2 (two_behind x m xs) indices lengths)
          (λ g. effect (codes "llvm.store") (Operand 0 ∷ g ∷ []) [] [] (gives_back [])) 0 [] [] (record { type = second; value = refl }) (record { types = refl; values = refl }) g e
          (λ d. Refines (then_on (store w x g) (λ ys. counted results ys (next ys))) d)
          λ n ts vs s has_s behind.
          subst (λ d. Refines (then_on (store w x g) (λ ys. counted results ys (next ys))) d)
          (sym (effect_goes bits types (x ∷ m ∷ xs) labels next (codes "llvm.store") (Operand 0 ∷ s ∷ []) [] n ts vs (becomes bits element ∷ Ptr ∷ []) (x ∷ g ∷ []) (Store w)
          (ap₂ (λ x y. and_item x (and_item y (Some []))) first has_s.type) (ap (λ y. and_item (Some x) (and_item y (Some []))) has_s.value) (store_form bits w [] (becomes bits element ∷ Ptr ∷ []) [] has_width)))
          (ends_form (Store w) (x ∷ g ∷ []) [] results [] next (λ ys. next []) (sym (ap length none)) (λ ys count. no_items (λ ys. next [] ≡ next ys) refl ys count))
      go answer.Undefined e = tt
      go answer.Outside e = tt

  store_of : (o : Shape) (dims : List Dim) (element : PlainType) (types : List PlainType) (x m : Value) (xs : List Value) (labels : List ℕ) (next : List Value → Doing) (t : PlainType)
      → slice_get types 0 ≡ Some (becomes bits element) → slice_get types 1 ≡ Some t → IndexTypes bits types 2 dims
      → length xs ≡ length dims → o.results ≡ [] → (p : Option ℕ) → width_of bits (type_tree element) ≡ p → root_form bits o ≡ unwrap_or (option_map (StoreElement bits) p) Unknown
      → Refines (root_runs bits o (x ∷ m ∷ xs) labels next) (template_runs bits types (x ∷ m ∷ xs) labels (store_draft bits dims element 0) next)
  store_of o dims element types x m xs labels next t first second index many none None has form_is = root_unknown bits o (x ∷ m ∷ xs) labels next _ form_is
  store_of o dims element types x m xs labels next t first second index many none (Some w) has form_is =
      subst (λ f. Refines (operation_runs f o.results labels (x ∷ m ∷ xs) next) (template_runs bits types (x ∷ m ∷ xs) labels (store_draft bits dims element 0) next)) (sym form_is)
      (store_runs dims element w has types o.results x m xs labels next t first second index many none)

  store_holds : (o : Shape) → o.name ≡ codes "memref.store" → (dims : List Dim) (element : PlainType) (indices : List PlainType) → o.operands ≡ element ∷ Memref dims element ∷ indices → length indices ≡ length dims
      → list_all is_index indices ≡ true → o.results ≡ [] → RowHolds bits table (new_type bits) o (store_draft bits dims element 0)
  store_holds o named dims element indices from many all none =
      let types : List PlainType = map (becomes bits) (element ∷ Memref dims element ∷ indices) in
      let form_is : root_form bits o ≡ unwrap_or (option_map (StoreElement bits) (width_of bits (type_tree element))) Unknown =
      root_is bits o (codes "memref.store") store_element named refl
      ∙ ap (λ ts. unwrap_or (if_some (memref_in 1 (map type_tree ts)) (λ m. option_map (StoreElement bits) (width_of bits m.element))) Unknown) from
      ∙ ap (λ m. unwrap_or (if_some m (λ m. option_map (StoreElement bits) (width_of bits m.element))) Unknown) (memref_is dims element) in
      let index : IndexTypes bits types 2 dims = index_types bits types indices dims 2 (two_behind (becomes bits element) (descriptor bits (length dims)) (map (becomes bits) indices)) all many in
      let typed : Typed table types [] (store_draft bits dims element) 0 [] =
      place_typed table types [] bits (Operand 1) (descriptor bits (length dims)) no.extract no.mul no.add no.sext no.move 2 dims element index
      (λ g. effect (codes "llvm.store") (Operand 0 ∷ g ∷ []) [] [] (gives_back [])) 0 [] refl refl
      λ n ts s count has behind.
      effect_typed table types [] (codes "llvm.store") (Operand 0 ∷ s ∷ []) [] n ts (becomes bits element ∷ Ptr ∷ []) (ap (λ y. and_item (Some (becomes bits element)) (and_item y (Some []))) has) no.store refl in
      let types_are : all_changed (new_type bits) o.operands ≡ types = ap (all_changed (new_type bits)) from in
      record {
        replaceable = subst (λ f. IsReplaceable f o.results) (sym form_is) (if_stores bits (width_of bits (type_tree element)) o.results);
        steps = subst (λ ts. StepsFit table ts (store_draft bits dims element 0).steps []) (sym types_are) typed.steps;
        does = record {
          types = ap (λ ts. items_of ts (types_made (store_draft bits dims element 0).steps) (store_draft bits dims element 0).results) types_are ∙ typed.gives ∙ sym (ap (λ ts. Some (all_changed (new_type bits) ts)) none);
          same = λ args labels next count same places.
              subst (λ ts. Refines (root_runs bits o args labels next) (template_runs bits ts args labels (store_draft bits dims element 0) next)) (sym types_are)
              (two_of_them args (length indices) (count ∙ ap length from ∙ omega arith) (λ args. Refines (root_runs bits o args labels next) (template_runs bits types args labels (store_draft bits dims element 0) next))
              λ x m xs many_xs. store_of o dims element types x m xs labels next (descriptor bits (length dims)) refl refl index (many_xs ∙ many) none (width_of bits (type_tree element)) refl form_is);
        };
      }

  pub store_sound : RowSound bits table (codes "memref.store") (new_type bits) (Straight (store_row bits))
  store_sound o t named fit defined =
      let d : (is_plain (length o.operands) 0 o ≡ true) × (store_by bits o.operands ≡ Some t) = when_is _ _ t defined in
      let p : IsPlain (length o.operands) 0 o = plain_is (length o.operands) 0 o d.0 in
      let s : StoreOf bits o.operands t = store_is bits o.operands t d.1 in
      let operands : element_and_place (s.type ∷ Memref s.dims s.element ∷ s.indices) ≡ true = ap element_and_place (sym s.from) ∙ fit_operands o (codes "memref.store") shapes.StoreElement named refl fit in
      subst (λ t. RowHolds bits table (new_type bits) o t) s.is
      (store_holds o named s.dims s.element s.indices (s.from ∙ ap (λ t. t ∷ Memref s.dims s.element ∷ s.indices) (type_is s.type s.element (first_holds _ _ operands))) s.many
      (second_holds _ _ (second_holds _ _ operands)) (no_items (λ ts. ts ≡ []) refl o.results p.results))
