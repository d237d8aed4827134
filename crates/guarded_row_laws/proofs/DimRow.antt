-- The row of memref.dim.
use Rattle.std.proofs.Common.{◌≡◌, ℕ, zero, suc, ◌+◌, ◌^◌, ◌<◌, ◌≤◌, List, [], ◌∷◌, ◌++◌, length, Some, Bool, true, false, refl, sym, ap, ap₂, subst, ◌∙◌, arith}
use Rattle.std.specs.Prelude.{◌==◌, not, nat_lt, codes, map, pos, slice_get, if◌then◌else◌}
use Rattle.std.specs.Option.{option_map, unwrap_or}
use Rattle.std.proofs.lemmas.List.{length-map}
use Rattle.std.proofs.Math.Nat.{mod-mod, mod-eq_of_lt}
use Rattle.tree_model.specs.declared.type_tree.Dim.{Dim}
use Rattle.tree_model.specs.declared.type_tree.TypeTree.TheVariants.{outs-Int}
use Rattle.number_model.specs.Numbers.{unsigned, wrapped}
use Rattle.number_model.specs.Answers.{Answer, Gives, with_answer, undefined_if}
use Rattle.number_model.specs.Arithmetic.{Equal, bit, compares}
use Rattle.operation_model.specs.Values.{Value, Integer, number, part_at, parts_at, size_path, counted}
use Rattle.operation_model.specs.Pures.{one, is_set, Known, Compares, Selects, TakesSize, gives}
use Rattle.operation_model.specs.Doings.{Doing}
use Rattle.operation_model.specs.Forms.{Computes, Unknown}
use Rattle.plain_tree.specs.Types.{PlainType, Int, Index, Memref, type_tree}
use Rattle.conversion_model.specs.declared.templates.Source.{Source}
use Rattle.conversion_model.specs.declared.templates.Source.TheVariants.{Operand, Made}
use Rattle.conversion_model.specs.Types.{new_type, descriptor}
use Rattle.conversion_model.specs.Targets.{Shape}
use Rattle.conversion_model.specs.Rows.{Pattern}
use Rattle.form_model.specs.Types.{width, width_at, fixed_size}
use Rattle.form_model.specs.Properties.{if_some}
use Rattle.form_model.specs.Classes.{comparison, computes, takes_size, memref_in}
use Rattle.pattern_model.specs.Drafts.{Draft, value, predicate, constant_value}
use Rattle.pattern_model.specs.MemrefRows.{extract, constant, position, size_at, dim_by, memref_set}
use Rattle.pattern_model.specs.Tables.{all_sets}
use Rattle.sound_model.specs.Refinement.{Refines}
use Rattle.sound_model.specs.Runs.{if_there, item_of, and_item, items_of, form_at, root_form, root_runs, template_runs, types_made, counted as counts_results}
use Rattle.sound_model.specs.Soundness.{IsReplaceable, is_root, all_changed, StepsFit}
use Rattle.sound_model.proofs.Refining.{refines_refl}
use Rattle.row_numbers.proofs.Extremes.{set_bit}
use Rattle.row_laws.specs.Promises.{IsWidth}
use Rattle.row_laws.proofs.Sets.{is_width}
use Rattle.row_laws.proofs.Values.{none_is, of_some, when_is}
use Rattle.row_laws.proofs.Forms.{form_by, width_in}
use Rattle.row_laws.proofs.Steps.{of_gives, undefined_gives, root_computes}
use Rattle.row_laws.proofs.Lowered.{root_is}
use Rattle.row_laws.proofs.Extremes.{counts_one}
use Rattle.row_laws.proofs.Constants.{constant_form, known}
use Rattle.row_laws.proofs.ArithSet.{comparison_is}
use Rattle.memory_row_laws.proofs.MemrefRows.{memref_is}
use Rattle.memory_row_laws.proofs.DraftRuns.{goes, Has, Counts, counts_on, has_new, has_on, value_goes, one_longer, last_there}
use Rattle.memory_row_laws.proofs.DraftTypes.{append_nothing, Typed, value_typed, type_on}
use Rattle.memory_row_laws.proofs.Elements.{Given, given_in_turn, integer_of}
use Rattle.call_row_laws.proofs.Fields.{Through, through, First, first_part, part_goes}
use Rattle.guarded_row_laws.specs.Promises.{HoldsWhere, HasSizes, has_sizes, DimHoldsIn, DimRowHolds}
use Rattle.guarded_row_laws.proofs.Picks.{pick, pick_at, pick_before, part_among}

module _ (bits : ℕ) (h : width bits ≡ Some bits) where
  pub number_width : (ts : List PlainType) → width_in bits 0 (Int bits ∷ ts) ≡ Some bits
  number_width ts = ap (width_at bits) (outs-Int bits) ∙ h

  equal_form : (ts us : List PlainType) → form_at bits (codes "llvm.icmp") (predicate 0) (Int bits ∷ ts) us ≡ Computes (Compares Equal bits)
  equal_form ts us =
      form_by (codes "llvm.icmp") comparison refl _
      ∙ ap₂ (λ c x. unwrap_or (if_some c (λ c. option_map (λ w. Computes (Compares c w)) x)) Unknown) (comparison_is 0) (number_width ts)

  select_form : (ts us : List PlainType) → form_at bits (codes "llvm.select") [] ts us ≡ Computes Selects
  select_form ts us = form_by (codes "llvm.select") (computes Selects) refl _

  pub number_form : (j : ℕ) → form_at bits (codes "llvm.mlir.constant") (constant_value (Int bits) (pos j)) [] (Int bits ∷ []) ≡ Computes (Known (Integer (wrapped bits (pos j))))
  number_form j = constant_form bits (codes "llvm.mlir.constant") refl (Int bits) refl (pos j) [] ∙ ap (known (Some (pos j))) (number_width [])

  -- whether the index is a number below 2 to the width
  equal_test : (i j : ℕ) → j < 2 ^ bits → is_set (bit (compares Equal bits i (wrapped bits (pos j)))) ≡ (unsigned bits i == j)
  equal_test i j lt = set_bit (compares Equal bits i (wrapped bits (pos j))) ∙ ap (λ n. unsigned bits i == n) (mod-mod j (2 ^ bits) ∙ mod-eq_of_lt lt)

  module _ (types : List PlainType) (args : List Value) (labels : List ℕ) (next : List Value → Doing) (t : PlainType) (memref : Value) (i : ℕ) (index_type : slice_get types 1 ≡ Some (Int bits)) (index_value : slice_get args 1 ≡ Some (Integer i)) where
    size_at_goes : (dims : List Dim) (j : ℕ) → j + length dims ≤ 2 ^ bits → (ss : List Value) → parts_at (map size_path (counted j (length dims))) memref ≡ Gives ss → (n : ℕ) (made_types : List PlainType) (made : List Value) (r : Source) (rv : Value)
        → Has bits types args labels next made_types made r (Int bits) rv → Has bits types args labels next made_types made (Operand 0) t memref → Counts bits types args labels next n made_types made
        → goes bits types args labels next (size_at bits j dims r) n made_types made ≡ next (pick (unsigned bits i) j ss rv ∷ [])
    unfolding pick
    size_at_goes [] j bound ss parts n made_types made r rv has_r has_m counts =
        ap (λ x. if_there (and_item x (Some [])) next) has_r.value ∙ ap (λ ss. next (pick (unsigned bits i) j ss rv ∷ [])) (of_gives parts)
    size_at_goes (d ∷ dims) j bound ss parts n made_types made r rv has_r has_m counts =
        let number : PlainType = Int bits in
        let e : First (size_path j) (map size_path (counted (j + 1) (length dims))) memref ss = first_part (size_path j) _ memref ss parts in
        let lt : j < 2 ^ bits = omega (arith, bound) in
        let nv : Value = Integer (wrapped bits (pos j)) in
        let ev : Value = Integer (bit (compares Equal bits i (wrapped bits (pos j)))) in
        let qv : Value = if is_set (bit (compares Equal bits i (wrapped bits (pos j)))) then e.part else rv in
        let last : Source → Draft = λ q. size_at bits (j + 1) dims q in
        let selects : Source → Source → Draft = λ s c. value (codes "llvm.select") (c ∷ s ∷ r ∷ []) [] number last in
        let compared : Source → Source → Draft = λ s n. value (codes "llvm.icmp") (Operand 1 ∷ n ∷ []) (predicate 0) (Int 1) (selects s) in
        part_goes bits types args labels next (Operand 0) t memref (size_path j) number (λ s. constant (pos j) number (compared s)) n made_types made e.part has_m counts e.first (pos 3 ∷ pos j ∷ []) refl
        (λ g. g ≡ next (pick (unsigned bits i) j ss rv ∷ [])) λ has_s behind1.
        let ts1 : List PlainType = made_types ++ number ∷ [] in
        let vs1 : List Value = made ++ e.part ∷ [] in
        let c1 : Counts bits types args labels next (n + 1) ts1 vs1 = behind1.counts in
        let ts2 : List PlainType = ts1 ++ number ∷ [] in
        let vs2 : List Value = vs1 ++ nv ∷ [] in
        let c2 : Counts bits types args labels next (n + 1 + 1) ts2 vs2 = counts_on bits types args labels next number nv c1 in
        let ts3 : List PlainType = ts2 ++ Int 1 ∷ [] in
        let vs3 : List Value = vs2 ++ ev ∷ [] in
        let c3 : Counts bits types args labels next (n + 1 + 1 + 1) ts3 vs3 = counts_on bits types args labels next (Int 1) ev c2 in
        let has_n : Has bits types args labels next ts2 vs2 (Made (n + 1)) number nv = has_new bits types args labels next number nv c1 in
        let has_e : Has bits types args labels next ts3 vs3 (Made (n + 1 + 1)) (Int 1) ev = has_new bits types args labels next (Int 1) ev c2 in
        let has_s3 : Has bits types args labels next ts3 vs3 (Made n) number e.part = has_on bits types args labels next (Int 1) ev (has_on bits types args labels next number nv has_s) in
        let has_r3 : Has bits types args labels next ts3 vs3 r number rv = has_on bits types args labels next (Int 1) ev (has_on bits types args labels next number nv (behind1.stays r number rv has_r)) in
        value_goes bits types args labels next (codes "llvm.mlir.constant") [] (constant_value number (pos j)) number (compared (Made n)) (n + 1) ts1 vs1 [] [] (Known nv) nv refl refl (number_form j) refl
        ∙ value_goes bits types args labels next (codes "llvm.icmp") (Operand 1 ∷ Made (n + 1) ∷ []) (predicate 0) (Int 1) (selects (Made n)) (n + 1 + 1) ts2 vs2 (number ∷ number ∷ []) (Integer i ∷ nv ∷ []) (Compares Equal bits) ev
        (ap₂ (λ x y. and_item x (and_item y (Some []))) index_type has_n.type) (ap₂ (λ x y. and_item x (and_item y (Some []))) index_value has_n.value) (equal_form (number ∷ []) (Int 1 ∷ [])) refl
        ∙ value_goes bits types args labels next (codes "llvm.select") (Made (n + 1 + 1) ∷ Made n ∷ r ∷ []) [] number last (n + 1 + 1 + 1) ts3 vs3 (Int 1 ∷ number ∷ number ∷ []) (ev ∷ e.part ∷ rv ∷ []) Selects qv
        (ap₂ and_item has_e.type (ap₂ (λ x y. and_item x (and_item y (Some []))) has_s3.type has_r3.type)) (ap₂ and_item has_e.value (ap₂ (λ x y. and_item x (and_item y (Some []))) has_s3.value has_r3.value)) (select_form (Int 1 ∷ number ∷ number ∷ []) (number ∷ [])) refl
        ∙ size_at_goes dims (j + 1) (omega (arith, bound)) e.rest e.others (n + 1 + 1 + 1 + 1) (ts3 ++ number ∷ []) (vs3 ++ qv ∷ []) (Made (n + 1 + 1 + 1)) qv (has_new bits types args labels next number qv c3)
        (record { type = has_m.type; value = has_m.value }) (counts_on bits types args labels next number qv c3)
        ∙ ap (λ b. next (pick (unsigned bits i) (j + 1) e.rest (if b then e.part else rv) ∷ [])) (equal_test i j lt)
        ∙ ap (λ ss. next (pick (unsigned bits i) j ss rv ∷ [])) e.is

-- the size at the index
pick_is : (i : ℕ) (first : Value) (rest : List Value) (v : Value) → slice_get (first ∷ rest) i ≡ Some v → pick i 1 rest first ≡ v
pick_is zero first rest v h = pick_before 0 1 rest first (omega arith) ∙ of_some h
pick_is (suc k) first rest v h = pick_at k 1 (suc k) rest first v (omega arith) h

-- an index and the size there
record SizeAt (bits rank : ℕ) (m x : Value) (ys : List Value) : Type 0 where
  index : ℕ
  size : Value
  index_is : x ≡ Integer index
  less : unsigned bits index < rank
  size_is : part_at (size_path (unsigned bits index)) m ≡ Gives size
  is : size ∷ [] ≡ ys

if_less : (b : Bool) (a : Answer (List Value)) (ys : List Value) → undefined_if (not b) a ≡ Gives ys → (b ≡ true) × (a ≡ Gives ys)
if_less true a ys e = (refl, e)
if_less false a ys e = absurd (undefined_gives e)

pub below : (m n : ℕ) → nat_lt m n ≡ true → m < n
below m n h = grind arith

size_given : (bits rank : ℕ) (m x : Value) (ys : List Value) → gives (TakesSize bits rank) (m ∷ x ∷ []) ≡ Gives ys → SizeAt bits rank m x ys
size_given bits rank m x ys e =
    let g : Given (number x) (λ i. undefined_if (not (nat_lt (unsigned bits i) rank)) (with_answer one (part_at (size_path (unsigned bits i)) m))) ys = given_in_turn (number x) _ ys e in
    let l : (nat_lt (unsigned bits g.value) rank ≡ true) × (with_answer one (part_at (size_path (unsigned bits g.value)) m) ≡ Gives ys) = if_less _ _ ys g.then_given in
    let s : Through one (part_at (size_path (unsigned bits g.value)) m) ys = through one _ ys l.1 in
    record { index = g.value; size = s.value; index_is = integer_of x g.value g.first; less = below _ _ l.0; size_is = s.given; is = s.is }

abbrev dim_draft : ℕ → List Dim → Draft
dim_draft bits dims = extract (Operand 0) (pos 3 ∷ pos 0 ∷ []) (Int bits) λ r. size_at bits 1 dims r

dim_runs : (bits : ℕ) → width bits ≡ Some bits → (types : List PlainType) (t : PlainType) → slice_get types 0 ≡ Some t → slice_get types 1 ≡ Some (Int bits) → (d : Dim) (dims : List Dim) → length (d ∷ dims) ≤ 2 ^ bits → (m x : Value) (sizes ys : List Value) (labels : List ℕ) (next : List Value → Doing)
    → parts_at (map size_path (counted 0 (length (d ∷ dims)))) m ≡ Gives sizes → SizeAt bits (length (d ∷ dims)) m x ys → goes bits types (m ∷ x ∷ []) labels next (dim_draft bits dims) 0 [] [] ≡ next ys
dim_runs bits h types t memref_type index_type d dims bound m x sizes ys labels next parts s =
    let e : First (size_path 0) (map size_path (counted 1 (length dims))) m sizes = first_part (size_path 0) _ m sizes parts in
    let among : slice_get sizes (unsigned bits s.index) ≡ Some s.size =
    part_among (length (d ∷ dims)) 0 (unsigned bits s.index) m s.size sizes parts s.less (let z : 0 + unsigned bits s.index ≡ unsigned bits s.index = omega arith in ap (λ i. part_at (size_path i) m) z ∙ s.size_is) in
    part_goes bits types (m ∷ x ∷ []) labels next (Operand 0) t m (size_path 0) (Int bits) (λ r. size_at bits 1 dims r) 0 [] [] e.part (record { type = memref_type; value = refl }) (record { types = refl; values = refl }) e.first (pos 3 ∷ pos 0 ∷ []) refl
    (λ g. g ≡ next ys) λ has_r behind.
    size_at_goes bits h types (m ∷ x ∷ []) labels next t m s.index index_type (ap Some s.index_is) dims 1 (omega (arith, bound)) e.rest e.others 1 (Int bits ∷ []) (e.part ∷ []) (Made 0) e.part has_r (record { type = memref_type; value = refl }) behind.counts
    ∙ ap (λ v. next (v ∷ [])) (pick_is (unsigned bits s.index) e.part e.rest s.size (subst (λ l. slice_get l (unsigned bits s.index) ≡ Some s.size) (sym e.is) among))
    ∙ ap next s.is

-- Its operations
module _ (bits : ℕ) (table : List Pattern) (types : List PlainType) (t : PlainType) (memref_type : slice_get types 0 ≡ Some t) (index_type : slice_get types 1 ≡ Some (Int bits))
    (no_extract : is_root table (codes "llvm.extractvalue") ≡ false) (no_constant : is_root table (codes "llvm.mlir.constant") ≡ false) (no_compare : is_root table (codes "llvm.icmp") ≡ false) (no_select : is_root table (codes "llvm.select") ≡ false) where
  size_at_typed : (dims : List Dim) (j n : ℕ) (made_types : List PlainType) (r : Source) → item_of types made_types r ≡ Some (Int bits) → length made_types ≡ n → Typed table types (Int bits ∷ []) (size_at bits j dims r) n made_types
  size_at_typed [] j n made_types r has_r counts = record {
    steps = tt;
    gives = ap (λ l. items_of types l (r ∷ [])) (append_nothing made_types) ∙ ap (λ x. and_item x (Some [])) has_r;
  }
  size_at_typed (d ∷ dims) j n made_types r has_r counts =
      let number : PlainType = Int bits in
      let rs : List PlainType = number ∷ [] in
      let last : Source → Draft = λ q. size_at bits (j + 1) dims q in
      let selects : Source → Source → Draft = λ s c. value (codes "llvm.select") (c ∷ s ∷ r ∷ []) [] number last in
      let compared : Source → Source → Draft = λ s n. value (codes "llvm.icmp") (Operand 1 ∷ n ∷ []) (predicate 0) (Int 1) (selects s) in
      let ts1 : List PlainType = made_types ++ number ∷ [] in
      let ts2 : List PlainType = ts1 ++ number ∷ [] in
      let ts3 : List PlainType = ts2 ++ Int 1 ∷ [] in
      let c1 : length ts1 ≡ n + 1 = one_longer made_types number n counts in
      let c2 : length ts2 ≡ n + 1 + 1 = one_longer ts1 number (n + 1) c1 in
      let c3 : length ts3 ≡ n + 1 + 1 + 1 = one_longer ts2 (Int 1) (n + 1 + 1) c2 in
      let on3 : (s : Source) (u : PlainType) → item_of types made_types s ≡ Some u → item_of types ts3 s ≡ Some u = λ s u h. type_on table types rs ts2 s u (Int 1) (type_on table types rs ts1 s u number (type_on table types rs made_types s u number h)) in
      let has_s3 : item_of types ts3 (Made n) ≡ Some number = type_on table types rs ts2 (Made n) number (Int 1) (type_on table types rs ts1 (Made n) number number (last_there made_types number n counts)) in
      value_typed table types rs (codes "llvm.extractvalue") (Operand 0 ∷ []) (position (pos 3 ∷ pos j ∷ [])) number (λ s. constant (pos j) number (compared s)) n made_types (t ∷ []) (ap (λ x. and_item x (Some [])) memref_type) no_extract
      (value_typed table types rs (codes "llvm.mlir.constant") [] (constant_value number (pos j)) number (compared (Made n)) (n + 1) ts1 [] refl no_constant
      (value_typed table types rs (codes "llvm.icmp") (Operand 1 ∷ Made (n + 1) ∷ []) (predicate 0) (Int 1) (selects (Made n)) (n + 1 + 1) ts2 (number ∷ number ∷ [])
      (ap₂ (λ x y. and_item x (and_item y (Some []))) index_type (last_there ts1 number (n + 1) c1)) no_compare
      (value_typed table types rs (codes "llvm.select") (Made (n + 1 + 1) ∷ Made n ∷ r ∷ []) [] number last (n + 1 + 1 + 1) ts3 (Int 1 ∷ number ∷ number ∷ [])
      (ap₂ and_item (last_there ts2 (Int 1) (n + 1 + 1) c2) (ap₂ (λ x y. and_item x (and_item y (Some []))) has_s3 (on3 r number has_r))) no_select
      (size_at_typed dims (j + 1) (n + 1 + 1 + 1 + 1) (ts3 ++ number ∷ []) (Made (n + 1 + 1 + 1)) (last_there ts3 number (n + 1 + 1 + 1) c3) (one_longer ts3 number (n + 1 + 1 + 1) c3)))))

  dim_typed : (dims : List Dim) → Typed table types (Int bits ∷ []) (dim_draft bits dims) 0 []
  dim_typed dims =
      value_typed table types (Int bits ∷ []) (codes "llvm.extractvalue") (Operand 0 ∷ []) (position (pos 3 ∷ pos 0 ∷ [])) (Int bits) (λ r. size_at bits 1 dims r) 0 [] (t ∷ []) (ap (λ x. and_item x (Some [])) memref_type) no_extract
      (size_at_typed dims 1 1 (Int bits ∷ []) (Made 0) refl refl)

dim_at : (table : List Pattern) → is_root table (codes "llvm.extractvalue") ≡ false → is_root table (codes "llvm.mlir.constant") ≡ false → is_root table (codes "llvm.icmp") ≡ false → is_root table (codes "llvm.select") ≡ false
    → (bits : ℕ) → IsWidth bits → (o : Shape) (d : Dim) (dims : List Dim) (element : PlainType) → o.name ≡ codes "memref.dim" → o.operands ≡ Memref (d ∷ dims) element ∷ Index ∷ [] → o.results ≡ Index ∷ [] → length (d ∷ dims) ≤ 2 ^ bits
    → HoldsWhere (HasSizes (length (d ∷ dims))) bits table o (dim_draft bits dims 0)
dim_at table no_extract no_constant no_compare no_select bits w o d dims element named from result bound =
    let rank : ℕ = length (d ∷ dims) in
    let types : List PlainType = descriptor bits rank ∷ Int bits ∷ [] in
    let types_are : all_changed (new_type bits) o.operands ≡ types = ap (all_changed (new_type bits)) from in
    let typed : Typed table types (Int bits ∷ []) (dim_draft bits dims) 0 [] = dim_typed bits table types (descriptor bits rank) refl refl no_extract no_constant no_compare no_select dims in
    let form_is : root_form bits o ≡ Computes (TakesSize bits rank) =
    root_is bits o (codes "memref.dim") takes_size named refl
    ∙ ap (λ ts. unwrap_or (option_map (λ m. Computes (TakesSize bits (length m.sizes))) (memref_in 0 (map type_tree ts))) Unknown) from
    ∙ ap (λ m. unwrap_or (option_map (λ m. Computes (TakesSize bits (length m.sizes))) m) Unknown) (memref_is (d ∷ dims) element)
    ∙ ap (λ n. Computes (TakesSize bits n)) (length-map (d ∷ dims) fixed_size) in
    record {
      replaceable = subst (λ f. IsReplaceable f o.results) (sym form_is) tt;
      steps = subst (λ ts. StepsFit table ts (dim_draft bits dims 0).steps []) (sym types_are) typed.steps;
      types = ap (λ ts. items_of ts (types_made (dim_draft bits dims 0).steps) (dim_draft bits dims 0).results) types_are ∙ typed.gives ∙ sym (ap (λ ts. Some (all_changed (new_type bits) ts)) result);
      same = λ args labels next count places fine.
          subst (λ ts. Refines (root_runs bits o args labels next) (template_runs bits ts args labels (dim_draft bits dims 0) next)) (sym types_are)
          (of_sizes (λ args. Refines (root_runs bits o args labels next) (template_runs bits types args labels (dim_draft bits dims 0) next)) args fine λ m x sizes parts.
          root_computes bits o (TakesSize bits rank) (m ∷ x ∷ []) labels next _ form_is λ ys e.
          let s : SizeAt bits rank m x ys = size_given bits rank m x ys e in
          subst (λ ys. Refines (counts_results o.results ys (next ys)) (template_runs bits types (m ∷ x ∷ []) labels (dim_draft bits dims 0) next)) s.is
          (subst (λ g. Refines g (template_runs bits types (m ∷ x ∷ []) labels (dim_draft bits dims 0) next)) (sym (counts_one o.results s.size (next (s.size ∷ [])) (ap length result)))
          (subst (λ g. Refines (next (s.size ∷ [])) g) (sym (dim_runs bits (is_width bits w) types (descriptor bits rank) refl refl d dims bound m x sizes (s.size ∷ []) labels next parts (record { index = s.index; size = s.size; index_is = s.index_is; less = s.less; size_is = s.size_is; is = refl })))
          (refines_refl (next (s.size ∷ []))))));
    }
  where
    of_sizes : {rank : ℕ} (P : List Value → Type 0) (args : List Value) → HasSizes rank args → ((m x : Value) (sizes : List Value) → parts_at (map size_path (counted 0 rank)) m ≡ Gives sizes → P (m ∷ x ∷ [])) → P args
    of_sizes P _ (has_sizes {m = m} {x = x} sizes parts) f = f m x sizes parts

dim_holds : (table : List Pattern) → is_root table (codes "llvm.extractvalue") ≡ false → is_root table (codes "llvm.mlir.constant") ≡ false → is_root table (codes "llvm.icmp") ≡ false → is_root table (codes "llvm.select") ≡ false → DimHoldsIn table
dim_holds table no_extract no_constant no_compare no_select bits w o t dims element named from result bound defined = go dims from bound (sym (ap (dim_by bits) from) ∙ (when_is _ _ t defined).1)
  where
    go : (dims : List Dim) → o.operands ≡ Memref dims element ∷ Index ∷ [] → length dims ≤ 2 ^ bits → dim_by bits (Memref dims element ∷ Index ∷ []) ≡ Some t → HoldsWhere (HasSizes (length dims)) bits table o t
    go [] from bound e = absurd (none_is e)
    go (d ∷ dims) from bound e = subst (λ t. HoldsWhere (HasSizes (length (d ∷ dims))) bits table o t) (of_some e) (dim_at table no_extract no_constant no_compare no_select bits w o d dims element named from result bound)

pub dim_row_holds : DimRowHolds
dim_row_holds = record { alone = dim_holds memref_set refl refl refl refl; among_all = dim_holds all_sets refl refl refl refl }
