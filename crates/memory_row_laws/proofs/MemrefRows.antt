-- Rows of memref_lowering: the rank, casts and the end of a memref.
use Rattle.std.proofs.Common.{◌≡◌, ℕ, List, [], ◌∷◌, length, Option, Some, None, Bool, true, false, refl, sym, ap, ap₂, subst, ◌∙◌, true≢false}
use Rattle.std.specs.Prelude.{◌+◌, ◌==◌, codes, map, pos}
use Rattle.std.specs.Option.{option_map, unwrap_or}
use Rattle.std.proofs.lemmas.List.{length-map}
use Rattle.tree_model.specs.declared.type_tree.Dim.{Dim}
use Rattle.tree_model.specs.declared.type_tree.TypeTree.TheVariants.{outs-Int, outs-Memref}
use Rattle.number_model.specs.Numbers.{unsigned, wrapped}
use Rattle.number_model.specs.Answers.{Answer, Gives, and_then, undefined_if}
use Rattle.number_model.specs.Answers.{Answer as answer}
use Rattle.operation_model.specs.Values.{Value, Integer, allocated_path, size_path, part_at, number}
use Rattle.operation_model.specs.Pures.{Known, HasSizes, check_sizes, gives}
use Rattle.operation_model.specs.Doings.{Doing, on}
use Rattle.operation_model.specs.Forms.{Computes, EndMemref, Free, Unknown}
use Rattle.operation_model.specs.Straight.{free}
use Rattle.plain_tree.specs.Types.{PlainType, Int, Index, Memref, Ptr, type_tree}
use Rattle.conversion_model.specs.declared.templates.Source.TheVariants.{Operand, Made}
use Rattle.conversion_model.specs.Types.{new_type, descriptor}
use Rattle.conversion_model.specs.Templates.{Template}
use Rattle.conversion_model.specs.Targets.{Shape}
use Rattle.conversion_model.specs.Rows.{Pattern, Straight}
use Rattle.form_model.specs.Types.{width, width_at, memref_at, memref_of, fixed_size}
use Rattle.form_model.specs.Types.{Memref as MemrefSeen}
use Rattle.form_model.specs.Properties.{if_some}
use Rattle.form_model.specs.Classes.{rank, memref_in, memref_cast, either_sizes, always}
use Rattle.pattern_model.specs.Drafts.{is_plain, constant_value}
use Rattle.pattern_model.specs.MemrefRows.{rank_row, rank_by, cast_row, cast_by, dealloc_row, dealloc_by, position, callee}
use Rattle.rule_model.specs.declared.shapes.Shape.TheVariants as shapes
use Rattle.rule_model.specs.Forms.{is_index}
use Rattle.sound_model.specs.Refinement.{Refines, then_on}
use Rattle.sound_model.specs.Runs.{operation_runs, items_of, form_at, root_form, root_runs, template_runs, counted}
use Rattle.sound_model.specs.Soundness.{IsReplaceable, is_root, all_changed, StepsFit, RowHolds, RowSound}
use Rattle.sound_model.proofs.Refining.{refines_refl}
use Rattle.row_laws.proofs.Sources.{no_items, one_item}
use Rattle.row_laws.proofs.Alone.{ends_form}
use Rattle.memory_row_laws.proofs.MemoryForms.{extract_form, free_form}
use Rattle.row_laws.proofs.Values.{step_of, none_is, of_some, when_is, IsPlain, plain_is, equal_numbers}
use Rattle.row_laws.proofs.Fits.{fit_results, index_is, one_that}
use Rattle.row_laws.proofs.Steps.{line_on, line_ended, line_gives, root_computes, of_gives, undefined_gives, outside_gives}
use Rattle.row_laws.proofs.Extremes.{counts_one}
use Rattle.row_laws.proofs.Lowered.{root_is}
use Rattle.row_laws.proofs.Constants.{constant_form, known}

-- what is seen of a memref
abbrev pub seen_memref : List Dim → PlainType → MemrefSeen
seen_memref dims element = record { sizes = map fixed_size dims; element = type_tree element }

pub memref_is : (dims : List Dim) (element : PlainType) → memref_of (type_tree (Memref dims element)) ≡ Some (seen_memref dims element)
memref_is dims element = ap memref_at (outs-Memref dims (type_tree element))

-- one memref
record OneMemref (ts : List PlainType) : Type 0 where
  dims : List Dim
  element : PlainType
  is : ts ≡ Memref dims element ∷ []

rank_is : (bits : ℕ) (ts : List PlainType) (t : Template) → rank_by bits ts ≡ Some t → (m : OneMemref ts) × (rank_by bits (Memref m.dims m.element ∷ []) ≡ Some t)
rank_is bits (Memref dims element ∷ []) t e = (record { dims = dims; element = element; is = refl }, e)
rank_is bits _ t e = absurd (none_is e)

-- the constant that is the rank
abbrev rank_template : ℕ → ℕ → Template
rank_template bits n = record { steps = step_of (codes "llvm.mlir.constant") [] (constant_value (Int bits) (pos n)) (Int bits) ∷ []; results = Made 0 ∷ [] }

known_given : (v : Value) (args ys : List Value) → gives (Known v) args ≡ Gives ys → v ∷ [] ≡ ys
known_given v args ys e = of_gives e

module _ (bits : ℕ) (h : width bits ≡ Some bits) (table : List Pattern) (no_constant : is_root table (codes "llvm.mlir.constant") ≡ false) where
  rank_holds : (o : Shape) → o.name ≡ codes "memref.rank" → (m : OneMemref o.operands) → o.results ≡ Index ∷ [] → RowHolds bits table (new_type bits) o (rank_template bits (length m.dims))
  rank_holds o named m result =
      let form_is : root_form bits o ≡ Computes (Known (Integer (unsigned bits (length (map fixed_size m.dims))))) =
      root_is bits o (codes "memref.rank") rank named refl
      ∙ ap (λ ts. unwrap_or (option_map (λ m. Computes (Known (Integer (unsigned bits (length m.sizes))))) (memref_in 0 (map type_tree ts))) Unknown) m.is
      ∙ ap (λ m. unwrap_or (option_map (λ m. Computes (Known (Integer (unsigned bits (length m.sizes))))) m) Unknown) (memref_is m.dims m.element) in
      let made_form : form_at bits (codes "llvm.mlir.constant") (constant_value (Int bits) (pos (length m.dims))) [] (Int bits ∷ []) ≡ Computes (Known (Integer (wrapped bits (pos (length m.dims))))) =
      constant_form bits (codes "llvm.mlir.constant") refl (Int bits) refl (pos (length m.dims)) [] ∙ ap (known (Some (pos (length m.dims)))) (ap (width_at bits) (outs-Int bits) ∙ h) in
      record {
        replaceable = subst (λ f. IsReplaceable f o.results) (sym form_is) tt;
        steps = (([], refl, λ root. absurd (true≢false (sym root ∙ no_constant))), tt);
        does = record {
          types = sym (ap (λ ts. Some (all_changed (new_type bits) ts)) result);
          same = λ args labels next count same places.
              root_computes bits o (Known (Integer (unsigned bits (length (map fixed_size m.dims))))) args labels next _ form_is λ ys e.
              subst (λ ys. Refines (counted o.results ys (next ys)) (template_runs bits (all_changed (new_type bits) o.operands) args labels (rank_template bits (length m.dims)) next)) (of_gives e)
              (rw (
                counts_one o.results (Integer (unsigned bits (length (map fixed_size m.dims)))) (next (Integer (unsigned bits (length (map fixed_size m.dims))) ∷ [])) (ap length result),
                line_gives bits (all_changed (new_type bits) o.operands) args labels (rank_template bits (length m.dims)) (Integer (wrapped bits (pos (length m.dims))) ∷ []) (Integer (wrapped bits (pos (length m.dims))) ∷ []) next (line_on refl refl made_form refl line_ended) refl,
                length-map m.dims fixed_size,
              )
              (refines_refl (next (Integer (unsigned bits (length m.dims)) ∷ []))));
        };
      }

  pub rank_sound : RowSound bits table (codes "memref.rank") (new_type bits) (Straight (rank_row bits))
  rank_sound o t named fit defined =
      let d : (is_plain 1 1 o ≡ true) × (rank_by bits o.operands ≡ Some t) = when_is _ _ t defined in
      let m : (m : OneMemref o.operands) × (rank_by bits (Memref m.dims m.element ∷ []) ≡ Some t) = rank_is bits o.operands t d.1 in
      let r : (u : PlainType) × (o.results ≡ u ∷ []) × (is_index u ≡ true) = one_that is_index o.results (fit_results o (codes "memref.rank") shapes.TakeRank named refl fit) in
      subst (λ t. RowHolds bits table (new_type bits) o t) (of_some m.1) (rank_holds o named m.0 (r.1 ∙ ap (λ u. u ∷ []) (index_is r.0 r.2)))

-- Casts: the operand itself

record TwoMemrefs (ts us : List PlainType) (t : Template) : Type 0 where
  dims : List Dim
  others : List Dim
  element : PlainType
  other : PlainType
  from : ts ≡ Memref dims element ∷ []
  to : us ≡ Memref others other ∷ []
  same : length dims ≡ length others
  is : record { steps = []; results = Operand 0 ∷ [] } ≡ t

cast_is : (ts us : List PlainType) (t : Template) → cast_by ts us ≡ Some t → TwoMemrefs ts us t
cast_is (Memref ds e ∷ []) (Memref es f ∷ []) t defined =
    let d : ((length ds == length es) ≡ true) × (Some (record { steps = []; results = Operand 0 ∷ [] }) ≡ Some t) = when_is _ _ t defined in
    record { dims = ds; others = es; element = e; other = f; from = refl; to = refl; same = equal_numbers _ _ d.0; is = of_some d.1 }
cast_is (Memref ds e ∷ []) _ t defined = absurd (none_is defined)
cast_is _ us t defined = absurd (none_is defined)

-- what a check of sizes gives is the memref
if_answered : {A : Type 0} (a : Answer A) (next : A → Answer (List Value)) (m : Value) (ys : List Value) → ((x : A) → next x ≡ Gives ys → m ∷ [] ≡ ys) → and_then a next ≡ Gives ys → m ∷ [] ≡ ys
if_answered (Gives x) next m ys h e = h x e
if_answered answer.Undefined next m ys h e = absurd (undefined_gives e)
if_answered answer.Outside next m ys h e = absurd (outside_gives e)

if_tested : (b : Bool) (a : Answer (List Value)) (m : Value) (ys : List Value) → (a ≡ Gives ys → m ∷ [] ≡ ys) → undefined_if b a ≡ Gives ys → m ∷ [] ≡ ys
if_tested true a m ys h e = absurd (undefined_gives e)
if_tested false a m ys h e = h e

sizes_given : (bits : ℕ) (fixed : List (Option ℕ)) (i : ℕ) (m : Value) (ys : List Value) → check_sizes bits fixed i m ≡ Gives ys → m ∷ [] ≡ ys
sizes_given bits [] i m ys e = of_gives e
sizes_given bits (None ∷ fixed) i m ys e = sizes_given bits fixed (i + 1) m ys e
sizes_given bits (Some n ∷ fixed) i m ys e =
    if_answered (part_at (size_path i) m) _ m ys (λ size f.
    if_answered (number size) _ m ys (λ a g. if_tested _ (check_sizes bits fixed (i + 1) m) m ys (sizes_given bits fixed (i + 1) m ys) g) f) e

pub cast_sound : (bits : ℕ) (table : List Pattern) → RowSound bits table (codes "memref.cast") (new_type bits) (Straight (cast_row bits))
cast_sound bits table o t named fit defined =
    let d : (is_plain 1 1 o ≡ true) × (cast_by o.operands o.results ≡ Some t) = when_is _ _ t defined in
    let p : IsPlain 1 1 o = plain_is 1 1 o d.0 in
    let m : TwoMemrefs o.operands o.results t = cast_is o.operands o.results t d.1 in
    let fixed : List (Option ℕ) = either_sizes (map fixed_size m.dims) (map fixed_size m.others) in
    let form_is : root_form bits o ≡ Computes (HasSizes bits fixed) =
    root_is bits o (codes "memref.cast") memref_cast named refl
    ∙ ap₂ (λ ts us. unwrap_or (if_some (memref_in 0 (map type_tree ts)) (λ m. option_map (λ r. Computes (HasSizes bits (either_sizes m.sizes r.sizes))) (memref_in 0 (map type_tree us)))) Unknown) m.from m.to
    ∙ ap₂ (λ x y. unwrap_or (if_some x (λ m. option_map (λ r. Computes (HasSizes bits (either_sizes m.sizes r.sizes))) y)) Unknown) (memref_is m.dims m.element) (memref_is m.others m.other) in
    subst (λ t. RowHolds bits table (new_type bits) o t) m.is (record {
      replaceable = subst (λ f. IsReplaceable f o.results) (sym form_is) tt;
      steps = tt;
      does = record {
        types = ap (λ ts. items_of (all_changed (new_type bits) ts) [] (Operand 0 ∷ [])) m.from ∙ ap (λ n. Some (descriptor bits n ∷ [])) m.same ∙ sym (ap (λ ts. Some (all_changed (new_type bits) ts)) m.to);
        same = λ args labels next count same places.
            one_item (λ args. Refines (root_runs bits o args labels next) (template_runs bits (all_changed (new_type bits) o.operands) args labels (record { steps = []; results = Operand 0 ∷ [] }) next))
            (λ x. root_computes bits o (HasSizes bits fixed) (x ∷ []) labels next _ form_is λ ys e.
            subst (λ ys. Refines (counted o.results ys (next ys)) (next (x ∷ []))) (sizes_given bits fixed 0 x ys e)
            (subst (λ d. Refines d (next (x ∷ []))) (sym (counts_one o.results x (next (x ∷ [])) p.results)) (refines_refl (next (x ∷ []))))) args (count ∙ p.operands);
      };
    })

-- The end of a memref

-- the allocated pointer goes to `free`
abbrev dealloc_template : Template
dealloc_template = record {
  steps =
      step_of (codes "llvm.extractvalue") (Operand 0 ∷ []) (position (pos 0 ∷ [])) Ptr
      ∷ record { name = codes "llvm.call"; props = callee (codes "free"); sources = Made 0 ∷ []; successors = []; makes = [] } ∷ [];
  results = [];
}

record OneFreed (ts : List PlainType) (t : Template) : Type 0 where
  dims : List Dim
  element : PlainType
  from : ts ≡ Memref dims element ∷ []
  is : dealloc_template ≡ t

dealloc_is : (ts : List PlainType) (t : Template) → dealloc_by ts ≡ Some t → OneFreed ts t
dealloc_is (Memref dims element ∷ []) t e = record { dims = dims; element = element; from = refl; is = of_some e }
dealloc_is _ t e = absurd (none_is e)

freed : (bits : ℕ) (types results : List PlainType) (x : Value) (labels : List ℕ) (next : List Value → Doing) (t : PlainType) → types ≡ t ∷ [] → results ≡ []
    → Refines (operation_runs EndMemref results labels (x ∷ []) next) (template_runs bits types (x ∷ []) labels dealloc_template next)
freed bits types results x labels next t one none = go (part_at allocated_path x) refl
  where
    go : (a : Answer Value) → part_at allocated_path x ≡ a → Refines (then_on (on a free) (λ ys. counted results ys (next ys))) (template_runs bits types (x ∷ []) labels dealloc_template next)
    go (Gives p) e =
        rw (one, extract_form bits (pos 0 ∷ []) (0 ∷ []) refl (t ∷ []) (Ptr ∷ []), e, free_form bits (Ptr ∷ []) [])
        (ends_form Free (p ∷ []) [] results [] next (λ ys. next []) (sym (ap length none)) (λ ys n. no_items (λ ys. next [] ≡ next ys) refl ys n))
    go answer.Undefined e = tt
    go answer.Outside e = tt

pub dealloc_sound : (bits : ℕ) (table : List Pattern) → is_root table (codes "llvm.extractvalue") ≡ false → is_root table (codes "llvm.call") ≡ false → RowSound bits table (codes "memref.dealloc") (new_type bits) (Straight (dealloc_row bits))
dealloc_sound bits table no_extract no_call o t named fit defined =
    let d : (is_plain 1 0 o ≡ true) × (dealloc_by o.operands ≡ Some t) = when_is _ _ t defined in
    let p : IsPlain 1 0 o = plain_is 1 0 o d.0 in
    let m : OneFreed o.operands t = dealloc_is o.operands t d.1 in
    let none : o.results ≡ [] = no_items (λ ts. ts ≡ []) refl o.results p.results in
    let form_is : root_form bits o ≡ EndMemref = root_is bits o (codes "memref.dealloc") (always EndMemref) named refl in
    let types_are : all_changed (new_type bits) o.operands ≡ descriptor bits (length m.dims) ∷ [] = ap (all_changed (new_type bits)) m.from in
    subst (λ t. RowHolds bits table (new_type bits) o t) m.is (record {
      replaceable = subst (λ f. IsReplaceable f o.results) (sym form_is) tt;
      steps =
          subst (λ ts. StepsFit table ts dealloc_template.steps []) (sym types_are)
          ((descriptor bits (length m.dims) ∷ [], refl, λ root. absurd (true≢false (sym root ∙ no_extract))), ((Ptr ∷ [], refl, λ root. absurd (true≢false (sym root ∙ no_call))), tt));
      does = record {
        types = sym (ap (λ ts. Some (all_changed (new_type bits) ts)) none);
        same = λ args labels next count same places.
            one_item (λ args. Refines (root_runs bits o args labels next) (template_runs bits (all_changed (new_type bits) o.operands) args labels dealloc_template next))
            (λ x. subst (λ f. Refines (operation_runs f o.results labels (x ∷ []) next) (template_runs bits (all_changed (new_type bits) o.operands) (x ∷ []) labels dealloc_template next)) (sym form_is)
            (freed bits (all_changed (new_type bits) o.operands) o.results x labels next (descriptor bits (length m.dims)) types_are none)) args (count ∙ p.operands);
      };
    })
