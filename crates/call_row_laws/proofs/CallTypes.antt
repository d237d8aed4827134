-- The types of what a call becomes.
use Rattle.std.proofs.Common.{◌≡◌, ℕ, suc, ◌+◌, List, [], ◌∷◌, ◌++◌, length, Some, false, refl, sym, ap, ap₂, ◌∙◌, arith}
use Rattle.std.specs.Prelude.{codes, map, pos, ℤ, slice_get}
use Rattle.tree_model.specs.declared.type_tree.Dim.{Dim}
use Rattle.plain_tree.specs.Types.{PlainType, Int, Index, Memref, Func, Ptr, Void, Struct, Array, LlvmFunc, types_in}
use Rattle.plain_tree.specs.Attrs.{Entries}
use Rattle.conversion_model.specs.declared.templates.Source.{Source}
use Rattle.conversion_model.specs.declared.templates.Source.TheVariants.{Operand, Made}
use Rattle.conversion_model.specs.Types.{becomes, descriptor}
use Rattle.conversion_model.specs.Rows.{Pattern}
use Rattle.pattern_model.specs.Drafts.{Draft}
use Rattle.pattern_model.specs.Drafts.{gives as gives_back}
use Rattle.pattern_model.specs.MemrefRows.{extract, position}
use Rattle.pattern_model.specs.FuncRows.{fields_at, fields, fields_of, arguments, called, unpacked}
use Rattle.sound_model.specs.Runs.{item_of, and_item, items_of}
use Rattle.sound_model.specs.Soundness.{is_root}
use Rattle.memory_row_laws.proofs.DraftRuns.{one_longer, last_there}
use Rattle.memory_row_laws.proofs.DraftTypes.{append_nothing, Typed, value_typed, effect_typed, last_typed, type_on, StaysTyped}

module _ (table : List Pattern) (bits : ℕ) (types results : List PlainType) (no_extract : is_root table (codes "llvm.extractvalue") ≡ false) (no_call : is_root table (codes "llvm.call") ≡ false) where
  -- sources one by one, with their types
  pub data Types (made_types : List PlainType) : List Source → List PlainType → Type 0 where
    types_ended : Types made_types [] []
    types_on : {s : Source} {t : PlainType} {ss : List Source} {ts : List PlainType} → item_of types made_types s ≡ Some t → Types made_types ss ts → Types made_types (s ∷ ss) (t ∷ ts)

  all_types_of : {made_types : List PlainType} {ss : List Source} {ts : List PlainType} → Types made_types ss ts → items_of types made_types ss ≡ Some ts
  all_types_of types_ended = refl
  all_types_of (types_on h rest) = ap₂ and_item h (all_types_of rest)

  types_stay : {made_types more_types : List PlainType} {ss : List Source} {ts : List PlainType} → StaysTyped table types results made_types more_types → Types made_types ss ts → Types more_types ss ts
  types_stay stays types_ended = types_ended
  types_stay stays (types_on h rest) = types_on (stays _ _ h) (types_stay stays rest)

  types_append : {made_types : List PlainType} {ss rs : List Source} {ts us : List PlainType} → Types made_types ss ts → Types made_types rs us → Types made_types (ss ++ rs) (ts ++ us)
  types_append types_ended more = more
  types_append (types_on h rest) more = types_on h (types_append rest more)

  module _ (m : Source) (t : PlainType) where
    part_typed : (path : List ℤ) (u : PlainType) (k : Source → Draft) (n : ℕ) (made_types : List PlainType) → item_of types made_types m ≡ Some t → length made_types ≡ n
        → (item_of types (made_types ++ u ∷ []) (Made n) ≡ Some u → length (made_types ++ u ∷ []) ≡ n + 1 → StaysTyped table types results made_types (made_types ++ u ∷ []) → Typed table types results (k (Made n)) (n + 1) (made_types ++ u ∷ []))
        → Typed table types results (extract m path u k) n made_types
    part_typed path u k n made_types has counts f =
        value_typed table types results (codes "llvm.extractvalue") (m ∷ []) (position path) u k n made_types (t ∷ []) (ap (λ x. and_item x (Some [])) has) no_extract
        (f (last_there made_types u n counts) (one_longer made_types u n counts) (λ s w h. type_on table types results made_types s w u h))

    fields_at_typed : (path : ℕ) (dims : List Dim) (j : ℕ) (onward : List Source → Draft) (n : ℕ) (made_types : List PlainType) → item_of types made_types m ≡ Some t → length made_types ≡ n
        → ((n' : ℕ) (more_types : List PlainType) (ss : List Source) → Types more_types ss (map (λ d. Int bits) dims) → length more_types ≡ n' → StaysTyped table types results made_types more_types → Typed table types results (onward ss) n' more_types)
        → Typed table types results (fields_at bits m path j dims onward) n made_types
    fields_at_typed path [] j onward n made_types has counts f = f n made_types [] types_ended counts (λ s w h. h)
    fields_at_typed path (d ∷ dims) j onward n made_types has counts f =
        part_typed (pos path ∷ pos j ∷ []) (Int bits) (λ s. fields_at bits m path (j + 1) dims λ ss. onward (s ∷ ss)) n made_types has counts λ has_s c1 stays.
        fields_at_typed path dims (j + 1) (λ ss. onward (Made n ∷ ss)) (n + 1) (made_types ++ Int bits ∷ []) (stays m t has) c1 λ n' more_types ss each c2 stays2.
        f n' more_types (Made n ∷ ss) (types_on (stays2 (Made n) (Int bits) has_s) each) c2 (λ s w h. stays2 s w (stays s w h))

    fields_typed : (dims : List Dim) (onward : List Source → Draft) (n : ℕ) (made_types : List PlainType) → item_of types made_types m ≡ Some t → length made_types ≡ n
        → ((n' : ℕ) (more_types : List PlainType) (ss : List Source) → Types more_types ss (fields_of bits dims) → length more_types ≡ n' → StaysTyped table types results made_types more_types → Typed table types results (onward ss) n' more_types)
        → Typed table types results (fields bits m dims onward) n made_types
    fields_typed dims onward n made_types has counts f =
        part_typed (pos 0 ∷ []) Ptr (λ p. extract m (pos 1 ∷ []) Ptr λ q. extract m (pos 2 ∷ []) (Int bits) λ f. fields_at bits m 3 0 dims λ ss. fields_at bits m 4 0 dims λ ts. onward (p ∷ q ∷ f ∷ (ss ++ ts))) n made_types has counts λ has_p c1 stays1.
        part_typed (pos 1 ∷ []) Ptr (λ q. extract m (pos 2 ∷ []) (Int bits) λ f. fields_at bits m 3 0 dims λ ss. fields_at bits m 4 0 dims λ ts. onward (Made n ∷ q ∷ f ∷ (ss ++ ts))) (n + 1) (made_types ++ Ptr ∷ []) (stays1 m t has) c1 λ has_q c2 stays2.
        part_typed (pos 2 ∷ []) (Int bits) (λ f. fields_at bits m 3 0 dims λ ss. fields_at bits m 4 0 dims λ ts. onward (Made n ∷ Made (n + 1) ∷ f ∷ (ss ++ ts))) (n + 1 + 1) ((made_types ++ Ptr ∷ []) ++ Ptr ∷ []) (stays2 m t (stays1 m t has)) c2 λ has_f c3 stays3.
        fields_at_typed 3 dims 0 (λ ss. fields_at bits m 4 0 dims λ ts. onward (Made n ∷ Made (n + 1) ∷ Made (n + 1 + 1) ∷ (ss ++ ts))) (n + 1 + 1 + 1) (((made_types ++ Ptr ∷ []) ++ Ptr ∷ []) ++ Int bits ∷ []) (stays3 m t (stays2 m t (stays1 m t has))) c3 λ n4 ts4 ss each4 c4 stays4.
        fields_at_typed 4 dims 0 (λ ts. onward (Made n ∷ Made (n + 1) ∷ Made (n + 1 + 1) ∷ (ss ++ ts))) n4 ts4 (stays4 m t (stays3 m t (stays2 m t (stays1 m t has)))) c4 λ n5 ts5 rs each5 c5 stays5.
        f n5 ts5 (Made n ∷ Made (n + 1) ∷ Made (n + 1 + 1) ∷ (ss ++ rs))
        (types_on (stays5 (Made n) Ptr (stays4 (Made n) Ptr (stays3 (Made n) Ptr (stays2 (Made n) Ptr has_p))))
        (types_on (stays5 (Made (n + 1)) Ptr (stays4 (Made (n + 1)) Ptr (stays3 (Made (n + 1)) Ptr has_q))) (types_on (stays5 (Made (n + 1 + 1)) (Int bits) (stays4 (Made (n + 1 + 1)) (Int bits) has_f)) (types_append (types_stay stays5 each4) each5))))
        c5 (λ s w h. stays5 s w (stays4 s w (stays3 s w (stays2 s w (stays1 s w h)))))

    unpacked_typed : (ts : List PlainType) (j : ℕ) (onward : List Source → Draft) (n : ℕ) (made_types : List PlainType) → item_of types made_types m ≡ Some t → length made_types ≡ n
        → ((n' : ℕ) (more_types : List PlainType) (ss : List Source) → Types more_types ss ts → length more_types ≡ n' → StaysTyped table types results made_types more_types → Typed table types results (onward ss) n' more_types)
        → Typed table types results (unpacked m j ts onward) n made_types
    unpacked_typed [] j onward n made_types has counts f = f n made_types [] types_ended counts (λ s w h. h)
    unpacked_typed (u ∷ ts) j onward n made_types has counts f =
        part_typed (pos j ∷ []) u (λ r. unpacked m (j + 1) ts λ rs. onward (r ∷ rs)) n made_types has counts λ has_s c1 stays.
        unpacked_typed ts (j + 1) (λ rs. onward (Made n ∷ rs)) (n + 1) (made_types ++ u ∷ []) (stays m t has) c1 λ n' more_types ss each c2 stays2.
        f n' more_types (Made n ∷ ss) (types_on (stays2 (Made n) u has_s) each) c2 (λ s w h. stays2 s w (stays s w h))

  pub called_typed : (es : Entries) (ss : List Source) (us ts : List PlainType) → ts ≡ results → (n : ℕ) (made_types : List PlainType) → length made_types ≡ n → Types made_types ss us → Typed table types results (called es ss ts) n made_types
  called_typed es ss us [] is n made_types counts each = effect_typed table types results (codes "llvm.call") ss es n made_types us (all_types_of each) no_call (sym is)
  called_typed es ss us (t ∷ []) is n made_types counts each =
      value_typed table types results (codes "llvm.call") ss es t (λ r. gives_back (r ∷ [])) n made_types us (all_types_of each) no_call (last_typed table types results n made_types t counts (sym is))
  called_typed es ss us (t ∷ u ∷ ts) is n made_types counts each =
      let s : PlainType = Struct (types_in (t ∷ u ∷ ts)) in
      value_typed table types results (codes "llvm.call") ss es s (λ m. unpacked m 0 (t ∷ u ∷ ts) λ rs. gives_back rs) n made_types us (all_types_of each) no_call
      (unpacked_typed (Made n) s (t ∷ u ∷ ts) 0 (λ rs. gives_back rs) (n + 1) (made_types ++ s ∷ []) (last_there made_types s n counts) (one_longer made_types s n counts) λ n' more_types rs each2 c2 stays.
      record { steps = tt; gives = ap (λ l. items_of types l rs) (append_nothing more_types) ∙ all_types_of each2 ∙ ap Some is })

  -- the arguments
  pub arguments_typed : (ts : List PlainType) (k : ℕ) → ((i : ℕ) → slice_get types (k + i) ≡ slice_get (map (becomes bits) ts) i) → (onward : List Source → Draft) (n : ℕ) (made_types : List PlainType) → length made_types ≡ n
      → ((n' : ℕ) (more_types : List PlainType) (ss : List Source) (us : List PlainType) → Types more_types ss us → length more_types ≡ n' → StaysTyped table types results made_types more_types → Typed table types results (onward ss) n' more_types)
      → Typed table types results (arguments bits k ts onward) n made_types
  arguments_typed [] k at onward n made_types counts f = f n made_types [] [] types_ended counts (λ s w h. h)
  arguments_typed (Memref dims element ∷ ts) k at onward n made_types counts f =
      fields_typed (Operand k) (descriptor bits (length dims)) dims (λ ss. arguments bits (k + 1) ts λ rest. onward (ss ++ rest)) n made_types (ap (slice_get types) (omega arith) ∙ at 0) counts λ n1 ts1 ss each1 c1 stays1.
      arguments_typed ts (k + 1) (λ i. ap (slice_get types) (omega arith) ∙ at (suc i)) (λ rest. onward (ss ++ rest)) n1 ts1 c1 λ n2 ts2 rs us each2 c2 stays2.
      f n2 ts2 (ss ++ rs) (fields_of bits dims ++ us) (types_append (types_stay stays2 each1) each2) c2 (λ s w h. stays2 s w (stays1 s w h))
  arguments_typed (Int w ∷ ts) k at onward n made_types counts f =
      arguments_typed ts (k + 1) (λ i. ap (slice_get types) (omega arith) ∙ at (suc i)) (λ rest. onward (Operand k ∷ rest)) n made_types counts λ n' more_types ss us each c stays.
      f n' more_types (Operand k ∷ ss) (becomes bits (Int w) ∷ us) (types_on (stays (Operand k) (becomes bits (Int w)) (ap (slice_get types) (omega arith) ∙ at 0)) each) c stays
  arguments_typed (Index ∷ ts) k at onward n made_types counts f =
      arguments_typed ts (k + 1) (λ i. ap (slice_get types) (omega arith) ∙ at (suc i)) (λ rest. onward (Operand k ∷ rest)) n made_types counts λ n' more_types ss us each c stays.
      f n' more_types (Operand k ∷ ss) (becomes bits (Index) ∷ us) (types_on (stays (Operand k) (becomes bits (Index)) (ap (slice_get types) (omega arith) ∙ at 0)) each) c stays
  arguments_typed (Func ins outs ∷ ts) k at onward n made_types counts f =
      arguments_typed ts (k + 1) (λ i. ap (slice_get types) (omega arith) ∙ at (suc i)) (λ rest. onward (Operand k ∷ rest)) n made_types counts λ n' more_types ss us each c stays.
      f n' more_types (Operand k ∷ ss) (becomes bits (Func ins outs) ∷ us) (types_on (stays (Operand k) (becomes bits (Func ins outs)) (ap (slice_get types) (omega arith) ∙ at 0)) each) c stays
  arguments_typed (Ptr ∷ ts) k at onward n made_types counts f =
      arguments_typed ts (k + 1) (λ i. ap (slice_get types) (omega arith) ∙ at (suc i)) (λ rest. onward (Operand k ∷ rest)) n made_types counts λ n' more_types ss us each c stays.
      f n' more_types (Operand k ∷ ss) (becomes bits (Ptr) ∷ us) (types_on (stays (Operand k) (becomes bits (Ptr)) (ap (slice_get types) (omega arith) ∙ at 0)) each) c stays
  arguments_typed (Void ∷ ts) k at onward n made_types counts f =
      arguments_typed ts (k + 1) (λ i. ap (slice_get types) (omega arith) ∙ at (suc i)) (λ rest. onward (Operand k ∷ rest)) n made_types counts λ n' more_types ss us each c stays.
      f n' more_types (Operand k ∷ ss) (becomes bits (Void) ∷ us) (types_on (stays (Operand k) (becomes bits (Void)) (ap (slice_get types) (omega arith) ∙ at 0)) each) c stays
  arguments_typed (Struct ts0 ∷ ts) k at onward n made_types counts f =
      arguments_typed ts (k + 1) (λ i. ap (slice_get types) (omega arith) ∙ at (suc i)) (λ rest. onward (Operand k ∷ rest)) n made_types counts λ n' more_types ss us each c stays.
      f n' more_types (Operand k ∷ ss) (becomes bits (Struct ts0) ∷ us) (types_on (stays (Operand k) (becomes bits (Struct ts0)) (ap (slice_get types) (omega arith) ∙ at 0)) each) c stays
  arguments_typed (Array size t ∷ ts) k at onward n made_types counts f =
      arguments_typed ts (k + 1) (λ i. ap (slice_get types) (omega arith) ∙ at (suc i)) (λ rest. onward (Operand k ∷ rest)) n made_types counts λ n' more_types ss us each c stays.
      f n' more_types (Operand k ∷ ss) (becomes bits (Array size t) ∷ us) (types_on (stays (Operand k) (becomes bits (Array size t)) (ap (slice_get types) (omega arith) ∙ at 0)) each) c stays
  arguments_typed (LlvmFunc out ins ∷ ts) k at onward n made_types counts f =
      arguments_typed ts (k + 1) (λ i. ap (slice_get types) (omega arith) ∙ at (suc i)) (λ rest. onward (Operand k ∷ rest)) n made_types counts λ n' more_types ss us each c stays.
      f n' more_types (Operand k ∷ ss) (becomes bits (LlvmFunc out ins) ∷ us) (types_on (stays (Operand k) (becomes bits (LlvmFunc out ins)) (ap (slice_get types) (omega arith) ∙ at 0)) each) c stays
