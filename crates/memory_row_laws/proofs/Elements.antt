-- The place of an element of a memref.
use Rattle.std.proofs.Common.{◌≡◌, inl, inr, ℕ, ◌+◌, ◌*◌, List, [], ◌∷◌, ◌++◌, length, Some, Bool, true, false, refl, sym, ap, ap₂, subst, ◌∙◌, arith}
use Rattle.std.specs.Prelude.{codes, pos, negsuc, slice_get, ◌==◌, if◌then◌else◌, ◌+ℤ◌, ◌*ℤ◌}
use Rattle.tree_model.specs.declared.type_tree.Dim.{Dim}
use Rattle.tree_model.specs.declared.type_tree.TypeTree.TheVariants.{outs-Int}
use Rattle.form_model.specs.Types.{width_at, width_of}
use Rattle.row_laws.specs.Promises.{IsWidth}
use Rattle.number_model.specs.Numbers.{unsigned, signed, wrapped}
use Rattle.number_model.specs.Answers.{Answer, Gives, and_then, undefined_if, with_answer}
use Rattle.number_model.specs.Answers.{Answer as answer}
use Rattle.number_model.specs.Arithmetic.{no_flags, Add, Multiply, ExtendSigned}
use Rattle.operation_model.specs.Values.{number as number_of}
use Rattle.operation_model.specs.Straight.{byte_size}
use Rattle.conversion_model.specs.Types.{becomes}
use Rattle.operation_model.specs.Values.{Value, Integer, Pointer, Unset, Aggregate, Place, number, place_of, part_at, size_path, stride_path, offset_path, aligned_path}
use Rattle.operation_model.specs.Pures.{one, MovesPointer, Resizes, TwoNumbers, TakesPart, with_index, add_index, indexed, element_place, moved_on}
use Rattle.operation_model.specs.Doings.{Doing}
use Rattle.plain_tree.specs.Types.{PlainType, Int, Ptr, type_tree}
use Rattle.plain_tree.specs.Attrs.{Entries, OfType, Numbers}
use Rattle.conversion_model.specs.declared.templates.Source.{Source}
use Rattle.conversion_model.specs.declared.templates.Source.TheVariants.{Operand, Made}
use Rattle.pattern_model.specs.Drafts.{Draft, value}
use Rattle.pattern_model.specs.MemrefRows.{extract, two, offset_of, position, widened}
use Rattle.pattern_model.specs.MemrefRows.{place_of as place_draft}
use Rattle.sound_model.specs.Runs.{item_of, and_item, items_of}
use Rattle.row_numbers.proofs.Offsets.{offset_on, same_signed, extended}
use Rattle.row_laws.proofs.Forms.{width_in}
use Rattle.row_laws.proofs.Steps.{of_gives, undefined_gives, outside_gives}
use Rattle.memory_row_laws.proofs.MemoryForms.{extract_form, extension_form, moves_form}
use Rattle.row_laws.proofs.Expanded.{form_flagged}
use Rattle.memory_row_laws.proofs.DraftRuns.{goes, Has, Counts, counts_on, has_new, has_on, value_goes}

-- what is given by an answer and what follows
pub record Given {A B : Type 0} (x : Answer A) (next : A → Answer B) (r : B) : Type 0 where
  pub value : A
  pub first : x ≡ Gives value
  pub then_given : next value ≡ Gives r

pub given_in_turn : {A B : Type 0} (x : Answer A) (next : A → Answer B) (r : B) → and_then x next ≡ Gives r → Given x next r
given_in_turn (Gives a) next r e = record { value = a; first = refl; then_given = e }
given_in_turn answer.Undefined next r e = absurd (undefined_gives e)
given_in_turn answer.Outside next r e = absurd (outside_gives e)

pub integer_of : (v : Value) (n : ℕ) → number v ≡ Gives n → v ≡ Integer n
integer_of (Integer m) n e = ap Integer (of_gives e)
integer_of (Pointer b o) n e = absurd (outside_gives e)
integer_of Unset n e = absurd (undefined_gives e)
integer_of (Aggregate ps) n e = absurd (outside_gives e)

pub pointer_of : (v : Value) (p : Place) → place_of v ≡ Gives p → v ≡ Pointer p.buffer p.offset
pointer_of (Pointer b o) p e = ap (λ p. Pointer p.buffer p.offset) (of_gives e)
pointer_of (Integer m) p e = absurd (outside_gives e)
pointer_of Unset p e = absurd (undefined_gives e)
pointer_of (Aggregate ps) p e = absurd (outside_gives e)

if_defined : (b : Bool) (n r : ℕ) → undefined_if b (Gives n) ≡ Gives r → n ≡ r
if_defined true n r e = absurd (undefined_gives e)
if_defined false n r e = of_gives e

-- an index and its stride, where the sum goes on by them
record Indexed (m : Value) (k sum : ℕ) (x : Value) (r : ℕ) : Type 0 where
  index : ℕ
  stride : ℕ
  index_is : x ≡ Integer index
  stride_is : part_at (stride_path k) m ≡ Gives (Integer stride)
  sum_is : sum + index * stride ≡ r

index_given : (bits : ℕ) (m : Value) (k sum : ℕ) (x : Value) (r : ℕ) → with_index bits m k sum x ≡ Gives r → Indexed m k sum x r
index_given bits m k sum x r e =
    let i : Given (number x) _ r = given_in_turn (number x) _ r e in
    let s : Given (part_at (size_path k) m) _ r = given_in_turn (part_at (size_path k) m) _ r i.then_given in
    let z : Given (number s.value) _ r = given_in_turn (number s.value) _ r s.then_given in
    let t : Given (part_at (stride_path k) m) _ r = given_in_turn (part_at (stride_path k) m) _ r z.then_given in
    let d : Given (number t.value) (λ stride. add_index bits sum i.value z.value stride) r = given_in_turn (number t.value) _ r t.then_given in
    record {
      index = i.value;
      stride = d.value;
      index_is = integer_of x i.value i.first;
      stride_is = t.first ∙ ap Gives (integer_of t.value d.value d.first);
      sum_is = if_defined _ (sum + i.value * d.value) r d.then_given;
    }

-- the sum of an element that has a place
record Placed (bits size : ℕ) (place : Place) (answered : Answer ℕ) (g : Value) : Type 0 where
  sum : ℕ
  sum_is : answered ≡ Gives sum
  is : moved_on (signed bits sum *ℤ pos size) place ≡ g

placed : (bits size : ℕ) (place : Place) (sum : Answer ℕ) (g : Value) → with_answer (λ n. moved_on (signed bits n *ℤ pos size) place) sum ≡ Gives g → Placed bits size place sum g
placed bits size place (Gives n) g e = record { sum = n; sum_is = refl; is = of_gives e }
placed bits size place answer.Undefined g e = absurd (undefined_gives e)
placed bits size place answer.Outside g e = absurd (outside_gives e)

-- two sources that are there
module _ (bits : ℕ) (operand_types : List PlainType) (args : List Value) (labels : List ℕ) (next : List Value → Doing) where
  pub two_types : {made_types : List PlainType} {made : List Value} {s r : Source} {t u : PlainType} {v x : Value}
      → Has bits operand_types args labels next made_types made s t v → Has bits operand_types args labels next made_types made r u x → items_of operand_types made_types (s ∷ r ∷ []) ≡ Some (t ∷ u ∷ [])
  two_types h k = ap₂ (λ x y. and_item x (and_item y (Some []))) h.type k.type

  pub two_values : {made_types : List PlainType} {made : List Value} {s r : Source} {t u : PlainType} {v x : Value}
      → Has bits operand_types args labels next made_types made s t v → Has bits operand_types args labels next made_types made r u x → items_of args made (s ∷ r ∷ []) ≡ Some (v ∷ x ∷ [])
  two_values h k = ap₂ (λ x y. and_item x (and_item y (Some []))) h.value k.value

  -- what is there stays there
  abbrev pub Stays : List PlainType → List Value → List PlainType → List Value → Type 0
  Stays made_types made more_types more = (s : Source) (t : PlainType) (v : Value) → Has bits operand_types args labels next made_types made s t v → Has bits operand_types args labels next more_types more s t v

  -- indices, operands from the k-th on
  abbrev pub Indices : ℕ → List Value → Type 0
  Indices k [] = Unit {0}
  Indices k (x ∷ xs) = (item_of operand_types [] (Operand k) ≡ Some (Int bits)) × (slice_get args k ≡ Some x) × Indices (k + 1) xs

  -- where a draft goes on from
  pub record Behind (made_types : List PlainType) (made : List Value) (n : ℕ) (more_types : List PlainType) (more : List Value) : Type 0 where
    pub counts : Counts bits operand_types args labels next n more_types more
    pub stays : Stays made_types made more_types more

  module _ (width_is : width_in bits 0 (Int bits ∷ []) ≡ Some bits) (m : Source) (t : PlainType) (memref : Value) where
    -- one index: the stride, the product and the sum
    index_goes : (k i : ℕ) (dims : List Dim) (d : Dim) (onward : Source → Draft) (n : ℕ) (made_types : List PlainType) (made : List Value) (a : Source) (av sum index stride : ℕ)
        → unsigned bits av ≡ unsigned bits sum → Has bits operand_types args labels next made_types made a (Int bits) (Integer av) → Has bits operand_types args labels next made_types made m t memref
        → Counts bits operand_types args labels next n made_types made → item_of operand_types [] (Operand k) ≡ Some (Int bits) → slice_get args k ≡ Some (Integer index)
        → part_at (stride_path i) memref ≡ Gives (Integer stride)
        → (P : Doing → Type 0)
        → ((n' : ℕ) (more_types : List PlainType) (more : List Value) (b : Source) (bv : ℕ) → unsigned bits bv ≡ unsigned bits (sum + index * stride) → Has bits operand_types args labels next more_types more b (Int bits) (Integer bv)
        → Behind made_types made n' more_types more → P (goes bits operand_types args labels next (offset_of bits m (k + 1) (i + 1) dims b onward) n' more_types more))
        → P (goes bits operand_types args labels next (offset_of bits m k i (d ∷ dims) a onward) n made_types made)
    index_goes k i dims d onward n made_types made a av sum index stride same has_a has_m counts type_k value_k stride_is P rest =
        let number : PlainType = Int bits in
        let pv : ℕ = wrapped bits (pos (unsigned bits index) *ℤ pos (unsigned bits stride)) in
        let sv : ℕ = wrapped bits (pos (unsigned bits av) +ℤ pos (unsigned bits pv)) in
        let last : Source → Draft = λ b. offset_of bits m (k + 1) (i + 1) dims b onward in
        let add : Source → Draft = λ x. two (codes "llvm.add") a x number last in
        let multiply : Source → Draft = λ s. two (codes "llvm.mul") (Operand k) s number add in
        let c1 : Counts bits operand_types args labels next (n + 1) (made_types ++ number ∷ []) (made ++ Integer stride ∷ []) = counts_on bits operand_types args labels next number (Integer stride) counts in
        let has_t : Has bits operand_types args labels next (made_types ++ number ∷ []) (made ++ Integer stride ∷ []) (Made n) number (Integer stride) = has_new bits operand_types args labels next number (Integer stride) counts in
        let has_k : Has bits operand_types args labels next (made_types ++ number ∷ []) (made ++ Integer stride ∷ []) (Operand k) number (Integer index) = record { type = type_k; value = value_k } in
        let c2 : Counts bits operand_types args labels next (n + 1 + 1) ((made_types ++ number ∷ []) ++ number ∷ []) ((made ++ Integer stride ∷ []) ++ Integer pv ∷ []) = counts_on bits operand_types args labels next number (Integer pv) c1 in
        let has_x : Has bits operand_types args labels next ((made_types ++ number ∷ []) ++ number ∷ []) ((made ++ Integer stride ∷ []) ++ Integer pv ∷ []) (Made (n + 1)) number (Integer pv) = has_new bits operand_types args labels next number (Integer pv) c1 in
        let stays : Stays made_types made ((made_types ++ number ∷ []) ++ number ∷ []) ((made ++ Integer stride ∷ []) ++ Integer pv ∷ []) = λ s t v h. has_on bits operand_types args labels next number (Integer pv) (has_on bits operand_types args labels next number (Integer stride) h) in
        let has_a2 : Has bits operand_types args labels next ((made_types ++ number ∷ []) ++ number ∷ []) ((made ++ Integer stride ∷ []) ++ Integer pv ∷ []) a number (Integer av) = stays a number (Integer av) has_a in
        let first : goes bits operand_types args labels next (extract m (pos 4 ∷ pos i ∷ []) number multiply) n made_types made ≡ goes bits operand_types args labels next (multiply (Made n)) (n + 1) (made_types ++ number ∷ []) (made ++ Integer stride ∷ []) =
        value_goes bits operand_types args labels next (codes "llvm.extractvalue") (m ∷ []) (position (pos 4 ∷ pos i ∷ [])) number multiply n made_types made (t ∷ []) (memref ∷ []) (TakesPart (stride_path i)) (Integer stride)
        (ap (λ x. and_item x (Some [])) has_m.type) (ap (λ x. and_item x (Some [])) has_m.value) (extract_form bits (pos 4 ∷ pos i ∷ []) (stride_path i) refl (t ∷ []) (number ∷ [])) (ap (with_answer one) stride_is) in
        let second : goes bits operand_types args labels next (multiply (Made n)) (n + 1) (made_types ++ number ∷ []) (made ++ Integer stride ∷ []) ≡ goes bits operand_types args labels next (add (Made (n + 1))) (n + 1 + 1) ((made_types ++ number ∷ []) ++ number ∷ []) ((made ++ Integer stride ∷ []) ++ Integer pv ∷ []) =
        value_goes bits operand_types args labels next (codes "llvm.mul") (Operand k ∷ Made n ∷ []) [] number add (n + 1) (made_types ++ number ∷ []) (made ++ Integer stride ∷ []) (number ∷ number ∷ []) (Integer index ∷ Integer stride ∷ []) (TwoNumbers (Multiply no_flags) bits) (Integer pv)
        (two_types has_k has_t) (two_values has_k has_t) (form_flagged bits bits (number ∷ number ∷ []) (number ∷ []) width_is (codes "llvm.mul") Multiply refl) refl in
        let third : goes bits operand_types args labels next (add (Made (n + 1))) (n + 1 + 1) ((made_types ++ number ∷ []) ++ number ∷ []) ((made ++ Integer stride ∷ []) ++ Integer pv ∷ [])
        ≡ goes bits operand_types args labels next (last (Made (n + 1 + 1))) (n + 1 + 1 + 1) (((made_types ++ number ∷ []) ++ number ∷ []) ++ number ∷ []) (((made ++ Integer stride ∷ []) ++ Integer pv ∷ []) ++ Integer sv ∷ []) =
        value_goes bits operand_types args labels next (codes "llvm.add") (a ∷ Made (n + 1) ∷ []) [] number last (n + 1 + 1) ((made_types ++ number ∷ []) ++ number ∷ []) ((made ++ Integer stride ∷ []) ++ Integer pv ∷ []) (number ∷ number ∷ []) (Integer av ∷ Integer pv ∷ []) (TwoNumbers (Add no_flags) bits) (Integer sv)
        (two_types has_a2 has_x) (two_values has_a2 has_x) (form_flagged bits bits (number ∷ number ∷ []) (number ∷ []) width_is (codes "llvm.add") Add refl) refl in
        subst P (sym (first ∙ second ∙ third))
        (rest (n + 1 + 1 + 1) (((made_types ++ number ∷ []) ++ number ∷ []) ++ number ∷ []) (((made ++ Integer stride ∷ []) ++ Integer pv ∷ []) ++ Integer sv ∷ []) (Made (n + 1 + 1)) sv (offset_on bits av sum index stride same)
        (has_new bits operand_types args labels next number (Integer sv) c2)
        (record { counts = counts_on bits operand_types args labels next number (Integer sv) c2; stays = λ s t v h. has_on bits operand_types args labels next number (Integer sv) (stays s t v h) }))

    -- all indices
    offset_goes : (dims : List Dim) (xs : List Value) → length xs ≡ length dims → (k i : ℕ) (onward : Source → Draft) (n : ℕ) (made_types : List PlainType) (made : List Value) (a : Source) (av sum total : ℕ)
        → unsigned bits av ≡ unsigned bits sum → Has bits operand_types args labels next made_types made a (Int bits) (Integer av) → Has bits operand_types args labels next made_types made m t memref
        → Counts bits operand_types args labels next n made_types made → Indices k xs → indexed bits memref i sum xs ≡ Gives total
        → (P : Doing → Type 0)
        → ((n' : ℕ) (more_types : List PlainType) (more : List Value) (b : Source) (bv : ℕ) → unsigned bits bv ≡ unsigned bits total → Has bits operand_types args labels next more_types more b (Int bits) (Integer bv)
        → Behind made_types made n' more_types more → P (goes bits operand_types args labels next (onward b) n' more_types more))
        → P (goes bits operand_types args labels next (offset_of bits m k i dims a onward) n made_types made)
    offset_goes [] [] lengths k i onward n made_types made a av sum total same has_a has_m counts indices given P rest =
        rest n made_types made a av (same ∙ ap (unsigned bits) (of_gives given)) has_a (record { counts = counts; stays = λ s t v h. h })
    offset_goes [] (x ∷ xs) lengths k i onward n made_types made a av sum total same has_a has_m counts indices given P rest = absurd (omega (arith, lengths))
    offset_goes (d ∷ dims) [] lengths k i onward n made_types made a av sum total same has_a has_m counts indices given P rest = absurd (omega (arith, lengths))
    offset_goes (d ∷ dims) (x ∷ xs) lengths k i onward n made_types made a av sum total same has_a has_m counts indices given P rest =
        let g : Given (with_index bits memref i sum x) (λ s. indexed bits memref (i + 1) s xs) total = given_in_turn (with_index bits memref i sum x) _ total given in
        let e : Indexed memref i sum x g.value = index_given bits memref i sum x g.value g.first in
        index_goes k i dims d onward n made_types made a av sum e.index e.stride same has_a has_m counts indices.0 (indices.1 ∙ ap Some e.index_is) e.stride_is P
        λ n1 types1 made1 b bv same1 has_b behind.
        offset_goes dims xs (omega (arith, lengths)) (k + 1) (i + 1) onward n1 types1 made1 b bv (sum + e.index * e.stride) total same1 has_b (behind.stays m t memref has_m) behind.counts indices.2
        (ap (λ s. indexed bits memref (i + 1) s xs) e.sum_is ∙ g.then_given) P
        λ n2 types2 made2 c cv same2 has_c behind2. rest n2 types2 made2 c cv same2 has_c (record { counts = behind2.counts; stays = λ s t v h. behind2.stays s t v (behind.stays s t v h) })

  -- at 64 bits the same, else extended
  widened_goes : (width_is : width_in bits 0 (Int bits ∷ []) ≡ Some bits) → IsWidth bits → (onward : Source → Draft) (n : ℕ) (made_types : List PlainType) (made : List Value) (b : Source) (bv : ℕ)
      → Has bits operand_types args labels next made_types made b (Int bits) (Integer bv) → Counts bits operand_types args labels next n made_types made → (P : Doing → Type 0)
      → ((n' : ℕ) (more_types : List PlainType) (more : List Value) (s : Source) (t : PlainType) (sv : ℕ) → signed 64 sv ≡ signed bits bv → Has bits operand_types args labels next more_types more s t (Integer sv)
      → Behind made_types made n' more_types more → P (goes bits operand_types args labels next (onward s) n' more_types more))
      → P (goes bits operand_types args labels next (widened (codes "llvm.sext") bits b onward) n made_types made)
  widened_goes width_is (inl is) onward n made_types made b bv has_b counts P rest =
      let sv : ℕ = wrapped 64 (signed bits bv) in
      let other : (bits == 64) ≡ false = ap (λ n. n == 64) is in
      let drafts : widened (codes "llvm.sext") bits b onward ≡ value (codes "llvm.sext") (b ∷ []) [] (Int 64) onward = ap (λ c. if c then onward b else value (codes "llvm.sext") (b ∷ []) [] (Int 64) onward) other in
      let extends : goes bits operand_types args labels next (value (codes "llvm.sext") (b ∷ []) [] (Int 64) onward) n made_types made ≡ goes bits operand_types args labels next (onward (Made n)) (n + 1) (made_types ++ Int 64 ∷ []) (made ++ Integer sv ∷ []) =
      value_goes bits operand_types args labels next (codes "llvm.sext") (b ∷ []) [] (Int 64) onward n made_types made (Int bits ∷ []) (Integer bv ∷ []) (Resizes (ExtendSigned 64) bits) (Integer sv)
      (ap (λ x. and_item x (Some [])) has_b.type) (ap (λ x. and_item x (Some [])) has_b.value)
      (extension_form bits bits 64 (codes "llvm.sext") ExtendSigned refl (Int bits ∷ []) (Int 64 ∷ []) width_is (ap (width_at bits) (outs-Int 64))) refl in
      subst P (sym (ap (λ d. goes bits operand_types args labels next d n made_types made) drafts ∙ extends))
      (rest (n + 1) (made_types ++ Int 64 ∷ []) (made ++ Integer sv ∷ []) (Made n) (Int 64) sv (subst (λ w. signed 64 (wrapped 64 (signed w bv)) ≡ signed w bv) (sym is) (extended bv))
      (has_new bits operand_types args labels next (Int 64) (Integer sv) counts)
      (record { counts = counts_on bits operand_types args labels next (Int 64) (Integer sv) counts; stays = λ s t v h. has_on bits operand_types args labels next (Int 64) (Integer sv) h }))
  widened_goes width_is (inr is) onward n made_types made b bv has_b counts P rest =
      let same : (bits == 64) ≡ true = ap (λ n. n == 64) is in
      let drafts : widened (codes "llvm.sext") bits b onward ≡ onward b = ap (λ c. if c then onward b else value (codes "llvm.sext") (b ∷ []) [] (Int 64) onward) same in
      subst P (sym (ap (λ d. goes bits operand_types args labels next d n made_types made) drafts))
      (rest n made_types made b (Int bits) bv (ap (λ w. signed w bv) (sym is)) has_b (record { counts = counts; stays = λ s t v h. h }))

  -- the pointer to an element
  pub place_goes : width_in bits 0 (Int bits ∷ []) ≡ Some bits → IsWidth bits → (m : Source) (t : PlainType) (memref : Value) → (k : ℕ) (dims : List Dim) (element : PlainType) (w : ℕ) → width_of bits (type_tree (becomes bits element)) ≡ Some w
      → (xs : List Value) → length xs ≡ length dims → Indices k xs → (onward : Source → Draft) (n : ℕ) (made_types : List PlainType) (made : List Value) → Has bits operand_types args labels next made_types made m t memref
      → Counts bits operand_types args labels next n made_types made → (g : Value) → element_place bits (byte_size w) memref xs ≡ Gives g → (P : Doing → Type 0)
      → ((n' : ℕ) (more_types : List PlainType) (more : List Value) (s : Source) → Has bits operand_types args labels next more_types more s Ptr g → Behind made_types made n' more_types more
      → P (goes bits operand_types args labels next (onward s) n' more_types more))
      → P (goes bits operand_types args labels next (place_draft bits m k dims element onward) n made_types made)
  place_goes width_is is_width m t memref k dims element w has_width xs lengths indices onward n made_types made has_m counts g given P rest =
      let number : PlainType = Int bits in
      let gp : Given (part_at aligned_path memref) _ g = given_in_turn (part_at aligned_path memref) _ g given in
      let gq : Given (place_of gp.value) _ g = given_in_turn (place_of gp.value) _ g gp.then_given in
      let go : Given (part_at offset_path memref) _ g = given_in_turn (part_at offset_path memref) _ g gq.then_given in
      let gn : Given (number_of go.value) _ g = given_in_turn (number_of go.value) _ g go.then_given in
      let gs : Placed bits (byte_size w) gq.value (indexed bits memref 0 gn.value xs) g = placed bits (byte_size w) gq.value (indexed bits memref 0 gn.value xs) g gn.then_given in
      let pointer : part_at aligned_path memref ≡ Gives (Pointer gq.value.buffer gq.value.offset) = gp.first ∙ ap Gives (pointer_of gp.value gq.value gq.first) in
      let offset : part_at offset_path memref ≡ Gives (Integer gn.value) = go.first ∙ ap Gives (integer_of go.value gn.value gn.first) in
      let p : Value = Pointer gq.value.buffer gq.value.offset in
      let es : Entries = (codes "elem_type", OfType (becomes bits element)) ∷ (codes "rawConstantIndices", Numbers 32 (negsuc 2147483647 ∷ [])) ∷ [] in
      let moves : Source → Draft = λ s. value (codes "llvm.getelementptr") (Made n ∷ s ∷ []) es Ptr onward in
      let widens : Source → Draft = λ b. widened (codes "llvm.sext") bits b moves in
      let offsets : Source → Draft = λ a. offset_of bits m k 0 dims a widens in
      let reads : Source → Draft = λ q. extract m (pos 2 ∷ []) number offsets in
      let c1 : Counts bits operand_types args labels next (n + 1) (made_types ++ Ptr ∷ []) (made ++ p ∷ []) = counts_on bits operand_types args labels next Ptr p counts in
      let has_p : Has bits operand_types args labels next (made_types ++ Ptr ∷ []) (made ++ p ∷ []) (Made n) Ptr p = has_new bits operand_types args labels next Ptr p counts in
      let has_m1 : Has bits operand_types args labels next (made_types ++ Ptr ∷ []) (made ++ p ∷ []) m t memref = has_on bits operand_types args labels next Ptr p has_m in
      let ts : List PlainType = (made_types ++ Ptr ∷ []) ++ number ∷ [] in
      let vs : List Value = (made ++ p ∷ []) ++ Integer gn.value ∷ [] in
      let c2 : Counts bits operand_types args labels next (n + 1 + 1) ts vs = counts_on bits operand_types args labels next number (Integer gn.value) c1 in
      let stays : Stays made_types made ts vs = λ s u v h. has_on bits operand_types args labels next number (Integer gn.value) (has_on bits operand_types args labels next Ptr p h) in
      let first : goes bits operand_types args labels next (extract m (pos 1 ∷ []) Ptr reads) n made_types made ≡ goes bits operand_types args labels next (reads (Made n)) (n + 1) (made_types ++ Ptr ∷ []) (made ++ p ∷ []) =
      value_goes bits operand_types args labels next (codes "llvm.extractvalue") (m ∷ []) (position (pos 1 ∷ [])) Ptr reads n made_types made (t ∷ []) (memref ∷ []) (TakesPart aligned_path) p
      (ap (λ x. and_item x (Some [])) has_m.type) (ap (λ x. and_item x (Some [])) has_m.value) (extract_form bits (pos 1 ∷ []) aligned_path refl (t ∷ []) (Ptr ∷ [])) (ap (with_answer one) pointer) in
      let second : goes bits operand_types args labels next (reads (Made n)) (n + 1) (made_types ++ Ptr ∷ []) (made ++ p ∷ []) ≡ goes bits operand_types args labels next (offsets (Made (n + 1))) (n + 1 + 1) ts vs =
      value_goes bits operand_types args labels next (codes "llvm.extractvalue") (m ∷ []) (position (pos 2 ∷ [])) number offsets (n + 1) (made_types ++ Ptr ∷ []) (made ++ p ∷ []) (t ∷ []) (memref ∷ []) (TakesPart offset_path) (Integer gn.value)
      (ap (λ x. and_item x (Some [])) has_m1.type) (ap (λ x. and_item x (Some [])) has_m1.value) (extract_form bits (pos 2 ∷ []) offset_path refl (t ∷ []) (number ∷ [])) (ap (with_answer one) offset) in
      subst P (sym (first ∙ second))
      (offset_goes width_is m t memref dims xs lengths k 0 widens (n + 1 + 1) ts vs (Made (n + 1)) gn.value gn.value gs.sum refl (has_new bits operand_types args labels next number (Integer gn.value) c1)
      (stays m t memref has_m) c2 indices gs.sum_is P λ n3 ts3 vs3 b bv same_b has_b behind3.
      widened_goes width_is is_width moves n3 ts3 vs3 b bv has_b behind3.counts P λ n4 ts4 vs4 s u sv same_s has_s behind4.
      let all : Stays made_types made ts4 vs4 = λ r u v h. behind4.stays r u v (behind3.stays r u v (stays r u v h)) in
      let has_p4 : Has bits operand_types args labels next ts4 vs4 (Made n) Ptr p = behind4.stays (Made n) Ptr p (behind3.stays (Made n) Ptr p (has_on bits operand_types args labels next number (Integer gn.value) has_p)) in
      let moved : moved_on (signed 64 sv *ℤ pos (byte_size w)) gq.value ≡ g = ap (λ z. moved_on (z *ℤ pos (byte_size w)) gq.value) (same_s ∙ same_signed bits bv gs.sum same_b) ∙ gs.is in
      subst P (sym (value_goes bits operand_types args labels next (codes "llvm.getelementptr") (Made n ∷ s ∷ []) es Ptr onward n4 ts4 vs4 (Ptr ∷ u ∷ []) (p ∷ Integer sv ∷ []) (MovesPointer (byte_size w)) g
      (two_types has_p4 has_s) (two_values has_p4 has_s) (moves_form bits w es (becomes bits element) refl has_width (Ptr ∷ u ∷ []) (Ptr ∷ [])) (ap (λ v. Gives (v ∷ [])) moved)))
      (rest (n4 + 1) (ts4 ++ Ptr ∷ []) (vs4 ++ g ∷ []) (Made n4) (has_new bits operand_types args labels next Ptr g behind4.counts)
      (record { counts = counts_on bits operand_types args labels next Ptr g behind4.counts; stays = λ r u v h. has_on bits operand_types args labels next Ptr g (all r u v h) })))
