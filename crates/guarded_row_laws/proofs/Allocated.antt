-- The parts of the row of memref.alloc: sizes, strides and the number of elements.
use Rattle.std.proofs.Common.{◌≡◌, ℕ, ◌+◌, ◌*◌, ◌-◌, ◌%◌, ◌^◌, ◌<◌, ◌≤◌, List, [], ◌∷◌, ◌++◌, Some, Bool, true, false, refl, sym, ap, ap₂, subst, ◌∙◌, arith}
use Rattle.std.specs.Prelude.{not, nat_lt, codes, map, pos, ◌*ℤ◌, slice_get}
use Rattle.std.proofs.Math.Nat.{mod-mod, mod-eq_of_lt, mul_comm}
use Rattle.std.proofs.Math.Pow.{pow_mono}
use Rattle.std.proofs.lemmas.Nat.{mul-mod}
use Rattle.tree_model.specs.declared.type_tree.Dim.{Dim}
use Rattle.tree_model.specs.declared.type_tree.Dim.TheVariants.{Fixed, Dynamic}
use Rattle.number_model.specs.Numbers.{unsigned, wrapped}
use Rattle.number_model.specs.Answers.{Answer, Gives, with_answer, undefined_if}
use Rattle.number_model.specs.Arithmetic.{no_flags, Multiply}
use Rattle.operation_model.specs.Values.{Value, Integer, number}
use Rattle.operation_model.specs.Pures.{Known, TwoNumbers}
use Rattle.operation_model.specs.Doings.{Doing}
use Rattle.operation_model.specs.Straight.{Size, sizes_from, sized, elements, strides}
use Rattle.plain_tree.specs.Types.{PlainType, Int}
use Rattle.conversion_model.specs.declared.templates.Source.{Source}
use Rattle.conversion_model.specs.declared.templates.Source.TheVariants.{Operand, Made}
use Rattle.form_model.specs.Types.{width, fixed_size}
use Rattle.pattern_model.specs.Drafts.{Draft, constant_value}
use Rattle.pattern_model.specs.MemrefRows.{two, sizes_of, strides_of, elements_of, front}
use Rattle.row_laws.proofs.Steps.{of_gives, undefined_gives, outside_gives}
use Rattle.row_laws.proofs.Expanded.{form_flagged}
use Rattle.memory_row_laws.proofs.DraftRuns.{goes, Has, Counts, counts_on, has_new, has_on, value_goes}
use Rattle.memory_row_laws.proofs.Elements.{Given, given_in_turn, integer_of, Stays, Behind, two_types, two_values}
use Rattle.call_row_laws.proofs.Fields.{Through, through, Each, each_ended, each_on, each_stays}
use Rattle.guarded_row_laws.proofs.DimRow.{number_width, number_form, below}

-- a size that is given, and those behind it
record OneSize (bits : ℕ) (v : Value) (n : ℕ) (rest : Answer (List Size)) (sizes : List Size) : Type 0 where
  others : List Size
  less : n < 2 ^ (bits - 1)
  given : rest ≡ Gives others
  is : record { value = v; number = n } ∷ others ≡ sizes

one_size : (bits : ℕ) (v : Value) (n : ℕ) (rest : Answer (List Size)) (sizes : List Size) → sized bits v n rest ≡ Gives sizes → OneSize bits v n rest sizes
one_size bits v n rest sizes e = go (nat_lt n (2 ^ (bits - 1))) refl e
  where
    go : (b : Bool) → nat_lt n (2 ^ (bits - 1)) ≡ b → undefined_if (not b) (with_answer (λ sizes. record { value = v; number = n } ∷ sizes) rest) ≡ Gives sizes → OneSize bits v n rest sizes
    go false l e = absurd (undefined_gives e)
    go true l e =
        let t : Through (λ sizes. record { value = v; number = n } ∷ sizes) rest sizes = through _ rest sizes e in
        record { others = t.value; less = below n (2 ^ (bits - 1)) l; given = t.given; is = t.is }

-- a product modulo 2^w
pub product_is : (w e c y : ℕ) → unsigned w c ≡ y → wrapped w (pos (unsigned w (unsigned w e)) *ℤ pos (unsigned w c)) ≡ unsigned w (y * e)
product_is w e c y is =
    ap₂ (λ a b. (a * b) % 2 ^ w) (mod-mod e (2 ^ w)) (sym (mod-mod c (2 ^ w)) ∙ ap (unsigned w) is)
    ∙ sym (mul-mod e y (2 ^ w)) ∙ ap (unsigned w) (mul_comm e y)

module _ (bits : ℕ) (h : width bits ≡ Some bits) (above : 0 < bits) (types : List PlainType) (args : List Value) (labels : List ℕ) (next : List Value → Doing) where
  -- sources of sizes
  pub data Sizes (made_types : List PlainType) (made : List Value) : List Source → List Size → Type 0 where
    sizes_ended : Sizes made_types made [] []
    sizes_on : {s : Source} {z : Size} {ss : List Source} {zs : List Size} (c : ℕ) → Has bits types args labels next made_types made s (Int bits) z.value → z.value ≡ Integer c → unsigned bits c ≡ z.number → Sizes made_types made ss zs → Sizes made_types made (s ∷ ss) (z ∷ zs)

  pub sizes_stay : {made_types more_types : List PlainType} {made more : List Value} {ss : List Source} {zs : List Size} → Stays bits types args labels next made_types made more_types more → Sizes made_types made ss zs → Sizes more_types more ss zs
  sizes_stay stays sizes_ended = sizes_ended
  sizes_stay stays (sizes_on c h is same rest) = sizes_on c (stays _ _ _ h) is same (sizes_stay stays rest)

  -- operands from the k-th on are numbers
  abbrev pub Numbers : ℕ → List Value → Type 0
  Numbers k [] = Unit {0}
  Numbers k (x ∷ xs) = (slice_get types k ≡ Some (Int bits)) × (slice_get args k ≡ Some x) × Numbers (k + 1) xs

  pub sizes_goes : (dims : List Dim) (xs : List Value) (k : ℕ) → Numbers k xs → (sizes : List Size) → sizes_from bits (map fixed_size dims) xs ≡ Gives sizes → (onward : List Source → Draft) (n : ℕ) (made_types : List PlainType) (made : List Value) → Counts bits types args labels next n made_types made
      → (P : Doing → Type 0)
      → ((n' : ℕ) (more_types : List PlainType) (more : List Value) (ss : List Source) → Sizes more_types more ss sizes → Behind bits types args labels next made_types made n' more_types more → P (goes bits types args labels next (onward ss) n' more_types more))
      → P (goes bits types args labels next (sizes_of bits dims k onward) n made_types made)
  sizes_goes [] [] k numbers sizes given onward n made_types made counts P f =
      f n made_types made [] (subst (λ zs. Sizes made_types made [] zs) (of_gives given) sizes_ended) (record { counts = counts; stays = λ s w v h. h })
  sizes_goes [] (x ∷ xs) k numbers sizes given onward n made_types made counts P f = absurd (outside_gives given)
  sizes_goes (Dynamic ∷ dims) [] k numbers sizes given onward n made_types made counts P f = absurd (outside_gives given)
  sizes_goes (Dynamic ∷ dims) (x ∷ xs) k numbers sizes given onward n made_types made counts P f =
      let g : Given (number x) (λ c. sized bits x (unsigned bits c) (sizes_from bits (map fixed_size dims) xs)) sizes = given_in_turn (number x) _ sizes given in
      let o : OneSize bits x (unsigned bits g.value) (sizes_from bits (map fixed_size dims) xs) sizes = one_size bits x (unsigned bits g.value) (sizes_from bits (map fixed_size dims) xs) sizes g.then_given in
      sizes_goes dims xs (k + 1) numbers.2 o.others o.given (λ ss. onward (Operand k ∷ ss)) n made_types made counts P λ n' more_types more ss each behind.
      f n' more_types more (Operand k ∷ ss)
      (subst (λ zs. Sizes more_types more (Operand k ∷ ss) zs) o.is (sizes_on g.value (record { type = numbers.0; value = numbers.1 }) (integer_of x g.value g.first) refl each)) behind
  sizes_goes (Fixed m ∷ dims) xs k numbers sizes given onward n made_types made counts P f =
      let o : OneSize bits (Integer m) m (sizes_from bits (map fixed_size dims) xs) sizes = one_size bits (Integer m) m (sizes_from bits (map fixed_size dims) xs) sizes given in
      let kept : m % 2 ^ bits ≡ m = mod-eq_of_lt (omega (arith, o.less, half_less)) in
      subst P (sym (value_goes bits types args labels next (codes "llvm.mlir.constant") [] (constant_value (Int bits) (pos m)) (Int bits) (λ s. sizes_of bits dims k λ ss. onward (s ∷ ss)) n made_types made [] [] (Known (Integer (wrapped bits (pos m)))) (Integer m) refl refl
      (number_form bits h m) (ap (λ m. Gives (Integer m ∷ [])) kept)))
      (sizes_goes dims xs k numbers o.others o.given (λ ss. onward (Made n ∷ ss)) (n + 1) (made_types ++ Int bits ∷ []) (made ++ Integer m ∷ []) (counts_on bits types args labels next (Int bits) (Integer m) counts) P λ n' more_types more ss each behind.
      f n' more_types more (Made n ∷ ss)
      (subst (λ zs. Sizes more_types more (Made n ∷ ss) zs) o.is (sizes_on m (behind.stays (Made n) (Int bits) (Integer m) (has_new bits types args labels next (Int bits) (Integer m) counts)) refl kept each))
      (record { counts = behind.counts; stays = λ s w v h. behind.stays s w v (has_on bits types args labels next (Int bits) (Integer m) h) }))
    where
      half_less : 2 ^ (bits - 1) ≤ 2 ^ bits
      half_less = pow_mono (omega arith)

  -- the product of two numbers that were made
  pub times_goes : (a b : Source) (av bv : ℕ) (k : Source → Draft) (n : ℕ) (made_types : List PlainType) (made : List Value) → Has bits types args labels next made_types made a (Int bits) (Integer av) → Has bits types args labels next made_types made b (Int bits) (Integer bv)
      → goes bits types args labels next (two (codes "llvm.mul") a b (Int bits) k) n made_types made
      ≡ goes bits types args labels next (k (Made n)) (n + 1) (made_types ++ Int bits ∷ []) (made ++ Integer (wrapped bits (pos (unsigned bits av) *ℤ pos (unsigned bits bv))) ∷ [])
  times_goes a b av bv k n made_types made has_a has_b =
      value_goes bits types args labels next (codes "llvm.mul") (a ∷ b ∷ []) [] (Int bits) k n made_types made (Int bits ∷ Int bits ∷ []) (Integer av ∷ Integer bv ∷ []) (TwoNumbers (Multiply no_flags) bits) (Integer (wrapped bits (pos (unsigned bits av) *ℤ pos (unsigned bits bv))))
      (two_types bits types args labels next has_a has_b) (two_values bits types args labels next has_a has_b) (form_flagged bits bits (Int bits ∷ Int bits ∷ []) (Int bits ∷ []) (number_width bits h (Int bits ∷ [])) (codes "llvm.mul") Multiply refl) refl

  numbers_of : List Size → List PlainType
  numbers_of zs = map (λ z. Int bits) zs

  -- the strides, from the back
  pub strides_goes : (o : Source) (n : ℕ) (made_types : List PlainType) (made : List Value) (zs : List Size) (ss : List Source) (onward : List Source → Draft) → Sizes made_types made ss zs → Has bits types args labels next made_types made o (Int bits) (Integer (unsigned bits 1)) → Counts bits types args labels next n made_types made
      → (P : Doing → Type 0)
      → ((n' : ℕ) (more_types : List PlainType) (more : List Value) (ts : List Source) → Each bits types args labels next more_types more ts (map (λ z. Int bits) zs) (strides bits zs) → Behind bits types args labels next made_types made n' more_types more → P (goes bits types args labels next (onward ts) n' more_types more))
      → P (goes bits types args labels next (strides_of bits o ss onward) n made_types made)
  strides_goes o n made_types made _ _ onward sizes_ended has_o counts P f = f n made_types made [] each_ended (record { counts = counts; stays = λ s w v h. h })
  strides_goes o n made_types made _ _ onward (sizes_on c has is same sizes_ended) has_o counts P f = f n made_types made (o ∷ []) (each_on has_o each_ended) (record { counts = counts; stays = λ s w v h. h })
  strides_goes o n made_types made _ _ onward (sizes_on {s = s} {z = z} c has is same (sizes_on {s = r} {z = y} {ss = ss} {zs = zs} d has_r is_r same_r rest)) has_o counts P f =
      strides_goes o n made_types made (y ∷ zs) (r ∷ ss) (λ ts. two (codes "llvm.mul") (front o ts) r (Int bits) λ t. onward (t ∷ ts)) (sizes_on d has_r is_r same_r rest) has_o counts P λ n1 ts1 vs1 ts each behind.
      with_front n1 ts1 vs1 ts each behind
    where
      with_front : (n1 : ℕ) (ts1 : List PlainType) (vs1 : List Value) (ts : List Source) → Each bits types args labels next ts1 vs1 ts (Int bits ∷ map (λ z. Int bits) zs) (Integer (unsigned bits (elements zs)) ∷ strides bits zs) → Behind bits types args labels next made_types made n1 ts1 vs1
          → P (goes bits types args labels next (two (codes "llvm.mul") (front o ts) r (Int bits) λ t. onward (t ∷ ts)) n1 ts1 vs1)
      with_front n1 ts1 vs1 _ (each_on {s = t} {ss = ts} has_t each) behind =
          let has_r1 : Has bits types args labels next ts1 vs1 r (Int bits) (Integer d) = subst (λ v. Has bits types args labels next ts1 vs1 r (Int bits) v) is_r (behind.stays r (Int bits) y.value has_r) in
          let pv : ℕ = wrapped bits (pos (unsigned bits (unsigned bits (elements zs))) *ℤ pos (unsigned bits d)) in
          let pv_is : pv ≡ unsigned bits (elements (y ∷ zs)) = product_is bits (elements zs) d y.number same_r in
          subst P (sym (times_goes t r (unsigned bits (elements zs)) d (λ p. onward (p ∷ t ∷ ts)) n1 ts1 vs1 has_t has_r1))
          (f (n1 + 1) (ts1 ++ Int bits ∷ []) (vs1 ++ Integer pv ∷ []) (Made n1 ∷ t ∷ ts)
          (each_on (subst (λ k. Has bits types args labels next (ts1 ++ Int bits ∷ []) (vs1 ++ Integer pv ∷ []) (Made n1) (Int bits) (Integer k)) pv_is (has_new bits types args labels next (Int bits) (Integer pv) behind.counts))
          (each_stays bits types args labels next (λ s w v h. has_on bits types args labels next (Int bits) (Integer pv) h) (each_on has_t each)))
          (record { counts = counts_on bits types args labels next (Int bits) (Integer pv) behind.counts; stays = λ s w v h. has_on bits types args labels next (Int bits) (Integer pv) (behind.stays s w v h) }))

  -- the number of elements
  pub elements_goes : (o : Source) (zs : List Size) (ss ts : List Source) (onward : Source → Draft) (n : ℕ) (made_types : List PlainType) (made : List Value) → Sizes made_types made ss zs → Each bits types args labels next made_types made ts (map (λ z. Int bits) zs) (strides bits zs)
      → Has bits types args labels next made_types made o (Int bits) (Integer (unsigned bits 1)) → Counts bits types args labels next n made_types made → (P : Doing → Type 0)
      → ((n' : ℕ) (more_types : List PlainType) (more : List Value) (e : Source) → Has bits types args labels next more_types more e (Int bits) (Integer (unsigned bits (elements zs))) → Behind bits types args labels next made_types made n' more_types more → P (goes bits types args labels next (onward e) n' more_types more))
      → P (goes bits types args labels next (elements_of bits o ts ss onward) n made_types made)
  elements_goes o _ _ _ onward n made_types made sizes_ended each_ended has_o counts P f = f n made_types made o has_o (record { counts = counts; stays = λ s w v h. h })
  elements_goes o _ _ _ onward n made_types made (sizes_on {s = s} {z = z} {zs = zs} c has is same rest) (each_on {s = t} has_t each) has_o counts P f =
      let has_s : Has bits types args labels next made_types made s (Int bits) (Integer c) = subst (λ v. Has bits types args labels next made_types made s (Int bits) v) is has in
      let pv : ℕ = wrapped bits (pos (unsigned bits (unsigned bits (elements zs))) *ℤ pos (unsigned bits c)) in
      let pv_is : pv ≡ unsigned bits (elements (z ∷ zs)) = product_is bits (elements zs) c z.number same in
      subst P (sym (times_goes t s (unsigned bits (elements zs)) c onward n made_types made has_t has_s))
      (f (n + 1) (made_types ++ Int bits ∷ []) (made ++ Integer pv ∷ []) (Made n)
      (subst (λ k. Has bits types args labels next (made_types ++ Int bits ∷ []) (made ++ Integer pv ∷ []) (Made n) (Int bits) (Integer k)) pv_is (has_new bits types args labels next (Int bits) (Integer pv) counts))
      (record { counts = counts_on bits types args labels next (Int bits) (Integer pv) counts; stays = λ s w v h. has_on bits types args labels next (Int bits) (Integer pv) h }))
