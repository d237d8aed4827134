-- The types of what memref.alloc becomes.
use Rattle.std.proofs.Common.{◌≡◌, ℕ, suc, ◌+◌, List, [], ◌∷◌, ◌++◌, length, Some, Bool, true, false, refl, sym, ap, ap₂, ◌∙◌}
use Rattle.std.specs.Prelude.{◌==◌, codes, pos, slice_get, if◌then◌else◌}
use Rattle.tree_model.specs.declared.type_tree.Dim.{Dim}
use Rattle.tree_model.specs.declared.type_tree.Dim.TheVariants.{Fixed, Dynamic}
use Rattle.plain_tree.specs.Types.{PlainType, Int, Ptr}
use Rattle.plain_tree.specs.Attrs.{Entries}
use Rattle.conversion_model.specs.declared.templates.Source.{Source}
use Rattle.conversion_model.specs.declared.templates.Source.TheVariants.{Operand, Made}
use Rattle.conversion_model.specs.Types.{becomes, descriptor}
use Rattle.conversion_model.specs.Rows.{Pattern}
use Rattle.pattern_model.specs.Drafts.{Draft, value, constant_value}
use Rattle.pattern_model.specs.Drafts.{gives as gives_back}
use Rattle.pattern_model.specs.MemrefRows.{constant, two, widened, callee, undef, insert, inserted, position, sizes_of, strides_of, elements_of, front, bytes_of, described, plain_call, allocated}
use Rattle.sound_model.specs.Runs.{item_of, and_item, items_of}
use Rattle.sound_model.specs.Soundness.{is_root}
use Rattle.memory_row_laws.proofs.DraftRuns.{one_longer, last_there}
use Rattle.memory_row_laws.proofs.DraftTypes.{append_nothing, Typed, value_typed, type_on, StaysTyped}

-- none of the names that the row makes is a root
pub record NoAllocRoots (table : List Pattern) : Type 0 where
  pub constant : is_root table (codes "llvm.mlir.constant") ≡ false
  pub mul : is_root table (codes "llvm.mul") ≡ false
  pub zext : is_root table (codes "llvm.zext") ≡ false
  pub call : is_root table (codes "llvm.call") ≡ false
  pub undef : is_root table (codes "llvm.mlir.undef") ≡ false
  pub insert : is_root table (codes "llvm.insertvalue") ≡ false

-- the operands from the k-th on that give the sizes that aren't fixed are numbers
abbrev pub DynamicTypes : ℕ → List PlainType → ℕ → List Dim → Type 0
DynamicTypes bits types k [] = Unit {0}
DynamicTypes bits types k (Fixed n ∷ dims) = DynamicTypes bits types k dims
DynamicTypes bits types k (Dynamic ∷ dims) = (slice_get types k ≡ Some (Int bits)) × DynamicTypes bits types (k + 1) dims

module _ (table : List Pattern) (bits : ℕ) (types results : List PlainType) (free : NoAllocRoots table) where
  -- sources of numbers
  abbrev Nums : List PlainType → List Source → Type 0
  Nums made_types [] = Unit {0}
  Nums made_types (s ∷ ss) = (item_of types made_types s ≡ Some (Int bits)) × Nums made_types ss

  nums_stay : (made_types more_types : List PlainType) → StaysTyped table types results made_types more_types → (ss : List Source) → Nums made_types ss → Nums more_types ss
  nums_stay made_types more_types stays [] nums = tt
  nums_stay made_types more_types stays (s ∷ ss) nums = (stays s (Int bits) nums.0, nums_stay made_types more_types stays ss nums.1)

  -- an operation that makes one value of that type
  makes_typed : (name : List ℕ) (sources : List Source) (props : Entries) (t : PlainType) (k : Source → Draft) (n : ℕ) (made_types ts : List PlainType) → items_of types made_types sources ≡ Some ts → is_root table name ≡ false → length made_types ≡ n
      → (item_of types (made_types ++ t ∷ []) (Made n) ≡ Some t → length (made_types ++ t ∷ []) ≡ n + 1 → StaysTyped table types results made_types (made_types ++ t ∷ []) → Typed table types results (k (Made n)) (n + 1) (made_types ++ t ∷ []))
      → Typed table types results (value name sources props t k) n made_types
  makes_typed name sources props t k n made_types ts taken no_root counts f =
      value_typed table types results name sources props t k n made_types ts taken no_root (f (last_there made_types t n counts) (one_longer made_types t n counts) (λ s u h. type_on table types results made_types s u t h))

  two_there : (made_types : List PlainType) (s r : Source) (t u : PlainType) → item_of types made_types s ≡ Some t → item_of types made_types r ≡ Some u → items_of types made_types (s ∷ r ∷ []) ≡ Some (t ∷ u ∷ [])
  two_there made_types s r t u h k = ap₂ (λ x y. and_item x (and_item y (Some []))) h k

  sizes_typed : (dims : List Dim) (k : ℕ) → DynamicTypes bits types k dims → (onward : List Source → Draft) (n : ℕ) (made_types : List PlainType) → length made_types ≡ n
      → ((n' : ℕ) (more_types : List PlainType) (ss : List Source) → Nums more_types ss → length ss ≡ length dims → length more_types ≡ n' → StaysTyped table types results made_types more_types → Typed table types results (onward ss) n' more_types)
      → Typed table types results (sizes_of bits dims k onward) n made_types
  sizes_typed [] k there onward n made_types counts f = f n made_types [] tt refl counts (λ s u h. h)
  sizes_typed (Dynamic ∷ dims) k there onward n made_types counts f =
      sizes_typed dims (k + 1) there.1 (λ ss. onward (Operand k ∷ ss)) n made_types counts λ n' more_types ss nums many c stays. f n' more_types (Operand k ∷ ss) (there.0, nums) (ap suc many) c stays
  sizes_typed (Fixed m ∷ dims) k there onward n made_types counts f =
      makes_typed (codes "llvm.mlir.constant") [] (constant_value (Int bits) (pos m)) (Int bits) (λ s. sizes_of bits dims k λ ss. onward (s ∷ ss)) n made_types [] refl free.constant counts λ has c1 stays1.
      sizes_typed dims k there (λ ss. onward (Made n ∷ ss)) (n + 1) (made_types ++ Int bits ∷ []) c1 λ n' more_types ss nums many c stays.
      f n' more_types (Made n ∷ ss) (stays (Made n) (Int bits) has, nums) (ap suc many) c (λ s u h. stays s u (stays1 s u h))

  front_typed : (made_types : List PlainType) (o : Source) (ts : List Source) → item_of types made_types o ≡ Some (Int bits) → Nums made_types ts → item_of types made_types (front o ts) ≡ Some (Int bits)
  front_typed made_types o [] h nums = h
  front_typed made_types o (t ∷ ts) h nums = nums.0

  strides_typed : (o : Source) (n : ℕ) (made_types : List PlainType) → item_of types made_types o ≡ Some (Int bits) → length made_types ≡ n → (ss : List Source) → Nums made_types ss → (onward : List Source → Draft)
      → ((n' : ℕ) (more_types : List PlainType) (ts : List Source) → Nums more_types ts → length more_types ≡ n' → StaysTyped table types results made_types more_types → Typed table types results (onward ts) n' more_types)
      → Typed table types results (strides_of bits o ss onward) n made_types
  strides_typed o n made_types has_o counts [] nums onward f = f n made_types [] tt counts (λ s u h. h)
  strides_typed o n made_types has_o counts (s ∷ []) nums onward f = f n made_types (o ∷ []) (has_o, tt) counts (λ s u h. h)
  strides_typed o n made_types has_o counts (s ∷ r ∷ ss) nums onward f =
      strides_typed o n made_types has_o counts (r ∷ ss) nums.1 (λ ts. two (codes "llvm.mul") (front o ts) r (Int bits) λ t. onward (t ∷ ts)) λ n1 ts1 ts nums1 c1 stays1.
      makes_typed (codes "llvm.mul") (front o ts ∷ r ∷ []) [] (Int bits) (λ t. onward (t ∷ ts)) n1 ts1 (Int bits ∷ Int bits ∷ [])
      (two_there ts1 (front o ts) r (Int bits) (Int bits) (front_typed ts1 o ts (stays1 o (Int bits) has_o) nums1) (stays1 r (Int bits) nums.1.0)) free.mul c1 λ has c2 stays2.
      f (n1 + 1) (ts1 ++ Int bits ∷ []) (Made n1 ∷ ts) (has, nums_stay ts1 (ts1 ++ Int bits ∷ []) stays2 ts nums1) c2 (λ s u h. stays2 s u (stays1 s u h))

  elements_typed : (o : Source) (ts ss : List Source) (n : ℕ) (made_types : List PlainType) → item_of types made_types o ≡ Some (Int bits) → Nums made_types ts → Nums made_types ss → length made_types ≡ n → (onward : Source → Draft)
      → ((n' : ℕ) (more_types : List PlainType) (e : Source) → item_of types more_types e ≡ Some (Int bits) → length more_types ≡ n' → StaysTyped table types results made_types more_types → Typed table types results (onward e) n' more_types)
      → Typed table types results (elements_of bits o ts ss onward) n made_types
  elements_typed o [] ss n made_types has_o nums_t nums_s counts onward f = f n made_types o has_o counts (λ s u h. h)
  elements_typed o (t ∷ ts) [] n made_types has_o nums_t nums_s counts onward f = f n made_types o has_o counts (λ s u h. h)
  elements_typed o (t ∷ ts) (s ∷ ss) n made_types has_o nums_t nums_s counts onward f =
      makes_typed (codes "llvm.mul") (t ∷ s ∷ []) [] (Int bits) onward n made_types (Int bits ∷ Int bits ∷ []) (two_there made_types t s (Int bits) (Int bits) nums_t.0 nums_s.0) free.mul counts λ has c stays.
      f (n + 1) (made_types ++ Int bits ∷ []) (Made n) has c stays

  widened_typed : (b : Source) (onward : Source → Draft) (n : ℕ) (made_types : List PlainType) → item_of types made_types b ≡ Some (Int bits) → length made_types ≡ n
      → ((n' : ℕ) (more_types : List PlainType) (z : Source) (u : PlainType) → item_of types more_types z ≡ Some u → length more_types ≡ n' → StaysTyped table types results made_types more_types → Typed table types results (onward z) n' more_types)
      → Typed table types results (widened (codes "llvm.zext") bits b onward) n made_types
  widened_typed b onward n made_types has counts f = go (bits == 64)
    where
      go : (c : Bool) → Typed table types results (if c then onward b else value (codes "llvm.zext") (b ∷ []) [] (Int 64) onward) n made_types
      go true = f n made_types b (Int bits) has counts (λ s u h. h)
      go false =
          makes_typed (codes "llvm.zext") (b ∷ []) [] (Int 64) onward n made_types (Int bits ∷ []) (ap (λ x. and_item x (Some [])) has) free.zext counts λ has_z c stays.
          f (n + 1) (made_types ++ Int 64 ∷ []) (Made n) (Int 64) has_z c stays

  inserted_typed : (t : PlainType) (k : ℕ) (ss : List Source) (j : ℕ) (m : Source) (onward : Source → Draft) (n : ℕ) (made_types : List PlainType) → item_of types made_types m ≡ Some t → Nums made_types ss → length made_types ≡ n
      → ((n' : ℕ) (more_types : List PlainType) (q : Source) → item_of types more_types q ≡ Some t → length more_types ≡ n' → StaysTyped table types results made_types more_types → Typed table types results (onward q) n' more_types)
      → Typed table types results (inserted k t j ss m onward) n made_types
  inserted_typed t k [] j m onward n made_types has nums counts f = f n made_types m has counts (λ s u h. h)
  inserted_typed t k (s ∷ ss) j m onward n made_types has nums counts f =
      makes_typed (codes "llvm.insertvalue") (m ∷ s ∷ []) (position (pos k ∷ pos j ∷ [])) t (λ u. inserted k t (j + 1) ss u onward) n made_types (t ∷ Int bits ∷ []) (two_there made_types m s t (Int bits) has nums.0) free.insert counts λ has1 c1 stays1.
      inserted_typed t k ss (j + 1) (Made n) onward (n + 1) (made_types ++ t ∷ []) has1 (nums_stay made_types (made_types ++ t ∷ []) stays1 ss nums.1) c1 λ n' more_types q has_q c stays.
      f n' more_types q has_q c (λ s u h. stays s u (stays1 s u h))

  described_typed : (ss ts : List Source) (p : Source) (n : ℕ) (made_types : List PlainType) → results ≡ descriptor bits (length ss) ∷ [] → item_of types made_types p ≡ Some Ptr → Nums made_types ss → Nums made_types ts → length made_types ≡ n
      → Typed table types results (described bits ss ts p) n made_types
  described_typed ss ts p n made_types is has_p nums_s nums_t counts =
      let t : PlainType = descriptor bits (length ss) in
      let number : PlainType = Int bits in
      let last : Source → Draft = λ c. inserted 3 t 0 ss c λ d. inserted 4 t 0 ts d λ m. gives_back (m ∷ []) in
      let third : Source → Source → Draft = λ f b. insert b f (pos 2 ∷ []) t last in
      let second : Source → Source → Draft = λ f a. insert a p (pos 1 ∷ []) t (third f) in
      let first : Source → Source → Draft = λ f u. insert u p (pos 0 ∷ []) t (second f) in
      makes_typed (codes "llvm.mlir.constant") [] (constant_value number (pos 0)) number (λ f. undef t (first f)) n made_types [] refl free.constant counts λ has_f c1 stays1.
      makes_typed (codes "llvm.mlir.undef") [] [] t (first (Made n)) (n + 1) (made_types ++ number ∷ []) [] refl free.undef c1 λ has_u c2 stays2.
      let ts2 : List PlainType = (made_types ++ number ∷ []) ++ t ∷ [] in
      makes_typed (codes "llvm.insertvalue") (Made (n + 1) ∷ p ∷ []) (position (pos 0 ∷ [])) t (second (Made n)) (n + 1 + 1) ts2 (t ∷ Ptr ∷ []) (two_there ts2 (Made (n + 1)) p t Ptr has_u (stays2 p Ptr (stays1 p Ptr has_p))) free.insert c2 λ has_a c3 stays3.
      let ts3 : List PlainType = ts2 ++ t ∷ [] in
      makes_typed (codes "llvm.insertvalue") (Made (n + 1 + 1) ∷ p ∷ []) (position (pos 1 ∷ [])) t (third (Made n)) (n + 1 + 1 + 1) ts3 (t ∷ Ptr ∷ []) (two_there ts3 (Made (n + 1 + 1)) p t Ptr has_a (stays3 p Ptr (stays2 p Ptr (stays1 p Ptr has_p)))) free.insert c3 λ has_b c4 stays4.
      let ts4 : List PlainType = ts3 ++ t ∷ [] in
      makes_typed (codes "llvm.insertvalue") (Made (n + 1 + 1 + 1) ∷ Made n ∷ []) (position (pos 2 ∷ [])) t last (n + 1 + 1 + 1 + 1) ts4 (t ∷ number ∷ [])
      (two_there ts4 (Made (n + 1 + 1 + 1)) (Made n) t number has_b (stays4 (Made n) number (stays3 (Made n) number (stays2 (Made n) number has_f)))) free.insert c4 λ has_c c5 stays5.
      let ts5 : List PlainType = ts4 ++ t ∷ [] in
      let on5 : StaysTyped table types results made_types ts5 = λ s u h. stays5 s u (stays4 s u (stays3 s u (stays2 s u (stays1 s u h)))) in
      inserted_typed t 3 ss 0 (Made (n + 1 + 1 + 1 + 1)) (λ d. inserted 4 t 0 ts d λ m. gives_back (m ∷ [])) (n + 1 + 1 + 1 + 1 + 1) ts5 has_c (nums_stay made_types ts5 on5 ss nums_s) c5 λ n6 ts6 d has_d c6 stays6.
      inserted_typed t 4 ts 0 d (λ m. gives_back (m ∷ [])) n6 ts6 has_d (nums_stay made_types ts6 (λ s u h. stays6 s u (on5 s u h)) ts nums_t) c6 λ n7 ts7 m has_m c7 stays7.
      record { steps = tt; gives = ap (λ l. items_of types l (m ∷ [])) (append_nothing ts7) ∙ ap (λ x. and_item x (Some [])) has_m ∙ sym (ap Some is) }

  pub alloc_typed : (dims : List Dim) (element : PlainType) → DynamicTypes bits types 0 dims → results ≡ descriptor bits (length dims) ∷ [] → Typed table types results (allocated bits (plain_call bits) dims element) 0 []
  alloc_typed dims element there is =
      let number : PlainType = Int bits in
      sizes_typed dims 0 there
      (λ sizes. constant (pos 1) number λ o. strides_of bits o sizes λ strides. elements_of bits o strides sizes λ e. constant (pos (bytes_of (becomes bits element))) number λ w. two (codes "llvm.mul") e w number λ b. plain_call bits b λ p. described bits sizes strides p)
      0 [] refl λ n1 ts1 ss nums1 many c1 stays1.
      let last : Source → List Source → Draft = λ e strides. constant (pos (bytes_of (becomes bits element))) number λ w. two (codes "llvm.mul") e w number λ b. plain_call bits b λ p. described bits ss strides p in
      makes_typed (codes "llvm.mlir.constant") [] (constant_value number (pos 1)) number (λ o. strides_of bits o ss λ strides. elements_of bits o strides ss λ e. last e strides) n1 ts1 [] refl free.constant c1 λ has_o c2 stays2.
      let ts2 : List PlainType = ts1 ++ number ∷ [] in
      let nums2 : Nums ts2 ss = nums_stay ts1 ts2 stays2 ss nums1 in
      strides_typed (Made n1) (n1 + 1) ts2 has_o c2 ss nums2 (λ strides. elements_of bits (Made n1) strides ss λ e. last e strides) λ n3 ts3 rs nums_r c3 stays3.
      let nums3 : Nums ts3 ss = nums_stay ts2 ts3 stays3 ss nums2 in
      elements_typed (Made n1) rs ss n3 ts3 (stays3 (Made n1) number has_o) nums_r nums3 c3 (λ e. last e rs) λ n4 ts4 e has_e c4 stays4.
      let calls : Source → Draft = λ b. plain_call bits b λ p. described bits ss rs p in
      makes_typed (codes "llvm.mlir.constant") [] (constant_value number (pos (bytes_of (becomes bits element)))) number (λ w. two (codes "llvm.mul") e w number calls) n4 ts4 [] refl free.constant c4 λ has_w c5 stays5.
      let ts5 : List PlainType = ts4 ++ number ∷ [] in
      makes_typed (codes "llvm.mul") (e ∷ Made n4 ∷ []) [] number calls (n4 + 1) ts5 (number ∷ number ∷ []) (two_there ts5 e (Made n4) number number (stays5 e number has_e) has_w) free.mul c5 λ has_b c6 stays6.
      let ts6 : List PlainType = ts5 ++ number ∷ [] in
      widened_typed (Made (n4 + 1)) (λ z. value (codes "llvm.call") (z ∷ []) (callee (codes "malloc")) Ptr λ p. described bits ss rs p) (n4 + 1 + 1) ts6 has_b c6 λ n7 ts7 z u has_z c7 stays7.
      makes_typed (codes "llvm.call") (z ∷ []) (callee (codes "malloc")) Ptr (λ p. described bits ss rs p) n7 ts7 (u ∷ []) (ap (λ x. and_item x (Some [])) has_z) free.call c7 λ has_p c8 stays8.
      let ts8 : List PlainType = ts7 ++ Ptr ∷ [] in
      let on8 : StaysTyped table types results ts3 ts8 = λ s u h. stays8 s u (stays7 s u (stays6 s u (stays5 s u (stays4 s u h)))) in
      described_typed ss rs (Made n7) (n7 + 1) ts8 (is ∙ ap (λ n. descriptor bits n ∷ []) (sym many)) has_p (nums_stay ts3 ts8 on8 ss nums3) (nums_stay ts3 ts8 on8 rs nums_r) c8
