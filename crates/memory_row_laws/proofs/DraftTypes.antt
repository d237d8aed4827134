-- The types of drafts: what their operations take, and of which types their results are.
use Rattle.std.proofs.Common.{◌≡◌, ℕ, ◌+◌, List, [], ◌∷◌, ◌++◌, length, Some, Bool, true, false, refl, sym, ap, ap₂, ◌∙◌, true≢false}
use Rattle.std.specs.Prelude.{codes, pos, negsuc, slice_get, ◌==◌, if◌then◌else◌}
use Rattle.tree_model.specs.declared.type_tree.Dim.{Dim}
use Rattle.plain_tree.specs.Types.{PlainType, Int, Ptr}
use Rattle.plain_tree.specs.Attrs.{Entries, OfType, Numbers}
use Rattle.conversion_model.specs.Types.{becomes}
use Rattle.pattern_model.specs.MemrefRows.{extract, two, offset_of, place_of, position, widened}
use Rattle.conversion_model.specs.declared.templates.Source.{Source}
use Rattle.conversion_model.specs.declared.templates.Source.TheVariants.{Operand, Made}
use Rattle.conversion_model.specs.Rows.{Pattern}
use Rattle.pattern_model.specs.Drafts.{Draft, value, effect}
use Rattle.pattern_model.specs.Drafts.{gives as gives_back}
use Rattle.sound_model.specs.Runs.{item_of, and_item, items_of, types_made}
use Rattle.sound_model.specs.Soundness.{is_root, StepsFit}
use Rattle.memory_row_laws.proofs.DraftRuns.{stays_there, last_there, one_longer}

pub append_on : {A : Type 0} (xs : List A) (y : A) (zs : List A) → (xs ++ y ∷ []) ++ zs ≡ xs ++ y ∷ zs
append_on [] y zs = refl
append_on (x ∷ xs) y zs = ap (λ l. x ∷ l) (append_on xs y zs)

pub append_nothing : {A : Type 0} (xs : List A) → xs ++ [] ≡ xs
append_nothing [] = refl
append_nothing (x ∷ xs) = ap (λ l. x ∷ l) (append_nothing xs)

-- the operands from the k-th on are integers of so many bits, one for each dimension
abbrev pub IndexTypes : ℕ → List PlainType → ℕ → List Dim → Type 0
IndexTypes bits operand_types k [] = Unit {0}
IndexTypes bits operand_types k (d ∷ dims) = (slice_get operand_types k ≡ Some (Int bits)) × IndexTypes bits operand_types (k + 1) dims

module _ (table : List Pattern) (operand_types results : List PlainType) where
  -- each operation of a draft takes what is there and is no root, and its results have these types
  pub record Typed (d : Draft) (n : ℕ) (made_types : List PlainType) : Type 0 where
    pub steps : StepsFit table operand_types (d n).steps made_types
    pub gives : items_of operand_types (made_types ++ types_made (d n).steps) (d n).results ≡ Some results

  pub value_typed : (name : List ℕ) (sources : List Source) (props : Entries) (t : PlainType) (k : Source → Draft) (n : ℕ) (made_types ts : List PlainType)
      → items_of operand_types made_types sources ≡ Some ts → is_root table name ≡ false → Typed (k (Made n)) (n + 1) (made_types ++ t ∷ []) → Typed (value name sources props t k) n made_types
  value_typed name sources props t k n made_types ts taken no_root rest = record {
    steps = ((ts, taken, λ root. absurd (true≢false (sym root ∙ no_root))), rest.steps);
    gives = ap (λ l. items_of operand_types l (k (Made n) (n + 1)).results) (sym (append_on made_types t (types_made (k (Made n) (n + 1)).steps))) ∙ rest.gives;
  }

  -- an operation that makes none and is the last
  pub effect_typed : (name : List ℕ) (sources : List Source) (props : Entries) (n : ℕ) (made_types ts : List PlainType)
      → items_of operand_types made_types sources ≡ Some ts → is_root table name ≡ false → results ≡ [] → Typed (effect name sources props [] (gives_back [])) n made_types
  effect_typed name sources props n made_types ts taken no_root none = record {
    steps = ((ts, taken, λ root. absurd (true≢false (sym root ∙ no_root))), tt);
    gives = sym (ap Some none);
  }

  -- the value that was made last is the result
  pub last_typed : (n : ℕ) (made_types : List PlainType) (t : PlainType) → length made_types ≡ n → results ≡ t ∷ [] → Typed (gives_back (Made n ∷ [])) (n + 1) (made_types ++ t ∷ [])
  last_typed n made_types t counts is = record {
    steps = tt;
    gives = ap (λ l. items_of operand_types l (Made n ∷ [])) (append_nothing (made_types ++ t ∷ [])) ∙ ap (λ x. and_item x (Some [])) (last_there made_types t n counts) ∙ sym (ap Some is);
  }

  -- what stays there
  pub type_on : (made_types : List PlainType) (s : Source) (u t : PlainType) → item_of operand_types made_types s ≡ Some u → item_of operand_types (made_types ++ t ∷ []) s ≡ Some u
  type_on made_types (Operand k) u t h = h
  type_on made_types (Made k) u t h = stays_there made_types t k u h

  two_taken : (made_types : List PlainType) (s r : Source) (t u : PlainType) → item_of operand_types made_types s ≡ Some t → item_of operand_types made_types r ≡ Some u → items_of operand_types made_types (s ∷ r ∷ []) ≡ Some (t ∷ u ∷ [])
  two_taken made_types s r t u h k = ap₂ (λ x y. and_item x (and_item y (Some []))) h k

  one_taken : (made_types : List PlainType) (s : Source) (t : PlainType) → item_of operand_types made_types s ≡ Some t → items_of operand_types made_types (s ∷ []) ≡ Some (t ∷ [])
  one_taken made_types s t h = ap (λ x. and_item x (Some [])) h

  -- how a draft goes on: what is there stays there
  abbrev pub StaysTyped : List PlainType → List PlainType → Type 0
  StaysTyped made_types more_types = (s : Source) (t : PlainType) → item_of operand_types made_types s ≡ Some t → item_of operand_types more_types s ≡ Some t

  module _ (bits : ℕ) (m : Source) (t : PlainType) (no_extract : is_root table (codes "llvm.extractvalue") ≡ false) (no_mul : is_root table (codes "llvm.mul") ≡ false) (no_add : is_root table (codes "llvm.add") ≡ false) where
    offset_typed : (dims : List Dim) (k i : ℕ) → IndexTypes bits operand_types k dims → (onward : Source → Draft) (n : ℕ) (made_types : List PlainType) (a : Source) → length made_types ≡ n
        → item_of operand_types made_types a ≡ Some (Int bits) → item_of operand_types made_types m ≡ Some t
        → ((n' : ℕ) (more_types : List PlainType) (b : Source) → length more_types ≡ n' → item_of operand_types more_types b ≡ Some (Int bits) → StaysTyped made_types more_types → Typed (onward b) n' more_types)
        → Typed (offset_of bits m k i dims a onward) n made_types
    offset_typed [] k i indices onward n made_types a counts has_a has_m rest = rest n made_types a counts has_a (λ s u h. h)
    offset_typed (d ∷ dims) k i indices onward n made_types a counts has_a has_m rest =
        let number : PlainType = Int bits in
        let ts1 : List PlainType = made_types ++ number ∷ [] in
        let ts2 : List PlainType = ts1 ++ number ∷ [] in
        let ts3 : List PlainType = ts2 ++ number ∷ [] in
        let c1 : length ts1 ≡ n + 1 = one_longer made_types number n counts in
        let c2 : length ts2 ≡ n + 1 + 1 = one_longer ts1 number (n + 1) c1 in
        let last : Source → Draft = λ b. offset_of bits m (k + 1) (i + 1) dims b onward in
        let add : Source → Draft = λ x. two (codes "llvm.add") a x number last in
        let multiply : Source → Draft = λ s. two (codes "llvm.mul") (Operand k) s number add in
        let stays : StaysTyped made_types ts3 = λ s u h. type_on ts2 s u number (type_on ts1 s u number (type_on made_types s u number h)) in
        value_typed (codes "llvm.extractvalue") (m ∷ []) (position (pos 4 ∷ pos i ∷ [])) number multiply n made_types (t ∷ []) (one_taken made_types m t has_m) no_extract
        (value_typed (codes "llvm.mul") (Operand k ∷ Made n ∷ []) [] number add (n + 1) ts1 (number ∷ number ∷ []) (two_taken ts1 (Operand k) (Made n) number number indices.0 (last_there made_types number n counts)) no_mul
        (value_typed (codes "llvm.add") (a ∷ Made (n + 1) ∷ []) [] number last (n + 1 + 1) ts2 (number ∷ number ∷ [])
        (two_taken ts2 a (Made (n + 1)) number number (type_on ts1 a number number (type_on made_types a number number has_a)) (last_there ts1 number (n + 1) c1)) no_add
        (offset_typed dims (k + 1) (i + 1) indices.1 onward (n + 1 + 1 + 1) ts3 (Made (n + 1 + 1)) (one_longer ts2 number (n + 1 + 1) c2) (last_there ts2 number (n + 1 + 1) c2) (stays m t has_m)
        λ n' more_types b count has_b behind. rest n' more_types b count has_b (λ s u h. behind s u (stays s u h)))))

    widened_typed : (name : List ℕ) → is_root table name ≡ false → (onward : Source → Draft) (n : ℕ) (made_types : List PlainType) (b : Source) (u : PlainType) → length made_types ≡ n → item_of operand_types made_types b ≡ Some u
        → ((n' : ℕ) (more_types : List PlainType) (s : Source) (v : PlainType) → length more_types ≡ n' → item_of operand_types more_types s ≡ Some v → StaysTyped made_types more_types → Typed (onward s) n' more_types)
        → Typed (widened name bits b onward) n made_types
    widened_typed name no_root onward n made_types b u counts has_b rest = go (bits == 64)
      where
        go : (c : Bool) → Typed (if c then onward b else value name (b ∷ []) [] (Int 64) onward) n made_types
        go true = rest n made_types b u counts has_b (λ s u h. h)
        go false =
            value_typed name (b ∷ []) [] (Int 64) onward n made_types (u ∷ []) (one_taken made_types b u has_b) no_root
            (rest (n + 1) (made_types ++ Int 64 ∷ []) (Made n) (Int 64) (one_longer made_types (Int 64) n counts) (last_there made_types (Int 64) n counts) (λ s v h. type_on made_types s v (Int 64) h))

    pub place_typed : is_root table (codes "llvm.sext") ≡ false → is_root table (codes "llvm.getelementptr") ≡ false → (k : ℕ) (dims : List Dim) (element : PlainType) → IndexTypes bits operand_types k dims → (onward : Source → Draft) (n : ℕ) (made_types : List PlainType)
        → length made_types ≡ n → item_of operand_types made_types m ≡ Some t
        → ((n' : ℕ) (more_types : List PlainType) (s : Source) → length more_types ≡ n' → item_of operand_types more_types s ≡ Some Ptr → StaysTyped made_types more_types → Typed (onward s) n' more_types)
        → Typed (place_of bits m k dims element onward) n made_types
    place_typed no_sext no_move k dims element indices onward n made_types counts has_m rest =
        let number : PlainType = Int bits in
        let es : Entries = (codes "elem_type", OfType (becomes bits element)) ∷ (codes "rawConstantIndices", Numbers 32 (negsuc 2147483647 ∷ [])) ∷ [] in
        let moves : Source → Source → Draft = λ q s. value (codes "llvm.getelementptr") (q ∷ s ∷ []) es Ptr onward in
        let widens : Source → Source → Draft = λ q b. widened (codes "llvm.sext") bits b (moves q) in
        let offsets : Source → Source → Draft = λ q a. offset_of bits m k 0 dims a (widens q) in
        let reads : Source → Draft = λ q. extract m (pos 2 ∷ []) number (offsets q) in
        let ts1 : List PlainType = made_types ++ Ptr ∷ [] in
        let ts2 : List PlainType = ts1 ++ number ∷ [] in
        let c1 : length ts1 ≡ n + 1 = one_longer made_types Ptr n counts in
        let c2 : length ts2 ≡ n + 1 + 1 = one_longer ts1 number (n + 1) c1 in
        let stays : StaysTyped made_types ts2 = λ s u h. type_on ts1 s u number (type_on made_types s u Ptr h) in
        value_typed (codes "llvm.extractvalue") (m ∷ []) (position (pos 1 ∷ [])) Ptr reads n made_types (t ∷ []) (one_taken made_types m t has_m) no_extract
        (value_typed (codes "llvm.extractvalue") (m ∷ []) (position (pos 2 ∷ [])) number (offsets (Made n)) (n + 1) ts1 (t ∷ []) (one_taken ts1 m t (type_on made_types m t Ptr has_m)) no_extract
        (offset_typed dims k 0 indices (widens (Made n)) (n + 1 + 1) ts2 (Made (n + 1)) c2 (last_there ts1 number (n + 1) c1) (stays m t has_m)
        λ n3 ts3 b c3 has_b behind3. widened_typed (codes "llvm.sext") no_sext (moves (Made n)) n3 ts3 b number c3 has_b
        λ n4 ts4 s v c4 has_s behind4.
        value_typed (codes "llvm.getelementptr") (Made n ∷ s ∷ []) es Ptr onward n4 ts4 (Ptr ∷ v ∷ [])
        (two_taken ts4 (Made n) s Ptr v (behind4 (Made n) Ptr (behind3 (Made n) Ptr (type_on ts1 (Made n) Ptr number (last_there made_types Ptr n counts)))) has_s) no_move
        (rest (n4 + 1) (ts4 ++ Ptr ∷ []) (Made n4) (one_longer ts4 Ptr n4 c4) (last_there ts4 Ptr n4 c4) (λ r u h. type_on ts4 r u Ptr (behind4 r u (behind3 r u (stays r u h)))))))
