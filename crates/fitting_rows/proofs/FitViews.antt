-- What an operation that fits looks like.
use Rattle.std.proofs.Common.{◌≡◌, ℕ, Bool, true, List, [], ◌∷◌, Some, sym, ap, ◌∙◌, subst, length, arith, true≢false}
use Rattle.std.specs.List.{list_all}
use Rattle.std.specs.Str.{bytes_eq}
use Rattle.std.proofs.lemmas.Slice.Eq.{bytes_eq-Decides}
use Rattle.plain_tree.specs.Types.{PlainType, Int}
use Rattle.plain_tree.specs.ValueTypes.{is_value}
use Rattle.plain_tree.specs.Attrs.{Entries}
use Rattle.rule_model.specs.declared.shapes.Shape.{Shape as Form}
use Rattle.rule_model.specs.Rows.{shape_of}
use Rattle.rule_model.specs.Forms.{is_bit, is_number}
use Rattle.rule_model.specs.Types.{as_operand, bit_and, no_types, one_of, two_of}
use Rattle.rule_model.specs.Formed.{is_formed_type}
use Rattle.rule_model.proofs.Numbers.{and_first, and_second, some_same}
use Rattle.conversion_model.specs.Targets.{Shape}
use Rattle.line_rules.specs.Fits.{Fits}
use Rattle.line_rules.proofs.SameTypes.{equal_type}
use Rattle.fitting_rows.proofs.FitShapes.{Good, Num}

-- the form of an operation by its root
pub form_is : (o : Shape) (root : List ℕ) (s : Form) → bytes_eq root o.name ≡ true → shape_of root ≡ Some s → (f : Fits o) → f.form ≡ s
form_is o root s e known f = some_same f.form s (sym f.known ∙ ap shape_of (sym ((bytes_eq-Decides root o.name).0 e)) ∙ known)

-- of two operands and one result of a number type
pub data Binary (P : PlainType → Type 0) : Shape → Type 0 where
  binary : (name : List ℕ) (t : PlainType) (props attrs : Entries) → P t → Binary P (record { name = name; operands = t ∷ t ∷ []; results = t ∷ []; props = props; attrs = attrs; successors = 0; regions = 0 })

abbrev plain_shape : List ℕ → List PlainType → List PlainType → Entries → Entries → ℕ → ℕ → Shape
plain_shape name ops res props attrs succ regs = record { name = name; operands = ops; results = res; props = props; attrs = attrs; successors = succ; regions = regs }

pub view_two : (name : List ℕ) (ops res : List PlainType) (props attrs : Entries) (succ regs : ℕ) → two_of is_number ops ≡ true → as_operand 0 ops res ≡ true → list_all is_formed_type ops ≡ true → succ ≡ 0 → regs ≡ 0
    → Binary Num (plain_shape name ops res props attrs succ regs)
view_two name (t ∷ u ∷ []) (v ∷ []) props attrs succ regs two one formed s r =
    subst (λ n. Binary Num (plain_shape name (t ∷ u ∷ []) (v ∷ []) props attrs n regs)) (sym s)
    (subst (λ n. Binary Num (plain_shape name (t ∷ u ∷ []) (v ∷ []) props attrs 0 n)) (sym r)
    (subst (λ w. Binary Num (plain_shape name (t ∷ w ∷ []) (v ∷ []) props attrs 0 0)) (equal_type t u (and_second (is_number t) _ two))
    (subst (λ w. Binary Num (plain_shape name (t ∷ t ∷ []) (w ∷ []) props attrs 0 0)) (equal_type t v one)
    (binary name t props attrs (record { number = and_first (is_number t) _ two; formed = and_first (is_formed_type t) _ formed })))))
view_two name [] res props attrs succ regs two one formed s r = absurd (true≢false (sym two))
view_two name (t ∷ []) res props attrs succ regs two one formed s r = absurd (true≢false (sym two))
view_two name (t ∷ u ∷ w ∷ ops) res props attrs succ regs two one formed s r = absurd (true≢false (sym two))
view_two name (t ∷ u ∷ []) [] props attrs succ regs two one formed s r = absurd (true≢false (sym one))
view_two name (t ∷ u ∷ []) (v ∷ w ∷ res) props attrs succ regs two one formed s r = absurd (true≢false (sym one))

-- of two operands of a number type, and a bit
pub data Compared : Shape → Type 0 where
  compared : (name : List ℕ) (t : PlainType) (props attrs : Entries) → Num t → Compared (record { name = name; operands = t ∷ t ∷ []; results = Int 1 ∷ []; props = props; attrs = attrs; successors = 0; regions = 0 })

pub view_compared : (name : List ℕ) (ops res : List PlainType) (props attrs : Entries) (succ regs : ℕ) → two_of is_number ops ≡ true → one_of is_bit res ≡ true → list_all is_formed_type ops ≡ true → succ ≡ 0 → regs ≡ 0
    → Compared (plain_shape name ops res props attrs succ regs)
view_compared name (t ∷ u ∷ []) (v ∷ []) props attrs succ regs two one formed s r =
    subst (λ n. Compared (plain_shape name (t ∷ u ∷ []) (v ∷ []) props attrs n regs)) (sym s)
    (subst (λ n. Compared (plain_shape name (t ∷ u ∷ []) (v ∷ []) props attrs 0 n)) (sym r)
    (subst (λ w. Compared (plain_shape name (t ∷ w ∷ []) (v ∷ []) props attrs 0 0)) (equal_type t u (and_second (is_number t) _ two))
    (subst (λ w. Compared (plain_shape name (t ∷ t ∷ []) (w ∷ []) props attrs 0 0)) (sym (equal_type v (Int 1) one))
    (compared name t props attrs (record { number = and_first (is_number t) _ two; formed = and_first (is_formed_type t) _ formed })))))
view_compared name [] res props attrs succ regs two one formed s r = absurd (true≢false (sym two))
view_compared name (t ∷ []) res props attrs succ regs two one formed s r = absurd (true≢false (sym two))
view_compared name (t ∷ u ∷ w ∷ ops) res props attrs succ regs two one formed s r = absurd (true≢false (sym two))
view_compared name (t ∷ u ∷ []) [] props attrs succ regs two one formed s r = absurd (true≢false (sym one))
view_compared name (t ∷ u ∷ []) (v ∷ w ∷ res) props attrs succ regs two one formed s r = absurd (true≢false (sym one))

-- one of two values by a bit
pub data Selected : Shape → Type 0 where
  selected : (name : List ℕ) (t : PlainType) (props attrs : Entries) → Good t → Selected (record { name = name; operands = Int 1 ∷ t ∷ t ∷ []; results = t ∷ []; props = props; attrs = attrs; successors = 0; regions = 0 })

pub view_selected : (name : List ℕ) (ops res : List PlainType) (props attrs : Entries) (succ regs : ℕ) → bit_and (two_of is_value) ops ≡ true → as_operand 1 ops res ≡ true → list_all is_formed_type ops ≡ true → succ ≡ 0 → regs ≡ 0
    → Selected (plain_shape name ops res props attrs succ regs)
view_selected name (c ∷ t ∷ u ∷ []) (v ∷ []) props attrs succ regs all one formed s r =
    let two : two_of is_value (t ∷ u ∷ []) ≡ true = and_second (is_bit c) _ all in
    subst (λ n. Selected (plain_shape name (c ∷ t ∷ u ∷ []) (v ∷ []) props attrs n regs)) (sym s)
    (subst (λ n. Selected (plain_shape name (c ∷ t ∷ u ∷ []) (v ∷ []) props attrs 0 n)) (sym r)
    (subst (λ w. Selected (plain_shape name (w ∷ t ∷ u ∷ []) (v ∷ []) props attrs 0 0)) (sym (equal_type c (Int 1) (and_first (is_bit c) _ all)))
    (subst (λ w. Selected (plain_shape name (Int 1 ∷ t ∷ w ∷ []) (v ∷ []) props attrs 0 0)) (equal_type t u (and_second (is_value t) _ two))
    (subst (λ w. Selected (plain_shape name (Int 1 ∷ t ∷ t ∷ []) (w ∷ []) props attrs 0 0)) (equal_type t v one)
    (selected name t props attrs (record { value = and_first (is_value t) _ two; formed = and_first (is_formed_type t) _ (and_second (is_formed_type c) _ formed) }))))))
view_selected name [] res props attrs succ regs all one formed s r = absurd (true≢false (sym all))
view_selected name (c ∷ []) res props attrs succ regs all one formed s r = absurd (true≢false (sym (and_second (is_bit c) _ all)))
view_selected name (c ∷ t ∷ []) res props attrs succ regs all one formed s r = absurd (true≢false (sym (and_second (is_bit c) _ all)))
view_selected name (c ∷ t ∷ u ∷ w ∷ ops) res props attrs succ regs all one formed s r = absurd (true≢false (sym (and_second (is_bit c) _ all)))
view_selected name (c ∷ t ∷ u ∷ []) [] props attrs succ regs all one formed s r = absurd (true≢false (sym one))
view_selected name (c ∷ t ∷ u ∷ []) (v ∷ w ∷ res) props attrs succ regs all one formed s r = absurd (true≢false (sym one))

-- of one operand and one result that a test holds of
pub data Unary (P : PlainType → PlainType → Type 0) : Shape → Type 0 where
  unary : (name : List ℕ) (t u : PlainType) (props attrs : Entries) → P t u → is_formed_type t ≡ true → is_formed_type u ≡ true → Unary P (record { name = name; operands = t ∷ []; results = u ∷ []; props = props; attrs = attrs; successors = 0; regions = 0 })

abbrev pub Holds : (List PlainType → List PlainType → Bool) → PlainType → PlainType → Type 0
Holds test t u = test (t ∷ []) (u ∷ []) ≡ true

pub view_unary : (test : List PlainType → List PlainType → Bool) (name : List ℕ) (ops res : List PlainType) (props attrs : Entries) (succ regs : ℕ) → length ops ≡ 1 → length res ≡ 1 → test ops res ≡ true → list_all is_formed_type ops ≡ true → list_all is_formed_type res ≡ true → succ ≡ 0 → regs ≡ 0
    → Unary (Holds test) (plain_shape name ops res props attrs succ regs)
view_unary test name (t ∷ []) (u ∷ []) props attrs succ regs one also holds formed too s r =
    subst (λ n. Unary (Holds test) (plain_shape name (t ∷ []) (u ∷ []) props attrs n regs)) (sym s)
    (subst (λ n. Unary (Holds test) (plain_shape name (t ∷ []) (u ∷ []) props attrs 0 n)) (sym r)
    (unary name t u props attrs holds (and_first (is_formed_type t) _ formed) (and_first (is_formed_type u) _ too)))
view_unary test name [] res props attrs succ regs one also holds formed too s r = absurd (omega (arith, one))
view_unary test name (t ∷ u ∷ ops) res props attrs succ regs one also holds formed too s r = absurd (omega (arith, one))
view_unary test name (t ∷ []) [] props attrs succ regs one also holds formed too s r = absurd (omega (arith, also))
view_unary test name (t ∷ []) (u ∷ w ∷ res) props attrs succ regs one also holds formed too s r = absurd (omega (arith, also))

-- a constant
pub data Constant : Shape → Type 0 where
  constant : (name : List ℕ) (t : PlainType) (props attrs : Entries) → Num t → Constant (record { name = name; operands = []; results = t ∷ []; props = props; attrs = attrs; successors = 0; regions = 0 })

pub view_constant : (name : List ℕ) (ops res : List PlainType) (props attrs : Entries) (succ regs : ℕ) → no_types ops ≡ true → one_of is_number res ≡ true → list_all is_formed_type res ≡ true → succ ≡ 0 → regs ≡ 0
    → Constant (plain_shape name ops res props attrs succ regs)
view_constant name [] (t ∷ []) props attrs succ regs none one formed s r =
    subst (λ n. Constant (plain_shape name [] (t ∷ []) props attrs n regs)) (sym s)
    (subst (λ n. Constant (plain_shape name [] (t ∷ []) props attrs 0 n)) (sym r)
    (constant name t props attrs (record { number = one; formed = and_first (is_formed_type t) _ formed })))
view_constant name (t ∷ ops) res props attrs succ regs none one formed s r = absurd (true≢false (sym none))
view_constant name [] [] props attrs succ regs none one formed s r = absurd (true≢false (sym one))
view_constant name [] (t ∷ u ∷ res) props attrs succ regs none one formed s r = absurd (true≢false (sym one))
