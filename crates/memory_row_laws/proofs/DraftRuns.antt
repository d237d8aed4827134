-- Runs of drafts: one operation after another, whatever follows.
use Rattle.std.proofs.Common.{◌≡◌, ℕ, zero, suc, ◌+◌, List, [], ◌∷◌, ◌++◌, length, Some, refl, sym, ap, ◌∙◌, arith}
use Rattle.std.specs.Prelude.{slice_get}
use Rattle.number_model.specs.Answers.{Gives}
use Rattle.operation_model.specs.Values.{Value}
use Rattle.operation_model.specs.Pures.{Pure, gives}
use Rattle.operation_model.specs.Doings.{Doing}
use Rattle.operation_model.specs.Forms.{Form, Computes}
use Rattle.plain_tree.specs.Types.{PlainType}
use Rattle.plain_tree.specs.Attrs.{Entries}
use Rattle.conversion_model.specs.declared.templates.Source.{Source}
use Rattle.conversion_model.specs.declared.templates.Source.TheVariants.{Operand, Made}
use Rattle.pattern_model.specs.Drafts.{Draft, value, effect}
use Rattle.pattern_model.specs.Drafts.{gives as gives_back}
use Rattle.row_laws.proofs.Values.{none_is}
use Rattle.sound_model.specs.Runs.{if_there, item_of, items_of, form_at, steps_run, operation_runs}

-- an element stays where it is when others come behind it
pub stays_there : {A : Type 0} (xs : List A) (y : A) (i : ℕ) (x : A) → slice_get xs i ≡ Some x → slice_get (xs ++ y ∷ []) i ≡ Some x
stays_there [] y i x h = absurd (none_is h)
stays_there (z ∷ xs) y zero x h = h
stays_there (z ∷ xs) y (suc i) x h = stays_there xs y i x h

pub last_there : {A : Type 0} (xs : List A) (y : A) (n : ℕ) → length xs ≡ n → slice_get (xs ++ y ∷ []) n ≡ Some y
last_there [] y n h = ap (slice_get (y ∷ [])) (sym h)
last_there (x ∷ xs) y zero h = absurd (omega (arith, h))
last_there (x ∷ xs) y (suc n) h = last_there xs y n (omega (arith, h))

longer : {A : Type 0} (xs : List A) (y : A) → length (xs ++ y ∷ []) ≡ length xs + 1
longer [] y = refl
longer (x ∷ xs) y = omega (arith, longer xs y)

pub one_longer : {A : Type 0} (xs : List A) (y : A) (n : ℕ) → length xs ≡ n → length (xs ++ y ∷ []) ≡ n + 1
one_longer xs y n h = longer xs y ∙ ap (λ n. n + 1) h

-- the run of a draft behind values that were made, with what follows the results
module _ (bits : ℕ) (operand_types : List PlainType) (args : List Value) (labels : List ℕ) (next : List Value → Doing) where
  abbrev pub goes : Draft → ℕ → List PlainType → List Value → Doing
  goes d n made_types made = steps_run bits operand_types args labels (d n).steps made_types made (λ all. if_there (items_of args all (d n).results) next)

  -- what a source is: its type and its value
  pub record Has (made_types : List PlainType) (made : List Value) (s : Source) (t : PlainType) (v : Value) : Type 0 where
    pub type : item_of operand_types made_types s ≡ Some t
    pub value : item_of args made s ≡ Some v

  -- as many values as types were made
  pub record Counts (n : ℕ) (made_types : List PlainType) (made : List Value) : Type 0 where
    pub types : length made_types ≡ n
    pub values : length made ≡ n

  pub counts_on : {n : ℕ} {made_types : List PlainType} {made : List Value} (t : PlainType) (y : Value) → Counts n made_types made → Counts (n + 1) (made_types ++ t ∷ []) (made ++ y ∷ [])
  counts_on t y c = record { types = one_longer _ t _ c.types; values = one_longer _ y _ c.values }

  pub has_new : {n : ℕ} {made_types : List PlainType} {made : List Value} (t : PlainType) (y : Value) → Counts n made_types made → Has (made_types ++ t ∷ []) (made ++ y ∷ []) (Made n) t y
  has_new t y c = record { type = last_there _ t _ c.types; value = last_there _ y _ c.values }

  pub has_on : {made_types : List PlainType} {made : List Value} {s : Source} {u : PlainType} {v : Value} (t : PlainType) (y : Value) → Has made_types made s u v → Has (made_types ++ t ∷ []) (made ++ y ∷ []) s u v
  has_on {s = Operand k} t y h = record { type = h.type; value = h.value }
  has_on {s = Made k} t y h = record { type = stays_there _ t k _ h.type; value = stays_there _ y k _ h.value }

  -- one operation that computes
  pub value_goes : (name : List ℕ) (sources : List Source) (props : Entries) (t : PlainType) (k : Source → Draft) (n : ℕ) (made_types : List PlainType) (made : List Value) (ts : List PlainType) (vs : List Value) (p : Pure) (y : Value)
      → items_of operand_types made_types sources ≡ Some ts → items_of args made sources ≡ Some vs → form_at bits name props ts (t ∷ []) ≡ Computes p → gives p vs ≡ Gives (y ∷ [])
      → goes (value name sources props t k) n made_types made ≡ goes (k (Made n)) (n + 1) (made_types ++ t ∷ []) (made ++ y ∷ [])
  value_goes name sources props t k n made_types made ts vs p y e f g h = rw (e, f, g, h) refl

  -- any operation that makes one value
  pub op_goes : (name : List ℕ) (sources : List Source) (props : Entries) (t : PlainType) (k : Source → Draft) (n : ℕ) (made_types : List PlainType) (made : List Value) (ts : List PlainType) (vs : List Value) (form : Form)
      → items_of operand_types made_types sources ≡ Some ts → items_of args made sources ≡ Some vs → form_at bits name props ts (t ∷ []) ≡ form
      → goes (value name sources props t k) n made_types made
      ≡ operation_runs form (t ∷ []) [] vs (λ ys. steps_run bits operand_types args labels (k (Made n) (n + 1)).steps (made_types ++ t ∷ []) (made ++ ys) (λ all. if_there (items_of args all (k (Made n) (n + 1)).results) next))
  op_goes name sources props t k n made_types made ts vs form e f g = rw (e, f, g) refl

  -- an operation that makes none and is the last
  pub effect_goes : (name : List ℕ) (sources : List Source) (props : Entries) (n : ℕ) (made_types : List PlainType) (made : List Value) (ts : List PlainType) (vs : List Value) (form : Form)
      → items_of operand_types made_types sources ≡ Some ts → items_of args made sources ≡ Some vs → form_at bits name props ts [] ≡ form
      → goes (effect name sources props [] (gives_back [])) n made_types made ≡ operation_runs form [] [] vs (λ ys. next [])
  effect_goes name sources props n made_types made ts vs form e f g = rw (e, f, g) refl
