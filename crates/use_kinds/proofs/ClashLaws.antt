-- Clashes of uses, one event more.
use Rattle.std.proofs.Common.{◌≡◌, ℕ, zero, suc, ◌+◌, ◌≤◌, ◌<◌, Bool, true, false, List, [], ◌∷◌, length, drop, get_or, Option, Some, None, refl, sym, ◌∙◌, ap, arith}
use Rattle.std.specs.Prelude.{nat_le, if◌then◌else◌}
use Rattle.std.proofs.lemmas.List.{drop_more, drop_all}
use Rattle.text_events.specs.declared.event.Event.{Event}
use Rattle.term_table.specs.declared.node.Node.{Node}
use Rattle.term_table.specs.Terms.{Term, nothing}
use Rattle.text_types.specs.Spelling.{Spelling}
use Rattle.text_types.specs.Items.{Aliases}
use Rattle.text_kinds.specs.declared.found.Found.{Found}
use Rattle.text_kinds.specs.declared.found.Kind.{Kind}
use Rattle.text_kinds.specs.declared.found.Kind.TheVariants as kinds
use Rattle.text_kinds.specs.Kinds.{least_from, sooner}
use Rattle.use_kinds.specs.declared.rows.Row.{Row}
use Rattle.use_kinds.specs.Same.{same_term}
use Rattle.use_kinds.specs.Written.{count_of}
use Rattle.use_kinds.specs.Clashes.{Named, named, later, fault_of, clash_of, clashes_from, index_of, is_use, next_of, place_from}
use Rattle.use_kinds.specs.Flat.{rows_types, Says}

abbrev faults : ℕ → ℕ → Term → Term → Option Kind
faults count index t u = if nat_le count index then Some kinds.ResultIndex else if same_term t u then None else Some kinds.UseType

same_faults : (count count' index index' : ℕ) (t t' u u' : Term) → count ≡ count' → index ≡ index' → t ≡ t' → u ≡ u' → faults count index t u ≡ faults count' index' t' u'
same_faults count count' index index' t t' u u' a b e f = rw (a, b, e, f) refl

module _ (words : Spelling) (indexes : ℕ → ℕ) (aliases : Aliases) (nodes : List Node) (es : List Event) (numbers signatures items : List ℕ) (rows : List Row)
    (says : Says words aliases nodes es numbers signatures items rows) where
  abbrev here : ℕ → Named
  here = named words indexes aliases es

  types_are : (event : ℕ) → get_or (rows_types nodes items rows) event [] ≡ (here event).types
  types_are event = ap (λ ts. get_or ts event []) says.types

  pub clash_is : (used defined count index : ℕ) (t u : Term) (one other : Option ℕ) (fault : Option Kind) (o : Option Found) → o ≡ later one other fault
      → one ≡ place_from words indexes aliases es (drop used es) → other ≡ place_from words indexes aliases es (drop defined es)
      → count ≡ count_of words (drop (defined + 1) es) → index ≡ index_of indexes (drop (used + 1) es)
      → t ≡ get_or (get_or (rows_types nodes items rows) used []) 0 nothing → u ≡ get_or (get_or (rows_types nodes items rows) defined []) index nothing
      → fault ≡ faults count index t u → o ≡ clash_of (here used) (here defined)
  clash_is used defined count index t u one other fault o is a b e f g h k =
      let type : u ≡ get_or (here defined).types (here used).index nothing = h ∙ ap (λ ts. get_or ts index nothing) (types_are defined) ∙ ap (λ n. get_or (here defined).types n nothing) f in
      let first : t ≡ get_or (here used).types 0 nothing = g ∙ ap (λ ts. get_or ts 0 nothing) (types_are used) in
      is ∙ ap (λ p. later p other fault) a ∙ ap (λ p. later (here used).place p fault) b
      ∙ ap (later (here used).place (here defined).place) (k ∙ same_faults count (here defined).count index (here used).index t _ u _ e f first type)

-- beyond the text nothing is named
pub none_used : (words : Spelling) (indexes : ℕ → ℕ) (aliases : Aliases) (es : List Event) (used defined : ℕ) → length es ≤ used
    → None ≡ clash_of (named words indexes aliases es used) (named words indexes aliases es defined)
none_used words indexes aliases es used defined past =
    sym (ap (λ p. later p (named words indexes aliases es defined).place (fault_of (named words indexes aliases es used) (named words indexes aliases es defined)))
    (ap (place_from words indexes aliases es) (drop_all used es past)))

later_none : (o : Option ℕ) (kind : Option Kind) → None ≡ later o None kind
later_none None kind = refl
later_none (Some n) kind = refl

pub none_defined : (words : Spelling) (indexes : ℕ → ℕ) (aliases : Aliases) (es : List Event) (used defined : ℕ) → length es ≤ defined
    → None ≡ clash_of (named words indexes aliases es used) (named words indexes aliases es defined)
none_defined words indexes aliases es used defined past =
    later_none (named words indexes aliases es used).place (fault_of (named words indexes aliases es used) (named words indexes aliases es defined))
    ∙ sym (ap (λ p. later (named words indexes aliases es used).place p (fault_of (named words indexes aliases es used) (named words indexes aliases es defined)))
    (ap (place_from words indexes aliases es) (drop_all defined es past)))

-- One event more

no_defs : (n : ℕ) → drop {A = Option ℕ} n [] ≡ []
no_defs zero = refl
no_defs (suc n) = refl

next_defs : (xs : List (Option ℕ)) (k : ℕ) → drop 1 (drop k xs) ≡ drop (k + 1) xs
next_defs [] k = ap (drop 1) (no_defs k) ∙ sym (no_defs (k + 1))
next_defs (x ∷ xs) zero = refl
next_defs (x ∷ xs) (suc k) = let s : suc k + 1 ≡ suc (k + 1) = omega arith in next_defs xs k ∙ ap (λ n. drop n (x ∷ xs)) (sym s)

module _ (clash : ℕ → Option ℕ → Option Found) (es : List Event) (defs : List (Option ℕ)) (i next : ℕ) (d : Event) (first : Option Found) (whole : Option Found) (within : i < length es)
    (so_far : least_from first (clashes_from clash i (drop i es) (drop next defs)) ≡ whole) where
  rest : drop i es ≡ get_or es i d ∷ drop (i + 1) es
  rest = drop_more es i d within

  use_case : (b : Bool) → b ≡ true
      → least_from first (if b then clash i (next_of (drop next defs)) ∷ clashes_from clash (suc i) (drop (i + 1) es) (drop 1 (drop next defs)) else clashes_from clash (suc i) (drop (i + 1) es) (drop next defs))
      ≡ least_from (sooner first (clash i (next_of (drop next defs)))) (clashes_from clash (suc i) (drop (i + 1) es) (drop 1 (drop next defs)))
  use_case true e = refl
  use_case false e = absurd cc

  other_case : (b : Bool) → b ≡ false
      → least_from first (if b then clash i (next_of (drop next defs)) ∷ clashes_from clash (suc i) (drop (i + 1) es) (drop 1 (drop next defs)) else clashes_from clash (suc i) (drop (i + 1) es) (drop next defs))
      ≡ least_from first (clashes_from clash (suc i) (drop (i + 1) es) (drop next defs))
  other_case true e = absurd cc
  other_case false e = refl

  opened : least_from first (clashes_from clash i (get_or es i d ∷ drop (i + 1) es) (drop next defs)) ≡ whole
  opened = ap (λ xs. least_from first (clashes_from clash i xs (drop next defs))) (sym rest) ∙ so_far

  pub use_step : (now : Option Found) → is_use (get_or es i d).place ≡ true → now ≡ sooner first (clash i (next_of (drop next defs)))
      → least_from now (clashes_from clash (i + 1) (drop (i + 1) es) (drop (next + 1) defs)) ≡ whole
  use_step now used is =
      let s : i + 1 ≡ suc i = omega arith in
      ap (λ o. least_from o (clashes_from clash (i + 1) (drop (i + 1) es) (drop (next + 1) defs))) is
      ∙ ap (λ n. least_from (sooner first (clash i (next_of (drop next defs)))) (clashes_from clash n (drop (i + 1) es) (drop (next + 1) defs))) s
      ∙ ap (λ xs. least_from (sooner first (clash i (next_of (drop next defs)))) (clashes_from clash (suc i) (drop (i + 1) es) xs)) (sym (next_defs defs next))
      ∙ sym (use_case (is_use (get_or es i d).place) used) ∙ opened

  pub other_step : is_use (get_or es i d).place ≡ false → least_from first (clashes_from clash (i + 1) (drop (i + 1) es) (drop next defs)) ≡ whole
  other_step none =
      let s : i + 1 ≡ suc i = omega arith in
      ap (λ n. least_from first (clashes_from clash n (drop (i + 1) es) (drop next defs))) s ∙ sym (other_case (is_use (get_or es i d).place) none) ∙ opened
